-- What plain evaluation is, in the subject's words, for every list that is taken.
use Rattle.std.specs.Prelude.{◌≡◌, ℕ, ◌<◌, Bool, true, false, ◌&&◌, ◌⊎◌, List, map, length, Ok, ◌==◌, slice_index}
use Rattle.algebra.specs.Quotient.{Shape, Element}
use Rattle.curve.specs.Curve.{listed, word}
use Rattle.curve.specs.declared.refusal.Refusal.{Refusal}
use Rattle.curve.specs.declared.refusal.Refusal.TheVariants.{Length, Memory}
use Rattle.ring.specs.Model.{ring, degree}
use Rattle.ring.specs.declared.Ring.{Ghosts}
use Rattle.encoding.specs.Encodings.{Enc}
use Rattle.encoding.specs.Layouts.{positions}
use Rattle.encoding.specs.declared.layout.Layout.{Layout}
use Rattle.circuit.specs.Gates.{setting, layout_at}
use Rattle.circuit.specs.Lists.{list_checked}
use Rattle.rules.specs.Clear.{clear}
use Rattle.rules.specs.Elements.{value, known}
use Rattle.rules.specs.Plain.{Feed, plain, Evaluates}

abbrev pub feed : (s : Shape) → (ℕ → Enc) → List ℕ → (ℕ → Element s) → Feed
feed s method constants input = record { shape = s; method = method; constant = λ c. slice_index constants c; input = λ i. (input i).0 }

-- There is one and only one choice of lanes for all gates that satisfies every gate's rule: plain evaluation. It gives a
-- gate one number below q for each lane of its layout, and the gate's value has these lanes in that layout.
pub record Plainly (s : Shape) (method : ℕ → Enc) (constants : List ℕ) (input : ℕ → Element s) (codes : List ℕ) (layouts : List Layout) : Type 0 where
  pub holds : Evaluates (feed s method constants input) codes layouts (plain (feed s method constants input) codes layouts)
  pub only : (v : ℕ → List ℕ) → Evaluates (feed s method constants input) codes layouts v → (g : ℕ) → g < length codes → v g ≡ plain (feed s method constants input) codes layouts g
  pub one_each : (g : ℕ) → g < length codes → length (plain (feed s method constants input) codes layouts g) ≡ length (positions (layout_at layouts g) (degree s))
  pub below : (g : ℕ) → g < length codes → (l : ℕ) → slice_index (plain (feed s method constants input) codes layouts g) l < s.q
  pub valued : (g : ℕ) → g < length codes → clear s method constants input codes layouts g ≡ value s (layout_at layouts g) (plain (feed s method constants input) codes layouts g)

-- of every list that is taken, for any constants and any inputs
abbrev pub EvaluationIsPlain : (ℕ → Enc) → Shape → Type 0
EvaluationIsPlain method s =
    (constants : List ℕ) (inputs : ℕ) (input : ℕ → Element s) (codes : List ℕ) (layouts : List Layout)
    → list_checked (setting (degree s) inputs (length constants) method) codes ≡ Ok layouts
    → Plainly s method constants input codes layouts

-- what a method keeps of a sum is the sum of what it keeps
abbrev pub KeptAdds : (ℕ → Enc) → Shape → Type 0
KeptAdds method s =
    (constants : List ℕ) (m : ℕ) → m < 3 → (x y : Element s)
    → (known s method constants).pick m ((ring s).◌⊕◌ x y) ≡ (ring s).◌⊕◌ ((known s method constants).pick m x) ((known s method constants).pick m y)

-- The answer to an evaluation of a list for so many inputs and constants: every gate's value, of which the above holds if
-- the list was taken for this ring and these methods; or length, if there are not as many; or want of memory.
module _ {R C : Type 0} (G : Ghosts R C) (method : ℕ → Enc) (codes : List ℕ) (layouts : List Layout) (inputs constants : ℕ) (constant-list : List ℕ) (input-list : List R) where
  abbrev pub counts_fit : Bool
  counts_fit = length constant-list == constants && length input-list == inputs

  pub record ValuesAre (values : List R) : Type 0 where
    pub fit : counts_fit ≡ true
    pub each : map G.element values ≡ listed (length codes) (clear G.shape method constant-list (word G input-list) codes layouts)
    pub plainly : list_checked (setting (degree G.shape) inputs constants method) codes ≡ Ok layouts → Plainly G.shape method constant-list (word G input-list) codes layouts

  abbrev pub EvaluationRefused : Refusal → Type 0
  EvaluationRefused e = ((e ≡ Length) × (counts_fit ≡ false)) ⊎ ((e ≡ Memory) × (counts_fit ≡ true))
