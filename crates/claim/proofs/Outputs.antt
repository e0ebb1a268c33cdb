-- What outputs share has the lanes of plain evaluation.
use Rattle.std.proofs.Common.{◌≡◌, ℕ, zero, suc, ◌%◌, ◌<◌, ◌≤◌, Bool, true, false, cond, eqb, List, [], ◌∷◌, map, length, get_or, sym, refl, ap, ◌∙◌, subst, ap₂, mod-eq_of_lt, arith}
use lib.ListN.{length-map}
use Rattle.std.proofs.lemmas.Bool.{lt-ltb}
use Rattle.algebra.specs.Quotient.{Shape, Element, modulo, add}
use Rattle.ring.specs.Model.{ring, degree}
use Rattle.ring.specs.declared.Ring.{Ghosts}
use Rattle.curve.specs.Curve.{El}
use Rattle.encoding.specs.Encodings.{Enc, Sound}
use Rattle.encoding.specs.Layouts.{positions, read_at}
use Rattle.encoding.specs.declared.layout.Layout.{Layout}
use Rattle.encoding.specs.Sound.{off, lanes_come_back}
use Rattle.circuit.specs.Gates.{setting, layout_at}
use Rattle.circuit.specs.Kinds.{Gate, In, Add, Sub, Scale, Offset, Place, Mul, Out, gate_at}
use Rattle.circuit.specs.Openings.{products, outputs, opening_by, gate_opened}
use Rattle.circuit.specs.Wellformed.{Fits}
use Rattle.circuit.specs.declared.openings.Opening.{Opening}
use Rattle.circuit.specs.declared.openings.Opening.TheVariants.{Product, Output}
use Rattle.circuit.proofs.Wellformed.{taken_lists_fit}
use Rattle.rules.specs.Clear.{seen, clear_gate, clear_before}
use Rattle.rules.specs.Elements.{value, picked, known}
use Rattle.rules.specs.Plain.{plain}
use Rattle.rules.specs.Rules.{Parts, word, after}
use Rattle.rules.specs.Theorems.{feed, Plainly}
use Rattle.rules.proofs.Evaluation.{stays, evaluation_is_plain}
use Rattle.rules.proofs.Lanes.{Low, sum_at, sums}
use Rattle.protocol.specs.Clear.{clear as cleared, Paired}
use Rattle.protocol.specs.Runs.{value_of, value_opened}
use Rattle.protocol.proofs.Clear.{values_clear}
use Rattle.protocol.proofs.Gates.{openings_numbered}
use Rattle.node.specs.Openings.{InLayout}
use Rattle.claim.specs.Bench.{Setup, opening, opening_count, table, task}
use Rattle.claim.specs.Steps.{output_place}
use Rattle.claim.specs.Claim.{Premises}

-- an opening of an output
abbrev pub IsOutput : Opening → Type 0
IsOutput (Product g j) = ⊥
IsOutput (Output g o) = Unit {0}

-- the place of an output has an output
pub output_there : (os : List Opening) (o : ℕ) (d : Opening) → output_place os o < length os → IsOutput (get_or os (output_place os o) d)
output_there [] o d less = let z : ⊥ = omega arith in absurd z
output_there (Product g j ∷ os) o d less = let under : output_place os o < length os = omega arith in output_there os o d under
output_there (Output g k ∷ os) o d less =
    elim (eqb k o) as (λ b. cond b 0 (suc (output_place os o)) < suc (length os) → IsOutput (get_or (Output g k ∷ os) (cond b 0 (suc (output_place os o))) d)) [
      | true ↦ λ _. tt
      | false ↦ λ l. let under : output_place os o < length os = omega arith in output_there os o d under
    ] less

-- its gate puts out another
out_gate : (o : Opening) (g j m : ℕ) (gate : Gate) → opening_by g j m gate ≡ o ∷ [] → IsOutput o → (a : ℕ) × (gate ≡ Out a)
out_gate o g j m (In l i) is out = let z : ◌≡◌ {A = ℕ} 0 1 = ap length is in let f : ⊥ = omega arith in absurd f
out_gate o g j m (Add a b) is out = let z : ◌≡◌ {A = ℕ} 0 1 = ap length is in let f : ⊥ = omega arith in absurd f
out_gate o g j m (Sub a b) is out = let z : ◌≡◌ {A = ℕ} 0 1 = ap length is in let f : ⊥ = omega arith in absurd f
out_gate o g j m (Scale a c) is out = let z : ◌≡◌ {A = ℕ} 0 1 = ap length is in let f : ⊥ = omega arith in absurd f
out_gate o g j m (Offset a c) is out = let z : ◌≡◌ {A = ℕ} 0 1 = ap length is in let f : ⊥ = omega arith in absurd f
out_gate o g j m (Place l a k) is out = let z : ◌≡◌ {A = ℕ} 0 1 = ap length is in let f : ⊥ = omega arith in absurd f
out_gate o g j m (Mul n a b) is out = let e : o ≡ Product g j = cc in absurd (subst IsOutput e out)
out_gate o g j m (Out a) is out = (a, refl)

-- reading is additive, and so is what a method keeps
read_sum : (s : Shape) (ps : List ℕ) (x y : Element s) → read_at ps ((ring s).◌⊕◌ x y).0 ≡ add (modulo s.q) (read_at ps x.0) (read_at ps y.0)
read_sum s [] x y = refl
read_sum s (p ∷ ps) x y = ap₂ (λ v l. v ∷ l) (sum_at s x y p) (read_sum s ps x y)

picked_sum : (s : Shape) (E : Enc) → Sound E → (x y : Element s) → picked s E ((ring s).◌⊕◌ x y) ≡ (ring s).◌⊕◌ (picked s E x) (picked s E y)
picked_sum s E sound x y =
    let many : (z : Element s) → length (read_at (E.read (degree s)) z.0) ≡ length (positions E.out (length s.h)) =
    λ z. length-map (E.read (degree s)) (λ p. get_or z.0 p 0) ∙ sound.one_each (degree s) s.some in
    ap (value s E.out) (read_sum s (E.read (degree s)) x y)
    ∙ sym (sums s E.out (read_at (E.read (degree s)) x.0) (many x) (read_at (E.read (degree s)) y.0) (many y))

-- lanes below q are read as they were laid
low_same : (q : ℕ) (lanes : List ℕ) → Low q lanes → map (λ v. v % q) lanes ≡ lanes
low_same q [] low = refl
low_same q (x ∷ lanes) low = ap₂ (λ v l. v ∷ l) (mod-eq_of_lt (low 0)) (low_same q lanes (λ k. low (suc k)))

module _ {R C : Type 0} (G : Ghosts R C) (U : Setup R) (V : Parts (El G)) (sound : (m : ℕ) → m < 3 → Sound (U.method m)) (premises : Premises G U V) where
  fits : (g : ℕ) → g < length U.codes → Fits (setting (degree G.shape) U.input_count (length U.constants) U.method) U.codes U.layouts g (layout_at U.layouts g) (gate_at U.codes g)
  fits = (taken_lists_fit (setting (degree G.shape) U.input_count (length U.constants) U.method) U.codes U.layouts premises.taken).1

  paired : Paired (table G U) (task G U) V
  paired = record {
    additive = λ g m a b less is x y.
        let low : m < 3 = (subst (Fits (setting (degree G.shape) U.input_count (length U.constants) U.method) U.codes U.layouts g (layout_at U.layouts g)) is (fits g less)).0 in
        let pick : (z : Element G.shape) → (known G.shape U.method U.constants).pick m z ≡ picked G.shape (U.method m) z =
        λ z. ap (λ (b : Bool). elim b [ true ↦ picked G.shape (U.method m) z | false ↦ (ring G.shape).𝟎 ]) (lt-ltb m 3 low) in
        pick ((ring G.shape).◌⊕◌ x y) ∙ picked_sum G.shape (U.method m) (sound m low) x y ∙ sym (ap₂ (ring G.shape).◌⊕◌ (pick x) (pick y));
    fits = premises.fits;
  }

  -- one gate, with nothing hidden
  gate_clear : (j : ℕ) (e : ℕ → Element G.shape) (layout : Layout) (gate : Gate) → ((i : ℕ) (l : Layout) → gate ≡ In l i → V.input i ≡ seen G.shape layout (V.input i))
      → after (ring G.shape) (known G.shape U.method U.constants) (cleared (ring G.shape) V) j e layout (word (ring G.shape) (cleared (ring G.shape) V) j e gate) gate
      ≡ clear_gate G.shape U.method U.constants V.input layout e gate
  gate_clear j e layout (In l i) laid = laid i l refl
  gate_clear j e layout (Add a b) laid = refl
  gate_clear j e layout (Sub a b) laid = refl
  gate_clear j e layout (Scale a c) laid = refl
  gate_clear j e layout (Offset a c) laid = refl
  gate_clear j e layout (Place l a k) laid = refl
  gate_clear j e layout (Mul m a b) laid = refl
  gate_clear j e layout (Out a) laid = refl

  input_laid : (g i : ℕ) (l : Layout) → g < length U.codes → gate_at U.codes g ≡ In l i → V.input i ≡ seen G.shape (layout_at U.layouts g) (V.input i)
  input_laid g i l less is =
      let same : l ≡ layout_at U.layouts g =
      (subst (Fits (setting (degree G.shape) U.input_count (length U.constants) U.method) U.codes U.layouts g (layout_at U.layouts g)) is (fits g less)).1 in
      premises.laid g i l less is ∙ ap (λ m. seen G.shape m (V.input i)) same

  all_clear : (g : ℕ) → g ≤ length U.codes
      → value_of (table G U) (task G U) (cleared (ring G.shape) V) g ≡ clear_before G.shape U.method U.constants V.input U.codes U.layouts g
  all_clear zero le = refl
  all_clear (suc g) le =
      let before = all_clear g (omega arith) in
      let here = gate_clear (products U.codes g) (value_of (table G U) (task G U) (cleared (ring G.shape) V) g) (layout_at U.layouts g) (gate_at U.codes g)
      (λ i l is. input_laid g i l (omega arith) is)
      ∙ ap (λ e. clear_gate G.shape U.method U.constants V.input (layout_at U.layouts g) e (gate_at U.codes g)) before in
      λ i a. elim (eqb a g) [ true ↦ here i | false ↦ before i a ]

  plainly : Plainly G.shape U.method U.constants V.input U.codes U.layouts
  plainly = evaluation_is_plain U.method sound G.shape U.constants U.input_count V.input U.codes U.layouts premises.taken

  -- an output shares the value of its lanes by plain evaluation
  pub output_plain : (k : ℕ) → k < opening_count U → IsOutput (opening U k)
      → value_opened (table G U) (task G U) V k
      ≡ value G.shape (layout_at U.layouts (gate_opened (opening U k))) (plain (feed G.shape U.method U.constants V.input) U.codes U.layouts (gate_opened (opening U k)))
  output_plain k less out =
      let n = (openings_numbered U.codes).each k less in
      let g = gate_opened (opening U k) in
      let found = out_gate (opening U k) g (products U.codes g) (outputs U.codes g) (gate_at U.codes g) n.is out in
      let a = found.0 in
      let before = clear_before G.shape U.method U.constants V.input U.codes U.layouts in
      (values_clear (table G U) (task G U) V paired).outputs g a n.below found.1
      ∙ ap (word (ring G.shape) (cleared (ring G.shape) V) (products U.codes g) (value_of (table G U) (task G U) (cleared (ring G.shape) V) g)) found.1
      ∙ (λ i. all_clear g (omega (arith, n.below)) i a)
      ∙ sym (ap (clear_gate G.shape U.method U.constants V.input (layout_at U.layouts g) (before g)) found.1)
      ∙ sym (stays (ring G.shape).𝟎 (λ h e. clear_gate G.shape U.method U.constants V.input (layout_at U.layouts h) e (gate_at U.codes h)) (length U.codes) g n.below)
      ∙ plainly.valued g n.below

  pub many_lanes : (k : ℕ) → k < opening_count U
      → length (plain (feed G.shape U.method U.constants V.input) U.codes U.layouts (gate_opened (opening U k)))
      ≡ length (positions (layout_at U.layouts (gate_opened (opening U k))) (degree G.shape))
  many_lanes k less = plainly.one_each (gate_opened (opening U k)) ((openings_numbered U.codes).each k less).below

  -- what is read from it, and that nothing stands elsewhere
  pub output_lanes : (k : ℕ) → k < opening_count U → IsOutput (opening U k)
      → read_at (positions (layout_at U.layouts (gate_opened (opening U k))) (degree G.shape)) (value_opened (table G U) (task G U) V k).0
      ≡ plain (feed G.shape U.method U.constants V.input) U.codes U.layouts (gate_opened (opening U k))
  output_lanes k less out =
      let g = gate_opened (opening U k) in
      let lanes = plain (feed G.shape U.method U.constants V.input) U.codes U.layouts g in
      ap (λ (x : Element G.shape). read_at (positions (layout_at U.layouts g) (degree G.shape)) x.0) (output_plain k less out)
      ∙ lanes_come_back G.shape (layout_at U.layouts g) lanes (many_lanes k less)
      ∙ low_same G.shape.q lanes (plainly.below g ((openings_numbered U.codes).each k less).below)

  pub output_within : (k : ℕ) → k < opening_count U → IsOutput (opening U k)
      → InLayout (degree G.shape) (layout_at U.layouts (gate_opened (opening U k))) (value_opened (table G U) (task G U) V k).0
  output_within k less out t away =
      let g = gate_opened (opening U k) in
      ap (λ (x : Element G.shape). get_or x.0 t 0) (output_plain k less out)
      ∙ off G.shape (layout_at U.layouts g) (plain (feed G.shape U.method U.constants V.input) U.codes U.layouts g) t away
