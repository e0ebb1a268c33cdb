-- The values of a list, gate by gate.
use Rattle.std.proofs.Common.{◌≡◌, ℕ, zero, suc, ◌+◌, ◌<◌, Bool, true, false, eqb, List, [], ◌∷◌, ◌++◌, map, length, get_or, sym, refl, ap, ◌∙◌, ap₂, add-one, arith, length-append}
use lib.Dec.{eqb-suc-zero, eqb-zero-suc, eqb-suc-suc}
use Rattle.curve.specs.Curve.{listed, word}
use Rattle.curve.proofs.Loops.{filled_all}
use Rattle.std.proofs.lemmas.Bool.{and_parts, eqb-true}
use Rattle.ring.specs.Model.{ring, degree}
use Rattle.ring.specs.declared.Ring.{Ghosts}
use Rattle.encoding.specs.Encodings.{Enc, Sound}
use Rattle.encoding.specs.declared.layout.Layout.{Layout}
use Rattle.circuit.specs.Codes.{Parts, parts_of}
use Rattle.circuit.specs.Gates.{setting, layout_at}
use Rattle.circuit.specs.Lists.{list_checked}
use Rattle.circuit.specs.Kinds.{gate_by, gate_at}
use Rattle.rules.specs.Clear.{clear_gate, clear_before, clear}
use Rattle.rules.specs.Theorems.{counts_fit, ValuesAre}
use Rattle.rules.proofs.Evaluation.{evaluation_is_plain}

-- one entry more at the end of a list
pub one_more : {A E : Type 0} (e : A → E) (xs : List A) (x : A) (d : E) (a : ℕ) → get_or (map e (xs ++ (x ∷ []))) a d ≡ elim (eqb a (length xs)) [ true ↦ e x | false ↦ get_or (map e xs) a d ]
one_more e [] x d zero = refl
one_more e [] x d (suc a) = ap (λ (b : Bool). elim b [ true ↦ e x | false ↦ d ]) (sym (eqb-suc-zero a))
one_more e (y ∷ xs) x d zero = ap (λ (b : Bool). elim b [ true ↦ e x | false ↦ e y ]) (sym (eqb-zero-suc (length xs)))
one_more e (y ∷ xs) x d (suc a) = one_more e xs x d a ∙ ap (λ (b : Bool). elim b [ true ↦ e x | false ↦ get_or (map e xs) a d ]) (sym (eqb-suc-suc a (length xs)))

module _ {R C : Type 0} (G : Ghosts R C) (method : ℕ → Enc) (constants : List ℕ) (inputs : List R) (codes : List ℕ) (layouts : List Layout) where
  -- the first g gates have their values
  pub record Worked (values : List R) (g : ℕ) : Type 0 where
    pub many : length values ≡ g
    pub are : word G values ≡ clear_before G.shape method constants (word G inputs) codes layouts g

  pub worked_none : (values : List R) → values ≡ [] → Worked values 0
  worked_none values none = record { many = ap length none; are = ap (word G) none }

  pub worked_more : {values : List R} {g : ℕ} → Worked values g → (p : Parts) → p ≡ parts_of (get_or codes g 0) → (l : Layout) → l ≡ layout_at layouts g → (v : R)
      → G.element v ≡ clear_gate G.shape method constants (word G inputs) l (word G values) (gate_by p.0 p.1 p.2 p.3)
      → (next : List R) → next ≡ values ++ (v ∷ []) → Worked next (g + 1)
  worked_more {values} {g} w p ep l el v ev next en =
      let up : g + 1 ≡ suc g = add-one g in
      let gate : gate_by p.0 p.1 p.2 p.3 ≡ gate_at codes g = ap (λ q. gate_by q.0 q.1 q.2 q.3) ep in
      let here : G.element v ≡ clear_gate G.shape method constants (word G inputs) (layout_at layouts g) (clear_before G.shape method constants (word G inputs) codes layouts g) (gate_at codes g) =
      ev
      ∙ ap₂ (λ m e. clear_gate G.shape method constants (word G inputs) m e (gate_by p.0 p.1 p.2 p.3)) el w.are
      ∙ ap (clear_gate G.shape method constants (word G inputs) (layout_at layouts g) (clear_before G.shape method constants (word G inputs) codes layouts g)) gate in
      let at : (a : ℕ) → word G next a ≡ clear_before G.shape method constants (word G inputs) codes layouts (suc g) a = λ a.
      ap (λ xs. get_or (map G.element xs) a (ring G.shape).𝟎) en
      ∙ one_more G.element values v (ring G.shape).𝟎 a
      ∙ ap (λ n. elim (eqb a n) [ true ↦ G.element v | false ↦ word G values a ]) w.many
      ∙ ap₂ (λ x e. elim (eqb a g) [ true ↦ x | false ↦ e a ]) here w.are in
      record {
        many = ap length en ∙ length-append values (v ∷ []) ∙ ap (λ n. n + 1) w.many;
        are = (λ i a. at a i) ∙ ap (clear_before G.shape method constants (word G inputs) codes layouts) (sym up);
      }

  pub worked_all : {values : List R} {g : ℕ} → Worked values g → g ≡ length codes → map G.element values ≡ listed (length codes) (clear G.shape method constants (word G inputs) codes layouts)
  worked_all {values} w all =
      filled_all G.element values {i = length codes} (length codes)
      (record { at = λ k h. ap (λ e. e k) w.are ∙ ap (λ n. clear_before G.shape method constants (word G inputs) codes layouts n k) all })
      (w.many ∙ all) (omega arith)

-- the whole list's values
pub values_are : {R C : Type 0} (G : Ghosts R C) (method : ℕ → Enc) → ((m : ℕ) → m < 3 → Sound (method m)) → (codes : List ℕ) (layouts : List Layout) (inputs constants : ℕ) (constant-list : List ℕ) (input-list : List R)
    → counts_fit G method codes layouts inputs constants constant-list input-list ≡ true
    → {values : List R} {g : ℕ} → Worked G method constant-list input-list codes layouts values g → g ≡ length codes
    → ValuesAre G method codes layouts inputs constants constant-list input-list values
values_are G method sound codes layouts inputs constants constant-list input-list fit {values} {g} w all = record {
  fit = fit;
  each = worked_all G method constant-list input-list codes layouts w all;
  plainly = λ taken.
      let many : length constant-list ≡ constants = eqb-true _ _ (and_parts _ _ fit).0 in
      evaluation_is_plain method sound G.shape constant-list inputs (word G input-list) codes layouts
      (ap (λ n. list_checked (setting (degree G.shape) inputs n method) codes) many ∙ taken);
}
