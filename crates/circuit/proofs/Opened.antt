-- The openings of a list, gate by gate.
use Rattle.std.proofs.Common.{◌≡◌, ℕ, suc, ◌+◌, ◌≤◌, List, [], ◌∷◌, ◌++◌, length, get_or, sym, refl, ap, ◌∙◌, ap₂, add-zero, add-one, arith, length-append}
use Rattle.std.proofs.lemmas.List.{append-nil}
use Rattle.circuit.specs.Codes.{kind_of, detail_of, first_of, second_of}
use Rattle.circuit.specs.Kinds.{Gate, kind_by, gate_in, gate_at}
use Rattle.circuit.specs.Openings.{product_count, output_count, products, outputs, opening_by, openings_before, openings_of}
use Rattle.circuit.specs.declared.kinds.Kind.{Kind}
use Rattle.circuit.specs.declared.kinds.Kind.TheVariants as kind
use Rattle.circuit.specs.declared.openings.Opening.{Opening}
use Rattle.circuit.specs.declared.openings.Opening.TheVariants.{Product, Output}

-- the openings among the first g gates, and how many products and outputs they are
pub record Found (codes : List ℕ) (g : ℕ) (items : List Opening) (pair number : ℕ) : Type 0 where
  pub are : items ≡ openings_before codes g
  pub pairs : pair ≡ products codes g
  pub numbers : number ≡ outputs codes g
  pub few : length items ≤ g
  pub few_pairs : pair ≤ g
  pub few_numbers : number ≤ g

pub found_none : (codes : List ℕ) (items : List Opening) → items ≡ [] → Found codes 0 items 0 0
found_none codes items none = record {
  are = none;
  pairs = refl;
  numbers = refl;
  few = let e : length items ≡ 0 = ap length none in omega arith;
  few_pairs = omega arith;
  few_numbers = omega arith;
}

module _ {codes : List ℕ} {g : ℕ} {items : List Opening} {pair number : ℕ} (f : Found codes g items pair number) (k : Kind) (ek : k ≡ kind_by (kind_of (get_or codes g 0))) where
  -- the gate, were it of this kind
  abbrev of_kind : Kind → Gate
  of_kind k = gate_in k (detail_of (get_or codes g 0)) (first_of (get_or codes g 0)) (second_of (get_or codes g 0))

  gate_is : (j : Kind) → k ≡ j → gate_at codes g ≡ of_kind j
  gate_is j e = ap of_kind (sym ek ∙ e)

  -- one gate more, by the openings that it is
  more : (gate : Gate) → gate_at codes g ≡ gate → (next : List Opening) (pair' number' : ℕ) → next ≡ items ++ opening_by g pair number gate
      → pair' ≡ pair + product_count gate → number' ≡ number + output_count gate → length next ≤ g + 1 → pair' ≤ g + 1 → number' ≤ g + 1
      → Found codes (g + 1) next pair' number'
  more gate eg next pair' number' en e-pair e-number n1 n2 n3 =
      let up : g + 1 ≡ suc g = add-one g in
      record {
        are =
            en
            ∙ ap₂ (λ xs o. xs ++ o) f.are (ap₂ (λ j o. opening_by g j o gate) f.pairs f.numbers ∙ ap (opening_by g (products codes g) (outputs codes g)) (sym eg))
            ∙ ap (openings_before codes) (sym up);
        pairs = e-pair ∙ ap₂ ◌+◌ f.pairs (ap product_count (sym eg)) ∙ ap (products codes) (sym up);
        numbers = e-number ∙ ap₂ ◌+◌ f.numbers (ap output_count (sym eg)) ∙ ap (outputs codes) (sym up);
        few = n1;
        few_pairs = n2;
        few_numbers = n3;
      }

  pub found_product : k ≡ kind.Mul → (next : List Opening) (pair' number' : ℕ) → next ≡ items ++ (Product g pair ∷ []) → pair' ≡ pair + 1 → number' ≡ number → Found codes (g + 1) next pair' number'
  found_product is next pair' number' en e-pair e-number =
      more (of_kind kind.Mul) (gate_is kind.Mul is) next pair' number' en e-pair (e-number ∙ sym (add-zero number))
      (let l : length next ≡ length items + 1 = ap length en ∙ length-append items (Product g pair ∷ []) in omega (arith, f.few)) (omega (arith, f.few_pairs)) (omega (arith, f.few_numbers))

  pub found_output : k ≡ kind.Out → (next : List Opening) (pair' number' : ℕ) → next ≡ items ++ (Output g number ∷ []) → pair' ≡ pair → number' ≡ number + 1 → Found codes (g + 1) next pair' number'
  found_output is next pair' number' en e-pair e-number =
      more (of_kind kind.Out) (gate_is kind.Out is) next pair' number' en (e-pair ∙ sym (add-zero pair)) e-number
      (let l : length next ≡ length items + 1 = ap length en ∙ length-append items (Output g number ∷ []) in omega (arith, f.few)) (omega (arith, f.few_pairs)) (omega (arith, f.few_numbers))

  -- a gate that is no opening
  module _ (next : List Opening) (pair' number' : ℕ) (en : next ≡ items) (e-pair : pair' ≡ pair) (e-number : number' ≡ number) where
    silent : (j : Kind) → k ≡ j → opening_by g pair number (of_kind j) ≡ [] → product_count (of_kind j) ≡ 0 → output_count (of_kind j) ≡ 0 → Found codes (g + 1) next pair' number'
    silent j is o a b =
        more (of_kind j) (gate_is j is) next pair' number' (en ∙ sym (ap (λ l. items ++ l) o ∙ append-nil items)) (omega arith) (omega arith)
        (let l : length next ≡ length items = ap length en in omega (arith, f.few)) (omega (arith, f.few_pairs)) (omega (arith, f.few_numbers))

    pub found_other : (j : Kind) → k ≡ j → (j ≡ kind.Mul → ⊥) → (j ≡ kind.Out → ⊥) → Found codes (g + 1) next pair' number'
    found_other kind.In e m o = silent kind.In e refl refl refl
    found_other kind.Add e m o = silent kind.Add e refl refl refl
    found_other kind.Sub e m o = silent kind.Sub e refl refl refl
    found_other kind.Scale e m o = silent kind.Scale e refl refl refl
    found_other kind.Offset e m o = silent kind.Offset e refl refl refl
    found_other kind.Place e m o = silent kind.Place e refl refl refl
    found_other kind.Mul e m o = absurd (m refl)
    found_other kind.Out e m o = absurd (o refl)

pub found_all : {codes : List ℕ} {g : ℕ} {items : List Opening} {pair number : ℕ} → Found codes g items pair number → g ≤ length codes → length codes ≤ g → items ≡ openings_of codes
found_all {codes} {g} f low high = f.are ∙ ap (openings_before codes) (let same : g ≡ length codes = omega arith in same)
