-- Counting gates and openings.
use Rattle.std.proofs.Common.{◌≡◌, ℕ, zero, suc, ◌+◌, ◌<◌, ◌≤◌, true, ◌⊎◌, List, [], ◌∷◌, ◌++◌, length, get_or, sym, refl, ap, ◌∙◌, subst, inl, inr, arith, length-append}
use Rattle.std.proofs.lemmas.List.{get_or_append_left, get_or_at}
use Rattle.std.proofs.lemmas.Bool.{cases_eq, cases_lt, cases_order, or_left, or_right}
use Rattle.circuit.specs.Kinds.{Gate, In, Add, Sub, Scale, Offset, Place, Mul, Out, gate_at}
use Rattle.circuit.specs.Openings.{product_count, output_count, products, outputs, opening_by, openings_before, gate_opened, degree_of}
use Rattle.circuit.specs.declared.openings.Opening.{Opening}
use Rattle.circuit.specs.declared.openings.Opening.TheVariants.{Product, Output}
use Rattle.rules.specs.Rules.{openings}
use Rattle.protocol.specs.Gates.{Opened, degree, names, named, opening_at, Numbered, OpeningsNumbered}

-- an IN below gate g names its input
pub named_by : (codes : List ℕ) (g h i : ℕ) → h < g → names (gate_at codes h) i ≡ true → named codes g i ≡ true
named_by codes zero h i less e = let z : ⊥ = omega arith in absurd z
named_by codes (suc g) h i less e =
    elim (cases_eq h g) [
      | inl here ↦ or_right (named codes g i) (names (gate_at codes g) i) (ap (λ k. names (gate_at codes k) i) (sym here) ∙ e)
      | inr other ↦ or_left (named codes g i) (names (gate_at codes g) i) (named_by codes g h i (omega arith) e)
    ]

-- counts rise
pub rises : (f : ℕ → ℕ) → ((g : ℕ) → f g ≤ f (suc g)) → (g h : ℕ) → h ≤ g → f h ≤ f g
rises f step zero h le = let e : h ≡ 0 = omega arith in omega (arith, ap f e)
rises f step (suc g) h le =
    elim (cases_eq h (suc g)) [
      | inl e ↦ omega (arith, ap f e)
      | inr other ↦ omega (arith, rises f step g h (omega arith), step g)
    ]

-- a gate that is opened, and its opening
record Added (g j o : ℕ) (gate : Gate) : Type 0 where
  opening : Opening
  gate_is : gate_opened opening ≡ g
  opened : Opened gate
  counts : product_count gate + output_count gate ≡ 1
  is : opening_by g j o gate ≡ opening ∷ []
  degrees : (t : ℕ) → degree_of t opening ≡ degree t gate

-- a gate that is not
record Shut (g j o : ℕ) (gate : Gate) : Type 0 where
  shut : Opened gate → ⊥
  counts : product_count gate + output_count gate ≡ 0
  is : opening_by g j o gate ≡ []

by_kind : (g j o : ℕ) (gate : Gate) → Added g j o gate ⊎ Shut g j o gate
by_kind g j o (In l i) = inr (record { shut = λ x. x; counts = refl; is = refl })
by_kind g j o (Add a b) = inr (record { shut = λ x. x; counts = refl; is = refl })
by_kind g j o (Sub a b) = inr (record { shut = λ x. x; counts = refl; is = refl })
by_kind g j o (Scale a c) = inr (record { shut = λ x. x; counts = refl; is = refl })
by_kind g j o (Offset a c) = inr (record { shut = λ x. x; counts = refl; is = refl })
by_kind g j o (Place l a k) = inr (record { shut = λ x. x; counts = refl; is = refl })
by_kind g j o (Mul m a b) = inl (record { opening = Product g j; gate_is = refl; opened = tt; counts = refl; is = refl; degrees = λ t. refl })
by_kind g j o (Out a) = inl (record { opening = Output g o; gate_is = refl; opened = tt; counts = refl; is = refl; degrees = λ t. refl })

opened_counts : (gate : Gate) → Opened gate → product_count gate + output_count gate ≡ 1
opened_counts gate o = elim (by_kind 0 0 0 gate) [ inl a ↦ a.counts | inr n ↦ absurd (n.shut o) ]

pub openings_rise : (codes : List ℕ) (g h : ℕ) → h < g → Opened (gate_at codes h) → openings codes h < openings codes g
openings_rise codes g h less o = omega (arith, rises (openings codes) (λ k. omega arith) g (suc h) less, opened_counts (gate_at codes h) o)

pub degree_low : (t : ℕ) (gate : Gate) → degree t gate ≤ t + t
degree_low t (In l i) = omega arith
degree_low t (Add a b) = omega arith
degree_low t (Sub a b) = omega arith
degree_low t (Scale a c) = omega arith
degree_low t (Offset a c) = omega arith
degree_low t (Place l a k) = omega arith
degree_low t (Mul m a b) = omega arith
degree_low t (Out a) = omega arith

-- different openings have different numbers
pub one_number : (codes : List ℕ) (g h : ℕ) → Opened (gate_at codes g) → Opened (gate_at codes h) → openings codes g ≡ openings codes h → g ≡ h
one_number codes g h og oh e =
    elim (cases_order g h) [
      | inl same ↦ same
      | inr apart ↦ elim apart [
        | inl less ↦ let z : ⊥ = omega (arith, openings_rise codes h g less og) in absurd z
        | inr more ↦ let z : ⊥ = omega (arith, openings_rise codes g h more oh) in absurd z
      ]
    ]

-- what a gate adds to the list of openings: one if it is opened
added : (g j o : ℕ) (gate : Gate) → length (opening_by g j o gate) ≡ product_count gate + output_count gate
added g j o gate = elim (by_kind g j o gate) [ inl a ↦ ap length a.is ∙ sym a.counts | inr n ↦ ap length n.is ∙ sym n.counts ]

one_added : (g j o : ℕ) (gate : Gate) → 1 ≤ product_count gate + output_count gate → Added g j o gate
one_added g j o gate one = elim (by_kind g j o gate) [ inl a ↦ a | inr n ↦ let z : ⊥ = omega (arith, n.counts) in absurd z ]

pub listed_length : (codes : List ℕ) (g : ℕ) → length (openings_before codes g) ≡ openings codes g
listed_length codes zero = refl
listed_length codes (suc g) =
    omega (arith, listed_length codes g, added g (products codes g) (outputs codes g) (gate_at codes g), length-append (openings_before codes g) (opening_by g (products codes g) (outputs codes g) (gate_at codes g)))

-- the opening of gate g is numbered by the openings before it
last_numbered : (codes : List ℕ) (g : ℕ) (a : Added g (products codes g) (outputs codes g) (gate_at codes g)) → Numbered codes (suc g) (openings codes g) a.opening
last_numbered codes g a =
    record {
      below = omega (arith, a.gate_is);
      opened = subst (λ h. Opened (gate_at codes h)) back a.opened;
      number = ap (openings codes) a.gate_is;
      is = ap (λ h. opening_by h (products codes h) (outputs codes h) (gate_at codes h)) a.gate_is ∙ a.is;
      degrees = λ t. a.degrees t ∙ ap (λ h. degree t (gate_at codes h)) back;
    }
  where
    back : g ≡ gate_opened a.opening
    back = sym a.gate_is

numbered : (codes : List ℕ) (g k : ℕ) → k < openings codes g → Numbered codes g k (get_or (openings_before codes g) k (Output 0 0))
numbered codes zero k less = let z : ⊥ = omega arith in absurd z
numbered codes (suc g) k less =
    let front = openings_before codes g in
    let next = opening_by g (products codes g) (outputs codes g) (gate_at codes g) in
    elim (cases_lt k (openings codes g)) [
      | inl below ↦
          let n = numbered codes g k below in
          subst (Numbered codes (suc g) k) (sym (get_or_append_left front next (Output 0 0) k (omega (arith, listed_length codes g))))
          (record { below = omega (arith, n.below); opened = n.opened; number = n.number; is = n.is; degrees = n.degrees })
      | inr above ↦
          let a = one_added g (products codes g) (outputs codes g) (gate_at codes g) (omega arith) in
          let here : k ≡ openings codes g = omega (arith, added g (products codes g) (outputs codes g) (gate_at codes g), a.counts) in
          let last = ap (λ l. get_or (front ++ l) k (Output 0 0)) a.is ∙ get_or_at front a.opening [] (Output 0 0) k (listed_length codes g ∙ sym here) in
          subst (Numbered codes (suc g) k) (sym last) (subst (λ i. Numbered codes (suc g) i a.opening) (sym here) (last_numbered codes g a))
    ]

pub openings_numbered : OpeningsNumbered
openings_numbered codes = record {
  all = listed_length codes (length codes);
  each = λ k less. numbered codes (length codes) k (omega (arith, listed_length codes (length codes)));
  found = λ g below o.
      let n = numbered codes (length codes) (openings codes g) (openings_rise codes (length codes) g below o) in
      one_number codes (gate_opened (opening_at codes (openings codes g))) g n.opened o n.number;
}
