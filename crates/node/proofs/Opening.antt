-- A row opened to a degree that may have been cut off at the largest word.
use Rattle.std.proofs.Common.{◌≡◌, ℕ, ◌+◌, ◌*◌, ◌<◌, ◌≤◌, min, Bool, true, false, cond, ◌||◌, eqb, ltb, leb, ◌⊎◌, List, length, Some, None, Ok, Err, Option, Result, sym, refl, ap, ◌∙◌, subst, inl, inr, arith}
use Rattle.std.proofs.lemmas.Bool.Decides.{nat_tests}
use Rattle.std.proofs.lemmas.Bool.{cases_lt, le-leb, lt-ltb}
use Rattle.curve.specs.Curve.{seats_wrong, curve_refused, Opens, Answers, Opened, OpenedBy}
use Rattle.curve.specs.declared.OffCurve.{OffCurve}
use Rattle.curve.specs.declared.refusal.Refusal.{Refusal}
use Rattle.curve.specs.declared.refusal.Refusal.TheVariants.{Seats, Threshold}
use Rattle.curve.proofs.Theory.{degree_below}
use Rattle.ring.specs.declared.Ring.{Ghosts}
use Rattle.encoding.specs.declared.layout.Layout.{Layout}
use Rattle.circuit.specs.Openings.{degree_of}
use Rattle.circuit.specs.declared.openings.Opening.{Opening}
use Rattle.circuit.specs.declared.openings.Opening.TheVariants.{Product, Output}
use Rattle.ring.specs.Model.{degree}
use Rattle.circuit.specs.Gates.{layout_at}
use Rattle.node.specs.Openings.{InLayout, ValueComesTo, ComesTo, OpenedAt}
use Rattle.node.specs.declared.fault.Fault.{Fault}
use Rattle.node.specs.declared.fault.Fault.TheVariants.{Row, Lanes}

-- seats are at most 31, so every degree of 31 and more is refused alike
refused_alike : (points n d e : ℕ) → (d ≡ e) ⊎ ((31 ≤ d) × (31 ≤ e)) → curve_refused points n d ≡ curve_refused points n e
refused_alike points n d e (inl same) = ap (curve_refused points n) same
refused_alike points n d e (inr high) = elim (cases_lt 31 n) [
  | inl many ↦ let l : ltb 31 n ≡ true = lt-ltb 31 n many in grind (arith, nat_tests)
  | inr few ↦
      let one : leb n d ≡ true = le-leb n d (omega (arith, high.0)) in
      let two : leb n e ≡ true = le-leb n e (omega (arith, high.1)) in
      ap (λ b. cond (seats_wrong points n) (Some Seats) (cond b (Some Threshold) None)) (one ∙ sym two)
]

seats_few : (points n d : ℕ) → curve_refused points n d ≡ None → n ≤ 31
seats_few points n d none = elim (cases_lt 31 n) [
  | inr few ↦ few
  | inl many ↦ absurd (no_some (go (eqb n 0) (leb points n) (lt-ltb 31 n many) none))
]
  where
    no_some : {e : Refusal} → Some e ≡ None → ⊥
    no_some h = let z : ◌≡◌ {A = ℕ} 0 1 = cc in omega arith

    go : (a c : Bool) {b : Bool} → b ≡ true → cond (a || b || c) (Some Seats) (cond (leb n d) (Some Threshold) None) ≡ None → Some Seats ≡ None
    go true c {b} e h = h
    go false c {b} e h = ap (λ x. cond (x || c) (Some Seats) (cond (leb n d) (Some Threshold) None)) (sym e) ∙ h

-- a degree that is taken is not cut off
degree_taken : (points n d e : ℕ) → (d ≡ e) ⊎ ((31 ≤ d) × (31 ≤ e)) → curve_refused points n d ≡ None → d ≡ e
degree_taken points n d e (inl same) none = same
degree_taken points n d e (inr high) none =
    let low : d < n = degree_below points n d none in
    let few : n ≤ 31 = seats_few points n d none in
    let z : ⊥ = omega (arith, high.0) in absurd z

cut : (d k t : ℕ) → d ≡ min (k * t) 18446744073709551615 → (d ≡ k * t) ⊎ ((31 ≤ d) × (31 ≤ k * t))
cut d k t e = elim (cases_lt (k * t) 31) [
  | inl low ↦ inl (let same : d ≡ k * t = omega arith in same)
  | inr high ↦ inr ((let a : 31 ≤ d = omega arith in a), high)
]

-- what comes of an opened value
comes : {R C : Type 0} (G : Ghosts R C) (layouts : List Layout) (t : ℕ) (row : List R) (o : Opening) (v : R) (a : Result R Fault)
    → Opens G (degree_of t o) row (G.element v) → ValueComesTo G layouts o v a → ComesTo G layouts t row o a
comes G layouts t row (Product g j) v (Ok w) opens same = (subst (λ x. Opens G (t + t) row (G.element x)) (sym same) opens, tt)
comes G layouts t row (Product g j) v (Err f) opens bad = absurd bad
comes G layouts t row (Output g n) v (Ok w) opens (same, inside) =
    (subst (λ x. Opens G t row (G.element x)) (sym same) opens, subst (λ x. InLayout (degree G.shape) (layout_at layouts g) (G.element x).0) (sym same) inside)
comes G layouts t row (Output g n) v (Err (Row h s)) opens bad = absurd bad
comes G layouts t row (Output g n) v (Err (Lanes h c)) opens (at, strays) = (at, (G.element v, opens, strays))

module _ {R C : Type 0} (G : Ghosts R C) (layouts : List Layout) (t : ℕ) (row : List R) (o : Opening) where
  -- a row that is answered was not refused
  answered : (d : ℕ) (x : Option Refusal) (r : Result R OffCurve) → OpenedBy G d row (Ok r) x → (x ≡ None) × Answers G d row r
  answered d None r h = (refl, h)
  answered d (Some e) r h = let z : ◌≡◌ {A = ℕ} 0 1 = cc in let f : ⊥ = omega arith in absurd f

  pub value_opened : (d k : ℕ) → ((x : ℕ) → degree_of x o ≡ k * x) → d ≡ min (k * t) 18446744073709551615 → (r : Result R OffCurve) (v : R) → r ≡ Ok v → Opened G d row (Ok r)
      → (a : Result R Fault) → ValueComesTo G layouts o v a → OpenedAt G layouts t row o (Ok a) (curve_refused G.points.count (length row) (degree_of t o))
  value_opened d k times ed r v er opened a ca =
      let alike = cut d k t ed in
      let points = G.points.count in
      let ans = answered d (curve_refused points (length row) d) r opened in
      let same : d ≡ degree_of t o = degree_taken points (length row) d (k * t) alike ans.0 ∙ sym (times t) in
      subst (OpenedAt G layouts t row o (Ok a)) (sym (ap (curve_refused points (length row)) (sym same) ∙ ans.0))
      (comes G layouts t row o v a (subst (λ e. Opens G e row (G.element v)) same (subst (Answers G d row) er ans.1)) ca)
