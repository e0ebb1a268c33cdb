-- What comes of a row is one thing only; and a row that opens to a value in its layout is no fault.
use Rattle.std.proofs.Common.{◌≡◌, ℕ, ◌+◌, ◌<◌, ◌≤◌, true, cond, ◌||◌, eqb, ltb, leb, List, length, get_or, Some, None, Ok, Err, Result, sym, refl, ap, ◌∙◌, subst, ap₂, inl, inr, arith}
use Rattle.std.proofs.lemmas.Bool.{cases_order, cond-false, ne_eqb, le-ltb, lt-leb, or_from}
use Rattle.ring.specs.Model.{PointLaws, degree}
use Rattle.ring.specs.declared.Ring.{Ghosts}
use Rattle.curve.specs.Curve.{El, Opens, curve_refused, seats_wrong}
use Rattle.curve.specs.declared.refusal.Refusal.TheVariants.{Seats, Threshold}
use Rattle.curve.proofs.Theory.{opens_once}
use Rattle.encoding.specs.declared.layout.Layout.{Layout}
use Rattle.circuit.specs.Gates.{layout_at}
use Rattle.circuit.specs.Openings.{gate_opened, degree_of}
use Rattle.circuit.specs.declared.openings.Opening.{Opening}
use Rattle.circuit.specs.declared.openings.Opening.TheVariants.{Product, Output}
use Rattle.rules.specs.Rules.{Parts}
use Rattle.protocol.proofs.Engine.{tables_stand}
use Rattle.protocol.proofs.Shares.{openings_once}
use Rattle.node.specs.Openings.{InLayout, Stray, ComesTo, Stops}
use Rattle.node.specs.declared.fault.Fault.{Fault}
use Rattle.node.specs.declared.fault.Fault.TheVariants.{Row, Lanes}
use Rattle.claim.specs.Bench.{Setup, table}
use Rattle.claim.specs.Steps.{accepts}
use Rattle.claim.specs.Claim.{Premises}
use Rattle.claim.proofs.Invariant.{row_shared}
use Rattle.claim.proofs.Outputs.{IsOutput}

-- two seats both accept, or stop with one and the same fault
abbrev pub Agreed : {R : Type 0} → Result R Fault → Result R Fault → Type 0
Agreed (Ok v) (Ok w) = Unit {0}
Agreed (Ok v) (Err g) = ⊥
Agreed (Err f) (Ok w) = ⊥
Agreed (Err f) (Err g) = f ≡ g

degree_of_low : (t : ℕ) (o : Opening) → degree_of t o ≤ t + t
degree_of_low t (Product g j) = omega arith
degree_of_low t (Output g k) = omega arith

-- the lowest coordinate that strays is one
stray_once : (d : ℕ) (layout : Layout) (x : List ℕ) (b c : ℕ) → Stray d layout x b → Stray d layout x c → b ≡ c
stray_once d layout x b c p q = elim (cases_order b c) [
  | inl same ↦ same
  | inr apart ↦ elim apart [
    | inl less ↦ absurd (p.some (q.lowest b less p.off))
    | inr more ↦ absurd (q.some (p.lowest c more q.off))
  ]
]

module _ {R C : Type 0} (G : Ghosts R C) (U : Setup R) (laws : PointLaws G.shape G.points) (V : Parts (El G)) (premises : Premises G U V) (row : List R) (long : length row ≡ U.seats) where
  below : (o : Opening) → degree_of U.threshold o < U.seats
  below o = omega (arith, degree_of_low U.threshold o, premises.sits.low)

  -- one value at most
  once : (o : Opening) (v u : El G) → Opens G (degree_of U.threshold o) row v → Opens G (degree_of U.threshold o) row u → v ≡ u
  once o v u f g =
      openings_once (table G U) (tables_stand G.shape G.points laws U.seats U.threshold U.inside premises.sits) (degree_of U.threshold o) (below o) _ v u
      (row_shared G U laws V premises (degree_of U.threshold o) row v long f)
      (row_shared G U laws V premises (degree_of U.threshold o) row u long g)

  taken : (o : Opening) → curve_refused G.points.count (length row) (degree_of U.threshold o) ≡ None
  taken o =
      let n = length row in
      let low = below o in
      let seats = premises.sits.seats in
      let few = premises.few in
      let some : n ≡ 0 → ⊥ = λ e. omega arith in
      cond-false (seats_wrong G.points.count n) (Some Seats) (cond (leb n (degree_of U.threshold o)) (Some Threshold) None)
      (or_from (eqb n 0 || ltb 31 n) (leb G.points.count n) (or_from (eqb n 0) (ltb 31 n) (ne_eqb n 0 some) (le-ltb 31 n (omega arith))) (lt-leb G.points.count n (omega arith)))
      ∙ cond-false (leb n (degree_of U.threshold o)) (Some Threshold) None (lt-leb n (degree_of U.threshold o) (omega arith))

  rows_agree : (o : Opening) (g h s r : ℕ) → Stops G U.layouts U.threshold row o (Row g s) → Stops G U.layouts U.threshold row o (Row h r) → Row g s ≡ Row h r
  rows_agree o g h s r a b = ap₂ Row (a.0 ∙ sym b.0) (opens_once G laws (degree_of U.threshold o) row (taken o) (Err (record { seat = s })) (Err (record { seat = r })) a.1 b.1)

  pub agree : (o : Opening) (a b : Result R Fault) → ComesTo G U.layouts U.threshold row o a → ComesTo G U.layouts U.threshold row o b → Agreed a b
  agree o (Ok v) (Ok w) a b = tt
  agree o (Ok v) (Err (Row g s)) a b = absurd (b.1.none (G.element v) a.0)
  agree (Product g j) (Ok v) (Err (Lanes h c)) a b = absurd b
  agree (Output g j) (Ok v) (Err (Lanes h c)) a b =
      let same = once (Output g j) b.1.0 (G.element v) b.1.1 a.0 in
      absurd (b.1.2.some (ap (λ (x : El G). get_or x.0 c 0) same ∙ a.1 c b.1.2.off))
  agree o (Err (Row g s)) (Ok w) a b = absurd (a.1.none (G.element w) b.0)
  agree (Product g j) (Err (Lanes h c)) (Ok w) a b = absurd a
  agree (Output g j) (Err (Lanes h c)) (Ok w) a b =
      let same = once (Output g j) a.1.0 (G.element w) a.1.1 b.0 in
      absurd (a.1.2.some (ap (λ (x : El G). get_or x.0 c 0) same ∙ b.1 c a.1.2.off))
  agree o (Err (Row g s)) (Err (Row h r)) a b = rows_agree o g h s r a b
  agree (Product g j) (Err (Row k s)) (Err (Lanes h c)) a b = absurd b
  agree (Output g j) (Err (Row k s)) (Err (Lanes h c)) a b = absurd (a.1.none b.1.0 b.1.1)
  agree (Product g j) (Err (Lanes h c)) (Err (Row k s)) a b = absurd a
  agree (Output g j) (Err (Lanes h c)) (Err (Row k s)) a b = absurd (b.1.none a.1.0 a.1.1)
  agree (Product g j) (Err (Lanes h c)) (Err (Lanes k e)) a b = absurd a
  agree (Output g j) (Err (Lanes h c)) (Err (Lanes k e)) a b =
      let same = once (Output g j) a.1.0 b.1.0 a.1.1 b.1.1 in
      ap₂ Lanes (a.0 ∙ sym b.0)
      (stray_once (degree G.shape) (layout_at U.layouts g) b.1.0.0 c e (subst (λ (x : El G). Stray (degree G.shape) (layout_at U.layouts g) x.0 c) same a.1.2) b.1.2)

  -- a row that opens, to a value in its layout if it is an output's
  pub no_fault : (o : Opening) (r : Result R Fault) → ComesTo G U.layouts U.threshold row o r → (v : El G) → Opens G (degree_of U.threshold o) row v
      → (IsOutput o → InLayout (degree G.shape) (layout_at U.layouts (gate_opened o)) v.0) → accepts r ≡ true
  no_fault o (Ok w) comes v opens laid = refl
  no_fault o (Err (Row g s)) comes v opens laid = absurd (comes.1.none v opens)
  no_fault (Product g j) (Err (Lanes h c)) comes v opens laid = absurd comes
  no_fault (Output g j) (Err (Lanes h c)) comes v opens laid =
      let same = once (Output g j) comes.1.0 v comes.1.1 opens in
      absurd (comes.1.2.some (ap (λ (x : El G). get_or x.0 c 0) same ∙ laid tt c comes.1.2.off))
