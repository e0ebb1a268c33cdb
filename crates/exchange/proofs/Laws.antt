-- The laws of the sheet.
use Rattle.std.proofs.Common.{◌≡◌, ℕ, zero, suc, pred, ◌+◌, ◌*◌, ◌<◌, Bool, true, false, cond, ◌&&◌, eqb, ltb, length, is_some, Some, None, Ok, Err, Option, Result, sym, refl, ap, ◌∙◌, ap₂, inl, inr, mul-zero, mul-one, arith}
use Rattle.std.proofs.lemmas.Bool.{and_from, and_parts, and_right, both_ways, cases_Bool, cases_eq, cases_lt, cond-true, cond-false, eq-eqb, ne_eqb, lt-ltb}
use Rattle.std.proofs.lemmas.Bool.Decides.{nat_tests}
use Rattle.curve.specs.declared.refusal.Refusal.{Refusal}
use Rattle.curve.specs.declared.refusal.Refusal.TheVariants.{Placed, Seat, Common}
use Rattle.exchange.specs.Sheet.{Page, seat, total, outcome, sent, all_refused, one_refused, place_all, place_one, missing, seen, looked, row_seen}
use Rattle.exchange.specs.Laws.{Full, ToldAll, ToldOne, SheetLaws}
use Rattle.exchange.proofs.Rows.{gathered_is, row_taken}
use Rattle.exchange.proofs.Counts.{seat_up, some_from, total_same, total_constant}

-- a seat has a place below n
record Place (n k : ℕ) : Type 0 where
  below : pred k < n
  counted : suc (pred k) ≡ k

seat_down : (n k : ℕ) → seat n k ≡ true → Place n k
seat_down n zero is = let z : ⊥ = grind (arith, nat_tests) in absurd z
seat_down n (suc k) is = record { below = grind (arith, nat_tests); counted = refl }

-- sums that differ at one seat only
total_at : (n : ℕ) (f h : ℕ → ℕ) (s : ℕ) → seat n s ≡ true → ((k : ℕ) → (k ≡ s → ⊥) → f k ≡ h k) → total n f + h s ≡ total n h + f s
total_at zero f h s is same = let z : ⊥ = grind (arith, nat_tests) in absurd z
total_at (suc n) f h s is same =
    elim (cases_eq s (suc n)) [
      | inl top ↦
          let rest = total_same n f h (λ k lt. let other : suc k ≡ s → ⊥ = λ e. omega arith in same (suc k) other) in
          let f-top : f s ≡ f (suc n) = ap f top in
          let h-top : h s ≡ h (suc n) = ap h top in
          omega arith
      | inr lower ↦
          let under : seat n s ≡ true = grind (arith, nat_tests) in
          let other : suc n ≡ s → ⊥ = λ e. lower (sym e) in
          omega (arith, total_at n f h s under same, same (suc n) other)
    ]

total_zero : (n : ℕ) (f : ℕ → ℕ) → total n f ≡ 0 → (k : ℕ) → k < n → f (suc k) ≡ 0
total_zero zero f e k lt = let z : ⊥ = omega arith in absurd z
total_zero (suc n) f e k lt =
    elim (cases_eq k n) [
      | inl top ↦ ap (λ j. f (suc j)) top ∙ omega arith
      | inr lower ↦ let less : k < n = omega arith in let rest : total n f ≡ 0 = omega arith in total_zero n f rest k less
    ]

outcome_taken : {S : Type 0} (e : Option Refusal) (x y z : S) → ◌≡◌ {A = Result (Unit {0}) Refusal × S} (Ok tt, y) (outcome e x z) → (e ≡ None) × (y ≡ z)
outcome_taken {S} None x y z is = (refl, ap (λ (p : Result (Unit {0}) Refusal × S). p.1) is)
outcome_taken {S} (Some e) x y z is =
    let never : ◌≡◌ {A = Result (Unit {0}) Refusal} (Ok tt) (Err e) = ap (λ (p : Result (Unit {0}) Refusal × S). p.0) is in
    (cc, cc)

all_parts : (a b : Bool) → cond a (cond b (Some Placed) None) (Some Seat) ≡ None → (a ≡ true) × (b ≡ false)
all_parts true true e = (refl, cc)
all_parts true false e = (refl, refl)
all_parts false b e = (cc, cc)

one_parts : (a c b : Bool) → cond a (cond c (Some Common) (cond b (Some Placed) None)) (Some Seat) ≡ None → (a ≡ true) × (b ≡ false)
one_parts true true b e = (refl, cc)
one_parts true false true e = (refl, cc)
one_parts true false false e = (refl, refl)
one_parts false c b e = (cc, cc)

module _ {R : Type 0} where
  filled_is : (o : Option R) → ◌≡◌ {A = ℕ} (cond (is_some o) 0 1) 0 → is_some o ≡ true
  filled_is None e = let z : ⊥ = omega arith in absurd z
  filled_is (Some w) e = refl

  pub full_from : (x : Page R) → missing x ≡ 0 → Full x
  full_from x none r s takes sends =
      let p = seat_down x.seats r takes in
      let q = seat_down x.seats s sends in
      filled_is (x.at r s)
      (ap₂ (λ i j. cond (is_some (x.at i j)) 0 1) (sym p.counted) (sym q.counted)
      ∙ total_zero x.seats _ (total_zero x.seats _ none (pred s) q.below) (pred r) p.below)

  pub from_full : (x : Page R) → Full x → missing x ≡ 0
  from_full x full =
      total_same x.seats _ (λ _. x.seats * 0)
      (λ s below.
      total_same x.seats _ (λ _. 0) (λ r under. ap (λ b. cond b 0 1) (full (suc r) (suc s) (seat_up x.seats r under) (seat_up x.seats s below)))
      ∙ total_constant x.seats 0)
      ∙ total_constant x.seats (x.seats * 0)
      ∙ ap (λ k. x.seats * k) (mul-zero x.seats)
      ∙ mul-zero x.seats

  -- the number of empty squares of a sender
  abbrev empty_of : Page R → ℕ → ℕ
  empty_of x s = total x.seats (λ r. cond (is_some (x.at r s)) 0 1)

  -- all of them, or none
  all_empty : (x : Page R) (s : ℕ) → sent x s ≡ false → empty_of x s ≡ x.seats
  all_empty x s none =
      total_same x.seats _ (λ _. 1) (λ r lt. ap (λ b. cond b 0 1) (lacks r lt)) ∙ total_constant x.seats 1 ∙ mul-one x.seats
    where
      lacks : (r : ℕ) → r < x.seats → is_some (x.at (suc r) s) ≡ false
      lacks r lt =
          elim (cases_Bool (is_some (x.at (suc r) s))) [
            | inl held ↦ let z : ⊥ = both_ways (sent x s) none (some_from x.seats (λ k. is_some (x.at k s)) r lt held) in absurd z
            | inr bare ↦ bare
          ]

  none_empty : (x : Page R) (s : ℕ) → ((r : ℕ) → seat x.seats r ≡ true → is_some (x.at r s) ≡ true) → empty_of x s ≡ 0
  none_empty x s all =
      total_same x.seats _ (λ _. 0) (λ r lt. ap (λ b. cond b 0 1) (all (suc r) (seat_up x.seats r lt))) ∙ total_constant x.seats 0 ∙ mul-zero x.seats

  -- pages that differ in the squares of one sender only
  sheets_differ : (x y : Page R) (s : ℕ) → y.seats ≡ x.seats → seat x.seats s ≡ true → ((r q : ℕ) → (q ≡ s → ⊥) → y.at r q ≡ x.at r q)
      → missing y + empty_of x s ≡ missing x + empty_of y s
  sheets_differ x y s seats is same =
      ap (λ n. total n (λ q. total n (λ r. cond (is_some (y.at r q)) 0 1)) + empty_of x s) seats
      ∙ total_at x.seats (λ q. total x.seats (λ r. cond (is_some (y.at r q)) 0 1)) (empty_of x) s is
      (λ q other. total_same x.seats _ _ (λ r lt. ap (λ o. cond (is_some o) 0 1) (same (suc r) q other)))
      ∙ ap (λ n. missing x + total n (λ r. cond (is_some (y.at r s)) 0 1)) (sym seats)

  -- and in one square only
  square_differs : (x y : Page R) (s r : ℕ) → y.seats ≡ x.seats → seat x.seats r ≡ true → ((p : ℕ) → (p ≡ r → ⊥) → y.at p s ≡ x.at p s)
      → empty_of y s + cond (is_some (x.at r s)) 0 1 ≡ empty_of x s + cond (is_some (y.at r s)) 0 1
  square_differs x y s r seats is same =
      ap (λ n. total n (λ p. cond (is_some (y.at p s)) 0 1) + cond (is_some (x.at r s)) 0 1) seats
      ∙ total_at x.seats (λ p. cond (is_some (y.at p s)) 0 1) (λ p. cond (is_some (x.at p s)) 0 1) r is (λ p other. ap (λ o. cond (is_some o) 0 1) (same p other))

  all_told : (x y : Page R) (s : ℕ) (w : R) → ◌≡◌ {A = Result (Unit {0}) Refusal × Page R} (Ok tt, y) (place_all x s w) → ToldAll x y s w
  all_told x y s w is =
      let taken = outcome_taken (all_refused x s) x y _ is in
      let parts = all_parts (seat x.seats s) (sent x s) taken.0 in
      let seats : y.seats ≡ x.seats = ap (λ (p : Page R). p.seats) taken.1 in
      let here : (r : ℕ) → seat x.seats r ≡ true → y.at r s ≡ Some w =
      λ r is. ap (λ (p : Page R). p.at r s) taken.1 ∙ cond-true (seat x.seats r && eqb s s) (Some w) (x.at r s) (and_from (seat x.seats r) (eqb s s) is (eq-eqb s s refl)) in
      let elsewhere : (r q : ℕ) → (q ≡ s → ⊥) → y.at r q ≡ x.at r q =
      λ r q other.
      ap (λ (p : Page R). p.at r q) taken.1 ∙ cond-false (seat x.seats r && eqb q s) (Some w) (x.at r q) (and_right (seat x.seats r) (eqb q s) (ne_eqb q s other)) in
      let full : empty_of y s ≡ 0 = none_empty y s (λ r is. ap is_some (here r (ap (λ n. seat n r) (sym seats) ∙ is))) in
      let bare : empty_of x s ≡ x.seats = all_empty x s parts.1 in
      let step = sheets_differ x y s seats parts.0 elsewhere in
      record { here = here; elsewhere = elsewhere; fewer = omega arith }

  one_told : (common : Bool) (x y : Page R) (s r : ℕ) (w : R) → ◌≡◌ {A = Result (Unit {0}) Refusal × Page R} (Ok tt, y) (place_one common x s r w) → ToldOne x y s r w
  one_told common x y s r w is =
      let taken = outcome_taken (one_refused common x s r) x y _ is in
      let parts = one_parts (seat x.seats s && seat x.seats r) common (is_some (x.at r s)) taken.0 in
      let seated = and_parts (seat x.seats s) (seat x.seats r) parts.0 in
      let seats : y.seats ≡ x.seats = ap (λ (p : Page R). p.seats) taken.1 in
      let here : y.at r s ≡ Some w =
      ap (λ (p : Page R). p.at r s) taken.1 ∙ cond-true (eqb r r && eqb s s) (Some w) (x.at r s) (and_from (eqb r r) (eqb s s) (eq-eqb r r refl) (eq-eqb s s refl)) in
      let elsewhere : (p q : ℕ) → (p ≡ r → q ≡ s → ⊥) → y.at p q ≡ x.at p q =
      λ p q other. ap (λ (t : Page R). t.at p q) taken.1 ∙ cond-false (eqb p r && eqb q s) (Some w) (x.at p q) (grind (arith, nat_tests)) in
      let lost : ◌≡◌ {A = ℕ} (cond (is_some (x.at r s)) 0 1) 1 = ap (λ b. cond b 0 1) parts.1 in
      let won : ◌≡◌ {A = ℕ} (cond (is_some (y.at r s)) 0 1) 0 = ap (λ o. cond (is_some o) 0 1) here in
      let square = square_differs x y s r seats seated.1 (λ p other. elsewhere p s (λ e _. other e)) in
      let step = sheets_differ x y s seats seated.0 (λ p q other. elsewhere p q (λ _ e. other e)) in
      record { here = here; elsewhere = elsewhere; fewer = omega arith }

  lifted : (x : Page R) (r s : ℕ) → Full x → looked true x r s ≡ looked false x r s
  lifted x r s full =
      ap (λ m. cond (seat x.seats r && seat x.seats s) (Ok (cond (ltb 0 m) None (x.at r s))) (Err Seat)) (from_full x full)

  hidden : (x : Page R) (r s : ℕ) → (Full x → ⊥) → seat x.seats r ≡ true → seat x.seats s ≡ true → looked true x r s ≡ Ok None
  hidden x r s lacks takes sends =
      cond-true (seat x.seats r && seat x.seats s) (Ok (seen true x r s)) (Err Seat) (and_from _ _ takes sends)
      ∙ elim (cases_lt 0 (missing x)) [
        | inl some_left ↦ ap Ok (cond-true (ltb 0 (missing x)) None (x.at r s) (lt-ltb 0 (missing x) some_left))
        | inr none_left ↦ let none : missing x ≡ 0 = omega arith in let z : ⊥ = lacks (full_from x none) in absurd z
      ]

pub sheet_laws : (R : Type 0) → SheetLaws R
sheet_laws R = record {
  told_all = all_told;
  told_one = one_told;
  none_missing = λ x. (full_from x, from_full x);
  all_missing = λ x.
      total_same x.seats _ (λ _. x.seats) (λ s lt. total_constant x.seats 1 ∙ mul-one x.seats) ∙ total_constant x.seats x.seats;
  veil_lifted = lifted;
  veil_hides = hidden;
  row_told = λ v x r row after is. gathered_is _ after (row_taken (eqb (length row) x.seats) (seat x.seats r) (row_seen v x r) row after is);
}
