-- Rows of words that a receiver sees.
use Rattle.std.proofs.Common.{◌≡◌, ℕ, zero, suc, ◌+◌, ◌<◌, ◌≤◌, Bool, true, false, cond, ◌&&◌, eqb, List, [], ◌∷◌, map, length, is_some, Some, None, Ok, Err, Option, Result, sym, refl, ap, ◌∙◌, add-one, arith}
use Rattle.std.proofs.lemmas.Bool.{and_from, cond-true, eq-eqb, false≢true}
use Rattle.curve.specs.Curve.{listed}
use Rattle.curve.specs.declared.refusal.Refusal.{Refusal}
use Rattle.curve.specs.declared.refusal.Refusal.TheVariants.{Length, Missing, Seat}
use Rattle.exchange.specs.Sheet.{Page, seat, seen, looked, word_in, gathered, row_seen, gather, collected}
use Rattle.exchange.proofs.Counts.{seat_up}

module _ {R : Type 0} where
  pub gathered_none : (n : ℕ) (f : ℕ → Option R) (k : ℕ) → k < n → f k ≡ None → gathered (listed n f) ≡ None
  gathered_none zero f k lt e = let z : ⊥ = omega arith in absurd z
  gathered_none (suc n) f zero lt e = ap (λ o. gathered (o ∷ listed n (λ k. f (suc k)))) e
  gathered_none (suc n) f (suc k) lt e =
      let less : k < n = omega arith in
      head (f zero) (listed n (λ j. f (suc j))) (gathered_none n (λ j. f (suc j)) k less e)
    where
      head : (o : Option R) (os : List (Option R)) → gathered os ≡ None → gathered (o ∷ os) ≡ None
      head None os e = refl
      head (Some w) os e = ap (λ t. elim t [ None ↦ None | Some ws ↦ Some (w ∷ ws) ]) e

  gathered_some : (n : ℕ) (f : ℕ → Option R) → ((k : ℕ) → k < n → is_some (f k) ≡ true) → is_some (gathered (listed n f)) ≡ true
  gathered_some zero f all = refl
  gathered_some (suc n) f all =
      head (f zero) (listed n (λ j. f (suc j))) (all 0 (omega arith)) (gathered_some n (λ j. f (suc j)) (λ k lt. let up : suc k < suc n = omega arith in all (suc k) up))
    where
      both : (w : R) (t : Option (List R)) → is_some t ≡ true → is_some (elim t as (λ _. Option (List R)) [ None ↦ None | Some ws ↦ Some (w ∷ ws) ]) ≡ true
      both w None e = e
      both w (Some ws) e = refl

      head : (o : Option R) (os : List (Option R)) → is_some o ≡ true → is_some (gathered os) ≡ true → is_some (gathered (o ∷ os)) ≡ true
      head None os a b = a
      head (Some w) os a b = both w (gathered os) b

  gathered_map : (ws : List R) → gathered (map Some ws) ≡ Some ws
  gathered_map [] = refl
  gathered_map (w ∷ ws) = ap (λ t. elim t [ None ↦ None | Some vs ↦ Some (w ∷ vs) ]) (gathered_map ws)

  gathered_step : (w : R) (os : List (Option R)) (t : Option (List R)) (ws : List R) → gathered os ≡ t
      → ((vs : List R) → gathered os ≡ Some vs → map Some vs ≡ os)
      → elim t as (λ _. Option (List R)) [ None ↦ None | Some vs ↦ Some (w ∷ vs) ] ≡ Some ws
      → map Some ws ≡ Some w ∷ os
  gathered_step w os None ws is rest e = cc
  gathered_step w os (Some vs) ws is rest e = let same : w ∷ vs ≡ ws = cc in ap (map Some) (sym same) ∙ ap (λ l. Some w ∷ l) (rest vs is)

  -- the words that are gathered are those that were there
  pub gathered_is : (os : List (Option R)) (ws : List R) → gathered os ≡ Some ws → map Some ws ≡ os
  gathered_is [] ws e = let same : [] ≡ ws = cc in ap (map Some) (sym same)
  gathered_is (None ∷ os) ws e = cc
  gathered_is (Some w ∷ os) ws e = gathered_step w os (gathered os) ws refl (λ vs is. gathered_is os vs is) e

  pub row_taken : (a b : Bool) (o : Option (List R)) (row after : List R)
      → ◌≡◌ {A = Result (Unit {0}) Refusal × List R} (Ok tt, after) (cond a (cond b (gather o row) (Err Seat, row)) (Err Length, row))
      → o ≡ Some after
  row_taken true true None row after is = let never : ◌≡◌ {A = Result (Unit {0}) Refusal} (Ok tt) (Err Missing) = ap (λ (p : Result (Unit {0}) Refusal × List R). p.0) is in cc
  row_taken true true (Some ws) row after is = ap Some (sym (ap (λ (p : Result (Unit {0}) Refusal × List R). p.1) is))
  row_taken true false o row after is = let never : ◌≡◌ {A = Result (Unit {0}) Refusal} (Ok tt) (Err Seat) = ap (λ (p : Result (Unit {0}) Refusal × List R). p.0) is in cc
  row_taken false b o row after is = let never : ◌≡◌ {A = Result (Unit {0}) Refusal} (Ok tt) (Err Length) = ap (λ (p : Result (Unit {0}) Refusal × List R). p.0) is in cc

  word_there : (o : Option R) (w : R) → Ok w ≡ word_in (Ok o) → o ≡ Some w
  word_there None w e = cc
  word_there (Some u) w e = cc

  word_lacks : (o : Option R) (e : Refusal) → Err e ≡ word_in (Ok o) → (e ≡ Missing) × (o ≡ None)
  word_lacks None e is = (cc, refl)
  word_lacks (Some u) e is = (cc, cc)

  module _ (v : Bool) (x : Page R) (r : ℕ) (seated : seat x.seats r ≡ true) where
    looked_is : (k : ℕ) → k < x.seats → looked v x r (k + 1) ≡ Ok (seen v x r (suc k))
    looked_is k lt =
        ap (looked v x r) (add-one k)
        ∙ cond-true (seat x.seats r && seat x.seats (suc k)) (Ok (seen v x r (suc k))) (Err Seat) (and_from _ _ seated (seat_up x.seats k lt))

    pub seen_there : (k : ℕ) (w : R) → k < x.seats → Ok w ≡ word_in (looked v x r (k + 1)) → seen v x r (suc k) ≡ Some w
    seen_there k w lt e = word_there (seen v x r (suc k)) w (e ∙ ap word_in (looked_is k lt))

    seen_lacks : (k : ℕ) (e : Refusal) → k < x.seats → Err e ≡ word_in (looked v x r (k + 1)) → (e ≡ Missing) × (seen v x r (suc k) ≡ None)
    seen_lacks k e lt is = word_lacks (seen v x r (suc k)) e (is ∙ ap word_in (looked_is k lt))

    -- a seat whose word was seen
    pub there_at : (k : ℕ) (w : R) → 0 < k → k ≤ x.seats → Ok w ≡ word_in (looked v x r k) → is_some (seen v x r k) ≡ true
    there_at zero w low high e = let z : ⊥ = omega arith in absurd z
    there_at (suc k) w low high e = ap is_some (seen_there k w (omega arith) (e ∙ ap (λ j. word_in (looked v x r j)) (sym (add-one k))))

    -- all words are there
    pub row_there : ((k : ℕ) → k < x.seats → is_some (seen v x r (suc k)) ≡ true) → Ok tt ≡ (gather (row_seen v x r) []).0
    row_there all = taken (row_seen v x r) (gathered_some x.seats (λ k. seen v x r (suc k)) all)
      where
        taken : (t : Option (List R)) → is_some t ≡ true → Ok tt ≡ (gather t []).0
        taken None e = let z : ⊥ = false≢true e in absurd z
        taken (Some ws) e = refl

    -- a word is missing
    pub row_lacks : (k : ℕ) (e : Refusal) → k < x.seats → Err e ≡ word_in (looked v x r (k + 1)) → Err e ≡ (gather (row_seen v x r) []).0
    row_lacks k e lt is =
        let lack = seen_lacks k e lt is in
        ap Err lack.0 ∙ sym (ap (λ t. (gather t []).0) (gathered_none x.seats (λ j. seen v x r (suc j)) k lt lack.1))

    pub lacks_at : (k : ℕ) (e : Refusal) → 0 < k → k ≤ x.seats → Err e ≡ word_in (looked v x r k) → Err e ≡ (gather (row_seen v x r) []).0
    lacks_at zero e low high is = let z : ⊥ = omega arith in absurd z
    lacks_at (suc k) e low high is = row_lacks k e (omega arith) (is ∙ ap (λ j. word_in (looked v x r j)) (sym (add-one k)))

    -- no word is missing where all are there
    pub never_lacks : (k : ℕ) (e : Refusal) → k < x.seats → Err e ≡ word_in (looked v x r (k + 1)) → Ok tt ≡ (gather (row_seen v x r) []).0 → ⊥
    never_lacks k e lt is there = let both : ◌≡◌ {A = Result (Unit {0}) Refusal} (Ok tt) (Err e) = there ∙ sym (row_lacks k e lt is) in let z : ◌≡◌ {A = ℕ} 0 1 = cc in omega arith

    collected_seated : (row : List R) → length row ≡ x.seats → collected v x r row ≡ gather (row_seen v x r) row
    collected_seated row long = cond-true (eqb (length row) x.seats) _ (Err Length, row) (eq-eqb _ _ long) ∙ cond-true (seat x.seats r) (gather (row_seen v x r) row) (Err Seat, row) seated

    pub collected_all : (row after : List R) → length row ≡ x.seats → map Some after ≡ listed x.seats (λ k. seen v x r (suc k)) → (Ok tt, after) ≡ collected v x r row
    collected_all row after long is =
        sym (collected_seated row long ∙ ap (λ t. gather t row) (ap gathered (sym is) ∙ gathered_map after))
