-- No take is refused for the word in an own square.
use Rattle.std.proofs.Common.{◌≡◌, ℕ, Bool, true, false, cond, not, ◌&&◌, eqb, ltb, leb, List, [], ◌∷◌, length, is_some, Some, None, Option, sym, refl, ap, ◌∙◌, subst, ap₂, inl, inr, arith}
use Rattle.std.proofs.lemmas.Bool.{and_from, and_left, and_right, cases_Bool, eq-eqb, ltb-false, not_from_false}
use Rattle.ring.specs.declared.Ring.{Ghosts}
use Rattle.curve.specs.Curve.{El, or_else}
use Rattle.curve.specs.declared.refusal.Refusal.{Refusal}
use Rattle.curve.specs.declared.refusal.Refusal.TheVariants.{Length, Missing, Placed, Halted, Done, Seat as NoSeat, Common, Output as NoOutput, Unopened, Own}
use Rattle.circuit.specs.Openings.{openings_of}
use Rattle.exchange.specs.Sheet.{seat, some, sent, missing}
use Rattle.exchange.proofs.Laws.{full_from}
use Rattle.claim.specs.Bench.{Setup, State, Call, Post, TellAll, TellOne, Look, Take, ResultOf, FaultOf, inner, outer, over}
use Rattle.claim.specs.Steps.{same_numbers, output_positions, place_of, shown_by, owned, own_squares, ended, refusal}
use Rattle.claim.proofs.Rows.{some_none}
use Rattle.claim.proofs.Invariant.{Holds}

-- an answer that is not `own`
abbrev Never : Option Refusal → Type 0
Never o = o ≡ Some Own → ⊥

none_never : Never None
none_never e = let z : ◌≡◌ {A = ℕ} 0 1 = cc in omega arith

placed_never : Never (Some Placed)
placed_never e = let z : ◌≡◌ {A = ℕ} 0 1 = cc in omega arith

seat_never : Never (Some NoSeat)
seat_never e = let z : ◌≡◌ {A = ℕ} 0 1 = cc in omega arith

common_never : Never (Some Common)
common_never e = let z : ◌≡◌ {A = ℕ} 0 1 = cc in omega arith

missing_never : Never (Some Missing)
missing_never e = let z : ◌≡◌ {A = ℕ} 0 1 = cc in omega arith

length_never : Never (Some Length)
length_never e = let z : ◌≡◌ {A = ℕ} 0 1 = cc in omega arith

output_never : Never (Some NoOutput)
output_never e = let z : ◌≡◌ {A = ℕ} 0 1 = cc in omega arith

unopened_never : Never (Some Unopened)
unopened_never e = let z : ◌≡◌ {A = ℕ} 0 1 = cc in omega arith

halted_never : Never (Some Halted)
halted_never e = let z : ◌≡◌ {A = ℕ} 0 1 = cc in omega arith

done_never : Never (Some Done)
done_never e = let z : ◌≡◌ {A = ℕ} 0 1 = cc in omega arith

cond_never : (b : Bool) {x y : Option Refusal} → Never x → Never y → Never (cond b x y)
cond_never true p q = p
cond_never false p q = q

or_never : (x : Option Refusal) {y : Option Refusal} → Never x → Never y → Never (or_else x y)
or_never None p q = q
or_never (Some e) p q = p

module _ {R C : Type 0} (G : Ghosts R C) (U : Setup R) where
  ended_never : (s : State R) → Never (ended G U s)
  ended_never s = cond_never s.halted halted_never (cond_never (over U s) done_never none_never)

  -- no take is refused for an own square: what stands there is what the seat showed
  same_self : (xs : List ℕ) → same_numbers xs xs ≡ true
  same_self [] = refl
  same_self (x ∷ xs) = and_from (eqb x x) (same_numbers xs xs) (eq-eqb x x refl) (same_self xs)

  owns : (o : Option R) (x : El G) → is_some o ≡ true → ((w : R) → o ≡ Some w → G.element w ≡ x) → owned G U o x ≡ true
  owns None x there is = there
  owns (Some w) x there is = ap (λ (y : El G). same_numbers y.0 x.0) (is w refl) ∙ same_self x.0

  all_owned : (s : State R) (H : ℕ → ℕ → ℕ → Option R) → Holds G U s H → ltb 0 (missing s.page) ≡ false → own_squares G U s ≡ true
  all_owned s H h full =
      not_from_false (some U.seats (λ i. U.inside i && not (owned G U (s.page.at i i) (shown_by G U s i))))
      (some_none U.seats (λ i. U.inside i && not (owned G U (s.page.at i i) (shown_by G U s i)))
      (λ i seated. elim (cases_Bool (U.inside i)) [
        | inl inside ↦
            let is : inner U i ≡ true = ap₂ ◌&&◌ seated inside in
            let here : seat s.page.seats i ≡ true = ap (λ n. seat n i) h.seats ∙ seated in
            let filled : missing s.page ≡ 0 = omega (arith, ltb-false 0 (missing s.page) full) in
            and_right (U.inside i) (not (owned G U (s.page.at i i) (shown_by G U s i)))
            (ap not (owns (s.page.at i i) (shown_by G U s i) (full_from s.page filled i i here here) (λ w held. h.words i i w is held)))
        | inr outside ↦ and_left (U.inside i) (not (owned G U (s.page.at i i) (shown_by G U s i))) outside
      ]))

  pub never_own : (s : State R) (H : ℕ → ℕ → ℕ → Option R) → Holds G U s H → (c : Call R) → refusal G U s c ≡ Some Own → ⊥
  never_own s H h Post = or_never (ended G U s) (ended_never s) (cond_never s.posted placed_never none_never)
  never_own s H h (TellAll q w) = or_never (ended G U s) (ended_never s) (cond_never (outer U q) (cond_never (seat s.page.seats q) (cond_never (sent s.page q) placed_never none_never) seat_never) seat_never)
  never_own s H h (TellOne q r w) =
      or_never (ended G U s) (ended_never s)
      (cond_never (outer U q && seat U.seats r)
      (cond_never (seat s.page.seats q && seat s.page.seats r) (cond_never U.common common_never (cond_never (is_some (s.page.at r q)) placed_never none_never)) seat_never) seat_never)
  never_own s H h (Look r q) = cond_never (outer U r && seat U.seats q) none_never seat_never
  never_own s H h (Take row) = cond_never (eqb (length row) U.seats) (or_never (ended G U s) (ended_never s) (tests (ltb 0 (missing s.page)) refl)) length_never
    where
      tests : (b : Bool) → ltb 0 (missing s.page) ≡ b → Never (cond b (Some Missing) (cond (own_squares G U s) None (Some Own)))
      tests true e = missing_never
      tests false e = subst (λ b. Never (cond b None (Some Own))) (sym (all_owned s H h e)) none_never
  never_own s H h (ResultOf i o l) =
      cond_never (inner U i)
      (cond_never (leb (length (openings_of U.codes)) (place_of U o)) output_never
      (cond_never (leb (length (s.progress i).opened) (place_of U o)) unopened_never (cond_never (ltb (length l) (length (output_positions G U o))) length_never none_never)))
      seat_never
  never_own s H h (FaultOf i) = cond_never (inner U i) none_never seat_never
