-- The pages of tables: what a part that is filled, an emptied table and a count of places mean for the squares.
use Rattle.std.proofs.Common.{◌≡◌, ℕ, zero, suc, pred, ◌+◌, ◌*◌, ◌<◌, ◌≤◌, Bool, true, false, cond, ◌&&◌, ◌||◌, eqb, ltb, leb, List, length, get_or, set, replicate, is_some, Some, None, Ok, Option, Result, sym, refl, ap, ◌∙◌, inl, inr, add-zero, arith}
use Rattle.std.proofs.lemmas.List.{get_or-set_same, get_or-set_other, length-set}
use Rattle.std.proofs.lemmas.Bool.{and_from, cases_eq, cond-true, cond-false}
use Rattle.std.proofs.lemmas.Bool.Decides.{nat_tests}
use Rattle.std.proofs.lemmas.Grind.{common_steps}
use Rattle.curve.specs.Curve.{seats_wrong}
use Rattle.curve.specs.declared.refusal.Refusal.{Refusal}
use Rattle.curve.specs.declared.refusal.Refusal.TheVariants.{Seats, Length, Placed, Seat}
use Rattle.exchange.specs.Sheet.{Page, seat, some, total, written, outcome, sent, all_refused, one_refused, place_all, place_one, missing, set_seats}
use Rattle.exchange.specs.Tables.{table_page, lines_page, board_page}
use Rattle.exchange.proofs.Places.{outside_all, outside_one, row_of, square_of, column_of, row_within}
use Rattle.exchange.proofs.Counts.{seat_up, some_same, some_constant, total_same, total_constant, total_times, total_rows, held_part, empties_first, filled}

or_false : (b : Bool) → (b || false) ≡ b
or_false true = refl
or_false false = refl

-- pages with the same squares
pub same_page : {R : Type 0} {x y : Page R} → x.seats ≡ y.seats → ((r s : ℕ) → x.at r s ≡ y.at r s) → x.room ≡ y.room → x ≡ y
same_page n a m = λ i. record { seats = n i; at = λ r s. a r s i; room = m i }

-- an outcome, seen through a map of states
pub outcome_like : {S T : Type 0} (f : S → T) (e d : Option Refusal) (r : Result (Unit {0}) Refusal) (x y z : S) (w : T)
    → ◌≡◌ {A = Result (Unit {0}) Refusal × S} (r, y) (outcome e x z)
    → e ≡ d
    → f z ≡ w
    → ◌≡◌ {A = Result (Unit {0}) Refusal × T} (r, f y) (outcome d (f x) w)
outcome_like {S} f e d r x y z w is same next = ap (λ (p : Result (Unit {0}) Refusal × S). (p.0, f p.1)) is ∙ through e ∙ ap (λ o. outcome o (f x) w) same
  where
    through : (o : Option Refusal) → ((outcome o x z).0, f (outcome o x z).1) ≡ outcome o (f x) w
    through None = ap (λ t. (Ok tt, t)) next
    through (Some b) = refl

module _ {R : Type 0} where
  length_filled : (xs : List (Option R)) (start count : ℕ) (o : Option R) → length (filled xs start count o) ≡ length xs
  length_filled xs start zero o = refl
  length_filled xs start (suc k) o = length-set (filled xs start k o) (start + k) o ∙ length_filled xs start k o

  -- what stands at a place after a part is filled
  pub get_d_filled : (xs : List (Option R)) (start count : ℕ) (o : Option R) → start + count ≤ length xs → (k : ℕ)
      → get_or (filled xs start count o) k None ≡ cond (leb start k && ltb k (start + count)) o (get_or xs k None)
  get_d_filled xs start zero o within k = let none : (leb start k && ltb k (start + 0)) ≡ false = grind (arith, nat_tests) in sym (cond-false _ o (get_or xs k None) none)
  get_d_filled xs start (suc c) o within k =
      elim (cases_eq k (start + c)) [
        | inl same ↦
            let here : start + c < length (filled xs start c o) = omega (arith, length_filled xs start c o) in
            let now : (leb start k && ltb k (start + suc c)) ≡ true = grind (arith, nat_tests) in
            ap (λ j. get_or (set (filled xs start c o) (start + c) o) j None) same
            ∙ get_or-set_same (filled xs start c o) (start + c) o None here
            ∙ sym (cond-true _ o (get_or xs k None) now)
        | inr other ↦
            let still : (leb start k && ltb k (start + c)) ≡ (leb start k && ltb k (start + suc c)) = grind (arith, nat_tests) in
            get_or-set_other (filled xs start c o) (start + c) k o None other
            ∙ get_d_filled xs start c o (omega arith) k
            ∙ ap (λ b. cond b o (get_or xs k None)) still
      ]

  square_filled : (t e f : Bool) (o x : Option R) → (t ≡ true → f ≡ e) → (t ≡ false → e ≡ false) → cond t (cond f o x) None ≡ cond e o (cond t x None)
  square_filled true e f o x is none = ap (λ b. cond b o x) (is refl)
  square_filled false e f o x is none = sym (cond-false e o None (none refl))

  -- a part is filled that is the place of those squares of the seats of which e holds
  pub page_filled : (place : ℕ → ℕ → ℕ) (n : ℕ) (xs : List (Option R)) (start count : ℕ) (w : R) (e : ℕ → ℕ → Bool)
      → start + count ≤ length xs
      → ((r s : ℕ) → (seat n r && seat n s) ≡ true → (leb start (place r s) && ltb (place r s) (start + count)) ≡ e r s)
      → ((r s : ℕ) → (seat n r && seat n s) ≡ false → e r s ≡ false)
      → table_page place n (filled xs start count (Some w)) ≡ written (table_page place n xs) e w
  page_filled place n xs start count w e within is none =
      same_page refl
      (λ r s.
      ap (λ o. cond (seat n r && seat n s) o None) (get_d_filled xs start count (Some w) within (place r s))
      ∙ square_filled (seat n r && seat n s) (e r s) _ (Some w) (get_or xs (place r s) None) (is r s) (none r s))
      (length_filled xs start count (Some w))

  -- a table is emptied for n seats
  pub seats_taken : (points n m : ℕ) (need : ℕ → ℕ) (place : ℕ → ℕ → ℕ) (x : Page R) (xs ws : List (Option R)) {r : Result (Unit {0}) Refusal} {u : Unit {0}}
      → ◌≡◌ {A = Result (Unit {0}) Refusal × List (Option R)} (r, ws) (outcome (cond (seats_wrong points n) (Some Seats) (cond (leb m (length xs)) None (Some Length))) xs (replicate (length xs) None))
      → r ≡ Ok u
      → m ≡ need n
      → length xs ≡ x.room
      → ◌≡◌ {A = Result (Unit {0}) Refusal × Page R} (Ok tt, table_page place n ws) (set_seats points need x n)
  seats_taken points n m need place x xs ws done ok same room = grind (arith, common_steps)

  -- in the squares of the seats stand the places of the table
  page_at : (place : ℕ → ℕ → ℕ) (n : ℕ) (xs : List (Option R)) (r s : ℕ) → seat n r ≡ true → seat n s ≡ true → (table_page place n xs).at r s ≡ get_or xs (place r s) None
  page_at place n xs r s a b = cond-true _ (get_or xs (place r s) None) None (and_from (seat n r) (seat n s) a b)

  page_missing : (place : ℕ → ℕ → ℕ) (n : ℕ) (xs : List (Option R)) → missing (table_page place n xs) ≡ total n (λ s. total n (λ r. cond (is_some (get_or xs (place r s) None)) 0 1))
  page_missing place n xs =
      total_same n _ _
      (λ s below. total_same n _ _ (λ r under. ap (λ o. cond (is_some o) 0 1) (page_at place n xs (suc r) (suc s) (seat_up n r under) (seat_up n s below))))

  page_sent : (place : ℕ → ℕ → ℕ) (n : ℕ) (xs : List (Option R)) (s : ℕ) → seat n s ≡ true → sent (table_page place n xs) s ≡ some n (λ r. is_some (get_or xs (place r s) None))
  page_sent place n xs s is = some_same n _ _ (λ r under. ap is_some (page_at place n xs (suc r) s (seat_up n r under) is))

  pub lines_missing : (n : ℕ) (xs : List (Option R)) → empties_first xs (n * n) ≡ missing (lines_page n xs)
  lines_missing n xs = total_rows n n (λ k. cond (is_some (get_or xs k None)) 0 1) ∙ sym (page_missing (λ r s. pred s * n + pred r) n xs)

  pub board_missing : (n : ℕ) (xs : List (Option R)) → n * empties_first xs n ≡ missing (board_page n xs)
  board_missing n xs =
      sym (total_times n n (λ s. cond (is_some (get_or xs (pred s) None)) 0 1))
      ∙ total_same n _ _ (λ s below. sym (total_constant n (cond (is_some (get_or xs s None)) 0 1)))
      ∙ sym (page_missing (λ r s. pred s) n xs)

  -- a word is placed for all by filling the places of the sender's squares
  placed_all : (place : ℕ → ℕ → ℕ) (n s : ℕ) (xs ws : List (Option R)) (start count : ℕ) (w : R) (r : Result (Unit {0}) Refusal)
      → seat n s ≡ true
      → start + count ≤ length xs
      → held_part xs start count ≡ some n (λ p. is_some (get_or xs (place p s) None))
      → ((p q : ℕ) → (seat n p && seat n q) ≡ true → (leb start (place p q) && ltb (place p q) (start + count)) ≡ (seat n p && eqb q s))
      → ◌≡◌ {A = Result (Unit {0}) Refusal × List (Option R)} (r, ws) (outcome (cond (held_part xs start count) (Some Placed) None) xs (filled xs start count (Some w)))
      → ◌≡◌ {A = Result (Unit {0}) Refusal × Page R} (r, table_page place n ws) (place_all (table_page place n xs) s w)
  placed_all place n s xs ws start count w r is within same squares done =
      outcome_like (table_page place n) _ (all_refused (table_page place n xs) s) r xs ws (filled xs start count (Some w)) _ done
      (ap (λ b. cond b (Some Placed) None) (same ∙ sym (page_sent place n xs s is)) ∙ sym (cond-true (seat n s) (cond (sent (table_page place n xs) s) (Some Placed) None) (Some Seat) is))
      (page_filled place n xs start count w (λ p q. seat n p && eqb q s) within squares (λ p q. outside_all n s p q is))

  -- lines: the sender's row is filled
  pub lines_all : (n s : ℕ) (xs ws : List (Option R)) (start : ℕ) (w : R) (r : Result (Unit {0}) Refusal)
      → seat n s ≡ true
      → n * n ≤ length xs
      → start ≡ pred s * n + 0
      → ◌≡◌ {A = Result (Unit {0}) Refusal × List (Option R)} (r, ws) (outcome (cond (held_part xs start n) (Some Placed) None) xs (filled xs start n (Some w)))
      → ◌≡◌ {A = Result (Unit {0}) Refusal × Page R} (r, lines_page n ws) (place_all (lines_page n xs) s w)
  lines_all n s xs ws start w r is room at done =
      placed_all (λ p q. pred q * n + pred p) n s xs ws (pred s * n) n w r is (omega (arith, row_within n s is)) refl (λ p q. row_of n s p q is)
      (done ∙ ap (λ j. outcome (cond (held_part xs j n) (Some Placed) None) xs (filled xs j n (Some w))) (at ∙ add-zero (pred s * n)))

  -- a board: the sender's place is filled
  pub board_all : (n s : ℕ) (xs ws : List (Option R)) (start : ℕ) (w : R) (r : Result (Unit {0}) Refusal)
      → seat n s ≡ true
      → n ≤ length xs
      → start ≡ pred s
      → ◌≡◌ {A = Result (Unit {0}) Refusal × List (Option R)} (r, ws) (outcome (cond (held_part xs start 1) (Some Placed) None) xs (filled xs start 1 (Some w)))
      → ◌≡◌ {A = Result (Unit {0}) Refusal × Page R} (r, board_page n ws) (place_all (board_page n xs) s w)
  board_all n s xs ws start w r is room at done =
      let some-seat : 0 < n = grind (arith, nat_tests) in
      let within : pred s + 1 ≤ length xs = grind (arith, nat_tests) in
      placed_all (λ p q. pred q) n s xs ws (pred s) 1 w r is within
      (or_false (is_some (get_or xs (pred s + 0) None)) ∙ ap (λ j. is_some (get_or xs j None)) (add-zero (pred s)) ∙ sym (some_constant n (is_some (get_or xs (pred s) None)) some-seat))
      (λ p q. column_of n s p q is)
      (done ∙ ap (λ j. outcome (cond (held_part xs j 1) (Some Placed) None) xs (filled xs j 1 (Some w))) at)

  -- lines: the place of one square is filled
  pub lines_one : (n s t : ℕ) (xs ws : List (Option R)) (start : ℕ) (w : R) (r : Result (Unit {0}) Refusal)
      → seat n s ≡ true
      → seat n t ≡ true
      → n * n ≤ length xs
      → start ≡ pred s * n + pred t
      → ◌≡◌ {A = Result (Unit {0}) Refusal × List (Option R)} (r, ws) (outcome (cond (held_part xs start 1) (Some Placed) None) xs (filled xs start 1 (Some w)))
      → ◌≡◌ {A = Result (Unit {0}) Refusal × Page R} (r, lines_page n ws) (place_one false (lines_page n xs) s t w)
  lines_one n s t xs ws start w r sends takes room at done =
      let within : (pred s * n + pred t) + 1 ≤ length xs = let row = row_within n s sends in grind (arith, nat_tests) in
      outcome_like (lines_page n) _ (one_refused false (lines_page n xs) s t) r xs ws (filled xs (pred s * n + pred t) 1 (Some w)) _
      (done ∙ ap (λ j. outcome (cond (held_part xs j 1) (Some Placed) None) xs (filled xs j 1 (Some w))) at)
      (ap (λ b. cond b (Some Placed) None)
      (or_false (is_some (get_or xs (pred s * n + pred t + 0) None))
      ∙ ap (λ j. is_some (get_or xs j None)) (add-zero (pred s * n + pred t))
      ∙ ap is_some (sym (page_at (λ p q. pred q * n + pred p) n xs t s takes sends)))
      ∙ sym (cond-true (seat n s && seat n t) (cond (is_some ((lines_page n xs).at t s)) (Some Placed) None) (Some Seat) (and_from (seat n s) (seat n t) sends takes)))
      (page_filled (λ p q. pred q * n + pred p) n xs (pred s * n + pred t) 1 w (λ p q. eqb p t && eqb q s) within (λ p q. square_of n s t p q sends takes)
      (λ p q. outside_one n s t p q sends takes))
