-- The sheet of an exchange has a square for each receiver and each sender; a square is empty or holds one word.
use Rattle.std.specs.Prelude.{◌≡◌, ℕ, zero, suc, ◌+◌, ◌≤◌, Bool, true, false, cond, ◌&&◌, ◌||◌, List, [], ◌∷◌, length, is_some, Some, None, Ok, Err, Option, Result, ◌==◌, nat_le, nat_lt}
use Rattle.curve.specs.Curve.{seats_wrong, listed}
use Rattle.curve.specs.declared.refusal.Refusal.{Refusal}
use Rattle.curve.specs.declared.refusal.Refusal.TheVariants.{Seats, Length, Missing, Placed, Seat, Common}

-- what an exchange stands for: the number of seats, the square of each receiver and sender, and the room of its table
pub record Page (R : Type 0) : Type 0 where
  pub seats : ℕ
  pub at : ℕ → ℕ → Option R
  pub room : ℕ

-- k is one of the seats 1 to n
abbrev pub seat : ℕ → ℕ → Bool
seat n k = nat_lt 0 k && nat_le k n

-- f 1 or .. or f n
abbrev pub some : ℕ → (ℕ → Bool) → Bool
some zero f = false
some (suc n) f = f (suc n) || some n f

-- f 1 + .. + f n
abbrev pub total : ℕ → (ℕ → ℕ) → ℕ
total zero f = 0
total (suc n) f = f (suc n) + total n f

-- n seats and empty squares
abbrev pub blank : {R : Type 0} → ℕ → ℕ → Page R
blank n room = record { seats = n; at = λ _ _. None; room = room }

-- the page with the word w in those squares of which f holds
abbrev pub written : {R : Type 0} → Page R → (ℕ → ℕ → Bool) → R → Page R
written x f w = record { seats = x.seats; at = λ r s. cond (f r s) (Some w) (x.at r s); room = x.room }

-- a refusal and no change, or the next state
abbrev pub outcome : {S : Type 0} → Option Refusal → S → S → Result (Unit {0}) Refusal × S
outcome None x next = (Ok tt, next)
outcome (Some e) x next = (Err e, x)

-- some square of the sender is filled
abbrev pub sent : {R : Type 0} → Page R → ℕ → Bool
sent x s = some x.seats (λ r. is_some (x.at r s))

-- why a word of s for all is refused: s is no seat, or has placed
abbrev pub all_refused : {R : Type 0} → Page R → ℕ → Option Refusal
all_refused x s = cond (seat x.seats s) (cond (sent x s) (Some Placed) None) (Some Seat)

-- the word w from s to every seat
abbrev pub place_all : {R : Type 0} → Page R → ℕ → R → Result (Unit {0}) Refusal × Page R
place_all x s w = outcome (all_refused x s) x (written x (λ p q. seat x.seats p && q == s) w)

-- why a word of s for r is refused: one is no seat, words are for all, or the square is filled
abbrev pub one_refused : {R : Type 0} → Bool → Page R → ℕ → ℕ → Option Refusal
one_refused common x s r =
    cond (seat x.seats s && seat x.seats r) (cond common (Some Common) (cond (is_some (x.at r s)) (Some Placed) None)) (Some Seat)

-- the word w from s to r alone
abbrev pub place_one : {R : Type 0} → Bool → Page R → ℕ → ℕ → R → Result (Unit {0}) Refusal × Page R
place_one common x s r w = outcome (one_refused common x s r) x (written x (λ p q. (p == r) && q == s) w)

-- the number of empty squares
abbrev pub missing : {R : Type 0} → Page R → ℕ
missing x = total x.seats (λ s. total x.seats (λ r. cond (is_some (x.at r s)) 0 1))

-- what r sees of s: a veil hides all squares until each is filled
abbrev pub seen : {R : Type 0} → Bool → Page R → ℕ → ℕ → Option R
seen veiled x r s = cond (veiled && nat_lt 0 (missing x)) None (x.at r s)

-- what looking answers
abbrev pub looked : {R : Type 0} → Bool → Page R → ℕ → ℕ → Result (Option R) Refusal
looked veiled x r s = cond (seat x.seats r && seat x.seats s) (Ok (seen veiled x r s)) (Err Seat)

-- all squares emptied
abbrev pub turned : {R : Type 0} → Page R → Page R
turned x = blank x.seats x.room

-- why n seats are refused, where the ring has so many points and n seats need so many places
abbrev pub seats_refused : {R : Type 0} → ℕ → (ℕ → ℕ) → Page R → ℕ → Option Refusal
seats_refused points need x n = cond (seats_wrong points n) (Some Seats) (cond (nat_le (need n) x.room) None (Some Length))

-- n seats, and all squares emptied
abbrev pub set_seats : {R : Type 0} → ℕ → (ℕ → ℕ) → Page R → ℕ → Result (Unit {0}) Refusal × Page R
set_seats points need x n = outcome (seats_refused points need x n) x (blank n x.room)

-- all words, if each is there
abbrev pub gathered : {R : Type 0} → List (Option R) → Option (List R)
gathered [] = Some []
gathered (None ∷ os) = None
gathered (Some w ∷ os) = elim (gathered os) [ None ↦ None | Some ws ↦ Some (w ∷ ws) ]

-- what r sees of the seats 1 to n, if each word is there
abbrev pub row_seen : {R : Type 0} → Bool → Page R → ℕ → Option (List R)
row_seen veiled x r = gathered (listed x.seats (λ k. seen veiled x r (suc k)))

-- the words in the place of the row, or the row as it was
abbrev pub gather : {R : Type 0} → Option (List R) → List R → Result (Unit {0}) Refusal × List R
gather None row = (Err Missing, row)
gather (Some ws) row = (Ok tt, ws)

-- the row of what r sees, or the first refusal of length, seat and missing
abbrev pub collected : {R : Type 0} → Bool → Page R → ℕ → List R → Result (Unit {0}) Refusal × List R
collected veiled x r row =
    cond (length row == x.seats) (cond (seat x.seats r) (gather (row_seen veiled x r) row) (Err Seat, row)) (Err Length, row)

-- the word that was looked at, or why there is none
abbrev pub word_in : {R : Type 0} → Result (Option R) Refusal → Result R Refusal
word_in (Err e) = Err e
word_in (Ok None) = Err Missing
word_in (Ok (Some w)) = Ok w

-- What holds of every page of an exchange: there are at most 31 seats, no word stands outside of them, and where words
-- are for all, the seats have the same.
pub record Proper {R : Type 0} (common : Bool) (x : Page R) : Type 0 where
  pub few : x.seats ≤ 31
  pub outside : (r s : ℕ) → (seat x.seats r && seat x.seats s) ≡ false → x.at r s ≡ None
  pub alike : common ≡ true → (q r s : ℕ) → seat x.seats q ≡ true → seat x.seats r ≡ true → x.at q s ≡ x.at r s
