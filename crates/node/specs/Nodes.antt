-- A node: one seat with its own list of gates, over tables that it is lent at each call.
use Rattle.std.specs.Prelude.{◌≡◌, ℕ, ◌-◌, ◌*◌, Bool, true, false, cond, ◌&&◌, ◌⊎◌, List, [], map, length, replicate, Some, None, Ok, Err, Option, Result, ◌==◌, ◌≢◌, nat_le, nat_lt}
use Rattle.curve.specs.Curve.{El, K, seats_wrong, word as word_at}
use Rattle.curve.specs.declared.refusal.Refusal.{Refusal}
use Rattle.curve.specs.declared.refusal.Refusal.TheVariants.{Seats, Threshold, Length, Seat, Own}
use Rattle.ring.specs.Model.{degree}
use Rattle.ring.specs.declared.Ring.{Ghosts}
use Rattle.encoding.specs.Encodings.{Enc}
use Rattle.circuit.specs.Circuits.{Plan, circuit_of, Refused}
use Rattle.circuit.specs.Gates.{setting}
use Rattle.circuit.specs.Openings.{products}
use Rattle.circuit.specs.declared.openings.Opening.{Opening}
use Rattle.rules.specs.Elements.{known}
use Rattle.node.specs.Seats.{Keeps, keeps, opening_or_refused, TakesBy}
use Rattle.node.specs.Tables.{Tables}
use Rattle.node.specs.Work.{stage, settled, shown}
use Rattle.node.specs.declared.fault.Fault.{Fault}

-- k is one of the seats 1 to n
abbrev pub is_seat : ℕ → ℕ → Bool
is_seat n k = nat_lt 0 k && nat_le k n

-- what a node is: its seats, threshold and own seat number, its list, and what its seat keeps
pub record State (R : Type 0) : Type 0 where
  pub seats : ℕ
  pub threshold : ℕ
  pub number : ℕ
  pub plan : Plan
  pub keeps : Keeps R

-- the lengths of the tables: constants, inputs, high and low parts, work
pub record Lengths : Type 0 where
  pub constants : ℕ
  pub inputs : ℕ
  pub high : ℕ
  pub low : ℕ
  pub work : ℕ

abbrev pub lengths : {R : Type 0} → Tables R → List R → Lengths
lengths l work = record { constants = length l.constants; inputs = length l.inputs; high = length l.high; low = length l.low; work = length work }

-- one high and one low part for each product, and one entry for each gate
abbrev pub pairs_fit : List ℕ → Lengths → Bool
pairs_fit codes l = l.high == products codes (length codes) && l.low == products codes (length codes) && l.work == length codes

-- and as many constants and inputs as the list is for
abbrev pub fitting : Plan → Lengths → Bool
fitting p l = l.constants == p.constants && l.inputs == p.inputs && pairs_fit p.codes l

-- why making is refused before the list is checked: seats, threshold, seat, length
abbrev pub making_refused : ℕ → ℕ → ℕ → ℕ → List ℕ → Lengths → Option Refusal
making_refused points n t k codes l =
    cond (seats_wrong points n) (Some Seats) (cond (nat_le n (3 * t)) (Some Threshold) (cond (is_seat n k) (cond (pairs_fit codes l) None (Some Length)) (Some Seat)))

-- the opening that a node is at, or why there is none: a table of another length than at making, stopped, or done
abbrev pub node_opening : {R : Type 0} → State R → Tables R → List R → Result Opening Refusal
node_opening x l W = cond (fitting x.plan (lengths l W)) (opening_or_refused x.plan.codes x.keeps) (Err Length)

-- the same node, keeping something else
abbrev pub keeping : {R : Type 0} → State R → Keeps R → State R
keeping x k = record { seats = x.seats; threshold = x.threshold; number = x.number; plan = x.plan; keeps = k }

module _ {R C : Type 0} (G : Ghosts R C) (method : ℕ → Enc) where
  -- the word that a node shows at an opening
  abbrev pub own_word : State R → Tables R → List R → Opening → El G
  own_word x l W o = shown (K G) x.plan.codes (map G.element W) o (map G.element l.high)

  -- what posting answers: the word, or why there is none
  abbrev pub PostsAt : State R → Tables R → List R → Result R Refusal → Result Opening Refusal → Type 0
  PostsAt x l W (Ok v) (Ok o) = G.element v ≡ own_word x l W o
  PostsAt x l W (Ok v) (Err f) = ⊥
  PostsAt x l W (Err e) (Ok o) = ⊥
  PostsAt x l W (Err e) (Err f) = e ≡ f

  abbrev pub Posts : State R → Tables R → List R → Result R Refusal → Type 0
  Posts x l W r = PostsAt x l W r (node_opening x l W)

  -- a refusal, and nothing changed
  abbrev pub NotTaken : State R → List R → Refusal → Result (Option Fault) Refusal → State R → List R → Type 0
  NotTaken x W e r x' W' = (r ≡ Err e) × (x' ≡ x) × (W' ≡ W)

  -- What taking a row does: length if the row has not one word for each seat; own if its own word is not the one it shows; else
  -- what the row makes of its seat.
  module _ (l : Tables R) (row : List R) (x : State R) (W : List R) (r : Result (Option Fault) Refusal) (x' : State R) (W' : List R) where
    abbrev pub TakesOwn : Opening → Type 0
    TakesOwn o =
        ((word_at G row (x.number - 1) ≡ own_word x l W o)
        × TakesBy G method x.plan x.threshold l row x.keeps W r x'.keeps W' (Ok o)
        × (x' ≡ keeping x x'.keeps))
        ⊎ ((word_at G row (x.number - 1) ≢ own_word x l W o) × NotTaken x W Own r x' W')

    abbrev pub TakesRow : Opening → Bool → Type 0
    TakesRow o true = TakesOwn o
    TakesRow o false = NotTaken x W Length r x' W'

    abbrev pub TakesAt : Result Opening Refusal → Type 0
    TakesAt (Ok o) = TakesRow o (length row == x.seats)
    TakesAt (Err e) = NotTaken x W e r x' W'

    abbrev pub Takes : Type 0
    Takes = TakesAt (node_opening x l W)

  -- the node that is made and its work table: the gates before the first opening worked out over zeros
  pub record Made (n t k : ℕ) (codes : List ℕ) (l : Tables R) (before : List R) (x : State R) (after : List R) : Type 0 where
    pub taken : making_refused G.points.count n t k codes (lengths l before) ≡ None
    pub seats : x.seats ≡ n
    pub threshold : x.threshold ≡ t
    pub number : x.number ≡ k
    pub planned : circuit_of (setting (degree G.shape) (length l.inputs) (length l.constants) method) codes ≡ Ok x.plan
    pub keeps : x.keeps ≡ keeps [] (length x.plan.openings) None
    pub worked : map G.element after
        ≡ settled (K G) (known G.shape method l.constants) codes x.plan.layouts (word_at G l.inputs) (replicate (length codes) (K G).𝟎) 0 (stage codes 0)

  -- why making is refused, and the work table as it was
  pub record NotMade (n t k : ℕ) (codes : List ℕ) (l : Tables R) (before : List R) (e : Refusal) (after : List R) : Type 0 where
    pub why : (making_refused G.points.count n t k codes (lengths l before) ≡ Some e)
        ⊎ ((making_refused G.points.count n t k codes (lengths l before) ≡ None) × Refused (setting (degree G.shape) (length l.inputs) (length l.constants) method) codes e)
    pub same : after ≡ before
