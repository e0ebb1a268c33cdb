-- What each call does in any state: why it is refused, and else its answer and the state afterwards.
use Rattle.std.specs.Prelude.{◌≡◌, ℕ, zero, suc, Bool, true, false, cond, not, ◌&&◌, List, [], ◌∷◌, ◌++◌, map, length, drop, replicate, Some, None, Ok, Err, Option, Result, ◌==◌, nat_le, nat_lt}
use Rattle.ring.specs.Model.{degree}
use Rattle.ring.specs.declared.Ring.{Ghosts}
use Rattle.curve.specs.Curve.{El, K, or_else}
use Rattle.curve.specs.declared.refusal.Refusal.{Refusal}
use Rattle.curve.specs.declared.refusal.Refusal.TheVariants.{Length, Missing, Placed, Halted, Done, Seat, Output, Unopened, Own}
use Rattle.encoding.specs.Layouts.{positions, read_at}
use Rattle.circuit.specs.Gates.{layout_at}
use Rattle.circuit.specs.Openings.{openings_of, gate_opened}
use Rattle.circuit.specs.declared.openings.Opening.{Opening}
use Rattle.circuit.specs.declared.openings.Opening.TheVariants.{Product, Output as OutputOpening}
use Rattle.rules.specs.Elements.{known}
use Rattle.exchange.specs.Sheet.{Page, seat, some, total, blank, sent, place_all, place_one, all_refused, one_refused, missing, seen, turned, row_seen}
use Rattle.node.specs.Openings.{ComesTo}
use Rattle.node.specs.Work.{stage, settled, kept, shown}
use Rattle.node.specs.declared.fault.Fault.{Fault}
use Rattle.claim.specs.Bench.{Setup, State, Call, Post, TellAll, TellOne, Look, Take, ResultOf, FaultOf, Answer, Did, Saw, Took, LanesAre, FaultIs, Refused, part_at, inner, outer, pairs, opening_count, opening, over, work_of, parts_of, opened_at}

-- two lists of numbers are one
abbrev pub same_numbers : List ℕ → List ℕ → Bool
same_numbers [] [] = true
same_numbers [] (y ∷ ys) = false
same_numbers (x ∷ xs) [] = false
same_numbers (x ∷ xs) (y ∷ ys) = x == y && same_numbers xs ys

-- which of a list of openings is output number o, or how many there are
abbrev pub output_place : List Opening → ℕ → ℕ
output_place [] o = 0
output_place (Product g j ∷ rest) o = suc (output_place rest o)
output_place (OutputOpening g k ∷ rest) o = cond (k == o) 0 (suc (output_place rest o))

-- the highest k up to n of which f holds, or 0
abbrev pub highest : ℕ → (ℕ → Bool) → ℕ
highest zero f = 0
highest (suc n) f = cond (f (suc n)) (suc n) (highest n f)

-- what came of a row was a value, or a fault
abbrev pub accepts : {R : Type 0} → Result R Fault → Bool
accepts (Ok v) = true
accepts (Err f) = false

-- the state with another page
abbrev pub with_page : {R : Type 0} → State R → Page R → State R
with_page s x = record { progress = s.progress; posted = s.posted; halted = s.halted; rounds = s.rounds; page = x; work = s.work }

module _ {R : Type 0} (U : Setup R) where
  -- the page with the word of every inside seat in all its squares, but for seats that had placed
  abbrev pub posted_page : Page R → (ℕ → R) → Page R
  posted_page x words = record {
    seats = x.seats;
    at = λ r q. cond (inner U q && seat x.seats r && not (sent x q)) (Some (words q)) (x.at r q);
    room = x.room;
  }

  -- the number of the opening that is output number o
  abbrev pub place_of : ℕ → ℕ
  place_of o = output_place (openings_of U.codes) o

  -- its gate
  abbrev pub gate_of_output : ℕ → ℕ
  gate_of_output o = gate_opened (opening U (place_of o))

module _ {R C : Type 0} (G : Ghosts R C) (U : Setup R) where
  -- the coordinates at which the lanes of output number o stand
  abbrev pub output_positions : ℕ → List ℕ
  output_positions o = positions (layout_at U.layouts (gate_of_output U o)) (degree G.shape)

  -- the word that seat i shows at the present opening, from its own tables
  abbrev pub shown_by : State R → ℕ → El G
  shown_by s i =
      shown (K G) U.codes (map G.element (work_of U s i)) (opening U s.rounds)
      (map G.element (part_at (pairs U) U.highs i))

  -- the work part of seat i, once opening number k was z and the gates up to the next opening are worked out
  abbrev pub kept_by : State R → ℕ → ℕ → El G → List (El G)
  kept_by s i k z =
      kept (K G) (known G.shape U.method U.constants) U.codes U.layouts (parts_of G U i).input (map G.element (work_of U s i))
      (opening U k) (map G.element (part_at (pairs U) U.lows i)) z (stage U.codes (suc k))

  -- the word in the own square of seat i is what it shows
  abbrev pub owned : Option R → El G → Bool
  owned None x = false
  owned (Some w) x = same_numbers (G.element w).0 x.0

  -- no inside seat finds another word in its own square
  abbrev pub own_squares : State R → Bool
  own_squares s = not (some U.seats (λ i. U.inside i && not (owned (s.page.at i i) (shown_by s i))))

  -- nothing is posted, told or taken once a seat has stopped, or all is opened
  abbrev pub ended : State R → Option Refusal
  ended s = cond s.halted (Some Halted) (cond (over U s) (Some Done) None)

  -- why a call is refused, if it is
  abbrev pub refusal : State R → Call R → Option Refusal
  refusal s Post = or_else (ended s) (cond s.posted (Some Placed) None)
  refusal s (TellAll q w) = or_else (ended s) (cond (outer U q) (all_refused s.page q) (Some Seat))
  refusal s (TellOne q r w) = or_else (ended s) (cond (outer U q && seat U.seats r) (one_refused U.common s.page q r) (Some Seat))
  refusal s (Look r q) = cond (outer U r && seat U.seats q) None (Some Seat)
  refusal s (Take row) =
      cond (length row == U.seats)
      (or_else (ended s) (cond (nat_lt 0 (missing s.page)) (Some Missing) (cond (own_squares s) None (Some Own))))
      (Some Length)
  refusal s (ResultOf i o table) =
      cond (inner U i)
      (cond (nat_le (opening_count U) (place_of U o)) (Some Output)
      (cond (nat_le (length (s.progress i).opened) (place_of U o)) (Some Unopened)
      (cond (nat_lt (length table) (length (output_positions o))) (Some Length) None)))
      (Some Seat)
  refusal s (FaultOf i) = cond (inner U i) None (Some Seat)

  -- post: the inside words stand on the page, and nothing else has changed
  pub record Posts (s t : State R) : Type 0 where
    pub words : ℕ → R
    pub are : (i : ℕ) → inner U i ≡ true → G.element (words i) ≡ shown_by s i
    pub state : t ≡ record { progress = s.progress; posted = true; halted = s.halted; rounds = s.rounds; page = posted_page U s.page words; work = s.work }

  -- what an inside seat makes of what came of its row: a value is opened, and the part worked on; at a fault the seat stops
  abbrev pub Goes_on : State R → State R → ℕ → Result R Fault → Type 0
  Goes_on s t i (Ok v) =
      (t.progress i ≡ record { opened = (s.progress i).opened ++ (v ∷ []); fault = (s.progress i).fault })
      × (map G.element (work_of U t i) ≡ kept_by s i s.rounds (G.element v))
  Goes_on s t i (Err f) = (t.progress i ≡ record { opened = (s.progress i).opened; fault = Some f }) × (work_of U t i ≡ work_of U s i)

  -- take: every inside seat reads its row and goes on; outside seats stay as they are; the page is turned
  pub record Takes (s : State R) (spare : List R) (count : ℕ) (after : List R) (t : State R) : Type 0 where
    pub row : ℕ → List R
    pub came : ℕ → Result R Fault
    pub reads : (i : ℕ) → inner U i ≡ true → row_seen U.veiled s.page i ≡ Some (row i)
    pub opens : (i : ℕ) → inner U i ≡ true → ComesTo G U.layouts U.threshold (row i) (opening U s.rounds) (came i)
    pub goes : (i : ℕ) → inner U i ≡ true → Goes_on s t i (came i)
    pub others : (i : ℕ) → inner U i ≡ false → t.progress i ≡ s.progress i
    pub outside : (i : ℕ) → outer U i ≡ true → work_of U t i ≡ work_of U s i
    pub long : length t.work ≡ length s.work
    pub page : t.page ≡ turned s.page
    pub posted : t.posted ≡ false
    pub rounds : t.rounds ≡ suc s.rounds
    pub halted : t.halted ≡ some U.seats (λ i. U.inside i && not (accepts (came i)))
    pub counted : count ≡ total U.seats (λ i. cond (U.inside i && accepts (came i)) 1 0)
    pub spared : after ≡ cond (highest U.seats U.inside == 0) spare (row (highest U.seats U.inside))

  -- a call that is not refused
  abbrev pub Accepted : State R → Call R → Answer R → State R → Type 0
  Accepted s Post a t = (a ≡ Did) × Posts s t
  Accepted s (TellAll q w) a t = (a ≡ Did) × (t ≡ with_page s (place_all s.page q w).1)
  Accepted s (TellOne q r w) a t = (a ≡ Did) × (t ≡ with_page s (place_one U.common s.page q r w).1)
  Accepted s (Look r q) a t = (a ≡ Saw (seen U.veiled s.page r q)) × (t ≡ s)
  Accepted s (Take row) a t = (count : ℕ) × (after : List R) × (a ≡ Took count after) × Takes s row count after t
  Accepted s (ResultOf i o table) a t =
      (a ≡ LanesAre (read_at (output_positions o) (opened_at G U s i (place_of U o)).0 ++ drop (length (output_positions o)) table)) × (t ≡ s)
  Accepted s (FaultOf i) a t = (a ≡ FaultIs (s.progress i).fault) × (t ≡ s)

  -- a refusal changes nothing
  abbrev pub Outcome : State R → Call R → Answer R → State R → Option Refusal → Type 0
  Outcome s c a t (Some e) = (a ≡ Refused e) × (t ≡ s)
  Outcome s c a t None = Accepted s c a t

  -- one call
  pub record Step (s : State R) (c : Call R) (a : Answer R) (t : State R) : Type 0 where
    pub by : Outcome s c a t (refusal s c)

  -- calls one after the other, with their answers
  pub data Run : State R → List (Call R) → List (Answer R) → State R → Type 0 where
    none : {s : State R} → Run s [] [] s
    more : {s t u : State R} {c : Call R} {a : Answer R} {calls : List (Call R)} {answers : List (Answer R)}
        → Step s c a t → Run t calls answers u → Run s (c ∷ calls) (a ∷ answers) u

  -- Where a bench starts: nothing opened, no fault, an empty page, and the gates up to the first opening worked out at the
  -- inside seats.
  pub record Starts (s : State R) : Type 0 where
    pub fresh : (i : ℕ) → s.progress i ≡ record { opened = []; fault = None }
    pub posted : s.posted ≡ false
    pub halted : s.halted ≡ false
    pub rounds : s.rounds ≡ 0
    pub page : (room : ℕ) × (s.page ≡ blank U.seats room)
    pub works : (i : ℕ) → inner U i ≡ true
        → map G.element (work_of U s i)
        ≡ settled (K G) (known G.shape U.method U.constants) U.codes U.layouts (parts_of G U i).input
        (replicate (length U.codes) (K G).𝟎) 0 (stage U.codes 0)
