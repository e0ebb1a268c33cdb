-- Shares of a value are the values of a polynomial at the seats' points; a row of words opens to the value at zero of the
-- polynomial through it. Seat i, from 1, has point i; its word stands at place i - 1 of the row.
use Rattle.std.specs.Prelude.{◌≡◌, ℕ, zero, suc, ◌+◌, ◌<◌, ◌≤◌, Bool, cond, ◌||◌, List, [], ◌∷◌, map, length, Some, None, Ok, Err, Option, Result, ◌==◌, nat_le, nat_lt, slice_index_or}
use Rattle.algebra.specs.Poly.{val}
use Rattle.algebra.specs.Quotient.{Element}
use Rattle.algebra.specs.Ring.{CommRing, ops}
use Rattle.ring.specs.Model.{ring}
use Rattle.ring.specs.declared.Ring.{Ghosts}
use Rattle.curve.specs.declared.OffCurve.{OffCurve}
use Rattle.curve.specs.declared.refusal.Refusal.{Refusal}
use Rattle.curve.specs.declared.refusal.Refusal.TheVariants.{Seats, Threshold, Length}

-- the elements of a ring of the engine, and their ring
abbrev pub El : {R C : Type 0} → Ghosts R C → Type 0
El G = Element G.shape

abbrev pub K : {R C : Type 0} (G : Ghosts R C) → CommRing (El G)
K G = ring G.shape

-- the number of seats is 0, above 31, or not below the number of points
abbrev pub seats_wrong : ℕ → ℕ → Bool
seats_wrong points n = n == 0 || nat_lt 31 n || nat_le points n

-- the word at place k of a row
abbrev pub word : {R C : Type 0} (G : Ghosts R C) → List R → ℕ → El G
word G row k = slice_index_or (map G.element row) k (K G).𝟎

-- the polynomial's value for the seat whose word stands at place k
abbrev pub share : {R C : Type 0} (G : Ghosts R C) → List (El G) → ℕ → El G
share G cs k = val (ops (K G)) cs (G.points.at (k + 1))

-- f 0, .., f (n - 1)
abbrev pub listed : {A : Type 0} → ℕ → (ℕ → A) → List A
listed zero f = []
listed (suc n) f = f zero ∷ listed n (λ k. f (suc k))

-- why there are not n seats
abbrev pub seats_refused : ℕ → ℕ → Option Refusal
seats_refused points n = cond (seats_wrong points n) (Some Seats) None

-- why a polynomial of degree d for n seats is refused
abbrev pub curve_refused : ℕ → ℕ → ℕ → Option Refusal
curve_refused points n d = cond (seats_wrong points n) (Some Seats) (cond (nat_le n d) (Some Threshold) None)

-- a refusal, or else the next one
abbrev pub or_else : Option Refusal → Option Refusal → Option Refusal
or_else None o = o
or_else (Some e) o = Some e

-- why dealing is refused, with so many other coefficients and so long a table of shares
abbrev pub deal_refused : ℕ → ℕ → ℕ → ℕ → ℕ → Option Refusal
deal_refused points n d coefficients table =
    or_else (curve_refused points n d) (cond (coefficients == d) (cond (table == n) None (Some Length)) (Some Length))

-- nothing, or the refusal
abbrev pub tested : Option Refusal → Result (Unit {0}) Refusal
tested None = Ok tt
tested (Some e) = Err e

-- The answer, and the table of shares before and after: the shares of secret + c₁ X + .., or a refusal and no change.
abbrev pub DealtBy : {R C : Type 0} (G : Ghosts R C) → ℕ → R → List R → List R → Result (Unit {0}) Refusal → List R → Option Refusal → Type 0
DealtBy G n secret others before r after None = (r ≡ Ok tt) × (map G.element after ≡ listed n (share G (map G.element (secret ∷ others))))
DealtBy G n secret others before r after (Some e) = (r ≡ Err e) × (after ≡ before)

abbrev pub Dealt : {R C : Type 0} (G : Ghosts R C) → ℕ → ℕ → R → List R → List R → Result (Unit {0}) Refusal → List R → Type 0
Dealt G n d secret others before r after =
    DealtBy G n secret others before r after (deal_refused G.points.count n d (length others) (length before))

-- a polynomial of degree at most d through the first n words of a row
pub record Through {R C : Type 0} (G : Ghosts R C) (d n : ℕ) (row : List R) (cs : List (El G)) : Type 0 where
  pub short : length cs ≤ d + 1
  pub meets : (k : ℕ) → k < n → share G cs k ≡ word G row k

-- the row opens to v: v is the value at zero of a polynomial of degree at most d through all of its words
pub record Opens {R C : Type 0} (G : Ghosts R C) (d : ℕ) (row : List R) (v : El G) : Type 0 where
  pub polynomial : List (El G)
  pub through : Through G d (length row) row polynomial
  pub at_zero : val (ops (K G)) polynomial (K G).𝟎 ≡ v

-- the row does not open, and seat is the lowest one off the polynomial of degree at most d through seats 1 to d + 1
pub record Off {R C : Type 0} (G : Ghosts R C) (d : ℕ) (row : List R) (seat : ℕ) : Type 0 where
  pub none : (v : El G) → Opens G d row v → ⊥
  pub polynomial : List (El G)
  pub place : ℕ
  pub counted : seat ≡ place + 1
  pub past : d < place
  pub inside : place < length row
  pub through : Through G d place row polynomial
  pub off : share G polynomial place ≡ word G row place → ⊥

abbrev pub Answers : {R C : Type 0} (G : Ghosts R C) → ℕ → List R → Result R OffCurve → Type 0
Answers G d row (Ok v) = Opens G d row (G.element v)
Answers G d row (Err e) = Off G d row e.seat

abbrev pub Answered : {R C : Type 0} (G : Ghosts R C) → ℕ → List R → Result (Result R OffCurve) Refusal → Type 0
Answered G d row (Ok o) = Answers G d row o
Answered G d row (Err e) = ⊥

abbrev pub OpenedBy : {R C : Type 0} (G : Ghosts R C) → ℕ → List R → Result (Result R OffCurve) Refusal → Option Refusal → Type 0
OpenedBy G d row r None = Answered G d row r
OpenedBy G d row r (Some e) = r ≡ Err e

abbrev pub Opened : {R C : Type 0} (G : Ghosts R C) → ℕ → List R → Result (Result R OffCurve) Refusal → Type 0
Opened G d row r = OpenedBy G d row r (curve_refused G.points.count (length row) d)

-- what two openings of one row have in common: all
abbrev pub Agree : {R C : Type 0} (G : Ghosts R C) → Result R OffCurve → Result R OffCurve → Type 0
Agree G (Ok v) (Ok w) = G.element v ≡ G.element w
Agree G (Ok v) (Err j) = ⊥
Agree G (Err i) (Ok w) = ⊥
Agree G (Err i) (Err j) = i.seat ≡ j.seat

-- a row has one answer at most
abbrev pub OpensOnce : {R C : Type 0} → Ghosts R C → Type 0
OpensOnce {R} G =
    (d : ℕ) (row : List R) → curve_refused G.points.count (length row) d ≡ None
    → (a b : Result R OffCurve) → Answers G d row a → Answers G d row b → Agree G a b

-- the value w and nothing else
abbrev pub Returns : {R C : Type 0} (G : Ghosts R C) → El G → Result (Result R OffCurve) Refusal → Type 0
Returns G w (Ok (Ok v)) = G.element v ≡ w
Returns G w (Ok (Err e)) = ⊥
Returns G w (Err e) = ⊥

-- a value that was dealt is what its shares open to
abbrev pub ComesBack : {R C : Type 0} → Ghosts R C → Type 0
ComesBack {R} G =
    (n d : ℕ) (secret : R) (others before shares : List R) → Dealt G n d secret others before (Ok tt) shares
    → (r : Result (Result R OffCurve) Refusal) → Opened G d shares r → Returns G (G.element secret) r
