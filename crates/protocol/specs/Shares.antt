-- Shares of a value: words of seats that lie on one polynomial, whose value at zero is that value.
use Rattle.std.specs.Prelude.{◌≡◌, ℕ, zero, suc, ◌+◌, ◌<◌, ◌≤◌, Bool, true, cond, not, List, length}
use Rattle.algebra.specs.Poly.{val, Apart}
use Rattle.algebra.specs.Ring.{CommRing, ops, sub}

-- A table: its ring, the number of seats (they are numbered from 1), the threshold, the evaluation points by number (seat s
-- has point s), and which seats are inside.
pub record Table (E : Type 0) : Type 0 where
  pub ring : CommRing E
  pub seats : ℕ
  pub threshold : ℕ
  pub point : ℕ → E
  pub inside : ℕ → Bool

-- how many of the seats 1 to n are in a set
abbrev pub count : (ℕ → Bool) → ℕ → ℕ
count set zero = 0
count set (suc n) = count set n + cond (set (suc n)) 1 0

-- Point 0 is zero, and the points 0 to n differ by invertible elements; at most threshold many of the n seats are outside, and
-- three times the threshold is below n.
pub record Laws {E : Type 0} (T : Table E) : Type 0 where
  pub inverse : ℕ → ℕ → E
  pub start : T.point 0 ≡ T.ring.𝟎
  pub apart : Apart T.ring (suc T.seats) T.point inverse
  pub few : T.seats ≤ count T.inside T.seats + T.threshold
  pub low : T.threshold + T.threshold + T.threshold < T.seats

-- s is one of the seats 1 to n, and in the set
pub record Seat (n : ℕ) (set : ℕ → Bool) (s : ℕ) : Type 0 where
  pub from : 1 ≤ s
  pub to : s ≤ n
  pub member : set s ≡ true

abbrev pub Inside : {E : Type 0} → Table E → ℕ → Type 0
Inside T s = Seat T.seats T.inside s

abbrev pub Outside : {E : Type 0} → Table E → ℕ → Type 0
Outside T s = Seat T.seats (λ i. not (T.inside i)) s

abbrev pub everyone : ℕ → Bool
everyone s = true

-- The words w of the seats in a set are shares of v: a polynomial of degree at most d runs through them, and its value at
-- zero is v.
pub record Shared {E : Type 0} (T : Table E) (set : ℕ → Bool) (d : ℕ) (w : ℕ → E) (v : E) : Type 0 where
  pub poly : List E
  pub small : length poly ≤ suc d
  pub through : (s : ℕ) → Seat T.seats set s → val (ops T.ring) poly (T.point s) ≡ w s
  pub at_zero : val (ops T.ring) poly T.ring.𝟎 ≡ v

-- a row, a word for each seat, opens to v: all its words are shares of v
abbrev pub Opens : {E : Type 0} → Table E → ℕ → (ℕ → E) → E → Type 0
Opens T d row v = Shared T everyone d row v

-- Values of polynomials are shares; shares of constants, sums, differences, multiples and products are made seat by seat.
pub record Arithmetic {E : Type 0} (T : Table E) (set : ℕ → Bool) : Type 0 where
  pub values : (d : ℕ) (f : List E) → length f ≤ suc d → Shared T set d (λ s. val (ops T.ring) f (T.point s)) (val (ops T.ring) f T.ring.𝟎)
  pub constant : (d : ℕ) (c : E) → Shared T set d (λ s. c) c
  pub wider : (d k : ℕ) (w : ℕ → E) (v : E) → d ≤ k → Shared T set d w v → Shared T set k w v
  pub sum : (d : ℕ) (w x : ℕ → E) (v y : E) → Shared T set d w v → Shared T set d x y → Shared T set d (λ s. T.ring.◌⊕◌ (w s) (x s)) (T.ring.◌⊕◌ v y)
  pub difference : (d : ℕ) (w x : ℕ → E) (v y : E) → Shared T set d w v → Shared T set d x y → Shared T set d (λ s. sub T.ring (w s) (x s)) (sub T.ring v y)
  pub scaled : (d : ℕ) (w : ℕ → E) (v k : E) → Shared T set d w v → Shared T set d (λ s. T.ring.◌⊗◌ (w s) k) (T.ring.◌⊗◌ v k)
  pub product : (d e : ℕ) (w x : ℕ → E) (v y : E) → Shared T set d w v → Shared T set e x y → Shared T set (d + e) (λ s. T.ring.◌⊗◌ (w s) (x s)) (T.ring.◌⊗◌ v y)

abbrev pub SharesCompute : Type 0 → Type 0
SharesCompute E = (T : Table E) (set : ℕ → Bool) → Arithmetic T set

-- a row opens to one value at most
abbrev pub OpeningsOnce : Type 0 → Type 0
OpeningsOnce E = (T : Table E) → Laws T → (d : ℕ) → d < T.seats → (row : ℕ → E) (v u : E) → Opens T d row v → Opens T d row u → v ≡ u

-- a row whose inside words are shares of v opens to v or not at all, whatever its outside words are
abbrev pub OpeningsSound : Type 0 → Type 0
OpeningsSound E =
    (T : Table E) → Laws T → (d : ℕ) → d ≤ T.threshold + T.threshold → (w : ℕ → E) (v : E) → Shared T T.inside d w v
    → (row : ℕ → E) → ((s : ℕ) → Inside T s → row s ≡ w s) → (u : E) → Opens T d row u → u ≡ v
