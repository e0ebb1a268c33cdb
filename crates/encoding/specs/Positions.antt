-- Where lanes stand: the positions of a layout differ, and none reaches half of the degree.
use Rattle.std.specs.Prelude.{◌≡◌, ℕ, zero, suc, ◌+◌, ◌*◌, ◌/◌, ◌%◌, ◌<◌, ◌≤◌, true, ◌⊎◌, List, [], ◌∷◌, length, All, ◌≢◌, nat_lt, slice_index, refl}
use Rattle.std.proofs.Common.{sym, ◌∙◌, inl, inr, arith, length-set, get_or-set_same, get_or-set_other}
use Rattle.std.proofs.lemmas.Bool.{cases_eq, cases_lt, ltb-true, lt-ltb, and_parts, and_from}
use Rattle.std.proofs.lemmas.List.Elements.{All-head, All-tail}
use Rattle.std.proofs.lemmas.List.FromFn.{length-range_with_len, get_or-range_with_len}
use Rattle.std.specs.List.{AllPairs, range_with_len}
use Rattle.encoding.specs.Layouts.{low_digits, no_two, laid_over}

-- no two places of the list have one position
abbrev pub Apart : List ℕ → Type 0
Apart xs = (i j : ℕ) → i < length xs → j < length xs → slice_index xs i ≡ slice_index xs j → i ≡ j

pub rising_apart : (xs : List ℕ) → AllPairs (λ x y. x < y) xs → Apart xs
rising_apart xs rises i j hi hj e = elim (cases_lt i j) [
  | inl less ↦ let up = rises i j 0 less hj in let z : ⊥ = omega arith in absurd z
  | inr most ↦ elim (cases_lt j i) [
    | inl less ↦ let up = rises j i 0 less hi in let z : ⊥ = omega arith in absurd z
    | inr least ↦ omega arith
  ]
]

pub rising_counting : (a n : ℕ) → AllPairs (λ x y. x < y) (range_with_len a n)
rising_counting a n i j d less h =
    let below : j < n = omega (arith, length-range_with_len a n) in
    omega (arith, get_or-range_with_len a n i d (omega arith), get_or-range_with_len a n j d below)

pub all_counting : (a n m : ℕ) → a + n ≤ m → All (λ x. x < m) (range_with_len a n)
all_counting a n m fits k d h =
    let below : k < n = omega (arith, length-range_with_len a n) in
    omega (arith, get_or-range_with_len a n k d below)

-- What stands in a value laid out: lane l at position l, what stood there before elsewhere.
pub length_laid : (q : ℕ) (base ps lanes : List ℕ) → length (laid_over q base ps lanes) ≡ length base
length_laid q base [] lanes = refl
length_laid q base (p ∷ ps) [] = refl
length_laid q base (p ∷ ps) (v ∷ lanes) = length-set (laid_over q base ps lanes) p (v % q) ∙ length_laid q base ps lanes

pub laid_at : (q : ℕ) (base ps lanes : List ℕ) → Apart ps → All (λ p. p < length base) ps → length lanes ≡ length ps
    → (l : ℕ) → l < length ps → slice_index (laid_over q base ps lanes) (slice_index ps l) ≡ slice_index lanes l % q
laid_at q base [] lanes apart low e l h = let z : ⊥ = omega arith in absurd z
laid_at q base (p ∷ ps) [] apart low e l h = let z : ⊥ = omega arith in absurd z
laid_at q base (p ∷ ps) (v ∷ lanes) apart low e zero h =
    let inside : p < length (laid_over q base ps lanes) = omega (arith, length_laid q base ps lanes, All-head (λ t. t < length base) p ps low) in
    get_or-set_same (laid_over q base ps lanes) p (v % q) 0 inside
laid_at q base (p ∷ ps) (v ∷ lanes) apart low e (suc l) h =
    let k : l < length ps = omega arith in
    let rest : length lanes ≡ length ps = omega arith in
    get_or-set_other (laid_over q base ps lanes) p (slice_index ps l) (v % q) 0 (λ same. let z : suc l ≡ 0 = apart (suc l) 0 h (omega arith) same in let f : ⊥ = omega arith in f)
    ∙ laid_at q base ps lanes (λ i j hi hj s. let up : suc i ≡ suc j = apart (suc i) (suc j) (omega arith) (omega arith) s in omega arith) (All-tail (λ t. t < length base) p ps low) rest l k

pub laid_off : (q : ℕ) (base ps lanes : List ℕ) (t : ℕ) → ((l : ℕ) → l < length ps → slice_index ps l ≢ t) → slice_index (laid_over q base ps lanes) t ≡ slice_index base t
laid_off q base [] lanes t off = refl
laid_off q base (p ∷ ps) [] t off = refl
laid_off q base (p ∷ ps) (v ∷ lanes) t off =
    get_or-set_other (laid_over q base ps lanes) p t (v % q) 0 (λ same. off 0 (omega arith) (sym same))
    ∙ laid_off q base ps lanes t (λ l h same. let k : suc l < suc (length ps) = omega arith in off (suc l) k same)

-- a position that is sought
pub sought : (ps : List ℕ) (t : ℕ) → ((l : ℕ) × (l < length ps) × (slice_index ps l ≡ t)) ⊎ ((l : ℕ) → l < length ps → slice_index ps l ≢ t)
sought [] t = inr (λ l h e. let z : ⊥ = omega arith in z)
sought (p ∷ ps) t = elim (cases_eq p t) [
  | inl here ↦ inl (0, omega arith, here)
  | inr other ↦ elim (sought ps t) [
    | inl found ↦ inl (suc found.0, (let k : suc found.0 < suc (length ps) = omega (arith, found.1) in k), found.2)
    | inr none ↦ inr (past other none)
  ]
]
  where
    past : (p ≢ t) → ((l : ℕ) → l < length ps → slice_index ps l ≢ t) → (l : ℕ) → l < suc (length ps) → slice_index (p ∷ ps) l ≢ t
    past other none zero h e = other e
    past other none (suc l) h e = let k : l < length ps = omega arith in none l k e

-- Base three without the digit 2: a sum of two such numbers has no carry, so it is a double only of one and the same.
pub more_digits : (k j p : ℕ) → p ≤ j → low_digits j p ≡ true → low_digits k p ≡ true
more_digits zero j p h e = refl
more_digits (suc k) zero p h e =
    let none : p ≡ 0 = omega arith in
    let small : p % 3 < 2 = omega arith in
    let smaller : p / 3 ≤ 0 = omega arith in
    and_from (nat_lt (p % 3) 2) (low_digits k (p / 3)) (lt-ltb (p % 3) 2 small) (more_digits k zero (p / 3) smaller refl)
more_digits (suc k) (suc j) p h e =
    let parts = and_parts (nat_lt (p % 3) 2) (low_digits j (p / 3)) e in
    let smaller : p / 3 ≤ j = omega arith in
    and_from (nat_lt (p % 3) 2) (low_digits k (p / 3)) parts.0 (more_digits k j (p / 3) smaller parts.1)

no_carry : (k a b c : ℕ) → a ≤ k → b ≤ k → c ≤ k → low_digits k a ≡ true → low_digits k b ≡ true → low_digits k c ≡ true → a + b ≡ 2 * c → a ≡ c
no_carry zero a b c ha hb hc da db dc e = omega arith
no_carry (suc k) a b c ha hb hc da db dc e =
    let pa = and_parts (nat_lt (a % 3) 2) (low_digits k (a / 3)) da in
    let pb = and_parts (nat_lt (b % 3) 2) (low_digits k (b / 3)) db in
    let pc = and_parts (nat_lt (c % 3) 2) (low_digits k (c / 3)) dc in
    let sa : a % 3 < 2 = ltb-true (a % 3) 2 pa.0 in
    let sb : b % 3 < 2 = ltb-true (b % 3) 2 pb.0 in
    let sc : c % 3 < 2 = ltb-true (c % 3) 2 pc.0 in
    let high : a / 3 + b / 3 ≡ 2 * (c / 3) = omega arith in
    let low : a % 3 ≡ c % 3 = omega arith in
    let rest : a / 3 ≡ c / 3 = no_carry k (a / 3) (b / 3) (c / 3) (omega arith) (omega arith) (omega arith) pa.1 pb.1 pc.1 high in
    omega arith

pub double_of_one : (a b c : ℕ) → no_two a ≡ true → no_two b ≡ true → no_two c ≡ true → a + b ≡ 2 * c → a ≡ c
double_of_one a b c da db dc e =
    let k = a + (b + c) in
    no_carry k a b c (omega arith) (omega arith) (omega arith)
    (more_digits k a a (omega arith) da) (more_digits k b b (omega arith) db) (more_digits k c c (omega arith) dc) e
