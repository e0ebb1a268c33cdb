-- Digits in base three, the loops that look for lanes, and the places of the two runs of positions.
use Rattle.std.specs.Prelude.{◌≡◌, ℕ, zero, suc, ◌+◌, ◌-◌, ◌/◌, ◌%◌, ◌<◌, ◌≤◌, Bool, true, false, cond, ◌&&◌, List, [], ◌∷◌, ◌++◌, reverse, length, get_or, filter, ◌≢◌, nat_lt, slice_index_or, refl}
use Rattle.std.proofs.Common.{sym, ap, ap₂, ◌∙◌, arith, add-zero, length-append}
use Rattle.std.proofs.Math.ListN.{get_or-eq_default}
use Rattle.std.proofs.lemmas.List.FromFn.{length-range_with_len, get_or-range_with_len}
use Rattle.std.proofs.lemmas.List.{get_or-reverse, length-reverse}
use Rattle.std.proofs.lemmas.Bool.{cond-true, cond-false, lt-ltb}
use Rattle.std.specs.List.{range_with_len}
use Rattle.encoding.specs.Layouts.{low_digits, no_two}
use Rattle.encoding.specs.Positions.{more_digits}

-- digits past a number's own do not count
digits_same : (j k p : ℕ) → p ≤ j → p ≤ k → low_digits j p ≡ low_digits k p
digits_same j k p hj hk = go (low_digits j p) (low_digits k p) refl refl
  where
    go : (s t : Bool) → low_digits j p ≡ s → low_digits k p ≡ t → low_digits j p ≡ low_digits k p
    go true t ej ek = ej ∙ sym (more_digits k j p hj ej)
    go false true ej ek = more_digits j k p hk ek ∙ sym ek
    go false false ej ek = ej ∙ sym ek

-- the lowest digit, and the others
pub next_digit : (rest : ℕ) → 0 < rest → no_two rest ≡ (nat_lt (rest % 3) 2 && no_two (rest / 3))
next_digit zero some = let z : ⊥ = omega arith in absurd z
next_digit (suc k) some = ap (λ b. nat_lt (suc k % 3) 2 && b) (digits_same k (suc k / 3) (suc k / 3) (omega arith) (omega arith))

pub digit_passed : (rest : ℕ) → 0 < rest → (rest % 3 ≢ 2) → no_two rest ≡ no_two (rest / 3)
digit_passed rest some other =
    let small : rest % 3 < 2 = omega arith in
    next_digit rest some ∙ ap (λ b. b && no_two (rest / 3)) (lt-ltb (rest % 3) 2 small)

counting_split : (a n m : ℕ) → range_with_len a (n + m) ≡ range_with_len a n ++ range_with_len (a + n) m
counting_split a zero m = ap₂ range_with_len (sym (add-zero a)) (zero_plus m)
  where
    zero_plus : (m : ℕ) → zero + m ≡ m
    zero_plus m = omega arith
counting_split a (suc n) m =
    let up : suc n + m ≡ suc (n + m) = omega arith in
    let over : a + 1 + n ≡ a + suc n = omega arith in
    ap (range_with_len a) up ∙ ap (λ l. a ∷ l) (counting_split (a + 1) n m ∙ ap (λ b. range_with_len (a + 1) n ++ range_with_len b m) over)

kept_append : (p : ℕ → Bool) (xs ys : List ℕ) → filter p (xs ++ ys) ≡ filter p xs ++ filter p ys
kept_append p [] ys = refl
kept_append p (x ∷ xs) ys =
    elim (p x) as (λ t. cond t (x ∷ filter p (xs ++ ys)) (filter p (xs ++ ys)) ≡ cond t (x ∷ filter p xs) (filter p xs) ++ filter p ys) [
      | true ↦ ap (λ l. x ∷ l) (kept_append p xs ys)
      | false ↦ kept_append p xs ys
    ]

-- the lanes below i
abbrev pub lanes_below : ℕ → List ℕ
lanes_below i = filter no_two (range_with_len 0 i)

split : (i m : ℕ) → lanes_below (i + m) ≡ lanes_below i ++ filter no_two (range_with_len i m)
split i m =
    let same : 0 + i ≡ i = omega arith in
    ap (filter no_two) (counting_split 0 i m ∙ ap (λ b. range_with_len 0 i ++ range_with_len b m) same)
    ∙ kept_append no_two (range_with_len 0 i) (range_with_len i m)

pub record Seen (i count : ℕ) : Type 0 where
  pub is : count ≡ length (lanes_below i)
  pub most : count ≤ i

pub seen_none : Seen 0 0
seen_none = record { is = refl; most = omega arith }

pub seen_more : {i count : ℕ} → Seen i count → no_two i ≡ true → Seen (i + 1) (count + 1)
seen_more {i} {count} s e = record {
  most = omega (arith, s.most);
  is =
      ap (λ n. n + 1) s.is
      ∙ sym (length-append (lanes_below i) (i ∷ []))
      ∙ ap (λ l. length (lanes_below i ++ l)) (sym (cond-true (no_two i) (i ∷ []) [] e))
      ∙ ap length (sym (split i 1));
}

pub seen_less : {i count : ℕ} → Seen i count → no_two i ≡ false → Seen (i + 1) count
seen_less {i} {count} s e = record {
  most = omega (arith, s.most);
  is =
      s.is
      ∙ (let none : length (lanes_below i) ≡ length (lanes_below i) + 0 = omega arith in none)
      ∙ sym (length-append (lanes_below i) [])
      ∙ ap (λ l. length (lanes_below i ++ l)) (sym (cond-false (no_two i) (i ∷ []) [] e))
      ∙ ap length (sym (split i 1));
}

at_end : {A : Type 0} (xs ys : List A) (y d : A) → slice_index_or (xs ++ (y ∷ ys)) (length xs) d ≡ y
at_end [] ys y d = refl
at_end (x ∷ xs) ys y d = at_end xs ys y d

pub seen_found : {i count : ℕ} (end other : ℕ) → Seen i count → i < end → no_two i ≡ true → i ≡ slice_index_or (lanes_below end) count other
seen_found {i} {count} end other s h e =
    let m = end - i - 1 in
    let whole : i + suc m ≡ end = omega arith in
    sym (ap₂ (λ n k. get_or (lanes_below n) k other) (sym whole) s.is
    ∙ ap (λ l. get_or l (length (lanes_below i)) other) (split i (suc m) ∙ ap (λ l. lanes_below i ++ l) (cond-true (no_two i) (i ∷ filter no_two (range_with_len (i + 1) m)) (filter no_two (range_with_len (i + 1) m)) e))
    ∙ at_end (lanes_below i) (filter no_two (range_with_len (i + 1) m)) i other)

pub seen_not : {i count : ℕ} (end lane other : ℕ) → Seen i count → i ≤ end → end ≤ i → count ≤ lane → other ≡ slice_index_or (lanes_below end) lane other
seen_not {i} {count} end lane other s le ge most =
    let same : i ≡ end = omega arith in
    let short : length (lanes_below end) ≤ lane = omega (arith, s.is, ap (λ n. length (lanes_below n)) same) in
    sym (get_or-eq_default (lanes_below end) other short)

pub seen_all : {i count : ℕ} (end : ℕ) → Seen i count → i ≤ end → end ≤ i → count ≡ length (lanes_below end)
seen_all {i} {count} end s le ge = let same : i ≡ end = omega arith in s.is ∙ ap (λ n. length (lanes_below n)) same

-- the places of the two runs of positions
pub run_in : (n lane other : ℕ) → lane < n → lane ≡ slice_index_or (range_with_len 0 n) lane other
run_in n lane other h = sym (get_or-range_with_len 0 n lane other h ∙ (let e : 0 + lane ≡ lane = omega arith in e))

pub run_out : (n lane other : ℕ) → n ≤ lane → other ≡ slice_index_or (range_with_len 0 n) lane other
run_out n lane other h = let short : length (range_with_len 0 n) ≤ lane = omega (arith, length-range_with_len 0 n) in sym (get_or-eq_default (range_with_len 0 n) other short)

pub length_back : (n : ℕ) → length (reverse (range_with_len 0 n)) ≡ n
length_back n = length-reverse (range_with_len 0 n) ∙ length-range_with_len 0 n

pub back_in : (n lane other : ℕ) → lane < n → n - 1 - lane ≡ slice_index_or (reverse (range_with_len 0 n)) lane other
back_in n lane other h =
    let long : length (range_with_len 0 n) ≡ n = length-range_with_len 0 n in
    let here : lane < length (range_with_len 0 n) = omega arith in
    let there : length (range_with_len 0 n) - 1 - lane < n = omega arith in
    sym (get_or-reverse (range_with_len 0 n) lane other here
    ∙ get_or-range_with_len 0 n (length (range_with_len 0 n) - 1 - lane) other there
    ∙ (let e : 0 + (length (range_with_len 0 n) - 1 - lane) ≡ n - 1 - lane = omega arith in e))

pub back_out : (n lane other : ℕ) → n ≤ lane → other ≡ slice_index_or (reverse (range_with_len 0 n)) lane other
back_out n lane other h = let short : length (reverse (range_with_len 0 n)) ≤ lane = omega (arith, length_back n) in sym (get_or-eq_default (reverse (range_with_len 0 n)) other short)
