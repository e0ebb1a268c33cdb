-- The ring of bytes: exclusive or is the sum, doubling the product with X, and the points.
use Rattle.std.specs.Prelude.{◌≡◌, ℕ, zero, suc, ◌+◌, ◌-◌, ◌*◌, ◌/◌, ◌%◌, ◌^◌, ◌<◌, ◌≤◌, Bool, cond, T, List, [], ◌∷◌, length, drop, ◌==◌, bit_and, bit_xor, slice_index, refl}
use Rattle.std.proofs.Common.{sym, ap, ap₂, ◌∙◌, mod-lt, mod-eq_of_lt, zero-add, one-mul, zero-mul, arith, eqb→eq, lit≤, lit<, drop-cons}
use Rattle.std.proofs.Math.Nat.{mod-mod}
use Rattle.std.specs.Int.Bits.{xor_self, xor_assoc, xor_zero_l, xor_zero_r}
use Rattle.std.proofs.lemmas.Nat.{and_mask, xor_comm, xor_shr, xor_mod, xor_lt}
use Rattle.algebra.specs.Quotient.{modulo, add, negate, scale, shift, product, AllBelow}
use Rattle.algebra.specs.Ring.{sub}
use Rattle.algebra.proofs.Quotient.{same_element}
use Rattle.ring.specs.B8.{b8, bits, b8_element, b8_points}
use Rattle.ring.specs.B8Inverses.{byte_inverses}
use Rattle.ring.specs.Model.{ring, bit_of, coordinate_of, PointLaws}
use Rattle.ring.specs.Entries.{bit_wraps, either, either_right, other_eqb, same_list, same_list_is, every, every_at}

digit_xor : (x y : ℕ) → x < 2 → y < 2 → bit_xor x y ≡ (x + y) % 2
digit_xor zero y hx hy = sym (ap (λ z. z % 2) (zero-add y) ∙ mod-eq_of_lt hy)
digit_xor (suc zero) zero hx hy = refl
digit_xor (suc zero) (suc zero) hx hy = refl
digit_xor (suc zero) (suc (suc y)) hx hy = let z : ⊥ = omega arith in absurd z
digit_xor (suc (suc x)) y hx hy = let z : ⊥ = omega arith in absurd z

xor_bit : (a b c : ℕ) → bit_of (bit_xor a b) c ≡ (bit_of a c + bit_of b c) % 2
xor_bit a b c =
    ap (λ z. z % 2) (xor_shr a b c)
    ∙ xor_mod (a / 2 ^ c) (b / 2 ^ c) 1
    ∙ digit_xor (bit_of a c) (bit_of b c) (mod-lt (a / 2 ^ c) (lit< tt)) (mod-lt (b / 2 ^ c) (lit< tt))

pub bits_xor : (a b : ℕ) → bits (bit_xor a b) ≡ add (modulo 2) (bits a) (bits b)
bits_xor a b = λ i. xor_bit a b 0 i ∷ xor_bit a b 1 i ∷ xor_bit a b 2 i ∷ xor_bit a b 3 i ∷ xor_bit a b 4 i ∷ xor_bit a b 5 i ∷ xor_bit a b 6 i ∷ xor_bit a b 7 i ∷ []

-- modulo 2 a number is its own negative
negate_same : (v : List ℕ) → AllBelow 2 v → negate (modulo 2) v ≡ v
negate_same [] low = refl
negate_same (x ∷ v) low = let h : x < 2 = low.0 in let e : (2 - x) % 2 ≡ x = omega arith in ap₂ (λ y l. y ∷ l) e (negate_same v low.1)

scale_one : (v : List ℕ) → AllBelow 2 v → scale (modulo 2) 1 v ≡ v
scale_one [] low = refl
scale_one (x ∷ v) low = ap₂ (λ y l. y ∷ l) (ap (λ z. z % 2) (one-mul x) ∙ mod-eq_of_lt low.0) (scale_one v low.1)

scale_none : (v w : List ℕ) → length v ≡ length w → AllBelow 2 w → add (modulo 2) (scale (modulo 2) 0 v) w ≡ w
scale_none [] [] e low = refl
scale_none [] (y ∷ w) e low = let z : ⊥ = omega arith in absurd z
scale_none (x ∷ v) [] e low = let z : ⊥ = omega arith in absurd z
scale_none (x ∷ v) (y ∷ w) e low =
    let rest : length v ≡ length w = omega arith in
    ap₂ (λ z l. z ∷ l) (ap (λ z. (z % 2 + y) % 2) (zero-mul x) ∙ ap (λ z. z % 2) (zero-add y) ∙ mod-eq_of_lt low.0) (scale_none v w rest low.1)

pub byte_sum : (a b : ℕ) → b8_element (bit_xor a b) ≡ (ring b8).◌⊕◌ (b8_element a) (b8_element b)
unfolding ring
byte_sum a b = same_element b8 _ _ (bits_xor a b)

pub byte_difference : (a b : ℕ) → b8_element (bit_xor a b) ≡ sub (ring b8) (b8_element a) (b8_element b)
unfolding ring
byte_difference a b = same_element b8 _ _ (bits_xor a b ∙ ap (add (modulo 2) (bits a)) (sym (negate_same (bits b) (b8_element b).1.1)))

pub sum_is_difference : (a b : ℕ) → (ring b8).◌⊕◌ (b8_element a) (b8_element b) ≡ sub (ring b8) (b8_element a) (b8_element b)
sum_is_difference a b = sym (byte_sum a b) ∙ byte_difference a b

pub byte_wraps : (i : ℕ) → b8_element (i % 256) ≡ b8_element i
byte_wraps i =
    same_element b8 _ _ (λ k. bit_wraps i 7 0 k ∷ bit_wraps i 6 1 k ∷ bit_wraps i 5 2 k ∷ bit_wraps i 4 3 k ∷ bit_wraps i 3 4 k ∷ bit_wraps i 2 5 k ∷ bit_wraps i 1 6 k ∷ bit_wraps i 0 7 k ∷ [])

bit_at : (a p : ℕ) → p < 8 → coordinate_of (bits a) p ≡ bit_of a p
bit_at a zero h = refl
bit_at a (suc zero) h = refl
bit_at a (suc (suc zero)) h = refl
bit_at a (suc (suc (suc zero))) h = refl
bit_at a (suc (suc (suc (suc zero)))) h = refl
bit_at a (suc (suc (suc (suc (suc zero))))) h = refl
bit_at a (suc (suc (suc (suc (suc (suc zero)))))) h = refl
bit_at a (suc (suc (suc (suc (suc (suc (suc zero))))))) h = refl
bit_at a (suc (suc (suc (suc (suc (suc (suc (suc p)))))))) h = let z : ⊥ = omega arith in absurd z

digit_test : (x : ℕ) → x < 2 → cond (x == 1) 1 0 ≡ x
digit_test zero h = refl
digit_test (suc zero) h = refl
digit_test (suc (suc x)) h = let z : ⊥ = omega arith in absurd z

pub bit_is : (a p : ℕ) → p < 8 → cond (bit_and (a / 2 ^ p) 1 == 1) 1 0 ≡ coordinate_of (bits a) p
bit_is a p h =
    ap (λ x. cond (x == 1) 1 0) (and_mask (a / 2 ^ p) 1)
    ∙ digit_test (bit_of a p) (mod-lt (a / 2 ^ p) (lit< tt))
    ∙ sym (bit_at a p h)

-- doubling, tried at every byte with its top bit set
doubles : ℕ → Bool
doubles k = same_list (bits (bit_xor (k * 2) 27)) (shift (modulo 2) b8.h (bits (k + 128)))

all_double : T (every 128 doubles)
unfolding doubles
all_double = tt

pub doubled_high : (a : ℕ) → 128 ≤ a → a < 256 → bits (bit_xor ((a - 128) * 2) 27) ≡ shift (modulo 2) b8.h (bits a)
unfolding doubles
doubled_high a low high =
    let below : a - 128 < 128 = omega arith in
    let whole : a - 128 + 128 ≡ a = omega arith in
    same_list_is _ _ (every_at 128 doubles all_double (a - 128) below) ∙ ap (λ x. shift (modulo 2) b8.h (bits x)) whole

-- one more bit of the first factor
module _ (a b sum d k : ℕ) (some : 0 < k) (most : k ≤ 8) (worked : bits sum ≡ product (modulo 2) b8.h (drop k (bits a)) (bits b)) (twice : bits d ≡ shift (modulo 2) b8.h (bits sum)) where
  next : (x : ℕ) → x ≡ coordinate_of (bits a) (k - 1) → product (modulo 2) b8.h (drop (k - 1) (bits a)) (bits b) ≡ add (modulo 2) (scale (modulo 2) x (bits b)) (bits d)
  next x e =
      let below : k - 1 < 8 = omega arith in
      let one_up : suc (k - 1) ≡ k = omega arith in
      ap (λ l. product (modulo 2) b8.h l (bits b)) (drop-cons (bits a) (k - 1) 0 below ∙ ap₂ (λ y m. y ∷ drop m (bits a)) (sym e) one_up)
      ∙ ap (λ w. add (modulo 2) (scale (modulo 2) x (bits b)) w) (ap (shift (modulo 2) b8.h) (sym worked) ∙ sym twice)

  pub next_clear : 0 ≡ coordinate_of (bits a) (k - 1) → bits d ≡ product (modulo 2) b8.h (drop (k - 1) (bits a)) (bits b)
  next_clear e = sym (next 0 e ∙ scale_none (bits b) (bits d) refl (b8_element d).1.1)

  pub next_set : 1 ≡ coordinate_of (bits a) (k - 1) → bits (bit_xor d b) ≡ product (modulo 2) b8.h (drop (k - 1) (bits a)) (bits b)
  next_set e =
      ap bits (xor_comm d b)
      ∙ bits_xor b d
      ∙ sym (next 1 e ∙ ap (λ v. add (modulo 2) v (bits d)) (scale_one (bits b) (b8_element b).1.1))

pub byte_product : (a b sum k : ℕ) → k ≤ 0 → bits sum ≡ product (modulo 2) b8.h (drop k (bits a)) (bits b) → b8_element sum ≡ (ring b8).◌⊗◌ (b8_element a) (b8_element b)
unfolding ring
byte_product a b sum k none worked =
    let zero_is : k ≡ 0 = omega arith in
    same_element b8 _ _ (worked ∙ ap (λ m. product (modulo 2) b8.h (drop m (bits a)) (bits b)) zero_is)

-- a byte is the number of its bits
number : List ℕ → ℕ
number [] = 0
number (x ∷ l) = x + 2 * number l

counts : ℕ → Bool
counts n = number (bits n) == n

all_count : T (every 256 counts)
unfolding counts number
all_count = tt

pub same_byte : (a b : ℕ) → a < 256 → b < 256 → b8_element a ≡ b8_element b → a ≡ b
unfolding counts
same_byte a b ha hb e =
    sym (eqb→eq _ _ (every_at 256 counts all_count a ha)) ∙ ap (λ x. number x.0) e ∙ eqb→eq _ _ (every_at 256 counts all_count b hb)

inverts : ℕ → Bool
inverts x = either (x == 0) (same_list (product (modulo 2) b8.h (bits x) (bits (slice_index byte_inverses x))) (1 ∷ 0 ∷ 0 ∷ 0 ∷ 0 ∷ 0 ∷ 0 ∷ 0 ∷ []))

all_invert : T (every 256 inverts)
unfolding inverts
all_invert = tt

xor_none : (i j : ℕ) → bit_xor i j ≡ 0 → i ≡ j
xor_none i j e = sym (xor_zero_r i) ∙ ap (bit_xor i) (sym (xor_self j)) ∙ sym (xor_assoc i j j) ∙ ap (λ x. bit_xor x j) e ∙ xor_zero_l j

pub b8_laws : PointLaws b8 b8_points
unfolding inverts ring
b8_laws = record {
  many = lit≤ tt;
  start = same_element b8 _ _ refl;
  wraps = byte_wraps;
  inv_wraps = λ i j. ap (λ x. b8_element (slice_index byte_inverses x)) (ap (λ x. x % 256) (sym (xor_mod i j 8)) ∙ mod-mod (bit_xor i j) 256);
  inverse = λ i j hi hj other.
      let x = bit_xor i j in
      let small : x < 256 = xor_lt 8 i j hi hj in
      ap₂ (ring b8).◌⊗◌ (sym (byte_difference i j)) (ap (λ k. b8_element (slice_index byte_inverses k)) (mod-eq_of_lt small))
      ∙ same_element b8 _ _ (same_list_is _ _ (either_right _ _ (other_eqb x 0 (λ e. other (xor_none i j e))) (every_at 256 inverts all_invert x small)));
  none = λ i. ap (λ x. b8_element (slice_index byte_inverses (x % 256))) (xor_self i) ∙ same_element b8 _ _ refl;
}
