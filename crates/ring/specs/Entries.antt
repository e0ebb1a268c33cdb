-- Rules of a table by a test at each entry, which antt computes; and bits of numbers.
use Rattle.std.specs.Prelude.{◌≡◌, ℕ, zero, suc, ◌+◌, ◌/◌, ◌%◌, ◌^◌, ◌<◌, Bool, true, false, T, List, [], ◌∷◌, ◌==◌, ◌≢◌, refl}
use Rattle.std.proofs.Common.{sym, ap, ap₂, subst, ◌∙◌, mod-lt, arith, eqb→eq, lit<, inl, inr}
use Rattle.std.proofs.lemmas.Nat.{field_of, mod-pow-add, mod-mul-add}
use Rattle.std.proofs.lemmas.Bool.{ne_eqb, cases_eq}

abbrev pub both : Bool → Bool → Bool
both true b = b
both false b = false

abbrev pub either : Bool → Bool → Bool
either true b = true
either false b = b

both_left : (a b : Bool) → T (both a b) → T a
both_left true b t = tt
both_left false b t = t

both_right : (a b : Bool) → T (both a b) → T b
both_right true b t = t
both_right false b t = absurd t

pub either_right : (a b : Bool) → a ≡ false → T (either a b) → T b
either_right a b e t = subst (λ x. T (either x b)) e t

pub other_eqb : (i j : ℕ) → (i ≢ j) → (i == j) ≡ false
other_eqb i j other = ne_eqb i j other

-- the test passes at 0 .. n - 1
abbrev pub every : ℕ → (ℕ → Bool) → Bool
every zero f = true
every (suc n) f = both (f n) (every n f)

pub every_at : (n : ℕ) (f : ℕ → Bool) → T (every n f) → (k : ℕ) → k < n → T (f k)
every_at zero f t k h = let z : ⊥ = omega arith in absurd z
every_at (suc n) f t k h = elim (cases_eq k n) [
  | inl same ↦ subst (λ i. T (f i)) (sym same) (both_left (f n) (every n f) t)
  | inr other ↦ let below : k < n = omega arith in every_at n f (both_right (f n) (every n f) t) k below
]

abbrev pub same_list : List ℕ → List ℕ → Bool
same_list [] [] = true
same_list [] (y ∷ m) = false
same_list (x ∷ l) [] = false
same_list (x ∷ l) (y ∷ m) = both (x == y) (same_list l m)

pub same_list_is : (l m : List ℕ) → T (same_list l m) → l ≡ m
same_list_is [] [] t = refl
same_list_is [] (y ∷ m) t = absurd t
same_list_is (x ∷ l) [] t = absurd t
same_list_is (x ∷ l) (y ∷ m) t = ap₂ (λ a b. a ∷ b) (eqb→eq x y (both_left (x == y) (same_list l m) t)) (same_list_is l m (both_right (x == y) (same_list l m) t))

lowest : (x j : ℕ) → x % 2 ^ (j + 1) % 2 ≡ x % 2
lowest x j = ap (λ z. z % 2) (mod-pow-add x j 1) ∙ mod-mul-add (x / 2 % 2 ^ j) 2 (x % 2) (mod-lt x (lit< tt))

-- a number modulo 2^(j + 1 + k) has the bit k of the number
pub bit_wraps : (i j k : ℕ) → i % 2 ^ (j + 1 + k) / 2 ^ k % 2 ≡ i / 2 ^ k % 2
bit_wraps i j k = ap (λ z. z % 2) (field_of i (j + 1) k) ∙ lowest (i / 2 ^ k) j
