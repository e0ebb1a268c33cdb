-- Numbers below q with the operations modulo q are a commutative ring.
use Rattle.std.proofs.Common.{◌≡◌, ℕ, ◌+◌, ◌-◌, ◌*◌, ◌/◌, ◌%◌, ◌<◌, ◌≤◌, sym, refl, ap, ◌∙◌, add-zero, add_assoc, mod-lt, mod-eq_of_lt, mul_assoc, mul_comm, add-mul, add_comm, mul-one, mul-add, arith}
use mathlib.Core.HLevel.{Σ_prop_path}
use native.Mathlib.Bridge.{le_prop}
use native.Mathlib.Nat.{mod_self, mod-add-mod, add-mod-mod, mod-add-div, add-mul-mod_self_left}
use Rattle.algebra.specs.Quotient.{modulo}
use Rattle.algebra.specs.Ring.{CommRing, ops}
use Rattle.algebra.proofs.Keeps.{Keeps}

abbrev pub Below : ℕ → Type 0
Below q = (n : ℕ) × (n < q)

pub below_same : {q : ℕ} (a b : Below q) → a.0 ≡ b.0 → a ≡ b
below_same a b e = Σ_prop_path (λ n. le_prop) {u = a} {v = b} e

-- a factor may be reduced first
pub mod_mul_mod : (x y q : ℕ) → (x % q * y) % q ≡ (x * y) % q
mod_mul_mod x y q =
    sym (add-mul-mod_self_left (x % q * y) q (x / q * y))
    ∙ ap (λ z. z % q) (ap (λ z. x % q * y + z) (sym (mul_assoc q (x / q) y)) ∙ sym (add-mul (x % q) (q * (x / q)) y) ∙ ap (λ z. z * y) (mod-add-div x q))

pub mul_mod_mod : (x y q : ℕ) → (x * (y % q)) % q ≡ (x * y) % q
mul_mod_mod x y q = ap (λ z. z % q) (mul_comm x (y % q)) ∙ mod_mul_mod y x q ∙ ap (λ z. z % q) (mul_comm y x)

module _ (q : ℕ) (two : 2 ≤ q) where
  pub pos : 0 < q
  pos = omega arith

  abbrev pub reduce : ℕ → Below q
  reduce n = (n % q, mod-lt n pos)

  abbrev pub numbers : CommRing (Below q)
  numbers = record {
    𝟎 = (0, pos);
    𝟏 = (1, two);
    ◌⊕◌ = λ a b. reduce (a.0 + b.0);
    ◌⊗◌ = λ a b. reduce (a.0 * b.0);
    neg = λ a. reduce (q - a.0);
    add_assoc = λ a b c. below_same _ _ (mod-add-mod (a.0 + b.0) q c.0 ∙ ap (λ z. z % q) (add_assoc a.0 b.0 c.0) ∙ sym (add-mod-mod a.0 (b.0 + c.0) q));
    add_comm = λ a b. below_same _ _ (ap (λ z. z % q) (add_comm a.0 b.0));
    add_zero = λ a. below_same _ _ (ap (λ z. z % q) (add-zero a.0) ∙ mod-eq_of_lt a.1);
    add_neg = λ a. below_same _ _ (let whole : a.0 + (q - a.0) ≡ q = omega (arith, a.1) in add-mod-mod a.0 (q - a.0) q ∙ ap (λ z. z % q) whole ∙ mod_self q);
    mul_assoc = λ a b c. below_same _ _ (mod_mul_mod (a.0 * b.0) c.0 q ∙ ap (λ z. z % q) (mul_assoc a.0 b.0 c.0) ∙ sym (mul_mod_mod a.0 (b.0 * c.0) q));
    mul_comm = λ a b. below_same _ _ (ap (λ z. z % q) (mul_comm a.0 b.0));
    mul_one = λ a. below_same _ _ (ap (λ z. z % q) (mul-one a.0) ∙ mod-eq_of_lt a.1);
    distrib = λ a b c. below_same _ _ (mul_mod_mod a.0 (b.0 + c.0) q ∙ ap (λ z. z % q) (mul-add a.0 b.0 c.0) ∙ sym (mod-add-mod (a.0 * b.0) q ((a.0 * c.0) % q) ∙ add-mod-mod (a.0 * b.0) (a.0 * c.0) q));
  }

  -- the number itself, with its operations modulo q
  pub number_keeps : Keeps (ops numbers) (modulo q) (λ a. a.0)
  number_keeps = record { zero = refl; one = refl; plus = λ a b. refl; times = λ a b. refl; minus = λ a. refl }
