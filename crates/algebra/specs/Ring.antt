-- A commutative ring with one on a type: its operations and their laws.
use Rattle.std.specs.Prelude.{◌≡◌}

pub record CommRing (A : Type 0) : Type 0 where
  infixl 65 ◌⊕◌
  infixl 70 ◌⊗◌
  pub 𝟎 : A
  pub 𝟏 : A
  pub ◌⊕◌ : A → A → A
  pub ◌⊗◌ : A → A → A
  pub neg : A → A
  pub add_assoc : (a b c : A) → (a ⊕ b) ⊕ c ≡ a ⊕ (b ⊕ c)
  pub add_comm : (a b : A) → a ⊕ b ≡ b ⊕ a
  pub add_zero : (a : A) → a ⊕ 𝟎 ≡ a
  pub add_neg : (a : A) → a ⊕ neg a ≡ 𝟎
  pub mul_assoc : (a b c : A) → (a ⊗ b) ⊗ c ≡ a ⊗ (b ⊗ c)
  pub mul_comm : (a b : A) → a ⊗ b ≡ b ⊗ a
  pub mul_one : (a : A) → a ⊗ 𝟏 ≡ a
  pub distrib : (a b c : A) → a ⊗ (b ⊕ c) ≡ a ⊗ b ⊕ a ⊗ c

-- the difference
abbrev pub sub : {A : Type 0} → CommRing A → A → A → A
sub R a b = R.◌⊕◌ a (R.neg b)

-- operations alone, of which no law is asked: numbers have them modulo q, and so have expressions
pub record Ops (A : Type 0) : Type 0 where
  pub zero : A
  pub one : A
  pub plus : A → A → A
  pub times : A → A → A
  pub minus : A → A

abbrev pub ops : {A : Type 0} → CommRing A → Ops A
ops R = record { zero = R.𝟎; one = R.𝟏; plus = R.◌⊕◌; times = R.◌⊗◌; minus = R.neg }
