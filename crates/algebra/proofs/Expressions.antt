-- Definitions over operations, run on the solver's expressions: what they come to holds at all values.
use Rattle.std.proofs.Common.{◌≡◌, ℕ, List, [], ◌∷◌, map, refl, ap, ◌∙◌, ap₂}
use Rattle.algebra.specs.Ring.{CommRing, Ops, ops}
use Rattle.algebra.specs.Solver.{Ex, ◌:=◌, nil, one, ◌:+◌, ◌:-◌, ◌:*◌, value, Checks}
use Rattle.algebra.proofs.Keeps.{Keeps}
use Rattle.algebra.proofs.Solver.{solver_sound, zero_add}

abbrev pub expressions : Ops Ex
expressions = record { zero = nil; one = one; plus = ◌:+◌; times = ◌:*◌; minus = λ e. nil :- e }

pub value_keeps : {A : Type 0} (R : CommRing A) (at : ℕ → A) → Keeps expressions (ops R) (value R at)
value_keeps R at = record { zero = refl; one = refl; plus = λ a b. refl; times = λ a b. refl; minus = λ a. zero_add R (R.neg (value R at a)) }

pub keeps_then : {A B C : Type 0} (O : Ops A) (P : Ops B) (Q : Ops C) (f : A → B) (g : B → C) → Keeps O P f → Keeps P Q g → Keeps O Q (λ a. g (f a))
keeps_then O P Q f g k l = record {
  zero = ap g k.zero ∙ l.zero;
  one = ap g k.one ∙ l.one;
  plus = λ a b. ap g (k.plus a b) ∙ l.plus (f a) (f b);
  times = λ a b. ap g (k.times a b) ∙ l.times (f a) (f b);
  minus = λ a. ap g (k.minus a) ∙ l.minus (f a);
}

-- two lists of expressions, place by place the same polynomial
abbrev pub CheckAll : List Ex → List Ex → Type 0
CheckAll [] [] = Unit {0}
CheckAll [] (b ∷ r) = ⊥
CheckAll (a ∷ l) [] = ⊥
CheckAll (a ∷ l) (b ∷ r) = Checks (a := b) × CheckAll l r

pub solve_all : {A : Type 0} (R : CommRing A) (at : ℕ → A) (l r : List Ex) → CheckAll l r → map (value R at) l ≡ map (value R at) r
solve_all R at [] [] c = refl
solve_all R at [] (b ∷ r) c = absurd c
solve_all R at (a ∷ l) [] c = absurd c
solve_all R at (a ∷ l) (b ∷ r) c = ap₂ (λ x y. x ∷ y) (solver_sound R at (a := b) c.0) (solve_all R at l r c.1)
