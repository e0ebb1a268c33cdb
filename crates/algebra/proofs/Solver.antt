-- The ring solver: an identity that checks holds.
use Rattle.std.proofs.Common.{◌≡◌, ℕ, true, false, ltb, List, [], ◌∷◌, get_or, sym, refl, ap, ◌∙◌, ap₂}
use Rattle.algebra.specs.Ring.{CommRing}
use Rattle.algebra.specs.Solver.{Ex, Identity, ◌:=◌, var, nil, one, ◌:+◌, ◌:-◌, ◌:*◌, left, right, value, Monomial, Sum, enter, joined, before, insert, plus, times_one, times, Form, form, Checks, SolverSound, ChecksUsing, SolverUses}

module _ {A : Type 0} (R : CommRing A) where
  open R use {𝟎, 𝟏, ◌⊕◌, ◌⊗◌, neg, add_assoc, add_comm, add_zero, add_neg, mul_assoc, mul_comm, mul_one, distrib}

  infixl 65 ◌⊕◌
  infixl 70 ◌⊗◌
  pub zero_add : (a : A) → 𝟎 ⊕ a ≡ a
  zero_add a = add_comm 𝟎 a ∙ add_zero a

  pub one_mul : (a : A) → 𝟏 ⊗ a ≡ a
  one_mul a = mul_comm 𝟏 a ∙ mul_one a

  pub add_left_comm : (a b c : A) → a ⊕ (b ⊕ c) ≡ b ⊕ (a ⊕ c)
  add_left_comm a b c = sym (add_assoc a b c) ∙ ap (λ x. x ⊕ c) (add_comm a b) ∙ add_assoc b a c

  pub mul_left_comm : (a b c : A) → a ⊗ (b ⊗ c) ≡ b ⊗ (a ⊗ c)
  mul_left_comm a b c = sym (mul_assoc a b c) ∙ ap (λ x. x ⊗ c) (mul_comm a b) ∙ mul_assoc b a c

  -- what is added on both sides can be left out
  pub cancel : (a b c : A) → a ⊕ c ≡ b ⊕ c → a ≡ b
  cancel a b c e = sym (undo a) ∙ ap (λ x. x ⊕ neg c) e ∙ undo b
    where
      undo : (x : A) → x ⊕ c ⊕ neg c ≡ x
      undo x = add_assoc x c (neg c) ∙ ap (λ y. x ⊕ y) (add_neg c) ∙ add_zero x

  pub mul_zero : (a : A) → a ⊗ 𝟎 ≡ 𝟎
  mul_zero a = cancel (a ⊗ 𝟎) 𝟎 (a ⊗ 𝟎) (sym (distrib a 𝟎 𝟎) ∙ ap (λ x. a ⊗ x) (add_zero 𝟎) ∙ sym (zero_add (a ⊗ 𝟎)))

  pub zero_mul : (a : A) → 𝟎 ⊗ a ≡ 𝟎
  zero_mul a = mul_comm 𝟎 a ∙ mul_zero a

  pub distrib_right : (a b c : A) → (a ⊕ b) ⊗ c ≡ a ⊗ c ⊕ b ⊗ c
  distrib_right a b c = mul_comm (a ⊕ b) c ∙ distrib c a b ∙ ap₂ ◌⊕◌ (mul_comm c a) (mul_comm c b)

  module _ (at : ℕ → A) where
    abbrev monomial : Monomial → A
    monomial [] = 𝟏
    monomial (x ∷ m) = at x ⊗ monomial m

    abbrev total : Sum → A
    total [] = 𝟎
    total (m ∷ s) = monomial m ⊕ total s

    enter_is : (x : ℕ) (m : Monomial) → monomial (enter x m) ≡ at x ⊗ monomial m
    enter_is x [] = refl
    enter_is x (y ∷ m) =
        elim (ltb y x) as (λ b. monomial (elim b [ true ↦ y ∷ enter x m | false ↦ x ∷ y ∷ m ]) ≡ at x ⊗ (at y ⊗ monomial m)) [
          | true ↦ ap (λ z. at y ⊗ z) (enter_is x m) ∙ mul_left_comm (at y) (at x) (monomial m)
          | false ↦ refl
        ]

    joined_is : (m n : Monomial) → monomial (joined m n) ≡ monomial m ⊗ monomial n
    joined_is [] n = sym (one_mul (monomial n))
    joined_is (x ∷ m) n = enter_is x (joined m n) ∙ ap (λ z. at x ⊗ z) (joined_is m n) ∙ sym (mul_assoc (at x) (monomial m) (monomial n))

    insert_is : (m : Monomial) (s : Sum) → total (insert m s) ≡ monomial m ⊕ total s
    insert_is m [] = refl
    insert_is m (n ∷ s) =
        elim (before n m) as (λ b. total (elim b [ true ↦ n ∷ insert m s | false ↦ m ∷ n ∷ s ]) ≡ monomial m ⊕ (monomial n ⊕ total s)) [
          | true ↦ ap (λ z. monomial n ⊕ z) (insert_is m s) ∙ add_left_comm (monomial n) (monomial m) (total s)
          | false ↦ refl
        ]

    plus_is : (s t : Sum) → total (plus s t) ≡ total s ⊕ total t
    plus_is [] t = sym (zero_add (total t))
    plus_is (m ∷ s) t = insert_is m (plus s t) ∙ ap (λ z. monomial m ⊕ z) (plus_is s t) ∙ sym (add_assoc (monomial m) (total s) (total t))

    times_one_is : (m : Monomial) (t : Sum) → total (times_one m t) ≡ monomial m ⊗ total t
    times_one_is m [] = sym (mul_zero (monomial m))
    times_one_is m (n ∷ t) = insert_is (joined m n) (times_one m t) ∙ ap₂ ◌⊕◌ (joined_is m n) (times_one_is m t) ∙ sym (distrib (monomial m) (monomial n) (total t))

    times_is : (s t : Sum) → total (times s t) ≡ total s ⊗ total t
    times_is [] t = sym (zero_mul (total t))
    times_is (m ∷ s) t = plus_is (times_one m t) (times s t) ∙ ap₂ ◌⊕◌ (times_one_is m t) (times_is s t) ∙ sym (distrib_right (monomial m) (total s) (total t))

    -- the value and what is taken away make what is added
    Balances : A → Form → Type 0
    Balances v f = v ⊕ total f.less ≡ total f.more

    shuffle : (a b c d : A) → (a ⊕ b) ⊕ (c ⊕ d) ≡ (a ⊕ c) ⊕ (b ⊕ d)
    shuffle a b c d = simp (add_assoc, add_left_comm)

    difference : (a b p n : A) → (a ⊕ neg b) ⊕ (p ⊕ (b ⊕ n)) ≡ (a ⊕ p) ⊕ n
    difference a b p n =
        shuffle a (neg b) p (b ⊕ n)
        ∙ ap (λ z. a ⊕ p ⊕ z) (sym (add_assoc (neg b) b n) ∙ ap (λ z. z ⊕ n) (add_comm (neg b) b ∙ add_neg b) ∙ zero_add n)

    product : (a b p n : A) → a ⊗ b ⊕ ((a ⊕ p) ⊗ n ⊕ p ⊗ (b ⊕ n)) ≡ (a ⊕ p) ⊗ (b ⊕ n) ⊕ p ⊗ n
    product a b p n = simp (distrib, distrib_right, add_assoc, add_left_comm)

    balances : (e : Ex) → Balances (value R at e) (form e)
    unfolding Balances
    balances (var i) = add_zero (at i) ∙ sym (mul_one (at i)) ∙ sym (add_zero (at i ⊗ 𝟏))
    balances nil = add_zero 𝟎
    balances one = refl
    balances (l :+ r) =
        let f = form l in
        let g = form r in
        ap (λ z. value R at l ⊕ value R at r ⊕ z) (plus_is f.less g.less)
        ∙ shuffle (value R at l) (value R at r) (total f.less) (total g.less)
        ∙ ap₂ ◌⊕◌ (balances l) (balances r)
        ∙ sym (plus_is f.more g.more)
    balances (l :- r) =
        let f = form l in
        let g = form r in
        let a = value R at l in
        let b = value R at r in
        let p = total f.less in
        let n = total g.less in
        ap (λ z. a ⊕ neg b ⊕ z) (plus_is f.less g.more ∙ ap (λ z. p ⊕ z) (sym (balances r)))
        ∙ difference a b p n
        ∙ ap (λ z. z ⊕ n) (balances l)
        ∙ sym (plus_is f.more g.less)
    balances (l :* r) =
        let f = form l in
        let g = form r in
        let a = value R at l in
        let b = value R at r in
        let p = total f.less in
        let n = total g.less in
        ap (λ z. a ⊗ b ⊕ z) (plus_is (times f.more g.less) (times f.less g.more) ∙ ap₂ ◌⊕◌ (times_is f.more g.less) (times_is f.less g.more))
        ∙ ap₂ (λ y z. a ⊗ b ⊕ (y ⊗ n ⊕ p ⊗ z)) (sym (balances l)) (sym (balances r))
        ∙ product a b p n
        ∙ ap₂ (λ y z. y ⊗ z ⊕ p ⊗ n) (balances l) (balances r)
        ∙ sym (ap₂ ◌⊕◌ (times_is f.more g.more) (times_is f.less g.less))
        ∙ sym (plus_is (times f.more g.more) (times f.less g.less))

    solved : (l r : Ex) → plus (form l).more (form r).less ≡ plus (form r).more (form l).less → value R at l ≡ value R at r
    unfolding Balances
    solved l r e =
        let f = form l in
        let g = form r in
        let a = value R at l in
        let b = value R at r in
        let p = total f.less in
        let n = total g.less in
        cancel a b (p ⊕ n)
        (sym (add_assoc a p n)
        ∙ ap (λ z. z ⊕ n) (balances l)
        ∙ sym (plus_is f.more g.less)
        ∙ ap total e
        ∙ plus_is g.more f.less
        ∙ ap (λ z. z ⊕ p) (sym (balances r))
        ∙ add_assoc b n p
        ∙ ap (λ z. b ⊕ z) (add_comm n p))

pub solver_sound : {A : Type 0} → SolverSound A
solver_sound R at (l := r) e = solved R at l r e

pub solver_uses : {A : Type 0} → SolverUses A
solver_uses R at h k (l := r) c e =
    cancel R (value R at l) (value R at r) (R.◌⊗◌ (value R at k) (value R at (right h)))
    (solver_sound R at (l :+ k :* right h := r :+ k :* left h) c ∙ ap (λ z. R.◌⊕◌ (value R at r) (R.◌⊗◌ (value R at k) z)) e)

-- the variables of an identity, from a list
abbrev table : {A : Type 0} → CommRing A → List A → ℕ → A
table R xs i = get_or xs i R.𝟎

-- the solver at so many variables: `ring2 R (λ a b. a :* b := b :* a) x y refl`
pub ring1 : {A : Type 0} (R : CommRing A) (say : Ex → Identity) (a : A) → Checks (say (var 0)) → value R (table R (a ∷ [])) (left (say (var 0))) ≡ value R (table R (a ∷ [])) (right (say (var 0)))
ring1 R say a = solver_sound R (table R (a ∷ [])) (say (var 0))

pub ring2 : {A : Type 0} (R : CommRing A) (say : Ex → Ex → Identity) (a b : A) → Checks (say (var 0) (var 1)) → value R (table R (a ∷ b ∷ [])) (left (say (var 0) (var 1))) ≡ value R (table R (a ∷ b ∷ [])) (right (say (var 0) (var 1)))
ring2 R say a b = solver_sound R (table R (a ∷ b ∷ [])) (say (var 0) (var 1))

pub ring3 : {A : Type 0} (R : CommRing A) (say : Ex → Ex → Ex → Identity) (a b c : A) → Checks (say (var 0) (var 1) (var 2)) → value R (table R (a ∷ b ∷ c ∷ [])) (left (say (var 0) (var 1) (var 2))) ≡ value R (table R (a ∷ b ∷ c ∷ [])) (right (say (var 0) (var 1) (var 2)))
ring3 R say a b c = solver_sound R (table R (a ∷ b ∷ c ∷ [])) (say (var 0) (var 1) (var 2))

pub ring4 : {A : Type 0} (R : CommRing A) (say : Ex → Ex → Ex → Ex → Identity) (a b c d : A) → Checks (say (var 0) (var 1) (var 2) (var 3)) → value R (table R (a ∷ b ∷ c ∷ d ∷ [])) (left (say (var 0) (var 1) (var 2) (var 3))) ≡ value R (table R (a ∷ b ∷ c ∷ d ∷ [])) (right (say (var 0) (var 1) (var 2) (var 3)))
ring4 R say a b c d = solver_sound R (table R (a ∷ b ∷ c ∷ d ∷ [])) (say (var 0) (var 1) (var 2) (var 3))

pub ring5 : {A : Type 0} (R : CommRing A) (say : Ex → Ex → Ex → Ex → Ex → Identity) (a b c d e : A) → Checks (say (var 0) (var 1) (var 2) (var 3) (var 4)) → value R (table R (a ∷ b ∷ c ∷ d ∷ e ∷ [])) (left (say (var 0) (var 1) (var 2) (var 3) (var 4))) ≡ value R (table R (a ∷ b ∷ c ∷ d ∷ e ∷ [])) (right (say (var 0) (var 1) (var 2) (var 3) (var 4)))
ring5 R say a b c d e = solver_sound R (table R (a ∷ b ∷ c ∷ d ∷ e ∷ [])) (say (var 0) (var 1) (var 2) (var 3) (var 4))

pub ring6 : {A : Type 0} (R : CommRing A) (say : Ex → Ex → Ex → Ex → Ex → Ex → Identity) (a b c d e f : A) → Checks (say (var 0) (var 1) (var 2) (var 3) (var 4) (var 5)) → value R (table R (a ∷ b ∷ c ∷ d ∷ e ∷ f ∷ [])) (left (say (var 0) (var 1) (var 2) (var 3) (var 4) (var 5))) ≡ value R (table R (a ∷ b ∷ c ∷ d ∷ e ∷ f ∷ [])) (right (say (var 0) (var 1) (var 2) (var 3) (var 4) (var 5)))
ring6 R say a b c d e f = solver_sound R (table R (a ∷ b ∷ c ∷ d ∷ e ∷ f ∷ [])) (say (var 0) (var 1) (var 2) (var 3) (var 4) (var 5))

pub ring7 : {A : Type 0} (R : CommRing A) (say : Ex → Ex → Ex → Ex → Ex → Ex → Ex → Identity) (a b c d e f g : A) → Checks (say (var 0) (var 1) (var 2) (var 3) (var 4) (var 5) (var 6)) → value R (table R (a ∷ b ∷ c ∷ d ∷ e ∷ f ∷ g ∷ [])) (left (say (var 0) (var 1) (var 2) (var 3) (var 4) (var 5) (var 6))) ≡ value R (table R (a ∷ b ∷ c ∷ d ∷ e ∷ f ∷ g ∷ [])) (right (say (var 0) (var 1) (var 2) (var 3) (var 4) (var 5) (var 6)))
ring7 R say a b c d e f g = solver_sound R (table R (a ∷ b ∷ c ∷ d ∷ e ∷ f ∷ g ∷ [])) (say (var 0) (var 1) (var 2) (var 3) (var 4) (var 5) (var 6))

pub ring8 : {A : Type 0} (R : CommRing A) (say : Ex → Ex → Ex → Ex → Ex → Ex → Ex → Ex → Identity) (a b c d e f g h : A) → Checks (say (var 0) (var 1) (var 2) (var 3) (var 4) (var 5) (var 6) (var 7)) → value R (table R (a ∷ b ∷ c ∷ d ∷ e ∷ f ∷ g ∷ h ∷ [])) (left (say (var 0) (var 1) (var 2) (var 3) (var 4) (var 5) (var 6) (var 7))) ≡ value R (table R (a ∷ b ∷ c ∷ d ∷ e ∷ f ∷ g ∷ h ∷ [])) (right (say (var 0) (var 1) (var 2) (var 3) (var 4) (var 5) (var 6) (var 7)))
ring8 R say a b c d e f g h = solver_sound R (table R (a ∷ b ∷ c ∷ d ∷ e ∷ f ∷ g ∷ h ∷ [])) (say (var 0) (var 1) (var 2) (var 3) (var 4) (var 5) (var 6) (var 7))

-- the same from a hypothesis times a factor: `using3 R (λ u v a. u :* v := one) (λ u v a. a) (λ u v a. a :* u :* v := a) x y z refl h`
pub using2 : {A : Type 0} (R : CommRing A) (known : Ex → Ex → Identity) (factor : Ex → Ex → Ex) (say : Ex → Ex → Identity) (a b : A) → ChecksUsing (known (var 0) (var 1)) (factor (var 0) (var 1)) (say (var 0) (var 1)) → value R (table R (a ∷ b ∷ [])) (left (known (var 0) (var 1))) ≡ value R (table R (a ∷ b ∷ [])) (right (known (var 0) (var 1))) → value R (table R (a ∷ b ∷ [])) (left (say (var 0) (var 1))) ≡ value R (table R (a ∷ b ∷ [])) (right (say (var 0) (var 1)))
using2 R known factor say a b = solver_uses R (table R (a ∷ b ∷ [])) (known (var 0) (var 1)) (factor (var 0) (var 1)) (say (var 0) (var 1))

pub using3 : {A : Type 0} (R : CommRing A) (known : Ex → Ex → Ex → Identity) (factor : Ex → Ex → Ex → Ex) (say : Ex → Ex → Ex → Identity) (a b c : A) → ChecksUsing (known (var 0) (var 1) (var 2)) (factor (var 0) (var 1) (var 2)) (say (var 0) (var 1) (var 2)) → value R (table R (a ∷ b ∷ c ∷ [])) (left (known (var 0) (var 1) (var 2))) ≡ value R (table R (a ∷ b ∷ c ∷ [])) (right (known (var 0) (var 1) (var 2))) → value R (table R (a ∷ b ∷ c ∷ [])) (left (say (var 0) (var 1) (var 2))) ≡ value R (table R (a ∷ b ∷ c ∷ [])) (right (say (var 0) (var 1) (var 2)))
using3 R known factor say a b c = solver_uses R (table R (a ∷ b ∷ c ∷ [])) (known (var 0) (var 1) (var 2)) (factor (var 0) (var 1) (var 2)) (say (var 0) (var 1) (var 2))

pub using4 : {A : Type 0} (R : CommRing A) (known : Ex → Ex → Ex → Ex → Identity) (factor : Ex → Ex → Ex → Ex → Ex) (say : Ex → Ex → Ex → Ex → Identity) (a b c d : A) → ChecksUsing (known (var 0) (var 1) (var 2) (var 3)) (factor (var 0) (var 1) (var 2) (var 3)) (say (var 0) (var 1) (var 2) (var 3)) → value R (table R (a ∷ b ∷ c ∷ d ∷ [])) (left (known (var 0) (var 1) (var 2) (var 3))) ≡ value R (table R (a ∷ b ∷ c ∷ d ∷ [])) (right (known (var 0) (var 1) (var 2) (var 3))) → value R (table R (a ∷ b ∷ c ∷ d ∷ [])) (left (say (var 0) (var 1) (var 2) (var 3))) ≡ value R (table R (a ∷ b ∷ c ∷ d ∷ [])) (right (say (var 0) (var 1) (var 2) (var 3)))
using4 R known factor say a b c d = solver_uses R (table R (a ∷ b ∷ c ∷ d ∷ [])) (known (var 0) (var 1) (var 2) (var 3)) (factor (var 0) (var 1) (var 2) (var 3)) (say (var 0) (var 1) (var 2) (var 3))

pub using5 : {A : Type 0} (R : CommRing A) (known : Ex → Ex → Ex → Ex → Ex → Identity) (factor : Ex → Ex → Ex → Ex → Ex → Ex) (say : Ex → Ex → Ex → Ex → Ex → Identity) (a b c d e : A) → ChecksUsing (known (var 0) (var 1) (var 2) (var 3) (var 4)) (factor (var 0) (var 1) (var 2) (var 3) (var 4)) (say (var 0) (var 1) (var 2) (var 3) (var 4)) → value R (table R (a ∷ b ∷ c ∷ d ∷ e ∷ [])) (left (known (var 0) (var 1) (var 2) (var 3) (var 4))) ≡ value R (table R (a ∷ b ∷ c ∷ d ∷ e ∷ [])) (right (known (var 0) (var 1) (var 2) (var 3) (var 4))) → value R (table R (a ∷ b ∷ c ∷ d ∷ e ∷ [])) (left (say (var 0) (var 1) (var 2) (var 3) (var 4))) ≡ value R (table R (a ∷ b ∷ c ∷ d ∷ e ∷ [])) (right (say (var 0) (var 1) (var 2) (var 3) (var 4)))
using5 R known factor say a b c d e = solver_uses R (table R (a ∷ b ∷ c ∷ d ∷ e ∷ [])) (known (var 0) (var 1) (var 2) (var 3) (var 4)) (factor (var 0) (var 1) (var 2) (var 3) (var 4)) (say (var 0) (var 1) (var 2) (var 3) (var 4))
