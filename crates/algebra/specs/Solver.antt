-- Ring expressions, their values in a ring, and a test that two of them have one normal form.
use Rattle.std.specs.Prelude.{◌≡◌, ℕ, Bool, true, false, ltb, List, [], ◌∷◌, ◌==◌, nat_lt}
use Rattle.algebra.specs.Ring.{CommRing}

infixl 65 ◌:+◌ ◌:-◌
infixl 70 ◌:*◌
infix 50 ◌:=◌
pub data Ex : Type 0 where
  var : ℕ → Ex
  nil : Ex
  one : Ex
  ◌:+◌ : Ex → Ex → Ex
  ◌:-◌ : Ex → Ex → Ex
  ◌:*◌ : Ex → Ex → Ex

-- an identity: two sides
pub data Identity : Type 0 where
  ◌:=◌ : Ex → Ex → Identity

abbrev pub left : Identity → Ex
left (l := r) = l

abbrev pub right : Identity → Ex
right (l := r) = r

-- the value of an expression, its variables read off a table
abbrev pub value : {A : Type 0} → CommRing A → (ℕ → A) → Ex → A
value R at (var i) = at i
value R at nil = R.𝟎
value R at one = R.𝟏
value R at (l :+ r) = R.◌⊕◌ (value R at l) (value R at r)
value R at (l :- r) = R.◌⊕◌ (value R at l) (R.neg (value R at r))
value R at (l :* r) = R.◌⊗◌ (value R at l) (value R at r)

-- a monomial is the sorted list of its variables; a sum is the sorted list of its monomials, each as often as it comes
abbrev pub Monomial : Type 0
Monomial = List ℕ

abbrev pub Sum : Type 0
Sum = List Monomial

-- a variable into its place
abbrev pub enter : ℕ → Monomial → Monomial
enter x [] = x ∷ []
enter x (y ∷ m) = elim (nat_lt y x) [ true ↦ y ∷ enter x m | false ↦ x ∷ y ∷ m ]

abbrev pub joined : Monomial → Monomial → Monomial
joined [] n = n
joined (x ∷ m) n = enter x (joined m n)

-- one monomial stands before another
abbrev pub before : Monomial → Monomial → Bool
before [] [] = false
before [] (y ∷ n) = true
before (x ∷ m) [] = false
before (x ∷ m) (y ∷ n) = elim (x == y) [ true ↦ before m n | false ↦ ltb x y ]

abbrev pub insert : Monomial → Sum → Sum
insert m [] = m ∷ []
insert m (n ∷ s) = elim (before n m) [ true ↦ n ∷ insert m s | false ↦ m ∷ n ∷ s ]

abbrev pub plus : Sum → Sum → Sum
plus [] t = t
plus (m ∷ s) t = insert m (plus s t)

abbrev pub times_one : Monomial → Sum → Sum
times_one m [] = []
times_one m (n ∷ t) = insert (joined m n) (times_one m t)

abbrev pub times : Sum → Sum → Sum
times [] t = []
times (m ∷ s) t = plus (times_one m t) (times s t)

-- the normal form: what is added and what is taken away
pub record Form : Type 0 where
  pub more : Sum
  pub less : Sum

abbrev pub form_sum : Form → Form → Form
form_sum f g = record { more = plus f.more g.more; less = plus f.less g.less }

abbrev pub form_difference : Form → Form → Form
form_difference f g = record { more = plus f.more g.less; less = plus f.less g.more }

abbrev pub form_product : Form → Form → Form
form_product f g = record {
  more = plus (times f.more g.more) (times f.less g.less);
  less = plus (times f.more g.less) (times f.less g.more);
}

abbrev pub form : Ex → Form
form (var i) = record { more = (i ∷ []) ∷ []; less = [] }
form nil = record { more = []; less = [] }
form one = record { more = [] ∷ []; less = [] }
form (l :+ r) = form_sum (form l) (form r)
form (l :- r) = form_difference (form l) (form r)
form (l :* r) = form_product (form l) (form r)

-- the two sides of an identity come to one form
abbrev pub Checks : Identity → Type 0
Checks e = plus (form (left e)).more (form (right e)).less ≡ plus (form (right e)).more (form (left e)).less

-- an identity that checks holds in every ring, at all values
abbrev pub SolverSound : Type 0 → Type 0
SolverSound A = (R : CommRing A) (at : ℕ → A) (e : Identity) → Checks e → value R at (left e) ≡ value R at (right e)

-- an identity that checks once a multiple of a hypothesis is added across
abbrev pub ChecksUsing : Identity → Ex → Identity → Type 0
ChecksUsing h k e = Checks (left e :+ k :* right h := right e :+ k :* left h)

abbrev pub SolverUses : Type 0 → Type 0
SolverUses A =
    (R : CommRing A) (at : ℕ → A) (h : Identity) (k : Ex) (e : Identity) → ChecksUsing h k e
    → value R at (left h) ≡ value R at (right h) → value R at (left e) ≡ value R at (right e)
