-- Layouts: at which coordinates of an element the lanes of a value stand. Each is a list of positions by the degree d.
use Rattle.std.specs.Prelude.{ℕ, zero, suc, ◌+◌, ◌/◌, ◌%◌, Bool, true, ◌&&◌, List, [], ◌∷◌, map, reverse, filter, nat_lt, slice_index, slice_set}
use Rattle.std.specs.List.{range_with_len}
use Rattle.encoding.specs.declared.layout.Layout.{Layout}
use Rattle.encoding.specs.declared.layout.Layout.TheVariants.{Plain, Lanes, Left, Right}

-- half of d, rounded up: the largest s with 2 (s - 1) below d
abbrev pub half : ℕ → ℕ
half d = d / 2 + d % 2

-- the lowest k digits of p in base three are 0 or 1
abbrev pub low_digits : ℕ → ℕ → Bool
low_digits zero p = true
low_digits (suc k) p = nat_lt (p % 3) 2 && low_digits k (p / 3)

-- all digits of p in base three are 0 or 1, since p has no more than p of them
abbrev pub no_two : ℕ → Bool
no_two p = low_digits p p

-- plain: the first coordinate; lanes: the rising list of all p with 2 p below d and no digit 2; left: 0 up to s - 1;
-- right: s - 1 down to 0
abbrev pub positions : Layout → ℕ → List ℕ
positions Plain d = 0 ∷ []
positions Lanes d = filter no_two (range_with_len 0 (half d))
positions Left d = range_with_len 0 (half d)
positions Right d = reverse (range_with_len 0 (half d))

-- lane l at the l-th position, modulo q, and what stood there before elsewhere
abbrev pub laid_over : ℕ → List ℕ → List ℕ → List ℕ → List ℕ
laid_over q base [] lanes = base
laid_over q base (p ∷ ps) [] = base
laid_over q base (p ∷ ps) (v ∷ lanes) = slice_set (laid_over q base ps lanes) p (v % q)

-- what stands at the positions
abbrev pub read_at : List ℕ → List ℕ → List ℕ
read_at ps x = map (λ p. slice_index x p) ps
