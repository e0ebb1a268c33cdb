-- Lanes that are laid out are an element, and so is a number at one coordinate.
use Rattle.std.proofs.Common.{ℕ, zero, suc, ◌%◌, ◌<◌, List, [], ◌∷◌, length, set, ◌∙◌, mod-lt, arith, length-set}
use Rattle.algebra.specs.Quotient.{Shape, Is, modulo, zeros, AllBelow}
use Rattle.algebra.proofs.Quotient.{is_zeros}
use Rattle.ring.specs.Model.{embedded}
use Rattle.encoding.specs.Encodings.{laid}
use Rattle.encoding.specs.Layouts.{positions, laid_over}
use Rattle.encoding.specs.declared.layout.Layout.{Layout}

below_set : (q : ℕ) (xs : List ℕ) (p v : ℕ) → AllBelow q xs → v < q → AllBelow q (set xs p v)
below_set q [] p v a h = tt
below_set q (x ∷ xs) zero v a h = (h, a.1)
below_set q (x ∷ xs) (suc p) v a h = (a.0, below_set q xs p v a.1 h)

module _ (s : Shape) where
  reduced : (v : ℕ) → v % s.q < s.q
  reduced v = let pos : 0 < s.q = omega (arith, s.two) in mod-lt v pos

  is_set : (xs : List ℕ) (p v : ℕ) → Is s xs → Is s (set xs p (v % s.q))
  is_set xs p v i = (length-set xs p (v % s.q) ∙ i.0, below_set s.q xs p (v % s.q) i.1 (reduced v))

  pub is_embedded : (v p : ℕ) → Is s (embedded s v p)
  is_embedded v p = is_set (zeros (modulo s.q) s.h) p v (is_zeros s)

  is_over : (ps lanes : List ℕ) → Is s (laid_over s.q (zeros (modulo s.q) s.h) ps lanes)
  is_over [] lanes = is_zeros s
  is_over (p ∷ ps) [] = is_zeros s
  is_over (p ∷ ps) (v ∷ lanes) = is_set (laid_over s.q (zeros (modulo s.q) s.h) ps lanes) p v (is_over ps lanes)

  pub is_laid : (layout : Layout) (lanes : List ℕ) → Is s (laid s layout lanes)
  is_laid layout lanes = is_over (positions layout (length s.h)) lanes
