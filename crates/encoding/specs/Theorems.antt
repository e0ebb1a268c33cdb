-- What is said of layouts in the subject's words.
use Rattle.std.specs.Prelude.{◌≡◌, ℕ, ◌-◌, ◌*◌, ◌%◌, ◌<◌, ◌≤◌, List, map, length}
use Rattle.algebra.specs.Quotient.{Shape}
use Rattle.encoding.specs.Encodings.{laid}
use Rattle.encoding.specs.Layouts.{half, positions, read_at}
use Rattle.encoding.specs.declared.layout.Layout.{Layout}

-- half d is the largest s with 2 (s - 1) below d
abbrev pub HalfIsLargest : Type 0
HalfIsLargest = (d : ℕ) → 1 ≤ d → (2 * (half d - 1) < d) × ((s : ℕ) → 2 * (s - 1) < d → s ≤ half d)

-- lanes that are laid out are read back, modulo q
abbrev pub LanesComeBack : Type 0
LanesComeBack =
    (s : Shape) (layout : Layout) (lanes : List ℕ) → length lanes ≡ length (positions layout (length s.h))
    → read_at (positions layout (length s.h)) (laid s layout lanes) ≡ map (λ v. v % s.q) lanes
