-- The pages that tables of words stand for.
use Rattle.std.specs.Prelude.{ℕ, pred, ◌+◌, ◌*◌, Bool, cond, ◌&&◌, List, length, is_some, None, Option, slice_index_or}
use Rattle.exchange.specs.Sheet.{Page, seat, some, total}

-- n seats, where the square of r and s is a place of the table
abbrev pub table_page : {R : Type 0} → (ℕ → ℕ → ℕ) → ℕ → List (Option R) → Page R
table_page place n table = record { seats = n; at = λ r s. cond (seat n r && seat n s) (slice_index_or table (place r s) None) None; room = length table }

-- each square has its own place, sender by sender
abbrev pub lines_page : {R : Type 0} → ℕ → List (Option R) → Page R
lines_page n = table_page (λ r s. pred s * n + pred r) n

-- all squares of a sender have one place
abbrev pub board_page : {R : Type 0} → ℕ → List (Option R) → Page R
board_page n = table_page (λ r s. pred s) n

-- one of the squares is filled
abbrev pub held : {R : Type 0} → List (Option R) → Bool
held squares = some (length squares) (λ k. is_some (slice_index_or squares (pred k) None))

-- how many squares are empty
abbrev pub empties : {R : Type 0} → List (Option R) → ℕ
empties squares = total (length squares) (λ k. cond (is_some (slice_index_or squares (pred k) None)) 0 1)
