-- What the calls of an exchange mean for its squares.
use Rattle.std.specs.Prelude.{◌≡◌, ℕ, suc, ◌+◌, ◌*◌, Bool, true, false, List, map, is_some, Some, None, Ok, ◌≢◌}
use Rattle.curve.specs.Curve.{listed}
use Rattle.exchange.specs.Sheet.{Page, seat, place_all, place_one, missing, seen, looked, turned, collected}

-- every square of the seats is filled
abbrev pub Full : {R : Type 0} → Page R → Type 0
Full x = (r s : ℕ) → seat x.seats r ≡ true → seat x.seats s ≡ true → is_some (x.at r s) ≡ true

-- the word w from s stands in y in every seat's square, and every other square is as it is in x
pub record ToldAll {R : Type 0} (x y : Page R) (s : ℕ) (w : R) : Type 0 where
  pub here : (r : ℕ) → seat x.seats r ≡ true → y.at r s ≡ Some w
  pub elsewhere : (r q : ℕ) → (q ≢ s) → y.at r q ≡ x.at r q
  pub fewer : missing y + x.seats ≡ missing x

-- the word w from s stands in y in the square of r, and every other square is as it is in x
pub record ToldOne {R : Type 0} (x y : Page R) (s r : ℕ) (w : R) : Type 0 where
  pub here : y.at r s ≡ Some w
  pub elsewhere : (p q : ℕ) → (p ≡ r → q ≢ s) → y.at p q ≡ x.at p q
  pub fewer : missing y + 1 ≡ missing x

-- The laws of the sheet.
pub record SheetLaws (R : Type 0) : Type 0 where
  pub told_all : (x y : Page R) (s : ℕ) (w : R) → (Ok tt, y) ≡ place_all x s w → ToldAll x y s w
  pub told_one : (common : Bool) (x y : Page R) (s r : ℕ) (w : R) → (Ok tt, y) ≡ place_one common x s r w → ToldOne x y s r w
  pub none_missing : (x : Page R) → (missing x ≡ 0 → Full x) × (Full x → missing x ≡ 0)
  pub all_missing : (x : Page R) → missing (turned x) ≡ x.seats * x.seats
  pub veil_lifted : (x : Page R) (r s : ℕ) → Full x → looked true x r s ≡ looked false x r s
  pub veil_hides : (x : Page R) (r s : ℕ) → (Full x → ⊥) → seat x.seats r ≡ true → seat x.seats s ≡ true → looked true x r s ≡ Ok None
  pub row_told : (veiled : Bool) (x : Page R) (r : ℕ) (row after : List R) → (Ok tt, after) ≡ collected veiled x r row → map Some after ≡ listed x.seats (λ k. seen veiled x r (suc k))
