-- Tables with one value everywhere.
use Rattle.std.proofs.Common.{◌≡◌, ℕ, zero, suc, ◌∷◌, replicate, refl, ap}
use Rattle.curve.specs.Curve.{listed}

pub listed_same : {A : Type 0} (n : ℕ) (x : A) → listed n (λ k. x) ≡ replicate n x
listed_same zero x = refl
listed_same (suc n) x = ap (λ l. x ∷ l) (listed_same n x)
