-- The arithmetic of the places of squares in a table.
use Rattle.std.proofs.Common.{Bool, cond, Ok, Err, Result, sym, refl, ◌∙◌, ◌≡◌, ℕ, zero, suc, pred, ◌+◌, ◌*◌, ◌<◌, ◌≤◌, true, false, ◌&&◌, eqb, ltb, leb, ap, inl, inr, mul-le-mul_right, suc-mul, arith}
use Rattle.std.proofs.lemmas.Bool.{cases_order}
use Rattle.std.proofs.lemmas.Bool.Decides.{nat_tests}
use Rattle.curve.specs.declared.refusal.Refusal.{Refusal}
use Rattle.curve.specs.declared.refusal.Refusal.TheVariants.{Seat}
use Rattle.exchange.specs.Sheet.{seat}

-- what was not refused is a seat
pub seated : (n k : ℕ) {r : Result (Unit {0}) Refusal} {u : Unit {0}} → r ≡ cond (seat n k) (Ok tt) (Err Seat) → r ≡ Ok u → seat n k ≡ true
seated n k is ok = of (seat n k) (sym is ∙ ok)
  where
    of : (b : Bool) {u : Unit {0}} → ◌≡◌ {A = Result (Unit {0}) Refusal} (cond b (Ok tt) (Err Seat)) (Ok u) → b ≡ true
    of true e = refl
    of false e = cc

-- no square outside the seats is a sender's, or the one of two seats
pub outside_all : (n s p q : ℕ) → seat n s ≡ true → (seat n p && seat n q) ≡ false → (seat n p && eqb q s) ≡ false
outside_all n s p q is out = grind (arith, nat_tests)

pub outside_one : (n s t p q : ℕ) → seat n s ≡ true → seat n t ≡ true → (seat n p && seat n q) ≡ false → (eqb p t && eqb q s) ≡ false
outside_one n s t p q sends takes out = grind (arith, nat_tests)

-- rows of n places do not overlap
row_below : (n a b : ℕ) → 0 < a → a < b → pred a * n + n ≤ pred b * n
row_below n zero b low less = let z : ⊥ = omega arith in absurd z
row_below n (suc a) zero low less = let z : ⊥ = omega arith in absurd z
row_below n (suc a) (suc b) low less = let up : suc a ≤ b = omega arith in omega (arith, suc-mul a n, mul-le-mul_right n up)

-- n rows of n places hold the row of each seat
pub row_within : (n s : ℕ) → seat n s ≡ true → pred s * n + n ≤ n * n
row_within n s is =
    let low : 0 < s = grind (arith, nat_tests) in
    let high : s < suc n = grind (arith, nat_tests) in
    row_below n s (suc n) low high

-- the place of a square lies in the row of its sender
pub row_of : (n s p q : ℕ) → seat n s ≡ true → (seat n p && seat n q) ≡ true
    → (leb (pred s * n) (pred q * n + pred p) && ltb (pred q * n + pred p) (pred s * n + n)) ≡ (seat n p && eqb q s)
row_of n s p q is both =
    elim (cases_order q s) [
      | inl same ↦ let there : pred q * n ≡ pred s * n = ap (λ j. pred j * n) same in grind (arith, nat_tests)
      | inr (inl less) ↦ let low : 0 < q = grind (arith, nat_tests) in let apart = row_below n q s low less in grind (arith, nat_tests)
      | inr (inr more) ↦ let low : 0 < s = grind (arith, nat_tests) in let apart = row_below n s q low more in grind (arith, nat_tests)
    ]

-- each square has its own place
pub square_of : (n s t p q : ℕ) → seat n s ≡ true → seat n t ≡ true → (seat n p && seat n q) ≡ true
    → (leb (pred s * n + pred t) (pred q * n + pred p) && ltb (pred q * n + pred p) (pred s * n + pred t + 1)) ≡ (eqb p t && eqb q s)
square_of n s t p q sends takes both =
    elim (cases_order q s) [
      | inl same ↦ let there : pred q * n ≡ pred s * n = ap (λ j. pred j * n) same in grind (arith, nat_tests)
      | inr (inl less) ↦ let low : 0 < q = grind (arith, nat_tests) in let apart = row_below n q s low less in grind (arith, nat_tests)
      | inr (inr more) ↦ let low : 0 < s = grind (arith, nat_tests) in let apart = row_below n s q low more in grind (arith, nat_tests)
    ]

-- on a board a square has the place of its sender
pub column_of : (n s p q : ℕ) → seat n s ≡ true → (seat n p && seat n q) ≡ true → (leb (pred s) (pred q) && ltb (pred q) (pred s + 1)) ≡ (seat n p && eqb q s)
column_of n s p q is both = grind (arith, nat_tests)
