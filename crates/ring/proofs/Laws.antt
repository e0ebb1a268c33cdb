-- The laws of every ring of the engine, from those of its points.
use Rattle.std.proofs.Common.{◌≡◌, ℕ, ◌%◌, ◌<◌, ◌≤◌, List, [], ◌∷◌, length, get_or, set, sym, refl, ap, ◌∙◌, inl, inr, mod-eq_of_lt, arith}
use Rattle.std.proofs.lemmas.Bool.{cases_eq}
use Rattle.algebra.specs.Quotient.{Shape, Element, modulo, zeros, unit}
use Rattle.algebra.specs.Ring.{sub}
use Rattle.algebra.specs.Solver.{◌:=◌, nil, ◌:+◌, ◌:-◌, ◌:*◌}
use Rattle.algebra.proofs.Quotient.{same_element}
use Rattle.algebra.proofs.Solver.{ring2}
use Rattle.ring.specs.Model.{ring, embedded, Points, PointLaws, Laws}

apart : (q : ℕ) (h : List ℕ) → 1 ≤ length h → zeros (modulo q) h ≡ unit (modulo q) h → ⊥
apart q [] some e = let z : ⊥ = omega arith in z
apart q (c ∷ h) some e = let z : ◌≡◌ {A = ℕ} 0 1 = ap (λ l. get_or l 0 0) e in omega arith

module _ (s : Shape) (p : Points s) (laws : PointLaws s p) where
  not_one : (ring s).𝟎 ≡ (ring s).𝟏 → ⊥
  unfolding ring
  not_one e = apart s.q s.h s.some (ap (λ x. x.0) e)

  -- of two equal points the difference is zero, and zero has no inverse
  differ : (i j : ℕ) → i < p.count → j < p.count → p.at i ≡ p.at j → i ≡ j
  differ i j hi hj e = elim (cases_eq i j) [
    | inl same ↦ same
    | inr other ↦
        absurd (not_one
        (sym (ap (λ x. (ring s).◌⊗◌ (sub (ring s) x (p.at j)) (p.inv i j)) e
        ∙ ring2 (ring s) (λ x u. (x :- x) :* u := nil) (p.at j) (p.inv i j) refl)
        ∙ laws.inverse i j hi hj other))
  ]

  pub ring_laws : Laws s p
  ring_laws = record {
    sum_associative = (ring s).add_assoc;
    sum_commutative = (ring s).add_comm;
    product_associative = (ring s).mul_assoc;
    product_commutative = (ring s).mul_comm;
    distributive = (ring s).distrib;
    zero_is_none = (ring s).add_zero;
    one_is_one = (ring s).mul_one;
    difference = λ a b. ring2 (ring s) (λ a b. a :- b :+ b := a) a b refl;
    zero_is_not_one = not_one;
    first_point = laws.start;
    points_differ = differ;
    differences_inverted = laws.inverse;
  }

-- a ring's one is the number 1 at coordinate 0
pub one_is : (s : Shape) (x : Element s) → x.0 ≡ embedded s 1 0 → x ≡ (ring s).𝟏
unfolding ring
one_is s x e = same_element s _ _ (e ∙ embeds s.q s.two s.h)
  where
    embeds : (q : ℕ) → 2 ≤ q → (h : List ℕ) → set (zeros (modulo q) h) 0 (1 % q) ≡ unit (modulo q) h
    embeds q two [] = refl
    embeds q two (c ∷ h) = ap (λ v. v ∷ zeros (modulo q) h) (mod-eq_of_lt two)
