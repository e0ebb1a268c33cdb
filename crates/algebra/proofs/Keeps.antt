-- A map that keeps the operations keeps all that is made of them.
use Rattle.std.proofs.Common.{◌≡◌, List, [], ◌∷◌, map, sym, refl, ap, ◌∙◌, subst, ap₂, subst₂}
use mathlib.Core.Path.{subst₃}
use Rattle.algebra.specs.Poly.{poly_sum, poly_scaled, poly_product}
use Rattle.algebra.specs.Quotient.{add, negate, scale, zeros, unit, push, top, shift, product}
use Rattle.algebra.specs.Ring.{CommRing, Ops, ops}

pub record Keeps {A B : Type 0} (O : Ops A) (P : Ops B) (f : A → B) : Type 0 where
  pub zero : f O.zero ≡ P.zero
  pub one : f O.one ≡ P.one
  pub plus : (a b : A) → f (O.plus a b) ≡ P.plus (f a) (f b)
  pub times : (a b : A) → f (O.times a b) ≡ P.times (f a) (f b)
  pub minus : (a : A) → f (O.minus a) ≡ P.minus (f a)

module _ {A B : Type 0} (O : Ops A) (P : Ops B) (f : A → B) (k : Keeps O P f) where
  pub keeps_add : (u v : List A) → map f (add O u v) ≡ add P (map f u) (map f v)
  keeps_add [] v = refl
  keeps_add (a ∷ u) [] = refl
  keeps_add (a ∷ u) (b ∷ v) = ap₂ (λ x l. x ∷ l) (k.plus a b) (keeps_add u v)

  pub keeps_negate : (v : List A) → map f (negate O v) ≡ negate P (map f v)
  keeps_negate [] = refl
  keeps_negate (b ∷ v) = ap₂ (λ x l. x ∷ l) (k.minus b) (keeps_negate v)

  pub keeps_scale : (a : A) (v : List A) → map f (scale O a v) ≡ scale P (f a) (map f v)
  keeps_scale a [] = refl
  keeps_scale a (b ∷ v) = ap₂ (λ x l. x ∷ l) (k.times a b) (keeps_scale a v)

  pub keeps_zeros : (h : List A) → map f (zeros O h) ≡ zeros P (map f h)
  keeps_zeros [] = refl
  keeps_zeros (c ∷ h) = ap₂ (λ x l. x ∷ l) k.zero (keeps_zeros h)

  pub keeps_unit : (h : List A) → map f (unit O h) ≡ unit P (map f h)
  keeps_unit [] = refl
  keeps_unit (c ∷ h) = ap₂ (λ x l. x ∷ l) k.one (keeps_zeros h)

  keeps_push : (c : A) (v : List A) → map f (push c v) ≡ push (f c) (map f v)
  keeps_push c [] = refl
  keeps_push c (b ∷ v) = ap (λ l. f c ∷ l) (keeps_push b v)

  keeps_top : (c : A) (v : List A) → f (top c v) ≡ top (f c) (map f v)
  keeps_top c [] = refl
  keeps_top c (b ∷ v) = keeps_top b v

  pub keeps_shift : (h v : List A) → map f (shift O h v) ≡ shift P (map f h) (map f v)
  keeps_shift h v =
      keeps_add (push O.zero v) (negate O (scale O (top O.zero v) h))
      ∙ ap₂ (add P)
      (keeps_push O.zero v ∙ ap (λ c. push c (map f v)) k.zero)
      (keeps_negate (scale O (top O.zero v) h)
      ∙ ap (negate P) (keeps_scale (top O.zero v) h ∙ ap (λ t. scale P t (map f h)) (keeps_top O.zero v ∙ ap (λ c. top c (map f v)) k.zero)))

  pub keeps_product : (h u v : List A) → map f (product O h u v) ≡ product P (map f h) (map f u) (map f v)
  keeps_product h [] v = keeps_zeros h
  keeps_product h (a ∷ u) v =
      keeps_add (scale O a v) (shift O h (product O h u v))
      ∙ ap₂ (add P) (keeps_scale a v) (keeps_shift h (product O h u v) ∙ ap (shift P (map f h)) (keeps_product h u v))

  pub keeps_poly_sum : (p g : List A) → map f (poly_sum O p g) ≡ poly_sum P (map f p) (map f g)
  keeps_poly_sum [] g = refl
  keeps_poly_sum (a ∷ p) [] = refl
  keeps_poly_sum (a ∷ p) (b ∷ g) = ap₂ (λ x l. x ∷ l) (k.plus a b) (keeps_poly_sum p g)

  pub keeps_poly_product : (p g : List A) → map f (poly_product O p g) ≡ poly_product P (map f p) (map f g)
  keeps_poly_product [] g = refl
  keeps_poly_product (a ∷ p) g =
      keeps_poly_sum (poly_scaled O a g) (O.zero ∷ poly_product O p g)
      ∙ ap₂ (poly_sum P) (keeps_scale a g) (ap₂ (λ x l. x ∷ l) k.zero (keeps_poly_product p g))

-- what a commutative ring is mapped onto, operations and all, is a commutative ring
module _ {A B : Type 0} (K : CommRing A) (P : Ops B) (f : A → B) (k : Keeps (ops K) P f) (back : B → A) (onto : (x : B) → f (back x) ≡ x) where
  abbrev sum : (a b : A) → P.plus (f a) (f b) ≡ f (K.◌⊕◌ a b)
  sum a b = sym (k.plus a b)

  abbrev prod : (a b : A) → P.times (f a) (f b) ≡ f (K.◌⊗◌ a b)
  prod a b = sym (k.times a b)

  pub assoc_of : (op : B → B → B) (mul : A → A → A) → ((a b : A) → op (f a) (f b) ≡ f (mul a b)) → ((a b c : A) → mul (mul a b) c ≡ mul a (mul b c)) → (x y z : B) → op (op x y) z ≡ op x (op y z)
  assoc_of op mul is law x y z =
      let a = back x in
      let b = back y in
      let c = back z in
      subst₃ (λ x y z. op (op x y) z ≡ op x (op y z)) (onto x) (onto y) (onto z)
      (ap (λ w. op w (f c)) (is a b) ∙ is (mul a b) c ∙ ap f (law a b c) ∙ sym (is a (mul b c)) ∙ ap (op (f a)) (sym (is b c)))

  pub comm_of : (op : B → B → B) (mul : A → A → A) → ((a b : A) → op (f a) (f b) ≡ f (mul a b)) → ((a b : A) → mul a b ≡ mul b a) → (x y : B) → op x y ≡ op y x
  comm_of op mul is law x y =
      subst₂ (λ x y. op x y ≡ op y x) (onto x) (onto y) (is (back x) (back y) ∙ ap f (law (back x) (back y)) ∙ sym (is (back y) (back x)))

  abbrev pub onto_ring : CommRing B
  onto_ring = record {
    𝟎 = P.zero;
    𝟏 = P.one;
    ◌⊕◌ = P.plus;
    ◌⊗◌ = P.times;
    neg = P.minus;
    add_assoc = assoc_of P.plus K.◌⊕◌ sum K.add_assoc;
    add_comm = comm_of P.plus K.◌⊕◌ sum K.add_comm;
    add_zero = λ x. subst (λ x. P.plus x P.zero ≡ x) (onto x) (ap (P.plus (f (back x))) (sym k.zero) ∙ sum (back x) K.𝟎 ∙ ap f (K.add_zero (back x)));
    add_neg = λ x. subst (λ x. P.plus x (P.minus x) ≡ P.zero) (onto x) (ap (P.plus (f (back x))) (sym (k.minus (back x))) ∙ sum (back x) (K.neg (back x)) ∙ ap f (K.add_neg (back x)) ∙ k.zero);
    mul_assoc = assoc_of P.times K.◌⊗◌ prod K.mul_assoc;
    mul_comm = comm_of P.times K.◌⊗◌ prod K.mul_comm;
    mul_one = λ x. subst (λ x. P.times x P.one ≡ x) (onto x) (ap (P.times (f (back x))) (sym k.one) ∙ prod (back x) K.𝟏 ∙ ap f (K.mul_one (back x)));
    distrib = λ x y z.
        let a = back x in
        let b = back y in
        let c = back z in
        subst₃ (λ x y z. P.times x (P.plus y z) ≡ P.plus (P.times x y) (P.times x z)) (onto x) (onto y) (onto z)
        (ap (P.times (f a)) (sum b c) ∙ prod a (K.◌⊕◌ b c) ∙ ap f (K.distrib a b c) ∙ sym (sum (K.◌⊗◌ a b) (K.◌⊗◌ a c)) ∙ sym (ap₂ P.plus (prod a b) (prod a c)));
  }
