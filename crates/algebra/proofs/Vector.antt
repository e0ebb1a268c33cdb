-- Tuples of d coefficients over any commutative ring, multiplied modulo a monic polynomial: a commutative ring again.
use Rattle.std.proofs.Common.{◌≡◌, ℕ, zero, suc, ◌≤◌, List, [], ◌∷◌, ◌++◌, length, sym, refl, ap, ◌∙◌, subst, ap₂, arith}
use Rattle.algebra.specs.Poly.{coefficient, Same, poly_sum, poly_scaled, poly_product}
use Rattle.algebra.specs.Ring.{CommRing, ops}
use Rattle.algebra.specs.Solver.{◌:=◌, nil, one, ◌:+◌, ◌:-◌, ◌:*◌}
use Rattle.algebra.proofs.Poly.{sum_coefficient, scaled_coefficient}
use Rattle.algebra.proofs.Solver.{ring1, ring2, ring3, ring4, ring5, using3, mul_zero}

abbrev pub V : Type 0 → ℕ → Type 0
V A zero = Unit {0}
V A (suc n) = A × V A n

abbrev pub list : {A : Type 0} (n : ℕ) → V A n → List A
list zero v = []
list (suc n) v = v.0 ∷ list n v.1

module _ {A : Type 0} (R : CommRing A) where
  open R use {𝟎, 𝟏, ◌⊕◌, ◌⊗◌, neg, add_assoc, add_comm, add_zero, add_neg, mul_assoc, mul_comm, mul_one, distrib}

  infixl 65 ◌⊕◌
  infixl 70 ◌⊗◌
  abbrev pub add_v : (n : ℕ) → V A n → V A n → V A n
  add_v zero u v = tt
  add_v (suc n) u v = (u.0 ⊕ v.0, add_v n u.1 v.1)

  abbrev pub neg_v : (n : ℕ) → V A n → V A n
  neg_v zero v = tt
  neg_v (suc n) v = (neg v.0, neg_v n v.1)

  abbrev pub scale_v : (n : ℕ) → A → V A n → V A n
  scale_v zero k v = tt
  scale_v (suc n) k v = (k ⊗ v.0, scale_v n k v.1)

  abbrev pub zero_v : (n : ℕ) → V A n
  zero_v zero = tt
  zero_v (suc n) = (𝟎, zero_v n)

  abbrev pub unit_v : (n : ℕ) → V A n
  unit_v zero = tt
  unit_v (suc n) = (𝟏, zero_v n)

  abbrev pub push_v : (n : ℕ) → A → V A n → V A n
  push_v zero c v = tt
  push_v (suc n) c v = (c, push_v n v.0 v.1)

  abbrev pub top_v : (n : ℕ) → A → V A n → A
  top_v zero c v = c
  top_v (suc n) c v = top_v n v.0 v.1

  -- a - t · h
  abbrev less_v : (n : ℕ) → V A n → A → V A n → V A n
  less_v n a t h = add_v n a (neg_v n (scale_v n t h))

  -- Laws place by place.
  pub assoc_v : (n : ℕ) (u v w : V A n) → add_v n (add_v n u v) w ≡ add_v n u (add_v n v w)
  assoc_v zero u v w = refl
  assoc_v (suc n) u v w = λ i. (add_assoc u.0 v.0 w.0 i, assoc_v n u.1 v.1 w.1 i)

  pub comm_v : (n : ℕ) (u v : V A n) → add_v n u v ≡ add_v n v u
  comm_v zero u v = refl
  comm_v (suc n) u v = λ i. (add_comm u.0 v.0 i, comm_v n u.1 v.1 i)

  pub add_zero_v : (n : ℕ) (u : V A n) → add_v n u (zero_v n) ≡ u
  add_zero_v zero u = refl
  add_zero_v (suc n) u = λ i. (add_zero u.0 i, add_zero_v n u.1 i)

  pub add_neg_v : (n : ℕ) (u : V A n) → add_v n u (neg_v n u) ≡ zero_v n
  add_neg_v zero u = refl
  add_neg_v (suc n) u = λ i. (add_neg u.0 i, add_neg_v n u.1 i)

  scale_add_v : (n : ℕ) (k : A) (u v : V A n) → scale_v n k (add_v n u v) ≡ add_v n (scale_v n k u) (scale_v n k v)
  scale_add_v zero k u v = refl
  scale_add_v (suc n) k u v = λ i. (distrib k u.0 v.0 i, scale_add_v n k u.1 v.1 i)

  scale_plus_v : (n : ℕ) (k l : A) (u : V A n) → scale_v n (k ⊕ l) u ≡ add_v n (scale_v n k u) (scale_v n l u)
  scale_plus_v zero k l u = refl
  scale_plus_v (suc n) k l u = λ i. (ring3 R (λ k l u. (k :+ l) :* u := k :* u :+ l :* u) k l u.0 refl i, scale_plus_v n k l u.1 i)

  scale_scale_v : (n : ℕ) (k l : A) (u : V A n) → scale_v n k (scale_v n l u) ≡ scale_v n (k ⊗ l) u
  scale_scale_v zero k l u = refl
  scale_scale_v (suc n) k l u = λ i. (ring3 R (λ k l u. k :* (l :* u) := k :* l :* u) k l u.0 refl i, scale_scale_v n k l u.1 i)

  swap_scale_v : (n : ℕ) (k l : A) (u : V A n) → scale_v n k (scale_v n l u) ≡ scale_v n l (scale_v n k u)
  swap_scale_v n k l u = scale_scale_v n k l u ∙ ap (λ m. scale_v n m u) (mul_comm k l) ∙ sym (scale_scale_v n l k u)

  scale_zero_v : (n : ℕ) (k : A) → scale_v n k (zero_v n) ≡ zero_v n
  scale_zero_v zero k = refl
  scale_zero_v (suc n) k = λ i. (mul_zero R k i, scale_zero_v n k i)

  zero_scale_v : (n : ℕ) (u : V A n) → scale_v n 𝟎 u ≡ zero_v n
  zero_scale_v zero u = refl
  zero_scale_v (suc n) u = λ i. (ring1 R (λ u. nil :* u := nil) u.0 refl i, zero_scale_v n u.1 i)

  shuffle_v : (n : ℕ) (a b c d : V A n) → add_v n (add_v n a b) (add_v n c d) ≡ add_v n (add_v n a c) (add_v n b d)
  shuffle_v zero a b c d = refl
  shuffle_v (suc n) a b c d = λ i. (ring4 R (λ a b c d. (a :+ b) :+ (c :+ d) := (a :+ c) :+ (b :+ d)) a.0 b.0 c.0 d.0 refl i, shuffle_v n a.1 b.1 c.1 d.1 i)

  less_add_v : (n : ℕ) (a b h : V A n) (s t : A) → less_v n (add_v n a b) (s ⊕ t) h ≡ add_v n (less_v n a s h) (less_v n b t h)
  less_add_v zero a b h s t = refl
  less_add_v (suc n) a b h s t =
      λ i. (ring5 R (λ a b h s t. (a :+ b) :- (s :+ t) :* h := (a :- s :* h) :+ (b :- t :* h)) a.0 b.0 h.0 s t refl i, less_add_v n a.1 b.1 h.1 s t i)

  less_scale_v : (n : ℕ) (k : A) (a h : V A n) (s : A) → less_v n (scale_v n k a) (k ⊗ s) h ≡ scale_v n k (less_v n a s h)
  less_scale_v zero k a h s = refl
  less_scale_v (suc n) k a h s = λ i. (ring4 R (λ k a h s. k :* a :- k :* s :* h := k :* (a :- s :* h)) k a.0 h.0 s refl i, less_scale_v n k a.1 h.1 s i)

  push_add_v : (n : ℕ) (b c : A) (u v : V A n) → push_v n (b ⊕ c) (add_v n u v) ≡ add_v n (push_v n b u) (push_v n c v)
  push_add_v zero b c u v = refl
  push_add_v (suc n) b c u v = λ i. (b ⊕ c, push_add_v n u.0 v.0 u.1 v.1 i)

  push_scale_v : (n : ℕ) (k c : A) (u : V A n) → push_v n (k ⊗ c) (scale_v n k u) ≡ scale_v n k (push_v n c u)
  push_scale_v zero k c u = refl
  push_scale_v (suc n) k c u = λ i. (k ⊗ c, push_scale_v n k u.0 u.1 i)

  top_add_v : (n : ℕ) (b c : A) (u v : V A n) → top_v n (b ⊕ c) (add_v n u v) ≡ top_v n b u ⊕ top_v n c v
  top_add_v zero b c u v = refl
  top_add_v (suc n) b c u v = top_add_v n u.0 v.0 u.1 v.1

  top_scale_v : (n : ℕ) (k c : A) (u : V A n) → top_v n (k ⊗ c) (scale_v n k u) ≡ k ⊗ top_v n c u
  top_scale_v zero k c u = refl
  top_scale_v (suc n) k c u = top_scale_v n k u.0 u.1

  module _ (n : ℕ) (h : V A n) where
    abbrev pub shift_v : V A n → V A n
    shift_v v = less_v n (push_v n 𝟎 v) (top_v n 𝟎 v) h

    -- p at X, on v
    abbrev pub act : List A → V A n → V A n
    act [] v = zero_v n
    act (a ∷ p) v = add_v n (scale_v n a v) (shift_v (act p v))

    shift_add : (u v : V A n) → shift_v (add_v n u v) ≡ add_v n (shift_v u) (shift_v v)
    shift_add u v =
        let zz : 𝟎 ≡ 𝟎 ⊕ 𝟎 = sym (add_zero 𝟎) in
        ap₂ (λ a t. less_v n a t h)
        (ap (λ c. push_v n c (add_v n u v)) zz ∙ push_add_v n 𝟎 𝟎 u v)
        (ap (λ c. top_v n c (add_v n u v)) zz ∙ top_add_v n 𝟎 𝟎 u v)
        ∙ less_add_v n (push_v n 𝟎 u) (push_v n 𝟎 v) h (top_v n 𝟎 u) (top_v n 𝟎 v)

    shift_scale : (k : A) (v : V A n) → shift_v (scale_v n k v) ≡ scale_v n k (shift_v v)
    shift_scale k v =
        let zz : 𝟎 ≡ k ⊗ 𝟎 = sym (mul_zero R k) in
        ap₂ (λ a t. less_v n a t h)
        (ap (λ c. push_v n c (scale_v n k v)) zz ∙ push_scale_v n k 𝟎 v)
        (ap (λ c. top_v n c (scale_v n k v)) zz ∙ top_scale_v n k 𝟎 v)
        ∙ less_scale_v n k (push_v n 𝟎 v) h (top_v n 𝟎 v)

    shift_zero : shift_v (zero_v n) ≡ zero_v n
    shift_zero = ap shift_v (sym (zero_scale_v n (zero_v n))) ∙ shift_scale 𝟎 (zero_v n) ∙ zero_scale_v n (shift_v (zero_v n))

    act_zero : (p : List A) → act p (zero_v n) ≡ zero_v n
    act_zero [] = refl
    act_zero (a ∷ p) = ap₂ (add_v n) (scale_zero_v n a) (ap shift_v (act_zero p) ∙ shift_zero) ∙ add_zero_v n (zero_v n)

    pub act_add : (p : List A) (u v : V A n) → act p (add_v n u v) ≡ add_v n (act p u) (act p v)
    act_add [] u v = sym (add_zero_v n (zero_v n))
    act_add (a ∷ p) u v =
        ap₂ (add_v n) (scale_add_v n a u v) (ap shift_v (act_add p u v) ∙ shift_add (act p u) (act p v))
        ∙ shuffle_v n (scale_v n a u) (scale_v n a v) (shift_v (act p u)) (shift_v (act p v))

    act_scale : (p : List A) (k : A) (v : V A n) → act p (scale_v n k v) ≡ scale_v n k (act p v)
    act_scale [] k v = sym (scale_zero_v n k)
    act_scale (a ∷ p) k v =
        ap₂ (add_v n) (swap_scale_v n a k v) (ap shift_v (act_scale p k v) ∙ shift_scale k (act p v))
        ∙ sym (scale_add_v n k (scale_v n a v) (shift_v (act p v)))

    act_shift : (p : List A) (v : V A n) → act p (shift_v v) ≡ shift_v (act p v)
    act_shift [] v = sym shift_zero
    act_shift (a ∷ p) v =
        ap₂ (add_v n) (sym (shift_scale a v)) (ap shift_v (act_shift p v))
        ∙ sym (shift_add (scale_v n a v) (shift_v (act p v)))

    pub act_act : (p r : List A) (v : V A n) → act p (act r v) ≡ act r (act p v)
    act_act [] r v = sym (act_zero r)
    act_act (a ∷ p) r v =
        ap₂ (add_v n) (sym (act_scale r a v)) (ap shift_v (act_act p r v) ∙ sym (act_shift r (act p v)))
        ∙ sym (act_add r (scale_v n a v) (shift_v (act p v)))

    -- sums, scalings and products of polynomials act as one expects
    act_sum : (f g : List A) (v : V A n) → act (poly_sum (ops R) f g) v ≡ add_v n (act f v) (act g v)
    act_sum [] g v = sym (comm_v n (zero_v n) (act g v) ∙ add_zero_v n (act g v))
    act_sum (a ∷ f) [] v = sym (add_zero_v n (act (a ∷ f) v))
    act_sum (a ∷ f) (b ∷ g) v =
        ap₂ (add_v n) (scale_plus_v n a b v) (ap shift_v (act_sum f g v) ∙ shift_add (act f v) (act g v))
        ∙ shuffle_v n (scale_v n a v) (scale_v n b v) (shift_v (act f v)) (shift_v (act g v))

    act_scaled : (k : A) (f : List A) (v : V A n) → act (poly_scaled (ops R) k f) v ≡ scale_v n k (act f v)
    act_scaled k [] v = sym (scale_zero_v n k)
    act_scaled k (a ∷ f) v =
        ap₂ (add_v n) (sym (scale_scale_v n k a v)) (ap shift_v (act_scaled k f v) ∙ shift_scale k (act f v))
        ∙ sym (scale_add_v n k (scale_v n a v) (shift_v (act f v)))

    act_product : (f g : List A) (v : V A n) → act (poly_product (ops R) f g) v ≡ act f (act g v)
    act_product [] g v = refl
    act_product (a ∷ f) g v =
        act_sum (poly_scaled (ops R) a g) (𝟎 ∷ poly_product (ops R) f g) v
        ∙ ap₂ (add_v n) (act_scaled a g v) (ap₂ (add_v n) (zero_scale_v n v) (ap shift_v (act_product f g v)) ∙ comm_v n (zero_v n) (shift_v (act f (act g v))) ∙ add_zero_v n (shift_v (act f (act g v))))

    -- one polynomial acts in one way
    act_same : (f g : List A) (v : V A n) → Same (ops R) f g → act f v ≡ act g v
    act_same [] [] v s = refl
    act_same [] (b ∷ g) v s =
        sym (ap₂ (add_v n) (ap (λ k. scale_v n k v) (sym (s 0)) ∙ zero_scale_v n v) (ap shift_v (sym (act_same [] g v (λ k. s (suc k)))) ∙ shift_zero) ∙ add_zero_v n (zero_v n))
    act_same (a ∷ f) [] v s =
        ap₂ (add_v n) (ap (λ k. scale_v n k v) (s 0) ∙ zero_scale_v n v) (ap shift_v (act_same f [] v (λ k. s (suc k))) ∙ shift_zero) ∙ add_zero_v n (zero_v n)
    act_same (a ∷ f) (b ∷ g) v s =
        ap₂ (add_v n) (ap (λ k. scale_v n k v) (s 0)) (ap shift_v (act_same f g v (λ k. s (suc k))))

  -- the first n coefficients of a list, zeros where it ends
  abbrev pub fit : (n : ℕ) → List A → V A n
  fit zero p = tt
  fit (suc n) [] = (𝟎, fit n [])
  fit (suc n) (a ∷ p) = (a, fit n p)

  pub fit_list : (n : ℕ) (v : V A n) → fit n (list n v) ≡ v
  fit_list zero v = refl
  fit_list (suc n) v = λ i. (v.0, fit_list n v.1 i)

  pub list_length : (n : ℕ) (v : V A n) → length (list n v) ≡ n
  list_length zero v = refl
  list_length (suc n) v = ap suc (list_length n v.1)

  fit_none : (n : ℕ) → fit n [] ≡ zero_v n
  fit_none zero = refl
  fit_none (suc n) = λ i. (𝟎, fit_none n i)

  -- a short list leaves the top coefficient free
  push_fit : (n : ℕ) (c : A) (p : List A) → length p ≤ n → push_v (suc n) c (fit (suc n) p) ≡ (c, fit n p)
  push_fit zero c [] le = refl
  push_fit zero c (a ∷ p) le = let z : ⊥ = omega arith in absurd z
  push_fit (suc n) c [] le = λ i. (c, push_fit n 𝟎 [] (omega arith) i)
  push_fit (suc n) c (a ∷ p) le = let k : length p ≤ n = omega arith in λ i. (c, push_fit n a p k i)

  top_fit : (n : ℕ) (c : A) (p : List A) → length p ≤ n → top_v (suc n) c (fit (suc n) p) ≡ 𝟎
  top_fit zero c [] le = refl
  top_fit zero c (a ∷ p) le = let z : ⊥ = omega arith in absurd z
  top_fit (suc n) c [] le = top_fit n 𝟎 [] (omega arith)
  top_fit (suc n) c (a ∷ p) le = let k : length p ≤ n = omega arith in top_fit n a p k

  rest_is : (n : ℕ) (a : A) (w h : V A n) → add_v n (scale_v n a (zero_v n)) (less_v n w 𝟎 h) ≡ w
  rest_is zero a w h = refl
  rest_is (suc n) a w h = λ i. (ring3 R (λ a w h. a :* nil :+ (w :- nil :* h) := w) a w.0 h.0 refl i, rest_is n a w.1 h.1 i)

  -- the last one in, after all the others
  abbrev snoc_v : (n : ℕ) → V A n → A → V A (suc n)
  snoc_v zero v c = (c, tt)
  snoc_v (suc n) v c = (v.0, snoc_v n v.1 c)

  list_snoc : (n : ℕ) (v : V A n) (c : A) → list (suc n) (snoc_v n v c) ≡ list n v ++ (c ∷ [])
  list_snoc zero v c = refl
  list_snoc (suc n) v c = ap (λ l. v.0 ∷ l) (list_snoc n v.1 c)

  push_snoc : (n : ℕ) (b : A) (v : V A n) (c : A) → push_v (suc n) b (snoc_v n v c) ≡ (b, v)
  push_snoc zero b v c = refl
  push_snoc (suc n) b v c = λ i. (b, push_snoc n v.0 v.1 c i)

  top_snoc : (n : ℕ) (b : A) (v : V A n) (c : A) → top_v (suc n) b (snoc_v n v c) ≡ c
  top_snoc zero b v c = refl
  top_snoc (suc n) b v c = top_snoc n v.0 v.1 c

  -- h - h, with nothing added
  scaled_closes : (n : ℕ) (k : A) (h : V A n) → add_v n (scale_v n k (zero_v n)) (less_v n h 𝟏 h) ≡ zero_v n
  scaled_closes zero k h = refl
  scaled_closes (suc n) k h = λ i. (ring2 R (λ k h. k :* nil :+ (h :- one :* h) := nil) k h.0 refl i, scaled_closes n k h.1 i)

  -- the place where X · r stands, taken apart: t · (X^d + h) and what is left below
  divided : (n : ℕ) (c : A) (r h : V A n) (k : ℕ)
      → top_v n c r ⊗ coefficient (ops R) (list n h ++ (𝟏 ∷ [])) k ⊕ coefficient (ops R) (list n (less_v n (push_v n c r) (top_v n c r) h)) k ≡ coefficient (ops R) (c ∷ list n r) k
  divided zero c r h zero = ring1 R (λ c. c :* one :+ nil := c) c refl
  divided zero c r h (suc k) = ring1 R (λ c. c :* nil :+ nil := nil) c refl
  divided (suc n) c r h zero = ring3 R (λ t h c. t :* h :+ (c :- t :* h) := c) (top_v n r.0 r.1) h.0 c refl
  divided (suc n) c r h (suc k) = divided n r.0 r.1 h.1 k

  zeros_none : (n k : ℕ) → coefficient (ops R) (list n (zero_v n)) k ≡ 𝟎
  zeros_none zero k = refl
  zeros_none (suc n) zero = refl
  zeros_none (suc n) (suc k) = zeros_none n k

  scaled_zeros : (n : ℕ) (a : A) (k : ℕ) → coefficient (ops R) (list n (scale_v n a (zero_v n))) k ≡ 𝟎
  scaled_zeros n a k = ap (λ v. coefficient (ops R) (list n v) k) (scale_zero_v n a) ∙ zeros_none n k

  add_coefficient : (n : ℕ) (u v : V A n) (k : ℕ) → coefficient (ops R) (list n (add_v n u v)) k ≡ coefficient (ops R) (list n u) k ⊕ coefficient (ops R) (list n v) k
  add_coefficient zero u v k = sym (add_zero 𝟎)
  add_coefficient (suc n) u v zero = refl
  add_coefficient (suc n) u v (suc k) = add_coefficient n u.1 v.1 k

  module _ (n : ℕ) (h : V A (suc n)) where
    abbrev d : ℕ
    d = suc n

    -- a short polynomial on one is itself
    act_unit : (p : List A) → length p ≤ d → act d h p (unit_v d) ≡ fit d p
    act_unit [] le = sym (fit_none d)
    act_unit (a ∷ p) le =
        let k : length p ≤ n = omega arith in
        let ih : act d h p (unit_v d) ≡ fit d p = act_unit p (omega arith) in
        ap (λ w. add_v d (scale_v d a (unit_v d)) (shift_v d h w)) ih
        ∙ ap₂ (λ w t. add_v d (scale_v d a (unit_v d)) (less_v d w t h)) (push_fit n 𝟎 p k) (top_fit n 𝟎 p k)
        ∙ (λ i. (ring2 R (λ a h. a :* one :+ (nil :- nil :* h) := a) a h.0 refl i, rest_is n a (fit n p) h.1 i))

    pub act_whole : (u : V A d) → act d h (list d u) (unit_v d) ≡ u
    act_whole u = act_unit (list d u) (omega (arith, list_length d u)) ∙ fit_list d u

    abbrev pub monic_v : List A
    monic_v = list d h ++ (𝟏 ∷ [])

    act_monic : act d h monic_v (unit_v d) ≡ zero_v d
    act_monic =
        ap (λ l. add_v d (scale_v d h.0 (unit_v d)) (shift_v d h (act d h l (unit_v d)))) (sym (list_snoc n h.1 𝟏))
        ∙ ap (λ w. add_v d (scale_v d h.0 (unit_v d)) (shift_v d h w)) (act_whole (snoc_v n h.1 𝟏))
        ∙ ap₂ (λ w t. add_v d (scale_v d h.0 (unit_v d)) (less_v d w t h)) (push_snoc n 𝟎 h.1 𝟏) (top_snoc n 𝟎 h.1 𝟏)
        ∙ (λ i. (ring1 R (λ h. h :* one :+ (nil :- one :* h) := nil) h.0 refl i, scaled_closes n h.0 h.1 i))

    abbrev pub mul_v : V A d → V A d → V A d
    mul_v u v = act d h (list d u) v

    pub commutes : (u v : V A d) → mul_v u v ≡ mul_v v u
    commutes u v =
        ap (act d h (list d u)) (sym (act_whole v))
        ∙ act_act d h (list d u) (list d v) (unit_v d)
        ∙ ap (act d h (list d v)) (act_whole u)

    unfoldable pub ring_v : CommRing (V A d)
    ring_v = record {
      𝟎 = zero_v d;
      𝟏 = unit_v d;
      ◌⊕◌ = add_v d;
      ◌⊗◌ = mul_v;
      neg = neg_v d;
      add_assoc = assoc_v d;
      add_comm = comm_v d;
      add_zero = add_zero_v d;
      add_neg = add_neg_v d;
      mul_assoc = λ u v w.
          commutes (mul_v u v) w ∙ act_act d h (list d w) (list d u) v ∙ ap (mul_v u) (commutes w v);
      mul_comm = commutes;
      mul_one = act_whole;
      distrib = λ u v w. act_add d h (list d u) v w;
    }

    abbrev pub remainder : List A → V A d
    remainder p = act d h p (unit_v d)

    -- division by the monic polynomial
    abbrev quotient : List A → List A
    quotient [] = []
    quotient (a ∷ p) = top_v d 𝟎 (remainder p) ∷ quotient p

    abbrev Divides : List A → List A → V A d → Type 0
    Divides p w r = Same (ops R) p (poly_sum (ops R) (poly_product (ops R) w monic_v) (list d r))

    divides : (p : List A) → Divides p (quotient p) (remainder p)
    divides [] k = sym (zeros_none d k)
    divides (a ∷ p) zero =
        let t = top_v d 𝟎 (remainder p) in
        let x = t ⊗ coefficient (ops R) monic_v 0 in
        let y = coefficient (ops R) (list d (shift_v d h (remainder p))) 0 in
        let both : x ⊕ y ≡ 𝟎 = divided d 𝟎 (remainder p) h 0 in
        using3 R (λ a x y. nil := x :+ y) (λ a x y. one) (λ a x y. a := x :+ nil :+ (a :* one :+ y)) a x y refl (sym both)
    divides (a ∷ p) (suc k) =
        let t = top_v d 𝟎 (remainder p) in
        let rest = poly_product (ops R) (quotient p) monic_v in
        let x = t ⊗ coefficient (ops R) monic_v (suc k) in
        let y = coefficient (ops R) (list d (shift_v d h (remainder p))) (suc k) in
        let both : x ⊕ y ≡ coefficient (ops R) (list d (remainder p)) k = divided d 𝟎 (remainder p) h (suc k) in
        let pw = coefficient (ops R) rest k in
        divides p k
        ∙ sum_coefficient R rest (list d (remainder p)) k
        ∙ ap (λ z. pw ⊕ z) (sym both)
        ∙ ring3 R (λ x y w. w :+ (x :+ y) := x :+ w :+ (nil :+ y)) x y pw refl
        ∙ sym (ap₂ ◌⊕◌
        (sum_coefficient R (poly_scaled (ops R) t monic_v) (𝟎 ∷ rest) (suc k) ∙ ap (λ z. z ⊕ pw) (scaled_coefficient R t monic_v (suc k)))
        (add_coefficient d (scale_v d a (unit_v d)) (shift_v d h (remainder p)) (suc k) ∙ ap (λ z. z ⊕ y) (scaled_zeros n a k)))
        ∙ sym (sum_coefficient R (poly_product (ops R) (t ∷ quotient p) monic_v) (list d (remainder (a ∷ p))) (suc k))

    only : (p w : List A) (r : V A d) → Divides p w r → r ≡ remainder p
    only p w r same =
        sym (act_same d h p (poly_sum (ops R) (poly_product (ops R) w monic_v) (list d r)) (unit_v d) same
        ∙ act_sum d h (poly_product (ops R) w monic_v) (list d r) (unit_v d)
        ∙ ap₂ (add_v d) (act_product d h w monic_v (unit_v d) ∙ ap (act d h w) act_monic ∙ act_zero d h w) (act_whole r)
        ∙ comm_v d (zero_v d) r
        ∙ add_zero_v d r)

    pub product_whole : (u v : V A d) → remainder (poly_product (ops R) (list d u) (list d v)) ≡ mul_v u v
    product_whole u v = act_product d h (list d u) (list d v) (unit_v d) ∙ ap (act d h (list d u)) (act_whole v)

    pub product_divides : (u v : V A d) → (w : List A) × Divides (poly_product (ops R) (list d u) (list d v)) w (mul_v u v)
    product_divides u v =
        let p = poly_product (ops R) (list d u) (list d v) in
        (quotient p, subst (Divides p (quotient p)) (product_whole u v) (divides p))

    pub product_only : (u v : V A d) (w : List A) (r : V A d) → Divides (poly_product (ops R) (list d u) (list d v)) w r → r ≡ mul_v u v
    product_only u v w r same = only (poly_product (ops R) (list d u) (list d v)) w r same ∙ product_whole u v
