-- Where no two coordinates reach the degree together, the product is the plain one: nothing is reduced.
use Rattle.std.specs.Prelude.{◌≡◌, ℕ, zero, suc, ◌+◌, ◌-◌, ◌*◌, ◌%◌, ◌<◌, ◌≤◌, List, [], ◌∷◌, length, slice_index, slice_index_or, refl}
use Rattle.std.proofs.Common.{sym, ap, ap₂, ◌∙◌, mod-lt, mod-eq_of_lt, add-zero, zero-mul, arith}
use Rattle.std.proofs.Math.Nat.{mod_self, zero-mod, add-mod, sub-zero, mod-add-mod}
use Rattle.std.proofs.lemmas.List.{length-map, get_or-map}
use Rattle.algebra.specs.Quotient.{modulo, add, negate, scale, zeros, push, top, shift, product, AllBelow}

-- f 0 + .. + f (n - 1)
abbrev pub total : ℕ → (ℕ → ℕ) → ℕ
total zero f = 0
total (suc n) f = f 0 + total n (λ i. f (suc i))

pub total_same : (n : ℕ) (f g : ℕ → ℕ) → ((i : ℕ) → i < n → f i ≡ g i) → total n f ≡ total n g
total_same zero f g e = refl
total_same (suc n) f g e = ap₂ (λ x y. x + y) (e 0 (omega arith)) (total_same n (λ i. f (suc i)) (λ i. g (suc i)) (λ i h. let k : suc i < suc n = omega arith in e (suc i) k))

pub total_none : (n : ℕ) (f : ℕ → ℕ) → ((i : ℕ) → i < n → f i ≡ 0) → total n f ≡ 0
total_none zero f e = refl
total_none (suc n) f e = ap₂ (λ x y. x + y) (e 0 (omega arith)) (total_none n (λ i. f (suc i)) (λ i h. let k : suc i < suc n = omega arith in e (suc i) k))

pub zeros_at : (q : ℕ) (h : List ℕ) (k : ℕ) → slice_index (zeros (modulo q) h) k ≡ 0
zeros_at q [] k = refl
zeros_at q (c ∷ h) zero = refl
zeros_at q (c ∷ h) (suc k) = zeros_at q h k

-- no two coordinates whose places reach n together are both other than 0
abbrev pub Room : ℕ → List ℕ → List ℕ → Type 0
Room n u y = (i k : ℕ) → n ≤ i + k → slice_index u i * slice_index y k ≡ 0

-- the products of coordinates whose places add up to k
abbrev pub terms : List ℕ → List ℕ → ℕ → ℕ → ℕ
terms u y k i = slice_index u i * slice_index y (k - i)

module _ (q : ℕ) (pos : 0 < q) where
  pub length_add : (u v : List ℕ) → length u ≡ length v → length (add (modulo q) u v) ≡ length u
  length_add [] v e = refl
  length_add (x ∷ u) [] e = let z : ⊥ = omega arith in absurd z
  length_add (x ∷ u) (y ∷ v) e = let k : length u ≡ length v = omega arith in ap suc (length_add u v k)

  below_add : (u v : List ℕ) → AllBelow q (add (modulo q) u v)
  below_add [] v = tt
  below_add (x ∷ u) [] = tt
  below_add (x ∷ u) (y ∷ v) = (mod-lt (x + y) pos, below_add u v)

  below_zeros : (h : List ℕ) → AllBelow q (zeros (modulo q) h)
  below_zeros [] = tt
  below_zeros (c ∷ h) = (pos, below_zeros h)

  length_push : (c : ℕ) (v : List ℕ) → length (push c v) ≡ length v
  length_push c [] = refl
  length_push c (b ∷ v) = ap suc (length_push b v)

  length_shift : (h v : List ℕ) → length v ≡ length h → length (shift (modulo q) h v) ≡ length h
  length_shift h v e =
      let low = negate (modulo q) (scale (modulo q) (top 0 v) h) in
      let one : length low ≡ length h = length-map (scale (modulo q) (top 0 v) h) (λ x. (q - x) % q) ∙ length-map h (λ x. (top 0 v * x) % q) in
      length_add (push 0 v) low (length_push 0 v ∙ e ∙ sym one) ∙ length_push 0 v ∙ e

  pub length_product : (h u v : List ℕ) → length v ≡ length h → length (product (modulo q) h u v) ≡ length h
  length_product h [] v e = length-map h (λ x. 0)
  length_product h (a ∷ u) v e =
      let long : length (scale (modulo q) a v) ≡ length h = length-map v (λ x. (a * x) % q) ∙ e in
      length_add (scale (modulo q) a v) (shift (modulo q) h (product (modulo q) h u v)) (long ∙ sym (length_shift h (product (modulo q) h u v) (length_product h u v e))) ∙ long

  pub below_product : (h u v : List ℕ) → AllBelow q (product (modulo q) h u v)
  below_product h [] v = below_zeros h
  below_product h (a ∷ u) v = below_add (scale (modulo q) a v) (shift (modulo q) h (product (modulo q) h u v))

  pub add_at : (u v : List ℕ) (k : ℕ) → length u ≡ length v → k < length u → slice_index (add (modulo q) u v) k ≡ (slice_index u k + slice_index v k) % q
  add_at [] v k e h = let z : ⊥ = omega arith in absurd z
  add_at (x ∷ u) [] k e h = let z : ⊥ = omega arith in absurd z
  add_at (x ∷ u) (y ∷ v) zero e h = refl
  add_at (x ∷ u) (y ∷ v) (suc k) e h =
      let e' : length u ≡ length v = omega arith in
      let h' : k < length u = omega arith in
      add_at u v k e' h'

  pub scale_at : (a : ℕ) (v : List ℕ) (k : ℕ) → k < length v → slice_index (scale (modulo q) a v) k ≡ (a * slice_index v k) % q
  scale_at a v k h = get_or-map (λ x. (a * x) % q) v k 0 0 h

  pub at_below : (l : List ℕ) (k : ℕ) → AllBelow q l → slice_index l k < q
  at_below [] k low = pos
  at_below (x ∷ l) zero low = low.0
  at_below (x ∷ l) (suc k) low = at_below l k low.1

  below_push : (c : ℕ) (v : List ℕ) → c < q → AllBelow q v → AllBelow q (push c v)
  below_push c [] h low = tt
  below_push c (b ∷ v) h low = (h, below_push b v low.0 low.1)

  push_front : (c : ℕ) (v : List ℕ) → 0 < length v → slice_index (push c v) 0 ≡ c
  push_front c [] h = let z : ⊥ = omega arith in absurd z
  push_front c (b ∷ v) h = refl

  push_at : (c : ℕ) (v : List ℕ) (k : ℕ) → suc k < length v → slice_index (push c v) (suc k) ≡ slice_index v k
  push_at c [] k h = let z : ⊥ = omega arith in absurd z
  push_at c (b ∷ v) zero h = let some : 0 < length v = omega arith in push_front b v some
  push_at c (b ∷ v) (suc k) h = let some : suc k < length v = omega arith in push_at b v k some

  top_at : (c : ℕ) (v : List ℕ) (n : ℕ) → length v ≡ suc n → top c v ≡ slice_index v n
  top_at c [] n e = let z : ⊥ = omega arith in absurd z
  top_at c (b ∷ []) zero e = refl
  top_at c (b ∷ []) (suc n) e = let z : ⊥ = omega arith in absurd z
  top_at c (b ∷ d ∷ v) zero e = let z : ⊥ = omega arith in absurd z
  top_at c (b ∷ d ∷ v) (suc n) e = let k : suc (length v) ≡ suc n = omega arith in top_at b (d ∷ v) n k

  pub minus_at : (v : List ℕ) (k : ℕ) → k < length v → slice_index (negate (modulo q) v) k ≡ (q - slice_index v k) % q
  minus_at v k h = get_or-map (λ x. (q - x) % q) v k 0 0 h

  -- a value whose top coordinate is 0 is only moved up
  shift_at : (h v : List ℕ) (k : ℕ) → length v ≡ length h → AllBelow q v → top 0 v ≡ 0 → k < length h → slice_index (shift (modulo q) h v) k ≡ slice_index (push 0 v) k
  shift_at h v k e low none inside =
      let w = scale (modulo q) (top 0 v) h in
      let long-w : length w ≡ length h = length-map h (λ x. (top 0 v * x) % q) in
      let long-n : length (negate (modulo q) w) ≡ length w = length-map w (λ x. (q - x) % q) in
      let long-p : length (push 0 v) ≡ length v = length_push 0 v in
      let x = slice_index_or (push 0 v) k 0 in
      add_at (push 0 v) (negate (modulo q) w) k (omega arith) (omega arith)
      ∙ ap (λ z. (x + z) % q)
      (minus_at w k (omega arith)
      ∙ ap (λ z. (q - z) % q) (scale_at (top 0 v) h k inside ∙ ap (λ t. (t * slice_index h k) % q) none ∙ ap (λ z. z % q) (zero-mul (slice_index h k)) ∙ zero-mod q)
      ∙ ap (λ z. z % q) (sub-zero q)
      ∙ mod_self q)
      ∙ ap (λ z. z % q) (add-zero x)
      ∙ mod-eq_of_lt (at_below (push 0 v) k (below_push 0 v pos low))

  pub plain_at : (h u y : List ℕ) (n : ℕ) → length h ≡ suc n → length y ≡ length h → Room (suc n) u y → (k : ℕ) → k < suc n
      → slice_index (product (modulo q) h u y) k ≡ total (suc k) (terms u y k) % q
  plain_at h [] y n d e room k inside =
      zeros_at q h k
      ∙ sym (ap (λ z. z % q) (total_none (suc k) (terms [] y k) (λ i below. zero-mul (slice_index y (k - i)))) ∙ zero-mod q)
  plain_at h (a ∷ u) y n d e room k inside =
      let z = product (modulo q) h u y in
      let room-u : Room (suc n) u y = λ i j big. let up : suc n ≤ suc i + j = omega arith in room (suc i) j up in
      let long-z : length z ≡ length h = length_product h u y e in
      let none : top 0 z ≡ 0 =
      top_at 0 z n (long-z ∙ d)
      ∙ plain_at h u y n d e room-u n (omega arith)
      ∙ ap (λ m. m % q) (total_none (suc n) (terms u y n) (λ i below. let reach : suc n ≤ suc i + (n - i) = omega arith in room (suc i) (n - i) reach))
      ∙ zero-mod q in
      let long-s : length (scale (modulo q) a y) ≡ length y = length-map y (λ x. (a * x) % q) in
      let long-h : length (shift (modulo q) h z) ≡ length h = length_shift h z long-z in
      add_at (scale (modulo q) a y) (shift (modulo q) h z) k (omega arith) (omega arith)
      ∙ ap₂ (λ x w. (x + w) % q) (scale_at a y k (omega arith)) (shift_at h z k long-z (below_product h u y) none (omega arith))
      ∙ next k inside (λ j below. plain_at h u y n d e room-u j below)
    where
      next : (k : ℕ) → k < suc n → ((j : ℕ) → j < suc n → slice_index (product (modulo q) h u y) j ≡ total (suc j) (terms u y j) % q)
          → ((a * slice_index y k) % q + slice_index (push 0 (product (modulo q) h u y)) k) % q ≡ total (suc k) (terms (a ∷ u) y k) % q
      next zero inside ih =
          let some : 0 < length (product (modulo q) h u y) = omega (arith, length_product h u y e) in
          ap (λ w. ((a * slice_index y 0) % q + w) % q) (push_front 0 (product (modulo q) h u y) some) ∙ mod-add-mod (a * slice_index y 0) q 0
      next (suc k) inside ih =
          let some : suc k < length (product (modulo q) h u y) = omega (arith, length_product h u y e) in
          ap (λ w. ((a * slice_index y (suc k)) % q + w) % q) (push_at 0 (product (modulo q) h u y) k some ∙ ih k (omega arith))
          ∙ sym (add-mod (a * slice_index y (suc k)) (total (suc k) (terms u y k)) q)
          ∙ ap₂ (λ m w. (a * slice_index y m + w) % q) (sym (sub-zero (suc k)))
          (total_same (suc k) (terms u y k) (λ i. slice_index u i * slice_index y (suc k - suc i))
          (λ i below. let same : k - i ≡ suc k - suc i = omega arith in ap (λ m. slice_index u i * slice_index y m) same))
