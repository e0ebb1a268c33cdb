-- Lists by their places, values laid out lane by lane, and products of lanes.
use Rattle.std.specs.Prelude.{◌≡◌, ℕ, zero, suc, ◌+◌, ◌*◌, ◌%◌, ◌<◌, ◌≤◌, ◌⊎◌, List, [], ◌∷◌, length, get_or, take, set, slice_index, slice_index_or, slice_set, refl}
use Rattle.std.specs.List.{fold, zip}
use Rattle.std.proofs.Common.{sym, ap, ap₂, ◌∙◌, inl, inr, mod-lt, mod-eq_of_lt, add-zero, zero-add, arith, length-set, get_or-set_same, get_or-set_other}
use Rattle.std.proofs.Math.Nat.{mod-mod, mod-add-mod}
use Rattle.std.proofs.lemmas.Grind.{same_number_lists}
use Rattle.std.proofs.lemmas.List.{length-map, length-take, get_or-map, get_or-take, get_or_default, set_comm}
use Rattle.std.proofs.Math.ListN.{get_or-eq_default}
use Rattle.std.proofs.lemmas.Bool.{cases_eq, cases_lt}
use Rattle.algebra.specs.Quotient.{Shape, Element, modulo, add, zeros}
use Rattle.ring.specs.Model.{ring, embedded}
use Rattle.encoding.specs.Encodings.{lane_products, dot}
use Rattle.encoding.specs.Layouts.{laid_over, read_at}
use Rattle.encoding.specs.Positions.{Apart, laid_off}
use Rattle.encoding.specs.Product.{zeros_at, length_add, add_at, at_below}

-- what is read at the k-th place
pub read_place : (ps x : List ℕ) (k : ℕ) → k < length ps → slice_index (read_at ps x) k ≡ slice_index x (slice_index ps k)
read_place ps x k h = get_or-map (λ p. slice_index x p) ps k 0 0 h

pub products_in : (q : ℕ) (a b : List ℕ) (k : ℕ) → k < length a → k < length b → slice_index (lane_products q a b) k ≡ (slice_index a k * slice_index b k) % q
products_in q [] b k ha hb = let z : ⊥ = omega arith in absurd z
products_in q (x ∷ a) [] k ha hb = let z : ⊥ = omega arith in absurd z
products_in q (x ∷ a) (y ∷ b) zero ha hb = refl
products_in q (x ∷ a) (y ∷ b) (suc k) ha hb = let ka : k < length a = omega arith in let kb : k < length b = omega arith in products_in q a b k ka kb

pub products_past : (q : ℕ) (a b : List ℕ) (k : ℕ) → (length a ≤ k) ⊎ (length b ≤ k) → 0 ≡ slice_index (lane_products q a b) k
products_past q [] b k past = refl
products_past q (x ∷ a) [] k past = refl
products_past q (x ∷ a) (y ∷ b) zero past = elim past [ inl p ↦ (let z : ⊥ = omega arith in absurd z) | inr p ↦ (let z : ⊥ = omega arith in absurd z) ]
products_past q (x ∷ a) (y ∷ b) (suc k) past =
    products_past q a b k (elim past [ inl p ↦ inl (let l : length a ≤ k = omega arith in l) | inr p ↦ inr (let l : length b ≤ k = omega arith in l) ])

-- the sum of the products, from m on, with each step modulo q
pub dot_by_fold : (q m : ℕ) (a b : List ℕ) → m < q → fold (λ sum p. (sum + (p.0 * p.1) % q) % q) m (zip a b) ≡ (m + dot a b) % q
dot_by_fold q m [] b small = sym (ap (λ n. n % q) (add-zero m) ∙ mod-eq_of_lt small)
dot_by_fold q m (x ∷ a) [] small = sym (ap (λ n. n % q) (add-zero m) ∙ mod-eq_of_lt small)
dot_by_fold q m (x ∷ a) (y ∷ b) small =
    let pos : 0 < q = omega arith in
    let rest = dot a b in
    let out : m + (x * y) % q + rest ≡ (x * y) % q + (m + rest) = omega arith in
    let back : x * y + (m + rest) ≡ m + (x * y + rest) = omega arith in
    dot_by_fold q ((m + (x * y) % q) % q) a b (mod-lt (m + (x * y) % q) pos)
    ∙ mod-add-mod (m + (x * y) % q) q rest
    ∙ ap (λ n. n % q) out
    ∙ mod-add-mod (x * y) q (m + rest)
    ∙ ap (λ n. n % q) back

-- one lane more, where zero stood before
pub add_embedded : (s : Shape) (x : Element s) (v p : ℕ) → p < length s.h → slice_index x.0 p ≡ 0 → add (modulo s.q) x.0 (embedded s v p) ≡ slice_set x.0 p (v % s.q)
add_embedded s x v p inside blank =
    let q = s.q in
    let pos : 0 < s.q = omega (arith, s.two) in
    let base = zeros (modulo s.q) s.h in
    let long-b : length base ≡ length s.h = length-map s.h (λ c. 0) in
    let long-e : length (embedded s v p) ≡ length base = length-set base p (v % s.q) in
    let even : length x.0 ≡ length (embedded s v p) = omega (arith, x.1.0) in
    let long-x : length x.0 ≡ length s.h = x.1.0 in
    let sum = add (modulo s.q) x.0 (embedded s v p) in
    let long-s : length sum ≡ length x.0 = length_add s.q pos x.0 (embedded s v p) even in
    same_number_lists sum (slice_set x.0 p (v % s.q)) (long-s ∙ sym (length-set x.0 p (v % s.q)))
    (λ k h.
    let k-in : k < length x.0 = omega arith in
    add_at s.q pos x.0 (embedded s v p) k even k-in
    ∙ elim (cases_eq k p) [
      | inl same ↦
          let p-b : p < length base = omega arith in
          let p-x : p < length x.0 = omega arith in
          ap (λ j. (slice_index x.0 j + slice_index (embedded s v p) j) % s.q) same
          ∙ ap₂ (λ y z. (y + z) % s.q) blank (get_or-set_same base p (v % s.q) 0 p-b)
          ∙ ap (λ z. z % s.q) (zero-add (v % s.q))
          ∙ mod-mod v s.q
          ∙ sym (ap (λ j. slice_index (slice_set x.0 p (v % s.q)) j) same ∙ get_or-set_same x.0 p (v % s.q) 0 p-x)
      | inr other ↦
          ap (λ z. (slice_index x.0 k + z) % s.q) (get_or-set_other base p k (v % s.q) 0 other ∙ zeros_at s.q s.h k)
          ∙ ap (λ z. z % s.q) (add-zero (slice_index x.0 k))
          ∙ mod-eq_of_lt (at_below s.q pos x.0 k x.1.1)
          ∙ sym (get_or-set_other x.0 p k (v % s.q) 0 other)
    ])

-- the degree stands for a lane that is none, and reads as 0
pub read_lane_is : (ps x : List ℕ) (d lane : ℕ) → length x ≡ d → slice_index x (slice_index_or ps lane d) ≡ slice_index (read_at ps x) lane
read_lane_is ps x d lane long = elim (cases_lt lane (length ps)) [
  | inl inside ↦ ap (λ p. slice_index x p) (get_or_default ps lane d 0 inside) ∙ sym (read_place ps x lane inside)
  | inr past ↦
      let far : length (read_at ps x) ≤ lane = omega (arith, length-map ps (λ p. slice_index x p)) in
      let end : length x ≤ d = omega arith in
      ap (λ p. slice_index x p) (get_or-eq_default ps d past) ∙ get_or-eq_default x 0 end ∙ sym (get_or-eq_default (read_at ps x) 0 far)
]

-- one lane more is laid out last
laid_next : (q : ℕ) (base ps lanes : List ℕ) (l : ℕ) → Apart ps → l < length ps → l < length lanes
    → laid_over q base (take (suc l) ps) (take (suc l) lanes) ≡ slice_set (laid_over q base (take l ps) (take l lanes)) (slice_index ps l) (slice_index lanes l % q)
laid_next q base [] lanes l apart hp hl = let z : ⊥ = omega arith in absurd z
laid_next q base (p ∷ ps) [] l apart hp hl = let z : ⊥ = omega arith in absurd z
laid_next q base (p ∷ ps) (v ∷ lanes) zero apart hp hl = refl
laid_next q base (p ∷ ps) (v ∷ lanes) (suc l) apart hp hl =
    let kp : l < length ps = omega arith in
    let kl : l < length lanes = omega arith in
    ap (λ y. set y p (v % q)) (laid_next q base ps lanes l (λ i j hi hj e. let up : suc i ≡ suc j = apart (suc i) (suc j) (omega arith) (omega arith) e in omega arith) kp kl)
    ∙ set_comm (laid_over q base (take l ps) (take l lanes)) (slice_index ps l) p (slice_index lanes l % q) (v % q)
    (λ same. let z : suc l ≡ 0 = apart (suc l) 0 hp (omega arith) same in let f : ⊥ = omega arith in f)

-- past the last lane nothing is laid out
pub laid_all : (q : ℕ) (base ps lanes : List ℕ) (n : ℕ) → (length ps ≤ n) ⊎ (length lanes ≤ n) → laid_over q base (take n ps) (take n lanes) ≡ laid_over q base ps lanes
laid_all q base [] lanes zero past = refl
laid_all q base [] lanes (suc n) past = refl
laid_all q base (p ∷ ps) [] zero past = refl
laid_all q base (p ∷ ps) [] (suc n) past = refl
laid_all q base (p ∷ ps) (v ∷ lanes) zero past = elim past [ inl h ↦ (let z : ⊥ = omega arith in absurd z) | inr h ↦ (let z : ⊥ = omega arith in absurd z) ]
laid_all q base (p ∷ ps) (v ∷ lanes) (suc n) past =
    ap (λ y. set y p (v % q))
    (laid_all q base ps lanes n (elim past [ inl h ↦ inl (let k : length ps ≤ n = omega arith in k) | inr h ↦ inr (let k : length lanes ≤ n = omega arith in k) ]))

pub laid_start : (s : Shape) (ps lanes : List ℕ) (z : Element s) → z ≡ (ring s).𝟎 → z.0 ≡ laid_over s.q (zeros (modulo s.q) s.h) (take 0 ps) (take 0 lanes)
unfolding ring
laid_start s ps lanes z e = ap (λ x. x.0) e

-- the next lane, after the ones that are laid out already
pub laid_more : (s : Shape) (ps lanes : List ℕ) → Apart ps → ((k : ℕ) → k < length ps → slice_index ps k < length s.h)
    → (x e r : Element s) (l v p : ℕ) → l < length ps → l < length lanes
    → x.0 ≡ laid_over s.q (zeros (modulo s.q) s.h) (take l ps) (take l lanes)
    → v ≡ slice_index lanes l → p ≡ slice_index_or ps l (length s.h) → e.0 ≡ embedded s v p → r ≡ (ring s).◌⊕◌ x e
    → r.0 ≡ laid_over s.q (zeros (modulo s.q) s.h) (take (l + 1) ps) (take (l + 1) lanes)
unfolding ring
laid_more s ps lanes apart low x e r l v p in_p in-l worked ev ep ee er =
    let base = zeros (modulo s.q) s.h in
    let up : suc l ≡ l + 1 = omega arith in
    let place : p ≡ get_or ps l 0 = ep ∙ get_or_default ps l (length s.h) 0 in_p in
    let inside : p < length s.h = omega (arith, low l in_p) in
    let blank : get_or x.0 p 0 ≡ 0 =
    ap (λ y. slice_index y p) worked
    ∙ laid_off s.q base (take l ps) (take l lanes) p
    (λ k h same.
    let before : k < l = omega (arith, length-take l ps) in
    let met : k ≡ l = apart k l (omega arith) in_p (sym (get_or-take l ps k 0 before) ∙ same ∙ place) in
    let z : ⊥ = omega arith in z)
    ∙ zeros_at s.q s.h p in
    ap (λ y. y.0) er
    ∙ ap (add (modulo s.q) x.0) ee
    ∙ add_embedded s x v p inside blank
    ∙ ap₂ (λ y j. set y j (v % s.q)) worked place
    ∙ ap (λ y. set (laid_over s.q base (take l ps) (take l lanes)) (slice_index ps l) (y % s.q)) ev
    ∙ sym (laid_next s.q base ps lanes l apart in_p in-l)
    ∙ ap (λ j. laid_over s.q base (take j ps) (take j lanes)) up
