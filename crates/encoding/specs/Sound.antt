-- The law of each encoding, for every modulus and every monic polynomial.
use Rattle.std.specs.Prelude.{◌≡◌, ℕ, zero, suc, pred, ◌+◌, ◌-◌, ◌*◌, ◌%◌, ◌<◌, ◌≤◌, true, List, [], ◌∷◌, map, reverse, length, All, get_or, ◌≢◌, slice_index, slice_index_or, refl}
use Rattle.std.proofs.Common.{sym, ap, ap₂, ◌∙◌, inl, inr, add-zero, zero-add, zero-mul, mul-zero, arith}
use Rattle.std.proofs.Math.Nat.{add-mod}
use Rattle.std.proofs.lemmas.Grind.{same_number_lists}
use Rattle.std.proofs.lemmas.List.{length-map, get_or-map, get_or_default}
use Rattle.std.proofs.lemmas.List.Elements.{All-nil, All-cons, All-head, All-tail, All-filter, All-from_get_or, filter_passes}
use Rattle.std.proofs.lemmas.List.Kept.{AllPairs-filter}
use Rattle.std.proofs.Math.ListN.{get_or-eq_default}
use Rattle.std.proofs.lemmas.List.FromFn.{length-range_with_len}
use Rattle.std.proofs.lemmas.Bool.{cases_lt}
use Rattle.std.specs.List.{range_with_len}
use Rattle.algebra.specs.Quotient.{Shape, modulo, zeros, product, AllBelow}
use Rattle.algebra.proofs.Quotient.{no_zero}
use Rattle.algebra.proofs.Modulo.{mod_mul_mod, mul_mod_mod}
use Rattle.encoding.specs.Encodings.{laid, Sound, plain_product, lane_products, lanes_product, dot, inner_product}
use Rattle.encoding.specs.Theorems.{LanesComeBack}
use Rattle.encoding.specs.Layouts.{half, no_two, positions, read_at}
use Rattle.encoding.specs.declared.layout.Layout.{Layout}
use Rattle.encoding.specs.declared.layout.Layout.TheVariants.{Plain, Lanes, Left, Right}
use Rattle.encoding.specs.Positions.{Apart, rising_apart, rising_counting, all_counting, length_laid, laid_at, laid_off, sought, double_of_one}
use Rattle.encoding.specs.Laying.{read_place, products_in}
use Rattle.encoding.specs.Search.{run_in, back_in, length_back}
use Rattle.encoding.specs.Product.{zeros_at, total, total_none, plain_at, Room, terms}

-- the positions of a layout differ, and each is below half of the degree
pub record Placed (d : ℕ) (ps : List ℕ) : Type 0 where
  pub apart : Apart ps
  pub low : All (λ p. p < half d) ps

pub placed : (layout : Layout) (d : ℕ) → 1 ≤ d → Placed d (positions layout d)
placed Plain d some = record { apart = λ i j hi hj e. omega arith; low = All-cons (λ p. p < half d) 0 [] (omega arith) (All-nil (λ p. p < half d)) }
placed Lanes d some = record {
  apart = rising_apart (positions Lanes d) (AllPairs-filter (λ x y. x < y) no_two (range_with_len 0 (half d)) (rising_counting 0 (half d)));
  low = All-filter no_two (λ p. p < half d) (range_with_len 0 (half d)) (all_counting 0 (half d) (half d) (omega arith));
}
placed Left d some = record { apart = rising_apart (range_with_len 0 (half d)) (rising_counting 0 (half d)); low = all_counting 0 (half d) (half d) (omega arith) }
placed Right d some =
    let n = half d in
    let long = length_back n in
    record {
      apart = λ i j hi hj e.
          let ki : i < n = omega arith in
          let kj : j < n = omega arith in
          let same : n - 1 - i ≡ n - 1 - j = back_in n i 0 ki ∙ e ∙ sym (back_in n j 0 kj) in
          omega arith;
      low = All-from_get_or (λ p. p < n) (reverse (range_with_len 0 n)) 0 (λ l h. let k : l < n = omega arith in let m = back_in n l 0 k in let b : n - 1 - l < n = omega arith in omega arith);
    }

lanes_low : (d l : ℕ) → l < length (positions Lanes d) → slice_index (positions Lanes d) l < half d
lanes_low d l h = All-filter no_two (λ p. p < half d) (range_with_len 0 (half d)) (all_counting 0 (half d) (half d) (omega arith)) l 0 h

-- where a lane of the result is read
pub doubled_low : (d lane p : ℕ) → p ≡ slice_index_or (positions Lanes d) lane d → p < d → 2 * p ≤ d
doubled_low d lane p e h = elim (cases_lt lane (length (positions Lanes d))) [
  | inl inside ↦
      let low = lanes_low d lane inside in
      let same : p ≡ get_or (positions Lanes d) lane 0 = e ∙ get_or_default (positions Lanes d) lane d 0 inside in
      let b : 2 * p ≤ d = omega arith in b
  | inr past ↦ let none : p ≡ d = e ∙ get_or-eq_default (positions Lanes d) d past in let z : ⊥ = omega arith in absurd z
]

pub doubled_out : (d lane p : ℕ) → p ≡ slice_index_or (positions Lanes d) lane d → d ≤ p → d ≡ slice_index_or (map (λ x. 2 * x) (positions Lanes d)) lane d
doubled_out d lane p e h = elim (cases_lt lane (length (positions Lanes d))) [
  | inl inside ↦
      let low = lanes_low d lane inside in
      let same : p ≡ get_or (positions Lanes d) lane 0 = e ∙ get_or_default (positions Lanes d) lane d 0 inside in
      let z : ⊥ = omega arith in absurd z
  | inr past ↦
      let far : length (map (λ x. 2 * x) (positions Lanes d)) ≤ lane = omega (arith, length-map (positions Lanes d) (λ x. 2 * x)) in
      sym (get_or-eq_default (map (λ x. 2 * x) (positions Lanes d)) d far)
]

pub position_low : (layout : Layout) (d : ℕ) → 1 ≤ d → (l : ℕ) → l < length (positions layout d) → slice_index (positions layout d) l < d
position_low layout d some l h =
    let low : get_or (positions layout d) l 0 < half d = (placed layout d some).low l 0 h in
    omega arith

lanes_test : (d l : ℕ) → l < length (positions Lanes d) → no_two (slice_index (positions Lanes d) l) ≡ true
lanes_test d l h = filter_passes no_two (range_with_len 0 (half d)) l 0 h

-- one term alone
pub total_one : (n : ℕ) (f : ℕ → ℕ) (k : ℕ) → k < n → ((i : ℕ) → i < n → (i ≢ k) → f i ≡ 0) → total n f ≡ f k
total_one zero f k h e = let z : ⊥ = omega arith in absurd z
total_one (suc n) f zero h e = ap (λ z. f 0 + z) (total_none n (λ i. f (suc i)) (λ i below. let k : suc i < suc n = omega arith in e (suc i) k (λ z. let w : ⊥ = omega arith in w))) ∙ add-zero (f 0)
total_one (suc n) f (suc k) h e =
    ap₂ (λ x y. x + y) (e 0 (omega arith) (λ z. let w : ⊥ = omega arith in w))
    (let b : k < n = omega arith in total_one n (λ i. f (suc i)) k b (λ i below other. let up : suc i < suc n = omega arith in e (suc i) up (λ s. let t : i ≡ k = omega arith in other t)))
    ∙ zero-add (f (suc k))

module _ (s : Shape) where
  pub pos : 0 < s.q
  pos = omega (arith, s.two)

  base_long : length (zeros (modulo s.q) s.h) ≡ length s.h
  base_long = length-map s.h (λ x. 0)

  module _ (layout : Layout) (lanes : List ℕ) where
    pub long : length (laid s layout lanes) ≡ length s.h
    long = length_laid s.q (zeros (modulo s.q) s.h) (positions layout (length s.h)) lanes ∙ base_long

    pub here : length lanes ≡ length (positions layout (length s.h)) → (l : ℕ) → l < length (positions layout (length s.h))
        → slice_index (laid s layout lanes) (slice_index (positions layout (length s.h)) l) ≡ slice_index lanes l % s.q
    here count =
        let p = placed layout (length s.h) s.some in
        let base = zeros (modulo s.q) s.h in
        laid_at s.q base (positions layout (length s.h)) lanes p.apart
        (All-from_get_or (λ x. x < length base) (positions layout (length s.h)) 0 (λ l h. let b : get_or (positions layout (length s.h)) l 0 < half (length s.h) = p.low l 0 h in omega (arith, base_long)))
        count

    pub off : (t : ℕ) → ((l : ℕ) → l < length (positions layout (length s.h)) → slice_index (positions layout (length s.h)) l ≢ t) → slice_index (laid s layout lanes) t ≡ 0
    off t none = laid_off s.q (zeros (modulo s.q) s.h) (positions layout (length s.h)) lanes t none ∙ zeros_at s.q s.h t

    high : (t : ℕ) → half (length s.h) ≤ t → slice_index (laid s layout lanes) t ≡ 0
    high t big = off t (λ l h e.
        let b : get_or (positions layout (length s.h)) l 0 < half (length s.h) = (placed layout (length s.h) s.some).low l 0 h in
        let z : ⊥ = omega arith in z)

  -- a value in one layout times a value in another: nothing is reduced
  plain_value : (left right : Layout) (a b : List ℕ) (k : ℕ) → k < length s.h
      → slice_index (product (modulo s.q) s.h (laid s left a) (laid s right b)) k ≡ total (suc k) (terms (laid s left a) (laid s right b) k) % s.q
  plain_value left right a b k inside =
      let n = pred (length s.h) in
      let whole : length s.h ≡ suc n = no_zero (length s.h) s.some in
      let room : Room (suc n) (laid s left a) (laid s right b) = λ i j reach.
      elim (cases_lt i (half (length s.h))) [
        | inl low ↦
            let up : half (length s.h) ≤ j = omega arith in
            ap (λ z. slice_index (laid s left a) i * z) (high right b j up) ∙ mul-zero (slice_index (laid s left a) i)
        | inr up ↦ ap (λ z. z * slice_index (laid s right b) j) (high left a i up) ∙ zero-mul (slice_index (laid s right b) j)
      ] in
      plain_at s.q pos s.h (laid s left a) (laid s right b) n whole (long right b) room k (omega arith)

reduced_product : (q x y : ℕ) → ((x % q) * (y % q)) % q ≡ (x * y) % q
reduced_product q x y = mod_mul_mod x (y % q) q ∙ mul_mod_mod x y q

pub plain_sound : Sound plain_product
plain_sound = record {
  below = λ d some. ((let k : 0 < d = omega arith in k), tt);
  one_each = λ d some. refl;
  law = λ s a b ca cb.
      let value = plain_value s Plain Plain a b 0 (omega (arith, s.some)) in
      ap (λ x. x ∷ [])
      (value
      ∙ ap (λ z. z % s.q) (add-zero (slice_index (laid s Plain a) 0 * slice_index (laid s Plain b) 0))
      ∙ ap₂ (λ x y. (x * y) % s.q) (here s Plain a ca 0 (omega arith)) (here s Plain b cb 0 (omega arith))
      ∙ reduced_product s.q (slice_index a 0) (slice_index b 0));
}

length_products : (q : ℕ) (a b : List ℕ) → length a ≡ length b → length (lane_products q a b) ≡ length a
length_products q [] b e = refl
length_products q (x ∷ a) [] e = let z : ⊥ = omega arith in absurd z
length_products q (x ∷ a) (y ∷ b) e = let k : length a ≡ length b = omega arith in ap suc (length_products q a b k)

pub lanes_come_back : LanesComeBack
lanes_come_back s layout lanes count =
    let ps = positions layout (length s.h) in
    let x = laid s layout lanes in
    let many : length (read_at ps x) ≡ length ps = length-map ps (λ p. slice_index x p) in
    same_number_lists (read_at ps x) (map (λ v. v % s.q) lanes) (omega (arith, length-map lanes (λ v. v % s.q)))
    (λ k h.
    let inside : k < length ps = omega arith in
    let under : k < length lanes = omega arith in
    read_place ps x k inside ∙ here s layout lanes count k inside ∙ sym (get_or-map (λ v. v % s.q) lanes k 0 0 under))

-- at the double of a lane's position only that lane meets itself
module _ (s : Shape) (a b : List ℕ) (ca : length a ≡ length (positions Lanes (length s.h))) (cb : length b ≡ length (positions Lanes (length s.h))) where
  abbrev ps : List ℕ
  ps = positions Lanes (length s.h)

  alone : (k : ℕ) → k < length (positions Lanes (length s.h)) → (i : ℕ) → i < suc (2 * slice_index (positions Lanes (length s.h)) k) → (i ≢ slice_index (positions Lanes (length s.h)) k)
      → terms (laid s Lanes a) (laid s Lanes b) (2 * slice_index (positions Lanes (length s.h)) k) i ≡ 0
  alone k inside i below other =
      let p = get_or (positions Lanes (length s.h)) k 0 in
      elim (sought (positions Lanes (length s.h)) i) [
        | inl one ↦ elim (sought (positions Lanes (length s.h)) (2 * p - i)) [
          | inl two ↦
              let sum : get_or (positions Lanes (length s.h)) one.0 0 + slice_index (positions Lanes (length s.h)) two.0 ≡ 2 * p = omega (arith, one.2, two.2) in
              let same = double_of_one _ _ p (lanes_test (length s.h) one.0 one.1) (lanes_test (length s.h) two.0 two.1) (lanes_test (length s.h) k inside) sum in
              absurd (other (sym one.2 ∙ same))
          | inr none ↦ ap (λ z. slice_index (laid s Lanes a) i * z) (off s Lanes b (2 * p - i) none) ∙ mul-zero (slice_index (laid s Lanes a) i)
        ]
        | inr none ↦ ap (λ z. z * slice_index (laid s Lanes b) (2 * p - i)) (off s Lanes a i none) ∙ zero-mul (slice_index (laid s Lanes b) (2 * p - i))
      ]

  lane_law : (k : ℕ) → k < length (positions Lanes (length s.h))
      → slice_index (product (modulo s.q) s.h (laid s Lanes a) (laid s Lanes b)) (2 * slice_index (positions Lanes (length s.h)) k) ≡ (slice_index a k * slice_index b k) % s.q
  lane_law k inside =
      let p = get_or (positions Lanes (length s.h)) k 0 in
      let low : p < half (length s.h) = (placed Lanes (length s.h) s.some).low k 0 inside in
      let back : 2 * p - p ≡ p = omega arith in
      plain_value s Lanes Lanes a b (2 * p) (omega arith)
      ∙ ap (λ z. z % s.q)
      (total_one (suc (2 * p)) (terms (laid s Lanes a) (laid s Lanes b) (2 * p)) p (omega arith) (alone k inside)
      ∙ ap (λ m. slice_index (laid s Lanes a) p * slice_index (laid s Lanes b) m) back
      ∙ ap₂ (λ x y. x * y) (here s Lanes a ca k inside) (here s Lanes b cb k inside))
      ∙ reduced_product s.q (slice_index a k) (slice_index b k)

pub lanes_sound : Sound lanes_product
lanes_sound = record {
  below = λ d some. below_list d (positions Lanes d) (placed Lanes d some).low;
  one_each = λ d some. length-map (positions Lanes d) (λ p. 2 * p);
  law = λ s a b ca cb.
      let d = length s.h in
      let ps = positions Lanes d in
      let reads = map (λ p. 2 * p) ps in
      let x = product (modulo s.q) s.h (laid s Lanes a) (laid s Lanes b) in
      let many : length (read_at reads x) ≡ length ps = length-map reads (λ p. slice_index x p) ∙ length-map ps (λ p. 2 * p) in
      same_number_lists (read_at reads x) (lane_products s.q a b) (omega (arith, length_products s.q a b (ca ∙ sym cb)))
      (λ k h.
      let inside : k < length ps = omega arith in
      let reach : k < length reads = omega (arith, length-map ps (λ p. 2 * p)) in
      let in-a : k < length a = omega arith in
      let in_b : k < length b = omega arith in
      read_place reads x k reach ∙ ap (λ p. slice_index x p) (get_or-map (λ p. 2 * p) ps k 0 0 inside) ∙ lane_law s a b ca cb k inside ∙ sym (products_in s.q a b k in-a in_b));
}
  where
    below_list : (d : ℕ) (ps : List ℕ) → All (λ p. p < half d) ps → AllBelow d (map (λ p. 2 * p) ps)
    below_list d [] low = tt
    below_list d (p ∷ ps) low = ((let k : 2 * p < d = omega (arith, All-head (λ x. x < half d) p ps low) in k), below_list d ps (All-tail (λ x. x < half d) p ps low))

-- the sum of the lanes' products, term by term
dot_is : (a b : List ℕ) → length a ≡ length b → dot a b ≡ total (length a) (λ i. slice_index a i * slice_index b i)
dot_is [] b e = refl
dot_is (x ∷ a) [] e = let z : ⊥ = omega arith in absurd z
dot_is (x ∷ a) (y ∷ b) e = let k : length a ≡ length b = omega arith in ap (λ z. x * y + z) (dot_is a b k)

total_mod : (q n : ℕ) (f g : ℕ → ℕ) → ((i : ℕ) → i < n → f i % q ≡ g i % q) → total n f % q ≡ total n g % q
total_mod q zero f g e = refl
total_mod q (suc n) f g e =
    add-mod (f 0) (total n (λ i. f (suc i))) q
    ∙ ap₂ (λ x y. (x + y) % q) (e 0 (omega arith)) (total_mod q n (λ i. f (suc i)) (λ i. g (suc i)) (λ i h. let k : suc i < suc n = omega arith in e (suc i) k))
    ∙ sym (add-mod (g 0) (total n (λ i. g (suc i))) q)

pub inner_sound : Sound inner_product
inner_sound = record {
  below = λ d some. ((let k : half d - 1 < d = omega arith in k), tt);
  one_each = λ d some. refl;
  law = λ s a b ca cb. ap (λ x. x ∷ []) (inner_law s a b ca cb);
}
  where
    inner_law : (s : Shape) (a b : List ℕ) → length a ≡ length (positions Left (length s.h)) → length b ≡ length (positions Right (length s.h))
        → slice_index (product (modulo s.q) s.h (laid s Left a) (laid s Right b)) (half (length s.h) - 1) ≡ dot a b % s.q
    inner_law s a b ca cb =
        let n = half (length s.h) in
        let some : 1 ≤ length s.h = s.some in
        let whole : suc (n - 1) ≡ n = omega arith in
        let la : length a ≡ n = ca ∙ length-range_with_len 0 n in
        let lb : length b ≡ n = cb ∙ length_back n in
        plain_value s Left Right a b (n - 1) (omega arith)
        ∙ ap (λ m. total m (terms (laid s Left a) (laid s Right b) (n - 1)) % s.q) whole
        ∙ total_mod s.q n (terms (laid s Left a) (laid s Right b) (n - 1)) (λ i. slice_index a i * slice_index b i)
        (λ i h.
        let li : i < length (range_with_len 0 n) = omega (arith, length-range_with_len 0 n) in
        let ri : i < length (reverse (range_with_len 0 n)) = omega (arith, length_back n) in
        let at_a : get_or (laid s Left a) i 0 ≡ slice_index a i % s.q = ap (λ p. slice_index (laid s Left a) p) (run_in n i 0 h) ∙ here s Left a ca i li in
        let at_b : get_or (laid s Right b) (n - 1 - i) 0 ≡ slice_index b i % s.q = ap (λ p. slice_index (laid s Right b) p) (back_in n i 0 h) ∙ here s Right b cb i ri in
        ap₂ (λ x y. (x * y) % s.q) at_a at_b ∙ reduced_product s.q (slice_index a i) (slice_index b i))
        ∙ ap (λ m. m % s.q) (sym (dot_is a b (la ∙ sym lb) ∙ ap (λ m. total m (λ i. slice_index a i * slice_index b i)) la))
