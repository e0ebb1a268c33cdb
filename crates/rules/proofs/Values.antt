-- Values of lanes, computed with: what the operations of the ring do to the lanes.
use Rattle.std.proofs.Common.{◌≡◌, ℕ, zero, suc, ◌%◌, ◌<◌, ◌≤◌, List, [], ◌∷◌, length, get_or, set, refl, ap, ◌∙◌, ap₂, arith}
use lib.ListN.{length-map}
use Rattle.std.specs.List.{range_with_len}
use Rattle.std.proofs.lemmas.List.FromFn.{length-range_with_len}
use Rattle.std.proofs.lemmas.List.Sums.{length-filter, count_by-le-length}
use Rattle.algebra.specs.Quotient.{Shape, Element, modulo, zeros}
use Rattle.algebra.proofs.Quotient.{same_element}
use Rattle.curve.specs.Curve.{listed}
use Rattle.ring.specs.Model.{degree}
use Rattle.encoding.specs.Encodings.{laid}
use Rattle.encoding.specs.Layouts.{half, no_two, positions, laid_over, read_at}
use Rattle.encoding.specs.declared.layout.Layout.{Layout}
use Rattle.encoding.specs.declared.layout.Layout.TheVariants.{Plain, Lanes, Left, Right}
use Rattle.encoding.specs.Laying.{read_lane_is}
use Rattle.encoding.specs.Search.{length_back}
use Rattle.rules.specs.Elements.{value}

-- only as many lanes count as there are positions
pub laid_first : (q : ℕ) (base ps a b : List ℕ) → length ps ≤ length a → length ps ≤ length b → ((l : ℕ) → l < length ps → get_or a l 0 ≡ get_or b l 0) → laid_over q base ps a ≡ laid_over q base ps b
laid_first q base [] a b la lb e = refl
laid_first q base (p ∷ ps) [] b la lb e = let z : ⊥ = omega arith in absurd z
laid_first q base (p ∷ ps) (x ∷ a) [] la lb e = let z : ⊥ = omega arith in absurd z
laid_first q base (p ∷ ps) (x ∷ a) (y ∷ b) la lb e =
    ap₂ (λ l v. set l p (v % q))
    (laid_first q base ps a b (omega arith) (omega arith) (λ l h. let up : suc l < suc (length ps) = omega arith in e (suc l) up))
    (e 0 (omega arith))

-- no layout has more lanes than there are coordinates
pub few_lanes : (layout : Layout) (d : ℕ) → 1 ≤ d → length (positions layout d) ≤ d
few_lanes Plain d some = some
few_lanes Lanes d some =
    omega (arith, length-filter no_two (range_with_len 0 (half d)), count_by-le-length no_two (range_with_len 0 (half d)), length-range_with_len 0 (half d))
few_lanes Left d some = omega (arith, length-range_with_len 0 (half d))
few_lanes Right d some = omega (arith, length_back (half d))

pub value_by : (s : Shape) (layout : Layout) (x : Element s) (a b : List ℕ) → x.0 ≡ laid s layout a → length (positions layout (degree s)) ≤ length a → length (positions layout (degree s)) ≤ length b
    → ((l : ℕ) → l < length (positions layout (degree s)) → get_or a l 0 ≡ get_or b l 0) → x ≡ value s layout b
value_by s layout x a b e la lb same = same_element s x (value s layout b) (e ∙ laid_first s.q (zeros (modulo s.q) s.h) (positions layout (degree s)) a b la lb same)

-- what is read at a place, by the position there, the degree standing for none
pub read_lane : (ps x : List ℕ) (d lane p v : ℕ) → length x ≡ d → p ≡ get_or ps lane d → v ≡ get_or x p 0 → v ≡ get_or (read_at ps x) lane 0
read_lane ps x d lane p v long ep ev = ev ∙ ap (λ j. get_or x j 0) ep ∙ read_lane_is ps x d lane long

pub listed_at : (n : ℕ) (f : ℕ → ℕ) (l : ℕ) → l < n → get_or (listed n f) l 0 ≡ f l
listed_at zero f l h = let z : ⊥ = omega arith in absurd z
listed_at (suc n) f zero h = refl
listed_at (suc n) f (suc l) h = let k : l < n = omega arith in listed_at n (λ k. f (suc k)) l k

pub listed_length : (n : ℕ) (f : ℕ → ℕ) → length (listed n f) ≡ n
listed_length zero f = refl
listed_length (suc n) f = ap suc (listed_length n (λ k. f (suc k)))

-- sixteen lanes that were read, laid out in a layout that has one lane for each position read
pub read_value : (s : Shape) (layout : Layout) (ps : List ℕ) (x r : Element s) → degree s ≤ 16 → length ps ≡ length (positions layout (degree s))
    → r.0 ≡ laid s layout (listed 16 (λ l. get_or (read_at ps x.0) l 0)) → r ≡ value s layout (read_at ps x.0)
read_value s layout ps x r short many e =
    let reads = read_at ps x.0 in
    let f : ℕ → ℕ = λ l. get_or reads l 0 in
    let long : length reads ≡ length ps = length-map ps (λ p. get_or x.0 p 0) in
    let few : length (positions layout (degree s)) ≤ 16 = omega (arith, few_lanes layout (degree s) s.some) in
    value_by s layout r (listed 16 f) reads e few (omega arith) (λ l h. let low : l < 16 = omega arith in listed_at 16 f l low)
