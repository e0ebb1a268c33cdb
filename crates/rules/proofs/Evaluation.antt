-- Plain evaluation of a list that is taken: it satisfies every gate's rule, alone, and the values have its lanes.
use Rattle.std.proofs.Common.{◌≡◌, ℕ, zero, suc, ◌+◌, ◌-◌, ◌*◌, ◌%◌, ◌<◌, true, false, List, [], ◌∷◌, map, length, get_or, set, Ok, sym, refl, ap, ◌∙◌, subst, ap₂, inl, inr, mod-lt, arith, length-set}
use lib.ListN.{length-map}
use Rattle.std.proofs.lemmas.Bool.{cases_eq, eq-eqb, ne_eqb, lt-ltb}
use Rattle.algebra.specs.Quotient.{Shape, Element, modulo, add, negate, scale, zeros}
use Rattle.algebra.specs.Ring.{sub}
use Rattle.algebra.specs.Solver.{◌:=◌, nil, ◌:-◌}
use Rattle.algebra.proofs.Solver.{ring1}
use Rattle.ring.specs.Model.{ring, degree}
use Rattle.encoding.specs.Encodings.{Enc, Sound}
use Rattle.encoding.specs.Layouts.{positions, read_at}
use Rattle.encoding.specs.declared.layout.Layout.{Layout}
use Rattle.encoding.specs.declared.layout.Layout.TheVariants.{Plain}
use Rattle.encoding.specs.Product.{length_add, zeros_at}
use Rattle.encoding.specs.Sound.{pos}
use Rattle.circuit.specs.Gates.{setting, layout_at}
use Rattle.circuit.specs.Kinds.{Gate, In, Add, Sub, Scale, Offset, Place, Mul, Out, gate_at}
use Rattle.circuit.specs.Lists.{list_checked}
use Rattle.circuit.specs.Wellformed.{Fits}
use Rattle.circuit.proofs.Wellformed.{taken_lists_fit}
use Rattle.rules.specs.Clear.{clear_gate, clear_before, clear}
use Rattle.rules.specs.Elements.{value, number_at, picked, known}
use Rattle.rules.specs.Plain.{Feed, lanes_of, plain_before, plain, Evaluates}
use Rattle.rules.specs.Rules.{gate_by_gate}
use Rattle.rules.specs.Theorems.{feed, Plainly, EvaluationIsPlain, KeptAdds}
use Rattle.rules.proofs.Lanes.{Low, low_element, sums, negatives, multiples, offsets, moves, products_read, products_kept, kept_adds}

-- once worked out, what a gate has stays
pub stays : {A : Type 0} (nothing : A) (rule : ℕ → (ℕ → A) → A) (n a : ℕ) → a < n → gate_by_gate nothing rule n a ≡ rule a (gate_by_gate nothing rule a)
stays nothing rule zero a h = let z : ⊥ = omega arith in absurd z
stays nothing rule (suc n) a h = elim (cases_eq a n) [
  | inl same ↦
      ap (λ b. elim b [ true ↦ rule n (gate_by_gate nothing rule n) | false ↦ gate_by_gate nothing rule n a ]) (eq-eqb a n same)
      ∙ ap (λ k. rule k (gate_by_gate nothing rule k)) (sym same)
  | inr other ↦
      let less : a < n = omega arith in
      ap (λ b. elim b [ true ↦ rule n (gate_by_gate nothing rule n) | false ↦ gate_by_gate nothing rule n a ]) (ne_eqb a n other) ∙ stays nothing rule n a less
]

-- what holds of a number if it holds of all below it holds of every number
strong : (Q : ℕ → Type 0) → ((g : ℕ) → ((a : ℕ) → a < g → Q a) → Q g) → (n g : ℕ) → g < n → Q g
strong Q step zero g h = let z : ⊥ = omega arith in absurd z
strong Q step (suc n) g h = step g (λ a less. let b : a < n = omega arith in strong Q step n a b)

-- an element, the lanes it has in a layout, one for each position and each below q
pub record Good (s : Shape) (layout : Layout) (x : Element s) (lanes : List ℕ) : Type 0 where
  pub is : x ≡ value s layout lanes
  pub many : length lanes ≡ length (positions layout (length s.h))
  pub low : Low s.q lanes

good_in : {s : Shape} {l m : Layout} {x : Element s} {lanes : List ℕ} → l ≡ m → Good s l x lanes → Good s m x lanes
good_in {s} {l} {m} {x} {lanes} e g = record {
  is = g.is ∙ ap (λ k. value s k lanes) e;
  many = g.many ∙ ap (λ k. length (positions k (length s.h))) e;
  low = g.low;
}

good_at : {s : Shape} {l : Layout} {x y : Element s} {a b : List ℕ} → x ≡ y → a ≡ b → Good s l x a → Good s l y b
good_at {s} {l} {x} {y} {a} {b} ex ea g = record {
  is = sym ex ∙ g.is ∙ ap (value s l) ea;
  many = ap length (sym ea) ∙ g.many;
  low = subst (Low s.q) ea g.low;
}

-- a gate's rule looks at its operands alone
local : (F : Feed) (l : Layout) (v w : ℕ → List ℕ) (gate : Gate) (S : _) (codes : List ℕ) (layouts : List Layout) (g : ℕ) → Fits S codes layouts g l gate → ((a : ℕ) → a < g → v a ≡ w a) → lanes_of F l v gate ≡ lanes_of F l w gate
local F l v w (In m i) S codes layouts g f same = refl
local F l v w (Add a b) S codes layouts g f same = ap₂ (add (modulo F.shape.q)) (same a f.0.earlier) (same b f.1.earlier)
local F l v w (Sub a b) S codes layouts g f same = ap₂ (λ x y. add (modulo F.shape.q) x (negate (modulo F.shape.q) y)) (same a f.0.earlier) (same b f.1.earlier)
local F l v w (Scale a c) S codes layouts g f same = ap (scale (modulo F.shape.q) (F.constant c)) (same a f.0.earlier)
local F l v w (Offset a c) S codes layouts g f same = ap (map (λ x. (x + F.constant c) % F.shape.q)) (same a f.0.earlier)
local F l v w (Place m a k) S codes layouts g f same = ap (λ x. set (zeros (modulo F.shape.q) (positions l (degree F.shape))) k (get_or x 0 0)) (same a f.0.earlier)
local F l v w (Mul m a b) S codes layouts g f same = ap₂ ((F.method m).sub F.shape.q) (same a f.1.earlier) (same b f.2.earlier)
local F l v w (Out a) S codes layouts g f same = same a f.earlier

low_read : (s : Shape) (ps : List ℕ) (x : Element s) → Low s.q (read_at ps x.0)
low_read s [] x k = pos s
low_read s (p ∷ ps) x zero = low_element s x p
low_read s (p ∷ ps) x (suc k) = low_read s ps x k

-- lists of remainders
low_map : (q : ℕ) → 0 < q → (f : ℕ → ℕ) (xs : List ℕ) → Low q (map (λ x. f x % q) xs)
low_map q some f [] k = some
low_map q some f (x ∷ xs) zero = mod-lt (f x) some
low_map q some f (x ∷ xs) (suc k) = low_map q some f xs k

low_add : (q : ℕ) → 0 < q → (a b : List ℕ) → Low q (add (modulo q) a b)
low_add q some [] b k = some
low_add q some (x ∷ a) [] k = some
low_add q some (x ∷ a) (y ∷ b) zero = mod-lt (x + y) some
low_add q some (x ∷ a) (y ∷ b) (suc k) = low_add q some a b k

low_set : (q : ℕ) (xs : List ℕ) (k v : ℕ) → Low q xs → v < q → Low q (set xs k v)
low_set q [] k v low less i = low i
low_set q (x ∷ xs) zero v low less zero = less
low_set q (x ∷ xs) zero v low less (suc i) = low (suc i)
low_set q (x ∷ xs) (suc k) v low less zero = low 0
low_set q (x ∷ xs) (suc k) v low less (suc i) = low_set q xs k v (λ j. low (suc j)) less i

single : (xs : List ℕ) → length xs ≡ 1 → xs ≡ get_or xs 0 0 ∷ []
single [] e = let z : ⊥ = omega arith in absurd z
single (x ∷ []) e = refl
single (x ∷ y ∷ xs) e = let z : ⊥ = omega arith in absurd z

module _ (s : Shape) (method : ℕ → Enc) (sound : (m : ℕ) → m < 3 → Sound (method m)) (constants : List ℕ) (input : ℕ → Element s) where
  abbrev F : Feed
  F = feed s method constants input

  -- a method's number that is one
  pick_is : (m : ℕ) → m < 3 → (z : Element s) → (known s method constants).pick m z ≡ picked s (method m) z
  pick_is m h z = ap (λ b. elim b [ true ↦ picked s (method m) z | false ↦ (ring s).𝟎 ]) (lt-ltb m 3 h)

  -- a gate's rule on values gives the value of its rule on lanes
  gate_good : (inputs : ℕ) (codes : List ℕ) (layouts : List Layout) (g : ℕ) (l : Layout) (e : ℕ → Element s) (v : ℕ → List ℕ) (gate : Gate)
      → Fits (setting (degree s) inputs (length constants) method) codes layouts g l gate
      → ((a : ℕ) → a < g → Good s (layout_at layouts a) (e a) (v a))
      → Good s l (clear_gate s method constants input l e gate) (lanes_of (feed s method constants input) l v gate)
  gate_good inputs codes layouts g l e v (In m i) f good = record {
    is = refl;
    many = length-map (positions l (degree s)) (λ p. get_or (input i).0 p 0);
    low = low_read s (positions l (degree s)) (input i);
  }
  gate_good inputs codes layouts g l e v (Add a b) f good =
      let x = good_in f.0.laid_so (good a f.0.earlier) in
      let y = good_in f.1.laid_so (good b f.1.earlier) in
      record {
        is = ap₂ (ring s).◌⊕◌ x.is y.is ∙ sums s l (v a) x.many (v b) y.many;
        many = length_add s.q (pos s) (v a) (v b) (x.many ∙ sym y.many) ∙ x.many;
        low = low_add s.q (pos s) (v a) (v b);
      }
  gate_good inputs codes layouts g l e v (Sub a b) f good =
      let x = good_in f.0.laid_so (good a f.0.earlier) in
      let y = good_in f.1.laid_so (good b f.1.earlier) in
      let less = negate (modulo s.q) (v b) in
      let many : length less ≡ length (positions l (length s.h)) = length-map (v b) (λ x. (s.q - x) % s.q) ∙ y.many in
      record {
        is =
            ap₂ (ring s).◌⊕◌ x.is (ap (ring s).neg y.is ∙ negatives s l (v b) y.many y.low)
            ∙ sums s l (v a) x.many less many;
        many = length_add s.q (pos s) (v a) less (x.many ∙ sym many) ∙ x.many;
        low = low_add s.q (pos s) (v a) less;
      }
  gate_good inputs codes layouts g l e v (Scale a c) f good =
      let x = good_in f.0.laid_so (good a f.0.earlier) in
      record {
        is = ap (λ y. (ring s).◌⊗◌ y (number_at s (get_or constants c 0) 0)) x.is ∙ multiples s l (v a) x.many (get_or constants c 0);
        many = length-map (v a) (λ y. (get_or constants c 0 * y) % s.q) ∙ x.many;
        low = low_map s.q (pos s) (λ y. get_or constants c 0 * y) (v a);
      }
  gate_good inputs codes layouts g l e v (Offset a c) f good =
      let x = good_in f.0.laid_so (good a f.0.earlier) in
      record {
        is = ap (λ y. (ring s).◌⊕◌ y ((known s method constants).offset l c)) x.is ∙ offsets s l (v a) x.many (get_or constants c 0);
        many = length-map (v a) (λ y. (y + get_or constants c 0) % s.q) ∙ x.many;
        low = low_map s.q (pos s) (λ y. y + get_or constants c 0) (v a);
      }
  gate_good inputs codes layouts g l e v (Place m a k) f good =
      let x = good_in f.0.laid_so (good a f.0.earlier) in
      let w = get_or (v a) 0 0 in
      let blank = zeros (modulo s.q) (positions l (degree s)) in
      let inside : k < length (positions l (degree s)) = subst (λ n. k < length (positions n (degree s))) f.2 f.1 in
      record {
        is =
            ap (λ y. (ring s).◌⊗◌ y ((known s method constants).move m k)) (x.is ∙ ap (value s Plain) (single (v a) x.many))
            ∙ ap (λ n. (ring s).◌⊗◌ (value s Plain (w ∷ [])) ((known s method constants).move n k)) f.2
            ∙ moves s l w k inside;
        many = length-set blank k w ∙ length-map (positions l (degree s)) (λ x. 0);
        low = low_set s.q blank k w (λ i. subst (λ z. z < s.q) (sym (zeros_at s.q (positions l (degree s)) i)) (pos s)) (x.low 0);
      }
  gate_good inputs codes layouts g l e v (Mul m a b) f good =
      let x = good_in f.1.laid_so (good a f.1.earlier) in
      let y = good_in f.2.laid_so (good b f.2.earlier) in
      let E = method m in
      let law = sound m f.0 in
      let z = (ring s).◌⊗◌ (value s E.left (v a)) (value s E.right (v b)) in
      let reads : read_at (E.read (degree s)) z.0 ≡ E.sub s.q (v a) (v b) = products_read s E law (v a) (v b) x.many y.many in
      let kept : picked s E ((ring s).◌⊗◌ (e a) (e b)) ≡ value s E.out (E.sub s.q (v a) (v b)) =
      ap (picked s E) (ap₂ (ring s).◌⊗◌ x.is y.is) ∙ products_kept s E law (v a) (v b) x.many y.many in
      good_in f.3 (record {
        is =
            (ring s).add_zero ((known s method constants).pick m (sub (ring s) ((ring s).◌⊗◌ (e a) (e b)) (ring s).𝟎))
            ∙ pick_is m f.0 (sub (ring s) ((ring s).◌⊗◌ (e a) (e b)) (ring s).𝟎)
            ∙ ap (picked s E) (ring1 (ring s) (λ z. z :- nil := z) ((ring s).◌⊗◌ (e a) (e b)) refl)
            ∙ kept;
        many = ap length (sym reads) ∙ length-map (E.read (degree s)) (λ p. get_or z.0 p 0) ∙ law.one_each (degree s) s.some;
        low = subst (Low s.q) reads (low_read s (E.read (degree s)) z);
      })
  gate_good inputs codes layouts g l e v (Out a) f good = good_in f.laid_so (good a f.earlier)

  module _ (inputs : ℕ) (codes : List ℕ) (layouts : List Layout) (taken : list_checked (setting (degree s) inputs (length constants) method) codes ≡ Ok layouts) where
    fits : (g : ℕ) → g < length codes → Fits (setting (degree s) inputs (length constants) method) codes layouts g (layout_at layouts g) (gate_at codes g)
    fits = (taken_lists_fit (setting (degree s) inputs (length constants) method) codes layouts taken).1

    abbrev V : ℕ → List ℕ
    V = plain F codes layouts

    abbrev X : ℕ → Element s
    X = clear s method constants input codes layouts

    abbrev lane_rule : ℕ → (ℕ → List ℕ) → List ℕ
    lane_rule g v = lanes_of F (layout_at layouts g) v (gate_at codes g)

    abbrev value_rule : ℕ → (ℕ → Element s) → Element s
    value_rule g e = clear_gate s method constants input (layout_at layouts g) e (gate_at codes g)

    lanes_are : Evaluates F codes layouts V
    lanes_are g h =
        stays [] lane_rule (length codes) g h
        ∙ local F (layout_at layouts g) (plain_before F codes layouts g) V (gate_at codes g) _ codes layouts g (fits g h)
        (λ a less. let b : a < length codes = omega arith in stays [] lane_rule g a less ∙ sym (stays [] lane_rule (length codes) a b))

    lanes_only : (v : ℕ → List ℕ) → Evaluates F codes layouts v → (g : ℕ) → g < length codes → v g ≡ V g
    lanes_only v holds g h =
        strong (λ g. g < length codes → v g ≡ V g)
        (λ g before h.
        holds g h
        ∙ local F (layout_at layouts g) v V (gate_at codes g) _ codes layouts g (fits g h) (λ a less. let b : a < length codes = omega arith in before a less b)
        ∙ sym (lanes_are g h))
        (length codes) g h h

    values_good : (g : ℕ) → g < length codes → Good s (layout_at layouts g) (X g) (V g)
    values_good g h =
        strong (λ g. g < length codes → Good s (layout_at layouts g) (X g) (V g))
        (λ g before h.
        good_at (sym (stays (ring s).𝟎 value_rule (length codes) g h)) (sym (lanes_are g h))
        (gate_good inputs codes layouts g (layout_at layouts g) (clear_before s method constants input codes layouts g) V (gate_at codes g) (fits g h)
        (λ a less.
        let b : a < length codes = omega arith in
        good_at (stays (ring s).𝟎 value_rule (length codes) a b ∙ sym (stays (ring s).𝟎 value_rule g a less)) refl (before a less b))))
        (length codes) g h h

    pub evaluated : Plainly s method constants input codes layouts
    evaluated = record {
      holds = lanes_are;
      only = lanes_only;
      one_each = λ g h. (values_good g h).many;
      below = λ g h. (values_good g h).low;
      valued = λ g h. (values_good g h).is;
    }

pub evaluation_is_plain : (method : ℕ → Enc) → ((m : ℕ) → m < 3 → Sound (method m)) → (s : Shape) → EvaluationIsPlain method s
evaluation_is_plain method sound s constants inputs input codes layouts taken = evaluated s method sound constants input inputs codes layouts taken

-- the three methods
pub methods_sound : (method : ℕ → Enc) (a b c : Enc) → method 0 ≡ a → method 1 ≡ b → method 2 ≡ c → Sound a → Sound b → Sound c → (m : ℕ) → m < 3 → Sound (method m)
methods_sound method a b c ea eb ec sa sb sc zero h = subst Sound (sym ea) sa
methods_sound method a b c ea eb ec sa sb sc (suc zero) h = subst Sound (sym eb) sb
methods_sound method a b c ea eb ec sa sb sc (suc (suc zero)) h = subst Sound (sym ec) sc
methods_sound method a b c ea eb ec sa sb sc (suc (suc (suc m))) h = let z : ⊥ = omega arith in absurd z

pub what_is_kept_adds : (method : ℕ → Enc) → ((m : ℕ) → m < 3 → Sound (method m)) → (s : Shape) → KeptAdds method s
what_is_kept_adds method sound s constants m h x y =
    let zero = λ (i : ℕ). (ring s).𝟎 in
    pick_is s method sound constants zero m h ((ring s).◌⊕◌ x y)
    ∙ kept_adds s (method m) (sound m h) x y
    ∙ sym (ap₂ (ring s).◌⊕◌ (pick_is s method sound constants zero m h x) (pick_is s method sound constants zero m h y))
