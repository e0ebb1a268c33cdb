-- Work tables hold the entries of the rules: what is worked out gate by gate, from one opening to the next.
use Rattle.std.proofs.Common.{◌≡◌, ℕ, zero, suc, ◌+◌, ◌-◌, ◌<◌, ◌≤◌, Bool, true, false, eqb, List, [], ◌∷◌, map, length, get_or, set, replicate, sym, refl, ap, ◌∙◌, subst, ap₂, inl, inr, arith}
use lib.Dec.{eqb-suc-zero, eqb-zero-suc, eqb-suc-suc}
use lib.ListN.{length-map}
use Rattle.std.proofs.lemmas.List.{get_or-map, get_or_past}
use Rattle.std.proofs.lemmas.Bool.{cases_lt, ne_eqb}
use Rattle.algebra.specs.Ring.{CommRing, sub}
use Rattle.curve.specs.Curve.{listed}
use Rattle.encoding.specs.declared.layout.Layout.{Layout}
use Rattle.circuit.specs.Gates.{layout_at}
use Rattle.circuit.specs.Kinds.{Gate, In, Add, Sub, Scale, Offset, Place, Mul, Out, gate_at}
use Rattle.circuit.specs.Openings.{product_count, products, outputs, opening_by, openings_of, gate_opened}
use Rattle.circuit.specs.declared.openings.Opening.{Opening}
use Rattle.circuit.specs.declared.openings.Opening.TheVariants.{Product, Output}
use Rattle.rules.specs.Elements.{parts}
use Rattle.rules.specs.Rules.{Parts, Known, word, after, entry, asked, openings}
use Rattle.protocol.specs.Gates.{Opened, opening_at}
use Rattle.protocol.proofs.Gates.{rises, openings_rise, openings_numbered}
use Rattle.node.specs.Work.{stage, part_of, worked, settled, kept, shown}

module _ {E : Type 0} where
  pub listed_at : (n : ℕ) (f : ℕ → E) (a : ℕ) (d : E) → a < n → get_or (listed n f) a d ≡ f a
  listed_at zero f a d h = let z : ⊥ = omega arith in absurd z
  listed_at (suc n) f zero d h = refl
  listed_at (suc n) f (suc a) d h = let k : a < n = omega arith in listed_at n (λ k. f (suc k)) a d k

  pub listed_length : (n : ℕ) (f : ℕ → E) → length (listed n f) ≡ n
  listed_length zero f = refl
  listed_length (suc n) f = ap suc (listed_length n (λ k. f (suc k)))

  listed_same : (n : ℕ) (f g : ℕ → E) → ((a : ℕ) → f a ≡ g a) → listed n f ≡ listed n g
  listed_same n f g same = ap (listed n) (λ i a. same a i)

  listed_replicate : (n : ℕ) (x : E) → replicate n x ≡ listed n (λ _. x)
  listed_replicate zero x = refl
  listed_replicate (suc n) x = ap (λ l. x ∷ l) (listed_replicate n x)

  listed_set : (n : ℕ) (f : ℕ → E) (g : ℕ) (v : E) → set (listed n f) g v ≡ listed n (λ a. elim (eqb a g) [ true ↦ v | false ↦ f a ])
  listed_set zero f g v = refl
  listed_set (suc n) f zero v = ap (λ l. v ∷ l) (listed_same n _ _ (λ a. ap (λ (b : Bool). elim b [ true ↦ v | false ↦ f (suc a) ]) (sym (eqb-suc-zero a))))
  listed_set (suc n) f (suc g) v =
      ap₂ (λ x l. x ∷ l) (ap (λ (b : Bool). elim b [ true ↦ v | false ↦ f 0 ]) (sym (eqb-zero-suc g)))
      (listed_set n (λ k. f (suc k)) g v
      ∙ listed_same n _ _ (λ a. ap (λ (b : Bool). elim b [ true ↦ v | false ↦ f (suc a) ]) (sym (eqb-suc-suc a g))))

-- The gates of openings: which comes before which.
module _ (codes : List ℕ) where
  pub stage_is : (k : ℕ) → k < length (openings_of codes) → stage codes k ≡ gate_opened (opening_at codes k)
  stage_is k less = get_or-map gate_opened (openings_of codes) k (Output 0 0) (length codes) less

  stage_end : (k : ℕ) → length (openings_of codes) ≤ k → stage codes k ≡ length codes
  stage_end k past = get_or_past (map gate_opened (openings_of codes)) k (length codes) (omega (arith, length-map (openings_of codes) gate_opened))

  pub stage_number : (k : ℕ) → k ≤ length (openings_of codes) → openings codes (stage codes k) ≡ k
  stage_number k le = elim (cases_lt k (length (openings_of codes))) [
    | inl less ↦ ap (openings codes) (stage_is k less) ∙ ((openings_numbered codes).each k less).number
    | inr past ↦ let same : k ≡ length (openings_of codes) = omega arith in ap (openings codes) (stage_end k past) ∙ sym (openings_numbered codes).all ∙ sym same
  ]

  pub stage_low : (k : ℕ) → stage codes k ≤ length codes
  stage_low k = elim (cases_lt k (length (openings_of codes))) [
    | inl less ↦ omega (arith, stage_is k less, ((openings_numbered codes).each k less).below)
    | inr past ↦ omega (arith, stage_end k past)
  ]

  pub stage_below : (k : ℕ) → k < length (openings_of codes) → stage codes k < length codes
  stage_below k less = omega (arith, stage_is k less, ((openings_numbered codes).each k less).below)

  stage_rises : (k : ℕ) → k < length (openings_of codes) → stage codes k < stage codes (suc k)
  stage_rises k less = elim (cases_lt (stage codes k) (stage codes (suc k))) [
    | inl up ↦ up
    | inr down ↦
        let z : ⊥ = omega (arith, rises (openings codes) (λ g. omega arith) (stage codes k) (stage codes (suc k)) down, stage_number k (omega arith), stage_number (suc k) (omega arith)) in
        absurd z
  ]

  -- no gate before the first opening's is opened, and none between two openings that follow each other
  none_first : (g : ℕ) → g < stage codes 0 → Opened (gate_at codes g) → ⊥
  none_first g less o = omega (arith, openings_rise codes (stage codes 0) g less o, stage_number 0 (omega arith))

  none_between : (k g : ℕ) → k < length (openings_of codes) → stage codes k < g → g < stage codes (suc k) → Opened (gate_at codes g) → ⊥
  none_between k g less low high o =
      let here : Opened (gate_at codes (stage codes k)) = subst (λ h. Opened (gate_at codes h)) (sym (stage_is k less)) ((openings_numbered codes).each k less).opened in
      omega (
        arith,
        openings_rise codes (stage codes (suc k)) g high o,
        openings_rise codes (suc (stage codes k)) (stage codes k) (omega arith) here,
        rises (openings codes) (λ g. omega arith) g (suc (stage codes k)) low,
        stage_number k (omega arith),
        stage_number (suc k) (omega arith),
      )

product_opened : (gate : Gate) → 1 ≤ product_count gate → Opened gate
product_opened (In l i) one = let z : ⊥ = omega arith in absurd z
product_opened (Add a b) one = let z : ⊥ = omega arith in absurd z
product_opened (Sub a b) one = let z : ⊥ = omega arith in absurd z
product_opened (Scale a c) one = let z : ⊥ = omega arith in absurd z
product_opened (Offset a c) one = let z : ⊥ = omega arith in absurd z
product_opened (Place l a k) one = let z : ⊥ = omega arith in absurd z
product_opened (Mul m a b) one = tt
product_opened (Out a) one = let z : ⊥ = omega arith in absurd z

-- the pair of a product's opening is the one of its number
part_is : {E : Type 0} (none : E) (all : List E) (o : Opening) (g j n : ℕ) (gate : Gate) → opening_by g j n gate ≡ o ∷ [] → 1 ≤ product_count gate → part_of none all o ≡ get_or all j none
part_is none all o g j n (In l i) is one = let z : ⊥ = omega arith in absurd z
part_is none all o g j n (Add a b) is one = let z : ⊥ = omega arith in absurd z
part_is none all o g j n (Sub a b) is one = let z : ⊥ = omega arith in absurd z
part_is none all o g j n (Scale a c) is one = let z : ⊥ = omega arith in absurd z
part_is none all o g j n (Offset a c) is one = let z : ⊥ = omega arith in absurd z
part_is none all o g j n (Place l a k) is one = let z : ⊥ = omega arith in absurd z
part_is none all o g j n (Mul m a b) is one = let e : Product g j ≡ o = cc in ap (part_of none all) (sym e)
part_is none all o g j n (Out a) is one = let z : ⊥ = omega arith in absurd z

module _ {E : Type 0} (R : CommRing E) (C : Known E) (P : Parts E) where
  after_is : (j : ℕ) (f : ℕ → E) (layout : Layout) (v w y : E) (gate : Gate) → (Opened gate → v ≡ w) → (1 ≤ product_count gate → y ≡ P.low j)
      → after R C (parts P.input R.𝟎 y) 0 f layout v gate ≡ after R C P j f layout w gate
  after_is j f layout v w y (In l i) opened low = refl
  after_is j f layout v w y (Add a b) opened low = refl
  after_is j f layout v w y (Sub a b) opened low = refl
  after_is j f layout v w y (Scale a c) opened low = refl
  after_is j f layout v w y (Offset a c) opened low = refl
  after_is j f layout v w y (Place l a k) opened low = refl
  after_is j f layout v w y (Mul m a b) opened low = ap₂ (λ x p. R.◌⊕◌ (C.pick m x) p) (opened tt) (low (omega arith))
  after_is j f layout v w y (Out a) opened low = opened tt

  word_is : (j : ℕ) (f : ℕ → E) (y : E) (gate : Gate) → (1 ≤ product_count gate → y ≡ P.high j) → word R (parts (λ i. R.𝟎) y R.𝟎) 0 f gate ≡ word R P j f gate
  word_is j f y (In l i) high = refl
  word_is j f y (Add a b) high = refl
  word_is j f y (Sub a b) high = refl
  word_is j f y (Scale a c) high = refl
  word_is j f y (Offset a c) high = refl
  word_is j f y (Place l a k) high = refl
  word_is j f y (Mul m a b) high = ap (sub R (R.◌⊗◌ (f a) (f b))) (high (omega arith))
  word_is j f y (Out a) high = refl

module _ {E : Type 0} (R : CommRing E) (C : Known E) (codes : List ℕ) (layouts : List Layout) (P : Parts E) (z : ℕ → E) where
  -- the entries of a seat that has opened z
  abbrev of : ℕ → ℕ → E
  of = entry R C codes layouts P (λ k w. z k)

  of_past : (g a : ℕ) → g ≤ a → entry R C codes layouts P (λ k w. z k) g a ≡ R.𝟎
  of_past zero a le = refl
  of_past (suc g) a le =
      ap (λ (b : Bool). elim b [
        | true ↦ after R C P (products codes g) (entry R C codes layouts P (λ k w. z k) g) (layout_at layouts g) (z (openings codes g)) (gate_at codes g)
        | false ↦ entry R C codes layouts P (λ k w. z k) g a
      ]) (ne_eqb a g (λ e. omega arith))
      ∙ of_past g a (omega arith)

  -- a table that holds the entries reads as them
  reads : (g : ℕ) → g ≤ length codes → (a : ℕ) → get_or (listed (length codes) (entry R C codes layouts P (λ k w. z k) g)) a R.𝟎 ≡ entry R C codes layouts P (λ k w. z k) g a
  reads g le a = elim (cases_lt a (length codes)) [
    | inl less ↦ listed_at (length codes) (entry R C codes layouts P (λ k w. z k) g) a R.𝟎 less
    | inr past ↦
        get_or_past (listed (length codes) (entry R C codes layouts P (λ k w. z k) g)) a R.𝟎 (omega (arith, listed_length (length codes) (entry R C codes layouts P (λ k w. z k) g)))
        ∙ sym (of_past g a (omega arith))
  ]

  worked_is : (g : ℕ) → g < length codes → (v y : E) → (Opened (gate_at codes g) → v ≡ z (openings codes g)) → (1 ≤ product_count (gate_at codes g) → y ≡ P.low (products codes g))
      → worked R C codes layouts P.input (listed (length codes) (entry R C codes layouts P (λ k w. z k) g)) g v y ≡ listed (length codes) (entry R C codes layouts P (λ k w. z k) (suc g))
  worked_is g less v y opened low =
      ap (set (listed (length codes) (of g)) g)
      (ap (λ f. after R C (parts P.input R.𝟎 y) 0 f (layout_at layouts g) v (gate_at codes g)) (λ i a. reads g (omega arith) a i)
      ∙ after_is R C P (products codes g) (of g) (layout_at layouts g) v (z (openings codes g)) y (gate_at codes g) opened low)
      ∙ listed_set (length codes) (of g) g (after R C P (products codes g) (of g) (layout_at layouts g) (z (openings codes g)) (gate_at codes g))

  -- gates that are not opened, worked out one after the other
  pub settled_is : (m g : ℕ) → g + m ≤ length codes → ((k : ℕ) → g ≤ k → k < g + m → Opened (gate_at codes k) → ⊥)
      → settled R C codes layouts P.input (listed (length codes) (entry R C codes layouts P (λ k w. z k) g)) g m ≡ listed (length codes) (entry R C codes layouts P (λ k w. z k) (g + m))
  settled_is zero g le none = let e : g ≡ g + 0 = omega arith in ap (λ k. listed (length codes) (of k)) e
  settled_is (suc m) g le none =
      let e : suc g + m ≡ g + suc m = omega arith in
      ap (λ W. settled R C codes layouts P.input W (suc g) m)
      (worked_is g (omega arith) R.𝟎 R.𝟎 (λ o. absurd (none g (omega arith) (omega arith) o))
      (λ one. absurd (none g (omega arith) (omega arith) (product_opened (gate_at codes g) one))))
      ∙ settled_is m (suc g) (omega arith) (λ k low high o. none k (omega arith) (omega arith) o)
      ∙ ap (λ k. listed (length codes) (of k)) e

  -- from nothing up to the first opening
  pub start_is : settled R C codes layouts P.input (replicate (length codes) R.𝟎) 0 (stage codes 0) ≡ listed (length codes) (entry R C codes layouts P (λ k w. z k) (stage codes 0))
  start_is =
      let e : 0 + stage codes 0 ≡ stage codes 0 = omega arith in
      ap (λ W. settled R C codes layouts P.input W 0 (stage codes 0)) (listed_replicate (length codes) R.𝟎)
      ∙ settled_is (stage codes 0) 0 (omega (arith, stage_low codes 0)) (λ k low high o. none_first codes k (omega arith) o)
      ∙ ap (λ k. listed (length codes) (of k)) e

  -- from one opening to the next
  pub kept_is : (k : ℕ) → k < length (openings_of codes) → (lows : List E) → ((j : ℕ) → get_or lows j R.𝟎 ≡ P.low j) → (v : E) → v ≡ z k
      → kept R C codes layouts P.input (listed (length codes) (entry R C codes layouts P (λ k w. z k) (stage codes k))) (opening_at codes k) lows v (stage codes (suc k))
      ≡ listed (length codes) (entry R C codes layouts P (λ k w. z k) (stage codes (suc k)))
  kept_is k less lows low v opened =
      let n = (openings_numbered codes).each k less in
      let g = gate_opened (opening_at codes k) in
      let here = stage_is codes k less in
      let m = stage codes (suc k) - suc g in
      let sum : suc g + m ≡ stage codes (suc k) = omega (arith, stage_rises codes k less) in
      ap (λ h. kept R C codes layouts P.input (listed (length codes) (of h)) (opening_at codes k) lows v (stage codes (suc k))) here
      ∙ ap (λ W. settled R C codes layouts P.input W (suc g) m)
      (worked_is g n.below v (part_of R.𝟎 lows (opening_at codes k)) (λ o. opened ∙ ap z (sym n.number))
      (λ one. part_is R.𝟎 lows (opening_at codes k) g (products codes g) (outputs codes g) (gate_at codes g) n.is one ∙ low (products codes g)))
      ∙ settled_is m (suc g) (omega (arith, stage_low codes (suc k))) (λ h low high o. none_between codes k h less (omega arith) (omega arith) o)
      ∙ ap (λ h. listed (length codes) (of h)) sum

  -- the word that is shown is the word of the rules
  pub shown_is : (k : ℕ) → k < length (openings_of codes) → (highs : List E) → ((j : ℕ) → get_or highs j R.𝟎 ≡ P.high j)
      → shown R codes (listed (length codes) (entry R C codes layouts P (λ k w. z k) (stage codes k))) (opening_at codes k) highs
      ≡ asked R C codes layouts P (λ k w. z k) (gate_opened (opening_at codes k))
  shown_is k less highs high =
      let n = (openings_numbered codes).each k less in
      let g = gate_opened (opening_at codes k) in
      let here = stage_is codes k less in
      ap (λ f. word R (parts (λ i. R.𝟎) (part_of R.𝟎 highs (opening_at codes k)) R.𝟎) 0 f (gate_at codes g)) (λ i a. reads (stage codes k) (stage_low codes k) a i)
      ∙ ap (λ h. word R (parts (λ i. R.𝟎) (part_of R.𝟎 highs (opening_at codes k)) R.𝟎) 0 (of h) (gate_at codes g)) here
      ∙ word_is R C P (products codes g) (of g) (part_of R.𝟎 highs (opening_at codes k)) (gate_at codes g)
      (λ one. part_is R.𝟎 highs (opening_at codes k) g (products codes g) (outputs codes g) (gate_at codes g) n.is one ∙ high (products codes g))
