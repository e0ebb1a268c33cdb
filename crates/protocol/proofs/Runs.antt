-- Entries and words of seats lie on polynomials; runs are sound, openings complete, words causal.
use Rattle.std.proofs.Common.{◌≡◌, ℕ, zero, suc, ◌+◌, ◌<◌, ◌≤◌, Bool, true, false, cond, ◌||◌, eqb, List, length, sym, refl, ap, ◌∙◌, subst, inl, inr, arith}
use Rattle.std.proofs.lemmas.Bool.{cases_eq, cases_Bool, both_ways, not-true, not_from_false, or_left, or_right, eq-eqb, ne_eqb, cond-true, cond-false}
use Rattle.algebra.specs.Poly.{val}
use Rattle.algebra.specs.Ring.{CommRing, ops}
use Rattle.encoding.specs.declared.layout.Layout.{Layout}
use Rattle.circuit.specs.Gates.{layout_at}
use Rattle.circuit.specs.Kinds.{Gate, In, Add, Sub, Scale, Offset, Place, Mul, Out, gate_at}
use Rattle.circuit.specs.Openings.{product_count, products, openings_of, gate_opened, degree_of}
use Rattle.rules.specs.Rules.{Parts, Known, word, after, entry, openings}
use Rattle.protocol.specs.Shares.{Table, Laws, Seat, Inside, Outside, Shared, Opens}
use Rattle.protocol.specs.Gates.{Opened, degree, names, opening_at}
use Rattle.protocol.specs.Runs.{Task, share_of, word_of, value_of, value_shared, Dealt, Right, Curves, TrueWord, HasOpened, Run, SoundRun, CurvesHold, RunsSound, OpeningsComplete, WordsCausal}
use Rattle.protocol.proofs.Gates.{named_by, rises, openings_rise, degree_low, openings_numbered}
use Rattle.protocol.proofs.Shares.{same, constant, sum, difference, scaled, product, one_polynomial, inside_many, openings_sound, joined}

-- One gate: from shares of the entries to shares of the next entry, and of the word.
module _ {E : Type 0} (T : Table E) (C : Known E) (set : ℕ → Bool) (P : ℕ → Parts E) (V : Parts E) (j : ℕ)
    (e : ℕ → ℕ → E) (v : ℕ → E) (shares : (a : ℕ) → Shared T set T.threshold (λ s. e s a) (v a)) where
  pub word_shared : (gate : Gate) → (1 ≤ product_count gate → Shared T set (T.threshold + T.threshold) (λ s. (P s).high j) (V.high j))
      → Shared T set (degree T.threshold gate) (λ s. word T.ring (P s) j (e s) gate) (word T.ring V j v gate)
  word_shared (In l i) high = constant 0 T.ring.𝟎
  word_shared (Add a b) high = constant 0 T.ring.𝟎
  word_shared (Sub a b) high = constant 0 T.ring.𝟎
  word_shared (Scale a c) high = constant 0 T.ring.𝟎
  word_shared (Offset a c) high = constant 0 T.ring.𝟎
  word_shared (Place l a k) high = constant 0 T.ring.𝟎
  word_shared (Mul m a b) high = difference (product (shares a) (shares b)) (high (omega arith))
  word_shared (Out a) high = shares a

  pub after_shared : (gate : Gate) (layout : Layout) (z : ℕ → E) (y : E)
      → ((i : ℕ) → names gate i ≡ true → Shared T set T.threshold (λ s. (P s).input i) (V.input i))
      → (1 ≤ product_count gate → Shared T set T.threshold (λ s. (P s).low j) (V.low j))
      → (Opened gate → (s : ℕ) → Seat T.seats set s → z s ≡ y)
      → Shared T set T.threshold (λ s. after T.ring C (P s) j (e s) layout (z s) gate) (after T.ring C V j v layout y gate)
  after_shared (In l i) layout z y input low right = input i (eq-eqb i i refl)
  after_shared (Add a b) layout z y input low right = sum (shares a) (shares b)
  after_shared (Sub a b) layout z y input low right = difference (shares a) (shares b)
  after_shared (Scale a c) layout z y input low right = scaled (C.factor c) (shares a)
  after_shared (Offset a c) layout z y input low right = sum (shares a) (constant T.threshold (C.offset layout c))
  after_shared (Place l a k) layout z y input low right = scaled (C.move l k) (shares a)
  after_shared (Mul m a b) layout z y input low right =
      sum (same (λ s. C.pick m (z s)) (λ s h. ap (C.pick m) (sym (right tt s h))) (constant T.threshold (C.pick m y))) (low (omega arith))
  after_shared (Out a) layout z y input low right = same z (λ s h. sym (right tt s h)) (constant T.threshold y)

-- Gate by gate.
module _ {E : Type 0} (T : Table E) (W : Task E) (set : ℕ → Bool) (P : ℕ → Parts E) (V : Parts E) (dealt : Dealt T W set P V) (z : ℕ → ℕ → E) where
  -- product number j, of gate g, has its pair
  paired : (g : ℕ) → g < length W.codes → 1 ≤ product_count (gate_at W.codes g) → products W.codes g < products W.codes (length W.codes)
  paired g below one = omega (arith, rises (products W.codes) (λ k. omega arith) (length W.codes) (suc g) below)

  shares_lie : (g : ℕ) → g ≤ length W.codes → ((s : ℕ) → Seat T.seats set s → Right T W V (z s) g)
      → (a : ℕ) → Shared T set T.threshold (λ s. share_of T W (P s) (z s) g a) (value_of T W V g a)
  shares_lie zero below right a = constant T.threshold T.ring.𝟎
  shares_lie (suc g) below right a =
      let before = shares_lie g (omega arith) (λ s h. record { at = λ k less o. (right s h).at k (omega arith) o }) in
      elim (eqb a g) as (λ b. Shared T set T.threshold
      (λ s. elim b [
        | true ↦ after T.ring W.known (P s) (products W.codes g) (share_of T W (P s) (z s) g) (layout_at W.layouts g) (z s (openings W.codes g)) (gate_at W.codes g)
        | false ↦ share_of T W (P s) (z s) g a
      ])
      (elim b [
        | true ↦ after T.ring W.known V (products W.codes g) (value_of T W V g) (layout_at W.layouts g) (value_shared T W V g) (gate_at W.codes g)
        | false ↦ value_of T W V g a
      ])) [
        | true ↦
            after_shared T W.known set P V (products W.codes g) (λ s. share_of T W (P s) (z s) g) (value_of T W V g) before
            (gate_at W.codes g) (layout_at W.layouts g) (λ s. z s (openings W.codes g)) (value_shared T W V g)
            (λ i e. dealt.inputs i (named_by W.codes (length W.codes) g i below e))
            (λ one. dealt.lows (products W.codes g) (paired g below one))
            (λ o s h. (right s h).at g (omega arith) o)
        | false ↦ before a
      ]

  pub curves : (g : ℕ) → g ≤ length W.codes → ((s : ℕ) → Seat T.seats set s → Right T W V (z s) g) → Curves T W set P V z g
  curves g below right = record {
    shares = shares_lie g below right;
    words = λ less.
        word_shared T W.known set P V (products W.codes g) (λ s. share_of T W (P s) (z s) g) (value_of T W V g) (shares_lie g below right)
        (gate_at W.codes g) (λ one. dealt.highs (products W.codes g) (paired g less one));
  }

pub curves_hold : {E : Type 0} → CurvesHold E
curves_hold T W set P V dealt z g below right = curves T W set P V dealt z g below right

-- Whole runs: what was opened before gate g was right at every inside seat, so what is opened there is right too.
module _ {E : Type 0} (T : Table E) (laws : Laws T) (W : Task E) (P : ℕ → Parts E) (V : Parts E) (dealt : Dealt T W T.inside P V)
    (rounds : ℕ → ℕ) (z : ℕ → ℕ → E) (row : ℕ → ℕ → ℕ → E) (run : Run T W P rounds z row) where
  opened_right : (g : ℕ) → ((s : ℕ) → Inside T s → openings W.codes g ≤ rounds s → Right T W V (z s) g)
      → (i : ℕ) → HasOpened T W rounds i g → z i (openings W.codes g) ≡ value_shared T W V g
  opened_right g before i has =
      let words = (curves T W T.inside P V dealt z g (omega (arith, has.below)) (λ s h. before s h (run.ready i s g has h))).words has.below in
      openings_sound T laws (degree T.threshold (gate_at W.codes g)) (degree_low T.threshold (gate_at W.codes g))
      (λ s. word_of T W (P s) (z s) g) (value_shared T W V g) words (row i (openings W.codes g)) (λ s h. run.heard i s g has h)
      (z i (openings W.codes g)) (run.opened i g has)

  right_before : (g : ℕ) → g ≤ length W.codes → (s : ℕ) → Inside T s → openings W.codes g ≤ rounds s → Right T W V (z s) g
  right_before zero below s inside le = record { at = λ h less o. let f : ⊥ = omega arith in absurd f }
  right_before (suc g) below s inside le = record {
    at = λ h less o. elim (cases_eq h g) [
      | inl here ↦
          let opened : Opened (gate_at W.codes g) = subst (λ k. Opened (gate_at W.codes k)) here o in
          let done : openings W.codes g < rounds s = omega (arith, openings_rise W.codes (suc g) g (omega arith) opened) in
          subst (λ k. z s (openings W.codes k) ≡ value_shared T W V k) (sym here)
          (opened_right g (λ i. right_before g (omega arith) i) s (record { inside = inside; below = below; opened = opened; done = done }))
      | inr other ↦ (right_before g (omega arith) s inside (omega arith)).at h (omega arith) o
    ];
  }

  values_right : (i g : ℕ) → HasOpened T W rounds i g → z i (openings W.codes g) ≡ value_shared T W V g
  values_right i g has = opened_right g (right_before g (omega (arith, has.below))) i has

  pub sound_run : SoundRun T W P V rounds z
  sound_run = record {
    values = values_right;
    numbers = λ i k inside listed less.
        let n = (openings_numbered W.codes).each k listed in
        ap (z i) (sym n.number)
        ∙ values_right i (gate_opened (opening_at W.codes k)) (record { inside = inside; below = n.below; opened = n.opened; done = omega (arith, n.number) });
    right = λ i g inside below le. right_before g below i inside le;
    curves = λ g below all. curves T W T.inside P V dealt z g below (λ s h. right_before g below s h (all s h));
  }

pub runs_sound : {E : Type 0} → RunsSound E
runs_sound T laws W P V dealt rounds z row run = sound_run T laws W P V dealt rounds z row run

-- a run told by the numbers of openings
pub by_number : {E : Type 0} (T : Table E) (W : Task E) (P : ℕ → Parts E) (rounds : ℕ → ℕ) (z : ℕ → ℕ → E) (row : ℕ → ℕ → ℕ → E)
    → ((i s k : ℕ) → Inside T i → Inside T s → k < length (openings_of W.codes) → k < rounds i → k ≤ rounds s)
    → ((i s k : ℕ) → Inside T i → Inside T s → k < length (openings_of W.codes) → k < rounds i → row i k s ≡ word_of T W (P s) (z s) (gate_opened (opening_at W.codes k)))
    → ((i k : ℕ) → Inside T i → k < length (openings_of W.codes) → k < rounds i → Opens T (degree_of T.threshold (opening_at W.codes k)) (row i k) (z i k))
    → Run T W P rounds z row
by_number T W P rounds z row ready heard opened =
    let codes = W.codes in
    let order = openings_numbered codes in
    let listed : (i g : ℕ) → HasOpened T W rounds i g → openings codes g < length (openings_of codes) =
    λ i g has. omega (arith, openings_rise codes (length codes) g has.below has.opened, order.all) in
    record {
      ready = λ i s g has hs. ready i s (openings codes g) has.inside hs (listed i g has) has.done;
      heard = λ i s g has hs. heard i s (openings codes g) has.inside hs (listed i g has) has.done ∙ ap (word_of T W (P s) (z s)) (order.found g has.below has.opened);
      opened = λ i g has.
          subst (λ d. Opens T d (row i (openings codes g)) (z i (openings codes g)))
          ((order.each (openings codes g) (listed i g has)).degrees T.threshold
          ∙ ap (λ h. degree T.threshold (gate_at codes h)) (order.found g has.below has.opened))
          (opened i (openings codes g) has.inside (listed i g has) has.done);
    }

-- A true word lies on the polynomial through the inside words.
module _ {E : Type 0} (T : Table E) (laws : Laws T) (W : Task E) (P : ℕ → Parts E) (V : Parts E) (dealt : Dealt T W T.inside P V)
    (z : ℕ → ℕ → E) (g : ℕ) (below : g < length W.codes) (right : (s : ℕ) → Inside T s → Right T W V (z s) g) where
  abbrev D : ℕ
  D = degree T.threshold (gate_at W.codes g)

  pub inner : Shared T T.inside D (λ s. word_of T W (P s) (z s) g) (value_shared T W V g)
  inner = (curves T W T.inside P V dealt z g (omega arith) right).words below

  module _ (s : ℕ) (outside : Outside T s) (w : E) (true-word : TrueWord T W P V s g w) where
    abbrev set : ℕ → Bool
    set i = T.inside i || eqb i s

    abbrev Q : ℕ → Parts E
    Q i = cond (eqb i s) true-word.parts (P i)

    abbrev y : ℕ → ℕ → E
    y i = cond (eqb i s) true-word.opened (z i)

    all_right : (i : ℕ) → Seat T.seats set i → Right T W V (y i) g
    all_right i h =
        elim (joined T.inside i s h) [
          | inl here ↦ subst (λ x. Right T W V x g) (sym (cond-true (eqb i s) true-word.opened (z i) here)) true-word.right
          | inr other ↦ subst (λ x. Right T W V x g) (sym (cond-false (eqb i s) true-word.opened (z i) other.0)) (right i other.1)
        ]

    outer : Shared T set D (λ i. word_of T W (Q i) (y i) g) (value_shared T W V g)
    outer = (curves T W set Q V true-word.dealt y g (omega arith) all_right).words below

    apart : (i : ℕ) → Inside T i → eqb i s ≡ false
    apart i h = ne_eqb i s (λ e. both_ways (T.inside s) (not-true (T.inside s) outside.member) (ap T.inside (sym e) ∙ h.member))

    agree : (i : ℕ) → Inside T i → val (ops T.ring) inner.poly (T.point i) ≡ val (ops T.ring) outer.poly (T.point i)
    agree i h =
        inner.through i h
        ∙ sym (ap (λ b. word_of T W (cond b true-word.parts (P i)) (cond b true-word.opened (z i)) g) (apart i h))
        ∙ sym (outer.through i (record { from = h.from; to = h.to; member = or_left (T.inside i) (eqb i s) h.member }))

    pub lies : val (ops T.ring) inner.poly (T.point s) ≡ w
    lies =
        one_polynomial T laws T.inside D (inside_many T laws D (degree_low T.threshold (gate_at W.codes g))) inner.poly outer.poly inner.small outer.small agree (T.point s)
        ∙ outer.through s (record { from = outside.from; to = outside.to; member = or_right (T.inside s) (eqb s s) (eq-eqb s s refl) })
        ∙ ap (λ b. word_of T W (cond b true-word.parts (P s)) (cond b true-word.opened (z s)) g) (eq-eqb s s refl)
        ∙ sym true-word.is

pub openings_complete : {E : Type 0} → OpeningsComplete E
openings_complete T laws W P V dealt z g below right row ours theirs =
    let f = inner T laws W P V dealt z g below right in
    record {
      poly = f.poly;
      small = f.small;
      through = λ s h. elim (cases_Bool (T.inside s)) [
        | inl inside ↦ let i : Inside T s = record { from = h.from; to = h.to; member = inside } in f.through s i ∙ sym (ours s i)
        | inr outside ↦
            let o : Outside T s = record { from = h.from; to = h.to; member = not_from_false (T.inside s) outside } in
            lies T laws W P V dealt z g below right s o (row s) (theirs s o)
      ];
      at_zero = f.at_zero;
    }

-- Two ways to work a list that agree at each gate, where they agreed before, agree.
module _ {E : Type 0} (R : CommRing E) (C : Known E) (codes : List ℕ) (layouts : List Layout) (P Q : Parts E) (p q : ℕ → E → E) where
  abbrev Step : ℕ → Type 0
  Step g = (e : ℕ → E)
      → after R C P (products codes g) e (layout_at layouts g) (p (openings codes g) (word R P (products codes g) e (gate_at codes g))) (gate_at codes g)
      ≡ after R C Q (products codes g) e (layout_at layouts g) (q (openings codes g) (word R Q (products codes g) e (gate_at codes g))) (gate_at codes g)

  pub entries_agree : (g : ℕ) → ((h : ℕ) → h < g → Step h) → entry R C codes layouts P p g ≡ entry R C codes layouts Q q g
  entries_agree zero step = refl
  entries_agree (suc g) step =
      let before = entries_agree g (λ h less. step h (omega arith)) in
      let here = step g (omega arith) (entry R C codes layouts P p g)
      ∙ ap (λ e. after R C Q (products codes g) e (layout_at layouts g) (q (openings codes g) (word R Q (products codes g) e (gate_at codes g))) (gate_at codes g)) before in
      λ i a. elim (eqb a g) [ true ↦ here i | false ↦ before i a ]

-- a gate that is not opened does not hang on what was opened
after_same : {E : Type 0} (R : CommRing E) (C : Known E) (P : Parts E) (j : ℕ) (e : ℕ → E) (layout : Layout) (y z : E) (gate : Gate) → (Opened gate → y ≡ z)
    → after R C P j e layout y gate ≡ after R C P j e layout z gate
after_same R C P j e layout y z (In l i) same = refl
after_same R C P j e layout y z (Add a b) same = refl
after_same R C P j e layout y z (Sub a b) same = refl
after_same R C P j e layout y z (Scale a c) same = refl
after_same R C P j e layout y z (Offset a c) same = refl
after_same R C P j e layout y z (Place l a k) same = refl
after_same R C P j e layout y z (Mul m a b) same = ap (λ x. R.◌⊕◌ (C.pick m x) (P.low j)) (same tt)
after_same R C P j e layout y z (Out a) same = same tt

pub words_causal : {E : Type 0} → WordsCausal E
words_causal T W P y z g alike =
    let entries = entries_agree T.ring W.known W.codes W.layouts P P (λ k w. y k) (λ k w. z k) g
    (λ h less e. after_same T.ring W.known P (products W.codes h) e (layout_at W.layouts h) (y (openings W.codes h)) (z (openings W.codes h)) (gate_at W.codes h)
    (λ o. alike (openings W.codes h) (openings_rise W.codes g h less o))) in
    record { shares = λ a i. entries i a; words = ap (λ e. word T.ring P (products W.codes g) e (gate_at W.codes g)) entries }
