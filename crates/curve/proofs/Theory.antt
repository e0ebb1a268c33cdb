-- Dealing and opening by the definitions: rows, polynomials and Lagrange's sum.
use Rattle.std.proofs.Common.{◌≡◌, ℕ, zero, suc, ◌+◌, ◌<◌, ◌≤◌, Bool, true, false, cond, ◌||◌, eqb, ltb, leb, List, ◌∷◌, map, length, get_or, Some, None, Ok, Err, Option, Result, sym, refl, ap, ◌∙◌, subst, ap₂, inl, inr, arith}
use lib.ListN.{length-map}
use Rattle.std.proofs.lemmas.Bool.{cases_eq, cases_lt, cases_order, cond-true, eq-eqb, eqb-true, leb-false, or_parts}
use Rattle.algebra.specs.Poly.{val, Apart, sum_below, factor, lagrange}
use Rattle.algebra.specs.Ring.{ops}
use Rattle.algebra.proofs.Interpolation.{some_through, one_through, lagrange_value}
use Rattle.algebra.specs.Solver.{◌:=◌, nil, ◌:+◌, ◌:*◌}
use Rattle.algebra.proofs.Poly.{same_value}
use Rattle.algebra.proofs.Solver.{ring2}
use Rattle.ring.specs.Model.{PointLaws}
use Rattle.ring.specs.declared.Ring.{Ghosts}
use Rattle.curve.specs.declared.OffCurve.{OffCurve}
use Rattle.curve.specs.declared.refusal.Refusal.{Refusal}
use Rattle.curve.specs.declared.refusal.Refusal.TheVariants.{Seats, Threshold, Length}
use Rattle.curve.specs.Curve.{El, K, seats_wrong, word, share, listed, curve_refused, or_else, deal_refused, tested, DealtBy, Dealt, Through, Opens, Off, Answers, OpenedBy, Opened, Agree, OpensOnce, Returns, ComesBack}

pub deal_taken : (points n d a b : ℕ) → curve_refused points n d ≡ None → a ≡ d → b ≡ n → deal_refused points n d a b ≡ None
deal_taken points n d a b curve coefficients table =
    ap (λ o. or_else o (cond (eqb a d) (cond (eqb b n) None (Some Length)) (Some Length))) curve
    ∙ cond-true (eqb a d) _ _ (eq-eqb a d coefficients)
    ∙ cond-true (eqb b n) _ _ (eq-eqb b n table)

-- the tests were passed
pub tests_passed : (o : Option Refusal) → Ok tt ≡ tested o → o ≡ None
tests_passed None e = refl
tests_passed (Some x) e = let z : ◌≡◌ {A = ℕ} 0 1 = cc in let f : ⊥ = omega arith in absurd f

pub dealt_ok : {R C : Type 0} (G : Ghosts R C) (n d : ℕ) (secret : R) (others before after : List R)
    → deal_refused G.points.count n d (length others) (length before) ≡ None
    → map G.element after ≡ listed n (share G (map G.element (secret ∷ others)))
    → Dealt G n d secret others before (Ok tt) after
dealt_ok G n d secret others before after e is = subst (DealtBy G n secret others before (Ok tt) after) (sym e) (refl, is)

pub opened_ok : {R C : Type 0} (G : Ghosts R C) (d : ℕ) (row : List R) (o : Result R OffCurve) → curve_refused G.points.count (length row) d ≡ None → Answers G d row o → Opened G d row (Ok o)
opened_ok G d row o e a = subst (OpenedBy G d row (Ok o)) (sym e) a

-- what is taken passed every test
passed : (b : Bool) (e : Refusal) (o : Option Refusal) → cond b (Some e) o ≡ None → (b ≡ false) × (o ≡ None)
passed true e o h = let z : ◌≡◌ {A = ℕ} 0 1 = cc in let f : ⊥ = omega arith in absurd f
passed false e o h = (refl, h)

fits : (b : Bool) (e : Refusal) (o : Option Refusal) → cond b o (Some e) ≡ None → (b ≡ true) × (o ≡ None)
fits true e o h = (refl, h)
fits false e o h = let z : ◌≡◌ {A = ℕ} 0 1 = cc in let f : ⊥ = omega arith in absurd f

both_none : (o q : Option Refusal) → or_else o q ≡ None → (o ≡ None) × (q ≡ None)
both_none None q h = (refl, h)
both_none (Some e) q h = let z : ◌≡◌ {A = ℕ} 0 1 = cc in let f : ⊥ = omega arith in absurd f

-- the seats stand below the points, and the degree below the seats
pub seats_below : (points n d : ℕ) → curve_refused points n d ≡ None → n < points
seats_below points n d e = leb-false points n (or_parts (eqb n 0 || ltb 31 n) (leb points n) (passed (seats_wrong points n) Seats _ e).0).1

pub degree_below : (points n d : ℕ) → curve_refused points n d ≡ None → d < n
degree_below points n d e = leb-false n d (passed (leb n d) Threshold None (passed (seats_wrong points n) Seats _ e).1).0

-- A row opens, and where, for a number of seats and a degree that are taken.
module _ {R C : Type 0} (G : Ghosts R C) (laws : PointLaws G.shape G.points) where
  abbrev p : ℕ → El G
  p k = G.points.at (k + 1)

  abbrev u : ℕ → ℕ → El G
  u k l = G.points.inv (k + 1) (l + 1)

  apart : (m : ℕ) → m < G.points.count → Apart (K G) m p u
  apart m small i j hi hj other =
      let si : i + 1 < G.points.count = omega arith in
      let sj : j + 1 < G.points.count = omega arith in
      let differ : i + 1 ≡ j + 1 → ⊥ = λ e. other (omega arith) in
      laws.inverse (i + 1) (j + 1) si sj differ

  sum_same : (n : ℕ) (f g : ℕ → El G) → ((i : ℕ) → i < n → f i ≡ g i) → sum_below (K G) n f ≡ sum_below (K G) n g
  sum_same zero f g e = refl
  sum_same (suc n) f g e = ap₂ (K G).◌⊕◌ (sum_same n f g (λ i h. let k : i < suc n = omega arith in e i k)) (e n (omega arith))

  -- two polynomials of degree at most d through the same first words have the same values everywhere
  same_values : (d : ℕ) → d + 1 < G.points.count → (row : List R) (n k : ℕ) → d < n → d < k → (f g : List (El G)) → Through G d n row f → Through G d k row g
      → (x : El G) → val (ops (K G)) f x ≡ val (ops (K G)) g x
  same_values d small row n k hn hk f g tf tg =
      same_value (K G) f g
      (one_through (K G) (d + 1) p u (apart (d + 1) small) (word G row) f g tf.short tg.short
      (λ i h. let b : i < n = omega arith in tf.meets i b)
      (λ i h. let b : i < k = omega arith in tg.meets i b))

  -- Lagrange's sum agrees with the words from place m up to place i
  pub record Agrees (row : List R) (m i : ℕ) : Type 0 where
    pub at : (k : ℕ) → m ≤ k → k < i → lagrange (K G) m p u (word G row) (p k) ≡ word G row k

  pub agrees_none : (row : List R) (m : ℕ) → Agrees row m m
  agrees_none row m = record { at = λ k low high. let z : ⊥ = omega arith in absurd z }

  -- one seat more, by what was read and interpolated for it
  pub agrees_more : {row : List R} {m i : ℕ} → Agrees row m i → (x v w : El G) → x ≡ p i → v ≡ lagrange (K G) m p u (word G row) x → w ≡ word G row i → v ≡ w → Agrees row m (i + 1)
  agrees_more {row} {m} {i} h x v w ex ev ew same = record {
    at = λ k low high. elim (cases_eq k i) [
      | inl here ↦
          ap (λ j. lagrange (K G) m p u (word G row) (p j)) here
          ∙ ap (lagrange (K G) m p u (word G row)) (sym ex)
          ∙ sym ev ∙ same ∙ ew
          ∙ ap (word G row) (sym here)
      | inr other ↦ let below : k < i = omega arith in h.at k low below
    ];
  }

  module _ (d : ℕ) (row : List R) (degree : d < length row) (seats : length row < G.points.count) where
    small : d + 1 < G.points.count
    small = omega arith

    found : (f : List (El G)) × (length f ≡ d + 1) × ((i : ℕ) → i < d + 1 → val (ops (K G)) f (p i) ≡ word G row i)
    found = some_through (K G) (d + 1) p u (apart (d + 1) small) (word G row)

    abbrev line : List (El G)
    line = found.0

    line_value : (x : El G) → val (ops (K G)) line x ≡ lagrange (K G) (d + 1) p u (word G row) x
    line_value x =
        lagrange_value (K G) (d + 1) p u (apart (d + 1) small) line (omega (arith, found.1)) x
        ∙ sum_same (d + 1) _ _ (λ i h. ap (λ w. (K G).◌⊗◌ w (factor (K G) (d + 1) p u x i)) (found.2 i h))

    line_through : (n : ℕ) → Agrees row (d + 1) n → Through G d n row line
    line_through n agrees = record {
      short = omega (arith, found.1);
      meets = λ k h. elim (cases_lt k (d + 1)) [
        | inl below ↦ found.2 k below
        | inr above ↦ line_value (p k) ∙ agrees.at k above h
      ];
    }

    pub opens : (v : El G) → Agrees row (d + 1) (length row) → v ≡ lagrange (K G) (d + 1) p u (word G row) (K G).𝟎 → Opens G d row v
    opens v agrees e = record { polynomial = line; through = line_through (length row) agrees; at_zero = line_value (K G).𝟎 ∙ sym e }

    pub off : (s : ℕ) → d + 1 ≤ s → s < length row → Agrees row (d + 1) s → (lagrange (K G) (d + 1) p u (word G row) (p s) ≡ word G row s → ⊥) → Off G d row (s + 1)
    off s past inside agrees differs =
        let through = line_through s agrees in
        let dn : d < s = omega arith in
        record {
          none = λ v o. differs (sym (line_value (p s)) ∙ same_values d small row s (length row) dn degree line o.polynomial through o.through (p s) ∙ o.through.meets s inside);
          polynomial = line;
          place = s;
          counted = refl;
          past = dn;
          inside = inside;
          through = through;
          off = λ e. differs (sym (line_value (p s)) ∙ e);
        }

    -- one opening and another
    values_agree : (v w : El G) → Opens G d row v → Opens G d row w → v ≡ w
    values_agree v w a b =
        sym a.at_zero
        ∙ same_values d small row (length row) (length row) degree degree a.polynomial b.polynomial a.through b.through (K G).𝟎
        ∙ b.at_zero

    -- a seat off its polynomial is not passed by another
    not_before : (i j : ℕ) (a : Off G d row i) (b : Off G d row j) → a.place < b.place → ⊥
    not_before i j a b h =
        a.off
        (same_values d small row a.place b.place a.past b.past a.polynomial b.polynomial a.through b.through (p a.place)
        ∙ b.through.meets a.place h)

    places_agree : (i j : ℕ) → Off G d row i → Off G d row j → i ≡ j
    places_agree i j a b =
        a.counted
        ∙ elim (cases_order a.place b.place) [
          | inl same ↦ ap (λ k. k + 1) same
          | inr apart ↦ elim apart [ inl less ↦ absurd (not_before i j a b less) | inr more ↦ absurd (not_before j i b a more) ]
        ]
        ∙ sym b.counted

    once : (a b : Result R OffCurve) → Answers G d row a → Answers G d row b → Agree G a b
    once (Ok v) (Ok w) x y = values_agree (G.element v) (G.element w) x y
    once (Ok v) (Err j) x y = y.none (G.element v) x
    once (Err i) (Ok w) x y = x.none (G.element w) y
    once (Err i) (Err j) x y = places_agree i.seat j.seat x y

  -- the two answers of the code
  module _ (d : ℕ) (row : List R) (taken : curve_refused G.points.count (length row) d ≡ None) where
    below : length row < G.points.count
    below = seats_below G.points.count (length row) d taken

    degree : d < length row
    degree = degree_below G.points.count (length row) d taken

    pub opened_value : {i : ℕ} (r : R) (x : El G) → Agrees row (d + 1) i → length row ≤ i → x ≡ (K G).𝟎 → G.element r ≡ lagrange (K G) (d + 1) p u (word G row) x → Opened G d row (Ok (Ok r))
    opened_value {i} r x agrees all ex er =
        opened_ok G d row (Ok r) taken
        (opens d row degree below (G.element r)
        (record { at = λ k low high. let under : k < i = omega arith in agrees.at k low under })
        (er ∙ ap (lagrange (K G) (d + 1) p u (word G row)) ex))

    pub opened_off : {s : ℕ} (x v w : El G) → Agrees row (d + 1) s → d + 1 ≤ s → s < length row → x ≡ p s → v ≡ lagrange (K G) (d + 1) p u (word G row) x → w ≡ word G row s → (v ≡ w → ⊥) → (e : OffCurve) → e.seat ≡ s + 1 → Opened G d row (Ok (Err e))
    opened_off {s} x v w agrees past inside ex ev ew differ e seat =
        opened_ok G d row (Err e) taken
        (subst (Off G d row) (sym seat)
        (off d row degree below s past inside agrees
        (λ e. differ (ev ∙ ap (lagrange (K G) (d + 1) p u (word G row)) ex ∙ e ∙ sym ew))))

  pub opens_once : OpensOnce G
  opens_once d row taken = once d row (degree d row taken) (below d row taken)

  listed_at : {A : Type 0} (n : ℕ) (f : ℕ → A) (d : A) (k : ℕ) → k < n → get_or (listed n f) k d ≡ f k
  listed_at zero f d k h = let z : ⊥ = omega arith in absurd z
  listed_at (suc n) f d zero h = refl
  listed_at (suc n) f d (suc k) h = let b : k < n = omega arith in listed_at n (λ k. f (suc k)) d k b

  listed_length : {A : Type 0} (n : ℕ) (f : ℕ → A) → length (listed n f) ≡ n
  listed_length zero f = refl
  listed_length (suc n) f = ap suc (listed_length n (λ k. f (suc k)))

  -- shares that were dealt, and what they open to
  module _ (n d : ℕ) (secret : R) (others shares : List R) (degree : d < n) (seats : n < G.points.count) (count : length others ≡ d)
      (dealt : map G.element shares ≡ listed n (share G (map G.element (secret ∷ others)))) where
    abbrev cs : List (El G)
    cs = map G.element (secret ∷ others)

    long : length shares ≡ n
    long = sym (length-map shares G.element) ∙ ap length dealt ∙ listed_length n (share G cs)

    shares_open : Opens G d shares (G.element secret)
    shares_open = record {
      polynomial = cs;
      through = record {
        short = omega (arith, length-map others G.element);
        meets = λ k h. let b : k < n = omega (arith, long) in sym (ap (λ l. get_or l k (K G).𝟎) dealt ∙ listed_at n (share G cs) (K G).𝟎 k b);
      };
      at_zero = ring2 (K G) (λ c z. c :+ nil :* z := c) (G.element secret) (val (ops (K G)) (map G.element others) (K G).𝟎) refl;
    }

    back : (r : Result (Result R OffCurve) Refusal) (o : Option Refusal) → o ≡ None → OpenedBy G d shares r o → Returns G (G.element secret) r
    back (Ok (Ok v)) None e a = values_agree d shares (omega (arith, long)) (omega (arith, long)) (G.element v) (G.element secret) a shares_open
    back (Ok (Err off)) None e a = a.none (G.element secret) shares_open
    back (Err x) None e a = a
    back r (Some x) e a = let z : ◌≡◌ {A = ℕ} 0 1 = cc in let f : ⊥ = omega arith in absurd f

  dealt_taken : (n : ℕ) (secret : R) (others before shares : List R) (o : Option Refusal) → DealtBy G n secret others before (Ok tt) shares o
      → (o ≡ None) × (map G.element shares ≡ listed n (share G (map G.element (secret ∷ others))))
  dealt_taken n secret others before shares None h = (refl, h.1)
  dealt_taken n secret others before shares (Some e) h = let q = h.0 in let z : ◌≡◌ {A = ℕ} 0 1 = cc in let f : ⊥ = omega arith in absurd f

  pub comes_back : ComesBack G
  comes_back n d secret others before shares dealt r opened =
      let points = G.points.count in
      let taken = dealt_taken n secret others before shares (deal_refused points n d (length others) (length before)) dealt in
      let tests = both_none (curve_refused points n d) _ taken.0 in
      let seats = seats_below points n d tests.0 in
      let degrees = degree_below points n d tests.0 in
      let count = eqb-true (length others) d (fits (eqb (length others) d) Length _ tests.1).0 in
      let size = long n d secret others shares degrees seats count taken.1 in
      back n d secret others shares degrees seats count taken.1 r (curve_refused points (length shares) d)
      (ap (λ k. curve_refused points k d) size ∙ tests.0)
      opened
