-- Rows that are read from a full page, and seats by their tests.
use Rattle.std.proofs.Common.{◌≡◌, ℕ, zero, suc, ◌-◌, ◌<◌, ◌≤◌, Bool, true, false, cond, not, ◌&&◌, ltb, leb, List, [], ◌∷◌, map, length, get_or, is_some, Some, None, Option, sym, refl, ap, ◌∙◌, inl, inr, arith}
use lib.ListN.{length-map}
use Rattle.std.proofs.lemmas.Bool.{and_from, and_parts, and_right, both_ways, cases_eq, not-true, or_parts, or_cases, or_from, lt-ltb, le-leb, ltb-true, leb-true}
use Rattle.curve.specs.Curve.{listed}
use Rattle.protocol.specs.Shares.{Seat}
use Rattle.exchange.specs.Sheet.{Page, seat, some, sent, missing, seen, row_seen}
use Rattle.exchange.proofs.Rows.{gathered_is}
use Rattle.claim.specs.Bench.{Setup, inner, outer}
use Rattle.claim.proofs.Tables.{listed_at, listed_length}

pub seat_from : (n k : ℕ) → 1 ≤ k → k ≤ n → seat n k ≡ true
seat_from n k low high = and_from (ltb 0 k) (leb k n) (lt-ltb 0 k low) (le-leb k n high)

pub seat_low : (n k : ℕ) → seat n k ≡ true → 1 ≤ k
seat_low n k is = ltb-true 0 k (and_parts (ltb 0 k) (leb k n) is).0

pub seat_high : (n k : ℕ) → seat n k ≡ true → k ≤ n
seat_high n k is = leb-true k n (and_parts (ltb 0 k) (leb k n) is).1

-- nobody of whom f holds
pub some_none : (n : ℕ) (f : ℕ → Bool) → ((k : ℕ) → seat n k ≡ true → f k ≡ false) → some n f ≡ false
some_none zero f none = refl
some_none (suc n) f none =
    or_from (f (suc n)) (some n f) (none (suc n) (seat_from (suc n) (suc n) (omega arith) (omega arith)))
    (some_none n f (λ k is. none k (seat_from (suc n) k (seat_low n k is) (omega (arith, seat_high n k is)))))

pub none_some : (n : ℕ) (f : ℕ → Bool) → some n f ≡ false → (k : ℕ) → seat n k ≡ true → f k ≡ false
none_some zero f none k is = let z : ⊥ = omega (arith, seat_low 0 k is, seat_high 0 k is) in absurd z
none_some (suc n) f none k is =
    let p = or_parts (f (suc n)) (some n f) none in
    elim (cases_eq k (suc n)) [
      | inl same ↦ ap f same ∙ p.0
      | inr other ↦ none_some n f p.1 k (seat_from n k (seat_low (suc n) k is) (omega (arith, seat_high (suc n) k is)))
    ]

pub some_where : (n : ℕ) (f : ℕ → Bool) → some n f ≡ true → (k : ℕ) × (seat n k ≡ true) × (f k ≡ true)
some_where zero f one = let z : ⊥ = both_ways false refl one in absurd z
some_where (suc n) f one = elim (or_cases (f (suc n)) (some n f) one) [
  | inl top ↦ (suc n, seat_from (suc n) (suc n) (omega arith) (omega arith), top)
  | inr rest ↦
      let w = some_where n f rest in
      (w.0, seat_from (suc n) w.0 (seat_low n w.0 w.1) (omega (arith, seat_high n w.0 w.1)), w.2)
]

module _ {R : Type 0} where
  -- a word of a row, in any image of the row
  pub record WordAt (row : List R) (j : ℕ) : Type 0 where
    pub word : R
    pub is : get_or (map Some row) j None ≡ Some word

  pub word_there : (row : List R) (j : ℕ) → j < length row → WordAt row j
  word_there [] j less = let z : ⊥ = omega arith in absurd z
  word_there (w ∷ row) zero less = record { word = w; is = refl }
  word_there (w ∷ row) (suc j) less = let k : j < length row = omega arith in let r = word_there row j k in record { word = r.word; is = r.is }

  pub word_read : {E : Type 0} (e : R → E) (d : E) (row : List R) (j : ℕ) (w : R) → get_or (map Some row) j None ≡ Some w → get_or (map e row) j d ≡ e w
  word_read e d [] j w is = cc
  word_read e d (v ∷ row) zero w is = let same : v ≡ w = cc in ap e same
  word_read e d (v ∷ row) (suc j) w is = word_read e d row j w is

  pub square_empty : (o : Option R) → is_some o ≡ false → o ≡ None
  square_empty None e = refl
  square_empty (Some w) e = let z : ⊥ = both_ways true e refl in absurd z

  pub not_sent : (x : Page R) (q : ℕ) → sent x q ≡ false → (r : ℕ) → seat x.seats r ≡ true → x.at r q ≡ None
  not_sent x q none r is = square_empty (x.at r q) (none_some x.seats (λ p. is_some (x.at p q)) none r is)

  -- what is read of a full page
  pub row_is : (veiled : Bool) (x : Page R) (r : ℕ) (row : List R) → ltb 0 (missing x) ≡ false → row_seen veiled x r ≡ Some row → map Some row ≡ listed x.seats (λ k. x.at r (suc k))
  row_is veiled x r row full is =
      gathered_is (listed x.seats (λ k. seen veiled x r (suc k))) row is
      ∙ ap (λ b. listed x.seats (λ k. cond b None (x.at r (suc k)))) (ap (λ b. veiled && b) full ∙ and_right veiled false refl)

  pub row_long : (veiled : Bool) (x : Page R) (r : ℕ) (row : List R) → ltb 0 (missing x) ≡ false → row_seen veiled x r ≡ Some row → length row ≡ x.seats
  row_long veiled x r row full is = sym (length-map row Some) ∙ ap length (row_is veiled x r row full is) ∙ listed_length x.seats (λ k. x.at r (suc k))

  pub row_square : (veiled : Bool) (x : Page R) (r : ℕ) (row : List R) → ltb 0 (missing x) ≡ false → row_seen veiled x r ≡ Some row
      → (q : ℕ) → seat x.seats q ≡ true → get_or (map Some row) (q - 1) None ≡ x.at r q
  row_square veiled x r row full is q seated =
      let low = seat_low x.seats q seated in
      let high = seat_high x.seats q seated in
      let back : suc (q - 1) ≡ q = omega arith in
      ap (λ l. get_or l (q - 1) None) (row_is veiled x r row full is)
      ∙ listed_at x.seats (λ k. x.at r (suc k)) (q - 1) None (omega arith)
      ∙ ap (x.at r) back

  -- rows from the same squares
  same_listed : (n : ℕ) (f g : ℕ → Option R) → ((k : ℕ) → k < n → f k ≡ g k) → listed n f ≡ listed n g
  same_listed zero f g same = refl
  same_listed (suc n) f g same = λ i. same 0 (omega arith) i ∷ same_listed n (λ k. f (suc k)) (λ k. g (suc k)) (λ k h. let up : suc k < suc n = omega arith in same (suc k) up) i

  unmapped : (a b : List R) → ◌≡◌ {A = List (Option R)} (map Some a) (map Some b) → a ≡ b
  unmapped [] [] e = refl
  unmapped [] (y ∷ b) e = let n = ap length e in let z : ⊥ = omega (arith, length-map b Some) in absurd z
  unmapped (x ∷ a) [] e = let n = ap length e in let z : ⊥ = omega (arith, length-map a Some) in absurd z
  unmapped (x ∷ a) (y ∷ b) e = let h : x ≡ y = cc in let t : map Some a ≡ map Some b = cc in λ i. h i ∷ unmapped a b t i

  pub rows_same : (veiled : Bool) (x : Page R) (q r : ℕ) (a b : List R) → ltb 0 (missing x) ≡ false → row_seen veiled x q ≡ Some a → row_seen veiled x r ≡ Some b
      → ((s : ℕ) → x.at q s ≡ x.at r s) → a ≡ b
  rows_same veiled x q r a b full isa isb same =
      unmapped a b (row_is veiled x q a full isa ∙ same_listed x.seats (λ k. x.at q (suc k)) (λ k. x.at r (suc k)) (λ k h. same (suc k)) ∙ sym (row_is veiled x r b full isb))

module _ {R : Type 0} (U : Setup R) where
  pub inner_seat : (i : ℕ) → inner U i ≡ true → seat U.seats i ≡ true
  inner_seat i is = (and_parts (seat U.seats i) (U.inside i) is).0

  pub inner_inside : (i : ℕ) → inner U i ≡ true → Seat U.seats U.inside i
  inner_inside i is = record { from = seat_low U.seats i (inner_seat i is); to = seat_high U.seats i (inner_seat i is); member = (and_parts (seat U.seats i) (U.inside i) is).1 }

  pub inside_inner : (i : ℕ) → Seat U.seats U.inside i → inner U i ≡ true
  inside_inner i h = and_from (seat U.seats i) (U.inside i) (seat_from U.seats i h.from h.to) h.member

  pub outside_outer : (i : ℕ) → Seat U.seats (λ k. not (U.inside k)) i → outer U i ≡ true
  outside_outer i h = and_from (seat U.seats i) (not (U.inside i)) (seat_from U.seats i h.from h.to) h.member

  pub outer_seat : (i : ℕ) → outer U i ≡ true → seat U.seats i ≡ true
  outer_seat i is = (and_parts (seat U.seats i) (not (U.inside i)) is).0

  -- no seat is both
  pub not_both : (i : ℕ) → inner U i ≡ true → outer U i ≡ true → ⊥
  not_both i a b = both_ways (U.inside i) (not-true (U.inside i) (and_parts (seat U.seats i) (not (U.inside i)) b).1) (and_parts (seat U.seats i) (U.inside i) a).1
