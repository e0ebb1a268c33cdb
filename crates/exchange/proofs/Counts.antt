-- Sums and tests over the seats 1 to n, and what the loops over tables keep.
use Rattle.std.proofs.Common.{Some, Ok, Err, Result, ◌-◌, MatchBool, replicate, set, [], ◌++◌, not, take, drop, count_by, ◌≤◌, ◌≡◌, ℕ, zero, suc, pred, ◌+◌, ◌*◌, ◌<◌, Bool, true, false, cond, ◌||◌, List, length, get_or, is_some, None, Option, sym, refl, ap, ◌∙◌, ap₂, inl, inr, add-zero, add_assoc, add-suc, suc-mul, mul-zero, zero-add, zero-mul, mul-add, add-one, arith}
use Rattle.std.specs.List.{HoldsAt, AllWithin}
use Rattle.std.proofs.lemmas.List.{get_or-take, get_or-drop, length-take, length-drop, length-replicate, take-append-drop, take_all, drop_all, append-nil}
use Rattle.std.proofs.lemmas.List.Edits.{paste_none, paste_all, fill_from_more}
use Rattle.std.proofs.lemmas.Slice.{put_mid-paste}
use borrow.Rule.Slice.PartMut.{put_mid}
use lib.Seq.{paste}
use Rattle.std.proofs.lemmas.List.Sums.{sum_by_more}
use Rattle.std.proofs.lemmas.Bool.{or_from, or_left, or_right, cases_eq}
use Rattle.std.proofs.lemmas.Bool.Decides.{nat_tests}
use Rattle.curve.specs.declared.refusal.Refusal.{Refusal}
use Rattle.curve.specs.declared.refusal.Refusal.TheVariants.{Placed}
use Rattle.exchange.specs.Sheet.{seat, some, total, outcome}
use Rattle.exchange.specs.Tables.{held, empties}

-- one of the places from start on, so many of them, is filled
abbrev pub held_part : {R : Type 0} → List (Option R) → ℕ → ℕ → Bool
held_part table start count = some count (λ k. is_some (get_or table (start + pred k) None))

-- how many of the first places are empty
abbrev pub empties_first : {R : Type 0} → List (Option R) → ℕ → ℕ
empties_first table count = total count (λ k. cond (is_some (get_or table (pred k) None)) 0 1)

-- the value o at the places from start on, so many of them
abbrev pub filled : {R : Type 0} → List (Option R) → ℕ → ℕ → Option R → List (Option R)
filled table start zero o = table
filled table start (suc k) o = set (filled table start k o) (start + k) o

-- one seat is enough
pub some_from : (n : ℕ) (f : ℕ → Bool) (k : ℕ) → k < n → f (suc k) ≡ true → some n f ≡ true
some_from zero f k lt e = let z : ⊥ = omega arith in absurd z
some_from (suc n) f k lt e =
    elim (cases_eq k n) [
      | inl same ↦ or_left (f (suc n)) (some n f) (ap (λ j. f (suc j)) (sym same) ∙ e)
      | inr other ↦ let less : k < n = omega arith in or_right (f (suc n)) (some n f) (some_from n f k less e)
    ]

-- no seat
pub some_none : (n : ℕ) (f : ℕ → Bool) → ((k : ℕ) → k < n → f (suc k) ≡ false) → some n f ≡ false
some_none zero f none = refl
some_none (suc n) f none =
    let top : n < suc n = omega arith in
    or_from (f (suc n)) (some n f) (none n top) (some_none n f (λ k lt. let up : k < suc n = omega arith in none k up))

pub seat_up : (n k : ℕ) → k < n → seat n (suc k) ≡ true
seat_up n k lt = grind (arith, nat_tests)

pub some_same : (n : ℕ) (f h : ℕ → Bool) → ((k : ℕ) → k < n → f (suc k) ≡ h (suc k)) → some n f ≡ some n h
some_same zero f h e = refl
some_same (suc n) f h e =
    let top : n < suc n = omega arith in
    ap₂ (λ a b. a || b) (e n top) (some_same n f h (λ k lt. let up : k < suc n = omega arith in e k up))

pub some_constant : (n : ℕ) (b : Bool) → 0 < n → some n (λ _. b) ≡ b
some_constant zero b lt = let z : ⊥ = omega arith in absurd z
some_constant (suc zero) true lt = refl
some_constant (suc zero) false lt = refl
some_constant (suc (suc n)) true lt = refl
some_constant (suc (suc n)) false lt = some_constant (suc n) false (omega arith)

pub total_same : (n : ℕ) (f h : ℕ → ℕ) → ((k : ℕ) → k < n → f (suc k) ≡ h (suc k)) → total n f ≡ total n h
total_same zero f h e = refl
total_same (suc n) f h e =
    let top : n < suc n = omega arith in
    ap₂ (λ a b. a + b) (e n top) (total_same n f h (λ k lt. let up : k < suc n = omega arith in e k up))

pub total_constant : (n c : ℕ) → total n (λ _. c) ≡ n * c
total_constant zero c = sym (zero-mul c)
total_constant (suc n) c = omega (arith, total_constant n c, suc-mul n c)

module _ {R : Type 0} (table : List (Option R)) where
  -- the part that `[start..start + count]` is
  abbrev part : ℕ → ℕ → List (Option R)
  part start count = take (start + count - start) (drop start table)

  pub length_part : (start count : ℕ) → start + count ≤ length table → length (part start count) ≡ count
  length_part start count within = omega (arith, length-take (start + count - start) (drop start table), length-drop start table)

  part_at : (start count k : ℕ) → k < count → get_or (part start count) k None ≡ get_or table (start + k) None
  part_at start count k lt = get_or-take (start + count - start) (drop start table) k None (omega arith) ∙ get_or-drop start table k None

  -- what `any` answers
  pub held_is : (r : Bool)
      → MatchBool r ((k : ℕ) × (k < length table) × HoldsAt (λ o. is_some o ≡ true) table k) (AllWithin (λ o. is_some o ≡ false) table 0 (length table))
      → r ≡ held table
  held_is true (k, below, is) = sym (some_from (length table) _ k below (is None))
  held_is false none = sym (some_none (length table) _ (λ k lt. none k None (omega arith) lt))

  pub held_of_part : (start count : ℕ) → start + count ≤ length table → held (part start count) ≡ held_part table start count
  held_of_part start count within =
      ap (λ n. some n (λ k. is_some (get_or (part start count) (pred k) None))) (length_part start count within)
      ∙ some_same count _ _ (λ k lt. ap is_some (part_at start count k lt))

  -- a part that is left as it was
  part_kept : (start count : ℕ) → put_mid start (start + count - start) table (part start count) ≡ table
  part_kept start count = ap (λ l. take start table ++ l) (take-append-drop (start + count - start) (drop start table)) ∙ take-append-drop start table

  -- a table each of whose places is written, one after another
  pub all_filled : (i : ℕ) (ys : List (Option R)) (o : Option R) → ys ≡ paste table 0 (replicate i o) i → i ≡ length table → ys ≡ replicate (length table) o
  all_filled i ys o is end =
      is
      ∙ ap (λ j. paste table 0 (replicate j o) j) end
      ∙ paste_all table 0 (replicate (length table) o) (length table) (sym (length-replicate (length table) o))
      ∙ ap (λ l. replicate (length table) o ++ l) (drop_all (0 + length table) table (omega arith))
      ∙ append-nil (replicate (length table) o)

  filled_is : (start count : ℕ) (o : Option R) → start + count ≤ length table → filled table start count o ≡ paste table start (replicate count o) count
  filled_is start zero o within = paste_none table start []
  filled_is start (suc k) o within =
      ap (λ l. set l (start + k) o) (filled_is start k o (omega arith))
      ∙ fill_from_more table start k o (omega arith)
      ∙ ap (λ j. paste table start (replicate j o) j) (add-one k)

  -- a part each of whose places is written
  part_filled : (start count : ℕ) (o : Option R) → start + count ≤ length table
      → put_mid start (start + count - start) table (replicate (length (part start count)) o) ≡ filled table start count o
  part_filled start count o within =
      put_mid-paste start (start + count - start) table _ (replicate count o) count (ap (λ j. replicate j o) (length_part start count within)) (omega arith)
      (sym (length-replicate count o))
      ∙ sym (filled_is start count o within)

  -- what came back in a part, in the table
  pub part_placed : (start count : ℕ) (o : Option R) (r : Result (Unit {0}) Refusal) (ys : List (Option R)) → start + count ≤ length table
      → ◌≡◌ {A = Result (Unit {0}) Refusal × List (Option R)} (r, ys) (outcome (cond (held (part start count)) (Some Placed) None) (part start count) (replicate (length (part start count)) o))
      → ◌≡◌ {A = Result (Unit {0}) Refusal × List (Option R)} (r, put_mid start (start + count - start) table ys)
      (outcome (cond (held_part table start count) (Some Placed) None) table (filled table start count o))
  part_placed start count o r ys within is =
      ap (λ (p : Result (Unit {0}) Refusal × List (Option R)). (p.0, put_mid start (start + count - start) table p.1)) is
      ∙ through (held (part start count))
      ∙ ap (λ b. outcome (cond b (Some Placed) None) table (filled table start count o)) (held_of_part start count within)
    where
      through : (b : Bool)
          → ◌≡◌ {A = Result (Unit {0}) Refusal × List (Option R)} (
            (outcome (cond b (Some Placed) None) (part start count) (replicate (length (part start count)) o)).0,
            put_mid start (start + count - start) table (outcome (cond b (Some Placed) None) (part start count) (replicate (length (part start count)) o)).1,
          )
          (outcome (cond b (Some Placed) None) table (filled table start count o))
      through true = ap (λ l. (Err Placed, l)) (part_kept start count)
      through false = ap (λ l. (Ok tt, l)) (part_filled start count o within)

  one_less : (b : Bool) (n : ℕ) → n + cond (not b) 1 0 ≡ cond b 0 1 + n
  one_less true n = omega arith
  one_less false n = omega arith

  -- how many places hold nothing
  pub empties_is : count_by (λ o. not (is_some o)) table ≡ empties table
  empties_is =
      ap (count_by (λ o. not (is_some o))) (sym (take_all (length table) table (omega arith)))
      ∙ counted (length table) (omega arith)
    where
      counted : (n : ℕ) → n ≤ length table → count_by (λ o. not (is_some o)) (take n table) ≡ empties_first table n
      counted zero le = refl
      counted (suc n) le =
          let under : n < length table = omega arith in
          ap (λ k. count_by (λ o. not (is_some o)) (take k table)) (sym (add-one n))
          ∙ sum_by_more (λ o. cond (not (is_some o)) 1 0) table n None under
          ∙ one_less (is_some (get_or table n None)) _
          ∙ ap (λ k. cond (is_some (get_or table n None)) 0 1 + k) (counted n (omega arith))

  -- the first places, as a part
  pub empties_of_part : (n : ℕ) → n ≤ length table → empties (take n table) ≡ empties_first table n
  empties_of_part n le =
      ap (λ m. total m (λ k. cond (is_some (get_or (take n table) (pred k) None)) 0 1)) (omega (arith, length-take n table))
      ∙ total_same n _ _ (λ k lt. ap (λ o. cond (is_some o) 0 1) (get_or-take n table k None lt))

pub total_times : (n m : ℕ) (f : ℕ → ℕ) → total n (λ k. m * f k) ≡ m * total n f
total_times zero m f = sym (mul-zero m)
total_times (suc n) m f = omega (arith, total_times n m f, mul-add m (f (suc n)) (total n f))

-- the first m + n places: the first m and then n more
pub total_more : (m n : ℕ) (h : ℕ → ℕ) → total (m + n) (λ k. h (pred k)) ≡ total n (λ k. h (m + pred k)) + total m (λ k. h (pred k))
total_more m zero h = ap (λ j. total j (λ k. h (pred k))) (add-zero m) ∙ sym (zero-add _)
total_more m (suc n) h =
    ap (λ j. total j (λ k. h (pred k))) (add-suc m n)
    ∙ ap (λ j. h (m + n) + j) (total_more m n h)
    ∙ sym (add_assoc (h (m + n)) (total n (λ k. h (m + pred k))) (total m (λ k. h (pred k))))

-- the first a * n places, row by row
pub total_rows : (a n : ℕ) (h : ℕ → ℕ) → total (a * n) (λ k. h (pred k)) ≡ total a (λ s. total n (λ r. h (pred s * n + pred r)))
total_rows zero n h = ap (λ j. total j (λ k. h (pred k))) (zero-mul n)
total_rows (suc a) n h =
    ap (λ j. total j (λ k. h (pred k))) (suc-mul a n) ∙ total_more (a * n) n h ∙ ap (λ j. total n (λ r. h (a * n + pred r)) + j) (total_rows a n h)
