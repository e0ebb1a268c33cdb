-- Every gate of a list that is taken fits.
use Rattle.std.proofs.Common.{◌≡◌, ℕ, zero, suc, ◌+◌, ◌<◌, ◌≤◌, Bool, true, false, cond, not, ◌&&◌, eqb, ltb, List, [], ◌∷◌, ◌++◌, length, get_or, take, Some, Ok, Err, Result, sym, refl, ap, ◌∙◌, inl, inr, add-zero, zero-add, add-one, arith, length-append}
use Rattle.std.proofs.lemmas.List.{take_all, get_or-take}
use Rattle.std.proofs.lemmas.Bool.{false≢true, and_parts, ltb-true, eqb-true, eq-eqb, cases_eq}
use Rattle.curve.specs.declared.refusal.Refusal.{Refusal}
use Rattle.curve.specs.declared.refusal.Refusal.TheVariants.{Length}
use Rattle.encoding.specs.Numbers.{layout_of, number_of}
use Rattle.encoding.specs.declared.layout.Layout.{Layout}
use Rattle.encoding.specs.declared.layout.Layout.TheVariants.{Plain, Lanes, Left, Right}
use Rattle.circuit.specs.Codes.{kind_of, detail_of, first_of, second_of}
use Rattle.circuit.specs.Gates.{Setting, operand, layout_at, same_layout, judged, rule, gate_judged}
use Rattle.circuit.specs.Kinds.{kind_by, gate_in}
use Rattle.circuit.specs.Lists.{check_from, lengths_wrong}
use Rattle.circuit.specs.Wellformed.{Operand, Fits, TakenListsFit}
use Rattle.circuit.specs.declared.kinds.Kind.{Kind}
use Rattle.circuit.specs.declared.kinds.Kind.TheVariants as kind

pub record JudgedSo (d o y : Bool) (l m : Layout) : Type 0 where
  pub detail : d ≡ true
  pub operands : o ≡ true
  pub layouts : y ≡ true
  pub own : l ≡ m

judged_ok : (d o y : Bool) (l m : Layout) → judged d o y l ≡ Ok m → JudgedSo d o y l m
judged_ok true true true l m e = record { detail = refl; operands = refl; layouts = refl; own = cc }
judged_ok true true false l m e = cc
judged_ok true false y l m e = cc
judged_ok false o y l m e = cc

numbered : (l : Layout) → layout_of (number_of l) ≡ Some l
numbered Plain = refl
numbered Lanes = refl
numbered Left = refl
numbered Right = refl

pub same_is : (l m : Layout) → same_layout l m ≡ true → l ≡ m
same_is l m e =
    let n : number_of l ≡ number_of m = eqb-true _ _ e in
    let some : Some l ≡ Some m = sym (numbered l) ∙ ap layout_of n ∙ numbered m in
    cc

not_true : (b : Bool) → not b ≡ true → b ≡ true → ⊥
not_true true e h = false≢true e
not_true false e h = false≢true h

module _ (S : Setting) (codes : List ℕ) (layouts : List Layout) (g : ℕ) where
  an_operand : (a : ℕ) (l : Layout) → operand codes g a ≡ true → (a < g → layout_at layouts a ≡ l) → Operand S codes layouts g a l
  an_operand a l e f =
      let both = and_parts _ _ e in
      let less : a < g = ltb-true _ _ both.0 in
      record { earlier = less; no_output = λ seven. not_true _ both.1 (eq-eqb _ _ seven); laid_so = f less }

  two : (d a b : ℕ) (m : Layout) → judged (eqb d 0) (operand codes g a && operand codes g b) (same_layout (layout_at (take g layouts) a) (layout_at (take g layouts) b)) (layout_at (take g layouts) a) ≡ Ok m
      → Operand S codes layouts g a m × Operand S codes layouts g b m
  two d a b m e =
      let j = judged_ok _ _ _ _ _ e in
      let o = and_parts _ _ j.operands in (
        an_operand a m o.0 (λ less. sym (get_or-take g layouts a Plain less) ∙ j.own),
        an_operand b m o.1 (λ less. sym (get_or-take g layouts b Plain less) ∙ sym (same_is _ _ j.layouts) ∙ j.own),
      )

  one : (d a b : ℕ) (m : Layout) → judged (eqb d 0) (operand codes g a && ltb b S.constants) true (layout_at (take g layouts) a) ≡ Ok m → Operand S codes layouts g a m × (b < S.constants)
  one d a b m e =
      let j = judged_ok _ _ true _ _ e in
      let o = and_parts _ _ j.operands in
      (an_operand a m o.0 (λ less. sym (get_or-take g layouts a Plain less) ∙ j.own), ltb-true _ _ o.1)

  -- by the kind, the fields being what they are
  fits_by : (k : Kind) (d a b : ℕ) (m : Layout) → rule S codes (take g layouts) g d a b k ≡ Ok m → Fits S codes layouts g m (gate_in k d a b)
  fits_by kind.In d a b m e = let j = judged_ok _ _ _ _ _ e in (ltb-true _ _ j.operands, j.own)
  fits_by kind.Add d a b m e = two d a b m e
  fits_by kind.Sub d a b m e = two d a b m e
  fits_by kind.Scale d a b m e = one d a b m e
  fits_by kind.Offset d a b m e = one d a b m e
  fits_by kind.Place d a b m e =
      let j = judged_ok _ _ _ _ _ e in
      let o = and_parts _ _ j.operands in
      (an_operand a Plain o.0 (λ less. sym (get_or-take g layouts a Plain less) ∙ same_is _ _ j.layouts), ltb-true _ _ o.1, j.own)
  fits_by kind.Mul d a b m e =
      let j = judged_ok _ _ _ _ _ e in
      let o = and_parts _ _ j.operands in
      let y = and_parts _ _ j.layouts in (
        ltb-true _ _ j.detail,
        an_operand a (S.method d).left o.0 (λ less. sym (get_or-take g layouts a Plain less) ∙ same_is _ _ y.0),
        an_operand b (S.method d).right o.1 (λ less. sym (get_or-take g layouts b Plain less) ∙ same_is _ _ y.1),
        j.own,
      )
  fits_by kind.Out d a b m e =
      let j = judged_ok _ _ true _ _ e in
      an_operand a m j.operands (λ less. sym (get_or-take g layouts a Plain less) ∙ j.own)

-- a list that begins with some layouts and one more
prefix : (before : List Layout) (l : Layout) (layouts : List Layout) → take (suc (length before)) layouts ≡ before ++ (l ∷ []) → take (length before) layouts ≡ before
prefix [] l layouts e = refl
prefix (x ∷ before) l [] e = cc
prefix (x ∷ before) l (y ∷ layouts) e = let rest = prefix before l layouts cc in cc

last_of : (before : List Layout) (l : Layout) (layouts : List Layout) → take (suc (length before)) layouts ≡ before ++ (l ∷ []) → layout_at layouts (length before) ≡ l
last_of [] l [] e = cc
last_of [] l (y ∷ layouts) e = cc
last_of (x ∷ before) l [] e = cc
last_of (x ∷ before) l (y ∷ layouts) e = last_of before l layouts cc

module _ (S : Setting) (codes : List ℕ) where
  -- what is known once n gates after the first ones are judged
  pub record Rest (before layouts : List Layout) (n : ℕ) : Type 0 where
    pub long : length layouts ≡ length before + n
    pub starts : take (length before) layouts ≡ before
    pub each : (g : ℕ) → length before ≤ g → g < length before + n → gate_judged S codes (take g layouts) g ≡ Ok (layout_at layouts g)

  -- one gate before the rest
  one_more : (before : List Layout) (n : ℕ) (layouts : List Layout)
      → ((l : Layout) → check_from S codes (before ++ (l ∷ [])) n ≡ Ok layouts → Rest (before ++ (l ∷ [])) layouts n)
      → (r : Result Layout Refusal) → gate_judged S codes before (length before) ≡ r
      → ◌≡◌ {A = Result (List Layout) Refusal} (elim r [ Ok l ↦ check_from S codes (before ++ (l ∷ [])) n | Err x ↦ Err x ]) (Ok layouts) → Rest before layouts (suc n)
  one_more before n layouts ih (Err x) er e = cc
  one_more before n layouts ih (Ok l) er e =
      let h = ih l e in
      let up : length (before ++ (l ∷ [])) ≡ suc (length before) = length-append before (l ∷ []) ∙ add-one (length before) in
      let head : take (suc (length before)) layouts ≡ before ++ (l ∷ []) = ap (λ k. take k layouts) (sym up) ∙ h.starts in
      let starts : take (length before) layouts ≡ before = prefix before l layouts head in
      let own : layout_at layouts (length before) ≡ l = last_of before l layouts head in
      record {
        long = let g = h.long in omega arith;
        starts = starts;
        each = λ g low high. elim (cases_eq g (length before)) [
          | inl same ↦
              ap (λ k. gate_judged S codes (take k layouts) k) same
              ∙ ap (λ m. gate_judged S codes m (length before)) starts
              ∙ er
              ∙ ap Ok (sym own ∙ ap (layout_at layouts) (sym same))
          | inr other ↦ h.each g (omega arith) (omega arith)
        ];
      }

  rest_of : (before : List Layout) (n : ℕ) (layouts : List Layout) → check_from S codes before n ≡ Ok layouts → Rest before layouts n
  rest_of before zero layouts e =
      let same : before ≡ layouts = cc in
      record {
        long = ap length (sym same) ∙ sym (add-zero (length before));
        starts = ap (take (length before)) (sym same) ∙ take_all (length before) before (omega arith);
        each = λ g low high. let z : ⊥ = omega arith in absurd z;
      }
  rest_of before (suc n) layouts e = one_more before n layouts (λ l. rest_of (before ++ (l ∷ [])) n layouts) (gate_judged S codes before (length before)) refl e

  lengths_right : (b : Bool) (x : Result (List Layout) Refusal) (layouts : List Layout) → cond b (Err Length) x ≡ Ok layouts → x ≡ Ok layouts
  lengths_right true x layouts e = cc
  lengths_right false x layouts e = e

pub taken_lists_fit : TakenListsFit
taken_lists_fit S codes layouts e =
    let r = rest_of S codes [] (length codes) layouts (lengths_right S codes (lengths_wrong S codes) _ layouts e) in (
      r.long ∙ zero-add (length codes),
      λ g h.
          let c = get_or codes g 0 in
          fits_by S codes layouts g (kind_by (kind_of c)) (detail_of c) (first_of c) (second_of c) (layout_at layouts g) (r.each g (omega arith) (omega arith)),
    )
