-- A list worked through gate by gate.
use Rattle.std.proofs.Common.{◌≡◌, ℕ, suc, ◌+◌, ◌-◌, ◌<◌, ◌≤◌, true, false, List, [], ◌∷◌, ◌++◌, length, take, set, Ok, Err, Result, sym, ap, ◌∙◌, add-one, arith, length-append, take-suc-set}
use Rattle.std.proofs.lemmas.Bool.{cond-true, cond-false}
use Rattle.curve.specs.declared.refusal.Refusal.{Refusal}
use Rattle.curve.specs.declared.refusal.Refusal.TheVariants.{Length}
use Rattle.encoding.specs.declared.layout.Layout.{Layout}
use Rattle.circuit.specs.Gates.{Setting, gate_judged}
use Rattle.circuit.specs.Lists.{check_from, lengths_wrong, list_checked}

-- after i gates with these layouts, the rest decides
pub record Worked (S : Setting) (codes : List ℕ) (layouts : List Layout) (i : ℕ) : Type 0 where
  pub rest : list_checked S codes ≡ check_from S codes layouts (length codes - i)
  pub many : length layouts ≡ i

module _ (S : Setting) (codes : List ℕ) where
  pub length_refused : true ≡ lengths_wrong S codes → list_checked S codes ≡ Err Length
  length_refused e = cond-true (lengths_wrong S codes) (Err Length) (check_from S codes [] (length codes)) (sym e)

  pub worked_none : (layouts : List Layout) → false ≡ lengths_wrong S codes → layouts ≡ [] → Worked S codes layouts 0
  worked_none layouts e none = record {
    rest =
        cond-false (lengths_wrong S codes) (Err Length) (check_from S codes [] (length codes)) (sym e)
        ∙ ap (λ l. check_from S codes l (length codes)) (sym none)
        ∙ ap (check_from S codes layouts) (let same : length codes ≡ length codes - 0 = omega arith in same);
    many = ap length none;
  }

  -- what the next gate's judgement comes to
  abbrev after : List Layout → ℕ → Result Layout Refusal → Result (List Layout) Refusal
  after layouts n r = elim r [ Ok l ↦ check_from S codes (layouts ++ (l ∷ [])) n | Err e ↦ Err e ]

  next : (layouts : List Layout) (i : ℕ) (r : Result Layout Refusal) → i < length codes → length layouts ≡ i → r ≡ gate_judged S codes layouts i
      → check_from S codes layouts (length codes - i) ≡ after layouts (length codes - (i + 1)) r
  next layouts i r h many e =
      let up : length codes - i ≡ suc (length codes - (i + 1)) = omega arith in
      ap (check_from S codes layouts) up ∙ ap (after layouts (length codes - (i + 1))) (ap (gate_judged S codes layouts) many ∙ sym e)

  pub worked_more : {layouts : List Layout} {i : ℕ} → Worked S codes layouts i → i < length codes → (l : Layout) (more : List Layout) → Ok l ≡ gate_judged S codes layouts i → more ≡ layouts ++ (l ∷ []) → Worked S codes more (i + 1)
  worked_more {layouts} {i} w h l more e em = record {
    rest = w.rest ∙ next layouts i (Ok l) h w.many e ∙ ap (λ m. check_from S codes m (length codes - (i + 1))) (sym em);
    many = ap length em ∙ length-append layouts (l ∷ []) ∙ ap (λ n. n + 1) w.many;
  }

  -- the same, in a table whose first i places hold the layouts so far
  pub worked_set : {i : ℕ} (table : List Layout) → Worked S codes (take i table) i → i < length codes → i < length table → (l : Layout) → Ok l ≡ gate_judged S codes (take i table) i → Worked S codes (take (i + 1) (set table i l)) (i + 1)
  worked_set {i} table w h room l e = worked_more w h l (take (i + 1) (set table i l)) e (ap (λ n. take n (set table i l)) (add-one i) ∙ take-suc-set table i l room)

  pub worked_not : {layouts : List Layout} {i : ℕ} → Worked S codes layouts i → i < length codes → (e : Refusal) → Err e ≡ gate_judged S codes layouts i → list_checked S codes ≡ Err e
  worked_not {layouts} {i} w h e ee = w.rest ∙ next layouts i (Err e) h w.many ee

  pub worked_all : {layouts : List Layout} {i : ℕ} → Worked S codes layouts i → i ≤ length codes → length codes ≤ i → list_checked S codes ≡ Ok layouts
  worked_all {layouts} {i} w low high = w.rest ∙ ap (check_from S codes layouts) (let none : length codes - i ≡ 0 = omega arith in none)
