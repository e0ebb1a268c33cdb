-- Which gate is taken, with which layout, and why another is refused. A gate is judged by the gates before it.
use Rattle.std.specs.Prelude.{ℕ, Bool, true, cond, not, ◌&&◌, List, length, get_or, take, Ok, Err, Result, ◌==◌, nat_lt, slice_index, slice_index_or}
use Rattle.std.specs.List.{list_all}
use Rattle.curve.specs.declared.refusal.Refusal.{Refusal}
use Rattle.curve.specs.declared.refusal.Refusal.TheVariants.{Detail, Operand, Layout as LayoutDiffers}
use Rattle.encoding.specs.Encodings.{Enc}
use Rattle.encoding.specs.Layouts.{positions}
use Rattle.encoding.specs.Numbers.{number_of}
use Rattle.encoding.specs.declared.layout.Layout.{Layout}
use Rattle.encoding.specs.declared.layout.Layout.TheVariants.{Plain}
use Rattle.circuit.specs.Codes.{kind_of, detail_of, first_of, second_of}
use Rattle.circuit.specs.Kinds.{named_layout, kind_by}
use Rattle.circuit.specs.declared.checked.Limits.{Limits}
use Rattle.circuit.specs.declared.kinds.Kind.{Kind}
use Rattle.circuit.specs.declared.kinds.Kind.TheVariants as kind

-- gate a comes before gate g and is no output
abbrev pub operand : List ℕ → ℕ → ℕ → Bool
operand codes g a = nat_lt a g && not (kind_of (slice_index codes a) == 7)

-- the layout of gate a
abbrev pub layout_at : List Layout → ℕ → Layout
layout_at layouts a = slice_index_or layouts a Plain

abbrev pub same_layout : Layout → Layout → Bool
same_layout l m = number_of l == number_of m

-- a gate gives input i no other layout than l
abbrev pub input_agrees : ℕ → Layout → ℕ → Bool
input_agrees i l c = cond (kind_of c == 0 && first_of c == i) (same_layout (named_layout (detail_of c)) l) true

-- no gate of the list has given input i another layout than l
abbrev pub agrees : List ℕ → ℕ → Layout → Bool
agrees codes i l = list_all (input_agrees i l) codes

-- detail, then operand, then layout
abbrev pub judged : Bool → Bool → Bool → Layout → Result Layout Refusal
judged detail operands layouts l = cond detail (cond operands (cond layouts (Ok l) (Err LayoutDiffers)) (Err Operand)) (Err Detail)

-- what a list of gates is checked for: the degree, how many inputs and constants there are, and the methods
pub record Setting : Type 0 where
  pub degree : ℕ
  pub inputs : ℕ
  pub constants : ℕ
  pub method : ℕ → Enc

abbrev pub setting : ℕ → ℕ → ℕ → (ℕ → Enc) → Setting
setting d i c m = record { degree = d; inputs = i; constants = c; method = m }

-- the setting of these limits and methods
abbrev pub setting_for : Limits → (ℕ → Enc) → Setting
setting_for limits method = setting limits.degree limits.inputs limits.constants method

-- The rules of the kinds, for gate g with this detail and these two operands.
module _ (S : Setting) (codes : List ℕ) (layouts : List Layout) (g detail a b : ℕ) where
  -- IN: the layout, the input, 0
  abbrev pub rule_in : Result Layout Refusal
  rule_in = judged (nat_lt detail 4 && b == 0) (nat_lt a S.inputs) (agrees (take g codes) a (named_layout detail)) (named_layout detail)

  -- ADD and SUB: two gates of one layout
  abbrev pub rule_sum : Result Layout Refusal
  rule_sum = judged (detail == 0) (operand codes g a && operand codes g b) (same_layout (layout_at layouts a) (layout_at layouts b)) (layout_at layouts a)

  -- SCALE and OFFSET: a gate and a constant
  abbrev pub rule_constant : Result Layout Refusal
  rule_constant = judged (detail == 0) (operand codes g a && nat_lt b S.constants) true (layout_at layouts a)

  -- PLACE: the new layout, a plain gate, a lane of the new layout
  abbrev pub rule_place : Result Layout Refusal
  rule_place =
      judged (nat_lt detail 4) (operand codes g a && nat_lt b (length (positions (named_layout detail) S.degree))) (same_layout (layout_at layouts a) Plain) (named_layout detail)

  -- MUL: the method, a gate in its left layout and one in its right layout
  abbrev pub rule_mul : Result Layout Refusal
  rule_mul =
      judged (nat_lt detail 3) (operand codes g a && operand codes g b)
      (same_layout (layout_at layouts a) (S.method detail).left && same_layout (layout_at layouts b) (S.method detail).right) (S.method detail).out

  -- OUT: a gate, 0
  abbrev pub rule_out : Result Layout Refusal
  rule_out = judged (detail == 0 && b == 0) (operand codes g a) true (layout_at layouts a)

  abbrev pub rule : Kind → Result Layout Refusal
  rule kind.In = rule_in
  rule kind.Add = rule_sum
  rule kind.Sub = rule_sum
  rule kind.Scale = rule_constant
  rule kind.Offset = rule_constant
  rule kind.Place = rule_place
  rule kind.Mul = rule_mul
  rule kind.Out = rule_out

-- gate g, by its code and the gates before it
abbrev pub gate_judged : Setting → List ℕ → List Layout → ℕ → Result Layout Refusal
gate_judged S codes layouts g =
    let c = get_or codes g 0 in
    rule S codes layouts g (detail_of c) (first_of c) (second_of c) (kind_by (kind_of c))
