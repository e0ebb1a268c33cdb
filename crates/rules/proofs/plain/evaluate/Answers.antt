use Rattle.std.proofs.Common.{rules, vec_items, sym, ap, ◌∙◌, subst, arith}
use Rattle.std.proofs.lemmas.List.{length_push}
use Rattle.std.proofs.lemmas.Slice.Zip.{zip_turn, zip_end}
use Rattle.circuit.specs.Codes.{parts_of}
use Rattle.circuit.specs.Kinds.{gate_by}
use Rattle.curve.specs.Curve.{word}
use Rattle.encoding.specs.declared.layout.Layout.TheVariants.{Plain}
use Rattle.rules.specs.Clear.{clear_gate}
use Rattle.rules.proofs.Evaluation.{methods_sound}
use Rattle.rules.proofs.Loop.{Worked, worked_more, values_are}
use Rattle.rules.proofs.plain.evaluate.Goals as goal

pub push_reserved-requires : goal.push_reserved-requires
push_reserved-requires g c =
    let turn = zip_turn c.args.circuit.now.codes c.args.circuit.now.layouts c.loop-code.yielded c.into_iter-code-iterator.result c.loop-code.code-iterator c.next.new.self c.next.result
    (search rules) (search rules) c.loop-code.yielded_by (c.in-Some.field-0-0, c.in-Some.field-0-1) c.in-Some.is c.next.ensures.steps in
    omega (arith, turn.0, c.loop-code.invariant.0.many, c.loop-code.invariant.1)

pub loop-code-preserved : goal.loop-code-preserved
loop-code-preserved g c =
    let codes = c.args.circuit.now.codes in
    let layouts = c.args.circuit.now.layouts in
    let parts = c.split.result in
    let layout = c.in-Some.field-0-1.now in
    let turn = zip_turn codes layouts c.loop-code.yielded c.into_iter-code-iterator.result c.loop-code.code-iterator c.next.new.self c.next.result
    (search rules) (search rules) c.loop-code.yielded_by (c.in-Some.field-0-0, c.in-Some.field-0-1) c.in-Some.is c.next.ensures.steps in (
      subst (Worked g.R.Ring g.M.Methods.method c.args.constants.now c.args.inputs.now codes layouts (vec_items c.push_reserved.new.self))
          (sym (length_push c.loop-code.yielded (c.in-Some.field-0-0, c.in-Some.field-0-1)))
          (worked_more g.R.Ring g.M.Methods.method c.args.constants.now c.args.inputs.now codes layouts c.loop-code.invariant.0
          parts (c.split.ensures ∙ ap parts_of (turn.2 0)) layout (turn.3 Plain) c.value_of-value.result
          (c.value_of-value.ensures ∙ ap (λ e. clear_gate g.R.Ring.shape g.M.Methods.method c.args.constants.now (word g.R.Ring c.args.inputs.now) layout (word g.R.Ring e) (gate_by parts.0 parts.1 parts.2 parts.3)) c.as_slice.ensures.value)
          _ c.push_reserved.ensures.items),
      omega (arith, c.loop-code.invariant.1, c.push_reserved.ensures.capacity),
    )

pub returns : goal.returns
returns g c =
    let all = zip_end c.args.circuit.now.codes c.args.circuit.now.layouts c.loop-code.yielded c.into_iter-code-iterator.result c.loop-code.code-iterator c.next.new.self c.next.result
    (search rules) (search rules) c.loop-code.yielded_by c.in-None.is c.next.ensures.steps in
    values_are g.R.Ring g.M.Methods.method
    (methods_sound g.M.Methods.method _ _ _ g.met.M.Methods.first g.met.M.Methods.second g.met.M.Methods.third g.met.M.Zero.Encoding.sound g.met.M.One.Encoding.sound g.met.M.Two.Encoding.sound)
    c.args.circuit.now.codes c.args.circuit.now.layouts _ _ _ _ (sym c.if-not-counts_fit.ensures) c.loop-code.invariant.0
    (omega (arith, all, c.layouts.ensures.even))
