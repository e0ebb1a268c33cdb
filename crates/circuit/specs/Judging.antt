-- A gate that is being judged.
use Rattle.std.specs.Prelude.{ℕ, Result}
use Rattle.curve.specs.declared.refusal.Refusal.{Refusal}
use Rattle.encoding.specs.Encodings.{Enc}
use Rattle.encoding.specs.declared.layout.Layout.{Layout}
use Rattle.circuit.specs.Gates.{setting_for, rule}
use Rattle.circuit.specs.declared.gates.Candidate.{Candidate}
use Rattle.circuit.specs.declared.kinds.Kind.{Kind}

-- what the rule of a kind makes of it
abbrev pub ruled : Candidate → (ℕ → Enc) → Kind → Result Layout Refusal
ruled c method kind = rule (setting_for c.limits method) c.codes.now c.layouts.now c.gate c.detail c.first c.second kind

-- the left, right and result layout of a method's encoding
abbrev pub layouts_of : Enc → Layout × Layout × Layout
layouts_of enc = (enc.left, enc.right, enc.out)
