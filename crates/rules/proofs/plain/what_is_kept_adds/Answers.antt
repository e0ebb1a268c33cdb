use Rattle.rules.proofs.Evaluation.{what_is_kept_adds, methods_sound}
use Rattle.rules.proofs.plain.what_is_kept_adds.Goals as goal

pub returns : goal.returns
returns g c =
    what_is_kept_adds g.M.Methods.method
    (methods_sound g.M.Methods.method _ _ _ g.met.M.Methods.first g.met.M.Methods.second g.met.M.Methods.third g.met.M.Zero.Encoding.sound g.met.M.One.Encoding.sound g.met.M.Two.Encoding.sound)
    g.R.Ring.shape
