use Rattle.rules.proofs.Evaluation.{methods_sound}
use Rattle.claim.proofs.Runs.{claim_holds}
use Rattle.claim.proofs.claim_holds.Goals as goal

pub returns : goal.returns
returns g c =
    claim_holds g.R.Ring g.met.R.Ring.pointed g.M.Methods.method
    (methods_sound g.M.Methods.method _ _ _ g.met.M.Methods.first g.met.M.Methods.second g.met.M.Methods.third g.met.M.Zero.Encoding.sound g.met.M.One.Encoding.sound g.met.M.Two.Encoding.sound)
