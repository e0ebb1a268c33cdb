use Rattle.std.proofs.Common.{◌≡◌, ◌+◌, ◌-◌, ◌<◌, length, drop, sym, refl, ◌∙◌, subst, arith, get_or-take, get_or-drop, length-take, length-drop}
use Rattle.std.proofs.lemmas.Bool.{false≢true}
use Rattle.curve.specs.Curve.{K, word}
use Rattle.curve.proofs.Loops.{read_map}
use Rattle.curve.proofs.Theory.{Agrees, agrees_none, agrees_more, opened_value, opened_off, tests_passed}
use Rattle.curve.proofs.open_row.Goals as goal
use Rattle.curve.proofs.open_row.Goals.{After-same}

-- the word that was read, as a word of the whole row
read : (g : _) (c : After-same g) → g.R.Ring.element c.word-item.result ≡ word g.R.Ring c.args.row.now (c.args.degree + 1 + c.loop-k.k)
read g c =
    let row = c.args.row.now in let m = c.args.degree + 1 in let k = c.loop-k.k in let r = c.word-item.result in
    let below : k < length row - m = omega (arith, length-take (length row - m) (drop m row), length-drop m row) in
    sym (read_map g.R.Ring.element row (m + k) r (K g.R.Ring).𝟎 (omega arith) (c.word-item.is ∙ get_or-take (length row - m) (drop m row) k r below ∙ get_or-drop m row k r))

pub loop-k-init : goal.loop-k-init
loop-k-init g c =
    let m = c.args.degree + 1 in let start : m ≡ m + 0 = omega arith in
    subst (Agrees g.R.Ring g.met.R.Ring.pointed c.args.row.now m) start (agrees_none g.R.Ring g.met.R.Ring.pointed c.args.row.now m)

pub loop-k-preserved : goal.loop-k-preserved
loop-k-preserved g c =
    let m = c.args.degree + 1 in let k = c.loop-k.k in let next : m + k + 1 ≡ m + (k + 1) = omega arith in
    subst (Agrees g.R.Ring g.met.R.Ring.pointed c.args.row.now m) next
    (agrees_more g.R.Ring g.met.R.Ring.pointed c.loop-k.invariant _ _ _ c.point.ensures c.interpolated.ensures (read g c.before) (c.if-not-same.ensures.0 refl))

pub returns-then-not-same : goal.returns-then-not-same
returns-then-not-same g c =
    let G = g.R.Ring in
    opened_off G g.met.R.Ring.pointed c.args.degree c.args.row.now (tests_passed _ c.in_ok-tests.ensures) _ _ _
    c.loop-k.invariant (omega arith) (omega (arith, length-take (length c.args.row.now - (c.args.degree + 1)) (drop (c.args.degree + 1) c.args.row.now), length-drop (c.args.degree + 1) c.args.row.now)) c.point.ensures c.interpolated.ensures
    (read g c.before) (λ e. false≢true (c.if-not-same.ensures.1 e)) _ refl

pub returns : goal.returns
returns g c =
    opened_value g.R.Ring g.met.R.Ring.pointed c.args.degree c.args.row.now (tests_passed _ c.in_ok-tests.ensures)
    c.interpolated-2.result _ c.loop-k.invariant
    (omega (arith, length-take (length c.args.row.now - (c.args.degree + 1)) (drop (c.args.degree + 1) c.args.row.now), length-drop (c.args.degree + 1) c.args.row.now)) c.zero.ensures c.interpolated-2.ensures
