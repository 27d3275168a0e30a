use Rattle.std.proofs.lemmas.Result.{IfOk-weaker}
use Rattle.hd_plain.proofs.RootWalk.{targets_are}
use Rattle.hd_plain.proofs.rooting.GraphEdges.list.Goals as goal

pub returns : goal.returns
returns c =
    IfOk-weaker c.push_attached.result _ _
    (λ _ listed. targets_are c.requires.node c.requires.none c.in_ok-push_fields.ensures listed)
    c.push_attached.ensures
