use Rattle.hd_model.specs.State.{IsFree}
use Rattle.hd_view.proofs.SlotSets.{as_wanted}
use Rattle.hd_view.proofs.accepted.is_free_as.Goals as goal

pub returns : goal.returns
returns c =
    as_wanted c.is_free.result c.args.is_free
    (IsFree c.args.before.now.state c.args.kind (record { 0 = c.args.number })) c.is_free.ensures
