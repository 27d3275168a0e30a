use Rattle.std.proofs.Common.{◌==◌, ◌∙◌}
use Rattle.std.specs.FinMap.{entries}
use Rattle.hd_seen.specs.Seen.{ObjectSeen, handle_seen, object_seen}
use Rattle.hd_seen.specs.declared.SeenHandle.{SeenHandle}
use Rattle.hd_snapshot.proofs.ShownOnce.{counted-get, counted-map}
use Rattle.hd_snapshot.proofs.laws.each_is_shown_once.Goals as goal

pub returns-clause-handles : goal.returns-clause-handles
returns-clause-handles c = λ m slot.
    counted-map (λ (h : SeenHandle). h.slot.0 == slot) (handle_seen m.ages) (entries m.state.handles)
    ∙ counted-get slot m.state.handles

pub returns-clause-objects : goal.returns-clause-objects
returns-clause-objects c = λ m x.
    counted-map (λ (o : ObjectSeen). o.id.0 == x) (object_seen m.heap) (entries m.state.objects)
    ∙ counted-get x m.state.objects
