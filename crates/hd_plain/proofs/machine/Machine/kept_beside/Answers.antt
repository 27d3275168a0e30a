use Rattle.std.proofs.Common.{map, subst, sym, ◌∙◌}
use Rattle.hd_plain.specs.Inside.{Gains, YoungEdge, is_marked, with_targets, resurrected_at}
use Rattle.hd_plain.proofs.MarkedSets.{IsAmong, awaits_gains, gains_targets}
use Rattle.hd_plain.proofs.RootMarks.{kept_decided}
use Rattle.hd_plain.proofs.YoungObjects.{young_lists}
use Rattle.hd_plain.proofs.machine.Machine.kept_beside.Goals as goal

pub copy-requires : goal.copy-requires
copy-requires c = c.requires.reached.none_left

pub close-requires-clause-generations : goal.close-requires-clause-generations
close-requires-clause-generations c = c.requires.formed.objects.generations

pub close-requires-clause-awaits : goal.close-requires-clause-awaits
close-requires-clause-awaits c =
    let s = c.args.self.now.state in
    let at = resurrected_at c.args.n (is_marked c.args.reached.now) s.objects in
    let woken = map at c.args.walk.now.ids.items in
    awaits_gains (YoungEdge c.args.n s) _ _ _
    (subst (Gains (IsAmong woken) c.args.reached.now)
    (sym (c.in_ok-mark_resurrected.ensures
    ∙ (λ i. with_targets (c.in_ok-kept.ensures i) (map at (c.deref.ensures.value i)))))
    (gains_targets c.args.reached.now woken))
    c.requires.reached.awaits

pub returns : goal.returns
returns c =
    let s = c.args.self.now.state in
    let at = resurrected_at c.args.n (is_marked c.args.reached.now) s.objects in
    let woken = map at c.args.walk.now.ids.items in
    kept_decided c.args.n s c.args.reached.now c.requires.reached.reached c.args.walk.now.ids.items
    (young_lists c.args.n s.objects c.args.walk.now.ids.items c.requires.walk.ids)
    (subst (Gains (IsAmong woken) c.args.reached.now)
    (sym (c.in_ok-mark_resurrected.ensures
    ∙ (λ i. with_targets (c.in_ok-kept.ensures i) (map at (c.deref.ensures.value i)))))
    (gains_targets c.args.reached.now woken)) c.in_ok-close.ensures
