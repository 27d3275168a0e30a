use Rattle.std.proofs.Common.{Some, ap, arith, subst, sym, ◌∙◌}
use Rattle.std.specs.FinMap.{insert, remove}
use Rattle.hd_maps.specs.Inside.{IsWeak}
use Rattle.hd_maps.proofs.WeakCalls.{put_weak, undone, written}
use Rattle.hd_maps.proofs.weak.Weak.put.Goals as goal

pub invariant_of-self-in-Ok : goal.invariant_of-self-in-Ok
invariant_of-self-in-Ok c =
    let s = c.args.slot.0 in
    subst (λ m. IsWeak m c.insert.new.self c.remove.new.self)
    (sym (c.in-Ok.ensures ∙ ap (λ k. insert c.self.inside.slots k (Some c.args.entry)) c.from-number.ensures))
    (subst (λ m. IsWeak (insert c.self.inside.slots s (Some c.args.entry)) m c.remove.new.self)
    (sym c.in_ok-insert.ensures)
    (subst
    (λ m. IsWeak (insert c.self.inside.slots s (Some c.args.entry))
    (insert c.self.inside.by_key c.args.entry.key.0 s) m)
    (sym (c.remove.ensures.0 ∙ ap (remove c.self.inside.idle) c.from-number.ensures))
    (put_weak c.self.invariant c.self.view_is s c.args.entry (omega arith) c.requires.free c.requires.fresh)))

pub invariant_of-self-in-Err : goal.invariant_of-self-in-Err
invariant_of-self-in-Err c =
    subst (λ m. IsWeak m c.remove-in-Err.new.self c.self.inside.idle) (sym c.in-Err.ensures)
    (subst (λ m. IsWeak c.self.inside.slots m c.self.inside.idle)
    (sym (c.remove-in-Err.ensures.0 ∙ ap (λ m. remove m c.args.entry.key.0) c.in_ok-insert.ensures))
    (undone c.self.invariant c.self.view_is c.args.slot.0 c.args.entry.key c.requires.fresh))

pub returns-in-Ok : goal.returns-in-Ok
returns-in-Ok c =
    written c.self.invariant c.self.view_is c.args.slot.0 (Some c.args.entry)
    (c.in-Ok.ensures ∙ ap (λ k. insert c.self.inside.slots k (Some c.args.entry)) c.from-number.ensures)
