use Rattle.std.proofs.Common.{Some, ap, option_map, sym, ◌∙◌}
use Rattle.hd_model.specs.declared.data.Id.{Id}
use Rattle.hd_model.specs.State.{Handle}
use Rattle.hd_model.specs.Handles.{extra_of}
use Rattle.hd_seen.specs.Seen.{extra_seen, handle_seen}
use Rattle.hd_snapshot.proofs.StoreSlots.{handle_block}
use Rattle.hd_snapshot.proofs.rows.handle_in.Goals as goal

pub returns-in_err-info : goal.returns-in_err-info
returns-in_err-info c =
    c.from_residual.ensures
    ∙ sym (ap (option_map (λ (h : Handle Id). handle_seen c.args.store.now.ages (c.args.slot.0, h)))
    c.in_err-info.ensures)

pub age-requires-clause-low : goal.age-requires-clause-low
age-requires-clause-low c =
    (handle_block c.contents-contents.ensures.sound c.args.slot.0 _ c.in_ok-info.ensures).0

pub age-requires-clause-high : goal.age-requires-clause-high
age-requires-clause-high c =
    (handle_block c.contents-contents.ensures.sound c.args.slot.0 _ c.in_ok-info.ensures).1

pub returns : goal.returns
returns c =
    ap Some (c.seen_handle.ensures ∙ (λ i. record {
      slot = c.args.slot;
      kind = c.in_ok-info.info.kind;
      target = c.in_ok-info.info.target;
      extra = extra_seen (extra_of c.in_ok-info.info.extra);
      age = c.age.ensures i;
    }))
    ∙ sym (ap (option_map (λ (h : Handle Id). handle_seen c.args.store.now.ages (c.args.slot.0, h)))
    c.in_ok-info.ensures)
