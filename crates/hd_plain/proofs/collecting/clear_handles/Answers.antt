use Rattle.std.proofs.Common.{ap, arith, drop, sym, ◌+◌, ◌∙◌}
use Rattle.std.proofs.lemmas.List.{at_drop_all, at_drop_more}
use Rattle.hd_model.specs.Role.{attaches, long, short}
use Rattle.hd_plain.specs.Inside.{Cleared, cleared_one, cleared_to, pass, is_seen}
use Rattle.hd_maps.specs.TableViews.{TableView}
use Rattle.hd_plain.specs.declared.collecting.Losses.{Losses}
use Rattle.hd_plain.proofs.CollectionPasses.{dep_counts, few_more, long_counts, short_counts}
use Rattle.hd_plain.proofs.collecting.clear_handles.Goals as goal

pub clear_one-losses-requires-clause-few : goal.clear_one-losses-requires-clause-few
clear_one-losses-requires-clause-few c =
    let a = c.loop-slot.invariant.2 in
    let b = c.loop-slot.invariant.3 in
    let d = c.loop-slot.invariant.4 in (omega (arith, a), omega (arith, b), omega (arith, d))

pub loop-slot-preserved : goal.loop-slot-preserved
loop-slot-preserved c =
    let reach = is_seen c.args.sight.now c.args.decided.now.reached in
    let kept = is_seen c.args.sight.now c.args.decided.now.kept in
    let before = cleared_to c.loop-slot.table.handles c.loop-slot.losses in
    let each = c.clear_one-losses.ensures.each in (
      ap (λ (d : Cleared). pass (cleared_one reach kept) d
          (drop (c.loop-slot.slot-index + 1) c.args.slots.now)) each
          ∙ sym (at_drop_more (λ l. pass (cleared_one reach kept) before l) c.args.slots.now
          c.loop-slot.slot-index 0 c.loop-slot-test.true) ∙ c.loop-slot.invariant.0,
      c.clear_one-losses.ensures.rest
          ∙ ap (λ (t : TableView). record t { handles = c.clear_one-losses.new.table.handles })
          c.loop-slot.invariant.1,
      few_more reach kept (λ (l : Losses). l.short) short (short_counts reach kept) before _ each
          c.loop-slot.invariant.2,
      few_more reach kept (λ (l : Losses). l.long) long (long_counts reach kept) before _ each
          c.loop-slot.invariant.3,
      few_more reach kept (λ (l : Losses). l.dep) attaches (dep_counts reach kept) before _ each
          c.loop-slot.invariant.4,
    )

pub returns-clause-each : goal.returns-clause-each
returns-clause-each c =
    sym (at_drop_all (λ l. pass
    (cleared_one (is_seen c.args.sight.now c.args.decided.now.reached) (is_seen c.args.sight.now c.args.decided.now.kept))
    (cleared_to c.loop-slot.table.handles c.loop-slot.losses) l)
    c.args.slots.now c.loop-slot.slot-index c.loop-slot-test.false) ∙ c.loop-slot.invariant.0

pub returns-clause-rest : goal.returns-clause-rest
returns-clause-rest c = c.loop-slot.invariant.1
