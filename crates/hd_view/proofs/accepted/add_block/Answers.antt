use Rattle.std.proofs.lemmas.Result.{IfOk-weaker}
use Rattle.std.proofs.Common.{◌*◌, ◌+◌, false, true}
use Rattle.hd_model.specs.declared.limits.TheConstants.{ROWS}
use Rattle.hd_view.specs.Inside.{Adds, Between, CoversTo, IsFreeAs}
use Rattle.hd_view.specs.declared.sets.NumberSet.{NumberSet}
use Rattle.hd_view.proofs.RangeSets.{adds_nothing}
use Rattle.hd_view.proofs.SlotSets.{covers_listed, covers_named}
use Rattle.hd_view.proofs.accepted.add_block.Goals as goal

pub returns-in_ok-add_range : goal.returns-in_ok-add_range
returns-in_ok-add_range c =
    let s = c.args.before.now.state in
    let first = c.args.block * ROWS in
    let old = c.args.set.now in
    let new : NumberSet = record { within = c.add_range.new.ranges; but = c.add_slots.new.ranges } in
    IfOk-weaker c.add_slots.result
    (λ _. Adds old.but.items new.but.items (Between first (first + ROWS) (IsFreeAs s c.args.kind false)))
    (λ _. CoversTo s c.args.kind (c.args.block + 1) new)
    (λ _ but. covers_named s c.args.kind c.args.block old new c.requires.below c.in_ok-add_range.ensures but)
    c.add_slots.ensures

pub returns-else-count_free : goal.returns-else-count_free
returns-else-count_free c =
    let s = c.args.before.now.state in
    let first = c.args.block * ROWS in
    let old = c.args.set.now in
    let new : NumberSet = record old { within = c.add_slots-else-count_free.new.ranges } in
    IfOk-weaker c.add_slots-else-count_free.result
    (λ _. Adds old.within.items new.within.items (Between first (first + ROWS) (IsFreeAs s c.args.kind true)))
    (λ _. CoversTo s c.args.kind (c.args.block + 1) new)
    (λ _ within. covers_listed s c.args.kind c.args.block old new c.requires.below
    (adds_nothing old.but.items) within)
    c.add_slots-else-count_free.ensures
