use Rattle.hd_view.specs.Inside.{parts_in}
use Rattle.hd_view.proofs.CauseFacts.{only_one}
use Rattle.hd_view.proofs.DueCauses.{address_next, block_next, full_only, slot_next}
use Rattle.hd_view.proofs.cause.due_cause.Goals as goal

pub entry_cause-requires : goal.entry_cause-requires
entry_cause-requires c =
    only_one c.args.before.now (parts_in c.args.stated) c.args.due.now c.requires c.in-One.entry c.in-One.is

pub row_cause-requires-clause-like : goal.row_cause-requires-clause-like
row_cause-requires-clause-like c =
    full_only c.args.before.now (parts_in c.args.stated) c.args.due.now c.requires c.in-Slots.kind _ _
    c.in-Slots.full c.in-Slots.is

pub row_cause-requires-clause-other : goal.row_cause-requires-clause-other
row_cause-requires-clause-other c =
    slot_next c.args.before.now (parts_in c.args.stated) c.args.due.now c.requires c.in-Slots.kind _ _
    c.in-Slots.full c.in-Slots.is

pub returns-in-Addresses : goal.returns-in-Addresses
returns-in-Addresses c =
    c.address_cause.ensures c.args.before.now _
    (address_next c.args.before.now (parts_in c.args.stated) c.args.due.now c.requires _ c.in-Addresses.free
    c.in-Addresses.is)

pub block_cause-requires : goal.block_cause-requires
block_cause-requires c =
    block_next c.args.before.now (parts_in c.args.stated) c.args.due.now c.requires c.in-Blocks.kind _
    c.in-Blocks.is
