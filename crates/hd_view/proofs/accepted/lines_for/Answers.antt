use Rattle.hd_view.proofs.AcceptedSets.{addresses_named, blocks_named, slots_named}
use Rattle.hd_view.proofs.accepted.lines_for.Goals as goal

pub returns-in_ok-stepped-in-OfTheStep-clause-entries : goal.returns-in_ok-stepped-in-OfTheStep-clause-entries
returns-in_ok-stepped-in-OfTheStep-clause-entries c = c.in_ok-stepped-in-OfTheStep.ensures.only

pub returns-in_ok-stepped-in-OfTheStep-clause-own : goal.returns-in_ok-stepped-in-OfTheStep-clause-own
returns-in_ok-stepped-in-OfTheStep-clause-own c = record {
  caller_is = c.in_ok-stepped-in-OfTheStep.ensures.caller_is;
  command = c.in_ok-stepped-in-OfTheStep.ensures.command;
}

pub returns-in-One-clause-entries : goal.returns-in-One-clause-entries
returns-in-One-clause-entries c = c.in-One.ensures.only

pub returns-in-One-clause-own : goal.returns-in-One-clause-own
returns-in-One-clause-own c =
    record { caller_is = c.in-One.ensures.caller_is; command = c.in-One.ensures.command }

pub returns-in_ok-free_slots-in-InSlot-clause-entries : goal.returns-in_ok-free_slots-in-InSlot-clause-entries
returns-in_ok-free_slots-in-InSlot-clause-entries c =
    slots_named c.args.before.now c.in-InSlot.kind c.args.caller c.args.cmd c.in_ok-free_slots-in-InSlot.field-0
    c.growth_entry.result c.full_entry.result c.in_ok-free_slots-in-InSlot.ensures c.growth_entry.ensures
    c.full_entry.ensures.full c.in-InSlot.ensures

pub returns-in_ok-free_slots-in-InSlot-clause-own : goal.returns-in_ok-free_slots-in-InSlot-clause-own
returns-in_ok-free_slots-in-InSlot-clause-own c = (c.in-InSlot.ensures, c.full_entry.ensures.full, c.full_entry.ensures.own)

pub returns-in_ok-free_addresses-in-AtAddress-clause-entries : goal.returns-in_ok-free_addresses-in-AtAddress-clause-entries
returns-in_ok-free_addresses-in-AtAddress-clause-entries c =
    addresses_named c.args.before.now c.args.caller c.args.cmd c.in-AtAddress.id
    c.in_ok-free_addresses-in-AtAddress.field-0 c.in_ok-free_addresses-in-AtAddress.ensures
    c.in-AtAddress.ensures

pub returns-in_ok-free_blocks-in-OfBlock-clause-entries : goal.returns-in_ok-free_blocks-in-OfBlock-clause-entries
returns-in_ok-free_blocks-in-OfBlock-clause-entries c =
    blocks_named c.args.before.now c.in-OfBlock.kind c.args.caller c.args.cmd
    c.in_ok-free_blocks-in-OfBlock.field-0 c.in_ok-free_blocks-in-OfBlock.ensures c.in-OfBlock.ensures

pub returns-in_ok-free_blocks-in-OfBlock-clause-own : goal.returns-in_ok-free_blocks-in-OfBlock-clause-own
returns-in_ok-free_blocks-in-OfBlock-clause-own c = c.in-OfBlock.ensures
