use Rattle.hd_store.proofs.StoreWords.{GrowsBy, subst, with_growth, ◌≡◌}
use Rattle.hd_store.proofs.NewBlockSlot.{placed_one, placed_two}
use Rattle.hd_store.proofs.making.slot_of_new_block.Goals as goal

pub returns-in-Ok-One-clause-slot_given : goal.returns-in-Ok-One-clause-slot_given
returns-in-Ok-One-clause-slot_given c =
    let m = c.args.store.now in
    let is = c.in-Ok-One.field-0-is in
    let grown = subst (GrowsBy m.numbers m.state c.args.kind) is c.in-Ok-One.ensures.grown in
    placed_one m c.give_blocks.new.self c.args.kind c.first_slot.result c.requires.handles c.requires.weak
    c.in-Ok-One.block c.first_slot.ensures grown.1 grown.0
    (subst (λ g. c.give_blocks.new.self
    ≡ record m { state = with_growth m.state c.args.kind g; table = c.give_blocks.new.self.table }) is
    c.in-Ok-One.ensures.after) c.in-Ok-One.ensures.room

pub returns-in-Ok-Two-clause-slot_given : goal.returns-in-Ok-Two-clause-slot_given
returns-in-Ok-Two-clause-slot_given c =
    let m = c.args.store.now in
    let is = c.in-Ok-Two.field-0-is in
    let grown = subst (GrowsBy m.numbers m.state c.args.kind) is c.in-Ok-Two.ensures.grown in
    placed_two m c.give_blocks.new.self c.args.kind c.first_slot-in-Ok-Two.result c.requires.handles
    c.requires.weak c.in-Ok-Two.block c.first_slot-in-Ok-Two.ensures grown.1 c.in-Ok-Two.extras grown.0
    grown.2
    (subst (λ g. c.give_blocks.new.self
    ≡ record m { state = with_growth m.state c.args.kind g; table = c.give_blocks.new.self.table }) is
    c.in-Ok-Two.ensures.after) c.in-Ok-Two.ensures.room
