use Rattle.hd_store.proofs.StoreWords.{parts}
use Rattle.hd_store.proofs.StoreRows.{stored-grown, machine-grown}
use Rattle.hd_store.proofs.contents.Contents.give_blocks.Goals as goal

pub invariant_of-self : goal.invariant_of-self
invariant_of-self c = stored-grown (parts c.self.inside) c.give_block.new.self c.args.kind c.self.invariant
    c.give_block.result c.give_block.ensures.grown c.give_block.ensures.after c.give_block.ensures.kept

pub returns-clause-after : goal.returns-clause-after
returns-clause-after c =
    machine-grown (parts c.self.inside) c.args.self.now c.self.view_is c.give_block.new.self c.args.kind
    c.give_block.result c.give_block.ensures.grown c.give_block.ensures.after
