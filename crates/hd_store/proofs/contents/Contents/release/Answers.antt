use Rattle.hd_store.proofs.StoreWords.{get, not_there, parts, sym, ◌∙◌}
use Rattle.hd_store.proofs.StoreRows.{held-live}
use Rattle.hd_store.proofs.WeakRoom.{held-wide}
use Rattle.hd_store.proofs.SpareBlocks.{has_released, held_idle, idle_vacant, released_before}
use Rattle.hd_store.proofs.contents.Contents.release.Goals as goal

pub take_row-requires : goal.take_row-requires
take_row-requires c =
    held-live (parts c.self.inside) c.self.invariant c.args.slot.0 (sym c.held.ensures.value ∙ c.if-held.true)

pub release-requires : goal.release-requires
release-requires c =
    held_idle (parts c.self.inside) c.args.self.now c.self.view_is c.args.slot.0 c.requires
    (sym c.held.ensures.value ∙ c.if-held.true)

pub invariant_of-self : goal.invariant_of-self
invariant_of-self c =
    (has_released (parts c.self.inside) c.args.self.now c.self.view_is c.self.invariant c.args.slot.0
    (held-wide (parts c.self.inside) c.self.invariant c.args.slot.0
    (sym c.held.ensures.value ∙ c.if-held.true))
    (idle_vacant (parts c.self.inside) c.args.self.now c.self.view_is c.args.slot.0 (release-requires c.before))
    c.take_row.new.self c.release.new.self c.take_row.ensures c.release.ensures).0

pub returns-then-held : goal.returns-then-held
returns-then-held c =
    (has_released (parts c.self.inside) c.args.self.now c.self.view_is c.self.invariant c.args.slot.0
    (held-wide (parts c.self.inside) c.self.invariant c.args.slot.0
    (sym c.held.ensures.value ∙ c.if-held.true))
    (idle_vacant (parts c.self.inside) c.args.self.now c.self.view_is c.args.slot.0 (release-requires c.before))
    c.take_row.new.self c.release.new.self c.take_row.ensures c.release.ensures).1

pub returns-else-held : goal.returns-else-held
returns-else-held c =
    released_before (parts c.self.inside) c.args.self.now c.self.view_is c.args.slot.0
    (not_there (get c.self.inside.weak.held c.args.slot.0) (sym c.held.ensures.value ∙ c.if-held.false))
