use Rattle.std.proofs.Common.{List, ap, arith, length, subst, sym, ℕ, ◌≡◌}
use Rattle.std.specs.Prelude.{AllPairs, Contains, IsSome, ◌↔◌}
use Rattle.std.specs.FinMap.{get}
use Rattle.hd_audit.specs.declared.before.Before.TheInside.{Inside}
use Rattle.hd_audit.specs.Known.{Known}
use Rattle.hd_maps.specs.PinnedObjects.{IsBelow}
use Rattle.hd_audit.proofs.AddressCells.{BeginsBelow, cells_all, cells_at, cells_rise}
use Rattle.hd_maps.proofs.AddressIds.{Gathers, gathers_next, gathers_none}
use Rattle.hd_audit.proofs.before.Before.pinned_cells.Goals as goal

pub loop-id-init : goal.loop-id-init
loop-id-init c =
    let cells = cells_at c.args.self.now.state c.deref-id-items.result.now in
    subst (λ l. Gathers BeginsBelow cells 0 l) (sym c.new-cells.ensures.items)
    (gathers_none BeginsBelow cells)

pub loop-id-preserved : goal.loop-id-preserved
loop-id-preserved c =
    let ids = c.deref-id-items.result.now in
    let pinned = ap (λ (b : Inside). b.judged.machine.state.pinned) c.self-inside.view_is in
    let rising = subst (λ (k : Known). AllPairs (IsBelow k.state.pinned) ids) c.self.view_is
    (subst (λ (l : List ℕ). AllPairs (IsBelow c.self.inside.judged.machine.state.pinned) l)
    (sym c.deref-id-items.ensures.value)
    (subst (λ m. AllPairs (IsBelow m) c.in_ok-ids.ids.items) pinned c.in_ok-ids.ensures.rising)) in
    gathers_next BeginsBelow (cells_at c.args.self.now.state ids) c.loop-id.id-index c.loop-id.cells.items
    c.loop-id.invariant
    (cells_rise c.args.self.now.state ids rising c.loop-id.id-index c.loop-id-test.true)
    c.push_cells.new.cells.items c.in_ok-push_cells.ensures

pub returns : goal.returns
returns c =
    let ids = c.deref-id-items.result.now in
    let end : c.loop-id.id-index ≡ length ids = omega arith in
    let pinned = ap (λ (b : Inside). b.judged.machine.state.pinned) c.self-inside.view_is in
    let are = subst (λ (k : Known). (id : ℕ) → Contains ids id ↔ IsSome (get k.state.pinned id))
    c.self.view_is
    (subst (λ (l : List ℕ). (id : ℕ) → Contains l id
    ↔ IsSome (get c.self.inside.judged.machine.state.pinned id)) (sym c.deref-id-items.ensures.value)
    (subst (λ m. (id : ℕ) → Contains c.in_ok-ids.ids.items id ↔ IsSome (get m id)) pinned
    c.in_ok-ids.ensures.all)) in
    cells_all c.args.self.now.state ids are c.loop-id.id-index end c.loop-id.cells.items c.loop-id.invariant
