use Rattle.std.proofs.Common.{arith, length, subst, sym, ℕ, ◌∙◌, ◌≡◌}
use Rattle.std.specs.Prelude.{AllPairs, Contains, IsSome, ◌↔◌}
use Rattle.std.specs.FinMap.{FinMap, get}
use Rattle.std.specs.Ordering.{nat_cmp}
use Rattle.hd_maps.specs.PinnedObjects.{IsBelow}
use Rattle.hd_maps.proofs.AddressIds.{Gathers, gathers_next, gathers_none, owner_at, owners_all, owners_rise}
use Rattle.hd_maps.proofs.pinned_addresses.PinnedAddresses.ids_by_address.Goals as goal

pub loop-address-init : goal.loop-address-init
loop-address-init c =
    let below = IsBelow c.self.inside.by_id in
    let owner = owner_at c.self.inside.by_address c.deref-address-items.result.now in
    subst (λ l. Gathers below owner 0 l) (sym c.new-ids.ensures.items) (gathers_none below owner)

pub loop-address-preserved : goal.loop-address-preserved
loop-address-preserved c =
    let pinned = c.deref-address-items.result.now in
    gathers_next (IsBelow c.self.inside.by_id) (owner_at c.self.inside.by_address pinned)
    c.loop-address.address-index
    c.loop-address.ids.items c.loop-address.invariant
    (owners_rise c.self.inside.by_id c.self.inside.by_address c.self.invariant pinned
    (c.deref-address-items.ensures.value ∙ c.in_ok-pinned.ensures) c.loop-address.address-index
    c.loop-address-test.true)
    c.push_owner.new.ids.items c.in_ok-push_owner.ensures

pub returns-clause-all : goal.returns-clause-all
returns-clause-all c = λ id.
    let ids = c.loop-address.ids.items in
    let pinned = c.deref-address-items.result.now in
    let end : c.loop-address.address-index ≡ length pinned = omega arith in
    subst (λ (m : FinMap nat_cmp ℕ). Contains ids id ↔ IsSome (get m id)) c.self.view_is
    (owners_all c.self.inside.by_id c.self.inside.by_address c.self.invariant pinned
    (c.deref-address-items.ensures.value ∙ c.in_ok-pinned.ensures) c.loop-address.address-index end ids
    c.loop-address.invariant id)

pub returns-clause-rising : goal.returns-clause-rising
returns-clause-rising c =
    subst (λ (m : FinMap nat_cmp ℕ). AllPairs (IsBelow m) c.loop-address.ids.items) c.self.view_is
    c.loop-address.invariant.pairs
