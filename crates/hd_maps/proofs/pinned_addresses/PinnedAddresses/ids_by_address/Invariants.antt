use Rattle.hd_maps.specs.PinnedObjects.{IsBelow}
use Rattle.hd_maps.proofs.AddressIds.{Gathers, owner_at}
use Rattle.hd_maps.proofs.pinned_addresses.PinnedAddresses.ids_by_address.Given as goal

abbrev pub invariant-loop-address : goal.invariant-loop-address
invariant-loop-address l =
    Gathers (IsBelow l.self-inside.by_id) (owner_at l.self-inside.by_address l.address-items)
    l.address-index l.ids.items
