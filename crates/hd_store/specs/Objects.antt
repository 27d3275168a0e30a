-- Objects of a store, by address.
use Rattle.hd_model.specs.{declared.data.Id.Id, declared.data.Addr.Addr}
use Rattle.hd_model.specs.State.{Object, object_by_id}
use Rattle.hd_store.specs.{Store.Machine, Reading.name_in}

-- the object at an address
abbrev pub object_named : Machine → Addr → Object Id
object_named m at = object_by_id m.state (name_in m.names at)
