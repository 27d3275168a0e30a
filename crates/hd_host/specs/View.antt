-- What contracts see of a host.
use Rattle.std.specs.Prelude.{◌≡◌, ℕ, List, refl}
use Rattle.std.specs.Coded.{Coded, code_by, coded×, coded_ℕ, coded_list}
use Rattle.std.specs.FinMap.{empty}
use Rattle.hd_model.specs.{declared.data.Id.Id, State.State, PinnedAddresses.with_pinned}
use Rattle.hd_store.specs.{StateHeap.IsStoredAt, Store.Machine, Store.machine_code}
use Rattle.hd_host.specs.declared.change.Change.{Change}
use Rattle.hd_host.specs.Changes.{change_code}

-- a host: its store, in whose state no handle register has a slot; the stamp of each slot; and what the last
-- call that was done did to slots and blocks
pub record HostView : Type 0 where
  pub machine : Machine
  pub stamps : List ℕ
  pub last : Change

abbrev pub host_view_code : Coded HostView
host_view_code =
    code_by (Machine × (List ℕ × Change))
    (coded× machine_code (coded× (coded_list coded_ℕ) change_code))
    (λ h. (h.machine, (h.stamps, h.last)))
    (λ p. record { machine = p.0; stamps = p.1.0; last = p.1.1 })
    (λ _. refl)

-- the state of a store without pinned addresses, of which it keeps none
abbrev pub state_in : Machine → State
state_in m = with_pinned m.state empty

-- nothing differs that a call can tell: the state, the address of each object, the ages of the clumps, the
-- stamps, and what the last call that was done did
pub record IsAsItWas (old new : HostView) : Type 0 where
  pub numbers : new.machine.numbers ≡ old.machine.numbers
  pub state : state_in new.machine ≡ state_in old.machine
  pub addresses :
      (x : Id) (a : ℕ) → IsStoredAt old.machine.heap x a → IsStoredAt new.machine.heap x a
  pub ages : new.machine.ages ≡ old.machine.ages
  pub stamps : new.stamps ≡ old.stamps
  pub last : new.last ≡ old.last
