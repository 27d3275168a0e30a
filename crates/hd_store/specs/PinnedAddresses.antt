-- The pinned addresses that `addr` returned: a store keeps none, since each is the address of its object.
use Rattle.std.specs.Prelude.{◌≡◌, ℕ, Some}
use Rattle.std.specs.FinMap.{FinMap, get}
use Rattle.std.specs.Ordering.{nat_cmp}
use Rattle.hd_model.specs.{declared.data.Id.Id, declared.data.Entry.Entry, Step.Step, Aging.aged_by}
use Rattle.hd_model.specs.PinnedAddresses.{with_pinned}
use Rattle.hd_store.specs.{Store.Machine, StateHeap.LeavesHeap}

-- each pinned address is that of its object
abbrev pub AreAddresses : FinMap nat_cmp Id → FinMap nat_cmp ℕ → Type 0
AreAddresses names pinned =
    (x a : ℕ) → get pinned x ≡ Some a → get names a ≡ Some (record { 0 = x })

-- an entry is a step from a store with some pinned addresses to a later one with others, which are those of
-- their objects again
pub record Moves (old : Machine) (e : Entry) (new : Machine) (before : FinMap nat_cmp ℕ) : Type 0 where
  pub pinned : FinMap nat_cmp ℕ
  pub step : Step old.numbers (with_pinned old.state before) e (with_pinned new.state pinned)
  pub addresses : AreAddresses new.names pinned
  pub ages : new.ages ≡ aged_by (with_pinned old.state before) e old.ages
  pub numbers : new.numbers ≡ old.numbers
  pub heap : LeavesHeap e new.state.handles new.heap

-- whatever pinned addresses were returned before, if they are those of their objects
abbrev pub KeepsPinned : Machine → Entry → Machine → Type 0
KeepsPinned old e new =
    (before : FinMap nat_cmp ℕ) → AreAddresses old.names before → Moves old e new before
