-- Laws of the weak table in the words of someone who attaches data to objects. Each is the contract of a
-- public function of this crate.
use Rattle.std.specs.Prelude.{◌≡◌, ◌↔◌, ℕ, Some, None, IsSome}
use Rattle.std.specs.FinMap.{get}
use Rattle.hd_model.specs.Data.{Id, Slot, Report}
use Rattle.hd_model.specs.State.{Numbers, State, WeakEntry, with_weak}
use Rattle.hd_model.specs.Collect.{CollectsState}
use Rattle.hd_model.specs.InUse.{IsInUse}
use Rattle.hd_model.specs.CollectionLaws.{Collected}

-- where the key stays, the entry is as it was and its value stays; where the key is removed, the entry is
-- gone and its slot is idle
pub record FollowsKey (s t : State) (slot : ℕ) (x : WeakEntry Id) : Type 0 where
  pub same : IsSome (get t.objects x.key.0) → get t.weak slot ≡ Some (Some x)
  pub stays : IsSome (get t.objects x.key.0) → (y : Id) → x.value ≡ Some y → IsSome (get t.objects y.0)
  pub gone : get t.objects x.key.0 ≡ None → get t.weak slot ≡ Some None

-- an entry keeps its value exactly as long as its key is kept
abbrev pub EntriesFollowKeys : Type 0
EntriesFollowKeys =
    (m : Numbers) (n : ℕ) (s t : State) (r : Report) (slot : ℕ) (x : WeakEntry Id) → Collected m n s t r
    → get s.weak slot ≡ Some (Some x) → FollowsKey s t slot x

-- an entry never brings its key into use: that is the same with the entry taken out
abbrev pub EntriesUseNoKey : Type 0
EntriesUseNoKey =
    (n : ℕ) (s : State) (slot : Slot) (x : WeakEntry Id) → get s.weak slot.0 ≡ Some (Some x)
    → IsInUse n s x.key ↔ IsInUse n (with_weak s slot None) x.key

-- and never keeps it: the key stays exactly where it stays with the entry taken out
abbrev pub EntriesKeepNoKey : Type 0
EntriesKeepNoKey =
    (m : Numbers) (n : ℕ) (s t u : State) (r q : Report) (slot : Slot) (x : WeakEntry Id)
    → Collected m n s t r → CollectsState n (with_weak s slot None) u q → get s.weak slot.0 ≡ Some (Some x)
    → IsSome (get t.objects x.key.0) ↔ IsSome (get u.objects x.key.0)
