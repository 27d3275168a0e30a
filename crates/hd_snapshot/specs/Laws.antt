-- What is seen of a store, against what the store has.
use Rattle.std.specs.Prelude.{◌≡◌, ℕ, ◌/◌, ◌==◌, ◌≤◌, All, cond, count_by, is_some}
use Rattle.std.specs.FinMap.{get}
use Rattle.hd_model.specs.declared.limits.TheConstants.{OLDEST, REGION}
use Rattle.hd_seen.specs.declared.SeenHandle.{SeenHandle}
use Rattle.hd_seen.specs.declared.SeenRegion.{SeenRegion}
use Rattle.hd_seen.specs.Seen.{ObjectSeen, Picture}
use Rattle.hd_store.specs.Store.{Machine}
use Rattle.hd_snapshot.specs.Taken.{picture_of}

-- as many rows are of a slot as the slot has live handles: one or none
abbrev pub EachHandleIsShownOnce : Type 0
EachHandleIsShownOnce =
    (m : Machine) (slot : ℕ) → count_by (λ (h : SeenHandle). h.slot.0 == slot) (picture_of m).handles
    ≡ cond (is_some (get m.state.handles slot)) 1 0

-- an identity is shown once where it is that of an object, and else not at all
abbrev pub EachObjectIsShownOnce : Type 0
EachObjectIsShownOnce =
    (m : Machine) (x : ℕ) → count_by (λ (o : ObjectSeen). o.id.0 == x) (picture_of m).objects
    ≡ cond (is_some (get m.state.objects x)) 1 0

-- each region is of a generation up to the oldest, and each object is in exactly one region
pub record IsParted (p : Picture) : Type 0 where
  pub generations : All (λ (r : SeenRegion). r.generation ≤ OLDEST) p.regions
  pub regions :
      All (λ (o : ObjectSeen). count_by (λ (r : SeenRegion). o.address / REGION == r.number) p.regions ≡ 1)
      p.objects
