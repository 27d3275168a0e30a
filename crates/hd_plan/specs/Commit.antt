-- What the moving of all kept objects leaves.
use Rattle.std.specs.Prelude.{◌≡◌, ℕ, ◌+◌, ◌/◌, ◌≤◌, ◌<◌, ◌↔◌, true, false, length, map, option_map}
use Rattle.std.specs.FinMap.{len}
use Rattle.hd_model.specs.{declared.data.Addr.Addr, Ages.raised, State.Object, Scene.generation_at, Scene.IsField, declared.limits.TheConstants.OLDEST, declared.limits.TheConstants.LEFT, declared.limits.TheConstants.OPEN}
use Rattle.hd_model.specs.Heap.{Heap, card_of, region_at, is_in_use, has_object, object_at, placed_at, id_at, is_set, used_of}
use Rattle.hd_plan.specs.{Layout.HasStay, Layout.IsCondemnedRegion, PackedRegions.IsPacked}
use Rattle.hd_plan.specs.Plan.{PlanOf, kept_in, forwarding_in, stays_in, HasNoEmptyRegion}

-- how many regions a heap has, in use and free
abbrev pub all_regions : Heap → ℕ
all_regions h = len h.regions + length h.free

-- k has the objects, identities, fields and regions of h; values, registrations and cards may differ
pub record IsSameShape (h k : Heap) : Type 0 where
  pub objects : (a : Addr) → has_object k a ≡ has_object h a
  pub fields : (a : Addr) → (placed_at k a).fields ≡ (placed_at h a).fields
  pub ids : (a : Addr) → id_at k a ≡ id_at h a
  pub regions : k.regions ≡ h.regions
  pub free : k.free ≡ h.free

-- an object after a collection of generation n: its fields hold new addresses, and its generation is raised
abbrev pub moved_object : (Addr → Addr) → ℕ → Object Addr → Object Addr
moved_object forwarding n o =
    record o { fields = map (option_map forwarding) o.fields; generation = raised n o.generation }

-- an object that starts in this card has a field to one of a younger generation
pub record NeedsCard (h : Heap) (card : ℕ) : Type 0 where
  pub from : Addr
  pub to : Addr
  pub in_card : card_of from ≡ card
  pub field : IsField (object_at h) from to
  pub younger : generation_at (object_at h) to < generation_at (object_at h) from

-- what becomes of each region of before: one that is not condemned stays as it is, a condemned one stays with
-- its generation raised if an object in it stays, and is freed otherwise
pub record ChangesRegions (p : PlanOf) (old new : Heap) : Type 0 where
  pub older : (r : ℕ) → is_in_use old r ≡ true → p.basis.condemned < (region_at old r).generation
      → (is_in_use new r ≡ true) × (region_at new r ≡ region_at old r)
  pub stays : (r : ℕ) → IsCondemnedRegion old p.basis.condemned r → HasStay p.moves r
      → (is_in_use new r ≡ true) × (region_at new r
      ≡ record {
        generation = raised p.basis.condemned (region_at old r).generation;
        fill = (region_at old r).fill;
      })
  pub given_up : (r : ℕ) → IsCondemnedRegion old p.basis.condemned r → (HasStay p.moves r → ⊥)
      → is_in_use new r ≡ false

-- what `commit` leaves: the kept objects at their new addresses, and no other; cards are set exactly where an
-- object needs it; a region that is in use no more is free
pub record Commits (p : PlanOf) (old new : Heap) : Type 0 where
  pub objects : (a : Addr) → kept_in p a ≡ true
      → object_at new (forwarding_in p a) ≡ option_map (moved_object (forwarding_in p) p.basis.condemned)
      (object_at old a)
  pub ids : (a : Addr) → kept_in p a ≡ true → id_at new (forwarding_in p a) ≡ id_at old a
  pub only : (b : Addr) → has_object new b ≡ true → (a : Addr)
      × ((kept_in p a ≡ true) × (forwarding_in p a ≡ b))
  pub regions : ChangesRegions p old new
  pub cards : (card : ℕ) → (is_set new card ≡ true) ↔ NeedsCard new card
  pub number : all_regions new ≡ all_regions old
  pub limit : new.limit ≡ old.limit
  pub used : used_of new ≤ used_of old
  pub full : HasNoEmptyRegion old → HasNoEmptyRegion new
  pub packed : IsPacked old new p.basis.condemned (stays_in p)
  pub compact : p.basis.condemned ≡ OLDEST → len new.regions ≤ used_of new / LEFT + OPEN + stays_in p
