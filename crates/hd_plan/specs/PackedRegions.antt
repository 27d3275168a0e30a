-- How many regions a collection leaves of those that it condemned. Regions are this project's own, after
-- CoreCLR's in outline.
use Rattle.std.specs.Prelude.{◌≡◌, ℕ, ◌+◌, ◌/◌, ◌≤◌, ◌&&◌, Bool, true, false, nat_lt}
use Rattle.hd_model.specs.{declared.data.Addr.Addr, declared.limits.TheConstants.LEFT, Counting.Counts}
use Rattle.hd_model.specs.Heap.{Heap, region_of, region_at, region_generation, is_in_use, has_object}
use Rattle.hd_plan.specs.Plan.{Takes}

-- a region in use of a generation above n
abbrev pub is_older_region : Heap → ℕ → ℕ → Bool
is_older_region h n r = is_in_use h r && nat_lt n (region_generation h r)

-- after a collection of n: a region in use that was no older one before, and an object in such a region
abbrev pub IsYoungRegion : (old new : Heap) → ℕ → ℕ → Type 0
IsYoungRegion old new n r = (is_in_use new r ≡ true) × (is_older_region old n r ≡ false)

abbrev pub IsInYoungRegion : (old new : Heap) → ℕ → Addr → Type 0
IsInYoungRegion old new n a = (has_object new a ≡ true) × (is_older_region old n (region_of a) ≡ false)

-- the older regions are as they were; all others in use, whose objects are those that were kept of the
-- condemned, are at most one for each 193 cells of these objects, one for each of two generations, and one
-- for each object that stays. An object has at most 64 of the 256 cells of a region, so one is left for the
-- next of its generation only where 193 are taken (LEFT); generations 1 and 2 may each have one that is not
-- full.
pub record IsPacked (old new : Heap) (n stays : ℕ) : Type 0 where
  pub older : (r : ℕ) → is_older_region old n r ≡ true
      → (is_in_use new r ≡ true) × (region_at new r ≡ region_at old r)
  pub regions : ℕ
  pub regions_are : Counts (IsYoungRegion old new n) regions
  pub cells : ℕ
  pub cells_are : Takes new (IsInYoungRegion old new n) cells
  pub few : regions ≤ cells / LEFT + 2 + stays
