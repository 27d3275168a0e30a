-- What every heap keeps.
use Rattle.std.specs.Prelude.{◌≡◌, ◌≢◌, ℕ, ◌+◌, ◌*◌, ◌^◌, ◌<◌, ◌≤◌, true, false, length, slice_index}
use Rattle.std.specs.FinMap.{len}
use Rattle.hd_model.specs.declared.limits.TheConstants.{FIELDS, OLDEST, REGION, REGIONS}
use Rattle.hd_model.specs.declared.data.Addr.{Addr}
use Rattle.hd_model.specs.Heap.{Heap, region_of, card_of, region_at, is_in_use, has_object, placed_at, cells_of, is_set}

-- an object starts in this card
pub record StartsIn (h : Heap) (card : ℕ) : Type 0 where
  pub at : Addr
  pub object : has_object h at ≡ true
  pub in_card : card_of at ≡ card

-- objects have an identity and at most 61 fields, and lie apart, below the allocation pointers of regions in
-- use; regions in use and free ones have different numbers, from 1 on, with which every address is below
-- 2^32; and a set card has an object. Not kept: that identities differ, that fields reference objects, that
-- all sizes together are within the limit.
pub record IsSound (h : Heap) : Type 0 where
  pub held : (a : Addr) → has_object h a ≡ true → is_in_use h (region_of a) ≡ true
  pub within : (a : Addr) → has_object h a ≡ true
      → a.0 + cells_of (placed_at h a) ≤ region_of a * REGION + (region_at h (region_of a)).fill
  pub apart : (a b : Addr) → has_object h a ≡ true → has_object h b ≡ true → a.0 < b.0
      → a.0 + cells_of (placed_at h a) ≤ b.0
  pub identified : (a : Addr) → has_object h a ≡ true → (placed_at h a).id.0 ≢ 0
  pub few_fields : (a : Addr) → has_object h a ≡ true → length (placed_at h a).fields ≤ FIELDS
  pub fills : (r : ℕ) → is_in_use h r ≡ true → (region_at h r).fill ≤ REGION
  pub generations : (r : ℕ) → is_in_use h r ≡ true → (region_at h r).generation ≤ OLDEST
  pub numbers : (r : ℕ) → is_in_use h r ≡ true → (0 < r) × (r < REGIONS)
  pub free_numbers : (i : ℕ) → i < length h.free
      → (0 < slice_index h.free i) × (slice_index h.free i < REGIONS)
  pub free_unused : (i : ℕ) → i < length h.free → is_in_use h (slice_index h.free i) ≡ false
  pub free_apart : (i j : ℕ) → i < j → j < length h.free → slice_index h.free i ≢ slice_index h.free j
  pub cards : (c : ℕ) → is_set h c ≡ true → StartsIn h c
  pub few_objects : len h.objects < 2 ^ 32
