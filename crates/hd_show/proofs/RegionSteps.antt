-- The counts by region that the program keeps are those of the picture.
use Rattle.std.proofs.Common.{Bool, List, ap, cond, count_by, filter, sum_by, sym, ℕ, ◌∙◌, ◌≡◌}
use Rattle.hd_seen.specs.Seen.{ObjectSeen, object_shown, view_seen}
use Rattle.hd_seen.specs.declared.Snapshot.{Snapshot}
use Rattle.hd_show.specs.{Heaps.RegionCounts, Heaps.cells_of, Heaps.in_region, Heaps.is_pinned_in, Heaps.regions_of, Inside.cells_seen_in, Inside.is_marked, Inside.seen_in}
use Rattle.hd_show.specs.Pins.{is_pinned_by}
use Rattle.hd_show.specs.Inside.{tally_at}
use Rattle.hd_show.proofs.FilteredSums.{sum_filtered, sum_mapped}

abbrev counts : List ℕ → List ℕ → List ℕ → RegionCounts
counts objects cells pinned =
    record { objects = tally_at objects; cells = tally_at cells; pinned = tally_at pinned }

module _ (seen : Snapshot) where
  abbrev shown : List ObjectSeen
  shown = (view_seen seen).objects

  objects_in : (k : ℕ) → count_by (seen_in k) seen.objects.items ≡ count_by (in_region k) shown
  objects_in k =
      sym (sum_mapped (λ (o : ObjectSeen). cond (in_region k o) 1 0) object_shown seen.objects.items)

  cells_in : (k : ℕ)
      → sum_by (cells_seen_in k) seen.objects.items ≡ sum_by cells_of (filter (in_region k) shown)
  cells_in k =
      sym (sum_filtered cells_of (in_region k) shown
      ∙ sum_mapped (λ (o : ObjectSeen). cond (in_region k o) (cells_of o) 0) object_shown seen.objects.items)

  pinned_in : (marked : ℕ → Bool) → ((x : ℕ) → marked x ≡ is_pinned_by seen.handles.items x) → (k : ℕ)
      → count_by (is_marked marked k) seen.objects.items ≡ count_by (is_pinned_in (view_seen seen) k) shown
  pinned_in marked same k =
      ap (λ (m : ℕ → Bool). count_by (is_marked m k) seen.objects.items) (λ i x. same x i)
      ∙ sym (sum_mapped (λ (o : ObjectSeen). cond (is_pinned_in (view_seen seen) k o) 1 0) object_shown
      seen.objects.items)

  pub region_counts : (objects cells pinned : List ℕ) (marked : ℕ → Bool)
      → ((x : ℕ) → marked x ≡ is_pinned_by seen.handles.items x)
      → ((k : ℕ) → tally_at objects k ≡ count_by (seen_in k) seen.objects.items)
      → ((k : ℕ) → tally_at cells k ≡ sum_by (cells_seen_in k) seen.objects.items)
      → ((k : ℕ) → tally_at pinned k ≡ count_by (is_marked marked k) seen.objects.items)
      → counts objects cells pinned ≡ regions_of (view_seen seen)
  region_counts objects cells pinned marked same o c p = λ i. record {
    objects = λ k. (o k ∙ objects_in k) i;
    cells = λ k. (c k ∙ cells_in k) i;
    pinned = λ k. (p k ∙ pinned_in marked same k) i;
  }
