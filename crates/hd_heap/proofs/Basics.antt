-- The names that most proofs of this crate cite, passed on from one place.
pub use Rattle.std.proofs.Common.{Bool, List, None, Option, Some, [], ap, arith, cond, deque_capacity, drop, ext_get_or, false, get_or, get_or-drop, get_or-set_other, get_or-set_same, inl, inr, le-leb, length, length-append, length-drop, length-set, map, refl, replicate, set, subst, suc, sym, take, true, zero, ℕ, ⊎_elim, ◌%◌, ◌&&◌, ◌*◌, ◌++◌, ◌+◌, ◌-◌, ◌/◌, ◌<◌, ◌^◌, ◌||◌, ◌∙◌, ◌∷◌, ◌≡◌, ◌≢◌, ◌≤◌, ◌⊎◌}
pub use Rattle.std.proofs.lemmas.Bool.{and_parts, both_ways, cases_eq, cases_lt, cases_order, eq-eqb, eqb-true, false_from_ne_true, le-ltb, leb-true, lt-ltb, ltb-true, ne_eqb, or_parts, true_from_ne_false}
pub use Rattle.std.proofs.lemmas.List.{get_or-append_right, get_or-map, get_or_append_left, get_or_past, get_or_push, get_or_read, length-map, length-replicate, map-set, map_push, set-append_left, set-append_right, set-get_or, set-set, take-append-le}
pub use Rattle.std.proofs.lemmas.List.Elements.{Contains-append_cases, Contains-append_left, Contains-append_right, Contains-get_or}
pub use Rattle.std.proofs.lemmas.List.Sums.{sum_by-append, sum_by-cons, sum_by-set}
pub use Rattle.std.specs.Cmp.{nat_cmp_total, unsigned_tied}
pub use Rattle.std.specs.FinMap.{entries, entries_sorted, get, keys, len-entries}
pub use Rattle.std.specs.Ordering.{eq_by_cmp, nat_cmp}
pub use Rattle.std.specs.Prelude.{Contains, Err, IfSome, MatchOption, Ok, OnOk, Result, is_err, is_some, max, nat_eq, nat_le, nat_lt, not, option_map, sum_by, unwrap_or, vec_capacity}
pub use Rattle.hd_cells.specs.Headers.{IsEnd, IsHeader, IsHeaderFrom}
pub use Rattle.hd_cells.specs.Object.{Object, new_object as new_region_object, no_object, size_of, with_field, with_value}
pub use Rattle.hd_cells.specs.Region.{Contents, IsFirstFrom, IsLaidOut, IsObject, empty_region, fields_at, object_at, with_object as region_with_object, with_put as region_with_put, without_object}
pub use Rattle.hd_heap.specs.{Inside.BeginsIn, Inside.IsArea, Inside.area_at, Areas.address, Areas.card_in, Areas.cards_in, Areas.contents, Areas.heap_of, Areas.objects_in, Areas.placed_in, Areas.placed_of, Areas.region_in, Areas.regions_in}
pub use Rattle.hd_heap.specs.Calls.{AreFull, HasAmount, HasCondemned, IsExtent, IsFirstIn, IsFirstObject, IsMade, IsNext, IsRemoved, IsWalk, NamesBelow, empty_heap, forwarded, is_after, is_condemned, new_object, with_card, with_copy, with_fresh, with_generation, with_moved, with_object, with_put, without_region}
pub use Rattle.hd_heap.specs.Inside.{MayForward, region_forwarded, stored_forwarding}
pub use Rattle.hd_heap.specs.Inside.{IsKept, IsFreeRegion}
pub use Rattle.hd_heap.specs.Indexes.{flagged, from_one, indexes_of}
pub use Rattle.hd_heap.specs.Sound.{IsSound, StartsIn}
pub use Rattle.hd_heap.specs.Inside.{AreOthersFull, HasFlags, HasLeft, HasPart, HasRoom, IsFirstAt, IsFirstSince, IsFreed, IsLeastBetween, IsLeastFrom, IsObjectOf, IsRoom, IsTaken, area_put, area_written, is_below, is_wanted, region_with_part, registers, wants, with_contents, with_part}
pub use Rattle.hd_heap.specs.declared.area.Area.{Area}
pub use Rattle.hd_heap.specs.declared.area.Part.{Part}
pub use Rattle.hd_heap.specs.declared.area.Wanted.{Wanted}
pub use Rattle.hd_heap.specs.declared.area.Wanted.TheVariants.{Any, Carded}
pub use Rattle.hd_heap.specs.declared.condemned.ObjectHeader.{ObjectHeader}
pub use Rattle.hd_heap.specs.declared.condemned.Extent.{Extent}
pub use Rattle.hd_model.proofs.MapEntries.{found_first, found_later, get_entry, keys_apart, none_from}
pub use Rattle.hd_model.proofs.IndexedItems.{find-numbered_below, get-by_index}
pub use Rattle.hd_model.proofs.Members.{first_in, later_in, mapped_from, mapped_in, member_cases, not_in_none, pairs_append, pairs_cons, pairs_mapped, pairs_none}
pub use Rattle.hd_model.proofs.ReadAfterWrite.{get_beside, get_inserted, get_left, get_removed, insert_cases, len_again, len_less, len_new, removal_cases, remove_cases, still_some, write_cases}
pub use Rattle.hd_model.proofs.Sums.{share, sum-at, sum-insert, sum-many, sum-taken}
pub use Rattle.hd_model.specs.Heap.{Heap, Placed, Region, cells_of, has_object, is_in_use, is_set, object_at as object_at_heap, object_in, offset_of, placed_at, region_at, region_generation, used_of}
pub use Rattle.hd_model.specs.Scene.{IsField, fields_at as fields_at_heap, fields_in, generation_at, generation_in}
pub use Rattle.hd_model.specs.declared.data.Addr.{Addr}
pub use Rattle.hd_model.specs.declared.limits.TheConstants.{CARD, FIELDS, HEADER, LEFT, REGION, REGIONS}
pub use Rattle.hd_heap.specs.declared.area.TheConstants.{CARDS}
pub use Rattle.hd_model.specs.Counting.{Counts}
pub use Rattle.hd_model.proofs.PropertyCounts.{counts_like, counts_none}
pub use Rattle.hd_model.proofs.MapBuild.{in_keys}
pub use Rattle.hd_cells.specs.declared.region.Header.{Header}
pub use Rattle.hd_heap.specs.{Inside.IsWalkIn, Walks.WalkOf, Walks.end_in}
pub use Rattle.std.proofs.lemmas.Grind.{get_or_default_zero}
pub use Rattle.std.proofs.lemmas.List.Edits.{map_over_more}
pub use Rattle.hd_heap.specs.declared.area.Part.TheVariants.{Field, Registered, Value}
pub use Rattle.std.proofs.Math.Seq.{take-append_seam, take-length}
pub use Rattle.std.specs.List.{list_any}
pub use Rattle.hd_heap.specs.declared.moves.Move.{Move}
pub use Rattle.hd_heap.specs.Moves.{move_at}
pub use Rattle.hd_heap.specs.{Inside.AreLaidOut, Inside.ArePut, Inside.ArePutBetween, Inside.MayPutRun, Inside.area_run, Inside.object_of, Runs.IsRun, Runs.MayRun, Runs.goes_with}
pub use Rattle.std.proofs.Math.Bool.{and-false, and-true}
pub use Rattle.hd_model.specs.Indexed.{by_index, numbered}
pub use Rattle.hd_model.proofs.MemberWeights.{sum_ones}
pub use Rattle.std.specs.Bool.{Decides}
unfoldable pub use Rattle.hd_heap.specs.Indexes.{table, tables}
unfoldable pub use Rattle.hd_model.specs.Heap.{card_of, region_of}
unfoldable pub use Rattle.hd_heap.specs.{Inside.cells_run, Inside.put_run, Runs.run_copied}
pub use Rattle.std.specs.Prelude.{min}
pub use Rattle.hd_heap.specs.declared.sizes.{GenerationSize.GenerationSize, Older.Older, Sizes.Sizes}
pub use Rattle.hd_heap.specs.Inside.{HasOlder, HasShare, Measure, no_older, number_in, number_of, of_cells, of_objects, of_regions, part_of, with_added, with_less, with_more, with_taken}
pub use Rattle.hd_heap.specs.Sizes.{HasSize, IsWhole, aged_objects, aged_regions}
