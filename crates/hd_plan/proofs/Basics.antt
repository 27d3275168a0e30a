-- The names that most proofs of this crate cite, passed on from one place.
pub use Rattle.hd_model.proofs.IdleCollection.{raised_older}
pub use Rattle.hd_model.proofs.Fates.{young_raised}
pub use Rattle.std.proofs.lemmas.Option.{same_Some}
pub use Rattle.std.proofs.Common.{Bool, List, None, Option, Some, T, [], add-one, ap, arith, cond, drop, false, get_or, get_or-set_other, get_or-set_same, inl, inr, length, length-append, length-set, map, min, not, refl, rules, set, subst, suc, sym, take, true, true≢false, vec_capacity, zero, ℕ, ⊎_elim, ◌%◌, ◌&&◌, ◌*◌, ◌++◌, ◌+◌, ◌-◌, ◌/◌, ◌<◌, ◌^◌, ◌||◌, ◌∙◌, ◌∷◌, ◌≡◌, ◌≢◌, ◌≤◌, ◌⊎◌}
pub use Rattle.std.proofs.lemmas.Bool.{and_from, and_left, and_parts, both_ways, cases_Bool, cases_eq, cases_lt, cases_order, cond-false, cond-true, eq-eqb, eqb-true, false_from_ne_true, false≢true, le-leb, le-ltb, leb-true, lt-ltb, ltb-false, ltb-true, ne_eqb, not-true, or_cases, or_left, or_parts, or_right}
pub use Rattle.std.proofs.lemmas.List.{drop-drop, get_or-drop, get_or-map, get_or-take, get_or_append_left, get_or_at, get_or_default, get_or_read_under, length-drop, length-map, length-take}
pub use Rattle.std.proofs.lemmas.List.Sums.{length-filter, sum_by-cons, sum_by_push}
pub use Rattle.std.specs.FinMap.{FinMap, entries, entries_sorted, find, get, get-entries, insert, is_sorted, len, remove, values}
pub use Rattle.std.specs.Ordering.{eq_by_cmp, is_lt, nat_cmp}
pub use Rattle.std.specs.Prelude.{AllPairs, Contains, IsSome, count_by, filter, is_some, max, nat_eq, nat_le, nat_lt, option_map, slice_index, slice_index_or, sum_by, unwrap_or, ◌↔◌}
pub use Rattle.hd_heap.proofs.HeapValues.{fields_placed, get_other, get_same, same_address}
pub use Rattle.hd_heap.proofs.RegionReads.{has-get}
pub use Rattle.hd_heap.specs.Calls.{HasCondemned, IsExtent, IsFirstIn, IsFirstObject, IsNext, IsRemoved, IsWalk, NamesBelow, forwarded, is_after, is_condemned, is_old_carded, with_card, with_fresh, with_generation, with_moved, with_object, without_region}
pub use Rattle.hd_heap.specs.Runs.{IsRun, MayRun, goes_with}
pub use Rattle.hd_heap.specs.Sound.{IsSound}
pub use Rattle.hd_heap.specs.declared.condemned.Extent.{Extent}
pub use Rattle.hd_heap.specs.declared.condemned.ObjectHeader.{ObjectHeader}
pub use Rattle.hd_model.proofs.MapEntries.{both, counts_keys, found_first, found_later, less}
pub use Rattle.hd_model.proofs.MemberWeights.{lighter}
pub use Rattle.hd_model.proofs.Members.{first_in, later_in, mapped_from, mapped_in, member_at, member_cases, member_same, not_in_none, pairs_cons, pairs_first, pairs_none, pairs_passing, pairs_rest, passing_from, passing_in}
pub use Rattle.hd_model.proofs.PropertyCounts.{counts_le, counts_like, counts_named, counts_where, fewer}
pub use Rattle.hd_model.proofs.ReadAfterWrite.{get_left, get_removed}
pub use Rattle.hd_model.proofs.Sums.{first_alone, share, sum-remove}
pub use Rattle.hd_model.specs.Ages.{HasSoundCards, raised}
pub use Rattle.hd_model.specs.Counting.{Counts}
pub use Rattle.hd_model.specs.Heap.{Basis, Heap, Placed, Region, card_of, cells_of, has_object, id_in, is_carded, is_in_use, is_set, object_at, object_in, objects_of, placed_at, region_at, region_generation, region_of, used_of}
pub use Rattle.hd_model.specs.Leads.{IsClosed}
pub use Rattle.hd_model.specs.Marking.{IsKeeping, IsSettled}
pub use Rattle.hd_model.specs.Names.{HasClosedFields}
pub use Rattle.hd_model.specs.Scene.{IsCondemned, IsField, Objects, fields_at, fields_in, generation_at, generation_in, is_object}
pub use Rattle.hd_model.specs.State.{Object}
pub use Rattle.hd_model.specs.declared.data.Addr.{Addr}
pub use Rattle.hd_plan.specs.Commit.{all_regions, ChangesRegions, Commits, IsSameShape, NeedsCard, moved_object}
pub use Rattle.hd_plan.specs.Inside.{AreAlike, AreCarded, AreCopied, AreGivenUp, AreRemovedIn, AreRewritten, AreSettledRegions, CanCopy, HasEnd, HasKeptFields, HaveGone, IsGone, IsKeptAt, IsLeft, IsStayedAt, MayCard, MayGoFrom, MayOpen, NamesYounger, is_pinned, opened_for, starts_in}
pub use Rattle.hd_plan.specs.Inside.{AreChosen, AreMovesTo, ArePut, CanPutAt, HasMoveRoom, HasForwards, HasRegionRoom, HasSlack, IsCursor, IsFresh, IsLaying, IsMoveOf, IsPassed, IsPlan, IsPut, IsRoom, IsToLay, WasFree, begun, cell_at, cells_laid, first_at, forwarding_among, forwarding_from, spot_in}
pub use Rattle.hd_plan.specs.{Layout.AreMoves, Layout.AreMovesOf, Layout.AreRegions, Layout.AreRegionsOf, Layout.Fits, Layout.FitsMove, Layout.Followed, Layout.HasNoMove, Layout.HasStay, Layout.IsCondemnedRegion, Layout.IsRising, Layout.Opened, Layout.Room, Layout.condemned_at, Layout.cursor_of, Layout.filled, Layout.find_move, Layout.followed_cursor, Layout.is_kept_by, Layout.opened_cursor, Layout.forwarding_by, Layout.put_cursors, Layout.put_fate, Layout.put_move, Layout.region_in, Layout.room_at, Layout.room_of, Layout.stays_among, Layout.with_cursor, Inside.has_region}
pub use Rattle.hd_heap.specs.Moves.{is_following, is_kept_fate, is_moving, is_opening, is_staying, may_card, move_at}
pub use Rattle.hd_plan.specs.PackedRegions.{IsPacked, IsYoungRegion, is_older_region}
pub use Rattle.hd_plan.specs.Plan.{HasFreeRegions, HasNoEmptyCondemned, HasNoEmptyRegion, IsLaid, PlanOf, FreeAtMost, Takes, kept_in, forwarding_in, stays_in}
pub use Rattle.hd_plan.specs.declared.cursors.AllocCursors.{AllocCursors}
pub use Rattle.hd_plan.specs.declared.moves.Condemned.{Condemned}
pub use Rattle.hd_heap.specs.declared.moves.Fate.{Fate}
pub use Rattle.hd_heap.specs.declared.moves.Fate.TheVariants.{Dead, Moves, MovesToNewRegion, Pinned}
pub use Rattle.hd_heap.specs.declared.moves.Move.{Move}
pub use Rattle.hd_model.specs.declared.limits.TheConstants.{CARD, FIELDS, HEADER, LEFT, OPEN, REGION}
