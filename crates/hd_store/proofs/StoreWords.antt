-- What the proofs cite of std, of the machine and of the store, passed on from one place. Declares nothing.
unfoldable pub use Rattle.hd_model.specs.Heap.{region_of}
unfoldable pub use Rattle.hd_store.specs.Reading.{names_of, objects_by_id, rows_by_id, weak_by_id}
unfoldable pub use Rattle.hd_store.specs.Rows.{rows_of, rest_of}
pub use Rattle.std.proofs.Common.{All, Bool, Err, Global, IfOk, List, None, Ok, Option, Result, Some, T, Vec, [], ap, arith, cond, drop, false, get_or, inl, inr, length, length-append, map, nat_le, nat_lt, not, refl, replicate, set, slice_set, subst, suc, sym, take, true, zero, ℕ, ⊎_elim, ◌&&◌, ◌*◌, ◌++◌, ◌+◌, ◌-◌, ◌/◌, ◌<◌, ◌^◌, ◌||◌, ◌∙◌, ◌∷◌, ◌≡◌, ◌≢◌, ◌≤◌, ◌⊎◌}
pub use Rattle.std.proofs.lemmas.Bool.{cases_eq, cases_order, eq-eqb, false≢true, le-ltb, lt-ltb, ne_eqb, true≢false}
pub use Rattle.std.proofs.lemmas.List.{append_assoc, drop-set-add, drop-set-lt, get_or-drop, get_or-set_other, get_or-set_same, get_or-take, get_or_default, length-map, length-replicate, length-set, map-append, map-set, take-append-drop, take-set-le}
pub use Rattle.std.proofs.lemmas.List.Elements.{All-append, All-cons, All-nil, Contains-append_left, Contains-append_right, Contains-get_or}
pub use Rattle.std.proofs.lemmas.List.Sums.{sum_by-cons, sum_by_more}
pub use Rattle.std.proofs.lemmas.Option.{same_Some}
pub use Rattle.std.specs.Cmp.{nat_cmp_total, unsigned_tied}
pub use Rattle.std.specs.FinMap.{FinMap, empty, entries, entries-from_sorted, entries_sorted, find, from_entries, from_sorted, get, get-empty, get-entries, get-from_entries, get-from_sorted, get-insert, get-remove, get-retain_keys, insert, is_sorted, keys, len, len-empty, len-entries, len-insert, nat_cmp-IsAntisymmetric, remove, retain_keys, same_map, values}
pub use Rattle.std.specs.FinMap.Entries.{below_all, find-where_key, is_sorted-where_key, where_key}
pub use Rattle.std.specs.List.{range_with_len, slice_get}
pub use Rattle.std.specs.Option.{option_map_or, option_or, option_to_list}
pub use Rattle.std.specs.Ordering.{eq_by_cmp, is_lt, nat_cmp}
pub use Rattle.std.specs.Prelude.{AllPairs, Contains, IfSome, IsNone, IsSome, MatchOption, MatchResult, OnErr, filter, if◌then◌else◌, is_none, is_some, max, option_and_then, option_map, slice_index, sum_by, unwrap_or, ◌%◌, ◌↔◌}
pub use Rattle.hd_cwt.specs.WeakTable.{HasKey, IsIdle, IsLeastIdle, IsWeakTable, LooksAt, WeakTable, bucket_of, entries_in, is_in_bucket, kept_key}
pub use Rattle.hd_gc.specs.Collected.{Collected}
pub use Rattle.hd_heap.proofs.HeapValues.{not_there, put_twice, same_address}
pub use Rattle.hd_heap.specs.Calls.{IsMade, empty_heap, is_younger, new_object, with_field}
pub use Rattle.hd_model.proofs.AgedRuns.{nothing_at}
pub use Rattle.hd_model.proofs.Ages.{lowered_below, lowered_here}
pub use Rattle.hd_model.proofs.MapEntries.{below, both, counts_keys, found_first, found_later, get_entry, keys_apart, some_value}
pub use Rattle.hd_model.proofs.KindTests.{made_secondary, same_kind}
pub use Rattle.hd_model.proofs.Members.{first_in, later_in, mapped_in, member_cases, not_in_none, pairs_passing, passing_from, passing_in}
pub use Rattle.hd_model.proofs.PinTest.{pinned_decides}
pub use Rattle.hd_model.proofs.PropertyCounts.{counts_named, fewer}
pub use Rattle.hd_model.proofs.ReadAfterWrite.{get_beside, get_inserted, get_left, get_removed, insert_cases, remove_cases, write_cases}
pub use Rattle.hd_model.proofs.RenamedPins.{pins_renamed, role_renamed}
pub use Rattle.hd_model.proofs.Sums.{first_alone, share, sum-insert, sum-remove}
pub use Rattle.hd_model.proofs.WeakSlots.{idle_found, key_found, key_none, where_least, where_none}
pub use Rattle.hd_model.specs.Ages.{HasSoundCards, age_of, clump_of, clumps_of, lowered, visits}
pub use Rattle.hd_model.specs.Aging.{AgedRun, aged_by, lowered_at, lowered_by_new, lowered_to}
pub use Rattle.hd_model.specs.Class.{class_of}
pub use Rattle.hd_model.specs.Collect.{Collects, CollectsState, cleared, is_lost, swept}
pub use Rattle.hd_model.specs.Command.{Outcome, reply_address, reply_with, entry_value, fresh_object, idle_slot, is_idle, refuses, slot_of_key, value_at}
pub use Rattle.hd_model.specs.Heap.{HasIdentities, Heap, Placed, Region, card_of, cells_of, has_object, id_at, id_in, is_carded, is_in_use, object_at, object_in, placed_at, region_at, region_generation, used_of}
pub use Rattle.hd_model.specs.Kinds.{is_kind, is_paired, kind_number, kind_of, secondary_register}
pub use Rattle.hd_model.specs.PinnedAddresses.{IsFreeAddress, MayReturn, Meet, is_pinned, range_at, with_pinned}
pub use Rattle.hd_model.specs.Reach.{IsPinned}
pub use Rattle.hd_model.specs.Role.{Role, attaches, holds, long, pins, role, role_of, short}
pub use Rattle.hd_model.specs.RootText.{held_by, held_of, root_id, root_in, roots_in, roots_of}
pub use Rattle.hd_model.specs.Run.{Run, stay}
pub use Rattle.hd_model.specs.Scene.{IsField, IsReading, Scene, fields_at, fields_in, generation_at, generation_in, is_object, joined, scene_of}
pub use Rattle.hd_model.specs.State.{BlockUse, Extra, Handle, IsFree, Numbers, Object, State, WeakEntry, block_of, count, count_of, extra_data, field_of, first_slot, given_of, handle_at, handle_register_of, handles_of, identity_of, last_serial, nothing, object_by_id, register_of, rename_extra, rename_handle, rename_object, row_of, secondary, secondary_of, size_of, start_of, static_of, strength, total_size, use_of, weak_handle, with_handle, with_object, with_address, with_queue, with_register, with_serial, with_static, with_weak, without_handle, without_use}
pub use Rattle.hd_model.specs.Step.{RepliesAddress, IsLeastUnused, IsOutcome, Step, StepOf, blocks_needed, pinned_by, pinned_target, with_growth}
pub use Rattle.hd_model.specs.Table.{IsGrowth, IsTable, Queue, Table, chain_of, empty_table, fits, fits_in, grown_by, is_secondary, is_single, kind_at, kind_in, live_at, row_at, with_row, without_block, without_row}
pub use Rattle.hd_model.specs.Text.{collections_of, is_collect}
pub use Rattle.hd_model.specs.Touched.{touched_by}
pub use Rattle.hd_model.specs.Valid.{IsValid}
pub use Rattle.hd_model.specs.WellFormed.{HasHandles, HasWeakTable, IsWellFormed}
pub use Rattle.hd_model.specs.declared.command.Cmd.{Cmd}
pub use Rattle.hd_model.specs.declared.data.Addr.{Addr}
pub use Rattle.hd_model.specs.declared.data.Entry.{Entry}
pub use Rattle.hd_model.specs.declared.data.Grown.{Grown}
pub use Rattle.hd_model.specs.declared.data.Grown.TheVariants.{Back, One, Two, Zero}
pub use Rattle.hd_model.specs.declared.data.Id.{Id}
pub use Rattle.hd_model.specs.declared.data.Kind.{Kind}
pub use Rattle.hd_model.specs.declared.data.Kind.TheVariants.{Dependent, Short}
pub use Rattle.hd_model.specs.declared.data.Make.{Make}
pub use Rattle.hd_model.specs.declared.data.Refusal.{Refusal}
pub use Rattle.hd_model.specs.declared.data.Reply.{Reply}
pub use Rattle.hd_model.specs.declared.data.Report.{Report}
pub use Rattle.hd_model.specs.declared.data.RootId.{RootId}
pub use Rattle.hd_model.specs.declared.data.Slot.{Slot}
pub use Rattle.hd_plan.specs.Plan.{HasNoEmptyRegion}
pub use Rattle.hd_scan.specs.declared.gathering.Root.{Root}
pub use Rattle.hd_seg.specs.Row.{extra_from, handle_of}
pub use Rattle.hd_seg.specs.declared.row.Row.{Row}
pub use Rattle.hd_commands.specs.Done.{done_of, entry_by}
pub use Rattle.hd_commands.specs.Handles.{MayBeStored}
pub use Rattle.hd_model.specs.Handles.{extra_of}
pub use Rattle.hd_commands.specs.Handles.{pinned_in}
pub use Rattle.hd_store.specs.Inside.{HasRun, IsPlainStep, MayRun}
pub use Rattle.hd_store.specs.Inside.{MayHaveEntry, entry_at}
pub use Rattle.hd_store.specs.{Inside.GrowsBy, Growth.kind_in_use}
pub use Rattle.hd_store.specs.Inside.{root_named}
pub use Rattle.hd_store.specs.Inside.{IsMadeHandle, IsSlotGiven}
pub use Rattle.hd_store.specs.{Inside.IsObjectRefused, Inside.IsRoomier, Objects.object_named}
pub use Rattle.hd_store.specs.Offers.{Asks, GrowsFor, GrowsUnoffered, HasLimits, IsOffer, MayOffer, asks_of, block_back, handle_slot, no_room, object_room}
pub use Rattle.hd_store.specs.{PinnedAddresses.AreAddresses, PinnedAddresses.KeepsPinned, PinnedAddresses.Moves, Inside.HasCollected, Inside.HasNames, Inside.HasAddress, Inside.KeepsNames, Inside.kept_pinned}
pub use Rattle.hd_store.specs.Reading.{IsNamed, entry_named, name_in, named_in, read_object, unheld}
pub use Rattle.hd_store.specs.StateHeap.{IsCompactStore, IsOfHeap, IsOfTable, IsStoredAt, LeavesHeap}
pub use Rattle.hd_store.specs.Store.{IsOverHeap, Machine, machine_of, seen_by, without_free}
pub use Rattle.hd_store.specs.StoreParts.{parts}
pub use Rattle.hd_store.specs.{Inside.HasUses, Inside.IsStored, Inside.IsTied, Inside.one_extra, Inside.one_paired, Inside.scene_of_parts, Stored.Parts, Stored.callers_of, Stored.numbers_of, Stored.state_of}
pub use Rattle.hd_store.specs.Visited.{CollectedSteps, SearchSteps, TakesSteps, TakesStepsBy, TakesStepsIn, blocks_of, buckets_of, due_in, entries_beside, has_kind, key_register, looked_up, steps_by}
pub use Rattle.hd_commands.specs.declared.done.Done.{Done}
pub use Rattle.hd_store.specs.declared.contents.Contents.TheInside.{Inside}
