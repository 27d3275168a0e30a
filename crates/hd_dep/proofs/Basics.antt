-- The names that most proofs of this crate cite, passed on from one place.
pub use Rattle.std.proofs.Common.{Bool, List, None, Option, Some, [], ap, arith, cond, false, get_or, inl, inr, is_some, leb, leb-true, length, not, refl, rules, subst, sym, take, true, vec_capacity, ℕ, ⊎_elim, ◌&&◌, ◌*◌, ◌+◌, ◌-◌, ◌<◌, ◌||◌, ◌∙◌, ◌∷◌, ◌≡◌, ◌≢◌, ◌≤◌, ◌⊎◌}
pub use Rattle.std.proofs.lemmas.Bool.{and_left, and_parts, and_right, both_ways, cases_Bool, cases_eq, cases_lt, leb-false, not-true, not_from_false, true≢false}
pub use Rattle.std.proofs.lemmas.List.{get_or-take, length-take, take-take, take_all}
pub use Rattle.std.proofs.lemmas.List.Elements.{Contains-append_left, Contains-push, Contains-push_cases}
pub use Rattle.std.proofs.lemmas.List.Sorted.{Contains-permutation, IsNonDecreasingBy-from_sort, IsPartitionPoint-from_clause, IsPartitionedBy-leb, IsPermutation-sym, answers_always}
pub use Rattle.std.proofs.lemmas.Option.{get_or_from_slice_get, same_Some, slice_get-get_or, slice_get_within}
pub use Rattle.std.specs.FinMap.{get, len}
pub use Rattle.std.specs.List.Sorted.{IsNonDecreasingBy, IsPermutation}
pub use Rattle.std.specs.Prelude.{AllPairs, Contains, IsSome, MatchBool, filter, option_map, slice_get}
pub use Rattle.hd_ages.proofs.WalkProgress.{IsUnderway, all_past, all_to_come, begins, fewer_left, goes_on, past_else, row_due, row_live, row_of_kind, row_same, row_target}
pub use Rattle.hd_ages.proofs.WalkSlots.{due_slots_list, slots_few}
pub use Rattle.hd_ages.proofs.WalkWrites.{IsChanging, change_row, change_smaller, change_start, changed, changed_count, changed_steps}
pub use Rattle.hd_ages.proofs.WalkSlots.{IsDueRow}
pub use Rattle.hd_ages.specs.Walk.{Ends, Gives, IsOn, clumps_to_come, due_slots, slots_to_come}
pub use Rattle.hd_ages.specs.declared.due_rows.DueRows.{DueRows}
pub use Rattle.hd_dep.specs.{Inside.Gained, Inside.HasParts, Inside.IsFollowed, Inside.IsSpread, Inside.IsSpreadRow, Inside.OfVisited, Inside.Spreads, Rescan.RescanSteps}
pub use Rattle.hd_dep.specs.Inside.{AreObjects, AreWaiting, HasJoined, IsGathered, IsVisited, IsWaitingEdge, Waits, target_of, waiting_row}
pub use Rattle.hd_dep.specs.declared.waiting.Waiting.{Waiting}
pub use Rattle.hd_model.proofs.MarkReach.{undue_secondary, undue_target}
pub use Rattle.hd_model.proofs.Members.{member_cases, not_in_none, pairs_cons, pairs_passing, passing_from, passing_in}
pub use Rattle.hd_model.proofs.PropertyCounts.{counts_like, fewer}
pub use Rattle.hd_model.specs.Ages.{HasSoundAges, due_clumps, is_due}
pub use Rattle.hd_model.specs.Collect.{is_attaching, is_lost}
pub use Rattle.hd_model.specs.Counting.{Counts}
pub use Rattle.hd_model.specs.Heap.{Basis, Heap, Placed, object_at, object_in, objects_of, region_generation, region_of}
pub use Rattle.hd_model.specs.Leads.{Grows, IsClosed, IsClosure, Leads}
pub use Rattle.hd_model.specs.Marking.{IsPromotionLog, IsSettled}
pub use Rattle.hd_model.specs.Reach.{IsAttached, IsEdge}
pub use Rattle.hd_model.specs.Role.{attaches, role, role_of}
pub use Rattle.hd_model.specs.Scene.{IsField, IsYoungField, Objects, Rows, generation_at, is_object}
pub use Rattle.hd_model.specs.State.{Handle, secondary, secondary_of}
pub use Rattle.hd_model.specs.Table.{IsTable, Table, chain_of, fits, live_at, row_at}
pub use Rattle.hd_model.specs.Visits.{MayVisit, visits_of}
pub use Rattle.hd_model.specs.declared.data.Addr.{Addr}
pub use Rattle.hd_model.specs.declared.data.Slot.{Slot}
pub use Rattle.hd_seg.proofs.RowRewrite.{extra_again, live_row}
pub use Rattle.hd_model.specs.declared.limits.TheConstants.{CLUMP}
