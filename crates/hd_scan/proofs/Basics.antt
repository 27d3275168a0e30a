-- The names that most proofs of this crate cite, passed on from one place.
pub use Rattle.std.proofs.Common.{Bool, Err, Global, IfOk, List, None, Ok, Option, Result, Some, T, Vec, [], ap, arith, cond, false, flat_map, get_or, inl, inr, is_some, length, map, refl, rules, subst, suc, sym, take, true, zero, ℕ, ⊎_elim, ◌&&◌, ◌*◌, ◌++◌, ◌+◌, ◌-◌, ◌/◌, ◌<◌, ◌||◌, ◌∙◌, ◌∷◌, ◌≡◌, ◌≢◌, ◌≤◌, ◌⊎◌}
pub use Rattle.std.proofs.lemmas.Bool.{and_from, and_left, and_parts, and_right, both_ways, cases_Bool, cases_eq, cases_lt, eq-eqb, false≢true, lt-ltb, or_cases, or_left, or_right, true≢false}
pub use Rattle.std.proofs.lemmas.Option.{same_Some}
pub use Rattle.std.specs.FinMap.{FinMap, entries, entries-from_sorted, find, from_sorted, get, get-from_entries, get-from_sorted, is_sorted, nat_cmp-IsAntisymmetric, same_map}
pub use Rattle.std.specs.List.{AllZip, range_with_len}
pub use Rattle.std.specs.Option.{option_to_list}
pub use Rattle.std.specs.Prelude.{Contains, MatchResult, option_and_then, option_map}
pub use Rattle.hd_ages.proofs.WalkProgress.{IsUnderway, all_past, all_to_come, begins, few_to_come, goes_on, row_due, row_live, row_of_kind, row_past, row_same, row_target}
pub use Rattle.hd_ages.proofs.WalkWrites.{IsChanging, change_row, change_smaller, change_start, changed, changed_count, changed_steps}
pub use Rattle.hd_ages.proofs.WalkSlots.{IsDueRow}
pub use Rattle.hd_ages.specs.Walk.{Ends, Gives, IsOn, clumps_to_come, due_slots, slots_to_come}
pub use Rattle.hd_ages.specs.declared.due_rows.DueRows.{DueRows}
pub use Rattle.hd_model.proofs.EdgeChains.{grows_like, grows_none, grows_on}
pub use Rattle.hd_model.proofs.KindTests.{same_kind}
pub use Rattle.hd_model.proofs.MarkReach.{undue_in_place, undue_target}
pub use Rattle.hd_model.proofs.PropertyCounts.{counts_join, counts_like, counts_none}
pub use Rattle.hd_model.specs.Ages.{HasSoundAges, due_clumps, is_due}
pub use Rattle.hd_model.specs.Collect.{is_lost}
pub use Rattle.hd_model.specs.Counting.{Counts}
pub use Rattle.hd_model.specs.Heap.{Basis, objects_of}
pub use Rattle.hd_model.specs.Kinds.{is_kind, is_paired, kind_number}
pub use Rattle.hd_model.specs.Leads.{Grows, Leads}
pub use Rattle.hd_model.specs.Marking.{IsKeeping, IsSettled}
pub use Rattle.hd_model.specs.Role.{holds, long, pins, role, role_of, short}
pub use Rattle.hd_model.specs.RootText.{held_of, root_in, roots_in}
pub use Rattle.hd_model.specs.Scene.{IsYoungField, Objects, Rows, generation_at}
pub use Rattle.hd_model.specs.State.{BlockUse, Extra, Handle, count, extra_data, handles_of, nothing, rename_extra, secondary, secondary_of, strength}
pub use Rattle.hd_model.specs.Table.{IsTable, Table, chain_of, live_at, row_at}
pub use Rattle.hd_model.specs.declared.data.Addr.{Addr}
pub use Rattle.hd_model.specs.declared.data.Kind.{Kind}
pub use Rattle.hd_model.specs.declared.limits.TheConstants.{HOST_BLOCKS, ROWS}
pub use Rattle.hd_scan.specs.{Inside.root_at, Inside.roots_of_block, Gathering.root_by, Gathering.roots_of}
pub use Rattle.hd_scan.specs.{Passes.ClearPass, Passes.IsPinnedBy, Passes.IsRootAt, Passes.IsSweptAt, Passes.IsTaken, Passes.PassView, Passes.RootPass, Passes.view_at, Inside.IsTargetBy, Inside.PinsBy}
pub use Rattle.hd_scan.specs.Tasks.{is_role, long_tasks, root_tasks, short_tasks, swept, takes, takes_any, task_kind, task_role}
pub use Rattle.hd_scan.specs.Whole.{IsLostAt, IsPinTargetOf, IsTargetOf, WholeClear, WholeRoots}
pub use Rattle.hd_scan.specs.declared.gathering.Root.{Root}
pub use Rattle.hd_scan.specs.declared.task.Task.{Task}
pub use Rattle.hd_seg.proofs.RowRewrite.{extra_again, fits_secondary, live_row, put_row}
pub use Rattle.hd_seg.specs.Mapped.{entries_of, with_entry}
pub use Rattle.hd_seg.specs.Rewriting.{Rewrites}
pub use Rattle.hd_model.specs.Handles.{extra_of}
pub use Rattle.hd_seg.specs.Row.{block_kind_of, row_of}
pub use Rattle.hd_seg.specs.declared.row.Row.{Row}
