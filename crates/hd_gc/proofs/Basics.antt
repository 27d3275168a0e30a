-- The names that most proofs of this crate cite, passed on from one place.
pub use Rattle.std.proofs.Common.{Bool, List, None, Option, Some, [], ap, arith, cond, drop, false, get_or, inl, inr, is_some, le_trans, length, map, not, refl, set, slice_index_or, subst, suc, sym, true, zero, ℕ, ⊎_elim, ◌&&◌, ◌*◌, ◌++◌, ◌+◌, ◌-◌, ◌/◌, ◌<◌, ◌==◌, ◌^◌, ◌||◌, ◌∙◌, ◌∷◌, ◌≡◌, ◌≤◌, ◌⊎◌}
pub use Rattle.std.proofs.Math.Seq.{drop-append_seam, take-length}
pub use Rattle.std.proofs.lemmas.Bool.{and_from, and_parts, cases_Bool, cases_eq, cases_lt, cond-false, cond-true, eq-eqb, eqb-true, false≢true, le-leb, le-ltb, leb-true, lt-ltb, ltb-false, ltb-true, not-true, not_from_false, or_cases, or_left, or_right, true≢false}
pub use Rattle.std.proofs.lemmas.Option.{none-some}
pub use Rattle.std.proofs.lemmas.List.{length-map, nil_from_length, take_all, take_more}
pub use Rattle.std.proofs.lemmas.List.Elements.{Contains-append_left, Contains-get_or, Contains-push, Contains-push_cases}
pub use Rattle.std.proofs.lemmas.List.Sums.{sum_by_more}
pub use Rattle.std.specs.Bool.{Decides}
pub use Rattle.std.specs.FinMap.{get, len}
pub use Rattle.std.specs.Prelude.{Contains, nat_le, nat_lt, option_map, sum_by, take, ◌↔◌}
pub use Rattle.hd_dep.specs.Clearing.{IsAllDetached, IsLostAt, detached}
pub use Rattle.hd_final.specs.Resurrection.{IsOut, Resurrects}
pub use Rattle.hd_final.specs.Settling.{Unregisters, unregistered}
pub use Rattle.hd_gc.specs.Inside.{AreFourNull, AreNull, Clears, marked_table}
pub use Rattle.hd_gc.specs.Collected.{Collected, LeavesPacked}
pub use Rattle.hd_gc.specs.Inside.{Holds, IsOldField, MayPromote, Promotes}
pub use Rattle.hd_gc.specs.Inside.{FoundSets, MarkedAndCleared, Reports}
pub use Rattle.hd_gc.specs.Inside.{MayRevive, Resurrected, Resurrection, Traced}
pub use Rattle.hd_gc.specs.{Ready.IsReady, Ready.Parts, Ready.parts, Ready.scene_of, Inside.basis_of}
pub use Rattle.hd_gc.specs.Inside.{IsRenamed, NamesKept}
pub use Rattle.hd_gc.specs.{Inside.cleared_steps, Inside.marked_steps, Inside.traced_steps, Steps.collected_steps, Steps.task_visits}
pub use Rattle.hd_gc.specs.Inside.{IsTracing, basis_in, parts_in}
pub use Rattle.hd_gc.specs.declared.phases.ClearedCounts.{ClearedCounts}
pub use Rattle.hd_heap.specs.Calls.{IsExtent, IsNext, IsWalk, is_after, is_old_carded}
pub use Rattle.hd_mark.specs.Marks.{IsSettledMarks, MarksOf, first_marks, pinned_in, promoted_in}
pub use Rattle.hd_model.proofs.EdgeChains.{grows_like, grows_none, grows_on, leads_on}
pub use Rattle.hd_model.proofs.EdgeInvariants.{grown_within, leads_like}
pub use Rattle.hd_model.proofs.EqualTables.{due_again, due_faded, same_table_on, visits_alike, visits_same}
pub use Rattle.hd_model.proofs.KindExtras.{pins_hold}
pub use Rattle.hd_model.proofs.KindTests.{few_kinds, listed_kind}
pub use Rattle.hd_model.proofs.MarkReach.{decides_kept, decides_reached, settled_closed, undue_in_place}
pub use Rattle.hd_model.proofs.Members.{first_in, later_in, member_cases, not_in_none}
pub use Rattle.hd_model.proofs.MovedScenes.{moved_ages, moved_by_identity, moved_whole, whole_in_place}
pub use Rattle.hd_model.proofs.PinTest.{pinned_held}
pub use Rattle.hd_model.proofs.PropertyCounts.{counts_le, counts_like, counts_named, counts_once, counts_where}
pub use Rattle.hd_model.proofs.RowReferences.{faded_ages, fades_by, fades_cleared}
pub use Rattle.hd_model.proofs.SceneCollection.{left_from, mapped_value, reached_kept, reached_on, root_object, root_reached}
pub use Rattle.hd_model.specs.Ages.{HasSoundAges, HasSoundCards, is_due, raised, visits}
pub use Rattle.hd_model.specs.Collect.{Collects, GoesBy, IsRemoved, IsSurviving, LosesAs, cleared, is_attaching, is_lost, left_by, loses, loses_by, survivor}
pub use Rattle.hd_model.specs.Counting.{Counts}
pub use Rattle.hd_model.specs.Heap.{Basis, HasIdentities, Heap, Placed, card_of, cells_of, has_object, id_at, is_carded, is_in_use, object_at, object_in, objects_of, placed_at, region_generation, region_of, used_of}
pub use Rattle.hd_model.specs.Kinds.{all_kinds, is_kind, kind_number}
pub use Rattle.hd_model.specs.Leads.{Grows, IsClosed, IsClosure, Leads}
pub use Rattle.hd_model.specs.Marking.{IsKeeping, IsSettled}
pub use Rattle.hd_model.specs.Reach.{IsAttached, IsEdge, IsHeld, IsKept, IsPinned, IsReached, IsRoot, IsToBeFinalized, held, named, older, queued}
pub use Rattle.hd_model.specs.Role.{Role, attaches, holds, long, role, short}
pub use Rattle.hd_model.specs.Scene.{IsCondemned, IsField, IsReading, IsWhole, IsYoungField, Objects, Rows, Scene, fields_at, fields_in, generation_at, generation_in, is_object}
pub use Rattle.hd_model.specs.State.{Extra, Handle, Object, rename_handle, rename_object, secondary}
pub use Rattle.hd_model.specs.Table.{Queue, Table, row_at}
pub use Rattle.hd_model.specs.Visits.{IsSameTable, MayVisitDue, visits_of, visits_over}
pub use Rattle.hd_model.specs.declared.data.Addr.{Addr}
pub use Rattle.hd_model.specs.declared.data.Kind.{Kind}
pub use Rattle.hd_model.specs.declared.data.Report.{Report}
pub use Rattle.hd_plan.specs.Commit.{IsSameShape, moved_object}
pub use Rattle.hd_plan.specs.Plan.{HasNoEmptyRegion, IsLaid, PlanOf, StartsInRegion, kept_in, forwarding_in, stays_in}
pub use Rattle.hd_scan.specs.Tasks.{is_role, long_tasks, role_number, root_tasks, short_tasks, swept, takes, takes_any, task_kind}
pub use Rattle.hd_scan.proofs.TaskRoles.{has_role}
pub use Rattle.hd_scan.specs.declared.task.Task.{Task}
pub use Rattle.hd_model.specs.declared.limits.TheConstants.{HOST_BLOCKS, CLUMP, CLUMPS, LEFT, OPEN, REGION, ROWS}
