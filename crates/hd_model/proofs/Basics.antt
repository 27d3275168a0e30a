-- The names of std that most proofs of this crate cite, passed on from one place. Declares nothing.
pub use Rattle.std.proofs.Common.{All, AllPairs, Bool, Contains, Decides, IfSome, IsSome, IsSomeAnd, List, MatchOption, None, Option, Some, T, [], ap, arith, cond, eq-eqb, eqb-true, false, filter, get_or, get_or-set_other, get_or-set_same, if◌then◌else◌, inl, inr, is_lt, is_some, le_antisymm, le_of_eq, le_refl, le_trans, length, length-append, length-set, lit<, lt-ltb, ltb-false, ltb-true, map, min, nat_cmp, nat_le, nat_lt, ne_eqb, not, option_and_then, option_map, option_to_list, refl, replicate, set, slice_index_or, subst, suc, suc-le-suc, sum_by, sym, true, true≢false, unwrap_or, zero, zero-le, ℕ, ⊎_elim, ◌%◌, ◌&&◌, ◌*◌, ◌++◌, ◌+◌, ◌-◌, ◌/◌, ◌<◌, ◌==◌, ◌^◌, ◌||◌, ◌∙◌, ◌∷◌, ◌≡◌, ◌≢◌, ◌≤◌, ◌⊎◌}
pub use Rattle.std.proofs.lemmas.Bool.{and_from, and_parts, cases_Bool, cases_eq, cases_lt, cases_order, cond-false, cond-true, cond_both, false≢true, le-leb, le-ltb, leb-false, leb-true, not-false, not_from_false, not_from_true, or_cases, or_left, or_right}
pub use Rattle.std.proofs.lemmas.Bool.Decides.{Decides-and, Decides-like, Decides-or, nat_tests, same_from_decides}
pub use Rattle.std.proofs.lemmas.List.{append-nil, append_assoc, get_or-replicate, get_or_default, get_or_past, length-map, length-replicate, map-append}
pub use Rattle.std.proofs.lemmas.List.Elements.{Contains-append_cases, Contains-append_left, Contains-append_right}
pub use Rattle.std.proofs.lemmas.List.Sums.{sum_by-append, sum_by-cons}
pub use Rattle.std.proofs.lemmas.Option.{none-some, same_Some}
pub use Rattle.std.specs.Cmp.{nat_cmp_total, unsigned_tied}
pub use Rattle.std.specs.FinMap.{FinMap, contains_key, empty, empty_of_len, entries, entries-insert, entries_sorted, find, get, get-empty, get-entries, get-from_entries, get-insert, get-remove, insert, is_sorted, keys, len, len-empty, len-entries, len-insert, len-remove, nat_cmp-IsAntisymmetric, put, remove, same_map, values}
pub use Rattle.std.specs.FinMap.Entries.{below_all, by_order}
pub use Rattle.std.specs.List.{list_any}
pub use Rattle.std.specs.List.Sorted.{IsNonDecreasingBy}
pub use Rattle.std.specs.Option.{option_map_or, option_or}
pub use Rattle.std.specs.Ordering.{eq_by_cmp}
pub use Rattle.std.specs.declared.cmp.Ordering.{Ordering}
pub use Rattle.std.specs.declared.cmp.Ordering.TheVariants.{Equal, Greater, Less}
pub use Rattle.hd_model.specs.Ages.{HasSoundAges, HasSoundCards, age_of, clump_of, due_clumps, grown, is_due, lowered, raised, visits}
pub use Rattle.hd_model.specs.Aging.{Aged, AgedRun, AgedStep, aged_by, aged_by_class, aged_by_command, aged_start, is_refused, lowered_at, lowered_by_new, lowered_to}
pub use Rattle.hd_model.specs.Collect.{Collects, CollectsState, Decision, GoesBy, IsRemoved, IsReport, IsSurviving, LosesAs, cleared, is_attaching, is_lost, left_by, loses, loses_by, survivor, swept}
pub use Rattle.hd_model.specs.CollectionLaws.{AgesOfRunsAreSound, Collected, CollectionsKeepWellFormed, DependentsKeepNoTarget, DependentsUseNoTarget, Follows, GarbageGoes, GenerationsRiseOnce, Goes, GrownAgesAreSound, HasTarget, InUseIsLeftAlone, InUseIsReached, IsDependent, IsGone, IsLeftAlone, IsUnregistered, Joins, KeepsContents, LosesTarget, LoweredAgesAreSound, NoneDanglesAfter, ObjectsAreResurrectedOnce, OlderObjectsStay, QueueGrowsInTurn, ReadingsKeepWhatIsKept, ReportSays, RescuedObjectsStay, ResurrectsOnce, RisesOnce, SecondCollectionIsIdle, SecondariesFollowTargets, Stays, UsedObjectsStay}
pub use Rattle.hd_model.specs.Command.{Adding, Outcome, adding_key, adding_of, reply_address, reply_with, entry_value, fresh_object, has_key, idle_slot, in_idle, in_new, is_idle, load_reply, made_extra, made_handle, new_object, on_field, on_handle, on_handle_of, on_object, read_generation, refuses, set_registered, slot_of_key, take_first, take_queued, value_at, weak_slot_where, with_count, with_entry}
pub use Rattle.hd_model.specs.Counting.{Counts}
pub use Rattle.hd_model.specs.Data.{Addr, Class, Cmd, Entry, Grown, Id, Kind, Make, Refusal, Reply, Report, Slot, Strength}
pub use Rattle.hd_model.specs.InUse.{IsGarbage, IsInUse, IsLedTo, IsOlder, IsRescued, IsResurrected, IsUsed, by_dependent, by_field, by_handle, from_start, in_queue, in_register, in_static}
pub use Rattle.hd_model.specs.Kinds.{all_kinds, is_kind, is_paired, kind_number, kind_of, secondary_register}
pub use Rattle.hd_model.specs.Laws.{AgedRunsAreRuns, ReturnsCount, BoardIsReadBack, CountIsReadBack, FieldIsReadBack, FreedIsNotLive, GivesCount, GivesSecondary, GivesStrength, GivesTarget, HandleRegisterIsReadBack, HandlesAreMadeLessFreed, IsDoneOn, MakesIn, NewFieldIsNull, NewValueIsZero, ObjectsAreMadeLessRemoved, OneStateAfter, RegisterIsReadBack, RunsHaveAges, SecondaryIsReadBack, Since, SoloRunsAreOne, SoloTextIsOne, StaticIsReadBack, StrengthIsKept, TargetIsReadBack, UntouchedStays, ValueIsReadBack, WritesCount, WritesField, WritesSecondary, WritesStrength, WritesTarget, WritesValue, frees_handle, is_done, lowering_reply, object_returned, put_in_handle_register, put_in_register, removed_in}
pub use Rattle.hd_model.specs.Leads.{Grows, IsClosed, Leads}
pub use Rattle.hd_model.specs.PinnedAddresses.{IsFreeAddress, MayReturn, Meet, Range, is_pinned, is_target, with_pinned}
pub use Rattle.hd_model.specs.Reach.{IsAttached, IsEdge, IsHeld, IsKept, IsPinned, IsReached, IsRoot, IsToBeFinalized, held, named, older, queued}
pub use Rattle.hd_model.specs.Role.{Role, attaches, holds, long, pins, pins_by, pins_by_strength, pins_with, role, role_by, role_of, role_of_count, role_of_strength, short}
pub use Rattle.hd_model.specs.Run.{AddsLeast, Chain, GivesBackLeast, GivesLeast, IsLeastFree, NoneAllFree, NoneFree, Run, SoloRun, SoloStep, TakesLeast, commands_of, link, part_of, stay}
pub use Rattle.hd_model.specs.Scene.{IsCondemned, IsField, IsReading, IsWhole, Objects, Rows, Scene, fields_in, generation_at, generation_in, is_object, joined, scene_of}
pub use Rattle.hd_model.specs.State.{BlockUse, Extra, Handle, IsAllFree, IsFree, Numbers, Object, State, WeakEntry, block_of, board_of, count, count_of, extra_data, field_of, first_slot, given_of, handle_at, handle_register_of, handles_of, identity_of, last_serial, nothing, object_by_id, register_of, rename_extra, rename_handle, rename_object, row_of, secondary, secondary_of, size_of, start_of, static_of, strength, strength_in, total_size, use_of, weak_handle, with_board, with_handle, with_handle_register, with_object, with_address, with_queue, with_register, with_serial, with_static, with_use, with_weak, without_handle, without_secondary, without_use}
pub use Rattle.hd_model.specs.Step.{AddsEntry, RepliesAddress, DoesCollect, FindsTableFull, GivesBack, IsLeastUnused, IsOutcome, MakesHandle, MayGive, Step, StepOf, TakesWay, Way, adds_entry, replies_address, blocks_needed, collects, decided, gives_back, makes_handle, makes_object, pinned_by, pinned_target, way_of, way_of_adding, with_growth, with_made}
pub use Rattle.hd_model.specs.Text.{newline, reply_text, text_of}
pub use Rattle.hd_model.specs.Touched.{Untouched, touched_by}
pub use Rattle.hd_model.specs.UserLaws.{ChangesQueue, Does, FinalTakesTheFirst, HasPinnedApart, PinnedObjectsDoNotOverlap, QueueGoesInTurn, QueueIsLeft, TakesCells, taken, taken_by, takes}
pub use Rattle.hd_model.specs.Valid.{IsValid}
pub use Rattle.hd_model.specs.WeakLaws.{EntriesFollowKeys, EntriesKeepNoKey, EntriesUseNoKey}
pub use Rattle.hd_model.specs.WellFormed.{FitsKind, HasHandles, HasObjects, HasSerials, HasShape, HasSoundReferences, HasWeakTable, IsWellFormed, Names}
pub use Rattle.hd_model.specs.declared.data.Grown.TheVariants.{Back, One, Two, Zero}
pub use Rattle.hd_model.specs.declared.limits.TheConstants.{FIELDS, HEAP, OLDEST, REGISTERS, ROWS}
