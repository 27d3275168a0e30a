-- The names that most proofs of this crate cite, passed on from one place.
pub use Rattle.std.proofs.lemmas.List.Elements.{filter-append}
pub use Rattle.std.proofs.Common.{Bool, Err, List, None, Ok, Option, Result, Some, [], ap, arith, cond, drop, eq-eqb, false, filter, get_or, inl, inr, length, length-append, ne_eqb, not, refl, slice_index, subst, suc, sum, sym, take, true, vec_capacity, zero, ℕ, ◌%◌, ◌&&◌, ◌*◌, ◌++◌, ◌+◌, ◌-◌, ◌/◌, ◌<◌, ◌==◌, ◌||◌, ◌↔◌, ◌∙◌, ◌∷◌, ◌≡◌, ◌≢◌, ◌≤◌, ◌⊎◌}
pub use Rattle.std.proofs.Math.ListN.{get_or-append}
pub use Rattle.std.proofs.Math.Seq.{get_or-append_seam}
pub use Rattle.std.proofs.lemmas.Bool.{cases_eq}
pub use Rattle.std.specs.FinMap.{get, get-empty}
pub use Rattle.std.specs.Ordering.{nat_cmp}
pub use Rattle.std.specs.Prelude.{IfSome, IsNone, MatchResult, is_some, option_map, slice_index_or}
pub use Rattle.atomic_table.specs.Seated.{TableId}
pub use Rattle.crossbeam_utils.specs.Padded.{padded_value}
pub use Rattle.hd_custody.proofs.HeldOnBlock.{both_off, filter_picks, picks_none, picks_one, row_has, with_data_some}
pub use Rattle.hd_custody.proofs.HeldSlots.{every_append, every_cons, every_picks, has_member, member_at}
pub use Rattle.hd_custody.proofs.LeaveHeld.{none_ended, unchanged}
pub use Rattle.hd_custody.specs.Calls.{Gathers, gathered, offered, slot_number}
pub use Rattle.hd_custody.specs.Counts.{Every, Has, HasAs, changed, is_nil, picks, rows, slot_block, without, without_block}
pub use Rattle.hd_custody.specs.Rule.{Divided, Ended, Entered}
pub use Rattle.hd_custody.specs.Views.{Continues, Follows, Fresh, GrowsByBlocks, IsPrefix, KindIs, Known, MayGrant, Named, called, closed, extra_block, gave_back, granted, handle_block, joined, numbers_of, shared_out, starting, took}
pub use Rattle.hd_custody.specs.declared.view.View.{View}
pub use Rattle.hd_gate.specs.Alone.{FindsFullExactly, HasCalled, TrimsExactly}
pub use Rattle.hd_slots.specs.Change.{MayNote, Offers, change_in, change_of, noted}
pub use Rattle.hd_gate.specs.Inside.{IsIdle}
pub use Rattle.hd_gate.specs.Inside.{AreNew, HasEnded, IsFirst, IsNew}
pub use Rattle.hd_gate.specs.Shared.{AreAll, Begin, CallerView, FoundJournal, HadRoom, HasDone, HasParts, LookedFor, OwnMiss, OwnSteps, ReleasesOne, SearchView, SlotCalls, looks_with_gate}
pub use Rattle.hd_slots.specs.Tied.{IsTied, is_live}
pub use Rattle.hd_gate.specs.{Inside.Looked, Inside.LooksWhere, Inside.ReleasesFreed, Inside.Stayed, Inside.Turned, Inside.freed_in, Inside.with_grown, Inside.without_gathered, Turns.caller_view_of, Turns.search_of}
pub use Rattle.hd_slots.specs.declared.change.Change.{Change}
pub use Rattle.hd_slots.specs.declared.change.Change.TheVariants.{Adds, Frees, GivesBack, Keeps, Takes}
pub use Rattle.hd_model.proofs.ReadAfterWrite.{get_beside, get_inserted, get_left, get_removed}
pub use Rattle.hd_model.proofs.WellFormedSteps.{first_block, run_is_well_formed}
pub use Rattle.hd_model.specs.Command.{adding_of}
pub use Rattle.hd_model.specs.Kinds.{is_paired, kind_number}
pub use Rattle.hd_model.specs.Run.{Run, part_of}
pub use Rattle.hd_model.specs.State.{BlockUse, Handle, IsFree, Numbers, State, block_of, extra_data, first_slot, handles_of, start_of, use_of, without_use}
pub use Rattle.hd_model.specs.Step.{Step, StepOf, blocks_needed}
pub use Rattle.hd_model.specs.Table.{kind_word}
pub use Rattle.hd_model.specs.WellFormed.{IsWellFormed}
pub use Rattle.hd_model.specs.declared.command.Cmd.{Cmd}
pub use Rattle.hd_model.specs.declared.data.Entry.{Entry}
pub use Rattle.hd_model.specs.declared.data.Grown.{Grown}
pub use Rattle.hd_model.specs.declared.data.Grown.TheVariants.{Back, One, Two, Zero}
pub use Rattle.hd_model.specs.declared.data.Id.{Id}
pub use Rattle.hd_model.specs.declared.data.Kind.{Kind}
pub use Rattle.hd_model.specs.declared.data.Kind.TheVariants.{Dependent}
pub use Rattle.hd_model.specs.declared.data.Slot.{Slot}
pub use Rattle.hd_pool.specs.Pool.{FreeSlots}
pub use Rattle.hd_store.specs.Growth.{kind_in_use}
pub use Rattle.hd_store.specs.Offers.{FitsHeap, GrowsFor, GrowsUnoffered, IsOffer, MayOffer, TakesFor, asks_of, handle_slot, needs_new, needs_slot, no_room}
pub use Rattle.hd_world.specs.World.{MayApply, WorldView}
pub use Rattle.hd_world.specs.Stepped.{Stepped, WantsMemory}
pub use Rattle.hd_world.specs.contracts.world.WorldHeld.TheImpl.{ghosts}
pub use Rattle.hd_model.specs.declared.limits.TheConstants.{BLOCKS, ROWS}
