-- The names that most proofs of this crate cite, passed on from one place.
pub use Rattle.std.proofs.lemmas.Option.{same_Some}
pub use Rattle.std.proofs.Common.{Bool, None, Option, Some, ap, arith, cond, false, inl, inr, not, refl, subst, sym, true, ℕ, ◌&&◌, ◌*◌, ◌+◌, ◌<◌, ◌||◌, ◌↔◌, ◌∙◌, ◌≡◌, ◌≢◌, ◌⊎◌}
pub use Rattle.std.proofs.lemmas.Bool.{and_parts, and_right, cases_eq, cases_lt, not-true, or_right}
pub use Rattle.std.specs.FinMap.{get, get-empty}
pub use Rattle.std.specs.FinSet.{contains, contains-empty}
pub use Rattle.std.specs.Ordering.{nat_cmp}
pub use Rattle.std.specs.Prelude.{IfSome, is_some, option_map}
pub use Rattle.hd_slots.specs.Change.{MayGrow, MayNote, Offers, change_in, change_of, grown_by, noted}
pub use Rattle.hd_slots.specs.Tied.{IsTied, is_free, is_live, kind_of_block}
pub use Rattle.hd_slots.specs.declared.change.Change.{Change}
pub use Rattle.hd_slots.specs.declared.change.Change.TheVariants.{Adds, Frees, GivesBack, Keeps, Takes}
pub use Rattle.hd_model.proofs.ReadAfterWrite.{get_beside, get_inserted, get_left, get_removed, write_cases}
pub use Rattle.hd_model.proofs.WellFormedSteps.{start_is_well_formed, step_keeps}
pub use Rattle.hd_model.specs.Command.{Adding, adding_key, adding_of, free_handle, idle_slot, in_idle, in_new, is_refused, made_handle, refuses, slot_of_key, with_entry}
pub use Rattle.hd_model.specs.Kinds.{is_paired, kind_number, kind_of}
pub use Rattle.hd_model.specs.Run.{AddsLeast, GivesBackLeast, GivesLeast, IsLeastAllFree, IsLeastFree, NoneAllFree, NoneFree, TakesLeast}
pub use Rattle.hd_model.specs.State.{BlockUse, Handle, IsAllFree, IsFree, Numbers, State, WeakEntry, block_of, extra_data, first_slot, given_of, handle_at, handles_of, register_of, start_of, use_of, with_handle, with_handle_register, without_use}
pub use Rattle.hd_model.specs.Step.{AddsEntry, FindsTableFull, IsLeastUnused, IsOutcome, MakesHandle, MayGive, Step, StepOf, TakesWay, blocks_needed, way_of_adding, with_growth}
pub use Rattle.hd_model.specs.Table.{kind_word}
pub use Rattle.hd_model.specs.WellFormed.{IsWellFormed}
pub use Rattle.hd_model.specs.declared.command.Cmd.{Cmd}
pub use Rattle.hd_model.specs.declared.data.Entry.{Entry}
pub use Rattle.hd_model.specs.declared.data.Grown.{Grown}
pub use Rattle.hd_model.specs.declared.data.Grown.TheVariants.{Back, One, Two, Zero}
pub use Rattle.hd_model.specs.declared.data.Id.{Id}
pub use Rattle.hd_model.specs.declared.data.Kind.{Kind}
pub use Rattle.hd_model.specs.declared.data.Kind.TheVariants.{Dependent}
pub use Rattle.hd_model.specs.declared.data.Slot.{Slot}
pub use Rattle.hd_pool.specs.Pool.{FreeSlots, HasNoWholeOf, HasNoneFor, IsFreeFor, IsLeastFreeFor, IsLeastWholeOf, IsWholeOf, slots_of}
pub use Rattle.hd_store.specs.Growth.{kind_in_use}
pub use Rattle.hd_store.specs.Offers.{GrowsFor, GrowsOrIsFull, GrowsUnoffered, IsOffer, MayOffer, TakesFor, TakesSlot, asks_of, handle_slot, needs_new, no_room}
pub use Rattle.hd_model.specs.declared.limits.TheConstants.{ROWS}
