-- The names that most proofs of this crate cite, passed on from one place.
pub use Rattle.std.proofs.lemmas.Option.{none-some, same_Some}
pub use Rattle.std.proofs.lemmas.List.Elements.{filter-append}
pub use Rattle.std.proofs.Common.{Bool, List, None, Option, Some, [], ap, arith, bit_or, bit_xor, cond, eq-eqb, false, filter, get_or, inl, inr, length, length-append, ne_eqb, not, refl, replicate, rules, set, slice_get, subst, suc, sym, true, zero, ℕ, ◌%◌, ◌*◌, ◌++◌, ◌+◌, ◌-◌, ◌/◌, ◌<◌, ◌==◌, ◌^◌, ◌∙◌, ◌∷◌, ◌≡◌, ◌≢◌, ◌≤◌, ◌⊎◌}
pub use Rattle.std.proofs.Math.ListN.{length-replicate, length-set}
pub use Rattle.std.proofs.lemmas.Bool.{and_parts, and_right, cases_eq, cases_lt, cond-false, cond-true, eqb-false, eqb-true, false_from_ne_true, le-ltb, lt-ltb, ltb-false, ltb-true, not-true}
pub use Rattle.std.proofs.lemmas.List.{append-nil, append_assoc, get_or-set_other, get_or-set_same, set-get_or}
pub use Rattle.std.proofs.lemmas.Nat.Bits.{bit_at-lt, bit_at-pow_other, bit_at-pow_same, bit_at-zero, bit_at_above, bit_at_not, bit_at_or, same_from_bits_below}
pub use Rattle.std.specs.Int.{bit_at, bit_not, w64}
pub use Rattle.std.specs.Prelude.{IsNone, nat_lt, ◌&&◌, ◌||◌, ◌↔◌}
pub use Rattle.atomic_table.proofs.Lists.{at_longer, at_set, set_else}
pub use Rattle.atomic_table.specs.Table.{Allows, Final, Me, Seen, State, Step, gives, keeps, opening, step, takes}
pub use Rattle.hd_custody.specs.Inside.{IsBlock, Banked, HasRows, HasRowsAs, Made, Offers, calling, found_or, into_mask, pushed_to, storing_data, swept_to, went, with_block, with_view}
pub use Rattle.hd_custody.specs.Calls.{Allocates, Gathers, Releases, ShowsNone, gathered, offered, slot_number}
pub use Rattle.hd_custody.specs.Counts.{IsCell, Every, Has, HasAs, IsSlot, cell_kind, changed, held_times, kind_word, named, named_by, naming, one_if, picks, put_out, rows, slot_count, total, total_at, weight, whole, with_slot, without, without_block, without_rows}
pub use Rattle.hd_custody.specs.Rule.{Belongs, Custodied, Divided, Ended, Entered, Fits, Gate, HasNumber, Holds, IsUnused, Out, Seats, Slots, assigned, cleared, drawn, entered, exchanged, held_by, left, returned, room_of, seen, settled, stored, tally}
pub use Rattle.hd_custody.specs.Traces.{Did, Phase, again, again_whole, back, back_part, bank, drain, drain_whole, ending, every_row, follow, found, is_step, last, look, look_whole, lowest, missed, next_phase, next_rows, probe, probe_word, push, push_word, rest, settle, sweep, sweep_word, to_bank, to_look, to_look_whole, to_probe, to_push, to_sweep, wrong}
pub use Rattle.hd_custody.specs.{Views.Acting, Views.Continues, Views.Follows, Views.Fresh, Views.IsPrefix, Views.KindIs, Views.Known, Views.Named, Views.Sorted, Views.banked, Views.begun, Views.called, Views.closed, Views.drained, Views.gave_back, Views.given, Views.granted, Views.handle_block, Views.joined, Views.looked, Views.opened, Views.put_in, Views.restored, Views.shared_out, Views.spent, Views.starting, Views.swapped, Views.took, Views.with_data, Inside.IsSeated, Inside.Kinded, Inside.carried_by}
pub use Rattle.hd_custody.specs.declared.view.View.{View}
pub use Rattle.hd_custody.specs.declared.words.TheConstants.{BANK, CACHE, EXTRA_DATA, FIRST_MASK, FIRST_QUICK, WORDS}
pub use Rattle.hd_mask.specs.Mask.{set_bits}
pub use Rattle.hd_model.specs.Run.{part_of}
pub use Rattle.hd_model.specs.State.{Numbers}
pub use Rattle.hd_model.specs.declared.data.Entry.{Entry}
pub use Rattle.hd_model.specs.declared.held.Held.{Ghosts}
pub use Rattle.hd_model.specs.declared.limits.TheConstants.{BLOCKS, KINDS, ROWS}
