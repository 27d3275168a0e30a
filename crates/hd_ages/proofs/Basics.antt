-- The names that most proofs of this crate cite, passed on from one place.
pub use Rattle.std.proofs.Common.{All, Bool, List, None, Option, Some, [], add-one, ap, append-nil, arith, bit_and, bit_or, cond, drop, false, filter, get_or, inl, inr, is_some, length, lit<, lit≤, map, min, not, refl, replicate, set, slice_get, subst, suc, sym, take, true, zero, ℕ, ⊎_elim, ◌%◌, ◌&&◌, ◌*◌, ◌++◌, ◌+◌, ◌-◌, ◌/◌, ◌<◌, ◌==◌, ◌^◌, ◌||◌, ◌∙◌, ◌∷◌, ◌≡◌, ◌≢◌, ◌≤◌, ◌⊎◌}
pub use Rattle.std.proofs.Math.Seq.{drop-append-add, drop-append_seam, drop-length, take-add, take-append_seam, take-length}
pub use Rattle.std.proofs.lemmas.Bool.{and_parts, both_ways, cases_eq, cases_lt, cond-false, cond_both, eq-eqb, eqb-true, le-leb, leb-true, lt-leb, ltb-true, ne_eqb, not-true, or_cases}
pub use Rattle.std.proofs.lemmas.List.{drop-drop, get_or-drop, get_or-take, get_or_read, length-set, length-take, map-append}
pub use Rattle.std.proofs.lemmas.List.Elements.{All-append, All-drop, All-map, All-replicate, All-set, All-take, All-weaker, Contains-append_cases, Contains-append_left, Contains-append_right, filter_agree}
pub use Rattle.std.proofs.lemmas.Nat.Bits.{bit_at-lt, bit_at-zero, bit_at_above, bit_at_ones}
pub use Rattle.std.specs.FinMap.{contains_key, get, len}
pub use Rattle.std.specs.FinSet.{contains, contains-empty}
pub use Rattle.std.specs.Int.{bit_at}
pub use Rattle.std.specs.List.{range_with_len}
pub use Rattle.std.specs.Option.{ForSome}
pub use Rattle.std.specs.Prelude.{AllPairs, Contains, IfNone, IfSome, IsSome, MatchOption, nat_le, option_map, slice_index}
pub use Rattle.hd_ages.specs.Clumps.{IsSlotOf, ages_at, clump_at, grown_at, with_ages}
pub use Rattle.hd_ages.specs.{Inside.Advances, Inside.IsOver, Walk.Ends, Walk.Gives, Walk.IsOn, Walk.blocks_from, Walk.blocks_to_come, Walk.from_block, Walk.clumps_to_come, Walk.due_slots, Walk.slots_in, Walk.slots_of, Walk.slots_to_come}
pub use Rattle.hd_ages.specs.{Inside.AreAbove, Inside.HasYoung, Inside.IsWord, Inside.ages_in, Inside.is_word, Word.age_in, Word.ages_of}
pub use Rattle.hd_ages.specs.declared.due_rows.DueRows.{DueRows}
pub use Rattle.hd_mask.specs.Mask.{set_bits}
pub use Rattle.hd_model.proofs.Basics.{length-append, length-map}
pub use Rattle.hd_model.proofs.Members.{first_in, later_in, member_cases, member_same, not_in_none, pairs_append, pairs_cons, pairs_first, pairs_none, pairs_passing, pairs_rest, passing_from, passing_in}
pub use Rattle.hd_model.proofs.PropertyCounts.{counts_join, counts_le, counts_like, counts_none, fewer}
pub use Rattle.hd_model.specs.Ages.{clump_of, clumps_of, due_clumps, grown, lowered, raised}
pub use Rattle.hd_model.specs.Counting.{Counts}
pub use Rattle.hd_model.specs.State.{BlockUse, Handle, extra_data, handles_of}
pub use Rattle.hd_model.specs.Table.{IsTable, Table, chain_of, has_handles, kind_at, kind_in, live_at, row_at}
pub use Rattle.hd_model.specs.Visits.{IsSameTable, visits_of}
pub use Rattle.hd_model.specs.declared.data.Addr.{Addr}
pub use Rattle.hd_model.specs.declared.data.Kind.{Kind}
pub use Rattle.hd_model.specs.declared.data.Slot.{Slot}
pub use Rattle.hd_seg.specs.Rewriting.{Rewrites}
pub use Rattle.hd_model.specs.declared.limits.TheConstants.{HOST_BLOCKS, CLUMP, CLUMPS, ROWS}
pub use Rattle.hd_tiers.specs.Sets.{HasNoneFrom, IsLeastFrom, NumberSet}
