-- The names that most proofs of this crate cite, passed on from one place.
pub use Rattle.std.proofs.Common.{All, AllPairs, Bool, Contains, Global, IfNone, IfSome, IsSome, List, None, Option, Some, Vec, [], ap, arith, bit_and, cond, drop, false, filter, get_or, inl, inr, length, length-append, map, not, refl, replicate, set, subst, suc, sum_by, sym, take, true, vec_capacity, vec_len, zero, ℕ, ◌%◌, ◌*◌, ◌++◌, ◌+◌, ◌-◌, ◌/◌, ◌<◌, ◌==◌, ◌^◌, ◌∙◌, ◌∷◌, ◌≡◌, ◌≢◌, ◌≤◌, ◌⊎◌}
pub use Rattle.std.proofs.lemmas.Bool.{both_ways, cases_eq, cases_lt, cases_order, eq-eqb, false≢true, ne_eqb, not-true, true≢false}
pub use Rattle.std.proofs.lemmas.List.{drop_more, get_or-drop, get_or-map, get_or-set_other, get_or-set_same, get_or_append_left, get_or_at, get_or_default, get_or_push, get_or_read, length-drop, length-map, length-replicate, length-set, length_push, map-set, take-append-drop, take_at}
pub use Rattle.std.proofs.lemmas.List.Elements.{All-set, Contains-append_left, Contains-push}
pub use Rattle.std.proofs.lemmas.List.Sums.{sum_by-set}
pub use Rattle.std.proofs.lemmas.Option.{get_or_from_slice_get, same_Some, slice_get-get_or, slice_get_past, slice_get_read, slice_get_within}
pub use Rattle.std.specs.Cmp.{nat_cmp_total}
pub use Rattle.std.specs.FinMap.{FinMap, contains_key, empty, empty_of_len, find, from_entries, get, get-empty, get-from_entries, insert, len, len-empty, len-insert, len-remove, nat_cmp-IsAntisymmetric, remove, same_map}
pub use Rattle.std.specs.FinSet.{FinSet, contains, contains-empty}
pub use Rattle.std.specs.Int.{bit_at}
pub use Rattle.std.specs.Option.{option_copied, option_map}
pub use Rattle.std.specs.Ordering.{nat_cmp}
pub use Rattle.std.specs.Prelude.{bit_or, bit_xor, is_none, is_some, slice_get, unwrap_or}
pub use Rattle.hd_mask.proofs.Bits.{bit_at-shr, flip_other, flip_same, set_other, set_same}
pub use Rattle.hd_model.proofs.KindTests.{few_kinds, same_number}
pub use Rattle.hd_model.proofs.ReadAfterWrite.{get_beside, get_inserted, get_left, get_removed, insert_cases, remove_cases}
pub use Rattle.hd_model.specs.Kinds.{is_paired, kind_number}
pub use Rattle.hd_model.specs.State.{BlockUse, Handle, extra_data, handles_of, secondary}
pub use Rattle.hd_model.specs.Table.{IsLeastWithout, IsTable, Table, chain_of, empty_table, fits, fits_in, has_handles, is_count, is_nothing, is_secondary, is_single, is_strength, kind_at, kind_in, live_at, row_at, with_block, with_data, with_row, without_block, without_row}
pub use Rattle.hd_model.specs.declared.data.Addr.{Addr}
pub use Rattle.hd_model.specs.declared.data.Kind.{Kind}
pub use Rattle.hd_seg.specs.{Inside.HasFrom, Inside.HasNumbers, Inside.HasUnused, Inside.IsBlocks, Inside.IsLinked, Inside.IsListed, Inside.ListsUnused, Blocks.Uses, Blocks.block_at, Blocks.extras_at, Blocks.use_at, Blocks.use_of, Blocks.uses_in}
pub use Rattle.hd_seg.specs.{Inside.IsPaired, Inside.IsSeg, Inside.with_extra}
pub use Rattle.hd_seg.specs.Rows.{Vectors, extra_at, extra_index, extra_index_in, live_bit, row_by, row_in, table_in, target_at}
pub use Rattle.hd_seg.specs.Mapped.{mapped, with_entry}
pub use Rattle.hd_model.specs.Handles.{extra_of}
pub use Rattle.hd_seg.specs.Row.{block_kind_of, extra_from, handle_of, row_of}
pub use Rattle.hd_seg.specs.declared.block.Block.{Block}
pub use Rattle.hd_model.specs.declared.handle.Extra.{Extra}
pub use Rattle.hd_seg.specs.declared.row.Row.{Row}
pub use Rattle.hd_model.specs.declared.limits.TheConstants.{HOST_BLOCKS, CLUMP, CLUMPS, KINDS, ROWS}
pub use Rattle.hd_tiers.specs.Sets.{HasNoneFrom, IsLeastFrom, NumberSet}
