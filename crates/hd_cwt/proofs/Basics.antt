-- The names that most proofs of this crate cite, passed on from one place.
pub use Rattle.std.proofs.Common.{Bool, Contains, IfNone, IfSome, IsSome, List, None, Option, Some, [], ap, arith, cond, eq-eqb, false, filter, get_or, inl, inr, length, length-append, map, ne_eqb, not, option_map, refl, replicate, rules, set, subst, suc, sym, true, vec_capacity, ℕ, ⊎_elim, ◌*◌, ◌++◌, ◌+◌, ◌-◌, ◌/◌, ◌<◌, ◌==◌, ◌^◌, ◌∙◌, ◌∷◌, ◌≡◌, ◌≢◌, ◌≤◌, ◌⊎◌}
pub use Rattle.std.proofs.lemmas.Bool.{both_ways, cases_eq, cases_lt, cond_both, false≢true}
pub use Rattle.std.proofs.lemmas.Grind.{get_or_default_zero}
pub use Rattle.std.proofs.lemmas.List.{get_or-set_other, get_or-set_same, get_or_default, get_or_past, length-map, length-replicate, length-set}
pub use Rattle.std.proofs.lemmas.Nat.{mod_below}
pub use Rattle.std.proofs.lemmas.Option.{none-some, same_Some}
pub use Rattle.std.specs.FinMap.{empty, entries, get, get-empty, insert, len, len-empty}
pub use Rattle.std.specs.FinSet.{contains, contains-empty}
pub use Rattle.std.specs.Ordering.{nat_cmp}
pub use Rattle.std.specs.Prelude.{is_none, is_some}
pub use Rattle.hd_cwt.specs.Inside.{HasBucket, HasIdle, IsBucket, IsEntries, IsLeft, IsLinked, IsListed, IsListedAt, IsTaken, IsUnlisted, bucket_in, copied, entry_at, idle_in, keyed_in}
pub use Rattle.hd_cwt.specs.Inside.{IsRings, IsWalk, exchanged, node_at, turned}
pub use Rattle.hd_cwt.specs.WeakTable.{CanTake, HasKey, IsIdle, IsWeakTable, LooksAt, WeakTable, bucket_of, entries_in, is_in_bucket, kept_key, room_of, slots_of}
pub use Rattle.hd_model.proofs.IndexedItems.{by_index-clear, by_index-empty, by_index-put, get-by_index, get_or-replicate_None}
pub use Rattle.hd_model.proofs.Members.{first_in, later_in, mapped_in, member_cases, not_in_none, pairs_cons, pairs_none, pairs_passing, passing_from, passing_in}
pub use Rattle.hd_model.proofs.ReadAfterWrite.{insert_cases, len_again, len_less, len_new, remove_cases, some_cases, still_some}
pub use Rattle.hd_model.specs.Indexed.{by_index}
pub use Rattle.hd_model.specs.declared.data.Id.{Id}
pub use Rattle.hd_tiers.specs.Sets.{HasNoneFrom, IsLeastFrom, NumberSet}
pub use Rattle.hd_model.specs.declared.limits.TheConstants.{HOST_BLOCKS, ROWS}
