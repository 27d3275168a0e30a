-- The names that most proofs of this crate cite, passed on from one place.
pub use Rattle.std.proofs.lemmas.Nat.{row_fits, same_from_place}
pub use Rattle.std.proofs.lemmas.Option.{same_Some}
pub use Rattle.std.proofs.Common.{Bool, IsSome, List, None, Option, Some, [], ap, arith, cond, false, get_or, inl, inr, length, length-append, max, min, refl, replicate, rules, set, subst, suc, sym, true, zero, ℕ, ◌*◌, ◌++◌, ◌+◌, ◌-◌, ◌/◌, ◌<◌, ◌∙◌, ◌∷◌, ◌≡◌, ◌≢◌, ◌≤◌, ◌⊎◌}
pub use Rattle.std.proofs.lemmas.Bool.{both_ways, cases_eq, cases_lt, cases_order, false_from_ne_true, true≢false}
pub use Rattle.std.proofs.lemmas.Grind.{get_or_default_zero}
pub use Rattle.std.proofs.lemmas.List.{get_or-replicate, get_or-set_other, get_or-set_same, get_or_past, get_or_read, length-replicate, length-set}
pub use Rattle.std.specs.Cmp.{nat_cmp_total}
pub use Rattle.std.specs.FinMap.{get, nat_cmp-IsAntisymmetric, same_map}
pub use Rattle.std.specs.FinSet.{FinSet, contains, contains-empty, difference, empty, insert, remove, union}
pub use Rattle.std.specs.Ordering.{nat_cmp}
pub use Rattle.std.specs.Prelude.{IfNone, IfSome, IsTrue, is_some, ◌↔◌}
pub use Rattle.hd_model.proofs.IndexedItems.{by_index-clear, by_index-empty, by_index-put, get-by_index, get_or-replicate_None}
pub use Rattle.hd_model.specs.declared.limits.TheConstants.{HOST_BLOCKS, KINDS, ROWS}
pub use Rattle.hd_pool.specs.Inside.{AreLeast, IsLeastOrEnd, KindBlocks, IsPool, IsWholes, index_of, kind_at}
pub use Rattle.hd_pool.specs.Pool.{FreeSlots, HasNoneFor, IsFreeFor, IsLeastFreeFor, IsLeastWholeOf, IsWholeOf}
pub use Rattle.hd_tiers.specs.Sets.{HasAllOf, HasNoneBetween, HasNoneOf, HasSomeOf, NumberSet, IsLeastBetween, IsLeastOf, numbers_of}
pub use Rattle.hd_mask.specs.declared.TheConstants.{BITS}
