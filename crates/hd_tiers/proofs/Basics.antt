-- The names that most proofs of this crate cite, passed on from one place.
pub use Rattle.std.proofs.Common.{Bool, Err, List, None, Ok, Option, Result, Some, ap, arith, bit_and, bit_or, cond, false, filter, get_or, inl, inr, length, max, not, refl, replicate, set, subst, suc, sym, true, zero, ℕ, ◌%◌, ◌&&◌, ◌*◌, ◌+◌, ◌-◌, ◌/◌, ◌<◌, ◌==◌, ◌^◌, ◌||◌, ◌∙◌, ◌∷◌, ◌≡◌, ◌≢◌, ◌≤◌, ◌⊎◌}
pub use Rattle.std.proofs.lemmas.Bool.{both_ways, cases_eq, cases_lt, eq-eqb, eqb-true, false_from_ne_true, ne_eqb}
pub use Rattle.std.proofs.lemmas.Grind.{get_or_default_zero}
pub use Rattle.std.proofs.lemmas.List.{get_or-replicate, get_or-set_other, get_or-set_same, get_or_past, length-replicate, length-set}
pub use Rattle.std.specs.Cmp.{nat_cmp_total, unsigned_tied}
pub use Rattle.std.specs.FinMap.{nat_cmp-IsAntisymmetric}
pub use Rattle.std.specs.FinSet.{FinSet, contains, contains-difference, contains-empty, contains-from_list_nat, contains-insert, contains-remove, contains-union, difference, empty, insert, remove, same_set, union}
pub use Rattle.std.specs.Int.{bit_at, bit_not, w64}
pub use Rattle.std.specs.List.{list_any, range_with_len}
pub use Rattle.std.specs.Ordering.{eq_by_cmp, nat_cmp}
pub use Rattle.std.specs.Prelude.{IfNone, IfSome, MatchResult, is_some, nat_eq}
pub use Rattle.hd_tiers.specs.{Inside.IsTiered, Inside.Lengthened, Sets.is_marked}
pub use Rattle.hd_tiers.specs.Sets.{HasAllBetween, HasAllOf, HasNoneBetween, HasNoneFrom, HasNoneOf, HasSomeOf, IsGapFrom, NumberSet, IsLeastFrom, IsLeastOf, numbers_of}
pub use Rattle.hd_mask.specs.declared.TheConstants.{BITS}
pub use Rattle.std.proofs.lemmas.Nat.{and_le_l}
