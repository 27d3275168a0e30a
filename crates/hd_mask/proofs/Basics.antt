-- The names that most proofs of this crate cite, passed on from one place.
pub use Rattle.std.proofs.Common.{List, Some, [], ap, arith, bit_and, bit_or, bit_xor, cond, drop, filter, inl, inr, length, min, refl, slice_get, subst, suc, sym, take, zero, ℕ, ◌%◌, ◌*◌, ◌++◌, ◌+◌, ◌-◌, ◌/◌, ◌<◌, ◌==◌, ◌^◌, ◌↔◌, ◌∙◌, ◌∷◌, ◌≡◌, ◌≢◌, ◌≤◌, ◌⊎◌}
pub use Rattle.std.proofs.Math.Nat.{add-zero, div-eq_of_lt, div-one, pow-suc, zero-add, zero-mul}
pub use Rattle.std.proofs.lemmas.Bool.{cases_eq, cases_lt, cases_order}
pub use Rattle.std.proofs.lemmas.Nat.{mod_below, one_shl, ones_le_self, pow_below, pow_pos, shr-shr, shr_split, xor_lt}
pub use Rattle.std.proofs.lemmas.Nat.Bits.{and_pow, bit_at-lt, bit_at-pow_other, bit_at-pow_same, bit_at-trailing_zeros, bit_at-zero, bit_at_above, bit_at_and, bit_at_cat_high, bit_at_cat_low, bit_at_not, bit_at_ones_above, bit_at_or, bit_at_xor, same_from_bits, same_from_bits_below}
pub use Rattle.std.specs.Int.{bit_at, bit_not, w64}
pub use Rattle.std.specs.Int.Count.{ones_step}
pub use Rattle.hd_mask.specs.Mask.{set_bits}
pub use Rattle.hd_mask.specs.declared.TheConstants.{BITS}
