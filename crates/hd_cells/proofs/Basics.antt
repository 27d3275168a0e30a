-- The names that most proofs of this crate cite, passed on from one place.
pub use Rattle.std.proofs.Common.{Bool, List, None, Option, Some, [], ap, ap₂, arith, cond, drop, eq-eqb, eqb, ext_get_or, false, get_or, get_or-drop, get_or-set_other, get_or-set_same, get_or-take, inl, inr, le-leb, leb, length, length-drop, length-set, length-take, ne_eqb, refl, replicate, set, subst, suc, sym, take, true, zero, ℕ, ◌%◌, ◌++◌, ◌+◌, ◌-◌, ◌/◌, ◌<◌, ◌^◌, ◌∙◌, ◌∷◌, ◌≡◌, ◌≢◌, ◌≤◌}
pub use Rattle.std.proofs.lemmas.Bool.{both_ways, cases_eq, cases_lt, cond-false, cond-true, false_from_ne_true, lt-leb}
pub use Rattle.std.proofs.lemmas.List.{get_or-replicate, length-replicate}
pub use Rattle.std.proofs.lemmas.Option.{none-some, same_Some}
pub use Rattle.std.specs.Cmp.{nat_cmp_total, unsigned_tied}
pub use Rattle.std.specs.FinMap.{find}
pub use Rattle.std.specs.Ordering.{eq_by_cmp, nat_cmp}
pub use Rattle.std.specs.Prelude.{is_some, unwrap_or}
pub use Rattle.hd_cells.specs.{Inside.HoldsObject, Inside.IsBody, Inside.IsCleared, Inside.IsFirstIn, Inside.IsGap, Inside.IsIndexed, Inside.IsLaid, Inside.IsReached, Inside.IsRegion, Inside.IsTiled, Inside.IsWhole, Inside.body, Inside.ended, Inside.gap, Cells.cell, Cells.contents_of, Cells.count_at, Cells.extent_at, Cells.object_in, Cells.objects_of}
pub use Rattle.hd_cells.specs.Headers.{IsEnd, IsHeader}
pub use Rattle.hd_cells.specs.Object.{Object, new_object, no_object, size_of, with_field, with_registered, with_value}
pub use Rattle.hd_cells.specs.Region.{Contents, IsFirstFrom, IsLaidOut, IsObject, empty_region, fields_at, object_at, with_object, with_put, without_object}
pub use Rattle.hd_cells.specs.declared.cells.TheConstants.{CELLS, FIELDS, HEADER, NONE, PARTS, REGISTERED}
