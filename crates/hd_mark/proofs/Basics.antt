-- The names that most proofs of this crate cite, passed on from one place.
pub use Rattle.std.proofs.Common.{Bool, List, None, Option, Some, [], ap, arith, bit_or, cond, drop, false, filter, get_or, inl, inr, length, length-append, not, refl, rules, set, subst, sym, take, true, ℕ, ⊎_elim, ◌%◌, ◌*◌, ◌++◌, ◌+◌, ◌-◌, ◌/◌, ◌<◌, ◌==◌, ◌^◌, ◌||◌, ◌∙◌, ◌∷◌, ◌≡◌, ◌≢◌, ◌≤◌, ◌⊎◌}
pub use Rattle.std.proofs.lemmas.Bool.{and_from, and_parts, both_ways, cases_Bool, cases_eq, cases_lt, cond_both, eqb-true, le-leb, le-ltb, leb-true, lt-ltb, ltb-false, ltb-true, not-true, not_from_false, or_cases, or_left, or_parts, or_right}
pub use Rattle.std.proofs.lemmas.List.{append-nil, append_assoc, drop-append-le, drop_more, get_or-set_other, get_or-set_same, get_or_default, length-drop, nil_from_length, take-append-drop, take-append-le, take_more}
pub use Rattle.std.proofs.lemmas.List.Elements.{Contains-append_cases, Contains-append_left, Contains-append_right, Contains-push, Contains-push_cases}
pub use Rattle.std.specs.FinSet.{FinSet, contains, contains-empty, contains-insert, empty, insert, same_set}
pub use Rattle.std.specs.Ordering.{nat_cmp}
pub use Rattle.std.specs.Prelude.{AllPairs, Contains, IfSome, IsSome, if◌then◌else◌, is_some, map, option_map, ⊤}
pub use Rattle.hd_heap.proofs.HeapValues.{same_address}
pub use Rattle.hd_heap.specs.Calls.{is_condemned}
pub use Rattle.hd_mark.specs.{Inside.AreMarks, Inside.HasIndexes, Inside.IsTable, Inside.bit_of, Inside.left, Inside.index_at, Fields.index_of, Fields.is_set, Fields.is_set_in, Fields.seen, Fields.set_of}
pub use Rattle.hd_mark.specs.{Marks.GoesOn, Marks.HasNoneYet, Marks.IsSettledMarks, Marks.MarksOf, Marks.first_marks, Marks.is_older, Marks.log_of, Marks.marked_also, Marks.pinned_in, Marks.promoted_in, Marks.pushed, Inside.pinned_also}
pub use Rattle.hd_mark.specs.Inside.{IsLog, IsNextDone, IsTraced, Marked, advanced, scanned}
pub use Rattle.hd_model.proofs.Members.{first_in, later_in, member_at, member_cases, not_in_none, pairs_append, pairs_cons, pairs_none, pairs_passing, passing_from, passing_in}
pub use Rattle.hd_model.proofs.SceneCollection.{mapped_value}
pub use Rattle.hd_model.specs.Heap.{Basis, Heap, has_object, object_at, objects_of, offset_of, region_generation}
pub use Rattle.hd_model.specs.Marking.{Gains}
pub use Rattle.hd_model.specs.Names.{HasClosedFields}
pub use Rattle.hd_model.specs.Scene.{IsCondemned, IsField, IsYoungField, fields_at, generation_at, generation_in, is_object}
pub use Rattle.hd_model.specs.declared.data.Addr.{Addr}
pub use Rattle.hd_mark.specs.declared.bits.TheConstants.{BITS, WORDS}
pub use Rattle.hd_model.specs.declared.limits.TheConstants.{REGION}
