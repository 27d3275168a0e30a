-- The names that most proofs of this crate cite, passed on from one place.
pub use Rattle.std.proofs.Common.{AllPairs, Bool, Contains, Decides, IsPermutation, IsSome, List, None, Option, Some, [], add-one, ap, arith, drop, false, get_or, inl, inr, is_some, length, length-append, length-drop, map, not, option_map, refl, rules, set, slice_index_or, subst, sym, take, true, true≢false, suc, zero, unwrap_or, vec_capacity, ℕ, ⊎_elim, ◌&&◌, ◌*◌, ◌/◌, ◌++◌, ◌+◌, ◌-◌, ◌<◌, ◌==◌, ◌^◌, ◌∙◌, ◌∷◌, ◌≡◌, ◌≢◌, ◌≤◌, ◌⊎◌}
pub use Rattle.std.proofs.lemmas.Bool.{and_from, and_parts, both_ways, cases_Bool, cases_eq, le-leb, le-ltb, leb-true, ltb-false, ltb-true, not-true, not_from_false}
pub use Rattle.std.proofs.lemmas.List.{append-nil, append_assoc, drop_all, drop_more, get_or-drop, get_or-map, get_or_at, length-map, length-take-le, length_push, map_more, map_push, set_at, take_all, take_more}
pub use Rattle.std.proofs.lemmas.List.Elements.{Contains-append_cases, Contains-append_left, Contains-get_or, Contains-push, Contains-push_cases}
pub use Rattle.std.proofs.lemmas.List.Sorted.{Contains-permutation, IsNonDecreasingBy-from_sort, IsPermutation-map, IsPermutation-sym, answers_always}
pub use Rattle.std.specs.FinMap.{get, insert, len}
pub use Rattle.std.specs.List.Sorted.{IsNonDecreasingBy}
pub use Rattle.std.specs.VecDeque.{deque_capacity}
pub use Rattle.hd_final.specs.Inside.{IsFinding, IsFound, addresses}
pub use Rattle.hd_final.specs.Resurrection.{IsOut, Resurrects}
pub use Rattle.hd_final.specs.Settling.{Unregisters, unregistered}
pub use Rattle.hd_final.specs.declared.joiners.Joiner.{Joiner}
pub use Rattle.hd_heap.proofs.HeapValues.{same_address}
pub use Rattle.hd_heap.specs.Calls.{IsNext, is_after, is_condemned, with_object}
pub use Rattle.hd_model.proofs.EdgeChains.{grows_like, grows_on}
pub use Rattle.hd_model.proofs.Members.{first_in, later_in, mapped_from, member_cases, not_in_none, pairs_among, pairs_append, pairs_mapped}
pub use Rattle.hd_model.specs.Counting.{Counts}
pub use Rattle.hd_model.specs.Heap.{Basis, HasIdentities, Heap, has_object, id_at, id_in, is_in_use, object_at, object_in, objects_of, placed_at, region_generation, region_of}
pub use Rattle.hd_model.specs.Leads.{Grows}
pub use Rattle.hd_model.specs.Scene.{IsYoungField, generation_in, is_object}
pub use Rattle.hd_model.specs.State.{Object}
pub use Rattle.hd_model.specs.Table.{Queue}
pub use Rattle.hd_model.specs.declared.data.Addr.{Addr}
pub use Rattle.hd_model.specs.declared.data.Id.{Id}
pub use Rattle.hd_model.specs.declared.limits.TheConstants.{REGION}
