-- The names that most proofs of this crate cite, passed on from one place.
pub use Rattle.std.proofs.Common.{All, Bool, Err, IsSome, List, None, Ok, Option, Some, Vec, [], ap, append_assoc, arith, below_more, bytes_eq, cond, count_by, drop, eqb, false, filter, fold, get_or, inl, inr, is_some, leb, length, length-append, length-drop, length-set, ltb, map, max, nat_cmp, not, option_map, option_to_list, position, refl, replicate, set, subst, suc, sum_by, sym, take, true, zero, ℕ, ⊎_elim, ◌%◌, ◌&&◌, ◌*◌, ◌++◌, ◌+◌, ◌-◌, ◌/◌, ◌<◌, ◌^◌, ◌∙◌, ◌∷◌, ◌≡◌, ◌≢◌, ◌≤◌, ◌⊎◌}
pub use Rattle.std.proofs.lemmas.Bool.{and_from, and_right, both_ways, cases_Bool, cases_eq, cases_lt, cond-false, cond-true, cond_both, eq-eqb, eqb-false, eqb-true, false_from_ne_true, false≢true, le-leb, le-ltb, lt-leb, lt-ltb, ltb-false, ltb-true, ne_eqb}
pub use Rattle.std.proofs.lemmas.Bool.Decides.{nat_tests}
pub use Rattle.std.proofs.lemmas.List.{append-nil, at_drop_more, drop_all, drop_more, flat_map_more, get_or-map, get_or-replicate, get_or-set_other, get_or-set_same, get_or_at, length-map, length-replicate, length_push, map-set, map_push, nil_from_length, set-get_or, take_all, take_at, take_rest}
pub use Rattle.std.proofs.lemmas.List.Elements.{All-append, All-cons, All-from_recursion, All-get_or, All-head, All-nil, All-push, All-set, All-tail, All-take, All-weaker, recursion_from_All}
pub use Rattle.std.proofs.lemmas.List.FromFn.{fill_by_all, get_or-map-range_with_len, length-map-range_with_len, map-range_with_len_more}
pub use Rattle.std.proofs.lemmas.List.Sums.{fails_before_first, fold_push, get_or-le-sum_by, passes_at_first, position_or_len_is, split_at_first, sum_by-append, sum_by-cons, sum_by-set, sum_by-take-le, sum_by_more, sum_by_push}
pub use Rattle.std.proofs.lemmas.Option.{cond_some, none-some, same_Some}
pub use Rattle.std.specs.Char.{is_ascii_digit}
pub use Rattle.std.specs.FinMap.{empty, entries, get, insert, len, len-empty, len-entries}
pub use Rattle.std.specs.List.{before_first, cons_option, enumerate_from, list_all, onto_first, position_or_len, range_with_len, slice_split}
pub use Rattle.std.specs.Prelude.{Contains, MatchOption, codes, filter_map, flat_map, is_none, unwrap_or}
pub use Rattle.std.specs.declared.alloc.Global.{Global}
pub use Rattle.hd_model.proofs.ReadAfterWrite.{cell_here, get_beside, get_inserted, get_left, replicate_cases, still_some}
pub use Rattle.hd_model.proofs.RunCounts.{fresh, handles_are_made_less_freed}
pub use Rattle.hd_model.proofs.WellFormedSteps.{given_vacant, has, some_at, start_is_well_formed, step_keeps}
pub use Rattle.hd_model.specs.Generated.{collection_after, generated_list, load_numbers, load_text, load_text_of, make_of_round, makes_in_turn, round_of, value_returned}
pub use Rattle.hd_model.specs.Grammar.{AreLists, Reading, blank, caller, caller_after, callers_of, command, command_in, commands_for, first_fault, five_words, four_words, is_blank, is_hash, is_line_end, lines_in, lists_of, number_of, reading_of, readings_of, script_of, three_words, two_words, unless_fault, value_of, without_empty_last, words_of}
pub use Rattle.hd_model.specs.Laws.{count_entries, frees_handle, makes_handle, makes_object}
pub use Rattle.hd_model.specs.Run.{Chain, commands_of, link, part_of, stay}
pub use Rattle.hd_model.specs.State.{Object, State, handle_at, handle_register_of, identity_of, last_serial, object_by_id, register_of, size_of, start_of, total_size, with_handle, with_handle_register, with_object, with_register, with_serial, without_handle}
pub use Rattle.hd_model.specs.Step.{DoesCollect, FindsTableFull, IsOutcome, MakesHandle, Step, StepOf, with_growth, with_made}
pub use Rattle.hd_model.specs.Text.{is_collect}
pub use Rattle.hd_model.specs.Touched.{touched_by}
pub use Rattle.hd_model.specs.Valid.{IsValid, IsValidMake}
pub use Rattle.hd_model.specs.WellFormed.{IsWellFormed}
pub use Rattle.hd_model.specs.declared.command.Cmd.{Cmd}
pub use Rattle.hd_model.specs.declared.data.Entry.{Entry}
pub use Rattle.hd_model.specs.declared.data.Id.{Id}
pub use Rattle.hd_model.specs.declared.data.Slot.{Slot}
pub use Rattle.hd_model.specs.declared.limits.TheConstants.{HEAP, MOST_COMMANDS, REGISTERS, ROUNDS_TO_COLLECTION}
pub use Rattle.hd_script.specs.Laws.{FaultsComeFirst, IsAtFault, IsFirstAtFault, LinesMakeTheBytes, ListsFollowTheLines, WordsDecide, caller_after_lines, command_for, has_words, is_command}
pub use Rattle.hd_script.specs.{Inside.AreCounted, Inside.IsOpened, Lists.contents}
pub use Rattle.hd_script.specs.{Inside.is_stop, Inside.starts_end, Inside.with_word, Words.line_after, Words.starts_blank, Words.words_at}
