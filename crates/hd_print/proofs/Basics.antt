-- The names that most proofs of this crate cite, passed on from one place.
pub use Rattle.std.proofs.Common.{All, Bool, List, None, Ok, Option, Some, [], ap, append-nil, append_assoc, arith, count_by, drop, eqb, false, filter, fold, get_or, leb, length, length-append, length-set, ltb, map, option_map, refl, rules, set, slice_get, subst, sym, take, true, ℕ, ⊎_elim, ◌%◌, ◌&&◌, ◌*◌, ◌++◌, ◌+◌, ◌-◌, ◌/◌, ◌<◌, ◌==◌, ◌^◌, ◌||◌, ◌∙◌, ◌∷◌, ◌≡◌, ◌≤◌}
pub use Rattle.std.proofs.lemmas.Bool.{and_from, and_parts, cond-false, cond-true, eqb-true, le-leb, leb-true, lt-ltb, ltb-true, ne_eqb, or_cases, or_right}
pub use Rattle.std.proofs.lemmas.Fmt.{decimal_nonempty, digits_decimal, digits_value-decimal}
pub use Rattle.std.proofs.lemmas.List.{length-take-le, map_push, take-append-drop, take_all, take_more}
pub use Rattle.std.proofs.lemmas.List.Elements.{All-from_get_or, All-weaker}
pub use Rattle.std.proofs.lemmas.List.Sums.{AllPass-from_list_all, count_by-le-length, count_by_more_no, count_by_more_yes, list_all-from_AllPass, position_or_len_is}
pub use Rattle.std.specs.List.{before_first, concat, join_with_byte, list_all, position_or_len, slice_split}
pub use Rattle.std.specs.Prelude.{codes, decimal}
pub use Rattle.hd_io.specs.Sink.{SinkView, Took, WriteBrokeOff}
pub use Rattle.hd_model.specs.CommandText.{command_text, command_words, handle_word, kind_name, object_word, strength_word}
pub use Rattle.hd_model.specs.Grammar.{Reading, command, first_fault, handle_register_in, is_blank, is_hash, is_line_end, object_register_in, script_of, three, unless_fault, without_empty_last, words_of}
pub use Rattle.hd_model.specs.Text.{entry_text, lines_of, numbered_after}
pub use Rattle.hd_model.specs.declared.data.Entry.{Entry}
pub use Rattle.hd_print.specs.Inside.{operand_word}
pub use Rattle.hd_model.specs.declared.limits.TheConstants.{CALLERS, FIELDS, REGISTERS, ROWS}
