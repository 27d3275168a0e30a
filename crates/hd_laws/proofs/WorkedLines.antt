-- What worked lines and scripts say.
use Rattle.hd_model.proofs.Basics.{None, Some, [], map, refl, ◌++◌, ◌∷◌, ◌≡◌}
use Rattle.std.specs.Prelude.{codes, Ok, Err}
use Rattle.hd_model.specs.Grammar.{command, words_of, reading_of, script_of, lines_in, words_in, value_of, number_of, register_in, strength_of, make_of, trimmed_kind_of, fin_of, two_words, three_words, four_words, hnew_of, five_words, readings_of, lists_of}
use Rattle.hd_laws.specs.TextLaws.{line}
use Rattle.hd_laws.specs.ReadingLaws.{ReadingsAreThese, readings, object_lines, object_commands, handle_lines, handle_commands, unread_lines, script}
use Rattle.hd_model.specs.declared.command.Cmd.TheVariants as cmd

objects : readings object_lines ≡ map (λ c. Some (command c)) object_commands
unfolding words_of words_in reading_of value_of number_of register_in strength_of make_of trimmed_kind_of fin_of two_words three_words four_words hnew_of five_words
objects = refl

handles : readings handle_lines ≡ map (λ c. Some (command c)) handle_commands
unfolding words_of words_in reading_of value_of number_of register_in strength_of make_of trimmed_kind_of fin_of two_words three_words four_words hnew_of five_words
handles = refl

unread : readings unread_lines ≡ map (λ _. None) unread_lines
unfolding words_of words_in reading_of value_of number_of register_in strength_of make_of trimmed_kind_of fin_of two_words three_words four_words hnew_of five_words
unread = refl

scripts : script_of script
    ≡ Ok ((cmd.Read 1 ∷ cmd.HFree 5 ∷ []) ∷ [] ∷ (cmd.Clear 3 ∷ cmd.Gen 4 ∷ []) ∷ [])
unfolding script_of lists_of readings_of lines_in words_of words_in reading_of value_of number_of register_in fin_of two_words three_words
scripts = refl

fault : script_of (line (codes "read r1") ++ line [] ++ line (codes "reed r1")) ≡ Err 3
unfolding script_of lists_of readings_of lines_in words_of words_in reading_of value_of number_of register_in fin_of two_words three_words
fault = refl

pub readings_are_these : ReadingsAreThese
readings_are_these = record {
  objects = objects;
  handles = handles;
  unread = unread;
  scripts = scripts;
  fault = fault;
}
