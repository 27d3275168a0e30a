use Rattle.hd_script.proofs.Basics.{ap, sym, ◌∙◌}
use Rattle.hd_faults.specs.Faults.{word_of}
use Rattle.hd_faults.specs.Placed.{bytes_of, words_from}
use Rattle.hd_faults.proofs.PlacedWords.{line_placed, line_words}
use Rattle.hd_faults.proofs.ScriptLines.{at_first}
use Rattle.hd_faults.proofs.script.one_too_many.Goals as goal

pub returns-in_default-clause-none : goal.returns-in_default-clause-none
returns-in_default-clause-none c =
    line_words c.args.line.now c.content.result.now c.content.ensures.bytes
    ∙ ap bytes_of c.in_default.ensures.words

pub returns-clause-some : goal.returns-clause-some
returns-clause-some c =
    let first = c.in-Some.first in
    let is = c.command_fault.ensures in record {
      cause = is.cause;
      position = at_first c.args.line.now c.command_fault.result first.column first.word.now
          (words_from first.end first.rest.now)
          (sym (line_placed c.args.line.now c.content.result.now c.content.ensures.bytes)
          ∙ c.in-Some.ensures.words) (ap word_of is.cause) is.command is.column is.word;
    }
