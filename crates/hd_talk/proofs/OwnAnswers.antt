-- What a world answers to a dialogue's own words, as what a machine answers to the words of a line.
use Rattle.std.proofs.Common.{List, Some, refl, subst, sym, ℕ, ◌∙◌, ◌≡◌}
use Rattle.std.proofs.lemmas.Option.{same_Some}
use Rattle.hd_step.specs.Dialogue.{IsAnswerOf, asked}
use Rattle.hd_step.specs.declared.own.Answer.{Answer}
use Rattle.hd_step.specs.declared.own.Answer.TheVariants as answer
use Rattle.hd_step.specs.declared.own.Own.{Own}
use Rattle.hd_step.specs.declared.own.Own.TheVariants as own
use Rattle.hd_world.specs.StateHeap.{IsOfJournal}
use Rattle.hd_world.specs.World.{WorldView}
use Rattle.hd_talk.specs.Answers.{Answers, HasFault, IsAnswer, IsAnswerText, IsFaulty, operand_of}
use Rattle.hd_talk.specs.Machine.{machine_view}

-- an operand that is answered is not at fault
sound : (w : WorldView) (o : Own) (word text : List ℕ) → IsAnswerText w o word text → IsFaulty o word → ⊥
sound w own.Show word text is fault = fault
sound w own.Path word text is fault = fault is.0 is.1
sound w own.Slot word text is fault = fault is.0 is.1

pub answered : (w : WorldView) (words : List (List ℕ)) (o : Own) (number : ℕ) → asked words ≡ Some o
    → IsOfJournal w → (a : Answer) → IsAnswer w number o (operand_of words) a
    → IsAnswerOf (Answers (machine_view w) words) (HasFault words) a
answered w words o number is journal (answer.Text text) says = (
  λ fault. sound w o (operand_of words) text.items says
      (subst (λ (x : Own). IsFaulty x (operand_of words)) (same_Some fault.0 o (sym fault.1 ∙ is)) fault.2),
  record { own = o; asked_is = is; world = w; seen = refl; journal = journal; text_is = says },
)
answered w words o number is journal (answer.Fault why) says = (o, is, says.0)
