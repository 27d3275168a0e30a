-- What is answered to a dialogue's own words, and what is said of a line that is left out.
use Rattle.std.specs.Prelude.{◌≡◌, ℕ, ◌^◌, ◌<◌, List, [], ◌∷◌, ◌++◌, codes, decimal, Option, Some, None}
use Rattle.std.specs.List.{before_first}
use Rattle.std.specs.Str.Parse.{IsNumeral, digits_value, without_leading_plus}
use Rattle.hd_faults.specs.declared.fault.LineFault.{LineFault}
use Rattle.hd_faults.specs.FaultText.{fault_text}
use Rattle.hd_faults.specs.ScriptFaults.{FaultOf}
use Rattle.hd_model.specs.declared.data.Id.{Id}
use Rattle.hd_model.specs.Grammar.{is_line_end}
use Rattle.hd_path.specs.Paths.{ArePathTexts}
use Rattle.hd_path.specs.Words.{IsIdWord}
use Rattle.hd_show.specs.Show.{show_text}
use Rattle.hd_step.specs.Dialogue.{asked}
use Rattle.hd_step.specs.Machine.{MachineView}
use Rattle.hd_step.specs.declared.own.Answer.{Answer}
use Rattle.hd_step.specs.declared.own.Answer.TheVariants as answer
use Rattle.hd_step.specs.declared.own.Own.{Own}
use Rattle.hd_step.specs.declared.own.Own.TheVariants as own
use Rattle.hd_world.specs.StateHeap.{IsOfJournal}
use Rattle.hd_world.specs.World.{WorldView}
use Rattle.hd_talk.specs.Machine.{machine_view, picture_in}
use Rattle.hd_talk.specs.Slots.{slot_text}

-- the second word, empty where there is none
abbrev pub operand_of : List (List ℕ) → List ℕ
operand_of [] = []
operand_of (word ∷ []) = []
operand_of (word ∷ other ∷ words) = other

-- a word is the number of a slot, in decimal digits. As the standard library reads numbers, a plus may stand
-- before them.
pub record IsSlotWord (slot : ℕ) (word : List ℕ) : Type 0 where
  pub digits : IsNumeral 10 (without_leading_plus word)
  pub value : digits_value 10 (without_leading_plus word) ≡ slot
  pub small : slot < 2 ^ 32

-- the text that a world answers to a word with an operand: its tables, a chain to the object that the operand
-- names, or what is in the slot that it names and who has it
abbrev pub IsAnswerText : WorldView → Own → List ℕ → List ℕ → Type 0
IsAnswerText w own.Show word text = text ≡ show_text (picture_in w)
IsAnswerText w own.Path word text = (x : Id) × IsIdWord x word × ArePathTexts w.state (x ∷ []) text
IsAnswerText w own.Slot word text = (slot : ℕ) × IsSlotWord slot word × (text ≡ slot_text (picture_in w) slot)

-- an operand that names none is at fault, and what is said of it
abbrev pub IsFaulty : Own → List ℕ → Type 0
IsFaulty own.Show word = ⊥
IsFaulty own.Path word = (x : Id) → IsIdWord x word → ⊥
IsFaulty own.Slot word = (slot : ℕ) → IsSlotWord slot word → ⊥

abbrev pub refused_words : Own → List ℕ
refused_words own.Show = []
refused_words own.Path = codes "path: the operand is no object, as 0.7\n"
refused_words own.Slot = codes "slot: the operand is no slot, as 70\n"

abbrev pub refusal_text : ℕ → Own → List ℕ
refusal_text number own = codes "line " ++ decimal number ++ codes ": " ++ refused_words own

-- an answer of a world to a word with an operand
abbrev pub IsAnswer : WorldView → ℕ → Own → List ℕ → Answer → Type 0
IsAnswer w number own word (answer.Text text) = IsAnswerText w own word text.items
IsAnswer w number own word (answer.Fault why) = IsFaulty own word × (why.items ≡ refusal_text number own)

-- what a machine answers to the words of a line: it is a world whose heap, table and ages are those of its journal
pub record Answers (machine : MachineView) (words : List (List ℕ)) (text : List ℕ) : Type 0 where
  pub own : Own
  pub asked_is : asked words ≡ Some own
  pub world : WorldView
  pub seen : machine_view world ≡ machine
  pub journal : IsOfJournal world
  pub text_is : IsAnswerText world own (operand_of words) text

-- the operand among the words of a line is at fault
abbrev pub HasFault : List (List ℕ) → Type 0
HasFault words = (own : Own) × (asked words ≡ Some own) × IsFaulty own (operand_of words)

-- a fault in words, nothing where there is none
abbrev pub explained : ℕ → Option LineFault → List ℕ
explained number None = []
explained number (Some fault) = fault_text number fault

-- why a line with this number is left out, where so many commands came before it
pub record IsExplained (commands number : ℕ) (line text : List ℕ) : Type 0 where
  pub fault : Option LineFault
  pub is_fault : FaultOf commands (before_first is_line_end line) fault
  pub is_text : text ≡ explained number fault
