-- Why the words of a line have no reading: a function of the words.
use Rattle.std.specs.Prelude.{ℕ, ◌+◌, ◌-◌, nat_lt, Bool, ◌||◌, if◌then◌else◌, List, [], ◌∷◌, length, slice_index_or, codes, bytes_eq, Option, Some, None, is_some}
use Rattle.hd_model.specs.declared.limits.TheConstants.{CALLERS}
use Rattle.hd_model.specs.Grammar.{is_kind, least, look_up, number_of, object_register_in, handle_register_in, make_of, trimmed_kind_of, strength_of, fin_of}
use Rattle.hd_model.specs.Rows.{Form, forms}
use Rattle.hd_faults.specs.declared.fault.Cause.{Cause}
use Rattle.hd_faults.specs.declared.fault.Cause.TheVariants as cause
use Rattle.hd_model.specs.declared.operand.Operand.{Operand}
use Rattle.hd_model.specs.declared.operand.Operand.TheVariants.{Object, Handle, Number, Kind, PlainKind, Strength, Fin}
use Rattle.hd_faults.specs.Forms.{Takes}

-- a word is what an operand has to be
abbrev pub fits : Operand → List ℕ → Bool
fits Object word = is_some (object_register_in word)
fits Handle word = is_some (handle_register_in word)
fits (Number most) word = is_some (number_of most word)
fits Kind word = is_kind word
fits PlainKind word = is_some (trimmed_kind_of word)
fits Strength word = is_some (strength_of word)
fits Fin word = is_some (fin_of word)

-- what a command of the grammar takes
abbrev pub takes : List Operand → Takes
takes operands = record { least = least operands; operands = operands }

-- each name but `hnew`, with what it takes
abbrev pub taken_by : List Form → List (List ℕ × Option Takes)
taken_by [] = []
taken_by (form ∷ rest) = (form.word, Some (takes form.operands)) ∷ taken_by rest

abbrev pub rows : List (List ℕ × Option Takes)
rows = (codes "caller", Some (takes (Number (CALLERS - 1) ∷ []))) ∷ taken_by forms

-- what an `hnew` takes, by its kind. Where that is no kind, it is at fault, whether or not a word follows.
abbrev pub new_handle : List ℕ → Takes
new_handle kind =
    if bytes_eq kind (codes "var")
    then record { least = 4; operands = Handle ∷ Kind ∷ Object ∷ Strength ∷ [] }
    else if bytes_eq kind (codes "dep")
    then record { least = 4; operands = Handle ∷ Kind ∷ Object ∷ Object ∷ [] }
    else if is_some (make_of kind) then record { least = 3; operands = Handle ∷ Kind ∷ Object ∷ [] }
    else record { least = 3; operands = Handle ∷ Kind ∷ Object ∷ Object ∷ [] }

-- what the command with a name takes, whose second operand is this word
unfoldable pub form_of : List ℕ → List ℕ → Option Takes
form_of name kind =
    if bytes_eq name (codes "hnew") then Some (new_handle kind)
    else look_up name rows

-- the first operand that is at fault, where they are numbered from `index`
abbrev pub operand_cause : ℕ → List Operand → List (List ℕ) → Option Cause
operand_cause index [] words = None
operand_cause index (wanted ∷ operands) [] = None
operand_cause index (wanted ∷ operands) (word ∷ words) =
    if fits wanted word then operand_cause (index + 1) operands words else Some (cause.Operand index wanted)

-- the number of operands is none that the command takes
abbrev pub is_other_count : Takes → ℕ → Bool
is_other_count t has = nat_lt has t.least || nat_lt (length t.operands) has

-- no command has the name, or takes that many operands, or else the first operand that is at fault
abbrev pub cause_by : Option Takes → List (List ℕ) → Option Cause
cause_by None operands = Some cause.Unknown
cause_by (Some t) operands =
    if is_other_count t (length operands)
    then Some (cause.Count t.least (length t.operands) (length operands))
    else operand_cause 1 t.operands operands

-- why words have no reading, or none where they have one
unfoldable pub cause_of : List (List ℕ) → Option Cause
cause_of [] = None
cause_of (name ∷ operands) = cause_by (form_of name (slice_index_or operands 1 [])) operands
