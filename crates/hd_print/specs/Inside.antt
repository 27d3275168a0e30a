-- The name of a command and the words after it.
use Rattle.std.specs.Prelude.{ℕ, ◌==◌, Bool, List, codes, decimal, slice_index_or}
use Rattle.hd_model.specs.CommandText.{object_word, handle_word, kind_name, strength_word}
use Rattle.hd_model.specs.declared.command.Cmd.{Cmd}
use Rattle.hd_model.specs.Rows.{row_of}
use Rattle.hd_print.specs.declared.command.Operand.{Operand}
use Rattle.hd_print.specs.declared.command.Operand.TheVariants.{Object, Handle, Small, Number, OfStrength, OfKind, Registered}

-- an operand as a word
abbrev pub operand_word : Operand → List ℕ
operand_word (Object d) = object_word d
operand_word (Handle d) = handle_word d
operand_word (Small n) = decimal n
operand_word (Number n) = decimal n
operand_word (OfStrength strength) = strength_word strength
operand_word (OfKind kind) = kind_name kind
operand_word Registered = codes "fin"

-- the name of the command begins with `h`
abbrev pub has_handle_name : Cmd → Bool
has_handle_name c = slice_index_or (row_of c).word 0 0 == 104
