-- What a fault means for the bytes.
use Rattle.std.specs.Prelude.{◌≡◌, ℕ, List, Err}
use Rattle.hd_model.specs.Grammar.{script_of}
use Rattle.hd_script.specs.declared.fault.ScriptFault.{ScriptFault}
use Rattle.hd_script.specs.declared.fault.ScriptFault.TheVariants.{Line, Memory}

-- a line's number is that of the first line at fault; out of memory means nothing for the bytes
abbrev pub IsFaultOf : List ℕ → ScriptFault → Type 0
IsFaultOf bytes (Line k) = script_of bytes ≡ Err k
IsFaultOf bytes Memory = Unit {0}
