-- The lists of a script while it is read.
use Rattle.std.specs.Prelude.{List, map, Vec}
use Rattle.std.specs.declared.alloc.Global.{Global}
use Rattle.hd_model.specs.declared.command.Cmd.{Cmd}

-- the contents of the lists in memory
abbrev pub contents : List (Vec Cmd Global) → List (List Cmd)
contents lists = map (λ list. list.items) lists
