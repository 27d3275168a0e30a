-- What is so of a shared world whenever nobody has it, in plain words.
use Rattle.std.specs.Prelude.{◌≡◌, Option, slice_index}
use Rattle.atomic_table.specs.Table.{State}
use Rattle.hd_model.specs.State.{Numbers}
use Rattle.hd_model.specs.declared.held.Held.{Ghosts}
use Rattle.hd_custody.specs.{Laws.HasTheWorld, Rule.Custodied, declared.view.View.View}
use Rattle.hd_world.specs.{StateHeap.IsOfJournal, World.WorldView}

-- Whenever the rule of a table holds, which has what `m` says of its worlds, and the gate, which is word 0, is
-- free, the table's slot has one world, with the kind words as its kinds and each caller's part in its
-- journal; and that world is the one of its journal.
abbrev pub AFreeGateHasTheWorldOfItsJournal : Ghosts WorldView → Type 0
AFreeGateHasTheWorldOfItsJournal m =
    (numbers : Numbers) (s : State (Option WorldView) (View WorldView)) → Custodied m numbers s
    → slice_index s.words 0 ≡ 0 → (world : WorldView) × HasTheWorld m numbers s world × IsOfJournal world
