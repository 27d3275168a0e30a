-- The roots among handles, and their lines, as bytes. The lines are this project's own format.
use Rattle.std.specs.Prelude.{ℕ, List, ◌++◌, length, flat_map, codes, decimal, Option, None, option_map, option_to_list}
use Rattle.std.specs.FinMap.{entries}
use Rattle.hd_model.specs.Data.{Id, Slot, Kind, RootId}
use Rattle.hd_model.specs.State.{Handle, State}
use Rattle.hd_model.specs.Role.{Role, holds, short, long, attaches, role}
use Rattle.hd_model.specs.CommandText.{kind_name}
use Rattle.hd_model.specs.Text.{newline, identity_text}

-- the target that a handle of a role holds, if it has one: such a handle is a root (GCHandleType.Normal and
-- its kin)
abbrev pub held_by : {N : Type 0} → Role → Option N → Option N
held_by holds target = target
held_by short target = None
held_by long target = None
held_by attaches target = None

abbrev pub held_of : {N : Type 0} → Handle N → Option N
held_of h = held_by (role h) h.target

-- what is listed of a slot's handle, by slot, kind and target, if it is a root
abbrev pub root_in : {N R : Type 0} → (Slot → Kind → N → R) → ℕ × Handle N → List R
root_in make e = option_to_list (option_map (make (record { 0 = e.0 }) e.1.kind) (held_of e.1))

-- what is listed of all roots, in the order of the handles
abbrev pub roots_in : {N R : Type 0} → (Slot → Kind → N → R) → List (ℕ × Handle N) → List R
roots_in make handles = flat_map (root_in make) handles

-- a root of the machine
abbrev pub root_id : Slot → Kind → Id → RootId
root_id slot kind id = record { slot = slot; kind = kind; id = id }

-- the roots of a state, in rising slot
abbrev pub roots_of : State → List RootId
roots_of s = roots_in root_id (entries s.handles)

-- the line of a root, and the last line, with their number
abbrev pub root_text : RootId → List ℕ
root_text root =
    codes "root " ++ decimal root.slot.0 ++ codes " " ++ kind_name root.kind ++ codes " "
    ++ identity_text root.id ++ newline

abbrev pub count_text : ℕ → List ℕ
count_text count = codes "roots " ++ decimal count ++ newline

-- the text of a list of roots, and of those of a state
abbrev pub list_text : List RootId → List ℕ
list_text roots = flat_map root_text roots ++ count_text (length roots)
