-- By which blocks a table grows, in the words of the machine.
use Rattle.std.specs.Prelude.{ℕ, ◌*◌, ◌-◌, ◌++◌, Option, Some, None, length, replicate}
use Rattle.hd_model.specs.{declared.data.Kind.Kind, declared.limits.TheConstants.CLUMPS, declared.limits.TheConstants.OLDEST}
use Rattle.hd_model.specs.State.{BlockUse, handles_of, extra_data}
use Rattle.hd_store.specs.Store.{Machine}

-- the kind of the handles of a block, if it has handles
abbrev pub kind_in_use : Option BlockUse → Option Kind
kind_in_use None = None
kind_in_use (Some (handles_of kind)) = Some kind
kind_in_use (Some extra_data) = None

-- a store whose table has so many blocks: those that came are unused, and their clumps are of age 2
abbrev pub with_blocks : ℕ → Machine → Machine
with_blocks blocks m = record m {
  numbers = record m.numbers { blocks = blocks };
  ages = m.ages ++ replicate (CLUMPS * blocks - length m.ages) OLDEST;
  table = record m.table { blocks = blocks };
}
