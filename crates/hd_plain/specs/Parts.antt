-- The fields of the machine as its numbers and its state, and what is always true of them.
use Rattle.std.specs.Prelude.{length, ◌≡◌}
use Rattle.hd_model.specs.State.{Numbers, State}
use Rattle.hd_plain.specs.MachineViews.{MachineView}
use Rattle.hd_plain.specs.declared.machine.Machine.TheInside.{Inside}

abbrev pub numbers_in : Inside → Numbers
numbers_in m = record { heap = m.heap; blocks = m.table.blocks; callers = m.callers }

abbrev pub state_in : Inside → State
state_in m = record {
  objects = m.objects;
  handles = m.table.handles;
  blocks = m.table.uses;
  weak = m.weak;
  pinned = m.pinned;
  registers = m.registers.items;
  handle_registers = m.handle_registers.items;
  serials = m.serials.items;
  statics = m.statics;
  board = m.board;
  queue = m.queue.items;
}

abbrev pub judge_of : Inside → MachineView
judge_of m = record { numbers = numbers_in m; state = state_in m }

-- what is always true of the fields
pub record IsMachine (m : Inside) : Type 0 where
  pub registers : length m.registers.items ≡ m.callers
  pub handle_registers : length m.handle_registers.items ≡ m.callers
  pub serials : length m.serials.items ≡ m.callers
