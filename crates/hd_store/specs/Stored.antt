-- The parts of a store by address, the state of the machine that they represent, and what is always true of
-- them.
use Rattle.std.specs.Prelude.{ℕ, List, length, map, Option, option_map}
use Rattle.std.specs.FinMap.{empty}
use Rattle.hd_model.specs.{declared.data.Addr.Addr, declared.data.Slot.Slot}
use Rattle.hd_model.specs.State.{Numbers, State}
use Rattle.hd_model.specs.Heap.{Heap, id_at}
use Rattle.hd_model.specs.Table.{Table, Queue}
use Rattle.hd_cwt.specs.WeakTable.{WeakTable}
use Rattle.hd_store.specs.Rows.{rows_of, rest_of}
use Rattle.hd_store.specs.Reading.{objects_by_id, rows_by_id, unheld, weak_by_id}

-- the parts of a store: the heap, the table and the ages of its clumps; the slots of the weak table, with
-- their keys; the finalization queue; what the registers of all callers and then the statics reference; the
-- slots in the handle registers and on the board; and each caller's last serial
pub record Parts : Type 0 where
  pub heap : Heap
  pub table : Table
  pub ages : List ℕ
  pub weak : WeakTable
  pub queue : Queue
  pub roots : List (Option Addr)
  pub handle_registers : List (List (Option Slot))
  pub board : List (Option Slot)
  pub serials : List ℕ

abbrev pub callers_of : Parts → ℕ
callers_of f = length f.handle_registers

abbrev pub numbers_of : Parts → Numbers
numbers_of f = record { heap = f.heap.limit; blocks = f.table.blocks; callers = callers_of f }

-- the state of the machine, by identity, without pinned addresses: a store keeps none
abbrev pub state_of : Parts → State
state_of f = record {
  objects = objects_by_id f.heap;
  handles = rows_by_id f.heap (unheld f.table.rows f.weak.held);
  weak = weak_by_id f.heap f.table.rows f.weak.held;
  registers = rows_of (callers_of f) (map (option_map (id_at f.heap)) f.roots);
  handle_registers = f.handle_registers;
  statics = rest_of (callers_of f) (map (option_map (id_at f.heap)) f.roots);
  board = f.board;
  queue = map (id_at f.heap) f.queue.queued;
  pinned = empty;
  blocks = f.table.uses;
  serials = f.serials;
}
