-- A world's journal with the heap and the table under the state to which it leads, and what keeps its address
-- over a command.
use Rattle.hd_model.specs.{declared.data.Entry.Entry, Aging.AgedRun}
use Rattle.hd_store.specs.StateHeap.{IsOfHeap, IsOfTable, KeepsStored}
use Rattle.hd_world.specs.World.{WorldView}

-- what is so of every world: its journal is a run that leads to its state and leaves its ages, and the heap
-- and the table are those of the state to which the journal leads
pub record IsOfJournal (w : WorldView) : Type 0 where
  pub aged : AgedRun w.numbers w.journal w.state w.ages
  pub heap : IsOfHeap w.state w.heap
  pub table : IsOfTable w.state w.heap w.table

-- over an entry objects keep their addresses as they do in a store
abbrev pub KeepsAddresses : Entry → WorldView → WorldView → Type 0
KeepsAddresses e old new = KeepsStored e old.state old.heap new.heap
