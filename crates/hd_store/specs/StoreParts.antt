-- The fields of a store as the parts that its lemmas are about.
use Rattle.hd_store.specs.{Stored.Parts, declared.contents.Contents.TheInside.Inside}

abbrev pub parts : Inside → Parts
parts i = record {
  heap = i.heap;
  table = i.table;
  ages = i.ages;
  weak = i.weak;
  queue = i.queue;
  roots = i.roots.items;
  handle_registers = i.handle_registers.items;
  board = i.board;
  serials = i.serials.items;
}
