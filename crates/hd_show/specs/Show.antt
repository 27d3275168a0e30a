-- What `show` writes of a state: tables, each with a header line, and an empty line between each two.
use Rattle.std.specs.Prelude.{ℕ, List, ◌++◌}
use Rattle.hd_seen.specs.Seen.{Picture}
use Rattle.hd_show.specs.Blocks.{blocks_text, rows_of}
use Rattle.hd_show.specs.Handles.{entries_text, handles_text}
use Rattle.hd_show.specs.Heaps.{generations_text, regions_of, regions_text}
use Rattle.hd_show.specs.Kinds.{kinds_text}
use Rattle.hd_show.specs.Lists.{board_text, queue_text, statics_text}
use Rattle.hd_show.specs.Registers.{registers_text}

-- handles, kinds and blocks
abbrev pub table_text : Picture → List ℕ
table_text p = handles_text p.handles ++ kinds_text (rows_of p) p ++ blocks_text (rows_of p) p.blocks

-- generations and regions
abbrev pub heap_text : Picture → List ℕ
heap_text p = generations_text (regions_of p) p.regions ++ regions_text (regions_of p) p.regions

-- the finalization queue, the weak table, registers, statics and the board
abbrev pub rest_text : Picture → List ℕ
rest_text p =
    queue_text p.queue ++ entries_text p.entries ++ registers_text p.registers p.handle_registers
    ++ statics_text p.statics ++ board_text p.board

-- the whole text
abbrev pub show_text : Picture → List ℕ
show_text p = table_text p ++ heap_text p ++ rest_text p
