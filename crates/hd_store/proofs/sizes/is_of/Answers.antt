use Rattle.hd_store.proofs.StoreWords.{get, sym, ◌∙◌}
use Rattle.hd_store.proofs.FreeSlots.{no_rows_is, rows_is}
use Rattle.hd_store.proofs.sizes.is_of.Goals as goal

pub returns-in-Rows : goal.returns-in-Rows
returns-in-Rows c = rows_is (get c.args.table.now.uses c.args.block) c.in-Rows.of c.args.kind c.number.ensures.value
    c.number-in-Rows.ensures.value (sym c.in-Rows.is ∙ c.block_kind.ensures.value)

pub returns-in-Unused : goal.returns-in-Unused
returns-in-Unused c = no_rows_is (get c.args.table.now.uses c.args.block) c.block_kind.result c.args.kind
    c.block_kind.ensures.value c.in-Unused.is
