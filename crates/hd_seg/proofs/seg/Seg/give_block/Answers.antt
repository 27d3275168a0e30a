use Rattle.hd_seg.proofs.Basics.{IsLeastWithout, IsSeg, IsTable, Uses, ap, arith, cases_eq, cond, get, get_beside, handles_of, has_handles, inl, inr, insert, is_some, len, refl, subst, sym, table_in, true≢false, with_block, with_data, ◌+◌, ◌∙◌, ◌≡◌, ◌≤◌}
use Rattle.hd_seg.proofs.{FunctionMaps.get-insert_same, FunctionMaps.len-insert_new, RowVectors.is_table, RowVectors.sound_table, ReadCalls.with_rows_least, ReadCalls.next_least}
use Rattle.hd_seg.proofs.BlockChange.{one-seg, one-view, two-seg, two-view}
use Rattle.hd_seg.proofs.SegVectors.{vectors}
use Rattle.hd_seg.proofs.seg.Seg.give_block.Goals.{then-paired, else-paired, After-add_data-arg-1, After-add_data-data}
use Rattle.hd_seg.proofs.seg.Seg.give_block.Goals as goal

pub returns-then-unused-needed-clause-table : goal.returns-then-unused-needed-clause-table
returns-then-unused-needed-clause-table c =
    sound_table c.self.invariant c.self.view_is

-- ---- one block

pub invariant_of-self : goal.invariant_of-self
invariant_of-self c =
    subst (λ u. IsSeg u (vectors c.self.inside) c.self.inside.live)
    (sym c.add-block.ensures.after)
    (one-seg c.self.invariant c.args.kind c.add-block.result c.add-block.ensures.least.unused
    c.add-block.ensures.plain (sym c.if-not-paired.ensures)
    (subst (λ (u : Uses). IsTable u.table) c.add-block.ensures.after c.add-block.ensures.table))

pub returns-then-not-paired-clause-after : goal.returns-then-not-paired-clause-after
returns-then-not-paired-clause-after c =
    ap (λ u. table_in u (vectors c.self.inside)) c.add-block.ensures.after
    ∙ one-view c.self.invariant c.args.kind c.add-block.result c.add-block.ensures.least.unused
    c.add-block.ensures.plain c.self.view_is

pub returns-then-not-paired-clause-table : goal.returns-then-not-paired-clause-table
returns-then-not-paired-clause-table c =
    is_table (invariant_of-self c)

-- ---- two blocks

-- two blocks were needed
two_needed : (c : After-add_data-arg-1) → 2 ≤ c.unused.result
two_needed c =
    elim c.if-paired.branch [
      | then-paired w ↦ omega (arith, w.needed-is, c.if-unused-needed.false)
      | else-paired w ↦ absurd
          (true≢false (sym c.if-not-paired.false ∙ c.paired-2.ensures ∙ sym c.paired.ensures
          ∙ w.if-paired.false))
    ]

pub add_data-data-requires-clause-room : goal.add_data-data-requires-clause-room
add_data-data-requires-clause-room c =
    let known = ap (λ (u : Uses). len u.table.uses) c.add-block.ensures.after in
    let also = ap (λ (u : Uses). u.table.blocks) c.add-block.ensures.after in
    let more =
    len-insert_new c.self.inside.blocks.table.uses c.add-block.result (handles_of c.args.kind)
    c.add-block.ensures.least.unused in
    omega (arith, two_needed c, c.unused.ensures.value, known, also, more)

pub add_data-data-requires-clause-used : goal.add_data-data-requires-clause-used
add_data-data-requires-clause-used c q low high =
    ap is_some (ap (λ (u : Uses). get u.table.uses q) c.add-block.ensures.after)
    ∙ elim (cases_eq q c.add-block.result) [
      | inl same ↦ ap is_some
          (get-insert_same c.self.inside.blocks.table.uses c.add-block.result (handles_of c.args.kind) q same)
      | inr apart ↦ ap is_some
          (get_beside c.self.inside.blocks.table.uses c.add-block.result (handles_of c.args.kind) q
          apart)
          ∙ c.add-block.ensures.least.least q low (omega arith)
    ]

pub add_data-data-requires-clause-handles : goal.add_data-data-requires-clause-handles
add_data-data-requires-clause-handles c =
    ap (λ (u : Uses). has_handles (get u.table.uses c.add-block.result)) c.add-block.ensures.after
    ∙ ap has_handles (get-insert_same c.self.inside.blocks.table.uses c.add-block.result
    (handles_of c.args.kind) c.add-block.result refl)

-- the data block
data_least : (c : After-add_data-data) → IsLeastWithout c.self.inside.blocks.table (c.add-block.result + 1)
    c.add_data-data.result
data_least c =
    next_least c.self.inside.blocks.table c.args.kind c.add-block.result c.add_data-data.result
    (subst (λ (u : Uses). IsLeastWithout u.table (c.add-block.result + 1) c.add_data-data.result)
    c.add-block.ensures.after c.add_data-data.ensures.least)

both : (c : After-add_data-data) → c.add_data-data.new.self
    ≡ record {
      table = with_data (with_block c.self.inside.blocks.table c.args.kind c.add-block.result)
          c.add_data-data.result;
      extras = insert c.self.inside.blocks.extras c.add-block.result c.add_data-data.result;
    }
both c =
    c.add_data-data.ensures.after
    ∙ ap (λ (u : Uses). let v : Uses =
    record {
      table = with_data u.table c.add_data-data.result;
      extras = insert u.extras c.add-block.result c.add_data-data.result;
    } in v) c.add-block.ensures.after

pub invariant_of-self-2 : goal.invariant_of-self-2
invariant_of-self-2 c =
    subst (λ u. IsSeg u (vectors c.self.inside) c.self.inside.live) (sym (both c))
    (two-seg c.self.invariant c.args.kind c.add-block.result c.add-block.ensures.least.unused
    c.add-block.ensures.plain c.add_data-data.result (data_least c).unused
    (λ same. absurd (omega (arith, (data_least c).low))) (data_least c).high (sym c.if-not-paired.ensures)
    (subst (λ (u : Uses). IsTable u.table) (both c) c.add_data-data.ensures.table))

pub returns-clause-grown : goal.returns-clause-grown
returns-clause-grown c = (
  ap (λ b. cond b 2 1) (sym c.if-not-paired.ensures),
  with_rows_least _ (vectors c.self.inside) c.self.view_is c.add-block.ensures.least,
  with_rows_least _ (vectors c.self.inside) c.self.view_is (data_least c),
)

pub returns-clause-after : goal.returns-clause-after
returns-clause-after c =
    ap (λ u. table_in u (vectors c.self.inside)) (both c)
    ∙ two-view c.self.invariant c.args.kind c.add-block.result c.add-block.ensures.least.unused
    c.add-block.ensures.plain c.add_data-data.result (data_least c).unused
    (λ same. absurd (omega (arith, (data_least c).low))) (data_least c).high c.self.view_is

pub returns-clause-table : goal.returns-clause-table
returns-clause-table c = is_table (invariant_of-self-2 c)
