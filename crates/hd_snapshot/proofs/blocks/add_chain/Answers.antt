use Rattle.std.proofs.Common.{Option, Some, [], ap, append-nil, append_assoc, arith, length, map, sym, ◌++◌, ◌∙◌, ◌∷◌, ℕ}
use Rattle.hd_ages.specs.Walk.{blocks_from}
use Rattle.hd_ages.proofs.WalkSteps.{from_start, handles_next, next_first, next_kind}
use Rattle.hd_model.specs.Table.{chain_of}
use Rattle.hd_seen.specs.declared.SeenBlock.{SeenBlock}
use Rattle.hd_snapshot.proofs.blocks.add_chain.Goals as goal

pub loop-next-init : goal.loop-next-init
loop-next-init c =
    let block : ℕ → SeenBlock = λ b. record { number = b; kind = Some c.args.kind } in
    let chain = chain_of c.args.table.now c.args.kind in
    record {
      all = ap (λ bs. c.args.seen.now.items ++ map block bs)
          (ap (λ (o : Option ℕ). blocks_from o chain) c.first-next.ensures.value ∙ from_start chain);
      next = c.first-next.ensures.of_kind;
    }

pub after-next-requires : goal.after-next-requires
after-next-requires c =
    handles_next c.args.table.now c.args.kind c.in-Some.number c.in-Some.is c.loop-next.invariant.next

pub loop-next-smaller : goal.loop-next-smaller
loop-next-smaller c =
    omega (
      arith,
      ap length (next_first c.args.table.now c.args.kind c.in-Some.number c.in-Some.is
          c.loop-next.invariant.next c.after-next.ensures.table
          c.after-next.result c.after-next.ensures.value),
    )

pub loop-next-preserved : goal.loop-next-preserved
loop-next-preserved c =
    let block : ℕ → SeenBlock = λ b. record { number = b; kind = Some c.args.kind } in
    let chain = chain_of c.args.table.now c.args.kind in
    let rest = map block (blocks_from c.after-next.result chain) in
    record {
      all = ap (λ l. l ++ rest) c.in_ok-push.ensures.items
          ∙ append_assoc c.loop-next.seen.items (block c.in-Some.number ∷ []) rest
          ∙ ap (λ bs. c.loop-next.seen.items ++ map block bs)
          (sym (next_first c.args.table.now c.args.kind c.in-Some.number c.in-Some.is
          c.loop-next.invariant.next c.after-next.ensures.table
          c.after-next.result c.after-next.ensures.value))
          ∙ c.loop-next.invariant.all;
      next = next_kind c.args.table.now c.args.kind c.in-Some.number c.in-Some.is
          c.loop-next.invariant.next c.after-next.ensures.table
          c.after-next.result c.after-next.ensures.value c.after-next.ensures.of_kind;
    }

pub returns : goal.returns
returns c =
    let block : ℕ → SeenBlock = λ b. record { number = b; kind = Some c.args.kind } in
    sym (append-nil c.loop-next.seen.items)
    ∙ ap (λ (o : Option ℕ). c.loop-next.seen.items
    ++ map block (blocks_from o (chain_of c.args.table.now c.args.kind))) (sym c.in_default.is)
    ∙ c.loop-next.invariant.all
