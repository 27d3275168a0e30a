use Rattle.std.proofs.Common.{arith, subst}
use Rattle.hd_host.specs.Turns.{TrimsBlock, next_kind, no_kinds, one_more}
use Rattle.hd_host.proofs.TrimRows.{block_fewer, plain_block}
use Rattle.hd_host.proofs.host.Host.trim_plain.Goals as goal

pub trims-init : goal.trims-init
trims-init c = λ w rest. rest

pub returns-then-given-eq0 : goal.returns-then-given-eq0
returns-then-given-eq0 c = c.trims.invariant c.trim-given.new.self
    (next_kind (subst (λ n. TrimsBlock c.trims.self c.args.kind n c.trim-given.new.self) c.if-given-eq0.true
    (plain_block c.requires c.trim-given.ensures.does)) no_kinds)

pub trims-preserved : goal.trims-preserved
trims-preserved c = λ w rest. c.trims.invariant w
    (one_more c.trim-given.result (omega (arith, c.if-given-eq0.false))
    (plain_block c.requires c.trim-given.ensures.does) rest)

pub trims-smaller : goal.trims-smaller
trims-smaller c = omega (arith, c.if-given-eq0.false, block_fewer _ _ c.args.kind _ (plain_block c.requires c.trim-given.ensures.does))
