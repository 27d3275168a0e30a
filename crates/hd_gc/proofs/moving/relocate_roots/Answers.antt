use Rattle.hd_gc.proofs.Basics.{Addr, Option, ap, arith, forwarding_in, length, option_map, sym, ◌+◌, ◌∙◌, ◌≡◌}
use Rattle.hd_ages.proofs.MappedPrefixes.{length-mapped_to, mapped_all, mapped_none}
use Rattle.hd_gc.proofs.NullRoots.{moved_past}
use Rattle.hd_gc.proofs.moving.relocate_roots.Goals as goal

pub loop-roots-init : goal.loop-roots-init
loop-roots-init c = record {
  moved = moved_past (forwarding_in c.args.plan.now) c.args.roots.now 0 c.skip_null-at.result
      (sym (mapped_none (option_map (forwarding_in c.args.plan.now)) c.args.roots.now)) (omega arith)
      c.skip_null-at.ensures.within c.skip_null-at.ensures.null;
  within = c.skip_null-at.ensures.within;
}

pub relocate_between-requires-clause-kept : goal.relocate_between-requires-clause-kept
relocate_between-requires-clause-kept c = record {
  before = c.args.roots.now;
  moved = c.loop-roots.invariant.moved;
  kept = c.requires.kept;
}

pub loop-roots-preserved : goal.loop-roots-preserved
loop-roots-preserved c = record {
  moved = moved_past (forwarding_in c.args.plan.now) c.args.roots.now (c.loop-roots.at + 4)
      c.skip_null-at-in-loop-roots.result
      (c.relocate_between.ensures c.args.roots.now c.loop-roots.invariant.moved)
      c.skip_null-at-in-loop-roots.ensures.on c.skip_null-at-in-loop-roots.ensures.within
      c.skip_null-at-in-loop-roots.ensures.null;
  within = c.skip_null-at-in-loop-roots.ensures.within;
}

pub relocate_between-requires-2-clause-kept : goal.relocate_between-requires-2-clause-kept
relocate_between-requires-2-clause-kept c = record {
  before = c.args.roots.now;
  moved = c.loop-roots.invariant.moved;
  kept = c.requires.kept;
}

pub returns : goal.returns
returns c =
    let f : Option Addr → Option Addr = option_map (forwarding_in c.args.plan.now) in
    let same : length c.loop-roots.roots ≡ length c.args.roots.now =
    ap length c.loop-roots.invariant.moved ∙ length-mapped_to f c.args.roots.now c.loop-roots.at in
    c.relocate_between-2.ensures c.args.roots.now c.loop-roots.invariant.moved
    ∙ mapped_all f c.args.roots.now _ (omega (arith, same))
