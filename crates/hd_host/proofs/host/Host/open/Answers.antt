use Rattle.std.proofs.Common.{ap, arith, replicate, ◌*◌, ◌+◌, ◌++◌, ◌-◌, ◌∙◌}
use Rattle.std.specs.Prelude.{length}
use Rattle.hd_model.specs.State.{Numbers}
use Rattle.hd_model.specs.declared.limits.TheConstants.{CLUMPS, OLDEST, ROWS}
use Rattle.hd_host.specs.{declared.stamps.TheConstants.FREE, Handles.padded, Handles.stamps_in}
use Rattle.hd_host.proofs.{FirstHost.grown_at_first, LiveEntries.none_stamped, PaddedEntries.all_filled}
use Rattle.hd_host.proofs.host.Host.open.Goals as goal

pub invariant_of-result : goal.invariant_of-result
invariant_of-result c =
    grown_at_first c.args.limits.blocks c.in_ok-store.store c.in_ok-pool.pool c.in_ok-stamps.stamps
    c.contents-sound.ensures.sound (omega (arith, c.min-blocks.ensures)) c.requires.blocks.1
    c.in_ok-store.ensures.state c.in_ok-store.ensures.ages
    (ap (λ (n : Numbers). n.blocks) c.in_ok-store.ensures.numbers) c.in_ok-pool.ensures c.in_ok-stamps.ensures

pub returns-clause-ages : goal.returns-clause-ages
returns-clause-ages c =
    ap (λ xs. xs ++ replicate (CLUMPS * c.args.limits.blocks - length xs) OLDEST) c.in_ok-store.ensures.ages
    ∙ all_filled (CLUMPS * c.min-blocks.result) (CLUMPS * c.args.limits.blocks) OLDEST
    (omega (arith, c.min-blocks.ensures))

pub returns-clause-stamps : goal.returns-clause-stamps
returns-clause-stamps c =
    ap stamps_in (ap (padded c.args.limits.blocks) c.in_ok-stamps.ensures
    ∙ all_filled (ROWS * (c.min-blocks.result + 1)) (ROWS * (c.args.limits.blocks + 1)) FREE
    (omega (arith, c.min-blocks.ensures)))
    ∙ none_stamped (ROWS * (c.args.limits.blocks + 1))
