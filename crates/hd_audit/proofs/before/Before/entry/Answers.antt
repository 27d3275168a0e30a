use Rattle.std.proofs.Common.{IfOk, subst, sym, ◌<◌}
use Rattle.hd_plain.specs.OneEntry.{HasOne}
use Rattle.hd_audit.specs.Known.{Known}
use Rattle.hd_audit.proofs.KnownFacts.{may_step}
use Rattle.hd_audit.proofs.before.Before.entry.Goals as goal

pub settle-requires-clause-may : goal.settle-requires-clause-may
settle-requires-clause-may c =
    may_step c.self.inside.scripts.now c.self.inside.judged c.self.invariant c.args.caller c.args.cmd
    (subst (λ (k : Known). c.args.caller < k.numbers.callers) (sym c.self.view_is) c.requires.caller)
    c.requires.valid

pub returns : goal.returns
returns c =
    subst (λ (k : Known). IfOk c.settle.result (HasOne k.numbers k.state c.args.caller c.args.cmd))
    c.self.view_is c.settle.ensures
