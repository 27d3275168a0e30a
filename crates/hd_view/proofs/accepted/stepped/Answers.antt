use Rattle.std.proofs.Common.{subst, sym, ◌<◌, ◌∙◌}
use Rattle.std.proofs.lemmas.Result.{IfOk-weaker}
use Rattle.hd_model.specs.State.{Numbers}
use Rattle.hd_plain.specs.OneEntry.{HasOne}
use Rattle.hd_view.proofs.AcceptedSets.{same_one}
use Rattle.hd_view.proofs.accepted.stepped.Goals as goal

pub entry-requires-clause-caller : goal.entry-requires-clause-caller
entry-requires-clause-caller c =
    subst (λ (n : Numbers). c.args.caller < n.callers)
    (c.requires.before.numbers ∙ sym c.in_ok-again.ensures.known.numbers) c.requires.caller

pub returns : goal.returns
returns c =
    let j = c.in_ok-again.again in
    let k = c.args.before.now in
    IfOk-weaker c.entry.result (HasOne j.numbers j.state c.args.caller c.args.cmd)
    (HasOne k.numbers k.state c.args.caller c.args.cmd)
    (λ e one. same_one _ _ _ j k c.in_ok-again.ensures.known c.requires.before c.args.caller c.args.cmd e one)
    c.entry.ensures
