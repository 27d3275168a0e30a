use Rattle.std.proofs.Common.{subst}
use Rattle.std.specs.Prelude.{IfOk}
use Rattle.hd_model.specs.State.{Numbers}
use Rattle.hd_audit.specs.RightVerdicts.{IsRight}
use Rattle.hd_audit.proofs.lines.judged_or_out_of_memory.Goals as goal

pub judge-requires : goal.judge-requires
judge-requires c = c.in_ok-judged.ensures.none

pub returns : goal.returns
returns c =
    subst (λ (n : Numbers). IfOk c.judge.result (IsRight n c.args.scripts.now c.args.text.now))
    c.in_ok-judged.ensures.numbers c.judge.ensures
