use Rattle.std.proofs.Common.{◌++◌, ◌≡◌}
use Rattle.std.proofs.lemmas.Result.{IfOk-weaker}
use Rattle.hd_audit.specs.RightVerdicts.{numbers_of}
use Rattle.hd_run.specs.Audit.{wrong_text}
use Rattle.hd_view.specs.Inside.{IsReasonOf}
use Rattle.hd_view.specs.WhyText.{why_text}
use Rattle.hd_view.proofs.WrongLines.{is_wrong, reason_is, written_by}
use Rattle.hd_view.proofs.why.reason_after.Goals as goal

pub cause_of-cause-requires-clause-wrong : goal.cause_of-cause-requires-clause-wrong
cause_of-cause-requires-clause-wrong c =
    let j = c.args.judgement.now in
    is_wrong (numbers_of j.scripts.now j.heap j.blocks) j.scripts.now j.text.now j.count c.args.before.now
    c.requires.known c.requires.rest c.requires.wrong

pub returns : goal.returns
returns c =
    let j = c.args.judgement.now in
    let k = c.args.before.now in
    let dues = c.in_ok-dues.dues.items in
    let passed = c.deref-2.result.now in
    let cause = c.cause_of-cause.result in
    IfOk-weaker c.reason_text.result (λ text. text ≡ wrong_text c.args.line ++ why_text k passed cause)
    (IsReasonOf j)
    (λ text is. reason_is j k dues cause text c.requires.wrong c.requires.known c.requires.rest
    c.in_ok-dues.ensures.due c.cause_of-cause.ensures
    (written_by k dues passed cause j.count c.args.line text c.requires.line c.deref-2.ensures.value is))
    c.reason_text.ensures
