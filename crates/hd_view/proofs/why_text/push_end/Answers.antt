use Rattle.std.proofs.Common.{arith, sym, ◌∙◌}
use Rattle.hd_view.proofs.PrintedLines.{end_appended}
use Rattle.hd_view.proofs.why_text.push_end.Goals as goal

pub returns : goal.returns
returns c =
    end_appended c.args.before.now c.args.text.now c.push-2.new.self c.push_line.new.self c.end_line.result
    c.in_ok-push-2.ensures c.in_ok-push_line.ensures c.end_line.ensures
    (sym c.is_ended.ensures ∙ c.if-is_ended.false) (omega (arith, c.left.ensures, c.if-left-ne0.false))
