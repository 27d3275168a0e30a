use Rattle.std.proofs.Common.{sym}
use Rattle.hd_view.proofs.PrintedLines.{before_end, before_none}
use Rattle.hd_view.proofs.why_text.without_end.Goals as goal

pub returns-in-Some : goal.returns-in-Some
returns-in-Some c = before_end c.args.line.now c.in-Some.end (sym c.in-Some.ensures.end)

pub returns-in-None : goal.returns-in-None
returns-in-None c = before_none c.args.line.now (sym c.in-None.ensures.end)
