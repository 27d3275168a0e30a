use Rattle.hd_view.proofs.PrintedLines.{too_few_appended}
use Rattle.hd_view.proofs.why_text.push_too_few.Goals as goal

pub returns : goal.returns
returns c =
    too_few_appended c.args.unused c.needed_blocks.result c.args.kind c.args.text.now c.push_worded.new.text
    c.push.new.self c.push_numbered.new.text c.handle_words.result.now c.in_ok-push_worded.ensures
    c.in_ok-push.ensures c.handle_words.ensures c.in_ok-push_numbered.ensures c.needed_blocks.ensures.value
