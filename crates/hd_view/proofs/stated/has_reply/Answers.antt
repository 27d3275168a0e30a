use Rattle.std.proofs.Common.{sym, ◌∙◌}
use Rattle.hd_view.proofs.BegunWords.{no_reply, reply_behind}
use Rattle.hd_view.proofs.stated.has_reply.Goals as goal

pub returns-then-begins : goal.returns-then-begins
returns-then-begins c =
    reply_behind c.args.tail.now c.as_bytes-text.result.now c.args.reply
    (c.as_bytes-text.ensures ∙ c.reply_line-line.ensures) (sym c.begins.ensures ∙ c.if-begins.true)
    c.ends_word.result c.ends_word.ensures

pub returns-else-begins : goal.returns-else-begins
returns-else-begins c =
    no_reply c.args.tail.now c.as_bytes-text.result.now c.args.reply
    (c.as_bytes-text.ensures ∙ c.reply_line-line.ensures) c.begins.result c.begins.ensures c.if-begins.false
