use Rattle.std.proofs.Common.{ap, sym, ◌∙◌}
use Rattle.hd_step.specs.declared.progress.Progress.{Progress}
use Rattle.hd_step.proofs.Exchanges.{same_text}
use Rattle.hd_step.proofs.session.call.Goals as goal

pub returns : goal.returns
returns g c =
    let done = c.in_ok-reply.ensures.done in
    record {
      answer = c.in_ok-reply.reply;
      done = done;
      number = c.count-number.result;
      next = c.count-number.ensures.number;
      progress = c.count-number.ensures.counted;
      line = c.entry_line.ensures ∙ same_text c.plain_entry.result done.entry c.count-number.result
          (c.plain_entry.ensures.caller ∙ ap (λ (p : Progress). p.caller) c.count-number.ensures.counted
          ∙ sym done.caller_is)
          (c.plain_entry.ensures.reply ∙ sym done.reply_is);
    }
