use Rattle.hd_cwt.proofs.Basics.{ap, entry_at, sym, ◌∙◌}
use Rattle.hd_cwt.proofs.EntryCalls.{read}
use Rattle.hd_cwt.proofs.entries.Entries.get.Goals as goal

pub returns : goal.returns
returns c =
    c.entry.ensures ∙ ap (λ es. entry_at es c.args.slot) c.deref.ensures.value
    ∙ sym (read c.self.invariant c.self.view_is c.args.slot)
