-- What the locals of an end reference when it finds the host is what it left there.
use Rattle.std.proofs.Common.{◌∷◌, ◌∙◌, refl, subst}
use Rattle.hd_turns.specs.Views.{GoesOn}
use Rattle.hd_turns.proofs.Histories.{kept_by_others}
use Rattle.hd_host.specs.Turns.{LocalsStay}
use Rattle.hd_host.proofs.OtherCallers.{others_keep_locals}
use Rattle.hd_ends.specs.Ends.{EndTurn, EndsKeepLocals, with_last}

pub ends_keep_locals : EndsKeepLocals
ends_keep_locals old new found leaves last left rest seen took =
    kept_by_others (EndTurn old.each) (LocalsStay old.each old.number left) old.number last left rest
    (λ by was now other turn stayed c d mine.
    others_keep_locals old.each old.number by (with_last was turn.0) now other turn.1 c d mine ∙ stayed c d mine)
    took.by found took.past
    (subst (GoesOn old.number ((took.by, found) ∷ took.past)) seen took.goes_on) took.turns (λ c d mine. refl)
