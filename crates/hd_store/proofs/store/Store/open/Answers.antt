use Rattle.hd_store.proofs.StoreWords.{HasLimits, subst, sym}
use Rattle.hd_store.proofs.SoundCalls.{sound-at-first}
use Rattle.hd_store.proofs.store.Store.open.Goals as goal

pub invariant_of-result : goal.invariant_of-result
invariant_of-result c =
    sound-at-first c.in_ok-contents.contents
    (subst HasLimits (sym c.in_ok-contents.ensures.numbers)
    (record { heap = c.requires.heap; blocks = c.requires.blocks; callers = c.requires.callers }))
    c.in_ok-contents.ensures.state
