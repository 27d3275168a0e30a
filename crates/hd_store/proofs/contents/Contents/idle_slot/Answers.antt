use Rattle.hd_store.proofs.StoreWords.{idle_slot, parts, ◌≡◌}
use Rattle.hd_store.proofs.{EntrySearch.idle-is, HeldRoom.idle-held, HeldRoom.idle-within}
use Rattle.hd_store.proofs.contents.Contents.idle_slot.Goals.{After-idle}
use Rattle.hd_store.proofs.contents.Contents.idle_slot.Goals as goal

least : (c : After-idle) → c.idle.result ≡ idle_slot c.args.self.now.state
least c =
    idle-is (parts c.self.inside) c.args.self.now c.self.view_is c.idle.result c.idle.ensures.least
    c.idle.ensures.none

pub returns-clause-value : goal.returns-clause-value
returns-clause-value c = least c

pub returns-clause-idle : goal.returns-clause-idle
returns-clause-idle c = idle-held c.args.self.now.state c.idle.result (least c)

pub returns-clause-within : goal.returns-clause-within
returns-clause-within c =
    idle-within (parts c.self.inside) c.self.invariant c.given-given.ensures.table c.args.self.now
    c.self.view_is c.idle.result (least c)
