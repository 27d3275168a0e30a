use Rattle.hd_store.proofs.StoreWords.{IsIdle, None, Some, get, parts, ◌≡◌}
use Rattle.hd_store.proofs.EntrySearch.{at-idle, idle-at}
use Rattle.hd_store.proofs.contents.Contents.idle_slots.Goals as goal
use Rattle.hd_model.proofs.PropertyCounts.{counts_like}

pub returns : goal.returns
returns c =
    let f = parts c.self.inside in
    let m = c.args.self.now in
    counts_like (IsIdle f.weak) (λ slot. get m.state.weak slot ≡ Some None) c.idle_count.result
    (idle-at f m c.self.view_is) (at-idle f m c.self.view_is) c.idle_count.ensures
