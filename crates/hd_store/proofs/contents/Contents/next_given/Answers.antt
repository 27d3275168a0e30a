use Rattle.hd_store.proofs.StoreWords.{IfSome, Machine, subst, ◌≤◌}
use Rattle.std.specs.Prelude.{MatchOption}
use Rattle.hd_seg.specs.Given.{HasNoneGiven, IsNextGiven}
use Rattle.hd_store.proofs.contents.Contents.next_given.Goals as goal

pub returns-clause-next : goal.returns-clause-next
returns-clause-next c =
    subst (λ (m : Machine). MatchOption c.next_given.result (HasNoneGiven m.state.blocks c.args.from)
    (IsNextGiven m.state.blocks c.args.from)) c.self.view_is c.next_given.ensures.next

pub returns-clause-within : goal.returns-clause-within
returns-clause-within c =
    subst (λ (m : Machine). IfSome c.next_given.result (λ block. block ≤ m.numbers.blocks)) c.self.view_is
    c.next_given.ensures.within

pub returns-clause-table : goal.returns-clause-table
returns-clause-table c =
    subst (λ (m : Machine). IfSome c.next_given.result (λ block. block ≤ m.table.blocks)) c.self.view_is
    c.next_given.ensures.within
