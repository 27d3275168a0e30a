use Rattle.hd_seg.proofs.Basics.{IfSome, Table, subst, ◌≤◌}
use Rattle.std.specs.Prelude.{MatchOption}
use Rattle.hd_seg.proofs.RowVectors.{sound_table}
use Rattle.hd_seg.specs.Given.{HasNoneGiven, IsNextGiven}
use Rattle.hd_seg.proofs.seg.Seg.next_given.Goals as goal

pub returns-clause-next : goal.returns-clause-next
returns-clause-next c =
    subst (λ (t : Table). MatchOption c.next_given.result (HasNoneGiven t.uses c.args.from)
    (IsNextGiven t.uses c.args.from)) c.self.view_is c.next_given.ensures.next

pub returns-clause-within : goal.returns-clause-within
returns-clause-within c =
    subst (λ (t : Table). IfSome c.next_given.result (λ block. block ≤ t.blocks)) c.self.view_is
    c.next_given.ensures.within

pub returns-clause-table : goal.returns-clause-table
returns-clause-table c = sound_table c.self.invariant c.self.view_is
