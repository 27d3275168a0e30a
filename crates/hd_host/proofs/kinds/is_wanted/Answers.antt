use Rattle.std.proofs.Common.{Bool, false, not, true, ◌≡◌}
use Rattle.hd_host.proofs.HandleKinds.{is-wanted, not-null, not-weak}
use Rattle.hd_host.proofs.kinds.is_wanted.Goals as goal

turned : (b t : Bool) → not b ≡ t → b ≡ not t
turned true t is = let same = is in cc
turned false t is = let same = is in cc

pub returns-then-not-may_be_wanted-clause-no : goal.returns-then-not-may_be_wanted-clause-no
returns-then-not-may_be_wanted-clause-no c = λ _ has.
    let null = c.may_be_wanted.ensures.no c.if-not-may_be_wanted.true in
    not-null c.requires.over c.requires.sound c.args.slot c.args.cleared has null.0 null.1

pub returns-clause-yes : goal.returns-clause-yes
returns-clause-yes c = λ yes.
    is-wanted c.requires.over c.requires.sound c.args.slot c.args.cleared c.requires.live
    (c.is_held.ensures.other (turned c.is_held.result true yes))
    (c.may_be_wanted.ensures.yes c.if-not-may_be_wanted.false)

pub returns-clause-no : goal.returns-clause-no
returns-clause-no c = λ no has.
    not-weak c.requires.over c.requires.sound c.args.slot c.args.cleared has
    (c.is_held.ensures.held (turned c.is_held.result false no))
