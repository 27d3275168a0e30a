use Rattle.hd_mark.proofs.Basics.{sym, ◌∙◌}
use Rattle.hd_mark.proofs.MarksInvariant.{unpromoted, words_there}
use Rattle.hd_mark.proofs.marks.MarksMarker.may_keep.Goals as goal

pub has_some-requires : goal.has_some-requires
has_some-requires c =
    words_there c.self.invariant c.self.view_is c.args.region c.in-Some.index
    (sym c.index.ensures ∙ c.in-Some.is)

pub returns : goal.returns
returns c none a here =
    unpromoted c.self.invariant c.self.view_is c.args.region c.in-Some.index
    (sym c.index.ensures ∙ c.in-Some.is) (c.has_some.ensures none) a here
