use Rattle.hd_mark.proofs.Basics.{sym, ◌∙◌}
use Rattle.hd_mark.proofs.MarksInvariant.{spanned, promoted_read}
use Rattle.hd_mark.proofs.marks.MarksMarker.promoted.Goals as goal

pub bit-requires-clause-span : goal.bit-requires-clause-span
bit-requires-clause-span c = spanned c.self.invariant c.self.view_is c.args.at c.requires.object

pub returns-in-Some : goal.returns-in-Some
returns-in-Some c =
    c.has.ensures ∙ promoted_read c.self.invariant c.self.view_is c.args.at c.requires.object
    (sym c.bit.ensures ∙ c.in-Some.is)
