use Rattle.hd_mark.proofs.Basics.{sym, ◌∙◌}
use Rattle.hd_mark.proofs.MarksInvariant.{spanned, pin_seen, pin_kept}
use Rattle.hd_mark.proofs.marks.Marks.pin_also.Goals as goal

pub bit-requires-clause-span : goal.bit-requires-clause-span
bit-requires-clause-span c = spanned c.self.invariant c.self.view_is c.args.at c.requires

pub invariant_of-self : goal.invariant_of-self
invariant_of-self c =
    pin_kept c.self.invariant c.self.view_is c.args.at c.requires (sym c.bit.ensures ∙ c.in-Some.is)
    c.insert.new.self.words.items c.insert.ensures.joins c.insert.ensures.others c.insert.ensures.long

pub returns-in-Some : goal.returns-in-Some
returns-in-Some c =
    pin_seen c.self.invariant c.self.view_is c.args.at c.requires (sym c.bit.ensures ∙ c.in-Some.is)
    c.insert.new.self.words.items c.insert.ensures.joins c.insert.ensures.others
