use Rattle.hd_mark.proofs.MarksInvariant.{advance_seen, advance_kept}
use Rattle.hd_mark.proofs.marks.Marks.advance.Goals as goal

pub invariant_of-self : goal.invariant_of-self
invariant_of-self c = advance_kept c.self.invariant c.self.view_is c.requires

pub returns-clause-after : goal.returns-clause-after
returns-clause-after c = advance_seen c.self.invariant c.self.view_is c.requires

pub returns-clause-traced : goal.returns-clause-traced
returns-clause-traced c = (advance_kept c.self.invariant c.self.view_is c.requires).traced
