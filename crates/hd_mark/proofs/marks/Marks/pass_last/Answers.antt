use Rattle.hd_mark.proofs.Basics.{arith}
use Rattle.hd_mark.proofs.MarksInvariant.{last_kept, last_seen}
use Rattle.hd_mark.proofs.marks.Marks.pass_last.Goals as goal

pub invariant_of-self : goal.invariant_of-self
invariant_of-self c =
    last_kept c.self.invariant c.self.view_is c.requires.next c.requires.last
    c.len-self-inside.result (omega (arith, c.len-self-inside.ensures, c.self.inside.log.ok.0))

pub returns-clause-after : goal.returns-clause-after
returns-clause-after c =
    last_seen c.self.invariant c.self.view_is c.requires.next c.requires.last
    c.len-self-inside.result (omega (arith, c.len-self-inside.ensures, c.self.inside.log.ok.0))

pub returns-clause-traced : goal.returns-clause-traced
returns-clause-traced c =
    (last_kept c.self.invariant c.self.view_is c.requires.next c.requires.last
    c.len-self-inside.result (omega (arith, c.len-self-inside.ensures, c.self.inside.log.ok.0))).traced
