use Rattle.hd_plain.specs.Levels.{IsLevel, NoneNearer}
use Rattle.hd_plain.proofs.levels.near.Given as goal

abbrev pub invariant-loop-edges : goal.invariant-loop-edges
invariant-loop-edges l =
    IsLevel l.machine.state l.fn.goal l.edges l.level × NoneNearer l.machine.state l.fn.goal l.edges
