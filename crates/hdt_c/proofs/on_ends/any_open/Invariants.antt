use Rattle.std.proofs.Common.{None, Option, get_or, ℕ, ◌<◌, ◌≡◌}
use Rattle.hd_ends.specs.declared.end.End.{End}
use Rattle.hdt_c.specs.Outs.{values_of}
use Rattle.hdt_c.proofs.on_ends.any_open.Given as goal

abbrev pub invariant-loop-i : goal.invariant-loop-i
invariant-loop-i l = record {
  same : values_of l.ends ≡ values_of l.initial.ends;
  none : (k : ℕ) (d : Option End) → k < l.i → get_or (values_of l.ends) k d ≡ None;
}
