-- Ends of both sorts.
use Rattle.std.specs.Prelude.{ℕ}
use Rattle.hd_ends.specs.declared.end.End.{End}
use Rattle.hd_ends.specs.declared.end.End.TheVariants.{Own, Shared}

-- how many contexts an end has, which are numbered from 0 there
abbrev pub contexts_of : End → ℕ
contexts_of (Own v) = v.machine.numbers.callers
contexts_of (Shared e) = e.each
