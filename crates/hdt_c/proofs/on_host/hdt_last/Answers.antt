use Rattle.std.proofs.Common.{ap, refl, sym, ◌∙◌}
use Rattle.hdt_c.specs.Outs.{last_out}
use Rattle.hdt_c.proofs.Comings.{told, untold}
use Rattle.hdt_c.proofs.on_host.hdt_last.Goals as goal

pub returns-in_default : goal.returns-in_default
returns-in_default c = untold (sym c.in_default.ensures.value) c.take.ensures.closed refl

pub returns : goal.returns
returns c = told c.in-Some.ensures.value c.put.ensures (c.last_of.ensures ∙ ap last_out c.deref.ensures)
