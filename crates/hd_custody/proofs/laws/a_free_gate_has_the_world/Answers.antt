use Rattle.hd_custody.proofs.FreeGate.{a_free_gate_has_the_world}
use Rattle.hd_custody.proofs.laws.a_free_gate_has_the_world.Goals as goal

pub returns : goal.returns
returns g c = a_free_gate_has_the_world g.W.Held
