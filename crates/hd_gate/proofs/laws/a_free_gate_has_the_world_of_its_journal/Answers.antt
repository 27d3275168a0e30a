use Rattle.hd_custody.proofs.FreeGate.{a_free_gate_has_the_world}
use Rattle.hd_gate.proofs.laws.a_free_gate_has_the_world_of_its_journal.Goals as goal

pub returns : goal.returns
returns c numbers s rule free =
    let has = a_free_gate_has_the_world _ numbers s rule free in
    (has.0, has.1, has.1.sound)
