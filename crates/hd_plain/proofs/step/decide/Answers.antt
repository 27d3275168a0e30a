use Rattle.hd_plain.specs.declared.choice.Choice.{Choice}
use Rattle.hd_plain.proofs.StepWays.{decided_goes}
use Rattle.hd_plain.proofs.step.decide.Goals as goal

pub carry_out-requires-clause-may : goal.carry_out-requires-clause-may
carry_out-requires-clause-may c = record {
  caller = c.requires.may.caller;
  valid = c.requires.may.valid;
  handles = c.requires.may.formed.handles;
  objects = c.requires.may.formed.names.registers c.args.caller;
  count = λ h is slot handle at there. c.requires.may.counts slot.0 handle there;
}

pub returns : goal.returns
returns c = λ (choice : Choice).
    decided_goes c.args.caller choice c.args.machine.now c.carry_out.new.parts _ c.args.cmd c.carry_out.result
    c.carry_out.ensures.decided
