use Rattle.std.proofs.Common.{ap, arith}
use Rattle.std.specs.FinMap.{len}
use Rattle.hd_plain.specs.MachineViews.{MachineView}
use Rattle.hd_audit.proofs.JudgedLines.{objects_fit}
use Rattle.hd_audit.proofs.before.Before.end_line.Goals as goal

pub overflow_cast-objects : goal.overflow_cast-objects
overflow_cast-objects c =
    omega (
      arith,
      objects_fit c.self.invariant.1,
      c.len-objects.ensures,
      ap (λ (j : MachineView). len j.state.objects) c.machine.view_is,
    )
