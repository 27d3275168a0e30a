use Rattle.std.proofs.Common.{subst, sym}
use Rattle.hd_plain.specs.Inside.{HasGenerations}
use Rattle.hd_plain.specs.MachineViews.{MachineView}
use Rattle.hd_plain.proofs.machine.Machine.mark_registers.Goals as goal

pub mark_young-requires : goal.mark_young-requires
mark_young-requires c =
    subst (λ (j : MachineView). HasGenerations j.state.objects) (sym c.self.view_is) c.requires
