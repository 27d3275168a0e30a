use Rattle.std.proofs.Common.{subst, sym}
use Rattle.hd_plain.specs.Inside.{HasGenerations}
use Rattle.hd_plain.specs.MachineViews.{MachineView}
use Rattle.hd_plain.proofs.machine.Machine.change.Goals as goal

pub clear_handles-losses-requires : goal.clear_handles-losses-requires
clear_handles-losses-requires c =
    subst (λ (j : MachineView). HasGenerations j.state.objects) (sym c.self.view_is) c.requires

pub sweep-requires : goal.sweep-requires
sweep-requires c =
    subst (λ (j : MachineView). HasGenerations j.state.objects) (sym c.self.view_is) c.requires
