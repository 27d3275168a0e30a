use Rattle.std.proofs.Common.{ap, arith, sym, ◌∙◌}
use Rattle.std.specs.FinMap.{get}
use Rattle.hd_plain.specs.MachineViews.{MachineView}
use Rattle.hd_plain.proofs.machine.Machine.put_address.Goals as goal

pub put-requires-clause-free : goal.put-requires-clause-free
put-requires-clause-free c = λ other e.
    c.requires.free.apart (record { 0 = other }) c.args.address
    (sym (ap (λ (j : MachineView). get j.state.pinned other) c.self.view_is) ∙ e)
    (record { left = omega arith; right = omega arith })
