use Rattle.std.proofs.Common.{ap, arith}
use Rattle.hd_model.specs.State.{total_size}
use Rattle.hd_store.specs.Store.{Machine}
use Rattle.hd_host.specs.{Calls.no_serial, View.HostView}
use Rattle.hd_host.proofs.host.Host.no_serial_left.Goals as goal

pub returns-else-from : goal.returns-else-from
returns-else-from c = λ d fin. no_serial d c.args.fields fin c.requires.at_end
    (omega (
      arith,
      c.cells-used.ensures,
      c.limit.ensures,
      ap (λ (m : Machine). total_size m.state) c.contents-store.ensures.value,
      ap (λ (m : Machine). m.numbers.heap) c.contents-store.ensures.value,
      ap (λ (v : HostView). total_size v.machine.state) c.self.view_is,
      ap (λ (v : HostView). v.machine.numbers.heap) c.self.view_is,
    ))
