use Rattle.std.proofs.Common.{ap, arith}
use Rattle.hd_model.specs.State.{last_serial}
use Rattle.hd_store.specs.Store.{Machine}
use Rattle.hd_host.specs.View.{HostView}
use Rattle.hd_host.proofs.host.Host.has_made_all.Goals as goal

pub returns-clause-all : goal.returns-clause-all
returns-clause-all c = λ at. omega (
  arith,
  c.is_last.ensures.last at,
  c.last_serial.ensures,
  ap (λ (m : Machine). last_serial m.state c.args.context) c.contents.ensures.value,
  ap (λ (v : HostView). last_serial v.machine.state c.args.context) c.self.view_is,
)

pub returns-clause-more : goal.returns-clause-more
returns-clause-more c = λ below. omega (
  arith,
  c.is_last.ensures.below below,
  c.last_serial.ensures,
  ap (λ (m : Machine). last_serial m.state c.args.context) c.contents.ensures.value,
  ap (λ (v : HostView). last_serial v.machine.state c.args.context) c.self.view_is,
)
