-- A host of which nothing was changed is as it was.
use Rattle.std.proofs.Common.{refl}
use Rattle.hd_host.specs.View.{HostView, IsAsItWas}

pub unchanged : (v : HostView) → IsAsItWas v v
unchanged v = record {
  numbers = refl;
  state = refl;
  addresses = λ x a at. at;
  ages = refl;
  stamps = refl;
  last = refl;
}
