use Rattle.hdt_c.proofs.Comings.{by_status}
use Rattle.hdt_c.proofs.on_objects.reregister.Goals as goal

pub returns : goal.returns
returns c =
    by_status tt (λ done ok. (done, ok)) c.reregister.result c.status.ensures c.reregister.ensures.does
