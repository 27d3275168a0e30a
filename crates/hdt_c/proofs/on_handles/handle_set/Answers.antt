use Rattle.hdt_c.proofs.Comings.{by_status}
use Rattle.hdt_c.proofs.on_handles.handle_set.Goals as goal

pub returns : goal.returns
returns c =
    by_status tt (λ done ok. (done, ok)) c.handle_set.result c.status.ensures c.handle_set.ensures.does
