use Rattle.hdt_c.proofs.Comings.{by_status}
use Rattle.hdt_c.proofs.on_objects.field_set.Goals as goal

pub returns : goal.returns
returns c =
    by_status tt (λ done ok. (done, ok)) c.field_set.result c.status.ensures (rw c.field.ensures at
    c.field_set.ensures.does)
