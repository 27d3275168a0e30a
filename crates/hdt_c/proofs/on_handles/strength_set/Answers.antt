use Rattle.hdt_c.proofs.Comings.{by_fault}
use Rattle.hdt_c.proofs.on_handles.strength_set.Goals as goal

pub returns : goal.returns
returns c =
    by_fault tt (λ done ok. (c.in-Some.given, c.in-Some.ensures, (done, ok))) (λ f why. (
      c.in-Some.given,
      c.in-Some.ensures,
      why,
    )) c.strength_set.result c.status.ensures c.strength_set.ensures.does
