use Rattle.std.proofs.Common.{Some, ap, sym, ◌∙◌}
use Rattle.hdt_c.proofs.Comings.{already, opened, refused}
use Rattle.hdt_c.proofs.on_host.hdt_open.Goals as goal

pub returns-in-Some : goal.returns-in-Some
returns-in-Some c = already (sym c.in-Some.ensures.value) c.put.ensures

pub returns-in-Err : goal.returns-in-Err
returns-in-Err c = refused (sym c.in_default.ensures.value) c.take.ensures.closed c.in-Err.ensures

pub returns : goal.returns
returns c = opened (sym c.in_default.ensures.value) (c.put-2.ensures ∙ ap Some c.in-Ok.ensures.1)
    c.in-Ok.ensures.2
