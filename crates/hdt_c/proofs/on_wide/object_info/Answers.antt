use Rattle.std.proofs.Common.{refl, subst}
use Rattle.hdt_c.specs.Exports.{does}
use Rattle.hdt_c.specs.Wide.{IsTold}
use Rattle.hdt_c.specs.declared.status.TheConstants.{NULL, OK}
use Rattle.hdt_c.proofs.on_wide.object_info.Goals as goal

pub returns-in-Some : goal.returns-in-Some
returns-in-Some c =
    does c.args.host.now _ _ (
      refl,
      subst (λ o. IsTold o c.args.out.now c.object.result OK) c.in-Some.ensures (c.object.ensures, refl),
    )

pub returns-in-None : goal.returns-in-None
returns-in-None c =
    does c.args.host.now _ _ (
      refl,
      subst (λ o. IsTold o c.args.out.now c.args.out.now NULL) c.in-None.ensures (refl, refl),
    )
