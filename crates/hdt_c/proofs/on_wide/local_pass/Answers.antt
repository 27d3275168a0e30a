use Rattle.std.proofs.Common.{ap, refl, ◌∙◌}
use Rattle.hdt_c.specs.Arguments.{number_of}
use Rattle.hdt_c.specs.Exports.{does}
use Rattle.hdt_c.proofs.on_wide.local_pass.Goals as goal

pub returns : goal.returns
returns c =
    does c.args.host.now _ _ (
      c.local_pass.ensures.does,
      c.number_of.ensures ∙ ap number_of c.local_pass.ensures.value,
      refl,
    )
