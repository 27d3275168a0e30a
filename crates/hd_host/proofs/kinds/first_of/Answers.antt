use Rattle.std.proofs.Common.{arith, refl, ◌*◌, ◌+◌, ◌/◌}
use Rattle.hd_model.specs.declared.limits.TheConstants.{ROWS}
use Rattle.hd_host.proofs.HandleKinds.{after}
use Rattle.hd_host.proofs.kinds.first_of.Goals as goal

pub returns-in-None : goal.returns-in-None
returns-in-None c =
    after c.requires.sound c.args.kinds c.args.cleared c.args.from (ROWS * (c.args.from / ROWS + 1))
    (ROWS * (c.args.from / ROWS + 1)) refl c.in-None.ensures (omega arith) c.first_beyond.result c.first_beyond.ensures
