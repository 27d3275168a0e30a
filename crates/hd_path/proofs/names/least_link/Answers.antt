use Rattle.std.proofs.Common.{subst, take}
use Rattle.std.proofs.lemmas.List.{take_all, take_more}
use Rattle.hd_path.specs.Inside.{LeastOf}
use Rattle.hd_path.proofs.LeastLinks.{least_more, least_none}
use Rattle.hd_path.proofs.names.least_link.Goals as goal

pub loop-link-init : goal.loop-link-init
loop-link-init c = record { least = least_none c.args.id c.args.to }

pub loop-link-preserved : goal.loop-link-preserved
loop-link-preserved c = record {
  least = least_more (take c.loop-link.link-index c.args.links.now) _ c.args.id c.args.to c.loop-link.least
      c.lower-least.result c.loop-link.invariant.least c.lower-least.ensures _
      (take_more c.args.links.now c.loop-link.link-index _ c.loop-link-test.true);
}

pub returns : goal.returns
returns c =
    subst (λ ls. LeastOf ls c.args.id c.args.to c.loop-link.least)
    (take_all c.loop-link.link-index c.args.links.now c.loop-link-test.false) c.loop-link.invariant.least
