use Rattle.std.proofs.Common.{◌∙◌}
use Rattle.std.proofs.lemmas.Result.{IfOk-weaker}
use Rattle.hd_ends.proofs.NewEnds.{opened_ends, opened_new}
use Rattle.hd_ends.proofs.opening.share.Goals as goal

pub in_boxes-requires : goal.in_boxes-requires
in_boxes-requires c =
    opened_new c.in-Ok.ensures.0 c.args.each c.args.count c.of.ensures c.in-Ok.ends.items c.in-Ok.ensures.1
    c.requires.contexts c.requires.few

pub returns : goal.returns
returns c =
    IfOk-weaker c.in_boxes.result _ _ (λ ends made. (
      c.in-Ok.ensures.0,
      made ∙ opened_ends c.in-Ok.ensures.0 c.args.each c.args.count c.of.ensures c.in-Ok.ends.items
          c.in-Ok.ensures.1 c.last-last.ensures,
    )) c.in_boxes.ensures
