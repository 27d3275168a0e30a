use Rattle.hd_path.proofs.SourceLinks.{least_of_part}
use Rattle.hd_path.proofs.names.least_from.Goals as goal

pub returns : goal.returns
returns c =
    least_of_part c.args.links.now c.links_from.result.now c.args.from c.args.to c.least_link.result
    c.links_from.ensures
    c.least_link.ensures
