-- The least link of some links that have all those of a source.
use Rattle.std.proofs.Common.{List, None, Option, Some}
use Rattle.hd_model.specs.declared.data.Id.{Id}
use Rattle.hd_links.specs.Sources.{IsPartFrom}
use Rattle.hd_links.specs.declared.links.Link.{Link}
use Rattle.hd_path.specs.Inside.{LeastOf}

pub least_of_part : (links chosen : List Link) (x y : Id) (found : Option Link) → IsPartFrom links x chosen
    → LeastOf chosen x (Some y) found → LeastOf links x (Some y) found
least_of_part links chosen x y None is none = λ l has to. none l (is.all l has to.0) to
least_of_part links chosen x y (Some m) is least = record {
  among = is.among m least.among;
  links_to = least.links_to;
  least = λ l has to. least.least l (is.all l has to.0) to;
}
