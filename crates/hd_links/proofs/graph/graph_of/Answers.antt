use Rattle.std.proofs.Common.{List, ap, length, nat_eq, subst, ◌∙◌}
use Rattle.std.specs.HashMap.{get}
use Rattle.hd_seen.specs.declared.SeenEntry.{SeenEntry}
use Rattle.hd_seen.specs.declared.SeenHandle.{SeenHandle}
use Rattle.hd_seen.specs.declared.SeenObject.{SeenObject}
use Rattle.hd_links.specs.Graph.{AreIndexes}
use Rattle.hd_links.specs.Links.{links_in}
use Rattle.hd_links.specs.Sources.{AreAttaching}
use Rattle.hd_links.specs.declared.links.Link.{Link}
use Rattle.hd_links.proofs.graph.graph_of.Goals as goal

pub returns : goal.returns
returns c =
    let links = c.in_ok-links.ensures
    ∙ (λ i. links_in (c.deref-2.ensures.value i) (c.deref-3.ensures.value i)) in record {
      objects = c.deref-5.ensures.value;
      indexes = subst (λ (xs : List SeenObject). AreIndexes xs (get nat_eq c.in_ok-indexes.indexes) (length xs))
          c.deref.ensures.value c.in_ok-indexes.ensures;
      links = links;
      attaching = subst (λ (ls : List Link). AreAttaching ls c.in_ok-attaching.attaching.items)
          (c.deref-4.ensures.value ∙ links) c.in_ok-attaching.ensures;
    }
