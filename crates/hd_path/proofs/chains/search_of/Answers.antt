use Rattle.std.proofs.Common.{List, None, ap, subst, sym, ◌∙◌, ℕ}
use Rattle.std.specs.List.Sorted.{IsPermutation}
use Rattle.hd_links.specs.Graph.{IsNode, anchors_in, in_order, leads_in}
use Rattle.hd_links.specs.declared.links.Link.{Link}
use Rattle.hd_links.proofs.GraphTargets.{in_turn}
use Rattle.hd_walk.specs.declared.trail.Found.{Found}
use Rattle.hd_walk.specs.Trail.{with_all}
use Rattle.hd_walk.specs.Walk.{HasEnded}
use Rattle.hd_path.proofs.chains.search_of.Goals as goal

pub walk-requires-clause-nodes : goal.walk-requires-clause-nodes
walk-requires-clause-nodes c = λ i x at. c.in_ok-graph.ensures.attaching.rising

pub returns : goal.returns
returns c =
    let g = c.in_ok-graph.graph in
    let s = c.args.seen.now in record {
      graph = c.in_ok-graph.ensures;
      starts = subst (λ (xs : List ℕ). IsPermutation xs c.sort.new.numbers.items)
          (c.in_ok-starts.ensures
          ∙ ap (λ (ls : List Link). anchors_in s.statics s.queue.items ls)
          (c.deref.ensures.value ∙ c.in_ok-graph.ensures.links))
          c.sort.ensures.permutation;
      sound = record {
        ordered = in_turn c.sort.new.numbers.items c.sort.ensures.rising;
        end = c.in_ok-_none._none;
        ended = subst
            (λ (xs : List Found). HasEnded (IsNode g) (leads_in g) in_order None xs 0 c.walk.new.trail
            c.in_ok-_none._none)
            (c.in_ok-add_all.ensures
            ∙ (λ i. with_all ((c.reserve.ensures ∙ c.open-trail.ensures) i) (c.deref-2.ensures.value i) None))
            c.in_ok-_none.ensures;
      };
    }
