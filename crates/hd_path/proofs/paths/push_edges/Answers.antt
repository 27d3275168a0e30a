use Rattle.std.proofs.Common.{List, ap, get_or, refl, subst, sym, take, ℕ, ◌+◌, ◌∙◌}
use Rattle.std.proofs.lemmas.List.{take_all, take_more}
use Rattle.hd_path.specs.Inside.{IsStepLine, WritesEdge, WritesEdges}
use Rattle.hd_path.proofs.ChainLines.{last_of, last_of_push, wrote_more, wrote_none}
use Rattle.hd_path.proofs.paths.push_edges.Goals as goal

pub loop-i-init : goal.loop-i-init
loop-i-init c = record {
  at = refl;
  writes = wrote_none (IsStepLine c.args.graph.now) c.args.chain.now.first c.args.text.now.items;
}

pub loop-i-preserved : goal.loop-i-preserved
loop-i-preserved c =
    let g = c.args.graph.now in
    let rest = c.as_slice-rest.result.now in
    let i = c.loop-i.i in
    let more = take_more rest i 0 c.loop-i-test.true in
    let first = c.args.chain.now.first in record {
      at = sym (ap (last_of first) more ∙ last_of_push first (take i rest) (get_or rest i 0));
      writes = wrote_more (IsStepLine g) first (take i rest) c.args.text.now.items c.loop-i.text.items
          c.push_step.new.text.items (get_or rest i 0) (take (i + 1) rest) more c.loop-i.invariant.writes
          (subst (λ x. WritesEdge g x (get_or rest i 0) c.loop-i.text.items c.push_step.new.text.items)
          c.loop-i.invariant.at c.in_ok-push_step.ensures);
    }

pub returns : goal.returns
returns c =
    subst
    (λ (l : List ℕ). WritesEdges c.args.graph.now c.args.chain.now.first l c.args.text.now.items
    c.loop-i.text.items)
    (take_all c.loop-i.i c.as_slice-rest.result.now c.loop-i-test.false ∙ c.as_slice-rest.ensures.value)
    c.loop-i.invariant.writes
