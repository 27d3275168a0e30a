use Rattle.std.proofs.Common.{List, Global, Vec, map, subst, ◌∙◌, ◌≡◌, ap, ℕ}
use Rattle.std.specs.List.Sorted.{IsPermutation}
use Rattle.std.proofs.lemmas.Result.{IfOk-weaker}
use Rattle.hd_root.specs.declared.anchors.Anchor.{Anchor}
use Rattle.hd_root.specs.Inside.{AreStarts, node_of}
use Rattle.hd_root.proofs.AnchorStarts.{starts_are}
use Rattle.hd_root.proofs.anchors.by_identity.Goals as goal

pub returns : goal.returns
returns c =
    IfOk-weaker c.nodes_of.result (λ (nodes : Vec ℕ Global). nodes.items ≡ map node_of c.deref.result.now)
    (λ (nodes : Vec ℕ Global). AreStarts c.args.heap.now c.args.anchors.now nodes.items)
    (λ nodes e.
    starts_are c.args.heap.now c.args.anchors.now c.sort.new.listed.items nodes.items
    (subst (λ (xs : List Anchor). IsPermutation xs c.sort.new.listed.items) c.in_ok-listed.ensures
    c.sort.ensures.permutation) c.sort.ensures.rising (e ∙ ap (map node_of) c.deref.ensures.value))
    c.nodes_of.ensures
