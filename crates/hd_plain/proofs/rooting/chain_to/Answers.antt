use Rattle.std.proofs.Common.{ap, arith, length, refl, subst, sym, ◌∙◌, ◌≡◌}
use Rattle.std.specs.Prelude.{slice_get}
use Rattle.hd_model.proofs.Basics.{same_Some}
use Rattle.hd_model.specs.Anchors.{AnchorOf, EdgeOf, IsShortest}
use Rattle.hd_model.specs.declared.data.Id.{Id}
use Rattle.hd_walk.proofs.WalkTurns.{walked_nodes}
use Rattle.hd_plain.specs.Collecting.{id_of}
use Rattle.hd_plain.proofs.RootWalk.{anchor_nodes, ended_falls, ended_inside, ended_least, ended_unrooted, room, start_nodes}
use Rattle.hd_plain.proofs.rooting.chain_to.Goals as goal

pub walk_to-requires-clause-none : goal.walk_to-requires-clause-none
walk_to-requires-clause-none c = c.open-trail.ensures

pub returns-in_default-clause-shortest : goal.returns-in_default-clause-shortest
returns-in_default-clause-shortest c =
    ended_unrooted c.args.graph.now.machine.now c.args.anchors.now c.requires.rising c.requires.all refl
    c.in_ok-end.ensures c.in_default.is

pub read_back-requires-clause-last : goal.read_back-requires-clause-last
read_back-requires-clause-last c =
    ended_inside c.args.graph.now.machine.now c.args.anchors.now c.requires.rising c.requires.all refl
    c.in_ok-end.ensures c.in-Some.last c.in-Some.is

pub read_back-requires-clause-falling : goal.read_back-requires-clause-falling
read_back-requires-clause-falling c =
    ended_falls c.args.graph.now.machine.now c.args.anchors.now c.requires.rising c.requires.all refl
    c.in_ok-end.ensures

pub origin_of-requires : goal.origin_of-requires
origin_of-requires c =
    let d = ended_least c.args.graph.now.machine.now c.args.anchors.now c.requires.rising c.requires.all refl
    c.in_ok-end.ensures c.in-Some.last c.in-Some.is c.in_ok-chain.chain.items c.in_ok-chain.ensures.chain in
    omega (arith, ap length d.nodes_are, ap length c.deref.ensures.value)

pub returns-clause-few : goal.returns-clause-few
returns-clause-few c =
    let j = c.args.graph.now.machine.now in
    let a = c.args.graph.now.attached.now in
    let inside = ended_inside j c.args.anchors.now c.requires.rising c.requires.all refl
    c.in_ok-end.ensures c.in-Some.last c.in-Some.is in
    let fits = room j a c.walk_to.new.trail
    (walked_nodes c.in_ok-end.ensures.walked
    (start_nodes j a c.args.anchors.now
    (anchor_nodes j a c.requires.formed c.requires.listed c.args.anchors.now c.requires.all) c.requires.rising
    refl))
    c.len-count.ensures.once in
    omega (
      arith,
      inside,
      fits,
      c.in_ok-chain.ensures.few,
      ap length c.deref.ensures.value,
      c.origin_of.ensures.edges,
    )

pub returns-clause-shortest : goal.returns-clause-shortest
returns-clause-shortest c =
    let s = c.args.graph.now.machine.now.state in
    let o = c.origin_of.result in
    let d = ended_least c.args.graph.now.machine.now c.args.anchors.now c.requires.rising c.requires.all refl
    c.in_ok-end.ensures c.in-Some.last c.in-Some.is c.in_ok-chain.chain.items c.in_ok-chain.ensures.chain in
    let nodes = c.deref.ensures.value ∙ d.nodes_are in
    let first_is : d.first ≡ o.from.0 =
    same_Some d.first o.from.0 (sym (ap (λ xs. slice_get xs 0) nodes) ∙ c.origin_of.ensures.from) in
    let edges : length d.rest ≡ o.edges = omega (arith, ap length nodes, c.origin_of.ensures.edges) in
    subst (λ n. IsShortest (EdgeOf s) (AnchorOf s) (λ (x : Id). x.0) c.args.goal o.from n) edges
    (subst (λ n. IsShortest (EdgeOf s) (AnchorOf s) (λ (x : Id). x.0) c.args.goal (id_of n) (length d.rest))
    first_is d.shortest)
