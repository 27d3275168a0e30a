use Rattle.std.proofs.Common.{None, [], ◌∙◌}
use Rattle.hd_root.proofs.AnchorStarts.{start_objects}
use Rattle.hd_root.proofs.SearchEnd.{ended_falls, ended_inside, ended_least, ended_unrooted}
use Rattle.hd_walk.specs.Trail.{with_all}
use Rattle.hd_root.proofs.finding.found_from.Goals as goal

pub walk_to-requires-clause-objects : goal.walk_to-requires-clause-objects
walk_to-requires-clause-objects c =
    start_objects c.requires.anchors c.in_ok-starts.ensures
    (c.in_ok-trail.ensures ∙ (λ i. with_all [] (c.deref.ensures.value i) None))

pub chain_of-requires-clause-last : goal.chain_of-requires-clause-last
chain_of-requires-clause-last c =
    let begins =
    c.in_ok-trail.ensures ∙ (λ i. with_all [] (c.deref.ensures.value i) None) in
    ended_inside c.args.heap.now c.args.seg.now c.in_ok-starts.ensures begins c.in_ok-last.ensures.ended
    c.in-Some.last c.in-Some.is

pub chain_of-requires-clause-falling : goal.chain_of-requires-clause-falling
chain_of-requires-clause-falling c =
    let begins =
    c.in_ok-trail.ensures ∙ (λ i. with_all [] (c.deref.ensures.value i) None) in
    ended_falls c.args.heap.now c.args.seg.now c.in_ok-starts.ensures begins c.in_ok-last.ensures.ended

pub chain_of-requires-clause-objects : goal.chain_of-requires-clause-objects
chain_of-requires-clause-objects c = c.in_ok-last.ensures.objects

pub returns-in-Some : goal.returns-in-Some
returns-in-Some c =
    let begins =
    c.in_ok-trail.ensures ∙ (λ i. with_all [] (c.deref.ensures.value i) None) in
    ended_least c.args.heap.now c.args.seg.now c.in_ok-starts.ensures begins c.in_ok-last.ensures.ended
    c.in-Some.last c.in-Some.is c.in_ok-chain_of-in-Some.field-0 c.in_ok-chain_of-in-Some.ensures

pub returns : goal.returns
returns c =
    let begins =
    c.in_ok-trail.ensures ∙ (λ i. with_all [] (c.deref.ensures.value i) None) in
    ended_unrooted c.args.heap.now c.args.seg.now c.in_ok-starts.ensures begins c.in_ok-last.ensures.ended
    c.in-None.is
