use Rattle.std.proofs.lemmas.Option.{slice_get_within}
use Rattle.hd_path.proofs.GraphChains.{found_chain, found_none, graph_falls}
use Rattle.hd_path.proofs.chains.chain_to.Goals as goal

pub chain_of-requires-clause-last : goal.chain_of-requires-clause-last
chain_of-requires-clause-last c =
    slice_get_within c.args.search.now.trail c.in-Some.last c.in-Some.ensures.one c.in-Some.ensures.is_one

pub chain_of-requires-clause-falling : goal.chain_of-requires-clause-falling
chain_of-requires-clause-falling c = graph_falls c.args.search.now c.requires

pub returns-in_ok-chain_of-in-Some : goal.returns-in_ok-chain_of-in-Some
returns-in_ok-chain_of-in-Some c =
    found_chain c.args.search.now c.requires c.args.goal c.in-Some.last c.in_ok-chain_of-in-Some.field-0
    c.in-Some.ensures c.in_ok-chain_of-in-Some.ensures

pub returns-in-None : goal.returns-in-None
returns-in-None c = found_none c.args.search.now c.requires c.args.goal c.in-None.ensures
