use Rattle.std.proofs.Common.{Contains, None, Option, Some, subst, ◌++◌, ◌≡◌}
use Rattle.std.specs.Prelude.{codes}
use Rattle.std.proofs.lemmas.Result.{IfOk-weaker}
use Rattle.hd_model.specs.State.{State}
use Rattle.hd_seen.specs.Seen.{view_seen}
use Rattle.hd_links.specs.Graph.{leads_in}
use Rattle.hd_links.specs.Shown.{IsPictureOf}
use Rattle.hd_path.specs.Chains.{HasNoChain, IsLeastChain}
use Rattle.hd_path.specs.Lines.{path_line}
use Rattle.hd_path.specs.Inside.{WritesPath}
use Rattle.hd_path.specs.Inside.{IsFoundChain, WritesChain}
use Rattle.hd_path.specs.declared.chains.Chain.{Chain}
use Rattle.hd_path.proofs.StatePaths.{is_chain, is_unrooted}
use Rattle.hd_path.proofs.paths.push_found.Goals as goal

pub chain_to-requires : goal.chain_to-requires
chain_to-requires c = c.requires.search.sound

pub push_chain-requires : goal.push_chain-requires
push_chain-requires c = c.requires.search.graph.attaching.rising

pub returns-in-Some : goal.returns-in-Some
returns-in-Some c =
    let seen = c.args.seen.now in
    let search = c.args.search.now in
    let chain = c.in-Some.chain in
    let least : IsLeastChain (leads_in search.graph) (Contains search.starts.items) c.args.id.0 chain.first
    chain.rest.items =
    subst (λ (o : Option Chain). IsFoundChain (leads_in search.graph) (Contains search.starts.items)
    c.args.id.0 o) c.in-Some.is c.in_ok-chain.ensures in
    IfOk-weaker c.push_chain.result
    (λ _. WritesChain seen search.graph c.args.id chain c.args.text.now.items c.push_chain.new.text.items)
    (λ _. (s : State) → IsPictureOf (view_seen seen) s
    → WritesPath s c.args.id c.args.text.now.items c.push_chain.new.text.items)
    (λ _ w s p.
    is_chain seen search c.requires.search s p c.args.id c.requires.there chain least c.args.text.now.items
    c.push_chain.new.text.items w) c.push_chain.ensures

pub returns-in-None : goal.returns-in-None
returns-in-None c =
    let seen = c.args.seen.now in
    let search = c.args.search.now in
    let none : HasNoChain (leads_in search.graph) (Contains search.starts.items) c.args.id.0 =
    subst (λ (o : Option Chain). IsFoundChain (leads_in search.graph) (Contains search.starts.items)
    c.args.id.0 o) c.in-None.is c.in_ok-chain.ensures in
    IfOk-weaker c.push_outcome.result
    (λ _. c.push_outcome.new.text.items ≡ c.args.text.now.items ++ path_line c.args.id (codes "unrooted"))
    (λ _. (s : State) → IsPictureOf (view_seen seen) s
    → WritesPath s c.args.id c.args.text.now.items c.push_outcome.new.text.items)
    (λ _ w s p.
    is_unrooted seen search c.requires.search s p c.args.id c.requires.there none c.args.text.now.items
    c.push_outcome.new.text.items w) c.push_outcome.ensures
