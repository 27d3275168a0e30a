use Rattle.std.proofs.Common.{List, Some, subst, sym, arith, ℕ}
use Rattle.std.specs.Prelude.{reverse}
use Rattle.hd_walk.specs.Trail.{IsReadBack}
use Rattle.hd_path.proofs.GraphChains.{chain_some, first_rest}
use Rattle.hd_path.proofs.chains.chain_of.Goals as goal

pub remove-first-requires : goal.remove-first-requires
remove-first-requires c =
    omega (arith, chain_some c.in_ok-rest.rest.items c.in_ok-rest.ensures.chain, c.in_ok-rest.rest.ok.0)

pub returns : goal.returns
returns c =
    let nodes = c.in_ok-rest.rest.items in
    subst (λ (xs : List ℕ). IsReadBack c.args.trail.now (Some c.args.last) (reverse xs))
    (sym (first_rest nodes c.remove-first.new.self.items c.remove-first.result
    (chain_some nodes c.in_ok-rest.ensures.chain) c.remove-first.ensures.value c.remove-first.ensures.items))
    c.in_ok-rest.ensures.chain
