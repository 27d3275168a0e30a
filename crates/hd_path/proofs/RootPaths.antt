-- Chains by numbers as the chains that `gcroot` looks for.
use Rattle.std.proofs.Common.{List, arith, inl, inr, length, refl, ℕ, ◌∷◌, ◌≤◌}
use Rattle.hd_model.proofs.AnchorChains.{one_root}
use Rattle.hd_model.specs.Anchors.{AnchorOf, EdgeOf, IsShortest}
use Rattle.hd_model.specs.declared.data.Id.{Id}
use Rattle.hd_model.specs.State.{State}
use Rattle.hd_path.specs.Chains.{IsLeastChain, IsNoGreater, less, same}
use Rattle.hd_path.specs.PathLaws.{ChainsBeginAtRoots, NoChainIsUnrooted}
use Rattle.hd_links.specs.Graph.{named}
use Rattle.hd_path.specs.Paths.{BeginsAt, LeadsBy}
use Rattle.hd_walk.proofs.NamedChains.{leads_walk, unrooted_of, walk_leads}

module _ (s : State) where
  abbrev number : Id → ℕ
  number x = x.0

  head_low : (x y : ℕ) (xs ys : List ℕ) → IsNoGreater (x ∷ xs) (y ∷ ys) → x ≤ y
  head_low x y xs ys (less low) = omega (arith, low)
  head_low x y xs ys (same equal rest) = omega (arith, equal)

  pub shortest_is : (goal first : ℕ) (rest : List ℕ) → IsLeastChain (LeadsBy s) (BeginsAt s) goal first rest
      → IsShortest (EdgeOf s) (AnchorOf s) number (named goal) (named first) (length rest)
  shortest_is goal first rest least = record {
    anchor = least.chain.start;
    chain = walk_leads (EdgeOf s) named number (λ x. refl) least.chain.walk;
    shortest = λ other k anchored chain.
        let walk = leads_walk (EdgeOf s) named number (λ x. refl) chain in
        let short = least.shortest other.0 walk.0 (record { start = anchored; walk = walk.2 }) in
        omega (arith, short, walk.1);
    least = λ other anchored chain.
        let walk = leads_walk (EdgeOf s) named number (λ x. refl) chain in
        head_low first other.0 rest walk.0
        (least.least other.0 walk.0 (record { start = anchored; walk = walk.2 }) walk.1);
  }

pub chains_begin_at_roots : ChainsBeginAtRoots
chains_begin_at_roots s goal first rest r least returns =
    one_root s (named goal) r _ returns
    (inl (record {
      from = named first;
      edges = length rest;
      shortest = shortest_is s goal first rest least;
      reply_is = refl;
    }))

pub no_chain_is_unrooted : NoChainIsUnrooted
no_chain_is_unrooted s goal r none returns =
    one_root s (named goal) r _ returns
    (inr (
      unrooted_of (EdgeOf s) named (λ (x : Id). x.0) (λ x. refl) (AnchorOf s)
          (λ x xs start walk. none x xs (record { start = start; walk = walk })),
      refl,
    ))
