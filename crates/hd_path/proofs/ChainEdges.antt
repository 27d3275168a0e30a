-- Chains of edges as chains of other edges, where each edge is one of the others.
use Rattle.std.proofs.Common.{List, ℕ, ◌∷◌}
use Rattle.hd_path.specs.Chains.{HasNoChain, IsChain, IsLeastChain}
use Rattle.hd_path.specs.Lines.{AreLines, last, more}
use Rattle.hd_walk.specs.Chains.{IsWalk, arrived, onward}

walk_as : (L M : ℕ → ℕ → Type 0) → ((x y : ℕ) → L x y → M x y) → (goal x : ℕ) (xs : List ℕ)
    → IsWalk L goal x xs → IsWalk M goal x xs
walk_as L M to goal _ _ arrived = arrived
walk_as L M to goal _ _ (onward {x = x} {y = y} {rest = rest} leads walk) =
    onward (to x y leads) (walk_as L M to goal y rest walk)

-- along a walk, lines of one sort give lines of another
pub lines_as : (L : ℕ → ℕ → Type 0) (P Q : ℕ → ℕ → List ℕ → Type 0) (goal x : ℕ) (rest lines : List ℕ)
    → AreLines P x rest lines → IsWalk L goal x rest
    → ((i j : ℕ) (line : List ℕ) → L i j → P i j line → Q i j line) → AreLines Q x rest lines
lines_as L P Q goal _ _ _ last walk turn = last
lines_as L P Q goal _ _ _ (more {x = x} {y = y} {rest = rest} {line = line} {lines = lines} step tail)
    (onward leads walk) turn =
    more (turn x y line leads step) (lines_as L P Q goal y rest lines tail walk turn)

module _ (L M : ℕ → ℕ → Type 0) (to : (x y : ℕ) → L x y → M x y) (back : (x y : ℕ) → M x y → L x y)
    (S T : ℕ → Type 0) (start : (x : ℕ) → S x → T x) (begin : (x : ℕ) → T x → S x) (goal : ℕ) where
  chain_back : (first : ℕ) (rest : List ℕ) → IsChain M T goal first rest → IsChain L S goal first rest
  chain_back first rest chain = record {
    start = begin first chain.start;
    walk = walk_as M L back goal first rest chain.walk;
  }

  pub least_as : (first : ℕ) (rest : List ℕ) → IsLeastChain L S goal first rest
      → IsLeastChain M T goal first rest
  least_as first rest least = record {
    chain = record {
      start = start first least.chain.start;
      walk = walk_as L M to goal first rest least.chain.walk;
    };
    shortest = λ other more chain. least.shortest other more (chain_back other more chain);
    least = λ other more chain long. least.least other more (chain_back other more chain) long;
  }

  pub none_as : HasNoChain L S goal → HasNoChain M T goal
  none_as never first rest chain = never first rest (chain_back first rest chain)
