-- What is found in a graph from its starts: to each object the least of the shortest chains.
use Rattle.std.proofs.Common.{Contains, List, [], ap, arith, get_or, length, refl, subst, sym, ℕ, ⊎_elim, ◌<◌, ◌∙◌, ◌∷◌, ◌≡◌, ◌≢◌, Some, None}
use Rattle.std.specs.Prelude.{remove, reverse}
use Rattle.std.proofs.lemmas.Bool.{cases_lt}
use Rattle.std.proofs.lemmas.List.{length-reverse, reverse-reverse}
use Rattle.std.proofs.lemmas.Option.{slice_get_within}
use Rattle.hd_links.specs.Graph.{in_order, leads_in}
use Rattle.hd_path.specs.Chains.{HasNoChain, IsLeastChain, IsNoGreater, less, none, same}
use Rattle.hd_path.specs.Inside.{IsChainOf, IsSound}
use Rattle.hd_path.specs.declared.chains.Chain.{Chain}
use Rattle.hd_path.specs.declared.chains.Search.{Search}
use Rattle.hd_walk.specs.declared.trail.Found.{Found}
use Rattle.hd_walk.proofs.LeastChains.{IsLeast, IsLess}
use Rattle.hd_walk.specs.Trail.{IsFalling, IsFirstAt, IsNotBefore, IsReadBack, with_all}
use Rattle.hd_walk.proofs.TrailAdds.{has_added}
use Rattle.hd_walk.proofs.WalkChains.{least_found, never_found, read_trace}
use Rattle.hd_walk.proofs.WalkTurns.{IsBreadthFirst, breadth_falls, breadth_start, breadth_walked, ended_all}

no_greater : {xs ys : List ℕ} → IsLess (λ x y. x < y) xs ys → IsNoGreater xs ys
no_greater (IsLess.less l) = less l
no_greater (IsLess.same e rest) = same e (no_greater rest)

no_greater_same : (xs : List ℕ) → IsNoGreater xs xs
no_greater_same [] = none
no_greater_same (x ∷ xs) = same refl (no_greater_same xs)

module _ (g : Search) (sound : IsSound g) where
  abbrev leads : ℕ → ℕ → Type 0
  leads = leads_in g.graph

  abbrev Less : ℕ → ℕ → Type 0
  Less x y = x < y

  abbrev Starts : ℕ → Type 0
  Starts = Contains g.starts.items

  strict : (x y : ℕ) → in_order x y → x ≢ y → Less x y
  strict x y le differs = omega (arith, le, differs)

  less_on : (x y z : ℕ) → Less x y → Less y z → Less x z
  less_on x y z a b = omega (arith, a, b)

  all_visited : sound.ended.turn ≡ length g.trail
  all_visited = ended_all sound.ended

  walked : IsBreadthFirst leads Starts Less Less g.trail sound.ended.turn
  walked =
      breadth_walked in_order leads Starts Less Less strict
      (breadth_start in_order leads Starts Less Less strict g.starts.items
      (with_all [] g.starts.items None) (has_added in_order None g.starts.items [] sound.ordered) (λ y a. a)
      (λ y a. a)) sound.ended.walked

  pub graph_falls : IsFalling g.trail
  graph_falls = breadth_falls walked

  least_is : (goal first : ℕ) (rest : List ℕ) → IsLeast leads Starts Less Less goal first rest
      → IsLeastChain leads Starts goal first rest
  least_is goal first rest least = record {
    chain = record { start = least.start; walk = least.walk };
    shortest = λ other more chain.
        ⊎_elim (⊎_elim (λ shorter. omega (arith, shorter)) (λ r. omega (arith, r.0)))
        (λ alike. omega (arith, ap length alike.1)) (least.least other more chain.start chain.walk);
    least = λ other more chain long.
        ⊎_elim
        (⊎_elim (λ shorter. absurd (omega (arith, shorter, long)))
        (λ r. ⊎_elim (λ lower. less lower) (λ s. same s.0 (no_greater s.1)) r.1))
        (λ alike. same alike.0 (subst (λ xs. IsNoGreater rest xs) alike.1 (no_greater_same rest)))
        (least.least other more chain.start chain.walk);
  }

  -- the chain of a found node
  pub found_chain : (goal last : ℕ) (c : Chain) → IsFirstAt g.trail goal last → IsChainOf g.trail last c
      → IsLeastChain leads Starts goal c.first c.rest.items
  found_chain goal last c is back =
      let d = read_trace back last refl in
      let nodes = sym (reverse-reverse (c.first ∷ c.rest.items)) ∙ d.is in
      let inside = slice_get_within g.trail last is.one is.is_one in
      let least =
      least_found walked less_on less_on is.one is.is_one is.at_is
      (λ i x at here. ⊎_elim (λ below. absurd (is.first i x below at here)) (λ ge. ge) (cases_lt i last))
      (omega (arith, inside, all_visited)) d.trace.traced in
      subst (λ xs. IsLeastChain leads Starts goal c.first xs) (sym (ap rest_of nodes))
      (subst (λ x. IsLeastChain leads Starts goal x d.trace.rest) (sym (ap first_of nodes))
      (least_is goal d.trace.first d.trace.rest least))
    where
      first_of : List ℕ → ℕ
      first_of xs = get_or xs 0 0

      rest_of : List ℕ → List ℕ
      rest_of [] = []
      rest_of (x ∷ xs) = xs

  -- and none leads to what is not found
  pub found_none : (goal : ℕ) → IsNotBefore g.trail goal (length g.trail)
      → HasNoChain leads Starts goal
  found_none goal is first rest chain =
      never_found walked less_on less_on all_visited
      (λ i x at here. is i x (slice_get_within g.trail i x at) at here) chain.start chain.walk

-- what is read back begins with a node
read_some : {found : List Found} {i : ℕ} {back : List ℕ} → IsReadBack found (Some i) back → 0 < length back
read_some (IsReadBack.step x at more) = omega arith

pub chain_some : {found : List Found} {last : ℕ} (nodes : List ℕ)
    → IsReadBack found (Some last) (reverse nodes) → 0 < length nodes
chain_some nodes back = omega (arith, read_some back, length-reverse nodes)

pub first_rest : (nodes rest : List ℕ) (first : ℕ) → 0 < length nodes → first ≡ get_or nodes 0 first
    → rest ≡ remove nodes 0 → first ∷ rest ≡ nodes
first_rest [] rest first some at is = absurd (omega (arith, some))
first_rest (x ∷ xs) rest first some at is = λ i. at i ∷ is i
