-- Where a walk from the anchors ends, its chain is a shortest one, from the least anchor.
use Rattle.std.proofs.Common.{◌≡◌, ℕ, ◌<◌, ◌≤◌, List, [], ◌∷◌, length, map, Option, Some, None, MatchOption, Contains, refl, sym, ap, ◌∙◌, subst, arith, ⊎_elim, eq-eqb, eqb-true}
use Rattle.std.specs.Prelude.{slice_get}
use Rattle.std.proofs.lemmas.Bool.{true≢false, cases_lt}
use Rattle.std.proofs.lemmas.List.{length-map, reverse-reverse}
use Rattle.std.proofs.lemmas.Option.{slice_get_within}
use Rattle.hd_model.specs.declared.data.Addr.{Addr}
use Rattle.hd_model.specs.Anchors.{IsUnrooted}
use Rattle.hd_model.specs.Heap.{Heap, object_at}
use Rattle.hd_model.specs.Names.{HasClosedFields, NamesObjects}
use Rattle.hd_model.specs.Table.{Table, row_at}
use Rattle.hd_root.specs.declared.dependents.Link.{Link}
use Rattle.hd_root.specs.Inside.{AreStarts}
use Rattle.hd_root.specs.Links.{AreLinks}
use Rattle.hd_root.specs.{Chain.IsPath, Chain.IsLeastChain, Inside.IsChainOf}
use Rattle.hd_root.specs.{Inside.AreObjects, Search.EdgeBy, Search.EdgeIn, Search.IsNode, Search.address, Search.in_any_order, Search.number}
use Rattle.hd_walk.specs.declared.trail.Found.{Found}
use Rattle.hd_walk.specs.Chains.{IsWalk}
use Rattle.hd_walk.proofs.LeastChains.{IsLeast}
use Rattle.hd_walk.specs.Trail.{IsFalling, with_all}
use Rattle.hd_walk.specs.Walk.{AreNodes, HasEnded, IsAtGoal}
use Rattle.hd_walk.proofs.NamedChains.{shortest_of, unrooted_of}
use Rattle.hd_walk.proofs.TrailAdds.{added_to}
use Rattle.hd_walk.proofs.WalkChains.{least_found, never_found, read_trace}
use Rattle.hd_walk.proofs.WalkTurns.{IsBreadthFirst, breadth_falls, breadth_start, breadth_walked, walked_past}

module _ (h : Heap) (t : Table) where
  -- a chain of nodes as one of their objects
  path_of : {goal x : ℕ} {xs : List ℕ} → IsWalk (EdgeBy h t) goal x xs
      → IsPath (EdgeIn h t) (address x) (map address (x ∷ xs)) (address goal)
  path_of IsWalk.arrived = IsPath.one
  path_of (IsWalk.onward edge walk) = IsPath.more edge (path_of walk)

  module _ {links : List Link} {anchors : List Addr} {starts : List ℕ} (s : AreStarts h anchors starts)
      {goal : Addr} {old found : List Found} {end : Option ℕ} (begins : old ≡ with_all [] starts None)
      (e : HasEnded (IsNode h t links) (EdgeBy h t) in_any_order (Some goal.0) old 0 found end) where
    abbrev First : ℕ → ℕ → Type 0
    First x y = number h (address x) ≤ number h (address y)

    abbrev Start : ℕ → Type 0
    Start x = Contains anchors (address x)

    walked : IsBreadthFirst (EdgeBy h t) Start First in_any_order found e.turn
    walked =
        breadth_walked in_any_order (EdgeBy h t) Start First in_any_order (λ x y o apart. tt)
        (breadth_start First (EdgeBy h t) Start First in_any_order (λ x y o apart. o) starts old
        (added_to First None begins s.rising) s.all s.only) e.walked

    pub ended_falls : IsFalling found
    ended_falls = breadth_falls walked

    -- what was visited is not the goal
    past : (i : ℕ) (x : Found) → i < e.turn → slice_get found i ≡ Some x → x.at ≡ goal.0 → ⊥
    past i x below at same =
        true≢false (sym (eq-eqb goal.0 x.at (sym same)) ∙ walked_past e.walked i x (omega arith) below at)

    module _ (last : ℕ) (is : end ≡ Some last) where
      at_goal : IsAtGoal (Some goal.0) found e.turn last
      at_goal =
          subst (λ o. MatchOption o (e.turn ≡ length found) (IsAtGoal (Some goal.0) found e.turn)) is e.ends

      pub ended_inside : last < length found
      ended_inside = slice_get_within found last at_goal.one at_goal.is_one

      pub ended_least : (chain : List Addr) → IsChainOf found last chain
          → IsLeastChain (EdgeIn h t) (Contains anchors) (number h) goal chain
      ended_least chain c =
          let d = read_trace c.back last refl in
          let first = d.trace.first in
          let rest = d.trace.rest in
          let nodes : c.nodes ≡ first ∷ rest = sym (reverse-reverse c.nodes) ∙ d.is in
          let path : chain ≡ map address (first ∷ rest) = c.are ∙ ap (map address) nodes in
          let least : IsLeast (EdgeBy h t) Start First in_any_order goal.0 first rest =
          least_found walked (λ x y z a b. let l : First x z = omega (arith, a, b) in l) (λ x y z a b. tt)
          at_goal.one
          at_goal.is_one (sym (eqb-true goal.0 at_goal.one.at at_goal.at_goal))
          (λ i x at same. ⊎_elim
          (λ below. absurd (past i x (let e = at_goal.turn_is in omega arith) at same)) (λ ge. ge)
          (cases_lt i last))
          (let e = at_goal.turn_is in omega arith) d.trace.traced in record {
            from = address first;
            edges = length rest;
            path = subst (λ xs. IsPath (EdgeIn h t) (address first) xs goal) (sym path) (path_of least.walk);
            size = let l = ap length path ∙ length-map (first ∷ rest) address in omega (arith, l);
            shortest =
                shortest_of (EdgeIn h t) address (λ (a : Addr). a.0) (λ a. refl) (Contains anchors) (number h)
                (λ x y o. o) least;
          }

    pub ended_unrooted : end ≡ None → IsUnrooted (EdgeIn h t) (Contains anchors) goal
    ended_unrooted is =
        let all : e.turn ≡ length found =
        subst (λ o. MatchOption o (e.turn ≡ length found) (IsAtGoal (Some goal.0) found e.turn)) is e.ends in
        unrooted_of (EdgeIn h t) address (λ (a : Addr). a.0) (λ a. refl) (Contains anchors)
        (λ x xs start walk.
        never_found walked (λ x y z a b. let l : First x z = omega (arith, a, b) in l) (λ x y z a b. tt) all
        (λ i y at same.
        past i y (let l = slice_get_within found i y at in omega arith) at same) start walk)

-- nodes are objects
pub node_objects : {h : Heap} {t : Table} {links : List Link} (found : List Found)
    → AreNodes (IsNode h t links) found → AreObjects h found
node_objects found nodes i x at = (nodes i x at).object

-- and objects are nodes
pub object_nodes : {h : Heap} {t : Table} {links : List Link} → HasClosedFields (object_at h)
    → NamesObjects (object_at h) (row_at t) → AreLinks t links → (found : List Found) → AreObjects h found
    → AreNodes (IsNode h t links) found
object_nodes fields rows links found objects i x at =
    record { object = objects i x at; fields = fields; rows = rows; linked = links }
