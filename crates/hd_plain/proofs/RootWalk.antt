-- Where a walk from the anchors ends, its chain is a shortest one, from the least anchor; and what edges lead
-- to from an object is what the machine lists.
use Rattle.hd_model.proofs.Basics.{AllPairs, Contains, Contains-append_cases, Contains-append_left, Contains-append_right, IsSome, IsWellFormed, List, MatchOption, None, Option, Some, [], ap, arith, cases_lt, eq-eqb, eqb-true, get, inl, inr, keys, len, length, length-map, map, none-some, refl, same_Some, scene_of, subst, sym, true≢false, ℕ, ⊎_elim, ◌++◌, ◌<◌, ◌≤◌, ◌∙◌, ◌∷◌, ◌≡◌, ◌≢◌}
use Rattle.std.specs.Prelude.{flat_map, reverse, slice_get, ◌↔◌}
use Rattle.std.proofs.lemmas.List.{reverse-reverse}
use Rattle.std.proofs.lemmas.Option.{slice_get_within, slice_get-get_or}
use Rattle.hd_model.proofs.AnchorSearch.{anchor_object}
use Rattle.hd_model.proofs.MapBuild.{in_keys}
use Rattle.hd_model.proofs.Members.{first_in, later_in, mapped_from, member_cases, not_in_none, pairs_mapped}
use Rattle.hd_model.proofs.PropertyCounts.{fewer}
use Rattle.hd_model.proofs.SceneCollection.{edge_object}
use Rattle.hd_model.proofs.WholeScenes.{whole_scene}
use Rattle.hd_model.specs.Anchors.{AnchorOf, EdgeOf, IsShortest, IsUnrooted, LeadsIn}
use Rattle.hd_model.specs.Scene.{fields_in}
use Rattle.hd_model.specs.declared.data.Id.{Id}
use Rattle.hd_walk.specs.declared.trail.Found.{Found}
use Rattle.hd_walk.proofs.LeastChains.{IsLeast}
use Rattle.hd_walk.specs.Trail.{IsFalling, IsOnce, IsReadBack, with_all}
use Rattle.hd_walk.specs.Walk.{AreNodes, AreTargets, HasEnded, IsAtGoal}
use Rattle.hd_walk.proofs.NamedChains.{shortest_of, unrooted_of}
use Rattle.hd_walk.proofs.Slices.{at_member}
use Rattle.hd_walk.proofs.TrailAdds.{HasAdded, added_to}
use Rattle.hd_walk.proofs.WalkChains.{least_found, never_found, read_trace}
use Rattle.hd_walk.proofs.WalkTurns.{IsBreadthFirst, breadth_falls, breadth_start, breadth_walked, walked_past}
use Rattle.hd_plain.specs.Attaching.{ListsAttached, secondaries}
use Rattle.hd_plain.specs.Collecting.{id_of}
use Rattle.hd_plain.specs.Edges.{IsNode, in_any_order, leads_in}
use Rattle.hd_plain.specs.Inside.{nodes_in}
use Rattle.hd_plain.specs.MachineViews.{MachineView}
use Rattle.hd_plain.specs.declared.marks.Attached.{Attached}
use Rattle.hd_plain.proofs.AttachedLists.{edge_from, edge_to}
use Rattle.hd_maps.proofs.SeenMaps.{keys_length}

module _ (j : MachineView) {a : Attached} (starts : List ℕ) (rising : AllPairs (λ x y. x < y) starts)
    (all : (x : Id) → Contains starts x.0 ↔ AnchorOf j.state x) {goal : Id} {old found : List Found}
    {end : Option ℕ} (begins : old ≡ with_all [] starts None)
    (e : HasEnded (IsNode j a) (leads_in j.state) in_any_order (Some goal.0) old 0 found end) where
  abbrev First : ℕ → ℕ → Type 0
  First x y = x < y

  abbrev Start : ℕ → Type 0
  Start x = AnchorOf j.state (id_of x)

  walked : IsBreadthFirst (leads_in j.state) Start First in_any_order found e.turn
  walked =
      breadth_walked in_any_order (leads_in j.state) Start First in_any_order (λ x y o apart. tt)
      (breadth_start First (leads_in j.state) Start First in_any_order (λ x y o apart. o) starts old
      (added_to First None begins rising) (λ y h. (all (id_of y)).1 h) (λ y h. (all (id_of y)).0 h)) e.walked

  pub ended_falls : IsFalling found
  ended_falls = breadth_falls walked

  -- what was visited is not the goal
  past : (i : ℕ) (x : Found) → i < e.turn → slice_get found i ≡ Some x → x.at ≡ goal.0 → ⊥
  past i x below at same =
      true≢false (sym (eq-eqb goal.0 x.at (sym same)) ∙ walked_past e.walked i x (omega arith) below at)

  module _ (last : ℕ) (is : end ≡ Some last) where
    at_goal : IsAtGoal (Some goal.0) found e.turn last
    at_goal =
        subst (λ o. MatchOption o (e.turn ≡ length found) (IsAtGoal (Some goal.0) found e.turn)) is e.ends

    pub ended_inside : last < length found
    ended_inside = slice_get_within found last at_goal.one at_goal.is_one

    -- the chain that is read back
    module _ (chain : List ℕ) (back : IsReadBack found (Some last) (reverse chain)) where
      pub record IsChain : Type 0 where
        pub first : ℕ
        pub rest : List ℕ
        pub nodes_are : chain ≡ first ∷ rest
        pub shortest : IsShortest (EdgeOf j.state) (AnchorOf j.state) (λ (x : Id). x.0) goal (id_of first)
            (length rest)

      pub ended_least : IsChain
      ended_least =
          let d = read_trace back last refl in
          let first = d.trace.first in
          let rest = d.trace.rest in
          let least : IsLeast (leads_in j.state) Start First in_any_order goal.0 first rest =
          least_found walked (λ x y z a b. let l : First x z = omega (arith, a, b) in l) (λ x y z a b. tt)
          at_goal.one at_goal.is_one (sym (eqb-true goal.0 at_goal.one.at at_goal.at_goal))
          (λ i x at same. ⊎_elim
          (λ below. absurd (past i x (let t = at_goal.turn_is in omega arith) at same)) (λ ge. ge)
          (cases_lt i last))
          (let t = at_goal.turn_is in omega arith) d.trace.traced in
          record {
            first = first;
            rest = rest;
            nodes_are = sym (reverse-reverse chain) ∙ d.is;
            shortest =
                shortest_of (EdgeOf j.state) id_of (λ (x : Id). x.0) (λ x. refl) (AnchorOf j.state)
                (λ (x : Id). x.0) (λ x y o. omega (arith, o)) least;
          }

  pub ended_unrooted : end ≡ None → IsUnrooted (EdgeOf j.state) (AnchorOf j.state) goal
  ended_unrooted is =
      let all : e.turn ≡ length found =
      subst (λ o. MatchOption o (e.turn ≡ length found) (IsAtGoal (Some goal.0) found e.turn)) is e.ends in
      unrooted_of (EdgeOf j.state) id_of (λ (x : Id). x.0) (λ x. refl) (AnchorOf j.state)
      (λ x xs start walk.
      never_found walked (λ x y z a b. let l : First x z = omega (arith, a, b) in l) (λ x y z a b. tt) all
      (λ i y at same. past i y (let l = slice_get_within found i y at in omega arith) at same) start walk)

-- anchors are nodes
pub anchor_nodes : (j : MachineView) (a : Attached) → IsWellFormed j.numbers j.state → ListsAttached j.state a
    → (starts : List ℕ) → ((x : Id) → Contains starts x.0 ↔ AnchorOf j.state x) → (x : ℕ)
    → Contains starts x → IsNode j a x
anchor_nodes j a w listed starts all x has = record {
  object = anchor_object j.state (whole_scene j.numbers j.state w) (id_of x) ((all (id_of x)).0 has);
  formed = w;
  listed = listed;
}

-- and so is all that is found first
pub start_nodes : (j : MachineView) (a : Attached) (starts : List ℕ) → ((x : ℕ) → Contains starts x
    → IsNode j a x) → AllPairs (λ x y. x < y) starts → {old : List Found} → old ≡ with_all [] starts None
    → AreNodes (IsNode j a) old
start_nodes j a starts each rising {old = old} begins i x at =
    let v : HasAdded (λ x y. x < y) starts None [] old = added_to (λ x y. x < y) None begins rising in
    each x.at (v.only x (at_member v.added i x (ap (λ xs. slice_get xs i) (sym v.extends) ∙ at))).1

-- there are no more found than objects
pub room : (j : MachineView) (a : Attached) (found : List Found) → AreNodes (IsNode j a) found → IsOnce found
    → length found ≤ len j.state.objects
room j a found nodes once =
    let node : Found → ℕ = λ x. x.at in
    let apart : AllPairs (λ (x y : ℕ). x ≢ y) (map node found) =
    pairs_mapped (λ (x y : Found). x.at ≢ y.at) (λ (x y : ℕ). x ≢ y) node found (λ x y d. d) once in
    let within = fewer (map node found) (keys j.state.objects) apart
    (λ q has. let (x, rest) = mapped_from node found q has in
    let (k, lt, is) = rest.0 in
    in_keys j.state.objects q
    (subst (λ n. IsSome (get j.state.objects n)) rest.1
    (nodes k x (slice_get-get_or found k x lt ∙ ap Some is)).object)) in
    omega (arith, within, length-map found node, keys_length j.state.objects)

-- ---- targets

-- the numbers of fields are those of what they reference
field_from : (fields : List (Option Id)) (y : ℕ) → Contains (flat_map nodes_in fields) y
    → Contains fields (Some (id_of y))
field_from [] y has = absurd (not_in_none y has)
field_from (None ∷ fields) y has = later_in None fields (Some (id_of y)) (field_from fields y has)
field_from (Some x ∷ fields) y has =
    ⊎_elim
    (λ (same : x.0 ≡ y).
    subst (λ n. Contains (Some x ∷ fields) (Some (id_of n))) same (first_in (Some x) fields))
    (λ later. later_in (Some x) fields (Some (id_of y)) (field_from fields y later))
    (member_cases x.0 (flat_map nodes_in fields) y has)

field_in : (fields : List (Option Id)) (y : ℕ) → Contains fields (Some (id_of y))
    → Contains (flat_map nodes_in fields) y
field_in [] y has = absurd (not_in_none (Some (id_of y)) has)
field_in (None ∷ fields) y has =
    ⊎_elim (λ same. absurd (none-some (id_of y) same)) (λ later. field_in fields y later)
    (member_cases None fields (Some (id_of y)) has)
field_in (Some x ∷ fields) y has =
    ⊎_elim
    (λ same.
    subst (λ n. Contains (x.0 ∷ flat_map nodes_in fields) n)
    (ap (λ (z : Id). z.0) (same_Some x (id_of y) same)) (first_in x.0 (flat_map nodes_in fields)))
    (λ later. later_in x.0 (flat_map nodes_in fields) y (field_in fields y later))
    (member_cases (Some x) fields (Some (id_of y)) has)

-- both together are what edges lead to from an object
module _ {j : MachineView} {a : Attached} {x : ℕ} (node : IsNode j a x) {old mid new : List ℕ}
    (none : old ≡ []) (fields : mid ≡ old ++ flat_map nodes_in (fields_in (get j.state.objects x)))
    (listed : new ≡ mid ++ secondaries a x) where
  abbrev referenced : List ℕ
  referenced = flat_map nodes_in (fields_in (get j.state.objects x))

  whole : new ≡ referenced ++ secondaries a x
  whole =
      listed
      ∙ ap (λ xs. xs ++ secondaries a x) (fields ∙ ap (λ (xs : List ℕ). xs ++ referenced) none)

  leads_from : (y : ℕ) → Contains new y → leads_in j.state x y
  leads_from y has =
      edge_from j.state a node.listed (id_of x) (id_of y)
      (⊎_elim (λ f. inl (field_from (fields_in (get j.state.objects x)) y f)) (λ c. inr c)
      (Contains-append_cases referenced (secondaries a x) y (subst (λ xs. Contains xs y) whole has)))

  pub targets_are : AreTargets (IsNode j a) (leads_in j.state x) in_any_order new
  targets_are = record {
    nodes = λ y has. record {
      object = edge_object 0 (scene_of j.state) (whole_scene j.numbers j.state node.formed) (id_of x) (id_of y)
          (leads_from y has);
      formed = node.formed;
      listed = node.listed;
    };
    only = leads_from;
    all = λ y e.
        subst (λ xs. Contains xs y) (sym whole)
        (⊎_elim
        (λ f. Contains-append_left referenced (secondaries a x) y
        (field_in (fields_in (get j.state.objects x)) y f))
        (λ c. Contains-append_right referenced (secondaries a x) y c)
        (edge_to j.state a node.listed (id_of x) (id_of y) e));
    ordered = λ i k d l h. tt;
  }

-- an anchor is found at itself
no_edges : {E : Id → Id → Type 0} {x y : Id} → LeadsIn E 0 x y → y.0 ≤ x.0
no_edges LeadsIn.start = omega arith

pub anchor_first : (E : Id → Id → Type 0) (Anchor : Id → Type 0) (goal : Id) → Anchor goal
    → IsShortest E Anchor (λ (x : Id). x.0) goal goal 0
anchor_first E Anchor goal a = record {
  anchor = a;
  chain = LeadsIn.start;
  shortest = λ other k b c. omega arith;
  least = λ other b c. no_edges c;
}
