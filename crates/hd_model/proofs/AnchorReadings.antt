-- A shortest chain by address is one by identity.
use Rattle.hd_model.proofs.Basics.{◌≡◌, ℕ, ◌≤◌, true, List, map, Option, Some, option_map, sym, subst, Contains}
use Rattle.hd_model.specs.Scene.{Scene, is_object, IsWhole, IsReading}
use Rattle.hd_model.specs.Reach.{IsEdge}
use Rattle.hd_model.specs.Anchors.{LeadsIn, IsShortest, IsUnrooted, IsAnchor}
use Rattle.hd_model.proofs.AnchorChains.{some_edges, leads}
use Rattle.hd_model.proofs.EdgeChains.{edges_turn, edges_lift}
use Rattle.hd_model.proofs.SceneCollection.{edge_object}
use Rattle.hd_model.proofs.RenamedReach.{anchor_read, anchor_unread, edge_read, edge_unread}

module _ {N M : Type 0} (f : N → M) (s : Scene N) (t : Scene M) (w : IsWhole s) (g : IsReading f s t) where
  abbrev Object : N → Type 0
  Object x = is_object s.object x ≡ true

  abbrev Edge : N → N → Type 0
  Edge = IsEdge s.object s.handle

  abbrev Image : M → M → Type 0
  Image = IsEdge t.object t.handle

  -- a chain from an object leads to an object, and is one of as many edges under the other names
  pub chain_read : {k : ℕ} {x y : N} → Object x → LeadsIn Edge k x y → Object y × LeadsIn Image k (f x) (f y)
  chain_read h chain =
      edges_turn Edge Image f Object (λ x y k e. edge_object 0 s w x y e) (edge_read f 0 s t w g) h chain

  -- and so is one under the other names between objects
  pub chain_unread : {k : ℕ} {x y : N} → Object x → Object y → LeadsIn Image k (f x) (f y)
      → LeadsIn Edge k x y
  chain_unread {k = k} {x = x} {y = y} h there chain =
      let (z, rest) = edges_lift Edge Image f Object (edge_unread f 0 s t w g) x h (λ i. f x) chain in
      subst (λ v. LeadsIn Edge k x v) (g.apart z y rest.0 there rest.1.1) rest.1.0

  module _ (xs : List (Option N)) (objects : (x : N) → Contains xs (Some x) → Object x) where
    abbrev Anchor : N → Type 0
    Anchor = IsAnchor xs s

    abbrev ImageAnchor : M → Type 0
    ImageAnchor = IsAnchor (map (option_map f) xs) t

    -- an anchor under the other names from which a chain leads to an object
    anchor_from : {k : ℕ} {goal : N} (b : M) → Object goal → ImageAnchor b → LeadsIn Image k b (f goal)
        → (x : N) × (Anchor x × LeadsIn Edge k x goal × (f x ≡ b))
    anchor_from {k = k} {goal = goal} b there a chain =
        let (x, rest) = anchor_unread f 0 s t w g xs objects b a in (
          x,
          (
            rest.1.0,
            chain_unread rest.0 there
                (subst (λ m. LeadsIn Image k m (f goal)) (sym rest.1.1) chain),
            rest.1.1,
          ),
        )

    pub shortest_read : (rank : M → ℕ) {goal from : N} {k : ℕ} → Object goal → Object from
        → IsShortest Edge Anchor (λ x. rank (f x)) goal from k
        → IsShortest Image ImageAnchor rank (f goal) (f from) k
    shortest_read rank {from = from} there at c = record {
      anchor = anchor_read f 0 s t w g xs from c.anchor;
      chain = (chain_read at c.chain).1;
      shortest = λ b j a chain. let (x, rest) = anchor_from b there a chain in c.shortest x j rest.0 rest.1;
      least = λ b a chain. let (x, rest) = anchor_from b there a chain in
          subst (λ m. rank (f from) ≤ rank m) rest.2 (c.least x rest.0 rest.1);
    }

    pub unrooted_read : {goal : N} → Object goal → IsUnrooted Edge Anchor goal
        → IsUnrooted Image ImageAnchor (f goal)
    unrooted_read there none b a chain =
        let (x, rest) = anchor_from b there a (some_edges chain).1 in none x rest.0 (leads rest.1)
