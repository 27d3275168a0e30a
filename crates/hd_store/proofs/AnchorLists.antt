-- What a search of a store begins at are the anchors of its state, and what it finds is what `gcroot`
-- returns.
use Rattle.hd_store.proofs.StoreWords.{◌≡◌, ℕ, ◌++◌, List, [], ◌∷◌, inl, inr, ⊎_elim, true, map, Contains, Option, Some, None, option_map, option_to_list, sym, ap, ◌∙◌, subst, refl, Addr, Id, Reply, Parts, IsStored, state_of, scene_of_parts, callers_of, scene_of, id_at, has_object, row_at, Table, role, holds, short, long, attaches, Role, drop, take, take-append-drop, entries, object_at, Machine, machine_of, name_in, ◌*◌, ◌-◌, arith, length, same_Some, placed_at, id_in, MatchOption}
use Rattle.std.specs.Prelude.{flat_map, slice_get}
use Rattle.hd_root.specs.Chain.{IsPath, IsLeastChain}
use Rattle.hd_store.proofs.HeapCallReadings.{placed_is}
use Rattle.std.proofs.lemmas.List.Elements.{Contains-append_left, Contains-append_right, Contains-append_cases}
use Rattle.hd_model.specs.declared.data.Reply.TheVariants as reply
use Rattle.hd_model.specs.Reach.{IsHeld, IsEdge}
use Rattle.hd_model.specs.RootText.{held_by, held_of, root_in}
use Rattle.hd_model.specs.Scene.{Scene}
use Rattle.hd_model.specs.Anchors.{IsAnchor, in_static, in_queue, by_handle, IsShortest, IsUnrooted, ReturnsRoot}
use Rattle.hd_model.proofs.Members.{not_in_none, member_cases, first_in, later_in, mapped_in, mapped_from}
use Rattle.hd_model.proofs.MapEntries.{get_entry, entry_of}
use Rattle.hd_model.proofs.AnchorChains.{shortest_like}
use Rattle.hd_model.proofs.AnchorReadings.{shortest_read, unrooted_read}
use Rattle.hd_scan.specs.declared.gathering.Root.{Root}
use Rattle.hd_scan.specs.Gathering.{root_by, roots_of}
use Rattle.hd_store.specs.Inside.{address_of, anchor_list}
use Rattle.hd_store.proofs.SceneReading.{parts-read, scene-read, scene_by_id}
use Rattle.hd_store.proofs.RegisterRoots.{rest-drop}
use Rattle.hd_store.proofs.IdentityReadings.{no_some, name-is}
use Rattle.hd_model.proofs.SceneCollection.{mapped_value}
use Rattle.std.proofs.lemmas.List.{drop-map}
use Rattle.hd_model.specs.declared.limits.TheConstants.{REGISTERS}

-- ---- members

module _ {A B : Type 0} (f : A → List B) where
  flat_in : (xs : List A) (x : A) (y : B) → Contains xs x → Contains (f x) y → Contains (flat_map f xs) y
  flat_in [] x y h k = absurd (not_in_none x h)
  flat_in (z ∷ xs) x y h k =
      ⊎_elim
      (λ same. Contains-append_left (f z) (flat_map f xs) y (subst (λ u. Contains (f u) y) (sym same) k))
      (λ later. Contains-append_right (f z) (flat_map f xs) y (flat_in xs x y later k))
      (member_cases z xs x h)

  flat_from : (xs : List A) (y : B) → Contains (flat_map f xs) y
      → (x : A) × (Contains xs x × Contains (f x) y)
  flat_from [] y h = absurd (not_in_none y h)
  flat_from (z ∷ xs) y h =
      ⊎_elim
      (λ here. (z, (first_in z xs, here)))
      (λ there. let (x, rest) = flat_from xs y there in (x, (later_in z xs x rest.0, rest.1)))
      (Contains-append_cases (f z) (flat_map f xs) y h)

listed_in : {A : Type 0} (o : Option A) (x : A) → o ≡ Some x → Contains (option_to_list o) x
listed_in {A} o x is = subst (λ (p : Option A). Contains (option_to_list p) x) (sym is) (first_in x [])

listed_from : {A : Type 0} (o : Option A) (x : A) → Contains (option_to_list o) x → o ≡ Some x
listed_from None x h = absurd (not_in_none x h)
listed_from (Some y) x h =
    ⊎_elim (λ same. ap Some same) (λ later. absurd (not_in_none x later)) (member_cases y [] x h)

-- ---- what handles hold

held-target : (r : Role) (o : Option Addr) (x : Addr) → held_by r o ≡ Some x → (r ≡ holds) × (o ≡ Some x)
held-target holds o x is = (refl, is)
held-target short o x is = absurd (no_some x (sym is))
held-target long o x is = absurd (no_some x (sym is))
held-target attaches o x is = absurd (no_some x (sym is))

module _ (t : Table) where
  held_listed : (x : Addr) → IsHeld (row_at t) x → Contains (map address_of (roots_of t)) x
  held_listed x h =
      let make = root_by (record { 0 = h.slot }) h.handle.kind in
      let is : held_of h.handle ≡ Some x = ap (λ r. held_by r h.handle.target) h.holds ∙ h.target in
      mapped_in address_of (roots_of t) (make x)
      (flat_in (root_in root_by) (entries t.rows) (h.slot, h.handle) (make x)
      (entry_of t.rows h.slot h.handle h.is_stored)
      (listed_in (option_map make (held_of h.handle)) (make x) (ap (option_map make) is)))

  listed_held : (x : Addr) → Contains (map address_of (roots_of t)) x → IsHeld (row_at t) x
  listed_held x h =
      let (root, found) = mapped_from address_of (roots_of t) x h in
      let (e, inside) = flat_from (root_in root_by) (entries t.rows) root found.0 in
      let make = root_by (record { 0 = e.0 }) e.1.kind in
      let (y, is) = mapped_value make (held_of e.1) root
      (listed_from (option_map make (held_of e.1)) root inside.1) in
      let target = held-target (role e.1) e.1.target y is.0 in
      record {
        slot = e.0;
        handle = e.1;
        is_stored = get_entry t.rows e.0 e.1 inside.0;
        holds = target.0;
        target = target.1 ∙ ap Some (ap address_of is.1 ∙ found.1);
      }

path_first : {E : Addr → Addr → Type 0} {x z : Addr} {path : List Addr} → IsPath E x path z
    → slice_get path 0 ≡ Some x
path_first IsPath.one = refl
path_first (IsPath.more e rest) = refl

-- ---- the list of a store

module _ (f : Parts) (stored : IsStored f) where
  abbrev pub statics_in : List (Option Addr)
  statics_in = drop (REGISTERS * callers_of f) f.roots

  abbrev pub listed : List Addr
  listed = anchor_list statics_in f.queue.queued (roots_of f.table)

  -- what is made of the parts one after the other is that list
  pub listed-is : {statics roots : List (Option Addr)} {held : List Root} {made list : List Addr}
      → (n : ℕ) → list ≡ made → made ≡ anchor_list statics f.queue.queued held
      → statics ≡ drop (REGISTERS * n) roots
      → roots ≡ f.roots → n ≡ callers_of f → held ≡ roots_of f.table → list ≡ listed
  listed-is n is of cut whole callers of_table =
      is ∙ of ∙ (λ k. anchor_list ((cut ∙ (λ j. drop (REGISTERS * callers j) (whole j))) k) f.queue.queued
      (of_table k))

  abbrev AnchorAt : Addr → Type 0
  AnchorAt = IsAnchor statics_in (scene_of_parts f)

  abbrev statics_listed : List Addr
  statics_listed = flat_map option_to_list statics_in

  anchor_listed : (x : Addr) → AnchorAt x → Contains listed x
  anchor_listed x (in_static h) =
      Contains-append_left (statics_listed ++ f.queue.queued) (map address_of (roots_of f.table)) x
      (Contains-append_left statics_listed f.queue.queued x
      (flat_in option_to_list statics_in (Some x) x h (listed_in (Some x) x refl)))
  anchor_listed x (in_queue h) =
      Contains-append_left (statics_listed ++ f.queue.queued) (map address_of (roots_of f.table)) x
      (Contains-append_right statics_listed f.queue.queued x h)
  anchor_listed x (by_handle h) =
      Contains-append_right (statics_listed ++ f.queue.queued) (map address_of (roots_of f.table)) x
      (held_listed f.table x h)

  static_anchor : (x : Addr) → Contains statics_listed x → AnchorAt x
  static_anchor x h =
      let (o, rest) = flat_from option_to_list statics_in x h in
      in_static (subst (Contains statics_in) (listed_from o x rest.1) rest.0)

  listed_anchor : (x : Addr) → Contains listed x → AnchorAt x
  listed_anchor x h =
      ⊎_elim
      (λ named. ⊎_elim (static_anchor x) in_queue
      (Contains-append_cases statics_listed f.queue.queued x named))
      (λ held. by_handle (listed_held f.table x held))
      (Contains-append_cases (statics_listed ++ f.queue.queued) (map address_of (roots_of f.table)) x h)

  static_object : (x : Addr) → Contains statics_in (Some x) → has_object f.heap x ≡ true
  static_object x h =
      stored.whole.named x
      (subst (λ os. Contains os (Some x)) (take-append-drop (REGISTERS * callers_of f) f.roots)
      (Contains-append_right (take (REGISTERS * callers_of f) f.roots) statics_in (Some x) h))

  anchor_object : (x : Addr) → AnchorAt x → has_object f.heap x ≡ true
  anchor_object x (in_static h) = static_object x h
  anchor_object x (in_queue h) = stored.whole.queue x h
  anchor_object x (by_handle h) = stored.whole.targets h.slot h.handle x h.is_stored h.target

  pub listed_object : (x : Addr) → Contains listed x → has_object f.heap x ≡ true
  listed_object x h = anchor_object x (listed_anchor x h)

  statics_read : map (option_map (id_at f.heap)) statics_in ≡ (state_of f).statics
  statics_read =
      sym (drop-map (option_map (id_at f.heap)) (REGISTERS * callers_of f) f.roots)
      ∙ sym (rest-drop (callers_of f) (map (option_map (id_at f.heap)) f.roots))

  -- ---- by identity

  abbrev EdgeAt : Addr → Addr → Type 0
  EdgeAt = IsEdge (object_at f.heap) (row_at f.table)

  -- what a search from a list of anchors says
  abbrev pub FoundChain : Addr → List Addr → Option (List Addr) → Type 0
  FoundChain goal anchors found = MatchOption found (IsUnrooted EdgeAt (Contains anchors) goal)
      (IsLeastChain EdgeAt (Contains anchors) (λ x. (id_at f.heap x).0) goal)

  abbrev Shortest : Scene Id → List (Option Id) → Id → Id → ℕ → Type 0
  Shortest s statics =
      IsShortest (IsEdge s.object s.handle) (IsAnchor statics s) (λ (x : Id). x.0)

  shortest_by_id : (goal from : Addr) (edges : ℕ) → has_object f.heap goal ≡ true
      → IsShortest EdgeAt (Contains listed) (λ x. (id_at f.heap x).0) goal from edges
      → Shortest (scene_of (state_of f)) (state_of f).statics (id_at f.heap goal) (id_at f.heap from) edges
  shortest_by_id goal from edges there c =
      subst (λ s. Shortest s (state_of f).statics (id_at f.heap goal) (id_at f.heap from) edges)
      (scene-read f stored)
      (subst
      (λ xs. Shortest (scene_by_id f stored.identities) xs (id_at f.heap goal) (id_at f.heap from) edges)
      statics_read
      (shortest_read (id_at f.heap) (scene_of_parts f) (scene_by_id f stored.identities) stored.whole
      (parts-read f stored.identities) statics_in static_object (λ (x : Id). x.0) there
      (listed_object from c.anchor) (shortest_like listed_anchor anchor_listed c)))

  abbrev Unrooted : Scene Id → List (Option Id) → Id → Type 0
  Unrooted s statics = IsUnrooted (IsEdge s.object s.handle) (IsAnchor statics s)

  unrooted_by_id : (goal : Addr) → has_object f.heap goal ≡ true → IsUnrooted EdgeAt (Contains listed) goal
      → Unrooted (scene_of (state_of f)) (state_of f).statics (id_at f.heap goal)
  unrooted_by_id goal there none =
      subst (λ s. Unrooted s (state_of f).statics (id_at f.heap goal)) (scene-read f stored)
      (subst (λ xs. Unrooted (scene_by_id f stored.identities) xs (id_at f.heap goal)) statics_read
      (unrooted_read (id_at f.heap) (scene_of_parts f) (scene_by_id f stored.identities) stored.whole
      (parts-read f stored.identities) statics_in static_object there
      (λ from a. none from (anchor_listed from a))))

  module _ (goal : Addr) (anchors : List Addr) (same : anchors ≡ listed) (chain : List Addr)
      (least : FoundChain goal anchors (Some chain)) (x : Addr) (first : slice_get chain 0 ≡ Some x) where
    begins_at : least.from ≡ x
    begins_at = same_Some least.from x (sym (path_first least.path) ∙ first)

    pub found-object : has_object f.heap x ≡ true
    found-object =
        listed_object x (subst (λ xs. Contains xs x) same
        (subst (Contains anchors) begins_at least.shortest.anchor))

  -- ---- in the words of the machine

  module _ (m : Machine) (view : machine_of f ≡ m) (goal : Addr) (there : has_object f.heap goal ≡ true) where
    returned : (r : Reply) → ReturnsRoot (state_of f) (id_at f.heap goal) r
        → ReturnsRoot m.state (name_in m.names goal) r
    returned r is_root =
        subst (λ (n : Machine). ReturnsRoot n.state (name_in n.names goal) r) view
        (subst (λ x. ReturnsRoot (state_of f) x r) (sym (name-is f.heap goal)) is_root)

    pub returns-chain : (from : Addr) (edges : ℕ)
        → IsShortest EdgeAt (Contains listed) (λ x. (id_at f.heap x).0) goal from edges
        → ReturnsRoot m.state (name_in m.names goal) (reply.Chain (id_at f.heap from) edges)
    returns-chain from edges c =
        returned (reply.Chain (id_at f.heap from) edges) (inl (record {
          from = id_at f.heap from;
          edges = edges;
          shortest = shortest_by_id goal from edges there c;
          reply_is = refl;
        }))

    pub returns-unrooted : IsUnrooted EdgeAt (Contains listed) goal
        → ReturnsRoot m.state (name_in m.names goal) reply.Unrooted
    returns-unrooted none = returned reply.Unrooted (inr (unrooted_by_id goal there none, refl))

    pub returns-found : (anchors : List Addr) → anchors ≡ listed → (chain : List Addr)
        → FoundChain goal anchors (Some chain) → (x : Addr) → slice_get chain 0 ≡ Some x → (id : Id)
        → id ≡ (placed_at f.heap x).id → (n : ℕ) → n ≡ length chain
        → ReturnsRoot m.state (name_in m.names goal) (reply.Chain id (n - 1))
    returns-found anchors same chain least x first id named n sized =
        let shortest = subst (λ xs. IsShortest EdgeAt (Contains xs) (λ a. (id_at f.heap a).0) goal least.from
        least.edges) same least.shortest in
        let edges : least.edges ≡ n - 1 = omega (arith, sized, least.size) in
        let at = begins_at goal anchors same chain least x first in
        let named_by : id_at f.heap least.from ≡ id =
        ap (id_at f.heap) at
        ∙ ap id_in (placed_is f.heap x (found-object goal anchors same chain least x first)) ∙ sym named in
        subst (λ k. ReturnsRoot m.state (name_in m.names goal) (reply.Chain id k)) edges
        (subst (λ i. ReturnsRoot m.state (name_in m.names goal) (reply.Chain i least.edges)) named_by
        (returns-chain least.from least.edges shortest))
