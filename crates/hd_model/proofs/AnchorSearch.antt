-- `gcroot` on an object always has a reply.
use Rattle.hd_model.proofs.Basics.{◌≡◌, ℕ, ◌≤◌, ◌&&◌, zero, suc, Bool, true, false, Some, refl, sym, ◌∙◌, ⊎_elim, inl, inr, Contains, Decides, list_any, cases_Bool, true≢false, zero-le, suc-le-suc, Contains-append_right}
use Rattle.hd_model.specs.Data.{Id, Reply}
use Rattle.hd_model.specs.declared.data.Reply.TheVariants as reply
use Rattle.hd_model.specs.State.{State}
use Rattle.hd_model.specs.Scene.{scene_of, joined, is_object, IsWhole}
use Rattle.hd_model.specs.Anchors.{LeadsIn, AnchorOf, EdgeOf, ReturnsRoot}
use Rattle.hd_model.proofs.AnchorChains.{some_edges, anchor_root}
use Rattle.hd_model.proofs.SceneCollection.{root_object, edge_object}
use Rattle.hd_model.proofs.Reachability.{decides_any, in_edges, decides_edges}
use Rattle.hd_model.proofs.ReachTests.{ids, in_ids, same_id, same_is, is_edge, edge_is, is_anchor, anchor_is, is_led, led_is}

-- the least number that passes a test
pub least_passing : (test : ℕ → Bool) (k : ℕ) → test k ≡ true
    → (m : ℕ) × ((test m ≡ true) × ((j : ℕ) → test j ≡ true → m ≤ j))
least_passing test zero h = (0, (h, λ j _. zero-le))
least_passing test (suc k) h = by (test 0) refl (least_passing (λ j. test (suc j)) k h)
  where
    by : (b : Bool) → test 0 ≡ b
        → (m : ℕ) × ((test (suc m) ≡ true) × ((j : ℕ) → test (suc j) ≡ true → m ≤ j))
        → (m : ℕ) × ((test m ≡ true) × ((j : ℕ) → test j ≡ true → m ≤ j))
    by true e rest = (0, (e, λ j _. zero-le))
    by false e rest = (suc rest.0, (rest.1.0, above))
      where
        above : (j : ℕ) → test j ≡ true → suc rest.0 ≤ j
        above zero p = absurd (true≢false (sym p ∙ e))
        above (suc j) p = suc-le-suc (rest.1.1 j p)

-- what a static references is named in the scene
pub anchor_named : (s : State) (x : Id) → Contains s.statics (Some x) → Contains (scene_of s).named (Some x)
anchor_named s x = Contains-append_right (joined s.registers) s.statics (Some x)

module _ (s : State) (w : IsWhole (scene_of s)) where
  pub anchor_object : (x : Id) → AnchorOf s x → is_object (scene_of s).object x ≡ true
  anchor_object x a =
      root_object 0 (scene_of s) w x (anchor_root 0 (anchor_named s) a)

  module _ (goal : Id) where
    -- whether an object is an anchor from which a chain of k edges leads to the goal; whether one is
    starts : ℕ → Id → Bool
    starts k x =
        is_anchor s s.statics x && in_edges (EdgeOf s) same_id (is_edge s) same_is (edge_is s) (ids s)
        (λ y. is_object (scene_of s).object y ≡ true) (in_ids s)
        (λ y z h e. edge_object 0 (scene_of s) w y z e) k x goal

    abbrev Starts : ℕ → Id → Type 0
    Starts k x = AnchorOf s x × LeadsIn (EdgeOf s) k x goal

    starts_is : (k : ℕ) (x : Id) → Decides (starts k x) (Starts k x)
    unfolding starts
    starts_is k x =
        decides_edges (EdgeOf s) same_id (is_edge s) same_is (edge_is s) (ids s)
        (λ y. is_object (scene_of s).object y ≡ true) (in_ids s)
        (λ y z h e. edge_object 0 (scene_of s) w y z e) (AnchorOf s) (is_anchor s s.statics)
        (anchor_is s s.statics) anchor_object k x goal

    some_starts : (k : ℕ)
        → Decides (list_any (starts k) (ids s)) ((x : Id) × (Contains (ids s) x × Starts k x))
    some_starts k = decides_any (Starts k) (starts k) (starts_is k) (ids s)

    starts_some : (k : ℕ) (x : Id) → Starts k x → list_any (starts k) (ids s) ≡ true
    starts_some k x h = (some_starts k).1 (x, (in_ids s x (anchor_object x h.0), h))

    returns_chain : (x : Id) (k : ℕ) → Starts k x → (r : Reply) × ReturnsRoot s goal r
    returns_chain x k h =
        let (m, short) = least_passing (λ j. list_any (starts j) (ids s)) k (starts_some k x h) in
        let (y, first) = (some_starts m).0 short.0 in
        let (i, low) = least_passing (λ j. starts m (record { 0 = j })) y.0 ((starts_is m y).1 first.1) in
        let from : Id = record { 0 = i } in
        let (anchor, chain) = (starts_is m from).0 low.0 in (
          reply.Chain from m,
          inl (record {
            from = from;
            edges = m;
            shortest = record {
              anchor = anchor;
              chain = chain;
              shortest = λ other j a c. short.1 j (starts_some j other (a, c));
              least = λ other a c. low.1 other.0 ((starts_is m other).1 (a, c));
            };
            reply_is = λ j. reply.Chain from m;
          }),
        )

    pub root_exists : (r : Reply) × ReturnsRoot s goal r
    root_exists =
        let led = led_is s 0 w (AnchorOf s) (is_anchor s s.statics) (anchor_is s s.statics) anchor_object
        goal in
        ⊎_elim
        (λ yes. let (x, rest) = led.0 yes in
        let (k, chain) = some_edges rest.1 in returns_chain x k (rest.0, chain))
        (λ no. (
          reply.Unrooted,
          inr (λ x a chain. true≢false (sym (led.1 (x, (a, chain))) ∙ no), λ i. reply.Unrooted),
        ))
        (cases_Bool (is_led s 0 (is_anchor s s.statics) goal))
