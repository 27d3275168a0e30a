-- The text of an object, as that of the state.
use Rattle.std.proofs.Common.{Bool, Contains, IsSome, List, None, Option, Some, ap, false, is_some, length, nat_le, refl, slice_index, subst, sym, true, ℕ, ◌++◌, ◌/◌, ◌%◌, ◌^◌, ◌∙◌, ◌≡◌, ◌≤◌}
use Rattle.std.specs.FinMap.{get}
use Rattle.std.specs.Prelude.{codes, decimal}
use Rattle.std.proofs.lemmas.Bool.{and_from, and_parts, false≢true, le-leb, leb-true}
use Rattle.std.proofs.lemmas.List.Sorted.{Contains-permutation, IsPermutation-sym}
use Rattle.hd_model.specs.declared.data.Id.{Id}
use Rattle.hd_model.specs.State.{State, last_serial}
use Rattle.hd_seen.specs.Seen.{Picture, view_seen}
use Rattle.hd_seen.specs.declared.Snapshot.{Snapshot}
use Rattle.hd_links.specs.Graph.{anchors_of, leads_in, named, object_at}
use Rattle.hd_links.specs.Shown.{IsPictureOf}
use Rattle.hd_links.proofs.StateEdges.{anchor_from, anchor_seen, edge_graph, graph_edge, object_none, object_some}
use Rattle.hd_path.specs.Chains.{HasNoChain, IsLeastChain}
use Rattle.hd_path.specs.Lines.{anchor_line, path_line}
use Rattle.hd_path.specs.{Paths.BeginsAt, Paths.IsEdgeLine, Paths.IsPathText, Paths.LeadsBy, Paths.chain, Paths.gone, Paths.unknown, Paths.unrooted, Inside.WritesPath}
use Rattle.hd_path.specs.Inside.{IsSearchOf, IsStepLine, WritesChain, made_in, missing_word}
use Rattle.hd_path.specs.declared.chains.Chain.{Chain}
use Rattle.hd_path.specs.declared.chains.Search.{Search}
use Rattle.hd_path.proofs.ChainEdges.{least_as, lines_as, none_as}
use Rattle.hd_path.proofs.StateNames.{anchor_name, step_line}

module _ (seen : Snapshot) (search : Search) (is : IsSearchOf seen search) (s : State)
    (p : IsPictureOf (view_seen seen) s) where
  abbrev L : ℕ → ℕ → Type 0
  L = leads_in search.graph

  abbrev S : ℕ → Type 0
  S = Contains search.starts.items

  start : (x : ℕ) → S x → BeginsAt s x
  start x has =
      anchor_from seen s p x
      (Contains-permutation search.starts.items (anchors_of seen) x
      (IsPermutation-sym (anchors_of seen) search.starts.items is.starts) has)

  begin : (x : ℕ) → BeginsAt s x → S x
  begin x anchor =
      Contains-permutation (anchors_of seen) search.starts.items x is.starts (anchor_seen seen s p x anchor)

  to : (x y : ℕ) → L x y → LeadsBy s x y
  to = graph_edge seen s p is.graph

  back : (x y : ℕ) → LeadsBy s x y → L x y
  back = edge_graph seen s p is.graph

  -- ---- an object that is there
  module _ (id : Id) (some : is_some (object_at search.graph id.0) ≡ true) where
    pub is_unrooted : HasNoChain L S id.0 → (old now : List ℕ)
        → now ≡ old ++ path_line id (codes "unrooted") → WritesPath s id old now
    is_unrooted none old now writes = (
      path_line id (codes "unrooted"),
      writes,
      unrooted (object_some seen s p is.graph id.0 some)
          (none_as L (LeadsBy s) to back S (BeginsAt s) start begin id.0 none),
    )

    pub is_chain : (c : Chain) → IsLeastChain L S id.0 c.first c.rest.items → (old now : List ℕ)
        → WritesChain seen search.graph id c old now → WritesPath s id old now
    is_chain c least old now writes =
        let up = least_as L (LeadsBy s) to back S (BeginsAt s) start begin id.0 c.first c.rest.items least in (
          path_line id (codes "edges " ++ decimal (length c.rest.items))
              ++ anchor_line writes.name (named c.first) ++ writes.lines,
          writes.writes,
          chain up (anchor_name seen s p is.graph (named c.first) writes.name writes.is_name up.chain.start)
              (lines_as L (IsStepLine search.graph) (IsEdgeLine s) id.0 c.first c.rest.items writes.lines
              writes.are_lines least.chain.walk
              (λ i j line leads step. step_line seen s p is.graph i j line (to i j leads) step)),
        )

  -- ---- an identity without an object
  module _ (id : Id) (none : is_some (object_at search.graph id.0) ≡ false) where
    serials_are : seen.serials.items ≡ s.serials
    serials_are = ap (λ (q : Picture). q.serials) p.shows

    serial_is : slice_index seen.serials.items (id.0 / 2 ^ 32) ≡ last_serial s (id.0 / 2 ^ 32)
    serial_is = ap (λ (l : List ℕ). slice_index l (id.0 / 2 ^ 32)) serials_are

    by_word : (t : Bool) → made_in seen.serials.items id ≡ t → IsPathText s id (path_line id (missing_word t))
    by_word true made =
        let parts = and_parts (nat_le 1 (id.0 % 2 ^ 32))
        (nat_le (id.0 % 2 ^ 32) (slice_index seen.serials.items (id.0 / 2 ^ 32))) made in
        gone (object_none seen s p is.graph id.0 none) (record {
          serial = leb-true 1 (id.0 % 2 ^ 32) parts.0;
          made = subst (λ n. id.0 % 2 ^ 32 ≤ n) serial_is
              (leb-true (id.0 % 2 ^ 32) (slice_index seen.serials.items (id.0 / 2 ^ 32)) parts.1);
        })
    by_word false not =
        unknown (λ made. false≢true (sym not
        ∙ and_from (nat_le 1 (id.0 % 2 ^ 32))
        (nat_le (id.0 % 2 ^ 32) (slice_index seen.serials.items (id.0 / 2 ^ 32)))
        (le-leb 1 (id.0 % 2 ^ 32) made.serial)
        (le-leb (id.0 % 2 ^ 32) (slice_index seen.serials.items (id.0 / 2 ^ 32))
        (subst (λ n. id.0 % 2 ^ 32 ≤ n) (sym serial_is) made.made))))

    pub is_missing : (old now : List ℕ)
        → now ≡ old ++ path_line id (missing_word (made_in seen.serials.items id)) → WritesPath s id old now
    is_missing old now writes = (
      path_line id (missing_word (made_in seen.serials.items id)),
      writes,
      by_word (made_in seen.serials.items id) refl,
    )
