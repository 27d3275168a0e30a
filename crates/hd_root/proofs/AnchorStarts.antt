-- The anchors in the order of their identities.
use Rattle.std.proofs.Common.{◌≡◌, ℕ, ◌<◌, ◌≤◌, true, List, [], length, get_or, map, None, refl, sym, ap, ◌∙◌, subst, arith, AllPairs, Contains}
use Rattle.std.specs.List.Sorted.{IsPermutation, IsNonDecreasingBy}
use Rattle.std.specs.Prelude.{slice_get}
use Rattle.std.proofs.lemmas.List.{get_or-map, length-map}
use Rattle.std.proofs.lemmas.List.Elements.{Contains-get_or}
use Rattle.std.proofs.lemmas.List.Sorted.{Contains-permutation, IsPermutation-sym}
use Rattle.hd_model.specs.declared.data.Addr.{Addr}
use Rattle.hd_model.specs.Heap.{Heap, has_object}
use Rattle.hd_model.proofs.Members.{mapped_in, mapped_from}
use Rattle.hd_root.specs.declared.anchors.Anchor.{Anchor}
use Rattle.hd_root.specs.Inside.{AreObjects, AreStarts, anchor_of, id_of, node_of}
use Rattle.hd_root.specs.Search.{address, number}
use Rattle.hd_walk.specs.declared.trail.Found.{Found}
use Rattle.hd_walk.specs.Trail.{with_all}
use Rattle.hd_walk.proofs.Slices.{at_member}
use Rattle.hd_walk.proofs.TrailAdds.{added_to}

module _ (h : Heap) (anchors : List Addr) (listed : List Anchor) (starts : List ℕ)
    (same : IsPermutation (map (anchor_of h) anchors) listed) (rising : IsNonDecreasingBy id_of listed)
    (are : starts ≡ map node_of listed) where
  listed_is : (z : Anchor) → Contains listed z → (a : Addr) × Contains anchors a × (anchor_of h a ≡ z)
  listed_is z has =
      let (a, rest) =
      mapped_from (anchor_of h) anchors z
      (Contains-permutation listed (map (anchor_of h) anchors) z (IsPermutation-sym _ _ same) has) in
      (a, rest.0, rest.1)

  rank_is : (z : Anchor) → Contains listed z → number h (address (node_of z)) ≡ z.id
  rank_is z has =
      let (a, among, is) = listed_is z has in
      subst (λ (w : Anchor). number h (address (node_of w)) ≡ w.id) is refl

  node_is : (x : ℕ) → Contains starts x → Contains anchors (address x)
  node_is x has =
      let (z, rest) = mapped_from node_of listed x (subst (λ xs. Contains xs x) are has) in
      let (a, among, is) = listed_is z rest.0 in
      let e : a.0 ≡ x = ap node_of is ∙ rest.1 in
      subst (λ n. Contains anchors (address n)) e among

  abbrev no_anchor : Anchor
  no_anchor = record { id = 0; at = address 0 }

  in_order : AllPairs (λ (x y : ℕ). number h (address x) ≤ number h (address y)) (map node_of listed)
  in_order i j d lt l =
      let long = length-map listed node_of in
      let low : i < length listed = omega arith in
      let high : j < length listed = omega arith in
      let up = rising i j no_anchor (omega arith) high in
      let at_i = ap (λ n. number h (address n)) (get_or-map node_of listed i no_anchor d low) in
      let at_j = ap (λ n. number h (address n)) (get_or-map node_of listed j no_anchor d high) in
      let rank_i = rank_is (get_or listed i no_anchor) (Contains-get_or listed i no_anchor low) in
      let rank_j = rank_is (get_or listed j no_anchor) (Contains-get_or listed j no_anchor high) in
      omega arith

  pub starts_are : AreStarts h anchors starts
  starts_are = record {
    only = node_is;
    all = λ x has.
        subst (λ xs. Contains xs x) (sym are)
        (mapped_in node_of listed (anchor_of h (address x))
        (Contains-permutation (map (anchor_of h) anchors) listed (anchor_of h (address x)) same
        (mapped_in (anchor_of h) anchors (address x) has)));
    rising = subst (λ xs. AllPairs (λ (x y : ℕ). number h (address x) ≤ number h (address y)) xs) (sym are)
        in_order;
  }

-- they are objects
pub start_objects : {h : Heap} {anchors : List Addr} {starts : List ℕ}
    → ((a : Addr) → Contains anchors a → has_object h a ≡ true) → AreStarts h anchors starts
    → {found : List Found} → found ≡ with_all [] starts None → AreObjects h found
start_objects {h = h} objects s is i x at =
    let v = added_to (λ x y. number h (address x) ≤ number h (address y)) None is s.rising in
    objects (address x.at)
    (s.only x.at (v.only x (at_member v.added i x (ap (λ xs. slice_get xs i) (sym v.extends) ∙ at))).1)
