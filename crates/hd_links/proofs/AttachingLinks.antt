-- The links that have a source, in the order of their sources.
use Rattle.std.proofs.Common.{Bool, Contains, List, Some, [], ap, cond, false, is_some, refl, subst, sym, true, ℕ, ⊎_elim, ◌∷◌, ◌≡◌}
use Rattle.std.specs.List.Sorted.{IsNonDecreasingBy, IsPermutation}
use Rattle.std.specs.Prelude.{flat_map}
use Rattle.std.proofs.lemmas.List.Sorted.{Contains-permutation, IsPermutation-sym}
use Rattle.hd_model.proofs.Members.{first_in, member_cases, not_in_none}
use Rattle.hd_model.specs.declared.data.Id.{Id}
use Rattle.hd_links.specs.{Sources.AreAttaching, Sources.source_number, Inside.attaching_link}
use Rattle.hd_links.specs.declared.links.Link.{Link}
use Rattle.hd_links.proofs.Members.{flat_from, flat_in}

link_is : (k l : Link) → Contains (attaching_link k) l → k ≡ l
link_is k l has = by (is_some k.source) has
  where
    by : (t : Bool) → Contains (cond t (k ∷ []) []) l → k ≡ l
    by true has = ⊎_elim (λ same. same) (λ later. absurd (not_in_none l later)) (member_cases k [] l has)
    by false has = absurd (not_in_none l has)

link_in : (l : Link) (x : Id) → l.source ≡ Some x → Contains (attaching_link l) l
link_in l x is = subst (λ t. Contains (cond t (l ∷ []) []) l) (sym (ap is_some is)) (first_in l [])

pub are_attaching : (links sorted : List Link) → IsPermutation (flat_map attaching_link links) sorted
    → IsNonDecreasingBy source_number sorted → AreAttaching links sorted
are_attaching links sorted moved rising =
    let listed = flat_map attaching_link links in record {
      among = λ l has.
          let from = flat_from attaching_link links l
          (Contains-permutation sorted listed l (IsPermutation-sym listed sorted moved) has) in
          subst (λ k. Contains links k) (link_is from.0 l from.2) from.1;
      all = λ l x has is.
          Contains-permutation listed sorted l moved
          (flat_in attaching_link links l l has (link_in l x is));
      rising = rising;
    }
