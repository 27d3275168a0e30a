-- The links of a source among all links in the order of their sources.
use Rattle.std.proofs.Common.{Contains, List, None, ap, arith, drop, false, get_or, length, subst, sym, take, ℕ, ⊎_elim, ◌++◌, ◌+◌, ◌-◌, ◌<◌, ◌∙◌, ◌≡◌, ◌≤◌}
use Rattle.std.specs.Prelude.{slice_range}
use Rattle.std.proofs.lemmas.Bool.{cases_lt}
use Rattle.std.proofs.lemmas.List.{get_or-drop, get_or-take, length-drop, length-take-le, take-append-drop}
use Rattle.std.proofs.lemmas.List.Elements.{Contains-append_left, Contains-append_right}
use Rattle.std.proofs.lemmas.List.Folds.{drop_split}
use Rattle.hd_model.specs.declared.data.Id.{Id}
use Rattle.hd_model.specs.declared.data.Kind.TheVariants as kind
use Rattle.hd_links.specs.{Inside.IsCut, Sources.IsPartFrom, Sources.number_of, Sources.source_number}
use Rattle.hd_links.specs.declared.links.Link.{Link}

no_link : Link
no_link = record {
  slot = record { 0 = 0 };
  kind = kind.Dependent;
  is_entry = false;
  held = None;
  source = None;
  attached = None;
}

-- what is between two cuts
module _ (links : List Link) (x : Id) (low high : ℕ) (from : IsCut links x.0 low)
    (to : IsCut links (x.0 + 1) high) where
  pub in_order : low ≤ high
  in_order =
      ⊎_elim
      (λ less.
      let over = to.high high no_link (omega arith) (omega (arith, less, from.within)) in
      let under = from.low high no_link less in
      absurd (omega (arith, over, under)))
      (λ ge. ge) (cases_lt high low)

  abbrev part : List Link
  part = slice_range links low high

  whole : take low links ++ (part ++ drop high links) ≡ links
  whole = ap (λ (l : List Link). take low links ++ l) (sym (drop_split links low high in_order))
      ∙ take-append-drop low links

  there : (l : Link) (k : ℕ) → k < length links → get_or links k l ≡ l → low ≤ k → k < high → Contains part l
  there l k within at above below =
      let same : low + (k - low) ≡ k = omega (arith, above) in
      let size : length part ≡ high - low =
      length-take-le (high - low) (drop low links) (omega (arith, length-drop low links, to.within)) in (
        k - low,
        omega (arith, size, above, below),
        get_or-take (high - low) (drop low links) (k - low) l (omega (arith, above, below))
            ∙ get_or-drop low links (k - low) l ∙ ap (λ i. get_or links i l) same ∙ at,
      )

  pub part_from : IsPartFrom links x part
  part_from = record {
    among = λ l has.
        subst (λ (ls : List Link). Contains ls l) whole
        (Contains-append_right (take low links) (part ++ drop high links) l
        (Contains-append_left part (drop high links) l has));
    all = λ l has is.
        let number : source_number (get_or links has.0 l) ≡ x.0 =
        ap source_number has.2 ∙ ap number_of is in
        there l has.0 has.1 has.2
        (⊎_elim (λ less. let under = from.low has.0 l less in absurd (omega (arith, under, number)))
        (λ ge. ge) (cases_lt has.0 low))
        (⊎_elim (λ less. less)
        (λ ge. let over = to.high has.0 l ge has.1 in absurd (omega (arith, over, number)))
        (cases_lt has.0 high));
  }
