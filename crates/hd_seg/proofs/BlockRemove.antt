-- A block is taken from its kind: it goes from the chain, and the others keep their order.
use Rattle.hd_seg.proofs.Basics.{Block, Bool, Contains, IsBlocks, IsListed, Kind, List, ListsUnused, None, NumberSet, Some, Uses, [], ap, arith, block_at, cases_eq, cond, empty, eq-eqb, extras_at, false, few_kinds, filter, get, get_or, handles_of, has_handles, inl, inr, is_some, kind_at, kind_number, len, len-remove, length, length-set, mapped, nat_cmp_total, ne_eqb, not, refl, remove, set, sum_by-set, sym, true, true≢false, use_at, use_of, uses_in, without_block, ℕ, ◌-◌, ◌<◌, ◌==◌, ◌∙◌, ◌≡◌, ◌≢◌, ◌≤◌}
use Rattle.std.proofs.lemmas.List.Filters.{length-filter_both}
use Rattle.std.proofs.lemmas.List.Kept.{AllPairs-filter}
use Rattle.hd_model.proofs.{Members.passing_from, Members.passing_in, ReadAfterWrite.len_less}
use Rattle.std.specs.FinSet.{insert}
use Rattle.hd_seg.proofs.FunctionMaps.{mapped-remove, mapped-same}
use Rattle.hd_seg.proofs.ChainLinks.{none_is_some, some_of, use_is, extras_is, one_kind, listed_like, linked_with, its_chain}
use Rattle.hd_seg.proofs.BlockAdd.{block_same, block_other}
use Rattle.hd_seg.proofs.UnusedBlocks.{out_of_use}
use Rattle.hd_seg.specs.declared.row.BlockKind.TheVariants as block

twice : (t : Bool) → t ≡ not (not t)
twice true = refl
twice false = refl

module _ {number given : ℕ} {table : List Block} {chains : List (List ℕ)}
    (inv : IsBlocks number given table chains)
    {u : Uses} (seen : uses_in number table chains ≡ u) (b : ℕ)
    (handles : has_handles (get u.table.uses b) ≡ true) (single : get u.extras b ≡ None) where
  abbrev k : Kind
  k = kind_at u.table b

  abbrev chain : List ℕ
  chain = get_or chains (kind_number k) []

  abbrev short : List ℕ
  short = filter (λ x. not (x == b)) chain

  abbrev freed : List Block
  freed = set table b (record { kind = block.Unused; extras = None })

  its : IsListed number table k b
  its = inv.linked.listed k b (its_chain inv seen b handles)

  pub inside : b < length table
  inside = omega (arith, its.high, inv.size)

  pub its_high : b ≤ number
  its_high = its.high

  -- a block is in use
  pub some_given : 1 ≤ given
  some_given =
      let less = len_less (mapped 1 number (use_at table)) b
      (some_of _ _ (use_is inv b its.low its.high ∙ its.use_is)) in
      omega (arith, less, inv.counted)

  plain : extras_at table b ≡ None
  plain = sym (extras_is inv b its.low its.high) ∙ ap (λ (v : Uses). get v.extras b) seen ∙ single

  none_here : block_at freed b ≡ record { kind = block.Unused; extras = None }
  none_here = block_same table b (record { kind = block.Unused; extras = None }) inside b refl

  freed_other : (q : ℕ) → q ≢ b → block_at freed q ≡ block_at table q
  freed_other = block_other table b (record { kind = block.Unused; extras = None }) inside

  use_here : use_at freed b ≡ None
  use_here = ap (λ (x : Block). use_of x.kind) none_here

  use_other : (q : ℕ) → q ≢ b → use_at freed q ≡ use_at table q
  use_other q apart = ap (λ (x : Block). use_of x.kind) (freed_other q apart)

  extras_now : (q : ℕ) → extras_at freed q ≡ extras_at table q
  extras_now q =
      elim (cases_eq q b) [
        | inl same ↦ ap (extras_at freed) same ∙ ap (λ (x : Block). x.extras) none_here
            ∙ sym (ap (extras_at table) same ∙ plain)
        | inr apart ↦ ap (λ (x : Block). x.extras) (freed_other q apart)
      ]

  uses-gone : mapped 1 number (use_at freed) ≡ remove (mapped 1 number (use_at table)) b
  uses-gone = mapped-remove 1 number (use_at table) (use_at freed) b use_here use_other

  extras-gone : mapped 1 number (extras_at freed) ≡ mapped 1 number (extras_at table)
  extras-gone = mapped-same 1 number (extras_at table) (extras_at freed) (λ q first last. extras_now q)

  len-gone : len (mapped 1 number (use_at freed)) ≡ given - 1
  len-gone =
      ap len uses-gone ∙ len-remove nat_cmp_total (mapped 1 number (use_at table)) b
      ∙ ap (λ o. cond (is_some o) (len (mapped 1 number (use_at table)) - 1)
      (len (mapped 1 number (use_at table)))) (use_is inv b its.low its.high ∙ its.use_is)
      ∙ ap (λ n. n - 1) (sym inv.counted)

  -- what is left of the chain
  left_in : (q : ℕ) → Contains short q → (q ≢ b) × Contains chain q
  left_in q has = (
    λ same. true≢false (sym (passing_from (λ x. not (x == b)) chain q has).1 ∙ ap not (eq-eqb q b same)),
    (passing_from (λ x. not (x == b)) chain q has).0,
  )

  length-short : length short < length chain
  length-short =
      let both = length-filter_both (λ x. not (x == b)) (λ x. x == b) (λ x. twice (x == b)) chain in
      let one = passing_in (λ x. x == b) chain b (its_chain inv seen b handles) (eq-eqb b b refl) in
      omega (arith, both, one.1)

  listed_here : (q : ℕ) → Contains short q → IsListed number freed k q
  listed_here q has =
      let in_chain = left_in q has in
      listed_like (use_other q in_chain.0) (inv.linked.listed k q in_chain.1)

  was : (j : Kind) (q : ℕ) → use_at freed q ≡ Some (handles_of j)
      → (q ≢ b) × (use_at table q ≡ Some (handles_of j))
  was j q now =
      let away : q ≢ b = λ same. none_is_some _ (ap (use_at freed) same ∙ use_here) (some_of _ _ now) in
      (away, sym (use_other q away) ∙ now)

  found_here : (q : ℕ) → 1 ≤ q → q ≤ number → use_at freed q ≡ Some (handles_of k) → Contains short q
  found_here q first last now =
      let old = was k q now in
      passing_in (λ x. not (x == b)) chain q (inv.linked.found k q first last old.1)
      (ap not (ne_eqb q b old.0))

  -- a block of another kind
  kept : (j : Kind) (q : ℕ) → kind_number j ≢ kind_number k → IsListed number table j q
      → IsListed number freed j q
  kept j q other is =
      listed_like (use_other q (λ same. other (ap kind_number
      (one_kind (use_at table q) j k is.use_is (ap (use_at table) same ∙ its.use_is))))) is

  pub blocks-gone : IsBlocks number (given - 1) freed (set chains (kind_number k) short)
  blocks-gone = record {
    limit = inv.limit;
    size = length-set table b (record { kind = block.Unused; extras = None }) ∙ inv.size;
    counted = sym len-gone;
    spare = (let known =
        sum_by-set length chains (kind_number k) short []
        (omega (arith, few_kinds k, inv.linked.kinds)) in
        omega (arith, known, length-short, inv.spare, ap len extras-gone));
    linked = linked_with inv.linked k short
        (AllPairs-filter (λ x y. x ≢ y) (λ x. not (x == b)) chain (inv.linked.once k)) listed_here found_here
        kept (λ j q now other. (was j q now).1);
    plain = λ q none. extras_now q
        ∙ elim (cases_eq q b) [
          | inl same ↦ ap (extras_at table) same ∙ plain
          | inr away ↦ inv.plain q (ap has_handles (sym (use_other q away)) ∙ none)
        ];
  }

  pub unused-gone : {free after : NumberSet} → ListsUnused number table free
      → after ≡ record free { members = insert free.members b } → ListsUnused number freed after
  unused-gone lists is = out_of_use lists b use_other its.low its.high use_here is

  pub view-gone : uses_in number freed (set chains (kind_number k) short)
      ≡ record u { table = without_block u.table k b }
  view-gone =
      (λ i. record {
        table = record {
          rows = empty;
          chains = set chains (kind_number k) short;
          uses = uses-gone i;
          blocks = number;
        };
        extras = extras-gone i;
      })
      ∙ ap (λ (v : Uses). record v { table = without_block v.table k b }) seen
