-- The data block of a block goes out of use.
use Rattle.hd_seg.proofs.Basics.{Block, IsBlocks, List, ListsUnused, None, NumberSet, Some, Uses, ap, arith, block_at, cases_eq, empty, extra_data, extras_at, get, handles_of, has_handles, inl, inr, len, length, length-set, mapped, refl, remove, set, sym, use_at, use_of, uses_in, Kind, IsListed, ℕ, ◌+◌, ◌-◌, ◌<◌, ◌∙◌, ◌≡◌, ◌≢◌, ◌≤◌}
use Rattle.hd_seg.proofs.Basics.{IsSome}
use Rattle.hd_model.proofs.{MapEntries.some_value, ReadAfterWrite.len_less}
use Rattle.hd_seg.proofs.FunctionMaps.{mapped-remove, within}
use Rattle.hd_seg.proofs.ChainLinks.{none_is_some, some_of, use_is, extras_is, used_within, listed_like, linked_by}
use Rattle.hd_seg.proofs.BlockAdd.{block_same, block_other, extras_apart}
use Rattle.hd_seg.proofs.UnusedBlocks.{out_of_use}
use Rattle.std.specs.FinSet.{insert}
use Rattle.hd_seg.specs.Pairs.{without_data}
use Rattle.hd_seg.specs.declared.row.BlockKind.TheVariants as block

-- block b has the data block d. What b was is `of`.
module _ {number given : ℕ} {table : List Block} {chains : List (List ℕ)}
    (inv : IsBlocks number given table chains) {u : Uses} (seen : uses_in number table chains ≡ u) (b d : ℕ)
    (has : get u.extras b ≡ Some d) (data_is : get u.table.uses d ≡ Some extra_data) where
  extras_there : get (mapped 1 number (extras_at table)) b ≡ Some d
  extras_there = ap (λ (v : Uses). get v.extras b) seen ∙ has

  use_there : get (mapped 1 number (use_at table)) d ≡ Some extra_data
  use_there = ap (λ (v : Uses). get v.table.uses d) seen ∙ data_is

  b_within : (1 ≤ b) × (b < 1 + number)
  b_within = within 1 number (extras_at table) b (some_of _ _ extras_there)

  d_within : (1 ≤ d) × (d ≤ number)
  d_within = used_within inv d (some_of _ _ use_there)

  pub b_inside : b < length table
  b_inside = omega (arith, b_within.1, inv.size)

  pub d_inside : d < length table
  d_inside = omega (arith, d_within.1, inv.size)

  pub extras_here : extras_at table b ≡ Some d
  extras_here = sym (extras_is inv b b_within.0 (omega (arith, b_within.1))) ∙ extras_there

  use_data : use_at table d ≡ Some extra_data
  use_data = sym (use_is inv d d_within.0 d_within.1) ∙ use_there

  none_there : extras_at table d ≡ None
  none_there = inv.plain d (ap has_handles use_data)

  apart : b ≢ d
  apart same = none_is_some _ none_there (some_of _ _ (ap (extras_at table) (sym same) ∙ extras_here))

  -- a block is in use
  pub some_given : 1 ≤ given
  some_given =
      let less = len_less (mapped 1 number (use_at table)) d (some_of _ _ use_there) in
      omega (arith, less, inv.counted)

  module _ {of : Block} (of_is : of ≡ block_at table b) where
    abbrev pub without : Block
    without = record { kind = of.kind; extras = None }

    abbrev pub freed : List Block
    freed = set (set table b without) d (record { kind = block.Unused; extras = None })

    size : length (set table b without) ≡ length table
    size = length-set table b without

    at_d : block_at freed d ≡ record { kind = block.Unused; extras = None }
    at_d = block_same (set table b without) d (record { kind = block.Unused; extras = None })
        (omega (arith, d_inside, size)) d refl

    not_d : (q : ℕ) → q ≢ d → block_at freed q ≡ block_at (set table b without) q
    not_d q other = block_other (set table b without) d
        (record { kind = block.Unused; extras = None }) (omega (arith, d_inside, size)) q other

    at_b : block_at freed b ≡ without
    at_b = not_d b apart ∙ block_same table b without b_inside b refl

    elsewhere : (q : ℕ) → q ≢ b → q ≢ d → block_at freed q ≡ block_at table q
    elsewhere q not_b other = not_d q other ∙ block_other table b without b_inside q not_b

    -- what the block keeps
    alike : {A : Type 0} (f : Block → A) → f without ≡ f of → (q : ℕ) → q ≢ d
        → f (block_at freed q) ≡ f (block_at table q)
    alike f same_b q other =
        elim (cases_eq q b) [
          | inl same ↦ ap (λ r. f (block_at freed r)) same ∙ ap f at_b ∙ same_b ∙ ap f of_is
              ∙ ap (λ r. f (block_at table r)) (sym same)
          | inr not_b ↦ ap f (elsewhere q not_b other)
        ]

    use_d : use_at freed d ≡ None
    use_d = ap (λ (x : Block). use_of x.kind) at_d

    use_other : (q : ℕ) → q ≢ d → use_at freed q ≡ use_at table q
    use_other = alike (λ (x : Block). use_of x.kind) refl

    extras_b : extras_at freed b ≡ None
    extras_b = ap (λ (x : Block). x.extras) at_b

    extras_other : (q : ℕ) → q ≢ b → extras_at freed q ≡ extras_at table q
    extras_other q not_b =
        elim (cases_eq q d) [
          | inl same ↦ ap (extras_at freed) same ∙ ap (λ (x : Block). x.extras) at_d
              ∙ sym (ap (extras_at table) same ∙ none_there)
          | inr other ↦ ap (λ (x : Block). x.extras) (elsewhere q not_b other)
        ]

    uses-freed : mapped 1 number (use_at freed) ≡ remove (mapped 1 number (use_at table)) d
    uses-freed = mapped-remove 1 number (use_at table) (use_at freed) d use_d use_other

    extras-freed : mapped 1 number (extras_at freed) ≡ remove (mapped 1 number (extras_at table)) b
    extras-freed = mapped-remove 1 number (extras_at table) (extras_at freed) b extras_b extras_other

    -- a block of handles is not d
    rows_before : (k : Kind) (q : ℕ) → use_at freed q ≡ Some (handles_of k)
        → use_at table q ≡ Some (handles_of k)
    rows_before k q is =
        sym (use_other q (λ same. none_is_some _ (ap (use_at freed) same ∙ use_d) (some_of _ _ is))) ∙ is

    kept_freed : (k : Kind) (q : ℕ) → IsListed number table k q → IsListed number freed k q
    kept_freed k q is =
        let other : q ≢ d =
        λ same. extras_apart (use_at table q) k (ap (use_at table) same ∙ use_data) is.use_is in
        listed_like (use_other q other) is

    was_freed : (k : Kind) (q : ℕ) → IsListed number freed k q → IsListed number table k q
    was_freed k q is = record { low = is.low; high = is.high; use_is = rows_before k q is.use_is }

    pub blocks-freed : IsBlocks number (given - 1) freed chains
    blocks-freed = record {
      limit = inv.limit;
      size = length-set (set table b without) d (record { kind = block.Unused; extras = None })
          ∙ size ∙ inv.size;
      counted = (let less = len_less (mapped 1 number (use_at table)) d (some_of _ _ use_there) in
          omega (arith, ap len uses-freed, less, inv.counted));
      spare = (let less = len_less (mapped 1 number (extras_at table)) b (some_of _ _ extras_there) in
          omega (arith, ap len extras-freed, less, inv.spare));
      linked = linked_by inv.linked kept_freed was_freed;
      plain = λ q none. elim (cases_eq q b) [
        | inl same ↦ ap (extras_at freed) same ∙ extras_b
        | inr not_b ↦ extras_other q not_b ∙ elim (cases_eq q d) [
          | inl same ↦ ap (extras_at table) same ∙ none_there
          | inr other ↦ inv.plain q (ap has_handles (sym (use_other q other)) ∙ none)
        ]
      ];
    }

    pub unused-freed : {free after : NumberSet} → ListsUnused number table free
        → after ≡ record free { members = insert free.members d } → ListsUnused number freed after
    unused-freed lists is = out_of_use lists d use_other d_within.0 d_within.1 use_d is

    pub view-freed : uses_in number freed chains
        ≡ record { table = without_data u.table d; extras = remove u.extras b }
    view-freed =
        (λ i. record {
          table = record { rows = empty; chains = chains; uses = uses-freed i; blocks = number };
          extras = extras-freed i;
        })
        ∙ ap (λ (v : Uses). let w : Uses =
        record { table = without_data v.table d; extras = remove v.extras b } in w) seen

-- the data block that a block has, as it is read in the table
module _ {number given : ℕ} {table : List Block} {chains : List (List ℕ)}
    (inv : IsBlocks number given table chains) {u : Uses} (seen : uses_in number table chains ≡ u) (b : ℕ)
    (some : IsSome (get u.extras b))
    (used : (d : ℕ) → get u.extras b ≡ Some d → get u.table.uses d ≡ Some extra_data) where
  has_one : (d : ℕ) × (get u.extras b ≡ Some d)
  has_one = some_value (get u.extras b) some

  pub owner_inside : b < length table
  owner_inside = b_inside inv seen b has_one.0 has_one.1 (used has_one.0 has_one.1)

  module _ {of : Block} (of_is : of ≡ block_at table b) where
    read_extras : of.extras ≡ Some has_one.0
    read_extras = ap (λ (x : Block). x.extras) of_is
        ∙ extras_here inv seen b has_one.0 has_one.1 (used has_one.0 has_one.1)

    pub extras_read : IsSome of.extras
    extras_read = some_of _ _ read_extras

    pub extras_was : (d : ℕ) → of.extras ≡ Some d → get u.extras b ≡ Some d
    extras_was d is = has_one.1 ∙ sym read_extras ∙ is
