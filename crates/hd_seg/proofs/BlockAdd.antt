-- A block comes into use: for handles, at the end of a chain, or for the extras of another block's rows.
use Rattle.hd_seg.proofs.Basics.{AllPairs, HOST_BLOCKS, Block, BlockUse, Contains, Contains-append_left, Contains-push, IsBlocks, IsLeastWithout, IsListed, IsSome, KINDS, Kind, List, ListsUnused, None, NumberSet, Option, Some, Uses, [], ap, arith, block_at, cases_eq, cases_lt, empty, empty_table, extra_data, extras_at, false≢true, few_kinds, get_or, get_or-set_other, get_or-set_same, handles_of, has_handles, inl, inr, insert, is_some, kind_number, len, len-empty, length, length-replicate, length-set, length_push, mapped, nat_cmp, refl, replicate, set, subst, suc, sum_by-set, sym, true, use_at, use_of, uses_in, with_block, with_data, zero, ℕ, ◌++◌, ◌+◌, ◌<◌, ◌∙◌, ◌∷◌, ◌≡◌, ◌≢◌, ◌≤◌}
use Rattle.hd_seg.proofs.FunctionMaps.{mapped-insert, mapped-same, mapped-empty, len-insert_le, len-insert_new}
use Rattle.hd_model.proofs.{KindTests.listed_kind, Members.member_at}
use Rattle.hd_model.specs.Kinds.{all_kinds}
use Rattle.std.proofs.lemmas.List.{get_or_past}
use Rattle.std.proofs.lemmas.List.Elements.{Contains-push_cases}
use Rattle.std.proofs.lemmas.List.Quantifiers.{all_pairs_push}
use Rattle.hd_seg.proofs.ChainRings.{no_chain}
use Rattle.hd_seg.proofs.ChainLinks.{none_is_some, some_of, use_is, one_kind, listed_like, linked_by, linked_with}
use Rattle.hd_seg.proofs.UnusedBlocks.{into_use}
use Rattle.std.specs.FinSet.{remove}
use Rattle.hd_seg.specs.declared.row.BlockKind.TheVariants as block

pub extras_apart : (o : Option BlockUse) (k : Kind) → o ≡ Some extra_data → o ≡ Some (handles_of k) → ⊥
extras_apart o k is is' = let no : Some extra_data ≡ Some (handles_of k) = sym is ∙ is' in cc

module _ (table : List Block) (b : ℕ) (new : Block) (within : b < length table) where
  pub block_same : (q : ℕ) → q ≡ b → block_at (set table b new) q ≡ new
  block_same q same = ap (block_at (set table b new)) same ∙ get_or-set_same table b new _ within

  pub block_other : (q : ℕ) → q ≢ b → block_at (set table b new) q ≡ block_at table q
  block_other q apart = get_or-set_other table b q new _ apart

-- block b comes to the end of a chain of p blocks
module _ {number given : ℕ} {table : List Block} {chains : List (List ℕ)}
    (inv : IsBlocks number given table chains)
    (k : Kind) (b : ℕ) (low : 1 ≤ b) (within : b < length table) (unused : use_at table b ≡ None)
  where
    abbrev chain : List ℕ
    chain = get_or chains (kind_number k) []

    abbrev pub longer : List (List ℕ)
    longer = set chains (kind_number k) (chain ++ b ∷ [])

    abbrev pub with_rows : List Block
    with_rows = set table b (record { kind = block.Rows k; extras = None })

    here : block_at with_rows b ≡ record { kind = block.Rows k; extras = None }
    here = block_same table b (record { kind = block.Rows k; extras = None }) within b refl

    there : (q : ℕ) → q ≢ b → block_at with_rows q ≡ block_at table q
    there q apart =
        block_other table b (record { kind = block.Rows k; extras = None }) within q apart

    use_there : (q : ℕ) → q ≢ b → use_at with_rows q ≡ use_at table q
    use_there q apart = ap (λ (x : Block). use_of x.kind) (there q apart)

    use_here : use_at with_rows b ≡ Some (handles_of k)
    use_here = ap (λ (x : Block). use_of x.kind) here

    uses-add : mapped 1 number (use_at with_rows) ≡ insert (mapped 1 number (use_at table)) b (handles_of k)
    uses-add = mapped-insert 1 number (use_at table) (use_at with_rows) b (handles_of k) low
        (omega (arith, within, inv.size)) use_here use_there

    extras-add : mapped 1 number (extras_at with_rows) ≡ mapped 1 number (extras_at table)
    extras-add =
        mapped-same 1 number (extras_at table) (extras_at with_rows) (λ q first last.
        elim (cases_eq q b) [
          | inl same ↦ ap (extras_at with_rows) same ∙ ap (λ (x : Block). x.extras) here
              ∙ sym (ap (extras_at table) same ∙ inv.plain b (ap has_handles unused))
          | inr apart ↦ ap (λ (x : Block). x.extras) (there q apart)
        ])

    count-add : given + 1 ≡ len (mapped 1 number (use_at with_rows))
    count-add =
        let known =
        len-insert_new (mapped 1 number (use_at table)) b (handles_of k)
        (use_is inv b low (omega (arith, within, inv.size)) ∙ unused) in
        omega (arith, ap len uses-add, known, inv.counted)

    apart : (j : Kind) (q : ℕ) → IsListed number table j q → q ≢ b
    apart j q is same = none_is_some (use_at table b) unused
        (some_of _ _ (ap (use_at table) (sym same) ∙ is.use_is))

    -- it is in no chain
    pub in_none : (j : ℕ) → Contains (get_or chains j []) b → ⊥
    in_none j has =
        elim (cases_lt j KINDS) [
          | inl low ↦
              let j_is = listed_kind j k low in
              apart (get_or all_kinds j k) b
              (inv.linked.listed (get_or all_kinds j k) b
              (subst (λ n. Contains (get_or chains n []) b) (sym j_is) has)) refl
          | inr past ↦
              let none : get_or chains j [] ≡ [] =
              get_or_past chains j [] (omega (arith, past, inv.linked.kinds)) in
              omega (arith, has.1, ap length none)
        ]

    kept : (j : Kind) (q : ℕ) → IsListed number table j q → IsListed number with_rows j q
    kept j q is = listed_like (use_there q (apart j q is)) is

    listed_here : (q : ℕ) → Contains (chain ++ b ∷ []) q → IsListed number with_rows k q
    listed_here q has =
        elim (Contains-push_cases chain b q has) [
          | inl old ↦ kept k q (inv.linked.listed k q old)
          | inr same ↦ subst (IsListed number with_rows k) same
              (record { low = low; high = omega (arith, within, inv.size); use_is = use_here })
        ]

    once_here : AllPairs (λ x y. x ≢ y) (chain ++ b ∷ [])
    once_here = all_pairs_push (λ x y. x ≢ y) chain b (inv.linked.once k) (λ i d lt.
        apart k (get_or chain i d) (inv.linked.listed k (get_or chain i d) (member_at chain i d _ lt refl)))

    found_here : (q : ℕ) → 1 ≤ q → q ≤ number → use_at with_rows q ≡ Some (handles_of k)
        → Contains (chain ++ b ∷ []) q
    found_here q first last is =
        elim (cases_eq q b) [
          | inl same ↦ subst (λ x. Contains (chain ++ b ∷ []) x) (sym same) (Contains-push chain b)
          | inr apart ↦ Contains-append_left chain (b ∷ []) q
              (inv.linked.found k q first last (sym (use_there q apart) ∙ is))
        ]

    use_was : (j : Kind) (q : ℕ) → use_at with_rows q ≡ Some (handles_of j) → kind_number j ≢ kind_number k
        → use_at table q ≡ Some (handles_of j)
    use_was j q is other =
        sym (use_there q (λ same. other (ap kind_number
        (one_kind (use_at with_rows q) j k is (ap (use_at with_rows) same ∙ use_here))))) ∙ is

    -- the blocks after it
    pub blocks-add : IsBlocks number (given + 1) with_rows longer
    blocks-add = record {
      limit = inv.limit;
      size = length-set table b (record { kind = block.Rows k; extras = None }) ∙ inv.size;
      counted = count-add;
      spare = (let known =
          sum_by-set length chains (kind_number k) (chain ++ b ∷ []) []
          (omega (arith, few_kinds k, inv.linked.kinds)) in
          omega (arith, known, length_push chain b, inv.spare, ap len extras-add));
      linked = linked_with inv.linked k (chain ++ b ∷ []) once_here listed_here found_here
          (λ j q other. kept j q) use_was;
      plain = λ q none.
          let away = there q (λ same. false≢true
          (sym none ∙ ap has_handles (ap (use_at with_rows) same ∙ use_here))) in
          ap (λ (x : Block). x.extras) away
          ∙ inv.plain q (sym (ap (λ (x : Block). has_handles (use_of x.kind)) away) ∙ none);
    }

    pub unused-add : {free after : NumberSet} → ListsUnused number table free
        → after ≡ record free { members = remove free.members b } → ListsUnused number with_rows after
    unused-add lists is = into_use lists b use_there (some_of _ _ use_here) is

    pub view-add : {u : Uses} → uses_in number table chains ≡ u → uses_in number with_rows longer
        ≡ record u { table = with_block u.table k b }
    view-add is =
        (λ i. record {
          table = record { rows = empty; chains = longer; uses = uses-add i; blocks = number };
          extras = extras-add i;
        })
        ∙ ap (λ (v : Uses). record v { table = with_block v.table k b }) is

-- the lowest unused block, as the table's value has it
pub least_is : {number given : ℕ} {table : List Block} {chains : List (List ℕ)}
    → IsBlocks number given table chains → {u : Uses} → uses_in number table chains ≡ u
    → (from b : ℕ) → 1 ≤ from → from ≤ b → b < length table
    → use_at table b ≡ None → ((q : ℕ) → from ≤ q → q < b → IsSome (use_at table q))
    → IsLeastWithout u.table from b
least_is inv is from b one low within unused least =
    subst (λ (v : Uses). IsLeastWithout v.table from b) is
    (record {
      low = low;
      high = omega (arith, within, inv.size);
      unused = use_is inv b (omega arith) (omega (arith, within, inv.size)) ∙ unused;
      least = λ q first last. ap is_some (use_is inv q (omega arith) (omega (arith, within, inv.size)))
          ∙ least q first last;
    })

-- block d gets the extras of the rows of block a. What the two were is `of` and `at`.
module _ {number given : ℕ} {table : List Block} {chains : List (List ℕ)}
    (inv : IsBlocks number given table chains)
    (a d : ℕ) (low : 1 ≤ a) (below : a < d) (within : d < length table) (unused : use_at table d ≡ None)
    (taken : has_handles (use_at table a) ≡ true)
    {of at : Block} (of_is : of ≡ block_at table a)
    (at_is : at ≡ block_at (set table a (record { kind = of.kind; extras = Some d })) d)
  where
    abbrev pub with_extras : Block
    with_extras = record { kind = of.kind; extras = Some d }

    abbrev pub as_data : Block
    as_data = record { kind = block.Extras; extras = at.extras }

    abbrev pub with_both : List Block
    with_both = set (set table a with_extras) d as_data

    size : length (set table a with_extras) ≡ length table
    size = length-set table a with_extras

    at_d : at ≡ block_at table d
    at_d = at_is ∙ block_other table a with_extras (omega arith) d (λ same. omega arith)

    -- at d, at a, and elsewhere
    is_d : block_at with_both d ≡ as_data
    is_d = block_same (set table a with_extras) d as_data (omega (arith, within, size)) d refl

    not_d : (q : ℕ) → q ≢ d → block_at with_both q ≡ block_at (set table a with_extras) q
    not_d q apart = block_other (set table a with_extras) d as_data (omega (arith, within, size)) q apart

    use_d : use_at with_both d ≡ Some extra_data
    use_d = ap (λ (x : Block). use_of x.kind) is_d

    use_other : (q : ℕ) → q ≢ d → use_at with_both q ≡ use_at table q
    use_other q apart =
        ap (λ (x : Block). use_of x.kind) (not_d q apart)
        ∙ elim (cases_eq q a) [
          | inl same ↦ ap (λ (x : Block). use_of x.kind) (block_same table a with_extras (omega arith) q same)
              ∙ ap (λ (x : Block). use_of x.kind) of_is ∙ ap (use_at table) (sym same)
          | inr other ↦ ap (λ (x : Block). use_of x.kind)
              (block_other table a with_extras (omega arith) q other)
        ]

    extras_other : (q : ℕ) → q ≢ a → extras_at with_both q ≡ extras_at table q
    extras_other q not_a =
        elim (cases_eq q d) [
          | inl same ↦ ap (extras_at with_both) same ∙ ap (λ (x : Block). x.extras) is_d
              ∙ ap (λ (x : Block). x.extras) at_d ∙ ap (extras_at table) (sym same)
          | inr apart ↦ ap (λ (x : Block). x.extras)
              (not_d q apart ∙ block_other table a with_extras (omega arith) q not_a)
        ]

    uses-data : mapped 1 number (use_at with_both) ≡ insert (mapped 1 number (use_at table)) d extra_data
    uses-data = mapped-insert 1 number (use_at table) (use_at with_both) d extra_data (omega arith)
        (omega (arith, within, inv.size)) use_d use_other

    extras-data : mapped 1 number (extras_at with_both) ≡ insert (mapped 1 number (extras_at table)) a d
    extras-data =
        mapped-insert 1 number (extras_at table) (extras_at with_both) a d low
        (omega (arith, within, inv.size))
        (ap (λ (x : Block). x.extras) (not_d a (λ same. omega arith)
        ∙ block_same table a with_extras (omega arith) a refl)) extras_other

    -- a block of handles is not d
    rows_before : (k : Kind) (q : ℕ) → use_at with_both q ≡ Some (handles_of k)
        → use_at table q ≡ Some (handles_of k)
    rows_before k q is =
        sym (use_other q (λ same. extras_apart (use_at with_both q) k (ap (use_at with_both) same ∙ use_d)
        is))
        ∙ is

    kept_both : (k : Kind) (q : ℕ) → IsListed number table k q → IsListed number with_both k q
    kept_both k q is =
        listed_like (use_other q (λ same. none_is_some _ unused
        (some_of _ _ (ap (use_at table) (sym same) ∙ is.use_is)))) is

    was_both : (k : Kind) (q : ℕ) → IsListed number with_both k q → IsListed number table k q
    was_both k q is = record { low = is.low; high = is.high; use_is = rows_before k q is.use_is }

    pub blocks-with_data : IsBlocks number (given + 1) with_both chains
    blocks-with_data = record {
      limit = inv.limit;
      size = length-set (set table a with_extras) d as_data ∙ size ∙ inv.size;
      counted = (let known =
          len-insert_new (mapped 1 number (use_at table)) d extra_data
          (use_is inv d (omega arith) (omega (arith, within, inv.size)) ∙ unused) in
          omega (arith, ap len uses-data, known, inv.counted));
      spare = (let known = len-insert_le (mapped 1 number (extras_at table)) a d in
          omega (arith, inv.spare, ap len extras-data, known));
      linked = linked_by inv.linked kept_both was_both;
      plain = λ q none.
          let not_a : q ≢ a = λ same. false≢true (sym none ∙ ap (λ r. has_handles (use_at with_both r)) same
          ∙ ap has_handles (use_other a (λ other. omega arith)) ∙ taken) in
          extras_other q not_a
          ∙ inv.plain q (elim (cases_eq q d) [
            | inl same ↦ ap (λ r. has_handles (use_at table r)) same ∙ ap has_handles unused
            | inr apart ↦ ap has_handles (sym (use_other q apart)) ∙ none
          ]);
    }

    pub unused-with_data : {free after : NumberSet} → ListsUnused number table free
        → after ≡ record free { members = remove free.members d } → ListsUnused number with_both after
    unused-with_data lists is = into_use lists d use_other (some_of _ _ use_d) is

    pub view-with_data : {u : Uses} → uses_in number table chains ≡ u → uses_in number with_both chains
        ≡ record { table = with_data u.table d; extras = insert u.extras a d }
    view-with_data is =
        (λ i. record {
          table = record { rows = empty; chains = chains; uses = uses-data i; blocks = number };
          extras = extras-data i;
        })
        ∙ ap (λ (v : Uses). let w : Uses =
        record { table = with_data v.table d; extras = insert v.extras a d } in w) is

-- ---- no block is in use

none_at : (n : ℕ) (q : ℕ) → block_at (replicate n (record { kind = block.Unused; extras = None }))
    q ≡ record { kind = block.Unused; extras = None }
none_at zero q = refl
none_at (suc n) zero = refl
none_at (suc n) (suc q) = none_at n q

module _ (number : ℕ) where
  abbrev unused_blocks : List Block
  unused_blocks = replicate (number + 1) (record { kind = block.Unused; extras = None })

  pub no_use : (q : ℕ) → use_at unused_blocks q ≡ None
  no_use q = ap (λ (x : Block). use_of x.kind) (none_at (number + 1) q)

  no_extras : (q : ℕ) → extras_at unused_blocks q ≡ None
  no_extras q = ap (λ (x : Block). x.extras) (none_at (number + 1) q)

  uses-none : mapped 1 number (use_at unused_blocks) ≡ empty
  uses-none = mapped-empty 1 number (use_at unused_blocks) (λ q low high. no_use q)

  extras-none : mapped 1 number (extras_at unused_blocks) ≡ empty
  extras-none = mapped-empty 1 number (extras_at unused_blocks) (λ q low high. no_extras q)

  pub blocks-none : number ≤ HOST_BLOCKS
      → IsBlocks number 0 (replicate (number + 1) (record { kind = block.Unused; extras = None }))
      (replicate KINDS [])
  blocks-none few = record {
    limit = few;
    size = length-replicate (number + 1) (record { kind = block.Unused; extras = None });
    counted = sym (ap len uses-none ∙ len-empty nat_cmp BlockUse);
    spare = omega (arith, ap len extras-none, len-empty nat_cmp ℕ);
    linked = record {
      kinds = length-replicate {A = List ℕ} KINDS [];
      once = λ k i j d lt below. absurd (omega (arith, below, ap length (no_chain KINDS (kind_number k))));
      listed = λ k b has. absurd (omega (arith, has.1, ap length (no_chain KINDS (kind_number k))));
      found = λ k q low high is. absurd (none_is_some _ (no_use q) (some_of _ _ is));
    };
    plain = λ q none. no_extras q;
  }

  pub view-none : uses_in number
      (replicate (number + 1) (record { kind = block.Unused; extras = None })) (replicate KINDS [])
      ≡ record { table = empty_table number; extras = empty }
  view-none i = record {
    table = record { rows = empty; chains = replicate KINDS []; uses = uses-none i; blocks = number };
    extras = extras-none i;
  }
