-- Blocks and chains: what their fields mean for the table without its rows.
use Rattle.hd_seg.proofs.Basics.{Addr, AllPairs, Block, BlockUse, Contains, Handle, HasUnused, IsBlocks, IsLinked, IsListed, IsSome, IsTable, Kind, List, None, Option, Some, Uses, [], ap, arith, block_kind_of, cases_eq, extra_data, extras_at, few_kinds, get, get-empty, get_or, get_or-set_other, get_or-set_same, handles_of, has_handles, inl, inr, is_some, kind_at, kind_in, kind_number, len, len-empty, length, length-set, mapped, nat_cmp, refl, same_number, set, subst, sum_by-set, sym, true, true≢false, use_at, use_of, uses_in, ℕ, ◌+◌, ◌<◌, ◌∙◌, ◌≡◌, ◌≢◌, ◌≤◌}
use Rattle.hd_seg.specs.Chains.{IsChained}
use Rattle.hd_seg.specs.declared.row.BlockKind.{BlockKind}
use Rattle.hd_seg.proofs.FunctionMaps.{get-mapped, within, len-mapped_le, unmapped}
use Rattle.hd_seg.specs.declared.row.BlockKind.TheVariants as block

-- nothing is not something
pub none_is_some : {A : Type 0} (o : Option A) → o ≡ None → IsSome o → ⊥
none_is_some o none there = true≢false (sym there ∙ ap is_some none)

pub some_of : {A : Type 0} (o : Option A) (x : A) → o ≡ Some x → IsSome o
some_of o x is = ap is_some is

-- what a block is used for, read back from its use
pub kind-use_of : (k : BlockKind) → block_kind_of (use_of k) ≡ k
kind-use_of block.Unused = refl
kind-use_of (block.Rows k) = refl
kind-use_of block.Extras = refl

-- a block of handles has a kind
pub handles_in : (o : Option BlockUse) → has_handles o ≡ true → o ≡ Some (handles_of (kind_in o))
handles_in None is = absurd (true≢false (sym is))
handles_in (Some (handles_of k)) is = refl
handles_in (Some extra_data) is = absurd (true≢false (sym is))

-- ---- chains that list blocks

-- two uses of one block are of one kind
pub one_kind : (o : Option BlockUse) (j k : Kind) → o ≡ Some (handles_of j) → o ≡ Some (handles_of k) → j ≡ k
one_kind o j k is is' = sym (ap kind_in is) ∙ ap kind_in is'

-- a block of handles is listed where its use is the same
pub listed_like : {number : ℕ} {table after : List Block} {k : Kind} {b : ℕ} → use_at after b ≡ use_at table b
    → IsListed number table k b → IsListed number after k b
listed_like used is = record { low = is.low; high = is.high; use_is = used ∙ is.use_is }

-- the same chains list the blocks of other tables, where blocks of handles are the same
pub linked_by : {number more : ℕ} {table after : List Block} {chains : List (List ℕ)}
    → IsLinked number table chains
    → ((k : Kind) (b : ℕ) → IsListed number table k b → IsListed more after k b)
    → ((k : Kind) (b : ℕ) → IsListed more after k b → IsListed number table k b)
    → IsLinked more after chains
linked_by was on back = record {
  kinds = was.kinds;
  once = was.once;
  listed = λ k b has. on k b (was.listed k b has);
  found = λ k b low high is.
      let old = back k b (record { low = low; high = high; use_is = is }) in
      was.found k b old.low old.high old.use_is;
}

-- one kind gets another chain, and blocks of other kinds stay
module _ {number : ℕ} {table after : List Block} {chains : List (List ℕ)} (was : IsLinked number table chains)
    (k : Kind) (chain : List ℕ)
    (once : AllPairs (λ x y. x ≢ y) chain)
    (listed : (b : ℕ) → Contains chain b → IsListed number after k b)
    (found : (b : ℕ) → 1 ≤ b → b ≤ number → use_at after b ≡ Some (handles_of k) → Contains chain b)
    (kept : (j : Kind) (b : ℕ) → kind_number j ≢ kind_number k → IsListed number table j b
    → IsListed number after j b)
    (use_was : (j : Kind) (b : ℕ) → use_at after b ≡ Some (handles_of j) → kind_number j ≢ kind_number k
    → use_at table b ≡ Some (handles_of j)) where
  by_kind : (P : Kind → List ℕ → Type 0) → P k chain
      → ((j : Kind) → kind_number j ≢ kind_number k → P j (get_or chains (kind_number j) []))
      → (j : Kind) → P j (get_or (set chains (kind_number k) chain) (kind_number j) [])
  by_kind P here there j =
      elim (cases_eq (kind_number j) (kind_number k)) [
        | inl same ↦ subst (λ i. P i (get_or (set chains (kind_number k) chain) (kind_number i) []))
            (sym (same_number j k same))
            (subst (P k) (sym (get_or-set_same chains (kind_number k) chain []
            (omega (arith, few_kinds k, was.kinds)))) here)
        | inr apart ↦ subst (P j)
            (sym (get_or-set_other chains (kind_number k) (kind_number j) chain [] apart)) (there j apart)
      ]

  pub linked_with : IsLinked number after (set chains (kind_number k) chain)
  linked_with = record {
    kinds = length-set chains (kind_number k) chain ∙ was.kinds;
    once = by_kind (λ j cs. AllPairs (λ x y. x ≢ y) cs) once (λ j apart. was.once j);
    listed = by_kind (λ j cs. (b : ℕ) → Contains cs b → IsListed number after j b) listed
        (λ j apart b has. kept j b apart (was.listed j b has));
    found = by_kind (λ j cs. (b : ℕ) → 1 ≤ b → b ≤ number → use_at after b ≡ Some (handles_of j)
        → Contains cs b)
        found (λ j apart b low high is. was.found j b low high (use_was j b is apart));
  }

module _ {number given : ℕ} {table : List Block} {chains : List (List ℕ)}
    (inv : IsBlocks number given table chains) where
  -- the use of a block, and its data block
  pub use_is : (b : ℕ) → 1 ≤ b → b ≤ number → get (mapped 1 number (use_at table)) b ≡ use_at table b
  use_is b low high = get-mapped 1 number (use_at table) b low (omega arith)

  pub extras_is : (b : ℕ) → 1 ≤ b → b ≤ number → get (mapped 1 number (extras_at table)) b ≡ extras_at table b
  extras_is b low high = get-mapped 1 number (extras_at table) b low (omega arith)

  -- a block with a use is one of them
  pub used_within : (b : ℕ) → IsSome (get (mapped 1 number (use_at table)) b) → (1 ≤ b) × (b ≤ number)
  used_within b used = let is : (1 ≤ b) × (b < 1 + number) = within 1 number (use_at table) b used in
      (is.0, omega (arith, is.1))

  pub listed_use : (k : Kind) (b : ℕ) → get (mapped 1 number (use_at table)) b ≡ Some (handles_of k)
      → (1 ≤ b) × (b ≤ number) × (use_at table b ≡ Some (handles_of k))
  listed_use k b is =
      let range : (1 ≤ b) × (b ≤ number) = used_within b (some_of _ _ is) in
      (range.0, range.1, sym (use_is b range.0 range.1) ∙ is)

  in_chain : (k : Kind) (b : ℕ) → Contains (get_or chains (kind_number k) []) b
      → get (mapped 1 number (use_at table)) b ≡ Some (handles_of k)
  in_chain k b has =
      let is = inv.linked.listed k b has in use_is b is.low is.high ∙ is.use_is

  of_chain : (k : Kind) (b : ℕ) → get (mapped 1 number (use_at table)) b ≡ Some (handles_of k)
      → Contains (get_or chains (kind_number k) []) b
  of_chain k b is = let at = listed_use k b is in inv.linked.found k b at.0 at.1 at.2

  -- blocks and chains make a table
  pub is_table : IsTable (uses_in number table chains).table
  is_table = record {
    limit = inv.limit;
    rows = λ slot h is. absurd (none_is_some _ (get-empty nat_cmp slot) (some_of _ _ is));
    uses = used_within;
    given = len-mapped_le 1 number (use_at table);
    live = omega (arith, len-empty nat_cmp (Handle Addr));
    kinds = inv.linked.kinds;
    once = inv.linked.once;
    chained = λ k b. (in_chain k b, of_chain k b);
  }

  -- where fewer blocks are in use than there are, one is unused
  pub one_left : len (mapped 1 number (use_at table)) < number → HasUnused table 1
  one_left few =
      let found : (q : ℕ) × ((1 ≤ q) × ((q < 1 + number) × (use_at table q ≡ None))) =
      unmapped 1 number (use_at table) few in
      record {
        number = found.0;
        low = found.1.0;
        high = omega (arith, found.1.1.0, inv.size);
        unused = found.1.1.1;
      }

  -- no chain has more blocks than are in use
  pub chain_short : (k : Kind) → length (get_or chains (kind_number k) []) ≤ given
  chain_short k =
      let known =
      sum_by-set length chains (kind_number k) [] [] (omega (arith, few_kinds k, inv.linked.kinds)) in
      omega (arith, known, inv.spare)

-- fewer blocks are in use than there are
pub few_of : {number : ℕ} (table : List Block) {chains : List (List ℕ)} {u : Uses}
    → uses_in number table chains ≡ u → len u.table.uses < u.table.blocks
    → len (mapped 1 number (use_at table)) < number
few_of table is few =
    omega (arith, few, ap (λ (v : Uses). len v.table.uses) is, ap (λ (v : Uses). v.table.blocks) is)

-- a block of handles, as it is read in the table
module _ {number given : ℕ} {table : List Block} {chains : List (List ℕ)}
    (inv : IsBlocks number given table chains) {u : Uses} (seen : uses_in number table chains ≡ u)
    (b : ℕ) (handles : has_handles (get u.table.uses b) ≡ true) where
  at_block : (1 ≤ b) × (b ≤ number) × (use_at table b ≡ Some (handles_of (kind_at u.table b)))
  at_block = listed_use inv (kind_at u.table b) b
      (ap (λ (v : Uses). get v.table.uses b) seen ∙ handles_in (get u.table.uses b) handles)

  pub its_chain : Contains (get_or chains (kind_number (kind_at u.table b)) []) b
  its_chain = inv.linked.found (kind_at u.table b) b at_block.0 at_block.1 at_block.2

  pub block_chained : IsChained chains b
  block_chained = record { kind = kind_number (kind_at u.table b); member = its_chain }
