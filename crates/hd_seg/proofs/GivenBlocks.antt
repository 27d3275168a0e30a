-- The next block with a use: by what a block is used for, or by the set of those without a use.
use Rattle.hd_seg.proofs.Basics.{Block, BlockUse, FinMap, IsBlocks, IsSome, List, ListsUnused, None, NumberSet, Option, Some, Uses, ap, arith, block_kind_of, cases_lt, extra_data, get, handles_of, inl, inr, is_some, nat_cmp, refl, sym, use_at, use_of, uses_in, ℕ, ◌<◌, ◌∙◌, ◌≡◌, ◌≤◌}
use Rattle.hd_seg.proofs.{ChainLinks.use_is, FunctionMaps.get-mapped_out, UnusedBlocks.no_use, UnusedBlocks.some_use}
use Rattle.hd_seg.specs.Given.{HasNoneGiven, IsNextGiven}
use Rattle.hd_seg.specs.declared.row.BlockKind.{BlockKind}
use Rattle.hd_tiers.specs.Sets.{IsGapFrom}

-- ---- by what a block is used for

use_back : (o : Option BlockUse) → use_of (block_kind_of o) ≡ o
use_back None = refl
use_back (Some (handles_of k)) = refl
use_back (Some extra_data) = refl

pub given_by : (o : Option BlockUse) (k : BlockKind) → k ≡ block_kind_of o → IsSome (use_of k) → IsSome o
given_by o k is some = sym (ap is_some (ap use_of is ∙ use_back o)) ∙ some

pub next_here : {uses : FinMap nat_cmp BlockUse} {from : ℕ} → IsSome (get uses from) → IsNextGiven uses from from
next_here given = record { low = omega arith; given = given; least = λ b low below. absurd (omega arith) }

-- ---- by the set of those without a use

module _ {number given : ℕ} {table : List Block} {chains : List (List ℕ)} (inv : IsBlocks number given table chains)
    {u : Uses} (view : uses_in number table chains ≡ u) where
  use_seen : (b : ℕ) → 1 ≤ b → b ≤ number → get u.table.uses b ≡ use_at table b
  use_seen b low high = ap (λ (v : Uses). get v.table.uses b) (sym view) ∙ use_is inv b low high

  past_none : (b : ℕ) → number < b → get u.table.uses b ≡ None
  past_none b past = ap (λ (v : Uses). get v.table.uses b) (sym view)
      ∙ get-mapped_out 1 number (use_at table) b (inr (omega arith))

  pub none_past : (from : ℕ) → number < from → HasNoneGiven u.table.uses from
  none_past from past b low = past_none b (omega arith)

  module _ {free : NumberSet} (lists : ListsUnused number table free) {from block : ℕ} (one : 1 ≤ from)
      (gap : IsGapFrom free.members from block) where
    none_before : (b : ℕ) → from ≤ b → b < block → get u.table.uses b ≡ None
    none_before b low below =
        let member = gap.inside b low below in
        let range = lists.within b member in
        use_seen b range.0 range.1 ∙ no_use (use_at table b) (sym (lists.each b range.0 range.1) ∙ member)

    pub next_is : block ≤ number → IsNextGiven u.table.uses from block
    next_is high =
        let low : 1 ≤ block = omega (arith, gap.low) in
        record {
          low = gap.low;
          given = ap is_some (use_seen block low high)
              ∙ some_use (use_at table block) (sym (lists.each block low high) ∙ gap.outside);
          least = none_before;
        }

    pub none_is : number < block → HasNoneGiven u.table.uses from
    none_is past b low = elim (cases_lt b block) [
      | inl below ↦ none_before b low below
      | inr after ↦ past_none b (omega arith)
    ]
