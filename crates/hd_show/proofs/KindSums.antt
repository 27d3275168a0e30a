-- What is summed up by kind, over all kinds.
use Rattle.std.proofs.Common.{List, None, Option, Some, [], ap, arith, cond, count_by, length, refl, sum_by, sym, true, ℕ, ◌+◌, ◌∙◌, ◌∷◌, ◌≡◌}
use Rattle.std.proofs.lemmas.List.Sums.{sum_by-cons}
use Rattle.hd_model.specs.declared.data.Kind.{Kind}
use Rattle.hd_model.specs.declared.data.Kind.TheVariants as kind
use Rattle.hd_model.specs.Kinds.{all_kinds}
use Rattle.hd_seen.specs.Seen.{Picture}
use Rattle.hd_seen.specs.declared.SeenBlock.{SeenBlock}
use Rattle.hd_seen.specs.declared.SeenHandle.{SeenHandle}
use Rattle.hd_show.specs.Blocks.{RowCounts, free_in}
use Rattle.hd_show.specs.Kinds.{block_is, holds_kind, kind_free}
use Rattle.hd_show.specs.Laws.{KindsAddUp, KindsAlwaysAddUp}
use Rattle.hd_show.proofs.FilteredSums.{sum_filtered}

-- what a thing of a kind, or of none, adds where it is asked for
abbrev share : Option Kind → Option Kind → ℕ → ℕ
share asked found n = cond (holds_kind asked found) n 0

one_kind : (found : Option Kind) (n : ℕ)
    → share (Some kind.Short) found n + share (Some kind.Long) found n + share (Some kind.Strong) found n
    + share (Some kind.Pinned) found n + share (Some kind.Variable) found n
    + share (Some kind.Counted) found n + share (Some kind.Dependent) found n ≡ share None found n
one_kind None n = omega arith
one_kind (Some kind.Short) n = omega arith
one_kind (Some kind.Long) n = omega arith
one_kind (Some kind.Strong) n = omega arith
one_kind (Some kind.Pinned) n = omega arith
one_kind (Some kind.Variable) n = omega arith
one_kind (Some kind.Counted) n = omega arith
one_kind (Some kind.Dependent) n = omega arith

module _ {X : Type 0} (found : X → Option Kind) (w : X → ℕ) where
  abbrev total : Option Kind → List X → ℕ
  total asked xs = sum_by (λ x. share asked (found x) (w x)) xs

  more : (asked : Option Kind) (x : X) (xs : List X)
      → total asked (x ∷ xs) ≡ share asked (found x) (w x) + total asked xs
  more asked x xs = sum_by-cons (λ y. share asked (found y) (w y)) x xs

  pub all_shares : (xs : List X) → sum_by (λ (k : Kind). total (Some k) xs) all_kinds ≡ total None xs
  all_shares [] = refl
  all_shares (x ∷ xs) =
      omega (
        arith,
        more (Some kind.Short) x xs,
        more (Some kind.Long) x xs,
        more (Some kind.Strong) x xs,
        more (Some kind.Pinned) x xs,
        more (Some kind.Variable) x xs,
        more (Some kind.Counted) x xs,
        more (Some kind.Dependent) x xs,
        more None x xs,
        one_kind (found x) (w x),
        all_shares xs,
      )

count_all : {X : Type 0} (xs : List X) → count_by (λ _. true) xs ≡ length xs
count_all [] = refl
count_all (x ∷ xs) = omega (arith, sum_by-cons (λ _. 1) x xs, count_all xs)

kind_sums : (c : RowCounts) (p : Picture) → KindsAddUp c p
kind_sums c p = record {
  handles = all_shares (λ (h : SeenHandle). Some h.kind) (λ _. 1) p.handles;
  blocks = all_shares (λ (b : SeenBlock). b.kind) (λ _. 1) p.blocks;
  free =
      ap (λ f. sum_by f all_kinds) (λ i k. filtered (Some k) i)
      ∙ all_shares (λ (b : SeenBlock). b.kind) (λ (b : SeenBlock). free_in c b.number) p.blocks
      ∙ sym (filtered None);
  all = count_all p.handles;
}
  where
    filtered : (asked : Option Kind)
        → kind_free c p asked
        ≡ total (λ (b : SeenBlock). b.kind) (λ (b : SeenBlock). free_in c b.number) asked p.blocks
    filtered asked = sum_filtered (λ (b : SeenBlock). free_in c b.number) (block_is asked) p.blocks

pub kinds_add_up : KindsAlwaysAddUp
kinds_add_up c p = kind_sums c p
