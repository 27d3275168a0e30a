-- How a walk goes on: from block to block of its chain, and from row to row.
use Rattle.hd_ages.proofs.Basics.{Advances, AllPairs, Contains-append_right, DueRows, IfSome, IsOver, IsTable, Kind, List, None, Option, Slot, Some, Table, [], ap, arith, blocks_to_come, chain_of, clump_at, clumps_of, cond, due_clumps, due_slots, eq-eqb, filter, first_in, get, handles_of, has_handles, is_some, kind_at, kind_in, length, length-append, length-map, map, nat_le, ne_eqb, pairs_first, pairs_rest, refl, set_bits, slice_get, slice_index, slots_in, slots_of, subst, sym, true, ℕ, ◌++◌, ◌+◌, ◌∙◌, ◌∷◌, ◌≡◌, ◌≢◌, ◌≤◌}
use Rattle.hd_model.proofs.Members.{split_at}
use Rattle.std.proofs.lemmas.List.{append_assoc}
use Rattle.hd_mask.proofs.SetBits.{set_bits-zero}
use Rattle.hd_ages.specs.Walk.{blocks_from, clumps_to_come, from_block, slots_to_come}

-- ---- a chain from a block on

from_first : (x : ℕ) (xs : List ℕ) → from_block x (x ∷ xs) ≡ x ∷ xs
from_first x xs = ap (λ t. cond t (x ∷ xs) (from_block x xs)) (eq-eqb x x refl)

from_split : (before : List ℕ) (b : ℕ) (rest : List ℕ) → AllPairs (λ x y. x ≢ y) (before ++ b ∷ rest)
    → from_block b (before ++ b ∷ rest) ≡ b ∷ rest
from_split [] b rest apart = from_first b rest
from_split (x ∷ before) b rest apart =
    let other : x ≢ b = pairs_first (λ x y. x ≢ y) x (before ++ b ∷ rest) apart b
    (Contains-append_right before (b ∷ rest) b (first_in b rest)) in
    ap (λ t. cond t (x ∷ before ++ b ∷ rest) (from_block b (before ++ b ∷ rest))) (ne_eqb x b other)
    ∙ from_split before b rest (pairs_rest (λ x y. x ≢ y) x (before ++ b ∷ rest) apart)

from_after : (before : List ℕ) (b : ℕ) (rest : List ℕ) → AllPairs (λ x y. x ≢ y) (before ++ b ∷ rest)
    → blocks_from (slice_get rest 0) (before ++ b ∷ rest) ≡ rest
from_after before b [] apart = refl
from_after before b (c ∷ cs) apart =
    let same : (before ++ b ∷ []) ++ c ∷ cs ≡ before ++ b ∷ c ∷ cs = append_assoc before (b ∷ []) (c ∷ cs) in
    subst (λ xs. from_block c xs ≡ c ∷ cs) same
    (from_split (before ++ b ∷ []) c cs (subst (AllPairs (λ x y. x ≢ y)) (sym same) apart))

-- all of it from the first block on
pub from_start : (chain : List ℕ) → blocks_from (slice_get chain 0) chain ≡ chain
from_start [] = refl
from_start (x ∷ xs) = from_first x xs

-- the block that comes after one of a kind
module _ (t : Table) (is : IsTable t) (k : Kind) (b : ℕ) (used : get t.uses b ≡ Some (handles_of k))
    (next : Option ℕ)
    (after : (before rest : List ℕ) → chain_of t (kind_at t b) ≡ before ++ b ∷ rest → next ≡ slice_get rest 0)
  where
    of_kind : kind_at t b ≡ k
    of_kind = ap kind_in used

    parts : (before : List ℕ) × ((rest : List ℕ) × (chain_of t k ≡ before ++ b ∷ rest))
    parts = split_at (chain_of t k) b ((is.chained k b).1 used)

    apart_here : AllPairs (λ x y. x ≢ y) (parts.0 ++ b ∷ parts.1.0)
    apart_here = subst (AllPairs (λ x y. x ≢ y)) parts.1.1 (is.once k)

    next_is : next ≡ slice_get parts.1.0 0
    next_is = after parts.0 parts.1.0 (ap (chain_of t) of_kind ∙ parts.1.1)

    rest_is : blocks_from next (chain_of t k) ≡ parts.1.0
    rest_is = (λ i. blocks_from (next_is i) (parts.1.1 i)) ∙ from_after parts.0 b parts.1.0 apart_here

    pub block_first : from_block b (chain_of t k) ≡ b ∷ blocks_from next (chain_of t k)
    block_first = ap (from_block b) parts.1.1 ∙ from_split parts.0 b parts.1.0 apart_here
        ∙ ap (λ bs. b ∷ bs) (sym rest_is)

-- the block that a walk comes to next
module _ (t : Table) (k : Kind) {o : Option ℕ} (b : ℕ) (here : o ≡ Some b)
    (kinds : IfSome o (λ c. get t.uses c ≡ Some (handles_of k))) where
  pub used_next : get t.uses b ≡ Some (handles_of k)
  used_next = subst (λ (p : Option ℕ). IfSome p (λ c. get t.uses c ≡ Some (handles_of k))) here kinds

  pub handles_next : has_handles (get t.uses b) ≡ true
  handles_next = ap has_handles used_next

  pub next_within : IsTable t → (1 ≤ b) × (b ≤ t.blocks)
  next_within is = is.uses b (ap is_some used_next)

  module _ (is : IsTable t) (next : Option ℕ)
      (after : (before rest : List ℕ) → chain_of t (kind_at t b) ≡ before ++ b ∷ rest → next ≡ slice_get rest 0)
    where
      pub next_first : blocks_from o (chain_of t k) ≡ b ∷ blocks_from next (chain_of t k)
      next_first = ap (λ (p : Option ℕ). blocks_from p (chain_of t k)) here
          ∙ block_first t is k b used_next next after

      pub next_kind : IfSome next (λ c. get t.uses c ≡ Some (handles_of (kind_at t b)))
          → IfSome next (λ c. get t.uses c ≡ Some (handles_of k))
      next_kind some =
          subst (λ j. IfSome next (λ c. get t.uses c ≡ Some (handles_of j))) (ap kind_in used_next) some

slots_append : (t : Table) (cs ds : List ℕ) → slots_of t (cs ++ ds) ≡ slots_of t cs ++ slots_of t ds
slots_append t [] ds = refl
slots_append t (c ∷ cs) ds =
    ap (λ xs. slots_in t c ++ xs) (slots_append t cs ds)
    ∙ sym (append_assoc (slots_in t c) (slots_of t cs) (slots_of t ds))

-- the clumps of a block that are due
abbrev pub due_of : List ℕ → ℕ → ℕ → List ℕ
due_of ages n b = filter (λ c. nat_le (slice_index ages c) n) (clumps_of b)

module _ (t : Table) (ages : List ℕ) where
  -- between two blocks
  between : (w : DueRows) → w.rows ≡ 0 → slots_to_come t ages w ≡ slots_of t (clumps_to_come t ages w)
  unfolding slots_to_come
  between w e =
      ap (λ rows. map (λ row. w.first + row) rows ++ slots_of t (clumps_to_come t ages w))
      (ap set_bits e ∙ set_bits-zero)

  -- at the first block that may have a due clump
  abbrev pub IsAtStart : DueRows → Type 0
  IsAtStart w = due_clumps ages w.n (blocks_to_come t w) ≡ due_clumps ages w.n (chain_of t w.kind)

  pub clumps_at_start : (w : DueRows) → IsAtStart w
      → clumps_to_come t ages w ≡ due_clumps ages w.n (chain_of t w.kind)
  unfolding clumps_to_come
  clumps_at_start w start = start

  pub slots_at_start : (w : DueRows) → IsAtStart w → w.rows ≡ 0
      → slots_to_come t ages w ≡ due_slots t ages w.n w.kind
  slots_at_start w start none = between w none ∙ ap (slots_of t) (clumps_at_start w start)

  -- the end
  pub over : (w : DueRows) → w.next ≡ None → w.rows ≡ 0 → IsOver t ages w
  unfolding clumps_to_come
  over w end none =
      let clumps : clumps_to_come t ages w ≡ [] =
      ap (λ next. due_clumps ages w.n (blocks_from next (chain_of t w.kind))) end in
      record { slots = between w none ∙ ap (slots_of t) clumps; clumps = clumps }

  -- on to the next block of the chain
  module _ (old new : DueRows) (b : ℕ) (blocks_are : blocks_to_come t old ≡ b ∷ blocks_to_come t new)
      (n : new.n ≡ old.n) where
    clumps_are : clumps_to_come t ages old ≡ due_of ages old.n b ++ clumps_to_come t ages new
    unfolding clumps_to_come
    clumps_are =
        ap (due_clumps ages old.n) blocks_are
        ∙ ap (λ m. due_of ages old.n b ++ due_clumps ages m (blocks_to_come t new)) (sym n)

    pub new_block : (before after : ℕ) → old.rows ≡ 0
        → map (λ row. new.first + row) (set_bits new.rows) ≡ slots_of t (due_of ages old.n b)
        → after ≡ before + length (due_of ages old.n b) → Advances t ages old new before after
    unfolding slots_to_come
    new_block before after none rows counted = record {
      slots = ap (λ xs. xs ++ slots_of t (clumps_to_come t ages new)) rows
          ∙ sym (slots_append t (due_of ages old.n b) (clumps_to_come t ages new))
          ∙ ap (slots_of t) (sym clumps_are) ∙ sym (between old none);
      steps = omega (
        arith,
        counted,
        ap length clumps_are,
        length-append (due_of ages old.n b) (clumps_to_come t ages new),
      );
      less = omega (arith, ap length blocks_are);
    }

  -- the due clumps of a block are counted beside those of the blocks after it
  pub block_counted : (b mask n clumps count total : ℕ) (left rest : List ℕ)
      → left ≡ b ∷ rest → count ≡ length (set_bits mask)
      → map (clump_at b) (set_bits mask) ≡ due_of ages n b
      → clumps + length (due_clumps ages n left) ≡ total
      → clumps + count + length (due_clumps ages n rest) ≡ total
  block_counted b mask n clumps count total left rest is number due sum =
      omega (
        arith,
        sum,
        number,
        ap length due,
        length-map (set_bits mask) (clump_at b),
        ap (λ bs. length (due_clumps ages n bs)) is,
        length-append (due_of ages n b) (due_clumps ages n rest),
      )

  -- a row is the first left to visit
  pub gives : (old new : DueRows) (slot : Slot) → new ≡ record old { rows = new.rows }
      → map (λ row. old.first + row) (set_bits old.rows)
      ≡ slot.0 ∷ map (λ row. old.first + row) (set_bits new.rows)
      → slots_to_come t ages old ≡ slot.0 ∷ slots_to_come t ages new
  unfolding slots_to_come clumps_to_come
  gives old new slot same rows =
      ap (λ xs. xs ++ slots_of t (clumps_to_come t ages old)) rows
      ∙ ap (λ (w : DueRows). slot.0 ∷ (map (λ row. w.first + row) (set_bits new.rows)
      ++ slots_of t (due_clumps ages w.n (blocks_to_come t w)))) (sym same)

  pub same_clumps : (old new : DueRows) → new ≡ record old { rows = new.rows }
      → clumps_to_come t ages new ≡ clumps_to_come t ages old
  unfolding clumps_to_come
  same_clumps old new same = ap (λ (w : DueRows). due_clumps ages w.n (blocks_to_come t w)) same
