-- No cause holds before the one that is found.
use Rattle.std.proofs.Common.{List, None, Some, ap, arith, false, refl, subst, sym, ℕ, ◌<◌, ◌∙◌, ◌≡◌, ◌≤◌}
use Rattle.std.specs.Prelude.{◌≢◌}
use Rattle.std.proofs.lemmas.Bool.{true≢false}
use Rattle.std.proofs.lemmas.Option.{none-some, same_Some}
use mathlib.Core.Logic.{inl, inr}
use Rattle.hd_model.specs.declared.data.Entry.{Entry}
use Rattle.hd_model.specs.declared.data.Grown.{Grown}
use Rattle.hd_model.specs.declared.data.Grown.TheVariants.{Back, One, Two, Zero}
use Rattle.hd_model.specs.declared.data.Kind.{Kind}
use Rattle.hd_model.specs.declared.data.Slot.{Slot}
use Rattle.hd_model.specs.State.{Numbers, State, first_slot}
use Rattle.hd_model.specs.Step.{MayGive}
use Rattle.hd_print.specs.VerdictLaws.{HasEnd}
use Rattle.hd_audit.specs.Before.{TakesSlot, due_of, number_of}
use Rattle.hd_audit.specs.Known.{Known}
use Rattle.hd_view.specs.Cause.{BlocksHold, HoldsOf, HoldsOn, IsGrown, IsReplied, IsSpelled, NoneLike, SlotHolds, after_end, end_counts, end_too_early, first_stated, is_end, no_end, no_line, of_parts, rank}
use Rattle.hd_view.specs.Stated.{Parts, stated_in}
use Rattle.hd_view.specs.declared.cause.BlockCause.{BlockCause}
use Rattle.hd_view.specs.declared.cause.BlockCause.TheVariants as by_blocks
use Rattle.hd_view.specs.declared.cause.Cause.{Cause}
use Rattle.hd_view.specs.declared.cause.Cause.TheVariants as cause
use Rattle.hd_view.specs.declared.cause.SlotCause.{SlotCause}
use Rattle.hd_view.specs.declared.cause.SlotCause.TheVariants as by_slot

-- ---- what a cause with a rank says of the parts of a line

data Said (k : Known) (line : List ℕ) (p : Parts) (d : Cause) : Type 0 where
  none_left : rank d ≡ 4 → k.left ≡ 0 → Said k line p d
  none_known : rank d ≡ 5 → k.numbers.callers ≤ p.caller → Said k line p d
  none_due : rank d ≡ 6 → due_of k p.caller ≡ None → Said k line p d
  by_number : rank d ≡ 7 → p.number ≢ number_of k p.caller → Said k line p d
  by_reply : rank d ≡ 8 → NoneLike k p → Said k line p d
  of_blocks : rank d ≡ 9 → IsReplied k p → (b : BlockCause) → BlocksHold k p b → Said k line p d
  of_slot : rank d ≡ 10 → IsGrown k p → (s : SlotCause) → SlotHolds k p s → Said k line p d
  reads : rank d ≡ 11 → IsSpelled k line p → Said k line p d

-- ---- where an entry has the line's reply and blocks, and its slot too

no_blocks : {k : Known} {p : Parts} → IsGrown k p → (b : BlockCause) → BlocksHold k p b → ⊥
no_blocks g by_blocks.Missing h = h.1 g.entry g.next g.like (g.grown ∙ h.0)
no_blocks g by_blocks.Needless h = h.0 (sym g.grown ∙ h.1 g.entry g.next g.like)
no_blocks g by_blocks.Other h = h g.entry g.next g.like g.grown
no_blocks g (by_blocks.InUse block) h = h.2.none g.entry g.next g.like g.grown
no_blocks g (by_blocks.NotLeast which least) h = h.1.none g.entry g.next g.like g.grown
no_blocks g (by_blocks.OtherKind block kind) h = h.0.none g.entry g.next g.like (g.grown ∙ h.0.stated)
no_blocks g (by_blocks.NotFree block kind) h = h.0.none g.entry g.next g.like (g.grown ∙ h.0.stated)

-- a new row in a table that grew is in the first slot of the new block
first_given : (n : Numbers) (s : State) (kind : Kind) (g : Grown) (slot : Slot) (block : ℕ)
    → MayGive n s kind g slot → first_stated g ≡ Some block → slot ≡ first_slot block
first_given n s kind Zero slot block may first = absurd (none-some block first)
first_given n s kind (One b) slot block may first = may.2 ∙ ap first_slot (same_Some b block first)
first_given n s kind (Two b other) slot block may first = may.3 ∙ ap first_slot (same_Some b block first)
first_given n s kind (Back b) slot block may first = absurd may

in_first : (k : Known) (e : Entry) (kind : Kind) (block : ℕ) → TakesSlot k.numbers k.state kind e
    → first_stated e.grown ≡ Some block → e.slot ≡ Some (first_slot block)
in_first k e kind block (inl g) first =
    g.1 ∙ ap Some (first_given k.numbers k.state kind e.grown g.0 block g.2 first)
in_first k e kind block (inr full) first = absurd (none-some block (sym (ap first_stated full.3) ∙ first))

module _ {k : Known} {line : List ℕ} {p : Parts} where
  said : (d : Cause) → HoldsOf k line p d → Said k line p d
  said cause.Missing none = absurd none
  said cause.AfterEnd none = absurd none
  said cause.NoEnd none = absurd none
  said cause.NoLine none = absurd none
  said (cause.EndTooEarly left) none = absurd none
  said cause.EndCounts none = absurd none
  said cause.OnlyEnd is = none_left refl is
  said (cause.NoCaller caller) h = none_known refl (subst (λ (c : ℕ). k.numbers.callers ≤ c) (sym h.0) h.1)
  said (cause.ListEnd caller) h = none_due refl (ap (due_of k) h.0 ∙ h.1)
  said (cause.Number number) h = by_number refl (λ same. h.1 (same ∙ sym h.0))
  said cause.Reply none = by_reply refl none
  said (cause.Pinned address) h = by_reply refl h.0
  said (cause.AddressTaken address) h = by_reply refl h.none
  said (cause.TooFew unused kind) h = by_reply refl h.none
  said (cause.Blocks b) h = of_blocks refl h.0 b h.1
  said (cause.Slot s) h = of_slot refl h.0 s h.1
  said cause.Spelled h = reads refl h

  no_slots : IsSpelled k line p → (s : SlotCause) → SlotHolds k p s → ⊥
  no_slots r by_slot.Missing h = h.1 r.entry r.next r.like (sym r.slot ∙ h.0)
  no_slots r by_slot.Needless h = h.0 (r.slot ∙ h.1 r.entry r.next r.like)
  no_slots r (by_slot.Freed slot) h = h.0 (r.slot ∙ h.1 r.entry r.next r.like)
  no_slots r (by_slot.Idle slot) h = h.0 (r.slot ∙ h.2 r.entry r.next r.like)
  no_slots r (by_slot.InUse slot) h =
      h.1.none r.entry r.next r.like (sym r.slot ∙ h.1.stated) (sym r.grown)
  no_slots r (by_slot.OtherKind slot kind) h =
      h.1.none r.entry r.next r.like (sym r.slot ∙ h.1.stated) (sym r.grown)
  no_slots r (by_slot.NotFirst block) h =
      let of_due = same_Some r.entry.cmd h.due.0 (sym r.next.due ∙ ap (due_of k) r.next.caller ∙ h.due.1) in
      h.other (r.slot ∙ in_first k r.entry h.kind block
      ((h.due.2 r.entry r.next.caller of_due).0 (r.next.after, r.next.step))
      (ap first_stated (sym r.grown) ∙ h.first))

  grown_of : IsSpelled k line p → IsGrown k p
  grown_of r = record { entry = r.entry; next = r.next; like = r.like; grown = sym r.grown }

-- ---- in turn

module _ (k : Known) (line : List ℕ) (p : Parts) where
  -- none before a rank, by what is known of a line up to there
  pub passed : (r : ℕ) → r ≤ 8 → (4 < r → k.left ≢ 0) → (5 < r → p.caller < k.numbers.callers)
      → (6 < r → due_of k p.caller ≢ None) → (7 < r → p.number ≡ number_of k p.caller)
      → (d : Cause) → rank d < r → HoldsOf k line p d → ⊥
  passed r high left known due number d low h = by (said {k = k} {line = line} {p = p} d h)
    where
      by : Said k line p d → ⊥
      by (none_left at is) = left (omega (arith, low, at)) is
      by (none_known at is) = let its = known (omega (arith, low, at)) in omega (arith, its, is)
      by (none_due at is) = due (omega (arith, low, at)) is
      by (by_number at other) = other (number (omega (arith, low, at)))
      by (by_reply at _) = omega (arith, low, at, high)
      by (of_blocks at _ _ _) = omega (arith, low, at, high)
      by (of_slot at _ _ _) = omega (arith, low, at, high)
      by (reads at _) = omega (arith, low, at, high)

  module _ (c : Cause) (holds : HoldsOf k line p c)
      (before : (d : Cause) → rank d < 8 → HoldsOf k line p d → ⊥) where
    its_own : Said k line p c
    its_own = said {k = k} {line = line} {p = p} c holds

    reply_before : (d : Cause) → rank d < rank c → rank d ≡ 8 → NoneLike k p → Said k line p c → ⊥
    reply_before d low at none (none_left is _) = omega (arith, low, at, is)
    reply_before d low at none (none_known is _) = omega (arith, low, at, is)
    reply_before d low at none (none_due is _) = omega (arith, low, at, is)
    reply_before d low at none (by_number is _) = omega (arith, low, at, is)
    reply_before d low at none (by_reply is _) = omega (arith, low, at, is)
    reply_before d low at none (of_blocks is r _ _) = none r.entry r.next r.like
    reply_before d low at none (of_slot is g _ _) = none g.entry g.next g.like
    reply_before d low at none (reads is r) = none r.entry r.next r.like

    blocks_before : (d : Cause) → rank d < rank c → rank d ≡ 9 → (b : BlockCause) → BlocksHold k p b
        → Said k line p c → ⊥
    blocks_before d low at b h (none_left is _) = omega (arith, low, at, is)
    blocks_before d low at b h (none_known is _) = omega (arith, low, at, is)
    blocks_before d low at b h (none_due is _) = omega (arith, low, at, is)
    blocks_before d low at b h (by_number is _) = omega (arith, low, at, is)
    blocks_before d low at b h (by_reply is _) = omega (arith, low, at, is)
    blocks_before d low at b h (of_blocks is _ _ _) = omega (arith, low, at, is)
    blocks_before d low at b h (of_slot is g _ _) = no_blocks g b h
    blocks_before d low at b h (reads is r) = no_blocks (grown_of r) b h

    slot_before : (d : Cause) → rank d < rank c → rank d ≡ 10 → (s : SlotCause) → SlotHolds k p s
        → Said k line p c → ⊥
    slot_before d low at s h (none_left is _) = omega (arith, low, at, is)
    slot_before d low at s h (none_known is _) = omega (arith, low, at, is)
    slot_before d low at s h (none_due is _) = omega (arith, low, at, is)
    slot_before d low at s h (by_number is _) = omega (arith, low, at, is)
    slot_before d low at s h (by_reply is _) = omega (arith, low, at, is)
    slot_before d low at s h (of_blocks is _ _ _) = omega (arith, low, at, is)
    slot_before d low at s h (of_slot is _ _ _) = omega (arith, low, at, is)
    slot_before d low at s h (reads is r) = no_slots r s h

    rank_high : Said k line p c → rank c ≤ 11
    rank_high (none_left is _) = omega (arith, is)
    rank_high (none_known is _) = omega (arith, is)
    rank_high (none_due is _) = omega (arith, is)
    rank_high (by_number is _) = omega (arith, is)
    rank_high (by_reply is _) = omega (arith, is)
    rank_high (of_blocks is _ _ _) = omega (arith, is)
    rank_high (of_slot is _ _ _) = omega (arith, is)
    rank_high (reads is _) = omega (arith, is)

    -- none before a cause that holds, where none holds before the reply
    pub none_first : (d : Cause) → rank d < rank c → HoldsOf k line p d → ⊥
    none_first d low h = by (said {k = k} {line = line} {p = p} d h)
      where
        by : Said k line p d → ⊥
        by (none_left at _) = before d (omega (arith, at)) h
        by (none_known at _) = before d (omega (arith, at)) h
        by (none_due at _) = before d (omega (arith, at)) h
        by (by_number at _) = before d (omega (arith, at)) h
        by (by_reply at none) = reply_before d low at none its_own
        by (of_blocks at _ b its) = blocks_before d low at b its its_own
        by (of_slot at _ s its) = slot_before d low at s its its_own
        by (reads at _) = let high = rank_high its_own in omega (arith, low, at, high)

-- ---- by the line

four : {k : Known} {line : List ℕ} {p : Parts} {d : Cause} → Said k line p d → 4 ≤ rank d
four (none_left is _) = omega (arith, is)
four (none_known is _) = omega (arith, is)
four (none_due is _) = omega (arith, is)
four (by_number is _) = omega (arith, is)
four (by_reply is _) = omega (arith, is)
four (of_blocks is _ _ _) = omega (arith, is)
four (of_slot is _ _ _) = omega (arith, is)
four (reads is _) = omega (arith, is)

module _ {k : Known} {line : List ℕ} where
  -- none before a rank, by what is known of a line without its parts
  pub passed_line : (r : ℕ) → r ≤ 3 → (1 < r → k.ended ≡ false) → (2 < r → HasEnd line)
      → (d : Cause) → rank d < r → HoldsOn k line d → ⊥
  passed_line r high going has _ low (after_end is) = true≢false (sym is ∙ going low)
  passed_line r high going has _ low (no_end none) = none (has low)
  passed_line r high going has _ low (no_line _ _) = omega (arith, low, high)
  passed_line r high going has _ low (end_too_early _ _) = omega (arith, low, high)
  passed_line r high going has _ low (end_counts _ _ _) = omega (arith, low, high)
  passed_line r high going has d low (of_parts {p = p} states h) =
      let least = four (said {k = k} {line = line} {p = p} d h) in omega (arith, low, high, least)

  -- a cause of a line that states parts is one of these
  pub of_these : {p : Parts} → k.ended ≡ false → HasEnd line → is_end line ≡ false → stated_in line ≡ Some p
      → (d : Cause) → HoldsOn k line d → HoldsOf k line p d
  of_these going end begins states _ (after_end is) = absurd (true≢false (sym is ∙ going))
  of_these going end begins states _ (no_end none) = absurd (none end)
  of_these {p} going end begins states _ (no_line none _) = absurd (none-some p (sym none ∙ states))
  of_these going end begins states _ (end_too_early is _) = absurd (true≢false (sym is ∙ begins))
  of_these going end begins states _ (end_counts is _ _) = absurd (true≢false (sym is ∙ begins))
  of_these {p} going end begins states d (of_parts {p = q} its h) =
      subst (λ (x : Parts). HoldsOf k line x d) (same_Some q p (sym its ∙ states)) h
