-- The causes by a slot, by an address and by blocks.
use Rattle.std.proofs.Common.{None, Option, Some, ap, arith, eqb, false, is_some, refl, subst, sym, true, ℕ, ◌%◌, ◌*◌, ◌+◌, ◌/◌, ◌∙◌, ◌≡◌, ◌≤◌, ◌⊎◌}
use Rattle.std.specs.Prelude.{Bool, IsSome, ◌↔◌, ◌≢◌}
use mathlib.Core.Logic.{inl, inr}
use Rattle.std.specs.FinMap.{get}
use Rattle.std.proofs.lemmas.Bool.{eq-eqb, eqb-true, true≢false}
use Rattle.std.proofs.lemmas.Option.{none-some, same_Some}
use Rattle.hd_model.specs.declared.data.Entry.{Entry}
use Rattle.hd_model.specs.declared.data.Grown.{Grown}
use Rattle.hd_model.specs.declared.data.Grown.TheVariants.{Back, One, Two, Zero}
use Rattle.hd_model.specs.declared.data.Id.{Id}
use Rattle.hd_model.specs.declared.data.Kind.{Kind}
use Rattle.hd_model.specs.declared.data.Reply.TheVariants as reply
use Rattle.hd_model.specs.declared.data.Slot.{Slot}
use Rattle.hd_model.specs.declared.limits.TheConstants.{ROWS}
use Rattle.hd_model.specs.Kinds.{is_paired}
use Rattle.hd_model.specs.State.{IsAllFree, IsFree, State, block_of, first_slot, handle_at, handles_of, use_of}
use Rattle.hd_model.specs.Step.{IsLeastUnused, MayGive}
use Rattle.hd_audit.specs.Before.{GivesBlock, IsGrowthFor}
use Rattle.hd_audit.specs.Known.{Known}
use Rattle.hd_view.specs.Cause.{EachLike, FitsKind, IsGrown, IsLeastOf, IsLike, IsNoneOfDue, IsNotGiven, IsOtherGrowth, IsReplied, IsStated, NoneLike, first_stated}
use Rattle.hd_view.specs.Inside.{Explains, IsAddressNext, IsBlockNext, IsDoneNext, IsGrowing, IsOnlyLike, IsSlotNext, MayGiveSome}
use Rattle.hd_view.specs.Sets.{IsMember}
use Rattle.hd_view.specs.Stated.{HasReply, Parts, begins}
use Rattle.hd_view.specs.declared.cause.BlockCause.TheVariants as by_blocks
use Rattle.hd_view.specs.declared.cause.Growth.{Growth}
use Rattle.hd_view.specs.declared.cause.Growth.TheVariants as which
use Rattle.hd_view.specs.declared.cause.Cause.TheVariants as cause
use Rattle.hd_view.specs.declared.cause.SlotCause.TheVariants as by_slot
use Rattle.hd_view.specs.declared.sets.NumberSet.{NumberSet}
use Rattle.hd_view.proofs.AcceptedSets.{one_least}
use Rattle.hd_view.proofs.CauseFacts.{reads_as}
use Rattle.hd_view.proofs.ReplyWords.{address_begins, values_apart}
use Rattle.std.specs.Prelude.{codes}

no_value : {A : Type 0} (o : Option A) → (IsSome o → ⊥) → o ≡ None
no_value None none = refl
no_value (Some x) none = absurd (none refl)

abbrev pub is_back : Grown → Bool
is_back Zero = false
is_back (One block) = false
is_back (Two block other) = false
is_back (Back block) = true

abbrev given_back : Grown → ℕ
given_back Zero = 0
given_back (One block) = 0
given_back (Two block other) = 0
given_back (Back block) = block

pub is_there : {A : Type 0} (o : Option A) → is_some o ≡ true → o ≢ None
is_there o some none = true≢false (sym some ∙ ap is_some none)

pub is_absent : {A : Type 0} (o : Option A) → is_some o ≡ false → o ≡ None
is_absent None none = refl
is_absent (Some x) some = absurd (true≢false some)

-- ---- of the only entry that goes on as the line does

module _ (k : Known) (p : Parts) (entry : Entry) (only : IsOnlyLike k p entry) where
  pub marks_replied : IsReplied k p
  marks_replied = record { entry = entry; next = only.next; like = only.like }

  pub marks_with : entry.grown ≡ p.grown → IsGrown k p
  marks_with same = record { entry = entry; next = only.next; like = only.like; grown = same }

  pub marks_needless : entry.grown ≡ p.grown → entry.slot ≡ None → p.slot ≢ None
      → Explains k p (cause.Slot by_slot.Needless)
  marks_needless same none some = λ line is wrong. (
    marks_with same,
    (some, λ e may has. ap (λ (x : Entry). x.slot) (only.only e may has) ∙ none),
  )

  pub marks_missing : entry.grown ≡ p.grown → (own : Slot) → entry.slot ≡ Some own → p.slot ≡ None
      → Explains k p (cause.Slot by_slot.Missing)
  marks_missing same own some none = λ line is wrong. (
    marks_with same,
    (
      none,
      λ e may has absent.
          none-some own (sym absent ∙ ap (λ (x : Entry). x.slot) (only.only e may has) ∙ some),
    ),
  )

  pub marks_slot : (own : Slot) → entry.slot ≡ Some own → EachLike k p (λ e. e.slot ≡ Some own)
  marks_slot own some = λ e may has. ap (λ (x : Entry). x.slot) (only.only e may has) ∙ some

  pub marks_grown : EachLike k p (λ e. e.grown ≡ entry.grown)
  marks_grown = λ e may has. ap (λ (x : Entry). x.grown) (only.only e may has)

  pub marks_read : p.slot ≡ entry.slot → entry.grown ≡ p.grown → Explains k p cause.Spelled
  marks_read slot grown = reads_as k p entry only.next only.number only.like slot (sym grown)

-- two slots are the same where their numbers are
pub same_slot : (a b : Slot) → a.0 ≡ b.0 → Some a ≡ Some b
same_slot a b same = ap (λ (x : ℕ). Some (record { 0 = x })) same

pub other_number : (a b : Slot) (o : Option Slot) → o ≡ Some a → (a.0 ≡ b.0 → ⊥) → o ≢ Some b
other_number a b o is differs same = differs (ap (λ (s : Slot). s.0) (same_Some a b (sym is ∙ same)))

-- the first slot of a block, by its number
pub first_of : (slot : Slot) (block : ℕ) → slot.0 / ROWS ≡ block → slot.0 % ROWS ≡ 0 → slot ≡ first_slot block
first_of slot block over none = ap (λ (x : ℕ). record { 0 = x }) at
  where
    at : slot.0 ≡ block * ROWS
    at = omega (arith, over, none)

-- ---- the least block without a use

module _ (k : Known) (block : ℕ) where
  -- it is the one that is found
  pub least_is : (found : ℕ) → IsLeastUnused k.numbers k.state 1 found
      → (eqb found block ≡ true) ↔ IsLeastUnused k.numbers k.state 1 block
  least_is found is = (
    λ same. subst (λ b. IsLeastUnused k.numbers k.state 1 b) (eqb-true found block same) is,
    λ least. eq-eqb found block (one_least k.numbers k.state 1 found block is least),
  )

  pub none_least : ((b : ℕ) → 1 ≤ b → b ≤ k.numbers.blocks → IsSome (use_of k.state b))
      → IsLeastUnused k.numbers k.state 1 block → ⊥
  none_least all least =
      true≢false (sym (all block least.low least.high) ∙ ap is_some least.unused)

-- ---- by a slot

-- what grows a table gives a slot
pub growth_gives : (k : Known) (kind : Kind) (g : Grown) → IsGrowthFor k.numbers k.state kind g → g ≢ Zero
    → MayGiveSome k kind
growth_gives k kind Zero is some = absurd (some refl)
growth_gives k kind (One block) is some = (first_slot block, (One block, (is.0, is.1, refl)))
growth_gives k kind (Two block other) is some =
    (first_slot block, (Two block other, (is.0, is.1, is.2, refl)))
growth_gives k kind (Back block) is some = absurd is

module _ (k : Known) (p : Parts) (kind : Kind) (next : IsSlotNext k p kind) where
  pub not_done : (IsLike p reply.Done → ⊥) → Explains k p cause.Reply
  not_done none = λ line is wrong e may has. none (subst (IsLike p) (next.each e may has).3 has)

  -- where no slot may be given no entry has the line's reply
  pub none_given : (MayGiveSome k kind → ⊥) → NoneLike k p
  none_given none = λ e may has.
      let each = next.each e may has in
      none (each.0, (e.grown, each.2))

-- where one may be
module _ (k : Known) (p : Parts) (kind : Kind) (d : IsDoneNext k p kind) where
  pub replied : IsReplied k p
  replied =
      let found = d.next.next d.some.0 d.some.1.0 d.some.1.1 in
      record { entry = found.0; next = found.1; like = subst (IsLike p) (sym found.4) d.like }

  pub grown_by : (slot : Slot) → MayGive k.numbers k.state kind p.grown slot → IsGrown k p
  grown_by slot may =
      let found = d.next.next slot p.grown may in
      record {
        entry = found.0;
        next = found.1;
        like = subst (IsLike p) (sym found.4) d.like;
        grown = found.3;
      }

  -- a slot that may be given with these blocks
  pub given_reads : (slot : Slot) → p.slot ≡ Some slot → MayGive k.numbers k.state kind p.grown slot
      → Explains k p cause.Spelled
  given_reads slot slot_is may =
      let found = d.next.next slot p.grown may in
      reads_as k p found.0 found.1 d.next.number (subst (IsLike p) (sym found.4) d.like) (slot_is ∙ sym found.2)
      (sym found.3)

  pub no_slot : IsGrown k p → p.slot ≡ None → Explains k p (cause.Slot by_slot.Missing)
  no_slot grown none = λ line is wrong. (
    grown,
    (
      none,
      λ e may has absent.
          let each = d.next.each e may has in
          none-some each.0 (sym absent ∙ each.1),
    ),
  )

  -- no entry that goes on as the line does has its blocks
  not_these : ((slot : Slot) → MayGive k.numbers k.state kind p.grown slot → ⊥)
      → EachLike k p (λ e. e.grown ≢ p.grown)
  not_these none = λ e may has same.
      let each = d.next.each e may has in
      none each.0 (subst (λ g. MayGive k.numbers k.state kind g each.0) same each.2)

  pub other_blocks : ((slot : Slot) → MayGive k.numbers k.state kind p.grown slot → ⊥)
      → Explains k p (cause.Blocks by_blocks.Other)
  other_blocks none = λ line is wrong. (replied, not_these none)

  -- each of them grows, where no slot is free
  pub blocks_missing : p.grown ≡ Zero → ((slot : Slot) × IsFree k.state kind slot → ⊥)
      → Explains k p (cause.Blocks by_blocks.Missing)
  blocks_missing zero none = λ line is wrong. (
    replied,
    (
      zero,
      λ e may has same. not_these
          (λ slot may. none (slot, subst (λ g. MayGive k.numbers k.state kind g slot) zero may)) e may has
          (same ∙ sym zero),
    ),
  )

  -- no entry has the slot without growth, where it is not free
  pub no_entry : (slot : Slot) → p.slot ≡ Some slot → p.grown ≡ Zero → (IsFree k.state kind slot → ⊥)
      → IsNoneOfDue k p slot
  no_entry slot slot_is zero taken = record {
    stated = slot_is;
    none = λ e may has its grown.
        let each = d.next.each e may has in
        taken (subst (λ s. IsFree k.state kind s) (same_Some each.0 slot (sym each.1 ∙ its))
        (subst (λ g. MayGive k.numbers k.state kind g each.0) (grown ∙ zero) each.2));
  }

  -- no entry has the blocks that the line states, which are as many as the kind needs
  pub other_growth : FitsKind p.grown kind → ((slot : Slot) → MayGive k.numbers k.state kind p.grown slot → ⊥)
      → IsOtherGrowth k p
  other_growth fits none = record { kind = kind; due = d.next.due; fits = fits; none = not_these none }

pub kind_differs : (s : State) (kind : Kind) (slot : Slot) → (IsFree s kind slot → ⊥)
    → (IsSome (handle_at s slot) ⊎ IsSome (get s.weak slot.0) → ⊥)
    → use_of s (block_of slot) ≢ Some (handles_of kind)
kind_differs s kind slot taken unused of =
    taken (record {
      no_handle = no_value (handle_at s slot) (λ some. unused (inl some));
      not_weak = no_value (get s.weak slot.0) (λ some. unused (inr some));
      of_kind = of;
    })

-- by one block, and by two
module _ (k : Known) (p : Parts) (kind : Kind) (d : IsDoneNext k p kind) where
  -- what a growth by these blocks gives
  abbrev Gives : Grown → Slot → Type 0
  Gives g slot = MayGive k.numbers k.state kind g slot

  pub one_paired : (block : ℕ) → p.grown ≡ One block → is_paired kind ≡ true
      → Explains k p (cause.Blocks by_blocks.Other)
  one_paired block is paired =
      other_blocks k p kind d
      (λ slot may. let its = subst (λ g. Gives g slot) is may in true≢false (sym paired ∙ its.0))

  pub two_alone : (block other : ℕ) → p.grown ≡ Two block other → is_paired kind ≡ false
      → Explains k p (cause.Blocks by_blocks.Other)
  two_alone block other is alone =
      other_blocks k p kind d
      (λ slot may. let its = subst (λ g. Gives g slot) is may in true≢false (sym its.0 ∙ alone))

  -- a stated block that has a use
  in_use : (block : ℕ) → IsStated p.grown block → FitsKind p.grown kind → IsSome (use_of k.state block)
      → ((slot : Slot) → Gives p.grown slot → use_of k.state block ≡ None)
      → Explains k p (cause.Blocks (by_blocks.InUse block))
  in_use block stated fits some unused = λ line right wrong. (
    replied k p kind d,
    (
      stated,
      some,
      other_growth k p kind d fits (λ slot may. true≢false (sym some ∙ ap is_some (unused slot may))),
    ),
  )

  pub one_in_use : (block : ℕ) → p.grown ≡ One block → is_paired kind ≡ false → IsSome (use_of k.state block)
      → Explains k p (cause.Blocks (by_blocks.InUse block))
  one_in_use block is alone some =
      in_use block (subst (λ g. IsStated g block) (sym is) refl) (subst (λ g. FitsKind g kind) (sym is) alone) some
      (λ slot may. (subst (λ g. Gives g slot) is may).1.unused)

  pub first_in_use : (block other : ℕ) → p.grown ≡ Two block other → is_paired kind ≡ true
      → IsSome (use_of k.state block) → Explains k p (cause.Blocks (by_blocks.InUse block))
  first_in_use block other is paired some =
      in_use block (subst (λ g. IsStated g block) (sym is) (inl refl))
      (subst (λ g. FitsKind g kind) (sym is) paired) some
      (λ slot may. (subst (λ g. Gives g slot) is may).1.unused)

  pub second_in_use : (block other : ℕ) → p.grown ≡ Two block other → is_paired kind ≡ true
      → IsSome (use_of k.state other) → Explains k p (cause.Blocks (by_blocks.InUse other))
  second_in_use block other is paired some =
      in_use other (subst (λ g. IsStated g other) (sym is) (inr refl))
      (subst (λ g. FitsKind g kind) (sym is) paired) some
      (λ slot may. (subst (λ g. Gives g slot) is may).2.unused)

  -- a stated block that is looked at
  pub one_growing : (block : ℕ) → p.grown ≡ One block → is_paired kind ≡ false
      → IsGrowing k p kind which.Only block 1 block
  one_growing block is alone = record {
    done = d;
    fits = subst (λ g. FitsKind g kind) (sym is) alone;
    new_is = ap first_stated is;
    wants = λ s may. (subst (λ g. Gives g s) is may).1;
    other = λ least its differs. subst (λ g. IsLeastOf k g which.Only least) (sym is) (its, differs);
    gives = λ least. subst (λ g. Gives g (first_slot block)) (sym is) (alone, least, refl);
  }

  pub first_growing : (block other : ℕ) → p.grown ≡ Two block other → is_paired kind ≡ true
      → (IsLeastUnused k.numbers k.state 1 block → ⊥) → IsGrowing k p kind which.First block 1 block
  first_growing block other is paired none = record {
    done = d;
    fits = subst (λ g. FitsKind g kind) (sym is) paired;
    new_is = ap first_stated is;
    wants = λ s may. (subst (λ g. Gives g s) is may).1;
    other = λ least its differs. subst (λ g. IsLeastOf k g which.First least) (sym is) (its, differs);
    gives = λ least. absurd (none least);
  }

  pub second_growing : (block other : ℕ) → p.grown ≡ Two block other → is_paired kind ≡ true
      → IsLeastUnused k.numbers k.state 1 block → IsGrowing k p kind which.Second other (block + 1) block
  second_growing block other is paired first = record {
    done = d;
    fits = subst (λ g. FitsKind g kind) (sym is) paired;
    new_is = ap first_stated is;
    wants = λ s may. (subst (λ g. Gives g s) is may).2;
    other = λ least its differs. subst (λ g. IsLeastOf k g which.Second least) (sym is) (first, its, differs);
    gives = λ second. subst (λ g. Gives g (first_slot block)) (sym is) (paired, first, second, refl);
  }

-- the blocks of a growth
module _ (k : Known) (p : Parts) (kind : Kind) (growth : Growth) (block from new : ℕ)
    (g : IsGrowing k p kind growth block from new) where
  pub none_left : ((b : ℕ) → from ≤ b → b ≤ k.numbers.blocks → IsSome (use_of k.state b))
      → Explains k p (cause.Blocks by_blocks.Other)
  none_left all =
      other_blocks k p kind g.done
      (λ s may. let least = g.wants s may in
      true≢false (sym (all block least.low least.high) ∙ ap is_some least.unused))

  pub not_least : (least : ℕ) → IsLeastUnused k.numbers k.state from least → block ≢ least
      → Explains k p (cause.Blocks (by_blocks.NotLeast growth least))
  not_least least its differs = λ line is wrong. (
    replied k p kind g.done,
    (
      g.other least its differs,
      other_growth k p kind g.done g.fits (λ s may.
          differs (one_least k.numbers k.state from block least (g.wants s may) its)),
    ),
  )

  -- where they are right
  module _ (least : IsLeastUnused k.numbers k.state from block) where
    right : IsGrown k p
    right = grown_by k p kind g.done (first_slot new) (g.gives least)

    pub growth_missing : p.slot ≡ None → Explains k p (cause.Slot by_slot.Missing)
    growth_missing none = no_slot k p kind g.done right none

    pub first_reads : (slot : Slot) → p.slot ≡ Some slot → slot ≡ first_slot new → Explains k p cause.Spelled
    first_reads slot slot_is same =
        given_reads k p kind g.done slot slot_is
        (subst (λ (s : Slot). MayGive k.numbers k.state kind p.grown s) (sym same) (g.gives least))

    pub not_first : (slot : Slot) → p.slot ≡ Some slot → (slot ≡ first_slot new → ⊥)
        → Explains k p (cause.Slot (by_slot.NotFirst new))
    not_first slot slot_is differs = λ line is wrong. (
      right,
      record {
        kind = kind;
        due = g.done.next.due;
        first = g.new_is;
        other = λ same. differs (same_Some slot (first_slot new) (sym slot_is ∙ same));
      },
    )

-- ---- by an address

module _ (k : Known) (p : Parts) (id : Id) (free : NumberSet) (next : IsAddressNext k p id free) where
  pub no_address : (begins p.tail (codes "addr ") ≡ true → ⊥) → Explains k p cause.Reply
  no_address none = λ line is wrong e may has.
      let each = next.each e may in
      none (address_begins p.tail each.0 (subst (λ r. HasReply p.tail r) each.2 has.0))

  pub address_taken : (IsMember free p.address → ⊥) → Explains k p (cause.AddressTaken p.address)
  address_taken none = λ line is wrong. record {
    none = λ e may has. let each = next.each e may in none (subst (IsMember free) (has.1 each.0 each.2) each.1);
    stated = refl;
    object = id;
    due = next.due;
    taken = λ free_at.
        let e : Entry = record {
          caller = p.caller;
          cmd = next.due.0;
          slot = None;
          grown = Zero;
          reply = reply.Place p.address;
        } in
        let step = (next.due.2 e refl refl).1 (p.address, free_at, refl, refl, refl) in
        let each = next.each e (record { caller = refl; due = next.due.1; after = step.0; step = step.1 }) in
        let both : reply.Place each.0 ≡ reply.Place p.address = sym each.2 in
        let at : each.0 ≡ p.address = cc in
        none (subst (IsMember free) at each.1);
  }

  pub no_like : (IsLike p (reply.Place p.address) → ⊥) → Explains k p cause.Reply
  no_like none = λ line is wrong e may has.
      let each = next.each e may in
      none (subst (IsLike p) (each.2 ∙ ap reply.Place (has.1 each.0 each.2)) has)

  pub address_grows : EachLike k p (λ e. e.grown ≡ Zero)
  address_grows = λ e may has. (next.each e may).4

  -- where the address is free
  module _ (member : IsMember free p.address) (like : IsLike p (reply.Place p.address)) where
    its : IsLike p (next.next p.address member).0.reply
    its = subst (IsLike p) (sym (next.next p.address member).4) like

    pub address_replied : IsReplied k p
    address_replied = let found = next.next p.address member in
        record { entry = found.0; next = found.1; like = its }

    pub address_slot : Zero ≡ p.grown → p.slot ≢ None → Explains k p (cause.Slot by_slot.Needless)
    address_slot zero some = λ line is wrong.
        let found = next.next p.address member in (
          record { entry = found.0; next = found.1; like = its; grown = found.3 ∙ zero },
          (some, λ e may has. (next.each e may).3),
        )

    pub address_reads : p.slot ≡ None → Zero ≡ p.grown → Explains k p cause.Spelled
    address_reads none zero =
        let found = next.next p.address member in
        reads_as k p found.0 found.1 next.number its (none ∙ sym found.2) (sym zero ∙ sym found.3)

-- ---- by a block that is given back

module _ (k : Known) (p : Parts) (kind : Kind) (next : IsBlockNext k p kind) where
  pub not_given : (block : ℕ) → p.grown ≡ Back block → (IsAllFree k.state kind block → ⊥)
      → IsNotGiven k p block kind
  not_given block is taken =
      record { stated = is; due = next.due; none = λ e may has same. by e same (next.each e may) }
    where
      by : (e : Entry) → e.grown ≡ Back block → GivesBlock k.state kind e → ⊥
      by e same (inl b) = taken (subst (IsAllFree k.state kind) (ap given_back (sym b.4 ∙ same)) b.1)
      by e same (inr none) = true≢false (sym (ap is_back same) ∙ ap is_back none.2)

  pub no_value_reply : (IsLike p (reply.Value 0) → ⊥) → (IsLike p (reply.Value 1) → ⊥)
      → Explains k p cause.Reply
  no_value_reply zero one = λ line is wrong e may has. by e has (next.each e may)
    where
      by : (e : Entry) → IsLike p e.reply → GivesBlock k.state kind e → ⊥
      by e has (inl b) = one (subst (IsLike p) b.2 has)
      by e has (inr none) = zero (subst (IsLike p) none.0 has)

  block_slot : IsGrown k p → p.slot ≢ None → Explains k p (cause.Slot by_slot.Needless)
  block_slot grown some = λ line is wrong. (grown, (some, λ e may has. by e (next.each e may)))
    where
      by : (e : Entry) → GivesBlock k.state kind e → e.slot ≡ None
      by e (inl b) = b.3
      by e (inr none) = none.1

  -- where the line gives back none
  module _ (zero : IsLike p (reply.Value 0)) where
    like_none : IsLike p next.none.0.reply
    like_none = subst (IsLike p) (sym next.none.4) zero

    pub none_replied : IsReplied k p
    none_replied = record { entry = next.none.0; next = next.none.1; like = like_none }

    pub none_grows : EachLike k p (λ e. e.grown ≡ Zero)
    none_grows = λ e may has. by e has (next.each e may)
      where
        by : (e : Entry) → IsLike p e.reply → GivesBlock k.state kind e → e.grown ≡ Zero
        by e has (inl b) = absurd (values_apart p.tail zero.0 (subst (λ r. HasReply p.tail r) b.2 has.0))
        by e has (inr none) = none.2

    pub none_slot : Zero ≡ p.grown → p.slot ≢ None → Explains k p (cause.Slot by_slot.Needless)
    none_slot grown some =
        block_slot
        (record { entry = next.none.0; next = next.none.1; like = like_none; grown = next.none.3 ∙ grown }) some

    pub none_reads : p.slot ≡ None → Zero ≡ p.grown → Explains k p cause.Spelled
    none_reads none grown =
        reads_as k p next.none.0 next.none.1 next.number like_none (none ∙ sym next.none.2)
        (sym grown ∙ sym next.none.3)

  -- where it gives back one
  module _ (one : IsLike p (reply.Value 1)) where
    back_grows : (e : Entry) → IsLike p e.reply → GivesBlock k.state kind e
        → (is_back e.grown ≡ true) × ((block : ℕ) × IsAllFree k.state kind block)
    back_grows e has (inl b) = (ap is_back b.4, (b.0, b.1))
    back_grows e has (inr none) =
        absurd (values_apart p.tail (subst (λ r. HasReply p.tail r) none.0 has.0) one.0)

    pub no_whole : ((block : ℕ) × IsAllFree k.state kind block → ⊥) → Explains k p cause.Reply
    no_whole none = λ line is wrong e may has. none (back_grows e has (next.each e may)).1

    pub back_replied : (block : ℕ) → IsAllFree k.state kind block → IsReplied k p
    back_replied block free =
        let found = next.next block free in
        record { entry = found.0; next = found.1; like = subst (IsLike p) (sym found.4) one }

    pub back_missing : IsReplied k p → p.grown ≡ Zero → Explains k p (cause.Blocks by_blocks.Missing)
    back_missing replied zero = λ line is wrong. (
      replied,
      (
        zero,
        λ e may has same.
            true≢false (sym (back_grows e has (next.each e may)).0 ∙ ap is_back same),
      ),
    )

    pub back_other : IsReplied k p → is_back p.grown ≡ false → Explains k p (cause.Blocks by_blocks.Other)
    back_other replied other = λ line is wrong. (
      replied,
      λ e may has same.
          true≢false (sym (back_grows e has (next.each e may)).0 ∙ ap is_back same ∙ other),
    )

    module _ (block : ℕ) (free : IsAllFree k.state kind block) (grown : p.grown ≡ Back block) where
      pub back_slot : p.slot ≢ None → Explains k p (cause.Slot by_slot.Needless)
      back_slot some =
          let found = next.next block free in
          block_slot
          (record {
            entry = found.0;
            next = found.1;
            like = subst (IsLike p) (sym found.4) one;
            grown = found.3 ∙ sym grown;
          }) some

      pub back_reads : p.slot ≡ None → Explains k p cause.Spelled
      back_reads none =
          let found = next.next block free in
          reads_as k p found.0 found.1 next.number (subst (IsLike p) (sym found.4) one) (none ∙ sym found.2)
          (grown ∙ sym found.3)
