-- The entries that are named are exactly those that a command may have.
use Rattle.std.proofs.Common.{List, None, Option, Some, ap, arith, false, refl, subst, sym, true, ℕ, ⊎_elim, ◌+◌, ◌<◌, ◌∙◌, ◌≡◌, ◌≤◌}
use Rattle.std.specs.Prelude.{Bool, IsSome, is_some, ◌≢◌}
use Rattle.std.proofs.lemmas.Bool.{cases_lt, true≢false}
use Rattle.std.proofs.lemmas.Option.{none-some, same_Some}
use mathlib.Core.Logic.{inl, inr}
use Rattle.hd_model.specs.declared.command.Cmd.{Cmd}
use Rattle.hd_model.specs.declared.data.Entry.{Entry}
use Rattle.hd_model.specs.declared.data.Grown.{Grown}
use Rattle.hd_model.specs.declared.data.Grown.TheVariants.{Zero, One, Two, Back}
use Rattle.hd_model.specs.declared.data.Id.{Id}
use Rattle.hd_model.specs.declared.data.Kind.{Kind}
use Rattle.hd_model.specs.declared.data.Refusal.TheVariants as refusal
use Rattle.hd_model.specs.declared.data.Reply.TheVariants as reply
use Rattle.hd_model.specs.declared.data.Slot.{Slot}
use Rattle.hd_model.specs.PinnedAddresses.{IsFreeAddress}
use Rattle.hd_model.specs.State.{Numbers, State, IsAllFree, IsFree, first_slot, given_of, use_of}
use Rattle.hd_model.specs.Step.{IsLeastUnused, MayGive, blocks_needed}
use Rattle.hd_audit.specs.Before.{GivesBlock, IsBefore, IsGrowthFor, ReturnsFree, TakesSlot}
use Rattle.hd_plain.specs.OneEntry.{HasExactly, HasOne}
use Rattle.hd_audit.specs.Known.{Known}
use Rattle.hd_audit.proofs.LinesBefore.{one_state_before}
use Rattle.hd_view.specs.{Accepted.IsFullOf, Accepted.IsNamed, Inside.IsGrownOf, Inside.grown_by}
use Rattle.hd_view.specs.Inside.{Has}
use Rattle.hd_view.specs.declared.accepted.Accepted.TheVariants as accepted
use Rattle.hd_view.specs.declared.sets.NumberSet.{NumberSet}

-- ---- one entry, found from a state that was made once more

pub same_one : (n : Numbers) (lists : List (List Cmd)) (lines : List (List ℕ)) (j k : Known)
    → IsBefore n lists lines j → IsBefore n lists lines k → (caller : ℕ) (c : Cmd) (e : Entry)
    → HasOne j.numbers j.state caller c e → HasOne k.numbers k.state caller c e
same_one n lists lines j k a b caller c e one =
    let states : j.state ≡ k.state = one_state_before n lists lines j k a b in
    let numbers : j.numbers ≡ k.numbers = a.numbers ∙ sym b.numbers in
    subst (λ (s : State). HasOne k.numbers s caller c e) states
    (subst (λ (m : Numbers). HasOne m j.state caller c e) numbers one)

-- ---- the blocks of a growth

abbrev pub is_zero : Grown → Bool
is_zero Zero = true
is_zero (One block) = false
is_zero (Two block other) = false
is_zero (Back block) = false

pub some_growth : (g : Grown) → is_zero g ≡ false → g ≢ Zero
some_growth g some zero = true≢false (sym (ap is_zero zero) ∙ some)

-- there is one least block from a number on
pub one_least : (n : Numbers) (s : State) (from a b : ℕ) → IsLeastUnused n s from a → IsLeastUnused n s from b
    → a ≡ b
one_least n s from a b x y =
    ⊎_elim (λ less. absurd (used a x (y.least a x.low less)))
    (λ le. ⊎_elim (λ more. absurd (used b y (x.least b y.low more))) (λ ge. omega (arith, le, ge))
    (cases_lt b a)) (cases_lt a b)
  where
    used : (block : ℕ) → IsLeastUnused n s from block → IsSome (use_of s block) → ⊥
    used block least some = true≢false (sym some ∙ ap is_some least.unused)

-- two growths of one kind are the same, and give the same slot
pub same_growth : (n : Numbers) (s : State) (kind : Kind) (g h : Grown) (a b : Slot) → MayGive n s kind g a
    → MayGive n s kind h b → g ≢ Zero → h ≢ Zero → (g ≡ h) × (a ≡ b)
same_growth n s kind Zero h a b x y some other = absurd (some refl)
same_growth n s kind (One block) Zero a b x y some other = absurd (other refl)
same_growth n s kind (Two block second) Zero a b x y some other = absurd (other refl)
same_growth n s kind (Back block) h a b x y some other = absurd x
same_growth n s kind (One block) (Back third) a b x y some other = absurd y
same_growth n s kind (Two block second) (Back third) a b x y some other = absurd y
same_growth n s kind (One block) (Two third second) a b x y some other = absurd (true≢false (sym y.0 ∙ x.0))
same_growth n s kind (Two block second) (One third) a b x y some other = absurd (true≢false (sym x.0 ∙ y.0))
same_growth n s kind (One block) (One third) a b x y some other =
    let same : block ≡ third = one_least n s 1 block third x.1 y.1 in
    (ap One same, x.2 ∙ ap first_slot same ∙ sym y.2)
same_growth n s kind (Two block second) (Two third fourth) a b x y some other =
    let same : block ≡ third = one_least n s 1 block third x.1 y.1 in
    let next : second ≡ fourth =
    one_least n s (third + 1) second fourth (subst (λ m. IsLeastUnused n s (m + 1) second) same x.2) y.2 in
    (λ i. Two (same i) (next i), x.3 ∙ ap first_slot same ∙ sym y.3)

module _ (k : Known) (kind : Kind) (caller : ℕ) (c : Cmd) where
  abbrev n : Numbers
  n = k.numbers

  abbrev s : State
  s = k.state

  -- where the table cannot grow
  pub grown_none : IsGrowthFor n s kind Zero → IsGrownOf k kind caller c None
  grown_none none = λ e by of. (
    λ h. absurd (h.4 (none e.grown h.0 h.2)),
    λ is. absurd (none-some e is),
  )

  -- where it can: one entry grows it
  pub grown_some : (block : ℕ) (grown : Grown) → MayGive n s kind grown (first_slot block) → grown ≢ Zero
      → IsGrownOf k kind caller c (Some (grown_by caller c block grown))
  grown_some block grown may some = λ e by of. (
    λ h.
        let same = same_growth n s kind e.grown grown h.0 (first_slot block) h.2 may h.4 some in
        ap Some (λ i. record {
          caller = sym by i;
          cmd = sym of i;
          slot = sym (h.1 ∙ ap Some same.1) i;
          grown = sym same.0 i;
          reply = sym h.3 i;
        }),
    λ is. let same = same_Some (grown_by caller c block grown) e is in (
      first_slot block,
      ap (λ (x : Entry). x.slot) (sym same),
      subst (λ g. MayGive n s kind g (first_slot block)) (ap (λ (x : Entry). x.grown) same) may,
      ap (λ (x : Entry). x.reply) (sym same),
      λ zero. some (ap (λ (x : Entry). x.grown) same ∙ zero),
    ),
  )

  -- ---- a full table

  abbrev full_by : Entry
  full_by = record {
    caller = caller;
    cmd = c;
    slot = None;
    grown = Zero;
    reply = reply.Refused (refusal.TableFull (given_of s));
  }

  pub full_none : given_of s + blocks_needed kind ≤ n.blocks → IsFullOf k kind caller c None
  full_none room = λ e by of. (
    λ h. absurd (omega (arith, room, h.0)),
    λ is. absurd (none-some e is),
  )

  pub full_some : n.blocks < given_of s + blocks_needed kind → IsFullOf k kind caller c (Some full_by)
  full_some few = λ e by of. (
    λ h. ap Some (λ i. record {
      caller = sym by i;
      cmd = sym of i;
      slot = sym h.2 i;
      grown = sym h.3 i;
      reply = sym h.1 i;
    }),
    λ is. let same = same_Some full_by e is in (
      few,
      ap (λ (x : Entry). x.reply) (sym same),
      ap (λ (x : Entry). x.slot) (sym same),
      ap (λ (x : Entry). x.grown) (sym same),
    ),
  )

  -- ---- all of it

  pub slots_named : (free : NumberSet) (grown full : Option Entry)
      → Has free (λ x. IsFree s kind (record { 0 = x })) → IsGrownOf k kind caller c grown
      → IsFullOf k kind caller c full → HasExactly n s caller c (TakesSlot n s kind)
      → HasExactly n s caller c (IsNamed (accepted.Slots kind free grown full))
  slots_named free grown full has grows fills exactly = λ e by of. (
    λ step. there e by of ((exactly e by of).0 step),
    λ named. (exactly e by of).1 (back e by of named),
  )
    where
      by_growth : (e : Entry) → e.caller ≡ caller → e.cmd ≡ c → (slot : Slot) → e.slot ≡ Some slot
          → MayGive n s kind e.grown slot → e.reply ≡ reply.Done → (g : Grown) → e.grown ≡ g
          → IsNamed (accepted.Slots kind free grown full) e
      by_growth e by of slot is may replied Zero grew =
          inl (
            slot,
            (has slot.0).1 (subst (λ g. MayGive n s kind g slot) grew may),
            is,
            grew,
            replied,
          )
      by_growth e by of slot is may replied (One b) grew =
          inr (inl ((grows e by of).0 (slot, is, may, replied, some_growth e.grown (ap is_zero grew))))
      by_growth e by of slot is may replied (Two b other) grew =
          inr (inl ((grows e by of).0 (slot, is, may, replied, some_growth e.grown (ap is_zero grew))))
      by_growth e by of slot is may replied (Back b) grew =
          absurd (subst (λ g. MayGive n s kind g slot) grew may)

      there : (e : Entry) → e.caller ≡ caller → e.cmd ≡ c → TakesSlot n s kind e
          → IsNamed (accepted.Slots kind free grown full) e
      there e by of (inl g) = by_growth e by of g.0 g.1 g.2 g.3 e.grown refl
      there e by of (inr f) = inr (inr ((fills e by of).0 f))

      back : (e : Entry) → e.caller ≡ caller → e.cmd ≡ c → IsNamed (accepted.Slots kind free grown full) e
          → TakesSlot n s kind e
      back e by of (inl g) =
          inl (g.0, g.2, subst (λ x. MayGive n s kind x g.0) (sym g.3) ((has g.0.0).0 g.1), g.4)
      back e by of (inr (inl is)) = let h = (grows e by of).1 is in inl (h.0, h.1, h.2, h.3)
      back e by of (inr (inr is)) = inr ((fills e by of).1 is)

  pub blocks_named : (free : NumberSet) → Has free (λ x. IsAllFree s kind x)
      → HasExactly n s caller c (GivesBlock s kind)
      → HasExactly n s caller c (IsNamed (accepted.Blocks kind free))
  blocks_named free has exactly = λ e by of. (
    λ step. there e ((exactly e by of).0 step),
    λ named. (exactly e by of).1 (back e named),
  )
    where
      there : (e : Entry) → GivesBlock s kind e → IsNamed (accepted.Blocks kind free) e
      there e (inl b) = inl (b.0, (has b.0).1 b.1, b.2, b.3, b.4)
      there e (inr none) = inr none

      back : (e : Entry) → IsNamed (accepted.Blocks kind free) e → GivesBlock s kind e
      back e (inl b) = inl (b.0, (has b.0).0 b.1, b.2, b.3, b.4)
      back e (inr none) = inr none

pub addresses_named : (k : Known) (caller : ℕ) (c : Cmd) (id : Id) (free : NumberSet)
    → Has free (λ x. IsFreeAddress k.state id x)
    → HasExactly k.numbers k.state caller c (ReturnsFree k.state id)
    → HasExactly k.numbers k.state caller c (IsNamed (accepted.Addresses id free))
addresses_named k caller c id free has exactly = λ e by of. (
  λ step. let r = (exactly e by of).0 step in (r.0, (has r.0).1 r.1, r.2, r.3, r.4),
  λ named. (exactly e by of).1 (named.0, (has named.0).0 named.1, named.2, named.3, named.4),
)
