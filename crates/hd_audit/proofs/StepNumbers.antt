-- The numbers of a step's entry that are read off its line are below 2^32.
use Rattle.std.proofs.Common.{cond, IsSome, MatchOption, None, Option, Some, ap, arith, is_some, refl, subst, sym, true, true≢false, ℕ, ⊎_elim, ◌*◌, ◌+◌, ◌<◌, ◌^◌, ◌∙◌, ◌≡◌, ◌≤◌, nat_lt, length, option_and_then, unwrap_or}
use Rattle.std.proofs.lemmas.Option.{none-some, same_Some}
use Rattle.std.specs.FinMap.{get}
use Rattle.hd_model.specs.declared.command.Cmd.{Cmd}
use Rattle.hd_model.specs.declared.data.Entry.{Entry}
use Rattle.hd_model.specs.declared.data.Grown.{Grown}
use Rattle.hd_model.specs.declared.data.Id.{Id}
use Rattle.hd_model.specs.declared.data.Kind.{Kind}
use Rattle.hd_model.specs.declared.data.Refusal.{Refusal}
use Rattle.hd_model.specs.declared.data.Reply.{Reply}
use Rattle.hd_model.specs.declared.data.Slot.{Slot}
use Rattle.hd_model.specs.declared.command.Cmd.TheVariants as cmd
use Rattle.hd_model.specs.declared.data.Grown.TheVariants.{Zero, One, Two, Back}
use Rattle.hd_model.specs.declared.data.Kind.TheVariants as kind
use Rattle.hd_model.specs.declared.data.Reply.TheVariants as reply
use Rattle.hd_model.specs.declared.data.Refusal.TheVariants as refusal
use Rattle.hd_model.specs.Anchors.{ReturnsRoot}
use Rattle.hd_model.specs.Command.{Outcome, reply_with, refuses}
use Rattle.hd_model.specs.PinnedAddresses.{IsFreeAddress, MayReturn}
use Rattle.hd_model.specs.Role.{pins}
use Rattle.hd_model.specs.State.{Handle, IsAllFree, IsFree, Numbers, State, block_of, first_slot, handle_at, handle_register_of, object_by_id, total_size, use_of}
use Rattle.hd_model.specs.Step.{RepliesAddress, FindsTableFull, IsOutcome, MayGive, Step, TakesWay, Way, adds_entry, replies_address, replies_root, collects, decided, gives_back, makes_handle, makes_object, pinned_by, pinned_target, way_of}
use Rattle.hd_model.specs.UserLaws.{HasPinnedApart}
use Rattle.hd_model.specs.WellFormed.{IsWellFormed}
use Rattle.hd_model.specs.Kinds.{kind_of}
use Rattle.hd_model.proofs.DecidedOutcomes.{DecidedHas, IsDecided, decided_has}
use Rattle.hd_model.proofs.WeakSlots.{idle_found}
use Rattle.hd_model.proofs.Outcomes.{on_handle_cases, on_object_cases, option_cases, test_cases}
use Rattle.hd_audit.proofs.ChoiceLines.{IsLow, IsLowGrowth, IsLowSlot}
use Rattle.hd_model.specs.declared.limits.TheConstants.{BLOCKS, CALLERS, ROWS}

-- the address in a reply
abbrev address_of : Reply → Option ℕ
address_of (reply.Place p) = Some p
address_of (reply.Object id) = None
address_of (reply.Value n) = None
address_of (reply.Generation g) = None
address_of (reply.Report r) = None
address_of (reply.Chain from edges) = None
address_of (reply.Refused r) = None
address_of reply.Done = None
address_of reply.Nothing = None
address_of reply.NoneQueued = None
address_of reply.Absent = None
address_of reply.Unrooted = None

no_address : (r : Reply) → IsDecided r → address_of r ≡ None
no_address (reply.Place p) h = absurd h
no_address (reply.Refused r) h = refl
no_address r h = refl

-- an outcome with a low slot and no address
record IsPlain (o : Outcome) : Type 0 where
  slot : IsLowSlot o.slot
  reply : address_of o.reply ≡ None

plain : (r : Reply) (s : State) → address_of r ≡ None → IsPlain (reply_with r s)
plain r s is = record { slot = tt; reply = is }

is_there : {A : Type 0} (x : Option A) (d : A) → IsSome x → x ≡ Some (unwrap_or x d)
is_there None d h = absurd (true≢false (sym h))
is_there (Some x) d h = refl

root_is : {s : State} (goal : Id) (r : Reply) → ReturnsRoot s goal r → address_of r ≡ None
root_is goal r is_root = ⊎_elim (λ chain. ap address_of chain.reply_is) (λ none. ap address_of none.1) is_root

module _ (n : Numbers) (s : State) (w : IsWellFormed n s) (few : n.blocks ≤ BLOCKS) where
  used_low : (slot : Slot) → IsSome (use_of s (block_of slot)) → slot.0 < 2 ^ 32
  used_low slot used = let within = (w.handles.blocks (block_of slot) used).1 in omega (arith, within, few)

  handle_low : (slot : Slot) (handle : Handle Id) → handle_at s slot ≡ Some handle → slot.0 < 2 ^ 32
  handle_low slot handle is = used_low slot (ap is_some (w.handles.kinds slot.0 handle is))

  weak_low : (slot : Slot) → IsSome (get s.weak slot.0) → slot.0 < 2 ^ 32
  weak_low slot is = used_low slot (ap is_some (w.weak.kinds slot.0 is))

  free_low : (wanted : Kind) (slot : Slot) → IsFree s wanted slot → slot.0 < 2 ^ 32
  free_low wanted slot free = used_low slot (ap is_some free.of_kind)

  first_low : (slot : Slot) (block : ℕ) → block ≤ n.blocks → slot ≡ first_slot block → slot.0 < 2 ^ 32
  first_low slot block within is =
      let number : slot.0 ≡ block * ROWS = ap (λ (x : Slot). x.0) is in omega (arith, number, within, few)

  given_low : (wanted : Kind) (grown : Grown) (slot : Slot) → MayGive n s wanted grown slot
      → (slot.0 < 2 ^ 32) × IsLowGrowth grown
  given_low wanted Zero slot may = (free_low wanted slot may, tt)
  given_low wanted (One block) slot may =
      (first_low slot block may.1.high may.2, omega (arith, may.1.high, few))
  given_low wanted (Two block other) slot may = (
    first_low slot block may.1.high may.3,
    (omega (arith, may.1.high, few), omega (arith, may.2.high, few)),
  )
  given_low wanted (Back block) slot may = absurd may

  all_free_low : (wanted : Kind) (block : ℕ) → IsAllFree s wanted block → block < 2 ^ 32
  all_free_low wanted block free =
      let same : block_of (first_slot block) ≡ block = omega arith in
      let its_use = (free (first_slot block) same).of_kind in
      let used : IsSome (use_of s block) =
      subst (λ b. IsSome (use_of s b)) same (ap is_some its_use) in
      omega (arith, (w.handles.blocks block used).1, few)

  refused : (r : Refusal) → IsPlain (refuses r s)
  refused r = plain (reply.Refused r) s refl

  way_plain : (caller : ℕ) (c : Cmd) → DecidedHas IsPlain (way_of s caller c)
  way_plain caller =
      decided_has IsPlain s caller (λ r t h. plain r t (no_address r h))
      (λ slot handle live t. record { slot = handle_low slot handle live; reply = refl })
      (λ v slot key is. record { slot = weak_low slot (ap is_some (idle_found s slot is)); reply = refl })

  -- the numbers of an entry that are read off its line
  record HasLow (e : Entry) : Type 0 where
    slot : IsLowSlot e.slot
    grown : IsLowGrowth e.grown
    address : (p : ℕ) → e.reply ≡ reply.Place p → p < 2 ^ 32

  none_returned : (r : Reply) → address_of r ≡ None → (p : ℕ) → r ≡ reply.Place p → p < 2 ^ 32
  none_returned r is p address = absurd (none-some p (sym is ∙ ap address_of address))

  of_plain : (e : Entry) (o : Outcome) (t : State) → IsPlain o → IsOutcome e o t → HasLow e
  of_plain e o t low is = record {
    slot = subst IsLowSlot (sym is.slot) low.slot;
    grown = subst IsLowGrowth (sym is.grown) tt;
    address = none_returned e.reply (ap address_of is.reply ∙ low.reply);
  }

  of_given : (wanted : Kind) (e : Entry) (slot : Slot) → e.slot ≡ Some slot
      → MayGive n s wanted e.grown slot → e.reply ≡ reply.Done → HasLow e
  of_given wanted e slot is may replies =
      let low = given_low wanted e.grown slot may in record {
        slot = subst IsLowSlot (sym is) low.0;
        grown = low.1;
        address = none_returned e.reply (ap address_of replies);
      }

  of_full : (wanted : Kind) (e : Entry) (t : State) → FindsTableFull n s e t wanted → HasLow e
  of_full wanted e t full = of_plain e _ t (refused _) full.refused

  module _ (apart : HasPinnedApart s) where
    may_low : (id : Id) (p : ℕ) → MayReturn s id p → p < 2 ^ 32
    may_low id p may = by (get s.pinned id.0) refl may
      where
        by : (o : Option ℕ) → get s.pinned id.0 ≡ o
            → MatchOption o (IsFreeAddress s id p) (λ own. p ≡ own) → p < 2 ^ 32
        by None none free = free.small
        by (Some own) some same =
            let object = object_by_id s id in
            let low : own < 2 ^ 32 = apart.small id own (own + (length object.fields + 3)) (record {
              object = object;
              is_stored = is_there (get s.objects id.0) _ (w.names.pinned id.0 (ap is_some some));
              address = some;
              end_is = refl;
            }) in
            subst (λ k. k < 2 ^ 32) (sym same) low

    -- `addr`
    found : (caller h : ℕ) (slot : Slot) (handle : Handle Id) (id : Id)
        → handle_register_of s caller h ≡ Some slot → handle_at s slot ≡ Some handle → pins handle ≡ true
        → handle.target ≡ Some id → pinned_target s caller h ≡ Some id
    found caller h slot handle id f g same target =
        ap (option_and_then (λ x. pinned_by (handle_at s x))) f ∙ ap pinned_by g
        ∙ ap (λ b. cond b handle.target None) same ∙ target

    of_address : (e : Entry) (t : State) (h : ℕ) → RepliesAddress s e t h → HasLow e
    of_address e t h a =
        let Low : Outcome → Type 0 = λ o. IsOutcome e o t → HasLow e in
        let lost : (r : Refusal) → Low (refuses r s) = λ r. of_plain e _ t (refused r) in
        on_handle_cases Low s e.caller h _ (λ _. lost _) (λ _ _ _. lost _)
        (λ slot handle f g. test_cases Low (pins handle) _ _
        (λ same. option_cases Low _ handle.target _ (λ _. lost _)
        (λ id target is. record {
          slot = subst IsLowSlot (sym is.slot) tt;
          grown = subst IsLowGrowth (sym is.grown) tt;
          address = λ p placed. subst (λ k. k < 2 ^ 32)
              (same_Some a.address p (sym (ap address_of is.reply) ∙ ap address_of placed))
              (may_low id a.address (a.may id (found e.caller h slot handle id f g same target)));
        })) (λ _. lost _)) a.outcome

    of_way : (e : Entry) (t : State) (way : Way) → DecidedHas IsPlain way → TakesWay n s e t way → HasLow e
    of_way e t (decided o) low is = of_plain e o t low is
    of_way e t (makes_object d fields fin) low is =
        of_plain e _ t (test_cases IsPlain (nat_lt n.heap (total_size s + (fields + 3))) _ _ (λ _. refused _)
        (λ _. plain _ _ refl)) is.1
    of_way e t (makes_handle d make r) low is =
        ⊎_elim (λ m. of_given (kind_of make) e m.slot m.given m.may m.reply)
        (of_full (kind_of make) e t) is
    of_way e t (collects k) low is = record {
      slot = subst IsLowSlot (sym is.slot) tt;
      grown = subst IsLowGrowth (sym is.grown) tt;
      address = none_returned e.reply (ap address_of is.reply);
    }
    of_way e t (replies_address h) low is = of_address e t h is
    of_way e t (gives_back wanted) low is =
        ⊎_elim (λ g. record {
          slot = subst IsLowSlot (sym g.slot) tt;
          grown = subst IsLowGrowth (sym g.grown) (all_free_low wanted g.block g.free);
          address = none_returned e.reply (ap address_of g.reply);
        }) (of_plain e _ t (plain _ s refl)) is
    of_way e t (adds_entry v key) low is =
        ⊎_elim (λ a. of_given kind.Dependent e a.slot a.given a.may a.reply)
        (of_full kind.Dependent e t) is
    of_way e t (replies_root r) low is =
        of_plain e _ t (on_object_cases IsPlain s e.caller r _ (λ _. refused _)
        (λ goal named. plain is.found s (root_is goal is.found (is.is_root goal named)))) is.outcome

    -- the numbers of a step's entry that are read off its line are below 2^32
    pub step_low : (e : Entry) (t : State) → n.callers ≤ CALLERS → Step n s e t → IsLow e
    step_low e t callers step =
        let low = of_way e t (way_of s e.caller e.cmd) (way_plain e.caller e.cmd) step.does in
        record {
          caller = let known = step.caller in omega (arith, known, callers);
          slot = low.slot;
          grown = low.grown;
          address = low.address;
        }
