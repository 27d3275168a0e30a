-- The entries that a command may have, by the way that it goes.
use Rattle.std.proofs.Common.{None, Option, Some, ap, refl, subst, sym, ℕ, ◌<◌, ◌∙◌, ◌≡◌}
use Rattle.std.specs.Prelude.{Err, MatchOption, Ok}
use Rattle.std.specs.Option.{option_map_or}
use mathlib.Core.Logic.{inl, inr}
use Rattle.std.specs.FinMap.{get}
use Rattle.hd_model.specs.declared.command.Cmd.{Cmd}
use Rattle.hd_model.specs.declared.command.Cmd.TheVariants as cmd
use Rattle.hd_model.specs.declared.data.Entry.{Entry}
use Rattle.hd_model.specs.declared.data.Grown.TheVariants.{Zero}
use Rattle.hd_model.specs.declared.data.Id.{Id}
use Rattle.hd_model.specs.declared.data.Kind.{Kind}
use Rattle.hd_model.specs.declared.data.Kind.TheVariants as kind
use Rattle.hd_model.specs.declared.data.Make.{Make}
use Rattle.hd_model.specs.declared.data.Refusal.{Refusal}
use Rattle.hd_model.specs.declared.data.Refusal.TheVariants as refusal
use Rattle.hd_model.specs.declared.data.Reply.TheVariants as reply
use Rattle.hd_model.specs.declared.data.Slot.{Slot}
use Rattle.hd_model.specs.Command.{Adding, Outcome, add_entry, adding_key, adding_of, idle_slot, in_idle, in_new, is_refused, refuses, slot_of_key, with_entry}
use Rattle.hd_model.specs.Kinds.{kind_of}
use Rattle.hd_model.specs.PinnedAddresses.{IsFreeAddress}
use Rattle.hd_model.specs.State.{Numbers, State, register_of, with_address, without_use}
use Rattle.hd_model.specs.Step.{TakesWay, adds_entry, decided, gives_back, makes_handle, replies_address, way_of, way_of_adding, with_growth, with_made}
use Rattle.hd_model.specs.Valid.{IsValid}
use Rattle.hd_plain.specs.declared.choice.Choice.{Choice}
use Rattle.hd_commands.specs.declared.done.Done.{Done}
use Rattle.hd_audit.specs.Before.{GivesBlock, ReturnsFree, TakesSlot}
use Rattle.hd_plain.specs.OneEntry.{HasExactly, HasOne}
use Rattle.hd_commands.specs.Handles.{pinned_in}
use Rattle.hd_commands.specs.Done.{entry_by}
use Rattle.hd_commands.specs.Done.{done_of}
use Rattle.hd_plain.specs.MachineViews.{MachineView}
use Rattle.hd_plain.proofs.AddressWays.{at_address, may_of, outcome_of, addr_again, addr_refused}
use Rattle.hd_plain.proofs.StepWays.{same_entry}
use Rattle.hd_plain.proofs.EntriesByWay.{by_way, one_entry}

module _ (n : Numbers) (s : State) (caller : ℕ) (c : Cmd) (known : caller < n.callers) (valid : IsValid c)
  where
    -- one entry, where the state decides its outcome
    outcome_one : (wanted : Outcome) (made : Done) → way_of s caller c ≡ decided wanted
        → made ≡ record { reply = wanted.reply; slot = wanted.slot; grown = Zero }
        → HasOne n s caller c (entry_by caller c made)
    outcome_one wanted made is same = record {
      caller_is = refl;
      command = refl;
      only = by_way n s caller c known valid (decided wanted) is (λ e. e ≡ entry_by caller c made)
          (λ e t by of out. same_entry e caller c made by of
          (out.slot ∙ sym (ap (λ (m : Done). m.slot) same))
          (out.grown ∙ sym (ap (λ (m : Done). m.grown) same))
          (out.reply ∙ sym (ap (λ (m : Done). m.reply) same)))
          (λ e by of eq. (
            wanted.after,
            record {
              reply = ap (λ (x : Entry). x.reply) eq ∙ ap (λ (m : Done). m.reply) same;
              slot = ap (λ (x : Entry). x.slot) eq ∙ ap (λ (m : Done). m.slot) same;
              grown = ap (λ (x : Entry). x.grown) eq ∙ ap (λ (m : Done). m.grown) same;
              after = refl;
            },
          ));
    }

    -- a new handle gets a slot
    pub slot_of_handle : (d : ℕ) (make : Make) (t : ℕ) → way_of s caller c ≡ makes_handle d make t
        → HasExactly n s caller c (TakesSlot n s (kind_of make))
    slot_of_handle d make t is =
        by_way n s caller c known valid (makes_handle d make t) is (TakesSlot n s (kind_of make)) there back
      where
        there : (e : Entry) (after : State) → e.caller ≡ caller → e.cmd ≡ c
            → TakesWay n s e after (makes_handle d make t) → TakesSlot n s (kind_of make) e
        there e after by of (inl m) = inl (m.slot, m.given, m.may, m.reply)
        there e after by of (inr full) =
            inr (full.few, full.refused.reply, full.refused.slot, full.refused.grown)

        back : (e : Entry) → e.caller ≡ caller → e.cmd ≡ c → TakesSlot n s (kind_of make) e
            → (after : State) × TakesWay n s e after (makes_handle d make t)
        back e by of (inl g) = (
          with_made s e.caller e.grown d make t g.0,
          inl (record { slot = g.0; given = g.1; may = g.2; reply = g.3; after = refl }),
        )
        back e by of (inr full) = (
          s,
          inr (record {
            few = full.0;
            refused = record { reply = full.1; slot = full.2; grown = full.3; after = refl };
          }),
        )

    -- an entry of the weak table gets one
    slot_of_entry : (v : ℕ) (key : Id) → way_of s caller c ≡ adds_entry v key
        → HasExactly n s caller c (TakesSlot n s kind.Dependent)
    slot_of_entry v key is = by_way n s caller c known valid (adds_entry v key) is (TakesSlot n s kind.Dependent) there back
      where
        there : (e : Entry) (after : State) → e.caller ≡ caller → e.cmd ≡ c
            → TakesWay n s e after (adds_entry v key) → TakesSlot n s kind.Dependent e
        there e after by of (inl m) = inl (m.slot, m.given, m.may, m.reply)
        there e after by of (inr full) =
            inr (full.few, full.refused.reply, full.refused.slot, full.refused.grown)

        back : (e : Entry) → e.caller ≡ caller → e.cmd ≡ c → TakesSlot n s kind.Dependent e
            → (after : State) × TakesWay n s e after (adds_entry v key)
        back e by of (inl g) = (
          with_entry (with_growth s kind.Dependent e.grown) s e.caller v g.0 key,
          inl (record { slot = g.0; given = g.1; may = g.2; reply = g.3; after = refl }),
        )
        back e by of (inr full) = (
          s,
          inr (record {
            few = full.0;
            refused = record { reply = full.1; slot = full.2; grown = full.3; after = refl };
          }),
        )

    -- a block is given back, or none
    pub block_of_trim : (k : Kind) → way_of s caller c ≡ gives_back k
        → HasExactly n s caller c (GivesBlock s k)
    block_of_trim k is = by_way n s caller c known valid (gives_back k) is (GivesBlock s k) there back
      where
        there : (e : Entry) (after : State) → e.caller ≡ caller → e.cmd ≡ c
            → TakesWay n s e after (gives_back k) → GivesBlock s k e
        there e after by of (inl b) = inl (b.block, b.free, b.reply, b.slot, b.grown)
        there e after by of (inr none) = inr (none.reply, none.slot, none.grown)

        back : (e : Entry) → e.caller ≡ caller → e.cmd ≡ c → GivesBlock s k e
            → (after : State) × TakesWay n s e after (gives_back k)
        back e by of (inl b) = (
          without_use s b.0,
          inl (record {
            block = b.0;
            free = b.1;
            reply = b.2;
            slot = b.3;
            grown = b.4;
            after = refl;
          }),
        )
        back e by of (inr none) =
            (s, inr (record { reply = none.0; slot = none.1; grown = none.2; after = refl }))

    -- ---- `addr`

    module _ (h : ℕ) (is : way_of s caller c ≡ replies_address h) where
      abbrev here : MachineView
      here = record { numbers = n; state = s }

      -- it is refused
      pub address_refused : (refused : Refusal) → pinned_in s caller h ≡ Err refused
          → HasOne n s caller c (entry_by caller c (done_of (Err refused)))
      address_refused refused pinned =
          one_entry n s caller c known valid s (done_of (Err refused)) (λ choice x.
          let its = addr_refused caller h choice here refused pinned x in (
            subst (TakesWay n s (entry_by caller x (done_of (Err refused))) s) (sym is) its.does,
            λ e t takes by of chosen. its.only e t (subst (TakesWay n s e t) is takes) by of chosen,
          ))

      -- it has one
      pub address_again : (id : Id) (own : ℕ) → pinned_in s caller h ≡ Ok id → get s.pinned id.0 ≡ Some own
          → HasOne n s caller c
          (entry_by caller c (record { reply = reply.Place own; slot = None; grown = Zero }))
      address_again id own pinned has =
          let made : Done = record { reply = reply.Place own; slot = None; grown = Zero } in
          one_entry n s caller c known valid s made (λ choice x.
          let its = addr_again caller h choice here id own pinned has x in (
            subst (TakesWay n s (entry_by caller x made) s) (sym is) its.does,
            λ e t takes by of chosen. its.only e t (subst (TakesWay n s e t) is takes) by of chosen,
          ))

      -- it has none
      pub address_free : (id : Id) → pinned_in s caller h ≡ Ok id → get s.pinned id.0 ≡ None
          → HasExactly n s caller c (ReturnsFree s id)
      address_free id pinned none = by_way n s caller c known valid (replies_address h) is (ReturnsFree s id) there back
        where
          any : Choice
          any = record { caller = caller; slot = None; grown = Zero; address = 0 }

          there : (e : Entry) (after : State) → e.caller ≡ caller → e.cmd ≡ c
              → TakesWay n s e after (replies_address h) → ReturnsFree s id e
          there e after by of found =
              let out = outcome_of caller h any here e after (Ok id) by pinned found in (
                found.address,
                subst (λ o. MatchOption o (IsFreeAddress s id found.address) (λ x. found.address ≡ x)) none
                    (may_of caller h any here id e after pinned by found),
                out.reply,
                out.slot,
                out.grown,
              )

          back : (e : Entry) → e.caller ≡ caller → e.cmd ≡ c → ReturnsFree s id e
              → (after : State) × TakesWay n s e after (replies_address h)
          back e by of free =
              let made : Done = record { reply = reply.Place free.0; slot = None; grown = Zero } in
              let same = same_entry e caller c made by of free.3 free.4 free.2 in
              let new : MachineView = record { numbers = n; state = with_address s id free.0 } in (
                with_address s id free.0,
                subst (λ x. TakesWay n s x (with_address s id free.0) (replies_address h)) (sym same)
                    (at_address caller h any here c new id free.0 pinned
                    (subst (λ o. MatchOption o (IsFreeAddress s id free.0) (λ x. free.0 ≡ x)) (sym none)
                    free.1) refl),
              )

-- ---- `cadd`

-- what it meets, by what the state has
module _ (s : State) (caller k : ℕ) where
  abbrev for_key : Option Id → Adding
  for_key o = option_map_or (adding_key s) o (is_refused refusal.Null)

  abbrev for_slot : Id → Option Slot → Adding
  for_slot key o = option_map_or (λ _. is_refused refusal.Present) o
      (option_map_or (λ slot. in_idle slot key) (idle_slot s) (in_new key))

  abbrev for_idle : Id → Option Slot → Adding
  for_idle key o = option_map_or (λ slot. in_idle slot key) o (in_new key)

  pub meets_null : register_of s caller k ≡ None → adding_of s caller k ≡ is_refused refusal.Null
  meets_null none = ap for_key none

  module _ (key : Id) (has : register_of s caller k ≡ Some key) where
    pub meets_present : (slot : Slot) → slot_of_key s key ≡ Some slot
        → adding_of s caller k ≡ is_refused refusal.Present
    meets_present slot there = ap for_key has ∙ ap (for_slot key) there

    module _ (none : slot_of_key s key ≡ None) where
      pub meets_idle : (slot : Slot) → idle_slot s ≡ Some slot → adding_of s caller k ≡ in_idle slot key
      meets_idle slot idle = ap for_key has ∙ ap (for_slot key) none ∙ ap (for_idle key) idle

      pub meets_new : idle_slot s ≡ None → adding_of s caller k ≡ in_new key
      meets_new idle = ap for_key has ∙ ap (for_slot key) none ∙ ap (for_idle key) idle

-- and the entries that it may have
module _ (n : Numbers) (s : State) (caller k v : ℕ) (c : Cmd) (known : caller < n.callers)
    (valid : IsValid c)
    (is : c ≡ cmd.CAdd k v) where
  way_is : (a : Adding) → adding_of s caller k ≡ a → way_of s caller c ≡ way_of_adding s caller v a
  way_is a meets = ap (way_of s caller) is ∙ ap (way_of_adding s caller v) meets

  pub adding_refused : (refused : Refusal) → adding_of s caller k ≡ is_refused refused
      → HasOne n s caller c (entry_by caller c (done_of (Err refused)))
  adding_refused refused meets =
      outcome_one n s caller c known valid (refuses refused s) (done_of (Err refused))
      (way_is (is_refused refused) meets) refl

  pub adding_idle : (slot : Slot) (key : Id) → adding_of s caller k ≡ in_idle slot key
      → HasOne n s caller c
      (entry_by caller c (record { reply = reply.Done; slot = Some slot; grown = Zero }))
  adding_idle slot key meets =
      outcome_one n s caller c known valid (add_entry s caller v slot key)
      (record { reply = reply.Done; slot = Some slot; grown = Zero }) (way_is (in_idle slot key) meets) refl

  pub adding_new : (key : Id) → adding_of s caller k ≡ in_new key
      → HasExactly n s caller c (TakesSlot n s kind.Dependent)
  adding_new key meets = slot_of_entry n s caller c known valid v key (way_is (in_new key) meets)
