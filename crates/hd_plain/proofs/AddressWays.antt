-- How `addr` goes by its way.
use Rattle.std.proofs.Common.{Bool, None, Option, Some, ap, cond, false, nat_cmp, refl, subst, sym, true, ℕ, ◌∙◌, ◌≡◌}
use Rattle.std.proofs.lemmas.Bool.{cases_eq}
use Rattle.std.proofs.lemmas.Option.{none-some, same_Some}
use Rattle.std.specs.Cmp.{nat_cmp_total}
use Rattle.std.specs.FinMap.{FinMap, get, insert, nat_cmp-IsAntisymmetric, same_map}
use Rattle.std.specs.Option.{option_map_or}
use Rattle.std.specs.Prelude.{Err, MatchOption, Ok, Result, if◌then◌else◌, option_and_then}
use mathlib.Core.Logic.{inl, inr}
use Rattle.hd_model.specs.declared.command.Cmd.{Cmd}
use Rattle.hd_model.specs.declared.data.Entry.{Entry}
use Rattle.hd_model.specs.declared.data.Grown.TheVariants.{Zero}
use Rattle.hd_model.specs.declared.data.Id.{Id}
use Rattle.hd_model.specs.declared.data.Refusal.{Refusal}
use Rattle.hd_model.specs.declared.data.Refusal.TheVariants as refusal
use Rattle.hd_model.specs.declared.data.Reply.TheVariants as reply
use Rattle.hd_model.specs.declared.data.Slot.{Slot}
use Rattle.hd_model.specs.Command.{Outcome, reply_address, reply_with, refuses}
use Rattle.hd_model.specs.PinnedAddresses.{IsFreeAddress, MayReturn}
use Rattle.hd_model.specs.Role.{pins}
use Rattle.hd_model.specs.State.{Handle, State, handle_at, handle_register_of, with_address}
use Rattle.hd_model.specs.Step.{RepliesAddress, IsOutcome, replies_address, pinned_by, pinned_target}
use Rattle.hd_model.proofs.ReadAfterWrite.{get_inserted, get_beside}
use Rattle.hd_plain.specs.declared.choice.Choice.{Choice}
use Rattle.hd_plain.specs.MachineViews.{MachineView}
use Rattle.hd_commands.specs.Handles.{pinned_in}
use Rattle.hd_plain.specs.ChosenSteps.{WayComesTo}
use Rattle.hd_commands.specs.Done.{entry_by}
use Rattle.hd_commands.specs.Done.{done_of}
use Rattle.hd_plain.proofs.StepWays.{same_entry}

-- to put what is there changes nothing
insert_same : {A : Type 0} (m : FinMap nat_cmp A) (k : ℕ) (v : A) → get m k ≡ Some v → insert m k v ≡ m
insert_same m k v is =
    same_map nat_cmp_total nat_cmp-IsAntisymmetric (insert m k v) m (λ q. elim (cases_eq q k) [
      | inl same ↦ ap (get (insert m k v)) same ∙ get_inserted m k v ∙ sym is ∙ ap (get m) (sym same)
      | inr ne ↦ get_beside m k v q ne
    ])

abbrev ok_of : Result Id Refusal → Option Id
ok_of (Ok id) = Some id
ok_of (Err refused) = None

-- what `addr` comes to with an address, by what is pinned
abbrev of_pinned : State → ℕ → Result Id Refusal → Outcome
of_pinned s p (Ok id) = reply_with (reply.Place p) (with_address s id p)
of_pinned s p (Err refused) = refuses refused s

module _ (s : State) where
  abbrev pin_target : Option Id → Result Id Refusal
  pin_target o = option_map_or Ok o (Err refusal.Null)

  abbrev pin_handle : Handle Id → Result Id Refusal
  pin_handle handle = if pins handle then pin_target handle.target else Err refusal.WrongKind

  abbrev pin_live : Option (Handle Id) → Result Id Refusal
  pin_live o = option_map_or pin_handle o (Err refusal.NotLive)

  abbrev pin_slot : Option Slot → Result Id Refusal
  pin_slot o = option_map_or (λ slot. pin_live (handle_at s slot)) o (Err refusal.EmptyRegister)

  module _ (p : ℕ) where
    by_target : (o : Option Id)
        → option_map_or (λ id. reply_with (reply.Place p) (with_address s id p)) o (refuses refusal.Null s)
        ≡ of_pinned s p (pin_target o)
    by_target None = refl
    by_target (Some id) = refl

    by_pins : (b : Bool) (o : Option Id)
        → (if b
        then option_map_or (λ id. reply_with (reply.Place p) (with_address s id p)) o (refuses refusal.Null s)
        else refuses refusal.WrongKind s)
        ≡ of_pinned s p (if b then pin_target o else Err refusal.WrongKind)
    by_pins true o = by_target o
    by_pins false o = refl

    by_live : (o : Option (Handle Id))
        → option_map_or
        (λ (handle : Handle Id). if pins handle
        then option_map_or (λ id. reply_with (reply.Place p) (with_address s id p)) handle.target
        (refuses refusal.Null s)
        else refuses refusal.WrongKind s)
        o (refuses refusal.NotLive s)
        ≡ of_pinned s p (pin_live o)
    by_live None = refl
    by_live (Some handle) = by_pins (pins handle) handle.target

    by_slot : (o : Option Slot)
        → option_map_or
        (λ slot. option_map_or
        (λ (handle : Handle Id). if pins handle
        then option_map_or (λ id. reply_with (reply.Place p) (with_address s id p)) handle.target
        (refuses refusal.Null s)
        else refuses refusal.WrongKind s)
        (handle_at s slot) (refuses refusal.NotLive s))
        o (refuses refusal.EmptyRegister s)
        ≡ of_pinned s p (pin_slot o)
    by_slot None = refl
    by_slot (Some slot) = by_live (handle_at s slot)

  whole : (caller h p : ℕ) → reply_address s caller h p ≡ of_pinned s p (pinned_in s caller h)
  whole caller h p = by_slot p (handle_register_of s caller h)

  target_pins : (b : Bool) (o : Option Id)
      → cond b o None ≡ ok_of (if b then pin_target o else Err refusal.WrongKind)
  target_pins true None = refl
  target_pins true (Some id) = refl
  target_pins false o = refl

  target_live : (o : Option (Handle Id)) → pinned_by o ≡ ok_of (pin_live o)
  target_live None = refl
  target_live (Some handle) = target_pins (pins handle) handle.target

  target_slot : (o : Option Slot)
      → option_and_then (λ slot. pinned_by (handle_at s slot)) o ≡ ok_of (pin_slot o)
  target_slot None = refl
  target_slot (Some slot) = target_live (handle_at s slot)

  target : (caller h : ℕ) → pinned_target s caller h ≡ ok_of (pinned_in s caller h)
  target caller h = target_slot (handle_register_of s caller h)

module _ (caller h : ℕ) (choice : Choice) (old : MachineView) where
  -- the outcome of another entry of the way
  pub outcome_of : (e : Entry) (after : State) (found : Result Id Refusal) → e.caller ≡ caller
      → pinned_in old.state caller h ≡ found → (is : RepliesAddress old.state e after h)
      → IsOutcome e (of_pinned old.state is.address found) after
  outcome_of e after found by pinned is =
      subst (λ w. IsOutcome e w after)
      (ap (λ k. reply_address old.state k h is.address) by ∙ whole old.state caller h is.address
      ∙ ap (of_pinned old.state is.address) pinned) is.outcome

  its_target : (e : Entry) (id : Id) → e.caller ≡ caller → pinned_in old.state caller h ≡ Ok id
      → pinned_target old.state e.caller h ≡ Some id
  its_target e id by pinned =
      ap (λ k. pinned_target old.state k h) by ∙ target old.state caller h ∙ ap ok_of pinned

  pub addr_refused : (refused : Refusal) → pinned_in old.state caller h ≡ Err refused
      → WayComesTo caller (replies_address h) choice old old (Some (Err refused))
  addr_refused refused pinned = λ c.
      let mine = whole old.state caller h 0 ∙ ap (of_pinned old.state 0) pinned in
      record {
        does = record {
          address = 0;
          may = λ id is. absurd
              (none-some id (sym (target old.state caller h ∙ ap ok_of pinned) ∙ is));
          outcome = record {
            reply = ap (λ (w : Outcome). w.reply) (sym mine);
            slot = ap (λ (w : Outcome). w.slot) (sym mine);
            grown = refl;
            after = ap (λ (w : Outcome). w.after) (sym mine);
          };
        };
        numbers = refl;
        only = λ e after is by of chosen.
            let same = outcome_of e after (Err refused) by pinned is in
            same_entry e caller c (done_of (Err refused)) by of same.slot same.grown same.reply;
      }

  pub at_address : (c : Cmd) (new : MachineView) (id : Id) (p : ℕ) → pinned_in old.state caller h ≡ Ok id
      → MayReturn old.state id p → new.state ≡ with_address old.state id p
      → RepliesAddress old.state
      (entry_by caller c (record { reply = reply.Place p; slot = None; grown = Zero })) new.state h
  at_address c new id p pinned may after =
      let mine = whole old.state caller h p ∙ ap (of_pinned old.state p) pinned in
      record {
        address = p;
        may = λ other is. subst (λ x. MayReturn old.state x p)
            (same_Some id other (sym (target old.state caller h ∙ ap ok_of pinned) ∙ is)) may;
        outcome = record {
          reply = ap (λ (w : Outcome). w.reply) (sym mine);
          slot = ap (λ (w : Outcome). w.slot) (sym mine);
          grown = refl;
          after = after ∙ ap (λ (w : Outcome). w.after) (sym mine);
        };
      }

  only_address : (c : Cmd) (id : Id) (p : ℕ) → pinned_in old.state caller h ≡ Ok id
      → (e : Entry) (after : State)
      → (is : RepliesAddress old.state e after h) → e.caller ≡ caller → e.cmd ≡ c → is.address ≡ p
      → e ≡ entry_by caller c (record { reply = reply.Place p; slot = None; grown = Zero })
  only_address c id p pinned e after is by of same =
      let outcome = outcome_of e after (Ok id) by pinned is in
      same_entry e caller c (record { reply = reply.Place p; slot = None; grown = Zero }) by of outcome.slot
      outcome.grown (outcome.reply ∙ ap reply.Place same)

  pub may_of : (id : Id) (e : Entry) (after : State) → pinned_in old.state caller h ≡ Ok id
      → e.caller ≡ caller
      → (is : RepliesAddress old.state e after h) → MayReturn old.state id is.address
  may_of id e after pinned by is = is.may id (its_target e id by pinned)

  -- the object has a pinned address
  pub addr_again : (id : Id) (own : ℕ) → pinned_in old.state caller h ≡ Ok id
      → get old.state.pinned id.0 ≡ Some own
      → WayComesTo caller (replies_address h) choice old old
      (Some (Ok (record { reply = reply.Place own; slot = None; grown = Zero })))
  addr_again id own pinned has = λ c. record {
    does = at_address c old id own pinned
        (subst (λ o. MatchOption o (IsFreeAddress old.state id own) (λ x. own ≡ x)) (sym has) refl)
        (ap (λ m. record old.state { pinned = m }) (sym (insert_same old.state.pinned id.0 own has)));
    numbers = refl;
    only = λ e after is by of chosen.
        only_address c id own pinned e after is by of
        (subst (λ o. MatchOption o (IsFreeAddress old.state id is.address) (λ x. is.address ≡ x)) has
        (may_of id e after pinned by is));
  }

  -- it has none, and the line's address is free
  pub addr_given : (new : MachineView) (id : Id) → pinned_in old.state caller h ≡ Ok id
      → get old.state.pinned id.0 ≡ None → IsFreeAddress old.state id choice.address
      → new ≡ record old { state = with_address old.state id choice.address }
      → WayComesTo caller (replies_address h) choice old new
      (Some (Ok (record { reply = reply.Place choice.address; slot = None; grown = Zero })))
  addr_given new id pinned none free after = λ c. record {
    does = at_address c new id choice.address pinned
        (subst (λ o. MatchOption o (IsFreeAddress old.state id choice.address) (λ x. choice.address ≡ x))
        (sym none) free)
        (ap (λ (j : MachineView). j.state) after);
    numbers = ap (λ (j : MachineView). j.numbers) after;
    only = λ e left is by of chosen.
        only_address c id choice.address pinned e left is by of
        (sym (chosen.address is.address (outcome_of e left (Ok id) by pinned is).reply));
  }
