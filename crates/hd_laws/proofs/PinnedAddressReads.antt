-- A pinned address is returned again, as long as its object is pinned.
use Rattle.hd_model.specs.{declared.command.Cmd.Cmd, declared.data.Entry.Entry, declared.data.Id.Id, declared.data.Reply.Reply, declared.data.Slot.Slot}
use Rattle.hd_model.proofs.Basics.{RepliesAddress, Bool, Handle, IsFreeAddress, IsPinned, MatchOption, MayReturn, None, Numbers, Outcome, Some, State, Step, reply_address, reply_with, ap, cond, false, get, handle_at, if◌then◌else◌, is_pinned, option_and_then, option_map_or, pinned_by, pinned_target, pins, refl, refuses, subst, sym, true, true≢false, with_address, ℕ, ◌∙◌, ◌≡◌}
use Rattle.hd_laws.proofs.Basics.{PinnedAddressIsReadBack, PinsBy, AddressIsReturnedAgain, Unpins}
use Rattle.hd_model.proofs.{ReadAfterWrite.write_cases, ReadAfterWrite.get_inserted, PinTest.pinned_decides, StepWrites.still, StepWrites.same_id, StateReadBack.step_of}
use Rattle.hd_model.proofs.Effects.{Effect, collects, replies_address}
use Rattle.hd_model.specs.declared.data.Refusal.TheVariants as refusal
use Rattle.hd_model.specs.declared.data.Reply.TheVariants as reply
use Rattle.hd_model.specs.declared.command.Cmd.TheVariants as cmd

module _ (s : State) (caller h : ℕ) (id : Id) (by : PinsBy s caller h id) where
  -- what the register's handle pins
  pub pinned_is : pinned_target s caller h ≡ Some id
  pinned_is =
      ap (option_and_then (λ x. pinned_by (handle_at s x))) by.has ∙ ap pinned_by by.live
      ∙ ap (λ b. cond b by.handle.target None) by.pins ∙ by.target

  -- what `addr` of it returns
  pub reply_is : (p : ℕ) → reply_address s caller h p ≡ reply_with (reply.Place p) (with_address s id p)
  reply_is p =
      let on : Slot → Handle Id → Outcome = λ slot handle. if pins handle then (
      option_map_or (λ x. reply_with (reply.Place p) (with_address s x p)) handle.target
      (refuses refusal.Null s))
      else refuses refusal.WrongKind s in
      ap (λ r. option_map_or (λ slot. option_map_or (on slot) (handle_at s slot)
      (refuses refusal.NotLive s)) r
      (refuses refusal.EmptyRegister s)) by.has
      ∙ ap (λ r. option_map_or (on by.slot) r (refuses refusal.NotLive s)) by.live
      ∙ ap (λ b. if b then (option_map_or (λ x. reply_with (reply.Place p) (with_address s x p))
      by.handle.target
      (refuses refusal.Null s)) else refuses refusal.WrongKind s) by.pins
      ∙ ap (λ r. option_map_or (λ x. reply_with (reply.Place p) (with_address s x p)) r
      (refuses refusal.Null s))
      by.target

  -- the register's handle is one that pins the object
  pub pinned_by_it : IsPinned (λ slot. get s.handles slot) id
  pinned_by_it = record {
    slot = by.slot.0;
    handle = by.handle;
    is_stored = by.live;
    pins = by.pins;
    target = by.target;
  }

-- for an object that has a pinned address, only that one may be returned
own_address : (s : State) (x : Id) (p q : ℕ) → get s.pinned x.0 ≡ Some p → MayReturn s x q → q ≡ p
own_address s x p q has may = subst (λ o. MatchOption o (IsFreeAddress s x q) (λ own. q ≡ own)) has may

pub address_is_returned_again : AddressIsReturnedAgain
address_is_returned_again n s t e h id p step is by has =
    let does : RepliesAddress s e t h = step_of n s e t (cmd.AddrOf h) step is in
    let same : does.address ≡ p =
    own_address s id p does.address has (does.may id (pinned_is s e.caller h id by)) in
    does.outcome.reply ∙ ap (λ (o : Outcome). o.reply) (reply_is s e.caller h id by does.address)
    ∙ ap reply.Place same

pub same_number : {r : Reply} {p q : ℕ} → r ≡ reply.Place p → r ≡ reply.Place q → p ≡ q
same_number a b = cc

-- `addr` gives the object the pinned address that it returns
address_put : (n : Numbers) (s : State) (e : Entry) (t : State) (h : ℕ) (id : Id) (p : ℕ) → Step n s e t
    → e.cmd ≡ cmd.AddrOf h → PinsBy s e.caller h id → e.reply ≡ reply.Place p
    → (get t.pinned id.0 ≡ Some p) × (t.handles ≡ s.handles)
address_put n s e t h id p step is by returned =
    let does : RepliesAddress s e t h = step_of n s e t (cmd.AddrOf h) step is in
    let comes = reply_is s e.caller h id by does.address in
    let same : does.address ≡ p =
    same_number (does.outcome.reply ∙ ap (λ (o : Outcome). o.reply) comes) returned in
    let after : t ≡ with_address s id does.address =
    does.outcome.after ∙ ap (λ (o : Outcome). o.after) comes in (
      ap (λ (x : State). get x.pinned id.0)
          after ∙ get_inserted s.pinned id.0 does.address ∙ ap Some same,
      ap (λ (x : State). x.handles) after,
    )

-- a pinned object keeps its address
module _ (n : Numbers) (s : State) (e : Entry) (id : Id) (p : ℕ) where
  address_stays : (c : Cmd) (t : State) → Effect n s e c t → is_pinned s.handles id.0 ≡ true
      → get s.pinned id.0 ≡ Some p → get t.pinned id.0 ≡ Some p
  address_stays c t (replies_address slot handle other q f target may r) pinned has =
      write_cases s.pinned other.0 (λ o. o ≡ Some p) q id.0
      (λ same. ap Some (own_address s id p q has (subst (λ x. MayReturn s x q) (sym
      (same_id id other same)) may)))
      has
  address_stays c t (collects did) pinned has =
      did.collects.pinned id.0 ∙ ap (λ b. cond b (get s.pinned id.0) None) pinned ∙ has
  address_stays c t _ pinned has = has

-- pinned, and at an address
abbrev At : Id → ℕ → State → Type 0
At id p s = (is_pinned s.handles id.0 ≡ true) × (get s.pinned id.0 ≡ Some p)

-- what is not unpinned is pinned
pinned_still : (s : State) (e : Entry) (t : State) (id : Id) → (Unpins id s e t → ⊥)
    → is_pinned t.handles id.0 ≡ true
pinned_still s e t id not =
    by (is_pinned t.handles id.0) (λ off. not (λ x. true≢false
    (sym ((pinned_decides t.handles id).1 x) ∙ off)))
  where
    by : (b : Bool) → (b ≡ false → ⊥) → b ≡ true
    by true h = refl
    by false h = absurd (h refl)

pub pinned_address_is_read_back : PinnedAddressIsReadBack
pinned_address_is_read_back n old now new first reading id h k p since is by returned step reads reading_by =
    let put = address_put n old first since.after h id p since.first is by returned in
    let pinned : is_pinned since.after.handles id.0 ≡ true =
    ap (λ m. is_pinned m id.0) put.1
    ∙ (pinned_decides old.handles id).1 (pinned_by_it old first.caller h id by)
    in
    let at = still (At id p) (λ s e t w did apart had. (
      pinned_still s e t id apart,
      address_stays n s e id p e.cmd t did had.0 had.1,
    )) since (pinned, put.0) in
    address_is_returned_again n now new reading k id p step reads reading_by at.1.1
