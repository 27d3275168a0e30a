-- What each command does where it is not refused, one case for each way.
use Rattle.hd_model.proofs.Basics.{Adding, AddsEntry, RepliesAddress, Back, Bool, Cmd, DoesCollect, Entry, Extra, FitsKind, GivesBack, Grown, Handle, Id, IsAllFree, IsOutcome, IsSome, Kind, List, Make, MakesHandle, MayReturn, MayGive, None, Numbers, Object, One, Option, Outcome, Refusal, Slot, Some, State, Step, StepOf, Strength, TakesWay, Two, Zero, [], adding_key, adding_of, reply_with, ap, board_of, cond, count, count_of, false, field_of, fresh_object, get, handle_at, handle_register_of, identity_of, idle_slot, in_idle, in_new, inl, inr, is_kind, is_some, kind_of, last_serial, length, load_reply, made_handle, object_by_id, on_handle, on_handle_of, option_and_then, pinned_by, pins, refl, refuses, register_of, secondary, secondary_of, set, set_registered, slot_of_key, static_of, strength, subst, sym, take_first, true, value_at, way_of_adding, with_board, with_entry, with_growth, with_handle, with_handle_register, with_object, with_address, with_queue, with_register, with_serial, with_static, with_weak, without_handle, without_secondary, without_use, ℕ, ⊎_elim, ◌&&◌, ◌+◌, ◌-◌, ◌<◌, ◌==◌, ◌^◌, ◌∙◌, ◌∷◌, ◌≡◌, ◌⊎◌}
use Rattle.hd_model.specs.Command.{is_refused}
use Rattle.hd_model.specs.Anchors.{ReturnsRoot}
use Rattle.hd_model.proofs.KindTests.{same_kind}
use Rattle.hd_model.proofs.WeakSlots.{HasNoKey, HasKey, key_found, key_none, idle_found, value_is}
use Rattle.hd_model.proofs.Outcomes.{option_cases, test_cases, on_object_cases, on_field_cases, on_handle_cases, on_handle_of_cases}
use Rattle.hd_model.specs.declared.data.Kind.TheVariants as kind
use Rattle.hd_model.specs.declared.data.Refusal.TheVariants as refusal
use Rattle.hd_model.specs.declared.data.Reply.TheVariants as reply
use Rattle.hd_model.specs.declared.command.Cmd.TheVariants as cmd

-- the identity that a `new` gives
abbrev pub next_identity : State → ℕ → Id
next_identity s c = identity_of c (last_serial s c + 1)

-- the object with another field
abbrev pub with_field : Object Id → ℕ → Option Id → Object Id
with_field object i v = record object { fields = set object.fields i v }

-- a handle register that has a slot with a handle
pub record Finds (s : State) (caller h : ℕ) (slot : Slot) (handle : Handle Id) : Type 0 where
  pub names : handle_register_of s caller h ≡ Some slot
  pub live : handle_at s slot ≡ Some handle

-- such a handle with another extra
abbrev pub with_extra : State → Slot → Handle Id → Extra Id → State
with_extra s slot handle extra = with_handle s slot (record handle { extra = extra })

-- the state with a new handle, as a write to each part of the state
abbrev pub with_made_parts : State → ℕ → Grown → ℕ → Make → ℕ → Slot → State
with_made_parts s caller grown d given t slot =
    with_handle_register
    (with_handle (record s { blocks = (with_growth s (kind_of given) grown).blocks }) slot
    (made_handle s caller given t))
    caller d (Some slot)

-- the slot that a done `cadd` may take: an idle one of the weak table, or one that the table gets as a
-- dependent handle does
abbrev pub MayHold : Numbers → State → Grown → Slot → Type 0
MayHold n s grown slot = ((get s.weak slot.0 ≡ Some None) × (grown ≡ Zero))
    ⊎ MayGive n s kind.Dependent grown slot

-- what an entry of a command does to a state
pub data Effect (n : Numbers) (s : State) (e : Entry) : Cmd → State → Type 0 where
  refused : {c : Cmd} {r : Refusal} → e.reply ≡ reply.Refused r → Effect n s e c s
  makes_object : {d fields : ℕ} {fin : Bool} → last_serial s e.caller + 1 < 2 ^ 32
      → e.reply ≡ reply.Object (next_identity s e.caller)
      → Effect n s e (cmd.New d fields fin) (with_register
      (with_serial (with_object s (next_identity s e.caller) (fresh_object fields fin)) e.caller
      (last_serial s e.caller + 1)) e.caller d (Some (next_identity s e.caller)))
  sets_field : {o i v : ℕ} (id : Id) → register_of s e.caller o ≡ Some id
      → i < length (object_by_id s id).fields → e.reply ≡ reply.Done → Effect n s e (cmd.Set o i v)
      (with_object s id (with_field (object_by_id s id) i (register_of s e.caller v)))
  gets_field : {d o i : ℕ} (id : Id) → register_of s e.caller o ≡ Some id
      → i < length (object_by_id s id).fields → e.reply ≡ load_reply (field_of (object_by_id s id) i)
      → Effect n s e (cmd.Get d o i) (with_register s e.caller d (field_of (object_by_id s id) i))
  sets_value : {o v : ℕ} (id : Id) → register_of s e.caller o ≡ Some id → e.reply ≡ reply.Done
      → Effect n s e (cmd.Val o v) (with_object s id (record (object_by_id s id) { value = v }))
  reads_value : {o : ℕ} (id : Id) → register_of s e.caller o ≡ Some id
      → e.reply ≡ reply.Value (object_by_id s id).value → Effect n s e (cmd.Read o) s
  copies : {d r : ℕ} → e.reply ≡ reply.Done → Effect n s e (cmd.Copy d r)
      (with_register s e.caller d (register_of s e.caller r))
  clears : {d : ℕ} → e.reply ≡ reply.Done → Effect n s e (cmd.Clear d) (with_register s e.caller d None)
  puts_static : {k r : ℕ} → e.reply ≡ reply.Done
      → Effect n s e (cmd.SPut k r) (with_static s k (register_of s e.caller r))
  gets_static : {d k : ℕ} → e.reply ≡ load_reply (static_of s k)
      → Effect n s e (cmd.SGet d k) (with_register s e.caller d (static_of s k))
  reads_generation : {o : ℕ} (id : Id) → register_of s e.caller o ≡ Some id
      → e.reply ≡ reply.Generation (object_by_id s id).generation → Effect n s e (cmd.Gen o) s
  suppresses : {o : ℕ} (id : Id) → register_of s e.caller o ≡ Some id → e.reply ≡ reply.Done
      → Effect n s e (cmd.Suppress o) (with_object s id (record (object_by_id s id) { registered = false }))
  reregisters : {o : ℕ} (id : Id) → register_of s e.caller o ≡ Some id → e.reply ≡ reply.Done
      → Effect n s e (cmd.Reregister o) (with_object s id (record (object_by_id s id) { registered = true }))
  finds_none : {d : ℕ} → e.reply ≡ reply.NoneQueued
      → Effect n s e (cmd.Final d) (with_register s e.caller d None)
  takes_first : {d : ℕ} (id : Id) (rest : List Id) → s.queue ≡ id ∷ rest → e.reply ≡ reply.Object id
      → Effect n s e (cmd.Final d) (with_register (with_queue s rest) e.caller d (Some id))
  collects : {k : ℕ} {t : State} → DoesCollect s e t k → Effect n s e (cmd.Collect k) t
  makes_handle : {d t : ℕ} {given : Make} (slot : Slot) → e.slot ≡ Some slot
      → MayGive n s (kind_of given) e.grown slot → e.reply ≡ reply.Done
      → Effect n s e (cmd.HNew d given t) (with_made_parts s e.caller e.grown d given t slot)
  gets_target : {d h : ℕ} (slot : Slot) (handle : Handle Id) → Finds s e.caller h slot handle
      → e.reply ≡ load_reply handle.target → Effect n s e (cmd.HGet d h)
      (with_register s e.caller d handle.target)
  sets_target : {h t : ℕ} (slot : Slot) (handle : Handle Id) → Finds s e.caller h slot handle
      → e.reply ≡ reply.Done → Effect n s e (cmd.HSet h t)
      (with_handle s slot (record handle {
        target = register_of s e.caller t;
        extra = without_secondary handle.extra;
      }))
  sets_secondary : {h r : ℕ} (slot : Slot) (handle : Handle Id) → Finds s e.caller h slot handle
      → FitsKind {N = Id} handle.kind (secondary (register_of s e.caller r)) → IsSome handle.target
      → e.reply ≡ reply.Done
      → Effect n s e (cmd.HSec h r) (with_extra s slot handle (secondary (register_of s e.caller r)))
  gets_secondary : {d h : ℕ} (slot : Slot) (handle : Handle Id) → Finds s e.caller h slot handle
      → e.reply ≡ load_reply (secondary_of handle.extra)
      → Effect n s e (cmd.HDep d h) (with_register s e.caller d (secondary_of handle.extra))
  sets_strength : {h : ℕ} {given : Strength} (slot : Slot) (handle : Handle Id)
      → Finds s e.caller h slot handle → FitsKind {N = Id} handle.kind (strength given) → e.reply ≡ reply.Done
      → Effect n s e (cmd.HVar h given) (with_extra s slot handle (strength given))
  raises_count : {h : ℕ} (slot : Slot) (handle : Handle Id) → Finds s e.caller h slot handle
      → FitsKind {N = Id} handle.kind (count (count_of handle.extra + 1))
      → e.reply ≡ reply.Value (count_of handle.extra + 1)
      → Effect n s e (cmd.HUp h) (with_extra s slot handle (count (count_of handle.extra + 1)))
  lowers_count : {h : ℕ} (slot : Slot) (handle : Handle Id) → Finds s e.caller h slot handle
      → FitsKind {N = Id} handle.kind (count (count_of handle.extra - 1))
      → e.reply ≡ reply.Value (count_of handle.extra - 1)
      → Effect n s e (cmd.HDown h) (with_extra s slot handle (count (count_of handle.extra - 1)))
  frees_handle : {h : ℕ} (slot : Slot) (handle : Handle Id) → Finds s e.caller h slot handle
      → e.reply ≡ reply.Done → e.slot ≡ Some slot → Effect n s e (cmd.HFree h)
      (with_handle_register (without_handle s slot) e.caller h None)
  puts_board : {k h : ℕ} → e.reply ≡ reply.Done
      → Effect n s e (cmd.HPut k h) (with_board s k (handle_register_of s e.caller h))
  picks_board : {d k : ℕ} → e.reply ≡ reply.Done
      → Effect n s e (cmd.HPick d k) (with_handle_register s e.caller d (board_of s k))
  replies_address : {h : ℕ} (slot : Slot) (handle : Handle Id) (id : Id) (p : ℕ)
      → Finds s e.caller h slot handle → handle.target ≡ Some id → MayReturn s id p → e.reply ≡ reply.Place p
      → Effect n s e (cmd.AddrOf h) (with_address s id p)
  gives_back : {given : Kind} (block : ℕ) → IsAllFree s given block → e.reply ≡ reply.Value 1
      → Effect n s e (cmd.Trim given) (without_use s block)
  adds_entry : {k v : ℕ} (key : Id) (slot : Slot) → register_of s e.caller k ≡ Some key → HasNoKey s key
      → MayHold n s e.grown slot → e.reply ≡ reply.Done → e.slot ≡ Some slot → Effect n s e (cmd.CAdd k v)
      (with_entry (record s { blocks = (with_growth s kind.Dependent e.grown).blocks }) s e.caller v slot key)
  finds_value : {d k : ℕ} (key : Id) (slot : Slot) (has : HasKey s key slot.0)
      → register_of s e.caller k ≡ Some key → e.reply ≡ load_reply has.entry.value
      → Effect n s e (cmd.CFind d k) (with_register s e.caller d has.entry.value)
  finds_no_entry : {d k : ℕ} (key : Id) → register_of s e.caller k ≡ Some key → HasNoKey s key
      → e.reply ≡ reply.Absent → Effect n s e (cmd.CFind d k) (with_register s e.caller d None)
  removes_entry : {k : ℕ} (key : Id) (slot : Slot) → HasKey s key slot.0 → register_of s e.caller k ≡ Some key
      → e.reply ≡ reply.Done → Effect n s e (cmd.CRemove k) (with_weak s slot None)
  removes_none : {k : ℕ} (key : Id) → register_of s e.caller k ≡ Some key → HasNoKey s key
      → e.reply ≡ reply.Absent → Effect n s e (cmd.CRemove k) s
  replies_root : {r : ℕ} (goal : Id) → register_of s e.caller r ≡ Some goal → ReturnsRoot s goal e.reply
      → Effect n s e (cmd.GcRoot r) s
  gives_none : {given : Kind} → e.reply ≡ reply.Value 0 → Effect n s e (cmd.Trim given) s

-- growth changes the use of blocks and nothing else
pub growth_is : (s : State) (given : Kind) (grown : Grown)
    → with_growth s given grown ≡ record s { blocks = (with_growth s given grown).blocks }
growth_is s given Zero = refl
growth_is s given (One block) = refl
growth_is s given (Two block other) = refl
growth_is s given (Back block) = refl

module _ (n : Numbers) (s : State) (e : Entry) (t : State) where
  -- an outcome with this reply and this state
  comes : (c : Cmd) (r : Outcome) → (e.reply ≡ r.reply → e.slot ≡ r.slot → Effect n s e c r.after)
      → IsOutcome e r t → Effect n s e c t
  comes c r does o = subst (Effect n s e c) (sym o.after) (does o.reply o.slot)

  refuses_it : (c : Cmd) (r : Refusal) → IsOutcome e (refuses r s) t → Effect n s e c t
  refuses_it c r = comes c (refuses r s) (λ p _. refused p)

  abbrev Comes : Cmd → Outcome → Type 0
  Comes c r = IsOutcome e r t → Effect n s e c t

  makes_it : (d : ℕ) (given : Make) (r : ℕ) → MakesHandle n s e t d given r
      → Effect n s e (cmd.HNew d given r) t
  makes_it d given r m =
      subst (Effect n s e (cmd.HNew d given r))
      (sym (m.after ∙ ap (λ (x : State). with_handle_register
      (with_handle x m.slot (made_handle s e.caller given r)) e.caller d (Some m.slot))
      (growth_is s (kind_of given) e.grown)))
      (makes_handle m.slot m.given m.may m.reply)

  registers_it : (c : Cmd) (o : ℕ) (registered : Bool)
      → ((id : Id) → register_of s e.caller o ≡ Some id → e.reply ≡ reply.Done
      → Effect n s e c (with_object s id (record (object_by_id s id) { registered = registered })))
      → IsOutcome e (set_registered s e.caller o registered) t → Effect n s e c t
  registers_it c o registered does =
      on_object_cases (Comes c) s e.caller o _ (λ _. refuses_it _ _) (λ id f. comes _ _ (λ p _. does id f p))

  takes_it : (d : ℕ) (queue : List Id) → s.queue ≡ queue → IsOutcome e (take_first s e.caller d queue) t
      → Effect n s e (cmd.Final d) t
  takes_it d [] is = comes _ _ (λ p _. finds_none p)
  takes_it d (id ∷ rest) is = comes _ _ (λ p _. takes_first id rest is p)

  replies_it : (h : ℕ) → RepliesAddress s e t h → Effect n s e (cmd.AddrOf h) t
  replies_it h a =
      on_handle_cases (Comes (cmd.AddrOf h)) s e.caller h _ (λ _. refuses_it _ _) (λ _ _ _. refuses_it _ _)
      (λ slot handle f g. test_cases (Comes (cmd.AddrOf h)) (pins handle) _ _
      (λ same. option_cases (Comes (cmd.AddrOf h)) _ handle.target _ (λ _. refuses_it _ _)
      (λ id target. comes _ _ (λ p _. replies_address slot handle id a.address
      (record { names = f; live = g }) target (a.may id (found slot handle id f g same target)) p)))
      (λ _. refuses_it _ _)) a.outcome
    where
      found : (slot : Slot) (handle : Handle Id) (id : Id) → handle_register_of s e.caller h ≡ Some slot
          → handle_at s slot ≡ Some handle → pins handle ≡ true → handle.target ≡ Some id
          → option_and_then (λ x. pinned_by (handle_at s x)) (handle_register_of s e.caller h) ≡ Some id
      found slot handle id f g same target =
          ap (option_and_then (λ x. pinned_by (handle_at s x))) f ∙ ap pinned_by g
          ∙ ap (λ b. cond b handle.target None) same ∙ target

  -- a command on a handle of one kind
  works_on : (c : Cmd) (h : ℕ) (wanted : Kind) (act : Slot → Handle Id → Outcome)
      → ((slot : Slot) (handle : Handle Id) → Finds s e.caller h slot handle
      → handle.kind ≡ wanted → Comes c (act slot handle)) → Comes c (on_handle_of s e.caller h wanted act)
  works_on c h wanted act does =
      on_handle_of_cases (Comes c) s e.caller h wanted act (λ _. refuses_it _ _) (λ _ _ _. refuses_it _ _)
      (λ _ _ _ _ _. refuses_it _ _)
      (λ slot handle f g same. does slot handle (record { names = f; live = g }) (same_kind _ _ same))

  -- a command on a handle
  works : (c : Cmd) (h : ℕ) (act : Slot → Handle Id → Outcome)
      → ((slot : Slot) (handle : Handle Id) → Finds s e.caller h slot handle → Comes c (act slot handle))
      → Comes c (on_handle s e.caller h act)
  works c h act does =
      on_handle_cases (Comes c) s e.caller h act (λ _. refuses_it _ _) (λ _ _ _. refuses_it _ _)
      (λ slot handle f g. does slot handle (record { names = f; live = g }))

  abbrev Adds : ℕ → ℕ → Adding → Type 0
  Adds k v a = TakesWay n s e t (way_of_adding s e.caller v a) → Effect n s e (cmd.CAdd k v) t

  -- the state with the entry, as a write to each part of the state
  abbrev added : ℕ → Slot → Id → Grown → State
  added v slot key g =
      with_entry (record s { blocks = (with_growth s kind.Dependent g).blocks }) s e.caller v slot key

  adds_idle : (k v : ℕ) (key : Id) (slot : Slot) → register_of s e.caller k ≡ Some key → HasNoKey s key
      → get s.weak slot.0 ≡ Some None → Adds k v (in_idle slot key)
  adds_idle k v key slot f none idle o =
      subst (Effect n s e (cmd.CAdd k v)) (sym (o.after ∙ ap (added v slot key) (sym o.grown)))
      (adds_entry key slot f none (inl (idle, o.grown)) o.reply o.slot)

  adds_new : (k v : ℕ) (key : Id) → register_of s e.caller k ≡ Some key → HasNoKey s key
      → AddsEntry n s e t v key → Effect n s e (cmd.CAdd k v) t
  adds_new k v key f none a =
      subst (Effect n s e (cmd.CAdd k v))
      (sym (a.after ∙ ap (λ x. with_entry x s e.caller v a.slot key) (growth_is s kind.Dependent e.grown)))
      (adds_entry key a.slot f none (inr a.may) a.reply a.given)

  adds_it : (k v : ℕ) → Adds k v (adding_of s e.caller k)
  adds_it k v =
      option_cases (Adds k v) (adding_key s) (register_of s e.caller k) _ (λ _. refuses_it _ _)
      (λ key f. option_cases (Adds k v) (λ _. is_refused refusal.Present) (slot_of_key s key) _
      (λ none. option_cases (Adds k v) (λ slot. in_idle slot key) (idle_slot s) (in_new key)
      (λ _. ⊎_elim (adds_new k v key f (key_none s key none)) (λ full. refuses_it _ _ full.refused))
      (λ slot is. adds_idle k v key slot f (key_none s key none) (idle_found s slot is)))
      (λ _ _. refuses_it _ _))

  finds_it : (d k : ℕ) (key : Id) (slot : Slot) → HasKey s key slot.0 → register_of s e.caller k ≡ Some key
      → Comes (cmd.CFind d k) (reply_with (load_reply (value_at s slot)) (with_register s e.caller d
      (value_at s slot)))
  finds_it d k key slot has f =
      subst (λ x. Comes (cmd.CFind d k) (reply_with (load_reply x) (with_register s e.caller d x)))
      (sym (value_is s slot has.entry has.held)) (comes _ _ (λ p _. finds_value key slot has f p))

  command_effect : (c : Cmd) → StepOf n s e t c → Effect n s e c t
  command_effect (cmd.New d fields fin) h =
      test_cases (Comes (cmd.New d fields fin)) _ _ _
      (λ _. refuses_it _ _) (λ _. comes _ _ (λ p _. makes_object h.0 p)) h.1
  command_effect (cmd.Set o i v) h =
      on_field_cases (Comes (cmd.Set o i v)) s e.caller o i _ (λ _. refuses_it _ _) (λ _ _ _. refuses_it _ _)
      (λ id f l. comes _ _ (λ p _. sets_field id f l p)) h
  command_effect (cmd.Get d o i) h =
      on_field_cases (Comes (cmd.Get d o i)) s e.caller o i _ (λ _. refuses_it _ _) (λ _ _ _. refuses_it _ _)
      (λ id f l. comes _ _ (λ p _. gets_field id f l p)) h
  command_effect (cmd.Val o v) h =
      on_object_cases (Comes (cmd.Val o v)) s e.caller o _ (λ _. refuses_it _ _)
      (λ id f. comes _ _ (λ p _. sets_value id f p)) h
  command_effect (cmd.Read o) h =
      on_object_cases (Comes (cmd.Read o)) s e.caller o _ (λ _. refuses_it _ _)
      (λ id f. comes _ _ (λ p _. reads_value id f p)) h
  command_effect (cmd.Copy d r) h = comes _ _ (λ p _. copies p) h
  command_effect (cmd.Clear d) h = comes _ _ (λ p _. clears p) h
  command_effect (cmd.SPut k r) h = comes _ _ (λ p _. puts_static p) h
  command_effect (cmd.SGet d k) h = comes _ _ (λ p _. gets_static p) h
  command_effect (cmd.Gen o) h =
      on_object_cases (Comes (cmd.Gen o)) s e.caller o _ (λ _. refuses_it _ _)
      (λ id f. comes _ _ (λ p _. reads_generation id f p)) h
  command_effect (cmd.Suppress o) h = registers_it _ o false (λ id f p. suppresses id f p) h
  command_effect (cmd.Reregister o) h = registers_it _ o true (λ id f p. reregisters id f p) h
  command_effect (cmd.Final d) h = takes_it d s.queue refl h
  command_effect (cmd.Collect k) h = collects h
  command_effect (cmd.HNew d given r) h = ⊎_elim (makes_it d given r) (λ full. refuses_it _ _ full.refused) h
  command_effect (cmd.HGet d r) h = works _ r _
      (λ slot handle f. comes _ _ (λ p _. gets_target slot handle f p)) h
  command_effect (cmd.HSet r v) h =
      works (cmd.HSet r v) r _
      (λ slot handle f. test_cases (Comes (cmd.HSet r v))
      (is_kind handle.kind kind.Dependent && is_some (register_of s e.caller v)) _ _ (λ _. refuses_it _ _)
      (λ _. comes _ _ (λ p _. sets_target slot handle f p))) h
  command_effect (cmd.HSec r v) h =
      works_on (cmd.HSec r v) r _ _
      (λ slot handle f same. option_cases (Comes (cmd.HSec r v)) _ handle.target _ (λ _. refuses_it _ _)
      (λ id target. comes _ _ (λ p _. sets_secondary slot handle f same (ap is_some target) p))) h
  command_effect (cmd.HDep d r) h = works_on _ r kind.Dependent _
      (λ slot handle f same. comes _ _ (λ p _. gets_secondary slot handle f p)) h
  command_effect (cmd.HVar r given) h = works_on _ r _ _
      (λ slot handle f same. comes _ _ (λ p _. sets_strength slot handle f same p)) h
  command_effect (cmd.HFree r) h = works _ r _ (λ slot handle f. comes _ _
      (λ p q. frees_handle slot handle f p q)) h
  command_effect (cmd.HPut k r) h = comes _ _ (λ p _. puts_board p) h
  command_effect (cmd.HPick d k) h = comes _ _ (λ p _. picks_board p) h
  command_effect (cmd.AddrOf r) h = replies_it r h
  command_effect (cmd.HUp r) h = works_on _ r _ _
      (λ slot handle f same. comes _ _ (λ p _. raises_count slot handle f same p)) h
  command_effect (cmd.HDown r) h =
      works_on (cmd.HDown r) r _ _
      (λ slot handle f same. test_cases (Comes (cmd.HDown r)) (count_of handle.extra == 0) _ _
      (λ _. refuses_it _ _) (λ _. comes _ _ (λ p _. lowers_count slot handle f same p))) h
  command_effect (cmd.Trim given) h =
      ⊎_elim (λ (g : GivesBack s e t given). subst (Effect n s e (cmd.Trim given)) (sym g.after)
      (gives_back g.block g.free g.reply)) (comes _ _ (λ p _. gives_none p)) h
  command_effect (cmd.CAdd k v) h = adds_it k v h
  command_effect (cmd.CFind d k) h =
      on_object_cases (Comes (cmd.CFind d k)) s e.caller k _ (λ _. refuses_it _ _)
      (λ key f. option_cases (Comes (cmd.CFind d k)) _ (slot_of_key s key) _
      (λ none. comes _ _ (λ p _. finds_no_entry key f (key_none s key none) p))
      (λ slot is. finds_it d k key slot (key_found s key slot is) f)) h
  command_effect (cmd.CRemove k) h =
      on_object_cases (Comes (cmd.CRemove k)) s e.caller k _ (λ _. refuses_it _ _)
      (λ key f. option_cases (Comes (cmd.CRemove k)) _ (slot_of_key s key) _
      (λ none. comes _ _ (λ p _. removes_none key f (key_none s key none) p))
      (λ slot is. comes _ _ (λ p _. removes_entry key slot (key_found s key slot is) f p))) h
  command_effect (cmd.GcRoot r) h =
      on_object_cases (Comes (cmd.GcRoot r)) s e.caller r _ (λ _. refuses_it _ _)
      (λ goal f. comes _ _ (λ p _. replies_root goal f
      (subst (ReturnsRoot s goal) (sym p) (h.is_root goal f))))
      h.outcome

  pub effect : Step n s e t → Effect n s e e.cmd t
  effect step = command_effect e.cmd step.does
