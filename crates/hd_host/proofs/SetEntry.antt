-- An entry of the weak table that is taken out and added anew.
use Rattle.std.proofs.Common.{Bool, List, None, Ok, Some, ap, cond, false, inl, inr, refl, subst, sym, true, ⊎_elim, ℕ, ◌<◌, ◌∙◌, ◌≡◌}
use Rattle.std.proofs.lemmas.Bool.{true≢false}
use Rattle.std.specs.FinMap.{empty, get}
use Rattle.std.specs.Option.{option_map_or}
use Rattle.hd_model.proofs.{AgedRuns.nothing_at, Outcomes.option_cases, ReadAfterWrite.get_inserted, ReadAfterWrite.insert_cases, StateReadBack.step_of, WeakSlots.HasKey, WeakSlots.HasNoKey, WeakSlots.key_found, WeakSlots.where_none}
use Rattle.hd_model.specs.{declared.data.Entry.Entry, declared.data.Id.Id, declared.data.Refusal.Refusal, declared.data.Reply.Reply, declared.data.Slot.Slot, PinnedAddresses.with_pinned, Step.IsOutcome, Step.TakesWay, Step.way_of_adding}
use Rattle.hd_model.specs.Command.{Adding, Outcome, adding_key, adding_of, idle_slot, in_idle, in_new, is_idle, is_refused, refuses, remove_entry, reply_with, slot_of_key}
use Rattle.hd_model.specs.State.{Numbers, State, register_of, with_weak}
use Rattle.hd_model.specs.WellFormed.{HasWeakTable}
use Rattle.hd_model.specs.declared.command.Cmd.TheVariants as cmd
use Rattle.hd_model.specs.declared.data.Refusal.TheVariants as refusal
use Rattle.hd_model.specs.declared.data.Reply.TheVariants as reply
use Rattle.hd_pool.specs.Pool.{FreeSlots}
use Rattle.hd_commands.specs.Done.{entry_by, replied}
use Rattle.hd_model.specs.declared.data.Kind.TheVariants as kinds
use Rattle.hd_store.specs.{Calls.HasCalled, Calls.HasReturned, Calls.pointed, Offers.handle_slot, Offers.needs_new, Offers.no_room, PinnedAddresses.Moves, Replies.removed_reply, Store.Machine}
use Rattle.std.proofs.lemmas.Option.{none-some}
use Rattle.hd_host.specs.{declared.change.Change.Change, Changes.no_change, declared.fault.Fault.Fault, Calls.AddsEntry, Calls.FailsBy, Calls.AddsFirst, Calls.GrowsTable, Calls.HasReplied, Calls.IsRefused, View.HostView, View.IsAsItWas, Inside.IsHost, Wide.FailsToAdd, Wide.SetsEntry}
use Rattle.hd_host.specs.declared.fault.Fault.TheVariants as fault
use Rattle.hd_host.proofs.CallHost.{view_of}
use Rattle.hd_host.proofs.ReplyForms.{not_removed, removes}
use Rattle.hd_host.proofs.ValueCalls.{replied_on}

-- ---- what `cremove` comes to

-- an entry of the key was there, and its slot is idle
pub record Took (s t : State) (e : Entry) (k : ℕ) : Type 0 where
  pub key : Id
  pub slot : Slot
  pub named : register_of s e.caller k ≡ Some key
  pub found : slot_of_key s key ≡ Some slot
  pub after : t ≡ with_weak s slot None

module _ (s t : State) (e : Entry) (k : ℕ) where
  abbrev removes_of : Id → Outcome
  removes_of key = option_map_or (λ slot. reply_with reply.Done (with_weak s slot None)) (slot_of_key s key)
      (reply_with reply.Absent s)

  abbrev TakesOut : Outcome → Type 0
  TakesOut w = IsOutcome e w t → e.reply ≡ reply.Done → Took s t e k

  pub took : IsOutcome e (remove_entry s e.caller k) t → e.reply ≡ reply.Done → Took s t e k
  took = option_cases TakesOut removes_of (register_of s e.caller k) (refuses refusal.Null s)
      (λ _ o done. absurd (let other = sym o.reply ∙ done in cc))
      (λ key named. option_cases TakesOut (λ slot. reply_with reply.Done (with_weak s slot None))
      (slot_of_key s key) (reply_with reply.Absent s) (λ _ o done. absurd (let other = sym o.reply ∙ done in cc))
      (λ slot found o done.
      record { key = key; slot = slot; named = named; found = found; after = o.after }))

  abbrev LeavesSo : Outcome → Type 0
  LeavesSo w = IsOutcome e w t → e.reply ≡ reply.Absent → t ≡ s

  pub left_so : IsOutcome e (remove_entry s e.caller k) t → e.reply ≡ reply.Absent → t ≡ s
  left_so = option_cases LeavesSo removes_of (register_of s e.caller k) (refuses refusal.Null s)
      (λ _ o _. o.after)
      (λ key named. option_cases LeavesSo (λ slot. reply_with reply.Done (with_weak s slot None))
      (slot_of_key s key) (reply_with reply.Absent s) (λ _ o _. o.after)
      (λ slot found o absent. absurd (let other = sym o.reply ∙ absent in cc)))

-- ---- a `cadd` of a key that has no entry, while a slot is idle, is done

module _ (n : Numbers) (s t : State) (e : Entry) (k v idle : ℕ) (key : Id)
    (named : register_of s e.caller k ≡ Some key) (absent : HasNoKey s key) (there : get s.weak idle ≡ Some None)
  where
    abbrev Adds : Adding → Type 0
    Adds a = TakesWay n s e t (way_of_adding s e.caller v a) → e.reply ≡ reply.Done

    pub adds_idle : Adds (adding_of s e.caller k)
    adds_idle =
        subst (λ o. Adds (option_map_or (adding_key s) o (is_refused refusal.Null))) (sym named)
        (option_cases Adds (λ _. is_refused refusal.Present) (slot_of_key s key)
        (option_map_or (λ slot. in_idle slot key) (idle_slot s) (in_new key))
        (λ _. option_cases Adds (λ slot. in_idle slot key) (idle_slot s) (in_new key)
        (λ none _. absurd (where_none is_idle s none idle None there refl)) (λ slot is o. o.reply))
        (λ slot found _.
        let has : HasKey s key slot.0 = key_found s key slot found in
        absurd (absent slot.0 has.entry has.held has.keyed)))

-- while a slot is idle, none needs a new one
module _ (s : State) (caller k idle : ℕ) (there : get s.weak idle ≡ Some None) where
  abbrev Idle : Adding → Type 0
  Idle a = needs_new a ≡ false

  pub never_new : Idle (adding_of s caller k)
  never_new = option_cases Idle (adding_key s) (register_of s caller k) (is_refused refusal.Null) (λ _. refl)
      (λ key named. option_cases Idle (λ _. is_refused refusal.Present) (slot_of_key s key)
      (option_map_or (λ slot. in_idle slot key) (idle_slot s) (in_new key))
      (λ _. option_cases Idle (λ slot. in_idle slot key) (idle_slot s) (in_new key)
      (λ none. absurd (where_none is_idle s none idle None there refl)) (λ slot is. refl)) (λ slot found. refl))

-- no entry of a key is left where its slot is idle
pub none_left : (s : State) (key : Id) (slot : Slot) → HasWeakTable s → slot_of_key s key ≡ Some slot
    → HasNoKey (with_weak s slot None) key
none_left s key slot weak found q x =
    let has : HasKey s key slot.0 = key_found s key slot found in
    insert_cases s.weak slot.0 (λ j o. o ≡ Some (Some x) → x.key ≡ key → ⊥) None q
    (λ is same. absurd (cc is))
    (λ apart is same. apart (weak.once q slot.0 x has.entry is has.held (same ∙ sym has.keyed)))

-- ---- in a host

abbrev pub removed_entry : ℕ → ℕ → Reply → Entry
removed_entry context key answer = entry_by context (cmd.CRemove key) (replied answer)

-- where an entry was taken out, the key's `cadd` does not fail
module _ {m m1 : Machine} {p : FreeSlots} {stamps : List ℕ} (host : IsHost m p stamps) {context : ℕ}
    (key value : ℕ) (called : HasCalled m context (cmd.CRemove key) None m1 (removed_entry context key reply.Done))
    (after : Change) where
  goes : Moves m (removed_entry context key reply.Done) m1 empty
  goes = called.effect empty (λ x at found. absurd (nothing_at x at found))

  was : Took (with_pinned m.state empty) (with_pinned m1.state goes.pinned) (removed_entry context key reply.Done) key
  was = took (with_pinned m.state empty) (with_pinned m1.state goes.pinned) (removed_entry context key reply.Done) key
      goes.step.does refl

  weak-is : m1.state.weak ≡ (with_weak m.state was.slot None).weak
  weak-is = ap (λ (x : State). x.weak) was.after

  never_refused : (why : Refusal)
      → IsRefused (view_of m1 stamps after) context None (cmd.CAdd key value) why → ⊥
  never_refused why r =
      let moved = r.stepped.effect empty (λ x at found. absurd (nothing_at x at found)) in
      let asked = with_pinned (pointed m1 context None).state empty in
      let comes = with_pinned r.stepped.after.state moved.pinned in
      let named : register_of m1.state r.entry.caller key ≡ Some was.key =
      ap (λ c. register_of m1.state c key) r.stepped.command_is.0
      ∙ ap (λ (x : State). register_of x context key) was.after ∙ was.named in
      let absent : HasNoKey asked was.key =
      λ q x is same. none_left (with_pinned m.state empty) was.key was.slot host.tied.well_formed.weak was.found q x
      (sym (ap (λ w. get w q) weak-is) ∙ is) same in
      let there : get m1.state.weak was.slot.0 ≡ Some None =
      ap (λ w. get w was.slot.0) weak-is ∙ get_inserted m.state.weak was.slot.0 None in
      let done = adds_idle m1.numbers asked comes r.entry key value was.slot.0 was.key named absent there
      (step_of m1.numbers asked r.entry comes (cmd.CAdd key value) moved.step r.stepped.command_is.1) in
      absurd (let other = sym done ∙ r.reply in cc)

  never_grows : GrowsTable (view_of m1 stamps after) context (cmd.CAdd key value) → ⊥
  never_grows grows =
      let there : get m1.state.weak was.slot.0 ≡ Some None =
      ap (λ w. get w was.slot.0) weak-is ∙ get_inserted m.state.weak was.slot.0 None in
      let asks = sym (ap (λ b. cond b (handle_slot kinds.Dependent) no_room)
      (never_new m1.state context key was.slot.0 there)) ∙ grows.asks in
      absurd (let clash = asks in cc)

  never_first : AddsFirst (view_of m1 stamps after) context (cmd.CAdd key value) → ⊥
  never_first first =
      let there : get m1.state.weak was.slot.0 ≡ Some None =
      ap (λ w. get w was.slot.0) weak-is ∙ get_inserted m.state.weak was.slot.0 None in
      none-some None (sym (first.unused was.slot.0) ∙ there)

  pub never_fails : (f : Fault) → FailsBy (view_of m1 stamps after) context None (cmd.CAdd key value) f → ⊥
  never_fails fault.Stale h = elim h [
    | inl r ↦ never_refused refusal.NotLive r
    | inr r ↦ never_refused refusal.EmptyRegister r
  ]
  never_fails fault.WrongKind r = never_refused refusal.WrongKind r
  never_fails fault.CountZero r = never_refused refusal.CountZero r
  never_fails fault.Null r = never_refused refusal.Null r
  never_fails fault.NoField r = never_refused refusal.BadField r
  never_fails fault.Present r = never_refused refusal.Present r
  never_fails (fault.HeapFull used size) h = elim h [
    | inl r ↦ never_refused (refusal.HeapFull used size) r
    | inr f ↦ absurd (let other = f.makes in cc)
  ]
  never_fails (fault.TableFull given) r = never_refused (refusal.TableFull given) r
  never_fails fault.Exhausted h = elim h [ ]
  never_fails fault.Memory h = ⊎_elim (λ takes. absurd (true≢false (sym takes)))
      (λ more. ⊎_elim never_grows never_first more) h.cause

-- where there was none, all is as it was
module _ {m m1 : Machine} {context : ℕ} (key : ℕ)
    (called : HasCalled m context (cmd.CRemove key) None m1 (removed_entry context key reply.Absent)) where
  leaves : Moves m (removed_entry context key reply.Absent) m1 empty
  leaves = called.effect empty (λ x at found. absurd (nothing_at x at found))

  pub absent_same : (stamps : List ℕ) {last : Change} {v : HostView} → view_of m stamps last ≡ v
      → IsAsItWas v (view_of m1 stamps last)
  absent_same stamps {last} view = subst (λ (x : HostView). IsAsItWas x (view_of m1 stamps last)) view (record {
    numbers = leaves.numbers;
    state = ap (λ (s : State). with_pinned s empty)
        (left_so (with_pinned m.state empty) (with_pinned m1.state leaves.pinned)
        (removed_entry context key reply.Absent) key leaves.step.does refl);
    addresses = called.addresses.others refl;
    ages = leaves.ages;
    stamps = refl;
    last = refl;
  })

-- two in a row, of which the second left its host so but for `last`, which is as it was before the first
as_before : (u mid new : HostView) (last : Change) → IsAsItWas u (record mid { last = last }) → IsAsItWas mid new
    → last ≡ u.last → IsAsItWas u (record new { last = last })
as_before u mid new last first second same = record {
  numbers = second.numbers ∙ first.numbers;
  state = second.state ∙ first.state;
  addresses = λ x a at. second.addresses x a (first.addresses x a at);
  ages = second.ages ∙ first.ages;
  stamps = second.stamps ∙ first.stamps;
  last = same;
}

module _ {m m1 : Machine} {p : FreeSlots} {stamps : List ℕ} {last : Change} {v : HostView} (host : IsHost m p stamps)
    (view : view_of m stamps last ≡ v) {context : ℕ} (known : context < v.machine.numbers.callers)
    (key value : ℕ) where
  pub was_removed : (replaced : Bool) → HasReturned m context (cmd.CRemove key) removed_reply m1 (Ok replaced)
      → (after : Change) → after ≡ no_change
      → HasReplied v context None (cmd.CRemove key) (removed_reply replaced) (view_of m1 stamps after)
  was_removed replaced called after now =
      replied_on host view known refl refl (removed_reply replaced) called (not_removed replaced) (removes replaced) now

  pub sets : (replaced : Bool) → HasReturned m context (cmd.CRemove key) removed_reply m1 (Ok replaced)
      → (after : Change) → after ≡ no_change → {new : HostView}
      → AddsEntry (view_of m1 stamps after) context key value new → SetsEntry v context key value new replaced
  sets replaced called after now added = record {
    between = view_of m1 stamps after;
    removed = was_removed replaced called after now;
    added = added;
  }

  pub sets_none : (replaced : Bool) → HasReturned m context (cmd.CRemove key) removed_reply m1 (Ok replaced)
      → (after : Change) → after ≡ no_change → (new : HostView) (f : Fault)
      → FailsBy (view_of m1 stamps after) context None (cmd.CAdd key value) f
      → IsAsItWas (view_of m1 stamps after) new
      → FailsToAdd v context key value f × IsAsItWas v (record new { last = last })
  sets_none true called after now new f fails same = absurd (never_fails host key value called after f fails)
  sets_none false called after now new f fails same = (
    record {
      between = view_of m1 stamps after;
      removed = was_removed false called after now;
      fails = fails;
    },
    as_before v (view_of m1 stamps after) new last (absent_same key called stamps view) same
        (ap (λ (x : HostView). x.last) view),
  )
