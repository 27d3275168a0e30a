-- A handle names the same object until it is freed, set, or cleared by a collection.
use Rattle.hd_model.proofs.Basics.{Bool, FinMap, Handle as Held, List, None, Option, Some, State, [], ap, arith, get, get_or-set_other, handle_at, handle_register_of, inl, inr, is_some, nat_cmp, refl, same_Some, subst, sym, true, false, ℕ, ⊎_elim, ◌+◌, ◌∙◌, ◌∷◌, ◌≡◌, ◌⊎◌}
use Rattle.std.proofs.lemmas.Bool.{true≢false}
use Rattle.std.specs.Prelude.{Ok, slice_index}
use Rattle.hd_model.specs.{declared.command.Cmd.Cmd, declared.data.Entry.Entry, declared.data.Id.Id, declared.data.Kind.Kind, declared.data.Slot.Slot, Kinds.is_paired}
use Rattle.hd_model.specs.declared.command.Cmd.TheVariants as cmd
use Rattle.hd_host.specs.declared.handle.Handle.{Handle}
use Rattle.hd_host.specs.Handles.{IsOf, handle_of, stamp_of, stamped}
use Rattle.hd_host.specs.Turns.{IsSoundHost, TrimsBy, TrimsRow, next_kind, no_kinds, one_more}
use Rattle.hd_host.proofs.CallTurns.{turn_trimmed_block}
use Rattle.hd_host.specs.View.{HostView}
use Rattle.hd_host.proofs.SoundTurns.{step_handles, step_stamps, turns_keep_sound}
use Rattle.hd_hostlaws.specs.Calls.{Call, Calls, first, free, none, on_handle, set}
use Rattle.hd_hostlaws.specs.Laws.{Collected, FreesOrSets, LiveNamesTheSame, NamesTheSame, NoneOf, SomeOf, SpareBlocksHaveNone, collected, freeing, setting}
use Rattle.hd_hostlaws.proofs.CallCases.{Acts, DoesOne, acting, acts, acts_turn, collects_all, does_one, each_call_is_a_turn, frees_it, in_row, nothing, sets_it, sort, steps_alone, trims_row}
use Rattle.hd_hostlaws.proofs.FirstHosts.{reached_sound}
use Rattle.hd_hostlaws.proofs.HandleChanges.{SlotChange, asked_in, cleared_by, freed_by, named, set_by, stays, stepped_change}

-- the handle register of such a command
abbrev register_in : Cmd → ℕ
register_in (cmd.HSet h t) = h
register_in (cmd.HFree h) = h
register_in _ = 0

module _ (u w : HostView) (handle : Handle) (slot : Slot) (was : Held Id) (of : IsOf u handle slot)
    (is : handle_at u.machine.state slot ≡ Some was) where
  abbrev Keeps : Call → Type 0
  Keeps call = NamesTheSame handle slot was (call ∷ []) w

  -- the slot is live with the stamp that it had, so the handle is that of it
  keeps : (call : Call) (held : Held Id) → handle_at w.machine.state slot ≡ Some held
      → stamp_of w slot ≡ stamp_of u slot → held.kind ≡ was.kind
      → (held.target ≡ was.target) ⊎ ((held.target ≡ None) × SomeOf Collected (call ∷ [])) → Keeps call
  keeps call held there stamp kind target = record {
    handle_is = record { live = ap is_some there; is = of.is ∙ ap (stamped slot) (sym stamp) };
    held = held;
    there = there;
    kind = kind;
    target = target;
  }

  same_stamp : w.stamps ≡ u.stamps → stamp_of w slot ≡ stamp_of u slot
  same_stamp same = ap (λ (xs : List ℕ). slice_index xs slot.0) same

  -- a handle of the same slot is this one
  one_handle : (other : Handle) (at : Slot) → IsOf u other at → at ≡ slot → other ≡ handle
  one_handle other at of_at same = of_at.is ∙ ap (handle_of u) same ∙ sym of.is

  module _ (s : State) (e : Entry) where
    abbrev Changes : Cmd → Type 0
    Changes command = SlotChange s e slot was command (handle_at w.machine.state slot)

    abbrev Has : ℕ → Slot → Type 0
    Has h at = handle_register_of s e.caller h ≡ Some at

    has_it : (at : Slot) (h : ℕ) → 0 ≡ h → Has 0 at → Has h slot → at ≡ slot
    has_it at h zero_is has names =
        same_Some at slot (sym has ∙ ap (λ x. handle_register_of s e.caller x) zero_is ∙ names)

    -- a command that sets, frees and collects none
    acted : (call : Call) (command : Cmd) → sort command ≡ 0 → w.stamps ≡ u.stamps → Changes command
        → Keeps call
    acted call command plain stamps (stays held there kind target) =
        keeps call held there (same_stamp stamps) kind (inl target)
    acted call command plain stamps (set_by h t c names) =
        absurd (let other : sort command ≡ 1 = ap sort c in omega (arith, plain, other))
    acted call command plain stamps (freed_by h c names) =
        absurd (let other : sort command ≡ 2 = ap sort c in omega (arith, plain, other))
    acted call command plain stamps (cleared_by k c held there kind target) =
        absurd (let other : sort command ≡ 3 = ap sort c in omega (arith, plain, other))

    -- one that sets the handle of another slot
    set_beside : (call : Call) (at : Slot) (src : ℕ) → Has 0 at → (at ≡ slot → ⊥) → w.stamps ≡ u.stamps
        → Changes (cmd.HSet 0 src) → Keeps call
    set_beside call at src has apart stamps (stays held there kind target) =
        keeps call held there (same_stamp stamps) kind (inl target)
    set_beside call at src has apart stamps (set_by h t c names) =
        absurd (apart (has_it at h (ap register_in c) has names))
    set_beside call at src has apart stamps (freed_by h c names) =
        absurd (let other : 1 ≡ 2 = ap sort c in omega (arith, other))
    set_beside call at src has apart stamps (cleared_by k c held there kind target) =
        absurd (let other : 1 ≡ 3 = ap sort c in omega (arith, other))

    -- one that frees it
    freed_beside : (call : Call) (at : Slot) → Has 0 at → (at ≡ slot → ⊥) → stamp_of w slot ≡ stamp_of u slot
        → Changes (cmd.HFree 0) → Keeps call
    freed_beside call at has apart stamp (stays held there kind target) =
        keeps call held there stamp kind (inl target)
    freed_beside call at has apart stamp (set_by h t c names) =
        absurd (let other : 2 ≡ 1 = ap sort c in omega (arith, other))
    freed_beside call at has apart stamp (freed_by h c names) =
        absurd (apart (has_it at h (ap register_in c) has names))
    freed_beside call at has apart stamp (cleared_by k c held there kind target) =
        absurd (let other : 2 ≡ 3 = ap sort c in omega (arith, other))

    -- and a collection
    swept : (call : Call) (n : ℕ) → Collected call → w.stamps ≡ u.stamps → Changes (cmd.Collect n)
        → Keeps call
    swept call n collects stamps (stays held there kind target) =
        keeps call held there (same_stamp stamps) kind (inl target)
    swept call n collects stamps (set_by h t c names) =
        absurd (let other : 3 ≡ 1 = ap sort c in omega (arith, other))
    swept call n collects stamps (freed_by h c names) =
        absurd (let other : 3 ≡ 2 = ap sort c in omega (arith, other))
    swept call n collects stamps (cleared_by k c held there kind target) =
        keeps call held there (same_stamp stamps) kind
        (⊎_elim (λ same. inl same) (λ null. inr (null, inl collects)) target)

  acts_keep : IsSoundHost u → (call : Call) → Acts u w → Keeps call
  acts_keep sound call a =
      acted (asked_in u.machine a.context a.slot) a.entry call a.command a.plain a.did.stamps
      (stepped_change sound.machine a.did.stepped slot was is)

only : {call : Call} → SomeOf Collected (call ∷ []) → Collected call
only one = ⊎_elim (λ is. is) (λ never. absurd never) one

-- a call that is two in a row
again : {v w : HostView} {handle : Handle} {slot : Slot} {was : Held Id} (call : Call)
    → (one : NamesTheSame handle slot was (call ∷ []) v) → NamesTheSame handle slot one.held (call ∷ []) w
    → NamesTheSame handle slot was (call ∷ []) w
again call one more = record {
  handle_is = more.handle_is;
  held = more.held;
  there = more.there;
  kind = more.kind ∙ one.kind;
  target = ⊎_elim
      (λ same. ⊎_elim (λ before. inl (same ∙ before)) (λ lost. inr (same ∙ lost.0, lost.1)) one.target)
      (λ lost. inr lost) more.target;
}

-- a block is given back, or none
trim_keeps : (paired : Bool) (u w : HostView) (handle : Handle) (slot : Slot) (was : Held Id)
    (of : IsOf u handle slot) (is : handle_at u.machine.state slot ≡ Some was) (sound : IsSoundHost u) (call : Call)
    (kind : Kind) (given : ℕ) → TrimsBy paired u kind given w → NamesTheSame handle slot was (call ∷ []) w
trim_keeps true u w handle slot was of is sound call kind given (inl did) =
    keeps u w handle slot was of is call was
    (ap (λ (s : State). handle_at s slot) did.1.left.state ∙ is)
    (same_stamp u w handle slot was of is did.1.left.stamps) refl (inl refl)
trim_keeps true u w handle slot was of is sound call kind given (inr kept) =
    keeps u w handle slot was of is call was
    (ap (λ (s : State). handle_at s slot) kept.1.same.state ∙ is)
    (same_stamp u w handle slot was of is kept.1.same.stamps) refl (inl refl)
trim_keeps false u w handle slot was of is sound call kind given did =
    acts_keep u w handle slot was of is sound call
    (acting 0 None (cmd.Trim kind) (inl refl) refl did.replied)

-- one after another
row_keeps : (u w : HostView) (handle : Handle) (slot : Slot) (was : Held Id) (of : IsOf u handle slot)
    (is : handle_at u.machine.state slot ≡ Some was) (sound : IsSoundHost u) (call : Call) {kinds : List Kind}
    → TrimsRow kinds u w → NamesTheSame handle slot was (call ∷ []) w
row_keeps u w handle slot was of is sound call no_kinds =
    record { handle_is = of; held = was; there = is; kind = refl; target = inl refl }
row_keeps u w handle slot was of is sound call (one_more {v = v} {kind = kind} given some did rest) =
    let one = trim_keeps (is_paired kind) u v handle slot was of is sound call kind given did in
    let after = turns_keep_sound 0 0 u v sound (turn_trimmed_block 0 0 kind _ did) in
    again call one (row_keeps v w handle slot one.held one.handle_is one.there after call rest)
row_keeps u w handle slot was of is sound call (next_kind {v = v} {kind = kind} did rest) =
    let one = trim_keeps (is_paired kind) u v handle slot was of is sound call kind 0 did in
    let after = turns_keep_sound 0 0 u v sound (turn_trimmed_block 0 0 kind _ did) in
    again call one (row_keeps v w handle slot one.held one.handle_is one.there after call rest)

-- a call that frees or sets another handle, or neither
one_keeps : (u w : HostView) (handle : Handle) (slot : Slot) (was : Held Id) (of : IsOf u handle slot)
    (is : handle_at u.machine.state slot ≡ Some was) (sound : IsSoundHost u) (call : Call)
    → (FreesOrSets handle call → ⊥) → DoesOne u w call → NamesTheSame handle slot was (call ∷ []) w
one_keeps u w handle slot was of is sound call apart (nothing same) =
    keeps u w handle slot was of is call was (ap (λ (s : State). handle_at s slot) same.state ∙ is)
    (same_stamp u w handle slot was of is same.stamps) refl (inl refl)
one_keeps u w handle slot was of is sound call apart (acts a) =
    acts_keep u w handle slot was of is sound call a
one_keeps u w handle slot was of is sound call apart (in_row {v = v} a b) =
    let one = acts_keep u v handle slot was of is sound call a in
    let after = turns_keep_sound u.machine.numbers.callers 0 u v sound (acts_turn a) in
    again call one (acts_keep v w handle slot one.held one.handle_is one.there after call b)
one_keeps u w handle slot was of is sound call apart (steps_alone step) =
    keeps u w handle slot was of is call was
    (ap (λ (m : FinMap nat_cmp (Held Id)). get m slot.0) (step_handles step) ∙ is)
    (same_stamp u w handle slot was of is (step_stamps step)) refl (inl refl)
one_keeps u w handle slot was of is sound call apart (trims_row row) =
    row_keeps u w handle slot was of is sound call row
one_keeps u w handle slot was of is sound call apart
    (sets_it {handle = other} {context = context} {src = src} at e of_at did) =
    set_beside u w handle slot was of is (asked_in u.machine context (Some at)) e call at src
    (named sound.machine did.stepped)
    (λ same. apart (subst (λ x. FreesOrSets x (on_handle other (set context src (Ok tt))))
    (one_handle u w handle slot was of is other at of_at same) (setting context src)))
    did.stamps (stepped_change sound.machine did.stepped slot was is)
one_keeps u w handle slot was of is sound call apart (frees_it {handle = other} did) =
    freed_beside u w handle slot was of is (asked_in u.machine 0 (Some did.slot)) did.entry call did.slot
    (named sound.machine did.stepped) beside stamp (stepped_change sound.machine did.stepped slot was is)
  where
    beside : did.slot ≡ slot → ⊥
    beside same = apart (subst (λ x. FreesOrSets x (on_handle other (free (Ok tt))))
        (one_handle u w handle slot was of is other did.slot did.handle_is same) freeing)

    stamp : stamp_of w slot ≡ stamp_of u slot
    stamp = ap (λ (xs : List ℕ). slice_index xs slot.0) did.stamps
        ∙ get_or-set_other u.stamps did.slot.0 slot.0 (stamp_of u did.slot + 1) 0
        (λ same. beside (λ i. record { 0 = sym same i }))
one_keeps u w handle slot was of is sound call apart (collects_all {n = n} {report = report} e did) =
    swept u w handle slot was of is (asked_in u.machine 0 None) e call n (collected n report) did.stamps
    (stepped_change sound.machine did.stepped slot was is)

-- one call, and then others
joined : {v w : HostView} {handle : Handle} {slot : Slot} {was : Held Id} {call : Call} {calls : List Call}
    → (one : NamesTheSame handle slot was (call ∷ []) v) → NamesTheSame handle slot one.held calls w
    → NamesTheSame handle slot was (call ∷ calls) w
joined one more = record {
  handle_is = more.handle_is;
  held = more.held;
  there = more.there;
  kind = more.kind ∙ one.kind;
  target = ⊎_elim
      (λ same. ⊎_elim (λ before. inl (same ∙ before)) (λ lost. inr (same ∙ lost.0, inl (only lost.1)))
      one.target)
      (λ lost. inr (lost.0, inr lost.1)) more.target;
}

names_on : (u w : HostView) (handle : Handle) (slot : Slot) (was : Held Id) (calls : List Call)
    → IsSoundHost u
    → IsOf u handle slot → handle_at u.machine.state slot ≡ Some was → Calls u calls w
    → NoneOf (FreesOrSets handle) calls → NamesTheSame handle slot was calls w
names_on u w handle slot was calls sound of is none apart =
    record { handle_is = of; held = was; there = is; kind = refl; target = inl refl }
names_on u w handle slot was calls sound of is (first {v = v} {call = call} {calls = others} did rest) apart =
    let after = turns_keep_sound u.machine.numbers.callers 0 u v sound (each_call_is_a_turn call u v did) in
    let one = one_keeps u v handle slot was of is sound call apart.0 (does_one {u = u} {w = v} call did) in
    joined one (names_on v w handle slot one.held others after one.handle_is one.there rest apart.1)

pub live_names_the_same : LiveNamesTheSame
live_names_the_same u w handle slot was calls reached of is came apart =
    names_on u w handle slot was calls (reached_sound u reached) of is came apart

-- a handle of a live slot is in no block that may be given back
pub spare_blocks_have_none : SpareBlocksHaveNone
spare_blocks_have_none v kind block handle slot spare of here =
    true≢false (sym of.live ∙ ap is_some (spare.vacant slot here).no_handle)
