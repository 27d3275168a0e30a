-- What the weak table has for a key is what the run attached to it.
use Rattle.hd_model.specs.{declared.command.Cmd.Cmd, declared.data.Entry.Entry, declared.data.Id.Id, declared.data.Reply.Reply, declared.data.Slot.Slot}
use Rattle.hd_laws.proofs.Basics.{AddIsRefusedWhereAttached, FindReturnsWhatIsAttached, IsOnKey, NullKeysAreRefused, RemoveReturnsWhetherAttached, adds, attached, attached_by, finds, removes}
use Rattle.hd_model.proofs.Basics.{Bool, Chain, DoesCollect, FinMap, IsSome, IsSomeAnd, IsWellFormed, List, None, Numbers, Option, Outcome, Some, State, Step, StepOf, TakesWay, WeakEntry, adding_key, and_from, reply_with, ap, cases_Bool, cases_eq, cond-true, eq-eqb, false, get, get-empty, idle_slot, if◌then◌else◌, in_idle, in_new, inl, inr, insert, is_done, is_target, le_trans, link, load_reply, nat_cmp, ne_eqb, none-some, on_object, option_map, option_map_or, refl, refuses, register_of, same_Some, scene_of, slot_of_key, start_of, stay, subst, swept, sym, touched_by, true, true≢false, value_at, way_of_adding, with_register, with_weak, ℕ, ⊎_elim, ◌&&◌, ◌/◌, ◌==◌, ◌^◌, ◌∙◌, ◌≡◌, ◌≢◌, ◌⊎◌}
use Rattle.hd_model.specs.Command.{is_refused}
use Rattle.hd_model.proofs.ReadAfterWrite.{get_inserted, get_beside, inserted_from}
use Rattle.hd_model.proofs.{WholeScenes.whole_scene, Reports.gone, WellFormedCollection.was_entry, Outcomes.option_cases, StateReadBack.step_of, StateReadBack.on_object_is}
use Rattle.hd_model.proofs.WeakSlots.{HasNoKey, HasKey, key_found, key_none, value_is}
use Rattle.hd_model.proofs.Effects.{Effect, MayHold, refused, collects, adds_entry, removes_entry, removes_none, effect}
use Rattle.hd_model.proofs.WellFormedSteps.{has, given_not_weak, step_keeps, start_is_well_formed}
use Rattle.hd_model.proofs.StepWrites.{IsGone, gone_some, object_kept, serials_rise}
use Rattle.hd_model.specs.declared.data.Refusal.TheVariants as refusal
use Rattle.hd_model.specs.declared.data.Reply.TheVariants as reply
use Rattle.hd_model.specs.declared.command.Cmd.TheVariants as cmd

abbrev Entries : Type 0
Entries = FinMap nat_cmp (Option (WeakEntry Id))

-- a slot has the entry of a key, with a value
pub record HoldsValue (m : Entries) (key : Id) (v : Option Id) : Type 0 where
  pub slot : ℕ
  pub entry : WeakEntry Id
  pub held : get m slot ≡ Some (Some entry)
  pub keyed : entry.key ≡ key
  pub valued : entry.value ≡ v

-- the slots have an entry of a key with a value, or no entry of it
abbrev pub Holds : Entries → Id → Option (Option Id) → Type 0
Holds m key None = (q : ℕ) (x : WeakEntry Id) → get m q ≡ Some (Some x) → x.key ≡ key → ⊥
Holds m key (Some v) = HoldsValue m key v

same_content : (m : Entries) (q : ℕ) (x y : WeakEntry Id) → get m q ≡ Some (Some x) → get m q ≡ Some (Some y)
    → x ≡ y
same_content m q x y a b = same_Some x y (same_Some (Some x) (Some y) (sym a ∙ b))

not_idle : (m : Entries) (q : ℕ) (x : WeakEntry Id) → get m q ≡ Some (Some x) → get m q ≡ Some None → ⊥
not_idle m q x a b = none-some x (same_Some None (Some x) (sym b ∙ a))

-- a write of a slot that has no entry of the key, of what has none, leaves what the others have of it
module _ (m : Entries) (key : Id) (slot : ℕ) (c : Option (WeakEntry Id)) where
  kept_beside : ((x : WeakEntry Id) → get m slot ≡ Some (Some x) → x.key ≡ key → ⊥)
      → ((x : WeakEntry Id) → c ≡ Some x → x.key ≡ key → ⊥) → (o : Option (Option Id)) → Holds m key o
      → Holds (insert m slot c) key o
  kept_beside before after None none = λ q x at same.
      ⊎_elim (λ old. none q x old same) (λ new. after x new.1 same) (inserted_from m slot c q (Some x) at)
  kept_beside before after (Some v) h =
      let apart : h.slot ≢ slot = λ same. before h.entry (ap (get m) (sym same) ∙ h.held) h.keyed in
      record {
        slot = h.slot;
        entry = h.entry;
        held = get_beside m slot c h.slot apart ∙ h.held;
        keyed = h.keyed;
        valued = h.valued;
      }

key_is : (a b : Id) → a.0 ≡ b.0 → a ≡ b
key_is a b e = λ i. record { 0 = e i }

-- whether a register names the key, by what it references
named_test : (key other : Id) (o : Option Id) → o ≡ Some other → is_target key.0 o ≡ (other.0 == key.0)
named_test key other o e = ap (is_target key.0) e

no_test : {A : Type 0} (b : Bool) (x y : A) → (if b && false then x else y) ≡ y
no_test true x y = refl
no_test false x y = refl

-- a command that is not done attaches nothing and takes nothing
not_done_same : (s : State) (key : Id) (caller : ℕ) (c : Cmd) (r : Reply) (o : Option (Option Id))
    → is_done r ≡ false → attached_by s key caller c r o ≡ o
not_done_same s key caller c r o off = by (touched_by c).adds (touched_by c).takes_out
  where
    taken : (t : Option ℕ)
        → option_map_or (λ k. if is_target key.0
        (register_of s caller k) && is_done r then None else o) t o ≡ o
    taken None = refl
    taken (Some k) =
        ap (λ b. if is_target key.0 (register_of s caller k) && b then None else o) off
        ∙ no_test (is_target key.0 (register_of s caller k)) None o

    by : (a : Option (ℕ × ℕ)) (t : Option ℕ)
        → option_map_or (λ p. if is_target key.0 (register_of s caller p.0) && is_done r
        then Some (register_of s caller p.1) else o) a
        (option_map_or (λ k. if is_target key.0
        (register_of s caller k) && is_done r then None else o) t o) ≡ o
    by None t = taken t
    by (Some p) t =
        ap (λ b. if is_target key.0 (register_of s caller p.0) && b
        then Some (register_of s caller p.1) else o) off
        ∙ no_test (is_target key.0 (register_of s caller p.0)) (Some (register_of s caller p.1)) o

module _ (n : Numbers) (s : State) (w : IsWellFormed n s) (e : Entry) (key : Id) where
  abbrev After : Cmd → State → Option (Option Id) → Type 0
  After c t o = IsGone t key ⊎ Holds t.weak key (attached_by s key e.caller c e.reply o)

  -- the test of a done command on a key
  tested : (other : Id) (k : ℕ) → register_of s e.caller k ≡ Some other → e.reply ≡ reply.Done → (b : Bool)
      → (other.0 == key.0) ≡ b → (is_target key.0 (register_of s e.caller k) && is_done e.reply) ≡ b
  tested other k f p true e' =
      and_from _ _ (named_test key other (register_of s e.caller k) f ∙ e') (ap is_done p)
  tested other k f p false e' = ap
      (λ b. b && is_done e.reply) (named_test key other (register_of s e.caller k) f ∙ e')

  adds_holds : (k v : ℕ) (other : Id) (slot : Slot) → register_of s e.caller k ≡ Some other → HasNoKey s other
      → MayHold n s e.grown slot → e.reply ≡ reply.Done → (o : Option (Option Id)) → Holds s.weak key o
      → Holds (insert s.weak slot.0 (Some (record { key = other; value = register_of s e.caller v }))) key
      (if is_target key.0 (register_of s e.caller k) && is_done e.reply
      then Some (register_of s e.caller v) else o)
  adds_holds k v other slot f none may p o had =
      ⊎_elim
      (λ same. subst (λ b. Holds after key (if b then Some (register_of s e.caller v) else o))
      (sym (tested other k f p true (eq-eqb other.0 key.0 same)))
      (record {
        slot = slot.0;
        entry = put;
        held = get_inserted s.weak slot.0 (Some put);
        keyed = key_is other key same;
        valued = refl;
      }))
      (λ apart. subst (λ b. Holds after key (if b then Some (register_of s e.caller v) else o))
      (sym (tested other k f p false (ne_eqb other.0 key.0 apart)))
      (kept_beside s.weak key slot.0 (Some put) (λ x at _. vacant x at)
      (λ x is same. apart (ap (λ (y : Id). y.0)
      (ap (λ (y : WeakEntry Id). y.key) (same_Some put x is) ∙ same))) o had))
      (cases_eq other.0 key.0)
    where
      put : WeakEntry Id
      put = record { key = other; value = register_of s e.caller v }

      after : Entries
      after = insert s.weak slot.0 (Some put)

      vacant : (x : WeakEntry Id) → get s.weak slot.0 ≡ Some (Some x) → ⊥
      vacant x at =
          ⊎_elim (λ idle. not_idle s.weak slot.0 x at idle.0)
          (λ give. none-some (Some x) (sym (given_not_weak n s w _ e.grown slot give) ∙ at)) may

  removes_holds : (k : ℕ) (other : Id) (slot : Slot) → HasKey s other slot.0
      → register_of s e.caller k ≡ Some other → e.reply ≡ reply.Done → (o : Option (Option Id))
      → Holds s.weak key o → Holds (insert s.weak slot.0 None) key
      (if is_target key.0 (register_of s e.caller k) && is_done e.reply then None else o)
  removes_holds k other slot x f p o had =
      ⊎_elim
      (λ same. subst (λ b. Holds (insert s.weak slot.0 None) key (if b then None else o))
      (sym (tested other k f p true (eq-eqb other.0 key.0 same)))
      (λ q y at keyed. ⊎_elim
      (λ old.
      let here = w.weak.once q slot.0 y x.entry old x.held
      (keyed ∙ sym (key_is other key same) ∙ sym x.keyed) in
      not_idle (insert s.weak slot.0 None) q y at
      (ap (get (insert s.weak slot.0 None)) here ∙ get_inserted s.weak slot.0 None))
      (λ new. none-some y new.1) (inserted_from s.weak slot.0 None q (Some y) at)))
      (λ apart. subst (λ b. Holds (insert s.weak slot.0 None) key (if b then None else o))
      (sym (tested other k f p false (ne_eqb other.0 key.0 apart)))
      (kept_beside s.weak key slot.0 None
      (λ y at keyed. apart (ap (λ (z : Id). z.0) (sym x.keyed
      ∙ ap (λ (z : WeakEntry Id). z.key) (same_content s.weak slot.0 x.entry y x.held at) ∙ keyed)))
      (λ y no _. none-some y no) o had))
      (cases_eq other.0 key.0)

  -- over a collection an entry stays, or its key is gone
  collected_holds : (k : ℕ) (t : State) → DoesCollect s e t k → (o : Option (Option Id)) → Holds s.weak key o
      → IsGone t key ⊎ Holds t.weak key o
  collected_holds k t did None none =
      inr (λ q x at same. none q x (was_entry n k s t did.report w did.collects q x at) same)
  collected_holds k t did (Some v) h =
      ⊎_elim
      (λ kept. inr (record {
        slot = h.slot;
        entry = h.entry;
        held = did.collects.weak h.slot ∙ ap (option_map (swept did.collects.scene.kept)) h.held
            ∙ ap Some (cond-true (did.collects.scene.kept h.entry.key) (Some h.entry) None kept);
        keyed = h.keyed;
        valued = h.valued;
      }))
      (λ lost. inl (record {
        none = gone (λ (y : Id). y.0) k (scene_of s) (scene_of t) did.report (whole_scene n s w)
            did.collects.scene key (ap did.collects.scene.kept (sym h.keyed) ∙ lost);
        past = le_trans (w.serials.to_last key.0 (subst (λ (y : Id). IsSome (get s.objects y.0)) h.keyed
            (w.names.keys h.slot h.entry h.held)))
            (serials_rise n s e (cmd.Collect k) t (key.0 / 2 ^ 32) (collects did));
      }))
      (cases_Bool (did.collects.scene.kept h.entry.key))

  effect_holds : (c : Cmd) (t : State) (o : Option (Option Id)) → Effect n s e c t → Holds s.weak key o
      → After c t o
  effect_holds c t o (refused p) had =
      inr (subst (Holds s.weak key) (sym (not_done_same s key e.caller c e.reply o (ap is_done p))) had)
  effect_holds c t o (adds_entry {k = k} {v = v} other slot f none may p q) had =
      inr (adds_holds k v other slot f none may p o had)
  effect_holds c t o (removes_entry {k = k} other slot x f p) had = inr
      (removes_holds k other slot x f p o had)
  effect_holds c t o (removes_none {k = k} other f none p) had =
      inr (subst (Holds s.weak key)
      (sym (not_done_same s key e.caller (cmd.CRemove k) e.reply o (ap is_done p))) had)
  effect_holds c t o (collects {k = k} did) had = collected_holds k t did o had
  effect_holds c t o _ had = inr had

  -- what is gone stays gone
  gone_on : (t : State) → Effect n s e e.cmd t → IsGone s key → IsGone t key
  gone_on t does gone_before =
      ⊎_elim (λ g. g) (λ never. absurd (nobody (get t.objects key.0) never))
      (object_kept n s w e key (λ _. ⊥) (λ a b _ _ never. never) e.cmd t does (λ _ _ _ _ _ _ _ never. never)
      (λ _ _ _ _ _ never. never) (inl gone_before))
    where
      nobody : {A : Type 0} (o : Option A) → IsSomeAnd o (λ _. ⊥) → ⊥
      nobody None h = h
      nobody (Some x) h = h

-- over a chain of steps the table has what the chain attached
chain_holds : (n : Numbers) (key : Id) {s t : State} {es : List Entry} → IsWellFormed n s
    → (run : Chain (Step n) s es t) (o : Option (Option Id)) → IsGone s key ⊎ Holds s.weak key o
    → IsWellFormed n t × (IsGone t key ⊎ Holds t.weak key (attached key run o))
chain_holds n key w stay o had = (w, had)
chain_holds n key w (link {s = s} {t = t} {e = e} step rest) o had =
    chain_holds n key (step_keeps n s t e w step) rest (attached_by s key e.caller e.cmd e.reply o)
    (⊎_elim (λ g. inl (gone_on n s w e key t (effect n s e t step) g))
    (λ h. effect_holds n s w e key e.cmd t o (effect n s e t step) h) had)

-- of a key in a register the table has what the run attached to it
run_holds : (n : Numbers) (key : Id) (caller k : ℕ) {now : State} → IsWellFormed n now
    → register_of now caller k ≡ Some key → (o : Option (Option Id)) → IsGone now key ⊎ Holds now.weak key o
    → Holds now.weak key o
run_holds n key caller k {now} w names o had =
    ⊎_elim (λ g. absurd (gone_some now key g (has n now caller k key w names))) (λ h. h) had

-- what a search for a key finds, against what the table has of it
module _ (n : Numbers) (s : State) (w : IsWellFormed n s) (key : Id) where
  found_value : (slot : Slot) → slot_of_key s key ≡ Some slot → (v : Option Id) → Holds s.weak key (Some v)
      → value_at s slot ≡ v
  found_value slot is v h =
      let found = key_found s key slot is in
      let here = w.weak.once h.slot slot.0 h.entry found.entry h.held found.held (h.keyed
      ∙ sym found.keyed) in
      value_is s slot h.entry (ap (get s.weak) (sym here) ∙ h.held) ∙ h.valued

  not_found : {A : Type 0} (slot : Slot) → slot_of_key s key ≡ Some slot → Holds s.weak key None → A
  not_found slot is none =
      let found = key_found s key slot is in absurd (none slot.0 found.entry found.held found.keyed)

  must_be : {A : Type 0} → slot_of_key s key ≡ None → (v : Option Id) → Holds s.weak key (Some v) → A
  must_be is v h = absurd (key_none s key is h.slot h.entry h.held h.keyed)

  find_replies : (d : ℕ) (caller : ℕ) (found : Option Slot) → slot_of_key s key ≡ found
      → (o : Option (Option Id)) → Holds s.weak key o
      → (option_map_or (λ slot. reply_with (load_reply (value_at s slot)) (with_register s caller d
      (value_at s slot)))
      found (reply_with reply.Absent (with_register s caller d None))).reply
      ≡ option_map_or load_reply o reply.Absent
  find_replies d caller (Some slot) is (Some v) had = ap load_reply (found_value slot is v had)
  find_replies d caller (Some slot) is None had = not_found slot is had
  find_replies d caller None is (Some v) had = must_be is v had
  find_replies d caller None is None had = refl

  remove_replies : (found : Option Slot) → slot_of_key s key ≡ found → (o : Option (Option Id))
      → Holds s.weak key o
      → (option_map_or (λ slot. reply_with reply.Done (with_weak s slot None)) found
      (reply_with reply.Absent s)).reply
      ≡ option_map_or (λ _. reply.Done) o reply.Absent
  remove_replies (Some slot) is (Some v) had = refl
  remove_replies (Some slot) is None had = not_found slot is had
  remove_replies None is (Some v) had = must_be is v had
  remove_replies None is None had = refl

  module _ (e : Entry) (t : State) (v : ℕ) where
    adding_some : (idle : Option Slot)
        → TakesWay n s e t (way_of_adding s e.caller v (option_map_or
        (λ slot. in_idle slot key) idle (in_new key)))
        → e.reply ≡ reply.Refused refusal.Present → ⊥
    adding_some None takes present =
        ⊎_elim (λ a. let done = sym a.reply ∙ present in cc)
        (λ full. let other = sym full.refused.reply ∙ present in cc) takes
    adding_some (Some slot) takes present = let done = sym takes.reply ∙ present in cc

    add_replies : (found : Option Slot) → slot_of_key s key ≡ found
        → TakesWay n s e t (way_of_adding s e.caller v (option_map_or (λ _. is_refused refusal.Present) found
        (option_map_or (λ slot. in_idle slot key) (idle_slot s) (in_new key))))
        → (o : Option (Option Id)) → Holds s.weak key o
        → ((e.reply ≡ reply.Refused refusal.Present) → IsSome o)
        × (IsSome o → e.reply ≡ reply.Refused refusal.Present)
    add_replies (Some slot) is takes (Some v') had = (λ _. refl, λ _. takes.reply)
    add_replies (Some slot) is takes None had = not_found slot is had
    add_replies None is takes (Some v') had = must_be is v' had
    add_replies None is takes None had =
        (λ present. absurd (adding_some (idle_slot s) takes present), λ h. absurd (true≢false (sym h)))

nothing_held : (n : Numbers) (key : Id) → Holds (start_of n).weak key None
nothing_held n key q x e same = none-some (Some x) (sym (get-empty nat_cmp q) ∙ e)

pub find_returns_what_is_attached : FindReturnsWhatIsAttached
find_returns_what_is_attached n journal now new e d k key run step is names =
    let (w, had) = chain_holds n key (start_is_well_formed n) run None (inr (nothing_held n key)) in
    let o = attached key run None in
    (step_of n now e new (cmd.CFind d k) step is).reply
    ∙ ap (λ (x : Outcome). x.reply) (on_object_is now e.caller k _ key names)
    ∙ find_replies n now w key d e.caller (slot_of_key now key) refl o
    (run_holds n key e.caller k w names o had)

pub remove_returns_whether_attached : RemoveReturnsWhetherAttached
remove_returns_whether_attached n journal now new e k key run step is names =
    let (w, had) = chain_holds n key (start_is_well_formed n) run None (inr (nothing_held n key)) in
    let o = attached key run None in
    (step_of n now e new (cmd.CRemove k) step is).reply
    ∙ ap (λ (x : Outcome). x.reply) (on_object_is now e.caller k _ key names)
    ∙ remove_replies n now w key (slot_of_key now key) refl o (run_holds n key e.caller k w names o had)

pub add_is_refused_where_attached : AddIsRefusedWhereAttached
add_is_refused_where_attached n journal now new e k v key run step is names =
    let (w, had) = chain_holds n key (start_is_well_formed n) run None (inr (nothing_held n key)) in
    let o = attached key run None in
    option_cases (λ a. TakesWay n now e new (way_of_adding now e.caller v a)
    → ((e.reply ≡ reply.Refused refusal.Present) → IsSome o)
    × (IsSome o → e.reply ≡ reply.Refused refusal.Present))
    (adding_key now) (register_of now e.caller k) _ (λ null _. absurd (none-some key (sym null ∙ names)))
    (λ other is_key takes. let same : other ≡ key = same_Some other key (sym is_key ∙ names) in
    add_replies n now w key e new v (slot_of_key now key) refl
    (subst (λ a. TakesWay n now e new (way_of_adding now e.caller v (adding_key now a))) same takes) o
    (run_holds n key e.caller k w names o had)) (step_of n now e new (cmd.CAdd k v) step is)

pub null_keys_are_refused : NullKeysAreRefused
null_keys_are_refused n s t e k step on null = by e.cmd on step.does
  where
    null_object : (act : Id → Outcome) → (on_object s e.caller k act).reply ≡ reply.Refused refusal.Null
    null_object act = ap (λ r. (option_map_or act r (refuses refusal.Null s)).reply) null

    by : (c : Cmd) → IsOnKey k c → StepOf n s e t c → e.reply ≡ reply.Refused refusal.Null
    by c (finds d) does = does.reply ∙ null_object _
    by c removes does = does.reply ∙ null_object _
    by c (adds v) does =
        option_cases (λ a. TakesWay n s e t (way_of_adding s e.caller v a)
        → e.reply ≡ reply.Refused refusal.Null)
        (adding_key s) (register_of s e.caller k) _ (λ _ refuses. refuses.reply)
        (λ key names _. absurd (none-some key (sym null ∙ names))) does
