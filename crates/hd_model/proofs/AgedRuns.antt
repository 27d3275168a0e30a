-- The ages that a run leaves are sound: a step lowers or raises them as the machine changes what they bound.
use Rattle.hd_model.proofs.Basics.{Aged, AgedStep, AgesOfRunsAreSound, Chain, Cmd, Entry, Extra, Handle, HasSoundAges, Id, IsSome, IsWellFormed, List, Make, None, Numbers, Object, Objects, Option, Reply, Rows, Slot, Some, State, WeakEntry, age_of, aged_by_command, ap, arith, cond, count, empty, false, fresh_object, generation_at, generation_in, get, get-empty, inl, inr, insert, is_refused, is_some, le_trans, link, load_reply, lowered, lowered_at, lowered_by_new, lowered_to, made_extra, made_handle, nat_cmp, none-some, nothing, object_by_id, option_and_then, option_map, option_map_or, option_or, refl, register_of, row_of, same_Some, scene_of, secondary, secondary_of, secondary_register, start_of, stay, strength, subst, sym, true, true≢false, unwrap_or, weak_handle, with_handle, with_weak, without_handle, without_secondary, ℕ, ⊎_elim, ◌∙◌, ◌≡◌, ◌≤◌, ◌⊎◌}
use Rattle.hd_model.proofs.{ReadAfterWrite.insert_cases, ReadAfterWrite.remove_cases, WeakSlots.handle_row, WeakSlots.row_cases, WellFormedWrites.live_not_weak, KindTests.made_secondary, WholeScenes.whole_scene, RunCounts.fresh, WellFormedSteps.step_keeps, WellFormedSteps.start_is_well_formed}
use Rattle.hd_model.proofs.Effects.{Effect, next_identity, effect, refused, makes_object, sets_field, gets_field, sets_value, reads_value, copies, clears, puts_static, gets_static, reads_generation, suppresses, reregisters, finds_none, takes_first, collects, makes_handle, gets_target, sets_target, sets_secondary, gets_secondary, sets_strength, raises_count, lowers_count, frees_handle, puts_board, picks_board, replies_address, gives_back, gives_none, adds_entry, finds_value, finds_no_entry, removes_entry, removes_none}
use Rattle.hd_model.proofs.Ages.{lowered_below, lowered_here, grown_sound}
use Rattle.hd_model.proofs.Effects.{replies_root}

-- the ages of a state's clumps are sound
abbrev pub IsSound : State → List ℕ → Type 0
IsSound s ages = HasSoundAges (scene_of s).object (scene_of s).handle ages

-- each row after a write: one that was there, or the new one
module _ (s : State) where
  row_written : (slot : Slot) (new : Handle Id) (q : ℕ) (h : Handle Id)
      → row_of (with_handle s slot new) q ≡ Some h → (row_of s q ≡ Some h) ⊎ ((q ≡ slot.0) × (new ≡ h))
  row_written slot new q h =
      insert_cases s.handles slot.0 (λ j o. option_or o (option_map weak_handle (get s.weak j)) ≡ Some h
      → (row_of s j ≡ Some h) ⊎ ((j ≡ slot.0) × (new ≡ h))) new q
      (λ e. inr (refl, same_Some new h e)) (λ _ e. inl e)

  row_held : (slot : Slot) (c : Option (WeakEntry Id)) (q : ℕ) (h : Handle Id)
      → row_of (with_weak s slot c) q ≡ Some h → (row_of s q ≡ Some h) ⊎ ((q ≡ slot.0) × (weak_handle c ≡ h))
  row_held slot c q h =
      insert_cases s.weak slot.0 (λ j o. option_or (get s.handles j) (option_map weak_handle o) ≡ Some h
      → (row_of s j ≡ Some h) ⊎ ((j ≡ slot.0) × (weak_handle c ≡ h))) c q
      (by (get s.handles slot.0) refl) (λ _ e. inl e)
    where
      by : (o : Option (Handle Id)) → get s.handles slot.0 ≡ o → option_or o (Some (weak_handle c)) ≡ Some h
          → (row_of s slot.0 ≡ Some h) ⊎ ((slot.0 ≡ slot.0) × (weak_handle c ≡ h))
      by None is e = inr (refl, same_Some (weak_handle c) h e)
      by (Some g) is e = inl (handle_row s slot.0 g is ∙ e)

module _ (s : State) (ages : List ℕ) (sound : IsSound s ages) where
  -- a row may be written where its clump's new age is at most the generation of what it references
  written : (rows : Rows Id) (later : List ℕ) (slot : Slot) (new : Handle Id)
      → ((q : ℕ) (h : Handle Id) → rows q ≡ Some h → (row_of s q ≡ Some h) ⊎ ((q ≡ slot.0) × (new ≡ h)))
      → ((q : ℕ) → age_of later q ≤ age_of ages q)
      → ((x : Id) → new.target ≡ Some x → age_of later slot.0 ≤ generation_at (scene_of s).object x)
      → ((x : Id) → secondary_of new.extra ≡ Some x
      → age_of later slot.0 ≤ generation_at (scene_of s).object x)
      → HasSoundAges (scene_of s).object rows later
  written rows later slot new each below target second = record {
    targets = λ q h x is_stored e. ⊎_elim (λ was. le_trans (below q) (sound.targets q h x was e))
        (λ here. subst (λ k. age_of later k ≤ generation_at (scene_of s).object x) (sym here.0)
        (target x (ap (λ (g : Handle Id). g.target) here.1 ∙ e)))
        (each q h is_stored);
    secondaries = λ q h x is_stored e. ⊎_elim (λ was. le_trans (below q) (sound.secondaries q h x was e))
        (λ here. subst (λ k. age_of later k ≤ generation_at (scene_of s).object x) (sym here.0)
        (second x (ap (λ (g : Handle Id). secondary_of g.extra) here.1 ∙ e)))
        (each q h is_stored);
  }

  same_ages : (q : ℕ) → age_of ages q ≤ age_of ages q
  same_ages q = omega arith

  -- a row that references nothing new
  same_names : (slot : Slot) (old new : Handle Id) → get s.handles slot.0 ≡ Some old → new.target ≡ old.target
      → secondary_of new.extra ≡ None
      → HasSoundAges (scene_of s).object (row_of (with_handle s slot new)) ages
  same_names slot old new is_stored same none =
      written _ ages slot new (row_written s slot new) same_ages
      (λ x e. sound.targets slot.0 old x (handle_row s slot.0 old is_stored) (sym same ∙ e))
      (λ x e. absurd (none-some x (sym none ∙ e)))

  -- a row whose target is stored
  stored : (slot : Slot) (new : Handle Id) (v : Option Id) → new.target ≡ v → secondary_of new.extra ≡ None
      → HasSoundAges (scene_of s).object (row_of (with_handle s slot new)) (lowered_to s ages (Some slot) v)
  stored slot new None at none =
      written _ ages slot new (row_written s slot new) same_ages (λ x e. absurd (none-some x (sym at ∙ e)))
      (λ x e. absurd (none-some x (sym none ∙ e)))
  stored slot new (Some y) at none =
      let g : ℕ = generation_at (scene_of s).object y in
      written _ (lowered ages slot.0 g) slot new (row_written s slot new) (lowered_below ages slot.0 g)
      (λ x e. subst (λ z. age_of (lowered ages slot.0 g) slot.0 ≤ generation_at (scene_of s).object z)
      (same_Some y x (sym at ∙ e)) (lowered_here ages slot.0 g))
      (λ x e. absurd (none-some x (sym none ∙ e)))

  zero_low : (slot : Slot) (k : ℕ) → age_of (lowered ages slot.0 0) slot.0 ≤ k
  zero_low slot k = let here : age_of (lowered ages slot.0 0) slot.0 ≤ 0 = lowered_here ages slot.0 0 in
      omega arith

  -- a row whose clump gets age 0 may reference anything
  zeroed : (slot : Slot) (new : Handle Id)
      → HasSoundAges (scene_of s).object (row_of (with_handle s slot new)) (lowered ages slot.0 0)
  zeroed slot new =
      written _ (lowered ages slot.0 0) slot new (row_written s slot new) (lowered_below ages slot.0 0)
      (λ x e. zero_low slot _) (λ x e. zero_low slot _)

  -- so too a row of the weak table, and one that attaches nothing needs no age
  entered : (slot : Slot) (c : Option (WeakEntry Id))
      → HasSoundAges (scene_of s).object (row_of (with_weak s slot c)) (lowered ages slot.0 0)
  entered slot c =
      written _ (lowered ages slot.0 0) slot (weak_handle c) (row_held s slot c) (lowered_below ages slot.0 0)
      (λ x e. zero_low slot _) (λ x e. zero_low slot _)

  emptied : (slot : Slot) → HasSoundAges (scene_of s).object (row_of (with_weak s slot None)) ages
  emptied slot =
      written _ ages slot (weak_handle None) (row_held s slot None) same_ages (λ x e. absurd (none-some x e))
      (λ x e. absurd (none-some x e))

  made : (c : ℕ) (given : Make) (t : ℕ) (slot : Slot)
      → HasSoundAges (scene_of s).object (row_of (with_handle s slot (made_handle s c given t)))
      (lowered_by_new s ages (Some slot) given (register_of s c t))
  made c given t slot = by (secondary_register given) (made_secondary s c given t)
    where
      by : (o : Option ℕ) → secondary_of (made_extra s c given t)
          ≡ option_and_then (λ r. option_and_then (λ _. register_of s c r) (register_of s c t)) o
          → HasSoundAges (scene_of s).object (row_of (with_handle s slot (made_handle s c given t)))
          (option_map_or (λ _. lowered_at ages (Some slot) 0) o (lowered_to s ages (Some slot)
          (register_of s c t)))
      by None none = stored slot _ (register_of s c t) refl none
      by (Some r) some = zeroed slot _

  freed : (slot : Slot) → get s.weak slot.0 ≡ None
      → HasSoundAges (scene_of s).object (row_of (without_handle s slot)) ages
  freed slot not_weak = record {
    targets = λ q h x is_stored e. sound.targets q h x (was q h is_stored) e;
    secondaries = λ q h x is_stored e. sound.secondaries q h x (was q h is_stored) e;
  }
    where
      was : (q : ℕ) (h : Handle Id) → row_of (without_handle s slot) q ≡ Some h → row_of s q ≡ Some h
      was q h =
          remove_cases s.handles slot.0 (λ j o. option_or o (option_map weak_handle (get s.weak j)) ≡ Some h
          → row_of s j ≡ Some h) q
          (λ e. absurd (none-some h (sym (ap (option_map weak_handle) not_weak) ∙ e))) (λ _ e. e)

  -- objects may change where each one referenced keeps its generation
  regrouped : (o : Objects Id) → ((x : Id) → IsSome (get s.objects x.0)
      → generation_at o x ≡ generation_at (scene_of s).object x)
      → (n : Numbers) → IsWellFormed n s → HasSoundAges o (scene_of s).handle ages
  regrouped o same n w = record {
    targets = λ q h x is_stored e. subst (λ g. age_of ages q ≤ g)
        (sym (same x ((whole_scene n s w).targets q h x is_stored e))) (sound.targets q h x is_stored e);
    secondaries = λ q h x is_stored e. subst (λ g. age_of ages q ≤ g)
        (sym (same x ((whole_scene n s w).secondaries q h x is_stored e)))
        (sound.secondaries q h x is_stored e);
  }

without_none : (x : Extra Id) → secondary_of (without_secondary x) ≡ None
without_none nothing = refl
without_none (strength given) = refl
without_none (secondary o) = refl
without_none (count c) = refl

not_refused : (o : Option Id) → is_refused (load_reply o) ≡ false
not_refused None = refl
not_refused (Some x) = refl

unwrapped : (o : Option (Object Id)) (d : Object Id) → IsSome o → (unwrap_or o d).generation ≡ generation_in o
unwrapped None d h = absurd (true≢false (sym h))
unwrapped (Some p) d h = refl

-- a write that keeps an object's generation, and a new object, leave the generation of each object
rewritten : (s : State) (id : Id) (new : Object Id) → new.generation ≡ (object_by_id s id).generation
    → (x : Id) → IsSome (get s.objects x.0)
    → generation_in (get (insert s.objects id.0 new) x.0) ≡ generation_in (get s.objects x.0)
rewritten s id new same x some =
    insert_cases s.objects id.0 (λ j o. IsSome (get s.objects j)
    → generation_in o ≡ generation_in (get s.objects j)) new x.0
    (λ here. same ∙ unwrapped (get s.objects id.0) _ here) (λ _ _. refl) some

renewed : (s : State) (id : Id) (new : Object Id) → get s.objects id.0 ≡ None → (x : Id)
    → IsSome (get s.objects x.0)
    → generation_in (get (insert s.objects id.0 new) x.0) ≡ generation_in (get s.objects x.0)
renewed s id new none x some =
    insert_cases s.objects id.0 (λ j o. IsSome (get s.objects j)
    → generation_in o ≡ generation_in (get s.objects j)) new x.0
    (λ here. absurd (true≢false (sym here ∙ ap is_some none))) (λ _ _. refl) some

module _ (n : Numbers) (s : State) (e : Entry) (ages : List ℕ) (w : IsWellFormed n s)
    (sound : IsSound s ages) where
  abbrev After : Cmd → State → Type 0
  After c t = IsSound t (cond (is_refused e.reply) ages (aged_by_command s e.caller e.slot ages c))

  -- what a command that is not refused does to the ages, and what a refused one does
  does : (c : Cmd) (t : State) (r : Reply) → e.reply ≡ r → is_refused r ≡ false
      → IsSound t (aged_by_command s e.caller e.slot ages c) → After c t
  does c t r p done h =
      subst (λ b. IsSound t (cond b ages (aged_by_command s e.caller e.slot ages c)))
      (sym (ap is_refused p ∙ done)) h

  refuses_to : (c : Cmd) (t : State) (r : Reply) → e.reply ≡ r → is_refused r ≡ true → IsSound t ages
      → After c t
  refuses_to c t r p done h =
      subst (λ b. IsSound t (cond b ages (aged_by_command s e.caller e.slot ages c)))
      (sym (ap is_refused p ∙ done)) h

  writes : (id : Id) (new : Object Id) → new.generation ≡ (object_by_id s id).generation
      → HasSoundAges (λ (x : Id). get (insert s.objects id.0 new) x.0) (scene_of s).handle ages
  writes id new same = regrouped s ages sound (λ (x : Id). get (insert s.objects id.0 new) x.0)
      (rewritten s id new same) n w

  by_effect : (c : Cmd) (t : State) → Effect n s e c t → After c t
  by_effect c t (refused p) = refuses_to c t _ p refl sound
  by_effect c t (makes_object {fields = fields} {fin = fin} small p) =
      does c t _ p refl
      (regrouped s ages sound (λ (x : Id). get
      (insert s.objects (next_identity s e.caller).0 (fresh_object fields fin)) x.0)
      (renewed s (next_identity s e.caller) (fresh_object fields fin) (fresh n s e.caller w small)) n w)
  by_effect c t (sets_field {o = o} {i = i} {v = v} id f l p) = does c t _ p refl (writes id _ refl)
  by_effect c t (gets_field id f l p) = does c t _ p (not_refused _) sound
  by_effect c t (sets_value id f p) = does c t _ p refl (writes id _ refl)
  by_effect c t (reads_value id f p) = does c t _ p refl sound
  by_effect c t (copies p) = does c t _ p refl sound
  by_effect c t (clears p) = does c t _ p refl sound
  by_effect c t (puts_static p) = does c t _ p refl sound
  by_effect c t (gets_static p) = does c t _ p (not_refused _) sound
  by_effect c t (reads_generation id f p) = does c t _ p refl sound
  by_effect c t (suppresses id f p) = does c t _ p refl (writes id _ refl)
  by_effect c t (reregisters id f p) = does c t _ p refl (writes id _ refl)
  by_effect c t (finds_none p) = does c t _ p refl sound
  by_effect c t (takes_first id rest is p) = does c t _ p refl sound
  by_effect c t (collects {k = k} did) =
      does c t _ did.reply refl
      (grown_sound (λ (x : Id). x.0) k (scene_of s) (scene_of t) did.report
      (whole_scene n s w) did.collects.scene ages sound)
  by_effect c t (makes_handle {d = d} {t = r} {given = given} slot at may p) =
      does c t _ p refl
      (subst (λ o. HasSoundAges (scene_of s).object
      (row_of (with_handle s slot (made_handle s e.caller given r)))
      (lowered_by_new s ages o given (register_of s e.caller r)))
      (sym at) (made s ages sound e.caller given r slot))
  by_effect c t (gets_target slot handle f p) = does c t _ p (not_refused _) sound
  by_effect c t (sets_target {h = h} {t = r} slot handle f p) =
      does c t _ p refl
      (subst (λ o. HasSoundAges (scene_of s).object
      (row_of (with_handle s slot
      (record handle { target = register_of s e.caller r; extra = without_secondary handle.extra })))
      (lowered_to s ages o (register_of s e.caller r)))
      (sym f.names) (stored s ages sound slot _ (register_of s e.caller r) refl (without_none handle.extra)))
  by_effect c t (sets_secondary {h = h} {r = r} slot handle f k l p) =
      does c t _ p refl
      (subst (λ o. HasSoundAges (scene_of s).object
      (row_of (with_handle s slot (record handle { extra = secondary (register_of s e.caller r) })))
      (lowered_at ages o 0))
      (sym f.names) (zeroed s ages sound slot _))
  by_effect c t (gets_secondary slot handle f p) = does c t _ p (not_refused _) sound
  by_effect c t (sets_strength slot handle f k p) =
      does c t _ p refl (same_names s ages sound slot handle _ f.live refl refl)
  by_effect c t (raises_count slot handle f k p) =
      does c t _ p refl (same_names s ages sound slot handle _ f.live refl refl)
  by_effect c t (lowers_count slot handle f k p) =
      does c t _ p refl (same_names s ages sound slot handle _ f.live refl refl)
  by_effect c t (frees_handle slot handle f p q) = does c t _ p refl
      (freed s ages sound slot (live_not_weak s w.weak slot.0 handle f.live))
  by_effect c t (puts_board p) = does c t _ p refl sound
  by_effect c t (picks_board p) = does c t _ p refl sound
  by_effect c t (replies_address slot handle id address f target may p) = does c t _ p refl sound
  by_effect c t (gives_back block free p) = does c t _ p refl sound
  by_effect c t (gives_none p) = does c t _ p refl sound
  by_effect c t (adds_entry {v = v} key slot f none may p q) =
      let put : WeakEntry Id = record { key = key; value = register_of s e.caller v } in
      does c t _ p refl
      (subst (λ o. HasSoundAges (scene_of s).object (row_of (with_weak s slot (Some put)))
      (lowered_at ages o 0))
      (sym q) (entered s ages sound slot (Some put)))
  by_effect c t (finds_value key slot x f p) = does c t _ p (not_refused _) sound
  by_effect c t (finds_no_entry key f none p) = does c t _ p refl sound
  by_effect c t (removes_entry key slot x f p) = does c t _ p refl (emptied s ages sound slot)
  by_effect c t (removes_none key f none p) = does c t _ p refl sound
  by_effect c t (replies_root goal f is_root) =
      ⊎_elim (λ x. does c t _ x.reply_is refl sound) (λ x. does c t _ x.1 refl sound) is_root

pub nothing_at : {A : Type 0} (q : ℕ) (x : A) → get (empty {X = A} {R = nat_cmp}) q ≡ Some x → ⊥
nothing_at q x e = none-some x (sym (get-empty nat_cmp q) ∙ e)

-- a chain of steps with ages keeps states well formed and ages sound
chain_sound : (n : Numbers) {x y : Aged} {journal : List Entry} → IsWellFormed n x.state
    → IsSound x.state x.ages → Chain (AgedStep n) x journal y → IsSound y.state y.ages
chain_sound n w sound stay = sound
chain_sound n w sound (link {s = x} {t = y} {e = e} step rest) =
    chain_sound n (step_keeps n x.state y.state e w step.step)
    (subst (IsSound y.state) (sym step.ages)
    (by_effect n x.state e x.ages w sound e.cmd y.state (effect n x.state e y.state step.step))) rest

pub ages_of_runs_are_sound : AgesOfRunsAreSound
ages_of_runs_are_sound n journal s ages run =
    let no_row : (q : ℕ) (h : Handle Id) → row_of (start_of n) q ≡ Some h → ⊥ = λ q h e.
    ⊎_elim (λ live. nothing_at q h live) (λ weak. nothing_at q weak.1.0 weak.1.1.0)
    (row_cases (start_of n) q h e) in
    chain_sound n (start_is_well_formed n)
    (record {
      targets = λ q h x is_stored e. absurd (no_row q h is_stored);
      secondaries = λ q h x is_stored e. absurd (no_row q h is_stored);
    }) run
