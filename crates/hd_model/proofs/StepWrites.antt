-- What a step does to one part of the state: it stays but for the commands that write it.
use Rattle.hd_model.proofs.Basics.{Bool, Cmd, Entry, Extra, FitsKind, Handle, Id, IsSome, IsSomeAnd, IsWellFormed, List, Make, None, Numbers, Object, Option, Since, Slot, Some, State, Strength, [], ap, arith, board_of, cleared, cond, count, count_of, false, fresh_object, get, get_or, handle_at, handle_register_of, inl, inr, insert, is_refused, is_some, last_serial, le_trans, length, load_reply, made_handle, none-some, object_by_id, option_map, refl, register_of, secondary, set, static_of, strength, subst, survivor, sym, touched_by, true, true≢false, unwrap_or, without_secondary, ℕ, ⊎_elim, ◌%◌, ◌+◌, ◌-◌, ◌/◌, ◌<◌, ◌^◌, ◌∙◌, ◌≡◌, ◌≤◌, ◌⊎◌}
use Rattle.hd_model.proofs.ReadAfterWrite.{set_cases, cell_cases, write_cases, removal_cases}
use Rattle.hd_model.proofs.{StepChains.chain_keeps, RunCounts.fresh}
use Rattle.hd_model.proofs.Effects.{Effect, Finds, makes_object, sets_field, gets_field, sets_value, copies, clears, puts_static, gets_static, suppresses, reregisters, finds_none, takes_first, collects, makes_handle, gets_target, sets_target, sets_secondary, gets_secondary, sets_strength, raises_count, lowers_count, frees_handle, puts_board, picks_board, finds_value, finds_no_entry, effect, next_identity, with_field}
use Rattle.hd_model.proofs.WellFormedSteps.{has, given_vacant, step_keeps}
use Rattle.hd_model.specs.declared.data.Reply.TheVariants as reply
use Rattle.hd_model.specs.declared.command.Cmd.TheVariants as cmd

-- what each step that does not write keeps, holds since
pub still : {n : Numbers} {Writes : State → Entry → State → Type 0} {old : State} {written : Entry}
    {now : State} (P : State → Type 0) → ((s : State) (e : Entry) (t : State) → IsWellFormed n s
    → Effect n s e e.cmd t → (Writes s e t → ⊥) → P s → P t) → (since : Since n Writes old written now)
    → P since.after → IsWellFormed n now × P now
still {n} {Writes} {old} {written} P keeps since p =
    chain_keeps (λ s. IsWellFormed n s × P s) (λ s e t step w.
    (step_keeps n s t e w.0 step.0, keeps s e t w.0 (effect n s e t step.0) step.1 w.1)) since.rest
    (step_keeps n old since.after written since.well_formed since.first, p)

pub same_id : (a b : Id) → a.0 ≡ b.0 → a ≡ b
same_id a b e = λ i. record { 0 = e i }

pub same_slot : (a b : Slot) → a.0 ≡ b.0 → a ≡ b
same_slot a b e = λ i. record { 0 = e i }

at_some : {A : Type 0} (Q : A → Type 0) (o : Option A) (d : A) → IsSomeAnd o Q → Q (unwrap_or o d)
at_some Q None d h = absurd h
at_some Q (Some x) d h = h

pub not_none : {A : Type 0} (Q : A → Type 0) (o : Option A) → o ≡ None → IsSomeAnd o Q → ⊥
not_none Q o e h = subst (λ x. IsSomeAnd x Q) e h

loaded_done : (o : Option Id) → is_refused (load_reply o) ≡ false
loaded_done None = refl
loaded_done (Some id) = refl

-- what an entry of a command leaves under an identity
pub data ObjectChange (s : State) (e : Entry) (id : Id) : Cmd → Option (Object Id) → Type 0 where
  object_stays : {c : Cmd} → ObjectChange s e id c (get s.objects id.0)
  is_new : {d fields : ℕ} {fin : Bool} → last_serial s e.caller + 1 < 2 ^ 32 → get s.objects id.0 ≡ None
      → id ≡ next_identity s e.caller → ObjectChange s e id (cmd.New d fields fin)
      (Some (fresh_object fields fin))
  field_is_set : {o i v : ℕ} → register_of s e.caller o ≡ Some id → i < length (object_by_id s id).fields
      → e.reply ≡ reply.Done → ObjectChange s e id (cmd.Set o i v)
      (Some (with_field (object_by_id s id) i (register_of s e.caller v)))
  value_is_set : {o v : ℕ} → register_of s e.caller o ≡ Some id → e.reply ≡ reply.Done
      → ObjectChange s e id (cmd.Val o v) (Some (record (object_by_id s id) { value = v }))
  registration_is_set : {c : Cmd} (registered : Bool) → IsSome (get s.objects id.0)
      → ObjectChange s e id c (Some (record (object_by_id s id) { registered = registered }))
  survives : {k : ℕ} (resurrected : Bool) (object : Object Id) → get s.objects id.0 ≡ Some object
      → ObjectChange s e id (cmd.Collect k) (Some (survivor k resurrected object))
  goes : {k : ℕ} → ObjectChange s e id (cmd.Collect k) None

module _ (n : Numbers) (s : State) (w : IsWellFormed n s) (e : Entry) where
  object_collected : (k : ℕ) (t : State) (id : Id) (kept resurrected : Bool) (o : Option (Object Id))
      → get s.objects id.0 ≡ o → ObjectChange s e id (cmd.Collect k)
      (cond kept (option_map (survivor k resurrected) o) None)
  object_collected k t id true resurrected None is = goes
  object_collected k t id true resurrected (Some object) is = survives resurrected object is
  object_collected k t id false resurrected o is = goes

  -- a write of the object that a register references
  object_written : (c : Cmd) (id other : Id) (object : Object Id)
      → (id ≡ other → ObjectChange s e id c (Some object))
      → ObjectChange s e id c (get (insert s.objects other.0 object) id.0)
  object_written c id other object here =
      write_cases s.objects other.0 (λ o. ObjectChange s e id c o) object id.0
      (λ same. here (same_id id other same)) object_stays

  pub object_change : (c : Cmd) (t : State) (id : Id) → Effect n s e c t
      → ObjectChange s e id c (get t.objects id.0)
  object_change c t id (makes_object {d = d} {fields = fields} {fin = fin} small p) =
      object_written _ id (next_identity s e.caller) _
      (λ same. is_new small (ap (λ (x : Id). get s.objects x.0) same ∙ fresh n s e.caller w small) same)
  object_change c t id (sets_field {o = o} {i = i} {v = v} other f l p) =
      object_written _ id other _ (λ same. subst (λ x. ObjectChange s e id (cmd.Set o i v)
      (Some (with_field (object_by_id s x) i (register_of s e.caller v)))) same
      (field_is_set (f ∙ ap Some (sym same)) (subst (λ x. i < length (object_by_id s x).fields) (sym same) l)
      p))
  object_change c t id (sets_value {o = o} {v = v} other f p) =
      object_written _ id other _ (λ same. subst (λ x. ObjectChange s e id (cmd.Val o v)
      (Some (record (object_by_id s x) { value = v }))) same (value_is_set (f ∙ ap Some (sym same)) p))
  object_change c t id (suppresses {o = o} other f p) =
      object_written _ id other _ (λ same. subst (λ x. ObjectChange s e id (cmd.Suppress o)
      (Some (record (object_by_id s x) { registered = false }))) same
      (registration_is_set false (has n s e.caller o id w (f ∙ ap Some (sym same)))))
  object_change c t id (reregisters {o = o} other f p) =
      object_written _ id other _ (λ same. subst (λ x. ObjectChange s e id (cmd.Reregister o)
      (Some (record (object_by_id s x) { registered = true }))) same
      (registration_is_set true (has n s e.caller o id w (f ∙ ap Some (sym same)))))
  object_change c t id (collects {k = k} did) =
      subst (ObjectChange s e id (cmd.Collect k)) (sym (did.collects.scene.objects id))
      (object_collected k t id (did.collects.scene.kept id) (did.collects.scene.resurrected id)
      (get s.objects id.0) refl)
  object_change c t id _ = object_stays

-- an identity whose object is gone. It is given to no other.
pub record IsGone (s : State) (id : Id) : Type 0 where
  pub none : get s.objects id.0 ≡ None
  pub past : id.0 % 2 ^ 32 ≤ last_serial s (id.0 / 2 ^ 32)

-- the object is gone, or has a property
abbrev pub OrGone : State → Id → (Object Id → Type 0) → Type 0
OrGone s id P = IsGone s id ⊎ IsSomeAnd (get s.objects id.0) P

-- a serial never falls
pub serials_rise : (n : Numbers) (s : State) (e : Entry) (c : Cmd) (t : State) (k : ℕ) → Effect n s e c t
    → last_serial s k ≤ last_serial t k
serials_rise n s e c t k (makes_object small p) =
    set_cases (λ x. last_serial s k ≤ x) s.serials e.caller k (last_serial s e.caller + 1) 0
    (λ same. subst (λ j. last_serial s j ≤ last_serial s e.caller + 1) (sym same) (omega arith)) (omega arith)
serials_rise n s e c t k (collects did) = subst (λ (x : List ℕ). last_serial s k ≤ get_or x k 0)
    (sym did.collects.serials) (omega arith)
serials_rise n s e c t k _ = omega arith

gone_apart : (n : Numbers) (s : State) (caller : ℕ) (id : Id) → last_serial s caller + 1 < 2 ^ 32
    → IsGone s id → id ≡ next_identity s caller → ⊥
gone_apart n s caller id small gone same =
    let here : id.0 ≡ (next_identity s caller).0 = ap (λ (x : Id). x.0) same in
    let owner : id.0 / 2 ^ 32 ≡ caller = omega arith in
    let number : id.0 % 2 ^ 32 ≡ last_serial s caller + 1 = omega arith in
    let past : id.0 % 2 ^ 32 ≤ last_serial s caller =
    subst (λ k. id.0 % 2 ^ 32 ≤ last_serial s k) owner gone.past in
    omega arith

some_of : {A : Type 0} (Q : A → Type 0) (o : Option A) → IsSomeAnd o Q → IsSome o
some_of Q None h = absurd h
some_of Q (Some x) h = refl

pub gone_some : (s : State) (id : Id) → IsGone s id → IsSome (get s.objects id.0) → ⊥
gone_some s id gone there = true≢false (sym there ∙ ap is_some gone.none)

-- what an object has stays, but for a `set` or a `val` of it, until the object is gone
module _ (n : Numbers) (s : State) (w : IsWellFormed n s) (e : Entry) (id : Id) (P : Object Id → Type 0)
    (alike : (a b : Object Id) → a.fields ≡ b.fields → a.value ≡ b.value → P a → P b) where
  gone_stays : (c : Cmd) (o : Option (Object Id)) → ObjectChange s e id c o → IsGone s id → o ≡ None
  gone_stays c o object_stays gone = gone.none
  gone_stays c o (is_new small none same) gone = absurd (gone_apart n s e.caller id small gone same)
  gone_stays c o (field_is_set {o = r} f l p) gone = absurd (gone_some s id gone (has n s e.caller r id w f))
  gone_stays c o (value_is_set {o = r} f p) gone = absurd (gone_some s id gone (has n s e.caller r id w f))
  gone_stays c o (registration_is_set registered there) gone = absurd (gone_some s id gone there)
  gone_stays c o (survives resurrected object is) gone = absurd (none-some object (sym gone.none ∙ is))
  gone_stays c o goes gone = refl

  live_stays : (c : Cmd) (o : Option (Object Id)) → ObjectChange s e id c o
      → ((r j v : ℕ) → c ≡ cmd.Set r j v → register_of s e.caller r ≡ Some id
      → j < length (object_by_id s id).fields → e.reply ≡ reply.Done → P (object_by_id s id)
      → P (with_field (object_by_id s id) j (register_of s e.caller v)))
      → ((r v : ℕ) → c ≡ cmd.Val r v → register_of s e.caller r ≡ Some id → e.reply ≡ reply.Done
      → P (object_by_id s id) → P (record (object_by_id s id) { value = v }))
      → IsSomeAnd (get s.objects id.0) P → (o ≡ None) ⊎ IsSomeAnd o P
  live_stays c o object_stays field value had = inr had
  live_stays c o (is_new small none same) field value had = absurd (not_none P _ none had)
  live_stays c o (field_is_set {o = r} {i = j} {v = v} f l p) field value had =
      inr (field r j v refl f l p (at_some P (get s.objects id.0) _ had))
  live_stays c o (value_is_set {o = r} {v = v} f p) field value had =
      inr (value r v refl f p (at_some P (get s.objects id.0) _ had))
  live_stays c o (registration_is_set registered there) field value had =
      inr (alike (object_by_id s id) _ refl refl (at_some P (get s.objects id.0) _ had))
  live_stays c o (survives resurrected object is) field value had =
      inr (alike object _ refl refl (subst (λ x. IsSomeAnd x P) is had))
  live_stays c o goes field value had = inl refl

  pub object_kept : (c : Cmd) (t : State) → Effect n s e c t
      → ((r j v : ℕ) → c ≡ cmd.Set r j v → register_of s e.caller r ≡ Some id
      → j < length (object_by_id s id).fields → e.reply ≡ reply.Done → P (object_by_id s id)
      → P (with_field (object_by_id s id) j (register_of s e.caller v)))
      → ((r v : ℕ) → c ≡ cmd.Val r v → register_of s e.caller r ≡ Some id → e.reply ≡ reply.Done
      → P (object_by_id s id) → P (record (object_by_id s id) { value = v }))
      → OrGone s id P → OrGone t id P
  object_kept c t does field value had =
      let change : ObjectChange s e id c (get t.objects id.0) = object_change n s w e c t id does in
      let past : id.0 % 2 ^ 32 ≤ last_serial s (id.0 / 2 ^ 32)
      → id.0 % 2 ^ 32 ≤ last_serial t (id.0 / 2 ^ 32) =
      λ low. le_trans low (serials_rise n s e c t (id.0 / 2 ^ 32) does) in
      ⊎_elim (λ gone. inl (record { none = gone_stays c _ change gone; past = past gone.past }))
      (λ live. ⊎_elim (λ none. inl (record {
        none = none;
        past = past (w.serials.to_last id.0 (some_of P _ live));
      })) (λ held. inr held)
      (live_stays c _ change field value live)) had

-- the object that a register references is not gone
pub named_has : (n : Numbers) (s : State) (c o : ℕ) (id : Id) (P : Object Id → Type 0) → IsWellFormed n s
    → register_of s c o ≡ Some id → OrGone s id P → P (object_by_id s id)
named_has n s c o id P w named had =
    ⊎_elim (λ gone. absurd (gone_some s id gone (has n s c o id w named)))
    (λ live. at_some P (get s.objects id.0) _ live) had

-- a static, a board index and a register stay but for the commands that write them
pub static_kept : (n : Numbers) (s : State) (e : Entry) (c : Cmd) (t : State) (k : ℕ) (v : Option Id)
    → Effect n s e c t → ((touched_by c).static ≡ Some k → ⊥) → static_of s k ≡ v → static_of t k ≡ v
static_kept n s e c t k v (puts_static {k = j} p) apart had =
    set_cases (λ x. x ≡ v) s.statics j k _ None (λ same. absurd (apart (ap Some (sym same)))) had
static_kept n s e c t k v (collects did) apart had =
    ap (λ (x : List (Option Id)). get_or x k None) did.collects.statics ∙ had
static_kept n s e c t k v _ apart had = had

pub board_kept : (n : Numbers) (s : State) (e : Entry) (c : Cmd) (t : State) (k : ℕ) (v : Option Slot)
    → Effect n s e c t → ((touched_by c).board ≡ Some k → ⊥) → board_of s k ≡ v → board_of t k ≡ v
board_kept n s e c t k v (puts_board {k = j} p) apart had =
    set_cases (λ x. x ≡ v) s.board j k _ None (λ same. absurd (apart (ap Some (sym same)))) had
board_kept n s e c t k v (collects did) apart had =
    ap (λ (x : List (Option Slot)). get_or x k None) did.collects.board ∙ had
board_kept n s e c t k v _ apart had = had

-- a register of a caller, where the command writes another one
module _ (n : Numbers) (s : State) (e : Entry) (caller d : ℕ) where
  abbrev Writes : Option ℕ → Type 0
  Writes register = (e.caller ≡ caller) × ((register ≡ Some d) × (is_refused e.reply ≡ false))

  other_register : (v : Option Id) (x : ℕ) (put : Option Id) → register_of s caller d ≡ v
      → (Writes (Some x) → ⊥) → is_refused e.reply ≡ false
      → get_or (get_or (set s.registers e.caller (set (get_or s.registers e.caller []) x put)) caller []) d
      None ≡ v
  other_register v x put had apart done =
      cell_cases (λ y. y ≡ v) s.registers e.caller x caller d put None
      (λ same here. absurd (apart (sym same, (ap Some (sym here), done)))) had

  pub register_kept : (c : Cmd) (t : State) (v : Option Id) → Effect n s e c t
      → (Writes (touched_by c).register → ⊥) → register_of s caller d ≡ v → register_of t caller d ≡ v
  register_kept c t v (makes_object small p) apart had = other_register v _ _ had apart (ap is_refused p)
  register_kept c t v (gets_field {d = x} {i = i} id f l p) apart had =
      other_register v x _ had apart (ap is_refused p ∙ loaded_done _)
  register_kept c t v (copies p) apart had = other_register v _ _ had apart (ap is_refused p)
  register_kept c t v (clears p) apart had = other_register v _ _ had apart (ap is_refused p)
  register_kept c t v (gets_static p) apart had =
      other_register v _ _ had apart (ap is_refused p ∙ loaded_done _)
  register_kept c t v (finds_none p) apart had = other_register v _ _ had apart (ap is_refused p)
  register_kept c t v (takes_first id rest is p) apart had = other_register v _ _ had apart (ap is_refused p)
  register_kept c t v (gets_target slot handle f p) apart had =
      other_register v _ _ had apart (ap is_refused p ∙ loaded_done _)
  register_kept c t v (gets_secondary slot handle f p) apart had =
      other_register v _ _ had apart (ap is_refused p ∙ loaded_done _)
  register_kept c t v (finds_value key slot x f p) apart had =
      other_register v _ _ had apart (ap is_refused p ∙ loaded_done _)
  register_kept c t v (finds_no_entry key f none p) apart had = other_register v _ _ had apart
      (ap is_refused p)
  register_kept c t v (collects did) apart had =
      ap (λ (x : List (List (Option Id))). get_or (get_or x caller []) d None) did.collects.registers ∙ had
  register_kept c t v _ apart had = had

  other_handle_register : (v : Option Slot) (x : ℕ) (put : Option Slot) → handle_register_of s caller d ≡ v
      → (Writes (Some x) → ⊥) → is_refused e.reply ≡ false
      → get_or (get_or (set s.handle_registers e.caller (set (get_or s.handle_registers e.caller []) x put))
      caller []) d None ≡ v
  other_handle_register v x put had apart done =
      cell_cases (λ y. y ≡ v) s.handle_registers e.caller x caller d put None
      (λ same here. absurd (apart (sym same, (ap Some (sym here), done)))) had

  pub handle_register_kept : (c : Cmd) (t : State) (v : Option Slot) → Effect n s e c t
      → (Writes (touched_by c).handle_register → ⊥) → handle_register_of s caller d ≡ v
      → handle_register_of t caller d ≡ v
  handle_register_kept c t v (makes_handle slot given may p) apart had =
      other_handle_register v _ _ had apart (ap is_refused p)
  handle_register_kept c t v (frees_handle slot handle f p q) apart had =
      other_handle_register v _ _ had apart (ap is_refused p)
  handle_register_kept c t v (picks_board p) apart had =
      other_handle_register v _ _ had apart (ap is_refused p)
  handle_register_kept c t v (collects did) apart had =
      ap (λ (x : List (List (Option Slot))). get_or (get_or x caller []) d None) did.collects.handle_registers
      ∙ had
  handle_register_kept c t v _ apart had = had

-- what puts another extra in a handle: the command, on handle register h
pub data SetsExtra (s : State) (e : Entry) (handle : Handle Id) : Cmd → ℕ → Extra Id → Type 0 where
  by_secondary : {h r : ℕ} → e.reply ≡ reply.Done
      → SetsExtra s e handle (cmd.HSec h r) h (secondary (register_of s e.caller r))
  by_strength : {h : ℕ} {given : Strength} → e.reply ≡ reply.Done
      → SetsExtra s e handle (cmd.HVar h given) h (strength given)
  by_raise : {h : ℕ} → e.reply ≡ reply.Value (count_of handle.extra + 1)
      → SetsExtra s e handle (cmd.HUp h) h (count (count_of handle.extra + 1))
  by_lower : {h : ℕ} → e.reply ≡ reply.Value (count_of handle.extra - 1)
      → SetsExtra s e handle (cmd.HDown h) h (count (count_of handle.extra - 1))

-- what an entry of a command leaves in a slot
pub data HandleChange (s : State) (e : Entry) (slot : Slot) : Cmd → Option (Handle Id) → Type 0 where
  handle_stays : {c : Cmd} → HandleChange s e slot c (get s.handles slot.0)
  is_made : {d t : ℕ} {given : Make} → e.slot ≡ Some slot → e.reply ≡ reply.Done → get s.handles slot.0 ≡ None
      → HandleChange s e slot (cmd.HNew d given t) (Some (made_handle s e.caller given t))
  target_is_set : {h t : ℕ} (handle : Handle Id) → Finds s e.caller h slot handle → e.reply ≡ reply.Done
      → HandleChange s e slot (cmd.HSet h t) (Some (record handle
      { target = register_of s e.caller t; extra = without_secondary handle.extra }))
  extra_is_set : {c : Cmd} {h : ℕ} (handle : Handle Id) {x : Extra Id} → Finds s e.caller h slot handle
      → FitsKind handle.kind x → SetsExtra s e handle c h x
      → HandleChange s e slot c (Some (record handle { extra = x }))
  is_freed : {h : ℕ} (handle : Handle Id) → Finds s e.caller h slot handle → e.reply ≡ reply.Done
      → HandleChange s e slot (cmd.HFree h) None
  is_collected : {k : ℕ} (reach kept : Id → Bool) (handle : Handle Id) → get s.handles slot.0 ≡ Some handle
      → HandleChange s e slot (cmd.Collect k) (Some (cleared reach kept handle))

module _ (n : Numbers) (s : State) (w : IsWellFormed n s) (e : Entry) (slot : Slot) where
  handle_collected : (k : ℕ) (reach kept : Id → Bool) (o : Option (Handle Id)) → get s.handles slot.0 ≡ o
      → HandleChange s e slot (cmd.Collect k) (option_map (cleared reach kept) o)
  handle_collected k reach kept None is = subst (HandleChange s e slot (cmd.Collect k)) is handle_stays
  handle_collected k reach kept (Some handle) is = is_collected reach kept handle is

  -- a write of the handle that a handle register has
  handle_written : (c : Cmd) (other : Slot) (handle : Handle Id)
      → (other ≡ slot → HandleChange s e slot c (Some handle))
      → HandleChange s e slot c (get (insert s.handles other.0 handle) slot.0)
  handle_written c other handle here =
      write_cases s.handles other.0 (λ o. HandleChange s e slot c o) handle slot.0
      (λ same. here (sym (same_slot slot other same))) handle_stays

  found : (h : ℕ) (other : Slot) (handle : Handle Id) → Finds s e.caller h other handle → other ≡ slot
      → Finds s e.caller h slot handle
  found h other handle f same = subst (λ x. Finds s e.caller h x handle) same f

  pub handle_change : (c : Cmd) (t : State) → Effect n s e c t
      → HandleChange s e slot c (get t.handles slot.0)
  handle_change c t (makes_handle {d = d} {t = r} {given = given} other given_is may p) =
      handle_written _ other _ (λ same. is_made (given_is ∙ ap Some same) p
      (ap (handle_at s) (sym same) ∙ given_vacant n s w _ e.grown other may))
  handle_change c t (sets_target {h = h} other handle f p) =
      handle_written _ other _ (λ same. target_is_set handle (found h other handle f same) p)
  handle_change c t (sets_secondary {h = h} other handle f fits target p) =
      handle_written _ other
      _ (λ same. extra_is_set handle (found h other handle f same) fits (by_secondary p))
  handle_change c t (sets_strength {h = h} other handle f fits p) =
      handle_written _ other
      _ (λ same. extra_is_set handle (found h other handle f same) fits (by_strength p))
  handle_change c t (raises_count {h = h} other handle f fits p) =
      handle_written _ other _ (λ same. extra_is_set handle (found h other handle f same) fits (by_raise p))
  handle_change c t (lowers_count {h = h} other handle f fits p) =
      handle_written _ other _ (λ same. extra_is_set handle (found h other handle f same) fits (by_lower p))
  handle_change c t (frees_handle {h = h} other handle f p q) =
      removal_cases s.handles other.0 (λ o. HandleChange s e slot (cmd.HFree h) o) slot.0
      (λ same. is_freed handle (found h other handle f (sym (same_slot slot other same))) p) handle_stays
  handle_change c t (collects {k = k} did) =
      subst (HandleChange s e slot (cmd.Collect k)) (sym (did.collects.handles slot.0))
      (handle_collected k did.collects.scene.reach did.collects.scene.kept (get s.handles slot.0) refl)
  handle_change c t _ = handle_stays
