-- What is stored in fields, values, statics, on the board and in registers is read back.
use Rattle.hd_model.proofs.Basics.{BoardIsReadBack, Bool, Cmd, Entry, FieldIsReadBack, HandleRegisterIsReadBack, Id, IsOutcome, IsSomeAnd, IsValid, IsWellFormed, List, NewFieldIsNull, NewValueIsZero, None, Numbers, Object, Option, Outcome, REGISTERS, Refusal, RegisterIsReadBack, Reply, Slot, Some, State, StaticIsReadBack, Step, StepOf, ValueIsReadBack, WritesField, WritesValue, [], ap, board_of, false, field_of, fresh_object, get, get_or, get_or-set_other, get_or-set_same, handle_register_of, if◌then◌else◌, inr, is_refused, length, length-replicate, length-set, load_reply, lt-ltb, none-some, object_returned, object_by_id, on_field, on_object, option_map_or, put_in_handle_register, put_in_register, refl, refuses, register_of, same_Some, set, static_of, subst, sym, touched_by, true≢false, ℕ, ◌<◌, ◌∙◌, ◌≡◌}
use Rattle.hd_model.proofs.ReadAfterWrite.{cell_here, replicate_cases, get_inserted}
use Rattle.hd_model.proofs.OneState.{done_or_refused}
use Rattle.hd_model.proofs.Effects.{Effect, refused, makes_object, sets_field, gets_field, sets_value, copies, clears, gets_static, finds_none, takes_first, makes_handle, gets_target, gets_secondary, frees_handle, picks_board, finds_value, finds_no_entry, effect, with_field, next_identity}
use Rattle.hd_model.proofs.StepWrites.{still, OrGone, object_kept, named_has, static_kept, board_kept, register_kept, handle_register_kept}
use Rattle.hd_model.specs.declared.data.Refusal.TheVariants as refusal
use Rattle.hd_model.specs.declared.data.Reply.TheVariants as reply
use Rattle.hd_model.specs.declared.command.Cmd.TheVariants as cmd

-- the step of an entry whose command is known
pub step_of : (n : Numbers) (s : State) (e : Entry) (t : State) (c : Cmd) → Step n s e t → e.cmd ≡ c
    → StepOf n s e t c
step_of n s e t c step is = subst (StepOf n s e t) is step.does

pub effect_of : (n : Numbers) (s : State) (e : Entry) (t : State) (c : Cmd) → Step n s e t → e.cmd ≡ c
    → Effect n s e c t
effect_of n s e t c step is = subst (λ x. Effect n s e x t) is (effect n s e t step)

valid_of : (n : Numbers) (s : State) (e : Entry) (t : State) (c : Cmd) → Step n s e t → e.cmd ≡ c → IsValid c
valid_of n s e t c step is = subst IsValid is step.valid

module _ (s : State) (c : ℕ) where
  pub on_object_is : (o : ℕ) (act : Id → Outcome) (id : Id) → register_of s c o ≡ Some id
      → on_object s c o act ≡ act id
  on_object_is o act id names = ap (λ r. option_map_or act r (refuses refusal.Null s)) names

  on_field_is : (o i : ℕ) (act : Id → Outcome) (id : Id) → register_of s c o ≡ Some id
      → i < length (object_by_id s id).fields → on_field s c o i act ≡ act id
  on_field_is o i act id names within =
      on_object_is o _ id names ∙ ap (λ b. if b then act id else refuses refusal.BadField s)
      (lt-ltb i (length (object_by_id s id).fields) within)

-- an object has field i, and it references v
abbrev FieldIs : ℕ → Option Id → Object Id → Type 0
FieldIs i v object = (i < length object.fields) × (field_of object i ≡ v)

fields_alike : (i : ℕ) (v : Option Id) (a b : Object Id) → a.fields ≡ b.fields → a.value ≡ b.value
    → FieldIs i v a → FieldIs i v b
fields_alike i v a b same _ h = subst (λ (f : List (Option Id)). (i < length f) × (get_or f i None ≡ v)) same
    h

field_put : (n : Numbers) (s : State) (e : Entry) (o i v : ℕ) (t : State) (id : Id)
    → Effect n s e (cmd.Set o i v) t → e.reply ≡ reply.Done → register_of s e.caller o ≡ Some id
    → OrGone t id (FieldIs i (register_of s e.caller v))
field_put n s e o i v t id (refused p) done names = absurd (done_or_refused done p)
field_put n s e o i v t id (sets_field other named within p) done names =
    let object : Object Id = object_by_id s other in
    let x : Option Id = register_of s e.caller v in
    subst (λ y. OrGone t y (FieldIs i x)) (same_Some other id (sym named ∙ names))
    (inr (subst (λ y. IsSomeAnd y (FieldIs i x)) (sym
    (get_inserted s.objects other.0 (with_field object i x))) (
      subst (λ l. i < l) (sym (length-set object.fields i x)) within,
      get_or-set_same object.fields i x None within,
    )))

-- a field stays until it is set
field_since : (n : Numbers) (id : Id) (i : ℕ) (v : Option Id) (s : State) (e : Entry) (t : State)
    → IsWellFormed n s → Effect n s e e.cmd t → ((WritesField id i s e t) → ⊥) → OrGone s id (FieldIs i v)
    → OrGone t id (FieldIs i v)
field_since n id i v s e t w does apart had =
    object_kept n s w e id (FieldIs i v) (fields_alike i v) e.cmd t does
    (λ r j x is named within done h.
    let object : Object Id = object_by_id s id in
    let y : Option Id = register_of s e.caller x in (
      subst (λ l. i < l) (sym (length-set object.fields j y)) h.0,
      get_or-set_other object.fields j i y None (λ here. apart
          (record {
            o = r;
            v = x;
            command = is ∙ ap (λ k. cmd.Set r k x) (sym here);
            named = named;
            done = done;
          })) ∙ h.1,
    ))
    (λ r x is named done h. h) had

-- `get` returns what the field references
field_reads : (n : Numbers) (s : State) (e : Entry) (t : State) (id : Id) (d p i : ℕ) (x : Option Id)
    → IsWellFormed n s → Step n s e t → e.cmd ≡ cmd.Get d p i → register_of s e.caller p ≡ Some id
    → OrGone s id (FieldIs i x) → e.reply ≡ load_reply x
field_reads n s e t id d p i x w step gets named is =
    let there : FieldIs i x (object_by_id s id) = named_has n s e.caller p id (FieldIs i x) w named is in
    let comes : IsOutcome e _ t = step_of n s e t (cmd.Get d p i) step gets in
    comes.reply ∙ ap (λ (r : Outcome). r.reply) (on_field_is s e.caller p i _ id named there.0)
    ∙ ap load_reply there.1

pub field_is_read_back : FieldIsReadBack
field_is_read_back n old now new written reading id o i v d p since sets done names step gets named =
    let x : Option Id = register_of old written.caller v in
    let put : OrGone since.after id (FieldIs i x) =
    field_put n old written o i v since.after id (effect_of n old written since.after _ since.first sets)
    done names in
    let kept = still (λ s. OrGone s id (FieldIs i x)) (field_since n id i x) since put in
    field_reads n now reading new id d p i x kept.0 step gets named kept.1

same_made : {a b : Id} {r : Reply} → r ≡ reply.Object a → r ≡ reply.Object b → a ≡ b
same_made first second = cc

not_made : {a : Id} {r : Reply} {why : Refusal} → r ≡ reply.Object a → r ≡ reply.Refused why → ⊥
not_made made other = cc

-- a `new` that returns an identity makes an object there
pub new_put : (n : Numbers) (s : State) (e : Entry) (d fields : ℕ) (fin : Bool) (t : State) (id : Id)
    → Effect n s e (cmd.New d fields fin) t → e.reply ≡ reply.Object id
    → get t.objects id.0 ≡ Some (fresh_object fields fin)
new_put n s e d fields fin t id (refused p) made = absurd (not_made made p)
new_put n s e d fields fin t id (makes_object small p) made =
    subst (λ y. get t.objects y.0 ≡ Some (fresh_object fields fin)) (same_made p made)
    (get_inserted s.objects (next_identity s e.caller).0 (fresh_object fields fin))

pub new_field_is_null : NewFieldIsNull
new_field_is_null n old now new written reading id d fields fin i r p within since news made step gets named =
    let there = new_put n old written d fields fin since.after id
    (effect_of n old written since.after _ since.first news) made in
    let put : OrGone since.after id (FieldIs i None) =
    inr (subst (λ y. IsSomeAnd y (FieldIs i None)) (sym there) (
      subst (λ l. i < l) (sym (length-replicate fields None)) within,
      replicate_cases (λ y. y ≡ None) fields i None None refl refl,
    )) in
    let kept = still (λ s. OrGone s id (FieldIs i None)) (field_since n id i None) since put in
    field_reads n now reading new id r p i None kept.0 step gets named kept.1

-- an object has the value
abbrev ValueIs : ℕ → Object Id → Type 0
ValueIs v object = object.value ≡ v

value_put : (n : Numbers) (s : State) (e : Entry) (o v : ℕ) (t : State) (id : Id)
    → Effect n s e (cmd.Val o v) t → e.reply ≡ reply.Done → register_of s e.caller o ≡ Some id
    → OrGone t id (ValueIs v)
value_put n s e o v t id (refused p) done names = absurd (done_or_refused done p)
value_put n s e o v t id (sets_value other named p) done names =
    subst (λ y. OrGone t y (ValueIs v)) (same_Some other id (sym named ∙ names))
    (inr (subst (λ y. IsSomeAnd y (ValueIs v)) (sym
    (get_inserted s.objects other.0 (record (object_by_id s other) { value = v }))) refl))

-- a value stays until it is written
value_since : (n : Numbers) (id : Id) (v : ℕ) (s : State) (e : Entry) (t : State) → IsWellFormed n s
    → Effect n s e e.cmd t → ((WritesValue id s e t) → ⊥) → OrGone s id (ValueIs v) → OrGone t id (ValueIs v)
value_since n id v s e t w does apart had =
    object_kept n s w e id (ValueIs v) (λ a b _ same h. sym same ∙ h) e.cmd t does
    (λ r j x is named within done h. h)
    (λ r x is named done h. absurd (apart (record
    { o = r; v = x; command = is; named = named; done = done }))) had

-- `read` returns the value
value_reads : (n : Numbers) (s : State) (e : Entry) (t : State) (id : Id) (p v : ℕ) → IsWellFormed n s
    → Step n s e t → e.cmd ≡ cmd.Read p → register_of s e.caller p ≡ Some id → OrGone s id (ValueIs v)
    → e.reply ≡ reply.Value v
value_reads n s e t id p v w step reads named is =
    let there : ValueIs v (object_by_id s id) = named_has n s e.caller p id (ValueIs v) w named is in
    let comes : IsOutcome e _ t = step_of n s e t (cmd.Read p) step reads in
    comes.reply ∙ ap (λ (r : Outcome). r.reply) (on_object_is s e.caller p _ id named) ∙ ap reply.Value there

pub value_is_read_back : ValueIsReadBack
value_is_read_back n old now new written reading id o v p since sets done names step reads named =
    let put = value_put n old written o v since.after id
    (effect_of n old written since.after _ since.first sets) done names in
    let kept = still (λ s. OrGone s id (ValueIs v)) (value_since n id v) since put in
    value_reads n now reading new id p v kept.0 step reads named kept.1

pub new_value_is_zero : NewValueIsZero
new_value_is_zero n old now new written reading id d fields fin p since news made step reads named =
    let there = new_put n old written d fields fin since.after id
    (effect_of n old written since.after _ since.first news) made in
    let put : OrGone since.after id (ValueIs 0) =
    inr (subst (λ y. IsSomeAnd y (ValueIs 0)) (sym there) refl) in
    let kept = still (λ s. OrGone s id (ValueIs 0)) (value_since n id 0) since put in
    value_reads n now reading new id p 0 kept.0 step reads named kept.1

pub static_is_read_back : StaticIsReadBack
static_is_read_back n old now new written reading k r d since puts step gets =
    let x : Option Id = register_of old written.caller r in
    let small : k < REGISTERS = (valid_of n old written since.after (cmd.SPut k r) since.first puts).0 in
    let put : static_of since.after k ≡ x =
    ap (λ (s : State). static_of s k) (step_of n old written since.after
    (cmd.SPut k r) since.first puts).after
    ∙ get_or-set_same old.statics k x None (subst (λ l. k < l) (sym since.well_formed.shape.statics) small) in
    let kept = still (λ s. static_of s k ≡ x) (λ s e t _ did. static_kept n s e e.cmd t k x did) since put in
    (step_of n now reading new (cmd.SGet d k) step gets).reply ∙ ap load_reply kept.1

pub board_is_read_back : BoardIsReadBack
board_is_read_back n old now new written reading k h d since puts step picks =
    let x : Option Slot = handle_register_of old written.caller h in
    let small : k < REGISTERS = (valid_of n old written since.after (cmd.HPut k h) since.first puts).0 in
    let narrow : d < REGISTERS = (valid_of n now reading new _ step picks).0 in
    let put : board_of since.after k ≡ x =
    ap (λ (s : State). board_of s k) (step_of n old written since.after (cmd.HPut k h) since.first puts).after
    ∙ get_or-set_same old.board k x None (subst (λ l. k < l) (sym since.well_formed.shape.board) small) in
    let kept = still (λ s. board_of s k ≡ x) (λ s e t _ did. board_kept n s e e.cmd t k x did) since put in
    let row = subst (λ l. reading.caller < l) (sym kept.0.shape.handle_registers) step.caller in
    let cell = subst (λ l. d < l) (sym (kept.0.shape.each_handle_registers reading.caller step.caller)) narrow
    in
    ap (λ (s : State). handle_register_of s reading.caller d) (step_of n now reading new _ step picks).after
    ∙ cell_here now.handle_registers reading.caller d (board_of now k) None row cell
    ∙ kept.1

loaded_object : (o : Option Id) → o ≡ object_returned (load_reply o)
loaded_object None = refl
loaded_object (Some id) = refl

module _ (n : Numbers) (s : State) (w : IsWellFormed n s) (e : Entry) (l : e.caller < n.callers) (d : ℕ) where
  register_here : (x : ℕ) (v : Option Id) → x < REGISTERS → Some x ≡ Some d
      → get_or (get_or (set s.registers e.caller (set (get_or s.registers e.caller []) x v)) e.caller []) d
      None ≡ v
  register_here x v small same =
      ap (λ y. get_or (get_or (set s.registers e.caller (set (get_or s.registers e.caller []) x v)) e.caller
      []) y None) (sym (same_Some x d same))
      ∙ cell_here s.registers e.caller x v None (subst (λ m. e.caller < m) (sym w.shape.registers) l)
      (subst (λ m. x < m) (sym (w.shape.each_registers e.caller l)) small)

  -- a register has what the command put there
  register_put : (c : Cmd) (t : State) → IsValid c → Effect n s e c t → (touched_by c).register ≡ Some d
      → is_refused e.reply ≡ false → register_of t e.caller d ≡ put_in_register s e.caller c e.reply
  register_put c t v (refused p) puts kept = absurd (true≢false (sym (ap is_refused p) ∙ kept))
  register_put c t v (makes_object fits p) puts kept = register_here _ _ v.0 puts ∙ ap object_returned (sym p)
  register_put c t v (gets_field {d = x} {o = o} {i = i} id f within p) puts kept = register_here x _ v.0 puts
      ∙ loaded_object _ ∙ ap object_returned (sym p)
  register_put c t v (copies p) puts kept = register_here _ _ v.0 puts
  register_put c t v (clears p) puts kept = register_here _ _ v puts ∙ ap object_returned (sym p)
  register_put c t v (gets_static p) puts kept = register_here _ _ v.0 puts ∙ loaded_object _
      ∙ ap object_returned (sym p)
  register_put c t v (finds_none p) puts kept = register_here _ _ v puts ∙ ap object_returned (sym p)
  register_put c t v (takes_first id rest is p) puts kept = register_here _ _ v puts
      ∙ ap object_returned (sym p)
  register_put c t v (gets_target slot handle f p) puts kept = register_here _ _ v.0 puts ∙ loaded_object _
      ∙ ap object_returned (sym p)
  register_put c t v (gets_secondary slot handle f p) puts kept = register_here _ _ v.0 puts ∙ loaded_object _
      ∙ ap object_returned (sym p)
  register_put c t v (finds_value key slot x f p) puts kept = register_here _ _ v.0 puts ∙ loaded_object _
      ∙ ap object_returned (sym p)
  register_put c t v (finds_no_entry key f none p) puts kept = register_here _ _ v.0 puts
      ∙ ap object_returned (sym p)
  register_put c t v _ puts kept = absurd (none-some d puts)

  handle_register_here : (x : ℕ) (v : Option Slot) → x < REGISTERS → Some x ≡ Some d
      → get_or (get_or (set s.handle_registers e.caller (set (get_or s.handle_registers e.caller []) x v))
      e.caller []) d None ≡ v
  handle_register_here x v small same =
      ap (λ y. get_or (get_or (set s.handle_registers e.caller
      (set (get_or s.handle_registers e.caller []) x v)) e.caller []) y None) (sym (same_Some x d same))
      ∙ cell_here s.handle_registers e.caller x v None
      (subst (λ m. e.caller < m) (sym w.shape.handle_registers) l)
      (subst (λ m. x < m) (sym (w.shape.each_handle_registers e.caller l)) small)

  handle_register_put : (c : Cmd) (t : State) → IsValid c → Effect n s e c t
      → (touched_by c).handle_register ≡ Some d → is_refused e.reply ≡ false
      → handle_register_of t e.caller d ≡ put_in_handle_register s c e.slot
  handle_register_put c t v (refused p) puts kept = absurd (true≢false (sym (ap is_refused p) ∙ kept))
  handle_register_put c t v (makes_handle slot given may p) puts kept = handle_register_here _ _ v.0 puts
      ∙ sym given
  handle_register_put c t v (frees_handle slot handle f p q) puts kept = handle_register_here _ _ v puts
  handle_register_put c t v (picks_board p) puts kept = handle_register_here _ _ v.0 puts
  handle_register_put c t v _ puts kept = absurd (none-some d puts)

pub register_is_read_back : RegisterIsReadBack
register_is_read_back n old now written caller d since writes =
    let x : Option Id = put_in_register old caller written.cmd written.reply in
    let put : register_of since.after caller d ≡ x =
    subst (λ c. register_of since.after c d ≡ put_in_register old c written.cmd written.reply)
    writes.caller_is
    (register_put n old since.well_formed written since.first.caller d written.cmd since.after
    since.first.valid (effect n old written since.after since.first) writes.register writes.done) in
    (still (λ s. register_of s caller d ≡ x) (λ s e t _ did apart. register_kept n s e caller d e.cmd t x did
    (λ does. apart (record { caller_is = does.0; register = does.1.0; done = does.1.1 }))) since put).1

pub handle_register_is_read_back : HandleRegisterIsReadBack
handle_register_is_read_back n old now written caller d since writes =
    let x : Option Slot = put_in_handle_register old written.cmd written.slot in
    let put : handle_register_of since.after caller d ≡ x =
    subst (λ c. handle_register_of since.after c d ≡ x) writes.caller_is
    (handle_register_put n old since.well_formed written since.first.caller d written.cmd since.after
    since.first.valid (effect n old written since.after since.first) writes.register writes.done) in
    (still (λ s. handle_register_of s caller d ≡ x)
    (λ s e t _ did apart. handle_register_kept n s e caller d e.cmd t x did
    (λ does. apart (record { caller_is = does.0; register = does.1.0; done = does.1.1 }))) since put).1
