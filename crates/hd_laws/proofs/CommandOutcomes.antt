-- What a command comes to in a state whose parts it reads are known.
use Rattle.hd_model.specs.{declared.data.Id.Id, declared.data.Kind.Kind, declared.data.Slot.Slot, declared.data.Strength.Strength}
use Rattle.hd_model.proofs.Basics.{Handle, None, Numbers, [], Object, Option, Outcome, Some, State, WeakEntry, ap, count_of, entry_value, false, fresh_object, get, handle_at, handle_register_of, identity_of, if◌then◌else◌, is_kind, is_some, last_serial, length, load_reply, nat_lt, new_object, object_by_id, on_field, on_handle, on_handle_of, option_and_then, option_map_or, pins, read_generation, refl, refuses, register_of, reply_address, reply_with, secondary, secondary_of, set_registered, slot_of_key, strength, sym, total_size, true, true≢false, unwrap_or, with_address, with_count, with_handle, with_handle_register, with_object, with_register, with_serial, without_handle, without_secondary, ℕ, ◌&&◌, ◌+◌, ◌-◌, ◌==◌, ◌∙◌, ◌≡◌}
use Rattle.std.specs.Prelude.{Bool, slice_set}
use Rattle.hd_model.specs.State.{field_of}
use Rattle.hd_model.specs.Command.{find_entry, free_handle, get_field, get_secondary, get_target, lower_count, raise_count, read_value, set_field, set_secondary, set_strength, set_target, set_value}
use Rattle.hd_model.proofs.{Outcomes.test_cases, StateReadBack.on_object_is}
use Rattle.hd_laws.specs.CollectionSamples.{object_with}
use Rattle.hd_model.specs.declared.data.Kind.TheVariants as kind
use Rattle.hd_model.specs.declared.data.Refusal.TheVariants as refusal
use Rattle.hd_model.specs.declared.data.Reply.TheVariants as reply

-- ---- commands on a handle

module _ (s : State) (h : ℕ) (slot : Slot) (names : handle_register_of s 0 h ≡ Some slot) where
  -- a slot without a handle
  module _ (gone : handle_at s slot ≡ None) where
    none_live : (act : Slot → Handle Id → Outcome) → on_handle s 0 h act ≡ refuses refusal.NotLive s
    none_live act =
        ap (λ r. option_map_or (λ x. option_map_or (act x) (handle_at s x) (refuses refusal.NotLive s)) r
        (refuses refusal.EmptyRegister s)) names
        ∙ ap (λ o. option_map_or (act slot) o (refuses refusal.NotLive s)) gone

    pub gone_target : (d : ℕ) → get_target s 0 d h ≡ refuses refusal.NotLive s
    gone_target d = none_live _

    pub gone_setting : (t : ℕ) → set_target s 0 h t ≡ refuses refusal.NotLive s
    gone_setting t = none_live _

    pub gone_secondary : (r : ℕ) → set_secondary s 0 h r ≡ refuses refusal.NotLive s
    gone_secondary r = none_live _

    pub gone_reading : (d : ℕ) → get_secondary s 0 d h ≡ refuses refusal.NotLive s
    gone_reading d = none_live _

    pub gone_strength : (given : Strength) → set_strength s 0 h given ≡ refuses refusal.NotLive s
    gone_strength given = none_live _

    pub gone_freeing : free_handle s 0 h ≡ refuses refusal.NotLive s
    gone_freeing = none_live _

    pub gone_address : (p : ℕ) → reply_address s 0 h p ≡ refuses refusal.NotLive s
    gone_address p = none_live _

    pub gone_raising : raise_count s 0 h ≡ refuses refusal.NotLive s
    gone_raising = none_live _

    pub gone_lowering : lower_count s 0 h ≡ refuses refusal.NotLive s
    gone_lowering = none_live _

  -- a slot with a handle
  module _ (handle : Handle Id) (live : handle_at s slot ≡ Some handle) where
    one_live : (act : Slot → Handle Id → Outcome) → on_handle s 0 h act ≡ act slot handle
    one_live act =
        ap (λ r. option_map_or (λ x. option_map_or (act x) (handle_at s x) (refuses refusal.NotLive s)) r
        (refuses refusal.EmptyRegister s)) names
        ∙ ap (λ o. option_map_or (act slot) o (refuses refusal.NotLive s)) live

    other_kind : (wanted : Kind) → is_kind handle.kind wanted ≡ false → (act : Slot → Handle Id → Outcome)
        → on_handle_of s 0 h wanted act ≡ refuses refusal.WrongKind s
    other_kind wanted off act =
        one_live _ ∙ ap (λ b. if b then act slot handle else refuses refusal.WrongKind s) off

    of_kind : (wanted : Kind) → is_kind handle.kind wanted ≡ true → (act : Slot → Handle Id → Outcome)
        → on_handle_of s 0 h wanted act ≡ act slot handle
    of_kind wanted on act =
        one_live _ ∙ ap (λ b. if b then act slot handle else refuses refusal.WrongKind s) on

    pub no_secondary : (r : ℕ) → is_kind handle.kind kind.Dependent ≡ false
        → set_secondary s 0 h r ≡ refuses refusal.WrongKind s
    no_secondary r off = other_kind kind.Dependent off _

    pub no_reading : (d : ℕ) → is_kind handle.kind kind.Dependent ≡ false
        → get_secondary s 0 d h ≡ refuses refusal.WrongKind s
    no_reading d off = other_kind kind.Dependent off _

    pub no_strength : (given : Strength) → is_kind handle.kind kind.Variable ≡ false
        → set_strength s 0 h given ≡ refuses refusal.WrongKind s
    no_strength given off = other_kind kind.Variable off _

    pub no_raising : is_kind handle.kind kind.Counted ≡ false
        → raise_count s 0 h ≡ refuses refusal.WrongKind s
    no_raising off = other_kind kind.Counted off _

    pub no_lowering : is_kind handle.kind kind.Counted ≡ false
        → lower_count s 0 h ≡ refuses refusal.WrongKind s
    no_lowering off = other_kind kind.Counted off _

    -- `addr`, by whether the handle pins and by its target
    by_pin : (p : ℕ) (b : Bool) → pins handle ≡ b → reply_address s 0 h p
        ≡ (if b then option_map_or (λ id. reply_with (reply.Place p) (with_address s id p)) handle.target
        (refuses refusal.Null s) else refuses refusal.WrongKind s)
    by_pin p b is =
        one_live _
        ∙ ap (λ on. if on then option_map_or (λ id. reply_with (reply.Place p) (with_address s id p))
        handle.target (refuses refusal.Null s) else refuses refusal.WrongKind s) is

    pub no_pin : (p : ℕ) → pins handle ≡ false → reply_address s 0 h p ≡ refuses refusal.WrongKind s
    no_pin p off = by_pin p false off

    pub no_address : (p : ℕ) → pins handle ≡ true → handle.target ≡ None
        → reply_address s 0 h p ≡ refuses refusal.Null s
    no_address p on null =
        by_pin p true on
        ∙ ap (λ o. option_map_or (λ id. reply_with (reply.Place p) (with_address s id p)) o
        (refuses refusal.Null s)) null

    pub addressed : (p : ℕ) (id : Id) → pins handle ≡ true → handle.target ≡ Some id
        → reply_address s 0 h p ≡ reply_with (reply.Place p) (with_address s id p)
    addressed p id on some =
        by_pin p true on
        ∙ ap (λ o. option_map_or (λ x. reply_with (reply.Place p) (with_address s x p)) o
        (refuses refusal.Null s)) some

    -- `hset`, which gives a dependent handle null alone
    abbrev set_so : ℕ → Outcome
    set_so t =
        reply_with reply.Done (with_handle s slot (record handle {
          target = register_of s 0 t;
          extra = without_secondary handle.extra;
        }))

    pub no_target : (t : ℕ) → (is_kind handle.kind kind.Dependent && is_some (register_of s 0 t)) ≡ true
        → set_target s 0 h t ≡ refuses refusal.WrongKind s
    no_target t on = one_live _ ∙ test_cases (λ o. o ≡ refuses refusal.WrongKind s) _ _ _ (λ _. refl)
        (λ off. absurd (true≢false (sym on ∙ off)))

    pub target_set : (t : ℕ) → (is_kind handle.kind kind.Dependent && is_some (register_of s 0 t)) ≡ false
        → set_target s 0 h t ≡ set_so t
    target_set t off = one_live _ ∙ test_cases (λ o. o ≡ set_so t) _ _ _
        (λ on. absurd (true≢false (sym on ∙ off))) (λ _. refl)

    pub target_read : (d : ℕ)
        → get_target s 0 d h ≡ reply_with (load_reply handle.target) (with_register s 0 d handle.target)
    target_read d = one_live _

    -- `hsec`, where the target is null and where it is not
    abbrev attached_so : ℕ → State
    attached_so r = with_handle s slot (record handle { extra = secondary (register_of s 0 r) })

    pub no_attaching : (r : ℕ) → is_kind handle.kind kind.Dependent ≡ true → handle.target ≡ None
        → set_secondary s 0 h r ≡ refuses refusal.Null s
    no_attaching r on null =
        of_kind kind.Dependent on _
        ∙ ap (λ (o : Option Id). option_map_or (λ _. reply_with reply.Done (attached_so r)) o
        (refuses refusal.Null s)) null

    pub secondary_set : (r : ℕ) (id : Id) → is_kind handle.kind kind.Dependent ≡ true
        → handle.target ≡ Some id → set_secondary s 0 h r ≡ reply_with reply.Done (attached_so r)
    secondary_set r id on some =
        of_kind kind.Dependent on _
        ∙ ap (λ (o : Option Id). option_map_or (λ _. reply_with reply.Done (attached_so r)) o
        (refuses refusal.Null s)) some

    pub secondary_read : (d : ℕ) → is_kind handle.kind kind.Dependent ≡ true → get_secondary s 0 d h
        ≡ reply_with (load_reply (secondary_of handle.extra))
        (with_register s 0 d (secondary_of handle.extra))
    secondary_read d on = of_kind kind.Dependent on _

    pub strength_set : (given : Strength) → is_kind handle.kind kind.Variable ≡ true
        → set_strength s 0 h given
        ≡ reply_with reply.Done (with_handle s slot (record handle { extra = strength given }))
    strength_set given on = of_kind kind.Variable on _

    pub raised_by_one : is_kind handle.kind kind.Counted ≡ true
        → raise_count s 0 h ≡ with_count s slot handle (count_of handle.extra + 1)
    raised_by_one on = of_kind kind.Counted on _

    pub no_count : is_kind handle.kind kind.Counted ≡ true → (count_of handle.extra == 0) ≡ true
        → lower_count s 0 h ≡ refuses refusal.CountZero s
    no_count on zero = of_kind kind.Counted on _ ∙ test_cases (λ o. o ≡ refuses refusal.CountZero s) _ _ _
        (λ _. refl) (λ off. absurd (true≢false (sym zero ∙ off)))

    pub lowered_by_one : is_kind handle.kind kind.Counted ≡ true → (count_of handle.extra == 0) ≡ false
        → lower_count s 0 h ≡ with_count s slot handle (count_of handle.extra - 1)
    lowered_by_one on some =
        of_kind kind.Counted on _
        ∙ test_cases (λ o. o ≡ with_count s slot handle (count_of handle.extra - 1)) _ _ _
        (λ zero. absurd (true≢false (sym zero ∙ some))) (λ _. refl)

    pub freed : free_handle s 0 h ≡ record {
      reply = reply.Done;
      slot = Some slot;
      after = with_handle_register (without_handle s slot) 0 h None;
    }
    freed = one_live _

-- ---- commands on an object

module _ (s : State) (o : ℕ) (id : Id) (object : Object Id) (names : register_of s 0 o ≡ Some id)
    (has : get s.objects id.0 ≡ Some object) where
  object_is : object_by_id s id ≡ object
  object_is = ap (λ (x : Option (Object Id)). unwrap_or x (object_with [] 0 false)) has

  -- whether it has a field
  has_field : (i : ℕ) → nat_lt i (length (object_by_id s id).fields) ≡ nat_lt i (length object.fields)
  has_field i = ap (λ (x : Object Id). nat_lt i (length x.fields)) object_is

  past_field : (i : ℕ) → nat_lt i (length object.fields) ≡ false → (act : Id → Outcome)
      → on_field s 0 o i act ≡ refuses refusal.BadField s
  past_field i past act =
      on_object_is s 0 o _ id names ∙ test_cases (λ x. x ≡ refuses refusal.BadField s) _ _ _
      (λ on. absurd (true≢false (sym on ∙ has_field i ∙ past))) (λ _. refl)

  in_field : (i : ℕ) → nat_lt i (length object.fields) ≡ true → (act : Id → Outcome)
      → on_field s 0 o i act ≡ act id
  in_field i within act =
      on_object_is s 0 o _ id names ∙ test_cases (λ x. x ≡ act id) _ _ _ (λ _. refl)
      (λ off. absurd (true≢false (sym within ∙ sym (has_field i) ∙ off)))

  pub past_set : (i v : ℕ) → nat_lt i (length object.fields) ≡ false
      → set_field s 0 o i v ≡ refuses refusal.BadField s
  past_set i v past = past_field i past _

  pub past_get : (d i : ℕ) → nat_lt i (length object.fields) ≡ false
      → get_field s 0 d o i ≡ refuses refusal.BadField s
  past_get d i past = past_field i past _

  pub field_set : (i v : ℕ) → nat_lt i (length object.fields) ≡ true
      → set_field s 0 o i v ≡ reply_with reply.Done
      (with_object s id (record object { fields = slice_set object.fields i (register_of s 0 v) }))
  field_set i v within =
      in_field i within _
      ∙ ap (λ (x : Object Id). reply_with reply.Done
      (with_object s id (record x { fields = slice_set x.fields i (register_of s 0 v) }))) object_is

  pub field_read : (d i : ℕ) → nat_lt i (length object.fields) ≡ true
      → get_field s 0 d o i
      ≡ reply_with (load_reply (field_of object i)) (with_register s 0 d (field_of object i))
  field_read d i within =
      in_field i within _
      ∙ ap (λ (x : Object Id). reply_with (load_reply (field_of x i)) (with_register s 0 d (field_of x i)))
      object_is

  pub value_set : (v : ℕ)
      → set_value s 0 o v ≡ reply_with reply.Done (with_object s id (record object { value = v }))
  value_set v =
      on_object_is s 0 o _ id names
      ∙ ap (λ (x : Object Id). reply_with reply.Done (with_object s id (record x { value = v }))) object_is

  pub value_read : read_value s 0 o ≡ reply_with (reply.Value object.value) s
  value_read = on_object_is s 0 o _ id names
      ∙ ap (λ (x : Object Id). reply_with (reply.Value x.value) s) object_is

  pub generation_read : read_generation s 0 o ≡ reply_with (reply.Generation object.generation) s
  generation_read = on_object_is s 0 o _ id names
      ∙ ap (λ (x : Object Id). reply_with (reply.Generation x.generation) s) object_is

  pub registered_so : (b : Bool)
      → set_registered s 0 o b ≡ reply_with reply.Done (with_object s id (record object { registered = b }))
  registered_so b =
      on_object_is s 0 o _ id names
      ∙ ap (λ (x : Object Id). reply_with reply.Done (with_object s id (record x { registered = b })))
      object_is

-- `cfind` of a key with an entry
pub entry_found : (s : State) (d k : ℕ) (key : Id) (slot : Slot) (held : Option (WeakEntry Id))
    → register_of s 0 k ≡ Some key → slot_of_key s key ≡ Some slot → get s.weak slot.0 ≡ Some held
    → find_entry s 0 d k ≡ reply_with (load_reply (entry_value held)) (with_register s 0 d (entry_value held))
entry_found s d k key slot held names at is =
    on_object_is s 0 k _ key names
    ∙ ap (λ o. option_map_or (λ x. reply_with (load_reply (option_and_then entry_value (get s.weak x.0)))
    (with_register s 0 d (option_and_then entry_value (get s.weak x.0)))) o
    (reply_with reply.Absent (with_register s 0 d None))) at
    ∙ ap (λ o. reply_with (load_reply (option_and_then entry_value o))
    (with_register s 0 d (option_and_then entry_value o))) is

-- `new`, by whether the heap is full
module _ (n : Numbers) (s : State) (d fields : ℕ) (fin : Bool) (taken : ℕ) (same : total_size s ≡ taken) where
  test : nat_lt n.heap (total_size s + (fields + 3)) ≡ nat_lt n.heap (taken + (fields + 3))
  test = ap (λ k. nat_lt n.heap (k + (fields + 3))) same

  pub new_is_refused : nat_lt n.heap (taken + (fields + 3)) ≡ true
      → new_object n s 0 d fields fin ≡ refuses (refusal.HeapFull taken (fields + 3)) s
  new_is_refused over =
      test_cases (λ o. o ≡ refuses (refusal.HeapFull taken (fields + 3)) s) _ _ _
      (λ _. ap (λ k. refuses (refusal.HeapFull k (fields + 3)) s) same)
      (λ off. absurd (true≢false (sym over ∙ sym test ∙ off)))

  abbrev next : Id
  next = identity_of 0 (last_serial s 0 + 1)

  abbrev made_so : Outcome
  made_so = reply_with (reply.Object next)
      (with_register (with_serial (with_object s next (fresh_object fields fin)) 0 (last_serial s 0 + 1)) 0 d
      (Some next))

  pub new_is_made : nat_lt n.heap (taken + (fields + 3)) ≡ false → new_object n s 0 d fields fin ≡ made_so
  new_is_made within = test_cases (λ o. o ≡ made_so) _ _ _
      (λ on. absurd (true≢false (sym on ∙ test ∙ within))) (λ _. refl)
