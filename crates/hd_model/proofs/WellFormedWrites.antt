-- A write to one part of a state keeps it well formed.
use Rattle.hd_model.proofs.Basics.{AllPairs, BlockUse, Contains, FIELDS, FinMap, FitsKind, Handle, HasHandles, HasObjects, HasSerials, HasShape, HasSoundReferences, HasWeakTable, Id, IsSome, IsWellFormed, List, Names, None, Numbers, OLDEST, Object, Option, ROWS, Slot, Some, State, WeakEntry, [], ap, field_of, get, get_or, handles_of, is_some, last_serial, le_trans, length, length-set, nat_cmp, none-some, refl, register_of, secondary_of, static_of, subst, sym, true≢false, use_of, with_board, with_handle, with_handle_register, with_object, with_address, with_queue, with_register, with_serial, with_static, with_use, with_weak, without_handle, without_use, ℕ, ⊎_elim, ◌%◌, ◌/◌, ◌<◌, ◌^◌, ◌∙◌, ◌≡◌, ◌≢◌, ◌≤◌}
use Rattle.hd_model.proofs.ReadAfterWrite.{set_cases, cell_cases, rows_keep, insert_all, remove_all, still_some, some_cases, insert_cases, remove_cases, get_beside, inserted_from}
use Rattle.hd_model.proofs.MapEntries.{none_from}
use Rattle.hd_model.specs.declared.data.Kind.TheVariants as kind

-- what references an object in one state does in another that has its objects
pub names_more : (s t : State) → ((id : ℕ) → IsSome (get s.objects id) → IsSome (get t.objects id))
    → (o : Option Id) → Names s o → Names t o
names_more s t more None h = h
names_more s t more (Some id) h = more id.0 h

-- lists of the same lengths have the shape
shape_again : (n : Numbers) (s t : State) → length t.registers ≡ length s.registers
    → ((c : ℕ) → length (get_or t.registers c []) ≡ length (get_or s.registers c []))
    → length t.handle_registers ≡ length s.handle_registers
    → ((c : ℕ) → length (get_or t.handle_registers c []) ≡ length (get_or s.handle_registers c []))
    → length t.statics ≡ length s.statics → length t.board ≡ length s.board
    → length t.serials ≡ length s.serials → HasShape n s → HasShape n t
shape_again n s t r rs h hs k b c w = record {
  registers = r ∙ w.registers;
  each_registers = λ i l. rs i ∙ w.each_registers i l;
  handle_registers = h ∙ w.handle_registers;
  each_handle_registers = λ i l. hs i ∙ w.each_handle_registers i l;
  statics = k ∙ w.statics;
  board = b ∙ w.board;
  serials = c ∙ w.serials;
}

-- what is so of each source of references
references : {t : State}
    → ((id : ℕ) (object : Object Id) → get t.objects id ≡ Some object → (i : ℕ) → Names t (field_of object i))
    → ((c d : ℕ) → Names t (register_of t c d)) → ((k : ℕ) → Names t (static_of t k))
    → ((slot : ℕ) (h : Handle Id) → get t.handles slot ≡ Some h → Names t h.target)
    → ((slot : ℕ) (h : Handle Id) → get t.handles slot ≡ Some h → Names t (secondary_of h.extra))
    → ((id : Id) → Contains t.queue id → Names t (Some id))
    → ((id : ℕ) → IsSome (get t.pinned id) → IsSome (get t.objects id))
    → ((slot : ℕ) (x : WeakEntry Id) → get t.weak slot ≡ Some (Some x) → Names t (Some x.key))
    → ((slot : ℕ) (x : WeakEntry Id) → get t.weak slot ≡ Some (Some x) → Names t x.value)
    → HasSoundReferences t
references fields registers statics targets secondaries queue pinned keys values = record {
  fields = fields;
  registers = registers;
  statics = statics;
  targets = targets;
  secondaries = secondaries;
  queue = queue;
  pinned = pinned;
  keys = keys;
  values = values;
}

-- each other part of a well formed state, where only other parts differ
names_again : (s : State) (handle_registers : List (List (Option Slot))) (board : List (Option Slot))
    (blocks : FinMap nat_cmp BlockUse) (serials : List ℕ) → HasSoundReferences s
    → HasSoundReferences (record s {
      handle_registers = handle_registers;
      board = board;
      blocks = blocks;
      serials = serials;
    })
names_again s handle_registers board blocks serials h = references h.fields h.registers h.statics h.targets
    h.secondaries h.queue h.pinned h.keys h.values

objects_again : (s t : State) → t.objects ≡ s.objects → t.queue ≡ s.queue → HasObjects s → HasObjects t
objects_again s t o q h = record {
  sizes = λ id object e. h.sizes id object (subst
      (λ (m : FinMap nat_cmp (Object Id)). get m id ≡ Some object) o e);
  generations = λ id object e. h.generations id object
      (subst (λ (m : FinMap nat_cmp (Object Id)). get m id ≡ Some object) o e);
  queued_once = subst (AllPairs (λ (x y : Id). x ≢ y)) (sym q) h.queued_once;
}

serials_again : (s t : State) → t.objects ≡ s.objects → t.serials ≡ s.serials → HasSerials s → HasSerials t
serials_again s t o c h = record {
  from_one = λ id e. h.from_one id (subst (λ (m : FinMap nat_cmp (Object Id)). IsSome (get m id)) o e);
  to_last = λ id e. subst (λ (x : List ℕ). id % 2 ^ 32 ≤ get_or x (id / 2 ^ 32) 0) (sym c)
      (h.to_last id (subst (λ (m : FinMap nat_cmp (Object Id)). IsSome (get m id)) o e));
  limit = λ k. subst (λ (x : List ℕ). get_or x k 0 < 2 ^ 32) (sym c) (h.limit k);
}

handles_again : (n : Numbers) (s t : State) → t.handles ≡ s.handles → t.blocks ≡ s.blocks → HasHandles n s
    → HasHandles n t
handles_again n s t h b w =
    let there : (slot : ℕ) (handle : Handle Id) → get t.handles slot ≡ Some handle
    → get s.handles slot ≡ Some handle = λ slot handle e. subst
    (λ (m : FinMap nat_cmp (Handle Id)). get m slot ≡ Some handle) h e in
    record {
      kinds = λ slot handle e. subst (λ (m : FinMap nat_cmp BlockUse). get m (slot / ROWS) ≡ Some
          (handles_of handle.kind)) (sym b) (w.kinds slot handle (there slot handle e));
      extras = λ slot handle e. w.extras slot handle (there slot handle e);
      dependents = λ slot handle e. w.dependents slot handle (there slot handle e);
      blocks = λ block e. w.blocks block (subst (λ (m : FinMap nat_cmp BlockUse). IsSome (get m block)) b e);
    }

weak_again : (s t : State) → t.weak ≡ s.weak → t.handles ≡ s.handles → t.blocks ≡ s.blocks → HasWeakTable s
    → HasWeakTable t
weak_again s t k h b w =
    let there : (slot : ℕ) → IsSome (get t.weak slot) → IsSome (get s.weak slot) = λ slot.
    subst (λ (m : FinMap nat_cmp (Option (WeakEntry Id))). IsSome (get m slot)) k in
    let entry : (slot : ℕ) (x : WeakEntry Id) → get t.weak slot ≡ Some (Some x)
    → get s.weak slot ≡ Some (Some x) = λ slot x.
    subst (λ (m : FinMap nat_cmp (Option (WeakEntry Id))). get m slot ≡ Some (Some x)) k in
    record {
      kinds = λ slot i. subst (λ (m : FinMap nat_cmp BlockUse). get m (slot / ROWS)
          ≡ Some (handles_of kind.Dependent)) (sym b) (w.kinds slot (there slot i));
      apart = λ slot i. subst (λ (m : FinMap nat_cmp (Handle Id)). get m slot ≡ None) (sym h)
          (w.apart slot (there slot i));
      once = λ i j d e at_i at_j same. w.once i j d e (entry i d at_i) (entry j e at_j) same;
    }

-- a slot with a handle is none of the weak table's
pub live_not_weak : (s : State) → HasWeakTable s → (slot : ℕ) (h : Handle Id) → get s.handles slot ≡ Some h
    → get s.weak slot ≡ None
live_not_weak s w slot h live = none_from (get s.weak slot) (λ i. none-some h (sym (w.apart slot i) ∙ live))

module _ (n : Numbers) (s : State) (w : IsWellFormed n s) where
  -- objects, the queue, serials, handles, blocks and the weak table are as they were
  others_again : (t : State) → t.objects ≡ s.objects → t.queue ≡ s.queue → t.serials ≡ s.serials
      → t.handles ≡ s.handles → t.blocks ≡ s.blocks → t.weak ≡ s.weak → HasShape n t → HasSoundReferences t
      → IsWellFormed n t
  others_again t o q c h b k shape names = record {
    shape = shape;
    names = names;
    objects = objects_again s t o q w.objects;
    serials = serials_again s t o c w.serials;
    handles = handles_again n s t h b w.handles;
    weak = weak_again s t k h b w.weak;
  }

  pub register_keeps : (c d : ℕ) (v : Option Id) → c < n.callers → Names s v
      → IsWellFormed n (with_register s c d v)
  register_keeps c d v l h =
      others_again _ refl refl refl refl refl refl
      (shape_again n s _ (length-set s.registers c _) (λ i. rows_keep s.registers c d i v) refl (λ _. refl)
      refl refl refl w.shape)
      (references w.names.fields
      (λ i j. cell_cases (Names s) s.registers c d i j v None (λ _ _. h) (w.names.registers i j))
      w.names.statics w.names.targets w.names.secondaries w.names.queue w.names.pinned w.names.keys
      w.names.values)

  pub handle_register_keeps : (c d : ℕ) (v : Option Slot) → c < n.callers
      → IsWellFormed n (with_handle_register s c d v)
  handle_register_keeps c d v l =
      others_again _ refl refl refl refl refl refl
      (shape_again n s _ refl (λ _. refl) (length-set s.handle_registers c _)
      (λ i. rows_keep s.handle_registers c d i v) refl refl refl w.shape)
      (names_again s _ _ _ _ w.names)

  pub static_keeps : (k : ℕ) (v : Option Id) → Names s v → IsWellFormed n (with_static s k v)
  static_keeps k v h =
      others_again _ refl refl refl refl refl refl
      (shape_again n s _ refl (λ _. refl) refl (λ _. refl) (length-set s.statics k v) refl refl w.shape)
      (references w.names.fields w.names.registers
      (λ j. set_cases (Names s) s.statics k j v None (λ _. h) (w.names.statics j)) w.names.targets
      w.names.secondaries w.names.queue w.names.pinned w.names.keys w.names.values)

  pub board_keeps : (k : ℕ) (v : Option Slot) → IsWellFormed n (with_board s k v)
  board_keeps k v =
      others_again _ refl refl refl refl refl refl
      (shape_again n s _ refl (λ _. refl) refl (λ _. refl) refl (length-set s.board k v) refl w.shape)
      (names_again s _ _ _ _ w.names)

  -- an object, new or replacing one, whose serial its caller has given out
  pub object_keeps : (id : Id) (object : Object Id)
      → ((i : ℕ) → Names (with_object s id object) (field_of object i)) → length object.fields ≤ FIELDS
      → object.generation ≤ OLDEST → 1 ≤ id.0 % 2 ^ 32 → id.0 % 2 ^ 32 ≤ last_serial s (id.0 / 2 ^ 32)
      → IsWellFormed n (with_object s id object)
  object_keeps id object named small young low high =
      let more : (o : Option Id) → Names s o → Names (with_object s id object) o =
      names_more s (with_object s id object) (still_some s.objects id.0 object) in
      record {
        shape = shape_again n s _ refl (λ _. refl) refl (λ _. refl) refl refl refl w.shape;
        names = references
            (insert_all s.objects id.0 (λ q x. (i : ℕ) → Names (with_object s id object) (field_of x i))
            object named (λ q x e i. more _ (w.names.fields q x e i)))
            (λ c d. more _ (w.names.registers c d)) (λ k. more _ (w.names.statics k))
            (λ slot handle e. more _ (w.names.targets slot handle e))
            (λ slot handle e. more _ (w.names.secondaries slot handle e))
            (λ x h. more (Some x) (w.names.queue x h))
            (λ q h. still_some s.objects id.0 object q (w.names.pinned q h))
            (λ slot x e. more (Some x.key) (w.names.keys slot x e))
            (λ slot x e. more x.value (w.names.values slot x e));
        objects = record {
          sizes = insert_all s.objects id.0 (λ q x. length x.fields ≤ FIELDS) object small w.objects.sizes;
          generations = insert_all s.objects id.0 (λ q x. x.generation ≤ OLDEST) object young
              w.objects.generations;
          queued_once = w.objects.queued_once;
        };
        serials = record {
          from_one = some_cases s.objects id.0 (λ q. 1 ≤ q % 2 ^ 32) object low w.serials.from_one;
          to_last = some_cases s.objects id.0 (λ q. q % 2 ^ 32 ≤ last_serial s (q / 2 ^ 32)) object high
              w.serials.to_last;
          limit = w.serials.limit;
        };
        handles = handles_again n s _ refl refl w.handles;
        weak = weak_again s _ refl refl refl w.weak;
      }

  pub serial_keeps : (c v : ℕ) → last_serial s c ≤ v → v < 2 ^ 32 → IsWellFormed n (with_serial s c v)
  serial_keeps c v up small = record {
    shape = shape_again n s _ refl (λ _. refl) refl (λ _. refl) refl refl (length-set s.serials c v) w.shape;
    names = names_again s _ _ _ _ w.names;
    objects = objects_again s _ refl refl w.objects;
    serials = record {
      from_one = w.serials.from_one;
      to_last = λ id h. set_cases (λ x. id % 2 ^ 32 ≤ x) s.serials c (id / 2 ^ 32) v 0
          (λ e. le_trans (subst (λ k. id % 2 ^ 32 ≤ last_serial s k) e (w.serials.to_last id h)) up)
          (w.serials.to_last id h);
      limit = λ k. set_cases (λ x. x < 2 ^ 32) s.serials c k v 0 (λ _. small) (w.serials.limit k);
    };
    handles = handles_again n s _ refl refl w.handles;
    weak = weak_again s _ refl refl refl w.weak;
  }

  -- a handle with the extra of its kind, in a block of its kind, in a slot that is not the weak table's
  pub handle_keeps : (slot : Slot) (handle : Handle Id) → get s.weak slot.0 ≡ None → Names s handle.target
      → Names s (secondary_of handle.extra) → use_of s (slot.0 / ROWS) ≡ Some (handles_of handle.kind)
      → FitsKind handle.kind handle.extra → (handle.target ≡ None → secondary_of handle.extra ≡ None)
      → IsWellFormed n (with_handle s slot handle)
  handle_keeps slot handle not_weak target second in_use fits paired = record {
    shape = shape_again n s _ refl (λ _. refl) refl (λ _. refl) refl refl refl w.shape;
    names = references w.names.fields w.names.registers w.names.statics
        (insert_all s.handles slot.0 (λ _ x. Names s x.target) handle target w.names.targets)
        (insert_all s.handles slot.0 (λ _ x. Names s (secondary_of x.extra)) handle second
        w.names.secondaries)
        w.names.queue w.names.pinned w.names.keys w.names.values;
    objects = objects_again s _ refl refl w.objects;
    serials = serials_again s _ refl refl w.serials;
    handles = record {
      kinds = insert_all s.handles slot.0 (λ q x. use_of s (q / ROWS) ≡ Some (handles_of x.kind)) handle
          in_use w.handles.kinds;
      extras = insert_all s.handles slot.0 (λ _ x. FitsKind x.kind x.extra) handle fits w.handles.extras;
      dependents = insert_all s.handles slot.0 (λ _ x. x.target ≡ None → secondary_of x.extra ≡ None) handle
          paired w.handles.dependents;
      blocks = w.handles.blocks;
    };
    weak = record {
      kinds = w.weak.kinds;
      apart = λ q i. get_beside s.handles slot.0 handle q
          (λ same. true≢false (sym i ∙ ap (λ k. is_some (get s.weak k)) same ∙ ap is_some not_weak))
          ∙ w.weak.apart q i;
      once = w.weak.once;
    };
  }

  pub removal_keeps : (slot : Slot) → IsWellFormed n (without_handle s slot)
  removal_keeps slot = record {
    shape = shape_again n s _ refl (λ _. refl) refl (λ _. refl) refl refl refl w.shape;
    names = references w.names.fields w.names.registers w.names.statics
        (remove_all s.handles slot.0 (λ _ x. Names s x.target) w.names.targets)
        (remove_all s.handles slot.0 (λ _ x. Names s (secondary_of x.extra)) w.names.secondaries)
        w.names.queue w.names.pinned w.names.keys w.names.values;
    objects = objects_again s _ refl refl w.objects;
    serials = serials_again s _ refl refl w.serials;
    handles = record {
      kinds = remove_all s.handles slot.0 (λ q x. use_of s (q / ROWS) ≡ Some (handles_of x.kind))
          w.handles.kinds;
      extras = remove_all s.handles slot.0 (λ _ x. FitsKind x.kind x.extra) w.handles.extras;
      dependents = remove_all s.handles slot.0 (λ _ x. x.target ≡ None → secondary_of x.extra ≡ None)
          w.handles.dependents;
      blocks = w.handles.blocks;
    };
    weak = record {
      kinds = w.weak.kinds;
      apart = λ q i. remove_cases s.handles slot.0 (λ _ o. o ≡ None) q refl (λ _. w.weak.apart q i);
      once = w.weak.once;
    };
  }

  -- a block gets a use that it did not have
  pub use_keeps : (block : ℕ) (given : BlockUse) → use_of s block ≡ None → 1 ≤ block → block ≤ n.blocks
      → IsWellFormed n (with_use s block given)
  use_keeps block given unused low high = record {
    shape = shape_again n s _ refl (λ _. refl) refl (λ _. refl) refl refl refl w.shape;
    names = names_again s _ _ _ _ w.names;
    objects = objects_again s _ refl refl w.objects;
    serials = serials_again s _ refl refl w.serials;
    handles = record {
      kinds = λ slot handle e. insert_cases s.blocks block
          (λ q o. use_of s q ≡ Some (handles_of handle.kind) → o ≡ Some (handles_of handle.kind)) given
          (slot / ROWS) (λ f. absurd (none-some (handles_of handle.kind) (sym unused ∙ f))) (λ _ f. f)
          (w.handles.kinds slot handle e);
      extras = w.handles.extras;
      dependents = w.handles.dependents;
      blocks = some_cases s.blocks block (λ q. (1 ≤ q) × (q ≤ n.blocks)) given (low, high) w.handles.blocks;
    };
    weak = record {
      kinds = λ slot i. insert_cases s.blocks block
          (λ q o. use_of s q ≡ Some (handles_of kind.Dependent) → o ≡ Some (handles_of kind.Dependent)) given
          (slot / ROWS) (λ f. absurd (none-some (handles_of kind.Dependent) (sym unused ∙ f))) (λ _ f. f)
          (w.weak.kinds slot i);
      apart = w.weak.apart;
      once = w.weak.once;
    };
  }

  -- a block whose slots are all free loses its use
  pub without_use_keeps : (block : ℕ) → ((slot : ℕ) → slot / ROWS ≡ block → get s.handles slot ≡ None)
      → ((slot : ℕ) → slot / ROWS ≡ block → get s.weak slot ≡ None) → IsWellFormed n (without_use s block)
  without_use_keeps block vacant not_weak = record {
    shape = shape_again n s _ refl (λ _. refl) refl (λ _. refl) refl refl refl w.shape;
    names = names_again s _ _ _ _ w.names;
    objects = objects_again s _ refl refl w.objects;
    serials = serials_again s _ refl refl w.serials;
    handles = record {
      kinds = λ slot handle e. remove_cases s.blocks block
          (λ q o. (slot / ROWS ≡ q) → use_of s q ≡ Some (handles_of handle.kind)
          → o ≡ Some (handles_of handle.kind)) (slot / ROWS)
          (λ here _. absurd (none-some handle (sym (vacant slot here) ∙ e))) (λ _ _ f. f) refl
          (w.handles.kinds slot handle e);
      extras = w.handles.extras;
      dependents = w.handles.dependents;
      blocks = λ q h. remove_cases s.blocks block (λ j o. IsSome o → (1 ≤ j) × (j ≤ n.blocks)) q
          (λ gone. absurd (true≢false (sym gone))) (λ _. w.handles.blocks q) h;
    };
    weak = record {
      kinds = λ slot i. remove_cases s.blocks block
          (λ q o. (slot / ROWS ≡ q) → use_of s q ≡ Some (handles_of kind.Dependent)
          → o ≡ Some (handles_of kind.Dependent)) (slot / ROWS)
          (λ here _. absurd (true≢false (sym i ∙ ap is_some (not_weak slot here)))) (λ _ _ f. f) refl
          (w.weak.kinds slot i);
      apart = w.weak.apart;
      once = w.weak.once;
    };
  }

  -- a slot of the weak table, new or not, gets an entry with a key that no other slot has, or becomes idle
  pub weak_keeps : (slot : Slot) (content : Option (WeakEntry Id))
      → ((x : WeakEntry Id) → content ≡ Some x → Names s (Some x.key) × Names s x.value)
      → ((x : WeakEntry Id) → content ≡ Some x → (q : ℕ) (d : WeakEntry Id) → get s.weak q ≡ Some (Some d)
      → d.key ≡ x.key → q ≡ slot.0)
      → use_of s (slot.0 / ROWS) ≡ Some (handles_of kind.Dependent) → get s.handles slot.0 ≡ None
      → IsWellFormed n (with_weak s slot content)
  weak_keeps slot content named alone in_use vacant = record {
    shape = shape_again n s _ refl (λ _. refl) refl (λ _. refl) refl refl refl w.shape;
    names = references w.names.fields w.names.registers w.names.statics w.names.targets w.names.secondaries
        w.names.queue w.names.pinned
        (λ q x e. insert_all s.weak slot.0 (λ _ c. (y : WeakEntry Id) → c ≡ Some y → Names s (Some y.key))
        content (λ y is. (named y is).0) (λ k c f y is. w.names.keys k y (f ∙ ap Some is)) q (Some x) e
        x refl)
        (λ q x e. insert_all s.weak slot.0 (λ _ c. (y : WeakEntry Id) → c ≡ Some y → Names s y.value)
        content (λ y is. (named y is).1) (λ k c f y is. w.names.values k y (f ∙ ap Some is)) q (Some x)
        e x refl);
    objects = objects_again s _ refl refl w.objects;
    serials = serials_again s _ refl refl w.serials;
    handles = handles_again n s _ refl refl w.handles;
    weak = record {
      kinds = some_cases s.weak slot.0 (λ q. use_of s (q / ROWS) ≡ Some (handles_of kind.Dependent)) content
          in_use w.weak.kinds;
      apart = some_cases s.weak slot.0 (λ q. get s.handles q ≡ None) content vacant w.weak.apart;
      once = λ i j d e at_i at_j same.
          ⊎_elim (λ old. ⊎_elim (λ other. w.weak.once i j d e old other same)
          (λ new. alone e new.1 i d old same
          ∙ sym new.0) (inserted_from s.weak slot.0 content j (Some e) at_j))
          (λ new. ⊎_elim (λ other. new.0 ∙ sym (alone d new.1 j e other (sym same)))
          (λ also. new.0 ∙ sym also.0) (inserted_from s.weak slot.0 content j (Some e) at_j))
          (inserted_from s.weak slot.0 content i (Some d) at_i);
    };
  }

  -- another queue of objects, each once
  pub queue_keeps : (queue : List Id) → ((id : Id) → Contains queue id → Names s (Some id))
      → AllPairs (λ x y. x ≢ y) queue → IsWellFormed n (with_queue s queue)
  queue_keeps queue named once = record {
    shape = shape_again n s _ refl (λ _. refl) refl (λ _. refl) refl refl refl w.shape;
    names = references w.names.fields w.names.registers w.names.statics w.names.targets w.names.secondaries
        named w.names.pinned w.names.keys w.names.values;
    objects = record {
      sizes = w.objects.sizes;
      generations = w.objects.generations;
      queued_once = once;
    };
    serials = serials_again s _ refl refl w.serials;
    handles = handles_again n s _ refl refl w.handles;
    weak = weak_again s _ refl refl refl w.weak;
  }

  -- an object gets a pinned address
  pub address_keeps : (id : Id) (p : ℕ) → IsSome (get s.objects id.0) → IsWellFormed n (with_address s id p)
  address_keeps id p there =
      others_again _ refl refl refl refl refl refl
      (shape_again n s _ refl (λ _. refl) refl (λ _. refl) refl refl refl w.shape)
      (references w.names.fields w.names.registers w.names.statics w.names.targets w.names.secondaries
      w.names.queue (some_cases s.pinned id.0 (λ q. IsSome (get s.objects q)) p there w.names.pinned)
      w.names.keys w.names.values)
