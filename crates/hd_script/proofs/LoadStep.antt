-- What the step of each command of a load does.
use Rattle.hd_script.proofs.Basics.{Bool, Cmd, Contains, DoesCollect, Entry, FindsTableFull, HEAP, Id, IsOutcome, IsSome, IsWellFormed, List, MakesHandle, None, Object, Option, ROUNDS_TO_COLLECTION, Slot, Some, State, StepOf, [], ap, arith, cell_here, cond, eqb, false, false≢true, frees_handle, fresh, get, get_beside, get_inserted, get_left, get_or, get_or-set_other, get_or-set_same, given_vacant, handle_at, handle_register_of, has, identity_of, inl, inr, insert, is_some, last_serial, length, length-replicate, load_numbers, ltb, ltb-true, make_of_round, makes_handle, makes_object, none-some, object_by_id, option_map, refl, register_of, same_Some, set, size_of, some_at, still_some, subst, suc, sym, total_size, touched_by, true, unwrap_or, value_returned, with_growth, with_handle, with_handle_register, with_made, with_object, with_register, with_serial, without_handle, ℕ, ⊎_elim, ◌%◌, ◌*◌, ◌++◌, ◌+◌, ◌/◌, ◌<◌, ◌^◌, ◌∙◌, ◌∷◌, ◌≡◌, ◌≤◌, ◌⊎◌}
use Rattle.hd_model.specs.{declared.data.Grown.Grown, declared.data.Refusal.Refusal, declared.data.Reply.Reply, Kinds.kind_of, Scene.scene_of, Reach.named, Collect.cleared, Collect.survivor}
use Rattle.hd_model.specs.Command.{Outcome, load_reply, fresh_object, new_object, set_value, read_value, clear_register, get_target, free_handle, made_handle}
use Rattle.hd_model.proofs.{Effects.growth_is, WholeScenes.register_named, WholeScenes.whole_scene, SceneCollection.keeps_root, SceneCollection.object_after}
use Rattle.hd_model.proofs.Outcomes.{test_cases, on_object_cases, on_handle_cases}
use Rattle.hd_model.proofs.Sums.{share, sum-insert, sum-le}
use Rattle.hd_script.proofs.LoadPosition.{Line, news, hnews, vals, hgets, reads, drops, others, frees, collects, Index, rounds_from, left_at, after_round, left_after_round, pending, pending_by, one_if_some, holding, Owns, IsAtIndex, Frame}
use Rattle.hd_model.specs.declared.data.Refusal.TheVariants as refusal
use Rattle.hd_model.specs.declared.data.Reply.TheVariants as reply
use Rattle.hd_model.specs.declared.command.Cmd.TheVariants as cmd

-- 1 for a test that passes
abbrev pub bit : Bool → ℕ
bit b = cond b 1 0

-- the value that a command writes
abbrev pub written : Cmd → ℕ
written (cmd.Val o n) = n
written _ = 0

abbrev pub index : Line → ℕ → ℕ → Option Slot → Index
index line j m h = record { line = line; round = j; left = m; held = h }

-- a step by command x with reply r leads the caller from position p to the next one
pub record Does (s t : State) (c : ℕ) (p : Index) (x : Cmd) (r : Reply) : Type 0 where
  pub next : Index
  pub rest : left_at c p ≡ x ∷ left_at c next
  pub frame : Frame s t c
  pub at_index : IsAtIndex t c next
  pub room : total_size t + 10 * next.left ≤ total_size s + 10 * p.left
  pub fresh : (y : Slot) → next.held ≡ Some y → (p.held ≡ Some y) ⊎ (handle_at s y ≡ None)
  pub returned : value_returned r + pending next ≡ written x + pending p
  pub made : makes_object x r ≡ (touched_by x).makes_object
  pub handles : bit (makes_handle x r) + holding p ≡ bit (frees_handle x r) + holding next

-- ---- frames

frame_same : (s : State) (c : ℕ) → Frame s s c
frame_same s c = record {
  registers = λ d apart. refl;
  handle_registers = λ d apart. refl;
  values = λ d id apart names own. refl;
  live = λ x mine h. h;
}

register_beside : (s : State) (c k : ℕ) (v : Option Id) (d : ℕ) → (d ≡ c → ⊥)
    → register_of (with_register s c k v) d 0 ≡ register_of s d 0
register_beside s c k v d apart =
    ap (λ (row : List (Option Id)). get_or row 0 None)
    (get_or-set_other s.registers c d (set (get_or s.registers c []) k v) [] apart)

handle_register_beside : (s : State) (c k : ℕ) (v : Option Slot) (d : ℕ) → (d ≡ c → ⊥)
    → handle_register_of (with_handle_register s c k v) d 0 ≡ handle_register_of s d 0
handle_register_beside s c k v d apart =
    ap (λ (row : List (Option Slot)). get_or row 0 None)
    (get_or-set_other s.handle_registers c d (set (get_or s.handle_registers c []) k v) [] apart)

frame_register : (s : State) (c k : ℕ) (v : Option Id) → Frame s (with_register s c k v) c
frame_register s c k v = record {
  registers = register_beside s c k v;
  handle_registers = λ d apart. refl;
  values = λ d id apart names own. refl;
  live = λ x mine h. h;
}

-- another object of a caller's has the value of one that is not this caller's
value_beside : (s : State) (c : ℕ) (id : Id) (object : Object Id) → id.0 / 2 ^ 32 ≡ c → (d : ℕ) (other : Id)
    → (d ≡ c → ⊥) → other.0 / 2 ^ 32 ≡ d
    → (object_by_id (with_object s id object) other).value ≡ (object_by_id s other).value
value_beside s c id object own d other apart owner =
    ap (λ (o : Option (Object Id)).
    (unwrap_or {T = Object Id} o (record
    { fields = []; value = 0; generation = 0; registered = false })).value)
    (get_beside s.objects id.0 object other.0
    (λ same. apart (sym owner ∙ ap (λ (k : ℕ). k / 2 ^ 32) same ∙ own)))

-- ---- the caller's own registers

module _ (s : State) (c : ℕ) (small : c < 4) (well : IsWellFormed load_numbers s) where
  in_rows : c < length s.registers
  in_rows = omega (arith, well.shape.registers)

  in_handle_rows : c < length s.handle_registers
  in_handle_rows = omega (arith, well.shape.handle_registers)

  register_here : (v : Option Id) → register_of (with_register s c 0 v) c 0 ≡ v
  register_here v = cell_here s.registers c 0 v None in_rows
      (omega (arith, well.shape.each_registers c small))

  handle_register_here : (v : Option Slot) → handle_register_of (with_handle_register s c 0 v) c 0 ≡ v
  handle_register_here v =
      cell_here s.handle_registers c 0 v None in_handle_rows
      (omega (arith, well.shape.each_handle_registers c small))

  -- register r1 is another one
  register_kept : (v : Option Id) → register_of (with_register s c 1 v) c 0 ≡ register_of s c 0
  register_kept v =
      let row = get_or s.registers c [] in
      ap (λ (r : List (Option Id)). get_or r 0 None) (get_or-set_same s.registers c (set row 1 v) [] in_rows)
      ∙ get_or-set_other row 1 0 v None (λ e. omega arith)

  owns_kept : (v : Option Id) (V : ℕ → Type 0) → Owns s c V → Owns (with_register s c 1 v) c V
  owns_kept v V o = record { id = o.id; names = register_kept v ∙ o.names; own = o.own; value = o.value }

-- ---- a step by each line

-- an outcome's step does what the outcome does
carry : (s t : State) (e : Entry) (c : ℕ) (p : Index) (x : Cmd) (w : Outcome) → Does s w.after c p x w.reply
    → IsOutcome e w t → Does s t c p x e.reply
carry s t e c p x w does o =
    subst (λ (r : Reply). Does s t c p x r) (sym o.reply)
    (subst (λ (u : State). Does s u c p x w.reply) (sym o.after) does)

module _ (s : State) (c : ℕ) (small : c < 4) (well : IsWellFormed load_numbers s) (j m : ℕ) where
  -- from a line of the round, the command x leads its caller on
  abbrev LeadsOn : Line → Option Slot → Cmd → Type 0
  LeadsOn line h x = (t : State) (e : Entry) → e.caller ≡ c → IsAtIndex s c (index line j m h)
      → StepOf load_numbers s e t x → Does s t c (index line j m h) x e.reply

  -- `new`: r0 references a new object
  made_new : IsAtIndex s c (index news j (suc m) None) → last_serial s c + 1 < 2 ^ 32 →
      (let id = identity_of c (last_serial s c + 1) in
      let made = with_serial (with_object s id (fresh_object ((c + j) % 8) false)) c (last_serial s c + 1) in
      Does s (with_register made c 0 (Some id)) c (index news j (suc m) None) (cmd.New 0 ((c + j) % 8) false)
      (reply.Object id))
  made_new at_index serial =
      let id = identity_of c (last_serial s c + 1) in
      let object = fresh_object ((c + j) % 8) false in
      let own : id.0 / 2 ^ 32 ≡ c = omega arith in
      let unused : get s.objects id.0 ≡ None = fresh load_numbers s c well serial in
      let cells = sum-insert size_of s.objects id.0 object in
      record {
        next = index hnews j m None;
        rest = refl;
        frame = record {
          registers = register_beside s c 0 (Some id);
          handle_registers = λ d apart. refl;
          values = λ d other apart names owner. value_beside s c id object own d other apart owner;
          live = λ x mine h. h;
        };
        at_index = record {
          owns = record { id = id; names = register_here s c small well (Some id); own = own; value = tt };
          held = at_index.held;
          empty = refl;
          live = at_index.live;
        };
        room = omega (arith, cells, ap (share size_of) unused, length_replicate ((c + j) % 8));
        fresh = λ y h. inl h;
        returned = refl;
        made = refl;
        handles = refl;
      }
    where
      length_replicate : (k : ℕ) → size_of (fresh_object k false) ≡ k + 3
      length_replicate k = ap (λ (n : ℕ). n + 3) (length-replicate k None)

  pub does_new : (t : State) (e : Entry) → e.caller ≡ c → IsAtIndex s c (index news j (suc m) None)
      → total_size s + 10 * suc m ≤ 120000 → StepOf load_numbers s e t (cmd.New 0 ((c + j) % 8) false)
      → Does s t c (index news j (suc m) None) (cmd.New 0 ((c + j) % 8) false) e.reply
  does_new t e is at_index room step =
      let x = cmd.New 0 ((c + j) % 8) false in
      let p = index news j (suc m) None in
      let outcome : IsOutcome e (new_object load_numbers s c 0 ((c + j) % 8) false) t =
      subst (λ (k : ℕ). IsOutcome e (new_object load_numbers s k 0 ((c + j) % 8) false) t) is step.1 in
      let serial : last_serial s c + 1 < 2 ^ 32 = subst (λ (k : ℕ). last_serial s k + 1 < 2 ^ 32) is step.0 in
      test_cases (λ o. IsOutcome e o t → Does s t c p x e.reply)
      (ltb HEAP (total_size s + ((c + j) % 8 + 3))) _ _
      (λ full. let over = ltb-true HEAP (total_size s + ((c + j) % 8 + 3)) full in absurd (omega arith))
      (λ fits o. carry s t e c p x _ (made_new at_index serial) o) outcome

  -- a step to a later line of the round, which keeps the handle and the words of all objects
  goes_to : {t : State} {x : Cmd} {r : Reply} (old new : Line) (h : Option Slot)
      → left_at c (index old j m h) ≡ x ∷ left_at c (index new j m h) → Frame s t c
      → IsAtIndex t c (index new j m h) → total_size t ≡ total_size s
      → value_returned r + pending_by new j ≡ written x + pending_by old j
      → makes_object x r ≡ (touched_by x).makes_object → bit (makes_handle x r) ≡ bit (frees_handle x r)
      → Does s t c (index old j m h) x r
  goes_to old new h rest frame at_index size returned made handles = record {
    next = index new j m h;
    rest = rest;
    frame = frame;
    at_index = at_index;
    room = omega (arith, size);
    fresh = λ y l. inl l;
    returned = returned;
    made = made;
    handles = omega (arith, handles);
  }

  -- `hnew`: h0 has a new slot, or the table is full and h0 stays empty
  not_made : (why : Refusal) → IsAtIndex s c (index hnews j m None)
      → Does s s c (index hnews j m None) (cmd.HNew 0 (make_of_round j) 0) (reply.Refused why)
  not_made why at_index = goes_to hnews vals None refl (frame_same s c)
      (record { owns = at_index.owns; held = at_index.held; empty = tt; live = at_index.live }) refl refl
      refl refl

  abbrev with_slot : State → Grown → Slot → State
  with_slot u grown slot =
      with_handle_register
      (with_handle (record u { blocks = (with_growth u (kind_of (make_of_round j)) grown).blocks }) slot
      (made_handle u c (make_of_round j) 0))
      c 0 (Some slot)

  made_handle_in : (grown : Grown) (slot : Slot) → handle_at s slot ≡ None
      → IsAtIndex s c (index hnews j m None)
      → Does s (with_slot s grown slot) c (index hnews j m None) (cmd.HNew 0 (make_of_round j) 0) reply.Done
  made_handle_in grown slot vacant at_index =
      let handle = made_handle s c (make_of_round j) 0 in
      record {
        next = index vals j m (Some slot);
        rest = refl;
        frame = record {
          registers = λ d apart. refl;
          handle_registers = handle_register_beside s c 0 (Some slot);
          values = λ d id apart names own. refl;
          live = λ x mine h. still_some s.handles slot.0 handle x.0 h;
        };
        at_index = record {
          owns = let o = at_index.owns in record { id = o.id; names = o.names; own = o.own; value = tt };
          held = handle_register_here s c small well (Some slot);
          empty = tt;
          live = λ x h. subst (λ (y : Slot). IsSome (get (insert s.handles slot.0 handle) y.0))
              (same_Some slot x h) (ap is_some (get_inserted s.handles slot.0 handle));
        };
        room = omega arith;
        fresh = λ y h. inr (subst (λ (x : Slot). handle_at s x ≡ None) (same_Some slot y h) vacant);
        returned = refl;
        made = refl;
        handles = refl;
      }

  pub does_hnew : LeadsOn hnews None (cmd.HNew 0 (make_of_round j) 0)
  does_hnew t e is at_index step =
      let x = cmd.HNew 0 (make_of_round j) 0 in
      let p = index hnews j m None in
      ⊎_elim
      (λ (made : MakesHandle load_numbers s e t 0 (make_of_round j) 0).
      let vacant = given_vacant load_numbers s well (kind_of (make_of_round j)) e.grown made.slot made.may in
      let after : t ≡ with_slot s e.grown made.slot =
      made.after ∙ ap (λ (k : ℕ). with_made s k e.grown 0 (make_of_round j) 0 made.slot) is
      ∙ ap (λ (u : State). with_handle_register
      (with_handle u made.slot (made_handle s c (make_of_round j) 0)) c 0 (Some made.slot))
      (growth_is s (kind_of (make_of_round j)) e.grown) in
      subst (λ (r : Reply). Does s t c p x r) (sym made.reply)
      (subst (λ (u : State). Does s u c p x reply.Done) (sym after)
      (made_handle_in e.grown made.slot vacant at_index)))
      (λ (full : FindsTableFull load_numbers s e t (kind_of (make_of_round j))).
      carry s t e c p x _ (not_made _ at_index) full.refused)
      step

  -- `val`: the value of r0's object is the number of the round
  set_to : (h : Option Slot) → IsAtIndex s c (index vals j m h) → (id : Id) → register_of s c 0 ≡ Some id
      → id.0 / 2 ^ 32 ≡ c
      → IsSome (get s.objects id.0) → Does s (with_object s id (record (object_by_id s id) { value = j })) c
      (index vals j m h) (cmd.Val 0 j) reply.Done
  set_to h at_index id names own there =
      let object : Object Id = record (object_by_id s id) { value = j } in
      let cells = sum-insert size_of s.objects id.0 object in
      let before : share size_of (get s.objects id.0) ≡ size_of object =
      ap (share size_of) (some_at s id there) in
      record {
        next = index hgets j m h;
        rest = refl;
        frame = record {
          registers = λ d apart. refl;
          handle_registers = λ d apart. refl;
          values = λ d other apart named owner. value_beside s c id object own d other apart owner;
          live = λ x mine l. l;
        };
        at_index = record {
          owns = record {
            id = id;
            names = names;
            own = own;
            value = ap (λ (o : Option (Object Id)).
                (unwrap_or {T = Object Id} o (record
                { fields = []; value = 0; generation = 0; registered = false })).value)
                (get_inserted s.objects id.0 object);
          };
          held = at_index.held;
          empty = tt;
          live = at_index.live;
        };
        room = omega (arith, cells, before);
        fresh = λ y l. inl l;
        returned = omega arith;
        made = refl;
        handles = omega arith;
      }

  pub does_val : (h : Option Slot) → LeadsOn vals h (cmd.Val 0 j)
  does_val h t e is at_index step =
      let p = index vals j m h in
      let outcome : IsOutcome e (set_value s c 0 j) t =
      subst (λ (k : ℕ). IsOutcome e (set_value s k 0 j) t) is step in
      let o = at_index.owns in
      on_object_cases (λ w. IsOutcome e w t → Does s t c p (cmd.Val 0 j) e.reply) s c 0 _
      (λ none. absurd (none-some o.id (sym none ∙ o.names)))
      (λ id names. carry s t e c p (cmd.Val 0 j) _
      (set_to h at_index id names (subst
      (λ (i : Id). i.0 / 2 ^ 32 ≡ c) (same_Some o.id id (sym o.names ∙ names)) o.own)
      (has load_numbers s c 0 id well names)))
      outcome

  -- `hget`: r1 gets the target, or nothing where h0 is empty; r0 stays
  pub does_hget : (h : Option Slot) → LeadsOn hgets h (cmd.HGet 1 0)
  does_hget h t e is at_index step =
      let p = index hgets j m h in
      let outcome : IsOutcome e (get_target s c 1 0) t =
      subst (λ (k : ℕ). IsOutcome e (get_target s k 1 0) t) is step in
      on_handle_cases (λ w. IsOutcome e w t → Does s t c p (cmd.HGet 1 0) e.reply) s c 0 _
      (λ empty. carry s t e c p (cmd.HGet 1 0) _ (stays refusal.EmptyRegister))
      (λ slot has gone. carry s t e c p (cmd.HGet 1 0) _ (stays refusal.NotLive))
      (λ slot handle has live. carry s t e c p (cmd.HGet 1 0) _ (gets handle.target)) outcome
    where
      stays : (why : Refusal) → Does s s c (index hgets j m h) (cmd.HGet 1 0) (reply.Refused why)
      stays why = goes_to hgets reads h refl (frame_same s c)
          (record { owns = at_index.owns; held = at_index.held; empty = tt; live = at_index.live })
          refl refl refl refl

      none_returned : (v : Option Id) → value_returned (load_reply v) ≡ 0
      none_returned None = refl
      none_returned (Some id) = refl

      gets : (v : Option Id) → Does s (with_register s c 1 v) c (index hgets j m h) (cmd.HGet 1 0)
          (load_reply v)
      gets v = goes_to hgets reads h refl (frame_register s c 1 v) (record {
        owns = owns_kept s c small well v (λ w. w ≡ j) at_index.owns;
        held = at_index.held;
        empty = tt;
        live = at_index.live;
      }) refl (omega (arith, none_returned v)) refl refl

  -- `read`: the number of the round is read
  pub does_read : (h : Option Slot) → LeadsOn reads h (cmd.Read 0)
  does_read h t e is at_index step =
      let p = index reads j m h in
      let outcome : IsOutcome e (read_value s c 0) t =
      subst (λ (k : ℕ). IsOutcome e (read_value s k 0) t) is step in
      let o = at_index.owns in
      on_object_cases (λ w. IsOutcome e w t → Does s t c p (cmd.Read 0) e.reply) s c 0 _
      (λ none. absurd (none-some o.id (sym none ∙ o.names)))
      (λ id names. carry s t e c p (cmd.Read 0) _
      (returns_value id
      (subst (λ (i : Id). (object_by_id s i).value ≡ j) (same_Some o.id id (sym o.names ∙ names))
      o.value)))
      outcome
    where
      returns_value : (id : Id) → (object_by_id s id).value ≡ j
          → Does s s c (index reads j m h) (cmd.Read 0) (reply.Value (object_by_id s id).value)
      returns_value id value = goes_to reads drops h refl (frame_same s c)
          (record { owns = tt; held = at_index.held; empty = tt; live = at_index.live }) refl
          (omega (arith, value)) refl refl

  -- `drop r0` and `drop r1`
  pub does_drop : (h : Option Slot) → LeadsOn drops h (cmd.Clear 0)
  does_drop h t e is at_index step =
      carry s t e c (index drops j m h) (cmd.Clear 0) (clear_register s c 0)
      (goes_to drops others h refl (frame_register s c 0 None)
      (record { owns = tt; held = at_index.held; empty = tt; live = at_index.live }) refl refl refl refl)
      (subst (λ (k : ℕ). IsOutcome e (clear_register s k 0) t) is step)

  pub does_other : (h : Option Slot) → LeadsOn others h (cmd.Clear 1)
  does_other h t e is at_index step =
      carry s t e c (index others j m h) (cmd.Clear 1) (clear_register s c 1)
      (goes_to others frees h refl (frame_register s c 1 None)
      (record { owns = tt; held = at_index.held; empty = tt; live = at_index.live }) refl refl refl refl)
      (subst (λ (k : ℕ). IsOutcome e (clear_register s k 1) t) is step)

  -- `hfree`: h0 is empty, whether it had a slot or not
  after_left : (b : Bool) → (after_round b j m).left ≡ m
  after_left true = refl
  after_left false = refl

  after_held : (b : Bool) → (after_round b j m).held ≡ None
  after_held true = refl
  after_held false = refl

  after_pending : (b : Bool) → pending (after_round b j m) ≡ 0
  after_pending true = refl
  after_pending false = refl

  index_after : (u : State) (b : Bool) → handle_register_of u c 0 ≡ None → IsAtIndex u c (after_round b j m)
  index_after u true none =
      record { owns = tt; held = none; empty = refl; live = λ x h. absurd (none-some x h) }
  index_after u false none =
      record { owns = tt; held = none; empty = refl; live = λ x h. absurd (none-some x h) }

  goes_on : (t : State) (h : Option Slot) (r : Reply) (b : Bool) → eqb (j % ROUNDS_TO_COLLECTION) 0 ≡ b
      → Frame s t c
      → handle_register_of t c 0 ≡ None → total_size t ≤ total_size s
      → value_returned r ≡ 0 → bit (makes_handle (cmd.HFree 0) r) + one_if_some h
      ≡ bit (frees_handle (cmd.HFree 0) r) → Does s t c (index frees j m h) (cmd.HFree 0) r
  goes_on t h r b is frame none room returned handles = record {
    next = after_round b j m;
    rest = ap (λ (rest : List Cmd). cmd.HFree 0 ∷ rest)
        (ap (λ (q : Bool). cond q (cmd.Collect (j % 3) ∷ []) [] ++ rounds_from c (j + 1) m) is
        ∙ left_after_round c j m b);
    frame = frame;
    at_index = index_after t b none;
    room = omega (arith, after_left b, room);
    fresh = λ y l. absurd (none-some y (sym (after_held b) ∙ l));
    returned = omega (arith, returned, after_pending b);
    made = refl;
    handles = omega (arith, handles, ap one_if_some (after_held b));
  }

  pub does_free : (h : Option Slot) → LeadsOn frees h (cmd.HFree 0)
  does_free h t e is at_index step =
      let p = index frees j m h in
      let outcome : IsOutcome e (free_handle s c 0) t =
      subst (λ (k : ℕ). IsOutcome e (free_handle s k 0) t) is step in
      on_handle_cases (λ w. IsOutcome e w t → Does s t c p (cmd.HFree 0) e.reply) s c 0 _
      (λ empty. carry s t e c p (cmd.HFree 0) _
      (goes_on s h _ (eqb (j % ROUNDS_TO_COLLECTION) 0) refl (frame_same s c) empty (omega arith) refl
      (omega (arith, ap one_if_some (sym at_index.held ∙ empty)))))
      (λ slot has gone. absurd (false≢true
      (sym (ap is_some gone) ∙ at_index.live slot (sym at_index.held ∙ has))))
      (λ slot handle has live. carry s t e c p (cmd.HFree 0) _ (freed slot has)) outcome
    where
      freed : (slot : Slot) → handle_register_of s c 0 ≡ Some slot
          → Does s (with_handle_register (without_handle s slot) c 0 None) c (index frees j m h)
          (cmd.HFree 0) reply.Done
      freed slot has =
          goes_on _ h reply.Done (eqb (j % ROUNDS_TO_COLLECTION) 0) refl
          (record {
            registers = λ d apart. refl;
            handle_registers = handle_register_beside s c 0 None;
            values = λ d id apart names own. refl;
            live = λ x mine l. subst IsSome
                (sym (get_left s.handles slot.0 x.0
                (λ (same : x.0 ≡ slot.0). mine
                (has ∙ ap (λ (k : ℕ). Some (record { 0 = k })) (sym same))))) l;
          })
          (handle_register_here s c small well None) (omega arith) refl
          (omega (arith, ap one_if_some (sym at_index.held ∙ has)))

  -- `collect`: what registers reference is kept with its value, no live slot is freed, and no object grows
  pub does_collect : LeadsOn collects None (cmd.Collect (j % 3))
  does_collect t e is at_index did =
      let scene = did.collects.scene in
      let same_rows : (d : ℕ) → handle_register_of t d 0 ≡ handle_register_of s d 0 =
      λ d. ap (λ (rows : List (List (Option Slot))). get_or (get_or rows d []) 0 None)
      did.collects.handle_registers in
      let live : (x : Slot) → IsSome (handle_at s x) → IsSome (handle_at t x) =
      λ x l. subst IsSome (sym (did.collects.handles x.0))
      (mapped_some (cleared scene.reach scene.kept) (get s.handles x.0) l) in
      subst (λ (r : Reply). Does s t c (index collects j m None) (cmd.Collect (j % 3)) r) (sym did.reply)
      (record {
        next = index news (j + 1) m None;
        rest = refl;
        frame = record {
          registers = λ d apart. ap (λ (rows : List (List (Option Id))). get_or (get_or rows d []) 0 None)
              did.collects.registers;
          handle_registers = λ d apart. same_rows d;
          values = λ d id apart names own.
              kept_value did id (has load_numbers s d 0 id well names) (register_named s d 0 id names);
          live = λ x mine l. live x l;
        };
        at_index = record {
          owns = tt;
          held = same_rows c ∙ at_index.held;
          empty = refl;
          live = λ x h. absurd (none-some x h);
        };
        room = omega (arith, no_more did);
        fresh = λ y h. absurd (none-some y h);
        returned = refl;
        made = refl;
        handles = refl;
      })
    where
      mapped_some : {A B : Type 0} (f : A → B) (o : Option A) → IsSome o → IsSome (option_map f o)
      mapped_some f None h = h
      mapped_some f (Some x) h = refl

      kept_value : (does : DoesCollect s e t (j % 3)) (id : Id) → IsSome (get s.objects id.0)
          → Contains (scene_of s).named (Some id) → (object_by_id t id).value ≡ (object_by_id s id).value
      kept_value does id there is_named =
          let scene = does.collects.scene in
          let whole = whole_scene load_numbers s well in
          let kept = keeps_root (λ (x : Id). x.0) (j % 3) (scene_of s) (scene_of t) does.report whole scene
          id (named is_named) in
          let after = object_after (λ (x : Id). x.0) (j % 3) (scene_of s) (scene_of t) does.report whole
          scene id (object_by_id s id) kept (some_at s id there) in
          ap (λ (o : Option (Object Id)).
          (unwrap_or {T = Object Id} o (record
          { fields = []; value = 0; generation = 0; registered = false })).value) after

      smaller : (k : ℕ) (b r : Bool) (o : Option (Object Id))
          → share size_of (cond b (option_map (survivor k r) o) None) ≤ share size_of o
      smaller k true r None = omega arith
      smaller k true r (Some object) = omega arith
      smaller k false r o = omega arith

      no_more : DoesCollect s e t (j % 3) → total_size t ≤ total_size s
      no_more does =
          let scene = does.collects.scene in
          sum-le size_of t.objects s.objects (λ q.
          let x : Id = record { 0 = q } in
          subst (λ o. share size_of o ≤ share size_of (get s.objects q)) (sym (scene.objects x))
          (smaller (j % 3) (scene.kept x) (scene.resurrected x) (get s.objects q)))
