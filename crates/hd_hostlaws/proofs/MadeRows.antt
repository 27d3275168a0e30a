-- An object that is made with its value and its fields is a `new`, a `val` and a `set` for each field in a
-- row, where its local is none of those that its fields get.
use Rattle.hd_model.proofs.Basics.{Bool, FinMap, IsOutcome, List, None, Numbers, Object, Option, Outcome, Some, State, StepOf, [], ap, arith, empty, false, fresh_object, get, get_or, get_or-set_other, get_or-set_same, identity_of, insert, last_serial, length, length-replicate, length-set, map, nat_cmp, nat_lt, object_by_id, refl, refuses, register_of, reply_with, set, subst, suc, sym, total_size, unwrap_or, with_object, with_pinned, with_register, with_serial, ℕ, ◌+◌, ◌<◌, ◌^◌, ◌∙◌, ◌∷◌, ◌≡◌, ◌≢◌, ◌≤◌}
use Rattle.std.proofs.lemmas.Option.{none-some, same_Some}
use Rattle.std.specs.Prelude.{Err, Ok}
use Rattle.hd_model.proofs.Outcomes.{on_field_cases, on_object_cases, test_cases}
use Rattle.hd_model.proofs.ReadAfterWrite.{cell_here, get_inserted}
use Rattle.hd_model.specs.{declared.data.Entry.Entry, declared.data.Id.Id, State.handle_register_of}
use Rattle.hd_model.specs.declared.command.Cmd.TheVariants as cmd
use Rattle.hd_model.specs.declared.data.Grown.TheVariants.{Zero}
use Rattle.hd_model.specs.declared.data.Refusal.TheVariants as refusal
use Rattle.hd_model.specs.declared.data.Reply.TheVariants as reply
use Rattle.hd_model.specs.declared.limits.TheConstants.{FIELDS, REGISTERS}
use Rattle.hd_store.proofs.StoreWords.{put_twice}
use Rattle.hd_store.specs.{Calls.IsSound, Calls.pointed, PinnedAddresses.Moves, Store.Machine}
use Rattle.hd_host.specs.{Calls.HasReplied, Changes.change_by, Changes.no_change, Inside.HasNoSlot, Steps.HasStepped, Turns.HasRow, View.HostView, Wide.MakesObject}
use Rattle.hd_host.proofs.SoundTurns.{stepped_goes, stepped_known, stepped_numbers}
use Rattle.hd_hostlaws.specs.Laws.{IsOtherLocal, MakingIsARow, in_context, making_replies, making_row, sets_from}
use Rattle.hd_hostlaws.proofs.{DoneCommands.done_entry, DoneCommands.done_plainly, DoneCommands.none_there, FirstHosts.reached_sound}

-- ---- fields that are set one after another

abbrev laid : (ℕ → Option Id) → ℕ → List ℕ → List (Option Id) → List (Option Id)
laid g i [] fields = fields
laid g i (s ∷ src) fields = laid g (suc i) src (set fields i (g s))

module _ (g : ℕ → Option Id) where
  laid_behind : (i : ℕ) (src : List ℕ) (x : Option Id) (fields : List (Option Id))
      → laid g (suc i) src (x ∷ fields) ≡ x ∷ laid g i src fields
  laid_behind i [] x fields = refl
  laid_behind i (s ∷ src) x fields = laid_behind (suc i) src x (set fields i (g s))

  laid_all : (src : List ℕ) (fields : List (Option Id)) → length src ≡ length fields
      → laid g 0 src fields ≡ map g src
  laid_all [] [] same = refl
  laid_all [] (x ∷ fields) same = absurd (omega (arith, same))
  laid_all (s ∷ src) [] same = absurd (omega (arith, same))
  laid_all (s ∷ src) (x ∷ fields) same =
      laid_behind 0 src (g s) fields ∙ ap (λ rest. g s ∷ rest) (laid_all src fields (omega (arith, same)))

-- ---- what a `new` leaves that was done

pub record HasNew (s t : State) (e : Entry) (dst fields : ℕ) (fin : Bool) (id : Id) : Type 0 where
  pub serial : ℕ
  pub after : t
      ≡ with_register (with_serial (with_object s id (fresh_object fields fin)) e.caller serial) e.caller dst
      (Some id)
  pub slot : e.slot ≡ None
  pub grown : e.grown ≡ Zero

module _ (n : Numbers) (s t : State) (e : Entry) (dst fields : ℕ) (fin : Bool) (id : Id)
    (says : e.reply ≡ reply.Object id) where
  abbrev IsNew : Outcome → Type 0
  IsNew r = IsOutcome e r t → HasNew s t e dst fields fin id

  full : (used size : ℕ) → IsNew (refuses (refusal.HeapFull used size) s)
  full used size o = absurd (let other = sym says ∙ o.reply in cc)

  made : (serial : ℕ) (next : Id)
      → IsNew (reply_with (reply.Object next) (with_register (with_serial
      (with_object s next (fresh_object fields fin)) e.caller serial) e.caller dst (Some next)))
  made serial next o =
      let said = sym says ∙ o.reply in
      let one : next ≡ id = cc said in
      record {
        serial = serial;
        after = o.after
            ∙ ap (λ x. with_register (with_serial (with_object s x (fresh_object fields fin)) e.caller serial)
            e.caller dst (Some x)) one;
        slot = o.slot;
        grown = o.grown;
      }

  has_new : StepOf n s e t (cmd.New dst fields fin) → HasNew s t e dst fields fin id
  has_new comes =
      let serial = last_serial s e.caller + 1 in
      let next = identity_of e.caller serial in
      test_cases IsNew (nat_lt n.heap (total_size s + (fields + 3)))
      (refuses (refusal.HeapFull (total_size s) (fields + 3)) s)
      (reply_with (reply.Object next) (with_register (with_serial (with_object s next (fresh_object fields fin))
      e.caller serial) e.caller dst (Some next)))
      (λ _. full (total_size s) (fields + 3)) (λ _. made serial next) comes.1

-- ---- the object that was made, and what is written into it

abbrev no_object : Object Id
no_object = record { fields = []; value = 0; generation = 0; registered = false }

module _ (u w : HostView) (context dst value : ℕ) (fin : Bool) (src : List ℕ) (id : Id) (sound : IsSound u.machine)
    (low : dst < REGISTERS) (did : MakesObject u context dst value fin src w id) where
  abbrev mid : Machine
  mid = did.made.machine

  abbrev e : Entry
  e = did.replied.entry

  stepped : HasStepped u.machine context None (cmd.New dst (length src) fin) did.made.machine did.replied.entry
  stepped = did.replied.done.stepped

  known : context < u.machine.numbers.callers
  known = stepped_known stepped

  known_then : context < mid.numbers.callers
  known_then = subst (λ (n : Numbers). context < n.callers) (sym (stepped_numbers stepped)) known

  goes : Moves (pointed u.machine context None) e stepped.after empty
  goes = stepped_goes stepped

  abbrev asked : State
  asked = with_pinned (pointed u.machine context None).state empty

  abbrev comes : State
  comes = with_pinned stepped.after.state goes.pinned

  new : HasNew asked comes e dst (length src) fin id
  new = has_new u.machine.numbers asked comes e dst (length src) fin id did.replied.reply
      (subst (StepOf u.machine.numbers asked e comes) stepped.command_is.1 goes.step.does)

  registers : mid.state.registers ≡ (with_register u.machine.state context dst (Some id)).registers
  registers =
      ap (λ (m : Machine). m.state.registers) stepped.new_is ∙ ap (λ (s : State). s.registers) new.after
      ∙ ap (λ c. (with_register u.machine.state c dst (Some id)).registers) stepped.command_is.0

  objects : mid.state.objects ≡ insert u.machine.state.objects id.0 (fresh_object (length src) fin)
  objects = ap (λ (m : Machine). m.state.objects) stepped.new_is ∙ ap (λ (s : State). s.objects) new.after

  no_slot : HasNoSlot mid.state context
  no_slot =
      ap (λ (m : Machine). handle_register_of m.state context 0) stepped.new_is
      ∙ none_there stepped.after.state.handle_registers context

  row : context < length u.machine.state.registers
  row = omega (arith, sound.well_formed.shape.registers, known)

  cell : dst < length (get_or u.machine.state.registers context [])
  cell = omega (arith, sound.well_formed.shape.each_registers context known, low)

  here : register_of mid.state context dst ≡ Some id
  here =
      ap (λ rows. get_or (get_or rows context []) dst None) registers
      ∙ cell_here u.machine.state.registers context dst (Some id) None row cell

  -- what other locals reference
  abbrev g : ℕ → Option Id
  g = register_of u.machine.state context

  beside : (s : ℕ) → s ≢ dst → register_of mid.state context s ≡ g s
  beside s other =
      ap (λ rows. get_or (get_or rows context []) s None) registers
      ∙ ap (λ cells. get_or cells s None)
      (get_or-set_same u.machine.state.registers context
      (set (get_or u.machine.state.registers context []) dst (Some id)) [] row)
      ∙ get_or-set_other (get_or u.machine.state.registers context []) dst s (Some id) None other

  abbrev fields : List (Option Id)
  fields = (object_by_id mid.state id).fields

  as_many : length src ≡ length fields
  as_many =
      sym (length-replicate {A = Option Id} (length src) None)
      ∙ ap (λ (o : Option (Object Id)). length (unwrap_or o no_object).fields)
      (sym (get_inserted u.machine.state.objects id.0 (fresh_object (length src) fin))
      ∙ ap (λ (m : FinMap nat_cmp (Object Id)). get m id.0) (sym objects))

  -- the object with its value and these fields, and the host with it
  abbrev object : List (Option Id) → Object Id
  object f = record (object_by_id mid.state id) { fields = f; value = value }

  abbrev filled : List (Option Id) → State
  filled f = with_object mid.state id (object f)

  abbrev host_with : List (Option Id) → HostView
  host_with f = record {
    machine = record mid { state = filled f; heap = w.machine.heap };
    stamps = did.made.stamps;
    last = no_change;
  }

  -- its value is written
  abbrev valued : State → Id → Outcome
  valued s x = reply_with reply.Done (with_object s x (record (object_by_id s x) { value = value }))

  value_does : (before : FinMap nat_cmp ℕ)
      → StepOf mid.numbers (with_pinned mid.state before)
      (done_entry did.made context (cmd.Val dst value) (filled fields) w.machine.heap)
      (with_pinned (filled fields) before) (cmd.Val dst value)
  value_does before =
      let entry = done_entry did.made context (cmd.Val dst value) (filled fields) w.machine.heap in
      let s = with_pinned mid.state before in
      let t = with_pinned (filled fields) before in
      on_object_cases (λ r. IsOutcome entry r t) s context dst (valued s)
      (λ none. absurd (none-some id (sym none ∙ here)))
      (λ x at. subst (λ y. IsOutcome entry (valued s y) t) (same_Some id x (sym here ∙ at))
      (record { reply = refl; slot = refl; grown = refl; after = refl }))

  value_replied : value < 2 ^ 64 → HasReplied did.made context None (cmd.Val dst value) reply.Done (host_with fields)
  value_replied small =
      done_plainly did.made context (cmd.Val dst value) (filled fields) w.machine.heap no_slot no_slot refl refl
      (low, small) known_then did.addresses value_does

  -- a field is written
  back : (f : List (Option Id)) → object_by_id (filled f) id ≡ object f
  back f = ap (λ (o : Option (Object Id)). unwrap_or o no_object) (get_inserted mid.state.objects id.0 (object f))

  abbrev with_field : State → ℕ → ℕ → Id → Outcome
  with_field s i from x =
      reply_with reply.Done (with_object s x (record (object_by_id s x) {
        fields = set (object_by_id s x).fields i (register_of s context from);
      }))

  module _ (i from : ℕ) (f : List (Option Id)) (within : i < length f) (other : from ≢ dst) where
    abbrev next : List (Option Id)
    next = set f i (g from)

    written : insert mid.state.objects id.0 (object next)
        ≡ insert (insert mid.state.objects id.0 (object f)) id.0 (record (object_by_id (filled f) id) {
          fields = set (object_by_id (filled f) id).fields i (register_of mid.state context from);
        })
    written =
        sym (put_twice mid.state.objects id.0 (object f) (object next))
        ∙ (λ j. insert (insert mid.state.objects id.0 (object f)) id.0 (record (sym (back f) j) {
          fields = set (sym (back f) j).fields i (sym (beside from other) j);
        }))

    field_does : (before : FinMap nat_cmp ℕ)
        → StepOf mid.numbers (with_pinned (filled f) before)
        (done_entry (host_with f) context (cmd.Set dst i from) (filled next) w.machine.heap)
        (with_pinned (filled next) before) (cmd.Set dst i from)
    field_does before =
        let entry = done_entry (host_with f) context (cmd.Set dst i from) (filled next) w.machine.heap in
        let s = with_pinned (filled f) before in
        let t = with_pinned (filled next) before in
        on_field_cases (λ r. IsOutcome entry r t) s context dst i (with_field s i from)
        (λ none. absurd (none-some id (sym none ∙ here)))
        (λ x at past. absurd
        (let high : length (object_by_id s id).fields ≤ i = subst (λ y. length (object_by_id s y).fields ≤ i)
        (sym (same_Some id x (sym here ∙ at))) past in
        let long = ap (λ (o : Object Id). length o.fields) (back f) in omega (arith, high, long, within)))
        (λ x at _. subst (λ y. IsOutcome entry (with_field s i from y) t) (same_Some id x (sym here ∙ at)) (record {
          reply = refl;
          slot = refl;
          grown = refl;
          after = λ j. record (with_pinned mid.state before) { objects = written j };
        }))

    field_replied : i < 256 → from < REGISTERS
        → HasReplied (host_with f) context None (cmd.Set dst i from) reply.Done (host_with next)
    field_replied few local =
        done_plainly (host_with f) context (cmd.Set dst i from) (filled next) w.machine.heap no_slot no_slot refl refl
        (low, few, local) known_then (λ x a at. at) field_does

  -- ---- in a row

  sets_row : (i : ℕ) (rest : List ℕ) (f : List (Option Id)) → i + length rest ≡ length f → length f ≤ FIELDS
      → ((k : ℕ) → k < length rest → IsOtherLocal dst (get_or rest k 0)) → w ≡ host_with (laid g i rest f)
      → HasRow (host_with f) (sets_from context dst i rest) (map (λ _. reply.Done) rest) w
  sets_row i [] f long few others is = is
  sets_row i (s ∷ rest) f long few others is =
      let first = others 0 (omega arith) in
      let same = length-set f i (g s) in (
        host_with (set f i (g s)),
        field_replied i s f (omega (arith, long)) first.other (omega (arith, long, few)) first.local,
        sets_row (suc i) rest (set f i (g s)) (omega (arith, long, same)) (omega (arith, few, same))
            (λ k less. others (suc k) (omega (arith, less))) is,
      )

  last_is : did.made.last ≡ no_change
  last_is = did.replied.done.last ∙ (λ j. change_by (new.slot j) (new.grown j))

  all_written : w ≡ host_with (laid g 0 src fields)
  all_written =
      did.written
      ∙ (λ j. record did.made {
        machine = record mid { state = filled (sym (laid_all g src fields as_many) j); heap = w.machine.heap };
        last = last_is j;
      })

  pub made_row : value < 2 ^ 64 → length src ≤ FIELDS
      → ((i : ℕ) → i < length src → IsOtherLocal dst (get_or src i 0))
      → HasRow u (making_row context dst value fin src) (making_replies id src) w
  made_row small few others = (
    did.made,
    did.replied,
    (
      host_with fields,
      value_replied small,
      sets_row 0 src fields (omega (arith, as_many)) (omega (arith, few, as_many)) others all_written,
    ),
  )

pub making_is_a_row : MakingIsARow
making_is_a_row u w context dst value fin src (Ok id) reached low small others did =
    made_row u w context dst value fin src id (reached_sound u reached).machine low did.1 small did.0.1 others
making_is_a_row u w context dst value fin src (Err fault) reached low small others did = (
  record {
    before = [];
    at = in_context context (cmd.New dst (length src) fin);
    rest = in_context context (cmd.Val dst value) ∷ sets_from context dst 0 src;
    row_is = refl;
    answers = [];
    after = u;
    done = refl;
    fails = did.1.0;
  },
  did.1.1,
)
