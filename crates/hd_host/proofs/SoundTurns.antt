-- A turn leaves the numbers of a host, and the host sound.
use Rattle.hd_model.proofs.Basics.{Bool, FinMap, IsOutcome, IsSome, IsWellFormed, List, Names, None, Numbers, Object, Option, Outcome, Some, State, StepOf, [], ap, empty, false, fresh_object, get, get_or, identity_of, insert, is_refused, is_some, last_serial, length, length-map, length-set, map, nat_cmp, nat_lt, object_by_id, refl, refuses, reply_with, register_of, subst, suc, sym, total_size, touched_by, true≢false, unwrap_or, with_object, with_pinned, with_register, with_serial, zero, ℕ, ◌*◌, ◌+◌, ◌<◌, ◌∙◌, ◌∷◌, ◌≡◌, ◌≤◌}
use Rattle.hd_model.proofs.AgedRuns.{nothing_at}
use Rattle.hd_model.proofs.Effects.{effect}
use Rattle.hd_model.proofs.MapEntries.{some_value}
use Rattle.hd_model.proofs.Outcomes.{test_cases}
use Rattle.hd_model.proofs.ReadAfterWrite.{get_inserted, still_some}
use Rattle.hd_model.proofs.StepFrames.{untouched_stays}
use Rattle.hd_model.proofs.StepWrites.{ObjectChange, field_is_set, goes, is_new, object_change, object_stays, registration_is_set, survives, value_is_set}
use Rattle.hd_model.proofs.WellFormedWrites.{names_more, object_keeps, register_keeps}
use Rattle.hd_model.specs.{declared.command.Cmd.Cmd, declared.data.Entry.Entry, declared.data.Id.Id, declared.data.Reply.Reply, declared.data.Slot.Slot}
use Rattle.hd_model.specs.declared.limits.TheConstants.{FIELDS, OLDEST, ROWS}
use Rattle.hd_model.specs.declared.command.Cmd.TheVariants as cmd
use Rattle.hd_model.specs.declared.data.Refusal.TheVariants as refusal
use Rattle.hd_model.specs.declared.data.Reply.TheVariants as reply
use Rattle.hd_model.specs.Text.{is_collect}
use Rattle.hd_store.proofs.ClearedRegisters.{clears-none, clears-suc}
use Rattle.hd_store.proofs.SoundCalls.{sound-after, sound-pointed}
use Rattle.hd_store.specs.{Calls.IsSound, Calls.pointed, Offers.HasLimits, PinnedAddresses.Moves, Store.Machine}
use Rattle.hd_store.specs.Hosted.{with_cleared}
use Rattle.hd_host.specs.Handles.{stamp_of}
use Rattle.hd_host.specs.Steps.{HasStepped}
use Rattle.hd_host.specs.Turns.{none as no_turn}
use Rattle.hd_host.specs.Turns.{HostStep, HostTurn, IsRow, IsSoundHost, MakesFilled, OthersKeepObjects, TrimsRow, TurnsKeepSound, TurnsOfOthers, alone, clears, frees, gives_back, goes_on, makes, more, next_kind, no_kinds, one, one_more, passes, stays, steps, trims}
use Rattle.hd_host.specs.View.{HostView, state_in}
use Rattle.hd_host.proofs.OtherCallers.{locals_are_as_left}
use Rattle.hd_host.proofs.PairTrimmed.{spare_pinned}
use Rattle.hd_host.proofs.TrimTurns.{OneTrim, one_trim, trim_kept, trim_ran, trim_stepped}
use Rattle.hd_store.proofs.SpareBlocks.{pair_keeps}
use Rattle.hd_store.specs.Spare.{without_pair}
use Rattle.hd_model.specs.declared.data.Kind.{Kind}

module _ {old new : Machine} {context : ℕ} {slot : Option Slot} {command : Cmd} {e : Entry}
    (stepped : HasStepped old context slot command new e) where
  pub stepped_goes : Moves (pointed old context slot) e stepped.after empty
  stepped_goes = stepped.effect empty (λ y at found. absurd (nothing_at y at found))

  -- the context is one of the host's
  pub stepped_known : context < old.numbers.callers
  stepped_known = subst (λ c. c < old.numbers.callers) stepped.command_is.0 stepped_goes.step.caller

  pub stepped_numbers : new.numbers ≡ old.numbers
  stepped_numbers = ap (λ (m : Machine). m.numbers) stepped.new_is ∙ stepped_goes.numbers

  pub stepped_sound : IsSound old → IsSound new
  stepped_sound sound =
      let asked = sound-pointed old context 0 slot sound stepped_known in
      let after = sound-after (pointed old context slot) stepped.after e asked stepped.effect in
      subst IsSound (sym stepped.new_is) (sound-pointed stepped.after context 0 None after
      (subst (λ (n : Numbers). context < n.callers) (sym stepped_goes.numbers) stepped_known))

-- a machine with these numbers and this state
sound_as : (m k : Machine) → k.numbers ≡ m.numbers → state_in k ≡ state_in m → IsSound m → IsSound k
sound_as m k numbers state sound = record {
  limits = subst HasLimits (sym numbers) sound.limits;
  well_formed = subst (λ (n : Numbers). IsWellFormed n (state_in k)) (sym numbers)
      (subst (IsWellFormed m.numbers) (sym state) sound.well_formed);
}

-- ---- numbers

row_numbers : {each by : ℕ} {u w : HostView} → IsRow each by u w → w.machine.numbers ≡ u.machine.numbers
row_numbers (one did) = stepped_numbers did.done.stepped
row_numbers (more did rest) = row_numbers rest ∙ stepped_numbers did.done.stepped

step_numbers : {each by : ℕ} {u w : HostView} → HostStep each by u w → w.machine.numbers ≡ u.machine.numbers
step_numbers (passes to dst from src own has left) = left.numbers
step_numbers (clears context first count own left) = left.numbers
step_numbers (makes did) = did.filled.numbers ∙ stepped_numbers did.replied.done.stepped
step_numbers (gives_back kind did) = did.left.numbers

trim_numbers : {u w : HostView} → OneTrim 0 0 u w → w.machine.numbers ≡ u.machine.numbers
trim_numbers (trim_kept same) = same.numbers
trim_numbers (trim_ran row) = row_numbers row
trim_numbers (trim_stepped step) = step_numbers step

pub trims_numbers : {u w : HostView} {kinds : List Kind} → TrimsRow kinds u w
    → w.machine.numbers ≡ u.machine.numbers
trims_numbers no_kinds = refl
trims_numbers (one_more {kind = kind} given some did rest) =
    trims_numbers rest ∙ trim_numbers (one_trim 0 0 kind _ did)
trims_numbers (next_kind {kind = kind} did rest) = trims_numbers rest ∙ trim_numbers (one_trim 0 0 kind _ did)

-- no turn changes them
pub turn_numbers : {each by : ℕ} {u w : HostView} → HostTurn each by u w
    → w.machine.numbers ≡ u.machine.numbers
turn_numbers (stays same) = same.numbers
turn_numbers (steps row) = row_numbers row
turn_numbers (frees handle did) = stepped_numbers did.stepped
turn_numbers (alone step) = step_numbers step
turn_numbers (trims row) = trims_numbers row

-- ---- stamps

pub row_stamps : {each by : ℕ} {u w : HostView} → IsRow each by u w → w.stamps ≡ u.stamps
row_stamps (one did) = did.done.stamps
row_stamps (more did rest) = row_stamps rest ∙ did.done.stamps

pub step_stamps : {each by : ℕ} {u w : HostView} → HostStep each by u w → w.stamps ≡ u.stamps
step_stamps (passes to dst from src own has left) = left.stamps
step_stamps (clears context first count own left) = left.stamps
step_stamps (makes did) = did.filled.stamps ∙ did.replied.done.stamps
step_stamps (gives_back kind did) = did.left.stamps

trim_stamps : {u w : HostView} → OneTrim 0 0 u w → w.stamps ≡ u.stamps
trim_stamps (trim_kept same) = same.stamps
trim_stamps (trim_ran row) = row_stamps row
trim_stamps (trim_stepped step) = step_stamps step

pub trims_stamps : {u w : HostView} {kinds : List Kind} → TrimsRow kinds u w → w.stamps ≡ u.stamps
trims_stamps no_kinds = refl
trims_stamps (one_more {kind = kind} given some did rest) = trims_stamps rest ∙ trim_stamps (one_trim 0 0 kind _ did)
trims_stamps (next_kind {kind = kind} did rest) = trims_stamps rest ∙ trim_stamps (one_trim 0 0 kind _ did)

-- ---- handles

-- a command that makes, frees and sets none leaves them
stepped_handles : {old new : Machine} {context : ℕ} {slot : Option Slot} {command : Cmd} {e : Entry}
    → HasStepped old context slot command new e → (touched_by command).handles ≡ false
    → new.state.handles ≡ old.state.handles
stepped_handles {old = old} {e = e} stepped untouched =
    let moved = stepped_goes stepped in
    ap (λ (m : Machine). m.state.handles) stepped.new_is
    ∙ (untouched_stays old.numbers _ _ e moved.step).handles
    (ap (λ (c : Cmd). (touched_by c).handles) stepped.command_is.1 ∙ untouched)

-- and so does a step of a host alone
pub step_handles : {each by : ℕ} {u w : HostView} → HostStep each by u w
    → w.machine.state.handles ≡ u.machine.state.handles
step_handles (passes to dst from src own has left) = ap (λ (s : State). s.handles) left.state
step_handles (clears context first count own left) = ap (λ (s : State). s.handles) left.state
step_handles (makes did) =
    ap (λ (s : State). s.handles) did.filled.state ∙ stepped_handles did.replied.done.stepped refl
step_handles (gives_back kind did) = ap (λ (s : State). s.handles) did.left.state

-- as many as there were
turn_stamped : {each by : ℕ} {u w : HostView} → HostTurn each by u w → length w.stamps ≡ length u.stamps
turn_stamped (stays same) = ap length same.stamps
turn_stamped (steps row) = ap length (row_stamps row)
turn_stamped {u = u} (frees handle did) =
    ap length did.stamps ∙ length-set u.stamps did.slot.0 (stamp_of u did.slot + 1)
turn_stamped (alone step) = ap length (step_stamps step)
turn_stamped (trims row) = ap length (trims_stamps row)

-- ---- states

cleared_keeps : (n : Numbers) (s : State) (context first count : ℕ) → context < n.callers
    → IsWellFormed n (with_pinned s empty)
    → IsWellFormed n (with_pinned (with_cleared s context first count) empty)
cleared_keeps n s context first zero known w =
    subst (λ (x : State). IsWellFormed n (with_pinned x empty)) (sym (clears-none s context first)) w
cleared_keeps n s context first (suc count) known w =
    subst (λ (x : State). IsWellFormed n (with_pinned x empty)) (clears-suc s context first count)
    (register_keeps n (with_pinned (with_cleared s context first count) empty)
    (cleared_keeps n s context first count known w) context (first + count) None known tt)

-- what each of a list gives references an object, and so does each field of an object with these fields
fields_named : (t : State) (f : ℕ → Option Id) → ((x : ℕ) → Names t (f x)) → (src : List ℕ) (i : ℕ)
    → Names t (get_or (map f src) i None)
fields_named t f named [] i = tt
fields_named t f named (x ∷ src) zero = named x
fields_named t f named (x ∷ src) (suc i) = fields_named t f named src i

-- an object goes by collections alone
still_there : {s : State} {e : Entry} {id : Id} {c : Cmd} {o : Option (Object Id)} → ObjectChange s e id c o
    → is_collect c ≡ false → IsSome (get s.objects id.0) → IsSome o
still_there object_stays apart there = there
still_there (is_new small gone same) apart there = refl
still_there (field_is_set f l p) apart there = refl
still_there (value_is_set f p) apart there = refl
still_there (registration_is_set registered has) apart there = refl
still_there (survives resurrected object is) apart there = refl
still_there goes apart there = absurd (true≢false apart)

-- the identity in a reply
abbrev object_in : Id → Reply → Id
object_in other (reply.Object id) = id
object_in other _ = other

-- an object that was made is there
module _ (n : Numbers) (s : State) (e : Entry) (t : State) (d fields : ℕ) (fin : Bool) (id : Id)
    (says : e.reply ≡ reply.Object id) where
  abbrev IsThere : Outcome → Type 0
  IsThere r = IsOutcome e r t → IsSome (get t.objects id.0)

  full : (used size : ℕ) → IsThere (refuses (refusal.HeapFull used size) s)
  full used size o =
      let clash : reply.Object id ≡ reply.Refused (refusal.HeapFull used size) = sym says ∙ o.reply in
      absurd (true≢false (sym (ap is_refused clash)))

  fresh : (next : Id) (object : Object Id) (after : State) → after.objects ≡ insert s.objects next.0 object
      → IsThere (reply_with (reply.Object next) after)
  fresh next object after is o =
      let one : id ≡ next = ap (object_in next) (sym says ∙ o.reply) in
      subst (λ (x : State). IsSome (get x.objects id.0)) (sym o.after)
      (subst (λ (objects : FinMap nat_cmp (Object Id)). IsSome (get objects id.0)) (sym is)
      (subst (λ (x : Id). IsSome (get (insert s.objects next.0 object) x.0)) (sym one)
      (ap is_some (get_inserted s.objects next.0 object))))

  made_there : StepOf n s e t (cmd.New d fields fin) → IsSome (get t.objects id.0)
  made_there comes =
      let serial = last_serial s e.caller + 1 in
      let next = identity_of e.caller serial in
      let object = fresh_object fields fin in
      let after = with_register (with_serial (with_object s next object) e.caller serial) e.caller d
      (Some next) in
      test_cases IsThere (nat_lt n.heap (total_size s + (fields + 3)))
      (refuses (refusal.HeapFull (total_size s) (fields + 3)) s) (reply_with (reply.Object next) after)
      (λ _. full (total_size s) (fields + 3)) (λ _. fresh next object after refl) comes.1

module _ {each by : ℕ} {u w : HostView} (sound : IsSound u.machine) (did : MakesFilled each by u w) where
  abbrev asked : State
  asked = with_pinned (pointed u.machine did.context None).state empty

  abbrev after : State
  after = with_pinned did.replied.done.stepped.after.state (stepped_goes did.replied.done.stepped).pinned

  -- what was there stays, and the object is there
  still : (id : Id) → IsSome (get u.machine.state.objects id.0)
      → IsSome (get did.made.machine.state.objects id.0)
  still id there =
      let stepped = did.replied.done.stepped in
      let e = did.replied.entry in
      let well = (sound-pointed u.machine did.context 0 None sound (stepped_known stepped)).well_formed in
      subst (λ (m : Machine). IsSome (get m.state.objects id.0)) (sym stepped.new_is)
      (still_there (object_change u.machine.numbers asked well e e.cmd after id
      (effect u.machine.numbers asked e after (stepped_goes stepped).step))
      (ap is_collect stepped.command_is.1) there)

  there : IsSome (get did.made.machine.state.objects did.id.0)
  there =
      let stepped = did.replied.done.stepped in
      let e = did.replied.entry in
      subst (λ (m : Machine). IsSome (get m.state.objects did.id.0)) (sym stepped.new_is)
      (made_there u.machine.numbers asked e after did.dst (length did.src) did.registered did.id
      did.replied.reply
      (subst (StepOf u.machine.numbers asked e after) stepped.command_is.1 (stepped_goes stepped).step.does))

  made : IsSound did.made.machine
  made = stepped_sound did.replied.done.stepped sound

  abbrev before : State
  before = state_in did.made.machine

  abbrev was : Object Id
  was = object_by_id did.made.machine.state did.id

  held : (x : Object Id) × (get before.objects did.id.0 ≡ Some x)
  held = some_value (get before.objects did.id.0) there

  -- it is as young as it was
  young : was.generation ≤ OLDEST
  young = subst (λ (o : Option (Object Id)).
      (unwrap_or o (record { fields = []; value = 0; generation = 0; registered = false })).generation ≤
      OLDEST)
      (sym held.1) (made.well_formed.objects.generations did.id.0 held.0 held.1)

  abbrev filled : Object Id
  filled = record was { fields = map (register_of u.machine.state did.context) did.src; value = did.value }

  named : (x : ℕ) → Names before (register_of u.machine.state did.context x)
  named x = names_more (state_in u.machine) before (λ id has. still (record { 0 = id }) has)
      (register_of u.machine.state did.context x) (sound.well_formed.names.registers did.context x)

  filled_sound : IsSound w.machine
  filled_sound =
      let well = made.well_formed in
      sound_as (record did.made.machine { state = with_object did.made.machine.state did.id filled })
      w.machine
      did.filled.numbers did.filled.state (record {
        limits = made.limits;
        well_formed = object_keeps did.made.machine.numbers before well did.id filled
            (fields_named (with_object before did.id filled) (register_of u.machine.state did.context)
            (λ x. names_more before (with_object before did.id filled)
            (still_some before.objects did.id.0 filled)
            (register_of u.machine.state did.context x) (named x)) did.src)
            (subst (λ l. l ≤ FIELDS) (sym (length-map did.src (register_of u.machine.state did.context)))
            did.few)
            young (well.serials.from_one did.id.0 there) (well.serials.to_last did.id.0 there);
      })

step_sound : {each by : ℕ} {u w : HostView} → IsSound u.machine → HostStep each by u w → IsSound w.machine
step_sound {u = u} {w = w} sound (passes to dst from src own has left) =
    sound_as (record u.machine {
      state = with_register u.machine.state to dst (register_of u.machine.state from src);
    }) w.machine left.numbers left.state (record {
      limits = sound.limits;
      well_formed = register_keeps u.machine.numbers (state_in u.machine) sound.well_formed to dst
          (register_of u.machine.state from src) own.1 (sound.well_formed.names.registers from src);
    })
step_sound {u = u} {w = w} sound (clears context first count own left) =
    sound_as (record u.machine { state = with_cleared u.machine.state context first count }) w.machine
    left.numbers
    left.state (record {
      limits = sound.limits;
      well_formed =
          cleared_keeps u.machine.numbers u.machine.state context first count own.1 sound.well_formed;
    })
step_sound sound (makes did) = filled_sound sound did
step_sound {u = u} {w = w} sound (gives_back kind did) =
    sound_as (record u.machine { state = without_pair u.machine.state did.block did.extra }) w.machine
    did.left.numbers did.left.state (record {
      limits = sound.limits;
      well_formed = pair_keeps u.machine.numbers (state_in u.machine) sound.well_formed kind did.block did.extra
          (spare_pinned u.machine.state empty kind did.block did.least.spare) did.extra_is;
    })

row_sound : {each by : ℕ} {u w : HostView} → IsSound u.machine → IsRow each by u w → IsSound w.machine
row_sound sound (one did) = stepped_sound did.done.stepped sound
row_sound sound (more did rest) = row_sound (stepped_sound did.done.stepped sound) rest

trim_sound : {u w : HostView} → IsSound u.machine → OneTrim 0 0 u w → IsSound w.machine
trim_sound {u = u} {w = w} sound (trim_kept same) = sound_as u.machine w.machine same.numbers same.state sound
trim_sound sound (trim_ran row) = row_sound sound row
trim_sound sound (trim_stepped step) = step_sound sound step

trims_sound : {u w : HostView} {kinds : List Kind} → IsSound u.machine → TrimsRow kinds u w → IsSound w.machine
trims_sound sound no_kinds = sound
trims_sound sound (one_more {kind = kind} given some did rest) =
    trims_sound (trim_sound sound (one_trim 0 0 kind _ did)) rest
trims_sound sound (next_kind {kind = kind} did rest) = trims_sound (trim_sound sound (one_trim 0 0 kind _ did)) rest

machine_sound : {each by : ℕ} {u w : HostView} → IsSound u.machine → HostTurn each by u w → IsSound w.machine
machine_sound {u = u} {w = w} sound (stays same) = sound_as u.machine w.machine same.numbers same.state sound
machine_sound sound (steps row) = row_sound sound row
machine_sound sound (frees handle did) = stepped_sound did.stepped sound
machine_sound sound (alone step) = step_sound sound step
machine_sound sound (trims row) = trims_sound sound row

-- a turn leaves a sound host sound
pub turns_keep_sound : TurnsKeepSound
turns_keep_sound each by u w sound turn = record {
  machine = machine_sound sound.machine turn;
  stamps = turn_stamped turn ∙ sound.stamps
      ∙ ap (λ (n : Numbers). ROWS * (n.blocks + 1)) (sym (turn_numbers turn));
}

others_sound : (each number : ℕ) (u w : HostView) → IsSoundHost u → TurnsOfOthers each number u w
    → IsSoundHost w
others_sound each number u w sound no_turn = sound
others_sound each number u w sound (goes_on {v = v} by other before turn) =
    turns_keep_sound each by v w (others_sound each number u v sound before) turn

-- so what a local of an end references is there whatever others do
pub others_keep_objects : OthersKeepObjects
others_keep_objects each number u w sound turns c d id mine is =
    subst (Names w.machine.state) (locals_are_as_left each number u w turns c d mine ∙ is)
    ((others_sound each number u w sound turns).machine.well_formed.names.registers c d)
