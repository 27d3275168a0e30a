-- A call about the handle in a live slot is the command by a handle register that has the slot.
use Rattle.hd_store.proofs.StoreWords.{Addr, Back, Bool, Cmd, Done, Entry, Err, FinMap, Grown, Handle, HasRun, Id, IfSome, IsFree, IsOffer, IsOverHeap, IsPlainStep, IsSome, HasAddress, IsFreeAddress, IsValid, KeepsPinned, Kind, List, Machine, Make, MatchOption, MatchResult, None, Ok, One, Option, Outcome, Refusal, Result, Slot, Some, State, aged_by, ap, arith, asks_of, count_of, cond, done_of, entry_by, false, false≢true, get, handle_at, handle_register_of, if◌then◌else◌, inl, inr, is_kind, is_some, kind_of, length, name_in, nat_cmp, pinned_in, length-set, get_or, no_room, option_map, option_map_or, refl, refuses, register_of, reply_with, secondary_of, seen_by, set, suc, sym, touched_by, true, Two, with_pinned, Zero, zero, [], ℕ, ◌&&◌, same_Some, subst, ◌+◌, ◌-◌, ◌<◌, ◌^◌, ◌∙◌, ◌∷◌, ◌≡◌}
use Rattle.std.specs.Prelude.{◌==◌}
use Rattle.hd_model.specs.State.{secondary, strength, with_handle, with_handle_register, with_register, without_handle, without_secondary}
use Rattle.hd_model.specs.Command.{free_handle, get_secondary, get_target_of, load_reply, lower_count, on_handle, raise_count, set_secondary, set_strength, set_target, with_count}
use Rattle.hd_model.specs.Command.{free_handle_of, get_secondary_of, lower_count_of, raise_count_of, set_secondary_of, set_strength_of, set_target_of}
use Rattle.hd_model.specs.declared.data.Strength.{Strength}
use Rattle.hd_model.specs.declared.command.Cmd.TheVariants as cmd
use Rattle.hd_model.specs.declared.data.Kind.TheVariants as kind
use Rattle.hd_model.specs.declared.data.Refusal.TheVariants as refusal
use Rattle.hd_model.specs.declared.data.Reply.TheVariants as reply
use Rattle.hd_model.specs.Step.{TakesWay, decided, makes_handle, way_of, with_growth}
use Rattle.hd_model.specs.Aging.{is_refused, lowered_at, lowered_to}
use Rattle.hd_model.proofs.ReadAfterWrite.{cell_here}
use Rattle.hd_commands.specs.{Counts.MayCountUp, Seen.Seen}
use Rattle.hd_commands.specs.Done.{ComesTo, ComesToAged, replied, done_freeing, done_making, done_with}
use Rattle.hd_commands.specs.Handles.{pinned_of}
use Rattle.hd_store.specs.Calls.{HasCalled, HasReturnedOf, IsSound, KeepsFirst, StaysWithin, pointed, pointed_made}
use Rattle.hd_model.specs.declared.limits.TheConstants.{REGISTERS}
use Rattle.hd_store.proofs.{AddressSteps.addr-refused, AddressSteps.addr-replies, SoundCalls.sound-pointed, ValueCalls.called, ValueCalls.endless, ValueCalls.kept-called, ValueCalls.known-in, ValueCalls.run-called, ValueCalls.run-sound, ValueCalls.sound-on, ValueCalls.unaged, ValueCalls.unoffered}

-- ---- a slot in a handle register is no part of what makes a store sound

abbrev Rows : Type 0
Rows = List (List (Option Slot))

rows-keep : (rows : Rows) (c d i : ℕ) (v : Option Slot)
    → length (get_or (set rows c (set (get_or rows c []) d v)) i []) ≡ length (get_or rows i [])
rows-keep [] c d i v = refl
rows-keep (row ∷ rows) zero d zero v = length-set row d v
rows-keep (row ∷ rows) zero d (suc i) v = refl
rows-keep (row ∷ rows) (suc c) d zero v = refl
rows-keep (row ∷ rows) (suc c) d (suc i) v = rows-keep rows c d i v

pub sound-unpointed : (k : Machine) (caller : ℕ) (slot : Option Slot) → IsSound (pointed k caller slot)
    → IsSound k
sound-unpointed k caller slot sound =
    let w = sound.well_formed in
    let rows = k.state.handle_registers in
    record {
      limits = sound.limits;
      well_formed = record {
        shape = record {
          registers = w.shape.registers;
          each_registers = w.shape.each_registers;
          handle_registers = sym (length-set rows caller _) ∙ w.shape.handle_registers;
          each_handle_registers = λ i low.
              sym (rows-keep rows caller 0 i slot) ∙ w.shape.each_handle_registers i low;
          statics = w.shape.statics;
          board = w.shape.board;
          serials = w.shape.serials;
        };
        names = record {
          fields = w.names.fields;
          registers = w.names.registers;
          statics = w.names.statics;
          targets = w.names.targets;
          secondaries = w.names.secondaries;
          queue = w.names.queue;
          pinned = w.names.pinned;
          keys = w.names.keys;
          values = w.names.values;
        };
        objects = record {
          sizes = w.objects.sizes;
          generations = w.objects.generations;
          queued_once = w.objects.queued_once;
        };
        serials = record {
          from_one = w.serials.from_one;
          to_last = w.serials.to_last;
          limit = w.serials.limit;
        };
        handles = record {
          kinds = w.handles.kinds;
          extras = w.handles.extras;
          dependents = w.handles.dependents;
          blocks = w.handles.blocks;
        };
        weak = record { kinds = w.weak.kinds; apart = w.weak.apart; once = w.weak.once };
      };
    }

-- a slot in a handle register makes no difference to the heap and the table
over-pointed : (m : Machine) (caller : ℕ) (slot : Option Slot) → IsOverHeap m
    → IsOverHeap (pointed m caller slot)
over-pointed m caller slot over = record {
  names = over.names;
  heap = record {
    objects = over.heap.objects;
    identities = over.heap.identities;
    pinned = over.heap.pinned;
    cards = over.heap.cards;
  };
  table = record { rows = over.table.rows; uses = over.table.uses };
}

-- a slot that is written and then another is the other alone
cell-twice : (row : List (Option Slot)) (d : ℕ) (u v : Option Slot) → set (set row d u) d v ≡ set row d v
cell-twice [] d u v = refl
cell-twice (slot ∷ row) zero u v = refl
cell-twice (slot ∷ row) (suc d) u v = ap (λ rest. slot ∷ rest) (cell-twice row d u v)

rows-twice : (rows : Rows) (c d : ℕ) (u v : Option Slot)
    → set (set rows c (set (get_or rows c []) d u)) c
    (set (get_or (set rows c (set (get_or rows c []) d u)) c []) d v)
    ≡ set rows c (set (get_or rows c []) d v)
rows-twice [] c d u v = refl
rows-twice (row ∷ rows) zero d u v = ap (λ first. first ∷ rows) (cell-twice row d u v)
rows-twice (row ∷ rows) (suc c) d u v = ap (λ rest. row ∷ rest) (rows-twice rows c d u v)

-- ---- a command on a handle, with the slot in the first handle register

-- an outcome with a slot in the first handle register after it
abbrev pub pointed_outcome : ℕ → Slot → Outcome → Outcome
pointed_outcome caller slot w = record w { after = with_handle_register w.after caller 0 (Some slot) }

-- an outcome that leaves the handle registers of a state
abbrev pub KeepsRegisters : State → Outcome → Type 0
KeepsRegisters s w = w.after.handle_registers ≡ s.handle_registers

pub kept-either : (s : State) (b : Bool) (x y : Outcome) → KeepsRegisters s x → KeepsRegisters s y
    → KeepsRegisters s (if b then x else y)
kept-either s true x y is other = is
kept-either s false x y is other = other

pub kept-target : (s : State) (o : Option Id) (x y : Outcome) → KeepsRegisters s x → KeepsRegisters s y
    → KeepsRegisters s (option_map_or (λ _. x) o y)
kept-target s None x y is other = other
kept-target s (Some id) x y is other = is

pub target-registers : (s : State) (caller t : ℕ) (slot : Slot) (handle : Handle Id)
    → KeepsRegisters s (set_target_of s caller t slot handle)
target-registers s caller t slot handle =
    kept-either s (is_kind handle.kind kind.Dependent && is_some (register_of s caller t)) _ _ refl refl

pub secondary-registers : (s : State) (caller r : ℕ) (slot : Slot) (handle : Handle Id)
    → KeepsRegisters s (set_secondary_of s caller r slot handle)
secondary-registers s caller r slot handle =
    kept-either s (is_kind handle.kind kind.Dependent) _ _ (kept-target s handle.target _ _ refl refl) refl

pub load-registers : (s : State) (caller d : ℕ) (slot : Slot) (handle : Handle Id)
    → KeepsRegisters s (get_secondary_of s caller d slot handle)
load-registers s caller d slot handle = kept-either s (is_kind handle.kind kind.Dependent) _ _ refl refl

pub strength-registers : (s : State) (given : Strength) (slot : Slot) (handle : Handle Id)
    → KeepsRegisters s (set_strength_of s given slot handle)
strength-registers s given slot handle = kept-either s (is_kind handle.kind kind.Variable) _ _ refl refl

pub raise-registers : (s : State) (slot : Slot) (handle : Handle Id)
    → KeepsRegisters s (raise_count_of s slot handle)
raise-registers s slot handle = kept-either s (is_kind handle.kind kind.Counted) _ _ refl refl

pub lower-registers : (s : State) (slot : Slot) (handle : Handle Id)
    → KeepsRegisters s (lower_count_of s slot handle)
lower-registers s slot handle =
    kept-either s (is_kind handle.kind kind.Counted) _ _
    (kept-either s (count_of handle.extra == 0) _ _ refl refl) refl

module _ (caller : ℕ) (slot : Slot) where
  by_test : (b : Bool) (x y : Outcome)
      → (if b then pointed_outcome caller slot x else pointed_outcome caller slot y)
      ≡ pointed_outcome caller slot (if b then x else y)
  by_test true x y = refl
  by_test false x y = refl

  by_target : (o : Option Id) (x y : Outcome)
      → option_map_or (λ _. pointed_outcome caller slot x) o (pointed_outcome caller slot y)
      ≡ pointed_outcome caller slot (option_map_or (λ _. x) o y)
  by_target None x y = refl
  by_target (Some id) x y = refl

module _ {m : Machine} {caller : ℕ} (slot : Slot) {handle : Handle Id} (sound : IsSound m)
    (known : caller < m.numbers.callers) (live : handle_at m.state slot ≡ Some handle) where
  abbrev asking : State
  asking = (pointed m caller (Some slot)).state

  pub named : handle_register_of asking caller 0 ≡ Some slot
  named =
      let shape = sound.well_formed.shape in
      cell_here m.state.handle_registers caller 0 (Some slot) None
      (omega (arith, known, shape.handle_registers))
      (omega (arith, shape.each_handle_registers caller known))

  -- a command on a handle finds the one in the slot
  pub found : (act : Slot → Handle Id → Outcome) → on_handle asking caller 0 act ≡ act slot handle
  found act =
      ap (λ o. option_map_or (λ at. option_map_or (act at) (handle_at m.state at)
      (refuses refusal.NotLive asking))
      o (refuses refusal.EmptyRegister asking)) named
      ∙ ap (λ o. option_map_or (act slot) o (refuses refusal.NotLive asking)) live

  abbrev up_register : Cmd → ℕ
  up_register (cmd.HUp h) = h
  up_register c = 0

  -- the count of the handle may rise where it is below its end
  pub counts-up : ((h : Handle Id) → handle_at m.state slot ≡ Some h → count_of h.extra + 1 < 2 ^ 32)
      → (h : ℕ) → cmd.HUp 0 ≡ cmd.HUp h → MayCountUp asking caller h
  counts-up small h same at held names here =
      let first = subst (λ x. handle_register_of asking caller x ≡ Some at) (sym (ap up_register same))
      names in
      small held (subst (λ x. handle_at m.state x ≡ Some held) (same_Some at slot (sym first ∙ named)) here)

  pub target_set : (t : ℕ) → set_target asking caller 0 t
      ≡ pointed_outcome caller slot (set_target_of m.state caller t slot handle)
  target_set t =
      found (set_target_of asking caller t)
      ∙ by_test caller slot (is_kind handle.kind kind.Dependent && is_some (register_of m.state caller t))
      (refuses refusal.WrongKind m.state) (reply_with reply.Done (with_handle m.state slot (record handle {
        target = register_of m.state caller t;
        extra = without_secondary handle.extra;
      })))

  pub secondary_set : (r : ℕ) → set_secondary asking caller 0 r
      ≡ pointed_outcome caller slot (set_secondary_of m.state caller r slot handle)
  secondary_set r =
      let done = reply_with reply.Done
      (with_handle m.state slot (record handle { extra = secondary (register_of m.state caller r) })) in
      let none = refuses refusal.Null m.state in
      let other = refuses refusal.WrongKind m.state in
      let is_dependent = is_kind handle.kind kind.Dependent in
      found (set_secondary_of asking caller r)
      ∙ ap (λ x. if is_dependent then x else pointed_outcome caller slot other)
      (by_target caller slot handle.target done none)
      ∙ by_test caller slot is_dependent (option_map_or (λ _. done) handle.target none) other

  pub secondary_got : (d : ℕ) → get_secondary asking caller d 0
      ≡ pointed_outcome caller slot (get_secondary_of m.state caller d slot handle)
  secondary_got d =
      let v = secondary_of handle.extra in
      found (get_secondary_of asking caller d)
      ∙ by_test caller slot (is_kind handle.kind kind.Dependent)
      (reply_with (load_reply v) (with_register m.state caller d v)) (refuses refusal.WrongKind m.state)

  pub strength_set : (given : Strength) → set_strength asking caller 0 given
      ≡ pointed_outcome caller slot (set_strength_of m.state given slot handle)
  strength_set given =
      found (set_strength_of asking given)
      ∙ by_test caller slot (is_kind handle.kind kind.Variable)
      (reply_with reply.Done (with_handle m.state slot (record handle { extra = strength given })))
      (refuses refusal.WrongKind m.state)

  pub count_raised : raise_count asking caller 0
      ≡ pointed_outcome caller slot (raise_count_of m.state slot handle)
  count_raised =
      found (raise_count_of asking)
      ∙ by_test caller slot (is_kind handle.kind kind.Counted)
      (with_count m.state slot handle (count_of handle.extra + 1)) (refuses refusal.WrongKind m.state)

  pub count_lowered : lower_count asking caller 0
      ≡ pointed_outcome caller slot (lower_count_of m.state slot handle)
  count_lowered =
      let none = refuses refusal.CountZero m.state in
      let less = with_count m.state slot handle (count_of handle.extra - 1) in
      let other = refuses refusal.WrongKind m.state in
      let is_counted = is_kind handle.kind kind.Counted in
      found (lower_count_of asking)
      ∙ ap (λ x. if is_counted then x else pointed_outcome caller slot other)
      (by_test caller slot (count_of handle.extra == 0) none less)
      ∙ by_test caller slot is_counted (if count_of handle.extra == 0 then none else less) other

-- ---- the ages of a stored target or secondary

module _ {m : Machine} {caller : ℕ} (slot : Slot) {handle : Handle Id} (sound : IsSound m)
    (known : caller < m.numbers.callers) (live : handle_at m.state slot ≡ Some handle) where
  abbrev from : State
  from = (pointed m caller (Some slot)).state

  pub target-aged : (t : ℕ) (w : Outcome) (r : Result Done Refusal)
      → done_of r ≡ record { reply = w.reply; slot = w.slot; grown = Zero }
      → cond (is_refused w.reply) m.ages (lowered_to m.state m.ages (Some slot)
      (register_of m.state caller t))
      ≡ aged_by from (entry_by caller (cmd.HSet 0 t) (done_of r)) m.ages
  target-aged t w r is =
      ap (λ (d : Done). cond (is_refused d.reply) m.ages
      (lowered_to m.state m.ages (Some slot) (register_of m.state caller t))) (sym is)
      ∙ ap (λ o. cond (is_refused (done_of r).reply) m.ages
      (lowered_to m.state m.ages o (register_of m.state caller t)))
      (sym (named slot sound known live))
      ∙ ap (cond (is_refused (done_of r).reply) m.ages)
      (alike (handle_register_of from caller 0) (register_of m.state caller t))
    where
      alike : (o : Option Slot) (x : Option Id) → lowered_to m.state m.ages o x ≡ lowered_to from m.ages o x
      alike o None = refl
      alike o (Some x) = refl

  pub secondary-aged : (s : ℕ) (w : Outcome) (r : Result Done Refusal)
      → done_of r ≡ record { reply = w.reply; slot = w.slot; grown = Zero }
      → cond (is_refused w.reply) m.ages (lowered_at m.ages (Some slot) 0)
      ≡ aged_by from (entry_by caller (cmd.HSec 0 s) (done_of r)) m.ages
  secondary-aged s w r is =
      ap (λ (d : Done). cond (is_refused d.reply) m.ages (lowered_at m.ages (Some slot) 0)) (sym is)
      ∙ ap (λ o. cond (is_refused (done_of r).reply) m.ages (lowered_at m.ages o 0))
      (sym (named slot sound known live))

-- a call about the handle in a slot leaves a sound store, and is the command, from a store with the slot in
-- the register to one with it
abbrev pub CameOf : Machine → Machine → ℕ → Slot → Cmd → Result Done Refusal → Type 0
CameOf v k caller slot c r =
    IsSound k × (HasCalled (pointed v caller (Some slot)) caller c None (pointed k caller (Some slot))
    (entry_by caller c (done_of r)) × KeepsFirst v caller k)

module _ {m v k : Machine} {caller : ℕ} (slot : Slot) (c : Cmd) (r : Result Done Refusal) {w : Outcome}
    {ages : List ℕ} (sound : IsSound m) (view : m ≡ v) (known : caller < v.numbers.callers)
    (valid : IsValid c) (within : StaysWithin (pointed v caller (Some slot)).state caller c)
    (before : IsOverHeap m) (now : IsOverHeap k)
    (plain : (touched_by c).pinned ≡ false) (makes : (touched_by c).makes_object ≡ false)
    (room : asks_of (pointed m caller (Some slot)).state caller c ≡ no_room)
    (way : way_of (pointed m caller (Some slot)).state caller c ≡ decided (pointed_outcome caller slot w))
    (came : ComesToAged w ages (seen_by m) (seen_by k) r)
    (aged : ages ≡ aged_by (pointed m caller (Some slot)).state (entry_by caller c (done_of r)) m.ages)
    (first : KeepsRegisters m.state w) where
  came_pointed : ComesToAged (pointed_outcome caller slot w) ages (seen_by (pointed m caller (Some slot)))
      (seen_by (pointed k caller (Some slot))) r
  came_pointed = (
    came.0,
    (
      came.1.0,
      ap (λ (s : State). with_handle_register s caller 0 (Some slot)) came.1.1,
      came.1.2,
      came.1.3,
      came.1.4,
    ),
  )

  first-kept : KeepsFirst m caller k
  first-kept =
      ap (λ (s : State). handle_register_of s caller 0) came.1.1
      ∙ ap (λ rows. get_or (get_or rows caller []) 0 None) first

  came-of : CameOf v k caller slot c r
  came-of =
      let pointed_sound = sound-pointed m caller 0 (Some slot) sound (known-in view known) in
      let over = over-pointed m caller (Some slot) before in
      let after = over-pointed k caller (Some slot) now in
      let pointed_view = ap (λ (x : Machine). pointed x caller (Some slot)) view in (
        sound-unpointed k caller (Some slot)
            (sound-on c r pointed_sound pointed_view known valid within over after plain makes room way
            came_pointed aged),
        (
          called c r pointed_sound pointed_view known valid within over after plain makes room way
              came_pointed aged,
          subst (λ (x : Machine). KeepsFirst x caller k) view first-kept,
        ),
      )

-- ---- the calls about a slot but those that make or free a handle

module _ {m v k : Machine} {caller : ℕ} (slot : Slot) {handle : Handle Id} (r : Result Done Refusal)
    (sound : IsSound m) (view : m ≡ v) (known : caller < v.numbers.callers) (before : IsOverHeap m)
    (now : IsOverHeap k) (live : handle_at m.state slot ≡ Some handle) where
  pub sets-target : (t : ℕ) → t < REGISTERS
      → ComesToAged (set_target_of m.state caller t slot handle)
      (cond (is_refused (set_target_of m.state caller t slot handle).reply) m.ages
      (lowered_to m.state m.ages (Some slot) (register_of m.state caller t))) (seen_by m) (seen_by k) r
      → CameOf v k caller slot (cmd.HSet 0 t) r
  sets-target t low came =
      let in_m = known-in view known in
      came-of slot (cmd.HSet 0 t) r sound view known (omega arith, low) (endless refl) before now
      refl refl refl (ap decided (target_set slot sound in_m live t)) came
      (target-aged slot sound in_m live t (set_target_of m.state caller t slot handle) r came.0)
      (target-registers m.state caller t slot handle)

  pub sets-secondary : (s : ℕ) → s < REGISTERS
      → ComesToAged (set_secondary_of m.state caller s slot handle)
      (cond (is_refused (set_secondary_of m.state caller s slot handle).reply) m.ages
      (lowered_at m.ages (Some slot) 0)) (seen_by m) (seen_by k) r
      → CameOf v k caller slot (cmd.HSec 0 s) r
  sets-secondary s low came =
      let in_m = known-in view known in
      came-of slot (cmd.HSec 0 s) r sound view known (omega arith, low) (endless refl) before now
      refl refl refl (ap decided (secondary_set slot sound in_m live s)) came
      (secondary-aged slot sound in_m live s (set_secondary_of m.state caller s slot handle) r came.0)
      (secondary-registers m.state caller s slot handle)

  pub gets-secondary : (d : ℕ) → d < REGISTERS
      → ComesTo (get_secondary_of m.state caller d slot handle) (seen_by m) (seen_by k) r
      → CameOf v k caller slot (cmd.HDep d 0) r
  gets-secondary d low came =
      came-of slot (cmd.HDep d 0) r sound view known (low, omega arith) (endless refl) before now
      refl refl refl (ap decided (secondary_got slot sound (known-in view known) live d)) came (unaged _ _)
      (load-registers m.state caller d slot handle)

  pub sets-strength : (to : Strength)
      → ComesTo (set_strength_of m.state to slot handle) (seen_by m) (seen_by k) r
      → CameOf v k caller slot (cmd.HVar 0 to) r
  sets-strength to came =
      came-of slot (cmd.HVar 0 to) r sound view known (omega arith) (endless refl) before now refl refl refl
      (ap decided (strength_set slot sound (known-in view known) live to)) came (unaged _ _)
      (strength-registers m.state to slot handle)

  pub raises-count : ((h : Handle Id) → handle_at v.state slot ≡ Some h → count_of h.extra + 1 < 2 ^ 32)
      → ComesTo (raise_count_of m.state slot handle) (seen_by m) (seen_by k) r
      → CameOf v k caller slot (cmd.HUp 0) r
  raises-count small came =
      let in_v = subst (λ (x : Machine). handle_at x.state slot ≡ Some handle) view live in
      came-of slot (cmd.HUp 0) r sound view known (omega arith) (record {
        serial = λ d fields fin same. absurd (cc same);
        count = counts-up slot (subst IsSound view sound) known in_v small;
      }) before now refl refl refl (ap decided (count_raised slot sound (known-in view known) live)) came
      (unaged _ _)
      (raise-registers m.state slot handle)

  pub lowers-count : ComesTo (lower_count_of m.state slot handle) (seen_by m) (seen_by k) r
      → CameOf v k caller slot (cmd.HDown 0) r
  lowers-count came =
      came-of slot (cmd.HDown 0) r sound view known (omega arith) (endless refl) before now refl refl refl
      (ap decided (count_lowered slot sound (known-in view known) live)) came (unaged _ _)
      (lower-registers m.state slot handle)

-- a load of what it references
module _ {m v k : Machine} {caller : ℕ} (slot : Slot) {handle : Handle Id} (sound : IsSound m) (view : m ≡ v)
    (known : caller < v.numbers.callers) (before : IsOverHeap m) (now : IsOverHeap k)
    (live : handle_at m.state slot ≡ Some handle) where
  pub loads-target : (d : ℕ) (id : Option Id) → d < REGISTERS → handle.target ≡ id
      → k ≡ record m { state = with_register m.state caller d id }
      → CameOf v k caller slot (cmd.HGet d 0) (Ok (replied (load_reply id)))
  loads-target d id low is left =
      let w = get_target_of m.state caller d slot handle in
      let r = Ok (replied (load_reply id)) in
      let came : ComesTo w (seen_by m) (seen_by k) r = (
        ap (λ t. replied (load_reply t)) (sym is),
        (
          ap (λ (x : Machine). x.numbers) left,
          ap (λ (x : Machine). x.state) left ∙ ap (λ t. with_register m.state caller d t) (sym is),
          ap (λ (x : Machine). x.ages) left,
          ap (λ (x : Machine). (seen_by x).names) left,
          ap (λ (x : Machine). x.names) left,
        ),
      ) in
      came-of slot (cmd.HGet d 0) r sound view known (low, omega arith) (endless refl) before now
      refl refl refl (ap decided (found slot sound (known-in view known) live
      (get_target_of (pointed m caller (Some slot)).state caller d))) came (unaged _ _) refl

-- the handle in a live slot
pub live-one : (o : Option (Handle Id)) → IsSome o → (h : Handle Id) × (o ≡ Some h)
live-one None live = absurd (false≢true live)
live-one (Some h) live = (h, refl)

-- the handle in a slot whose target was found
pub with-target : (o : Option (Handle Id)) (t : Option Id)
    → option_map (λ (h : Handle Id). h.target) o ≡ Some t
    → (h : Handle Id) × ((o ≡ Some h) × (h.target ≡ t))
with-target None t is = absurd (cc is)
with-target (Some h) t is = (h, (refl, cc is))

-- ---- the handle in a slot is freed

module _ {m v k : Machine} {caller : ℕ} (slot : Slot) {handle : Handle Id} (sound : IsSound m) (view : m ≡ v)
    (known : caller < v.numbers.callers) (before : IsOverHeap m) (now : IsOverHeap k)
    (live : handle_at m.state slot ≡ Some handle)
    (left : seen_by k ≡ record (seen_by m) { state = without_handle m.state slot }) where
  abbrev asked : Machine
  asked = pointed m caller (Some slot)

  abbrev after : Machine
  after = pointed k caller None

  abbrev freed : Entry
  freed = entry_by caller (cmd.HFree 0) (done_of (done_freeing (Ok slot)))

  freed-after : after.state ≡ (free_handle asked.state caller 0).after
  freed-after =
      ap (λ (p : Seen Addr (FinMap nat_cmp Id)). with_handle_register p.state caller 0 None) left
      ∙ ap (λ rows. record m.state {
        handles = (without_handle m.state slot).handles;
        handle_registers = rows;
      }) (sym (rows-twice m.state.handle_registers caller 0 (Some slot) None))
      ∙ ap (λ (w : Outcome). w.after)
      (sym (found slot sound (known-in view known) live (free_handle_of asked.state caller 0)))

  free-ran : HasRun asked caller (cmd.HFree 0) None freed (IsPlainStep asked (cmd.HFree 0) after freed)
  free-ran =
      let is = found slot sound (known-in view known) live (free_handle_of asked.state caller 0) in
      record {
        caller = refl;
        command = refl;
        effect = record {
          plain = refl;
          step = record {
            reply = ap (λ (w : Outcome). w.reply) (sym is);
            slot = ap (λ (w : Outcome). w.slot) (sym is);
            grown = refl;
            after = freed-after;
          };
          numbers = ap (λ (p : Seen Addr (FinMap nat_cmp Id)). p.numbers) left;
          names = ap (λ (p : Seen Addr (FinMap nat_cmp Id)). p.rest) left;
          ages = ap (λ (p : Seen Addr (FinMap nat_cmp Id)). p.ages) left;
        };
        offer = λ at none. absurd (cc none);
        growth = tt;
      }

  pub frees : IsSound k × (HasCalled (pointed v caller (Some slot)) caller (cmd.HFree 0) None after freed
      × KeepsFirst v caller k)
  frees =
      let pointed_sound = sound-pointed m caller 0 (Some slot) sound (known-in view known) in
      let over = over-pointed m caller (Some slot) before in
      let over_after = over-pointed k caller None now in
      let pointed_view = ap (λ (x : Machine). pointed x caller (Some slot)) view in (
        sound-unpointed k caller None
            (run-sound (cmd.HFree 0) pointed_sound pointed_view known (omega arith) tt (endless refl) over
            over_after
            free-ran),
        (
          run-called (cmd.HFree 0) pointed_sound pointed_view known (omega arith) tt (endless refl) over
              over_after
              free-ran,
          subst (λ (x : Machine). KeepsFirst x caller k) view
              (ap (λ (p : Seen Addr (FinMap nat_cmp Id)). handle_register_of p.state caller 0) left),
        ),
      )

-- ---- a handle is made

made-over : (k : Machine) (caller : ℕ) (r : Result (Slot × Grown) Refusal) → IsOverHeap k
    → IsOverHeap (pointed_made k caller 0 r)
made-over k caller (Ok made) over = over-pointed k caller (Some made.0) over
made-over k caller (Err refused) over = over

made-sound : (k : Machine) (caller : ℕ) (r : Result (Slot × Grown) Refusal)
    → IsSound (pointed_made k caller 0 r)
    → IsSound k
made-sound k caller (Ok made) sound = sound-unpointed k caller (Some made.0) sound
made-sound k caller (Err refused) sound = sound

made-offer : (s : State) (caller : ℕ) (make : Make) (t : ℕ) (offer : Option Slot)
    → IfSome offer (IsFree s (kind_of make)) → IsOffer s caller (cmd.HNew 0 make t) offer
made-offer s caller make t None free = tt
made-offer s caller make t (Some slot) free = free

-- growth writes no handle register, and a slot in the second of a caller leaves the first
growth-registers : (s : State) (of : Kind) (grown : Grown)
    → (with_growth s of grown).handle_registers ≡ s.handle_registers
growth-registers s of Zero = refl
growth-registers s of (One block) = refl
growth-registers s of (Two block other) = refl
growth-registers s of (Back block) = refl

cell-beside : (row : List (Option Slot)) (v : Option Slot) → get_or (set row 1 v) 0 None ≡ get_or row 0 None
cell-beside [] v = refl
cell-beside (slot ∷ row) v = refl

first-beside : (rows : Rows) (c : ℕ) (v : Option Slot)
    → get_or (get_or (set rows c (set (get_or rows c []) 1 v)) c []) 0 None ≡ get_or (get_or rows c []) 0 None
first-beside [] c v = refl
first-beside (row ∷ rows) zero v = cell-beside row v
first-beside (row ∷ rows) (suc c) v = first-beside rows c v

-- so where a handle was made with its slot in the second register, the call writes no first one
make-first : (m k : Machine) (caller : ℕ) (make : Make) (t : ℕ) (r : Result (Slot × Grown) Refusal)
    → IsPlainStep m (cmd.HNew 1 make t) (pointed_made k caller 1 r)
    (entry_by caller (cmd.HNew 1 make t) (done_of (done_making r)))
    → KeepsFirst m caller k
make-first m k caller make t (Ok made) ran = by ran.step
  where
    by : TakesWay m.numbers m.state (entry_by caller (cmd.HNew 1 make t) (done_of (done_making (Ok made))))
        (pointed_made k caller 1 (Ok made)).state (makes_handle 1 make t) → KeepsFirst m caller k
    by (inl is) =
        sym (first-beside k.state.handle_registers caller (Some made.0))
        ∙ ap (λ (s : State). handle_register_of s caller 0) is.after
        ∙ first-beside (with_growth m.state (kind_of make) made.1).handle_registers caller (Some is.slot)
        ∙ ap (λ rows. get_or (get_or rows caller []) 0 None) (growth-registers m.state (kind_of make) made.1)
    by (inr full) = let clash = full.refused.reply in cc
make-first m k caller make t (Err refused) ran = by ran.step
  where
    by : TakesWay m.numbers m.state
        (entry_by caller (cmd.HNew 1 make t) (done_of (done_making (Err refused)))) k.state
        (makes_handle 1 make t) → KeepsFirst m caller k
    by (inl is) = let clash = is.reply in cc
    by (inr full) = ap (λ (s : State). handle_register_of s caller 0) full.refused.after

module _ {m v k : Machine} {caller : ℕ} (make : Make) (t : ℕ) {offer : Option Slot}
    (r : Result (Slot × Grown) Refusal) (sound : IsSound m) (view : m ≡ v)
    (known : caller < v.numbers.callers)
    (before : IsOverHeap m) (now : IsOverHeap k) (valid : IsValid (cmd.HNew 0 make t))
    (free : IfSome offer (IsFree v.state (kind_of make)))
    (ran : (d : ℕ) → HasRun m caller (cmd.HNew d make t) offer
    (entry_by caller (cmd.HNew d make t) (done_of (done_making r)))
    (IsPlainStep m (cmd.HNew d make t) (pointed_made k caller d r)
    (entry_by caller (cmd.HNew d make t) (done_of (done_making r))))) where
  pub makes : IsSound k × (HasCalled v caller (cmd.HNew 0 make t) offer (pointed_made k caller 0 r)
      (entry_by caller (cmd.HNew 0 make t) (done_of (done_making r))) × KeepsFirst v caller k)
  makes =
      let offered = made-offer v.state caller make t offer free in
      let after = made-over k caller r now in (
        made-sound k caller r
            (run-sound (cmd.HNew 0 make t) sound view known valid offered (endless refl) before after
            (ran 0)),
        (
          run-called (cmd.HNew 0 make t) sound view known valid offered (endless refl) before after (ran 0),
          subst (λ (x : Machine). KeepsFirst x caller k) view (make-first m k caller make t r (ran 1).effect),
        ),
      )

-- ---- the address of what the handle in a slot pins

module _ {m v : Machine} {caller : ℕ} (slot : Slot) {handle : Handle Id} (sound : IsSound m) (view : m ≡ v)
    (known : caller < v.numbers.callers) (over : IsOverHeap m) (live : handle_at m.state slot ≡ Some handle)
  where
    abbrev pinning : Machine
    pinning = pointed m caller (Some slot)

    pins-it : pinned_in pinning.state caller 0 ≡ pinned_of handle
    pins-it =
        ap (λ o. option_map_or (λ at. option_map_or pinned_of (handle_at m.state at) (Err refusal.NotLive)) o
        (Err refusal.EmptyRegister)) (named slot sound (known-in view known) live)
        ∙ ap (λ o. option_map_or pinned_of o (Err refusal.NotLive)) live

    address-ran : (r : Result ℕ Refusal)
        → KeepsPinned pinning (entry_by caller (cmd.AddrOf 0) (done_of (done_with reply.Place r))) pinning
        → HasCalled pinning caller (cmd.AddrOf 0) None pinning
        (entry_by caller (cmd.AddrOf 0) (done_of (done_with reply.Place r)))
    address-ran r kept =
        let over_now = over-pointed m caller (Some slot) over in kept-called over_now over_now
        (unoffered (done_of (done_with reply.Place r)) refl kept)

    free-pointed : (before : FinMap nat_cmp ℕ) (o : Option ℕ) (x : Id) (a : ℕ)
        → MatchOption o (IsFreeAddress (with_pinned m.state before) x a) (λ own. a ≡ own)
        → MatchOption o (IsFreeAddress (with_pinned pinning.state before) x a) (λ own. a ≡ own)
    free-pointed before None x a is = record { small = is.small; apart = is.apart }
    free-pointed before (Some own) x a is = is

    address-of : (r : Result ℕ Refusal)
        → MatchResult r (λ a. (pinned_of handle ≡ Ok (name_in m.names (record { 0 = a })))
        × HasAddress m (record { 0 = a })) (λ refused. pinned_of handle ≡ Err refused)
        → HasCalled pinning caller (cmd.AddrOf 0) None pinning
        (entry_by caller (cmd.AddrOf 0) (done_of (done_with reply.Place r)))
    address-of (Ok a) is =
        address-ran (Ok a) (addr-replies pinning caller 0 (known-in view known) (omega arith) (record { 0 = a })
        (record {
          may = λ before are. free-pointed before (get before (name_in m.names (record { 0 = a })).0)
              (name_in m.names (record { 0 = a })) a (is.1.may before are);
          addresses = is.1.addresses;
        }) (sym (pins-it ∙ is.0)))
    address-of (Err refused) is =
        address-ran (Err refused)
        (addr-refused pinning caller 0 (known-in view known) (omega arith) refused (sym (pins-it ∙ is)))

    pub address-called : (r : Result ℕ Refusal)
        → MatchResult r (λ a. (pinned_of handle ≡ Ok (name_in m.names (record { 0 = a })))
        × HasAddress m (record { 0 = a })) (λ refused. pinned_of handle ≡ Err refused)
        → HasReturnedOf v caller slot (cmd.AddrOf 0) reply.Place v r
    address-called r is =
        subst (λ (x : Machine). HasReturnedOf x caller slot (cmd.AddrOf 0) reply.Place x r) view
        (address-of r is, refl)
