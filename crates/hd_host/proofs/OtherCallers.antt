-- A step leaves the registers of all callers but its own, so a turn of another end leaves the locals of an
-- end.
use Rattle.hd_model.proofs.Basics.{List, None, Numbers, Option, State, [], ap, arith, empty, get_or, get_or-set_other, refl, register_of, set, subst, sym, touched_by, with_register, ℕ, ⊎_elim, ◌*◌, ◌+◌, ◌<◌, ◌≤◌, ◌∙◌, ◌≡◌, ◌≢◌}
use Rattle.std.proofs.lemmas.Nat.{mul-le}
use Rattle.hd_model.specs.{Step.Step, declared.data.Entry.Entry, declared.data.Id.Id, declared.data.Slot.Slot, declared.command.Cmd.Cmd}
use Rattle.hd_model.proofs.AgedRuns.{nothing_at}
use Rattle.hd_model.proofs.Effects.{Effect, makes_object, gets_field, copies, clears, gets_static, finds_none, takes_first, collects, gets_target, gets_secondary, finds_value, finds_no_entry, effect}
use Rattle.hd_model.proofs.StepFrames.{untouched_stays}
use Rattle.hd_store.specs.Store.{Machine}
use Rattle.hd_store.specs.Hosted.{cleared, with_cleared}
use Rattle.hd_host.specs.Steps.{HasStepped}
use Rattle.hd_host.specs.Turns.{HostStep, HostTurn, IsContextOf, IsOneOf, IsRow, LeavesState, LocalsAreAsLeft, LocalsStay, NoContextIsOfTwoEnds, OthersKeepLocals, TrimsRow, alone, frees, gives_back, goes_on, makes, more, next_kind, no_kinds, one, one_more, passes, stays, steps, trims}
use Rattle.hd_host.specs.Turns.{clears as clears_locals, none as no_turn}
use Rattle.hd_host.specs.View.{HostView}
use Rattle.hd_host.proofs.TrimTurns.{OneTrim, one_trim, trim_kept, trim_ran, trim_stepped}
use Rattle.hd_store.specs.Spare.{without_pair}
use Rattle.hd_model.specs.declared.data.Kind.{Kind}

-- a register of one caller is written, and another's is read
others_read : (rows : List (List (Option Id))) (caller d : ℕ) (v : Option Id) (k x : ℕ) → k ≢ caller
    → get_or (get_or (set rows caller (set (get_or rows caller []) d v)) k []) x None
    ≡ get_or (get_or rows k []) x None
others_read rows caller d v k x other =
    ap (λ row. get_or row x None) (get_or-set_other rows caller k (set (get_or rows caller []) d v) [] other)

cleared_read : (s : State) (caller first count k x : ℕ) → k ≢ caller
    → register_of (with_cleared s caller first count) k x ≡ register_of s k x
cleared_read s caller first count k x other =
    ap (λ row. get_or row x None)
    (get_or-set_other s.registers caller k (cleared first count (get_or s.registers caller [])) [] other)

module _ (n : Numbers) (s : State) (e : Entry) (k x : ℕ) (other : k ≢ e.caller) where
  others_after : (c : Cmd) (t : State) → Effect n s e c t → register_of t k x ≡ register_of s k x
  others_after c t (makes_object {d = d} small p) = others_read s.registers e.caller d _ k x other
  others_after c t (gets_field {d = d} id f l p) = others_read s.registers e.caller d _ k x other
  others_after c t (copies {d = d} p) = others_read s.registers e.caller d _ k x other
  others_after c t (clears {d = d} p) = others_read s.registers e.caller d _ k x other
  others_after c t (gets_static {d = d} p) = others_read s.registers e.caller d _ k x other
  others_after c t (finds_none {d = d} p) = others_read s.registers e.caller d _ k x other
  others_after c t (takes_first {d = d} id rest is p) = others_read s.registers e.caller d _ k x other
  others_after c t (gets_target {d = d} slot handle f p) = others_read s.registers e.caller d _ k x other
  others_after c t (gets_secondary {d = d} slot handle f p) = others_read s.registers e.caller d _ k x other
  others_after c t (finds_value {d = d} key slot has f p) = others_read s.registers e.caller d _ k x other
  others_after c t (finds_no_entry {d = d} key f none p) = others_read s.registers e.caller d _ k x other
  others_after c t (collects did) = ap (λ rows. get_or (get_or rows k []) x None) did.collects.registers
  others_after c t _ = refl

-- a step leaves the registers of another caller
pub others_stay : (n : Numbers) (s t : State) (e : Entry) (k x : ℕ) → k ≢ e.caller → Step n s e t
    → register_of t k x ≡ register_of s k x
others_stay n s t e k x other step = others_after n s e k x other e.cmd t (effect n s e t step)

module _ {old new : Machine} {context : ℕ} {slot : Option Slot} {command : Cmd} {e : Entry}
    (stepped : HasStepped old context slot command new e) where
  -- a command of a host leaves the locals of another context
  pub stepped_others : (k x : ℕ) → k ≢ context → register_of new.state k x ≡ register_of old.state k x
  stepped_others k x other =
      let goes = stepped.effect empty (λ y at found. absurd (nothing_at y at found)) in
      ap (λ (m : Machine). register_of m.state k x) stepped.new_is
      ∙ others_stay old.numbers _ _ e k x (λ same. other (same ∙ stepped.command_is.0)) goes.step

  -- and one that writes no local leaves all
  pub stepped_all : (k x : ℕ) → (touched_by command).register ≡ None
      → register_of new.state k x ≡ register_of old.state k x
  stepped_all k x untouched =
      let goes = stepped.effect empty (λ y at found. absurd (nothing_at y at found)) in
      let free = ap (λ (c : Cmd). (touched_by c).register) stepped.command_is.1 ∙ untouched in
      ap (λ (m : Machine). register_of m.state k x) stepped.new_is
      ∙ ap (λ rows. get_or (get_or rows k []) x None)
      ((untouched_stays old.numbers _ _ e goes.step).registers free)

-- the locals of a state that is left
left_reads : (v w : HostView) (s : State) → LeavesState v s w → (c d : ℕ)
    → register_of w.machine.state c d ≡ register_of s c d
left_reads v w s left c d = ap (λ (x : State). register_of x c d) left.state

-- no context is of two ends
number_at_most : (each a b c : ℕ) → a * each ≤ c → c < b * each + each → b < a → ⊥
number_at_most each a b c low high less =
    let far : (b + 1) * each ≤ a * each = mul-le (b + 1) each a each (omega arith) (omega arith) in
    omega arith

pub no_context_is_of_two_ends : NoContextIsOfTwoEnds
no_context_is_of_two_ends each a b c apart of_a of_b =
    let no_less : b < a → ⊥ = number_at_most each a b c of_a.0 of_b.1 in
    let no_more : a < b → ⊥ = number_at_most each b a c of_b.0 of_a.1 in
    apart (omega (arith, no_less, no_more))

contexts_apart : (each number by c context : ℕ) → by ≢ number → IsContextOf each number c
    → IsContextOf each by context → c ≢ context
contexts_apart each number by c context other mine theirs same =
    no_context_is_of_two_ends each by number c other (subst (IsContextOf each by) (sym same) theirs) mine

module _ (each number by : ℕ) (other : by ≢ number) where
  one_keeps : {u w : HostView} → IsOneOf each by u w → LocalsStay each number u w
  one_keeps did c d mine = ⊎_elim
      (λ theirs. stepped_others did.done.stepped c d
      (contexts_apart each number by c did.context other mine theirs))
      (λ untouched. stepped_all did.done.stepped c d untouched) did.own

  row_keeps : {u w : HostView} → IsRow each by u w → LocalsStay each number u w
  row_keeps (one did) c d mine = one_keeps did c d mine
  row_keeps (more did rest) c d mine = row_keeps rest c d mine ∙ one_keeps did c d mine

  step_keeps : {u w : HostView} → HostStep each by u w → LocalsStay each number u w
  step_keeps {u = u} {w = w} (passes to dst from src own has left) c d mine =
      left_reads u w (with_register u.machine.state to dst (register_of u.machine.state from src)) left c d
      ∙ others_read u.machine.state.registers to dst (register_of u.machine.state from src) c d
      (contexts_apart each number by c to other mine own.0)
  step_keeps {u = u} {w = w} (clears_locals context first count own left) c d mine =
      left_reads u w (with_cleared u.machine.state context first count) left c d
      ∙ cleared_read u.machine.state context first count c d
      (contexts_apart each number by c context other mine own.0)
  step_keeps (makes did) c d mine =
      ap (λ (s : State). register_of s c d) did.filled.state
      ∙ stepped_others did.replied.done.stepped c d
      (contexts_apart each number by c did.context other mine did.own.0)
  step_keeps {u = u} {w = w} (gives_back kind did) c d mine =
      left_reads u w (without_pair u.machine.state did.block did.extra) did.left c d

  trim_keeps : {u w : HostView} → OneTrim each by u w → LocalsStay each number u w
  trim_keeps (trim_kept same) c d mine = ap (λ (s : State). register_of s c d) same.state
  trim_keeps (trim_ran row) c d mine = row_keeps row c d mine
  trim_keeps (trim_stepped step) c d mine = step_keeps step c d mine

  trims_keep : {u w : HostView} {kinds : List Kind} → TrimsRow kinds u w → LocalsStay each number u w
  trims_keep no_kinds c d mine = refl
  trims_keep (one_more {kind = kind} given some did rest) c d mine =
      trims_keep rest c d mine ∙ trim_keeps (one_trim each by kind _ did) c d mine
  trims_keep (next_kind {kind = kind} did rest) c d mine =
      trims_keep rest c d mine ∙ trim_keeps (one_trim each by kind _ did) c d mine

  turn_keeps : {u w : HostView} → HostTurn each by u w → LocalsStay each number u w
  turn_keeps (stays same) c d mine = ap (λ (s : State). register_of s c d) same.state
  turn_keeps (steps row) c d mine = row_keeps row c d mine
  turn_keeps (frees handle did) c d mine = stepped_all did.stepped c d refl
  turn_keeps (alone step) c d mine = step_keeps step c d mine
  turn_keeps (trims row) c d mine = trims_keep row c d mine

-- a turn of another end leaves the locals of an end
pub others_keep_locals : OthersKeepLocals
others_keep_locals each number by u w other = turn_keeps each number by other

-- and so do any turns of others
pub locals_are_as_left : LocalsAreAsLeft
locals_are_as_left each number u w no_turn c d mine = refl
locals_are_as_left each number u w (goes_on {v = v} by other before turn) c d mine =
    others_keep_locals each number by v w other turn c d mine
    ∙ locals_are_as_left each number u v before c d mine
