-- A handle that was freed is stale from then on: stamps never fall, and that of its slot rose.
use Rattle.hd_model.proofs.Basics.{List, ap, arith, get_or-set_same, le_refl, le_trans, length, subst, sym, ℕ, ◌+◌, ◌<◌, ◌∙◌, ◌≡◌, ◌≤◌}
use Rattle.std.specs.Prelude.{slice_index}
use Rattle.hd_model.proofs.ReadAfterWrite.{set_cases}
use Rattle.hd_model.specs.declared.data.Slot.{Slot}
use Rattle.hd_host.specs.declared.handle.Handle.{Handle}
use Rattle.hd_host.specs.Calls.{FreesHandle}
use Rattle.hd_host.specs.Handles.{IsOf, IsStale, stamp_of}
use Rattle.hd_host.specs.Turns.{HostTurn, IsSoundHost, alone, frees, stays, steps, trims}
use Rattle.hd_host.specs.View.{HostView}
use Rattle.hd_host.proofs.SoundTurns.{row_stamps, step_stamps, trims_stamps, turns_keep_sound}
use Rattle.hd_hostlaws.specs.Calls.{Call, Calls, first, none}
use Rattle.hd_hostlaws.specs.Laws.{FreedIsRefused}
use Rattle.hd_hostlaws.proofs.CallCases.{each_call_is_a_turn}
use Rattle.hd_hostlaws.proofs.FirstHosts.{calls_sound, reached_sound}
use Rattle.hd_hostlaws.proofs.HandleWords.{live_within, one_slot, one_stamp}
use Rattle.hd_hostlaws.proofs.StaleHandles.{stale_is_exact}

-- stamps as they were
as_before : (u w : HostView) (slot : Slot) → w.stamps ≡ u.stamps → stamp_of u slot ≤ stamp_of w slot
as_before u w slot is = subst (λ (xs : List ℕ). stamp_of u slot ≤ slice_index xs slot.0) (sym is) (le_refl _)

freeing_raises : {u w : HostView} {handle : Handle} (slot : Slot) → FreesHandle u handle w
    → stamp_of u slot ≤ stamp_of w slot
freeing_raises {u = u} slot did =
    subst (λ (xs : List ℕ). stamp_of u slot ≤ slice_index xs slot.0) (sym did.stamps)
    (set_cases (λ x. stamp_of u slot ≤ x) u.stamps did.slot.0 slot.0 (stamp_of u did.slot + 1) 0
    (λ same. let here = ap (λ j. slice_index u.stamps j) same in omega (arith, here)) (le_refl _))

-- no turn lowers one
turn_raises : {each by : ℕ} {u w : HostView} (slot : Slot) → HostTurn each by u w
    → stamp_of u slot ≤ stamp_of w slot
turn_raises {u = u} {w = w} slot (stays same) = as_before u w slot same.stamps
turn_raises {u = u} {w = w} slot (steps row) = as_before u w slot (row_stamps row)
turn_raises slot (frees handle did) = freeing_raises slot did
turn_raises {u = u} {w = w} slot (alone step) = as_before u w slot (step_stamps step)
turn_raises {u = u} {w = w} slot (trims row) = as_before u w slot (trims_stamps row)

-- nor do calls
calls_raise : {u w : HostView} {calls : List Call} (slot : Slot) → Calls u calls w
    → stamp_of u slot ≤ stamp_of w slot
calls_raise slot none = le_refl _
calls_raise {u = u} slot (first {v = v} {call = call} did rest) =
    le_trans (turn_raises slot (each_call_is_a_turn call u v did)) (calls_raise slot rest)

-- the stamp of the slot rose
freed_rose : {u w : HostView} {handle : Handle} → IsSoundHost u → (did : FreesHandle u handle w)
    → stamp_of w did.slot ≡ stamp_of u did.slot + 1
freed_rose {u = u} sound did =
    ap (λ (xs : List ℕ). slice_index xs did.slot.0) did.stamps
    ∙ get_or-set_same u.stamps did.slot.0 (stamp_of u did.slot + 1) 0
    (live_within sound did.slot did.handle_is.live)

-- so the handle is stale in each host that follows
freed_stale : {u v w : HostView} {handle : Handle} {calls : List Call} → IsSoundHost u
    → FreesHandle u handle v
    → Calls v calls w → IsStale w handle
freed_stale {u = u} {v = v} {w = w} {handle = handle} sound did came slot of =
    let in_v = turns_keep_sound u.machine.numbers.callers 0 u v sound (frees handle did) in
    let in_w = calls_sound in_v came in
    let here : stamp_of u did.slot ≡ stamp_of w slot = one_stamp sound in_w did.handle_is of in
    let one : stamp_of w did.slot ≡ stamp_of w slot =
    ap (stamp_of w) (one_slot sound in_w did.handle_is of) in
    let most : stamp_of v did.slot ≤ stamp_of w did.slot = calls_raise did.slot came in
    absurd (omega (arith, here, one, most, freed_rose sound did))

pub freed_is_refused : FreedIsRefused
freed_is_refused u v w x handle calls call reached freed came did =
    let stale = freed_stale (reached_sound u reached) freed came in
    let exact = stale_is_exact handle call w x did in
    (exact.0.1 stale, exact.1 stale)
