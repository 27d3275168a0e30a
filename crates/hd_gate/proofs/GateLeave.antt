-- What a seat is once its caller took a step under the gate and left.
use Rattle.hd_gate.proofs.Basics.{BLOCKS, Bool, Cmd, Continues, Entered, Entry, Every, Follows, Has, HasDone, IsIdle, IsOffer, IsPrefix, IsWellFormed, Known, List, LookedFor, MayApply, Numbers, Option, ROWS, Run, Slot, SlotCalls, Some, Step, Stepped, TableId, Turned, View, WorldView, [], ap, arith, asks_of, both_off, caller_view_of, cases_eq, change_in, change_of, changed, cond, eq-eqb, false, filter, gave_back, ghosts, inl, inr, length, length-append, looks_with_gate, ne_eqb, none_ended, not, numbers_of, part_of, picks, picks_none, picks_one, refl, run_is_well_formed, search_of, subst, sym, true, ℕ, ◌&&◌, ◌++◌, ◌+◌, ◌/◌, ◌<◌, ◌==◌, ◌∙◌, ◌∷◌, ◌≡◌, ◌≢◌, ◌≤◌, ◌⊎◌, ◌*◌}
use mathlib.Core.Option.{some-ne-none}
use Rattle.hd_custody.specs.{declared.view.Limits.Limits, Counts.slot_count}
use Rattle.hd_model.specs.Valid.{IsValid}

-- a caller that entered may take a step
pub may_step : (u : WorldView) (v : View WorldView) (number : ℕ) (command : Cmd) (offer : Option Slot)
    → Entered ghosts v u → 1 ≤ v.room → number < v.limits.callers → IsValid command
    → IsOffer u.state number command offer → MayApply u number command offer
may_step u v number command offer entered room known valid offered =
    let spare : v.room ≤ u.spare = entered.room in
    record {
      room = omega (arith, spare, room);
      caller = omega (arith, known, ap (λ (n : Numbers). n.callers) entered.sized);
      valid = valid;
      offer = offered;
    }

-- a view is that of the same seat, which has the same part and may add as many entries
abbrev pub SameSeat : View WorldView → View WorldView → Type 0
SameSeat v w =
    (w.number ≡ v.number) × (w.limits ≡ v.limits) × (w.part ≡ v.part) × (w.room ≡ v.room)
    × (w.ended ≡ v.ended) × (w.made ≡ v.made)

pub same_seat : (v w : View WorldView) → v ≡ w → SameSeat w v
same_seat v w e = (
  ap (λ (x : View WorldView). x.number) e,
  ap (λ (x : View WorldView). x.limits) e,
  ap (λ (x : View WorldView). x.part) e,
  ap (λ (x : View WorldView). x.room) e,
  ap (λ (x : View WorldView). x.ended) e,
  ap (λ (x : View WorldView). x.made) e,
)

-- such a seat is idle where it has no slot and not the gate
pub idle_of : (v n : View WorldView) (number : ℕ) → IsIdle v number → n.number ≡ v.number
    → n.limits ≡ v.limits
    → n.ended ≡ v.ended → n.made ≡ v.made → n.held ≡ [] → n.has_gate ≡ false → IsIdle n number
idle_of v n number idle same limits ended made held gate =
    let callers = ap (λ (l : Limits). l.callers) limits in
    record {
      number = same ∙ idle.number;
      known = subst (λ c. number < c) (sym callers) idle.known;
      held = held;
      gate = gate;
      ended = ended ∙ idle.ended;
      made = λ first. made ∙ idle.made first ∙ sym callers;
    }

-- what the caller of a seat finds in a world: its part is there, and all that it has seen
abbrev pub Finds : View WorldView → WorldView → Type 0
Finds v u = (part_of u.journal v.number ≡ v.part) × IsPrefix v.seen u.journal

-- the part of the caller of the last entry
one_more : (e : Entry) (journal : List Entry) → part_of (journal ++ e ∷ []) e.caller
    ≡ part_of journal e.caller ++ e ∷ []
one_more e [] = ap (λ b. cond b (e ∷ []) []) (eq-eqb e.caller e.caller refl)
one_more e (x ∷ xs) = at (x.caller == e.caller) (one_more e xs)
  where
    at : (b : Bool) → part_of (xs ++ e ∷ []) e.caller ≡ part_of xs e.caller ++ e ∷ []
        → cond b (x ∷ part_of (xs ++ e ∷ []) e.caller) (part_of (xs ++ e ∷ []) e.caller)
        ≡ cond b (x ∷ part_of xs e.caller) (part_of xs e.caller) ++ e ∷ []
    at true rest = ap (λ l. x ∷ l) rest
    at false rest = rest

pub well_formed : {u w : WorldView} {number : ℕ} {command : Cmd} {offer : Option Slot} {e : Entry}
    → Stepped u w number command offer e → IsWellFormed u.numbers u.state
well_formed {u} s = run_is_well_formed u.numbers u.journal u.state s.run

-- the gate may be left with the world w, and the caller is then idle and its command done
pub record Leaves (number : ℕ) (command : Cmd) (u w : WorldView) (e : Entry)
    (v busy : View WorldView) : Type 0 where
  pub taken : busy.taken ≡ Some u
  pub limits : busy.limits ≡ v.limits
  pub follows : Follows ghosts u w busy
  pub idle : IsIdle (gave_back ghosts u w busy) number
  pub done : (t : TableId) → HasDone (caller_view_of (record { table = t; view = v }) number v.room)
      (caller_view_of (record { table = t; view = gave_back ghosts u w busy }) number
      (gave_back ghosts u w busy).room) command e.reply

module _ (number : ℕ) (command : Cmd) (offer : Option Slot) (u w : WorldView) (e : Entry)
    (stepped : Stepped u w number command offer e)
    (v busy : View WorldView) (idle : IsIdle v number) (some : 1 ≤ v.room)
    (finds : Finds v u) (sized : u.numbers ≡ numbers_of v.limits)
    (same : SameSeat v busy) (won : busy.gate_steps ≡ v.gate_steps + 1) where
  abbrev after : View WorldView
  after = gave_back ghosts u w busy

  pub goes_on : Continues busy.number busy.room u.journal u.spare w.journal w.spare
  goes_on = inr (
    e,
    stepped.applied.journal,
    stepped.applied.command.0 ∙ sym (same.0 ∙ idle.number),
    stepped.applied.spare,
    omega (arith, some, same.3),
  )

  part_after : after.part ≡ v.part ++ e ∷ []
  part_after =
      let of : e.caller ≡ busy.number = stepped.applied.command.0 ∙ sym (same.0 ∙ idle.number) in
      ap (λ j. part_of j busy.number) stepped.applied.journal
      ∙ subst (λ n. part_of (u.journal ++ e ∷ []) n ≡ part_of u.journal n ++ e ∷ []) of
      (one_more e u.journal)
      ∙ ap (λ n. part_of u.journal n ++ e ∷ []) same.0
      ∙ ap (λ p. p ++ e ∷ []) finds.0

  room_after : after.room + 1 ≡ v.room
  room_after =
      let longer = ap length stepped.applied.journal ∙ length-append u.journal (e ∷ []) in
      omega (arith, longer, some, same.3)

  -- the seat is idle again, where nothing is held
  pub idle_after : after.held ≡ [] → IsIdle after number
  idle_after empty = idle_of v after number idle same.0 same.1 same.4 same.5 empty refl

  -- and the command was done, where what it looked for is stated
  pub done_after : (t : TableId) (n : View WorldView) → n.part ≡ after.part → n.room ≡ after.room
      → n.seen ≡ after.seen → n.gate_steps ≡ after.gate_steps
      → LookedFor (asks_of u.state number command) (looks_with_gate (change_of command)) v.limits.blocks
      (search_of v) (search_of n) e
      → SlotCalls (change_in u.state number command) (looks_with_gate (change_of command)) u.state
      v.limits.blocks (search_of v) (search_of n) e
      → HasDone (caller_view_of (record { table = t; view = v }) number v.room)
      (caller_view_of (record { table = t; view = n }) number n.room) command e.reply
  done_after t n part room seen steps looked_for slot_calls = record {
    entry = e;
    found = record {
      journal = u.journal;
      state = u.state;
      run = subst (λ (n : Numbers). Run n u.journal u.state) sized stepped.run;
      part = ap (part_of u.journal) (sym idle.number) ∙ finds.0;
      goes_on = finds.1;
    };
    after = w.state;
    step = subst (λ (n : Numbers). Step n u.state e w.state) sized stepped.applied.step;
    caller_is = stepped.applied.command.0;
    command_is = stepped.applied.command.1;
    reply_is = refl;
    part = part ∙ part_after;
    room = omega (arith, room, room_after);
    seen = seen ∙ stepped.applied.journal;
    gate_steps = omega (arith, steps, won);
    looked_for = looked_for;
    slot_calls = slot_calls;
  }

  -- so the gate may be left, and the call is then done
  pub leaves : busy.taken ≡ Some u
      → SlotCalls (change_in u.state number command) (looks_with_gate (change_of command)) u.state
      v.limits.blocks (search_of v) (search_of busy) e
      → ((b : ℕ) → 0 < b → b < 257 → ghosts.kind w b ≡ changed busy.changes (ghosts.kind u) b)
      → ((x : ℕ) → ROWS ≤ x → ghosts.live w x ≡ true → (ghosts.live u x ≡ true) ⊎ Has x busy.held)
      → after.held ≡ []
      → LookedFor (asks_of u.state number command) (looks_with_gate (change_of command)) v.limits.blocks
      (search_of v) (search_of busy) e
      → Leaves number command u w e v busy
  leaves taken slot_calls kinds lives held looked_for = record {
    taken = taken;
    limits = same.1;
    follows = record {
      kinds = kinds;
      sized = stepped.applied.numbers ∙ sized ∙ sym (ap numbers_of same.1);
      lives = lives;
      goes_on = goes_on;
      sound = stepped.sound;
    };
    idle = idle_after held;
    done = λ t. done_after t after refl refl refl refl looked_for slot_calls;
  }

-- ---- a turn, by the seat as it leaves the gate

pub may_leave_with : (t : TableId) (mid : Known WorldView) (u w : WorldView) (busy : View WorldView)
    → mid ≡ record { table = t; view = busy } → busy.taken ≡ Some u → Follows ghosts u w busy
    → (x : WorldView) × (mid.view.taken ≡ Some x) × Follows ghosts x w mid.view
may_leave_with t mid u w busy is taken follows =
    let at = ap (λ (s : Known WorldView). s.view) is in (
      u,
      ap (λ (x : View WorldView). x.taken) at ∙ taken,
      subst (λ (x : View WorldView). Follows ghosts u w x) (sym at) follows,
    )

module _ (seat mid : Known WorldView) (number : ℕ) (command : Cmd) (u w : WorldView) (e : Entry)
    (busy : View WorldView) (is : mid ≡ record { table = seat.table; view = busy })
    (all : Leaves number command u w e seat.view busy) where
  pub may_leave : (x : WorldView) × (mid.view.taken ≡ Some x) × Follows ghosts x w mid.view
  may_leave = may_leave_with seat.table mid u w busy is all.taken all.follows

  pub turned : (out : Known WorldView)
      → ((x : WorldView) → mid.view.taken ≡ Some x
      → out ≡ record mid { view = gave_back ghosts x w mid.view })
      → Turned seat out number command e.reply
  turned out leave =
      let left = leave u (ap (λ (s : Known WorldView). s.view.taken) is ∙ all.taken)
      ∙ ap (λ (s : Known WorldView). record s { view = gave_back ghosts u w s.view }) is in
      record {
        table = ap (λ (s : Known WorldView). s.table) left;
        limits = ap (λ (s : Known WorldView). s.view.limits) left ∙ all.limits;
        idle = subst (λ (s : Known WorldView). IsIdle s.view number) (sym left) all.idle;
        done = subst (λ (s : Known WorldView). HasDone (caller_view_of seat number seat.view.room)
            (caller_view_of s number s.view.room) command e.reply) (sym left) (all.done seat.table);
      }

-- ---- slots held

pub every_nil : (P : ℕ × ℕ → Type 0) → Every P []
every_nil P n p e = absurd (some-ne-none p (sym e))

live_off : (a b : Bool) → b ≡ true → (a && not b) ≡ false
live_off true b e = ap not e
live_off false b e = refl

module _ (u w : WorldView) (v : View WorldView) where
  -- what ended, of the n slots from slot 64 on
  ended : ℕ → List (ℕ × ℕ)
  ended n = picks n (λ r. ghosts.live u (ROWS + r) && not (ghosts.live w (ROWS + r))) ROWS
      (λ r. ghosts.kind w ((ROWS + r) / ROWS))

  -- no slot became live and none ended
  pub held_stays : ((x : ℕ) → ghosts.live w x ≡ ghosts.live u x) → v.held ≡ []
      → (gave_back ghosts u w v).held ≡ []
  held_stays same empty =
      none_ended ghosts u w v (λ x _. same x)
      (subst (Every (λ p. ghosts.live w p.0 ≡ false)) (sym empty) (every_nil _)) ∙ empty

  -- one became live, which was held
  module _ (x k : ℕ) (only : v.held ≡ (x, k) ∷ []) (on : ghosts.live w x ≡ true)
      (others : (y : ℕ) → y ≢ x → ghosts.live w y ≡ ghosts.live u y) where
    none_ends : (y : ℕ) → (ghosts.live u y && not (ghosts.live w y)) ≡ false
    none_ends y = elim (cases_eq y x) [
      | inl here ↦ live_off (ghosts.live u y) (ghosts.live w y) (ap (ghosts.live w) here ∙ on)
      | inr apart ↦ (
          ap (λ b. ghosts.live u y && not b) (others y apart) ∙ both_off (ghosts.live u y))
    ]

    pub held_lives : (gave_back ghosts u w v).held ≡ []
    unfolding ended
    held_lives =
        ap (λ h. filter (λ (p : ℕ × ℕ). not (ghosts.live w p.0)) h ++ ended slot_count) only
        ∙ ap (λ b. cond (not b) ((x, k) ∷ []) [] ++ ended slot_count) on
        ∙ picks_none slot_count (λ r. ghosts.live u (ROWS + r) && not (ghosts.live w (ROWS + r))) ROWS
        (λ r. ghosts.kind w ((ROWS + r) / ROWS)) (λ r _. none_ends (ROWS + r))

  -- one ended, and is held
  pub held_ends : (a : ℕ) → a < BLOCKS * ROWS → v.held ≡ [] → ghosts.live u (ROWS + a) ≡ true
      → ghosts.live w (ROWS + a) ≡ false → ((y : ℕ) → y ≢ ROWS + a → ghosts.live w y ≡ ghosts.live u y)
      → (gave_back ghosts u w v).held ≡ (ROWS + a, ghosts.kind w ((ROWS + a) / ROWS)) ∷ []
  unfolding ended slot_count
  held_ends a low empty was off others =
      ap (λ h. filter (λ (p : ℕ × ℕ). not (ghosts.live w p.0)) h ++ ended slot_count) empty
      ∙ picks_one slot_count a (λ r. ghosts.live u (ROWS + r) && not (ghosts.live w (ROWS + r))) ROWS
      (λ r. ghosts.kind w ((ROWS + r) / ROWS)) low
      (λ r _. elim (cases_eq r a) [
        | inl here ↦ (
            ap (λ q. ghosts.live u (ROWS + q) && not (ghosts.live w (ROWS + q))) here
            ∙ ap (λ b. b && not (ghosts.live w (ROWS + a))) was ∙ ap not off ∙ sym (eq-eqb r a here))
        | inr apart ↦ (
            ap (λ b. ghosts.live u (ROWS + r) && not b) (others (ROWS + r) (λ e. apart (omega (arith, e))))
            ∙ both_off (ghosts.live u (ROWS + r)) ∙ sym (ne_eqb r a apart))
      ])
