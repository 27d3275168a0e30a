-- What follows a pass over the due rows: the handles that it left waiting, and the closure that comes of it.
use Rattle.hd_dep.proofs.Basics.{Addr, AreObjects, AreWaiting, Bool, CLUMP, Contains-append_left, Contains-permutation, Contains-push_cases, DueRows, Ends, Gives, Grows, Handle, HasJoined, HasParts, Heap, IsEdge, IsFollowed, IsGathered, IsOn, IsPermutation, IsPermutation-sym, IsPromotionLog, IsSettled, IsTable, IsUnderway, IsVisited, IsWaitingEdge, IsYoungField, List, Objects, OfVisited, Slot, Some, Spreads, Table, Waiting, Waits, [], ap, arith, begins, both_ways, cases_Bool, cases_eq, cases_lt, chain_of, clumps_to_come, due_clumps, due_slots, false, fewer, fewer_left, generation_at, get_or, get_or-take, get_or_from_slice_get, goes_on, inl, inr, length, length-take, live_at, live_row, not_in_none, object_at, row_at, row_live, row_of_kind, same_Some, slice_get, slice_get-get_or, slice_get_within, slots_few, slots_to_come, subst, sym, take, take-take, take_all, true, waiting_row, ℕ, ⊎_elim, ◌*◌, ◌+◌, ◌-◌, ◌<◌, ◌∙◌, ◌∷◌, ◌≡◌, ◌≤◌, ◌⊎◌}
use Rattle.hd_model.specs.Names.{NamesObjects}
use Rattle.hd_model.proofs.Basics.{length-append}
use Rattle.hd_dep.proofs.DueHandles.{attaches_by, OfPast, none_past, past_more, past_all}
use Rattle.hd_dep.proofs.RescanPasses.{addresses, listed}
use Rattle.hd_dep.proofs.SecondarySpread.{spreads_none, spreads_on, spreads_like, grows_spread, young_edge}
use Rattle.hd_model.specs.declared.data.Kind.TheVariants as kind

-- ---- one pass

module _ (o : Objects Addr) (n : ℕ) (t : Table) (ages : List ℕ) (p0 : Addr → Bool) (room : ℕ) where
  -- along a pass: each handle that was visited has its secondary promoted, or waits
  pub record IsGathering (w : DueRows) (before steps : ℕ) (rows : List Waiting) (p : Addr → Bool)
      : Type 0 where
    pub under : IsUnderway t ages n kind.Dependent t w (before, steps)
    pub spreads : Spreads (IsEdge o (row_at t)) p0 p
    pub waiting : AreWaiting (row_at t) p0 rows
    pub visited : OfPast t ages n w (λ h. IsVisited h rows p)
    pub few : length rows + length (slots_to_come t ages w) ≤ room

module _ {o : Objects Addr} {n : ℕ} {t : Table} {ages : List ℕ} {p0 : Addr → Bool} {room : ℕ} where
  pub gather_start : IsTable t → {w : DueRows} {before : ℕ} → IsOn t w
      → slots_to_come t ages w ≡ due_slots t ages n kind.Dependent
      → clumps_to_come t ages w ≡ due_clumps ages n (chain_of t kind.Dependent)
      → CLUMP * length (due_clumps ages n (chain_of t kind.Dependent)) ≤ room
      → (rows : List Waiting) → rows ≡ [] → IsGathering o n t ages p0 room w before before rows p0
  gather_start is {w} {before} on slots clumps fits rows none = record {
    under = begins t ages n kind.Dependent is w slots before on clumps;
    spreads = spreads_none (IsEdge o (row_at t)) p0;
    waiting = λ x y is_queued. absurd (not_in_none _ (subst (λ rs. Waits rs x y) none is_queued));
    visited = none_past t ages n w (λ h. IsVisited h rows p0) is slots;
    few = (let known = slots_few t (due_clumps ages n (chain_of t kind.Dependent)) in
        omega (arith, fits, ap length none, ap length slots, known));
  }

  module _ {old new : DueRows} {slot : Slot} {before steps : ℕ} {rows : List Waiting} {p : Addr → Bool}
      (s : IsGathering o n t ages p0 room old before steps rows p) (gives : Gives t ages old new slot) where
    -- there is room for one more
    pub gather_room : length rows < room
    gather_room = let f = s.few in let l = fewer_left s.under gives in omega arith

    module _ {q : Addr → Bool} {after_rows : List Waiting} (spreads : Spreads (IsEdge o (row_at t)) p q)
        (joined : (after_rows ≡ rows) ⊎ HasJoined (live_at t slot.0) p rows after_rows) where
      still : (x y : Addr) → Waits rows x y → Waits after_rows x y
      still x y is_queued =
          ⊎_elim (λ e. subst (λ rs. Waits rs x y) (sym e) is_queued)
          (λ (j : HasJoined (live_at t slot.0) p rows after_rows).
          subst (λ rs. Waits rs x y) (sym j.rows) (Contains-append_left rows _ (waiting_row x y) is_queued))
          joined

      -- each that waits did so before, or has joined
      waiting_after : AreWaiting (row_at t) p0 after_rows
      waiting_after x y is_queued =
          ⊎_elim (λ e. s.waiting x y (subst (λ rs. Waits rs x y) e is_queued))
          (λ (j : HasJoined (live_at t slot.0) p rows after_rows).
          ⊎_elim (s.waiting x y)
          (λ (last : waiting_row j.target j.secondary ≡ waiting_row x y). (
            record {
              slot = slot.0;
              handle = live_at t slot.0;
              is_stored = live_row t slot.0 (row_live s.under gives);
              attaches = attaches_by (live_at t slot.0) (row_of_kind s.under gives);
              target = j.parts.target ∙ ap (λ (w : Waiting). Some w.target) last;
              secondary = j.parts.secondary ∙ ap (λ (w : Waiting). Some w.secondary) last;
            },
            ⊎_elim
                (λ was. absurd (both_ways (p x) (ap (λ (w : Waiting). p w.target) (sym last) ∙ j.lost)
                (s.spreads.keeps x was)))
                (λ wasnt. wasnt) (cases_Bool (p0 x)),
          ))
          (Contains-push_cases rows (waiting_row j.target j.secondary) (waiting_row x y)
          (subst (λ rs. Waits rs x y) j.rows is_queued)))
          joined

      longer : length after_rows ≤ length rows + 1
      longer =
          ⊎_elim (λ e. omega (arith, ap length e))
          (λ (j : HasJoined (live_at t slot.0) p rows after_rows).
          omega (arith, ap length j.rows, length-append rows (waiting_row j.target j.secondary ∷ [])))
          joined

      pub gather_row : {after : ℕ} → IsOn t new
          → after + length (clumps_to_come t ages new) ≡ steps + length (clumps_to_come t ages old)
          → IsVisited (live_at t slot.0) after_rows q
          → IsGathering o n t ages p0 room new before after after_rows q
      gather_row on counted row = record {
        under = goes_on s.under gives on counted;
        spreads = spreads_on (IsEdge o (row_at t)) p0 p q s.spreads spreads;
        waiting = waiting_after;
        visited = past_more s.under s.visited gives (λ h. IsVisited h after_rows q)
            (λ h done x y parts.
            ⊎_elim (λ promoted. inl (spreads.keeps y promoted)) (λ is_queued. inr (still x y is_queued))
            (done x y parts)) row;
        few = omega (arith, s.few, longer, fewer_left s.under gives);
      }

  pub gather_end : {old new : DueRows} {before steps : ℕ} {rows : List Waiting} {p : Addr → Bool}
      → IsGathering o n t ages p0 room old before steps rows p → Ends t ages old new
      → IsGathered t ages n p0 rows p
  gather_end s ends = record { waiting = s.waiting; visited = past_all s.under s.visited ends }

-- the same in another order
pub gathered_sorted : (t : Table) (ages : List ℕ) (n : ℕ) (p q : Addr → Bool) (rows sorted : List Waiting)
    → {lent : List Waiting} → IsPermutation rows sorted → lent ≡ sorted → IsGathered t ages n p rows q
    → IsGathered t ages n p lent q
gathered_sorted t ages n p q rows sorted moves is s =
    subst (λ ws. IsGathered t ages n p ws q) (sym is) (record {
      waiting = λ x y is_queued.
          s.waiting x y (Contains-permutation sorted rows (waiting_row x y)
          (IsPermutation-sym rows sorted moves) is_queued);
      visited = λ slot h is_stored role_is due x y parts. ⊎_elim (λ promoted. inl promoted)
          (λ is_queued. inr (Contains-permutation rows sorted (waiting_row x y) moves is_queued))
          (s.visited slot h is_stored role_is due x y parts);
    })

-- what a visit leaves of a handle whose secondary is promoted, and of one that waits
module _ (h : Handle Addr) (rows : List Waiting) (p : Addr → Bool) (a b : Addr) (parts : HasParts h a b) where
  pub visited_promoted : p b ≡ true → IsVisited h rows p
  visited_promoted promoted x y at =
      inl (subst (λ c. p c ≡ true) (same_Some b y (sym parts.secondary ∙ at.secondary)) promoted)

  pub visited_waits : Waits rows a b → IsVisited h rows p
  visited_waits is_queued x y at =
      inr (subst (λ c. Waits rows x c) (same_Some b y (sym parts.secondary ∙ at.secondary))
      (subst (λ c. Waits rows c b) (same_Some a x (sym parts.target ∙ at.target)) is_queued))

-- ---- what was promoted since the pass began

-- what a list has stays where more follows
pub got_before : (log more : List Addr) → take (length log) more ≡ log → (k : ℕ) (x : Addr) → k < length log
    → slice_get more k ≡ Some x → slice_get log k ≡ Some x
got_before log more kept k x lt got =
    slice_get-get_or log k x lt
    ∙ ap (λ y. Some y) (ap (λ xs. get_or xs k x) (sym kept) ∙ get_or-take (length log) more k x lt
    ∙ get_or_from_slice_get more k x x got)

kept_long : (first log : List Addr) → take (length first) log ≡ first → length first ≤ length log
kept_long first log kept = omega (arith, ap length kept, length-take (length first) log)

pub kept_on : {first log : List Addr} (more : List Addr) → take (length first) log ≡ first
    → take (length log) more ≡ log → take (length first) more ≡ first
kept_on {first} {log} more kept on =
    sym (take-take (length first) (length log) more (kept_long first log kept))
    ∙ ap (take (length first)) on ∙ kept

module _ (o : Objects Addr) (n start : ℕ) (rows : List Waiting) (log0 : List Addr) (p0 : Addr → Bool) where
  -- the secondaries of what was looked up are promoted
  pub record IsFollowing (next : ℕ) (log : List Addr) (p : Addr → Bool) : Type 0 where
    pub spreads : Spreads (IsWaitingEdge o n rows) p0 p
    pub kept : take (length log0) log ≡ log0
    pub within : next ≤ length log
    pub followed : (k : ℕ) (x y : Addr) → start ≤ k → k < next → slice_get log k ≡ Some x → Waits rows x y
        → p y ≡ true

  pub follow_start : start ≤ length log0 → IsFollowing start log0 p0
  follow_start le = record {
    spreads = spreads_none (IsWaitingEdge o n rows) p0;
    kept = take_all (length log0) log0 (omega arith);
    within = le;
    followed = λ k x y low high. absurd (omega arith);
  }

  pub follow_on : (next : ℕ) (log more : List Addr) (p q : Addr → Bool) (x : Addr) → IsFollowing next log p
      → next < length log → slice_get log next ≡ Some x → p x ≡ true
      → Grows (IsYoungField o n) (Waits rows x) p q
      → take (length log) more ≡ log → IsFollowing (next + 1) more q
  follow_on next log more p q x s lt got promoted grows kept = record {
    spreads = spreads_on (IsWaitingEdge o n rows) p0 p q s.spreads
        (grows_spread (IsYoungField o n) (IsWaitingEdge o n rows) (λ a b e. inl e) (Waits rows x) p q x
        promoted
        (λ y is_queued. inr is_queued) grows);
    kept = kept_on more s.kept kept;
    within = let l = kept_long log more kept in omega arith;
    followed = λ k a y low high found is_queued. ⊎_elim
        (λ e. let here : x ≡ a =
        same_Some x a (sym got ∙ got_before log more kept next a lt
        (subst (λ j. slice_get more j ≡ Some a) e found)) in
        grows.joins y (subst (λ b. Waits rows b y) (sym here) is_queued))
        (λ ne. let below : k < next = omega arith in
        grows.keeps y
        (s.followed k a y low below (got_before log more kept k a (omega arith) found) is_queued))
        (cases_eq k next);
  }

  pub follow_end : (next : ℕ) (log : List Addr) (p : Addr → Bool) → IsFollowing next log p → length log ≤ next
      → (k : ℕ) (x y : Addr) → start ≤ k → slice_get log k ≡ Some x → Waits rows x y → p y ≡ true
  follow_end next log p s le k x y low got is_queued =
      let lt = slice_get_within log k x got in s.followed k x y low (omega arith) got is_queued

-- each look-up leaves fewer objects
pub fewer_to_follow : (h : Heap) (n : ℕ) (p : Addr → Bool) (log : List Addr) (next : ℕ)
    → IsPromotionLog (object_at h) n p log → next < length log
    → length (addresses h) - (next + 1) < length (addresses h) - next
fewer_to_follow h n p log next is lt =
    let few = fewer log (addresses h) is.apart (λ x inside. listed h x (is.each x inside).0.object) in
    omega arith

-- ---- the closure

module _ (o : Objects Addr) (n : ℕ) (t : Table) (ages : List ℕ) (p0 p1 : Addr → Bool) (rows : List Waiting)
    (gathered : IsGathered t ages n p0 rows p1) (names : NamesObjects o (row_at t)) where
  -- each waits for its secondary to be promoted, which is an object
  pub queued_objects : AreObjects o rows
  queued_objects x y is_queued =
      let a = (gathered.waiting x y is_queued).0 in
      names.secondaries a.slot a.handle y a.is_stored a.secondary

  pub both_spread : (p2 : Addr → Bool) → Spreads (IsEdge o (row_at t)) p0 p1
      → Spreads (IsWaitingEdge o n rows) p1 p2 → Spreads (IsEdge o (row_at t)) p0 p2
  both_spread p2 first second =
      spreads_on (IsEdge o (row_at t)) p0 p1 p2 first
      (spreads_like (IsWaitingEdge o n rows) (IsEdge o (row_at t))
      (λ x y. ⊎_elim (young_edge o n t x y) (λ is_queued. inr (gathered.waiting x y is_queued).0))
      p1 p2 second)

  pub followed_at_last : (p2 : Addr → Bool) (log0 log2 : List Addr) → IsSettled o n p0
      → IsPromotionLog o n p0 log0 → IsPromotionLog o n p2 log2
      → take (length log0) log2 ≡ log0 → ((z : Addr) → p1 z ≡ true → p2 z ≡ true)
      → ((k : ℕ) (x y : Addr) → length log0 ≤ k → slice_get log2 k ≡ Some x → Waits rows x y → p2 y ≡ true)
      → OfVisited (row_at t) ages n (λ h. IsFollowed h p2)
  followed_at_last p2 log0 log2 settled first last kept keeps since slot h is_stored role_is due = record {
    follows = λ x y parts promoted. ⊎_elim (λ done. keeps y done)
        (λ is_queued. let lost : p0 x ≡ false = (gathered.waiting x y is_queued).1 in
        let young : generation_at o x ≤ n =
        ⊎_elim (λ old. absurd (both_ways (p0 x) lost (settled.older x old))) (λ le. le)
        (cases_lt n (generation_at o x)) in
        let inside = last.all x
        (record { object = names.targets slot h x is_stored parts.target; young = young }) promoted in
        let got : slice_get log2 inside.0 ≡ Some x =
        slice_get-get_or log2 inside.0 x inside.1 ∙ ap (λ a. Some a) inside.2 in
        ⊎_elim
        (λ early. let before = got_before log0 log2 kept inside.0 x early got in
        absurd (both_ways (p0 x) lost (first.each x (
          inside.0,
          early,
          get_or_from_slice_get log0 inside.0 x x before,
        )).1))
        (λ late. since inside.0 x y late got is_queued)
        (cases_lt inside.0 (length log0)))
        (gathered.visited slot h is_stored role_is due x y parts);
  }
