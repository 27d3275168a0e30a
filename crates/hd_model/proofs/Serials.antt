-- A caller has made at most as many objects, and a count is at most as high, as the journal has entries.
use Rattle.hd_model.proofs.Basics.{Bool, Chain, Cmd, Entry, Extra, Handle, Id, IsSomeAnd, IsWellFormed, List, None, Numbers, Option, Run, Slot, Some, State, Step, arith, cond, count, count_of, false, get, get-empty, get_or, handle_at, is_attaching, is_lost, last_serial, le_refl, length, link, nat_cmp, none-some, nothing, role, secondary, start_of, stay, strength, subst, sym, true, without_secondary, ℕ, ◌&&◌, ◌+◌, ◌∙◌, ◌≡◌, ◌≤◌}
use Rattle.hd_model.proofs.{KindTests.made_count, WellFormedSteps.step_keeps, WellFormedSteps.start_is_well_formed, ReadAfterWrite.set_cases, ReadAfterWrite.replicate_cases}
use Rattle.hd_model.proofs.StepWrites.{HandleChange, handle_stays, is_made, target_is_set, extra_is_set, SetsExtra, by_secondary, by_strength, by_raise, by_lower, is_freed, is_collected, handle_change}
use Rattle.hd_model.proofs.Effects.{Effect, makes_object, collects, effect}

-- a step raises a serial by at most one
serial_step : (n : Numbers) (s : State) (e : Entry) (c : Cmd) (t : State) (k : ℕ) → Effect n s e c t
    → last_serial t k ≤ last_serial s k + 1
serial_step n s e c t k (makes_object small replies) =
    set_cases (λ x. x ≤ last_serial s k + 1) s.serials e.caller k (last_serial s e.caller + 1) 0
    (λ same. subst (λ j. last_serial s e.caller + 1 ≤ last_serial s j + 1) (sym same) (le_refl _))
    (omega arith)
serial_step n s e c t k (collects did) = subst (λ (x : List ℕ). get_or x k 0 ≤ last_serial s k + 1)
    (sym did.collects.serials) (omega arith)
serial_step n s e c t k _ = omega arith

serials_grow : (n : Numbers) (k : ℕ) {s t : State} {es : List Entry} → Chain (Step n) s es t
    → last_serial t k ≤ last_serial s k + length es
serials_grow n k stay = omega arith
serials_grow n k (link {s = s} {t = t} {e = e} step rest) =
    let first : last_serial t k ≤ last_serial s k + 1 = serial_step n s e e.cmd t k (effect n s e t step) in
    let others = serials_grow n k rest in
    omega arith

pub last_serial-le : (n : Numbers) (journal : List Entry) (s : State) (c : ℕ) → Run n journal s
    → last_serial s c ≤ length journal
last_serial-le n journal s c run =
    let none : last_serial (start_of n) c ≤ 0 = replicate_cases (λ x. x ≤ 0) n.callers c 0 0 (le_refl 0)
    (le_refl 0) in
    let grown = serials_grow n c run in
    omega arith

-- each count is at most k
abbrev CountsWithin : ℕ → State → Type 0
CountsWithin k s = (slot : Slot) (handle : Handle Id) → get s.handles slot.0 ≡ Some handle
    → count_of handle.extra ≤ k

without_count : (x : Extra Id) → count_of (without_secondary x) ≤ count_of x
without_count nothing = omega arith
without_count (strength x) = omega arith
without_count (secondary o) = omega arith
without_count (count c) = omega arith

cleared_count : (b : Bool) (x : Extra Id) → count_of (cond b (secondary None) x) ≤ count_of x
cleared_count true x = omega arith
cleared_count false x = omega arith

-- a step raises a count by at most one
module _ (k : ℕ) (s : State) (e : Entry) (slot : Slot) (within : CountsWithin k s) where
  there : (o : Option (Handle Id)) (P : Handle Id → Type 0) → IsSomeAnd o P → (handle : Handle Id)
      → o ≡ Some handle → P handle
  there o P h handle is = subst (λ x. IsSomeAnd x P) is h

  set_count : {c : Cmd} {h : ℕ} (handle : Handle Id) (x : Extra Id) → count_of handle.extra ≤ k
      → SetsExtra s e handle c h x → count_of x ≤ k + 1
  set_count handle x low (by_secondary done) = omega arith
  set_count handle x low (by_strength done) = omega arith
  set_count handle x low (by_raise done) = omega arith
  set_count handle x low (by_lower done) = omega arith

  count_after : (c : Cmd) (o : Option (Handle Id)) → HandleChange s e slot c o → (handle : Handle Id)
      → o ≡ Some handle → count_of handle.extra ≤ k + 1
  count_after c o handle_stays handle is = let low = within slot handle is in omega arith
  count_after c o (is_made {t = r} {given = given} given_is done none) handle' is =
      there _ (λ h. count_of h.extra ≤ k + 1) (let low = made_count s e.caller given r in omega arith) handle'
      is
  count_after c o (target_is_set handle f done) handle' is =
      there _ (λ h. count_of h.extra ≤ k + 1) (let low = within slot handle f.live in let less =
      without_count handle.extra in omega arith) handle' is
  count_after c o (extra_is_set handle f fits sets) handle' is =
      there _ (λ h. count_of h.extra ≤ k + 1) (set_count handle _ (within slot handle f.live) sets) handle' is
  count_after c o (is_freed handle f done) handle' is = absurd (none-some handle' is)
  count_after c o (is_collected reach kept handle live) handle' is =
      there _ (λ h. count_of h.extra ≤ k + 1) (let low = within slot handle live in let less =
      cleared_count (is_attaching (role handle) && is_lost kept handle.target) handle.extra in omega arith)
      handle' is

counts_grow : (n : Numbers) (k : ℕ) {s t : State} {es : List Entry} → IsWellFormed n s → CountsWithin k s
    → Chain (Step n) s es t → CountsWithin (k + length es) t
counts_grow n k w within stay = λ slot handle is. let low = within slot handle is in omega arith
counts_grow n k w within (link {s = s} {t = t} {u = u} {e = e} {es = es} step rest) =
    let first : CountsWithin (k + 1) t = λ slot. count_after k s e slot within e.cmd (get t.handles slot.0)
    (handle_change n s w e slot e.cmd t (effect n s e t step)) in
    let others : CountsWithin ((k + 1) + length es) u =
    counts_grow n (k + 1) (step_keeps n s t e w step) first rest in
    λ slot handle is. let low = others slot handle is in omega arith

pub count-le : (n : Numbers) (journal : List Entry) (s : State) (slot : Slot) (handle : Handle Id)
    → Run n journal s → handle_at s slot ≡ Some handle → count_of handle.extra ≤ length journal
count-le n journal s slot handle run is =
    let low = counts_grow n 0 (start_is_well_formed n)
    (λ x h e. absurd (none-some h (sym (get-empty nat_cmp x.0) ∙ e))) run slot handle is in
    omega arith
