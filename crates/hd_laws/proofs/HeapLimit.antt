-- The heap is within its limit, and found full only where it is.
use Rattle.hd_model.specs.{declared.command.Cmd.Cmd, declared.data.Entry.Entry, declared.data.Id.Id, declared.data.Refusal.Refusal, declared.data.Reply.Reply}
use Rattle.hd_model.proofs.Basics.{Bool, IsOutcome, IsWellFormed, List, None, Numbers, Object, Option, Outcome, Some, State, StepOf, [], reply_with, ap, arith, cases_lt, cond, entries, false, fresh_object, get, insert, last_serial, le_trans, len-empty, len-entries, length, length-replicate, length-set, ltb-false, ltb-true, map, nat_cmp, new_object, object_by_id, option_map, refl, refuses, register_of, size_of, start_of, subst, sum_by, survivor, sym, total_size, true, values, ℕ, ⊎_elim, ◌+◌, ◌<◌, ◌^◌, ◌∙◌, ◌∷◌, ◌≡◌, ◌≤◌}
use Rattle.hd_laws.proofs.Basics.{HeapIsWithinItsLimit, NewIsRefusedWhereFull, NewReturns}
use Rattle.hd_model.proofs.{Outcomes.test_cases, StepChains.chain_keeps, RunCounts.fresh, WellFormedSteps.step_keeps, WellFormedSteps.start_is_well_formed, StateReadBack.step_of, ObjectWriteFrames.there}
use Rattle.hd_model.proofs.Sums.{share, sum-insert, sum-le}
use Rattle.hd_model.proofs.Effects.{Effect, makes_object, sets_field, sets_value, suppresses, reregisters, collects, effect, next_identity, with_field}
use Rattle.hd_model.specs.declared.data.Refusal.TheVariants as refusal
use Rattle.hd_model.specs.declared.data.Reply.TheVariants as reply
use Rattle.hd_model.specs.declared.command.Cmd.TheVariants as cmd

module _ (n : Numbers) (s : State) (e : Entry) (t : State) (d fields : ℕ) (fin : Bool) where
  abbrev whole : ℕ
  whole = total_size s + (fields + 3)

  -- what `new` returns, by the test of the size
  returned : (P : Outcome → Type 0) → (n.heap < whole
      → P (refuses (refusal.HeapFull (total_size s) (fields + 3)) s))
      → (whole ≤ n.heap → (after : State) → P (reply_with (reply.Object (next_identity s e.caller)) after))
      → P (new_object n s e.caller d fields fin)
  returned P full fits =
      test_cases P _ _ _ (λ on. full (let over = ltb-true _ _ on in omega arith))
      (λ off. fits (let within = ltb-false _ _ off in omega arith) _)

  new_returns : IsOutcome e (new_object n s e.caller d fields fin) t → NewReturns n s e fields
  new_returns comes = record {
    fits = λ low. comes.reply ∙ returned (λ o. o.reply ≡ reply.Object (next_identity s e.caller))
        (λ high. absurd (omega arith)) (λ _ after. refl);
    full = λ high. comes.reply
        ∙ returned (λ o. o.reply ≡ reply.Refused (refusal.HeapFull (total_size s) (fields + 3))) (λ _. refl)
        (λ low. absurd (omega arith));
  }

pub new_is_refused_where_full : NewIsRefusedWhereFull
new_is_refused_where_full n s t e d fields fin step is =
    new_returns n s e t d fields fin (step_of n s e t (cmd.New d fields fin) step is).1

not_refused : {r : Reply} {id : Id} {why : Refusal} → r ≡ reply.Object id → r ≡ reply.Refused why → ⊥
not_refused a b = cc

module _ (n : Numbers) (s : State) (w : IsWellFormed n s) (e : Entry) where
  -- an object replaced by one of the same size
  same_size : (o : ℕ) (id : Id) (x : Object Id) → register_of s e.caller o ≡ Some id
      → length x.fields ≡ length (object_by_id s id).fields
      → sum_by size_of (values (insert s.objects id.0 x)) ≡ total_size s
  same_size o id x named same =
      let put = sum-insert size_of s.objects id.0 x in
      let was : share size_of (get s.objects id.0) ≡ length (object_by_id s id).fields + 3 =
      ap (share size_of) (there n s e.caller o id w named) in
      omega arith

  new_size : (d fields : ℕ) (fin : Bool) (t : State) → last_serial s e.caller + 1 < 2 ^ 32
      → e.reply ≡ reply.Object (next_identity s e.caller)
      → IsOutcome e (new_object n s e.caller d fields fin) t
      → sum_by size_of (values (insert s.objects (next_identity s e.caller).0
      (fresh_object fields fin))) ≤ n.heap
  new_size d fields fin t small made comes =
      let put = sum-insert size_of s.objects (next_identity s e.caller).0 (fresh_object fields fin) in
      let was : share size_of (get s.objects (next_identity s e.caller).0) ≡ 0 =
      ap (share size_of) (fresh n s e.caller w small) in
      let long : length (fresh_object fields fin).fields ≡ fields = length-replicate fields None in
      let low : total_size s + (fields + 3) ≤ n.heap =
      ⊎_elim (λ high. absurd (not_refused made ((new_returns n s e t d fields fin comes).full high)))
      (λ low. low) (cases_lt n.heap (total_size s + (fields + 3))) in
      omega arith

  left_share : (k : ℕ) (kept resurrected : Bool) (o : Option (Object Id))
      → share size_of (cond kept (option_map (survivor k resurrected) o) None) ≤ share size_of o
  left_share k true resurrected None = omega arith
  left_share k true resurrected (Some x) = omega arith
  left_share k false resurrected o = omega arith

  within : (c : Cmd) (t : State) → StepOf n s e t c → Effect n s e c t → total_size s ≤ n.heap
      → total_size t ≤ n.heap
  within c t does (makes_object {d = d} {fields = fields} {fin = fin} small p) low =
      new_size d fields fin t small p does.1
  within c t does (sets_field {o = o} {i = i} {v = v} id f l p) low =
      let same = same_size o id (with_field (object_by_id s id) i (register_of s e.caller v)) f
      (length-set (object_by_id s id).fields i (register_of s e.caller v)) in
      omega arith
  within c t does (sets_value {o = o} {v = v} id f p) low =
      let same = same_size o id (record (object_by_id s id) { value = v }) f refl in
      omega arith
  within c t does (suppresses {o = o} id f p) low =
      let same = same_size o id (record (object_by_id s id) { registered = false }) f refl in
      omega arith
  within c t does (reregisters {o = o} id f p) low =
      let same = same_size o id (record (object_by_id s id) { registered = true }) f refl in
      omega arith
  within c t does (collects {k = k} did) low =
      le_trans (sum-le size_of t.objects s.objects (λ q.
      let id : Id = record { 0 = q } in
      subst (λ x. share size_of x ≤ share size_of (get s.objects q)) (sym (did.collects.scene.objects id))
      (left_share k (did.collects.scene.kept id) (did.collects.scene.resurrected id) (get s.objects q)))) low
  within c t does _ low = low

nothing : (es : List (ℕ × Object Id)) → length es ≡ 0 → sum_by size_of (map (λ x. x.1) es) ≡ 0
nothing [] h = refl
nothing (x ∷ es) h = absurd (omega arith)

-- nothing is there at the start
pub start_total : (n : Numbers) → total_size (start_of n) ≡ 0
start_total n =
    nothing (entries (start_of n).objects) (sym (len-entries (start_of n).objects)
    ∙ len-empty nat_cmp (Object Id))

pub heap_is_within_its_limit : HeapIsWithinItsLimit
heap_is_within_its_limit n journal s run =
    (chain_keeps (λ x. IsWellFormed n x × (total_size x ≤ n.heap))
    (λ x e y step w. (
      step_keeps n x y e w.0 step,
      within n x w.0 e e.cmd y step.does (effect n x e y step) w.1,
    ))
    run (start_is_well_formed n, (let none = start_total n in omega arith))).1
