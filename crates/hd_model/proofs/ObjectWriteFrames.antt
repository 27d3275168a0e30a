-- What each object under an identity has stays, where each command that writes objects leaves it.
use Rattle.hd_model.proofs.Basics.{Bool, Cmd, DoesCollect, Entry, Id, IsSome, IsWellFormed, None, Numbers, Object, Option, Some, State, ap, arith, cond, false, get, insert, is_some, last_serial, le_trans, none-some, object_by_id, option_map, refl, register_of, same_Some, subst, survivor, sym, true, true≢false, unwrap_or, ℕ, ◌%◌, ◌+◌, ◌/◌, ◌<◌, ◌^◌, ◌∙◌, ◌≡◌, ◌≤◌}
use Rattle.hd_model.proofs.{ReadAfterWrite.write_cases, StepWrites.same_id, StepWrites.serials_rise, WellFormedSteps.has}
use Rattle.hd_model.proofs.Effects.{Effect, makes_object, sets_field, sets_value, suppresses, reregisters, collects, next_identity, with_field}
use Rattle.hd_model.specs.declared.data.Reply.TheVariants as reply
use Rattle.hd_model.specs.declared.command.Cmd.TheVariants as cmd

-- an identity that was given, and what the object under it has, if it is not gone
pub record Holds (s : State) (id : Id) (P : Object Id → Type 0) : Type 0 where
  pub given : id.0 % 2 ^ 32 ≤ last_serial s (id.0 / 2 ^ 32)
  pub each : (x : Object Id) → get s.objects id.0 ≡ Some x → P x

-- an identity of an object was given
pub given_of_object : (n : Numbers) (s : State) (id : Id) (x : Object Id) → IsWellFormed n s
    → get s.objects id.0 ≡ Some x → id.0 % 2 ^ 32 ≤ last_serial s (id.0 / 2 ^ 32)
given_of_object n s id x w is = w.serials.to_last id.0 (ap is_some is)

-- the object that a register references
pub there : (n : Numbers) (s : State) (c o : ℕ) (id : Id) → IsWellFormed n s → register_of s c o ≡ Some id
    → get s.objects id.0 ≡ Some (object_by_id s id)
there n s c o id w named = by (get s.objects id.0) _ (has n s c o id w named)
  where
    by : {A : Type 0} (x : Option A) (d : A) → IsSome x → x ≡ Some (unwrap_or x d)
    by None d h = absurd (true≢false (sym h))
    by (Some x) d h = refl

-- an identity that was given is not the next one
next_apart : (s : State) (caller : ℕ) (id : Id) → last_serial s caller + 1 < 2 ^ 32
    → id.0 % 2 ^ 32 ≤ last_serial s (id.0 / 2 ^ 32) → id ≡ next_identity s caller → ⊥
next_apart s caller id small given same =
    let here : id.0 ≡ (next_identity s caller).0 = ap (λ (x : Id). x.0) same in
    let owner : id.0 / 2 ^ 32 ≡ caller = omega arith in
    let number : id.0 % 2 ^ 32 ≡ last_serial s caller + 1 = omega arith in
    let past : id.0 % 2 ^ 32 ≤ last_serial s caller =
    subst (λ k. id.0 % 2 ^ 32 ≤ last_serial s k) owner given in
    omega arith

-- what the commands that write objects leave to the object under an identity
pub record Leaves (s : State) (e : Entry) (id : Id) (P : Object Id
    → Type 0) (c : Cmd) (t : State) : Type 0 where
  pub field : (o i v : ℕ) (x : Object Id) → c ≡ cmd.Set o i v → P x
      → P (with_field x i (register_of s e.caller v))
  pub value : (x : Object Id) (v : ℕ) → P x → P (record x { value = v })
  pub off : (o : ℕ) (x : Object Id) → c ≡ cmd.Suppress o → register_of s e.caller o ≡ Some id
      → e.reply ≡ reply.Done → P x → P (record x { registered = false })
  pub on : (o : ℕ) (x : Object Id) → c ≡ cmd.Reregister o → register_of s e.caller o ≡ Some id
      → e.reply ≡ reply.Done → P x → P (record x { registered = true })
  pub collected : (k : ℕ) (did : DoesCollect s e t k) (x : Object Id) → c ≡ cmd.Collect k
      → get s.objects id.0 ≡ Some x → P x → P (survivor k (did.collects.scene.resurrected id) x)

module _ (n : Numbers) (s : State) (w : IsWellFormed n s) (e : Entry) (id : Id) (P : Object Id → Type 0) where
  -- an object that a register references is written
  written : (o : ℕ) (other : Id) (y : Object Id) → register_of s e.caller o ≡ Some other
      → (other ≡ id → P (object_by_id s other) → P y) → Holds s id P → (x : Object Id)
      → get (insert s.objects other.0 y) id.0 ≡ Some x → P x
  written o other y named leaves had x =
      write_cases s.objects other.0 (λ z. z ≡ Some x → P x) y id.0
      (λ same is. subst P (same_Some y x is)
      (leaves (sym (same_id id other same))
      (had.each (object_by_id s other) (subst (λ (q : ℕ). get s.objects q ≡ Some (object_by_id s other))
      (sym same) (there n s e.caller o other w named)))))
      (had.each x)

  pub collected : (k : ℕ) (kept resurrected : Bool) (o : Option (Object Id)) (x : Object Id)
      → ((y : Object Id) → o ≡ Some y → P (survivor k resurrected y))
      → cond kept (option_map (survivor k resurrected) o) None ≡ Some x → P x
  collected k true resurrected (Some y) x leaves is = subst P (same_Some _ x is) (leaves y refl)
  collected k true resurrected None x leaves is = absurd (none-some x is)
  collected k false resurrected o x leaves is = absurd (none-some x is)

  object_after : (c : Cmd) (t : State) → Effect n s e c t → Leaves s e id P c t → Holds s id P
      → (x : Object Id) → get t.objects id.0 ≡ Some x → P x
  object_after c t (makes_object small p) l had =
      λ x. write_cases s.objects (next_identity s e.caller).0 (λ z. z ≡ Some x → P x) _ id.0
      (λ same. absurd (next_apart s e.caller id small had.given (same_id id (next_identity s e.caller) same)))
      (had.each x)
  object_after c t (sets_field {o = o} {i = i} {v = v} other f within p) l had =
      written o other _ f (λ _ h. l.field o i v _ refl h) had
  object_after c t (sets_value {o = o} {v = v} other f p) l had =
      written o other _ f (λ _ h. l.value _ v h) had
  object_after c t (suppresses {o = o} other f p) l had =
      written o other _ f (λ same h. l.off o _ refl (f ∙ ap Some same) p h) had
  object_after c t (reregisters {o = o} other f p) l had =
      written o other _ f (λ same h. l.on o _ refl (f ∙ ap Some same) p h) had
  object_after c t (collects {k = k} did) l had =
      λ x is. collected k (did.collects.scene.kept id) (did.collects.scene.resurrected id)
      (get s.objects id.0) x (λ y there. l.collected k did y refl there (had.each y there))
      (sym (did.collects.scene.objects id) ∙ is)
  object_after c t _ l had = had.each

  pub holds_on : (c : Cmd) (t : State) → Effect n s e c t → Leaves s e id P c t → Holds s id P → Holds t id P
  holds_on c t does l had = record {
    given = le_trans had.given (serials_rise n s e c t (id.0 / 2 ^ 32) does);
    each = object_after c t does l had;
  }
