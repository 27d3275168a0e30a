-- Generation and registration are read back.
use Rattle.hd_model.specs.{declared.data.Entry.Entry, declared.data.Id.Id, declared.data.Reply.Reply}
use Rattle.hd_model.proofs.Basics.{Bool, Contains-append_cases, Contains-append_right, DoesCollect, IsOutcome, IsToBeFinalized, IsWellFormed, Numbers, Object, Option, Outcome, Some, State, Step, ap, false, fresh_object, get, insert, not, object_by_id, queued, read_generation, refl, register_of, same_Some, scene_of, subst, sym, true, true≢false, unwrap_or, ℕ, ⊎_elim, ◌&&◌, ◌++◌, ◌∙◌, ◌≡◌}
use Rattle.hd_laws.proofs.Basics.{GenReturnsTheGeneration, GenerationIsReadBack, GivesGeneration, GivesRegistration, IsCollection, IsDoneTo, JoinsBy, JoinsOnce, RegistrationIsKept, WritesRegistration, by_gen, by_joining, by_reregister, by_suppress, joins, reregisters, suppresses}
use Rattle.hd_model.specs.Leads.{here}
use Rattle.hd_model.proofs.{ReadAfterWrite.get_inserted, Members.member_same, OneState.done_or_refused, WellFormedSteps.step_keeps, Effects.Effect, Effects.refused, StepWrites.still}
use Rattle.hd_model.proofs.StateReadBack.{step_of, effect_of, on_object_is, new_put}
use Rattle.hd_model.proofs.ObjectWriteFrames.{Holds, given_of_object, there, collected, holds_on}
use Rattle.hd_model.specs.declared.data.Reply.TheVariants as reply
use Rattle.hd_model.specs.declared.command.Cmd.TheVariants as cmd
use Rattle.hd_laws.specs.UserLaws as law
use Rattle.hd_model.proofs.Effects as did

same_generation : {r : Reply} {g k : ℕ} → r ≡ reply.Generation g → r ≡ reply.Generation k → g ≡ k
same_generation a b = cc

-- what `gen` returns of the object that a register references
pub gen_is : (n : Numbers) (s t : State) (e : Entry) (o : ℕ) (id : Id) → Step n s e t → e.cmd ≡ cmd.Gen o
    → register_of s e.caller o ≡ Some id
    → (e.reply ≡ reply.Generation (object_by_id s id).generation) × (t ≡ s)
gen_is n s t e o id step is named =
    let comes : IsOutcome e (read_generation s e.caller o) t = step_of n s e t (cmd.Gen o) step is in
    let out = on_object_is s e.caller o _ id named in (
      comes.reply ∙ ap (λ (x : Outcome). x.reply) out,
      comes.after ∙ ap (λ (x : Outcome). x.after) out,
    )

pub has_it : {A : Type 0} (o : Option A) (x d : A) → o ≡ Some x → unwrap_or o d ≡ x
has_it o x d is = ap (λ y. unwrap_or y d) is

pub gen_returns_the_generation : GenReturnsTheGeneration
gen_returns_the_generation n s t e o id object step is named is_stored =
    let same : object_by_id s id ≡ object = has_it (get s.objects id.0) object _ is_stored in
    (gen_is n s t e o id step is named).0 ∙ ap (λ (x : Object Id). reply.Generation x.generation) same

-- the object after a `new`
made : (n : Numbers) (s : State) (e : Entry) (t : State) (d fields : ℕ) (fin : Bool) (id : Id)
    (P : Object Id → Type 0) → IsWellFormed n s → Step n s e t → e.cmd ≡ cmd.New d fields fin
    → e.reply ≡ reply.Object id → P (fresh_object fields fin) → Holds t id P
made n s e t d fields fin id P w step is returned p =
    let new = new_put n s e d fields fin t id (effect_of n s e t (cmd.New d fields fin) step is) returned in
    record {
      given = given_of_object n t id (fresh_object fields fin) (step_keeps n s t e w step) new;
      each = λ x there. subst P (same_Some (fresh_object fields fin) x (sym new ∙ there)) p;
    }

abbrev IsOf : ℕ → Object Id → Type 0
IsOf g x = x.generation ≡ g

generation_put : (n : Numbers) (s : State) (e : Entry) (t : State) (id : Id) (g : ℕ) → IsWellFormed n s
    → Step n s e t → GivesGeneration s e id g → Holds t id (IsOf g)
generation_put n s e t id g w step (law.GivesGeneration.by_new {d} {fields} {fin} is returned) =
    made n s e t d fields fin id (IsOf 0) w step is returned refl
generation_put n s e t id g w step (by_gen {o = o} is named returned) =
    let (says, same) = gen_is n s t e o id step is named in
    let is_stored = there n s e.caller o id w named in
    let number : (object_by_id s id).generation ≡ g = same_generation says returned in
    subst (λ x. Holds x id (IsOf g)) (sym same) (record {
      given = given_of_object n s id (object_by_id s id) w is_stored;
      each = λ x is'. ap (λ (y : Object Id). y.generation) (same_Some x (object_by_id s id) (sym is'
          ∙ is_stored))
          ∙ number;
    })

generation_since : (n : Numbers) (id : Id) (g : ℕ) (s : State) (e : Entry) (t : State) → IsWellFormed n s
    → Effect n s e e.cmd t → (IsCollection s e t → ⊥) → Holds s id (IsOf g) → Holds t id (IsOf g)
generation_since n id g s e t w does apart had =
    holds_on n s w e id (IsOf g) e.cmd t does (record {
      field = λ o i v x is h. h;
      value = λ x v h. h;
      off = λ o x is named done h. h;
      on = λ o x is named done h. h;
      collected = λ k x y is there h. absurd (apart (k, is));
    }) had

pub generation_is_read_back : GenerationIsReadBack
generation_is_read_back n old now new written reading id g p since gives step reads named =
    let put = generation_put n old written since.after id g since.well_formed since.first gives in
    let kept = still (λ s. Holds s id (IsOf g)) (generation_since n id g) since put in
    let is_stored = there n now reading.caller p id kept.0 named in
    (gen_is n now new reading p id step reads named).0 ∙ ap reply.Generation (kept.1.each _ is_stored)

-- what joins the queue of a collection is resurrected, and what is resurrected joins
module _ (s : State) (e : Entry) (t : State) (k : ℕ) (x : DoesCollect s e t k) (id : Id) where
  pub joins_of : e.cmd ≡ cmd.Collect k → x.collects.scene.resurrected id ≡ true → JoinsBy id s e t
  joins_of is resurrected = record {
    k = k;
    command = is;
    joins = record {
      before = λ is_queued.
          ((x.collects.scene.resurrected_is id).0 resurrected).lost (id, (queued is_queued, here));
      queued = member_same (s.queue ++ x.collects.scene.joins) t.queue (sym x.collects.scene.queue) id
          (Contains-append_right s.queue x.collects.scene.joins id
          ((x.collects.scene.joins_are id).0 resurrected));
    };
  }

  pub resurrected_of : JoinsBy id s e t → x.collects.scene.resurrected id ≡ true
  resurrected_of j =
      ⊎_elim (λ before. absurd (j.joins.before before)) (λ joined. (x.collects.scene.joins_are id).1 joined)
      (Contains-append_cases s.queue x.collects.scene.joins id
      (member_same t.queue (s.queue ++ x.collects.scene.joins) x.collects.scene.queue id j.joins.queued))

abbrev IsRegistered : Bool → Object Id → Type 0
IsRegistered b x = x.registered ≡ b

and_not : (b : Bool) → (b && not true) ≡ false
and_not true = refl
and_not false = refl

and_on : (b : Bool) → (b && not false) ≡ b
and_on true = refl
and_on false = refl

-- what a collection leaves of a registration, where it is not one that resurrects the object
registration_on : (b r registered : Bool) → (r ≡ true → ⊥) → b ≡ registered → (b && not r) ≡ registered
registration_on b true registered apart h = absurd (apart refl)
registration_on b false registered apart h = and_on b ∙ h

registration_since : (n : Numbers) (id : Id) (b : Bool) (s : State) (e : Entry) (t : State) → IsWellFormed n s
    → Effect n s e e.cmd t → (WritesRegistration id s e t → ⊥) → Holds s id (IsRegistered b)
    → Holds t id (IsRegistered b)
registration_since n id b s e t w does apart had =
    holds_on n s w e id (IsRegistered b) e.cmd t does (record {
      field = λ o i v x is h. h;
      value = λ x v h. h;
      off = λ o x is named done h. absurd (apart (suppresses (record
          { o = o; command_is = is; named = named; done = done })));
      on = λ o x is named done h. absurd (apart (reregisters (record
          { o = o; command_is = is; named = named; done = done })));
      collected = λ k x y is there h. registration_on y.registered (x.collects.scene.resurrected id) b
          (λ resurrected. apart (joins (joins_of s e t k x id is resurrected))) h;
    }) had

-- the effect of an entry that does something to an object
set_off : (n : Numbers) (s : State) (e : Entry) (t : State) (o : ℕ) (id : Id)
    → Effect n s e (cmd.Suppress o) t → e.reply ≡ reply.Done → register_of s e.caller o ≡ Some id
    → get t.objects id.0 ≡ Some (record (object_by_id s id) { registered = false })
set_off n s e t o id (refused p) done named = absurd (done_or_refused done p)
set_off n s e t o id (did.suppresses other f p) done named =
    subst (λ y. get (insert s.objects other.0 (record (object_by_id s other) { registered = false })) y.0
    ≡ Some (record (object_by_id s y) { registered = false })) (same_Some other id (sym f ∙ named))
    (get_inserted s.objects other.0 _)

set_on : (n : Numbers) (s : State) (e : Entry) (t : State) (o : ℕ) (id : Id)
    → Effect n s e (cmd.Reregister o) t → e.reply ≡ reply.Done → register_of s e.caller o ≡ Some id
    → get t.objects id.0 ≡ Some (record (object_by_id s id) { registered = true })
set_on n s e t o id (refused p) done named = absurd (done_or_refused done p)
set_on n s e t o id (did.reregisters other f p) done named =
    subst (λ y. get (insert s.objects other.0 (record (object_by_id s other) { registered = true })) y.0
    ≡ Some (record (object_by_id s y) { registered = true })) (same_Some other id (sym f ∙ named))
    (get_inserted s.objects other.0 _)

-- an object that is there
object_kept : (n : Numbers) (t : State) (id : Id) (object : Object Id) (P : Object Id → Type 0)
    → IsWellFormed n t → get t.objects id.0 ≡ Some object → P object → Holds t id P
object_kept n t id object P w is p = record {
  given = given_of_object n t id object w is;
  each = λ x there. subst P (same_Some object x (sym is ∙ there)) p;
}

-- after it joined, it is no longer registered
joined_off : (n : Numbers) (s : State) (e : Entry) (t : State) (id : Id) → IsWellFormed n s → Step n s e t
    → JoinsBy id s e t → Holds t id (IsRegistered false)
joined_off n s e t id w step j =
    let x : DoesCollect s e t j.k = step_of n s e t (cmd.Collect j.k) step j.command in
    let after : IsWellFormed n t = step_keeps n s t e w step in
    let resurrected = resurrected_of s e t j.k x id j in
    record {
      given = after.serials.to_last id.0 (after.names.queue id j.joins.queued);
      each = λ y is. collected n s w e id (IsRegistered false) j.k (x.collects.scene.kept id)
          (x.collects.scene.resurrected id) (get s.objects id.0) y
          (λ z there. ap (λ r. z.registered && not r) resurrected ∙ and_not z.registered)
          (sym (x.collects.scene.objects id) ∙ is);
    }

registration_put : (n : Numbers) (s : State) (e : Entry) (t : State) (id : Id) (b : Bool) → IsWellFormed n s
    → Step n s e t → GivesRegistration id s e t b → Holds t id (IsRegistered b)
registration_put n s e t id b w step (law.GivesRegistration.by_new {d} {fields} {fin} is returned) =
    made n s e t d fields fin id (IsRegistered fin) w step is returned refl
registration_put n s e t id b w step (by_suppress d) =
    object_kept n t id _ (IsRegistered false) (step_keeps n s t e w step)
    (set_off n s e t d.o id (effect_of n s e t (cmd.Suppress d.o) step d.command_is) d.done d.named) refl
registration_put n s e t id b w step (by_reregister d) =
    object_kept n t id _ (IsRegistered true) (step_keeps n s t e w step)
    (set_on n s e t d.o id (effect_of n s e t (cmd.Reregister d.o) step d.command_is) d.done d.named) refl
registration_put n s e t id b w step (by_joining j) = joined_off n s e t id w step j

pub registration_is_kept : RegistrationIsKept
registration_is_kept n old now written id b object since gives is =
    let put = registration_put n old written since.after id b since.well_formed since.first gives in
    (still (λ s. Holds s id (IsRegistered b)) (registration_since n id b) since put).1.each object is

off_since : (n : Numbers) (id : Id) (s : State) (e : Entry) (t : State) → IsWellFormed n s
    → Effect n s e e.cmd t → (IsDoneTo cmd.Reregister id s e → ⊥) → Holds s id (IsRegistered false)
    → Holds t id (IsRegistered false)
off_since n id s e t w does apart had =
    holds_on n s w e id (IsRegistered false) e.cmd t does (record {
      field = λ o i v x is h. h;
      value = λ x v h. h;
      off = λ o x is named done h. refl;
      on = λ o x is named done h. absurd (apart (record
          { o = o; command_is = is; named = named; done = done }));
      collected = λ k x y is there h. ap (λ r. r && not (x.collects.scene.resurrected id)) h;
    }) had

pub joins_once : JoinsOnce
joins_once n old now new first second id since joined step again =
    let put = joined_off n old first since.after id since.well_formed since.first joined in
    let kept = still (λ s. Holds s id (IsRegistered false)) (off_since n id) since put in
    let x : DoesCollect now second new again.k = step_of n now second new
    (cmd.Collect again.k) step again.command
    in
    let resurrected : IsToBeFinalized (scene_of now) again.k id =
    (x.collects.scene.resurrected_is id).0 (resurrected_of now second new again.k x id again) in
    true≢false (sym resurrected.registered ∙ kept.1.each resurrected.object resurrected.is_stored)
