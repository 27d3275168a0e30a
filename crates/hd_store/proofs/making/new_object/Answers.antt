use Rattle.hd_store.proofs.StoreWords.{Done, KeepsNames, Machine, Outcome, Some, Zero, reply_with, ap, false, fresh_object, get_inserted, identity_of, if◌then◌else◌, last_serial, le-ltb, name_in, nat_lt, refl, refuses, subst, sym, total_size, unwrap_or, with_object, with_register, with_serial, ◌+◌, ◌∙◌, ◌≡◌}
use Rattle.hd_store.proofs.making.new_object.Goals.{In-Ok}
use Rattle.hd_model.specs.declared.data.Refusal.TheVariants as refusal
use Rattle.hd_model.specs.declared.data.Reply.TheVariants as reply
use Rattle.hd_store.proofs.making.new_object.Goals as goal

-- the outcome where the heap has room
made : In-Ok → Outcome
made c =
    let s = c.args.store.now.state in
    let serial = last_serial s c.args.caller + 1 in
    let id = identity_of c.args.caller serial in
    reply_with (reply.Object id)
    (with_register
    (with_serial (with_object s id (fresh_object c.args.fields c.args.fin)) c.args.caller serial)
    c.args.caller c.args.d (Some id))

abbrev replied : Outcome → Done
replied w = record { reply = w.reply; slot = w.slot; grown = Zero }

abbrev full : In-Ok → Outcome
full c =
    refuses (refusal.HeapFull (total_size c.args.store.now.state) (c.args.fields + 3)) c.args.store.now.state

has_room : (c : In-Ok) → nat_lt c.args.store.now.numbers.heap
    (total_size c.args.store.now.state + (c.args.fields + 3)) ≡ false
has_room c = le-ltb c.args.store.now.numbers.heap
    (total_size c.args.store.now.state + (c.args.fields + 3)) c.in-Ok.ensures.fits

-- the identity at the new object's address
name : (c : In-Ok) → name_in c.add_object.new.self.names c.in-Ok.at ≡ identity_of c.args.caller
    (last_serial c.args.store.now.state c.args.caller + 1)
name c =
    ap (λ (m : Machine). name_in m.names c.in-Ok.at) c.in-Ok.ensures.made
    ∙ ap (λ o. unwrap_or o (record { 0 = 0 }))
    (get_inserted c.args.store.now.names c.in-Ok.at.0
    (identity_of c.args.caller (last_serial c.args.store.now.state c.args.caller + 1)))

pub returns-in-Ok-clause-done : goal.returns-in-Ok-clause-done
unfolding made
returns-in-Ok-clause-done c =
    let at = (goal.at.returns-in-Ok-clause-done c).In-Ok in
    let new = c.set_register.new.self in
    let id : c.id.result ≡ identity_of c.args.caller (last_serial c.args.store.now.state c.args.caller + 1) =
    c.id.ensures ∙ ap (λ (m : Machine). name_in m.names c.in-Ok.at) c.set_register.ensures ∙ name at in
    let state =
    ap (λ (m : Machine). m.state) c.set_register.ensures
    ∙ (λ i. with_register (c.in-Ok.ensures.made i).state c.args.caller c.args.d (Some (name at i)))
    ∙ ap (λ b. (if b then full at else made at).after) (sym (has_room at)) in
    let numbers = ap (λ (m : Machine). m.numbers) c.set_register.ensures
    ∙ ap (λ (m : Machine). m.numbers) c.in-Ok.ensures.made in
    let ages = ap (λ (m : Machine). m.ages) c.set_register.ensures
    ∙ ap (λ (m : Machine). m.ages) c.in-Ok.ensures.made in (
      ap (λ i. replied (reply_with (reply.Object i) c.args.store.now.state)) id
          ∙ ap (λ b. replied (if b then full at else made at)) (sym (has_room at)),
      (numbers, state, ages, refl, refl),
    )

pub returns-in-Ok-clause-names : goal.returns-in-Ok-clause-names
returns-in-Ok-clause-names c = subst (λ (m : Machine). KeepsNames c.args.store.now.names m.names)
    (sym c.set_register.ensures) c.in-Ok.ensures.kept
