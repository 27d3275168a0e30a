use Rattle.hd_store.proofs.StoreWords.{Addr, Contains, IsMade, IsStored, List, Option, Parts, Some, ap, arith, get_or, has_object, identity_of, last_serial, length, machine_of, parts, set, subst, sym, true, ◌*◌, ◌+◌, ◌<◌, ◌∙◌, ◌≡◌}
use Rattle.hd_heap.specs.Calls.{filled_object}
use Rattle.hd_model.specs.declared.limits.TheConstants.{REGISTERS}
use Rattle.hd_store.specs.Hosted.{HasAdded}
use Rattle.hd_store.proofs.{NewFilled.filled-next, RootAccess.register-within, StoreNew.serial-next}
use Rattle.hd_store.proofs.contents.Contents.add_in_current.Goals.{After-index_mut}
use Rattle.hd_store.proofs.contents.Contents.add_in_current.Goals as goal

pub put_filled-requires-clause-sources : goal.put_filled-requires-clause-sources
put_filled-requires-clause-sources c = λ i below.
    subst (λ (xs : List (Option Addr)). REGISTERS * c.args.caller + get_or c.args.src.now i 0 < length xs)
    (sym c.deref.ensures.value)
    (register-within (parts c.self.inside) c.args.self.now c.self.view_is c.self.invariant c.args.caller
    (get_or c.args.src.now i 0) c.requires.caller (c.requires.sources i below))

pub put_filled-requires-clause-objects : goal.put_filled-requires-clause-objects
put_filled-requires-clause-objects c =
    subst (λ (roots : List (Option Addr)).
    (y : Addr) → Contains roots (Some y) → has_object c.self.inside.heap y ≡ true) (sym c.deref.ensures.value)
    c.self.invariant.whole.named

made : (c : After-index_mut) → IsMade c.self.inside.heap c.put_filled.new.self c.in-Some.at
    (filled_object c.identity-id.result c.args.value c.args.fin c.self.inside.roots.items
    (REGISTERS * c.args.caller) c.args.src.now)
made c = subst (λ (roots : List (Option Addr)). IsMade c.self.inside.heap c.put_filled.new.self c.in-Some.at
    (filled_object c.identity-id.result c.args.value c.args.fin roots (REGISTERS * c.args.caller)
    c.args.src.now)) c.deref.ensures.value c.in-Some.ensures

serial : (c : After-index_mut) → c.index.result.now + 1 ≡ last_serial c.args.self.now.state c.args.caller + 1
serial c = serial-next (parts c.self.inside) c.args.self.now c.self.view_is c.self.invariant c.args.caller
    c.index.result.now c.requires.caller c.index.ensures

-- the last serial is written one above what it was
written : (c : After-index_mut) → c.index_mut.result.now + 1 ≡ last_serial c.args.self.now.state c.args.caller + 1
written c = serial-next (parts c.self.inside) c.args.self.now c.self.view_is c.self.invariant c.args.caller
    c.index_mut.result.now c.requires.caller c.index_mut.ensures.value

named : (c : After-index_mut) → c.identity-id.result ≡ identity_of c.args.caller (c.index_mut.result.now + 1)
named c = c.identity-id.ensures.value ∙ ap (identity_of c.args.caller) (serial c ∙ sym (written c))

after : (c : After-index_mut) → let after : Parts = record (parts c.self.inside) {
  heap = c.put_filled.new.self;
  serials = set c.self.inside.serials.items c.args.caller (c.index_mut.result.now + 1);
} in
    IsStored after × HasAdded c.args.self.now c.args.caller c.args.value c.args.fin c.args.src.now
    (machine_of after) c.in-Some.at
after c = filled-next (parts c.self.inside) c.args.self.now c.self.view_is c.self.invariant
    c.put_filled.new.self c.in-Some.at c.identity-id.result c.args.value c.args.fin c.args.src.now
    c.args.caller (c.index_mut.result.now + 1) (made c) c.requires.caller c.requires.sources (written c)
    (named c) c.requires.fresh
    (omega (arith, c.if-count-room.false, c.count-count.ensures.value, c.room-room.ensures))

pub invariant_of-self : goal.invariant_of-self
invariant_of-self c = (after ((goal.at.invariant_of-self c).After-index_mut)).0

pub returns-in-Some : goal.returns-in-Some
returns-in-Some c =
    let is = (goal.at.returns-in-Some c).After-index_mut in
    ((after is).1, c.identity-id.ensures.value ∙ ap (identity_of c.args.caller) (serial is))

pub invariant_of-self-in-None : goal.invariant_of-self-in-None
invariant_of-self-in-None c =
    subst (λ h. IsStored (record (parts c.self.inside) { heap = h })) (sym c.in-None.ensures) c.self.invariant

pub returns-in-None : goal.returns-in-None
returns-in-None c =
    ap (λ h. machine_of (record (parts c.self.inside) { heap = h })) c.in-None.ensures ∙ c.self.view_is
