use Rattle.hd_cwt.proofs.Basics.{IsSome, None, arith, false, false≢true, get, is_some, rules, sym, ◌∙◌, ◌≡◌}
use Rattle.hd_model.proofs.MapEntries.{none_from}
use Rattle.hd_cwt.proofs.KeyChanges.{can_seen, few_slots, put_idle, put_new, put_room, relisted, within}
use Rattle.hd_cwt.proofs.cwt.Cwt.add.Goals as goal

pub push-requires-clause-room : goal.push-requires-clause-room
push-requires-clause-room c =
    put_room c.self.invariant c.args.slot.0 c.self.view_is c.args.key c.requires.new c.requires.within
    c.requires.slot

pub push-requires-clause-few : goal.push-requires-clause-few
push-requires-clause-few c = few_slots c.self.invariant

pub push-requires-clause-within : goal.push-requires-clause-within
push-requires-clause-within c =
    let low = within c.self.invariant c.args.slot.0 c.self.view_is c.args.key c.requires.new
    c.requires.within in
    omega (arith, low, c.self.invariant.size)

pub overflow_add-self : goal.overflow_add-self
overflow_add-self c = record {
  fits = omega (arith, c.self.invariant.counted, c.self.invariant.table.fits, c.self.invariant.table.limit);
}

pub invariant_of-self : goal.invariant_of-self
invariant_of-self c =
    let slot = c.args.slot.0 in
    let unheld : is_some (get c.self.inside.entries.held slot) ≡ false = search rules in
    let none : get c.self.inside.entries.held slot ≡ None =
    none_from (get c.self.inside.entries.held slot) (λ i. false≢true (sym unheld ∙ i)) in
    relisted (put_new c.self.invariant slot c.self.view_is c.args.key c.requires.new c.requires.within none
    c.requires.slot) c.put.ensures c.push.ensures.slots c.push.ensures.indexes c.push.ensures.capacity

pub invariant_of-self-else-not-held : goal.invariant_of-self-else-not-held
invariant_of-self-else-not-held c =
    let slot = c.args.slot.0 in
    let had : IsSome (get c.self.inside.entries.held slot) = search rules in
    relisted (put_idle c.self.invariant slot c.self.view_is c.args.key c.requires.new c.requires.within had
    (can_seen c.self.view_is slot c.requires.slot)) c.put.ensures c.push.ensures.slots c.push.ensures.indexes
    c.push.ensures.capacity
