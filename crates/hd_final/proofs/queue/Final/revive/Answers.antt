use Rattle.hd_final.proofs.Basics.{AllPairs, Basis, Contains, Counts, Grows, IsNonDecreasingBy, IsOut, IsYoungField, Joiner, Queue, ap, arith, is_object, length, object_at, objects_of, addresses, subst, sym, true, ◌++◌, ◌∙◌, ◌≡◌, ◌≢◌}
use Rattle.hd_final.proofs.QueueRevive.{joins_object, joins_count, resurrected, queue_once, queue_fits, joiners_fit}
use Rattle.hd_final.proofs.queue.Final.revive.Goals as goal

pub join-requires-clause-objects : goal.join-requires-clause-objects
join-requires-clause-objects g c = λ a k.
    subst (λ (b : Basis). is_object (objects_of b) a ≡ true) (sym c.requires.basis)
    (joins_object c.find.ensures.found c.sort.ensures.permutation c.deref.ensures.value a k)

pub join-requires-clause-room : goal.join-requires-clause-room
join-requires-clause-room g c =
    let known =
    joiners_fit c.find.ensures.found c.sort.ensures.permutation c.deref.ensures.value c.self.view_is
    c.self.invariant.once c.requires.objects c.requires.promoted c.requires.room in
    omega (arith, known, c.self.invariant.held, c.self.inside.queued.ok.0)

pub overflow_cast-result : goal.overflow_cast-result
overflow_cast-result g c =
    let known =
    joiners_fit c.find.ensures.found c.sort.ensures.permutation c.deref.ensures.value c.self.view_is
    c.self.invariant.once c.requires.objects c.requires.promoted c.requires.room in
    let also = ap length c.deref.ensures.value in
    omega (arith, known, c.self.invariant.low, c.len.ensures, c.sort.new.joiners.ok.0, also)

pub invariant_of-self : goal.invariant_of-self
invariant_of-self g c = record {
  once = subst (λ xs. AllPairs (λ x y. x ≢ y) xs) (sym c.join.ensures.queued)
      (queue_once c.find.ensures.found c.sort.ensures.permutation c.deref.ensures.value c.self.view_is
      c.self.invariant.once c.requires.objects c.requires.promoted c.requires.room);
  fits = (let known =
      queue_fits c.find.ensures.found c.sort.ensures.permutation c.deref.ensures.value c.self.view_is
      c.self.invariant.once c.requires.objects c.requires.promoted c.requires.room in
      omega (arith, known, ap length c.join.ensures.queued));
  low = c.self.invariant.low;
  held = omega (arith, c.self.invariant.held, c.join.ensures.capacity);
  joiners = omega (arith, c.self.invariant.joiners, c.sort.ensures.capacity, c.find.ensures.capacity);
}

pub returns-clause-resurrects : goal.returns-clause-resurrects
returns-clause-resurrects g c =
    let p = g.M.Marker.promoted c.args.marker.now in
    let ks = c.deref.result.now in
    resurrected c.find.ensures.found c.sort.ensures.permutation c.deref.ensures.value c.requires.identities
    (subst (λ xs. IsNonDecreasingBy (λ (j : Joiner). j.id.0) xs) (sym c.deref.ensures.value)
    c.sort.ensures.rising)
    (g.M.Marker.promoted c.join.new.marker) c.args.self.now.queued c.join.new.queued.items
    (c.join.ensures.queued ∙ ap (λ (q : Queue). q.queued ++ addresses ks) c.self.view_is)
    (subst (λ (b : Basis). Grows (IsYoungField (objects_of b) b.condemned) (λ a. Contains (addresses ks) a) p
    (g.M.Marker.promoted c.join.new.marker)) c.requires.basis c.join.ensures.grows)

pub returns-clause-count : goal.returns-clause-count
returns-clause-count g c =
    subst (λ k. Counts (IsOut (object_at c.args.heap.now) c.args.n (g.M.Marker.promoted c.args.marker.now)) k)
    (omega (arith, c.len.ensures, c.sort.new.joiners.ok.0, ap length c.deref.ensures.value))
    (joins_count c.find.ensures.found c.sort.ensures.permutation c.deref.ensures.value)
