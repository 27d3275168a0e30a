-- The first object is taken out of a store's queue.
use Rattle.hd_store.specs.Store.{seen_by}
use Rattle.hd_store.proofs.StoreWords.{Addr, Contains, IsNamed, IsStored, Machine, MatchOption, None, Option, Parts, Queue, Some, [], ap, arith, first_in, id_at, later_in, len, machine_of, map, name_in, names_of, refl, same_Some, subst, sym, with_queue, ◌∙◌, ◌∷◌, ◌≡◌, ◌≤◌}
use Rattle.hd_store.proofs.{IdentityReadings.name-is, RootAccess.stored-named, HeapCallReadings.objects_named}

-- the parts with another queue
abbrev pub with_new_queue : Parts → Queue → Parts
with_new_queue f q = record f { queue = q }

-- a queue that has no more in it, and room for all objects
pub stored-queued : (f : Parts) (q : Queue) → IsStored f
    → ((x : Addr) → Contains q.queued x → Contains f.queue.queued x) → len f.heap.objects ≤ q.room
    → IsStored (with_new_queue f q)
stored-queued f q stored is_queued room =
    stored-named f f.roots q stored refl stored.whole.named (λ x c. stored.whole.queue x (is_queued x c)) room

module _ (f : Parts) (m : Machine) (view : machine_of f ≡ m) (q : Queue) where
  pub queue-none : f.queue.queued ≡ [] → m.state.queue ≡ []
  queue-none none = ap (λ (n : Machine). n.state.queue) (sym view) ∙ ap (map (id_at f.heap)) none

  pub machine-queue : machine_of (with_new_queue f q) ≡ record m
      { state = with_queue m.state (map (id_at f.heap) q.queued) }
  machine-queue = ap (λ (n : Machine). record n { state = with_queue n.state (map (id_at f.heap) q.queued) })
      view

  module _ (at : Addr) (is : f.queue ≡ record q { queued = at ∷ q.queued }) where
    pub queue-first : m.state.queue ≡ name_in m.names at ∷ map (id_at f.heap) q.queued
    queue-first =
        ap (λ (n : Machine). n.state.queue) (sym view) ∙ ap (λ (w : Queue). map (id_at f.heap) w.queued) is
        ∙ ap (λ x. x ∷ map (id_at f.heap) q.queued)
        (sym (name-is f.heap at) ∙ ap (λ (n : Machine). name_in n.names at) view)

    is_queued : (x : Addr) → Contains (at ∷ q.queued) x → Contains f.queue.queued x
    is_queued x c = subst (λ (w : Queue). Contains w.queued x) (sym is) c

    pub first-named : IsStored f → IsNamed m.names (Some at)
    first-named stored =
        subst (λ (n : Machine). IsNamed n.names (Some at)) view
        (objects_named f.heap (Some at) (λ y same. stored.whole.queue y
        (is_queued y (subst (Contains (at ∷ q.queued)) (same_Some at y same) (first_in at q.queued)))))

    pub stored-queue : IsStored f → IsStored (with_new_queue f q)
    stored-queue stored =
        let same = ap (λ (w : Queue). w.room) is in
        stored-queued f q stored (λ x c. is_queued x (later_in at q.queued x c))
        (omega (arith, stored.room, same))

-- what the queue returns, whether it is empty or not
abbrev pub IsPop : Parts → Queue → Option Addr → Type 0
IsPop f q r = MatchOption r ((f.queue.queued ≡ []) × (q ≡ f.queue))
    (λ at. f.queue ≡ record q { queued = at ∷ q.queued })

module _ (f : Parts) (m : Machine) (view : machine_of f ≡ m) (stored : IsStored f) (q : Queue) where
  pub stored-popped : (r : Option Addr) → IsPop f q r → IsStored (with_new_queue f q)
  stored-popped None is = subst (λ w. IsStored (with_new_queue f w)) (sym is.1) stored
  stored-popped (Some at) is = stored-queue f m view q at is stored

  pub machine-popped : (r : Option Addr) → IsPop f q r
      → MatchOption r ((m.state.queue ≡ []) × (seen_by (machine_of (with_new_queue f q)) ≡ seen_by m))
      (λ at. (m.state.queue ≡ name_in m.names at ∷ (machine_of (with_new_queue f q)).state.queue)
      × (seen_by (machine_of (with_new_queue f q)) ≡ record (seen_by m)
      { state = with_queue m.state (machine_of (with_new_queue f q)).state.queue }))
  machine-popped None is =
      (queue-none f m view q is.0, ap seen_by (ap (λ w. machine_of (with_new_queue f w)) is.1 ∙ view))
  machine-popped (Some at) is = (queue-first f m view q at is, ap seen_by (machine-queue f m view q))

  pub named-popped : (r : Option Addr) → IsPop f q r → IsNamed (names_of f.heap) r
  named-popped None is = tt
  named-popped (Some at) is = subst (λ (n : Machine). IsNamed n.names (Some at)) (sym view)
      (first-named f m view q at is stored)
