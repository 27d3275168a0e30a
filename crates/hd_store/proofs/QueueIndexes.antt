-- What is at a position of a store's queue.
use Rattle.hd_store.proofs.StoreWords.{Addr, Contains, Contains-get_or, Id, IsSome, IsStored, Machine, Parts, Some, ap, get, get_or, id_at, length, length-map, machine_of, name_in, same_Some, subst, sym, ℕ, ◌<◌, ◌∙◌, ◌≡◌}
use Rattle.std.proofs.lemmas.List.{get_or-map}
use Rattle.hd_store.proofs.{IdentityReadings.name-is, HeapCallReadings.objects_named}

module _ (f : Parts) (m : Machine) (view : machine_of f ≡ m) (i : ℕ) (within : i < length m.state.queue) where
  pub is_queued : i < length f.queue.queued
  is_queued = subst (λ n. i < n)
      (ap (λ (n : Machine). length n.state.queue) (sym view) ∙ length-map f.queue.queued (id_at f.heap)) within

  module _ (at : Addr) (is : (d : Addr) → at ≡ get_or f.queue.queued i d) where
    pub queued-is : (d : Id) → name_in m.names at ≡ get_or m.state.queue i d
    queued-is d =
        ap (λ (n : Machine). name_in n.names at) (sym view) ∙ name-is f.heap at ∙ ap (id_at f.heap) (is at)
        ∙ sym (get_or-map (id_at f.heap) f.queue.queued i at d is_queued)
        ∙ ap (λ (n : Machine). get_or n.state.queue i d) view

    pub queued-known : IsStored f → IsSome (get m.names at.0)
    queued-known stored =
        subst (λ (n : Machine). IsSome (get n.names at.0)) view
        (objects_named f.heap (Some at) (λ y same. stored.whole.queue y
        (subst (Contains f.queue.queued) (sym (is at) ∙ same_Some at y same)
        (Contains-get_or f.queue.queued i at is_queued))))
