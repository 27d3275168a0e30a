-- Two maps from references to identities that agree on the references of a row or a list read it alike.
use Rattle.hd_store.proofs.StoreWords.{Contains, Handle, Object, Some, rename_handle, rename_object, secondary_of, ◌≡◌}
use Rattle.hd_model.proofs.SceneReadings.{extra_agrees, names_agree, option_agrees}

module _ {N M : Type 0} (f g : N → M) where
  pub object_agrees : (o : Object N) → ((x : N) → Contains o.fields (Some x) → f x ≡ g x)
      → rename_object f o ≡ rename_object g o
  object_agrees o agree = λ i. record {
    fields = names_agree f g o.fields agree i;
    value = o.value;
    generation = o.generation;
    registered = o.registered;
  }

  pub handle_agrees : (h : Handle N) → ((x : N) → h.target ≡ Some x → f x ≡ g x)
      → ((x : N) → secondary_of h.extra ≡ Some x → f x ≡ g x) → rename_handle f h ≡ rename_handle g h
  handle_agrees h target second = λ i. record {
    kind = h.kind;
    target = option_agrees f g h.target target i;
    extra = extra_agrees f g h.extra second i;
  }
