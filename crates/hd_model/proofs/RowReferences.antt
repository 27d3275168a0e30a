-- Rows that reference no more than before: they reference objects, and their ages are sound.
use Rattle.hd_model.proofs.Basics.{Bool, Handle, HasSoundAges, List, Objects, Rows, Some, ap, cleared, option_map, secondary_of, sym, ℕ, ◌∙◌, ◌≡◌}
use Rattle.hd_model.specs.Names.{NamesObjects}
use Rattle.hd_model.proofs.SceneCollection.{mapped_value, cleared_target, cleared_secondary}

-- each reference in a row was in the row before
pub record Fades {N : Type 0} (before after : Rows N) : Type 0 where
  pub targets : (slot : ℕ) (h : Handle N) (x : N) → after slot ≡ Some h → h.target ≡ Some x → (g : Handle N)
      × ((before slot ≡ Some g) × (g.target ≡ Some x))
  pub secondaries :
      (slot : ℕ) (h : Handle N) (x : N) → after slot ≡ Some h → secondary_of h.extra ≡ Some x → (g : Handle N)
      × ((before slot ≡ Some g) × (secondary_of g.extra ≡ Some x))

module _ {N : Type 0} (before after : Rows N) where
  -- rows under a map that only removes references
  pub fades_by : (f : Handle N → Handle N) → ((slot : ℕ) → after slot ≡ option_map f (before slot))
      → ((h : Handle N) (x : N) → (f h).target ≡ Some x → h.target ≡ Some x)
      → ((h : Handle N) (x : N) → secondary_of (f h).extra ≡ Some x → secondary_of h.extra ≡ Some x)
      → Fades before after
  fades_by f rows target second = record {
    targets = λ slot h x is_stored e.
        let (g, both) = mapped_value f (before slot) h (sym (rows slot) ∙ is_stored) in
        (g, (both.0, target g x (ap (λ (q : Handle N). q.target) both.1 ∙ e)));
    secondaries = λ slot h x is_stored e.
        let (g, both) = mapped_value f (before slot) h (sym (rows slot) ∙ is_stored) in
        (g, (both.0, second g x (ap (λ (q : Handle N). secondary_of q.extra) both.1 ∙ e)));
  }

  pub fades_cleared : (reach kept : N → Bool)
      → ((slot : ℕ) → after slot ≡ option_map (cleared reach kept) (before slot)) → Fades before after
  fades_cleared reach kept rows =
      fades_by (cleared reach kept) rows (λ h x e. (cleared_target reach kept h x e).1)
      (λ h x e. (cleared_secondary reach kept h x e).1)

  module _ (o : Objects N) (f : Fades before after) where
    pub faded_names : NamesObjects o before → NamesObjects o after
    faded_names w = record {
      targets = λ slot h x is_stored e.
          let (g, both) = f.targets slot h x is_stored e in w.targets slot g x both.0 both.1;
      secondaries = λ slot h x is_stored e.
          let (g, both) = f.secondaries slot h x is_stored e in w.secondaries slot g x both.0 both.1;
    }

    pub faded_ages : (ages : List ℕ) → HasSoundAges o before ages → HasSoundAges o after ages
    faded_ages ages w = record {
      targets = λ slot h x is_stored e.
          let (g, both) = f.targets slot h x is_stored e in w.targets slot g x both.0 both.1;
      secondaries = λ slot h x is_stored e.
          let (g, both) = f.secondaries slot h x is_stored e in w.secondaries slot g x both.0 both.1;
    }
