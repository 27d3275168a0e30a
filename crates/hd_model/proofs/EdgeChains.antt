-- Chains of edges: that they join, map to chains of other edges, and stay within closed sets; and sets that
-- grow along them.
use Rattle.hd_model.proofs.Basics.{Bool, Grows, IsClosed, Leads, inl, inr, subst, sym, true, ⊎_elim, ◌≡◌, ◌⊎◌, ℕ}
use Rattle.hd_model.specs.Anchors.{LeadsIn}
use Rattle.hd_model.proofs.AnchorChains.{some_edges, leads}

module _ {N : Type 0} (E : N → N → Type 0) where
  -- one edge, and one chain after another
  pub one_edge : {x y : N} → E x y → Leads E x y
  one_edge e = Leads.more Leads.here e

  pub leads_on : {x y z : N} → Leads E x y → Leads E y z → Leads E x z
  leads_on a Leads.here = a
  leads_on a (Leads.more b e) = Leads.more (leads_on a b) e

  -- a chain from a member of a closed set leads to a member
  pub leads_inside : (p : N → Bool) → IsClosed E p → {x y : N} → p x ≡ true → Leads E x y → p y ≡ true
  leads_inside p closed h Leads.here = h
  leads_inside p closed h (Leads.more {y = y} {z = z} chain e) = closed y z (leads_inside p closed h chain) e

  -- one growth after another is a growth from the starts of both
  pub grows_on : (S T : N → Type 0) (p q o : N → Bool) → Grows E S p q → Grows E T q o
      → Grows E (λ x. S x ⊎ T x) p o
  grows_on S T p q o a b = record {
    keeps = λ x h. b.keeps x (a.keeps x h);
    joins = λ x. ⊎_elim (λ s. b.keeps x (a.joins x s)) (λ t. b.joins x t);
    only = λ x h.
        ⊎_elim (λ in_q. ⊎_elim (λ in_p. inl in_p)
        (λ (w : (r : N) × (S r × Leads E r x)). inr (w.0, (inl w.1.0, w.1.1))) (a.only x in_q))
        (λ (w : (r : N) × (T r × Leads E r x)). inr (w.0, (inr w.1.0, w.1.1))) (b.only x h);
  }

  -- a set grows from no start to itself, and starts that say the same grow the same
  pub grows_none : (S : N → Type 0) (p : N → Bool) → ((x : N) → S x → ⊥) → Grows E S p p
  grows_none S p never = record { keeps = λ x h. h; joins = λ x s. absurd (never x s); only = λ x h. inl h }

  pub grows_like : (S T : N → Type 0) (p q : N → Bool) → ((x : N) → S x → T x) → ((x : N) → T x → S x)
      → Grows E S p q → Grows E T p q
  grows_like S T p q to back g = record {
    keeps = g.keeps;
    joins = λ x t. g.joins x (back x t);
    only = λ x h. ⊎_elim (λ in_p. inl in_p)
        (λ (w : (r : N) × (S r × Leads E r x)). inr (w.0, (to w.0 w.1.0, w.1.1))) (g.only x h);
  }

module _ {N M : Type 0} (E : N → N → Type 0) (F : M → M → Type 0) (f : N → M) (P : N → Type 0) where
  -- where edges keep a property and map to edges, chains of what has it map to chains
  pub edges_turn : ((x y : N) → P x → E x y → P y) → ((x y : N) → P x → E x y → F (f x) (f y)) → {k : ℕ}
      → {x y : N} → P x → LeadsIn E k x y → P y × LeadsIn F k (f x) (f y)
  edges_turn stays turn h LeadsIn.start = (h, LeadsIn.start)
  edges_turn stays turn h (LeadsIn.step {y = y} {z = z} chain e) =
      let (there, image) = edges_turn stays turn h chain in
      (stays y z there e, LeadsIn.step image (turn y z there e))

  pub leads_turn : ((x y : N) → P x → E x y → P y) → ((x y : N) → P x → E x y → F (f x) (f y)) → {x y : N}
      → P x → Leads E x y → P y × Leads F (f x) (f y)
  leads_turn stays turn h chain =
      let (there, image) = edges_turn stays turn h (some_edges chain).1 in (there, leads image)

  -- where each edge of F from an image is that of an edge of E, so is each chain
  abbrev pub Lifted : (N → N → Type 0) → N → M → Type 0
  Lifted L x b = (y : N) × (P y × (L x y × (f y ≡ b)))

  pub edges_lift : ((x : N) (b : M) → P x → F (f x) b → Lifted E x b) → (x : N) → P x → {k : ℕ} → {a b : M}
      → f x ≡ a → LeadsIn F k a b → Lifted (LeadsIn E k) x b
  edges_lift lift x h same LeadsIn.start = (x, (h, (LeadsIn.start, same)))
  edges_lift lift x h same (LeadsIn.step {y = b} {z = c} chain e) =
      let (y, rest) = edges_lift lift x h same chain in
      let (z, last) = lift y c rest.0 (subst (λ m. F m c) (sym rest.1.1) e) in
      (z, (last.0, (LeadsIn.step rest.1.0 last.1.0, last.1.1)))

  pub leads_lift : ((x : N) (b : M) → P x → F (f x) b → Lifted E x b) → (x : N) → P x → {a b : M} → f x ≡ a
      → Leads F a b → Lifted (Leads E) x b
  leads_lift lift x h same chain =
      let (y, rest) = edges_lift lift x h same (some_edges chain).1 in
      (y, (rest.0, (leads rest.1.0, rest.1.1)))
