-- Chains of numbers as chains of what the numbers name.
use Rattle.std.proofs.Common.{◌≡◌, ℕ, suc, ◌≤◌, List, [], ◌∷◌, ◌++◌, length, refl, sym, ap, subst, arith, ⊎_elim}
use Rattle.std.proofs.lemmas.List.{length_push}
use Rattle.hd_model.proofs.AnchorChains.{some_edges}
use Rattle.hd_model.specs.Anchors.{IsShortest, IsUnrooted, LeadsIn}
use Rattle.hd_walk.specs.Chains.{IsWalk}
use Rattle.hd_walk.proofs.LeastChains.{IsLeast}
use Rattle.hd_walk.proofs.ChainOrders.{walk_push}

-- an edge before a chain
edge_first : {N : Type 0} (E : N → N → Type 0) {k : ℕ} {x y z : N} → E x y → LeadsIn E k y z
    → LeadsIn E (suc k) x z
edge_first E edge LeadsIn.start = LeadsIn.step LeadsIn.start edge
edge_first E edge (LeadsIn.step chain last) = LeadsIn.step (edge_first E edge chain) last

module _ {N : Type 0} (E : N → N → Type 0) (named : ℕ → N) (number : N → ℕ)
    (again : (x : N) → named (number x) ≡ x) where
  abbrev Leads : ℕ → ℕ → Type 0
  Leads x y = E (named x) (named y)

  pub walk_leads : {goal x : ℕ} {xs : List ℕ} → IsWalk Leads goal x xs
      → LeadsIn E (length xs) (named x) (named goal)
  walk_leads IsWalk.arrived = LeadsIn.start
  walk_leads (IsWalk.onward leads walk) = edge_first E leads (walk_leads walk)

  pub leads_walk : {k : ℕ} {x y : N} → LeadsIn E k x y
      → (xs : List ℕ) × (length xs ≡ k) × IsWalk Leads (number y) (number x) xs
  leads_walk LeadsIn.start = ([], refl, IsWalk.arrived)
  leads_walk (LeadsIn.step {x = x} {y = y} {z = z} chain edge) =
      let (xs, long, walk) = leads_walk chain in (
        xs ++ number z ∷ [],
        let l = length_push xs (number z) in omega (arith, long),
        walk_push walk
            (subst (λ w. E w (named (number z))) (sym (again y))
            (subst (λ w. E y w) (sym (again z)) edge)),
      )

  module _ (Anchor : N → Type 0) where
    abbrev Begins : ℕ → Type 0
    Begins x = Anchor (named x)

    starts : (x : N) → Anchor x → Begins (number x)
    starts x a = subst Anchor (sym (again x)) a

    -- the least chain is a shortest one, from the least start
    pub shortest_of : {First Less : ℕ → ℕ → Type 0} (rank : N → ℕ)
        → ((x y : ℕ) → First x y → rank (named x) ≤ rank (named y)) → {goal : N} {x : ℕ} {xs : List ℕ}
        → IsLeast Leads Begins First Less (number goal) x xs
        → IsShortest E Anchor rank goal (named x) (length xs)
    shortest_of rank ranked {goal = goal} {x = x} {xs = xs} least = record {
      anchor = least.start;
      chain = subst (λ z. LeadsIn E (length xs) (named x) z) (again goal) (walk_leads least.walk);
      shortest = λ other k a chain.
          let (ys, long, walk) = leads_walk chain in
          ⊎_elim
          (⊎_elim (λ shorter. omega arith) (λ r. let l = r.0 in omega arith))
          (λ same. let l = ap length same.1 in omega arith)
          (least.least (number other) ys (starts other a) walk);
      least = λ other a chain.
          let (ys, long, walk) = leads_walk chain in
          let here = ap rank (again other) in
          ⊎_elim
          (⊎_elim (λ shorter. absurd (omega arith))
          (λ r. ⊎_elim (λ f. let l = ranked x (number other) f in omega arith)
          (λ s. let l = ap (λ z. rank (named z)) s.0 in omega arith) r.1))
          (λ same. let l = ap (λ z. rank (named z)) same.0 in omega arith)
          (least.least (number other) ys (starts other a) walk);
    }

    pub unrooted_of : {goal : N}
        → ((x : ℕ) (xs : List ℕ) → Begins x → IsWalk Leads (number goal) x xs → ⊥) → IsUnrooted E Anchor goal
    unrooted_of none from a leads =
        let (xs, long, walk) = leads_walk (some_edges leads).1 in none (number from) xs (starts from a) walk
