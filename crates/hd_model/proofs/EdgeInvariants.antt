-- Chains and growths by other edges, and within a property that edges keep.
use Rattle.hd_model.proofs.Basics.{Bool, Grows, Leads, true, ⊎_elim, ◌≡◌}

-- where each edge is one of another relation, so is each chain
pub leads_like : {N : Type 0} (E F : N → N → Type 0) → ((x y : N) → E x y → F x y) → {x y : N} → Leads E x y
    → Leads F x y
leads_like E F turn Leads.here = Leads.here
leads_like E F turn (Leads.more {y = y} {z = z} chain e) = Leads.more (leads_like E F turn chain) (turn y z e)

-- a chain from what has a property that edges keep leads to what has it
pub leads_within : {N : Type 0} (E : N → N → Type 0) (P : N → Type 0) → ((x y : N) → P x → E x y → P y)
    → {x y : N} → P x → Leads E x y → P y
leads_within E P closed h Leads.here = h
leads_within E P closed h (Leads.more {y = y} {z = z} chain e) =
    closed y z (leads_within E P closed h chain) e

-- a set that grows from what has a property that edges keep has it
pub grown_within : {N : Type 0} (E : N → N → Type 0) (S P : N → Type 0) (p q : N → Bool)
    → ((x y : N) → P x → E x y → P y) → ((x : N) → p x ≡ true → P x) → ((x : N) → S x → P x) → Grows E S p q
    → (x : N) → q x ≡ true → P x
grown_within E S P p q closed of_p of_start g x h =
    ⊎_elim (λ in_p. of_p x in_p)
    (λ (w : (r : _) × (S r × Leads E r x)). leads_within E P closed (of_start w.0 w.1.0) w.1.1) (g.only x h)
