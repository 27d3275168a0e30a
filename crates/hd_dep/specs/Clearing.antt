-- What the clearing of dependent handles leaves.
use Rattle.std.specs.Prelude.{◌≡◌, ℕ, ◌&&◌, Bool, true, cond, List, Some, None, option_map}
use Rattle.hd_model.specs.{State.secondary, State.Handle, Role.attaches, Role.role, Scene.Rows, Ages.is_due, Collect.is_attaching, Collect.is_lost}

-- a handle after a clearing that visits its slot or does not: a dependent one whose target is not promoted
-- loses its target and its secondary
abbrev pub detached : {N : Type 0} → Bool → (N → Bool) → Handle N → Handle N
detached due p h = record {
  kind = h.kind;
  target = cond (is_attaching (role h) && (due && is_lost p h.target)) None h.target;
  extra = cond (is_attaching (role h) && (due && is_lost p h.target)) (secondary None) h.extra;
}

-- the rows after the clearing, and after one that visits every slot
abbrev pub IsDetached : {N : Type 0} → List ℕ → ℕ → (N → Bool) → (before after : Rows N) → Type 0
IsDetached ages n p before after =
    (slot : ℕ) → after slot ≡ option_map (detached (is_due ages n slot) p) (before slot)

abbrev pub IsAllDetached : {N : Type 0} → (N → Bool) → (before after : Rows N) → Type 0
IsAllDetached p before after = (slot : ℕ) → after slot ≡ option_map (detached true p) (before slot)

-- a visited slot whose handle loses its target
pub record IsDetachedAt {N : Type 0} (rows : Rows N) (ages : List ℕ) (n : ℕ) (p : N → Bool) (slot : ℕ)
    : Type 0 where
  pub handle : Handle N
  pub is_stored : rows slot ≡ Some handle
  pub due : is_due ages n slot ≡ true
  pub attaches : role handle ≡ attaches
  pub lost : is_lost p handle.target ≡ true

-- a slot, visited or not, whose handle loses its target
pub record IsLostAt {N : Type 0} (rows : Rows N) (p : N → Bool) (slot : ℕ) : Type 0 where
  pub handle : Handle N
  pub is_stored : rows slot ≡ Some handle
  pub attaches : role handle ≡ attaches
  pub lost : is_lost p handle.target ≡ true
