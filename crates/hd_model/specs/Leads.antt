-- Chains of edges, and sets that grow along them, for any relation. A set is a test.
use Rattle.std.specs.Prelude.{◌≡◌, Bool, true, ◌⊎◌}

-- a finite chain of edges of E leads from x to y; it may be empty
pub data Leads {N : Type 0} (E : N → N → Type 0) : N → N → Type 0 where
  here : {x : N} → Leads E x x
  more : {x y z : N} → Leads E x y → E y z → Leads E x z

-- an edge from a member leads to a member
abbrev pub IsClosed : {N : Type 0} → (N → N → Type 0) → (N → Bool) → Type 0
IsClosed {N} E p = (x y : N) → p x ≡ true → E x y → p y ≡ true

-- q has p and the starts, and nothing beyond them but what chains lead to from the starts; that q is closed
-- is not said
pub record Grows {N : Type 0} (E : N → N → Type 0) (Start : N → Type 0) (p q : N → Bool) : Type 0 where
  pub keeps : (x : N) → p x ≡ true → q x ≡ true
  pub joins : (x : N) → Start x → q x ≡ true
  pub only : (x : N) → q x ≡ true → (p x ≡ true) ⊎ ((r : N) × (Start r × Leads E r x))

-- q is the closure of p: what chains lead to from p
pub record IsClosure {N : Type 0} (E : N → N → Type 0) (p q : N → Bool) : Type 0 where
  pub keeps : (x : N) → p x ≡ true → q x ≡ true
  pub closed : IsClosed E q
  pub only : (x : N) → q x ≡ true → (r : N) × ((p r ≡ true) × Leads E r x)
