-- What private clauses alone cite.
use Rattle.std.specs.Prelude.{◌≡◌, ℕ, Bool, true, false, List, Some, ◌⊎◌, [], ◌∷◌, ◌++◌, Contains}
use Rattle.hd_model.specs.{State.Handle, State.secondary_of, Role.attaches, Role.role, Ages.is_due, Leads.Leads, declared.data.Addr.Addr, Table.Table, Table.row_at, Reach.IsAttached}
use Rattle.hd_model.specs.Scene.{Rows, Objects, is_object, IsYoungField}
use Rattle.hd_dep.specs.declared.waiting.Waiting.{Waiting}

-- ---- the passes of a rescan (CoreCLR's dependent handle scan, which goes on while a pass promotes something)

-- q is p and some of what chains lead to from p
pub record Spreads {N : Type 0} (E : N → N → Type 0) (p q : N → Bool) : Type 0 where
  pub keeps : (x : N) → p x ≡ true → q x ≡ true
  pub only : (x : N) → q x ≡ true → (r : N) × ((p r ≡ true) × Leads E r x)

-- q has a member that p has not
pub record Gained {N : Type 0} (p q : N → Bool) : Type 0 where
  pub member : N
  pub new : q member ≡ true
  pub old : p member ≡ false

-- a handle with a target and a secondary
pub record HasParts {N : Type 0} (h : Handle N) (x y : N) : Type 0 where
  pub target : h.target ≡ Some x
  pub secondary : secondary_of h.extra ≡ Some y

-- where the target of a handle is promoted, its secondary is too
pub record IsFollowed {N : Type 0} (h : Handle N) (p : N → Bool) : Type 0 where
  pub follows : (x y : N) → HasParts h x y → p x ≡ true → p y ≡ true

-- each dependent handle in a visited slot has a property
abbrev pub OfVisited : {N : Type 0} → Rows N → List ℕ → ℕ → (Handle N → Type 0) → Type 0
OfVisited rows ages n P = (slot : ℕ) (h : Handle _) → rows slot ≡ Some h → role h ≡ attaches
    → is_due ages n slot ≡ true → P h

-- nothing was promoted, and nothing was to be: by one handle, and by the dependent ones in visited slots
pub record IsSpreadRow {N : Type 0} (h : Handle N) (p q : N → Bool) : Type 0 where
  pub same : q ≡ p
  pub followed : IsFollowed h p

pub record IsSpread {N : Type 0} (rows : Rows N) (ages : List ℕ) (n : ℕ) (p q : N → Bool) : Type 0 where
  pub same : q ≡ p
  pub followed : OfVisited rows ages n (λ h. IsFollowed h p)

-- ---- the dependent handles that a pass leaves waiting for their targets

-- a waiting handle by its parts, and the number of its target
abbrev pub waiting_row : (target secondary : Addr) → Waiting
waiting_row target secondary = record { target = target; secondary = secondary }

abbrev pub target_of : Waiting → ℕ
target_of row = row.target.0

-- a handle with a target and a secondary waits
abbrev pub Waits : List Waiting → Addr → Addr → Type 0
Waits rows x y = Contains rows (waiting_row x y)

-- each that waits is a dependent handle of the table, whose target was not promoted
abbrev pub AreWaiting : (table : Rows Addr) (promoted : Addr → Bool) → List Waiting → Type 0
AreWaiting table promoted rows =
    (x y : Addr) → Waits rows x y → IsAttached table x y × (promoted x ≡ false)

-- the secondary of each that waits is an object
abbrev pub AreObjects : Objects Addr → List Waiting → Type 0
AreObjects o rows = (x y : Addr) → Waits rows x y → is_object o y ≡ true

-- an edge by a field of a condemned object, or by a handle that waits
abbrev pub IsWaitingEdge : Objects Addr → ℕ → List Waiting → Addr → Addr → Type 0
IsWaitingEdge o n rows x y = IsYoungField o n x y ⊎ Waits rows x y

-- where the target of a handle is promoted, its secondary is too, or it waits
abbrev pub IsVisited : Handle Addr → List Waiting → (promoted : Addr → Bool) → Type 0
IsVisited h rows promoted = (x y : Addr) → HasParts h x y → (promoted y ≡ true) ⊎ Waits rows x y

-- a handle has joined those that wait, since its target is not promoted
pub record HasJoined (h : Handle Addr) (promoted : Addr → Bool) (old new : List Waiting) : Type 0 where
  pub target : Addr
  pub secondary : Addr
  pub parts : HasParts h target secondary
  pub lost : promoted target ≡ false
  pub rows : new ≡ old ++ waiting_row target secondary ∷ []

-- what a pass makes of the handles that it visits: it promotes the secondary of each whose target is
-- promoted, and each other one waits
pub record IsGathered (t : Table) (ages : List ℕ) (n : ℕ) (p : Addr → Bool) (rows : List Waiting)
    (q : Addr → Bool) : Type 0 where
  pub waiting : AreWaiting (row_at t) p rows
  pub visited : OfVisited (row_at t) ages n (λ h. IsVisited h rows q)
