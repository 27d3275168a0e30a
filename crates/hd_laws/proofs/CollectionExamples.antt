-- Examples of what decides a collection, each proved by computing.
use Rattle.hd_model.specs.{declared.data.Addr.Addr, declared.data.Kind.Kind}
use Rattle.hd_model.proofs.Basics.{Bool, Extra, Handle, List, Meet, None, Object, Option, Range, Some, [], attaches, cleared, count, due_clumps, false, grown, holds, is_due, lit<, long, loses, lowered, map, nothing, pins, raised, refl, role, role_of, secondary, short, strength, survivor, true, visits, ℕ, ◌∷◌, ◌≡◌}
use Rattle.std.proofs.Math.Nat.{lt_irrefl}
use Rattle.hd_model.specs.RootText.{held_of}
use Rattle.hd_model.specs.declared.data.Kind.TheVariants as kind
use Rattle.hd_model.specs.declared.data.Strength.TheVariants as strength_of

-- a handle of each kind, with each extra that decides something
abbrev somewhere : Option Addr
somewhere = Some (record { 0 = 256 })

abbrev handle_of : Kind → Extra Addr → Handle Addr
handle_of k extra = record { kind = k; target = somewhere; extra = extra }

abbrev each : List (Handle Addr)
each =
    handle_of kind.Short nothing ∷ handle_of kind.Long nothing ∷ handle_of kind.Strong nothing
    ∷ handle_of kind.Pinned nothing ∷ handle_of kind.Variable (strength strength_of.Short)
    ∷ handle_of kind.Variable (strength strength_of.Long)
    ∷ handle_of kind.Variable (strength strength_of.Strong)
    ∷ handle_of kind.Variable (strength strength_of.Pinned) ∷ handle_of kind.Counted (count 2)
    ∷ handle_of kind.Counted (count 0) ∷ handle_of kind.Dependent (secondary somewhere) ∷ []

-- a variable handle has the role of its strength, and a ref-counted one that of its count
pub roles : map role each
    ≡ short ∷ long ∷ holds ∷ holds ∷ short ∷ long ∷ holds ∷ holds ∷ holds ∷ long ∷ attaches ∷ []
roles = refl

pub dependent_role : (o : Option Addr) → role_of kind.Dependent (secondary o) ≡ attaches
dependent_role o = refl

-- those that hold are roots
pub roots : map held_of each
    ≡ None ∷ None ∷ somewhere ∷ somewhere ∷ None ∷ None ∷ somewhere ∷ somewhere ∷ somewhere ∷ None ∷ None ∷ []
roots = refl

-- a pinned handle and a variable one of strength pinned pin, and no other
pub pinning : map pins each
    ≡ false ∷ false ∷ false ∷ true ∷ false ∷ false ∷ false ∷ true ∷ false ∷ false ∷ false ∷ []
pinning = refl

-- of what is not reached but kept, as a resurrected object is, the weak short ones alone lose their target
pub lost_if_kept : map (loses (λ _. false) (λ _. true)) each
    ≡ true ∷ false ∷ false ∷ false ∷ true ∷ false ∷ false ∷ false ∷ false ∷ false ∷ false ∷ []
lost_if_kept = refl

-- of what is not kept, those that hold alone do not
pub lost_if_removed : map (loses (λ _. false) (λ _. false)) each
    ≡ true ∷ true ∷ false ∷ false ∷ true ∷ true ∷ false ∷ false ∷ false ∷ true ∷ true ∷ []
lost_if_removed = refl

-- of what is reached, each stays as it was
pub left_if_reached : map (cleared (λ _. true) (λ _. true)) each ≡ each
left_if_reached = refl

-- a dependent handle loses both parts or none
abbrev attached : Handle Addr
attached = handle_of kind.Dependent (secondary somewhere)

pub dependent_is_left : cleared (λ _. false) (λ _. true) attached ≡ attached
dependent_is_left = refl

pub dependent_is_cleared : cleared (λ _. false) (λ _. false) attached
    ≡ record { kind = kind.Dependent; target = None; extra = secondary None }
dependent_is_cleared = refl

-- a strong one and a pinned one lose nothing
pub strong_is_left : map (cleared (λ _. false) (λ _. false)) (handle_of kind.Strong nothing
    ∷ handle_of kind.Pinned nothing ∷ handle_of kind.Counted (count 1) ∷ [])
    ≡ handle_of kind.Strong nothing ∷ handle_of kind.Pinned nothing ∷ handle_of kind.Counted (count 1) ∷ []
strong_is_left = refl

-- a resurrected object of generation 0 is no longer registered and is of generation 1, and another keeps its
-- registration
abbrev object_of : ℕ → Bool → Object Addr
object_of g registered = record { fields = []; value = 7; generation = g; registered = registered }

pub resurrected_is_unregistered : survivor 0 true (object_of 0 true) ≡ object_of 1 false
resurrected_is_unregistered = refl

pub other_stays_registered : survivor 0 false (object_of 1 true) ≡ object_of 1 true
other_stays_registered = refl

-- a collection of 0 raises generation 0 alone, and none is raised above 2
pub youngest_raised : raised 0 0 ≡ 1
youngest_raised = refl

pub older_kept : raised 0 1 ≡ 1
older_kept = refl

pub oldest_kept : raised 2 2 ≡ 2
oldest_kept = refl

pub ages_grown : grown 1 (0 ∷ 1 ∷ 2 ∷ []) ≡ 1 ∷ 2 ∷ 2 ∷ []
ages_grown = refl

-- slot 80 is in the second clump of block 1. A store lowers the clump's age, and never raises it.
pub age_lowered : lowered (2 ∷ 2 ∷ 2 ∷ 2 ∷ []) 80 1 ≡ 2 ∷ 1 ∷ 2 ∷ 2 ∷ []
age_lowered = refl

pub age_kept : lowered (2 ∷ 0 ∷ 2 ∷ 2 ∷ []) 80 1 ≡ 2 ∷ 0 ∷ 2 ∷ 2 ∷ []
age_kept = refl

-- it is due where its age is at most that of the collection
pub same_age_is_due : is_due (2 ∷ 1 ∷ 2 ∷ 2 ∷ []) 1 80 ≡ true
same_age_is_due = refl

pub higher_age_is_not_due : is_due (2 ∷ 1 ∷ 2 ∷ 2 ∷ []) 0 80 ≡ false
higher_age_is_not_due = refl

-- the due clumps of a chain in which block 2 comes before block 1
abbrev two_blocks : List ℕ
two_blocks = 2 ∷ 0 ∷ 1 ∷ 2 ∷ 0 ∷ 2 ∷ 2 ∷ 1 ∷ []

pub due_of_zero : due_clumps two_blocks 0 (2 ∷ 1 ∷ []) ≡ 4 ∷ 1 ∷ []
due_of_zero = refl

pub due_of_one : due_clumps two_blocks 1 (2 ∷ 1 ∷ []) ≡ 4 ∷ 7 ∷ 1 ∷ 2 ∷ []
due_of_one = refl

pub due_of_two : visits two_blocks 2 (2 ∷ 1 ∷ []) ≡ 8
due_of_two = refl

-- ranges that share a cell `Meet`, and ranges that only touch do not
abbrev cells : ℕ → ℕ → Range
cells first end = record { first = first; end = end }

pub sharing_meet : Meet (cells 256 260) (cells 259 262)
sharing_meet = record { left = lit< tt; right = lit< tt }

pub touching_apart : Meet (cells 256 260) (cells 260 263) → ⊥
touching_apart m = lt_irrefl 260 m.right
