-- The rule of the table, and what each step says.
use Rattle.std.specs.Prelude.{◌≡◌, ◌≢◌, ◌⊎◌, ℕ, ◌+◌, ◌<◌, Bool, true, false, List, [], ◌∷◌, length, slice_index, Option, None, Some}
use mathlib.Core.Option.{some, none}
use lib.ListN.{get_elem?}
use Rattle.atomic_table.specs.Table.{State, Me, Step}
use Rattle.hd_turns.specs.declared.rule.View.{View}
use Rattle.hd_turns.specs.declared.gate.TheConstants.{FULL}
use Rattle.hd_turns.specs.Views.{AreTurns, Enters, GoesOn, MayLeave, gave_back, missed}

-- a gate is free, and a turn may follow
abbrev pub IsFree : ℕ → Type 0
IsFree gate = (0 < gate) × (gate < FULL)

module _ {W : Type 0} where
  -- the slot that an end has taken while it has its turn, with the value, and no other
  abbrev pub IsCarried : Bool → List (ℕ × W) → Type 0
  IsCarried true carried = (value : W) × (carried ≡ (0, value) ∷ [])
  IsCarried false carried = carried ≡ []

  abbrev pub IsSeated : Me W (View W) → Type 0
  IsSeated m = IsCarried m.0.has_gate m.1

  abbrev pub carried_value : List (ℕ × W) → Option W
  carried_value [] = None
  carried_value (slot ∷ slots) = Some slot.1

  -- each turn is that of an end which there is
  abbrev pub AreBelow : ℕ → List (ℕ × W) → Type 0
  AreBelow ends [] = Unit {0}
  AreBelow ends (entry ∷ past) = (entry.0 < ends) × AreBelow ends past

  -- what is so of the end with a number among so many, where the gate is this, the history that, and the end
  -- that has the gate the holder
  pub record IsView (gate holder : ℕ) (log : List (ℕ × W)) (ends number : ℕ) (v : View W) : Type 0 where
    pub number_is : v.number ≡ number
    pub last : v.is_last ≡ true → number + 1 ≡ ends
    pub holding : v.has_gate ≡ true → (gate ≡ 0) × (holder ≡ number) × (v.seen ≡ log)
    pub seeing : GoesOn v.number log v.seen

  -- There is one history of turns. Where the gate is free it is the history's length, and the value that the
  -- last turn left is stored under it; else it is 0, and the value is out with the one end that has it and has
  -- seen all. The ends are numbered, each has seen a part of the history from its beginning, and what it has
  -- not seen are turns of others.
  pub record Kept (turn : ℕ → W → W → Type 0) (s : State W (View W)) : Type 0 where
    pub by : ℕ
    pub value : W
    pub past : List (ℕ × W)
    pub holder : ℕ
    pub ends : ℕ
    pub one_word : length s.words ≡ 1
    pub all_ends : length s.views ≡ ends
    pub gate : ((slice_index s.words 0 ≡ length past + 1) × (s.homes ≡ some value ∷ []))
        ⊎ ((slice_index s.words 0 ≡ 0) × (s.homes ≡ none ∷ []))
    pub turns : AreTurns turn by value past
    pub below : AreBelow ends ((by, value) ∷ past)
    pub each : (i : ℕ) (v : View W) → get_elem? s.views i ≡ some v
        → IsView (slice_index s.words 0) holder ((by, value) ∷ past) ends i v

  -- a look at the gate is a miss where it is not free, and changes nothing else
  abbrev pub looked_at : Step W → Me W (View W) → ℕ → Me W (View W) → Type 0
  looked_at step m n m' = (IsFree n → m' ≡ m) × ((IsFree n → ⊥) → m' ≡ (missed 1 m.0, m.1))

  -- The gate was what the end had found at its look, and the end has the value; or another end took it since,
  -- and the look was a miss.
  pub record Entered (turn : ℕ → W → W → Type 0) (number : ℕ) (m m' : Me W (View W)) : Type 0 where
    pub value : W
    pub enters : Enters turn 1 number value m.0 m'.0
    pub taken : m'.1 ≡ (0, value) ∷ m.1

  abbrev pub entered : (ℕ → W → W → Type 0) → Step W → Me W (View W) → ℕ
      → Me W (View W) → Type 0
  entered turn step m n m' =
      (n ≡ step.first → Entered turn n m m') × (n ≢ step.first → m' ≡ (missed 1 m.0, m.1))

  -- an end that has the gate may give it back with the value that it carries
  pub record MayFree (turn : ℕ → W → W → Type 0) (m : Me W (View W)) : Type 0 where
    pub gate : m.0.has_gate ≡ true
    pub value : W
    pub carried : m.1 ≡ (0, value) ∷ []
    pub may : MayLeave turn value m.0

  -- the gate was given back with the value that was carried
  abbrev pub HasFreed : Me W (View W) → Me W (View W) → Type 0
  HasFreed m m' = (value : W) → m.1 ≡ (0, value) ∷ [] → m' ≡ (gave_back value m.0, [])

  abbrev pub left : Step W → Me W (View W) → ℕ → Me W (View W) → Type 0
  left step m n m' = HasFreed m m'
