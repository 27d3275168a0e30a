-- What an end knows, and how each step that it makes changes that.
use Rattle.std.specs.Prelude.{◌≡◌, ◌≢◌, ℕ, zero, suc, ◌+◌, ◌<◌, Bool, true, false, List, [], ◌∷◌, ◌++◌, length, Option, Some, None}
use Rattle.atomic_table.specs.Seated.{TableId}
use Rattle.hd_turns.specs.declared.rule.View.{View}
use Rattle.hd_turns.specs.declared.gate.TheConstants.{FULL}

-- what a clause sees of an end: of which table it is, what it knows, and the value while it has its turn
pub record Known (W : Type 0) : Type 0 where
  pub table : TableId
  pub view : View W
  pub value : Option W

-- how many turns an end has seen with the opening, by the number of the turn that it has, or had last
abbrev pub entries : Bool → ℕ → ℕ
entries true turn = turn
entries false turn = turn + 1

module _ {W : Type 0} where
  -- none of these turns is the end's with this number
  abbrev pub AreOthers : ℕ → List (ℕ × W) → Type 0
  AreOthers number [] = Unit {0}
  AreOthers number (entry ∷ past) = (entry.0 ≢ number) × AreOthers number past

  -- a history is a later one of what an end has seen, and what is newer are turns of other ends
  pub record GoesOn (number : ℕ) (log seen : List (ℕ × W)) : Type 0 where
    pub newer : List (ℕ × W)
    pub goes_on : log ≡ newer ++ seen
    pub others : AreOthers number newer

  -- each value is left by a turn from the one before, back to the opening
  abbrev pub AreTurns : (ℕ → W → W → Type 0) → ℕ → W → List (ℕ × W) → Type 0
  AreTurns turn by value [] = Unit {0}
  AreTurns turn by value ((before, was) ∷ past) = turn by was value × AreTurns turn before was past

  -- the end with a number, of a value to which nothing was done
  abbrev pub starting : W → ℕ → Bool → View W
  starting value number is_last =
      record { number = number; seen = (0, value) ∷ []; has_gate = false; misses = 0; is_last = is_last }

  -- an end from which the next was made, and the next
  abbrev pub passed_on : View W → View W
  passed_on v = record v { is_last = false }

  abbrev pub next_of : View W → View W
  next_of v = record v { number = v.number + 1; has_gate = false; misses = 0; is_last = true }

  -- an end as it is handed out: no other is made from it
  abbrev pub handed_out : View W → View W
  handed_out = passed_on

  -- it looked so many times in vain: another end had its turn, or came first, or no turn is left
  abbrev pub missed : ℕ → View W → View W
  missed times v = record v { misses = v.misses + times }

  -- it takes the gate, and sees the whole history
  abbrev pub took : List (ℕ × W) → View W → View W
  took log v = record v { seen = log; has_gate = true }

  -- it gives the gate back with a value
  abbrev pub gave_back : W → View W → View W
  gave_back value v = record v { seen = (v.number, value) ∷ v.seen; has_gate = false }

  abbrev pub back_by : Option W → View W → View W
  back_by None v = v
  back_by (Some value) v = gave_back value v

  -- An end took the gate after less than so many misses, with the value that the last turn of all left.
  -- The history goes on from what the end had seen by turns of other ends, each from what the one before left,
  -- and its length is the number of the turn that the end has now.
  pub record Enters (turn : ℕ → W → W → Type 0) (most number : ℕ) (value : W) (old new : View W) : Type 0 where
    pub by : ℕ
    pub past : List (ℕ × W)
    pub goes_on : GoesOn old.number ((by, value) ∷ past) old.seen
    pub turns : AreTurns turn by value past
    pub number_is : number ≡ length past + 1
    pub times : ℕ
    pub few : times < most
    pub new_is : new ≡ took ((by, value) ∷ past) (missed times old)

  -- it took the gate and has the value, after less than so many misses
  pub record TakesTurn (turn : ℕ → W → W → Type 0) (most number : ℕ) (old new : Known W) : Type 0 where
    pub found : W
    pub table_is : new.table ≡ old.table
    pub value_is : new.value ≡ Some found
    pub enters : Enters turn most number found old.view new.view

  -- the value is another
  abbrev pub with_value : Known W → W → Known W
  with_value k value = record k { value = Some value }

  -- it gave the gate back with the value that it has
  abbrev pub gave_all_back : Known W → Known W
  gave_all_back k = record { table = k.table; view = back_by k.value k.view; value = None }

  -- a value is left by a turn of the end from what it took
  pub record MayLeave (turn : ℕ → W → W → Type 0) (value : W) (v : View W) : Type 0 where
    pub by : ℕ
    pub was : W
    pub past : List (ℕ × W)
    pub seen : v.seen ≡ (by, was) ∷ past
    pub turns : turn v.number was value

  -- an end of this table: its number, and that of its last turn or of the one that it has
  pub record IsEnd (table : TableId) (seat : Known W) (number turn : ℕ) : Type 0 where
    pub table_is : seat.table ≡ table
    pub number_is : seat.view.number ≡ number
    pub turn_is : length seat.view.seen ≡ entries seat.view.has_gate turn
    pub below : turn < FULL

  -- the first ends of a value to which nothing was done, by their numbers from 0
  abbrev pub ends_of : TableId → W → ℕ → List (Known W)
  ends_of table value zero = []
  ends_of table value (suc number) =
      ends_of table value number
      ++ record { table = table; view = starting value number false; value = None } ∷ []
