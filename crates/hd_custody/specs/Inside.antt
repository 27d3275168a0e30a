-- What private clauses alone cite.
use Rattle.std.specs.Prelude.{◌≡◌, ◌≢◌, ℕ, Bool, true, false, List, [], ◌∷◌, Option, None, zero, suc, ◌+◌, ◌*◌, ◌^◌, ◌<◌, ◌==◌, bit_or, ◌++◌, cond, Some}
use Rattle.std.specs.Int.{bit_at}
use Rattle.atomic_table.specs.Table.{Me}
use Rattle.hd_model.specs.{declared.held.Held.Ghosts, declared.limits.TheConstants.BLOCKS, declared.limits.TheConstants.ROWS}
use Rattle.hd_custody.specs.declared.view.View.{View}
use Rattle.hd_custody.specs.Counts.{IsSlot, Every, mask_word, slot_block, slot_row, rows, without_rows, Has, HasAs}
use Rattle.hd_custody.specs.Views.{Acting, begun, took, with_data, Fresh, KindIs}
use Rattle.hd_custody.specs.Traces.{Did, Phase, settle, again_whole, back_part, found, follow, to_bank, to_push, to_sweep, every_row}

-- ---- what a seat knows, and how each step that it makes changes that

-- each slot held is one, and has a kind: so it is between two calls
abbrev pub Kinded : List (ℕ × ℕ) → Type 0
Kinded held = Every (λ p. IsSlot p.0 × (p.1 ≢ 0)) held

module _ {W : Type 0} where
  -- the slot of the table that is out with a seat between two calls: while it has the gate, the one that held
  -- the world
  abbrev pub carried_by : Bool → List (ℕ × Option W)
  carried_by true = (0, None) ∷ []
  carried_by false = []

  -- a seat between two calls
  abbrev pub IsSeated : Me (Option W) (View W) → Type 0
  IsSeated m = (m.0.is_spent ≡ false) × (m.1 ≡ carried_by m.0.has_gate) × Kinded m.0.held

-- ---- a seat in the middle of a call, and some steps of the call: what its private methods require and ensure

-- b is one of the 256 blocks
abbrev pub IsBlock : ℕ → Type 0
IsBlock b = (0 < b) × (b < BLOCKS + 1)

-- the slots of block b whose rows m has are held
abbrev pub HasRows : ℕ → ℕ → List (ℕ × ℕ) → Type 0
HasRows b m held = (r : ℕ) → r < ROWS → bit_at m r ≡ 1 → Has (ROWS * b + r) held

-- and each with the kind word k
abbrev pub HasRowsAs : ℕ → ℕ → ℕ → List (ℕ × ℕ) → Type 0
HasRowsAs b m k held = (r : ℕ) → r < ROWS → bit_at m r ≡ 1 → HasAs (ROWS * b + r, k) held

-- the phase p where a step gave 0, and else the call's end with what came
abbrev pub found_or : Phase → ℕ → Phase
found_or p zero = p
found_or p (suc x) = found (suc x)

-- the slots held with all slots of a block of the kind word k on top: 0 is no block
abbrev pub with_block : ℕ → ℕ → List (ℕ × ℕ) → List (ℕ × ℕ)
with_block zero k held = held
with_block (suc b) k held = rows (suc b) every_row k ++ held

-- a `release` after an exchange gave x, where the n-th word is next
abbrev pub pushed_to : ℕ → ℕ → Phase
pushed_to n x = cond (x == 0) (found 0) (to_push n x)

-- a `gather` after its n-th exchange of the cache gave x
abbrev pub swept_to : ℕ → ℕ → ℕ → Phase
swept_to blocks n x = cond (x == 0) (to_sweep blocks (n + 1)) (settle n x)

-- a `gather` after the mask of block b gave m, which is not 0
abbrev pub drained_to : ℕ → ℕ → Phase
drained_to b m = cond (m == every_row) (again_whole b) (back_part b m)

-- the step by which slot x goes into its mask, which had y
abbrev pub into_mask : ℕ → ℕ → Did
into_mask x y = (mask_word (slot_block x), y, bit_or y (2 ^ slot_row x))

module _ {W : Type 0} where
  -- the seat with another view
  abbrev pub with_view : View W → Acting W → Acting W
  with_view v a = record a { view = v }

  -- the view once block d, where it isn't 0, is a data block
  abbrev pub storing_data : ℕ → View W → View W
  storing_data d v = record v { changes = with_data d v.changes }

  -- the seat as a call begins
  abbrev pub calling : Acting W → Acting W
  calling a = with_view (begun a.view) a

  -- the seat after some steps more, with these slots held
  abbrev pub went : List (ℕ × ℕ) → List Did → Acting W → Acting W
  went held steps a = with_view (record a.view { held = held; trace = a.view.trace ++ steps }) a

  module _ (k blocks : ℕ) where
    -- Some steps of a call on the kind with number k, from phase p to phase q. Nothing else changed but the
    -- slots held, which are these now.
    pub record Made (p q : Phase) (held : List (ℕ × ℕ)) (a b : Acting W) : Type 0 where
      pub steps : List Did
      pub only : b ≡ went held steps a
      pub lead : follow k blocks p steps ≡ q

    -- Rows of block b were offered to reserve cells: from the i-th cell and the rows m on, up to the j-th
    -- with the rows l left, which still are held.
    pub record Banked (b : ℕ) (from to : ℕ × ℕ) (a c : Acting W) : Type 0 where
      pub has : HasRowsAs b to.1 (k + 1) c.view.held
      pub left : without_rows b to.1 c.view.held ≡ without_rows b from.1 a.view.held
      pub made : (x : ℕ) → Made (to_bank b x from.0 from.1) (to_bank b x to.0 to.1) c.view.held a c

module _ {W : Type 0} (m : Ghosts W) where
  -- the seat with the gate and the world
  abbrev pub carrying : W → Acting W → Acting W
  carrying w a = record a { view = took m w a.view; out = (0, Some w) ∷ a.out }

  -- what came, where it is no 0, was not held, is not live, and is of the kind with number k
  abbrev pub Offers : ℕ → View W → ℕ → Type 0
  Offers k v x = x ≢ 0 → Fresh m v x × KindIs m v (slot_block x) (k + 1)
