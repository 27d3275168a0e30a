-- What contracts see of a world, and what a command of a caller asks of it.
use Rattle.std.specs.Prelude.{ℕ, ◌<◌, ◌≤◌, List, Option, refl}
use Rattle.std.specs.Coded.{Coded, code_by, coded×, coded_ℕ, coded_list}
use Rattle.hd_model.specs.{declared.data.Entry.Entry, declared.data.Slot.Slot, declared.command.Cmd.Cmd, Valid.IsValid, Heap.Heap, Table.Table}
use Rattle.hd_model.specs.State.{Numbers, State}
use Rattle.hd_model.specs.declared.limits.TheConstants.{HEAP, BLOCKS, CALLERS}
use Rattle.hd_model.specs.Code.{numbers_code, state_code, entry_code, heap_code, table_code}
use Rattle.hd_store.specs.Offers.{IsOffer, GrowsUnoffered}

-- a world: its numbers, its state, the ages of the clumps, the heap by address without its free regions, the
-- table by slot, the journal that led there, and for how many more entries there is room
pub record WorldView : Type 0 where
  pub numbers : Numbers
  pub state : State
  pub ages : List ℕ
  pub heap : Heap
  pub table : Table
  pub journal : List Entry
  pub spare : ℕ

abbrev pub world_view_code : Coded WorldView
world_view_code =
    code_by (Numbers × (State × (List ℕ × (Heap × (Table × (List Entry × ℕ))))))
    (coded× numbers_code (coded× state_code (coded× (coded_list coded_ℕ)
    (coded× heap_code (coded× table_code (coded× (coded_list entry_code) coded_ℕ))))))
    (λ w. (w.numbers, (w.state, (w.ages, (w.heap, (w.table, (w.journal, w.spare)))))))
    (λ p. record {
      numbers = p.0;
      state = p.1.0;
      ages = p.1.1.0;
      heap = p.1.1.1.0;
      table = p.1.1.1.1.0;
      journal = p.1.1.1.1.1.0;
      spare = p.1.1.1.1.1.1;
    })
    (λ _. refl)

abbrev pub GrowsWithout : WorldView → ℕ → Cmd → Option Slot → Entry → Type 0
GrowsWithout w caller c offer e = GrowsUnoffered w.numbers w.state caller c offer e

-- the numbers of each world, as of each run: a heap of 3 to HEAP cells, 1 to BLOCKS blocks, and 1 to CALLERS
-- callers. Those of a host may be higher (`HasLimits`).
pub record HasRunLimits (n : Numbers) : Type 0 where
  pub heap : (3 ≤ n.heap) × (n.heap ≤ HEAP)
  pub blocks : (1 ≤ n.blocks) × (n.blocks ≤ BLOCKS)
  pub callers : (1 ≤ n.callers) × (n.callers ≤ CALLERS)

-- what a command of a caller asks of a world
pub record MayApply (w : WorldView) (number : ℕ) (c : Cmd) (offered : Option Slot) : Type 0 where
  pub room : 1 ≤ w.spare
  pub caller : number < w.numbers.callers
  pub valid : IsValid c
  pub offer : IsOffer w.state number c offered
