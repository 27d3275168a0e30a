-- What contracts see of a store.
use Rattle.std.specs.Prelude.{[], ◌≡◌, ℕ, List, refl}
use Rattle.std.specs.Coded.{Coded, code_by, coded×, coded_ℕ, coded_list}
use Rattle.std.specs.{FinMap.FinMap, Ordering.nat_cmp}
use Rattle.std.specs.FinMap as map
use Rattle.hd_model.specs.{declared.data.Id.Id, declared.data.Addr.Addr, State.Numbers, State.State, Heap.Heap, Table.Table}
use Rattle.hd_commands.specs.Seen.{Seen}
use Rattle.hd_model.specs.Code.{numbers_code, state_code, id_code, heap_code, table_code}
use Rattle.hd_store.specs.Stored.{Parts, numbers_of, state_of}
use Rattle.hd_store.specs.{Reading.names_of, StateHeap.IsOfHeap, StateHeap.IsOfTable}

-- a heap without its free regions, on which no result depends
abbrev pub without_free : Heap → Heap
without_free h = record h { free = [] }

-- the numbers of a run, the state of its machine without pinned addresses, the identity at each address that
-- has an object, the ages of the clumps, the heap by address, and the table by slot
pub record Machine : Type 0 where
  pub numbers : Numbers
  pub state : State
  pub names : FinMap nat_cmp Id
  pub ages : List ℕ
  pub heap : Heap
  pub table : Table

abbrev pub machine_of : Parts → Machine
machine_of f = record {
  numbers = numbers_of f;
  state = state_of f;
  names = names_of f.heap;
  ages = f.ages;
  heap = without_free f.heap;
  table = f.table;
}

abbrev pub machine_code : Coded Machine
machine_code =
    code_by (Numbers × (State × (FinMap nat_cmp Id × (List ℕ × (Heap × Table)))))
    (coded× numbers_code (coded× state_code
    (coded× (map.code coded_ℕ id_code) (coded× (coded_list coded_ℕ) (coded× heap_code table_code)))))
    (λ m. (m.numbers, (m.state, (m.names, (m.ages, (m.heap, m.table))))))
    (λ p. record {
      numbers = p.0;
      state = p.1.0;
      names = p.1.1.0;
      ages = p.1.1.1.0;
      heap = p.1.1.1.1.0;
      table = p.1.1.1.1.1;
    })
    (λ _. refl)

-- what commands see of a store: objects are referenced by address, and no address gets another identity
abbrev pub seen_by : Machine → Seen Addr (FinMap nat_cmp Id)
seen_by m = record {
  numbers = m.numbers;
  state = m.state;
  ages = m.ages;
  names = λ a. map.get m.names a.0;
  rest = m.names;
}

-- the state of a store is that of its heap and of its table, and its names are the identities there
pub record IsOverHeap (m : Machine) : Type 0 where
  pub names : m.names ≡ names_of m.heap
  pub heap : IsOfHeap m.state m.heap
  pub table : IsOfTable m.state m.heap m.table
