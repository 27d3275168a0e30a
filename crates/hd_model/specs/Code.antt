-- How a state is stored as plain data, by which a proof distinguishes two states. Nothing else is said here.
use Rattle.std.specs.Prelude.{◌≡◌, ℕ, Bool, List, Option, ◌⊎◌, refl}
use mathlib.Core.Logic.{inl, inr}
use base.Stored.{coded_unit}
use Rattle.std.specs.Coded.{Coded, code_by, coded×, coded⊎, coded_ℕ, coded_bool, coded_list, coded_option}
use Rattle.std.specs.FinMap.{FinMap}
use Rattle.std.specs.FinMap as map
use Rattle.std.specs.FinSet as set
use Rattle.std.specs.Ordering.{nat_cmp}
use Rattle.hd_model.specs.Data.{Id, Addr, Slot, Kind, Strength, Entry}
use Rattle.hd_model.specs.contracts.data.Id as id_contract
use Rattle.hd_model.specs.contracts.data.Addr as addr_contract
use Rattle.hd_model.specs.contracts.data.Slot as slot_contract
use Rattle.hd_model.specs.contracts.data.Kind as kind_contract
use Rattle.hd_model.specs.contracts.data.Strength as strength_contract
use Rattle.hd_model.specs.contracts.data.Entry as entry_contract
use Rattle.hd_model.specs.State.{Numbers, Object, Extra, nothing, strength, secondary, count, Handle, WeakEntry, BlockUse, handles_of, extra_data, State}
use Rattle.hd_model.specs.Heap.{Placed, Region, Heap, Basis}
use Rattle.hd_model.specs.Table.{Table, Queue}

abbrev pub id_code : Coded Id
id_code = id_contract.the_row.coded

abbrev pub addr_code : Coded Addr
addr_code = addr_contract.the_row.coded

abbrev pub slot_code : Coded Slot
slot_code = slot_contract.the_row.coded

abbrev pub kind_code : Coded Kind
kind_code = kind_contract.the_row.coded

abbrev pub entry_code : Coded Entry
entry_code = entry_contract.the_row.coded

abbrev pub numbers_code : Coded Numbers
numbers_code =
    code_by (ℕ × (ℕ × ℕ)) (coded× coded_ℕ (coded× coded_ℕ coded_ℕ)) (λ n. (n.heap, (n.blocks, n.callers)))
    (λ p. record { heap = p.0; blocks = p.1.0; callers = p.1.1 }) (λ _. refl)

abbrev pub object_code : {N : Type 0} → Coded N → Coded (Object N)
object_code {N} c =
    code_by (List (Option N) × (ℕ × (ℕ × Bool))) (coded× (coded_list (coded_option c))
    (coded× coded_ℕ (coded× coded_ℕ coded_bool)))
    (λ o. (o.fields, (o.value, (o.generation, o.registered))))
    (λ p. record { fields = p.0; value = p.1.0; generation = p.1.1.0; registered = p.1.1.1 }) (λ _. refl)

abbrev extra_parts : {N : Type 0} → Extra N → Unit {0} ⊎ (Strength ⊎ (Option N ⊎ ℕ))
extra_parts nothing = inl tt
extra_parts (strength s) = inr (inl s)
extra_parts (secondary o) = inr (inr (inl o))
extra_parts (count c) = inr (inr (inr c))

abbrev extra_from : {N : Type 0} → Unit {0} ⊎ (Strength ⊎ (Option N ⊎ ℕ)) → Extra N
extra_from (inl _) = nothing
extra_from (inr (inl s)) = strength s
extra_from (inr (inr (inl o))) = secondary o
extra_from (inr (inr (inr c))) = count c

pub extra_again : {N : Type 0} (e : Extra N) → extra_from (extra_parts e) ≡ e
extra_again nothing = refl
extra_again (strength s) = refl
extra_again (secondary o) = refl
extra_again (count c) = refl

abbrev pub extra_code : {N : Type 0} → Coded N → Coded (Extra N)
extra_code {N} c =
    code_by (Unit {0} ⊎ (Strength ⊎ (Option N ⊎ ℕ)))
    (coded⊎ coded_unit (coded⊎ strength_contract.the_row.coded (coded⊎ (coded_option c) coded_ℕ))) extra_parts
    extra_from extra_again

abbrev pub handle_code : {N : Type 0} → Coded N → Coded (Handle N)
handle_code {N} c =
    code_by (Kind × (Option N × Extra N)) (coded× kind_code (coded× (coded_option c) (extra_code c)))
    (λ h. (h.kind, (h.target, h.extra)))
    (λ p. record { kind = p.0; target = p.1.0; extra = p.1.1 }) (λ _. refl)

abbrev pub weak_code : Coded (WeakEntry Id)
weak_code = code_by (Id × Option Id) (coded× id_code (coded_option id_code)) (λ e. (e.key, e.value))
    (λ p. record { key = p.0; value = p.1 }) (λ _. refl)

abbrev use_parts : BlockUse → Kind ⊎ Unit {0}
use_parts (handles_of kind) = inl kind
use_parts extra_data = inr tt

abbrev use_from : Kind ⊎ Unit {0} → BlockUse
use_from (inl kind) = handles_of kind
use_from (inr _) = extra_data

pub use_again : (u : BlockUse) → use_from (use_parts u) ≡ u
use_again (handles_of kind) = refl
use_again extra_data = refl

abbrev pub use_code : Coded BlockUse
use_code = code_by (Kind ⊎ Unit {0}) (coded⊎ kind_code coded_unit) use_parts use_from use_again

-- the parts of a state, three maps and two lists of registers first
abbrev Parts : Type 0
Parts =
    FinMap nat_cmp (Object Id) × (FinMap nat_cmp (Handle Id) × (FinMap nat_cmp (Option (WeakEntry Id))
    × (List (List (Option Id)) × (List (List (Option Slot)) × (List (Option Id)
    × (List (Option Slot) × (List Id × (FinMap nat_cmp ℕ × (FinMap nat_cmp BlockUse × List ℕ)))))))))

abbrev parts_code : Coded Parts
parts_code =
    coded× (map.code coded_ℕ (object_code id_code))
    (coded× (map.code coded_ℕ (handle_code id_code))
    (coded× (map.code coded_ℕ (coded_option weak_code))
    (coded× (coded_list (coded_list (coded_option id_code)))
    (coded× (coded_list (coded_list (coded_option slot_code)))
    (coded× (coded_list (coded_option id_code)) (coded× (coded_list (coded_option slot_code))
    (coded× (coded_list id_code) (coded× (map.code coded_ℕ coded_ℕ)
    (coded× (map.code coded_ℕ use_code) (coded_list coded_ℕ))))))))))

abbrev pub state_code : Coded State
state_code =
    code_by Parts parts_code
    (λ s.
    let last : List Id × (FinMap nat_cmp ℕ × (FinMap nat_cmp BlockUse × List ℕ)) =
    (s.queue, (s.pinned, (s.blocks, s.serials))) in
    (s.objects, (s.handles, (s.weak, (s.registers, (s.handle_registers, (s.statics, (s.board, last))))))))
    (λ p. record {
      objects = p.0;
      handles = p.1.0;
      weak = p.1.1.0;
      registers = p.1.1.1.0;
      handle_registers = p.1.1.1.1.0;
      statics = p.1.1.1.1.1.0;
      board = p.1.1.1.1.1.1.0;
      queue = p.1.1.1.1.1.1.1.0;
      pinned = p.1.1.1.1.1.1.1.1.0;
      blocks = p.1.1.1.1.1.1.1.1.1.0;
      serials = p.1.1.1.1.1.1.1.1.1.1;
    })
    (λ _. refl)

abbrev pub placed_code : Coded Placed
placed_code =
    code_by (Id × (List (Option Addr) × (ℕ × Bool)))
    (coded× id_code (coded× (coded_list (coded_option addr_code)) (coded× coded_ℕ coded_bool)))
    (λ o. (o.id, (o.fields, (o.value, o.registered))))
    (λ p. record { id = p.0; fields = p.1.0; value = p.1.1.0; registered = p.1.1.1 }) (λ _. refl)

abbrev pub region_code : Coded Region
region_code = code_by (ℕ × ℕ) (coded× coded_ℕ coded_ℕ) (λ r. (r.generation, r.fill))
    (λ p. record { generation = p.0; fill = p.1 }) (λ _. refl)

abbrev pub heap_code : Coded Heap
heap_code =
    code_by (FinMap nat_cmp Placed × (FinMap nat_cmp Region × (List ℕ × (ℕ × set.FinSet nat_cmp))))
    (coded× (map.code coded_ℕ placed_code) (coded× (map.code coded_ℕ region_code)
    (coded× (coded_list coded_ℕ) (coded× coded_ℕ (set.code coded_ℕ)))))
    (λ h. (h.objects, (h.regions, (h.free, (h.limit, h.cards)))))
    (λ p. record { objects = p.0; regions = p.1.0; free = p.1.1.0; limit = p.1.1.1.0; cards = p.1.1.1.1 })
    (λ _. refl)

abbrev pub basis_code : Coded Basis
basis_code = code_by (Heap × ℕ) (coded× heap_code coded_ℕ) (λ g. (g.heap, g.condemned))
    (λ p. record { heap = p.0; condemned = p.1 }) (λ _. refl)

abbrev pub table_code : Coded Table
table_code =
    code_by (FinMap nat_cmp (Handle Addr) × (List (List ℕ) × (FinMap nat_cmp BlockUse × ℕ)))
    (coded× (map.code coded_ℕ (handle_code addr_code))
    (coded× (coded_list (coded_list coded_ℕ)) (coded× (map.code coded_ℕ use_code) coded_ℕ)))
    (λ t. (t.rows, (t.chains, (t.uses, t.blocks))))
    (λ p. record { rows = p.0; chains = p.1.0; uses = p.1.1.0; blocks = p.1.1.1 }) (λ _. refl)

abbrev pub queue_code : Coded Queue
queue_code = code_by (List Addr × ℕ) (coded× (coded_list addr_code) coded_ℕ) (λ q. (q.queued, q.room))
    (λ p. record { queued = p.0; room = p.1 }) (λ _. refl)
