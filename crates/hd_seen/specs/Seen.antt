-- What is seen of a state: all of it but the pinned addresses, with what the heap and the table keep.
use Rattle.std.specs.Prelude.{ℕ, ◌+◌, ◌-◌, ◌*◌, ◌/◌, ◌==◌, List, ◌++◌, map, filter_map, flat_map, count_by, slice_index, Option, Some, None, option_map}
use Rattle.std.specs.FinMap.{entries}
use Rattle.std.specs.List.{find, range_with_len}
use Rattle.std.specs.Option.{option_map_or, option_and_then}
use Rattle.hd_model.specs.declared.data.Id.{Id}
use Rattle.hd_model.specs.declared.data.Slot.{Slot}
use Rattle.hd_model.specs.declared.data.Kind.{Kind}
use Rattle.hd_model.specs.declared.limits.TheConstants.{CARD, CLUMP, REGION, ROWS}
use Rattle.hd_model.specs.Kinds.{all_kinds}
use Rattle.hd_model.specs.State as machine
use Rattle.hd_model.specs.State.{Numbers, State, Object, Handle, WeakEntry, BlockUse, handles_of, extra_data}
use Rattle.hd_model.specs.Heap.{Heap, Placed, Region, is_set}
use Rattle.hd_model.specs.Table.{Table, chain_of}
use Rattle.hd_seen.specs.declared.Snapshot.{Snapshot}
use Rattle.hd_seen.specs.declared.SeenObject.{SeenObject}
use Rattle.hd_seen.specs.declared.SeenRegion.{SeenRegion}
use Rattle.hd_seen.specs.declared.SeenExtra.{SeenExtra}
use Rattle.hd_seen.specs.declared.SeenExtra.TheVariants as seen
use Rattle.hd_seen.specs.declared.SeenHandle.{SeenHandle}
use Rattle.hd_seen.specs.declared.SeenEntry.{SeenEntry}
use Rattle.hd_seen.specs.declared.SeenBlock.{SeenBlock}

-- an object as it is seen: the number of its identity, the object, and the address of its first cell
pub record ObjectSeen : Type 0 where
  pub id : Id
  pub object : Object Id
  pub address : ℕ

-- all that is seen: objects by rising identity, regions, handles and entries by rising number, blocks by
-- kind, in the order of the kind's chain, and then those of extra data; and what queue, registers and board
-- have
pub record Picture : Type 0 where
  pub callers : ℕ
  pub objects : List ObjectSeen
  pub regions : List SeenRegion
  pub handles : List SeenHandle
  pub entries : List SeenEntry
  pub blocks : List SeenBlock
  pub queue : List Id
  pub registers : List (List (Option Id))
  pub handle_registers : List (List (Option Slot))
  pub statics : List (Option Id)
  pub board : List (Option Slot)
  pub serials : List ℕ

-- the address of the object with an identity, 0 where there is none
abbrev pub address_of : Heap → ℕ → ℕ
address_of h x =
    option_map_or (λ (e : ℕ × Placed). e.0) (find (λ (e : ℕ × Placed). e.1.id.0 == x) (entries h.objects)) 0

abbrev pub object_seen : Heap → ℕ × Object Id → ObjectSeen
object_seen h e = record { id = record { 0 = e.0 }; object = e.1; address = address_of h e.0 }

-- how many cards of a region are set
abbrev pub set_cards : Heap → ℕ → ℕ
set_cards h r = count_by (λ k. is_set h (r * (REGION / CARD) + k)) (range_with_len 0 (REGION / CARD))

abbrev pub region_seen : Heap → ℕ × Region → SeenRegion
region_seen h e =
    record { number = e.0; generation = e.1.generation; pointer = e.1.fill; cards = set_cards h e.0 }

abbrev pub regions_seen : Heap → List SeenRegion
regions_seen h = map (region_seen h) (entries h.regions)

-- the age of a slot's clump: the clumps of block 1 come first
abbrev pub age_of : List ℕ → ℕ → ℕ
age_of ages slot = slice_index ages ((slot - ROWS) / CLUMP)

abbrev pub extra_seen : machine.Extra Id → SeenExtra
extra_seen machine.nothing = seen.Nothing
extra_seen (machine.strength s) = seen.Strength s
extra_seen (machine.secondary o) = seen.Secondary o
extra_seen (machine.count c) = seen.Count c

abbrev pub handle_seen : List ℕ → ℕ × Handle Id → SeenHandle
handle_seen ages e = record {
  slot = record { 0 = e.0 };
  kind = e.1.kind;
  target = e.1.target;
  extra = extra_seen e.1.extra;
  age = age_of ages e.0;
}

abbrev pub entry_seen : List ℕ → ℕ × Option (WeakEntry Id) → SeenEntry
entry_seen ages e = record {
  slot = record { 0 = e.0 };
  key = option_map (λ (x : WeakEntry Id). x.key) e.1;
  value = option_and_then (λ (x : WeakEntry Id). x.value) e.1;
  age = age_of ages e.0;
}

-- the blocks of a kind, in the order of its chain; and a block of extra data
abbrev pub chain_seen : Table → Kind → List SeenBlock
chain_seen t kind = map (λ block. record { number = block; kind = Some kind }) (chain_of t kind)

abbrev pub data_block : ℕ → BlockUse → Option SeenBlock
data_block block (handles_of kind) = None
data_block block extra_data = Some (record { number = block; kind = None })

abbrev pub data_seen : ℕ × BlockUse → Option SeenBlock
data_seen e = data_block e.0 e.1

abbrev pub blocks_seen : Table → List SeenBlock
blocks_seen t = flat_map (chain_seen t) all_kinds ++ filter_map data_seen (entries t.uses)

-- what is seen of a state, with the ages of its clumps, its heap and its table
abbrev pub picture : Numbers → State → List ℕ → Heap → Table → Picture
picture n s ages h t = record {
  callers = n.callers;
  objects = map (object_seen h) (entries s.objects);
  regions = regions_seen h;
  handles = map (handle_seen ages) (entries s.handles);
  entries = map (entry_seen ages) (entries s.weak);
  blocks = blocks_seen t;
  queue = s.queue;
  registers = s.registers;
  handle_registers = s.handle_registers;
  statics = s.statics;
  board = s.board;
  serials = s.serials;
}

-- a snapshot as what it shows
abbrev pub object_shown : SeenObject → ObjectSeen
object_shown o = record {
  id = o.id;
  object = record {
    fields = o.fields.items;
    value = o.value;
    generation = o.generation;
    registered = o.registered;
  };
  address = o.at.0;
}

abbrev pub view_seen : Snapshot → Picture
view_seen s = record {
  callers = s.callers;
  objects = map object_shown s.objects.items;
  regions = s.regions.items;
  handles = s.handles.items;
  entries = s.entries.items;
  blocks = s.blocks.items;
  queue = s.queue.items;
  registers = s.registers.items;
  handle_registers = s.handle_registers.items;
  statics = s.statics;
  board = s.board;
  serials = s.serials.items;
}
