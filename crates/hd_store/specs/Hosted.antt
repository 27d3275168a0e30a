-- What a host alone does to a store, beside the commands, and what it reads there.
use Rattle.std.specs.Prelude.{◌≡◌, ℕ, zero, suc, ◌+◌, ◌<◌, ◌≤◌, Bool, List, [], ◌∷◌, length, map, slice_index_or, slice_set, Option, None, Some, IfSome, Result, Ok, Err}
use Rattle.std.specs.Option.{option_map_or}
use Rattle.std.specs.FinMap.{insert}
use Rattle.hd_model.specs.{declared.data.Addr.Addr, declared.data.Id.Id, declared.data.Refusal.Refusal, Command.fresh_object}
use Rattle.hd_model.specs.State.{State, identity_of, last_serial, object_by_id, register_of, total_size, with_object, with_register, with_serial}
use Rattle.hd_model.specs.declared.command.Cmd.TheVariants as cmd
use Rattle.hd_model.specs.declared.data.Refusal.TheVariants as refusal
use Rattle.hd_model.specs.declared.data.Reply.TheVariants as reply
use Rattle.hd_commands.specs.Seen.{Seen}
use Rattle.hd_store.specs.{Calls.HasReturned, Inside.KeepsNames, Reading.name_in, StateHeap.IsStoredAt, Store.IsOverHeap, Store.Machine}
use Rattle.hd_store.specs.declared.hosted.{Loaded.Loaded, ObjectInfo.ObjectInfo}

-- the value of an object, 0 of null
abbrev pub value_of : State → Option Id → ℕ
value_of s o = option_map_or (λ id. (object_by_id s id).value) o 0

-- what an object is
abbrev pub object_report : State → Id → ObjectInfo
object_report s id =
    let object = object_by_id s id in
    record {
      id = id;
      value = object.value;
      fields = length object.fields;
      generation = object.generation;
      registered = object.registered;
    }

-- registers of which n are null, from one on
unfoldable pub cleared : (first n : ℕ) → List (Option Id) → List (Option Id)
cleared first n [] = []
cleared zero zero (x ∷ row) = x ∷ row
cleared zero (suc n) (x ∷ row) = None ∷ cleared zero n row
cleared (suc first) n (x ∷ row) = x ∷ cleared first n row

-- roots of which n are null, from one on
unfoldable pub nulled : (at n : ℕ) → List (Option Addr) → List (Option Addr)
nulled at zero roots = roots
nulled at (suc n) roots = slice_set (nulled at n roots) (at + n) None

-- the state in which n object registers of a caller are null, from one on
abbrev pub with_cleared : State → (caller first n : ℕ) → State
with_cleared s caller first n =
    let row = slice_index_or s.registers caller [] in
    record s { registers = slice_set s.registers caller (cleared first n row) }

-- ---- loads that return the value too

-- a register was loaded, and the value is that of what it references
pub record HasLoaded {N R : Type 0} (old new : Seen N R) (caller d : ℕ) (l : Loaded) : Type 0 where
  pub state : new ≡ record old { state = with_register old.state caller d l.id }
  pub value : l.value ≡ value_of old.state l.id

-- what a load found in a store that it left: `read` replies with that value, where it found an object
pub record IsReadBy (m : Machine) (caller d : ℕ) (l : Loaded) : Type 0 where
  pub value : l.value ≡ value_of m.state l.id
  pub read : IfSome l.id (λ _. HasReturned m caller (cmd.Read d) reply.Value m (Ok l.value))

-- ---- an object with its value and its fields

-- the identity of a caller's next object
abbrev pub identity_next : Machine → ℕ → Id
identity_next m caller = identity_of caller (last_serial m.state caller + 1)

-- an object was made as by `new`, and then its value and its fields were written, and nothing else: they
-- reference what registers of its caller did before
pub record HasMade (old : Machine) (caller d value : ℕ) (fin : Bool) (src : List ℕ) (new : Machine)
    (id : Id) : Type 0 where
  pub made : Machine
  pub called : HasReturned old caller (cmd.New d (length src) fin) reply.Object made (Ok id)
  pub written : new ≡ record made {
    state = with_object made.state id (record (object_by_id made.state id) {
      fields = map (register_of old.state caller) src;
      value = value;
    });
    heap = new.heap;
  }
  pub addresses : (x : Id) (a : ℕ) → IsStoredAt made.heap x a → IsStoredAt new.heap x a

-- so it was, or it is refused as `new` is
abbrev pub MakesObject : Machine → (caller d value : ℕ) → Bool → List ℕ → Machine → Result Id Refusal → Type 0
MakesObject old caller d value fin src new (Ok id) = HasMade old caller d value fin src new id
MakesObject old caller d value fin src new (Err why) =
    HasReturned {T = Id} old caller (cmd.New d (length src) fin) reply.Object new (Err why)

-- the same, step by step: an object was added, and then its value and its fields were written
pub record HasAdded (m : Machine) (caller value : ℕ) (fin : Bool) (src : List ℕ) (k : Machine)
    (at : Addr) : Type 0 where
  pub added : Machine
  pub over : IsOverHeap added
  pub is : added ≡ record m {
    state = with_serial (with_object m.state (identity_next m caller) (fresh_object (length src) fin)) caller
        (last_serial m.state caller + 1);
    names = insert m.names at.0 (identity_next m caller);
    heap = added.heap;
  }
  pub kept : KeepsNames m.names added.names
  pub fits : total_size m.state + (length src + 3) ≤ m.numbers.heap
  pub written : k ≡ record added {
    state = with_object added.state (identity_next m caller)
        (record (object_by_id added.state (identity_next m caller)) {
          fields = map (register_of added.state caller) src;
          value = value;
        });
    heap = k.heap;
  }

-- and then a register of its caller got it
pub record HasFilled (m : Machine) (caller d value : ℕ) (fin : Bool) (src : List ℕ) (k : Machine)
    (id : Id) : Type 0 where
  pub at : Addr
  pub filled : Machine
  pub has : HasAdded m caller value fin src filled at
  pub held : k ≡ record filled {
    state = with_register filled.state caller d (Some (name_in filled.names at));
  }
  pub id_is : id ≡ name_in k.names at

-- or the heap is full, and nothing is changed
abbrev pub Fills : Machine → (caller d value : ℕ) → Bool → List ℕ → Machine → Result Id Refusal → Type 0
Fills m caller d value fin src k (Ok id) = HasFilled m caller d value fin src k id
Fills m caller d value fin src k (Err why) =
    (k ≡ m) × (why ≡ refusal.HeapFull (total_size m.state) (length src + 3))
    × (m.numbers.heap < total_size m.state + (length src + 3))
