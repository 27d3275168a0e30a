-- What a seat knows, and how each step that it makes changes that.
use Rattle.std.specs.Prelude.{◌≡◌, ◌≢◌, ◌⊎◌, ℕ, zero, suc, ◌+◌, ◌-◌, ◌*◌, ◌<◌, ◌≤◌, Bool, true, false, cond, not, nat_lt}
use Rattle.std.specs.Prelude.{◌==◌, ◌&&◌, bit_or, List, [], ◌∷◌, ◌++◌, length, filter, Option, Some, None}
use Rattle.atomic_table.specs.Seated.{TableId}
use Rattle.hd_model.specs.declared.held.Held.{Ghosts}
use Rattle.hd_model.specs.declared.data.Entry.{Entry}
use Rattle.hd_model.specs.declared.data.Grown.{Grown}
use Rattle.hd_model.specs.declared.data.Grown.TheVariants as grown
use Rattle.hd_model.specs.State.{Numbers}
use Rattle.hd_model.specs.Run.{part_of}
use Rattle.hd_model.specs.declared.limits.TheConstants.{BLOCKS, ROWS}
use Rattle.hd_custody.specs.declared.words.TheConstants.{EXTRA_DATA}
use Rattle.hd_custody.specs.declared.view.View.{View}
use Rattle.hd_custody.specs.declared.view.Limits.{Limits}
use Rattle.hd_custody.specs.Counts.{masked_block, slot_block, held_times, Has, named, cell_kind, changed, picks, rows, whole, slot_count, put_out}
use Rattle.hd_custody.specs.Counts.{without_rows, without_block, with_slot, naming, is_nil}

-- what a clause sees of a `Custody`
pub record Named : Type 0 where
  pub table : TableId
  pub blocks : ℕ
  pub numbers : Numbers

-- what a clause sees of a `Seat`
pub record Known (W : Type 0) : Type 0 where
  pub table : TableId
  pub view : View W

-- a seat that has not ended: its table, what its caller knows, and what it has taken out of the table's slot
pub record Acting (W : Type 0) : Type 0 where
  pub table : TableId
  pub view : View W
  pub out : List (ℕ × Option W)

-- the numbers of a run, which a view has as its limits
abbrev pub numbers_of : Limits → Numbers
numbers_of n = record { heap = n.heap; blocks = n.blocks; callers = n.callers }

abbrev pub limits_of : Numbers → Limits
limits_of n = record { heap = n.heap; blocks = n.blocks; callers = n.callers }

-- the journal is the entries `front`, and others after them
abbrev pub IsPrefix : List Entry → List Entry → Type 0
IsPrefix front journal = (rest : List Entry) × (journal ≡ front ++ rest)

-- the journal is what it was, with the same spare; or it has one entry of this caller more, one less to
-- spare, and the caller had room for one
abbrev pub Continues : ℕ → ℕ → List Entry → ℕ → List Entry → ℕ → Type 0
Continues number room before spare journal spare' =
    ((journal ≡ before) × (spare' ≡ spare))
    ⊎ ((e : Entry) × (journal ≡ before ++ e ∷ []) × (e.caller ≡ number) × (spare' + 1 ≡ spare) × (0 < room))

-- the kind words that were stored, and that of extra data for block d after them, where it isn't 0
abbrev pub with_data : ℕ → List (ℕ × ℕ) → List (ℕ × ℕ)
with_data zero cs = cs
with_data (suc d) cs = (suc d, EXTRA_DATA) ∷ cs

-- the block of handles, and the block of their extra data or 0, by which a table grew
abbrev pub handle_block : Grown → ℕ
handle_block grown.Zero = 0
handle_block (grown.One b) = b
handle_block (grown.Two b d) = b
handle_block (grown.Back b) = 0

abbrev pub extra_block : Grown → ℕ
extra_block grown.Zero = 0
extra_block (grown.One b) = 0
extra_block (grown.Two b d) = d
extra_block (grown.Back b) = 0

-- a table grows for a kind by one block, and for a paired kind by two, neither of which is block 0
abbrev pub GrowsByBlocks : Bool → Grown → Type 0
GrowsByBlocks paired grown.Zero = ⊥
GrowsByBlocks paired (grown.One b) = paired ≡ false
GrowsByBlocks paired (grown.Two b d) = (paired ≡ true) × (0 < d)
GrowsByBlocks paired (grown.Back b) = ⊥

module _ {W : Type 0} where
  -- the first seat, of a table over a world with these numbers and this much to spare
  abbrev pub starting : ℕ → Numbers → View W
  starting room numbers = record {
    is_spent = false;
    number = 0;
    part = [];
    room = room;
    seen = [];
    ended = [];
    made = 1;
    limits = limits_of numbers;
    has_gate = false;
    gate_steps = 0;
    taken = None;
    changes = [];
    held = [];
    trace = [];
    trace_number = 0;
    began_empty = true;
    began_with_gate = false;
  }

  -- what is left of a view that was joined into another
  abbrev pub spent : View W
  spent = record (starting 0 (record { heap = 0; blocks = 0; callers = 0 })) { is_spent = true; made = 0 }

  -- seat 0 after a split
  abbrev pub shared_out : ℕ → View W → View W
  shared_out share v = record v { made = v.made + 1; room = v.room - share }

  -- the new seat
  abbrev pub given : ℕ → View W → View W
  given share v = record (starting share (numbers_of v.limits)) { number = v.made; made = 0 }

  -- seat 0 after a join
  abbrev pub joined : View W → View W → View W
  joined v w = record v { room = v.room + w.room; ended = v.ended ++ (w.number, w.part, w.seen) ∷ [] }

  -- a store of k into the kind word of block b, by the holder of the gate: of handles, the block's slots
  -- then are held
  abbrev pub opened : ℕ → ℕ → View W → View W
  opened b k v = record v {
    changes = (b, k) ∷ v.changes;
    held =
        cond (nat_lt k EXTRA_DATA) (whole b k ++ v.held) v.held;
  }

  -- a store of 0 into it
  abbrev pub closed : ℕ → View W → View W
  closed b v = record v { changes = (b, 0) ∷ v.changes; held = without_block b v.held }

  -- slots of the rows m go into mask word i, and no trace is kept
  abbrev pub put_in : ℕ → ℕ → View W → View W
  put_in i m v = record v { held = without_rows (masked_block i) m v.held }

  -- block b gets the kind with number k, and d, where it isn't 0, is its data block: row 0 stays held
  abbrev pub granted : ℕ → ℕ → ℕ → View W → View W
  granted k b d v = record v {
    changes = with_data d ((b, k + 1) ∷ v.changes);
    held =
        (ROWS * b, k + 1) ∷ v.held;
  }

  -- the steps of a call begin
  abbrev pub begun : View W → View W
  begun v = record v {
    trace = [];
    trace_number = v.trace_number + 1;
    began_empty = is_nil v.held;
    began_with_gate = v.has_gate;
  }

  -- an exchange of the quick word or cell i, which had y, with x
  abbrev pub swapped : ℕ → ℕ → ℕ → View W → View W
  swapped i y x v = record v {
    held = with_slot y (cell_kind i + 1) (put_out x v.held);
    trace = v.trace ++ (i, y, x) ∷ [];
  }

  -- a compare-exchange of the cell i from 0 to x, which found y
  abbrev pub banked : ℕ → ℕ → ℕ → View W → View W
  banked i y x v = record v {
    held = cond (y == 0) (put_out x v.held) v.held;
    trace = v.trace ++ (i, y, cond (y == 0) x y) ∷ [];
  }

  -- a load of the kind word of block b, which has y
  abbrev pub looked : ℕ → ℕ → View W → View W
  looked b y v = record v { held = naming b y v.held; trace = v.trace ++ (b, y, y) ∷ [] }

  -- an exchange with 0 of mask word i, which had y: its slots come without a kind
  abbrev pub drained : ℕ → ℕ → View W → View W
  drained i y v = record v { held = rows (masked_block i) y 0 ++ v.held; trace = v.trace ++ (i, y, 0) ∷ [] }

  -- slots of the rows m go into mask word i, which had y
  abbrev pub restored : ℕ → ℕ → ℕ → View W → View W
  restored i m y v = record v {
    held = without_rows (masked_block i) m v.held;
    trace = v.trace ++ (i, y, bit_or y m) ∷ [];
  }

  -- a whole call, which left these slots held and made these steps: it neither won the gate nor gave it back
  abbrev pub called : List (ℕ × ℕ) → List (ℕ × ℕ × ℕ) → View W → View W
  called held trace v = record v {
    held = held;
    trace = trace;
    trace_number = v.trace_number + 1;
    began_empty = is_nil v.held;
    began_with_gate = v.has_gate;
  }

module _ {W : Type 0} (m : Ghosts W) where
  -- the gate is won, the world w is taken, and its journal is seen
  abbrev pub took : W → View W → View W
  took w v = record v {
    has_gate = true;
    gate_steps = v.gate_steps + 1;
    taken = Some w;
    changes = [];
    seen = m.journal w;
  }

  -- What a grant of a kind to block b and, where it isn't 0, data block d asks of the holder of the gate:
  -- they are two blocks of the table, without a kind in what it took and stored since.
  pub record MayGrant (blocks b d : ℕ) (v : View W) : Type 0 where
    pub inside : (0 < b) × (b ≤ blocks) × (d ≤ blocks) × (b ≢ d)
    pub world : W
    pub took : v.taken ≡ Some world
    pub no_kind : changed v.changes (m.kind world) b ≡ 0
    pub no_data : d ≢ 0 → changed v.changes (m.kind world) d ≡ 0

  -- The gate is given back with w, where u was taken: an entry is added to the part, the journal of w is
  -- seen, slots that became live are held no more, and slots that ended are held, each as of its block's
  -- kind.
  abbrev pub gave_back : W → W → View W → View W
  gave_back u w v = record v {
    has_gate = false;
    gate_steps = v.gate_steps + 1;
    taken = None;
    changes = [];
    part = part_of (m.journal w) v.number;
    seen = m.journal w;
    room = v.room - (length (m.journal w) - length (m.journal u));
    held = filter (λ p. not (m.live w p.0)) v.held
        ++ picks slot_count (λ r. m.live u (ROWS + r) && not (m.live w (ROWS + r))) ROWS
        (λ r. m.kind w (slot_block (ROWS + r)));
  }

  -- what `leave` asks of w, where u was taken: its kinds are the kind words, its numbers are the same, each
  -- live slot was live or is held, the journal goes on, and it is sound
  pub record Follows (u w : W) (v : View W) : Type 0 where
    pub kinds : (b : ℕ) → 0 < b → b < BLOCKS + 1 → m.kind w b ≡ changed v.changes (m.kind u) b
    pub sized : m.numbers w ≡ numbers_of v.limits
    pub lives : (x : ℕ) → ROWS ≤ x → m.live w x ≡ true → (m.live u x ≡ true) ⊎ Has x v.held
    pub goes_on : Continues v.number v.room (m.journal u) (m.spare u) (m.journal w) (m.spare w)
    pub sound : m.sound w

  -- what was live was in blocks of handles, and in w these are so too
  abbrev pub Sorted : W → W → Type 0
  Sorted u w = (x : ℕ) → ROWS ≤ x → m.live u x ≡ true → named (m.kind w (slot_block x)) ≡ 1

  -- the slot x was not held, and is not live in what a holder of the gate took
  abbrev pub Fresh : View W → ℕ → Type 0
  Fresh v x =
      (ROWS ≤ x) × (x < ROWS * (BLOCKS + 1)) × (held_times x v.held ≡ 0)
      × ((u : W) → v.has_gate ≡ true → v.taken ≡ Some u → m.live u x ≡ false)

  -- block b has the kind word k in what a holder of the gate took, with its grants and withdrawals
  abbrev pub KindIs : View W → ℕ → ℕ → Type 0
  KindIs v b k = (u : W) → v.has_gate ≡ true → v.taken ≡ Some u → changed v.changes (m.kind u) b ≡ k
