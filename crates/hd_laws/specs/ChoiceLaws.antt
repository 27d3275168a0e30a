-- What a step may choose, in worked states: the address of a pinned object, and the slot and the blocks of a
-- new handle. And what one thread alone chooses of these.
use Rattle.std.specs.Prelude.{◌≡◌, ◌≢◌, ◌↔◌, ◌⊎◌, ℕ, ◌+◌, ◌<◌, ◌≤◌, List, ◌∷◌, ◌++◌, Some, None}
use Rattle.std.specs.FinMap.{get, len}
use Rattle.hd_model.specs.{declared.data.Addr.Addr, declared.data.Id.Id, declared.data.Kind.Kind, declared.data.Make.Make, declared.data.Slot.Slot, declared.data.Grown.Grown, declared.data.Reply.Reply, declared.data.Report.Report, declared.data.Entry.Entry, declared.command.Cmd.Cmd}
use Rattle.hd_model.specs.declared.data.Grown.TheVariants.{Zero, One, Two, Back}
use Rattle.hd_model.specs.declared.data.Kind.TheVariants as kind
use Rattle.hd_model.specs.declared.data.Make.TheVariants as make
use Rattle.hd_model.specs.declared.data.Reply.TheVariants as reply
use Rattle.hd_model.specs.declared.command.Cmd.TheVariants as cmd
use Rattle.hd_model.specs.Kinds.{kind_of}
use Rattle.hd_model.specs.State.{Numbers, Handle, State, IsFree, IsAllFree, nothing, count, secondary, handles_of, extra_data, start_of, with_use, without_use, with_weak, with_address, with_handle, with_handle_register}
use Rattle.hd_model.specs.Step.{Step}
use Rattle.hd_model.specs.Run.{SoloStep, SoloRun}
use Rattle.hd_model.specs.Scene.{Rows}
use Rattle.hd_model.specs.Reach.{IsPinned}
use Rattle.hd_model.specs.Counting.{Counts}
use Rattle.hd_model.specs.Heap.{Heap, used_of}
use Rattle.hd_model.specs.Compact.{IsCompact}
use Rattle.hd_model.specs.CollectionLaws.{Collected}
use Rattle.hd_laws.specs.CollectionSamples.{id_of, slot_of}
use Rattle.hd_laws.specs.CommandLaws.{narrow, worked, handle_with}
use Rattle.hd_laws.specs.TextLaws.{entry}

-- ---- addresses

-- the worked state, where besides object 1, which takes four cells, has the pinned address 100
abbrev pub beside_one : State
beside_one = with_address worked (id_of 1) 100

-- `addr` of object 2, which takes three cells, by h7
abbrev pub addressed : ℕ → Entry
addressed p = entry 0 (cmd.AddrOf 7) None Zero (reply.Place p)

-- it returns each number below 2^32 from which three cells are apart from cells 100 to 103, and no other
abbrev pub AddressesAreThese : Type 0
AddressesAreThese =
    (p : ℕ) → Step narrow beside_one (addressed p) (with_address beside_one (id_of 2) p)
    ↔ ((p < 4294967296) × ((p + 3 ≤ 100) ⊎ (104 ≤ p)))

-- what a collection does to the address of an object: it stays where some handle pinned the object, and is
-- forgotten where none did
pub record AddressGoesWithPins (s t : State) (x : Id) : Type 0 where
  pub stays : IsPinned (λ slot. get s.handles slot) x → get t.pinned x.0 ≡ get s.pinned x.0
  pub goes : (IsPinned (λ slot. get s.handles slot) x → ⊥) → get t.pinned x.0 ≡ None

abbrev pub AddressesGoWithPins : Type 0
AddressesGoWithPins =
    (m : Numbers) (n : ℕ) (s t : State) (r : Report) → Collected m n s t r → (x : Id)
    → AddressGoesWithPins s t x

-- ---- slots and blocks

abbrev pub seven_blocks : Numbers
seven_blocks = record { heap = 11; blocks = 7; callers = 1 }

-- of seven blocks 1 is in use for dependent handles, 2 for their secondaries and 4 for strong ones; nothing
-- else is made
abbrev pub with_gaps : State
with_gaps =
    with_use
    (with_use (with_use (start_of seven_blocks) 1 (handles_of kind.Dependent)) 2 extra_data) 4
    (handles_of kind.Strong)

-- the state once a handle is made in a slot, with that in h3
abbrev pub with_new : State → ℕ → Handle Id → State
with_new s slot handle =
    with_handle_register (with_handle s (slot_of slot) handle) 0 3 (Some (slot_of slot))

-- a command may make the table grow by these blocks, gets this slot then and leaves this state; and whenever
-- the table grows by a step of it, it is by these and for this slot
pub record GrowsBy (c : Cmd) (grown : Grown) (slot : Slot) (after : State) : Type 0 where
  pub may : Step seven_blocks with_gaps (entry 0 c (Some slot) grown reply.Done) after
  pub only : (e : Entry) (t : State) → Step seven_blocks with_gaps e t → e.cmd ≡ c → e.grown ≢ Zero
      → (e.grown ≡ grown) × (e.slot ≡ Some slot)

-- the table grows by the least unused block, 3, and where a kind has extra data by the next one too, 5; the
-- slot is the first of block 3. Without growth an `hnew` of a strong handle gets any slot of block 4.
pub record NewHandlesAreHere : Type 0 where
  pub strong : GrowsBy (cmd.HNew 3 make.Strong 0) (One 3) (slot_of 192)
      (with_new (with_use with_gaps 3 (handles_of kind.Strong)) 192 (handle_with kind.Strong None nothing))
  pub counted : GrowsBy (cmd.HNew 3 make.Counted 0) (Two 3 5) (slot_of 192)
      (with_new (with_use (with_use with_gaps 3 (handles_of kind.Counted)) 5 extra_data) 192
      (handle_with kind.Counted None (count 1)))
  pub dependent : GrowsBy (cmd.HNew 3 (make.Dependent 1) 0) (Two 3 5) (slot_of 192)
      (with_new (with_use (with_use with_gaps 3 (handles_of kind.Dependent)) 5 extra_data) 192
      (handle_with kind.Dependent None (secondary None)))
  pub free : (x : ℕ)
      → Step seven_blocks with_gaps (entry 0 (cmd.HNew 3 make.Strong 0) (Some (slot_of x)) Zero reply.Done)
      (with_new with_gaps x (handle_with kind.Strong None nothing))
      ↔ ((256 ≤ x) × (x < 320))

-- ---- blocks that are given back, and entries of the weak table

-- an entry and the state after it
pub record ComesBy (e : Entry) (t : State) (grown : Grown) (reply : Reply) (after : State) : Type 0 where
  pub grown_is : e.grown ≡ grown
  pub reply_is : e.reply ≡ reply
  pub after_is : t ≡ after

-- `trim` of strong handles may give back block 4, whose slots are all free, or none; each step of it is one
-- of the two
pub record BlocksAreGivenBack : Type 0 where
  pub given : Step seven_blocks with_gaps (entry 0 (cmd.Trim kind.Strong) None (Back 4) (reply.Value 1))
      (without_use with_gaps 4)
  pub none : Step seven_blocks with_gaps (entry 0 (cmd.Trim kind.Strong) None Zero (reply.Value 0)) with_gaps
  pub only : (e : Entry) (t : State) → Step seven_blocks with_gaps e t → e.cmd ≡ cmd.Trim kind.Strong
      → ComesBy e t (Back 4) (reply.Value 1) (without_use with_gaps 4)
      ⊎ ComesBy e t Zero (reply.Value 0) with_gaps

abbrev pub eleven_blocks : Numbers
eleven_blocks = record { heap = 11; blocks = 11; callers = 1 }

-- in the worked state a `cadd` of key 2 with the value 1 gets a free slot of dependent handles, as 131, or
-- the first slot of block 9, with block 10 for what is attached
pub record EntriesAreAdded : Type 0 where
  pub free : Step eleven_blocks worked (entry 0 (cmd.CAdd 1 0) (Some (slot_of 131)) Zero reply.Done)
      (with_weak worked (slot_of 131) (Some (record { key = id_of 2; value = Some (id_of 1) })))
  pub grown : Step eleven_blocks worked (entry 0 (cmd.CAdd 1 0) (Some (slot_of 576)) (Two 9 10) reply.Done)
      (with_weak (with_use (with_use worked 9 (handles_of kind.Dependent)) 10 extra_data) (slot_of 576)
      (Some (record { key = id_of 2; value = Some (id_of 1) })))

-- ---- what one thread chooses

-- a slot that is no greater than another was given, and the table did not grow
pub record TakesNoGreater (e : Entry) (other : Slot) : Type 0 where
  pub slot : Slot
  pub given : e.slot ≡ Some slot
  pub low : slot.0 ≤ other.0
  pub stays : e.grown ≡ Zero

-- a block that is no greater than another was given back
pub record GivesBackNoGreater (e : Entry) (other : ℕ) : Type 0 where
  pub block : ℕ
  pub back : e.grown ≡ Back block
  pub low : block ≤ other

-- of one thread alone, `hnew` takes the least free slot while there is one, `trim` gives back the least block
-- that it may, and callers come in rising number
pub record OneThreadTakesTheLeast : Type 0 where
  pub hnew : (n : Numbers) (s t : State) (e : Entry) (d : ℕ) (make : Make) (r : ℕ) (other : Slot)
      → SoloStep n s e t → e.cmd ≡ cmd.HNew d make r → IsFree s (kind_of make) other
      → TakesNoGreater e other
  pub trim : (n : Numbers) (s t : State) (e : Entry) (kind : Kind) (other : ℕ)
      → SoloStep n s e t → e.cmd ≡ cmd.Trim kind → IsAllFree s kind other
      → GivesBackNoGreater e other
  pub callers : (n : Numbers) (s : State) (d e : Entry) (between after : List Entry)
      → SoloRun n (d ∷ (between ++ (e ∷ after))) s → d.caller ≤ e.caller

-- ---- regions

-- a compact heap of which objects take 1,000 cells, two of them pinned, has at most 10 regions in use, as
-- 1,000 / 193 + 3 + 2 is 10
abbrev pub CompactHeapsHaveFewRegions : Type 0
CompactHeapsHaveFewRegions =
    (h : Heap) (rows : Rows Addr) → IsCompact h rows → used_of h ≡ 1000 → Counts (IsPinned rows) 2
    → len h.regions ≤ 10
