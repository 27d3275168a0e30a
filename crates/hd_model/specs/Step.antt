-- One step of the machine: from one state, an entry of the journal leads to another. The state and the
-- command decide it, but for the slot and the blocks of a new handle, the address that `addr` returns, and
-- whether `trim` gives a block back.
use Rattle.std.specs.Prelude.{◌≡◌, ℕ, ◌+◌, ◌<◌, ◌≤◌, ◌^◌, ◌⊎◌, Bool, true, false, cond, Option, Some, None, IsSome, option_and_then}
use Rattle.hd_model.specs.Data.{Id, Entry, Report, Reply, Slot, Kind, Make, Grown, Cmd}
use Rattle.hd_model.specs.declared.data.Grown.TheVariants.{Zero, One, Two, Back}
use Rattle.hd_model.specs.declared.data.Refusal.TheVariants as refusal
use Rattle.hd_model.specs.declared.data.Reply.TheVariants as reply
use Rattle.hd_model.specs.declared.command.Cmd.TheVariants as cmd
use Rattle.hd_model.specs.declared.data.Kind.TheVariants as kind
use Rattle.hd_model.specs.Kinds.{kind_of, is_paired}
use Rattle.hd_model.specs.Valid.{IsValid}
use Rattle.hd_model.specs.State.{Numbers, Handle, State, handles_of, extra_data, register_of, handle_register_of, last_serial, handle_at, use_of, given_of, first_slot, IsFree, IsAllFree, with_handle_register, with_handle, with_use, without_use}
use Rattle.hd_model.specs.Role.{pins}
use Rattle.hd_model.specs.PinnedAddresses.{MayReturn}
use Rattle.hd_model.specs.Anchors.{ReturnsRoot}
use Rattle.hd_model.specs.Collect.{CollectsState}
use Rattle.hd_model.specs.Command.{Outcome, reply_with, refuses, made_handle, new_object, set_field, get_field, set_value, read_value, copy_register, clear_register, put_static, get_static, read_generation, set_registered, take_queued, get_target, set_target, set_secondary, get_secondary, set_strength, raise_count, lower_count, free_handle, put_board, pick_board, reply_address, reply_root, Adding, is_refused, in_idle, in_new, adding_of, with_entry, add_entry, find_entry, remove_entry}

-- an entry of a command that the state decides: its reply and slot are those of the outcome, and the blocks
-- stay
pub record IsOutcome (e : Entry) (wanted : Outcome) (new : State) : Type 0 where
  pub reply : e.reply ≡ wanted.reply
  pub slot : e.slot ≡ wanted.slot
  pub grown : e.grown ≡ Zero
  pub after : new ≡ wanted.after

-- the blocks that a kind needs to grow: handles with extra data have it in a block of its own
abbrev pub blocks_needed : Kind → ℕ
blocks_needed kind = cond (is_paired kind) 2 1

-- the least block from a number on that has no use
pub record IsLeastUnused (n : Numbers) (s : State) (from block : ℕ) : Type 0 where
  pub low : from ≤ block
  pub high : block ≤ n.blocks
  pub unused : use_of s block ≡ None
  pub least : (other : ℕ) → from ≤ other → other < block → IsSome (use_of s other)

-- the slot that a new handle may get. Without growth it is a free one of its kind. Else the table grows by
-- the least unused block, with the next one for its extra data, and the slot is the block's first.
abbrev pub MayGive : Numbers → State → Kind → Grown → Slot → Type 0
MayGive n s kind Zero slot = IsFree s kind slot
MayGive n s kind (One block) slot =
    (is_paired kind ≡ false) × IsLeastUnused n s 1 block × (slot ≡ first_slot block)
MayGive n s kind (Two block other) slot =
    (is_paired kind ≡ true) × IsLeastUnused n s 1 block × IsLeastUnused n s (block + 1) other
    × (slot ≡ first_slot block)
MayGive n s kind (Back block) slot = ⊥

-- the state with the blocks in use by which the table grew, or without the one that it gave back
abbrev pub with_growth : State → Kind → Grown → State
with_growth s kind Zero = s
with_growth s kind (One block) = with_use s block (handles_of kind)
with_growth s kind (Two block other) = with_use (with_use s block (handles_of kind)) other extra_data
with_growth s kind (Back block) = without_use s block

-- the state with a new handle in a slot, in a table that grew, and with the slot in hD
abbrev pub with_made : State → ℕ → Grown → ℕ → Make → ℕ → Slot → State
with_made s caller grown d make t slot =
    let room = with_growth s (kind_of make) grown in
    with_handle_register (with_handle room slot (made_handle s caller make t)) caller d (Some slot)

-- `hnew` makes a handle in a slot, and hD gets the slot (GCHandle.Alloc)
pub record MakesHandle (n : Numbers) (old : State) (e : Entry) (new : State)
    (d : ℕ) (make : Make) (t : ℕ) : Type 0 where
  pub slot : Slot
  pub given : e.slot ≡ Some slot
  pub may : MayGive n old (kind_of make) e.grown slot
  pub reply : e.reply ≡ reply.Done
  pub after : new ≡ with_made old e.caller e.grown d make t slot

-- `hnew` is refused, which it may be only where fewer blocks are unused than the kind needs
pub record FindsTableFull (n : Numbers) (old : State) (e : Entry) (new : State) (kind : Kind) : Type 0 where
  pub few : n.blocks < given_of old + blocks_needed kind
  pub refused : IsOutcome e (refuses (refusal.TableFull (given_of old)) old) new

-- `cadd` without an idle slot: the weak table gets a slot for the entry, as `hnew` gets one for a dependent
-- handle
pub record AddsEntry (n : Numbers) (old : State) (e : Entry) (new : State) (v : ℕ) (key : Id) : Type 0 where
  pub slot : Slot
  pub given : e.slot ≡ Some slot
  pub may : MayGive n old kind.Dependent e.grown slot
  pub reply : e.reply ≡ reply.Done
  pub after : new ≡ with_entry (with_growth old kind.Dependent e.grown) old e.caller v slot key

-- what a handle pins, and what the handle in handle register h pins
abbrev pub pinned_by : Option (Handle Id) → Option Id
pinned_by None = None
pinned_by (Some handle) = cond (pins handle) handle.target None

abbrev pub pinned_target : State → ℕ → ℕ → Option Id
pinned_target s caller h =
    option_and_then (λ slot. pinned_by (handle_at s slot)) (handle_register_of s caller h)

-- `addr` returns an address that it may return for what the handle pins, or is refused
-- (GCHandle.AddrOfPinnedObject)
pub record RepliesAddress (old : State) (e : Entry) (new : State) (h : ℕ) : Type 0 where
  pub address : ℕ
  pub may : (id : Id) → pinned_target old e.caller h ≡ Some id → MayReturn old id address
  pub outcome : IsOutcome e (reply_address old e.caller h address) new

-- `collect n` collects the generations up to n, and reports it (GC.Collect)
pub record DoesCollect (old : State) (e : Entry) (new : State) (n : ℕ) : Type 0 where
  pub report : Report
  pub reply : e.reply ≡ reply.Report report
  pub slot : e.slot ≡ None
  pub grown : e.grown ≡ Zero
  pub collects : CollectsState n old new report

-- `trim KIND` gives back a block of the kind whose slots are all free (this project's own)
pub record GivesBack (old : State) (e : Entry) (new : State) (kind : Kind) : Type 0 where
  pub block : ℕ
  pub free : IsAllFree old kind block
  pub reply : e.reply ≡ reply.Value 1
  pub slot : e.slot ≡ None
  pub grown : e.grown ≡ Back block
  pub after : new ≡ without_use old block

-- `gcroot` returns where a shortest chain to what rS references begins, or is refused where that is null
pub record RepliesRoot (old : State) (e : Entry) (new : State) (r : ℕ) : Type 0 where
  pub found : Reply
  pub is_root : (goal : Id) → register_of old e.caller r ≡ Some goal → ReturnsRoot old goal found
  pub outcome : IsOutcome e (reply_root old e.caller r found) new

-- how a command goes: the state alone decides its outcome, or it is one of seven with a premise or a choice
pub data Way : Type 0 where
  decided : Outcome → Way
  makes_object : (d fields : ℕ) (fin : Bool) → Way
  makes_handle : (d : ℕ) (make : Make) (t : ℕ) → Way
  collects : (n : ℕ) → Way
  replies_address : (h : ℕ) → Way
  gives_back : (kind : Kind) → Way
  adds_entry : (v : ℕ) (key : Id) → Way
  replies_root : (r : ℕ) → Way

-- the way of a `cadd`, by what it meets
abbrev pub way_of_adding : State → ℕ → ℕ → Adding → Way
way_of_adding s caller v (is_refused refusal) = decided (refuses refusal s)
way_of_adding s caller v (in_idle slot key) = decided (add_entry s caller v slot key)
way_of_adding s caller v (in_new key) = adds_entry v key

-- the way of each command of a caller
abbrev pub way_of : State → ℕ → Cmd → Way
way_of s caller (cmd.New d fields fin) = makes_object d fields fin
way_of s caller (cmd.Set o i v) = decided (set_field s caller o i v)
way_of s caller (cmd.Get d o i) = decided (get_field s caller d o i)
way_of s caller (cmd.Val o v) = decided (set_value s caller o v)
way_of s caller (cmd.Read o) = decided (read_value s caller o)
way_of s caller (cmd.Copy d r) = decided (copy_register s caller d r)
way_of s caller (cmd.Clear d) = decided (clear_register s caller d)
way_of s caller (cmd.SPut k r) = decided (put_static s caller k r)
way_of s caller (cmd.SGet d k) = decided (get_static s caller d k)
way_of s caller (cmd.Gen o) = decided (read_generation s caller o)
way_of s caller (cmd.Suppress o) = decided (set_registered s caller o false)
way_of s caller (cmd.Reregister o) = decided (set_registered s caller o true)
way_of s caller (cmd.Final d) = decided (take_queued s caller d)
way_of s caller (cmd.Collect k) = collects k
way_of s caller (cmd.HNew d make t) = makes_handle d make t
way_of s caller (cmd.HGet d h) = decided (get_target s caller d h)
way_of s caller (cmd.HSet h t) = decided (set_target s caller h t)
way_of s caller (cmd.HSec h r) = decided (set_secondary s caller h r)
way_of s caller (cmd.HDep d h) = decided (get_secondary s caller d h)
way_of s caller (cmd.HVar h given) = decided (set_strength s caller h given)
way_of s caller (cmd.HFree h) = decided (free_handle s caller h)
way_of s caller (cmd.HPut k h) = decided (put_board s caller k h)
way_of s caller (cmd.HPick d k) = decided (pick_board s caller d k)
way_of s caller (cmd.AddrOf h) = replies_address h
way_of s caller (cmd.HUp h) = decided (raise_count s caller h)
way_of s caller (cmd.HDown h) = decided (lower_count s caller h)
way_of s caller (cmd.Trim kind) = gives_back kind
way_of s caller (cmd.CAdd k v) = way_of_adding s caller v (adding_of s caller k)
way_of s caller (cmd.CFind d k) = decided (find_entry s caller d k)
way_of s caller (cmd.CRemove k) = decided (remove_entry s caller k)
way_of s caller (cmd.GcRoot r) = replies_root r

-- what a step does by its way. A caller makes at most 2^32 - 1 objects, so a `new` beyond them is no step.
abbrev pub TakesWay : Numbers → State → Entry → State → Way → Type 0
TakesWay n old e new (decided outcome) = IsOutcome e outcome new
TakesWay n old e new (makes_object d fields fin) =
    (last_serial old e.caller + 1 < 2 ^ 32) × IsOutcome e (new_object n old e.caller d fields fin) new
TakesWay n old e new (makes_handle d make t) =
    MakesHandle n old e new d make t ⊎ FindsTableFull n old e new (kind_of make)
TakesWay n old e new (collects k) = DoesCollect old e new k
TakesWay n old e new (replies_address h) = RepliesAddress old e new h
TakesWay n old e new (gives_back kind) =
    GivesBack old e new kind ⊎ IsOutcome e (reply_with (reply.Value 0) old) new
TakesWay n old e new (adds_entry v key) =
    AddsEntry n old e new v key ⊎ FindsTableFull n old e new kind.Dependent
TakesWay n old e new (replies_root r) = RepliesRoot old e new r

-- what the step of each command does
abbrev pub StepOf : Numbers → State → Entry → State → Cmd → Type 0
StepOf n old e new c = TakesWay n old e new (way_of old e.caller c)

-- a step: its caller is one of the run, its command is one that a script can have, and it does what that
-- command does
pub record Step (n : Numbers) (old : State) (e : Entry) (new : State) : Type 0 where
  pub caller : e.caller < n.callers
  pub valid : IsValid e.cmd
  pub does : StepOf n old e new e.cmd
