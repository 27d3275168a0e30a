-- What lies at out parameters after an export.
use Rattle.std.specs.Prelude.{[], ◌∷◌, ◌≡◌, ℕ, ◌+◌, ◌*◌, ◌≤◌, ◌⊎◌, ◌==◌, List, ◌++◌, drop, length, map, replicate, Option, Some, None}
use Rattle.std.specs.List.{Contains}
use Rattle.atomic_table.specs.Seated.{TableId}
use Rattle.std.specs.FinMap.{len}
use Rattle.hd_model.specs.{Kinds.kind_number, declared.data.Id.Id, declared.data.Report.Report as Collected}
use Rattle.hd_model.specs.declared.limits.TheConstants.{CLUMPS, OLDEST, ROWS}
use Rattle.hd_model.specs.State.{Numbers, given_of, start_of, total_size}
use Rattle.hd_store.specs.Offers.{HasLimits}
use Rattle.hd_host.specs.{Changes.no_change, Handles.HasNoneFrom, Handles.IsNextFrom, Kinds.HasNoneOf, Kinds.IsListedOf, View.HostView}
use Rattle.hd_store.specs.declared.collection_calls.Root.{Root as HostRoot}
use Rattle.hd_host.specs.declared.observing.Listed.{Listed}
use Rattle.hd_store.specs.declared.entry_calls.Lookup.{Lookup}
use Rattle.hd_store.specs.declared.entry_calls.Lookup.TheVariants as found
use Rattle.hd_ends.specs.Ends.{EndView, ends_up, turn_of}
use Rattle.hd_ends.specs.declared.end.End.{End}
use Rattle.hd_ends.specs.declared.end.End.TheVariants.{Own, Shared}
use Rattle.hdt_c.specs.Arguments.{change_out, extra_number, number_of}
use Rattle.hd_held.specs.declared.held.Held.{Held}
use Rattle.hdt_c.specs.declared.parts.{Change.Change, Info.Info, Limits.Limits, Report.Report, Root.Root, Stats.Stats}
use Rattle.hdt_c.specs.declared.status.TheConstants.{OK, CLOSED, IS_OPEN, ARGUMENT, NO_MEMORY, NONE}

-- the limits of a host
abbrev pub numbers_in : Limits → Numbers
numbers_in l = record { heap = l.cells; blocks = l.blocks; callers = l.contexts }

-- a host has them, and nothing was done to it: nothing is made, all clumps have the oldest age, and each slot
-- has the first stamp
pub record IsOpened (limits : Limits) (v : HostView) : Type 0 where
  pub numbers : v.machine.numbers ≡ numbers_in limits
  pub state : v.machine.state ≡ start_of v.machine.numbers
  pub ages : v.machine.ages ≡ replicate (CLUMPS * limits.blocks) OLDEST
  pub stamps : v.stamps ≡ replicate (ROWS * (limits.blocks + 1)) 0
  pub last : v.last ≡ no_change

-- none is opened: a limit is out of range, or memory ran out
abbrev pub Refuses : Limits → ℕ → Type 0
Refuses limits status =
    ((HasLimits (numbers_in limits) → ⊥) × (status ≡ ARGUMENT))
    ⊎ (HasLimits (numbers_in limits) × (status ≡ NO_MEMORY))

-- a host is opened with an end of its own, or not: the end is open, or none is opened
pub data Opens (limits : Limits) : Option End → Option End → ℕ → Type 0 where
  is_open : (e : End) → Opens limits (Some e) (Some e) IS_OPEN
  refuses : (status : ℕ) → Refuses limits status → Opens limits None None status
  opens : (v : HostView) → IsOpened limits v → Opens limits None (Some (Own v)) OK

-- what C holds
abbrev pub values_of : List Held → List (Option End)
values_of ends = map (λ (h : Held). h.value) ends

-- limits are those of so many ends with so many contexts each
abbrev pub AreOfEnds : Limits → ℕ → ℕ → Type 0
AreOfEnds limits count each =
    (1 ≤ count) × (count ≤ 16) × (limits.contexts ≡ count * each) × HasLimits (numbers_in limits)

-- none is opened: a limit is out of range, or the contexts are not those of so many ends; or memory ran out
abbrev pub RefusesShared : Limits → ℕ → ℕ → Type 0
RefusesShared limits count status =
    (((each : ℕ) → AreOfEnds limits count each → ⊥) × (status ≡ ARGUMENT))
    ⊎ (((each : ℕ) × AreOfEnds limits count each) × (status ≡ NO_MEMORY))

-- all ends of a host are opened, by their numbers from 0, or none is: one of them is open, or none is opened
pub data OpensShared (limits : Limits) : List (Option End) → List (Option End) → ℕ → Type 0 where
  one_is_open : (ends : List (Option End)) (e : End) → Contains ends (Some e)
      → OpensShared limits ends ends IS_OPEN
  refuses_all : (count status : ℕ) → RefusesShared limits count status
      → OpensShared limits (replicate count None) (replicate count None) status
  opens_all : (count each : ℕ) (table : TableId) (v : HostView) → AreOfEnds limits count each → IsOpened limits v
      → OpensShared limits (replicate count None)
      (map (λ (e : EndView). Some (Shared e)) (ends_up table each v count)) OK

-- what the last call of an end that was done did, with the number of the end's last turn
abbrev pub last_out : End → Change
last_out (Own v) = change_out 0 v.last
last_out (Shared e) = change_out (turn_of e) e.last

-- it is written, or the end is closed. No turn is taken.
pub data TellsLast (old new : Change) : Option End → Option End → ℕ → Type 0 where
  shut_last : new ≡ old → TellsLast old new None None CLOSED
  tells : (e : End) → new ≡ last_out e → TellsLast old new (Some e) (Some e) OK

-- what is found in the weak table; where it has no entry, nothing is written
abbrev pub IsFound : Lookup → (old new status : ℕ) → Type 0
IsFound (found.Value o) old new status = (new ≡ number_of o) × (status ≡ OK)
IsFound found.Absent old new status = (new ≡ old) × (status ≡ NONE)

-- what was first in the queue; where it is empty, nothing is written
abbrev pub IsFirst : Option Id → (old new status : ℕ) → Type 0
IsFirst None old new status = (new ≡ old) × (status ≡ NONE)
IsFirst (Some id) old new status = (new ≡ id.0) × (status ≡ OK)

-- where a shortest chain begins; where none leads there, nothing is written
abbrev pub IsRoot : Option HostRoot → (old new : Root) → ℕ → Type 0
IsRoot None old new status = (new ≡ old) × (status ≡ NONE)
IsRoot (Some root) old new status =
    (new ≡ record { from = root.from.0; arrows = root.arrows }) × (status ≡ OK)

-- a report as a host returns it
abbrev pub report_in : Report → Collected
report_in r = record {
  kept = r.kept;
  removed = r.removed;
  short = r.cleared_short;
  long = r.cleared_long;
  dep = r.cleared_dependent;
  revived = r.revived;
}

-- the numbers of a host
abbrev pub stats_of : HostView → Stats
stats_of v = record {
  objects = len v.machine.state.objects;
  cells = total_size v.machine.state;
  handles = len v.machine.state.handles;
  blocks = given_of v.machine.state;
  queued = length v.machine.state.queue;
}

-- a handle of a list
abbrev pub info_of : Listed → Info
info_of l = record {
  handle = l.handle.0;
  target = number_of l.info.target;
  kind = kind_number l.info.kind;
  extra = extra_number l.info.extra;
}

-- live handles from a slot on, by rising slot: each is the next one from the one before; and where to go on
module _ (Next : ℕ → Listed → Type 0) (NoneFrom : ℕ → Type 0) where
  pub data ListsFrom : ℕ → List Listed → ℕ → Type 0 where
    nothing_left : (from : ℕ) → NoneFrom from → ListsFrom from [] 0
    no_room : (from : ℕ) (next : Listed) → Next from next → ListsFrom from [] next.slot.0
    listed : (from : ℕ) (l : Listed) (ls : List Listed) (next : ℕ) → Next from l
        → ListsFrom (l.slot.0 + 1) ls next → ListsFrom from (l ∷ ls) next

  -- an array has them first, as many as are left or as have room, and is as it was behind them
  pub record AreListed (from : ℕ) (old new : List Info) (count next : ℕ) : Type 0 where
    pub listed : List Listed
    pub lists : ListsFrom from listed next
    pub count_is : count ≡ length listed
    pub room : count ≤ length old
    pub full : (next ≡ 0 → ⊥) → count ≡ length old
    pub items : new ≡ map info_of listed ++ drop count old

-- a call lists all live handles, or those of some kinds, with null targets where those alone are asked for
abbrev pub Lists : (from : ℕ) (old new : List Info) (count next : ℕ) → HostView → HostView → ℕ → Type 0
Lists from old new count next v w status =
    (w ≡ v) × (status ≡ OK) × AreListed (IsNextFrom v) (HasNoneFrom v) from old new count next

abbrev pub ListsOf : (kinds cleared from : ℕ) (old new : List Info) (count next : ℕ)
    → HostView → HostView → ℕ → Type 0
ListsOf kinds cleared from old new count next v w status =
    let null = cleared == 1 in (w ≡ v) × (status ≡ OK)
    × AreListed (IsListedOf v kinds null) (HasNoneOf v.machine.state kinds null) from old new count next
