-- Laws of `gcroot` in the words of someone who asks why an object lives. Each is the contract of a public
-- function of this crate.
use Rattle.std.specs.Prelude.{◌≡◌, ℕ, ◌+◌, ◌≤◌, ◌⊎◌, List, Some, None, IsSome, MatchOption}
use Rattle.std.specs.FinMap.{get}
use Rattle.hd_model.specs.Data.{Id, Entry, Report, Reply}
use Rattle.hd_model.specs.declared.data.Refusal.TheVariants as refusal
use Rattle.hd_model.specs.declared.data.Reply.TheVariants as reply
use Rattle.hd_model.specs.declared.command.Cmd.TheVariants as cmd
use Rattle.hd_model.specs.State.{Numbers, State, register_of}
use Rattle.hd_model.specs.Step.{Step}
use Rattle.hd_model.specs.Run.{Chain}
use Rattle.hd_model.specs.WellFormed.{IsWellFormed}
use Rattle.hd_model.specs.InUse.{IsOlder, IsLedTo, IsResurrected}
use Rattle.hd_model.specs.Anchors.{EdgeOf, AnchorOf, ReturnsRoot}
use Rattle.hd_model.specs.CollectionLaws.{Collected}
use Rattle.hd_model.specs.UserLaws.{Does}

-- a `gcroot` is refused where its register is null, returns the root of the object else, and changes nothing
pub record AsksRoot (s t : State) (e : Entry) (r : ℕ) : Type 0 where
  pub reply : MatchOption (register_of s e.caller r) (e.reply ≡ reply.Refused refusal.Null)
      (λ goal. ReturnsRoot s goal e.reply)
  pub same : t ≡ s

abbrev pub GcRootReturnsTheRoot : Type 0
GcRootReturnsTheRoot =
    (n : Numbers) (s t : State) (e : Entry) (r : ℕ) → Step n s e t → e.cmd ≡ cmd.GcRoot r → AsksRoot s t e r

-- a state has one reply to `gcroot` on an object
abbrev pub RootIsOne : Type 0
RootIsOne = (s : State) (goal : Id) (r q : Reply) → ReturnsRoot s goal r → ReturnsRoot s goal q → r ≡ q

-- two states with the same objects, handles, entries of the weak table, statics and queue. Registers, board,
-- blocks, serials and pinned addresses may be others.
pub record IsSameGraph (s t : State) : Type 0 where
  pub objects : s.objects ≡ t.objects
  pub handles : s.handles ≡ t.handles
  pub weak : s.weak ≡ t.weak
  pub statics : s.statics ≡ t.statics
  pub queue : s.queue ≡ t.queue

-- in two such states `gcroot` replies the same, by whatever registers of whatever callers that reference the
-- same object, or null
abbrev pub OtherRegistersPlayNoPart : Type 0
OtherRegistersPlayNoPart =
    (n m : Numbers) (s t u v : State) (e f : Entry) (r q : ℕ) → Step n s e u → Step m t f v
    → e.cmd ≡ cmd.GcRoot r → f.cmd ≡ cmd.GcRoot q → register_of s e.caller r ≡ register_of t f.caller q
    → IsSameGraph s t → e.reply ≡ f.reply

-- an anchor is its own root, by no edge
abbrev pub AnchorsAreTheirRoots : Type 0
AnchorsAreTheirRoots = (s : State) (x : Id) → AnchorOf s x → ReturnsRoot s x (reply.Chain x 0)

-- a reply for what an edge leads to from an object that is rooted at `from` by some edges: at most one more
-- edge, and where it is one more, no anchor of a greater identity
pub record IsRootedNear (from : Id) (edges : ℕ) (r : Reply) : Type 0 where
  pub anchor : Id
  pub distance : ℕ
  pub reply_is : r ≡ reply.Chain anchor distance
  pub near : distance ≤ edges + 1
  pub low : distance ≡ edges + 1 → anchor.0 ≤ from.0

-- what an edge leads to from a rooted object is rooted no further away
abbrev pub RootsFollowEdges : Type 0
RootsFollowEdges =
    (s : State) (x y from : Id) (edges : ℕ) (r : Reply) → EdgeOf s x y
    → ReturnsRoot s x (reply.Chain from edges) → ReturnsRoot s y r → IsRootedNear from edges r

-- an object with a chain from an anchor stays through a collection of whatever generation
abbrev pub RootedObjectsStay : Type 0
RootedObjectsStay =
    (m : Numbers) (n : ℕ) (s t : State) (r : Report) (x from : Id) (edges : ℕ) → Collected m n s t r
    → ReturnsRoot s x (reply.Chain from edges) → IsSome (get t.objects x.0)

-- `gcroot` on an object returns a chain
abbrev pub IsRooted : State → Id → Type 0
IsRooted s x = (from : Id) × ((edges : ℕ) × ReturnsRoot s x (reply.Chain from edges))

-- a step in whose state before it an object is rooted, if it is a collection
pub record HasRootWhereCollected (n : Numbers) (x : Id) (s : State) (e : Entry) (t : State) : Type 0 where
  pub step : Step n s e t
  pub rooted : (k : ℕ) → e.cmd ≡ cmd.Collect k → IsRooted s x

-- over entries in a run, an object that is rooted in the state before each `collect` exists after the last
abbrev pub RootedObjectsLast : Type 0
RootedObjectsLast =
    (n : Numbers) (s t : State) (es : List Entry) (x : Id) → IsWellFormed n s → IsSome (get s.objects x.0)
    → Chain (HasRootWhereCollected n x) s es t → IsSome (get t.objects x.0)

-- what may keep an object from a collection of n and is no anchor: a register that references an object, and
-- an object of an older generation
pub data IsNoAnchor (n : ℕ) (s : State) (x : Id) : Type 0 where
  in_register : (c d : ℕ) → register_of s c d ≡ Some x → IsNoAnchor n s x
  older : IsOlder n s x → IsNoAnchor n s x

-- an unrooted object to which no chain leads from those either is removed, or a chain leads to it from what
-- is resurrected
abbrev pub UnrootedObjectsGo : Type 0
UnrootedObjectsGo =
    (m : Numbers) (n : ℕ) (s t : State) (r : Report) (x : Id) → Collected m n s t r
    → ReturnsRoot s x reply.Unrooted → (IsLedTo s (IsNoAnchor n s) x → ⊥)
    → (get t.objects x.0 ≡ None) ⊎ IsLedTo s (IsResurrected n s) x

-- `gcroot` on an object in a register replies unrooted, then the register is dropped, and then somebody
-- collects. In the first of these states the register keeps the object from any collection.
pub record DropsUnrooted (m : Numbers) (n : ℕ) (s : State) (x : Id) : Type 0 where
  pub well_formed : IsWellFormed m s
  pub caller : ℕ
  pub register : ℕ
  pub named : register_of s caller register ≡ Some x
  pub asked : Does m s caller (cmd.GcRoot register)
  pub unrooted : asked.entry.reply ≡ reply.Unrooted
  pub dropped : Does m asked.after caller (cmd.Clear register)
  pub collector : ℕ
  pub collected : Does m dropped.after collector (cmd.Collect n)

-- the object is then removed, or a chain leads to it from what is resurrected, unless one leads to it from
-- another register or an older object
abbrev pub DroppedObjectsGo : Type 0
DroppedObjectsGo =
    (m : Numbers) (n : ℕ) (s : State) (x : Id) (d : DropsUnrooted m n s x)
    → (IsLedTo d.dropped.after (IsNoAnchor n d.dropped.after) x → ⊥)
    → (get d.collected.after.objects x.0 ≡ None)
    ⊎ IsLedTo d.dropped.after (IsResurrected n d.dropped.after) x
