-- What one call may do to a host that threads share, and commands in a row.
use Rattle.std.specs.Prelude.{◌≡◌, ◌≢◌, ◌⊎◌, ℕ, ◌+◌, ◌*◌, ◌<◌, ◌≤◌, Bool, true, false, List, [], ◌∷◌, ◌++◌, length, map, Option, None, Some, IsSome, Result, MatchResult}
use Rattle.std.specs.FinMap.{get}
use Rattle.hd_model.specs.{declared.data.Entry.Entry, declared.data.Id.Id, declared.data.Kind.Kind, declared.data.Reply.Reply, declared.data.Slot.Slot, declared.command.Cmd.Cmd, Kinds.all_kinds, Kinds.is_paired, Touched.touched_by}
use Rattle.hd_model.specs.declared.command.Cmd.TheVariants as cmd
use Rattle.hd_model.specs.declared.data.Reply.TheVariants as reply
use Rattle.hd_model.specs.declared.limits.TheConstants.{FIELDS, ROWS}
use Rattle.hd_model.specs.State.{State, extra_data, given_of, object_by_id, register_of, use_of, with_object, with_register}
use Rattle.hd_store.specs.{Calls.IsSound, Hosted.with_cleared}
use Rattle.hd_store.specs.Spare.{HasNoSpare, IsLeastSpare, without_pair}
use Rattle.hd_host.specs.declared.fault.Fault.{Fault}
use Rattle.hd_host.specs.declared.handle.Handle.{Handle}
use Rattle.hd_host.specs.Calls.{FailsBy, FreesHandle, HasDone, HasReplied, Trims}
use Rattle.hd_host.specs.Changes.{change_back, no_change}
use Rattle.hd_host.specs.Handles.{IsOf}
use Rattle.hd_host.specs.View.{HostView, IsAsItWas}

-- ---- commands in a row

-- one of them: its context, the slot in the first handle register there, or none, and the command
pub record RowCommand : Type 0 where
  pub context : ℕ
  pub slot : Option Slot
  pub command : Cmd

-- they were done with these replies, one after another, each from the host that the one before left
abbrev pub HasRow : HostView → List RowCommand → List Reply → HostView → Type 0
HasRow old [] [] new = new ≡ old
HasRow old [] (answer ∷ answers) new = ⊥
HasRow old (c ∷ row) [] new = ⊥
HasRow old (c ∷ row) (answer ∷ answers) new =
    (after : HostView) × HasReplied old c.context c.slot c.command answer after × HasRow after row answers new

-- one of them fails in the host to which those before it lead
pub record FailsRow (old : HostView) (row : List RowCommand) (f : Fault) : Type 0 where
  pub before : List RowCommand
  pub at : RowCommand
  pub rest : List RowCommand
  pub row_is : row ≡ before ++ at ∷ rest
  pub answers : List Reply
  pub after : HostView
  pub done : HasRow old before answers after
  pub fails : FailsBy after at.context at.slot at.command f

-- a row was done, and its replies are those of what is returned; or one of it fails, and all is as it was
-- before the first: a call that is a row is refused as a whole
abbrev pub TriesRow : {T : Type 0} → HostView → List RowCommand → (T → List Reply) → HostView → Result T Fault
    → Type 0
TriesRow old row replies_of new result =
    MatchResult result (λ x. HasRow old row (replies_of x) new)
    (λ f. FailsRow old row f × IsAsItWas old new)

-- ---- ends

-- a context of the end with a number, where each end has so many
abbrev pub IsContextOf : ℕ → ℕ → ℕ → Type 0
IsContextOf each number c = (number * each ≤ c) × (c < number * each + each)

-- a command is one of a context of the end, or writes no local
abbrev pub IsEndsOwn : ℕ → ℕ → ℕ → Cmd → Type 0
IsEndsOwn each number c command = IsContextOf each number c ⊎ ((touched_by command).register ≡ None)

-- the handle register of a command has no slot, or that of a live handle
abbrev pub IsWithHandle : HostView → Option Slot → Type 0
IsWithHandle v slot = (slot ≡ None) ⊎ ((at : Slot) × (handle : Handle) × (slot ≡ Some at) × IsOf v handle at)

-- one command of an end, which was done
pub record IsOneOf (each number : ℕ) (old new : HostView) : Type 0 where
  pub context : ℕ
  pub command : Cmd
  pub own : IsEndsOwn each number context command
  pub slot : Option Slot
  pub with_handle : IsWithHandle old slot
  pub entry : Entry
  pub done : HasDone old context slot command entry new

-- a command of an end, or a row of them, each from the host that the one before left
pub data IsRow (each number : ℕ) : HostView → HostView → Type 0 where
  one : {u w : HostView} → IsOneOf each number u w → IsRow each number u w
  more : {u v w : HostView} → IsOneOf each number u v → IsRow each number v w → IsRow each number u w

-- ---- steps of a host alone

-- nothing differs that a call can tell, but what the last call that was done did
abbrev pub IsAsItWasButLast : HostView → HostView → Type 0
IsAsItWasButLast old new = IsAsItWas old (record new { last = old.last })

-- so of the host with another state
abbrev pub LeavesState : HostView → State → HostView → Type 0
LeavesState old s new = IsAsItWasButLast (record old { machine = record old.machine { state = s } }) new

-- a context of the end, which the host has
abbrev pub IsOwnContext : ℕ → ℕ → HostView → ℕ → Type 0
IsOwnContext each number v c = IsContextOf each number c × (c < v.machine.numbers.callers)

-- an object was made, and its value and its fields were written, which are what locals of the context
-- referenced before
pub record MakesFilled (each number : ℕ) (old new : HostView) : Type 0 where
  pub context : ℕ
  pub dst : ℕ
  pub registered : Bool
  pub value : ℕ
  pub src : List ℕ
  pub own : IsOwnContext each number old context
  pub few : length src ≤ FIELDS
  pub id : Id
  pub made : HostView
  pub replied : HasReplied old context None (cmd.New dst (length src) registered) (reply.Object id) made
  pub filled : LeavesState made
      (with_object made.machine.state id (record (object_by_id made.machine.state id) {
        fields = map (register_of old.machine.state context) src;
        value = value;
      })) new

-- a block of a kind with extra data was given back, with a data block: the least spare one. Its slots are the
-- weak table's no more, and nothing else differs.
pub record TrimsPair (old : HostView) (kind : Kind) (new : HostView) : Type 0 where
  pub block : ℕ
  pub extra : ℕ
  pub least : IsLeastSpare old.machine.state kind block
  pub extra_is : use_of old.machine.state extra ≡ Some extra_data
  pub left : LeavesState old (without_pair old.machine.state block extra) new
  pub last : new.last ≡ change_back block extra

-- What no command does in one step: a reference was passed from one context to another, locals were cleared,
-- an object was made with its value and its fields, or a block was given back with its data block.
pub data HostStep (each number : ℕ) (old new : HostView) : Type 0 where
  passes : (to dst from src : ℕ) → IsOwnContext each number old to → IsOwnContext each number old from
      → LeavesState old (with_register old.machine.state to dst (register_of old.machine.state from src)) new
      → HostStep each number old new
  clears : (context first count : ℕ) → IsOwnContext each number old context
      → LeavesState old (with_cleared old.machine.state context first count) new
      → HostStep each number old new
  makes : MakesFilled each number old new → HostStep each number old new
  gives_back : (kind : Kind) → TrimsPair old kind new → HostStep each number old new

-- ---- blocks that are given back

-- no block was given back, and nothing differs but `last`
pub record TrimsNone (old : HostView) (kind : Kind) (new : HostView) : Type 0 where
  pub none : HasNoSpare old.machine.state kind
  pub same : IsAsItWasButLast old new
  pub last : new.last ≡ no_change

-- the least spare block of a kind was given back, if there is one, by the number of blocks that were: of a kind
-- with extra data it is 2 or none, and else it is the command `trim`
abbrev pub TrimsBy : Bool → HostView → Kind → ℕ → HostView → Type 0
TrimsBy true old kind given new =
    ((given ≡ 2) × TrimsPair old kind new) ⊎ ((given ≡ 0) × TrimsNone old kind new)
TrimsBy false old kind given new = Trims old kind given new

abbrev pub TrimsBlock : HostView → Kind → ℕ → HostView → Type 0
TrimsBlock old kind given new = TrimsBy (is_paired kind) old kind given new

-- that was done of these kinds in turn, one after another, of each until no block of it was spare
pub data TrimsRow : List Kind → HostView → HostView → Type 0 where
  no_kinds : {u : HostView} → TrimsRow [] u u
  one_more : {u v w : HostView} {kind : Kind} {kinds : List Kind} (given : ℕ) → 1 ≤ given
      → TrimsBlock u kind given v → TrimsRow (kind ∷ kinds) v w → TrimsRow (kind ∷ kinds) u w
  next_kind : {u v w : HostView} {kind : Kind} {kinds : List Kind} → TrimsBlock u kind 0 v → TrimsRow kinds v w
      → TrimsRow (kind ∷ kinds) u w

-- so of all kinds by their numbers, by the number of blocks that were given back
pub record TrimsAll (old : HostView) (given : ℕ) (new : HostView) : Type 0 where
  pub row : TrimsRow all_kinds old new
  pub fewer : given_of new.machine.state + given ≡ given_of old.machine.state

-- ---- turns

-- A turn of the end with a number, where each end has so many contexts: nothing, or nothing but that `last`
-- is another; a command or a row of them; a handle was freed, so that its slot has the next stamp; a step of
-- a host alone; or spare blocks given back in a row. All that one call may do is one.
pub data HostTurn (each number : ℕ) : HostView → HostView → Type 0 where
  stays : {u w : HostView} → IsAsItWasButLast u w → HostTurn each number u w
  steps : {u w : HostView} → IsRow each number u w → HostTurn each number u w
  frees : {u w : HostView} (handle : Handle) → FreesHandle u handle w → HostTurn each number u w
  alone : {u w : HostView} → HostStep each number u w → HostTurn each number u w
  trims : {u w : HostView} {kinds : List Kind} → TrimsRow kinds u w → HostTurn each number u w

-- turns of other ends than that with a number
pub data TurnsOfOthers (each number : ℕ) : HostView → HostView → Type 0 where
  none : {u : HostView} → TurnsOfOthers each number u u
  goes_on : {u v w : HostView} (by : ℕ) → by ≢ number → TurnsOfOthers each number u v → HostTurn each by v w
      → TurnsOfOthers each number u w

-- ---- laws

-- no context is of two ends
abbrev pub NoContextIsOfTwoEnds : Type 0
NoContextIsOfTwoEnds =
    (each a b c : ℕ) → a ≢ b → IsContextOf each a c → IsContextOf each b c → ⊥

-- the locals of an end's contexts reference what they did
abbrev pub LocalsStay : ℕ → ℕ → HostView → HostView → Type 0
LocalsStay each number u w = (c d : ℕ) → IsContextOf each number c
    → register_of w.machine.state c d ≡ register_of u.machine.state c d

-- A turn of another end leaves them, also where it is a collection: no context is of two ends, and a command
-- writes no local but of its own context.
abbrev pub OthersKeepLocals : Type 0
OthersKeepLocals = (each number by : ℕ) (u w : HostView) → by ≢ number → HostTurn each by u w
    → LocalsStay each number u w

-- so whatever other ends do, they reference what this end left there
abbrev pub LocalsAreAsLeft : Type 0
LocalsAreAsLeft =
    (each number : ℕ) (u w : HostView) → TurnsOfOthers each number u w → LocalsStay each number u w

-- what is so of every host: its numbers are within the limits, its state is well formed, so that what is
-- referenced is an object of it, and each slot of its table has a stamp
pub record IsSoundHost (v : HostView) : Type 0 where
  pub machine : IsSound v.machine
  pub stamps : length v.stamps ≡ ROWS * (v.machine.numbers.blocks + 1)

-- it stays so over turns
abbrev pub TurnsKeepSound : Type 0
TurnsKeepSound = (each by : ℕ) (u w : HostView) → IsSoundHost u → HostTurn each by u w → IsSoundHost w

-- and what a local of an end references is there whatever others do, also where they collect
abbrev pub OthersKeepObjects : Type 0
OthersKeepObjects = (each number : ℕ) (u w : HostView) → IsSoundHost u → TurnsOfOthers each number u w
    → (c d : ℕ) (id : Id) → IsContextOf each number c → register_of u.machine.state c d ≡ Some id
    → IsSome (get w.machine.state.objects id.0)
