-- Laws of the weak table in the words of someone who attaches data to objects. Each is the contract of a
-- public function of this crate.
use Rattle.std.specs.Prelude.{◌≡◌, ◌↔◌, ℕ, ◌&&◌, true, if◌then◌else◌, List, Option, Some, None, IsSome}
use Rattle.std.specs.Option.{option_map_or}
use Rattle.std.specs.FinMap.{FinMap, get}
use Rattle.std.specs.Ordering.{nat_cmp}
use Rattle.hd_model.specs.{declared.data.Id.Id, declared.data.Slot.Slot, declared.data.Entry.Entry, declared.data.Reply.Reply, declared.command.Cmd.Cmd}
use Rattle.hd_model.specs.declared.data.Grown.TheVariants.{Back}
use Rattle.hd_model.specs.declared.data.Refusal.TheVariants as refusal
use Rattle.hd_model.specs.declared.data.Reply.TheVariants as reply
use Rattle.hd_model.specs.declared.command.Cmd.TheVariants as cmd
use Rattle.hd_model.specs.State.{Numbers, State, WeakEntry, register_of, handle_register_of, block_of}
use Rattle.hd_model.specs.PinnedAddresses.{is_target}
use Rattle.hd_model.specs.Command.{load_reply}
use Rattle.hd_model.specs.Touched.{touched_by}
use Rattle.hd_model.specs.Step.{Step}
use Rattle.hd_model.specs.Run.{Chain, stay, link, Run}
use Rattle.hd_model.specs.Text.{text_of}
use Rattle.hd_laws.specs.RootText.{roots_text}
use Rattle.hd_model.specs.WellFormed.{IsWellFormed}
use Rattle.hd_model.specs.Laws.{is_done, makes_handle, frees_handle}

-- what a command with its reply leaves attached to a key: a done `cadd` of the key the value, a done
-- `cremove` of it nothing, and any other what was attached before
abbrev pub attached_by : State → Id → ℕ → Cmd → Reply → Option (Option Id) → Option (Option Id)
attached_by s key caller cmd reply before =
    option_map_or
    (λ added. if is_target key.0 (register_of s caller added.0) && is_done reply
    then Some (register_of s caller added.1) else before)
    (touched_by cmd).adds
    (option_map_or (λ k. if is_target key.0 (register_of s caller k) && is_done reply then None else before)
    (touched_by cmd).takes_out before)

-- what entries leave attached to a key: the value of the last done `cadd` of it after which no done `cremove`
-- of it comes, or nothing where there is none
abbrev pub attached : {n : Numbers} {s t : State} {es : List Entry} → Id → Chain (Step n) s es t
    → Option (Option Id) → Option (Option Id)
attached key stay before = before
attached key (link {s = s} {e = e} step rest) before =
    attached key rest (attached_by s key e.caller e.cmd e.reply before)

-- in every run a `cfind` of a key returns the value that is attached to it, and Absent exactly where nothing
-- is (ConditionalWeakTable.TryGetValue). No collection shows in it: a key in a register is kept, and its
-- entry with it.
abbrev pub FindReturnsWhatIsAttached : Type 0
FindReturnsWhatIsAttached =
    (n : Numbers) (journal : List Entry) (now new : State) (e : Entry) (d k : ℕ) (key : Id)
    → (run : Run n journal now) → Step n now e new → e.cmd ≡ cmd.CFind d k
    → register_of now e.caller k ≡ Some key
    → e.reply ≡ option_map_or load_reply (attached key run None) reply.Absent

-- a `cadd` of a key is refused as present exactly where something is attached to it
-- (ConditionalWeakTable.Add)
abbrev pub AddIsRefusedWhereAttached : Type 0
AddIsRefusedWhereAttached =
    (n : Numbers) (journal : List Entry) (now new : State) (e : Entry) (k v : ℕ) (key : Id)
    → (run : Run n journal now) → Step n now e new → e.cmd ≡ cmd.CAdd k v
    → register_of now e.caller k ≡ Some key
    → (e.reply ≡ reply.Refused refusal.Present) ↔ IsSome (attached key run None)

-- a `cremove` of a key is done where something is attached to it, and returns Absent where nothing is
-- (ConditionalWeakTable.Remove)
abbrev pub RemoveReturnsWhetherAttached : Type 0
RemoveReturnsWhetherAttached =
    (n : Numbers) (journal : List Entry) (now new : State) (e : Entry) (k : ℕ) (key : Id)
    → (run : Run n journal now) → Step n now e new → e.cmd ≡ cmd.CRemove k
    → register_of now e.caller k ≡ Some key
    → e.reply ≡ option_map_or (λ _. reply.Done) (attached key run None) reply.Absent

-- a command on the key in an object register
pub data IsOnKey (k : ℕ) : Cmd → Type 0 where
  adds : (v : ℕ) → IsOnKey k (cmd.CAdd k v)
  finds : (d : ℕ) → IsOnKey k (cmd.CFind d k)
  removes : IsOnKey k (cmd.CRemove k)

-- each of them is refused as null where the register is null
abbrev pub NullKeysAreRefused : Type 0
NullKeysAreRefused =
    (n : Numbers) (s t : State) (e : Entry) (k : ℕ) → Step n s e t → IsOnKey k e.cmd
    → register_of s e.caller k ≡ None → e.reply ≡ reply.Refused refusal.Null

-- a command on a handle by a register whose slot is the weak table's, say since the handle was freed there,
-- is refused as not live
abbrev pub WeakSlotsAreNotLive : Type 0
WeakSlotsAreNotLive =
    (n : Numbers) (s t : State) (e : Entry) (h : ℕ) (slot : Slot) → IsWellFormed n s → Step n s e t
    → (touched_by e.cmd).handle ≡ Some h → handle_register_of s e.caller h ≡ Some slot
    → IsSome (get s.weak slot.0) → e.reply ≡ reply.Refused refusal.NotLive

-- a slot of the weak table stays its own: no `hnew` makes a handle in it, no `hfree` frees it, and no `trim`
-- gives its block back, whether it has an entry or is idle
pub record StaysHeld (s t : State) (e : Entry) (slot : Slot) : Type 0 where
  pub held : IsSome (get t.weak slot.0)
  pub not_made : makes_handle e.cmd e.reply ≡ true → e.slot ≡ Some slot → ⊥
  pub not_freed : frees_handle e.cmd e.reply ≡ true → e.slot ≡ Some slot → ⊥
  pub not_given_back : e.grown ≡ Back (block_of slot) → ⊥

abbrev pub WeakSlotsStayHeld : Type 0
WeakSlotsStayHeld =
    (n : Numbers) (s t : State) (e : Entry) (slot : Slot) → IsWellFormed n s → Step n s e t
    → IsSome (get s.weak slot.0) → StaysHeld s t e slot

-- the last line of a text, with the live handles and the objects, and the list of roots leave the weak table
-- out
abbrev pub TextsLeaveTheWeakTableOut : Type 0
TextsLeaveTheWeakTableOut =
    (journal : List Entry) (s : State) (weak : FinMap nat_cmp (Option (WeakEntry Id)))
    → (text_of journal (record s { weak = weak }) ≡ text_of journal s)
    × (roots_text (record s { weak = weak }) ≡ roots_text s)
