-- Laws of what an entry of the weak table takes, and of what goes with it. Each is the contract of a public
-- function of this crate.
use Rattle.std.specs.Prelude.{◌≡◌, ◌↔◌, ℕ, ◌+◌, ◌<◌, ◌≤◌, cond, Some, None, IsSome}
use Rattle.std.specs.FinMap.{get, len}
use Rattle.hd_model.specs.Data.{Id, Slot, Entry, Report, Make, Cmd}
use Rattle.hd_model.specs.declared.data.Grown.TheVariants.{Zero}
use Rattle.hd_model.specs.declared.data.Refusal.TheVariants as refusal
use Rattle.hd_model.specs.declared.data.Reply.TheVariants as reply
use Rattle.hd_model.specs.declared.command.Cmd.TheVariants as cmd
use Rattle.hd_model.specs.Kinds.{kind_of, is_paired}
use Rattle.hd_model.specs.State.{Numbers, State, WeakEntry, register_of, with_weak}
use Rattle.hd_model.specs.Step.{Step}
use Rattle.hd_model.specs.Collect.{CollectsState}
use Rattle.hd_model.specs.CollectionLaws.{Collected}

-- the least slot of the weak table without an entry
pub record IsLeastIdle (s : State) (slot : Slot) : Type 0 where
  pub idle : get s.weak slot.0 ≡ Some None
  pub least : (other : ℕ) → get s.weak other ≡ Some None → slot.0 ≤ other

-- a `cadd` gets that slot, its entry is in it then, and the table does not grow
pub record TakesIdleSlot (s t : State) (e : Entry) (k v : ℕ) : Type 0 where
  pub slot : Slot
  pub least : IsLeastIdle s slot
  pub given : e.slot ≡ Some slot
  pub grown : e.grown ≡ Zero
  pub key : Id
  pub named : register_of s e.caller k ≡ Some key
  pub entry : get t.weak slot.0 ≡ Some (Some (record { key = key; value = register_of s e.caller v }))

-- where the weak table has a slot without an entry, a done `cadd` gets the least such slot
abbrev pub IdleSlotsAreTakenFirst : Type 0
IdleSlotsAreTakenFirst =
    (n : Numbers) (s t : State) (e : Entry) (k v idle : ℕ) → Step n s e t → e.cmd ≡ cmd.CAdd k v
    → e.reply ≡ reply.Done → get s.weak idle ≡ Some None → TakesIdleSlot s t e k v

-- a command that needs more blocks than are unused: an `hnew` needs one, or two where the kind has extra
-- data, and a `cadd` two, where each slot of the weak table has an entry
pub data LacksBlocks (n : Numbers) (s : State) : Cmd → Type 0 where
  for_handle : (d t : ℕ) (make : Make)
      → n.blocks < len s.blocks + cond (is_paired (kind_of make)) 2 1
      → LacksBlocks n s (cmd.HNew d make t)
  for_entry : (k v : ℕ) → n.blocks < len s.blocks + 2 → ((slot : ℕ) → get s.weak slot ≡ Some None → ⊥)
      → LacksBlocks n s (cmd.CAdd k v)

-- a command is refused for a full table, with the number of blocks in use, only where it lacks blocks
abbrev pub FullTablesLackBlocks : Type 0
FullTablesLackBlocks =
    (n : Numbers) (s t : State) (e : Entry) (given : ℕ) → Step n s e t
    → e.reply ≡ reply.Refused (refusal.TableFull given) → (given ≡ len s.blocks) × LacksBlocks n s e.cmd

-- in the collection that takes the key of an entry, each object stays exactly where it stays with the entry
-- taken out: so the value goes too, and all that nothing but the entry keeps
abbrev pub ValuesGoWithKeys : Type 0
ValuesGoWithKeys =
    (m : Numbers) (n : ℕ) (s t u : State) (r q : Report) (slot : Slot) (x : WeakEntry Id) (y : Id)
    → Collected m n s t r → CollectsState n (with_weak s slot None) u q → get s.weak slot.0 ≡ Some (Some x)
    → get t.objects x.key.0 ≡ None → IsSome (get t.objects y.0) ↔ IsSome (get u.objects y.0)
