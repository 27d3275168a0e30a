-- Which operands a command can have, command by command, in numerals.
use Rattle.std.specs.Prelude.{◌↔◌, ℕ, ◌<◌, ◌≤◌, ◌^◌, Bool}
use Rattle.hd_model.specs.{declared.data.Strength.Strength, declared.command.Cmd.Cmd}
use Rattle.hd_model.specs.declared.data.Kind.TheVariants as kind
use Rattle.hd_model.specs.declared.data.Make.TheVariants as make
use Rattle.hd_model.specs.declared.command.Cmd.TheVariants as cmd
use Rattle.hd_model.specs.Valid.{IsValid}

-- a command with one register, index or generation is valid exactly where that is below a number
abbrev pub HasOneBelow : ℕ → (ℕ → Cmd) → Type 0
HasOneBelow most command = (a : ℕ) → IsValid (command a) ↔ (a < most)

-- one with two registers or indexes, exactly where both are below 16
abbrev pub HasTwo : (ℕ → ℕ → Cmd) → Type 0
HasTwo command = (a b : ℕ) → IsValid (command a b) ↔ (a < 16) × (b < 16)

-- commands on objects, registers, statics and the queue
pub record ObjectRanges : Type 0 where
  pub new : (d fields : ℕ) (fin : Bool) → IsValid (cmd.New d fields fin) ↔ (d < 16) × (fields ≤ 61)
  pub set : (o i v : ℕ) → IsValid (cmd.Set o i v) ↔ (o < 16) × (i < 256) × (v < 16)
  pub get : (d o i : ℕ) → IsValid (cmd.Get d o i) ↔ (d < 16) × (o < 16) × (i < 256)
  pub val : (o v : ℕ) → IsValid (cmd.Val o v) ↔ (o < 16) × (v < 2 ^ 64)
  pub read : HasOneBelow 16 cmd.Read
  pub copy : HasTwo cmd.Copy
  pub clear : HasOneBelow 16 cmd.Clear
  pub sput : HasTwo cmd.SPut
  pub sget : HasTwo cmd.SGet
  pub gen : HasOneBelow 16 cmd.Gen
  pub suppress : HasOneBelow 16 cmd.Suppress
  pub reregister : HasOneBelow 16 cmd.Reregister
  pub final : HasOneBelow 16 cmd.Final
  -- the generations are 0, 1 and 2
  pub collect : HasOneBelow 3 cmd.Collect
  pub gcroot : HasOneBelow 16 cmd.GcRoot

-- commands on the weak table
pub record WeakRanges : Type 0 where
  pub cadd : HasTwo cmd.CAdd
  pub cfind : HasTwo cmd.CFind
  pub cremove : HasOneBelow 16 cmd.CRemove

-- what an `hnew` of each kind needs: a dependent handle has a register more
pub record MakeRanges : Type 0 where
  pub short : HasTwo (λ d t. cmd.HNew d make.Short t)
  pub long : HasTwo (λ d t. cmd.HNew d make.Long t)
  pub strong : HasTwo (λ d t. cmd.HNew d make.Strong t)
  pub pinned : HasTwo (λ d t. cmd.HNew d make.Pinned t)
  pub variable : (strength : Strength) → HasTwo (λ d t. cmd.HNew d (make.Variable strength) t)
  pub counted : HasTwo (λ d t. cmd.HNew d make.Counted t)
  pub dependent : (d t r : ℕ)
      → IsValid (cmd.HNew d (make.Dependent r) t) ↔ (d < 16) × (r < 16) × (t < 16)

-- commands on handles and the board
pub record HandleRanges : Type 0 where
  pub hget : HasTwo cmd.HGet
  pub hset : HasTwo cmd.HSet
  pub hsec : HasTwo cmd.HSec
  pub hdep : HasTwo cmd.HDep
  pub hvar : (strength : Strength) → HasOneBelow 16 (λ h. cmd.HVar h strength)
  pub hfree : HasOneBelow 16 cmd.HFree
  pub hput : HasTwo cmd.HPut
  pub hpick : HasTwo cmd.HPick
  pub addr : HasOneBelow 16 cmd.AddrOf
  pub hup : HasOneBelow 16 cmd.HUp
  pub hdown : HasOneBelow 16 cmd.HDown

-- a `trim` is of one of the four kinds without extra data
pub record TrimRanges : Type 0 where
  pub short : IsValid (cmd.Trim kind.Short)
  pub long : IsValid (cmd.Trim kind.Long)
  pub strong : IsValid (cmd.Trim kind.Strong)
  pub pinned : IsValid (cmd.Trim kind.Pinned)
  pub variable : IsValid (cmd.Trim kind.Variable) → ⊥
  pub counted : IsValid (cmd.Trim kind.Counted) → ⊥
  pub dependent : IsValid (cmd.Trim kind.Dependent) → ⊥

-- the operands of each of the 31 commands are in these ranges
pub record RangesAreThese : Type 0 where
  pub objects : ObjectRanges
  pub weak : WeakRanges
  pub makes : MakeRanges
  pub handles : HandleRanges
  pub trims : TrimRanges
