-- What a collection of a store costs, and a search of the weak table, in the words of the machine.
use Rattle.std.specs.Prelude.{◌≡◌, ℕ, ◌+◌, ◌*◌, ◌-◌, Bool, false, cond, nat_le, List, length, filter, sum_by, Option, Some, None, option_map, option_and_then}
use Rattle.std.specs.FinMap.{get, keys, entries}
use Rattle.hd_model.specs.{declared.data.Id.Id, declared.data.Entry.Entry, declared.data.Report.Report, declared.data.Kind.Kind, Kinds.all_kinds, Kinds.is_kind, Ages.visits, declared.class.Class.Class, declared.command.Cmd.Cmd, Class.class_of, Text.is_collect, Command.slot_of_key}
use Rattle.hd_model.specs.declared.data.Reply.TheVariants as reply
use Rattle.hd_model.specs.declared.command.Cmd.TheVariants as cmd
use Rattle.hd_model.specs.declared.data.Kind.TheVariants as kind
use Rattle.hd_model.specs.declared.class.Class.TheVariants as class
use Rattle.hd_model.specs.declared.limits.TheConstants.{BLOCKS, CALLERS}
use Rattle.hd_model.specs.State.{Numbers, State, WeakEntry, BlockUse, handles_of, extra_data, register_of}
use Rattle.hd_cwt.specs.WeakTable.{LooksAt, bucket_of, is_in_bucket}
use Rattle.hd_scan.specs.Tasks.{task_kind, root_tasks, short_tasks, long_tasks}

-- whether a block has handles of a kind
abbrev pub has_kind : Kind → Option BlockUse → Bool
has_kind k None = false
has_kind k (Some (handles_of h)) = is_kind h k
has_kind k (Some extra_data) = false

-- the blocks of a kind
abbrev pub blocks_of : State → Kind → List ℕ
blocks_of s k = filter (λ block. has_kind k (get s.blocks block)) (keys s.blocks)

-- the number of clumps of age at most n in the blocks of a kind
abbrev pub due_in : State → List ℕ → ℕ → Kind → ℕ
due_in s ages n k = visits ages n (blocks_of s k)

-- the steps after a collection, by the due clumps of each kind: each task goes over the handles of its kind,
-- the relocation of references over those of each kind, and three passes over dependent handles: two follow
-- them, and one clears them
abbrev pub steps_by : (Kind → ℕ) → ℕ → ℕ
steps_by due before =
    before
    + (sum_by (λ t. due (task_kind t)) root_tasks + sum_by (λ t. due (task_kind t)) short_tasks
    + sum_by (λ t. due (task_kind t)) long_tasks)
    + sum_by due all_kinds + 3 * due kind.Dependent

-- the steps of a collection of n
abbrev pub CollectedSteps : State → List ℕ → (n before after : ℕ) → Type 0
CollectedSteps s ages n before after = after ≡ steps_by (due_in s ages n) before

-- the register of the key that a command looks up in the weak table
abbrev pub key_register : Class → Option ℕ
key_register (class.MakesObject fields) = None
key_register (class.TakesSlot make t) = None
key_register (class.StoresTarget h t) = None
key_register (class.StoresSecondary h) = None
key_register class.Frees = None
key_register (class.GivesBack kind) = None
key_register (class.Collects n) = None
key_register (class.RepliesAddress h) = None
key_register (class.AddsEntry k v) = Some k
key_register (class.LooksUp k) = Some k
key_register (class.Searches r) = None
key_register class.Plain = None

-- the key that a command looks up, if its register is not null
abbrev pub looked_up : State → ℕ → Cmd → Option Id
looked_up s caller c = option_and_then (register_of s caller) (key_register (class_of c))

-- the number of buckets of the weak table: 4,096 within the limits of a script, and else the odd number
-- below 16 for each block, of 256 at least, since serials of many callers are alike in their low bits
abbrev pub buckets_of : (blocks callers : ℕ) → ℕ
buckets_of blocks callers =
    cond (nat_le blocks BLOCKS) (cond (nat_le callers CALLERS) 4096 (16 * BLOCKS - 1)) (16 * blocks - 1)

-- the number of entries in the bucket of a key
abbrev pub entries_beside : (buckets : ℕ) → State → Id → ℕ
entries_beside buckets s key =
    length (filter (λ (e : ℕ × Option (WeakEntry Id)).
    is_in_bucket buckets (bucket_of buckets key) (option_map (λ (x : WeakEntry Id). x.key) e.1))
    (entries s.weak))

-- the steps of a search for a key: each entry of its bucket where the key has none, and else one at least and
-- at most these
abbrev pub SearchSteps : (buckets : ℕ) → State → Id → (before after : ℕ) → Type 0
SearchSteps buckets s key before after =
    LooksAt (slot_of_key s key) (entries_beside buckets s key) before after

-- the steps of an entry, from the state and the ages before it: a collection takes those of its
-- generation, a command that looks a key up those of one search among so many buckets, and no other command
-- takes any
pub record TakesStepsBy (buckets : ℕ) (s : State) (ages : List ℕ) (e : Entry) (before after : ℕ)
    : Type 0 where
  pub others : is_collect e.cmd ≡ false → looked_up s e.caller e.cmd ≡ None → after ≡ before
  pub searches : (key : Id) → looked_up s e.caller e.cmd ≡ Some key → SearchSteps buckets s key before after
  pub collects :
      (n : ℕ) (report : Report) → e.cmd ≡ cmd.Collect n → e.reply ≡ reply.Report report
      → CollectedSteps s ages n before after

-- so it is in a script, and in a store by its numbers
abbrev pub TakesSteps : State → List ℕ → Entry → (before after : ℕ) → Type 0
TakesSteps s ages e before after = TakesStepsBy 4096 s ages e before after

abbrev pub TakesStepsIn : Numbers → State → List ℕ → Entry → (before after : ℕ) → Type 0
TakesStepsIn n s ages e before after = TakesStepsBy (buckets_of n.blocks n.callers) s ages e before after
