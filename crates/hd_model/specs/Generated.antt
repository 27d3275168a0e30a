-- The script of a load, which is made and not read: four callers that each make, use and free a handle a
-- round, with a collection every 16 rounds. It is this project's own.
use Rattle.std.specs.Prelude.{ℕ, ◌+◌, ◌%◌, ◌==◌, false, if◌then◌else◌, List, [], ◌∷◌, ◌++◌, map, length, sum_by, flat_map, slice_index_or, codes, decimal}
use Rattle.std.specs.List.{range_with_len}
use Rattle.std.specs.FinMap.{len}
use Rattle.hd_model.specs.Data.{Entry, Make, Reply, Cmd}
use Rattle.hd_model.specs.declared.data.Make.TheVariants as make
use Rattle.hd_model.specs.declared.data.Reply.TheVariants.{Done, Object, Nothing, Value, Generation, Place, Report, NoneQueued, Absent, Chain, Unrooted, Refused}
use Rattle.hd_model.specs.declared.data.Strength.TheVariants as strength
use Rattle.hd_model.specs.declared.command.Cmd.TheVariants as cmd
use Rattle.hd_model.specs.declared.limits.TheConstants.{HEAP, BLOCKS, LOAD_CALLERS, ROUNDS_TO_COLLECTION}
use Rattle.hd_model.specs.State.{Numbers, State}
use Rattle.hd_model.specs.Laws.{makes_object, count_entries}
use Rattle.hd_model.specs.Text.{newline, collections_of}

-- the numbers of a load: the heap and the table that a run has where it gives none
abbrev pub load_numbers : Numbers
load_numbers = record { heap = HEAP; blocks = BLOCKS; callers = LOAD_CALLERS }

-- what the rounds make in turn: of each kind that has no count, a variable handle of strength strong
abbrev pub makes_in_turn : List Make
makes_in_turn =
    make.Strong ∷ make.Pinned ∷ make.Short ∷ make.Long ∷ make.Dependent 0 ∷ make.Variable strength.Strong ∷ []

-- what a round makes, by the rest of its number by 6
abbrev pub make_of_round : ℕ → Make
make_of_round round = slice_index_or makes_in_turn (round % 6) make.Strong

-- the collection after each 16th round, of the generation that is the rest of its number by 3
abbrev pub collection_after : ℕ → List Cmd
collection_after round = if round % ROUNDS_TO_COLLECTION == 0 then cmd.Collect (round % 3) ∷ [] else []

-- the commands of a caller in one round: make an object and a handle of it, write and read through them, and
-- release both
abbrev pub round_of : ℕ → ℕ → List Cmd
round_of caller round =
    cmd.New 0 ((caller + round) % 8) false
    ∷ cmd.HNew 0 (make_of_round round) 0
    ∷ cmd.Val 0 round
    ∷ cmd.HGet 1 0
    ∷ cmd.Read 0
    ∷ cmd.Clear 0
    ∷ cmd.Clear 1
    ∷ cmd.HFree 0
    ∷ collection_after round

-- the commands of a caller: its rounds from 1 on
unfoldable pub generated_list : ℕ → ℕ → List Cmd
generated_list rounds caller = flat_map (round_of caller) (range_with_len 1 rounds)

-- the list of each caller
unfoldable pub generated_lists : ℕ → List (List Cmd)
generated_lists rounds = map (generated_list rounds) (range_with_len 0 LOAD_CALLERS)

-- the line of a load: its commands, the objects that were made, the live handles, the collections, and the
-- sum of the values read
abbrev pub load_text : ℕ → ℕ → ℕ → ℕ → ℕ → List ℕ
load_text commands made live collections sum =
    codes "load callers 4 commands " ++ decimal commands
    ++ codes " made " ++ decimal made ++ codes " live " ++ decimal live
    ++ codes " collections " ++ decimal collections ++ codes " sum " ++ decimal sum ++ newline

-- the value that a reply states, and 0 where it states none
abbrev pub value_returned : Reply → ℕ
value_returned Done = 0
value_returned (Object id) = 0
value_returned Nothing = 0
value_returned (Value n) = n
value_returned (Generation g) = 0
value_returned (Place p) = 0
value_returned (Report r) = 0
value_returned NoneQueued = 0
value_returned Absent = 0
value_returned (Chain from edges) = 0
value_returned Unrooted = 0
value_returned (Refused r) = 0

-- the line of a load whose journal replays to a state
abbrev pub load_text_of : List Entry → State → List ℕ
load_text_of journal s =
    load_text (length journal) (count_entries makes_object journal) (len s.handles)
    (collections_of journal) (sum_by (λ (e : Entry). value_returned e.reply) journal)
