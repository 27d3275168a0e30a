-- What each command may change, what each handle is to a collection, how ages move, and what the commands of
-- a load are: worked rows, each with its answer written out.
use Rattle.std.specs.Prelude.{◌≡◌, ℕ, Bool, true, false, List, [], ◌∷◌, ◌++◌, map, filter, flat_map, codes, Option, Some, None, option_map, option_to_list}
use Rattle.hd_model.specs.{declared.data.Id.Id, declared.data.Slot.Slot, declared.data.Strength.Strength, declared.data.Reply.Reply, declared.command.Cmd.Cmd}
use Rattle.hd_model.specs.declared.data.Grown.TheVariants.{Zero}
use Rattle.hd_model.specs.declared.data.Kind.TheVariants as kind
use Rattle.hd_model.specs.declared.data.Make.TheVariants as make
use Rattle.hd_model.specs.declared.data.Strength.TheVariants as strength_of
use Rattle.hd_model.specs.declared.data.Refusal.TheVariants as refusal
use Rattle.hd_model.specs.declared.data.Reply.TheVariants as reply
use Rattle.hd_model.specs.declared.command.Cmd.TheVariants as cmd
use Rattle.hd_model.specs.State.{Handle, State, nothing, strength, secondary, count, with_register, with_handle_register}
use Rattle.hd_model.specs.Rows.{Touched, row_of}
use Rattle.hd_model.specs.Touched.{touched_by}
use Rattle.hd_model.specs.Valid.{takes_memory}
use Rattle.hd_model.specs.Text.{is_collect}
use Rattle.hd_model.specs.Role.{holds, short, long, attaches, role, pins}
use Rattle.hd_model.specs.Ages.{lowered, grown}
use Rattle.hd_model.specs.Aging.{aged_by, aged_start}
use Rattle.hd_model.specs.Generated.{load_numbers, make_of_round, collection_after, round_of, generated_list, generated_lists}
use Rattle.hd_laws.specs.CollectionSamples.{busy, id_of, slot_of}
use Rattle.hd_laws.specs.CommandLaws.{handle_with}
use Rattle.hd_laws.specs.TextLaws.{entry, report}

-- ---- what commands may change

-- one of each command
abbrev pub each_command : List Cmd
each_command =
    cmd.New 1 2 true ∷ cmd.Set 2 3 4 ∷ cmd.Get 3 4 5 ∷ cmd.Val 4 5 ∷ cmd.Read 5 ∷ cmd.Copy 6 7 ∷ cmd.Clear 7
    ∷ cmd.SPut 8 9 ∷ cmd.SGet 9 10 ∷ cmd.Gen 10 ∷ cmd.Suppress 11 ∷ cmd.Reregister 12 ∷ cmd.Final 13
    ∷ cmd.Collect 1 ∷ cmd.GcRoot 14 ∷ cmd.CAdd 13 14 ∷ cmd.CFind 14 15 ∷ cmd.CRemove 15
    ∷ cmd.HNew 1 make.Strong 2 ∷ cmd.HGet 2 3 ∷ cmd.HSet 3 4 ∷ cmd.HSec 4 5 ∷ cmd.HDep 5 6
    ∷ cmd.HVar 6 strength_of.Long ∷ cmd.HFree 7 ∷ cmd.HPut 8 9 ∷ cmd.HPick 9 10 ∷ cmd.AddrOf 10
    ∷ cmd.HUp 11 ∷ cmd.HDown 12 ∷ cmd.Trim kind.Pinned ∷ []

-- the words of those that pass a test, and of those that touch a part
abbrev pub word_of : Cmd → List ℕ
word_of c = (row_of c).word

abbrev pub words_of : (Cmd → Bool) → List (List ℕ)
words_of test = map word_of (filter test each_command)

abbrev pub touching : (Touched → Bool) → List (List ℕ)
touching part = words_of (λ c. part (touched_by c))

-- the words of those that touch one of several registers or indexes, each with its number
abbrev pub numbered : {A : Type 0} → (Touched → Option A) → List (List ℕ × A)
numbered part =
    flat_map (λ c. option_to_list (option_map (λ k. (word_of c, k)) (part (touched_by c)))) each_command

-- which commands may change which part of the state
pub record PartsChanged : Type 0 where
  pub objects : touching (λ t. t.objects)
      ≡ codes "new" ∷ codes "set" ∷ codes "val" ∷ codes "suppress" ∷ codes "reregister"
      ∷ codes "collect" ∷ []
  pub handles : touching (λ t. t.handles)
      ≡ codes "collect" ∷ codes "hnew" ∷ codes "hset" ∷ codes "hsec" ∷ codes "hvar" ∷ codes "hfree"
      ∷ codes "hup" ∷ codes "hdown" ∷ []
  pub weak : touching (λ t. t.weak) ≡ codes "collect" ∷ codes "cadd" ∷ codes "cremove" ∷ []
  pub queue : touching (λ t. t.queue) ≡ codes "final" ∷ codes "collect" ∷ []
  pub pinned : touching (λ t. t.pinned) ≡ codes "collect" ∷ codes "addr" ∷ []
  pub blocks : touching (λ t. t.blocks) ≡ codes "cadd" ∷ codes "hnew" ∷ codes "trim" ∷ []
  pub serials : touching (λ t. t.serials) ≡ codes "new" ∷ []

-- which register, static or board index each writes, and what it copies there
pub record PlacesWritten : Type 0 where
  pub register : numbered (λ t. t.register)
      ≡ (codes "new", 1) ∷ (codes "get", 3) ∷ (codes "copy", 6) ∷ (codes "drop", 7) ∷ (codes "sget", 9)
      ∷ (codes "final", 13) ∷ (codes "cfind", 14) ∷ (codes "hget", 2) ∷ (codes "hdep", 5) ∷ []
  pub copied : numbered (λ t. t.copied) ≡ (codes "copy", 7) ∷ []
  pub handle_register : numbered (λ t. t.handle_register)
      ≡ (codes "hnew", 1) ∷ (codes "hfree", 7) ∷ (codes "hpick", 9) ∷ []
  pub picked : numbered (λ t. t.picked) ≡ (codes "hpick", 10) ∷ []
  pub static : numbered (λ t. t.static) ≡ (codes "sput", 8) ∷ []
  pub board : numbered (λ t. t.board) ≡ (codes "hput", 8) ∷ []

-- which handle, and which entry of the weak table, each is about
pub record HandlesAndEntries : Type 0 where
  pub handle : numbered (λ t. t.handle)
      ≡ (codes "hget", 3) ∷ (codes "hset", 3) ∷ (codes "hsec", 4) ∷ (codes "hdep", 6) ∷ (codes "hvar", 6)
      ∷ (codes "hfree", 7) ∷ (codes "addr", 10) ∷ (codes "hup", 11) ∷ (codes "hdown", 12) ∷ []
  pub adds : numbered (λ t. t.adds) ≡ (codes "cadd", (13, 14)) ∷ []
  pub takes_out : numbered (λ t. t.takes_out) ≡ (codes "cremove", 15) ∷ []
  pub makes_object : touching (λ t. t.makes_object) ≡ codes "new" ∷ []
  pub makes_handle : touching (λ t. t.makes_handle) ≡ codes "hnew" ∷ []
  pub frees_handle : touching (λ t. t.frees_handle) ≡ codes "hfree" ∷ []

-- which commands change what, may take memory, and collect
pub record CommandsTouchThese : Type 0 where
  pub parts : PartsChanged
  pub places : PlacesWritten
  pub about : HandlesAndEntries
  pub take_memory : words_of takes_memory ≡ codes "new" ∷ codes "collect" ∷ codes "gcroot" ∷ []
  pub collect : words_of is_collect ≡ codes "collect" ∷ []

-- ---- what handles are to a collection

abbrev pub variable_of : Strength → Handle Id
variable_of given = handle_with kind.Variable (Some (id_of 1)) (strength given)

-- a weak short, a weak long, a strong and a pinned handle, a variable one of each strength, a ref-counted one
-- with the counts 0, 1 and 9, and a dependent one
abbrev pub twelve_handles : List (Handle Id)
twelve_handles =
    handle_with kind.Short (Some (id_of 1)) nothing ∷ handle_with kind.Long (Some (id_of 1)) nothing
    ∷ handle_with kind.Strong (Some (id_of 1)) nothing ∷ handle_with kind.Pinned (Some (id_of 1)) nothing
    ∷ variable_of strength_of.Short ∷ variable_of strength_of.Long ∷ variable_of strength_of.Strong
    ∷ variable_of strength_of.Pinned ∷ handle_with kind.Counted (Some (id_of 1)) (count 0)
    ∷ handle_with kind.Counted (Some (id_of 1)) (count 1)
    ∷ handle_with kind.Counted (Some (id_of 1)) (count 9)
    ∷ handle_with kind.Dependent (Some (id_of 1)) (secondary (Some (id_of 2))) ∷ []

-- what each does for its target, and whether it keeps that from moving
pub record HandlesHaveTheseRoles : Type 0 where
  pub roles : map role twelve_handles
      ≡ short ∷ long ∷ holds ∷ holds ∷ short ∷ long ∷ holds ∷ holds ∷ long ∷ holds ∷ holds ∷ attaches ∷ []
  pub pinning : map pins twelve_handles
      ≡ false ∷ false ∷ false ∷ true ∷ false ∷ false ∷ false ∷ true ∷ false ∷ false ∷ false ∷ false ∷ []

-- ---- how ages move

-- the state of some collections, where object 1 has generation 1 and object 5 generation 0: r0 references 1
-- and r1 references 5, h0 has slot 80, in the second clump of block 1, and h1 has slot 192, in the first of 3
abbrev pub aging : State
aging =
    with_handle_register
    (with_handle_register (with_register busy 0 1 (Some (id_of 5))) 0 0 (Some (slot_of 80))) 0 1
    (Some (slot_of 192))

-- the ages of blocks 1 to 3, four clumps each: of all clumps 2, or of one clump another
abbrev pub with_age : ℕ → ℕ → ℕ → List ℕ
with_age first second ninth =
    first ∷ second ∷ 2 ∷ 2 ∷ 2 ∷ 2 ∷ 2 ∷ 2 ∷ ninth ∷ 2 ∷ 2 ∷ 2 ∷ []

abbrev pub all_two : List ℕ
all_two = with_age 2 2 2

-- the ages that a command of caller 0 leaves where all were 2, by its slot and its reply
abbrev pub ages_after : Cmd → Option Slot → Reply → List ℕ
ages_after c slot reply = aged_by aging (entry 0 c slot Zero reply) all_two

-- an age is lowered to the generation of what is stored in its clump, and to 0 by what may attach anything
pub record StoresLowerAges : Type 0 where
  pub hset : ages_after (cmd.HSet 0 0) None reply.Done ≡ with_age 2 1 2
  pub hset_young : ages_after (cmd.HSet 0 1) None reply.Done ≡ with_age 2 0 2
  pub hset_null : ages_after (cmd.HSet 0 15) None reply.Done ≡ all_two
  pub hset_refused : ages_after (cmd.HSet 0 1) None (reply.Refused refusal.WrongKind) ≡ all_two
  pub hnew : ages_after (cmd.HNew 2 make.Short 0) (Some (slot_of 66)) reply.Done ≡ with_age 1 2 2
  pub hnew_null : ages_after (cmd.HNew 2 make.Short 15) (Some (slot_of 66)) reply.Done ≡ all_two
  pub hnew_full : ages_after (cmd.HNew 2 make.Short 0) None (reply.Refused (refusal.TableFull 3)) ≡ all_two
  pub hnew_dependent : ages_after (cmd.HNew 2 (make.Dependent 0) 0) (Some (slot_of 193)) reply.Done
      ≡ with_age 2 2 0
  pub hsec : ages_after (cmd.HSec 1 0) None reply.Done ≡ with_age 2 2 0
  pub cadd : ages_after (cmd.CAdd 0 0) (Some (slot_of 193)) reply.Done ≡ with_age 2 2 0

-- no other command lowers one
pub record OthersLeaveAges : Type 0 where
  pub new : ages_after (cmd.New 3 0 false) None (reply.Object (id_of 6)) ≡ all_two
  pub hget : ages_after (cmd.HGet 3 0) None (reply.Object (id_of 1)) ≡ all_two
  pub hfree : ages_after (cmd.HFree 0) (Some (slot_of 80)) reply.Done ≡ all_two
  pub hvar : ages_after (cmd.HVar 0 strength_of.Long) None reply.Done ≡ all_two
  pub trim : ages_after (cmd.Trim kind.Short) None (reply.Value 0) ≡ all_two
  pub cfind : ages_after (cmd.CFind 3 0) None (reply.Object (id_of 5)) ≡ all_two
  pub cremove : ages_after (cmd.CRemove 0) None reply.Done ≡ all_two
  pub gcroot : ages_after (cmd.GcRoot 0) None reply.Unrooted ≡ all_two

-- slots 64 to 79 are the first clump, 80 to 95 the second; an age is never raised by a store, and a
-- collection raises each age up to its generation by one, at most to 2
pub record AgesMoveSo : Type 0 where
  pub start : (aged_start (record { heap = 3; blocks = 1; callers = 1 })).ages ≡ 2 ∷ 2 ∷ 2 ∷ 2 ∷ []
  pub last_of_first : lowered (2 ∷ 2 ∷ 2 ∷ 2 ∷ []) 79 1 ≡ 1 ∷ 2 ∷ 2 ∷ 2 ∷ []
  pub first_of_second : lowered (2 ∷ 2 ∷ 2 ∷ 2 ∷ []) 80 1 ≡ 2 ∷ 1 ∷ 2 ∷ 2 ∷ []
  pub never_raised : lowered (2 ∷ 0 ∷ 2 ∷ 2 ∷ []) 80 1 ≡ 2 ∷ 0 ∷ 2 ∷ 2 ∷ []
  pub collect_0 : grown 0 (0 ∷ 1 ∷ 2 ∷ []) ≡ 1 ∷ 1 ∷ 2 ∷ []
  pub collect_1 : grown 1 (0 ∷ 1 ∷ 2 ∷ []) ≡ 1 ∷ 2 ∷ 2 ∷ []
  pub collect_2 : grown 2 (0 ∷ 1 ∷ 2 ∷ []) ≡ 1 ∷ 2 ∷ 2 ∷ []
  pub by_collect : aged_by aging (entry 0 (cmd.Collect 0) None Zero (reply.Report (report 0 0 0 0 0 0)))
      (with_age 0 1 0) ≡ with_age 1 1 1
  pub stores : StoresLowerAges
  pub others : OthersLeaveAges

-- ---- the commands of a load

-- the kinds go round by six, the generations of collections by three, which come after each 16th round
pub record LoadsAreThese : Type 0 where
  pub numbers : load_numbers ≡ record { heap = 1000000; blocks = 256; callers = 4 }
  pub makes : map make_of_round (1 ∷ 2 ∷ 3 ∷ 4 ∷ 5 ∷ 6 ∷ 7 ∷ [])
      ≡ make.Pinned ∷ make.Short ∷ make.Long ∷ make.Dependent 0 ∷ make.Variable strength_of.Strong
      ∷ make.Strong ∷ make.Pinned ∷ []
  pub collections : map collection_after (15 ∷ 16 ∷ 17 ∷ 32 ∷ 48 ∷ [])
      ≡ [] ∷ (cmd.Collect 1 ∷ []) ∷ [] ∷ (cmd.Collect 2 ∷ []) ∷ (cmd.Collect 0 ∷ []) ∷ []
  -- round 16 of caller 2
  pub round : round_of 2 16
      ≡ cmd.New 0 2 false ∷ cmd.HNew 0 (make.Dependent 0) 0 ∷ cmd.Val 0 16 ∷ cmd.HGet 1 0 ∷ cmd.Read 0
      ∷ cmd.Clear 0 ∷ cmd.Clear 1 ∷ cmd.HFree 0 ∷ cmd.Collect 1 ∷ []
  pub rounds : generated_list 2 3 ≡ round_of 3 1 ++ round_of 3 2
  pub callers : generated_lists 1 ≡ round_of 0 1 ∷ round_of 1 1 ∷ round_of 2 1 ∷ round_of 3 1 ∷ []
