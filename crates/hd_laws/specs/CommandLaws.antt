-- What commands do in one worked state: each command done once where the state decides it, and each refusal
-- of each command once. Every step of the command from it comes so.
use Rattle.std.specs.Prelude.{◌≡◌, ℕ, true, false, [], ◌∷◌, Option, Some, None}
use Rattle.hd_model.specs.{declared.data.Id.Id, declared.data.Slot.Slot, declared.data.Kind.Kind, declared.data.Strength.Strength, declared.data.Refusal.Refusal, declared.data.Reply.Reply, declared.data.Entry.Entry, declared.command.Cmd.Cmd}
use Rattle.hd_model.specs.declared.data.Grown.TheVariants.{Zero}
use Rattle.hd_model.specs.declared.data.Kind.TheVariants as kind
use Rattle.hd_model.specs.declared.data.Make.TheVariants as make
use Rattle.hd_model.specs.declared.data.Strength.TheVariants as strength_of
use Rattle.hd_model.specs.declared.data.Refusal.TheVariants as refusal
use Rattle.hd_model.specs.declared.data.Reply.TheVariants as reply
use Rattle.hd_model.specs.declared.command.Cmd.TheVariants as cmd
use Rattle.hd_model.specs.State.{Numbers, Extra, nothing, strength, secondary, count, Handle, handles_of, extra_data, State, start_of, with_register, with_handle_register, with_static, with_board, with_object, with_handle, without_handle, with_weak, with_use, with_address, with_serial}
use Rattle.hd_model.specs.Step.{Step}
use Rattle.hd_laws.specs.CollectionSamples.{id_of, slot_of, object_with}

-- a heap of 11 cells, nine blocks, and one caller
abbrev pub narrow : Numbers
narrow = record { heap = 11; blocks = 9; callers = 1 }

-- object 1 has one field and object 2 none, so they take 7 cells. r0 references 1, r1 references 2, and all
-- else is null.
abbrev pub two_objects : State
two_objects =
    with_serial
    (with_register
    (with_register
    (with_object (with_object (start_of narrow) (id_of 1) (object_with (None ∷ []) 0 false)) (id_of 2)
    (object_with [] 0 false)) 0 0 (Some (id_of 1))) 0 1 (Some (id_of 2))) 0 2

-- eight blocks are in use: 1 for strong handles, 2 for dependent ones and 3 for their secondaries, 4 for
-- ref-counted ones and 5 for their counts, 6 for pinned ones, 7 for variable ones and 8 for their strengths
abbrev pub eight_blocks : State
eight_blocks =
    with_use
    (with_use
    (with_use
    (with_use
    (with_use
    (with_use
    (with_use (with_use two_objects 1 (handles_of kind.Strong)) 2 (handles_of kind.Dependent)) 3
    extra_data) 4 (handles_of kind.Counted)) 5 extra_data) 6 (handles_of kind.Pinned)) 7
    (handles_of kind.Variable)) 8 extra_data

abbrev pub handle_with : Kind → Option Id → Extra Id → Handle Id
handle_with k target extra = record { kind = k; target = target; extra = extra }

-- the handles: those that have a target have object 1, but for one pinned handle, and the dependent one of
-- them attaches 2
abbrev pub strong_one : Handle Id
strong_one = handle_with kind.Strong (Some (id_of 1)) nothing

abbrev pub strong_null : Handle Id
strong_null = handle_with kind.Strong None nothing

abbrev pub dependent_null : Handle Id
dependent_null = handle_with kind.Dependent None (secondary None)

abbrev pub dependent_one : Handle Id
dependent_one = handle_with kind.Dependent (Some (id_of 1)) (secondary (Some (id_of 2)))

abbrev pub counted_by : ℕ → Handle Id
counted_by c = handle_with kind.Counted (Some (id_of 1)) (count c)

abbrev pub pinned_null : Handle Id
pinned_null = handle_with kind.Pinned None nothing

abbrev pub pinned_two : Handle Id
pinned_two = handle_with kind.Pinned (Some (id_of 2)) nothing

abbrev pub variable_of : Strength → Handle Id
variable_of given = handle_with kind.Variable (Some (id_of 1)) (strength given)

-- each in a slot of its block
abbrev pub nine_handles : State
nine_handles =
    with_handle
    (with_handle
    (with_handle
    (with_handle
    (with_handle
    (with_handle
    (with_handle
    (with_handle (with_handle eight_blocks (slot_of 64) strong_one) (slot_of 65) strong_null)
    (slot_of 128) dependent_null) (slot_of 129) dependent_one) (slot_of 256) (counted_by 0))
    (slot_of 257) (counted_by 2)) (slot_of 384) pinned_null) (slot_of 385) pinned_two) (slot_of 448)
    (variable_of strength_of.Short)

-- their slots are in h0 to h8, that of the strong one to object 1 in h0. In h9 is slot 66, which has no
-- handle, and other handle registers are empty. The weak table attaches 2 to 1, and has no idle slot.
abbrev pub worked : State
worked =
    with_weak
    (with_handle_register
    (with_handle_register
    (with_handle_register
    (with_handle_register
    (with_handle_register
    (with_handle_register
    (with_handle_register
    (with_handle_register
    (with_handle_register
    (with_handle_register nine_handles 0 0 (Some (slot_of 64))) 0 1 (Some (slot_of 65))) 0 2
    (Some (slot_of 128))) 0 3 (Some (slot_of 129))) 0 4 (Some (slot_of 256))) 0 5 (Some (slot_of 257))) 0 6
    (Some (slot_of 384))) 0 7 (Some (slot_of 385))) 0 8 (Some (slot_of 448))) 0 9 (Some (slot_of 66)))
    (slot_of 130) (Some (record { key = id_of 1; value = Some (id_of 2) }))

-- an entry has a reply and a slot, no block is taken or given back, and the state after is this
pub record ComesSo (reply : Reply) (slot : Option Slot) (after : State) (e : Entry) (t : State) : Type 0 where
  pub reply_is : e.reply ≡ reply
  pub slot_is : e.slot ≡ slot
  pub grown : e.grown ≡ Zero
  pub after_is : t ≡ after

-- each step of a command of caller 0 from the worked state comes so
abbrev pub Comes : Cmd → Reply → Option Slot → State → Type 0
Comes c reply slot after =
    (e : Entry) (t : State) → Step narrow worked e t → e.caller ≡ 0 → e.cmd ≡ c
    → ComesSo reply slot after e t

-- it is refused, and the state stays
abbrev pub Refuses : Cmd → Refusal → Type 0
Refuses c why = Comes c (reply.Refused why) None worked

-- ---- what is done

-- commands on objects, registers, statics and the queue
pub record ObjectsDone : Type 0 where
  pub new : Comes (cmd.New 2 1 true) (reply.Object (id_of 3)) None
      (with_register (with_serial (with_object worked (id_of 3) (object_with (None ∷ []) 0 true)) 0 3) 0 2
      (Some (id_of 3)))
  pub set : Comes (cmd.Set 0 0 1) reply.Done None
      (with_object worked (id_of 1) (object_with (Some (id_of 2) ∷ []) 0 false))
  pub get : Comes (cmd.Get 1 0 0) reply.Nothing None (with_register worked 0 1 None)
  pub val : Comes (cmd.Val 1 7) reply.Done None (with_object worked (id_of 2) (record {
    fields = [];
    value = 7;
    generation = 0;
    registered = false;
  }))
  pub read : Comes (cmd.Read 0) (reply.Value 0) None worked
  pub copy : Comes (cmd.Copy 2 0) reply.Done None (with_register worked 0 2 (Some (id_of 1)))
  pub clear : Comes (cmd.Clear 0) reply.Done None (with_register worked 0 0 None)
  pub sput : Comes (cmd.SPut 3 0) reply.Done None (with_static worked 3 (Some (id_of 1)))
  pub sget : Comes (cmd.SGet 0 3) reply.Nothing None (with_register worked 0 0 None)
  pub gen : Comes (cmd.Gen 0) (reply.Generation 0) None worked
  pub suppress : Comes (cmd.Suppress 1) reply.Done None
      (with_object worked (id_of 2) (object_with [] 0 false))
  pub reregister : Comes (cmd.Reregister 1) reply.Done None
      (with_object worked (id_of 2) (object_with [] 0 true))
  pub final : Comes (cmd.Final 0) reply.NoneQueued None (with_register worked 0 0 None)

-- commands on the weak table
pub record EntriesDone : Type 0 where
  pub cfind : Comes (cmd.CFind 2 0) (reply.Object (id_of 2)) None (with_register worked 0 2 (Some (id_of 2)))
  pub none_found : Comes (cmd.CFind 0 1) reply.Absent None (with_register worked 0 0 None)
  pub cremove : Comes (cmd.CRemove 0) reply.Done None (with_weak worked (slot_of 130) None)
  pub none_removed : Comes (cmd.CRemove 1) reply.Absent None worked

-- commands on handles and the board
pub record HandlesDone : Type 0 where
  pub hget : Comes (cmd.HGet 2 0) (reply.Object (id_of 1)) None (with_register worked 0 2 (Some (id_of 1)))
  pub hset : Comes (cmd.HSet 0 1) reply.Done None
      (with_handle worked (slot_of 64) (handle_with kind.Strong (Some (id_of 2)) nothing))
  -- the secondary goes with the target
  pub hset_null : Comes (cmd.HSet 3 15) reply.Done None (with_handle worked (slot_of 129) dependent_null)
  pub hsec : Comes (cmd.HSec 3 0) reply.Done None
      (with_handle worked (slot_of 129)
      (handle_with kind.Dependent (Some (id_of 1)) (secondary (Some (id_of 1)))))
  pub hdep : Comes (cmd.HDep 2 3) (reply.Object (id_of 2)) None (with_register worked 0 2 (Some (id_of 2)))
  pub hvar : Comes (cmd.HVar 8 strength_of.Strong) reply.Done None
      (with_handle worked (slot_of 448) (variable_of strength_of.Strong))
  pub hfree : Comes (cmd.HFree 0) reply.Done (Some (slot_of 64))
      (with_handle_register (without_handle worked (slot_of 64)) 0 0 None)
  pub hput : Comes (cmd.HPut 3 0) reply.Done None (with_board worked 3 (Some (slot_of 64)))
  pub hpick : Comes (cmd.HPick 0 3) reply.Done None (with_handle_register worked 0 0 None)
  -- some address, which is then the pinned one
  pub addr : (e : Entry) (t : State) → Step narrow worked e t → e.caller ≡ 0 → e.cmd ≡ cmd.AddrOf 7
      → (p : ℕ) × ComesSo (reply.Place p) None (with_address worked (id_of 2) p) e t
  pub hup : Comes (cmd.HUp 4) (reply.Value 1) None (with_handle worked (slot_of 256) (counted_by 1))
  pub hdown : Comes (cmd.HDown 5) (reply.Value 1) None (with_handle worked (slot_of 257) (counted_by 1))

-- ---- what is refused

-- an object register is null, or the target of the handle is
pub record NullRefusals : Type 0 where
  pub set : Refuses (cmd.Set 15 0 0) refusal.Null
  pub get : Refuses (cmd.Get 2 15 0) refusal.Null
  pub val : Refuses (cmd.Val 15 7) refusal.Null
  pub read : Refuses (cmd.Read 15) refusal.Null
  pub gen : Refuses (cmd.Gen 15) refusal.Null
  pub suppress : Refuses (cmd.Suppress 15) refusal.Null
  pub reregister : Refuses (cmd.Reregister 15) refusal.Null
  pub gcroot : Refuses (cmd.GcRoot 15) refusal.Null
  pub cadd : Refuses (cmd.CAdd 15 0) refusal.Null
  pub cfind : Refuses (cmd.CFind 2 15) refusal.Null
  pub cremove : Refuses (cmd.CRemove 15) refusal.Null
  pub hsec : Refuses (cmd.HSec 2 0) refusal.Null
  pub addr : Refuses (cmd.AddrOf 6) refusal.Null

-- an object with one field has no field 1, nor any later one
pub record FieldRefusals : Type 0 where
  pub set : Refuses (cmd.Set 0 1 1) refusal.BadField
  pub get : Refuses (cmd.Get 2 0 1) refusal.BadField
  pub set_last : Refuses (cmd.Set 0 255 1) refusal.BadField

-- what a handle register without a handle refuses
pub record HandleRefusals (h : ℕ) (why : Refusal) : Type 0 where
  pub hget : Refuses (cmd.HGet 2 h) why
  pub hset : Refuses (cmd.HSet h 0) why
  pub hsec : Refuses (cmd.HSec h 0) why
  pub hdep : Refuses (cmd.HDep 2 h) why
  pub hvar : Refuses (cmd.HVar h strength_of.Strong) why
  pub hfree : Refuses (cmd.HFree h) why
  pub addr : Refuses (cmd.AddrOf h) why
  pub hup : Refuses (cmd.HUp h) why
  pub hdown : Refuses (cmd.HDown h) why

-- a strong handle is no dependent, variable, pinned or ref-counted one, and a dependent one gets no target
pub record KindRefusals : Type 0 where
  pub hset : Refuses (cmd.HSet 3 1) refusal.WrongKind
  pub hsec : Refuses (cmd.HSec 0 1) refusal.WrongKind
  pub hdep : Refuses (cmd.HDep 2 0) refusal.WrongKind
  pub hvar : Refuses (cmd.HVar 0 strength_of.Long) refusal.WrongKind
  pub addr : Refuses (cmd.AddrOf 0) refusal.WrongKind
  pub hup : Refuses (cmd.HUp 0) refusal.WrongKind
  pub hdown : Refuses (cmd.HDown 0) refusal.WrongKind

-- where two causes hold, the first is returned: another kind before a null target and a count that is not
-- there, a null register before a field that is not there, and a null or present key before a full table
pub record FirstCauses : Type 0 where
  pub hsec : Refuses (cmd.HSec 1 0) refusal.WrongKind
  pub addr : Refuses (cmd.AddrOf 1) refusal.WrongKind
  pub hdown : Refuses (cmd.HDown 1) refusal.WrongKind
  pub set : Refuses (cmd.Set 15 9 0) refusal.Null
  pub get : Refuses (cmd.Get 2 15 9) refusal.Null
  pub null_key : Refuses (cmd.CAdd 15 15) refusal.Null
  pub present_key : Refuses (cmd.CAdd 0 0) refusal.Present

-- a command that needs two blocks may find the table full, as one is unused, and where it is refused, so with
-- the eight that are in use
pub record FindsEightBlocks (c : Cmd) : Type 0 where
  pub may : Step narrow worked (record {
    caller = 0;
    cmd = c;
    slot = None;
    grown = Zero;
    reply = reply.Refused (refusal.TableFull 8);
  }) worked
  pub only : (e : Entry) (t : State) (why : Refusal) → Step narrow worked e t → e.caller ≡ 0 → e.cmd ≡ c
      → e.reply ≡ reply.Refused why → ComesSo (reply.Refused (refusal.TableFull 8)) None worked e t

-- all refusals of all commands, each once
pub record RefusalsAreThese : Type 0 where
  pub null : NullRefusals
  pub field : FieldRefusals
  pub empty : HandleRefusals 15 refusal.EmptyRegister
  pub not_live : HandleRefusals 9 refusal.NotLive
  pub wrong_kind : KindRefusals
  pub count_zero : Refuses (cmd.HDown 4) refusal.CountZero
  pub present : Refuses (cmd.CAdd 0 1) refusal.Present
  -- 7 cells are taken, 5 are asked for, and the limit is 11
  pub heap_full : Refuses (cmd.New 2 2 false) (refusal.HeapFull 7 5)
  pub first : FirstCauses
  pub hnew_full : FindsEightBlocks (cmd.HNew 10 (make.Dependent 1) 0)
  pub cadd_full : FindsEightBlocks (cmd.CAdd 1 0)

-- what is done, and what is refused
pub record WorkedCommands : Type 0 where
  pub objects : ObjectsDone
  pub entries : EntriesDone
  pub handles : HandlesDone
  pub refusals : RefusalsAreThese
