-- What commands do in the worked state.
use Rattle.hd_model.specs.{declared.data.Entry.Entry, declared.data.Grown.TheVariants.Zero, declared.data.Id.Id, declared.data.Kind.Kind, declared.data.Refusal.Refusal, declared.data.Reply.Reply, declared.data.Slot.Slot, declared.command.Cmd.Cmd}
use Rattle.hd_model.proofs.Basics.{Bool, FindsTableFull, Handle, IsOutcome, List, None, Object, Option, Outcome, Some, State, Step, TakesWay, WeakEntry, Way, [], ap, arith, blocks_needed, decided, empty, entries, entries-insert, extra_data, false, get, given_of, handle_at, handles_of, idle_slot, in_idle, in_new, inr, len-empty, len-entries, length, lit<, load_reply, map, nat_cmp, nat_cmp_total, new_object, option_map, option_map_or, put, refl, refuses, register_of, reply_address, reply_with, size_of, slot_of_key, subst, sum_by, sym, total_size, true, value_at, way_of, way_of_adding, with_address, with_register, with_weak, ℕ, ⊎_elim, ◌+◌, ◌<◌, ◌∙◌, ◌∷◌, ◌≡◌}
use Rattle.std.specs.{FinMap.from_entries, FinMap.get-from_entries, List.find}
use Rattle.hd_model.specs.Command.{has_key, is_idle, is_refused}
use Rattle.hd_laws.specs.CollectionSamples.{id_of, slot_of, object_with}
use Rattle.hd_laws.specs.CommandLaws.{narrow, worked, strong_one, strong_null, dependent_null, dependent_one, counted_by, pinned_null, pinned_two, variable_of, ComesSo, Comes, Refuses, ObjectsDone, EntriesDone, HandlesDone, NullRefusals, FieldRefusals, HandleRefusals, KindRefusals, FirstCauses, FindsEightBlocks, WorkedCommands}
use Rattle.hd_laws.proofs.CommandOutcomes.{addressed, entry_found, field_read, field_set, freed, generation_read, gone_address, gone_freeing, gone_lowering, gone_raising, gone_reading, gone_secondary, gone_setting, gone_strength, gone_target, lowered_by_one, new_is_made, new_is_refused, no_address, no_attaching, no_count, no_lowering, no_pin, no_raising, no_reading, no_secondary, no_strength, no_target, past_get, past_set, raised_by_one, registered_so, secondary_read, secondary_set, strength_set, target_read, target_set, value_read, value_set}
use Rattle.hd_model.specs.declared.data.Kind.TheVariants as kind
use Rattle.hd_model.specs.declared.data.Make.TheVariants as make
use Rattle.hd_model.specs.declared.data.Strength.TheVariants as strength_of
use Rattle.hd_model.specs.declared.data.Refusal.TheVariants as refusal
use Rattle.hd_model.specs.declared.data.Reply.TheVariants as reply
use Rattle.hd_model.specs.declared.command.Cmd.TheVariants as cmd

-- ---- what maps of the worked state have

-- the entries of a map that is made from a list
abbrev put_all : {X : Type 0} → List (ℕ × X) → List (ℕ × X)
put_all [] = []
put_all (e ∷ es) = put nat_cmp e.0 e.1 (put_all es)

no_length : {X : Type 0} (es : List (ℕ × X)) → length es ≡ 0 → es ≡ []
no_length [] none = refl
no_length (e ∷ es) none = absurd (omega arith)

none_at_first : {X : Type 0} → entries (empty {X = X} {R = nat_cmp}) ≡ []
none_at_first {X} =
    no_length (entries (empty {X = X} {R = nat_cmp})) (sym (len-entries (empty {X = X} {R = nat_cmp}))
    ∙ len-empty nat_cmp X)

all_entries : {X : Type 0} (es : List (ℕ × X)) → entries (from_entries {R = nat_cmp} es) ≡ put_all es
all_entries [] = none_at_first
all_entries (e ∷ es) =
    entries-insert nat_cmp_total (from_entries es) e.0 e.1 ∙ ap (put nat_cmp e.0 e.1) (all_entries es)

abbrev object_one : Object Id
object_one = object_with (None ∷ []) 0 false

abbrev object_two : Object Id
object_two = object_with [] 0 false

abbrev objects : List (ℕ × Object Id)
objects = (2, object_two) ∷ (1, object_one) ∷ []

abbrev pub handles : List (ℕ × Handle Id)
handles =
    (448, variable_of strength_of.Short) ∷ (385, pinned_two) ∷ (384, pinned_null) ∷ (257, counted_by 2)
    ∷ (256, counted_by 0) ∷ (129, dependent_one) ∷ (128, dependent_null) ∷ (65, strong_null)
    ∷ (64, strong_one) ∷ []

pub one_there : get worked.objects 1 ≡ Some object_one
one_there = get-from_entries nat_cmp_total objects 1

pub two_there : get worked.objects 2 ≡ Some object_two
two_there = get-from_entries nat_cmp_total objects 2

slot_64 : handle_at worked (slot_of 64) ≡ Some strong_one
slot_64 = get-from_entries nat_cmp_total handles 64

slot_65 : handle_at worked (slot_of 65) ≡ Some strong_null
slot_65 = get-from_entries nat_cmp_total handles 65

slot_66 : handle_at worked (slot_of 66) ≡ None
slot_66 = get-from_entries nat_cmp_total handles 66

slot_128 : handle_at worked (slot_of 128) ≡ Some dependent_null
slot_128 = get-from_entries nat_cmp_total handles 128

slot_129 : handle_at worked (slot_of 129) ≡ Some dependent_one
slot_129 = get-from_entries nat_cmp_total handles 129

slot_256 : handle_at worked (slot_of 256) ≡ Some (counted_by 0)
slot_256 = get-from_entries nat_cmp_total handles 256

slot_257 : handle_at worked (slot_of 257) ≡ Some (counted_by 2)
slot_257 = get-from_entries nat_cmp_total handles 257

slot_384 : handle_at worked (slot_of 384) ≡ Some pinned_null
slot_384 = get-from_entries nat_cmp_total handles 384

pub slot_385 : handle_at worked (slot_of 385) ≡ Some pinned_two
slot_385 = get-from_entries nat_cmp_total handles 385

slot_448 : handle_at worked (slot_of 448) ≡ Some (variable_of strength_of.Short)
slot_448 = get-from_entries nat_cmp_total handles 448

cells : total_size worked ≡ 7
cells = ap (λ (es : List (ℕ × Object Id)). sum_by size_of (map (λ e. e.1) es)) (all_entries objects)

abbrev pub attached : List (ℕ × Option (WeakEntry Id))
attached = (130, Some (record { key = id_of 1; value = Some (id_of 2) })) ∷ []

entry_there : get worked.weak 130 ≡ Some (Some (record { key = id_of 1; value = Some (id_of 2) }))
entry_there = get-from_entries nat_cmp_total attached 130

key_one : slot_of_key worked (id_of 1) ≡ Some (slot_of 130)
key_one = ap (λ (es : List (ℕ × Option (WeakEntry Id))). option_map (λ p. slot_of p.0)
    (find (λ p. has_key (id_of 1) p.1) es)) (all_entries attached)

key_two : slot_of_key worked (id_of 2) ≡ None
key_two = ap (λ (es : List (ℕ × Option (WeakEntry Id))). option_map (λ p. slot_of p.0)
    (find (λ p. has_key (id_of 2) p.1) es)) (all_entries attached)

none_idle : idle_slot worked ≡ None
none_idle = ap (λ (es : List (ℕ × Option (WeakEntry Id))). option_map (λ p. slot_of p.0)
    (find (λ p. is_idle p.1) es)) (all_entries attached)

eight_in_use : given_of worked ≡ 8
eight_in_use = len-entries worked.blocks ∙ ap length (all_entries (
    (8, extra_data) ∷ (7, handles_of kind.Variable) ∷ (6, handles_of kind.Pinned) ∷ (5, extra_data)
    ∷ (4, handles_of kind.Counted) ∷ (3, extra_data) ∷ (2, handles_of kind.Dependent)
    ∷ (1, handles_of kind.Strong) ∷ []))

-- ---- commands

way_is : (e : Entry) → e.caller ≡ 0 → (c : Cmd) → e.cmd ≡ c → way_of worked e.caller e.cmd ≡ way_of worked 0 c
way_is e first c is = λ i. way_of worked (first i) (is i)

-- what a step does, where its command is known
does : (e : Entry) (t : State) → Step narrow worked e t → e.caller ≡ 0 → (c : Cmd) → e.cmd ≡ c → (way : Way)
    → way_of worked 0 c ≡ way → TakesWay narrow worked e t way
does e t step first c is way goes =
    subst (TakesWay narrow worked e t) (way_is e first c is ∙ goes) step.does

comes_by : (e : Entry) (t : State) (o wanted : Outcome) → o ≡ wanted → IsOutcome e o t
    → ComesSo wanted.reply wanted.slot wanted.after e t
comes_by e t o wanted is comes = record {
  reply_is = comes.reply ∙ ap (λ (x : Outcome). x.reply) is;
  slot_is = comes.slot ∙ ap (λ (x : Outcome). x.slot) is;
  grown = comes.grown;
  after_is = comes.after ∙ ap (λ (x : Outcome). x.after) is;
}

-- a command that the state decides
done : {reply : Reply} {slot : Option Slot} {after : State} (c : Cmd)
    → way_of worked 0 c ≡ decided (record { reply = reply; slot = slot; after = after })
    → Comes c reply slot after
done {reply} {slot} {after} c goes e t step first is =
    let o : Outcome = record { reply = reply; slot = slot; after = after } in
    comes_by e t o o refl (does e t step first c is (decided o) goes)

-- `addr`, whatever address it may return
addresses : (h : ℕ) (o : ℕ → Outcome) → ((p : ℕ) → reply_address worked 0 h p ≡ o p) → (e : Entry) (t : State)
    → Step narrow worked e t → e.caller ≡ 0 → e.cmd ≡ cmd.AddrOf h
    → (p : ℕ) × ComesSo (o p).reply (o p).slot (o p).after e t
addresses h o all e t step first is =
    let replies = does e t step first (cmd.AddrOf h) is (way_of worked 0 (cmd.AddrOf h)) refl in (
      replies.address,
      comes_by e t (reply_address worked e.caller h replies.address) (o replies.address)
          (ap (λ c. reply_address worked c h replies.address) first ∙ all replies.address) replies.outcome,
    )

refused_address : (h : ℕ) (why : Refusal) → ((p : ℕ) → reply_address worked 0 h p ≡ refuses why worked)
    → Refuses (cmd.AddrOf h) why
refused_address h why all e t step first is =
    (addresses h (λ _. refuses why worked) all e t step first is).1

refused_search : Refuses (cmd.GcRoot 15) refusal.Null
refused_search e t step first is =
    let replies = does e t step first (cmd.GcRoot 15) is (way_of worked 0 (cmd.GcRoot 15)) refl in
    let null : register_of worked e.caller 15 ≡ None = ap (λ c. register_of worked c 15) first in
    comes_by e t _ (refuses refusal.Null worked)
    (ap (λ o. option_map_or (λ _. reply_with replies.found worked) o (refuses refusal.Null worked)) null)
    replies.outcome

-- `new`
makes : {reply : Reply} {slot : Option Slot} {after : State} (d fields : ℕ) (fin : Bool)
    → new_object narrow worked 0 d fields fin ≡ record { reply = reply; slot = slot; after = after }
    → Comes (cmd.New d fields fin) reply slot after
makes {reply} {slot} {after} d fields fin so e t step first is =
    let o : Outcome = record { reply = reply; slot = slot; after = after } in
    let made = does e t step first (cmd.New d fields fin) is (way_of worked 0 (cmd.New d fields fin)) refl in
    comes_by e t (new_object narrow worked e.caller d fields fin) o
    (ap (λ c. new_object narrow worked c d fields fin) first ∙ so) made.1

-- `cadd` of a key that is present, and of one that is not
way_one : (v : ℕ) → way_of worked 0 (cmd.CAdd 0 v) ≡ decided (refuses refusal.Present worked)
way_one v = ap (λ o. way_of_adding worked 0 v (option_map_or (λ _. is_refused refusal.Present) o
    (option_map_or (λ slot. in_idle slot (id_of 1)) (idle_slot worked) (in_new (id_of 1))))) key_one

pub way_two : way_of worked 0 (cmd.CAdd 1 0) ≡ way_of_adding worked 0 0 (in_new (id_of 2))
way_two =
    ap (λ o. way_of_adding worked 0 0 (option_map_or (λ _. is_refused refusal.Present) o
    (option_map_or (λ slot. in_idle slot (id_of 2)) (idle_slot worked) (in_new (id_of 2))))) key_two
    ∙ ap (λ o. way_of_adding worked 0 0 (option_map_or (λ slot. in_idle slot (id_of 2)) o
    (in_new (id_of 2)))) none_idle

-- a full table
not_done : {r : Reply} {why : Refusal} → r ≡ reply.Done → r ≡ reply.Refused why → ⊥
not_done a b = cc

abbrev finds_full : Cmd → Entry
finds_full c = record {
  caller = 0;
  cmd = c;
  slot = None;
  grown = Zero;
  reply = reply.Refused (refusal.TableFull 8);
}

full_again : (k : Kind) (c : Cmd) → 9 < 8 + blocks_needed k
    → FindsTableFull narrow worked (finds_full c) worked k
full_again k c few = record {
  few = subst (λ g. 9 < g + blocks_needed k) (sym eight_in_use) few;
  refused = record {
    reply = ap (λ g. reply.Refused (refusal.TableFull g)) (sym eight_in_use);
    slot = refl;
    grown = refl;
    after = refl;
  };
}

found_full : (k : Kind) (e : Entry) (t : State) → FindsTableFull narrow worked e t k
    → ComesSo (reply.Refused (refusal.TableFull 8)) None worked e t
found_full k e t found =
    comes_by e t (refuses (refusal.TableFull (given_of worked)) worked) (refuses (refusal.TableFull 8) worked)
    (ap (λ g. refuses (refusal.TableFull g) worked) eight_in_use) found.refused

abbrev hnew : Cmd
hnew = cmd.HNew 10 (make.Dependent 1) 0

hnew_full : FindsEightBlocks hnew
hnew_full = record {
  may = record {
    caller = lit< tt;
    valid = (lit< tt, lit< tt, lit< tt);
    does = inr (full_again kind.Dependent hnew (lit< tt));
  };
  only = λ e t why step first is refused.
      ⊎_elim (λ made. absurd (not_done made.reply refused)) (λ found. found_full kind.Dependent e t found)
      (does e t step first hnew is (way_of worked 0 hnew) refl);
}

cadd_full : FindsEightBlocks (cmd.CAdd 1 0)
cadd_full = record {
  may = record {
    caller = lit< tt;
    valid = (lit< tt, lit< tt);
    does = subst (TakesWay narrow worked (finds_full (cmd.CAdd 1 0)) worked) (sym way_two)
        (inr (full_again kind.Dependent (cmd.CAdd 1 0) (lit< tt)));
  };
  only = λ e t why step first is refused.
      ⊎_elim (λ added. absurd (not_done added.reply refused)) (λ found. found_full kind.Dependent e t found)
      (does e t step first (cmd.CAdd 1 0) is (way_of_adding worked 0 0 (in_new (id_of 2))) way_two);
}

-- ---- what is done

objects_done : ObjectsDone
objects_done = record {
  new = makes 2 1 true (new_is_made narrow worked 2 1 true 7 cells refl);
  set = done (cmd.Set 0 0 1) (ap decided (field_set worked 0 (id_of 1) object_one refl one_there 0 1 refl));
  get = done (cmd.Get 1 0 0) (ap decided (field_read worked 0 (id_of 1) object_one refl one_there 1 0 refl));
  val = done (cmd.Val 1 7) (ap decided (value_set worked 1 (id_of 2) object_two refl two_there 7));
  read = done (cmd.Read 0) (ap decided (value_read worked 0 (id_of 1) object_one refl one_there));
  copy = done (cmd.Copy 2 0) refl;
  clear = done (cmd.Clear 0) refl;
  sput = done (cmd.SPut 3 0) refl;
  sget = done (cmd.SGet 0 3) refl;
  gen = done (cmd.Gen 0) (ap decided (generation_read worked 0 (id_of 1) object_one refl one_there));
  suppress = done (cmd.Suppress 1)
      (ap decided (registered_so worked 1 (id_of 2) object_two refl two_there false));
  reregister = done (cmd.Reregister 1)
      (ap decided (registered_so worked 1 (id_of 2) object_two refl two_there true));
  final = done (cmd.Final 0) refl;
}

entries_done : EntriesDone
entries_done = record {
  cfind = done (cmd.CFind 2 0) (ap decided (entry_found worked 2 0 (id_of 1) (slot_of 130)
      (Some (record { key = id_of 1; value = Some (id_of 2) })) refl key_one entry_there));
  none_found = done (cmd.CFind 0 1) (ap (λ o. decided (option_map_or
      (λ slot. reply_with (load_reply (value_at worked slot))
      (with_register worked 0 0 (value_at worked slot))) o
      (reply_with reply.Absent (with_register worked 0 0 None)))) key_two);
  cremove = done (cmd.CRemove 0)
      (ap (λ o. decided (option_map_or (λ slot. reply_with reply.Done (with_weak worked slot None)) o
      (reply_with reply.Absent worked))) key_one);
  none_removed = done (cmd.CRemove 1)
      (ap (λ o. decided (option_map_or (λ slot. reply_with reply.Done (with_weak worked slot None)) o
      (reply_with reply.Absent worked))) key_two);
}

handles_done : HandlesDone
handles_done = record {
  hget = done (cmd.HGet 2 0) (ap decided (target_read worked 0 (slot_of 64) refl strong_one slot_64 2));
  hset = done (cmd.HSet 0 1) (ap decided (target_set worked 0 (slot_of 64) refl strong_one slot_64 1 refl));
  hset_null = done (cmd.HSet 3 15)
      (ap decided (target_set worked 3 (slot_of 129) refl dependent_one slot_129 15 refl));
  hsec = done (cmd.HSec 3 0)
      (ap decided (secondary_set worked 3 (slot_of 129) refl dependent_one slot_129 0 (id_of 1) refl refl));
  hdep = done (cmd.HDep 2 3)
      (ap decided (secondary_read worked 3 (slot_of 129) refl dependent_one slot_129 2 refl));
  hvar = done (cmd.HVar 8 strength_of.Strong) (ap decided (strength_set worked 8 (slot_of 448) refl
      (variable_of strength_of.Short) slot_448 strength_of.Strong refl));
  hfree = done (cmd.HFree 0) (ap decided (freed worked 0 (slot_of 64) refl strong_one slot_64));
  hput = done (cmd.HPut 3 0) refl;
  hpick = done (cmd.HPick 0 3) refl;
  addr = addresses 7 (λ p. reply_with (reply.Place p) (with_address worked (id_of 2) p))
      (λ p. addressed worked 7 (slot_of 385) refl pinned_two slot_385 p (id_of 2) refl refl);
  hup = done (cmd.HUp 4)
      (ap decided (raised_by_one worked 4 (slot_of 256) refl (counted_by 0) slot_256 refl));
  hdown = done (cmd.HDown 5)
      (ap decided (lowered_by_one worked 5 (slot_of 257) refl (counted_by 2) slot_257 refl refl));
}

-- ---- what is refused

null_refused : NullRefusals
null_refused = record {
  set = done (cmd.Set 15 0 0) refl;
  get = done (cmd.Get 2 15 0) refl;
  val = done (cmd.Val 15 7) refl;
  read = done (cmd.Read 15) refl;
  gen = done (cmd.Gen 15) refl;
  suppress = done (cmd.Suppress 15) refl;
  reregister = done (cmd.Reregister 15) refl;
  gcroot = refused_search;
  cadd = done (cmd.CAdd 15 0) refl;
  cfind = done (cmd.CFind 2 15) refl;
  cremove = done (cmd.CRemove 15) refl;
  hsec = done (cmd.HSec 2 0)
      (ap decided (no_attaching worked 2 (slot_of 128) refl dependent_null slot_128 0 refl refl));
  addr = refused_address 6 refusal.Null
      (λ p. no_address worked 6 (slot_of 384) refl pinned_null slot_384 p refl refl);
}

field_refused : FieldRefusals
field_refused = record {
  set = done (cmd.Set 0 1 1)
      (ap decided (past_set worked 0 (id_of 1) object_one refl one_there 1 1 refl));
  get = done (cmd.Get 2 0 1)
      (ap decided (past_get worked 0 (id_of 1) object_one refl one_there 2 1 refl));
  set_last = done (cmd.Set 0 255 1)
      (ap decided (past_set worked 0 (id_of 1) object_one refl one_there 255 1 refl));
}

empty_refused : HandleRefusals 15 refusal.EmptyRegister
empty_refused = record {
  hget = done (cmd.HGet 2 15) refl;
  hset = done (cmd.HSet 15 0) refl;
  hsec = done (cmd.HSec 15 0) refl;
  hdep = done (cmd.HDep 2 15) refl;
  hvar = done (cmd.HVar 15 strength_of.Strong) refl;
  hfree = done (cmd.HFree 15) refl;
  addr = refused_address 15 refusal.EmptyRegister (λ p. refl);
  hup = done (cmd.HUp 15) refl;
  hdown = done (cmd.HDown 15) refl;
}

gone_refused : HandleRefusals 9 refusal.NotLive
gone_refused = record {
  hget = done (cmd.HGet 2 9) (ap decided (gone_target worked 9 (slot_of 66) refl slot_66 2));
  hset = done (cmd.HSet 9 0)
      (ap decided (gone_setting worked 9 (slot_of 66) refl slot_66 0));
  hsec = done (cmd.HSec 9 0)
      (ap decided (gone_secondary worked 9 (slot_of 66) refl slot_66 0));
  hdep = done (cmd.HDep 2 9)
      (ap decided (gone_reading worked 9 (slot_of 66) refl slot_66 2));
  hvar = done (cmd.HVar 9 strength_of.Strong)
      (ap decided (gone_strength worked 9 (slot_of 66) refl slot_66 strength_of.Strong));
  hfree = done (cmd.HFree 9) (ap decided (gone_freeing worked 9 (slot_of 66) refl slot_66));
  addr = refused_address 9 refusal.NotLive (gone_address worked 9 (slot_of 66) refl slot_66);
  hup = done (cmd.HUp 9) (ap decided (gone_raising worked 9 (slot_of 66) refl slot_66));
  hdown = done (cmd.HDown 9) (ap decided (gone_lowering worked 9 (slot_of 66) refl slot_66));
}

kind_refused : KindRefusals
kind_refused = record {
  hset = done (cmd.HSet 3 1)
      (ap decided (no_target worked 3 (slot_of 129) refl dependent_one slot_129 1 refl));
  hsec = done (cmd.HSec 0 1)
      (ap decided (no_secondary worked 0 (slot_of 64) refl strong_one slot_64 1 refl));
  hdep = done (cmd.HDep 2 0)
      (ap decided (no_reading worked 0 (slot_of 64) refl strong_one slot_64 2 refl));
  hvar = done (cmd.HVar 0 strength_of.Long)
      (ap decided (no_strength worked 0 (slot_of 64) refl strong_one slot_64 strength_of.Long refl));
  addr = refused_address 0 refusal.WrongKind
      (λ p. no_pin worked 0 (slot_of 64) refl strong_one slot_64 p refl);
  hup = done (cmd.HUp 0)
      (ap decided (no_raising worked 0 (slot_of 64) refl strong_one slot_64 refl));
  hdown = done (cmd.HDown 0)
      (ap decided (no_lowering worked 0 (slot_of 64) refl strong_one slot_64 refl));
}

first_causes : FirstCauses
first_causes = record {
  hsec = done (cmd.HSec 1 0)
      (ap decided (no_secondary worked 1 (slot_of 65) refl strong_null slot_65 0 refl));
  addr = refused_address 1 refusal.WrongKind
      (λ p. no_pin worked 1 (slot_of 65) refl strong_null slot_65 p refl);
  hdown = done (cmd.HDown 1)
      (ap decided (no_lowering worked 1 (slot_of 65) refl strong_null slot_65 refl));
  set = done (cmd.Set 15 9 0) refl;
  get = done (cmd.Get 2 15 9) refl;
  null_key = done (cmd.CAdd 15 15) refl;
  present_key = done (cmd.CAdd 0 0) (way_one 0);
}

pub commands_come_so : WorkedCommands
commands_come_so = record {
  objects = objects_done;
  entries = entries_done;
  handles = handles_done;
  refusals = record {
    null = null_refused;
    field = field_refused;
    empty = empty_refused;
    not_live = gone_refused;
    wrong_kind = kind_refused;
    count_zero = done (cmd.HDown 4)
        (ap decided (no_count worked 4 (slot_of 256) refl (counted_by 0) slot_256 refl refl));
    present = done (cmd.CAdd 0 1) (way_one 1);
    heap_full = makes 2 2 false
        (new_is_refused narrow worked 2 2 false 7 cells refl);
    first = first_causes;
    hnew_full = hnew_full;
    cadd_full = cadd_full;
  };
}
