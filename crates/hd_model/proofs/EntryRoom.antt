-- The slot that a `cadd` gets, and where the table has none left.
use Rattle.hd_model.proofs.Basics.{Way, way_of, decided, makes_object, makes_handle, collects, replies_address, gives_back, adds_entry, subst, Adding, AddsEntry, Bool, Cmd, Entry, FindsTableFull, GivesBack, Id, IsOutcome, None, Numbers, Outcome, Refusal, Reply, Slot, Some, State, StepOf, TakesWay, adding_key, ap, adding_of, false, false≢true, get, given_of, idle_slot, in_idle, in_new, is_idle, kind_of, nat_lt, new_object, pins, refl, register_of, slot_of_key, sym, total_size, true, way_of_adding, ℕ, ⊎_elim, ◌+◌, ◌∙◌, ◌≡◌}
use Rattle.hd_model.proofs.DecidedOutcomes.{DecidedHas, IsDecided, decided_has}
use Rattle.hd_model.proofs.OneState.{CommandOf, way_command}
use Rattle.hd_model.specs.Command.{is_refused, reply_address, reply_root}
use Rattle.hd_model.specs.Step.{MakesHandle, replies_root}
use Rattle.hd_model.specs.Anchors.{ReturnsRoot}
use Rattle.hd_model.specs.WeakEntryLaws.{TakesIdleSlot, IdleSlotsAreTakenFirst, LacksBlocks, for_handle, for_entry, FullTablesLackBlocks}
use Rattle.hd_model.proofs.{ReadAfterWrite.get_inserted, StateReadBack.step_of}
use Rattle.hd_model.proofs.WeakSlots.{where_least, where_none, idle_found}
use Rattle.hd_model.proofs.Outcomes.{option_cases, test_cases, on_object_cases, on_handle_cases}
use Rattle.hd_model.specs.declared.data.Kind.TheVariants as kind
use Rattle.hd_model.specs.declared.data.Refusal.TheVariants as refusal
use Rattle.hd_model.specs.declared.data.Reply.TheVariants as reply
use Rattle.hd_model.specs.declared.command.Cmd.TheVariants as cmd

module _ (n : Numbers) (s t : State) (e : Entry) (k v idle : ℕ) (done : e.reply ≡ reply.Done)
    (there : get s.weak idle ≡ Some None) where
  abbrev Takes : Type 0
  Takes = TakesIdleSlot s t e k v

  abbrev By : Adding → Type 0
  By a = TakesWay n s e t (way_of_adding s e.caller v a) → Takes

  refuses_none : (r : Refusal) → By (is_refused r)
  refuses_none r o = absurd (let other = sym o.reply ∙ done in cc)

  -- the search finds the least
  takes_found : (key : Id) → register_of s e.caller k ≡ Some key → (slot : Slot) → idle_slot s ≡ Some slot
      → By (in_idle slot key)
  takes_found key named slot is o = record {
    slot = slot;
    least = record {
      idle = idle_found s slot is;
      least = λ other free. where_least is_idle s slot is other None free refl;
    };
    given = o.slot;
    grown = o.grown;
    key = key;
    named = named;
    entry = ap (λ (x : State). get x.weak slot.0) o.after ∙ get_inserted s.weak slot.0 _;
  }

  takes_idle : By (adding_of s e.caller k)
  takes_idle =
      option_cases By (adding_key s) (register_of s e.caller k) _ (λ _. refuses_none _)
      (λ key named. option_cases By (λ _. is_refused refusal.Present) (slot_of_key s key) _
      (λ _. option_cases By (λ slot. in_idle slot key) (idle_slot s) (in_new key)
      (λ none _. absurd (where_none is_idle s none idle None there refl)) (takes_found key named))
      (λ _ _. refuses_none _))

pub idle_slots_are_taken_first : IdleSlotsAreTakenFirst
idle_slots_are_taken_first n s t e k v idle step is done there =
    takes_idle n s t e k v idle done there (step_of n s e t (cmd.CAdd k v) step is)

-- whether a reply is that the table is full
abbrev is_full : Reply → Bool
is_full (reply.Refused (refusal.TableFull given)) = true
is_full r = false

not_full : (r : Reply) → IsDecided r → is_full r ≡ false
not_full (reply.Place p) h = refl
not_full (reply.Refused (refusal.TableFull given)) h = absurd h
not_full (reply.Refused r) h = refl
not_full r h = refl

root_not_full : (s : State) (goal : Id) (r : Reply) → ReturnsRoot s goal r → is_full r ≡ false
root_not_full s goal r h = ⊎_elim (λ c. ap is_full c.reply_is) (λ none. ap is_full none.1) h

abbrev Lives : Outcome → Type 0
Lives o = is_full o.reply ≡ false

module _ (n : Numbers) (s t : State) (e : Entry) (given : ℕ)
    (full : e.reply ≡ reply.Refused (refusal.TableFull given)) where
  abbrev Lacks : Cmd → Type 0
  Lacks c = (given ≡ given_of s) × LacksBlocks n s c

  never : (c : Cmd) (r : Reply) → is_full r ≡ false → e.reply ≡ r → Lacks c
  never c r differs is = absurd (false≢true (sym differs ∙ ap is_full (sym is ∙ full)))

  never_by : (c : Cmd) (o : Outcome) → Lives o → IsOutcome e o t → Lacks c
  never_by c o differs is = never c o.reply differs is.reply

  number_is : (x : ℕ) → e.reply ≡ reply.Refused (refusal.TableFull x) → given ≡ x
  number_is x is = let same = sym full ∙ is in cc

  abbrev Adds : ℕ → ℕ → Adding → Type 0
  Adds k v a = TakesWay n s e t (way_of_adding s e.caller v a) → Lacks (cmd.CAdd k v)

  adds_lacks : (k v : ℕ) → Adds k v (adding_of s e.caller k)
  adds_lacks k v =
      option_cases (Adds k v) (adding_key s) (register_of s e.caller k) _ (λ _. never_by _ _ refl)
      (λ key _. option_cases (Adds k v) (λ _. is_refused refusal.Present) (slot_of_key s key) _
      (λ _. option_cases (Adds k v) (λ slot. in_idle slot key) (idle_slot s) (in_new key)
      (λ none. ⊎_elim (λ (a : AddsEntry n s e t v key). never _ _ refl a.reply)
      (λ (f : FindsTableFull n s e t kind.Dependent). (
        number_is _ f.refused.reply,
        for_entry k v f.few (λ slot free. where_none is_idle s none slot None free refl),
      )))
      (λ slot _. never_by _ _ refl))
      (λ _ _. never_by _ _ refl))

  new_lives : (c d fields : ℕ) (fin : Bool) → Lives (new_object n s c d fields fin)
  new_lives c d fields fin =
      test_cases Lives (nat_lt n.heap (total_size s + (fields + 3))) _ _ (λ _. refl) (λ _. refl)

  address_lives : (c h p : ℕ) → Lives (reply_address s c h p)
  address_lives c h p =
      on_handle_cases Lives s c h _ (λ _. refl) (λ _ _ _. refl)
      (λ slot handle _ _. test_cases Lives (pins handle) _ _
      (λ _. option_cases Lives _ handle.target _ (λ _. refl) (λ _ _. refl)) (λ _. refl))

  lacks : (c : Cmd) (w : Way) → way_of s e.caller c ≡ w → CommandOf c w → DecidedHas Lives w
      → TakesWay n s e t w → Lacks c
  lacks c (decided o) is of lives h = never_by c o lives h
  lacks c (makes_object d fields fin) is of lives h = never_by c _ (new_lives e.caller d fields fin) h.1
  lacks c (makes_handle d make r) is of lives h =
      ⊎_elim (λ (m : MakesHandle n s e t d make r). never c _ refl m.reply)
      (λ (f : FindsTableFull n s e t (kind_of make)). subst Lacks (sym of) (
        number_is _ f.refused.reply,
        for_handle d r make f.few,
      )) h
  lacks c (collects k) is of lives h = never c _ refl h.reply
  lacks c (replies_address r) is of lives h = never_by c _ (address_lives e.caller r h.address) h.outcome
  lacks c (gives_back k) is of lives h =
      ⊎_elim (λ (g : GivesBack s e t k). never c _ refl g.reply) (never_by c _ refl) h
  lacks c (adds_entry v key) is of lives h =
      subst Lacks (sym of.1) (adds_lacks of.0 v (subst (StepOf n s e t) of.1
      (subst (TakesWay n s e t) (sym is) h)))
  lacks c (replies_root r) is of lives h =
      never_by c (reply_root s e.caller r h.found)
      (on_object_cases Lives s e.caller r _ (λ _. refl)
      (λ goal named. root_not_full s goal h.found (h.is_root goal named))) h.outcome

pub full_tables_lack_blocks : FullTablesLackBlocks
full_tables_lack_blocks n s t e given step full =
    lacks n s t e given full e.cmd (way_of s e.caller e.cmd) refl (way_command s e.caller e.cmd)
    (decided_has Lives s e.caller (λ r u h. not_full r h) (λ slot x live u. refl) (λ v slot key is. refl)
    e.cmd)
    step.does
