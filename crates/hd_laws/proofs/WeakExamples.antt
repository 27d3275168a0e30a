-- A run that attaches a value to a key, and a state that has an entry: the premises of the laws of the weak
-- table are met.
use Rattle.hd_model.specs.{declared.data.Entry.Entry, declared.data.Id.Id, declared.data.Slot.Slot, declared.data.Grown.TheVariants.Two, declared.data.Grown.TheVariants.Zero}
use Rattle.hd_model.proofs.Basics.{None, Option, Run, Some, State, Step, TakesWay, WeakEntry, [], adds_entry, ap, arith, cases_eq, decided, first_slot, get, get-empty, idle_slot, in_idle, in_new, inl, is_idle, link, lit<, nat_cmp, none-some, option_map_or, refl, same_Some, slot_of_key, stay, subst, sym, way_of, way_of_adding, with_entry, with_growth, with_weak, ℕ, ⊎_elim, ◌∙◌, ◌∷◌, ◌≡◌}
use Rattle.hd_laws.proofs.Basics.{attached}
use Rattle.hd_model.specs.Command.{is_refused, add_entry}
use Rattle.hd_model.proofs.{MapEntries.none_from, MapEntries.some_value, WeakSlots.key_found, WeakSlots.idle_found, WeakSlots.where_none, ReadAfterWrite.get_inserted, ReadAfterWrite.get_beside, StepWrites.same_slot}
use Rattle.hd_laws.proofs.RunExamples.{numbers, first, e1, s1, step1}
use Rattle.hd_model.specs.declared.data.Kind.TheVariants as kind
use Rattle.hd_model.specs.declared.data.Refusal.TheVariants as refusal
use Rattle.hd_model.specs.declared.data.Reply.TheVariants as reply
use Rattle.hd_model.specs.declared.command.Cmd.TheVariants as cmd

-- `cadd r0 r0` after `new r0 1 fin`: the table grows by blocks 1 and 2, and the entry is in row 0 of block 1
abbrev e_add : Entry
e_add = record {
  caller = 0;
  cmd = cmd.CAdd 0 0;
  slot = Some (first_slot 1);
  grown = Two 1 2;
  reply = reply.Done;
}

abbrev s_add : State
s_add = with_entry (with_growth s1 kind.Dependent (Two 1 2)) s1 0 0 (first_slot 1) first

none_weak : (q : ℕ) (c : Option (WeakEntry Id)) → get s1.weak q ≡ Some c → ⊥
none_weak q c e = none-some c (sym (get-empty nat_cmp q) ∙ e)

no_key : slot_of_key s1 first ≡ None
no_key = none_from (slot_of_key s1 first) (λ h.
    let (slot, is) = some_value (slot_of_key s1 first) h in
    let found = key_found s1 first slot is in none_weak slot.0 (Some found.entry) found.held)

none_idle : idle_slot s1 ≡ None
none_idle = none_from (idle_slot s1) (λ h.
    let (slot, is) = some_value (idle_slot s1) h in none_weak slot.0 None (idle_found s1 slot is))

way_is : way_of s1 0 (cmd.CAdd 0 0) ≡ adds_entry 0 first
way_is =
    ap (λ o. way_of_adding s1 0 0 (option_map_or (λ _. is_refused refusal.Present) o
    (option_map_or (λ slot. in_idle slot first) (idle_slot s1) (in_new first)))) no_key
    ∙ ap (λ o. way_of_adding s1 0 0 (option_map_or (λ slot. in_idle slot first) o (in_new first))) none_idle

pub step_add : Step numbers s1 e_add s_add
step_add = record {
  caller = lit< tt;
  valid = (lit< tt, lit< tt);
  does = subst (TakesWay numbers s1 e_add s_add) (sym way_is) (inl (record {
    slot = first_slot 1;
    given = refl;
    may = (
      refl,
      record {
        low = omega arith;
        high = omega arith;
        unused = get-empty nat_cmp 1;
        least = λ other low high. absurd (omega arith);
      },
      record {
        low = omega arith;
        high = omega arith;
        unused = get-empty nat_cmp 2;
        least = λ other low high. absurd (omega arith);
      },
      refl,
    );
    reply = refl;
    after = refl;
  }));
}

pub run_add : Run numbers (e1 ∷ e_add ∷ []) s_add
run_add = link step1 (link step_add stay)

-- it attaches the object to itself, and nothing to another identity
pub attaches_itself : attached first run_add None ≡ Some (Some first)
unfolding run_add
attaches_itself = refl

pub attaches_no_other : attached (record { 0 = 2 }) run_add None ≡ None
unfolding run_add
attaches_no_other = refl

-- with the entry taken out its slot is idle, and a `cadd` gets it and grows nothing
abbrev s_idle : State
s_idle = with_weak s_add (first_slot 1) None

abbrev e_again : Entry
e_again = record e_add { grown = Zero }

idle_there : get s_idle.weak 64 ≡ Some None
idle_there = get_inserted s_add.weak 64 None

only_slot : (q : ℕ) (c : Option (WeakEntry Id)) → get s_idle.weak q ≡ Some c → (q ≡ 64) × (c ≡ None)
only_slot q c e =
    ⊎_elim
    (λ same. (same, sym (same_Some None c (sym idle_there ∙ ap (get s_idle.weak) (sym same) ∙ e))))
    (λ apart. absurd (none_weak q c
    (sym (get_beside s1.weak 64 (Some (record { key = first; value = Some first })) q apart)
    ∙ sym (get_beside s_add.weak 64 None q apart) ∙ e)))
    (cases_eq q 64)

no_key_idle : slot_of_key s_idle first ≡ None
no_key_idle = none_from (slot_of_key s_idle first) (λ h.
    let (slot, is) = some_value (slot_of_key s_idle first) h in
    let found = key_found s_idle first slot is in
    none-some found.entry (sym (only_slot slot.0 (Some found.entry) found.held).1))

idle_is : idle_slot s_idle ≡ Some (first_slot 1)
idle_is = by (idle_slot s_idle) refl
  where
    by : (o : Option Slot) → idle_slot s_idle ≡ o → idle_slot s_idle ≡ Some (first_slot 1)
    by None e = absurd (where_none is_idle s_idle e 64 None idle_there refl)
    by (Some slot) e =
        e ∙ ap Some (same_slot slot (first_slot 1) (only_slot slot.0 None (idle_found s_idle slot e)).0)

way_again : way_of s_idle 0 (cmd.CAdd 0 0) ≡ decided (add_entry s_idle 0 0 (first_slot 1) first)
way_again =
    ap (λ o. way_of_adding s_idle 0 0 (option_map_or (λ _. is_refused refusal.Present) o
    (option_map_or (λ slot. in_idle slot first) (idle_slot s_idle) (in_new first)))) no_key_idle
    ∙ ap (λ o. way_of_adding s_idle 0 0 (option_map_or (λ slot. in_idle slot first) o (in_new first))) idle_is

pub step_again : Step numbers s_idle e_again (with_entry s_idle s_idle 0 0 (first_slot 1) first)
step_again = record {
  caller = lit< tt;
  valid = (lit< tt, lit< tt);
  does = subst (TakesWay numbers s_idle e_again (with_entry s_idle s_idle 0 0 (first_slot 1) first))
      (sym way_again) (record { reply = refl; slot = refl; grown = refl; after = refl });
}
