-- What each call does to a weak table, by its fields and its value.
use Rattle.std.proofs.Common.{IsSome, None, Option, Some, ap, arith, is_some, nat_cmp, option_map, refl, subst, sym, ℕ, ◌<◌, ◌^◌, ◌∙◌, ◌≡◌, ◌≢◌, ◌≤◌}
use Rattle.std.proofs.lemmas.Bool.{cases_eq, cases_lt, false≢true}
use Rattle.std.proofs.lemmas.Option.{none-some, same_Some}
use Rattle.std.specs.FinMap.{FinMap, empty, get, get-empty, insert, remove}
use mathlib.Core.Logic.{inl, inr}
use Rattle.hd_model.specs.State.{State, WeakEntry, start_of}
use Rattle.hd_model.specs.Command.{is_idle}
use Rattle.hd_model.specs.declared.data.Id.{Id}
use Rattle.hd_model.specs.declared.data.Slot.{Slot}
use Rattle.hd_model.proofs.MapBuild.{had_source}
use Rattle.hd_model.proofs.MapEntries.{none_from, some_value}
use Rattle.hd_model.proofs.ReadAfterWrite.{get_inserted, get_beside, get_removed, get_left, some_cases}
use Rattle.hd_model.proofs.WeakSlots.{HasKey, key_found, key_none, idle_found, where_least, where_none}
use Rattle.hd_maps.specs.declared.data.WeakEntry.{WeakEntry as Pair}
use Rattle.hd_maps.specs.View.{entry_of}
use Rattle.hd_maps.specs.Inside.{IsWeak, HasEntry}
use Rattle.hd_maps.specs.WeakSlots.{IsUnnamed, slot_at, slot_with, idle_in}
use Rattle.hd_maps.specs.Fields.{held_as}
use Rattle.hd_maps.specs.NextKeys.{IsLeastKey}
use Rattle.hd_maps.proofs.PinnedMaps.{put_and_taken}
use Rattle.hd_maps.proofs.SeenMaps.{empty_as, get_as, insert_as}

abbrev Held : Type 0
Held = FinMap nat_cmp (Option (WeakEntry Id))

-- a state with this weak table
abbrev state_with : Held → State
state_with held = record (start_of (record { heap = 0; blocks = 0; callers = 0 })) { weak = held }

same_slot : (a b : Slot) → a.0 ≡ b.0 → a ≡ b
same_slot a b e = λ i. record { 0 = e i }

same_number : (a b : ℕ) → ◌≡◌ {A = Option ℕ} (Some a) (Some b) → a ≡ b
same_number a b e = same_Some a b e

unnamed : (o : Option (Option (WeakEntry Id))) (e : WeakEntry Id) → IsUnnamed o → o ≡ Some (Some e) → ⊥
unnamed None e free is = none-some (Some e) is
unnamed (Some None) e free is = none-some e (same_Some None (Some e) is)
unnamed (Some (Some x)) e free is = free

module _ {slots : FinMap nat_cmp (Option Pair)} {keys : FinMap nat_cmp ℕ} {free : FinMap nat_cmp (Unit {0})}
    (is : IsWeak slots keys free) {w : Held} (view : held_as slots ≡ w) where
  pub held_read : (k : ℕ) → option_map (option_map entry_of) (get slots k) ≡ get w k
  held_read k = sym (get_as (option_map entry_of) slots k) ∙ ap (λ m. get m k) view

  -- a slot that is held
  held_there : (k : ℕ) (c : Option (WeakEntry Id)) → get w k ≡ Some c → IsSome (get slots k)
  held_there k c at =
      had_source (option_map entry_of) (get slots k) (ap is_some (held_read k) ∙ ap is_some at)

  keyed : (slot : ℕ) (e : WeakEntry Id) → get w slot ≡ Some (Some e) → get keys e.key.0 ≡ Some slot
  keyed slot e at = is.keyed slot e (ap (λ m. get m slot) view ∙ at)

  named : (key slot : ℕ) → get keys key ≡ Some slot → HasEntry w key slot
  named key slot at = subst (λ m. HasEntry m key slot) view (is.named key slot at)

  -- the slot of a key
  pub found_slot : (key : Id) (slot : ℕ) → get keys key.0 ≡ Some slot
      → ◌≡◌ {A = Option Slot} (Some (record { 0 = slot })) (slot_with w key)
  found_slot key slot at = by (slot_with w key) refl
    where
      by : (o : Option Slot) → slot_with w key ≡ o
          → ◌≡◌ {A = Option Slot} (Some (record { 0 = slot })) (slot_with w key)
      by None e =
          let has = named key.0 slot at in
          let same : has.entry.key ≡ key = λ i. record { 0 = has.key_is i } in
          absurd (key_none (state_with w) key e slot has.entry has.is same)
      by (Some other) e =
          let has = key_found (state_with w) key other e in
          let there : get keys key.0 ≡ Some other.0 =
          ap (λ (x : Id). get keys x.0) (sym has.keyed) ∙ keyed other.0 has.entry has.held in
          ap Some (same_slot (record { 0 = slot }) other (same_number slot other.0 (sym at ∙ there))) ∙ sym e

  pub found_none : (key : Id) → get keys key.0 ≡ None → ◌≡◌ {A = Option Slot} None (slot_with w key)
  found_none key none = by (slot_with w key) refl
    where
      by : (o : Option Slot) → slot_with w key ≡ o
          → ◌≡◌ {A = Option Slot} None (slot_with w key)
      by None e = sym e
      by (Some other) e =
          let has = key_found (state_with w) key other e in
          let there : get keys key.0 ≡ Some other.0 =
          ap (λ (x : Id). get keys x.0) (sym has.keyed) ∙ keyed other.0 has.entry has.held in
          absurd (none-some other.0 (sym none ∙ there))

  -- the entry in a slot is that of its key
  pub entry_named : (slot : ℕ) (p : Pair) → get w slot ≡ Some (Some (entry_of p))
      → slot_with w p.key ≡ Some (slot_at slot)
  entry_named slot p at = sym (found_slot p.key slot (keyed slot (entry_of p) at))

  -- no slot has a key that none is found for
  key_absent : (key : Id) → slot_with w key ≡ None → get keys key.0 ≡ None
  key_absent key fresh = none_from (get keys key.0) (λ some.
      let (slot, at) = some_value (get keys key.0) some in
      let has = named key.0 slot at in
      key_none (state_with w) key fresh slot has.entry has.is (λ i. record { 0 = has.key_is i }))

  slot_is : (key : Id) (slot : Slot) → slot_with w key ≡ Some slot → get keys key.0 ≡ Some slot.0
  slot_is key slot e =
      let has = key_found (state_with w) key slot e in
      ap (λ (x : Id). get keys x.0) (sym has.keyed) ∙ keyed slot.0 has.entry has.held

  -- the least idle slot
  idle_at : (k : ℕ) → get w k ≡ Some None → IsSome (get free k)
  idle_at k at = is.idle k (ap (λ m. get m k) view ∙ at)

  free_at : (k : ℕ) → IsSome (get free k) → get w k ≡ Some None
  free_at k some = sym (ap (λ m. get m k) view) ∙ is.only k some

  pub idle_low : (k : ℕ) → IsSome (get free k) → k < 2 ^ 32
  idle_low k some = is.low k (held_there k None (free_at k some))

  in_order : (k : ℕ) → IsLeastKey free 0 k → (q : ℕ) → IsSome (get free q) → k ≤ q
  in_order k least q some = elim (cases_lt q k) [
    | inl low ↦ absurd (false≢true (sym (ap is_some (least.none q (omega arith) low)) ∙ some))
    | inr high ↦ high
  ]

  pub found_idle : (k : ℕ) → IsLeastKey free 0 k
      → ◌≡◌ {A = Option Slot} (Some (record { 0 = k })) (idle_in w)
  found_idle k least = by (idle_in w) refl
    where
      by : (o : Option Slot) → idle_in w ≡ o
          → ◌≡◌ {A = Option Slot} (Some (record { 0 = k })) (idle_in w)
      by None e = absurd (where_none is_idle (state_with w) e k None (free_at k least.has) refl)
      by (Some other) e =
          let low = where_least is_idle (state_with w) other e k None (free_at k least.has) refl in
          let there : IsSome (get free other.0) = idle_at other.0 (idle_found (state_with w) other e) in
          let high : k ≤ other.0 = in_order k least other.0 there in
          ap Some (same_slot (record { 0 = k }) other (omega arith)) ∙ sym e

  pub found_no_idle : ((q : ℕ) → 0 ≤ q → get free q ≡ None) → ◌≡◌ {A = Option Slot} None (idle_in w)
  found_no_idle none = by (idle_in w) refl
    where
      by : (o : Option Slot) → idle_in w ≡ o → ◌≡◌ {A = Option Slot} None (idle_in w)
      by None e = sym e
      by (Some other) e =
          let there : IsSome (get free other.0) = idle_at other.0 (idle_found (state_with w) other e) in
          absurd (false≢true (sym (ap is_some (none other.0 (omega arith))) ∙ there))

  -- how the value changes
  pub written : (k : ℕ) (c : Option Pair) {others : FinMap nat_cmp (Option Pair)} → others ≡ insert slots k c
      → held_as others ≡ insert w k (option_map entry_of c)
  written k c e =
      ap held_as e ∙ insert_as (option_map entry_of) slots k c
      ∙ ap (λ m. insert m k (option_map entry_of c)) view

  module _ (s : ℕ) (c : Option Pair) where
    now_held : held_as (insert slots s c) ≡ insert w s (option_map entry_of c)
    now_held = written s c refl

    here : get (held_as (insert slots s c)) s ≡ Some (option_map entry_of c)
    here = ap (λ m. get m s) now_held ∙ get_inserted w s (option_map entry_of c)

    beside : (q : ℕ) → q ≢ s → get (held_as (insert slots s c)) q ≡ get w q
    beside q ne = ap (λ m. get m q) now_held ∙ get_beside w s (option_map entry_of c) q ne

  -- an entry in a slot that has none
  pub put_weak : (s : ℕ) (p : Pair) → s < 2 ^ 32 → IsUnnamed (get w s) → slot_with w p.key ≡ None
      → IsWeak (insert slots s (Some p)) (insert keys p.key.0 s) (remove free s)
  put_weak s p low bare fresh = record {
    low = λ slot some. some_cases slots s (λ q. q < 2 ^ 32) (Some p) low is.low slot some;
    keyed = λ slot e at. elim (cases_eq slot s) [
      | inl same ↦
          let mine : entry_of p ≡ e =
          same_Some (entry_of p) e (same_Some (Some (entry_of p)) (Some e)
          (sym (here s (Some p)) ∙ ap (get (held_as (insert slots s (Some p)))) (sym same) ∙ at)) in
          ap (λ (x : WeakEntry Id). get (insert keys p.key.0 s) x.key.0) (sym mine)
          ∙ get_inserted keys p.key.0 s ∙ ap Some (sym same)
      | inr ne ↦
          let was : get w slot ≡ Some (Some e) = sym (beside s (Some p) slot ne) ∙ at in
          get_beside keys p.key.0 s e.key.0 (other_key slot e was) ∙ keyed slot e was
    ];
    named = λ key slot at. elim (cases_eq key p.key.0) [
      | inl same ↦
          let there : s ≡ slot =
          same_number s slot (sym (get_inserted keys p.key.0 s) ∙ ap (get (insert keys p.key.0 s)) (sym same)
          ∙ at) in
          record {
            entry = entry_of p;
            is = ap (get (held_as (insert slots s (Some p)))) (sym there) ∙ here s (Some p);
            key_is = sym same;
          }
      | inr ne ↦
          let has = named key slot (sym (get_beside keys p.key.0 s key ne) ∙ at) in
          let apart : slot ≢ s = λ same. unnamed (get w s) has.entry bare
          (ap (get w) (sym same) ∙ has.is) in
          record { entry = has.entry; is = beside s (Some p) slot apart ∙ has.is; key_is = has.key_is }
    ];
    idle = λ slot at. elim (cases_eq slot s) [
      | inl same ↦ absurd (none-some (entry_of p) (same_Some None (Some (entry_of p))
          (sym at ∙ ap (get (held_as (insert slots s (Some p)))) same ∙ here s (Some p))))
      | inr ne ↦ ap is_some (get_left free s slot ne)
          ∙ idle_at slot (sym (beside s (Some p) slot ne) ∙ at)
    ];
    only = λ slot some. elim (cases_eq slot s) [
      | inl same ↦ absurd (false≢true (sym (ap is_some (ap (get (remove free s)) same ∙ get_removed free s))
          ∙ some))
      | inr ne ↦ beside s (Some p) slot ne
          ∙ free_at slot (sym (ap is_some (get_left free s slot ne)) ∙ some)
    ];
  }
    where
      other_key : (slot : ℕ) (e : WeakEntry Id) → get w slot ≡ Some (Some e) → e.key.0 ≢ p.key.0
      other_key slot e at same =
          key_none (state_with w) p.key fresh slot e at (λ i. record { 0 = same i })

  -- an entry that could not be put leaves no key
  pub undone : (s : ℕ) (key : Id) → slot_with w key ≡ None
      → IsWeak slots (remove (insert keys key.0 s) key.0) free
  undone s key fresh =
      subst (λ m. IsWeak slots m free) (sym (put_and_taken keys key.0 s (key_absent key fresh))) is

  -- the entry of a key leaves its slot
  pub clear_weak : (s : ℕ) (key : Id) → slot_with w key ≡ Some (slot_at s)
      → IsWeak (insert slots s None) (remove keys key.0) (insert free s tt)
  clear_weak s key found = record {
    low = λ slot some. some_cases slots s (λ q. q < 2 ^ 32) None
        (is.low s (held_there s (Some has_it.entry) has_it.held)) is.low slot some;
    keyed = λ slot e at. elim (cases_eq slot s) [
      | inl same ↦ absurd (none-some e (same_Some None (Some e)
          (sym (here s None) ∙ ap (get (held_as (insert slots s None))) (sym same) ∙ at)))
      | inr ne ↦
          let was : get w slot ≡ Some (Some e) = sym (beside s None slot ne) ∙ at in
          get_left keys key.0 e.key.0 (λ same. ne (same_number slot s
          (sym (keyed slot e was) ∙ ap (get keys) same ∙ slot_is key (slot_at s) found))) ∙ keyed slot e was
    ];
    named = λ k slot at. elim (cases_eq k key.0) [
      | inl same ↦ absurd (none-some slot (sym (get_removed keys key.0)
          ∙ ap (get (remove keys key.0)) (sym same)
          ∙ at))
      | inr ne ↦
          let has = named k slot (sym (get_left keys key.0 k ne) ∙ at) in
          let apart : slot ≢ s = λ same. ne
          (sym has.key_is ∙ key_there slot has.entry has.is same) in
          record { entry = has.entry; is = beside s None slot apart ∙ has.is; key_is = has.key_is }
    ];
    idle = λ slot at. elim (cases_eq slot s) [
      | inl same ↦ ap is_some (ap (get (insert free s tt)) same ∙ get_inserted free s tt)
      | inr ne ↦ ap is_some (get_beside free s tt slot ne)
          ∙ idle_at slot (sym (beside s None slot ne) ∙ at)
    ];
    only = λ slot some. elim (cases_eq slot s) [
      | inl same ↦ ap (get (held_as (insert slots s None))) same ∙ here s None
      | inr ne ↦ beside s None slot ne
          ∙ free_at slot (sym (ap is_some (get_beside free s tt slot ne)) ∙ some)
    ];
  }
    where
      has_it : HasKey (state_with w) key s
      has_it = key_found (state_with w) key (slot_at s) found

      key_there : (slot : ℕ) (e : WeakEntry Id) → get w slot ≡ Some (Some e) → slot ≡ s
          → e.key.0 ≡ key.0
      key_there slot e at same =
          let mine : e ≡ has_it.entry =
          same_Some e has_it.entry (same_Some (Some e) (Some has_it.entry)
          (sym at ∙ ap (get w) same ∙ has_it.held)) in
          ap (λ (x : WeakEntry Id). x.key.0) mine ∙ ap (λ (x : Id). x.0) has_it.keyed

  -- the slot of a key is held
  pub slot_there : (s : ℕ) (key : Id) → slot_with w key ≡ Some (slot_at s) → IsSome (get slots s)
  slot_there s key found =
      let has = key_found (state_with w) key (slot_at s) found in held_there s (Some has.entry) has.held

-- a weak table that holds nothing
pub opened : (slots : FinMap nat_cmp (Option Pair)) (keys : FinMap nat_cmp ℕ)
    (free : FinMap nat_cmp (Unit {0})) → slots ≡ empty → keys ≡ empty → free ≡ empty → IsWeak slots keys free
opened slots keys free no_slots no_keys no_free = record {
  keyed = λ slot e at. absurd (none-some (Some e) (sym (nothing slot) ∙ at));
  named = λ key slot at. absurd
      (none-some slot (sym (ap (λ m. get m key) no_keys ∙ get-empty nat_cmp key) ∙ at));
  idle = λ slot at. absurd (none-some None (sym (nothing slot) ∙ at));
  only = λ slot some. absurd
      (false≢true (sym (ap (λ m. is_some (get m slot)) no_free ∙ ap is_some (get-empty nat_cmp slot)) ∙ some));
  low = λ slot some. absurd
      (false≢true (sym (ap (λ m. is_some (get m slot)) no_slots ∙ ap is_some (get-empty nat_cmp slot)) ∙ some));
}
  where
    nothing : (slot : ℕ) → get (held_as slots) slot ≡ None
    nothing slot =
        ap (λ m. get (held_as m) slot) no_slots ∙ ap (λ m. get m slot) (empty_as (option_map entry_of))
        ∙ get-empty nat_cmp slot

pub seen_open : (slots : FinMap nat_cmp (Option Pair)) → slots ≡ empty → held_as slots ≡ empty
seen_open slots none = ap held_as none ∙ empty_as (option_map entry_of)
