-- What a step may choose in worked states, and what one thread chooses.
use Rattle.hd_model.specs.{declared.data.Entry.Entry, declared.data.Grown.Grown, declared.data.Id.Id, declared.data.Kind.Kind, declared.data.Make.Make, declared.data.Refusal.Refusal, declared.data.Slot.Slot}
use Rattle.hd_model.proofs.Basics.{BlockUse, Bool, FindsTableFull, GivesBack, GivesBackLeast, GivesLeast, IsAllFree, IsOutcome, IsFreeAddress, IsLeastUnused, IsPinned, IsSome, List, MakesHandle, MatchOption, MayGive, MayReturn, Object, Option, Outcome, RepliesAddress, Some, None, State, Step, TakesLeast, TakesWay, [], ap, arith, block_of, cases_eq, cases_lt, cond, empty, extra_data, false, find, first_slot, get, get-empty, get-from_entries, handles_of, inl, inr, insert, is_paired, is_pinned, is_some, kind_of, length, lit<, nat_cmp_total, nat_cmp, none-some, object_by_id, refl, reply_with, same_Some, size_of, subst, suc, sym, true, true≢false, unwrap_or, use_of, with_address, with_use, with_weak, without_use, WeakEntry, ℕ, ⊎_elim, ◌*◌, ◌++◌, ◌+◌, ◌/◌, ◌<◌, ◌∙◌, ◌∷◌, ◌≡◌, ◌≢◌, ◌≤◌, ◌⊎◌}
use Rattle.hd_model.specs.declared.data.Grown.TheVariants.{Back, One, Two, Zero}
use Rattle.std.proofs.Math.Seq.{get_or-append_seam}
use Rattle.std.specs.FinMap.{len}
use Rattle.hd_model.proofs.{PinTest.pinned_decides, PropertyCounts.counts_once, ReadAfterWrite.get_beside, StateReadBack.step_of}
use Rattle.hd_laws.specs.CollectionSamples.{id_of, slot_of}
use Rattle.hd_laws.specs.CommandLaws.{narrow, pinned_two, worked}
use Rattle.hd_laws.specs.ChoiceLaws.{AddressGoesWithPins, AddressesAreThese, AddressesGoWithPins, BlocksAreGivenBack, CompactHeapsHaveFewRegions, EntriesAreAdded, NewHandlesAreHere, OneThreadTakesTheLeast, addressed, beside_one, eleven_blocks, seven_blocks, with_gaps}
use Rattle.hd_laws.specs.TextLaws.{entry}
use Rattle.hd_laws.proofs.Basics.{PinsBy}
use Rattle.hd_laws.proofs.PinnedAddressReads.{pinned_is, reply_is, same_number}
use Rattle.hd_laws.proofs.WorkedCommands.{attached, handles, one_there, slot_385, two_there, way_two}
use Rattle.hd_model.specs.declared.data.Kind.TheVariants as kind
use Rattle.hd_model.specs.declared.data.Make.TheVariants as make
use Rattle.hd_model.specs.declared.data.Reply.TheVariants as reply
use Rattle.hd_model.specs.declared.command.Cmd.TheVariants as cmd

-- ---- addresses

by_seven : PinsBy beside_one 0 7 (id_of 2)
by_seven = record {
  slot = slot_of 385;
  handle = pinned_two;
  has = refl;
  live = slot_385;
  pins = refl;
  target = refl;
}

none_yet : get beside_one.pinned 2 ≡ None
none_yet = get-from_entries nat_cmp_total ((1, 100) ∷ []) 2

hundred : get beside_one.pinned 1 ≡ Some 100
hundred = get-from_entries nat_cmp_total ((1, 100) ∷ []) 1

abbrev size_in : Option (Object Id) → ℕ
size_in o = size_of (unwrap_or o (record { fields = []; value = 0; generation = 0; registered = false }))

size_one : size_of (object_by_id beside_one (id_of 1)) ≡ 4
size_one = ap size_in one_there

size_two : size_of (object_by_id beside_one (id_of 2)) ≡ 3
size_two = ap size_in two_there

module _ (p : ℕ) where
  abbrev IsAddress : Option ℕ → Type 0
  IsAddress o = MatchOption o (IsFreeAddress beside_one (id_of 2) p) (λ own. p ≡ own)

  is_apart : IsFreeAddress beside_one (id_of 2) p → (p + 3 ≤ 100) ⊎ (104 ≤ p)
  is_apart free = ⊎_elim (λ low. inl (omega arith))
      (λ high. ⊎_elim (λ below. absurd (free.apart (id_of 1) 100 hundred (record {
        left = subst (λ k. p < 100 + k) (sym size_one) (omega arith);
        right = subst (λ k. 100 < p + k) (sym size_two) (omega arith);
      }))) (λ above. inr above) (cases_lt p 104)) (cases_lt p 98)

  may_be : Step narrow beside_one (addressed p) (with_address beside_one (id_of 2) p)
      → (p < 4294967296) × ((p + 3 ≤ 100) ⊎ (104 ≤ p))
  may_be step =
      let does : RepliesAddress beside_one (addressed p) (with_address beside_one (id_of 2) p) 7 =
      step.does in
      let same : does.address ≡ p =
      same_number {r = reply.Place p} (does.outcome.reply ∙ ap (λ (o : Outcome). o.reply)
      (reply_is beside_one 0 7 (id_of 2) by_seven does.address)) refl in
      let free : IsFreeAddress beside_one (id_of 2) p =
      subst IsAddress none_yet (subst (MayReturn beside_one (id_of 2)) same
      (does.may (id_of 2) (pinned_is beside_one 0 7 (id_of 2) by_seven))) in
      (free.small, is_apart free)

  -- only object 1 has a pinned address
  module _ (y : Id) (other : ℕ) (at : get beside_one.pinned y.0 ≡ Some other) where
    is_one : y.0 ≡ 1
    is_one = ⊎_elim (λ same. same) (λ ne. absurd (none-some other
        (sym (get_beside empty 1 100 y.0 ne ∙ get-empty nat_cmp y.0) ∙ at))) (cases_eq y.0 1)

    is_hundred : other ≡ 100
    is_hundred = same_Some other 100 (sym at ∙ ap (get beside_one.pinned) is_one ∙ hundred)

    size_other : size_of (object_by_id beside_one y) ≡ 4
    size_other = ap (λ k. size_in (get beside_one.objects k)) is_one ∙ size_one

  free : p < 4294967296 → (p + 3 ≤ 100) ⊎ (104 ≤ p) → IsFreeAddress beside_one (id_of 2) p
  free small apart = record {
    small = small;
    apart = λ y other at meet.
        let left : p < 100 + 4 = subst (λ k. p < k + 4) (is_hundred y other at)
        (subst (λ k. p < other + k) (size_other y other at) meet.left) in
        let right : 100 < p + 3 = subst (λ k. k < p + 3) (is_hundred y other at)
        (subst (λ k. other < p + k) size_two meet.right) in
        ⊎_elim (λ low. absurd (omega arith)) (λ high. absurd (omega arith)) apart;
  }

  is_step : (p < 4294967296) × ((p + 3 ≤ 100) ⊎ (104 ≤ p))
      → Step narrow beside_one (addressed p) (with_address beside_one (id_of 2) p)
  is_step is =
      let replies = reply_is beside_one 0 7 (id_of 2) by_seven p in record {
        caller = lit< tt;
        valid = lit< tt;
        does = record {
          address = p;
          may = λ id at. subst (λ x. MayReturn beside_one x p) (same_Some (id_of 2) id
              (sym (pinned_is beside_one 0 7 (id_of 2) by_seven) ∙ at))
              (subst IsAddress (sym none_yet) (free is.0 is.1));
          outcome = record {
            reply = sym (ap (λ (o : Outcome). o.reply) replies);
            slot = sym (ap (λ (o : Outcome). o.slot) replies);
            grown = refl;
            after = sym (ap (λ (o : Outcome). o.after) replies);
          };
        };
      }

pub addresses_are_these : AddressesAreThese
addresses_are_these p = (may_be p, is_step p)

module _ (s t : State) (x : Id)
    (after : get t.pinned x.0 ≡ cond (is_pinned s.handles x.0) (get s.pinned x.0) None) where
  abbrev IsPinnedHere : Type 0
  IsPinnedHere = IsPinned (λ slot. get s.handles slot) x

  none_pins : (b : Bool) → is_pinned s.handles x.0 ≡ b → (IsPinnedHere → ⊥)
      → cond b (get s.pinned x.0) None ≡ None
  none_pins true is not = absurd (not ((pinned_decides s.handles x).0 is))
  none_pins false is not = refl

  goes_with_pins : AddressGoesWithPins s t x
  goes_with_pins = record {
    stays = λ pins. after ∙ ap (λ b. cond b (get s.pinned x.0) None) ((pinned_decides s.handles x).1 pins);
    goes = λ not. after ∙ none_pins (is_pinned s.handles x.0) refl not;
  }

pub addresses_go_with_pins : AddressesGoWithPins
addresses_go_with_pins m n s t r collected x = goes_with_pins s t x (collected.collects.pinned x.0)

-- ---- blocks

abbrev uses : List (ℕ × BlockUse)
uses = (4, handles_of kind.Strong) ∷ (2, extra_data) ∷ (1, handles_of kind.Dependent) ∷ []

used_1 : use_of with_gaps 1 ≡ Some (handles_of kind.Dependent)
used_1 = get-from_entries nat_cmp_total uses 1

used_2 : use_of with_gaps 2 ≡ Some extra_data
used_2 = get-from_entries nat_cmp_total uses 2

unused_3 : use_of with_gaps 3 ≡ None
unused_3 = get-from_entries nat_cmp_total uses 3

used_4 : use_of with_gaps 4 ≡ Some (handles_of kind.Strong)
used_4 = get-from_entries nat_cmp_total uses 4

unused_5 : use_of with_gaps 5 ≡ None
unused_5 = get-from_entries nat_cmp_total uses 5

-- a block has no use where it has one
not_both : (b k : ℕ) (given : BlockUse) → b ≡ k → use_of with_gaps k ≡ Some given → use_of with_gaps b ≡ None
    → ⊥
not_both b k given same used unused =
    none-some given (sym unused ∙ ap (use_of with_gaps) same ∙ used)

least_is_three : (b : ℕ) → IsLeastUnused seven_blocks with_gaps 1 b → b ≡ 3
least_is_three b is = ⊎_elim (λ below. absurd (⊎_elim
    (λ one. not_both b 1 (handles_of kind.Dependent) one used_1 is.unused)
    (λ ne. let low = is.low in not_both b 2 extra_data (omega arith) used_2 is.unused) (cases_eq b 1)))
    (λ over. ⊎_elim (λ same. same) (λ ne. absurd (true≢false
    (sym (is.least 3 (omega arith) (omega arith)) ∙ ap is_some unused_3))) (cases_eq b 3)) (cases_lt b 3)

next_is_five : (b : ℕ) → IsLeastUnused seven_blocks with_gaps 4 b → b ≡ 5
next_is_five b is = ⊎_elim
    (λ below. absurd (let low = is.low in
    not_both b 4 (handles_of kind.Strong) (omega arith) used_4 is.unused))
    (λ over. ⊎_elim (λ same. same) (λ ne. absurd (true≢false
    (sym (is.least 5 (omega arith) (omega arith)) ∙ ap is_some unused_5))) (cases_eq b 5)) (cases_lt b 5)

least_three : IsLeastUnused seven_blocks with_gaps 1 3
least_three = record {
  low = omega arith;
  high = (let most : 3 ≤ 7 = omega arith in most);
  unused = unused_3;
  least = λ other low high. ⊎_elim (λ one. ap is_some (ap (use_of with_gaps) one ∙ used_1))
      (λ ne. (let two : other ≡ 2 = omega arith in ap is_some (ap (use_of with_gaps) two ∙ used_2)))
      (cases_eq other 1);
}

next_five : IsLeastUnused seven_blocks with_gaps 4 5
next_five = record {
  low = omega arith;
  high = (let most : 5 ≤ 7 = omega arith in most);
  unused = unused_5;
  least = λ other low high.
      (let four : other ≡ 4 = omega arith in ap is_some (ap (use_of with_gaps) four ∙ used_4));
}

module _ (k : Kind) where
  one_grows : is_paired k ≡ false → (g : Grown) (slot : Slot) → MayGive seven_blocks with_gaps k g slot
      → g ≢ Zero → (g ≡ One 3) × (slot ≡ slot_of 192)
  one_grows plain Zero slot may ne = absurd (ne refl)
  one_grows plain (One b) slot may ne =
      let is = least_is_three b may.1 in (ap One is, may.2 ∙ ap first_slot is)
  one_grows plain (Two b other) slot may ne = absurd (true≢false (sym may.0 ∙ plain))
  one_grows plain (Back b) slot may ne = absurd may

  two_grow : is_paired k ≡ true → (g : Grown) (slot : Slot) → MayGive seven_blocks with_gaps k g slot
      → g ≢ Zero → (g ≡ Two 3 5) × (slot ≡ slot_of 192)
  two_grow paired Zero slot may ne = absurd (ne refl)
  two_grow paired (One b) slot may ne = absurd (true≢false (sym paired ∙ may.0))
  two_grow paired (Two b other) slot may ne =
      let is = least_is_three b may.1 in
      let next = next_is_five other
      (subst (λ x. IsLeastUnused seven_blocks with_gaps (x + 1) other) is may.2) in
      ((λ i. Two (is i) (next i)), may.3 ∙ ap first_slot is)
  two_grow paired (Back b) slot may ne = absurd may

-- an `hnew` by which the table grows
grows_only : (given : Make) (grown : Grown) → ((g : Grown) (slot : Slot)
    → MayGive seven_blocks with_gaps (kind_of given) g slot → g ≢ Zero
    → (g ≡ grown) × (slot ≡ slot_of 192))
    → (e : Entry) (t : State) → Step seven_blocks with_gaps e t → e.cmd ≡ cmd.HNew 3 given 0
    → e.grown ≢ Zero → (e.grown ≡ grown) × (e.slot ≡ Some (slot_of 192))
grows_only given grown by e t step is ne =
    ⊎_elim (λ (made : MakesHandle seven_blocks with_gaps e t 3 given 0).
    (let g = by e.grown made.slot made.may ne in (g.0, made.given ∙ ap Some g.1)))
    (λ (full : FindsTableFull seven_blocks with_gaps e t (kind_of given)). absurd (ne full.refused.grown))
    (step_of seven_blocks with_gaps e t (cmd.HNew 3 given 0) step is)

-- ---- slots

not_full : {why : Refusal} → reply.Done ≡ reply.Refused why → ⊥
not_full a = cc

other_kind : Some (handles_of kind.Dependent) ≡ Some (handles_of kind.Strong) → ⊥
other_kind a = cc

no_kind : Some extra_data ≡ Some (handles_of kind.Strong) → ⊥
no_kind a = cc

-- strong handles are in block 4 alone
strong_is_four : (b : ℕ) → use_of with_gaps b ≡ Some (handles_of kind.Strong) → b ≡ 4
strong_is_four b is = ⊎_elim (λ four. four) (λ not_4. ⊎_elim
    (λ one. absurd (other_kind (sym used_1 ∙ ap (use_of with_gaps) (sym one) ∙ is)))
    (λ not_1. ⊎_elim (λ two. absurd (no_kind (sym used_2 ∙ ap (use_of with_gaps) (sym two) ∙ is)))
    (λ not_2. absurd (none-some (handles_of kind.Strong) (sym (none_left not_1 not_2 not_4) ∙ is)))
    (cases_eq b 2)) (cases_eq b 1)) (cases_eq b 4)
  where
    none_left : b ≢ 1 → b ≢ 2 → b ≢ 4 → use_of with_gaps b ≡ None
    none_left not_1 not_2 not_4 =
        get_beside (insert (insert empty 1 (handles_of kind.Dependent)) 2 extra_data) 4
        (handles_of kind.Strong) b not_4
        ∙ get_beside (insert empty 1 (handles_of kind.Dependent)) 2 extra_data b not_2
        ∙ get_beside empty 1 (handles_of kind.Dependent) b not_1 ∙ get-empty nat_cmp b

pub new_handles_are_here : NewHandlesAreHere
new_handles_are_here = record {
  strong = record {
    may = record {
      caller = lit< tt;
      valid = (lit< tt, tt, lit< tt);
      does = inl (record {
        slot = slot_of 192;
        given = refl;
        may = (refl, least_three, refl);
        reply = refl;
        after = refl;
      });
    };
    only = grows_only make.Strong (One 3) (one_grows kind.Strong refl);
  };
  counted = record {
    may = record {
      caller = lit< tt;
      valid = (lit< tt, tt, lit< tt);
      does = inl (record {
        slot = slot_of 192;
        given = refl;
        may = (refl, least_three, next_five, refl);
        reply = refl;
        after = refl;
      });
    };
    only = grows_only make.Counted (Two 3 5) (two_grow kind.Counted refl);
  };
  dependent = record {
    may = record {
      caller = lit< tt;
      valid = (lit< tt, lit< tt, lit< tt);
      does = inl (record {
        slot = slot_of 192;
        given = refl;
        may = (refl, least_three, next_five, refl);
        reply = refl;
        after = refl;
      });
    };
    only = grows_only (make.Dependent 1) (Two 3 5) (two_grow kind.Dependent refl);
  };
  free = λ x. (
    λ step. ⊎_elim (λ made.
        (let four : x / 64 ≡ 4 = strong_is_four (x / 64)
        (subst (λ (s : Slot). use_of with_gaps (block_of s) ≡ Some (handles_of kind.Strong))
        (sym (same_Some (slot_of x) made.slot made.given)) made.may.of_kind) in
        (omega arith, omega arith)))
        (λ full. absurd (not_full full.refused.reply)) step.does,
    λ is.
        let low = is.0 in
        let high = is.1 in
        let four : x / 64 ≡ 4 = omega arith in record {
          caller = lit< tt;
          valid = (lit< tt, tt, lit< tt);
          does = inl (record {
            slot = slot_of x;
            given = refl;
            may = record {
              no_handle = get-empty nat_cmp x;
              not_weak = get-empty nat_cmp x;
              of_kind = ap (use_of with_gaps) four ∙ used_4;
            };
            reply = refl;
            after = refl;
          });
        },
  );
}

-- ---- blocks that are given back

free_in_four : IsAllFree with_gaps kind.Strong 4
free_in_four slot same = record {
  no_handle = get-empty nat_cmp slot.0;
  not_weak = get-empty nat_cmp slot.0;
  of_kind = ap (use_of with_gaps) same ∙ used_4;
}

all_free_is_four : (b : ℕ) → IsAllFree with_gaps kind.Strong b → b ≡ 4
all_free_is_four b free =
    let first : b * 64 / 64 ≡ b = omega arith in
    strong_is_four b (ap (use_of with_gaps) (sym first) ∙ (free (first_slot b) first).of_kind)

pub blocks_are_given_back : BlocksAreGivenBack
blocks_are_given_back = record {
  given = record {
    caller = lit< tt;
    valid = refl;
    does = inl (record {
      block = 4;
      free = free_in_four;
      reply = refl;
      slot = refl;
      grown = refl;
      after = refl;
    });
  };
  none = record {
    caller = lit< tt;
    valid = refl;
    does = inr (record { reply = refl; slot = refl; grown = refl; after = refl });
  };
  only = λ e t step is.
      ⊎_elim (λ (back : GivesBack with_gaps e t kind.Strong). inl (
      let four = all_free_is_four back.block back.free in record {
        grown_is = back.grown ∙ ap Back four;
        reply_is = back.reply;
        after_is = back.after ∙ ap (without_use with_gaps) four;
      }))
      (λ (none : IsOutcome e (reply_with (reply.Value 0) with_gaps) t). inr (record {
        grown_is = none.grown;
        reply_is = none.reply;
        after_is = none.after;
      })) (step_of seven_blocks with_gaps e t (cmd.Trim kind.Strong) step is);
}

-- ---- entries of the weak table

abbrev uses_of_worked : List (ℕ × BlockUse)
uses_of_worked =
    (8, extra_data) ∷ (7, handles_of kind.Variable) ∷ (6, handles_of kind.Pinned) ∷ (5, extra_data)
    ∷ (4, handles_of kind.Counted) ∷ (3, extra_data) ∷ (2, handles_of kind.Dependent)
    ∷ (1, handles_of kind.Strong) ∷ []

use_at : (k : ℕ) → use_of worked k ≡ find nat_cmp k uses_of_worked
use_at k = get-from_entries nat_cmp_total uses_of_worked k

abbrev IsUsed : ℕ → Type 0
IsUsed k = IsSome (use_of worked k)

-- one more that is in use
one_more : (m : ℕ) → IsUsed m → ((k : ℕ) → 1 ≤ k → k < m → IsUsed k) → (k : ℕ) → 1 ≤ k → k < m + 1
    → IsUsed k
one_more m here below k low high =
    ⊎_elim (λ same. subst IsUsed (sym same) here) (λ ne. below k low (omega arith)) (cases_eq k m)

eight_used : (k : ℕ) → 1 ≤ k → k < 9 → IsUsed k
eight_used = one_more 8 (ap is_some (use_at 8)) (one_more 7 (ap is_some (use_at 7))
    (one_more 6 (ap is_some (use_at 6)) (one_more 5 (ap is_some (use_at 5))
    (one_more 4 (ap is_some (use_at 4)) (one_more 3 (ap is_some (use_at 3))
    (one_more 2 (ap is_some (use_at 2)) (one_more 1 (ap is_some (use_at 1))
    (λ k low high. absurd (omega arith)))))))))

nine_is_least : IsLeastUnused eleven_blocks worked 1 9
nine_is_least = record {
  low = omega arith;
  high = (let most : 9 ≤ 11 = omega arith in most);
  unused = use_at 9;
  least = eight_used;
}

ten_is_next : IsLeastUnused eleven_blocks worked 10 10
ten_is_next = record {
  low = omega arith;
  high = (let most : 10 ≤ 11 = omega arith in most);
  unused = use_at 10;
  least = λ other low high. absurd (omega arith);
}

abbrev attached_one : Option (WeakEntry Id)
attached_one = Some (record { key = id_of 2; value = Some (id_of 1) })

abbrev in_131 : Entry
in_131 = entry 0 (cmd.CAdd 1 0) (Some (slot_of 131)) Zero reply.Done

abbrev after_131 : State
after_131 = with_weak worked (slot_of 131) attached_one

abbrev in_576 : Entry
in_576 = entry 0 (cmd.CAdd 1 0) (Some (slot_of 576)) (Two 9 10) reply.Done

abbrev after_576 : State
after_576 =
    with_weak (with_use (with_use worked 9 (handles_of kind.Dependent)) 10 extra_data) (slot_of 576)
    attached_one

pub entries_are_added : EntriesAreAdded
entries_are_added = record {
  free = record {
    caller = lit< tt;
    valid = (lit< tt, lit< tt);
    does = subst (TakesWay eleven_blocks worked in_131 after_131) (sym way_two) (inl (record {
      slot = slot_of 131;
      given = refl;
      may = record {
        no_handle = get-from_entries nat_cmp_total handles 131;
        not_weak = get-from_entries nat_cmp_total attached 131;
        of_kind = use_at 2;
      };
      reply = refl;
      after = refl;
    }));
  };
  grown = record {
    caller = lit< tt;
    valid = (lit< tt, lit< tt);
    does = subst (TakesWay eleven_blocks worked in_576 after_576) (sym way_two) (inl (record {
      slot = slot_of 576;
      given = refl;
      may = (refl, nine_is_least, ten_is_next, refl);
      reply = refl;
      after = refl;
    }));
  };
}

-- ---- what one thread chooses

pub one_thread_takes_the_least : OneThreadTakesTheLeast
one_thread_takes_the_least = record {
  hnew = λ n s t e d made r other step is free.
      (let least : GivesLeast s e (kind_of made) = subst (TakesLeast s e) is step.least in
      ⊎_elim (λ given. record {
        slot = given.0;
        given = given.2;
        low = given.1.least other free;
        stays = given.3;
      }) (λ none. absurd (none other free)) least);
  trim = λ n s t e wanted other step is free.
      (let least : GivesBackLeast s e wanted = subst (TakesLeast s e) is step.least in
      ⊎_elim (λ given. record { block = given.0; back = given.2; low = given.1.least other free })
      (λ none. absurd (none other free)) least);
  callers = λ n s d e between after run.
      let rises = run.rising 0 (suc (length between)) d (omega arith) (within between e after) in
      subst (λ (x : Entry). d.caller ≤ x.caller) (get_or-append_seam between e after d) rises;
}
  where
    within : (between : List Entry) (e : Entry) (after : List Entry)
        → suc (length between) < suc (length (between ++ (e ∷ after)))
    within [] e after = omega arith
    within (b ∷ between) e after = let rest = within between e after in omega arith

-- ---- regions

pub compact_heaps_have_few_regions : CompactHeapsHaveFewRegions
compact_heaps_have_few_regions h rows compact used pinned =
    let two : compact.pinned ≡ 2 = counts_once (IsPinned rows) compact.pinned 2 compact.pinned_is pinned in
    subst (λ k. len h.regions ≤ 1000 / 193 + 3 + k) two
    (subst (λ u. len h.regions ≤ u / 193 + 3 + compact.pinned) used compact.regions)
