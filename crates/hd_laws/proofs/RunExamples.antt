-- Runs and states that meet the premises of laws over steps and runs. What a state of them has is computed,
-- but for what maps give.
use Rattle.hd_model.specs.{declared.data.Entry.Entry, declared.data.Id.Id, declared.data.Grown.TheVariants.One, declared.data.Grown.TheVariants.Zero}
use Rattle.hd_model.proofs.Basics.{Bool, IsFreeAddress, IsOutcome, IsSome, IsWellFormed, MatchOption, MayReturn, None, Numbers, Run, Since, Some, State, Step, TakesCells, [], reply_with, ap, arith, first_slot, fresh_object, get, get-empty, identity_of, if◌then◌else◌, inl, is_some, link, lit<, made_handle, nat_cmp, nat_lt, new_object, none-some, refl, refuses, start_of, stay, subst, sym, total_size, true, with_made, with_object, with_address, with_queue, with_register, with_serial, ℕ, ⊎_elim, ◌+◌, ◌∙◌, ◌∷◌, ◌≡◌, ◌≢◌}
use Rattle.hd_laws.proofs.Basics.{GivesGeneration, GivesRegistration, HasCollection, HasWay, JoinsBy, PinsBy, Unpins}
use Rattle.hd_model.proofs.{ReadAfterWrite.get_inserted, WellFormedWrites.queue_keeps, WellFormedSteps.run_is_well_formed, Fates.objects_are_resurrected_once}
use Rattle.hd_laws.proofs.{PinnedAddressReads.reply_is, PinnedAddressReads.pinned_by_it, HeapLimit.start_total, CollectionSamples.premises_are_met}
use Rattle.hd_model.proofs.Members.{not_in_none, member_cases, pairs_none, pairs_cons}
use Rattle.hd_laws.specs.CollectionSamples.{few, id_of, busy}
use Rattle.hd_model.specs.declared.data.Make.TheVariants as make
use Rattle.hd_model.specs.declared.data.Reply.TheVariants as reply
use Rattle.hd_model.specs.declared.data.Refusal.TheVariants as refusal
use Rattle.hd_model.specs.declared.command.Cmd.TheVariants as cmd
use Rattle.hd_laws.specs.UserLaws as law

-- one caller, four blocks, and a heap of some cells
abbrev pub sized : ℕ → Numbers
sized heap = record { heap = heap; blocks = 4; callers = 1 }

abbrev pub numbers : Numbers
numbers = sized 4

abbrev pub s0 : State
s0 = start_of numbers

-- `new r0 1 fin` makes the first object, of 4 cells
abbrev pub first : Id
first = identity_of 0 1

abbrev pub e1 : Entry
e1 = record { caller = 0; cmd = cmd.New 0 1 true; slot = None; grown = Zero; reply = reply.Object first }

abbrev pub s1 : State
s1 = with_register (with_serial (with_object s0 first (fresh_object 1 true)) 0 1) 0 0 (Some first)

made : new_object numbers s0 0 0 1 true ≡ reply_with (reply.Object first) s1
made = ap (λ k. if nat_lt 4 (k + (1 + 3)) then refuses (refusal.HeapFull (total_size s0) (1 + 3)) s0
    else reply_with (reply.Object first) s1) (start_total numbers)

pub step1 : Step numbers s0 e1 s1
step1 = record {
  caller = lit< tt;
  valid = (lit< tt, omega arith);
  does = (
    lit< tt,
    subst (λ o. IsOutcome e1 o s1) (sym made)
        (record { reply = refl; slot = refl; grown = refl; after = refl }),
  );
}

-- a heap of 3 cells is full for it
abbrev e_full : Entry
e_full = record {
  caller = 0;
  cmd = cmd.New 0 1 true;
  slot = None;
  grown = Zero;
  reply = reply.Refused (refusal.HeapFull 0 4);
}

refused : new_object (sized 3) s0 0 0 1 true ≡ refuses (refusal.HeapFull 0 4) s0
refused = ap (λ k. if nat_lt 3 (k + (1 + 3)) then refuses (refusal.HeapFull k (1 + 3)) s0
    else reply_with (reply.Object first) s1) (start_total numbers)

pub step_full : Step (sized 3) s0 e_full s0
step_full = record {
  caller = lit< tt;
  valid = (lit< tt, omega arith);
  does = (
    lit< tt,
    subst (λ o. IsOutcome e_full o s0) (sym refused)
        (record { reply = refl; slot = refl; grown = refl; after = refl }),
  );
}

-- `hnew h0 pinned r0` grows the table by block 1
abbrev e2 : Entry
e2 = record {
  caller = 0;
  cmd = cmd.HNew 0 make.Pinned 0;
  slot = Some (first_slot 1);
  grown = One 1;
  reply = reply.Done;
}

abbrev s2 : State
s2 = with_made s1 0 (One 1) 0 make.Pinned 0 (first_slot 1)

pub step2 : Step numbers s1 e2 s2
step2 = record {
  caller = lit< tt;
  valid = (lit< tt, tt, lit< tt);
  does = inl (record {
    slot = first_slot 1;
    given = refl;
    may = (
      refl,
      record {
        low = omega arith;
        high = omega arith;
        unused = get-empty nat_cmp 1;
        least = λ other low high. absurd (omega arith);
      },
      refl,
    );
    reply = refl;
    after = refl;
  });
}

pins_first : PinsBy s2 0 0 first
pins_first = record {
  slot = first_slot 1;
  handle = made_handle s1 0 make.Pinned 0;
  has = refl;
  live = get_inserted s1.handles 64 (made_handle s1 0 make.Pinned 0);
  pins = refl;
  target = refl;
}

-- `addr h0` returns 256, as no other address is pinned
abbrev e3 : Entry
e3 = record { caller = 0; cmd = cmd.AddrOf 0; slot = None; grown = Zero; reply = reply.Place 256 }

abbrev s3 : State
s3 = with_address s2 first 256

free : (id : Id) → MayReturn s2 id 256
free id =
    subst (λ o. MatchOption o (IsFreeAddress s2 id 256) (λ own. 256 ≡ own)) (sym (get-empty nat_cmp id.0))
    (record {
      small = lit< tt;
      apart = λ y other is. absurd (none-some other (sym (get-empty nat_cmp y.0) ∙ is));
    })

pub step3 : Step numbers s2 e3 s3
step3 = record {
  caller = lit< tt;
  valid = lit< tt;
  does = record {
    address = 256;
    may = λ id is. free id;
    outcome = subst (λ o. IsOutcome e3 o s3) (sym (reply_is s2 0 0 first pins_first 256))
        (record { reply = refl; slot = refl; grown = refl; after = refl });
  };
}

pub run3 : Run numbers (e1 ∷ e2 ∷ e3 ∷ []) s3
run3 = link step1 (link step2 (link step3 stay))

-- `copy r1 r0` leaves the object pinned, and `addr h0` returns 256 again
abbrev e4 : Entry
e4 = record { caller = 0; cmd = cmd.Copy 1 0; slot = None; grown = Zero; reply = reply.Done }

abbrev s4 : State
s4 = with_register s3 0 1 (Some first)

pub since : Since numbers (Unpins first) s2 e3 s4
since = record {
  well_formed = run_is_well_formed numbers (e1 ∷ e2 ∷ []) s2 (link step1 (link step2 stay));
  after = s3;
  first = step3;
  others = e4 ∷ [];
  rest = link (
    record {
      caller = lit< tt;
      valid = (lit< tt, lit< tt);
      does = record { reply = refl; slot = refl; grown = refl; after = refl };
    },
    λ unpins. unpins (pinned_by_it s2 0 0 first pins_first),
  ) stay;
}

pub pins_still : PinsBy s4 0 0 first
unfolding pins_first
pins_still = record {
  slot = first_slot 1;
  handle = pins_first.handle;
  has = refl;
  live = pins_first.live;
  pins = refl;
  target = refl;
}

pub has_address : get s4.pinned first.0 ≡ Some 256
has_address = get_inserted s2.pinned first.0 256

-- so the object takes the cells from 256 to 260
pub takes_cells : TakesCells s4 first 256 260
takes_cells = record {
  object = fresh_object 1 true;
  is_stored = get_inserted s0.objects first.0 (fresh_object 1 true);
  address = has_address;
  end_is = refl;
}

-- the new object is of generation 0 and registered
pub gives_generation : GivesGeneration s0 e1 first 0
gives_generation = law.GivesGeneration.by_new refl refl

pub gives_registration : GivesRegistration first s0 e1 s1 true
gives_registration = law.GivesRegistration.by_new refl refl

-- every command but three needs nothing more than that it is valid
pub has_way : HasWay numbers s0 0 (cmd.Final 3)
has_way = record {
  serial = λ d fields fin is. absurd (not_new is);
  address = λ h id is. absurd
      (not_addr is);
}
  where
    not_new : {d fields : ℕ} {fin : Bool} → cmd.Final 3 ≡ cmd.New d fields fin → ⊥
    not_new is = cc

    not_addr : {h : ℕ} → cmd.Final 3 ≡ cmd.AddrOf h → ⊥
    not_addr is = cc

-- a well formed state in which the object is queued for finalization, and `final r1` of it
abbrev with_queued : State
with_queued = with_queue s1 (first ∷ [])

pub queued_is_well_formed : IsWellFormed numbers with_queued
queued_is_well_formed =
    queue_keeps numbers s1 (run_is_well_formed numbers (e1 ∷ []) s1 (link step1 stay)) (first ∷ [])
    (λ id h. ⊎_elim (λ same. subst (λ (x : Id). IsSome (get s1.objects x.0)) same
    (ap is_some (get_inserted s0.objects first.0 (fresh_object 1 true))))
    (λ none. absurd (not_in_none id none)) (member_cases first [] id h))
    (pairs_cons (λ x y. x ≢ y) first [] (λ y none. absurd (not_in_none y none)) (pairs_none (λ x y. x ≢ y)))

pub step_final : Step numbers with_queued
    (record { caller = 0; cmd = cmd.Final 1; slot = None; grown = Zero; reply = reply.Object first })
    (with_register s1 0 1 (Some first))
step_final = record {
  caller = lit< tt;
  valid = lit< tt;
  does = record { reply = refl; slot = refl; grown = refl; after = refl };
}

-- a collection of 0 in which an object joins the queue
pub after_busy : HasCollection 0 busy
after_busy = premises_are_met.after_busy

abbrev e_collect : Entry
e_collect = record
    { caller = 0; cmd = cmd.Collect 0; slot = None; grown = Zero; reply = reply.Report after_busy.report }

pub step_collect : Step few busy e_collect after_busy.after
step_collect = record {
  caller = lit< tt;
  valid = omega arith;
  does = record {
    report = after_busy.report;
    reply = refl;
    slot = refl;
    grown = refl;
    collects = after_busy.collects;
  };
}

pub joins_queue : JoinsBy (id_of 3) busy e_collect after_busy.after
joins_queue = record {
  k = 0;
  command = refl;
  joins = ((objects_are_resurrected_once few 0 busy after_busy.after after_busy.report (record {
    well_formed = premises_are_met.busy_is;
    collects = after_busy.collects;
  })).joins (id_of 3)).1 premises_are_met.resurrected;
}
