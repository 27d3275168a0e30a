-- A call of one thread: what its pool is after it, and that its slots and blocks are the least.
use Rattle.hd_gate.proofs.Basics.{Change, Cmd, Entry, FindsFullExactly, FreeSlots, GrowsFor, GrowsUnoffered, HasCalled, IsTied, Kind, MayNote, Numbers, Offers, Option, Slot, StepOf, Stepped, TakesFor, TrimsExactly, WorldView, ap, change_in, noted, refl, subst, sym, ℕ, ◌∙◌, ◌≡◌}
use Rattle.std.specs.Option.{ForSome}
use Rattle.hd_store.specs.Offers.{Takes as TakesOffer}
use Rattle.hd_slots.proofs.StepLiveSlots.{taken_for, takes_or_full}
use Rattle.hd_slots.proofs.PoolStep.{by_change, takes_least_of, finds_full, trims_none, trims_some}
use Rattle.hd_model.specs.declared.command.Cmd.TheVariants as cmd

module _ {u w : WorldView} {p : FreeSlots} (tied : IsTied u.numbers u.state p) (q : FreeSlots) {caller : ℕ}
    {c : Cmd} {o : Option Slot} (offers : Offers p q (change_in u.state caller c) o) {e : Entry}
    (did : Stepped u w caller c o e) where
  does : StepOf u.numbers u.state e w.state c
  does = subst (StepOf u.numbers u.state e w.state) did.applied.command.1 did.applied.step.does

  -- what was offered, taken and grown, by the command of the entry
  abbrev Given : ℕ → Cmd → Type 0
  Given k x = Offers p q (change_in u.state k x) o × ForSome o (TakesOffer u.state k e x)
      × GrowsUnoffered u.numbers u.state k x o e

  given : Given e.caller e.cmd
  given = subst (λ k. Given k e.cmd) (sym did.applied.command.0)
      (subst (Given caller) (sym did.applied.command.1) (offers, did.applied.offer, did.applied.growth))

  abbrev Noted : Change → Type 0
  Noted change = MayNote q change e.slot e.grown × IsTied u.numbers w.state (noted q change e.slot e.grown)

  follows : Noted (change_in u.state caller c)
  follows =
      subst (λ k. Noted (change_in u.state k c)) did.applied.command.0
      (subst (λ (x : Cmd). Noted (change_in u.state e.caller x)) did.applied.command.1
      (by_change u.numbers u.state p tied e w.state did.applied.step q o given.1 given.2
      (change_in u.state e.caller e.cmd) refl given.0))

  pub may_note : MayNote q (change_in u.state caller c) e.slot e.grown
  may_note = follows.0

  pub tied_after : (after : FreeSlots) → after ≡ noted q (change_in u.state caller c) e.slot e.grown
      → IsTied w.numbers w.state after
  tied_after after is = subst (λ (n : Numbers). IsTied n w.state after) (sym did.applied.numbers)
      (subst (IsTied u.numbers w.state) (sym is) follows.1)

  pub has_called : HasCalled u w caller c e.reply
  has_called = record {
    entry = e;
    caller_is = did.applied.command.0;
    command_is = did.applied.command.1;
    reply_is = refl;
    journal = did.applied.journal;
    step = record {
      step = did.applied.step;
      least = takes_least_of u.numbers u.state p q tied e e.cmd o given.0 given.1;
    };
    numbers = did.applied.numbers;
    spare = did.applied.spare;
  }

  pub full_exactly : FindsFullExactly u caller c e.reply
  full_exactly kind asks =
      let takes = taken_for u.state caller c kind asks in
      finds_full u.numbers u.state p q tied e w.state did.applied.step kind o
      (subst (λ x. Offers p q x o) takes offers)
      (subst (λ a. ForSome o (TakesFor e a)) asks did.applied.offer)
      (subst (λ a. GrowsFor u.numbers u.state a o e) asks did.applied.growth)
      (takes_or_full u.numbers u.state tied.well_formed e w.state did.applied.step kind c
      (ap (λ k. change_in u.state k c) did.applied.command.0 ∙ takes) does)

  module _ (kind : Kind) (is : c ≡ cmd.Trim kind) where
    given_back : Given e.caller (cmd.Trim kind)
    given_back = subst (Given e.caller) (did.applied.command.1 ∙ is) given

  pub trims_exactly : TrimsExactly u c e.reply
  trims_exactly = record {
    none = λ kind is. (let (offered, taken, grows) = given_back kind is in
        trims_none u.numbers u.state p q tied e kind o offered taken grows);
    some = λ kind is. (let (offered, taken, grows) = given_back kind is in
        trims_some u.numbers u.state p q tied e kind o offered taken);
  }
