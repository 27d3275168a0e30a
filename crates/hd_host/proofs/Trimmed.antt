-- What `trim` of a host gives back.
use Rattle.std.proofs.Common.{List, None, Option, inl, inr, refl, subst, sym, ℕ, ◌<◌, ◌∙◌, ◌≡◌, ◌≤◌, ◌↔◌, ⊎_elim, arith}
use Rattle.std.specs.FinMap.{empty}
use Rattle.hd_model.proofs.AgedRuns.{nothing_at}
use Rattle.hd_model.specs.{declared.command.Cmd.Cmd, declared.data.Entry.Entry, declared.data.Kind.Kind, PinnedAddresses.with_pinned, Run.NoneAllFree, Run.TakesLeast, Step.StepOf}
use Rattle.hd_model.specs.declared.command.Cmd.TheVariants as cmd
use Rattle.hd_model.specs.declared.data.Grown.TheVariants as grown
use Rattle.hd_model.specs.declared.data.Reply.TheVariants as reply
use Rattle.hd_model.specs.{declared.data.Grown.Grown, declared.data.Slot.Slot, State.Numbers, State.State}
use Rattle.hd_commands.specs.Done.{entry_by}
use Rattle.hd_pool.specs.Pool.{FreeSlots}
use Rattle.hd_slots.specs.Change.{MayNote, Offers, noted}
use Rattle.hd_slots.specs.declared.change.Change.TheVariants.{GivesBack}
use Rattle.hd_store.specs.{Calls.HasCalled, Offers.IsOffer, Replies.done_trimming, Replies.given_back, Store.Machine}
use Rattle.hd_host.specs.{declared.change.Change.Change, Calls.Trims, Changes.change_by, Steps.HasStepped, Steps.pointed, View.HostView, View.state_in, Inside.HasMoved, Inside.HasNoSlot, Inside.IsHost}
use Rattle.hd_host.proofs.CallPool.{may_be_offered}
use Rattle.hd_host.proofs.CallHost.{done_by, host_after, known_in, may_note_by, stepped_by, view_of}
use Rattle.hd_host.proofs.{Registers.not_pointed, ValueCalls.moved_plainly, WholeHost.IsWhole, WholeHost.whole}

value_same : {a b : ℕ} → reply.Value a ≡ reply.Value b → a ≡ b
value_same {a = a} {b = b} is = let same = is in cc

module _ (n : Numbers) (s : State) (e : Entry) (t : State) (kind : Kind) (given : ℕ)
    (is : e.reply ≡ reply.Value given) (least : TakesLeast s e (cmd.Trim kind)) where
  trimmed : StepOf n s e t (cmd.Trim kind) → (given ≤ 1) × ((given ≡ 0) ↔ NoneAllFree s kind)
  trimmed (inl gives) =
      let one : given ≡ 1 = value_same (sym is ∙ gives.reply) in (
        omega (arith, one),
        ((λ zero. absurd (omega (arith, one, zero))), (λ none. absurd (none gives.block gives.free))),
      )
  trimmed (inr none) =
      let zero : given ≡ 0 = value_same (sym is ∙ none.reply) in (
        omega (arith, zero),
        ((λ _. ⊎_elim (λ back. absurd (not_back back.0 (sym none.grown ∙ back.2))) (λ free. free) least), (λ _. zero)),
      )
    where
      not_back : (block : ℕ) → grown.Zero ≡ grown.Back block → ⊥
      not_back block same = let clash = same in cc

pub trims_by : (m k : Machine) (e : Entry) (kind : Kind) (given : ℕ) → HasNoSlot m.state 0
    → HasStepped m 0 None (cmd.Trim kind) k e → e.reply ≡ reply.Value given
    → (given ≤ 1) × ((given ≡ 0) ↔ NoneAllFree (state_in m) kind)
trims_by m k e kind given none stepped is =
    let goes = stepped.effect empty (λ x at found. absurd (nothing_at x at found)) in
    subst (λ (x : Machine). (given ≤ 1) × ((given ≡ 0) ↔ NoneAllFree (state_in x) kind)) (not_pointed m 0 none)
    (trimmed m.numbers (state_in (pointed m 0 None)) e (with_pinned stepped.after.state goes.pinned) kind given is
    stepped.least
    (subst (λ (x : Cmd). StepOf m.numbers (state_in (pointed m 0 None)) e
    (with_pinned stepped.after.state goes.pinned) x) stepped.command_is.1 goes.step.does))

module _ {m : Machine} {p : FreeSlots} {stamps : List ℕ} {last : Change} {v : HostView} (host : IsHost m p stamps)
    (view : view_of m stamps last ≡ v) (kind : Kind) (q : FreeSlots) (o : Option Slot)
    (offers : Offers p q (GivesBack kind) o) where
  all : IsWhole v
  all = whole host view

  known : 0 < v.machine.numbers.callers
  known = omega (arith, all.limits.callers.0)

  pub may_offer : IsOffer m.state 0 (cmd.Trim kind) o
  may_offer = may_be_offered m p q host.tied 0 (known_in view known) None (cmd.Trim kind) o offers

  module _ {k : Machine} {grown : Grown}
      (called : HasCalled m 0 (cmd.Trim kind) o k (entry_by 0 (cmd.Trim kind) (done_trimming grown))) where
    did : HasMoved m 0 None (cmd.Trim kind) o k (entry_by 0 (cmd.Trim kind) (done_trimming grown))
    did = moved_plainly host called refl

    pub may_note : MayNote q (GivesBack kind) None grown
    may_note = may_note_by host view known did q offers

    pub host_trimmed : (r : FreeSlots) → r ≡ noted q (GivesBack kind) None grown → IsHost k r stamps
    host_trimmed r is = host_after host view known did q offers r is refl

    pub trims : {given : ℕ} {after : Change} → after ≡ change_by None grown → given ≡ given_back grown
        → Trims v kind given (view_of k stamps after)
    trims {given = given} after_is given_is =
        subst (λ (z : Change). Trims v kind given (view_of k stamps z)) (sym after_is)
        (subst (λ n. Trims v kind n (view_of k stamps (change_by None grown))) (sym given_is) (
        let by = trims_by v.machine k (entry_by 0 (cmd.Trim kind) (done_trimming grown)) kind (given_back grown)
        (all.empty 0 0) (stepped_by host view known did q offers) refl in
        record {
          replied = record {
            entry = entry_by 0 (cmd.Trim kind) (done_trimming grown);
            done = done_by host view known did q offers refl refl;
            reply = refl;
          };
          at_most_one = by.0;
          none = by.1;
        }))
