-- What is due, by the set of the lines that may come.
use Rattle.std.proofs.Common.{IfSome, None, Option, Some, ap, refl, subst, sym, ℕ, ◌∙◌, ◌≡◌}
use mathlib.Core.Logic.{inl, inr}
use Rattle.std.proofs.lemmas.Option.{same_Some}
use Rattle.hd_model.specs.declared.data.Entry.{Entry}
use Rattle.hd_model.specs.declared.data.Grown.{Grown}
use Rattle.hd_model.specs.declared.data.Grown.TheVariants.{Back, Zero}
use Rattle.hd_model.specs.declared.data.Id.{Id}
use Rattle.hd_model.specs.declared.data.Kind.{Kind}
use Rattle.hd_model.specs.declared.data.Reply.TheVariants as reply
use Rattle.hd_model.specs.declared.data.Slot.{Slot}
use Rattle.hd_model.specs.State.{given_of}
use Rattle.hd_model.specs.Step.{MayGive}
use Rattle.hd_audit.specs.Before.{GivesBlock, ReturnsFree, TakesSlot, due_of}
use Rattle.hd_plain.specs.OneEntry.{HasExactly}
use Rattle.hd_audit.specs.Known.{Known}
use Rattle.hd_view.specs.Accepted.{IsEntryOf, IsNamed, IsSetOf}
use Rattle.hd_view.specs.{Inside.IsAddressNext, Inside.IsBlockNext, Inside.IsDueOf, Inside.IsOnlyLike, Inside.IsSlotNext, Cause.DueHas, Cause.IsLike, Cause.IsNext}
use Rattle.hd_view.specs.Stated.{HasReply, Parts}
use Rattle.hd_view.specs.declared.accepted.Accepted.TheVariants as accepted
use Rattle.hd_view.specs.declared.accepted.Due.{Due}
use Rattle.hd_view.specs.declared.sets.NumberSet.{NumberSet}
use Rattle.hd_view.proofs.CauseFacts.{named_next, next_cmd, next_named, number_is}
use Rattle.hd_view.proofs.ReplyWords.{full_apart}

-- an entry of what is due of a line's caller
module _ (k : Known) (p : Parts) (due : Due) (of : IsDueOf k p due) (P : Entry → Type 0)
    (exactly : HasExactly k.numbers k.state due.caller due.cmd P) where
  next_is : (e : Entry) → IsNext k p e → P e
  next_is e next = (exactly e (next.caller ∙ sym of.caller) (next_cmd k p due of e next)).0 (next.after, next.step)

  is_next : (e : Entry) → e.caller ≡ due.caller → e.cmd ≡ due.cmd → P e → IsNext k p e
  is_next e by command is =
      let step = (exactly e by command).1 is in
      record {
        caller = by ∙ of.caller;
        due = ap (due_of k) by ∙ of.is_due.due_is ∙ ap Some (sym command);
        after = step.0;
        step = step.1;
      }

  pub due_has : DueHas k p P
  due_has = (
    due.cmd,
    ap (due_of k) (sym of.caller) ∙ of.is_due.due_is,
    subst (λ caller. HasExactly k.numbers k.state caller due.cmd P) of.caller exactly,
  )

-- a new row
module _ (k : Known) (p : Parts) (due : Due) (of : IsDueOf k p due) (kind : Kind) (free : NumberSet)
    (grown full : Option Entry) (is : due.accepted ≡ accepted.Slots kind free grown full) where
  own : IsSetOf k due.caller due.cmd (accepted.Slots kind free grown full)
  own = subst (λ a. IsSetOf k due.caller due.cmd a) is of.is_due.own

  -- its slot, or the reply of a full table
  by_row : (e : Entry) → IsNext k p e → TakesSlot k.numbers k.state kind e
  by_row e next = next_is k p due of (TakesSlot k.numbers k.state kind) own.0 e next

  -- where the line has the reply of a full table
  pub full_only : (entry : Entry) → full ≡ Some entry → IsLike p entry.reply → IsOnlyLike k p entry
  full_only entry some like = record {
    next = named_next k p due of entry its (subst (λ a. IsNamed a entry) (sym is) (inr (inr some)));
    number = number_is k p due of;
    like = like;
    only = λ e next has. by e next has (by_row e next);
  }
    where
      its : IsEntryOf due.caller due.cmd entry
      its = subst (λ (o : Option Entry). IfSome o (IsEntryOf due.caller due.cmd)) some own.2

      by : (e : Entry) → IsNext k p e → IsLike p e.reply → TakesSlot k.numbers k.state kind e
          → e ≡ entry
      by e next has (inl g) =
          let refused = (own.1 entry its.caller_is its.command).1 some in
          absurd (full_apart p.tail (given_of k.state) (subst (λ r. HasReply p.tail r) refused.1 like.0)
          (subst (λ r. HasReply p.tail r) g.3 has.0))
      by e next has (inr f) =
          same_Some e entry (sym ((own.1 e (next.caller ∙ sym of.caller) (next_cmd k p due of e next)).0 f) ∙ some)

  -- and where it has not
  pub slot_next : ((entry : Entry) → full ≡ Some entry → IsLike p entry.reply → ⊥)
      → IsSlotNext k p kind
  slot_next none = record {
    number = number_is k p due of;
    due = due_has k p due of (TakesSlot k.numbers k.state kind) own.0;
    each = λ e next has. by e next has (by_row e next);
    next = λ slot grew may.
        let e : Entry =
        record { caller = due.caller; cmd = due.cmd; slot = Some slot; grown = grew; reply = reply.Done } in (
          e,
          is_next k p due of (TakesSlot k.numbers k.state kind) own.0 e refl refl (inl (slot, refl, may, refl)),
          refl,
          refl,
          refl,
        );
  }
    where
      by : (e : Entry) → IsNext k p e → IsLike p e.reply → TakesSlot k.numbers k.state kind e
          → (slot : Slot) × (e.slot ≡ Some slot) × MayGive k.numbers k.state kind e.grown slot
          × (e.reply ≡ reply.Done)
      by e next has (inl g) = g
      by e next has (inr f) =
          absurd (none e ((own.1 e (next.caller ∙ sym of.caller) (next_cmd k p due of e next)).0 f) has)

-- an address
pub address_next : (k : Known) (p : Parts) (due : Due) → IsDueOf k p due → (id : Id) (free : NumberSet)
    → due.accepted ≡ accepted.Addresses id free → IsAddressNext k p id free
address_next k p due of id free is = record {
  number = number_is k p due of;
  due = due_has k p due of (ReturnsFree k.state id) (subst (λ a. IsSetOf k due.caller due.cmd a) is of.is_due.own);
  each = λ e next. subst (λ a. IsNamed a e) is (next_named k p due of e next);
  next = λ address member.
      let e : Entry = record {
        caller = due.caller;
        cmd = due.cmd;
        slot = None;
        grown = Zero;
        reply = reply.Place address;
      } in
      let its : IsEntryOf due.caller due.cmd e = record { caller_is = refl; command = refl } in (
        e,
        named_next k p due of e its (subst (λ a. IsNamed a e) (sym is) (address, member, refl, refl, refl)),
        refl,
        refl,
        refl,
      );
}

-- a block
abbrev value_entry : Due → ℕ → Grown → Entry
value_entry due n grown =
    record { caller = due.caller; cmd = due.cmd; slot = None; grown = grown; reply = reply.Value n }

pub block_next : (k : Known) (p : Parts) (due : Due) → IsDueOf k p due → (kind : Kind) (free : NumberSet)
    → due.accepted ≡ accepted.Blocks kind free → IsBlockNext k p kind
block_next k p due of kind free is = record {
  number = number_is k p due of;
  due = due_has k p due of (GivesBlock k.state kind) own;
  each = λ e next. next_is k p due of (GivesBlock k.state kind) own e next;
  none = (
    value_entry due 0 Zero,
    is_next k p due of (GivesBlock k.state kind) own (value_entry due 0 Zero) refl refl (inr (refl, refl, refl)),
    refl,
    refl,
    refl,
  );
  next = λ block free_block. (
    value_entry due 1 (Back block),
    is_next k p due of (GivesBlock k.state kind) own (value_entry due 1 (Back block)) refl refl
        (inl (block, free_block, refl, refl, refl)),
    refl,
    refl,
    refl,
  );
}
  where
    own : HasExactly k.numbers k.state due.caller due.cmd (GivesBlock k.state kind)
    own = subst (λ a. IsSetOf k due.caller due.cmd a) is of.is_due.own
