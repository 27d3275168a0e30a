-- A command that writes the state alone was done, without a handle: what a host owes for it.
use Rattle.hd_model.proofs.Basics.{FinMap, List, None, Option, State, StepOf, [], ap, get_or, nat_cmp, refl, set, subst, suc, sym, with_pinned, zero, ℕ, ◌<◌, ◌∷◌, ◌≡◌}
use Rattle.hd_model.specs.{declared.command.Cmd.Cmd, declared.data.Entry.Entry, declared.data.Id.Id, declared.data.Slot.Slot, Aging.aged_by_class, Class.class_of, Heap.Heap, Run.ChoosesLeast, Valid.IsValid}
use Rattle.hd_model.specs.declared.class.Class.TheVariants as class
use Rattle.hd_model.specs.declared.data.Reply.TheVariants as reply
use Rattle.hd_commands.specs.Done.{entry_by, replied}
use Rattle.hd_store.specs.{PinnedAddresses.KeepsPinned, StateHeap.IsStoredAt, Store.Machine}
use Rattle.hd_host.specs.{Calls.HasReplied, Changes.no_change, Inside.HasNoSlot, Replies.RepliesTo, Steps.pointed, View.HostView, View.state_in}
use Rattle.hd_host.proofs.Registers.{not_pointed}

-- a handle register that was emptied has no slot
first_none : (row : List (Option Slot)) → get_or (set row 0 None) 0 None ≡ None
first_none [] = refl
first_none (x ∷ row) = refl

pub none_there : (rows : List (List (Option Slot))) (c : ℕ)
    → get_or (get_or (set rows c (set (get_or rows c []) 0 None)) c []) 0 None ≡ None
none_there [] c = refl
none_there (row ∷ rows) zero = first_none row
none_there (row ∷ rows) (suc c) = none_there rows c

module _ (v : HostView) (context : ℕ) (c : Cmd) (t : State) (h : Heap) where
  abbrev pub done_entry : Entry
  done_entry = entry_by context c (replied reply.Done)

  -- the host after it
  abbrev pub leaves : HostView
  leaves = record { machine = record v.machine { state = t; heap = h }; stamps = v.stamps; last = no_change }

  module _ (none : HasNoSlot v.machine.state context) (none_left : HasNoSlot t context)
      (plain : class_of c ≡ class.Plain) (replies : RepliesTo c reply.Done) (valid : IsValid c)
      (known : context < v.machine.numbers.callers)
      (keeps : (x : Id) (a : ℕ) → IsStoredAt v.machine.heap x a → IsStoredAt h x a)
      (does : (before : FinMap nat_cmp ℕ)
      → StepOf v.machine.numbers (with_pinned v.machine.state before) done_entry (with_pinned t before) c)
    where
      effect : KeepsPinned v.machine done_entry leaves.machine
      effect = λ before are. record {
        pinned = before;
        step = record { caller = known; valid = valid; does = does before };
        addresses = are;
        ages = ap (λ k. aged_by_class (with_pinned v.machine.state before) context None v.machine.ages k) (sym plain);
        numbers = refl;
        heap = record {
          cards = λ n report _ said card. absurd (cc said);
          compact = λ report _ said. absurd (cc said);
        };
      }

      pub done_plainly : HasReplied v context None c reply.Done leaves
      done_plainly = record {
        entry = done_entry;
        done = record {
          stepped = record {
            after = leaves.machine;
            command_is = (refl, refl);
            effect = subst (λ (m : Machine). KeepsPinned m done_entry leaves.machine)
                (sym (not_pointed v.machine context none)) effect;
            least = subst (ChoosesLeast (state_in (pointed v.machine context None)) done_entry) (sym plain) tt;
            addresses = record {
              returned = λ handle address x _ said _. absurd (cc said);
              pinned = λ x a _ at. keeps x a at;
              others = λ _ x a at. keeps x a at;
            };
            new_is = sym (not_pointed leaves.machine context none_left);
          };
          done = refl;
          replies = replies;
          stamps = refl;
          last = refl;
        };
        reply = refl;
      }
