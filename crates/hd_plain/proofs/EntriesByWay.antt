-- The entries that a command may have are those of its way; one entry, where it has one.
use Rattle.std.proofs.Common.{ap, refl, subst, sym, ℕ, ◌<◌, ◌≡◌}
use Rattle.hd_model.specs.declared.command.Cmd.{Cmd}
use Rattle.hd_model.specs.declared.data.Entry.{Entry}
use Rattle.hd_model.specs.declared.data.Reply.{Reply}
use Rattle.hd_model.specs.declared.data.Reply.TheVariants as reply
use Rattle.hd_model.specs.State.{Numbers, State}
use Rattle.hd_model.specs.Step.{Step, TakesWay, Way, way_of}
use Rattle.hd_model.specs.Valid.{IsValid}
use Rattle.hd_plain.specs.declared.choice.Choice.{Choice}
use Rattle.hd_commands.specs.declared.done.Done.{Done}
use Rattle.hd_plain.specs.OneEntry.{HasExactly, HasOne}
use Rattle.hd_plain.specs.ChosenSteps.{HasChoice}
use Rattle.hd_commands.specs.Done.{entry_by}

-- the choice that an entry has
abbrev address_in : Reply → ℕ
address_in (reply.Place p) = p
address_in (reply.Object id) = 0
address_in (reply.Value n) = 0
address_in (reply.Generation g) = 0
address_in (reply.Report r) = 0
address_in (reply.Chain from edges) = 0
address_in (reply.Refused r) = 0
address_in reply.Done = 0
address_in reply.Nothing = 0
address_in reply.NoneQueued = 0
address_in reply.Absent = 0
address_in reply.Unrooted = 0

abbrev own_choice : Entry → Choice
own_choice e = record { caller = e.caller; slot = e.slot; grown = e.grown; address = address_in e.reply }

has_own : (e : Entry) → HasChoice e (own_choice e)
has_own e =
    record { caller = refl; slot = refl; grown = refl; address = λ p is. ap address_in is }

module _ (n : Numbers) (s : State) (caller : ℕ) (c : Cmd) (known : caller < n.callers) (valid : IsValid c)
  where
    -- a step of the command goes its way, and what goes its way is a step
    goes : (e : Entry) (after : State) → e.caller ≡ caller → e.cmd ≡ c → Step n s e after
        → TakesWay n s e after (way_of s caller c)
    goes e after by of step =
        subst (λ x. TakesWay n s e after (way_of s caller x)) of
        (subst (λ k. TakesWay n s e after (way_of s k e.cmd)) by step.does)

    steps : (e : Entry) (after : State) → e.caller ≡ caller → e.cmd ≡ c
        → TakesWay n s e after (way_of s caller c) → Step n s e after
    steps e after by of takes = record {
      caller = subst (λ k. k < n.callers) (sym by) known;
      valid = subst IsValid (sym of) valid;
      does = subst (λ k. TakesWay n s e after (way_of s k e.cmd)) (sym by)
          (subst (λ x. TakesWay n s e after (way_of s caller x)) (sym of) takes);
    }

    -- so the entries of its steps are those of its way
    pub by_way : (way : Way) → way_of s caller c ≡ way → (P : Entry → Type 0)
        → ((e : Entry) (after : State) → e.caller ≡ caller → e.cmd ≡ c → TakesWay n s e after way → P e)
        → ((e : Entry) → e.caller ≡ caller → e.cmd ≡ c → P e → (after : State) × TakesWay n s e after way)
        → HasExactly n s caller c P
    by_way way is P there back = λ e by of. (
      λ found. there e found.0 by of (subst (TakesWay n s e found.0) is (goes e found.0 by of found.1)),
      λ p. let done = back e by of p in
          (done.0, steps e done.0 by of (subst (TakesWay n s e done.0) (sym is) done.1)),
    )

    -- one entry, where the machine comes to it whatever a line states
    pub one_entry : (new : State) (made : Done)
        → ((choice : Choice) → (x : Cmd) → (TakesWay n s (entry_by caller x made) new (way_of s caller c))
        × ((e : Entry) (t : State) → TakesWay n s e t (way_of s caller c) → e.caller ≡ caller → e.cmd ≡ x
        → HasChoice e choice → e ≡ entry_by caller x made))
        → HasOne n s caller c (entry_by caller c made)
    one_entry new made comes = record {
      caller_is = refl;
      command = refl;
      only = by_way (way_of s caller c) refl (λ e. e ≡ entry_by caller c made)
          (λ e t by of takes. (comes (own_choice e) c).1 e t takes by of (has_own e))
          (λ e by of is. (
            new,
            subst (λ x. TakesWay n s x new (way_of s caller c)) (sym is) (comes (own_choice e) c).0,
          ));
    }
