-- A command goes by its way: the entry that the machine makes is one of it, and the only one that the line
-- can be of.
use Rattle.std.proofs.Common.{None, Option, Some, ap, refl, subst, sym, ℕ, ◌∙◌, ◌≡◌}
use Rattle.std.specs.Prelude.{Ok, Result}
use Rattle.std.specs.Option.{option_map_or}
use Rattle.hd_model.specs.declared.command.Cmd.{Cmd}
use Rattle.hd_model.specs.declared.data.Entry.{Entry}
use Rattle.hd_model.specs.declared.data.Grown.TheVariants.{Zero}
use Rattle.hd_model.specs.declared.data.Id.{Id}
use Rattle.hd_model.specs.declared.data.Refusal.{Refusal}
use Rattle.hd_model.specs.declared.data.Refusal.TheVariants as refusal
use Rattle.hd_model.specs.declared.data.Reply.{Reply}
use Rattle.hd_model.specs.declared.data.Reply.TheVariants as reply
use Rattle.hd_model.specs.declared.data.Report.{Report}
use Rattle.hd_model.specs.Collect.{CollectsState}
use Rattle.hd_model.specs.Command.{Outcome, reply_root, refuses, reply_with}
use Rattle.hd_model.specs.State.{State, register_of}
use Rattle.hd_model.specs.Step.{IsOutcome, Step, TakesWay, Way, adds_entry, collects, decided, gives_back, makes_handle, makes_object, replies_address, replies_root, way_of}
use Rattle.hd_model.specs.Anchors.{ReturnsRoot}
use Rattle.hd_model.proofs.Collections.{one_collection}
use Rattle.hd_model.proofs.AnchorChains.{one_root}
use Rattle.hd_commands.specs.declared.done.Done.{Done}
use Rattle.hd_plain.specs.declared.choice.Choice.{Choice}
use Rattle.hd_plain.specs.MachineViews.{MachineView, seen_by}
use Rattle.hd_plain.specs.Commands.{ComesToRoot, MayStep}
use Rattle.hd_plain.specs.ChosenSteps.{IsNoStep, IsTheStep, WayComesTo}
use Rattle.hd_commands.specs.Done.{entry_by}
use Rattle.hd_commands.specs.Done.{done_of}
use Rattle.hd_commands.specs.Decided.{DecidedBy}

-- an entry with these parts
pub same_entry : (e : Entry) (caller : ℕ) (c : Cmd) (made : Done) → e.caller ≡ caller → e.cmd ≡ c
    → e.slot ≡ made.slot → e.grown ≡ made.grown → e.reply ≡ made.reply → e ≡ entry_by caller c made
same_entry e caller c made by of slot grown replied =
    λ i. record { caller = by i; cmd = of i; slot = slot i; grown = grown i; reply = replied i }

-- one of the entries that an outcome has
abbrev done_by : Outcome → Done
done_by wanted = record { reply = wanted.reply; slot = wanted.slot; grown = Zero }

module _ (caller : ℕ) (choice : Choice) (old new : MachineView) where
  outcome_entry : (e : Entry) (after : State) (c : Cmd) (wanted : Outcome) (made : Done) → e.caller ≡ caller
      → e.cmd ≡ c → IsOutcome e wanted after → made ≡ done_by wanted → e ≡ entry_by caller c made
  outcome_entry e after c wanted made by of is same =
      same_entry e caller c made by of (is.slot ∙ sym (ap (λ (m : Done). m.slot) same))
      (is.grown ∙ sym (ap (λ (m : Done). m.grown) same)) (is.reply ∙ sym (ap (λ (m : Done). m.reply) same))

  pub collect_goes : (n : ℕ) (report : Report) → CollectsState n old.state new.state report
      → new.numbers ≡ old.numbers
      → WayComesTo caller (collects n) choice old new
      (Some (Ok (record { reply = reply.Report report; slot = None; grown = Zero })))
  collect_goes n report did numbers = λ c. record {
    does = record { report = report; reply = refl; slot = refl; grown = refl; collects = did };
    numbers = numbers;
    only = λ e after is by of chosen.
        let same : is.report ≡ report =
        (one_collection n old.state after new.state is.report report is.collects did).1 in
        same_entry e caller c (record { reply = reply.Report report; slot = None; grown = Zero }) by of
        is.slot
        is.grown (is.reply ∙ ap reply.Report same);
  }

  abbrev by_option : Option Id → Reply → Outcome
  by_option o x = option_map_or (λ _. reply_with x old.state) o (refuses refusal.Null old.state)

  root_same : (r : ℕ) (o : Option Id) (found other : Reply)
      → ((goal : Id) → o ≡ Some goal → ReturnsRoot old.state goal found)
      → ((goal : Id) → o ≡ Some goal → ReturnsRoot old.state goal other)
      → ◌≡◌ {A = Outcome} (by_option o other) (by_option o found)
  root_same r None found other a b = refl
  root_same r (Some goal) found other a b =
      ap (λ x. reply_with x old.state) (one_root old.state goal other found (b goal refl) (a goal refl))

  pub root_goes : (r : ℕ) (result : Result Done Refusal) → new ≡ old → ComesToRoot old caller r result
      → WayComesTo caller (replies_root r) choice old new (Some result)
  root_goes r result same comes = λ c. record {
    does = record {
      found = comes.found;
      is_root = comes.is_root;
      outcome = record {
        reply = ap (λ (m : Done). m.reply) comes.comes.0;
        slot = ap (λ (m : Done). m.slot) comes.comes.0;
        grown = ap (λ (m : Done). m.grown) comes.comes.0;
        after = ap (λ (j : MachineView). j.state) (same ∙ comes.comes.1);
      };
    };
    numbers = ap (λ (j : MachineView). j.numbers) same;
    only = λ e after is by of chosen.
        let asked : (goal : Id) → register_of old.state caller r ≡ Some goal
        → ReturnsRoot old.state goal is.found =
        subst (λ k. (goal : Id) → register_of old.state k r ≡ Some goal
        → ReturnsRoot old.state goal is.found) by
        is.is_root in
        let mine : reply_root old.state e.caller r is.found ≡ reply_root old.state caller r comes.found =
        ap (λ k. reply_root old.state k r is.found) by
        ∙ root_same r (register_of old.state caller r) comes.found is.found comes.is_root asked in
        outcome_entry e after c (reply_root old.state caller r comes.found) (done_of result) by of
        (subst (λ w. IsOutcome e w after) mine is.outcome) comes.comes.0;
  }

  -- a command whose outcome the state decides goes its way
  pub decided_goes : (way : Way) (k : Cmd) (result : Result Done Refusal)
      → DecidedBy way (seen_by old) caller k (seen_by new) result
      → WayComesTo caller way choice old new (Some result)
  decided_goes (decided wanted) k result did = λ c. record {
    does = record {
      reply = ap (λ (m : Done). m.reply) did.0;
      slot = ap (λ (m : Done). m.slot) did.0;
      grown = ap (λ (m : Done). m.grown) did.0;
      after = did.1.1;
    };
    numbers = did.1.0;
    only = λ e after is by of chosen. outcome_entry e after c wanted (done_of result) by of is did.0;
  }
  decided_goes (makes_object d fields fin) k result did = absurd did
  decided_goes (makes_handle d make t) k result did = absurd did
  decided_goes (collects n) k result did = absurd did
  decided_goes (replies_address h) k result did = absurd did
  decided_goes (gives_back kind) k result did = absurd did
  decided_goes (adds_entry v key) k result did = absurd did
  decided_goes (replies_root r) k result did = absurd did

-- a command by its way is a step
module _ (old new : MachineView) (c : Cmd) (choice : Choice) (may : MayStep old choice.caller c) where
  at_way : (e : Entry) (after : State) → Step old.numbers old.state e after → e.caller ≡ choice.caller
      → e.cmd ≡ c
      → TakesWay old.numbers old.state e after (way_of old.state choice.caller c)
  at_way e after step by of =
      subst (λ x. TakesWay old.numbers old.state e after (way_of old.state choice.caller x)) of
      (subst (λ k. TakesWay old.numbers old.state e after (way_of old.state k e.cmd)) by step.does)

  pub way_steps : (result : Result Done Refusal)
      → WayComesTo choice.caller (way_of old.state choice.caller c) choice old new (Some result)
      → IsTheStep old c choice (entry_by choice.caller c (done_of result)) new
  way_steps result goes =
      let here = goes c in record {
        caller = refl;
        command = refl;
        step = record { caller = may.caller; valid = may.valid; does = here.does };
        numbers = here.numbers;
        only = λ e after step by of chosen. here.only e after (at_way e after step by of) by of chosen;
      }

  pub way_stops : WayComesTo choice.caller (way_of old.state choice.caller c) choice old new None
      → IsNoStep old c choice
  way_stops goes = λ e after step by of chosen. goes e after (at_way e after step by of) by chosen
