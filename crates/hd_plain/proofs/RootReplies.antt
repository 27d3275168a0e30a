-- What the search for a root comes to.
use Rattle.std.proofs.Common.{Err, None, Ok, Option, Some, refl, subst, sym, inl, inr, ℕ, ◌∙◌, ◌≡◌}
use Rattle.std.proofs.lemmas.Option.{none-some, same_Some}
use Rattle.std.specs.Option.{option_map_or}
use Rattle.hd_model.specs.Anchors.{AnchorOf, EdgeOf, IsShortest, IsUnrooted}
use Rattle.hd_model.specs.Command.{reply_with, refuses}
use Rattle.hd_model.specs.State.{register_of}
use Rattle.hd_model.specs.declared.data.Grown.TheVariants.{Zero}
use Rattle.hd_model.specs.declared.data.Id.{Id}
use Rattle.hd_model.specs.declared.data.Refusal.TheVariants as refusal
use Rattle.hd_model.specs.declared.data.Reply.TheVariants as reply
use Rattle.hd_plain.specs.Commands.{ComesTo, ComesToRoot}
use Rattle.hd_plain.specs.MachineViews.{MachineView}
use Rattle.hd_commands.specs.declared.done.Done.{Done}

module _ (j : MachineView) (caller r : ℕ) where
  pub root_null : register_of j.state caller r ≡ None → ComesToRoot j caller r (Err refusal.Null)
  root_null was = record {
    found = reply.Unrooted;
    is_root = λ goal e. absurd (none-some goal (sym was ∙ e));
    comes =
        subst
        (λ (o : Option Id). ComesTo (option_map_or (λ _. reply_with reply.Unrooted j.state) o
        (refuses refusal.Null j.state)) j j (Err refusal.Null)) (sym was) (refl, refl);
  }

  module _ (goal : Id) (was : register_of j.state caller r ≡ Some goal) (made : Done) where
    pub root_chain : (from : Id) (edges : ℕ)
        → made ≡ record { reply = reply.Chain from edges; slot = None; grown = Zero }
        → IsShortest (EdgeOf j.state) (AnchorOf j.state) (λ (x : Id). x.0) goal from edges
        → ComesToRoot j caller r (Ok made)
    root_chain from edges is shortest = record {
      found = reply.Chain from edges;
      is_root = λ other e. inl (record {
        from = from;
        edges = edges;
        shortest =
            subst
            (λ (z : Id). IsShortest (EdgeOf j.state) (AnchorOf j.state) (λ (x : Id). x.0) z from edges)
            (same_Some goal other (sym was ∙ e)) shortest;
        reply_is = refl;
      });
      comes =
          subst
          (λ (o : Option Id). ComesTo (option_map_or (λ _. reply_with (reply.Chain from edges) j.state) o
          (refuses refusal.Null j.state)) j j (Ok made)) (sym was) (is, refl);
    }

    pub root_none : made ≡ record { reply = reply.Unrooted; slot = None; grown = Zero }
        → IsUnrooted (EdgeOf j.state) (AnchorOf j.state) goal → ComesToRoot j caller r (Ok made)
    root_none is unrooted = record {
      found = reply.Unrooted;
      is_root = λ other e. inr (
        subst (λ (z : Id). IsUnrooted (EdgeOf j.state) (AnchorOf j.state) z)
            (same_Some goal other (sym was ∙ e)) unrooted,
        refl,
      );
      comes =
          subst
          (λ (o : Option Id). ComesTo (option_map_or (λ _. reply_with reply.Unrooted j.state) o
          (refuses refusal.Null j.state)) j j (Ok made)) (sym was) (is, refl);
    }
