-- What `gcroot` returns, and what becomes of the object in a collection.
use Rattle.hd_model.proofs.Basics.{◌≡◌, ℕ, Bool, true, false, Option, Some, None, refl, sym, ◌∙◌, subst, ⊎_elim, inl, inr, ◌⊎◌, option_map_or, MatchOption, cond-false, get}
use Rattle.hd_model.specs.Data.{Id, Entry, Reply}
use Rattle.hd_model.specs.declared.data.Refusal.TheVariants as refusal
use Rattle.hd_model.specs.declared.data.Reply.TheVariants as reply
use Rattle.hd_model.specs.declared.command.Cmd.TheVariants as cmd
use Rattle.hd_model.specs.State.{State, register_of}
use Rattle.hd_model.specs.Command.{reply_with, refuses}
use Rattle.hd_model.specs.Step.{IsOutcome, RepliesRoot}
use Rattle.hd_model.specs.Leads.{Leads}
use Rattle.hd_model.specs.Scene.{scene_of}
use Rattle.hd_model.specs.Reach.{IsReached}
use Rattle.hd_model.specs.Collect.{Collects}
use Rattle.hd_model.specs.InUse.{IsUsed, in_register, in_static, in_queue, by_handle, IsOlder, IsLedTo, IsResurrected}
use Rattle.hd_model.specs.Anchors.{IsAnchor, AnchorOf, EdgeOf, ReturnsRoot}
use Rattle.hd_model.specs.AnchorLaws.{GcRootReturnsTheRoot, IsNoAnchor, RootedObjectsStay, UnrootedObjectsGo}
use Rattle.hd_model.proofs.AnchorChains.{leads, anchor_root}
use Rattle.hd_model.proofs.AnchorSearch.{anchor_named}
use Rattle.hd_model.proofs.EdgeChains.{leads_on}
use Rattle.hd_model.proofs.OneState.{root_after}
use Rattle.hd_model.proofs.StateReadBack.{step_of}
use Rattle.hd_model.proofs.WholeScenes.{whole_scene, named_at}
use Rattle.hd_model.proofs.SceneCollection.{reached_kept, still_object}
use Rattle.hd_model.proofs.UseChains.{led_chain, chain_led, reached_use, to_be_finalized_resurrected}

asks_root : (s t : State) (e : Entry) (o : Option Id) (found : Reply)
    → ((goal : Id) → o ≡ Some goal → ReturnsRoot s goal found)
    → IsOutcome e (option_map_or (λ _. reply_with found s) o (refuses refusal.Null s)) t
    → MatchOption o (e.reply ≡ reply.Refused refusal.Null) (λ goal. ReturnsRoot s goal e.reply)
asks_root s t e None found is_root is = is.reply
asks_root s t e (Some goal) found is_root is = subst (ReturnsRoot s goal) (sym is.reply) (is_root goal refl)

pub gcroot_returns_the_root : GcRootReturnsTheRoot
gcroot_returns_the_root n s t e r step is =
    let a : RepliesRoot s e t r = step_of n s e t (cmd.GcRoot r) step is in
    record {
      reply = asks_root s t e (register_of s e.caller r) a.found a.is_root a.outcome;
      same = a.outcome.after ∙ root_after s (register_of s e.caller r) a.found;
    }

pub rooted_objects_stay : RootedObjectsStay
rooted_objects_stay m n s t r x from edges h (inr none) = absurd (let other = none.1 in cc)
rooted_objects_stay m n s t r x from edges h (inl c) =
    let w = whole_scene m s h.well_formed in
    let reached : IsReached (scene_of s) n x =
    (c.from, (anchor_root n (anchor_named s) c.shortest.anchor, leads c.shortest.chain)) in
    still_object (λ (y : Id). y.0) n (scene_of s) (scene_of t) r w h.collects.scene x
    ((h.collects.scene.kept_is x).1 (reached_kept n (scene_of s) x reached))

-- what is used is an anchor, or a register references it
used_anchor : (n : ℕ) (s : State) (x : Id) → IsUsed s x → AnchorOf s x ⊎ IsNoAnchor n s x
used_anchor n s x (in_register c d e) = inr (IsNoAnchor.in_register c d e)
used_anchor n s x (in_static k e) = inl (IsAnchor.in_static (named_at s.statics k x e))
used_anchor n s x (in_queue h) = inl (IsAnchor.in_queue h)
used_anchor n s x (by_handle slot h is holding e) =
    inl (IsAnchor.by_handle (record { slot = slot; handle = h; is_stored = is; holds = holding; target = e }))

pub unrooted_objects_go : UnrootedObjectsGo
unrooted_objects_go m n s t r x h (inl c) never = absurd (let other = c.reply_is in cc)
unrooted_objects_go m n s t r x h (inr none) never = by (c.kept x) refl
  where
    c : Collects (λ (y : Id). y.0) n (scene_of s) (scene_of t) r
    c = h.collects.scene

    -- no chain leads to it from what is in use by itself
    starts : (y : Id) → IsUsed s y ⊎ IsOlder n s y → Leads (EdgeOf s) y x → ⊥
    starts y (inl used) chain =
        ⊎_elim (λ a. none.0 y a chain) (λ b. never (chain_led s (IsNoAnchor n s) b chain))
        (used_anchor n s y used)
    starts y (inr old) chain = never (chain_led s (IsNoAnchor n s) (IsNoAnchor.older old) chain)

    out : {y : Id} → IsReached (scene_of s) n y → Leads (EdgeOf s) y x → ⊥
    out {y = y} reached chain =
        let (z, rest) = led_chain s (λ v. IsUsed s v ⊎ IsOlder n s v) (reached_use s n y reached) in
        starts z rest.0 (leads_on (EdgeOf s) rest.1 chain)

    by : (b : Bool) → c.kept x ≡ b → (get t.objects x.0 ≡ None) ⊎ IsLedTo s (IsResurrected n s) x
    by true kept =
        let (y, rest) = (c.kept_is x).0 kept in
        ⊎_elim (λ reached. absurd (out reached rest.1))
        (λ final. inr (chain_led s (IsResurrected n s) (to_be_finalized_resurrected s n y final) rest.1))
        rest.0
    by false gone = inl (c.objects x ∙ cond-false (c.kept x) _ None gone)
