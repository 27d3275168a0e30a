-- An entry leaves at most one state.
use Rattle.hd_model.proofs.Basics.{Adding, AddsEntry, RepliesAddress, Back, Bool, Cmd, DoesCollect, Entry, Id, IsOutcome, Make, MakesHandle, None, Numbers, OneStateAfter, Option, Outcome, Refusal, Reply, Slot, Some, State, TakesWay, Way, Zero, adding_of, adds_entry, reply_address, reply_with, replies_address, ap, collects, decided, false, gives_back, handle_at, handle_register_of, if◌then◌else◌, in_idle, in_new, makes_handle, makes_object, option_map_or, pins, refl, same_Some, sym, true, way_of, way_of_adding, with_entry, with_growth, with_made, with_address, without_use, ℕ, ⊎_elim, ◌∙◌, ◌≡◌}
use Rattle.hd_model.specs.Command.{is_refused}
use Rattle.hd_model.proofs.Collections.{one_collection}
use Rattle.hd_model.specs.declared.command.Cmd.TheVariants as cmd
use Rattle.hd_model.specs.declared.data.Kind.TheVariants as kind
use Rattle.hd_model.specs.declared.data.Reply.TheVariants as reply
use Rattle.hd_model.specs.State.{register_of}
use Rattle.hd_model.specs.Command.{refuses}
use Rattle.hd_model.specs.Step.{replies_root}
use Rattle.hd_model.specs.declared.data.Refusal.TheVariants as refusal

-- the command of a way that the state alone does not decide
abbrev pub CommandOf : Cmd → Way → Type 0
CommandOf c (decided r) = Unit {0}
CommandOf c (makes_object d fields fin) = c ≡ cmd.New d fields fin
CommandOf c (makes_handle d make t) = c ≡ cmd.HNew d make t
CommandOf c (collects n) = c ≡ cmd.Collect n
CommandOf c (replies_address h) = c ≡ cmd.AddrOf h
CommandOf c (gives_back kind) = c ≡ cmd.Trim kind
CommandOf c (adds_entry v key) = (k : ℕ) × (c ≡ cmd.CAdd k v)
CommandOf c (replies_root r) = c ≡ cmd.GcRoot r

pub way_command : (s : State) (caller : ℕ) (c : Cmd) → CommandOf c (way_of s caller c)
way_command s caller (cmd.New d fields fin) = refl
way_command s caller (cmd.HNew d make t) = refl
way_command s caller (cmd.Collect n) = refl
way_command s caller (cmd.AddrOf h) = refl
way_command s caller (cmd.Trim kind) = refl
way_command s caller (cmd.GcRoot r) = refl
way_command s caller (cmd.CAdd k v) = by (adding_of s caller k)
  where
    by : (a : Adding) → CommandOf (cmd.CAdd k v) (way_of_adding s caller v a)
    by (is_refused refusal) = tt
    by (in_idle slot key) = tt
    by (in_new key) = (k, refl)
way_command s caller _ = tt

pub done_or_refused : {r : Reply} {refusal : Refusal} → r ≡ reply.Done → r ≡ reply.Refused refusal → ⊥
done_or_refused done refused = cc

-- outcomes with one reply, built alike from outcomes that are one where they have one reply
agree_option : {A : Type 0} (r : Reply) (f g : A → Outcome) (o : Option A) (d : Outcome)
    → ((a : A) → r ≡ (f a).reply → r ≡ (g a).reply → f a ≡ g a) → r ≡ (option_map_or f o d).reply
    → r ≡ (option_map_or g o d).reply → option_map_or f o d ≡ option_map_or g o d
agree_option r f g None d each x y = refl
agree_option r f g (Some a) d each x y = each a x y

agree_test : (r : Reply) (f g d : Outcome) (b : Bool) → (r ≡ f.reply → r ≡ g.reply → f ≡ g)
    → r ≡ (if b then f else d).reply → r ≡ (if b then g else d).reply
    → (if b then f else d) ≡ (if b then g else d)
agree_test r f g d true each x y = each x y
agree_test r f g d false each x y = refl

same_address : {r : Reply} {p q : ℕ} → r ≡ reply.Place p → r ≡ reply.Place q → p ≡ q
same_address a b = cc

-- so an outcome with a reply depends on no pinned address that the reply does not have
pinned_same : (s : State) (caller h p q : ℕ) (r : Reply) → r ≡ (reply_address s caller h p).reply
    → r ≡ (reply_address s caller h q).reply → reply_address s caller h p ≡ reply_address s caller h q
pinned_same s caller h p q r =
    agree_option r _ _ (handle_register_of s caller h) _
    (λ slot. agree_option r _ _ (handle_at s slot) _
    (λ handle. agree_test r _ _ _ (pins handle)
    (agree_option r _ _ handle.target _ (λ id a b. ap (λ z. reply_with (reply.Place z) (with_address s id z))
    (same_address a b)))))

-- `gcroot` changes nothing, whatever it replies
pub root_after : (s : State) (o : Option Id) (r : Reply)
    → (option_map_or (λ _. reply_with r s) o (refuses refusal.Null s)).after ≡ s
root_after s None r = refl
root_after s (Some goal) r = refl

module _ (n : Numbers) (s : State) (e : Entry) (t u : State) where
  one_outcome : (r : Outcome) → IsOutcome e r t → IsOutcome e r u → t ≡ u
  one_outcome r a b = a.after ∙ sym b.after

  one_made : (d : ℕ) (given : Make) (r : ℕ) → MakesHandle n s e t d given r → MakesHandle n s e u d given r
      → t ≡ u
  one_made d given r a b =
      a.after ∙ ap (λ (x : Slot). with_made s e.caller e.grown d given r x)
      (same_Some a.slot b.slot (sym a.given ∙ b.given)) ∙ sym b.after

  one_added : (v : ℕ) (key : Id) → AddsEntry n s e t v key → AddsEntry n s e u v key → t ≡ u
  one_added v key a b =
      a.after ∙ ap (λ (x : Slot). with_entry (with_growth s kind.Dependent e.grown) s e.caller v x key)
      (same_Some a.slot b.slot (sym a.given ∙ b.given)) ∙ sym b.after

  one_address : (h : ℕ) → RepliesAddress s e t h → RepliesAddress s e u h → t ≡ u
  one_address h a b =
      a.outcome.after ∙ ap (λ (o : Outcome). o.after)
      (pinned_same s e.caller h a.address b.address e.reply a.outcome.reply b.outcome.reply)
      ∙ sym b.outcome.after

  one_collected : (k : ℕ) → DoesCollect s e t k → DoesCollect s e u k → t ≡ u
  one_collected k a b = (one_collection k s t u a.report b.report a.collects b.collects).0

  same_blocks : {a b : ℕ} → Back a ≡ Back b → a ≡ b
  same_blocks same = cc

  back_or_not : {a : ℕ} → e.grown ≡ Back a → e.grown ≡ Zero → ⊥
  back_or_not back none = cc

  one_of : (way : Way) → TakesWay n s e t way → TakesWay n s e u way → t ≡ u
  one_of (decided r) a b = one_outcome r a b
  one_of (makes_object d fields fin) a b = one_outcome _ a.1 b.1
  one_of (makes_handle d given r) a b =
      ⊎_elim (λ x. ⊎_elim (λ y. one_made d given r x y)
      (λ y. absurd (done_or_refused x.reply y.refused.reply)) b)
      (λ x. ⊎_elim (λ y. absurd (done_or_refused y.reply x.refused.reply))
      (λ y. one_outcome _ x.refused y.refused) b) a
  one_of (adds_entry v key) a b =
      ⊎_elim (λ x. ⊎_elim (λ y. one_added v key x y)
      (λ y. absurd (done_or_refused x.reply y.refused.reply)) b)
      (λ x. ⊎_elim (λ y. absurd (done_or_refused y.reply x.refused.reply))
      (λ y. one_outcome _ x.refused y.refused) b) a
  one_of (collects k) a b = one_collected k a b
  one_of (replies_address h) a b = one_address h a b
  one_of (replies_root r) a b =
      a.outcome.after ∙ root_after s (register_of s e.caller r) a.found
      ∙ sym (b.outcome.after ∙ root_after s (register_of s e.caller r) b.found)
  one_of (gives_back wanted) a b =
      ⊎_elim (λ x. ⊎_elim (λ y. x.after ∙ ap (without_use s) (same_blocks (sym x.grown ∙ y.grown))
      ∙ sym y.after) (λ y. absurd (back_or_not x.grown y.grown)) b)
      (λ x. ⊎_elim (λ y. absurd (back_or_not y.grown x.grown)) (λ y. one_outcome _ x y) b) a

pub one_state_after : OneStateAfter
one_state_after n s t u e a b = one_of n s e t u (way_of s e.caller e.cmd) a.does b.does
