-- The sample states meet what the laws of `gcroot` ask for.
use Rattle.hd_model.specs.{declared.command.Cmd.Cmd, declared.data.Id.Id, declared.limits.TheConstants.REGISTERS}
use Rattle.hd_model.proofs.Basics.{Bool, Handle, IsGarbage, IsInUse, IsLedTo, IsOlder, IsResurrected, IsSome, IsUsed, IsWellFormed, None, Option, Some, State, WeakEntry, [], ap, arith, by_handle, false≢true, get, get_or, holds, in_queue, in_register, in_static, inl, inr, is_attaching, is_paired, is_some, none-some, refl, register_of, replicate, role, row_of, static_of, subst, sym, true, weak_handle, with_register, with_weak, ℕ, ⊎_elim, ◌<◌, ◌∙◌, ◌≡◌, ◌≢◌, ◌≤◌, ◌⊎◌}
use Rattle.hd_laws.proofs.Basics.{HasWay}
use Rattle.hd_model.specs.UserLaws.{Does}
use Rattle.hd_model.specs.Step.{DoesCollect}
use Rattle.hd_model.specs.Anchors.{LeadsIn, IsAnchor, AnchorOf, EdgeOf, ReturnsRoot}
use Rattle.hd_model.specs.AnchorLaws.{IsNoAnchor, DropsUnrooted}
use Rattle.hd_laws.specs.CollectionSamples.{few, id_of, slot_of, busy, entry_of_one, entered}
use Rattle.hd_laws.specs.AnchorSamples.{rooted, RootPremisesAreMet}
use Rattle.hd_model.proofs.{Members.not_in_none, WeakSlots.row_cases, WeakSlots.weak_attaches, WholeScenes.named_at, WholeScenes.at_named, WholeScenes.field_in, Fates.garbage_goes, EntryKeys.taken_out, ReachTests.is_holding, AnchorChains.one_root, AnchorLaws.gcroot_returns_the_root, WellFormedWrites.static_keeps, WellFormedSteps.step_keeps, StateReadBack.step_of}
use Rattle.hd_laws.proofs.{NextState.collections_exist, StepExistence.every_command_has_a_step}
use Rattle.hd_model.proofs.ReadAfterWrite.{set_cases, replicate_cases, insert_all}
use Rattle.hd_laws.proofs.CollectionSamples.{Led, led_within, none_there, number_is, all_objects, all_handles, row_is, leading, at_one, at_three, at_five, busy_is, entered_is, held_193, led_fields}
use Rattle.hd_model.proofs.RootChains.{replies_to}
use Rattle.hd_model.specs.declared.data.Kind.TheVariants as kind
use Rattle.hd_model.specs.declared.data.Reply.TheVariants as reply
use Rattle.hd_model.specs.declared.command.Cmd.TheVariants as cmd

-- no handle of the busy state holds
none_holds : (slot : ℕ) (h : Handle Id) → get busy.handles slot ≡ Some h → role h ≡ holds → ⊥
none_holds slot h e =
    all_handles (λ _ g. role g ≡ holds → ⊥) (λ r. false≢true (ap is_holding r))
    (λ r. false≢true (ap is_holding r)) (λ r. false≢true (ap is_holding r))
    (λ r. false≢true (ap is_holding r)) (λ r. false≢true (ap is_holding r))
    (λ r. false≢true (ap is_holding r)) slot h e

-- in the state with a static, 3 is the only anchor
abbrev Three : Id → Type 0
Three x = x.0 ≡ 3

three_anchors : (x : Id) → AnchorOf rooted x → Three x
three_anchors x (IsAnchor.in_static h) =
    let (k, at) = at_named rooted.statics x h in
    set_cases (λ o. o ≡ Some x → Three x) busy.statics 0 k (Some (id_of 3)) None (λ _ e. number_is 3 x e)
    (λ e. absurd (none-some x (sym (nothing_static k) ∙ e))) at
  where
    nothing_static : (k : ℕ) → get_or busy.statics k None ≡ None
    nothing_static k = replicate_cases (λ o. o ≡ None) REGISTERS k None None refl refl
three_anchors x (IsAnchor.in_queue h) = absurd (not_in_none x h)
three_anchors x (IsAnchor.by_handle h) =
    absurd (none_holds h.slot h.handle (row_is h.slot h.handle h.is_stored) h.holds)

anchor_three : AnchorOf rooted (id_of 3)
anchor_three = IsAnchor.in_static (named_at rooted.statics 0 (id_of 3) refl)

three_to_four : EdgeOf rooted (id_of 3) (id_of 4)
three_to_four = inl (field_in rooted 3 leading 0 (id_of 4) at_three refl)

one_at_least : {k : ℕ} {x y : Id} → x.0 ≡ 3 → y.0 ≡ 4 → LeadsIn (EdgeOf rooted) k x y → 1 ≤ k
one_at_least three four LeadsIn.start = absurd (omega arith)
one_at_least three four (LeadsIn.step chain e) = omega arith

root_of_four : ReturnsRoot rooted (id_of 4) (reply.Chain (id_of 3) 1)
root_of_four = inl (record {
  from = id_of 3;
  edges = 1;
  shortest = record {
    anchor = anchor_three;
    chain = LeadsIn.step LeadsIn.start three_to_four;
    shortest = λ other k a chain. one_at_least (three_anchors other a) refl chain;
    least = λ other a chain. let three = three_anchors other a in omega arith;
  };
  reply_is = refl;
})

-- with an entry of 1, no row holds
no_row_holds : (slot : ℕ) (h : Handle Id) → row_of entered slot ≡ Some h → role h ≡ holds → ⊥
no_row_holds slot h e holding =
    ⊎_elim (λ live. none_holds slot h live holding)
    (λ weak. false≢true (ap is_attaching (sym holding ∙ ap role (sym weak.1.1.1) ∙ weak_attaches weak.1.0)))
    (row_cases entered slot h e)

nothing_in_static : (k : ℕ) → static_of entered k ≡ None
nothing_in_static k = replicate_cases (λ o. o ≡ None) REGISTERS k None None refl refl

no_anchors : (x : Id) → AnchorOf entered x → ⊥
no_anchors x (IsAnchor.in_static h) =
    let (k, at) = at_named entered.statics x h in none-some x (sym (nothing_in_static k) ∙ at)
no_anchors x (IsAnchor.in_queue h) = not_in_none x h
no_anchors x (IsAnchor.by_handle h) = no_row_holds h.slot h.handle h.is_stored h.holds

-- and with the register dropped nothing is in use
abbrev let_go : State
let_go = with_register entered 0 0 None

nothing_in_register : (c d : ℕ) → register_of let_go c d ≡ None
nothing_in_register c d =
    replicate_cases (λ row. get_or row d None ≡ None) 1 c (replicate REGISTERS None) []
    (replicate_cases (λ o. o ≡ None) REGISTERS d None None refl refl) refl

none_used : (x : Id) → IsUsed let_go x → ⊥
none_used x (in_register c d e) = none-some x (sym (nothing_in_register c d) ∙ e)
none_used x (in_static k e) = none-some x (sym (nothing_in_static k) ∙ e)
none_used x (in_queue h) = not_in_none x h
none_used x (by_handle slot h e holding target) = no_row_holds slot h e holding

none_older : (x : Id) → IsOlder 1 let_go x → ⊥
none_older x old =
    all_objects (λ _ o. 1 < o.generation → ⊥) (λ l. omega arith) (λ l. omega arith) (λ l. omega arith)
    (λ l. omega arith) (λ l. omega arith) x.0 old.object old.is_stored old.above

led_nowhere : (Start : Id → Type 0) → ((x : Id) → Start x → ⊥) → {x : Id} → IsLedTo let_go Start x → ⊥
led_nowhere Start none =
    led_within let_go Start (λ _. ⊥) none (λ _ _ _ _ never _ _. never) (λ _ _ _ _ never _ _ _ _. never)

none_in_use : {x : Id} → IsInUse 1 let_go x → ⊥
none_in_use = led_nowhere (λ x. IsUsed let_go x ⊎ IsOlder 1 let_go x) (λ x. ⊎_elim (none_used x) (none_older x))

no_other : {x : Id} → IsLedTo let_go (IsNoAnchor 1 let_go) x → ⊥
no_other = led_nowhere (IsNoAnchor 1 let_go) nobody
  where
    nobody : (x : Id) → IsNoAnchor 1 let_go x → ⊥
    nobody x (IsNoAnchor.in_register c d e) = none-some x (sym (nothing_in_register c d) ∙ e)
    nobody x (IsNoAnchor.older old) = none_older x old

-- what is resurrected leads to 3 and 4 alone, since the rows attach to 1
rescued_start : (x : Id) → IsResurrected 1 let_go x → Led x
rescued_start x v =
    all_objects (λ k o. o.registered ≡ true → (k ≡ 3) ⊎ (k ≡ 4)) (λ r. absurd (false≢true r))
    (λ r. absurd (false≢true r)) (λ r. absurd (false≢true r)) (λ r. inl refl) (λ r. absurd (false≢true r)) x.0
    v.object v.is_stored v.registered

entry_key : (x : Id) (slot : ℕ) (c : Option (WeakEntry Id)) → get entered.weak slot ≡ Some c
    → (weak_handle c).target ≡ Some x → x.0 ≡ 1
entry_key x =
    insert_all busy.weak 193 (λ _ c. (weak_handle c).target ≡ Some x → x.0 ≡ 1) (Some entry_of_one)
    (number_is 1 x) (none_there (λ _ c. (weak_handle c).target ≡ Some x → x.0 ≡ 1))

attach_to_one : (x : Id) (slot : ℕ) (h : Handle Id) → row_of let_go slot ≡ Some h → h.kind ≡ kind.Dependent
    → h.target ≡ Some x → x.0 ≡ 1
attach_to_one x slot h e is target =
    ⊎_elim (λ live. all_handles (λ _ g. g.kind ≡ kind.Dependent → g.target ≡ Some x → x.0 ≡ 1)
    (λ q _. absurd (false≢true (ap is_paired q))) (λ q _. absurd (false≢true (ap is_paired q)))
    (λ q _. absurd (false≢true (ap is_paired q))) (λ q _. absurd (false≢true (ap is_paired q)))
    (λ q _. absurd (false≢true (ap is_paired q))) (λ _ t. number_is 1 x t) slot h live is target)
    (λ weak. entry_key x slot weak.1.0 weak.1.1.0 (ap (λ (g : Handle Id). g.target) weak.1.1.1 ∙ target))
    (row_cases let_go slot h e)

rescued_led : {x : Id} → IsLedTo let_go (IsResurrected 1 let_go) x → Led x
rescued_led =
    led_within let_go (IsResurrected 1 let_go) Led rescued_start led_fields
    (λ x y slot h led e is target second.
    let one = attach_to_one x slot h e is target in
    absurd (⊎_elim (λ three. omega arith) (λ four. omega arith) led))

-- 1 and 5 are garbage then
goes : (k : ℕ) → k ≢ 3 → k ≢ 4 → IsSome (get entered.objects k) → IsGarbage 1 let_go (id_of k)
goes k a b there = record {
  object = there;
  out_of_use = none_in_use;
  not_rescued = λ chain. ⊎_elim a b (rescued_led chain);
}

-- the three steps
no_way : (s : State) (c : Cmd) → ((d fields : ℕ) (fin : Bool) → c ≡ cmd.New d fields fin → ⊥)
    → ((h : ℕ) → c ≡ cmd.AddrOf h → ⊥) → HasWay few s 0 c
no_way s c a b = record {
  serial = λ d fields fin is. absurd (a d fields fin is);
  address = λ h id is _ _. absurd (b h is);
}

asked : Does few entered 0 (cmd.GcRoot 0)
asked =
    every_command_has_a_step few entered 0 (cmd.GcRoot 0) entered_is (omega arith) (omega arith)
    (no_way entered (cmd.GcRoot 0) (λ d fields fin is. cc) (λ h is. cc))

asked_is : IsWellFormed few asked.after
asked_is = step_keeps few entered asked.after asked.entry entered_is asked.step

dropped : Does few asked.after 0 (cmd.Clear 0)
dropped =
    every_command_has_a_step few asked.after 0 (cmd.Clear 0) asked_is (omega arith) (omega arith)
    (no_way asked.after (cmd.Clear 0) (λ d fields fin is. cc) (λ h is. cc))

dropped_is : IsWellFormed few dropped.after
dropped_is = step_keeps few asked.after dropped.after dropped.entry asked_is dropped.step

collected : Does few dropped.after 0 (cmd.Collect 1)
collected =
    every_command_has_a_step few dropped.after 0 (cmd.Collect 1) dropped_is (omega arith) (omega arith)
    (no_way dropped.after (cmd.Collect 1) (λ d fields fin is. cc) (λ h is. cc))

replies_unrooted : asked.entry.reply ≡ reply.Unrooted
replies_unrooted =
    one_root entered (id_of 1) asked.entry.reply reply.Unrooted
    (replies_to few entered asked.after asked.entry 0 (id_of 1) asked.step asked.command
    (ap (λ c. register_of entered c 0) asked.caller_is)) (inr (λ x a _. no_anchors x a, refl))

drops : DropsUnrooted few 1 entered (id_of 1)
drops = record {
  well_formed = entered_is;
  caller = 0;
  register = 0;
  named = refl;
  asked = asked;
  unrooted = replies_unrooted;
  dropped = dropped;
  collector = 0;
  collected = collected;
}

left_is : dropped.after ≡ let_go
left_is =
    (step_of few asked.after dropped.entry dropped.after (cmd.Clear 0) dropped.step dropped.command).after
    ∙ (λ i. with_register (asked_same i) (dropped.caller_is i) 0 None)
  where
    asked_same : asked.after ≡ entered
    asked_same = (gcroot_returns_the_root few entered asked.after asked.entry 0 asked.step asked.command).same

gone : (k : ℕ) → k ≢ 3 → k ≢ 4 → IsSome (get entered.objects k) → get collected.after.objects k ≡ None
gone k a b there =
    let did : DoesCollect dropped.after collected.entry collected.after 1 =
    step_of few dropped.after collected.entry collected.after (cmd.Collect 1) collected.step collected.command
    in
    (garbage_goes few 1 dropped.after collected.after did.report (id_of k)
    (record { well_formed = dropped_is; collects = did.collects })
    (subst (λ s. IsGarbage 1 s (id_of k)) (sym left_is) (goes k a b there))).object

entry_stays : get dropped.after.weak 193 ≡ Some (Some entry_of_one)
entry_stays = ap (λ (s : State). get s.weak 193) left_is ∙ held_193

pub root_premises_are_met : RootPremisesAreMet
unfolding drops dropped
root_premises_are_met =
    let rooted_is = static_keeps few busy busy_is 0 (Some (id_of 3)) (ap is_some at_three) in
    record {
      rooted_is = rooted_is;
      anchor = anchor_three;
      edge = three_to_four;
      root = root_of_four;
      after_rooted = collections_exist few 1 rooted rooted_is;
      drops = drops;
      no_other = subst (λ s. IsLedTo s (IsNoAnchor 1 s) (id_of 1) → ⊥) (sym left_is) no_other;
      not_rescued = subst (λ s. IsLedTo s (IsResurrected 1 s) (id_of 1) → ⊥) (sym left_is)
          (λ chain. ⊎_elim (λ e. omega arith) (λ e. omega arith) (rescued_led chain));
      entry = entry_stays;
      taken_out =
          collections_exist few 1 (with_weak dropped.after (slot_of 193) None)
          (taken_out few dropped.after dropped_is (slot_of 193) (ap is_some entry_stays));
      key_goes = gone 1 (λ e. omega arith) (λ e. omega arith) (ap is_some at_one);
      value_goes = gone 5 (λ e. omega arith) (λ e. omega arith) (ap is_some at_five);
    }
