-- Roots in two states, along edges, over runs, and once a register is dropped.
use Rattle.hd_model.proofs.Basics.{Cmd, Entry, Id, IsOutcome, IsSome, IsWellFormed, MatchOption, None, Numbers, Object, Option, Some, State, Step, ap, arith, get, inl, inr, le_refl, refl, register_of, subst, suc, sym, zero-le, ℕ, ◌∙◌, ◌≡◌, ◌≤◌}
use Rattle.hd_model.specs.Data.{Reply}
use Rattle.hd_model.specs.declared.data.Refusal.TheVariants as refusal
use Rattle.hd_model.specs.declared.data.Reply.TheVariants as reply
use Rattle.hd_model.specs.declared.command.Cmd.TheVariants as cmd
use Rattle.hd_model.specs.Anchors.{LeadsIn, in_static, in_queue, by_handle, AnchorOf, EdgeOf, ReturnsRoot}
use Rattle.hd_model.specs.Step.{DoesCollect}
use Rattle.hd_model.specs.Command.{clear_register}
use Rattle.hd_model.specs.AnchorLaws.{AsksRoot, IsSameGraph, OtherRegistersPlayNoPart, AnchorsAreTheirRoots, RootsFollowEdges, HasRootWhereCollected, RootedObjectsLast, DropsUnrooted, DroppedObjectsGo}
use Rattle.hd_model.proofs.{AnchorChains.leads, AnchorChains.shortest_like, AnchorChains.one_root, StepChains.chain_keeps, StateReadBack.step_of, WellFormedSteps.step_keeps, Effects.effect}
use Rattle.hd_model.proofs.AnchorLaws.{gcroot_returns_the_root, rooted_objects_stay, unrooted_objects_go}
use Rattle.hd_model.proofs.StepWrites.{ObjectChange, object_stays, is_new, field_is_set, value_is_set, registration_is_set, survives, goes, object_change}

-- what one state has with the objects, handles, entries, statics and queue of another, has its roots
module _ (s t : State) where
  abbrev with_graph : State
  with_graph = record t {
    objects = s.objects;
    handles = s.handles;
    weak = s.weak;
    statics = s.statics;
    queue = s.queue;
  }

  anchor_there : (x : Id) → AnchorOf s x → AnchorOf with_graph x
  anchor_there x (in_static h) = in_static h
  anchor_there x (in_queue h) = in_queue h
  anchor_there x (by_handle h) = by_handle h

  anchor_back : (x : Id) → AnchorOf with_graph x → AnchorOf s x
  anchor_back x (in_static h) = in_static h
  anchor_back x (in_queue h) = in_queue h
  anchor_back x (by_handle h) = by_handle h

  returns_there : (goal : Id) (r : Reply) → ReturnsRoot s goal r → ReturnsRoot with_graph goal r
  returns_there goal r (inl c) = inl (record {
    from = c.from;
    edges = c.edges;
    shortest = shortest_like anchor_there anchor_back c.shortest;
    reply_is = c.reply_is;
  })
  returns_there goal r (inr none) = inr (λ x a chain. none.0 x (anchor_back x a) chain, none.1)

  pub returns_alike : IsSameGraph s t → (goal : Id) (r : Reply) → ReturnsRoot s goal r → ReturnsRoot t goal r
  returns_alike g goal r h =
      subst (λ x. ReturnsRoot x goal r) (λ i. record t {
        objects = g.objects i;
        handles = g.handles i;
        weak = g.weak i;
        statics = g.statics i;
        queue = g.queue i;
      })
      (returns_there goal r h)

-- what a `gcroot` on an object replies
pub replies_to : (n : Numbers) (s u : State) (e : Entry) (r : ℕ) (goal : Id) → Step n s e u
    → e.cmd ≡ cmd.GcRoot r → register_of s e.caller r ≡ Some goal → ReturnsRoot s goal e.reply
replies_to n s u e r goal step is named =
    subst (λ o. MatchOption o (e.reply ≡ reply.Refused refusal.Null) (λ x. ReturnsRoot s x e.reply)) named
    (gcroot_returns_the_root n s u e r step is).reply

replies_null : (n : Numbers) (s u : State) (e : Entry) (r : ℕ) → Step n s e u → e.cmd ≡ cmd.GcRoot r
    → register_of s e.caller r ≡ None → e.reply ≡ reply.Refused refusal.Null
replies_null n s u e r step is null =
    subst (λ o. MatchOption o (e.reply ≡ reply.Refused refusal.Null) (λ x. ReturnsRoot s x e.reply)) null
    (gcroot_returns_the_root n s u e r step is).reply

pub other_registers_play_no_part : OtherRegistersPlayNoPart
other_registers_play_no_part n m s t u v e f r q a b is same names graph = by (register_of s e.caller r) refl
  where
    by : (o : Option Id) → register_of s e.caller r ≡ o → e.reply ≡ f.reply
    by None null = replies_null n s u e r a is null ∙ sym (replies_null m t v f q b same (sym names ∙ null))
    by (Some goal) named =
        one_root t goal e.reply f.reply
        (returns_alike s t graph goal e.reply (replies_to n s u e r goal a is named))
        (replies_to m t v f q goal b same (sym names ∙ named))

start_same : {E : Id → Id → Type 0} {x y : Id} → LeadsIn E 0 x y → y.0 ≤ x.0
start_same {x = x} LeadsIn.start = le_refl x.0

pub anchors_are_their_roots : AnchorsAreTheirRoots
anchors_are_their_roots s x a = inl (record {
  from = x;
  edges = 0;
  shortest = record {
    anchor = a;
    chain = LeadsIn.start;
    shortest = λ other k b c. zero-le;
    least = λ other b c. start_same c;
  };
  reply_is = refl;
})

pub roots_follow_edges : RootsFollowEdges
roots_follow_edges s x y from edges r e (inr none) b = absurd (let other = none.1 in cc)
roots_follow_edges s x y from edges r e (inl c) (inr none) =
    absurd (none.0 c.from c.shortest.anchor (leads (LeadsIn.step c.shortest.chain e)))
roots_follow_edges s x y from edges r e (inl c) (inl d) =
    let same_edges : edges ≡ c.edges = let is = c.reply_is in cc in
    let same_from : from ≡ c.from = let is = c.reply_is in cc in
    let further : LeadsIn (EdgeOf s) (suc c.edges) c.from y = LeadsIn.step c.shortest.chain e in
    let near : d.edges ≤ suc c.edges = d.shortest.shortest c.from (suc c.edges) c.shortest.anchor further in
    record {
      anchor = d.from;
      distance = d.edges;
      reply_is = d.reply_is;
      near = omega arith;
      low = λ far. subst (λ (z : Id). d.from.0 ≤ z.0) (sym same_from)
          (d.shortest.least c.from c.shortest.anchor
          (subst (λ k. LeadsIn (EdgeOf s) k c.from y) (omega arith) further));
    }

-- over a step an object stays, but for a collection that takes it
module _ (n : Numbers) (x : Id) (s : State) (e : Entry) where
  stays_unless : (c : Cmd) (o : Option (Object Id)) → ObjectChange s e x c o → IsSome (get s.objects x.0)
      → ((k : ℕ) → c ≡ cmd.Collect k → IsSome o) → IsSome o
  stays_unless c o object_stays there collected = there
  stays_unless c o (is_new small none same) there collected = refl
  stays_unless c o (field_is_set f l p) there collected = refl
  stays_unless c o (value_is_set f p) there collected = refl
  stays_unless c o (registration_is_set registered h) there collected = refl
  stays_unless c o (survives resurrected object is) there collected = refl
  stays_unless c o (goes {k = k}) there collected = collected k refl

  step_stays : (t : State) → HasRootWhereCollected n x s e t → IsWellFormed n s → IsSome (get s.objects x.0)
      → IsSome (get t.objects x.0)
  step_stays t h w there =
      stays_unless e.cmd (get t.objects x.0) (object_change n s w e e.cmd t x (effect n s e t h.step)) there
      (λ k is. let did : DoesCollect s e t k = step_of n s e t (cmd.Collect k) h.step is in
      let (from, rest) = h.rooted k is in
      rooted_objects_stay n k s t did.report x from rest.0
      (record { well_formed = w; collects = did.collects }) rest.1)

pub rooted_objects_last : RootedObjectsLast
rooted_objects_last n s t es x w there chain =
    (chain_keeps (λ u. IsWellFormed n u × IsSome (get u.objects x.0))
    (λ u e v h had. (step_keeps n u v e had.0 h.step, step_stays n x u e v h had.0 had.1)) chain (w, there)).1

module _ (m : Numbers) (n : ℕ) (s : State) (x : Id) (d : DropsUnrooted m n s x) where
  abbrev t : State
  t = d.dropped.after

  cleared : IsOutcome d.dropped.entry (clear_register d.asked.after d.dropped.entry.caller d.register) t
  cleared = step_of m d.asked.after d.dropped.entry t (cmd.Clear d.register) d.dropped.step d.dropped.command

  asked : AsksRoot s d.asked.after d.asked.entry d.register
  asked = gcroot_returns_the_root m s d.asked.after d.asked.entry d.register d.asked.step d.asked.command

  -- asking and dropping leave the objects and what leads to them but for the register
  pub same_graph : IsSameGraph s t
  same_graph = record {
    objects = sym (ap (λ (v : State). v.objects) cleared.after ∙ ap (λ (v : State). v.objects) asked.same);
    handles = sym (ap (λ (v : State). v.handles) cleared.after ∙ ap (λ (v : State). v.handles) asked.same);
    weak = sym (ap (λ (v : State). v.weak) cleared.after ∙ ap (λ (v : State). v.weak) asked.same);
    statics = sym (ap (λ (v : State). v.statics) cleared.after ∙ ap (λ (v : State). v.statics) asked.same);
    queue = sym (ap (λ (v : State). v.queue) cleared.after ∙ ap (λ (v : State). v.queue) asked.same);
  }

  pub still_unrooted : ReturnsRoot t x reply.Unrooted
  still_unrooted =
      returns_alike s t same_graph x reply.Unrooted
      (subst (ReturnsRoot s x) d.unrooted
      (replies_to m s d.asked.after d.asked.entry d.register x d.asked.step d.asked.command
      (ap (λ c. register_of s c d.register) d.asked.caller_is ∙ d.named)))

  pub dropped_well_formed : IsWellFormed m t
  dropped_well_formed =
      step_keeps m d.asked.after t d.dropped.entry
      (step_keeps m s d.asked.after d.asked.entry d.well_formed d.asked.step) d.dropped.step

  pub then_collects : DoesCollect t d.collected.entry d.collected.after n
  then_collects = step_of m t d.collected.entry d.collected.after (cmd.Collect n) d.collected.step
      d.collected.command

pub dropped_objects_go : DroppedObjectsGo
dropped_objects_go m n s x d never =
    let did = then_collects m n s x d in
    unrooted_objects_go m n d.dropped.after d.collected.after did.report x
    (record { well_formed = dropped_well_formed m n s x d; collects = did.collects })
    (still_unrooted m n s x d) never
