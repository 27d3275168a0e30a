-- A collection leads to one state with one report, and from a well formed state to a well formed one.
use Rattle.hd_model.proofs.Basics.{Collects, CollectsState, Decision, Id, IsRemoved, IsReport, IsSurviving, LosesAs, Report, Scene, State, attaches, cleared, get, left_by, long, nat_cmp-IsAntisymmetric, nat_cmp_total, option_map, same_from_decides, same_map, scene_of, short, subst, swept, sym, true, ℕ, ◌++◌, ◌∙◌, ◌≡◌}
use Rattle.hd_model.proofs.{PropertyCounts.counts_once, Members.rising_once}

module _ {N : Type 0} (rank : N → ℕ) (n : ℕ) (s t u : Scene N) (r q : Report) (a : Collects rank n s t r)
    (b : Collects rank n s u q) where
  pub same_decision : a.decision ≡ b.decision
  same_decision = λ i. record {
    reach = λ x. same_from_decides (a.reach x) (b.reach x) (a.reach_is x) (b.reach_is x) i;
    resurrected = λ x.
        same_from_decides (a.resurrected x) (b.resurrected x) (a.resurrected_is x) (b.resurrected_is x) i;
    kept = λ x. same_from_decides (a.kept x) (b.kept x) (a.kept_is x) (b.kept_is x) i;
    joins =
        rising_once rank a.joins b.joins a.rising b.rising
        (λ z h. (b.joins_are z).0 ((b.resurrected_is z).1 ((a.resurrected_is z).0 ((a.joins_are z).1 h))))
        (λ z h. (a.joins_are z).0 ((a.resurrected_is z).1 ((b.resurrected_is z).0 ((b.joins_are z).1 h)))) i;
  }

  pub same_objects : (x : N) → t.object x ≡ u.object x
  same_objects x =
      a.objects x ∙ (λ i. (left_by n (same_decision i) s).object x) ∙ sym (b.objects x)

  pub same_queue : t.queue ≡ u.queue
  same_queue = a.queue ∙ (λ i. s.queue ++ (same_decision i).joins) ∙ sym b.queue

  -- what a report counts depends on the decision alone
  pub same_report : r ≡ q
  same_report =
      let d : Decision N = b.decision in
      let c : IsReport n s d r = subst (λ e. IsReport n s e r) same_decision a.report_is in
      λ i. record {
        kept = counts_once (IsSurviving n s d.kept) r.kept q.kept c.kept b.report_is.kept i;
        removed = counts_once (IsRemoved s d.kept) r.removed q.removed c.removed b.report_is.removed i;
        short = counts_once (LosesAs s d.reach d.kept short) r.short q.short c.short b.report_is.short i;
        long = counts_once (LosesAs s d.reach d.kept long) r.long q.long c.long b.report_is.long i;
        dep = counts_once (LosesAs s d.reach d.kept attaches) r.dep q.dep c.dep b.report_is.dep i;
        revived = counts_once (λ x. d.resurrected x ≡ true) r.revived q.revived c.resurrected
            b.report_is.resurrected i;
      }

-- from a state, a collection leads to at most one state, with one report
pub one_collection : (n : ℕ) (s t u : State) (r q : Report) → CollectsState n s t r → CollectsState n s u q
    → (t ≡ u) × (r ≡ q)
one_collection n s t u r q a b =
    let rank : Id → ℕ = λ x. x.0 in
    let objects : t.objects ≡ u.objects =
    same_map nat_cmp_total nat_cmp-IsAntisymmetric t.objects u.objects
    (λ x. same_objects rank n (scene_of s) (scene_of t) (scene_of u) r q a.scene b.scene (record { 0 = x }))
    in
    let same = same_decision rank n (scene_of s) (scene_of t) (scene_of u) r q a.scene b.scene in
    let handles : t.handles ≡ u.handles =
    same_map nat_cmp_total nat_cmp-IsAntisymmetric t.handles u.handles
    (λ x. a.handles x ∙ (λ i. option_map (cleared (same i).reach (same i).kept) (get s.handles x))
    ∙ sym (b.handles x)) in
    let weak : t.weak ≡ u.weak =
    same_map nat_cmp_total nat_cmp-IsAntisymmetric t.weak u.weak
    (λ x. a.weak x ∙ (λ i. option_map (swept (same i).kept) (get s.weak x)) ∙ sym (b.weak x)) in
    let queue : t.queue ≡ u.queue =
    same_queue rank n (scene_of s) (scene_of t) (scene_of u) r q a.scene b.scene in
    let pinned : t.pinned ≡ u.pinned =
    same_map nat_cmp_total nat_cmp-IsAntisymmetric t.pinned u.pinned (λ x. a.pinned x ∙ sym (b.pinned x)) in
    let registers : t.registers ≡ u.registers = a.registers ∙ sym b.registers in
    let handle_registers : t.handle_registers ≡ u.handle_registers = a.handle_registers
    ∙ sym b.handle_registers in
    let statics : t.statics ≡ u.statics = a.statics ∙ sym b.statics in
    let board : t.board ≡ u.board = a.board ∙ sym b.board in
    let blocks : t.blocks ≡ u.blocks = a.blocks ∙ sym b.blocks in
    let serials : t.serials ≡ u.serials = a.serials ∙ sym b.serials in (
      λ i. record {
        objects = objects i;
        handles = handles i;
        weak = weak i;
        registers = registers i;
        handle_registers = handle_registers i;
        statics = statics i;
        board = board i;
        queue = queue i;
        pinned = pinned i;
        blocks = blocks i;
        serials = serials i;
      },
      same_report rank n (scene_of s) (scene_of t) (scene_of u) r q a.scene b.scene,
    )
