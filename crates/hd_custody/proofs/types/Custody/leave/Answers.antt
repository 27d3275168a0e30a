use Rattle.hd_custody.proofs.Basics.{Acting, Follows, IsSeated, Kinded, Known, List, Me, Named, Option, Some, View, [], ap, arith, carried_by, subst, sym, true, ℕ, ◌∙◌, ◌∷◌, ◌≡◌}
use Rattle.atomic_table.specs.{Table.rest, Seated.TableId}
use Rattle.hd_custody.proofs.{LeaveSteps.leave_steps, SeatCalls.left_seated}
use Rattle.hd_custody.proofs.types.Custody.leave.Goals as goal

-- the seat once the world is in its slot, before the gate is free
between : {W : Type 0} {t : TableId} (me seat : Me (Option W) (View W)) (a : Acting W) (k : Known W) (w : W)
    → record { table = t; view = me.0; out = me.1 } ≡ a → record { table = a.table; view = a.view } ≡ k
    → IsSeated (a.view, a.out) → k.view.has_gate ≡ true → seat ≡ (me.0, (0, Some w) ∷ rest me.1)
    → (seat.0 ≡ a.view) × (k.view ≡ seat.0) × (seat.1 ≡ (0, Some w) ∷ [])
between {W} me seat a k w fields view_is seated gate same =
    let view : seat.0 ≡ a.view = ap (λ (x : Me (Option W) (View W)). x.0) same
    ∙ ap (λ (x : Acting W). x.view) fields in
    let known : a.view ≡ k.view = ap (λ (x : Known W). x.view) view_is in (
      view,
      sym known ∙ sym view,
      ap (λ (x : Me (Option W) (View W)). x.1) same ∙ ap (λ (l : List (ℕ × Option W)). (0, Some w) ∷ rest l)
          (ap (λ (x : Acting W). x.out) fields ∙ seated.1
          ∙ ap (λ (v : View W). carried_by v.has_gate) known ∙ ap carried_by gate),
    )

pub store-requires : goal.store-requires
store-requires g c =
    let W = g.row.W.Denot in
    let seat = c.exchange.new.seat in
    let u = c.requires.follows.0 in
    let s = between c.caller.inside.inner.me seat.me c.seat.inside.caller c.args.seat.now c.args.world
    c.caller.view_is c.seat.view_is c.seat.invariant c.requires.gate c.exchange.ensures.3 in (
      c.exchange.ensures.0 ∙ ap (λ (a : Acting W). a.table) c.caller.view_is
          ∙ ap (λ (k : Known W). k.table) c.seat.view_is ∙ c.requires.seat
          ∙ ap (λ (n : Named). n.table) (sym c.self.view_is),
      omega (arith, c.self.invariant.0),
      leave_steps _ _ _ _ _ _ (ap (λ (v : View W). v.is_spent) s.0 ∙ c.seat.invariant.0) u c.args.world
          (ap (λ (v : View W). v.has_gate) (sym s.1) ∙ c.requires.gate)
          (ap (λ (v : View W). v.taken) (sym s.1) ∙ c.requires.follows.1) s.2
          (subst (λ v. Follows g.W.Held u c.args.world v) s.1 c.requires.follows.2),
    )

pub invariant_of-caller : goal.invariant_of-caller
invariant_of-caller g c =
    let W = g.row.W.Denot in
    let s = between c.caller.inside.inner.me c.exchange.new.seat.me c.seat.inside.caller c.args.seat.now
    c.args.world c.caller.view_is c.seat.view_is c.seat.invariant c.requires.gate c.exchange.ensures.3 in
    let given = c.store.ensures.2 c.args.world c.requires.follows.0 s.2
    (ap (λ (v : View W). v.taken) (sym s.1) ∙ c.requires.follows.1) in
    ap (λ (x : Me (Option W) (View W)). x.0.is_spent) given.0 ∙ ap (λ (v : View W). v.is_spent) s.0
    ∙ c.seat.invariant.0

pub invariant_of-seat : goal.invariant_of-seat
invariant_of-seat g c =
    let W = g.row.W.Denot in
    let s = between c.caller.inside.inner.me c.exchange.new.seat.me c.seat.inside.caller c.args.seat.now
    c.args.world c.caller.view_is c.seat.view_is c.seat.invariant c.requires.gate c.exchange.ensures.3 in
    let given = c.store.ensures.2 c.args.world c.requires.follows.0 s.2
    (ap (λ (v : View W). v.taken) (sym s.1) ∙ c.requires.follows.1) in
    subst IsSeated (sym given.0)
    (left_seated g.W.Held c.requires.follows.0 c.args.world c.exchange.new.seat.me.0
    (ap (λ (v : View W). v.is_spent) s.0 ∙ c.seat.invariant.0)
    (subst (λ (v : View W). Kinded v.held) (sym s.0) c.seat.invariant.2) given.1)
