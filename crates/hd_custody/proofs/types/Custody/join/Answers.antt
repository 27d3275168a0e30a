use Rattle.hd_custody.proofs.Basics.{Acting, Known, Named, View, ap, arith, carried_by, false, sym, ◌∙◌, ◌≡◌}
use Rattle.hd_custody.proofs.SeatJoin.{joins}
use Rattle.hd_custody.proofs.types.Custody.join.Goals as goal

pub join_seat-requires : goal.join_seat-requires
join_seat-requires g c =
    let W = g.row.W.Denot in
    let first = c.caller.inside.inner in
    let other = c.other.inside.inner in
    let view : first.me.0 ≡ c.args.first.now.view = ap (λ (a : Acting W). a.view) c.caller.view_is
    ∙ ap (λ (k : Known W). k.view) c.first.view_is in
    let other_view : other.me.0 ≡ c.args.ended.view = ap (λ (a : Acting W). a.view) c.other.view_is
    ∙ ap (λ (k : Known W). k.view) c.ended.view_is in
    let gate : other.me.0.has_gate ≡ false = ap (λ (v : View W). v.has_gate) other_view ∙ c.requires.gate in
    let out = ap (λ (a : Acting W). a.out) c.other.view_is ∙ c.ended.invariant.1
    ∙ ap (λ (a : Acting W). carried_by a.view.has_gate) (sym c.other.view_is) ∙ ap carried_by gate in
    let table = ap (λ (n : Named). n.table) (sym c.self.view_is) in (
      ap (λ (a : Acting W). a.table) c.caller.view_is ∙ ap (λ (k : Known W). k.table) c.first.view_is
          ∙ c.requires.seat ∙ table,
      ap (λ (a : Acting W). a.table) c.other.view_is ∙ ap (λ (k : Known W). k.table) c.ended.view_is
          ∙ c.requires.other ∙ table,
      out,
      omega (arith, c.self.invariant.0),
      λ s rule at apart there. joins g.W.Held _ first.id other.id first.me.0 other.me.0 c.caller.invariant
          (ap (λ (v : View W). v.number) view ∙ c.requires.first) c.other.invariant gate
          (ap (λ (v : View W). v.held) other_view ∙ c.requires.empty) s rule at apart there,
    )
