use Rattle.hd_custody.proofs.Basics.{Acting, Known, Named, View, ap, arith, sym, ◌∙◌, ◌≡◌, ◌≤◌}
use Rattle.hd_custody.proofs.SeatSplit.{splits}
use Rattle.hd_custody.proofs.types.Custody.cut.Goals as goal

pub split_seat-inner-requires : goal.split_seat-inner-requires
split_seat-inner-requires g c =
    let inner = c.caller.inside.inner in
    let W = g.row.W.Denot in
    let view : inner.me.0 ≡ c.args.first.now.view = ap (λ (a : Acting W). a.view) c.caller.view_is
    ∙ ap (λ (k : Known W). k.view) c.first.view_is in
    let room : inner.me.0.room ≡ c.args.first.now.view.room = ap (λ (v : View W). v.room) view in
    let enough : g.N.Share.share ≤ inner.me.0.room = omega (arith, room, c.requires.share, c.requires.picked)
    in (
      ap (λ (a : Acting W). a.table) c.caller.view_is ∙ ap (λ (k : Known W). k.table) c.first.view_is
          ∙ c.requires.seat
          ∙ ap (λ (n : Named). n.table) (sym c.self.view_is),
      omega (arith, c.self.invariant.0),
      λ s rule at. splits g.W.Held _ inner.id g.N.Share.share inner.me.0 c.caller.invariant
          (ap (λ (v : View W). v.number) view ∙ c.requires.first) enough s rule at,
    )
