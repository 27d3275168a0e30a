use Rattle.std.proofs.Common.{ap, refl, subst, sym, ◌∙◌, IsSome}
use Rattle.std.specs.FinMap as map
use Rattle.hd_maps.proofs.NumberedMaps.{get_seen, inserted, seen}
use Rattle.hd_maps.proofs.numbered.Numbered.get_mut.Goals as goal

pub returns : goal.returns
returns g c =
    let found = sym (get_seen c.self.inside.tree.entries c.self.invariant c.args.key)
    ∙ ap (λ m. map.get m c.args.key) c.self.view_is in (
      (
        refl,
        λ w h. let wrote = c.get_mut.follows.holds w in
            inserted c.self.inside.tree (c.get_mut.follows.lender w) c.self.invariant wrote.4 c.args.key w
            (wrote.3 (subst IsSome (sym found) h))
            ∙ ap (λ m. map.insert m c.args.key w) c.self.view_is,
        ap (λ m. seen m.entries) c.get_mut.follows.holds-at-none ∙ c.self.view_is,
      ),
      record { writes_back = tt; value = c.get_mut.ensures.value ∙ found },
    )
