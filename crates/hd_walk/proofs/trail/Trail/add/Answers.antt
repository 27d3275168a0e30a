use Rattle.std.proofs.Common.{rules, ◌≡◌, ◌∙◌, ◌++◌, ◌∷◌, [], sym, ap, subst, List, nat_eq}
use Rattle.std.specs.HashSet.{contains}
use Rattle.hd_walk.specs.{Inside.IsTrail, Trail.before_of, Trail.found_by, Trail.with_found}
use Rattle.hd_walk.proofs.TrailAdds.{next_by, test_by, trail_more}
use Rattle.hd_walk.proofs.trail.Trail.add.Goals as goal

pub invariant_of-self-in-Ok-true : goal.invariant_of-self-in-Ok-true
invariant_of-self-in-Ok-true c =
    let nodes = c.self.inside.nodes.keys in
    let marks = c.self.inside.marks.items in
    let kept : c.push_reserved.new.self.items ≡ marks ++ c.args.mark ∷ [] = search rules in
    let keys : c.insert.new.self.keys ≡ nodes ++ c.args.at ∷ [] = search rules in
    let out = test_by nodes marks c.args.at c.in-Ok-true.field-0 c.self.invariant c.in-Ok-true.ensures.added
    c.in-Ok-true.field-0-test in
    subst (λ ms. IsTrail c.insert.new.self.keys ms (contains nat_eq c.insert.new.self)) (sym kept)
    (subst (λ ks. IsTrail ks (marks ++ c.args.mark ∷ []) (contains nat_eq c.insert.new.self)) (sym keys)
    (trail_more nodes marks c.args.at c.args.mark c.self.invariant out c.in-Ok-true.ensures.updates.0))

pub returns-in-Ok-true : goal.returns-in-Ok-true
returns-in-Ok-true c =
    let nodes = c.self.inside.nodes.keys in
    let marks = c.self.inside.marks.items in
    let kept : c.push_reserved.new.self.items ≡ marks ++ c.args.mark ∷ [] = search rules in
    let keys : c.insert.new.self.keys ≡ nodes ++ c.args.at ∷ [] = search rules in
    let out = test_by nodes marks c.args.at c.in-Ok-true.field-0 c.self.invariant c.in-Ok-true.ensures.added
    c.in-Ok-true.field-0-test in
    (λ i. found_by (keys i) (kept i))
    ∙ next_by nodes marks c.args.at c.args.mark c.self.invariant.marked out
    ∙ ap (λ found. with_found found c.args.at (before_of c.args.mark)) (c.self.view_is ∙ c.make_room.ensures)
