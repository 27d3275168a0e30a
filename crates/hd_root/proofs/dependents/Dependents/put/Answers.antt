use Rattle.std.proofs.Common.{◌≡◌, ◌++◌, ◌∷◌, ◌==◌, [], List, Some, cond, length, nat_eq, sym, ap, ◌∙◌, subst, arith}
use Rattle.std.specs.HashMap.{get}
use Rattle.hd_root.specs.declared.dependents.Link.{Link}
use Rattle.hd_root.specs.Inside.{AreChained}
use Rattle.hd_root.proofs.LinkLists.{chained_put}
use Rattle.hd_root.proofs.dependents.Dependents.put.Goals as goal

pub invariant_of-self-2 : goal.invariant_of-self-2
invariant_of-self-2 c =
    let links : List Link = c.self.inside.links.items in
    let x : Link =
    record { target = c.args.target; secondary = c.args.secondary; before = c.in_ok-before.before } in
    let items : c.push_reserved.new.self.items ≡ links ++ x ∷ [] =
    c.push_reserved.ensures.items ∙ ap (λ ls. ls ++ x ∷ []) c.reserve.ensures.items in
    let count : c.len.result ≡ length links = omega (arith, c.self.inside.links.ok.0) in
    subst (λ ls. AreChained ls (get nat_eq c.insert.new.self)) (sym items)
    (chained_put links x (get nat_eq c.self.inside.last) (get nat_eq c.insert.new.self) c.self.invariant
    c.in_ok-before.ensures.old
    (λ q. c.in_ok-before.ensures.updates.0 q
    ∙ ap (λ n. cond (c.args.target.0 == q) (Some n) (get nat_eq c.self.inside.last q)) count))
