use Rattle.hd_store.proofs.StoreWords.{All, List, Machine, Root, ap, has_object, map, parts, root_named, roots_of, subst, sym, true, unheld, ◌∙◌, ◌≡◌}
use Rattle.hd_scan.specs.Gathering.{roots_of as table_roots_of}
use Rattle.hd_store.proofs.RootIdentities.{roots-are, roots-hold, unheld-roots}
use Rattle.hd_store.proofs.contents.Contents.named_roots.Goals as goal

pub named_roots-requires : goal.named_roots-requires
named_roots-requires c =
    subst (λ (roots : List Root). All (λ (root : Root). has_object c.self.inside.heap root.at ≡ true) roots)
    (ap (λ (m : Machine). table_roots_of m.table) c.self.view_is ∙ sym c.requires)
    (roots-hold (parts c.self.inside) c.self.invariant)

pub returns-in-Ok : goal.returns-in-Ok
returns-in-Ok c =
    c.in-Ok.ensures
    ∙ ap (map (root_named c.self.inside.heap))
    (c.requires ∙ sym (ap (λ (m : Machine). table_roots_of m.table) c.self.view_is))
    ∙ ap (map (root_named c.self.inside.heap)) (sym (unheld-roots (parts c.self.inside) c.self.invariant))
    ∙ roots-are c.self.inside.heap (unheld c.self.inside.table.rows c.self.inside.weak.held)
    ∙ ap (λ (m : Machine). roots_of m.state) c.self.view_is
