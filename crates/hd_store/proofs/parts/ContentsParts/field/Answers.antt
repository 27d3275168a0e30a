use Rattle.hd_store.proofs.StoreWords.{IsNamed, ap, field_of, length, named_in, object_named, parts, subst, sym, ◌<◌, ◌∙◌}
use Rattle.hd_store.proofs.HeapCallReadings.{in_heap, count-is, field-is, field-named}
use Rattle.hd_store.proofs.parts.ContentsParts.field.Goals as goal

pub load-requires-clause-object : goal.load-requires-clause-object
load-requires-clause-object c =
    in_heap (parts c.self.inside) c.args.self.now c.self.view_is c.self.invariant c.args.at c.requires.known

pub load-requires-clause-within : goal.load-requires-clause-within
load-requires-clause-within c =
    subst (λ n. c.from.result < n)
    (sym (count-is (parts c.self.inside) c.args.self.now c.self.view_is c.self.invariant c.args.at
    c.requires.known))
    (subst (λ i. i < length (object_named c.args.self.now c.args.at).fields)
    (sym c.from.ensures) c.requires.field)

pub returns-clause-value : goal.returns-clause-value
returns-clause-value c =
    ap (named_in c.args.self.now.names) c.load.ensures
    ∙ field-is (parts c.self.inside) c.args.self.now c.self.view_is c.self.invariant c.args.at
    c.requires.known c.from.result ∙ ap (field_of (object_named c.args.self.now c.args.at)) c.from.ensures

pub returns-clause-named : goal.returns-clause-named
returns-clause-named c =
    subst (IsNamed c.args.self.now.names) (sym c.load.ensures)
    (field-named (parts c.self.inside) c.args.self.now c.self.view_is c.self.invariant c.args.at
    c.requires.known c.from.result
    (subst (λ i. i < length (object_named c.args.self.now c.args.at).fields)
    (sym c.from.ensures) c.requires.field))
