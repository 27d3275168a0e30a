use Rattle.hd_store.proofs.StoreWords.{Machine, ap, length, name_in, named_in, object_named, parts, slice_set, subst, sym, with_object, without_free, IsNamed, ◌<◌, ◌∙◌}
use Rattle.hd_store.proofs.{Barrier.field-written, HeapCallReadings.in_heap, HeapCallReadings.count-is, HeapCallReadings.named_objects}
use Rattle.hd_store.proofs.parts.ContentsParts.set_field.Goals as goal

pub store-requires-clause-object : goal.store-requires-clause-object
store-requires-clause-object c = in_heap (parts c.self.inside) c.args.self.now c.self.view_is c.self.invariant
    c.args.at c.requires.known

pub store-requires-clause-within : goal.store-requires-clause-within
store-requires-clause-within c =
    subst (λ n. c.from.result < n) (sym (count-is (parts c.self.inside) c.args.self.now c.self.view_is
    c.self.invariant c.args.at c.requires.known))
    (subst (λ i. i < length (object_named c.args.self.now c.args.at).fields) (sym c.from.ensures)
    c.requires.field)

pub store-requires-clause-target : goal.store-requires-clause-target
store-requires-clause-target c = named_objects c.self.inside.heap c.args.v
    (subst (λ (m : Machine). IsNamed m.names c.args.v) (sym c.self.view_is) c.requires.named)

pub invariant_of-self : goal.invariant_of-self
invariant_of-self c =
    (field-written (parts c.self.inside) c.args.self.now c.self.view_is c.self.invariant c.args.at
    c.requires.known c.from.result c.args.v c.requires.named c.store.new.self c.store.ensures).0

pub returns : goal.returns
returns c =
    (field-written (parts c.self.inside) c.args.self.now c.self.view_is c.self.invariant c.args.at
    c.requires.known c.from.result c.args.v c.requires.named c.store.new.self c.store.ensures).1
    ∙ ap (λ i. record c.args.self.now {
      state = with_object c.args.self.now.state (name_in c.args.self.now.names c.args.at)
          (record (object_named c.args.self.now c.args.at) {
            fields = slice_set (object_named c.args.self.now c.args.at).fields i
                (named_in c.args.self.now.names c.args.v);
          });
      heap = without_free c.store.new.self;
    }) c.from.ensures
