use Rattle.hd_store.proofs.StoreWords.{Id, Object, ap, parts, sym, ◌∙◌}
use Rattle.hd_store.proofs.HeapCallReadings.{count-is, generation-is, identity-is, in_heap, named_object, value-is}
use Rattle.hd_store.proofs.contents.Contents.object_info.Goals as goal

pub id-requires : goal.id-requires
id-requires c = in_heap (parts c.self.inside) c.args.self.now c.self.view_is c.self.invariant c.args.at
    c.requires

pub value-requires : goal.value-requires
value-requires c = in_heap (parts c.self.inside) c.args.self.now c.self.view_is c.self.invariant c.args.at
    c.requires

pub fields-requires : goal.fields-requires
fields-requires c = in_heap (parts c.self.inside) c.args.self.now c.self.view_is c.self.invariant c.args.at
    c.requires

pub generation-requires : goal.generation-requires
generation-requires c = in_heap (parts c.self.inside) c.args.self.now c.self.view_is c.self.invariant c.args.at
    c.requires

pub registered-requires : goal.registered-requires
registered-requires c = in_heap (parts c.self.inside) c.args.self.now c.self.view_is c.self.invariant c.args.at
    c.requires

pub returns : goal.returns
returns c =
    let f = parts c.self.inside in
    let m = c.args.self.now in
    let view = c.self.view_is in
    let stored = c.self.invariant in
    let at = c.args.at in
    let known = c.requires in
    λ i. record {
      id = (c.id.ensures.identity ∙ identity-is f m view stored at known) i;
      value = (c.value.ensures ∙ value-is f m view stored at known) i;
      fields = (c.fields.ensures.count ∙ count-is f m view stored at known) i;
      generation = (c.generation.ensures.value ∙ generation-is f m view stored at known) i;
      registered = (c.registered.ensures ∙ ap (λ (o : Object Id). o.registered)
          (sym (named_object f m view stored at known))) i;
    }
