use Rattle.hd_store.proofs.StoreWords.{parts, placed_at, refl}
use Rattle.hd_store.proofs.{HeapCallReadings.in_heap, StoreWrite.written-beside}
use Rattle.hd_store.proofs.contents.Contents.write_value.Goals as goal

pub set_value-requires : goal.set_value-requires
set_value-requires c = in_heap (parts c.self.inside) c.args.self.now c.self.view_is c.self.invariant
    c.args.at c.requires

pub invariant_of-self : goal.invariant_of-self
invariant_of-self c =
    (written-beside (parts c.self.inside) c.args.self.now c.self.view_is c.self.invariant c.args.at c.requires
    (record (placed_at c.self.inside.heap c.args.at) { value = c.args.value }) refl refl
    (λ o. record o { value = c.args.value }) refl
    c.set_value.new.self c.set_value.ensures).0

pub returns : goal.returns
returns c =
    (written-beside (parts c.self.inside) c.args.self.now c.self.view_is c.self.invariant c.args.at c.requires
    (record (placed_at c.self.inside.heap c.args.at) { value = c.args.value }) refl refl
    (λ o. record o { value = c.args.value }) refl
    c.set_value.new.self c.set_value.ensures).1
