use Rattle.hd_store.specs.Store.{seen_by}
use Rattle.hd_store.proofs.StoreWords.{ap, parts, placed_at, refl}
use Rattle.hd_store.proofs.{HeapCallReadings.in_heap, StoreWrite.written-beside}
use Rattle.hd_store.proofs.parts.ContentsParts.set_registered.Goals as goal

pub set_registered-requires : goal.set_registered-requires
set_registered-requires c = in_heap (parts c.self.inside) c.args.self.now c.self.view_is c.self.invariant
    c.args.at c.requires.0

pub invariant_of-self : goal.invariant_of-self
invariant_of-self c =
    (written-beside (parts c.self.inside) c.args.self.now c.self.view_is c.self.invariant c.args.at c.requires.0
    (record (placed_at c.self.inside.heap c.args.at) { registered = c.args.on }) refl refl
    (λ o. record o { registered = c.args.on }) refl
    c.set_registered.new.self c.set_registered.ensures).0

pub returns : goal.returns
returns c =
    ap seen_by ((written-beside (parts c.self.inside) c.args.self.now c.self.view_is c.self.invariant c.args.at c.requires.0
    (record (placed_at c.self.inside.heap c.args.at) { registered = c.args.on }) refl refl
    (λ o. record o { registered = c.args.on }) refl
    c.set_registered.new.self c.set_registered.ensures).1)
