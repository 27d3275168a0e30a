use Rattle.hd_store.proofs.StoreWords.{parts, ◌∙◌, arith, subst, Contains, None}
use Rattle.hd_store.proofs.AnchorLists.{listed-is, listed_object, found-object, returns-found, returns-unrooted, FoundChain}
use Rattle.hd_store.proofs.HeapCallReadings.{in_heap}
use Rattle.hd_store.proofs.contents.Contents.root_of.Goals as goal

pub search-requires-clause-anchors : goal.search-requires-clause-anchors
search-requires-clause-anchors c =
    let f = parts c.self.inside in
    let is = listed-is f c.self.invariant c.len.result c.deref-3.ensures.value c.in_ok-anchors.ensures
    c.statics-statics.ensures c.deref.ensures.value
    (omega (arith, c.len.ensures, c.self.inside.handle_registers.ok.0))
    (c.deref-2.ensures.value ∙ c.in_ok-held.ensures) in
    λ a h. listed_object f c.self.invariant a (subst (λ xs. Contains xs a) is h)

pub id-requires : goal.id-requires
id-requires c =
    let f = parts c.self.inside in
    let is = listed-is f c.self.invariant c.len.result c.deref-3.ensures.value c.in_ok-anchors.ensures
    c.statics-statics.ensures c.deref.ensures.value
    (omega (arith, c.len.ensures, c.self.inside.handle_registers.ok.0))
    (c.deref-2.ensures.value ∙ c.in_ok-held.ensures) in
    found-object f c.self.invariant c.args.goal _ is _
    (subst (FoundChain f c.self.invariant c.args.goal c.deref-3.result.now) c.in-Some.is
    c.in_ok-chain.ensures)
    c.at.result c.at.ensures

pub returns-in-Some : goal.returns-in-Some
returns-in-Some c =
    let f = parts c.self.inside in
    let is = listed-is f c.self.invariant c.len.result c.deref-3.ensures.value c.in_ok-anchors.ensures
    c.statics-statics.ensures c.deref.ensures.value
    (omega (arith, c.len.ensures, c.self.inside.handle_registers.ok.0))
    (c.deref-2.ensures.value ∙ c.in_ok-held.ensures) in
    returns-found f c.self.invariant c.args.self.now c.self.view_is c.args.goal
    (in_heap f c.args.self.now c.self.view_is c.self.invariant c.args.goal c.requires) _ is _
    (subst (FoundChain f c.self.invariant c.args.goal c.deref-3.result.now) c.in-Some.is
    c.in_ok-chain.ensures)
    c.at.result c.at.ensures c.id.result c.id.ensures.identity c.len-in-Some.result c.len-in-Some.ensures

pub returns : goal.returns
returns c =
    let f = parts c.self.inside in
    let is = listed-is f c.self.invariant c.len.result c.deref-3.ensures.value c.in_ok-anchors.ensures
    c.statics-statics.ensures c.deref.ensures.value
    (omega (arith, c.len.ensures, c.self.inside.handle_registers.ok.0))
    (c.deref-2.ensures.value ∙ c.in_ok-held.ensures) in
    returns-unrooted f c.self.invariant c.args.self.now c.self.view_is c.args.goal
    (in_heap f c.args.self.now c.self.view_is c.self.invariant c.args.goal c.requires)
    (subst (λ xs. FoundChain f c.self.invariant c.args.goal xs None) is
    (subst (FoundChain f c.self.invariant c.args.goal c.deref-3.result.now) c.in-None.is
    c.in_ok-chain.ensures))
