use Rattle.hd_store.proofs.StoreWords.{Machine, ap, arith, is_some, subst, sym, use_of, ◌∙◌}
use Rattle.hd_model.specs.State.{IsAllFree, without_use}
use Rattle.hd_store.specs.Spare.{GivesBackPair, IsSpare}
use Rattle.hd_store.proofs.SpareBlocks.{sound_pair, spare_free}
use Rattle.hd_store.proofs.store.Store.give_back_pair.Goals.{After-take_back_pair}
use Rattle.hd_store.proofs.store.Store.give_back_pair.Goals as goal

-- the block is one of the table's
pub release_slots-requires-clause-block : goal.release_slots-requires-clause-block
release_slots-requires-clause-block c =
    let spare = subst (λ (m : Machine). IsSpare m.state c.args.kind c.args.block) (sym c.self.view_is)
    c.requires.spare in
    let inside = c.self.invariant.well_formed.handles.blocks c.args.block (ap is_some spare.of_kind) in
    omega (arith, inside.1, c.self.invariant.limits.blocks.1)

pub release_slots-requires-clause-vacant : goal.release_slots-requires-clause-vacant
release_slots-requires-clause-vacant c =
    (subst (λ (m : Machine). IsSpare m.state c.args.kind c.args.block) (sym c.self.view_is)
    c.requires.spare).vacant

pub take_back_pair-requires-clause-free : goal.take_back_pair-requires-clause-free
take_back_pair-requires-clause-free c =
    subst (λ (m : Machine). IsAllFree m.state c.args.kind c.args.block) (sym c.release_slots.ensures)
    (spare_free c.self.inside.contents.state c.args.kind c.args.block
    (subst (λ (m : Machine). IsSpare m.state c.args.kind c.args.block) (sym c.self.view_is)
    c.requires.spare))

gives : (c : After-take_back_pair)
    → GivesBackPair c.self.inside.contents c.args.block c.take_back_pair.result c.take_back_pair.new.self
gives c = record {
  extra_is = sym (ap (λ (m : Machine). use_of m.state c.take_back_pair.result) c.release_slots.ensures)
      ∙ c.take_back_pair.ensures.extra;
  after = c.take_back_pair.ensures.after
      ∙ ap (λ (m : Machine). record m {
        state = without_use (without_use m.state c.take_back_pair.result) c.args.block;
        table = c.take_back_pair.new.self.table;
      }) c.release_slots.ensures;
}

pub invariant_of-self : goal.invariant_of-self
invariant_of-self c =
    sound_pair c.self.inside.contents c.take_back_pair.new.self c.args.kind c.args.block c.take_back_pair.result
    c.self.invariant
    (subst (λ (m : Machine). IsSpare m.state c.args.kind c.args.block) (sym c.self.view_is) c.requires.spare)
    (gives c)

pub returns : goal.returns
returns c =
    subst (λ (m : Machine). GivesBackPair m c.args.block c.take_back_pair.result c.take_back_pair.new.self)
    c.self.view_is (gives c)
