use Rattle.hd_plan.proofs.Basics.{AreGivenUp, AreRemovedIn, HasForwards, Heap, PlanOf, ap, is_pinned, length, refl, subst, ℕ, ◌∙◌, ◌≡◌}
use Rattle.hd_plan.proofs.{KeptMoves.moving_kept, CommitCards.cards_alone, CommitGenerations.settled_generations, CommitShape.AreAtNewAddresses, CommitShape.AreMoved, CommitShape.IsCommitting, CommitShape.can_copy, KeptObjectSteps.carded_kept, KeptObjectSteps.forwarding_some, KeptObjectSteps.fields_kept, KeptObjectSteps.from_second, KeptObjectSteps.stayed_fields, KeptObjectSteps.from_there, CommitClears.cleared, CommitClears.first_within, CommitShape.stays_listed, CommitClears.held_still, CommitResult.settled_there, CommitResult.ending_closed, CommitResult.ending_cards, CommitResult.ending_grown, CommitResult.ending_with_free, CommitResult.ending_alike, CommitResult.ended}
use Rattle.hd_plan.proofs.commits.commit.Goals.{After-deref-regions, After-rewrite_pinned}
use Rattle.hd_plan.proofs.commits.commit.Goals as goal

-- the parts are those of the plan
ms : (c : After-deref-regions) → c.deref-moves.result.now ≡ c.args.plan.now.moves
ms c = c.deref-moves.ensures.value ∙ ap (λ (p : PlanOf). p.moves) c.plan.view_is

cs : (c : After-deref-regions) → c.deref-regions.result.now ≡ c.args.plan.now.regions
cs c = c.deref-regions.ensures.value ∙ ap (λ (p : PlanOf). p.regions) c.plan.view_is

n : (c : After-deref-regions) → c.plan.inside.condemned ≡ c.args.plan.now.basis.condemned
n c = ap {B = ℕ} (λ (p : PlanOf). p.basis.condemned) c.plan.view_is

table : (c : After-deref-regions) → HasForwards c.args.plan.now.moves c.args.plan.now.regions
    c.plan.inside.forwards.firsts.items c.plan.inside.forwards.cells.items
table c = subst (λ (p : PlanOf). HasForwards p.moves p.regions c.plan.inside.forwards.firsts.items
    c.plan.inside.forwards.cells.items) c.plan.view_is c.plan.invariant.forwards

-- what the steps begin with
start : (c : After-deref-regions) → IsCommitting c.args.plan.now c.args.heap.now
start c = record {
  laid = c.requires.laid;
  same = c.requires.same;
  cards = c.requires.cards;
  sound = c.regions-regions.ensures.sound;
}

-- the steps up to the removal
steps : (c : After-rewrite_pinned) → AreAtNewAddresses c.args.plan.now c.args.heap.now c.copy_moves.new.heap
    c.rewrite_carded.new.heap c.rewrite_pinned.new.heap
steps c =
    let moves : c.deref-moves.result.now ≡ c.args.plan.now.moves =
    c.deref-moves.ensures.value ∙ ap (λ (p : PlanOf). p.moves) c.plan.view_is in
    let condemned : c.plan.inside.condemned ≡ c.args.plan.now.basis.condemned =
    ap {B = ℕ} (λ (p : PlanOf). p.basis.condemned) c.plan.view_is in
    record {
      copied = rw moves at c.copy_moves.ensures;
      carded = rw condemned at c.rewrite_carded.ensures;
      stayed = rw moves at c.rewrite_pinned.ensures;
    }

-- what they leave, up to the settling of regions
moved : (c : After-deref-regions) {h1 h2 h3 hr h5 : Heap}
    → AreAtNewAddresses c.args.plan.now c.args.heap.now h1 h2 h3
    → AreRemovedIn (is_pinned c.deref-regions.result.now c.plan.inside.forwards.firsts.items) h3 hr
    c.deref-moves.result.now (length c.deref-moves.result.now)
    → AreGivenUp hr h5 c.deref-regions.result.now (length c.deref-regions.result.now)
    → AreMoved c.args.plan.now c.args.heap.now h1 h2 h3 h5
moved c m removed given_up = record {
  committing = start c;
  forwards = m;
  cleared = cleared (start c) m (table c) (rw (ms c, cs c) at removed) (rw (cs c) at given_up);
}

pub copy_moves-requires : goal.copy_moves-requires
copy_moves-requires c =
    let d = (goal.at.copy_moves-requires c).After-deref-regions in
    rw (ms d) (record {
      can_copy = can_copy (start d);
      laid = c.requires.laid;
      kept = λ k low moving. fields_kept (start d) k low (moving_kept _ moving);
      forwards = forwarding_some (start d);
    })

pub rewrite_carded-requires : goal.rewrite_carded-requires
rewrite_carded-requires c =
    let d = (goal.at.rewrite_carded-requires c).After-deref-regions in
    rw (n d) (record {
      laid = c.requires.laid;
      kept = λ x is y field. carded_kept (start d) (rw (ms d) at c.copy_moves.ensures) x y is field;
      forwards = forwarding_some (start d);
    })

pub rewrite_pinned-requires : goal.rewrite_pinned-requires
rewrite_pinned-requires c =
    let d = (goal.at.rewrite_pinned-requires c).After-deref-regions in
    let copied = rw (ms d) at c.copy_moves.ensures in
    let carded = rw (n d) at c.rewrite_carded.ensures in
    rw (ms d, cs d) (record {
      pinned = stays_listed (start d);
      laid = c.requires.laid;
      objects = from_second (start d) copied carded;
      rising = c.requires.laid.moves.rising;
      kept = stayed_fields (start d) copied carded;
      forwards = forwarding_some (start d);
    })

pub remove_left-requires : goal.remove_left-requires
remove_left-requires c =
    let d = (goal.at.remove_left-requires c).After-deref-regions in
    let m = steps (goal.at.remove_left-requires c).After-rewrite_pinned in
    rw (ms d, cs d) (record {
      objects = from_there (start d) m.copied m.carded m.stayed;
      rising = c.requires.laid.moves.rising;
      low = λ k low. (first_within (start d) m (table d) k low).0;
      high = λ k low. (first_within (start d) m (table d) k low).1;
    })

pub settle_regions-requires : goal.settle_regions-requires
settle_regions-requires c =
    let d = (goal.at.settle_regions-requires c).After-deref-regions in
    let m = steps (goal.at.settle_regions-requires c).After-rewrite_pinned in
    rw (cs d) (record {
      held = held_still (start d) m (table d) (rw (ms d, cs d) at c.remove_left.ensures);
      rising = c.requires.laid.regions.rising;
      generations = settled_generations (start d);
    })

pub card_kept-requires : goal.card_kept-requires
card_kept-requires c =
    let d = (goal.at.card_kept-requires c).After-deref-regions in
    let m = moved d (steps (goal.at.card_kept-requires c).After-rewrite_pinned) c.remove_left.ensures
    c.settle_regions.ensures in
    rw (ms d, cs d) (record {
      alike = ending_alike m c.settle_regions.new.heap refl;
      with_free = ending_with_free m c.settle_regions.new.heap refl;
      objects = settled_there m;
      fields = ending_closed m c.settle_regions.new.heap refl;
    })

pub clear_unneeded-requires : goal.clear_unneeded-requires
clear_unneeded-requires c =
    let d = (goal.at.clear_unneeded-requires c).After-deref-regions in
    let m = moved d (steps (goal.at.clear_unneeded-requires c).After-rewrite_pinned) c.remove_left.ensures
    c.settle_regions.ensures in
    record {
      fields = ending_closed m c.card_kept.new.heap c.card_kept.ensures.same;
      cards = ending_cards m c.card_kept.new.heap (rw (ms d) at c.card_kept.ensures);
      grown = ending_grown m c.card_kept.new.heap c.card_kept.ensures.same;
    }

pub returns-clause-commits : goal.returns-clause-commits
returns-clause-commits c =
    let m = moved (goal.at.returns-clause-commits c).After-deref-regions
    (steps (goal.at.returns-clause-commits c).After-rewrite_pinned) c.remove_left.ensures
    c.settle_regions.ensures in
    ended m c.clear_unneeded.new.heap (cards_alone c.settle_regions.new.heap c.card_kept.new.heap
    c.clear_unneeded.new.heap c.card_kept.ensures.same c.clear_unneeded.ensures.same)
    c.clear_unneeded.ensures.exact
