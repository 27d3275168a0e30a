use Rattle.hd_heap.proofs.Basics.{CARD, Contents, HEADER, ap, arith, contents, false, length, object_at, refl, set, set-get_or, size_of, sym, true_from_ne_false, without_object, ℕ, ◌+◌, ◌/◌, ◌∙◌, ◌≡◌}
use Rattle.hd_heap.proofs.Areas.{live_at, count_at, area_taken}
use Rattle.hd_heap.proofs.area.Area.remove.Goals.{After-fields-cells}
use Rattle.hd_heap.proofs.area.Area.remove.Goals as goal

size : (c : After-fields-cells)
    → c.fields-cells.result + HEADER ≡ size_of (object_at (contents c.args.self.now) c.args.at)
size c = ap (λ (n : ℕ). n + HEADER) (c.fields-cells.ensures.count
    ∙ ap (λ (r : Contents). length (object_at r c.args.at).fields) c.deref.ensures)

pub overflow_sub-self : goal.overflow_sub-self
overflow_sub-self c = omega (
  arith,
  size ((goal.at.overflow_sub-self c).After-fields-cells),
  live_at c.args.self.now c.requires.area c.args.at c.requires.object,
)

pub overflow_sub-self-2 : goal.overflow_sub-self-2
overflow_sub-self-2 c = count_at c.args.self.now c.requires.area c.args.at c.requires.object

pub returns-then-self-card : goal.returns-then-self-card
returns-then-self-card c =
    let both = area_taken {at = c.args.at} c.starts_in.result c.requires.area c.requires.object
    (c.remove.ensures.removed ∙ ap (λ (r : Contents). without_object r c.args.at) c.deref_mut.ensures.value)
    c.remove.ensures.laid_out (size ((goal.at.returns-then-self-card c).After-fields-cells)) refl
    c.starts_in.ensures.some
    (λ b. true_from_ne_false _ (λ none. c.starts_in.ensures.none none b.at b.object b.in_card)
    ∙ sym c.if-self-card.true) in
    record { area = both.0; taken = both.1 }

pub returns-else-self-card : goal.returns-else-self-card
returns-else-self-card c =
    let cards = c.args.self.now.cards in
    let card = c.args.at / CARD in
    let both = area_taken {at = c.args.at} false c.requires.area c.requires.object
    (c.remove.ensures.removed ∙ ap (λ (r : Contents). without_object r c.args.at) c.deref_mut.ensures.value)
    c.remove.ensures.laid_out (size ((goal.at.returns-else-self-card c).After-fields-cells))
    (sym (ap (set cards card) (sym c.if-self-card.false) ∙ set-get_or cards card false))
    (λ never. absurd (cc never)) (λ _. sym c.if-self-card.false) in
    record { area = both.0; taken = both.1 }
