use Rattle.std.proofs.lemmas.Result.{IfOk-weaker}
use Rattle.std.specs.FinMap.{empty_of_len}
use Rattle.hd_store.proofs.StoreWords.{Id, Option, WeakTable, ap, arith, len, len-empty, nat_cmp, sym, ⊎_elim, ◌∙◌, ◌≡◌}
use Rattle.hd_store.proofs.WeakRoom.{none-empty}
use Rattle.hd_store.proofs.growing.larger_weak.Goals as goal

pub returns-then-held_count-eq0-clause-held : goal.returns-then-held_count-eq0-clause-held
returns-then-held_count-eq0-clause-held c =
    IfOk-weaker c.open_weak.result _ (λ (w : WeakTable). w.held ≡ c.args.weak.now.held)
    (λ w is. is ∙ sym (empty_of_len c.args.weak.now.held
    (omega (arith, c.if-held_count-eq0.true, c.held_count.ensures.value)))) c.open_weak.ensures.held

pub larger-requires-clause-blocks : goal.larger-requires-clause-blocks
larger-requires-clause-blocks c = (
  ⊎_elim (λ low. low) (λ none. absurd (omega (
    arith,
    ap len (none-empty c.args.weak.now.held none),
    len-empty nat_cmp (Option Id),
    c.held_count.ensures.value,
    c.if-held_count-eq0.false,
  ))) c.requires.within,
  c.requires.few,
)
