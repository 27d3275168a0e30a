use Rattle.hd_store.proofs.StoreWords.{Id, Machine, Option, ap, arith, cases_eq, eq-eqb, inl, inr, len, len-empty, nat_cmp, ne_eqb, parts, sym, true≢false, ◌∙◌, ◌≡◌}
use Rattle.hd_store.proofs.WeakRoom.{empty-none, held-none, none-empty, weak-none}
use Rattle.hd_store.proofs.contents.Contents.lacks_table.Goals as goal

pub returns-then-blocks-gt-BLOCKS-clause-lacks : goal.returns-then-blocks-gt-BLOCKS-clause-lacks
returns-then-blocks-gt-BLOCKS-clause-lacks c = λ lacks.
    let none : c.held_count.result ≡ 0 = elim (cases_eq c.held_count.result 0) [
      | inl e ↦ e
      | inr apart ↦ absurd (true≢false (sym lacks ∙ ne_eqb c.held_count.result 0 apart))
    ] in (
      omega (
        arith,
        c.if-blocks-gt-BLOCKS.true,
        c.blocks-2.ensures.value,
        c.self.invariant.clumps,
        ap (λ (m : Machine). m.numbers.blocks) c.self.view_is,
      ),
      weak-none (parts c.self.inside) c.args.self.now c.self.view_is
          (empty-none c.self.inside.weak.held (omega (arith, none, c.held_count.ensures.value))),
    )

pub returns-then-blocks-gt-BLOCKS-clause-has : goal.returns-then-blocks-gt-BLOCKS-clause-has
returns-then-blocks-gt-BLOCKS-clause-has c = λ has. inr (λ none.
    let nothing = ap len (none-empty c.self.inside.weak.held
    (held-none (parts c.self.inside) c.args.self.now c.self.view_is none)) in
    let zero : c.held_count.result ≡ 0 =
    omega (arith, nothing, len-empty nat_cmp (Option Id), c.held_count.ensures.value) in
    true≢false (sym (eq-eqb c.held_count.result 0 zero) ∙ has))
