use Rattle.std.proofs.Common.{◌≡◌, ◌+◌, ◌<◌, ◌≤◌, ℕ, Some, sym, ◌∙◌, ap, subst, inl, inr, arith}
use Rattle.std.proofs.lemmas.Bool.{cases_eq}
use Rattle.hd_model.specs.declared.data.Addr.{Addr}
use Rattle.hd_model.specs.State.{Handle}
use Rattle.hd_model.specs.Table.{row_at}
use Rattle.hd_rows.specs.Inside.{IsPlain}
use Rattle.hd_rows.proofs.checks.are_plain.Goals as goal

pub loop-slot-preserved : goal.loop-slot-preserved
loop-slot-preserved c = λ k row low is_object_at.
    elim (cases_eq k c.loop-slot.slot) [
      | inl same ↦
          subst (λ (j : ℕ). IsPlain c.args.heap.now c.args.ages.now j row) (sym same)
          (c.is_plain.ensures c.if-not-is_plain.false row
          (subst (λ (j : ℕ). row_at c.args.seg.now j ≡ Some row) same is_object_at))
      | inr other ↦ c.loop-slot.invariant k row (omega (arith, other)) is_object_at
    ]

pub returns : goal.returns
returns c = λ yes0 slot row is_object_at.
    let high = (c.given.ensures.table.rows slot row is_object_at).high in
    c.loop-slot.invariant slot row (omega (arith, high, c.blocks-2.ensures.value, c.requires)) is_object_at
