use Rattle.std.proofs.lemmas.Result.{IfOk-weaker}
use Rattle.hd_store.proofs.StoreWords.{WeakTable, ap, arith, get, get-empty, inr, nat_cmp, ◌∙◌}
use Rattle.hd_store.specs.Inside.{HasWeakRoom}
use Rattle.hd_store.proofs.contents.open_weak.Goals as goal

pub returns-then-blocks-gt-BLOCKS-clause-room : goal.returns-then-blocks-gt-BLOCKS-clause-room
returns-then-blocks-gt-BLOCKS-clause-room c =
    IfOk-weaker c.open_with.result _ (HasWeakRoom c.args.blocks c.args.callers) (λ w is. inr (
      omega (arith, c.if-blocks-gt-BLOCKS.true),
      λ slot. ap (λ (t : WeakTable). get t.held slot) is ∙ get-empty nat_cmp slot,
    )) c.open_with.ensures
