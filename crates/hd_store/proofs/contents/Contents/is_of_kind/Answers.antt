use Rattle.hd_store.proofs.StoreWords.{eq-eqb, sym, true≢false, ◌∙◌}
use Rattle.std.proofs.lemmas.Bool.{eqb-true}
use Rattle.hd_store.proofs.SpareBlocks.{kind_of_use, no_kind_of_use, none_of_use}
use Rattle.hd_store.proofs.contents.Contents.is_of_kind.Goals as goal

pub returns-in-Some-clause-of_kind : goal.returns-in-Some-clause-of_kind
returns-in-Some-clause-of_kind c = λ yes. kind_of_use c.args.self.now.state c.args.block c.in-Some.ensures
    (sym c.number.ensures.value ∙ eqb-true _ _ yes ∙ c.number-in-Some.ensures.value)

pub returns-in-Some-clause-other : goal.returns-in-Some-clause-other
returns-in-Some-clause-other c = λ no is. true≢false (sym (eq-eqb _ _ (c.number.ensures.value
    ∙ no_kind_of_use c.args.self.now.state c.args.block c.in-Some.ensures is ∙ sym c.number-in-Some.ensures.value))
    ∙ no)

pub returns-in-None-clause-other : goal.returns-in-None-clause-other
returns-in-None-clause-other c = λ no is. none_of_use c.args.self.now.state c.args.block c.in-None.ensures is
