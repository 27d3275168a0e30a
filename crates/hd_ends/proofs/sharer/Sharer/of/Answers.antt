use Rattle.std.proofs.Common.{◌≡◌, ap, arith, ◌*◌, ◌∙◌}
use Rattle.hd_turns.specs.Views.{Known}
use Rattle.hd_ends.proofs.SharerTurns.{sharer_opens}
use Rattle.hd_ends.proofs.sharer.Sharer.of.Goals as goal

pub overflow_mul-first : goal.overflow_mul-first
overflow_mul-first c =
    let number = ap (λ (k : Known _). k.view.number) c.requires.is in
    let is : c.number.result ≡ c.requires.number = c.number.ensures ∙ number in
    let first : c.number.result * c.args.each ≡ c.requires.number * c.args.each = ap (λ n. n * c.args.each) is in
    omega (arith, first, c.requires.contexts, c.requires.few)

pub invariant_of-result : goal.invariant_of-result
invariant_of-result c = sharer_opens c.requires (ap (λ n. n * c.args.each) c.number.ensures)
