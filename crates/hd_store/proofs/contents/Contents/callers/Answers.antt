use Rattle.hd_store.proofs.StoreWords.{Machine, ap, arith, length, ◌≡◌}
use Rattle.hd_store.proofs.contents.Contents.callers.Goals as goal

pub overflow_cast-result : goal.overflow_cast-result
overflow_cast-result c =
    let callers : length c.self.inside.handle_registers.items ≡ c.args.self.now.numbers.callers =
    ap (λ (m : Machine). m.numbers.callers) c.self.view_is in
    omega (arith, callers, c.requires, c.len.ensures, c.self.inside.handle_registers.ok.0)

pub returns : goal.returns
returns c =
    let callers : length c.self.inside.handle_registers.items ≡ c.args.self.now.numbers.callers =
    ap (λ (m : Machine). m.numbers.callers) c.self.view_is in
    omega (arith, callers, c.requires, c.len.ensures, c.self.inside.handle_registers.ok.0)
