use Rattle.hd_store.proofs.StoreWords.{Machine, ap, arith, last_serial, length, ◌<◌, ◌∙◌, ◌≡◌}
use Rattle.std.proofs.lemmas.Grind.{get_or_default_zero}
use Rattle.hd_store.proofs.contents.Contents.last_serial.Goals as goal

pub returns : goal.returns
returns c =
    let callers : length c.self.inside.handle_registers.items ≡ c.args.self.now.numbers.callers =
    ap (λ (m : Machine). m.numbers.callers) c.self.view_is in
    let within : c.args.caller < length c.self.inside.serials.items = omega
    (arith, c.requires, callers, c.self.invariant.serials) in
    c.index.ensures ∙ get_or_default_zero c.self.inside.serials.items c.args.caller c.index.result.now within
    ∙ ap (λ (m : Machine). last_serial m.state c.args.caller) c.self.view_is
