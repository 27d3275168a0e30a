use Rattle.std.proofs.Common.{ap, arith, ◌+◌, ◌<◌, ◌^◌, ◌≡◌}
use Rattle.hd_model.specs.State.{count_of, rename_extra}
use Rattle.hd_commands.specs.Seen.{name_in}
use Rattle.hd_model.specs.Handles.{extra_of}
use Rattle.hd_commands.proofs.on_handles.raise_count_of.Goals as goal

pub overflow_add-count : goal.overflow_add-count
overflow_add-count g c =
    let p = g.P.Parts.seen c.args.parts.now in
    let is : count_of (rename_extra (name_in p) (extra_of c.args.handle.extra)) ≡ c.in-Count.count =
    ap (λ e. count_of (rename_extra (name_in p) (extra_of e))) c.in-Count.is in
    let small : c.in-Count.count + 1 < 2 ^ 32 = omega (arith, c.requires.small, is) in
    record { fits = small }
