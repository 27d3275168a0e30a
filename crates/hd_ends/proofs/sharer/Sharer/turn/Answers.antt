use Rattle.std.proofs.Common.{◌≡◌, ap, arith, length, sym, ◌+◌, ◌∙◌}
use Rattle.hd_turns.specs.Views.{entries}
use Rattle.hd_ends.specs.Ends.{SharerView, before_last, turn_of}
use Rattle.hd_ends.specs.Views.{hosts_of}
use Rattle.hd_ends.proofs.HostHistories.{length_hosts}
use Rattle.hd_ends.proofs.sharer.Sharer.turn.Goals as goal

pub returns : goal.returns
returns c =
    let inv = c.self.invariant in
    let free = ap (λ (s : SharerView). s.has_gate) c.self.view_is ∙ c.requires in
    let count : length c.self.inside.end.view.seen ≡ c.turn.result + 1 =
    c.turn.ensures ∙ ap (λ b. entries b c.turn.result) free in
    let seen = ap length inv.seen in
    let turn : c.turn.result ≡ length inv.past = omega (arith, count, seen) in
    turn ∙ sym (length_hosts inv.past) ∙ sym (ap before_last (ap hosts_of inv.seen))
    ∙ ap (λ (s : SharerView). turn_of s.end) c.self.view_is
