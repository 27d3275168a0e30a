use Rattle.std.proofs.Common.{None, ap, subst, sym, ◌∙◌}
use Rattle.hd_turns.specs.Views.{Known, MayLeave as MayLeaveGate, gave_back as gate_given}
use Rattle.hd_host.specs.declared.change.Change.{Change}
use Rattle.hd_host.specs.View.{HostView}
use Rattle.hd_ends.specs.Ends.{MayLeave, SharerView, gave_back}
use Rattle.hd_ends.specs.Views.{IsSharer, SharedTurn, SharedView, sharer_of}
use Rattle.hd_ends.proofs.SharerTurns.{left_behind, may_leave_gate, same_host, sharer_leaves}
use Rattle.hd_ends.proofs.sharer.Sharer.leave.Goals as goal

pub leave-requires-clause-turn : goal.leave-requires-clause-turn
leave-requires-clause-turn c =
    let had = ap (λ (s : SharerView). s.host) c.self.view_is ∙ c.requires.turn.1 in
    let host_is = same_host c.self.inside.end.value c.value-behind.ensures.value c.host_mut.ensures.value had in
    subst (λ (b : SharedView). MayLeaveGate SharedTurn b c.self.inside.end.view)
    (sym (left_behind c.self.invariant c.value-behind.ensures.value host_is))
    (may_leave_gate c.self.invariant
    (subst (λ (s : SharerView). MayLeave s.end c.requires.turn.0) (sym c.self.view_is) c.requires.turn.2))

pub invariant_of-self : goal.invariant_of-self
invariant_of-self c =
    let end = c.self.inside.end in
    let had = ap (λ (s : SharerView). s.host) c.self.view_is ∙ c.requires.turn.1 in
    let host_is = same_host c.self.inside.end.value c.value-behind.ensures.value c.host_mut.ensures.value had in
    let gone : SharedView → Known SharedView = λ b. record {
      table = end.table;
      view = gate_given b end.view;
      value = None;
    } in
    subst (λ (k : Known SharedView). IsSharer k c.self.inside.first c.self.inside.each)
    (sym (c.leave.ensures ∙ ap gone (left_behind c.self.invariant c.value-behind.ensures.value host_is)))
    (sharer_leaves c.self.invariant
    (subst (λ (s : SharerView). MayLeave s.end c.requires.turn.0) (sym c.self.view_is) c.requires.turn.2))

pub returns : goal.returns
returns c =
    let end = c.self.inside.end in
    let each = c.self.inside.each in
    let had = ap (λ (s : SharerView). s.host) c.self.view_is ∙ c.requires.turn.1 in
    let host_is = same_host c.self.inside.end.value c.value-behind.ensures.value c.host_mut.ensures.value had in
    let gone : SharedView → Known SharedView = λ b. record {
      table = end.table;
      view = gate_given b end.view;
      value = None;
    } in (
      c.requires.turn.0,
      record {
        had = c.requires.turn.1;
        may = c.requires.turn.2;
        new_is = ap (λ (k : Known SharedView). sharer_of k each c.note.new.last)
            (c.leave.ensures ∙ ap gone (left_behind c.self.invariant c.value-behind.ensures.value host_is))
            ∙ ap (λ (l : Change). sharer_of (gone (record { each = each; host = c.requires.turn.0 })) each l)
            (c.note.ensures ∙ ap (λ (v : HostView). v.last) host_is)
            ∙ ap (gave_back c.requires.turn.0) c.self.view_is;
      },
    )
