use Rattle.std.proofs.Common.{Option, ap, subst, sym, ◌∙◌}
use Rattle.std.specs.Option.{option_map_or}
use Rattle.hd_model.specs.declared.data.Refusal.TheVariants as refusal
use Rattle.hd_model.specs.declared.data.Slot.{Slot}
use Rattle.hd_model.specs.Command.{Outcome, get_secondary_of, load_reply, refuses}
use Rattle.hd_model.specs.State.{handle_at}
use Rattle.hd_commands.specs.Done.{ComesTo, done_with}
use Rattle.hd_commands.proofs.on_handles.get_secondary.Goals as goal

pub returns : goal.returns
returns g c =
    let p = g.P.Parts.seen c.args.parts.now in
    let act = get_secondary_of p.state c.args.caller c.args.d in
    let slot = c.in_ok-handle.field-0-0 in
    let found = c.in_ok-handle.ensures.found in
    subst (λ (w : Outcome). ComesTo w p (g.P.Parts.seen c.get_secondary_of.new.parts)
    (done_with load_reply c.get_secondary_of.result))
    (sym (ap (λ (o : Option Slot). option_map_or (λ at. option_map_or (act at) (handle_at p.state at)
    (refuses refusal.NotLive p.state)) o (refuses refusal.EmptyRegister p.state)) found.0
    ∙ ap (λ o. option_map_or (act slot) o (refuses refusal.NotLive p.state)) found.1))
    (c.get_secondary_of.ensures slot)
