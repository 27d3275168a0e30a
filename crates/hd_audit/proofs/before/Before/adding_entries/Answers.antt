use Rattle.std.proofs.Common.{None, Option, Some, ap, false, is_some, refl, subst, sym, true≢false, ◌<◌, ◌∙◌, ◌≡◌}
use Rattle.hd_model.proofs.MapEntries.{some_value}
use Rattle.hd_model.specs.Command.{slot_of_key}
use Rattle.hd_model.specs.declared.data.Kind.TheVariants as kind
use Rattle.hd_model.specs.declared.data.Slot.{Slot}
use Rattle.hd_model.specs.declared.command.Cmd.TheVariants.{CAdd}
use Rattle.hd_model.specs.declared.data.Entry.{Entry}
use Rattle.hd_model.specs.declared.data.Refusal.TheVariants as refusal
use Rattle.hd_commands.specs.Done.{entry_by}
use Rattle.hd_commands.specs.declared.done.Done.{Done}
use Rattle.hd_plain.specs.OneEntry.{HasExactly, HasOne}
use Rattle.hd_audit.specs.Before.{TakesSlot}
use Rattle.hd_audit.specs.Known.{Known}
use Rattle.hd_audit.proofs.EntryChoices.{adding_idle, adding_new, adding_refused, meets_idle, meets_new, meets_null, meets_present}
use Rattle.hd_audit.proofs.before.Before.adding_entries.Goals as goal

no_slot : (o : Option Slot) → is_some o ≡ false → o ≡ None
no_slot None none = refl
no_slot (Some slot) some = absurd (true≢false some)

pub returns-in_default : goal.returns-in_default
returns-in_default c =
    let j = c.self.inside.judged.machine in
    let cmd = CAdd c.args.k c.args.v in
    subst (λ (k : Known). HasOne k.numbers k.state c.args.caller cmd c.entry_of.result) c.self.view_is
    (subst (λ (e : Entry). HasOne j.numbers j.state c.args.caller cmd e) (sym c.entry_of.ensures)
    (adding_refused j.numbers j.state c.args.caller c.args.k c.args.v cmd
    (subst (λ (k : Known). c.args.caller < k.numbers.callers) (sym c.self.view_is) c.requires.caller)
    c.requires.valid refl refusal.Null
    (meets_null j.state c.args.caller c.args.k (sym c.in_default.ensures))))

pub returns-then-is_some : goal.returns-then-is_some
returns-then-is_some c =
    let j = c.self.inside.judged.machine in
    let cmd = CAdd c.args.k c.args.v in
    let there = some_value (slot_of_key j.state c.in-Some.key)
    (ap is_some (sym c.slot_of.ensures) ∙ sym c.is_some.ensures ∙ c.if-is_some.true) in
    subst (λ (k : Known). HasOne k.numbers k.state c.args.caller cmd c.entry_of-then-is_some.result)
    c.self.view_is
    (subst (λ (e : Entry). HasOne j.numbers j.state c.args.caller cmd e) (sym c.entry_of-then-is_some.ensures)
    (adding_refused j.numbers j.state c.args.caller c.args.k c.args.v cmd
    (subst (λ (k : Known). c.args.caller < k.numbers.callers) (sym c.self.view_is) c.requires.caller)
    c.requires.valid refl refusal.Present
    (meets_present j.state c.args.caller c.args.k c.in-Some.key (sym c.in-Some.ensures) there.0 there.1)))

pub returns-in-Some-idle : goal.returns-in-Some-idle
returns-in-Some-idle c =
    let j = c.self.inside.judged.machine in
    let cmd = CAdd c.args.k c.args.v in
    subst (λ (k : Known). HasOne k.numbers k.state c.args.caller cmd c.entry_of-in-Some-idle.result) c.self.view_is
    (subst (λ (e : Entry). HasOne j.numbers j.state c.args.caller cmd e) (sym (c.entry_of-in-Some-idle.ensures
    ∙ ap (λ (m : Done). entry_by c.args.caller cmd m) c.in_slot-done.ensures))
    (adding_idle j.numbers j.state c.args.caller c.args.k c.args.v cmd
    (subst (λ (k : Known). c.args.caller < k.numbers.callers) (sym c.self.view_is) c.requires.caller)
    c.requires.valid refl c.in-Some-idle.slot c.in-Some.key
    (meets_idle j.state c.args.caller c.args.k c.in-Some.key (sym c.in-Some.ensures)
    (no_slot (slot_of_key j.state c.in-Some.key)
    (ap is_some (sym c.slot_of.ensures) ∙ sym c.is_some.ensures ∙ c.if-is_some.false))
    c.in-Some-idle.slot (sym c.in-Some-idle.ensures))))

pub returns-in-None : goal.returns-in-None
returns-in-None c =
    let j = c.self.inside.judged.machine in
    let cmd = CAdd c.args.k c.args.v in
    subst (λ (k : Known). HasExactly k.numbers k.state c.args.caller cmd
    (TakesSlot k.numbers k.state kind.Dependent))
    c.self.view_is
    (adding_new j.numbers j.state c.args.caller c.args.k c.args.v cmd
    (subst (λ (k : Known). c.args.caller < k.numbers.callers) (sym c.self.view_is) c.requires.caller)
    c.requires.valid refl c.in-Some.key
    (meets_new j.state c.args.caller c.args.k c.in-Some.key (sym c.in-Some.ensures)
    (no_slot (slot_of_key j.state c.in-Some.key)
    (ap is_some (sym c.slot_of.ensures) ∙ sym c.is_some.ensures ∙ c.if-is_some.false))
    (sym c.in-None.ensures)))
