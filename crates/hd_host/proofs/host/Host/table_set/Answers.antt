use Rattle.std.proofs.Common.{None, ap, inl, inr, refl, subst, sym, ◌∙◌}
use Rattle.hd_model.specs.declared.command.Cmd.TheVariants as cmd
use Rattle.hd_host.specs.{Calls.FailsBy, View.HostView, View.IsAsItWas}
use Rattle.hd_host.proofs.CallHost.{known_in}
use Rattle.hd_host.proofs.SetEntry.{sets, sets_none}
use Rattle.hd_host.proofs.GrownCalls.{called_numbers, callers_by, fails_by, host_on, wide}
use Rattle.hd_host.proofs.WideCalls.{known_on}
use Rattle.hd_host.proofs.host.Host.table_set.Goals as goal

pub invariant_of-self : goal.invariant_of-self
invariant_of-self c =
    host_on c.self.invariant c.self.view_is c.requires.context refl refl c.in-Ok.ensures

pub table_add-requires-clause-context : goal.table_add-requires-clause-context
table_add-requires-clause-context c =
    known_on (called_numbers c.in-Ok.ensures) (known_in c.self.view_is c.requires.context)

pub invariant_of-self-in-Err : goal.invariant_of-self-in-Err
invariant_of-self-in-Err c =
    host_on c.self.invariant c.self.view_is c.requires.context refl refl c.in-Err.ensures

pub returns-in-Ok-table_add-clause-does : goal.returns-in-Ok-table_add-clause-does
returns-in-Ok-table_add-clause-does c =
    sets c.self.invariant.host c.self.view_is c.requires.context c.args.key c.args.value c.in-Ok.replaced
    (wide c.self.invariant c.self.view_is c.requires.context refl refl c.in-Ok.ensures) _ c.clear.ensures c.in-Ok-table_add.ensures.does

pub returns-in-Ok-table_add-clause-contexts : goal.returns-in-Ok-table_add-clause-contexts
returns-in-Ok-table_add-clause-contexts c =
    c.table_add.ensures.contexts ∙ callers_by c.self.invariant c.self.view_is (called_numbers c.in-Ok.ensures)

pub returns-in-Err-table_add-clause-does : goal.returns-in-Err-table_add-clause-does
returns-in-Err-table_add-clause-does c =
    let both = sets_none c.self.invariant.host c.self.view_is c.requires.context c.args.key c.args.value
    c.in-Ok.replaced (wide c.self.invariant c.self.view_is c.requires.context refl refl c.in-Ok.ensures) _
    c.clear.ensures c.table_add.new.self c.in-Err-table_add.fault
    c.in-Err-table_add.ensures.does.0 c.in-Err-table_add.ensures.does.1 in (
      inr both.0,
      subst (IsAsItWas c.args.self.now)
          (λ i. record (sym c.self-in-Ok.view_is i) { last = sym (c.put.ensures ∙ c.get-last.ensures) i }) both.1,
    )

pub returns-in-Err-table_add-clause-contexts : goal.returns-in-Err-table_add-clause-contexts
returns-in-Err-table_add-clause-contexts c =
    ap (λ (x : HostView). x.machine.numbers.callers) c.self-in-Ok.view_is ∙ c.table_add.ensures.contexts
    ∙ callers_by c.self.invariant c.self.view_is (called_numbers c.in-Ok.ensures)

pub returns-in-Err-clause-does : goal.returns-in-Err-clause-does
returns-in-Err-clause-does c =
    let both = fails_by c.self.invariant c.self.view_is c.requires.context refl refl c.in-Err.ensures
    c.in-Err.refusal refl in (
      inl (subst (FailsBy c.args.self.now c.args.context None (cmd.CRemove c.args.key)) (sym c.of.ensures) both.0),
      both.1,
    )

pub returns-in-Err-clause-contexts : goal.returns-in-Err-clause-contexts
returns-in-Err-clause-contexts c = callers_by c.self.invariant c.self.view_is (called_numbers c.in-Err.ensures)
