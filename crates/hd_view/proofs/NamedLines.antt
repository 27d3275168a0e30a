-- The lines that are named are exactly those that may come.
use Rattle.std.proofs.Common.{List, Some, ap, sym, ℕ, ◌∙◌, ◌≡◌}
use Rattle.std.proofs.lemmas.Option.{same_Some}
use mathlib.Core.Logic.{inl, inr}
use Rattle.hd_model.specs.FullText.{full_line}
use Rattle.hd_audit.specs.Before.{IsEntryLine, MayCome, due_of, number_of}
use Rattle.hd_audit.specs.Known.{Known}
use Rattle.hd_view.specs.Accepted.{AreDue, IsDue, IsLineOf, IsNamedLine, NamedLinesMayCome}
use Rattle.hd_view.specs.declared.accepted.Due.{Due}

module _ (k : Known) (dues : List Due) (all : AreDue k dues) (line : List ℕ) where
  of_entry : IsEntryLine k line → IsLineOf dues line
  of_entry e =
      let found = all.all e.entry.caller e.entry.cmd e.due in
      let due = found.0 in
      let is : IsDue k due = all.each due found.1 in
      let same : due.caller ≡ e.entry.caller = found.2 in
      let command : e.entry.cmd ≡ due.cmd =
      same_Some e.entry.cmd due.cmd (sym e.due ∙ sym (ap (due_of k) same) ∙ is.due_is) in
      record {
        due = due;
        is_due = found.1;
        entry = e.entry;
        caller = sym same;
        command = command;
        named = (is.entries e.entry (sym same) command).0 (e.after, e.step);
        text = e.text ∙ ap (full_line e.entry) (sym (is.number_is ∙ ap (number_of k) same));
      }

  of_named : IsLineOf dues line → IsEntryLine k line
  of_named l =
      let is : IsDue k l.due = all.each l.due l.is_due in
      let step = (is.entries l.entry l.caller l.command).1 l.named in
      record {
        entry = l.entry;
        after = step.0;
        step = step.1;
        due = ap (due_of k) l.caller ∙ is.due_is ∙ ap Some (sym l.command);
        text = l.text ∙ ap (full_line l.entry) (is.number_is ∙ ap (number_of k) (sym l.caller));
      }

  there : MayCome k line → IsNamedLine k dues line
  there (inl e) = inl (of_entry e)
  there (inr last) = inr last

  back : IsNamedLine k dues line → MayCome k line
  back (inl l) = inl (of_named l)
  back (inr last) = inr last

pub named_lines_may_come : NamedLinesMayCome
named_lines_may_come k dues all line = (there k dues all line, back k dues all line)
