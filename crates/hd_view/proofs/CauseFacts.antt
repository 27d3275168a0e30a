-- What is due of a line's caller, by the entries that are named.
use Rattle.std.proofs.Common.{List, None, Option, Some, [], ap, arith, eqb, length, refl, subst, sym, true, ℕ, ◌∙◌, ◌∷◌, ◌≡◌}
use Rattle.std.specs.Prelude.{Contains, ◌≢◌, ◌↔◌}
use Rattle.std.proofs.lemmas.Bool.{eq-eqb, eqb-true}
use Rattle.std.proofs.lemmas.Option.{same_Some}
use mathlib.Core.Logic.{inl}
use Rattle.hd_model.specs.declared.data.Entry.{Entry}
use Rattle.hd_model.specs.declared.command.Cmd.{Cmd}
use Rattle.hd_model.specs.declared.data.Reply.{Reply}
use Rattle.hd_model.specs.declared.data.Reply.TheVariants as reply
use Rattle.hd_model.specs.FullText.{full_line}
use Rattle.hd_model.specs.RunTexts.{cut_lines}
use Rattle.hd_audit.specs.Before.{MayCome, due_of, number_of}
use Rattle.hd_audit.specs.Known.{Known}
use Rattle.hd_view.specs.Accepted.{AreDue, IsEntryOf, IsNamed, IsSetOf}
use Rattle.hd_view.specs.{Inside.Explains, Inside.IsDueOf, Inside.IsOnly, Inside.IsOnlyLike, Inside.IsWrong, Cause.Holds, Cause.IsCause, Cause.IsLike, Cause.IsNext, Cause.IsSpelled, Cause.NoneLike, Cause.missing, Cause.of_line}
use Rattle.hd_view.specs.Stated.{HasReply, Parts}
use Rattle.hd_view.specs.declared.accepted.Accepted.TheVariants as accepted
use Rattle.hd_view.specs.declared.accepted.Due.{Due}
use Rattle.hd_view.specs.declared.cause.Cause.{Cause}
use Rattle.hd_view.specs.declared.cause.Cause.TheVariants as cause

module _ (k : Known) (p : Parts) (due : Due) (of : IsDueOf k p due) where
  -- its command
  pub next_cmd : (e : Entry) → IsNext k p e → e.cmd ≡ due.cmd
  next_cmd e next =
      same_Some e.cmd due.cmd
      (sym next.due ∙ ap (due_of k) (next.caller ∙ sym of.caller) ∙ of.is_due.due_is)

  -- an entry that may come is named
  pub next_named : (e : Entry) → IsNext k p e → IsNamed due.accepted e
  next_named e next =
      (of.is_due.entries e (next.caller ∙ sym of.caller) (next_cmd e next)).0 (next.after, next.step)

  -- and an entry that is named may come
  pub named_next : (e : Entry) → IsEntryOf due.caller due.cmd e → IsNamed due.accepted e → IsNext k p e
  named_next e own named =
      let step = (of.is_due.entries e own.caller_is own.command).1 named in
      record {
        caller = own.caller_is ∙ of.caller;
        due = ap (due_of k) own.caller_is ∙ of.is_due.due_is ∙ ap Some (sym own.command);
        after = step.0;
        step = step.1;
      }

  pub number_is : p.number ≡ number_of k p.caller
  number_is = sym of.number ∙ of.is_due.number_is ∙ ap (number_of k) of.caller

-- the one entry that may come
pub only_one : (k : Known) (p : Parts) (due : Due) → IsDueOf k p due → (entry : Entry)
    → due.accepted ≡ accepted.One entry → IsOnly k p entry
only_one k p due of entry is = record {
  next = named_next k p due of entry
      (subst (λ a. IsSetOf k due.caller due.cmd a) is of.is_due.own)
      (subst (λ a. IsNamed a entry) (sym is) refl);
  number = number_is k p due of;
  only = λ e next. subst (λ a. IsNamed a e) is (next_named k p due of e next);
}

-- a line that reads as an entry's, and may not come, has other bytes
pub spelled : (k : Known) (line : List ℕ) (p : Parts) (entry : Entry) → IsNext k p entry
    → p.number ≡ number_of k p.caller → IsLike p entry.reply → p.slot ≡ entry.slot → p.grown ≡ entry.grown
    → (MayCome k line → ⊥) → IsSpelled k line p
spelled k line p entry next number like slot grown wrong = record {
  entry = entry;
  next = next;
  like = like;
  slot = slot;
  grown = grown;
  differs = λ same. wrong (inl (record {
    entry = entry;
    after = next.after;
    step = next.step;
    due = next.due;
    text = same ∙ ap (full_line entry) (number ∙ ap (number_of k) (sym next.caller));
  }));
}

-- and so that is a cause
pub reads_as : (k : Known) (p : Parts) (entry : Entry) → IsNext k p entry → p.number ≡ number_of k p.caller
    → IsLike p entry.reply → p.slot ≡ entry.slot → p.grown ≡ entry.grown → Explains k p cause.Spelled
reads_as k p entry next number like slot grown = λ line _ wrong.
    spelled k line p entry next number like slot grown wrong

-- the only entry that may come is the only one that goes on as the line does
pub only_like : (k : Known) (p : Parts) (entry : Entry) → IsOnly k p entry → IsLike p entry.reply
    → IsOnlyLike k p entry
only_like k p entry only like = record {
  next = only.next;
  number = only.number;
  like = like;
  only = λ e next _. only.only e next;
}

-- an address is the line's where the line has it and it is the one that is read off
pub like_place : (p : Parts) (r : Reply) (address : ℕ) → r ≡ reply.Place address → HasReply p.tail r
    → (eqb address p.address ≡ true) ↔ IsLike p r
like_place p r address is has = (
  λ same. (
    has,
    λ a its.
        let both : reply.Place a ≡ reply.Place address = sym its ∙ is in
        let at : a ≡ address = cc in
        at ∙ eqb-true address p.address same,
  ),
  λ like. eq-eqb address p.address (like.1 address is),
)

-- and where it does not go on so, none does
pub only_unlike : (k : Known) (p : Parts) (entry : Entry) → IsOnly k p entry → (IsLike p entry.reply → ⊥)
    → NoneLike k p
only_unlike k p entry only none = λ e next like.
    none (subst (λ (x : Entry). IsLike p x.reply) (only.only e next) like)

-- ---- line by line

-- no line is left
pub no_rest : (k : Known) (rest : List ℕ) → rest ≡ k.rest → eqb (length rest) 0 ≡ true → Holds k cause.Missing
no_rest k rest same none = missing (sym same ∙ nothing rest none)
  where
    nothing : (l : List ℕ) → eqb (length l) 0 ≡ true → l ≡ []
    nothing [] none = refl
    nothing (x ∷ l) none = let zero = eqb-true (length (x ∷ l)) 0 none in absurd (omega (arith, zero))

-- a cause of the first line that is left
pub on_line : (k : Known) (rest line after : List ℕ) (c : Cause) → rest ≡ k.rest
    → cut_lines rest ≡ line ∷ cut_lines after → IsCause k line c → Holds k c
on_line k rest line after c same next is =
    of_line (subst (λ (l : List ℕ). cut_lines l ≡ line ∷ cut_lines after) same next) is

-- the line may not come
pub line_wrong : (k : Known) (rest line after : List ℕ) → rest ≡ k.rest → cut_lines rest ≡ line ∷ cut_lines after
    → IsWrong k → MayCome k line → ⊥
line_wrong k rest line after same next wrong =
    wrong line (cut_lines after) (subst (λ (l : List ℕ). cut_lines l ≡ line ∷ cut_lines after) same next)

-- no caller without a command that is due is found, and one that is found is due
pub no_due : (k : Known) (dues : List Due) (caller : ℕ) → AreDue k dues
    → ((due : Due) → Contains dues due → due.caller ≢ caller) → due_of k caller ≡ None
no_due k dues caller are none = by (due_of k caller) refl
  where
    by : (o : Option Cmd) → due_of k caller ≡ o → o ≡ None
    by None is = refl
    by (Some c) is = let found = are.all caller c is in absurd (none found.0 found.1 found.2)
