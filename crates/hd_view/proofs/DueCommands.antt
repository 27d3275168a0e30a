-- The commands that are due, caller by caller.
use Rattle.std.proofs.Common.{List, None, Some, [], ap, arith, get_or, length, rules, slice_get, subst, sym, take, ℕ, ⊎_elim, ◌++◌, ◌+◌, ◌<◌, ◌∙◌, ◌∷◌, ◌≡◌, ◌≤◌}
use Rattle.std.specs.Prelude.{Contains, slice_index, ◌≢◌}
use Rattle.std.proofs.lemmas.Bool.{cases_lt}
use Rattle.std.proofs.lemmas.List.{get_or_past, take_all, take_more}
use Rattle.std.proofs.lemmas.List.Elements.{All-push, Contains-append_cases, Contains-append_left, Contains-append_right}
use Rattle.std.proofs.lemmas.Option.{none-some}
use Rattle.hd_model.proofs.Members.{first_in, member_cases, not_in_none}
use Rattle.hd_model.specs.declared.command.Cmd.{Cmd}
use Rattle.hd_model.specs.Valid.{IsValid}
use Rattle.hd_audit.specs.Before.{due_of}
use Rattle.hd_audit.specs.Known.{Known}
use Rattle.hd_view.specs.{Accepted.AreDue, Accepted.IsDue, Inside.AreDueTo}
use Rattle.hd_view.specs.declared.accepted.Due.{Due}

module _ (k : Known) where
  -- a caller with a list is below their number
  due_low : (caller : ℕ) (c : Cmd) → due_of k caller ≡ Some c → caller < length k.lists
  due_low caller c due =
      ⊎_elim (λ low. low)
      (λ past. absurd (none-some c
      (sym (ap (λ (l : List Cmd). slice_get l (slice_index k.done caller))
      (get_or_past k.lists caller [] past)) ∙ due)))
      (cases_lt caller (length k.lists))

  pub due_none : AreDueTo k 0 []
  due_none = record {
    valid = search rules;
    each = λ due h. absurd (not_in_none due h);
    all = λ caller c low due. absurd (omega (arith, low));
  }

  module _ (below : ℕ) (dues : List Due) (to : AreDueTo k below dues) where
    pub due_skip : due_of k below ≡ None → AreDueTo k (below + 1) dues
    due_skip none = record {
      valid = to.valid;
      each = to.each;
      all = λ caller c low due. ⊎_elim (λ less. to.all caller c less due)
          (λ le.
          let at : caller ≡ below = omega (arith, le, low) in
          absurd (none-some c (sym none ∙ ap (due_of k) (sym at) ∙ due)))
          (cases_lt caller below);
    }

    pub due_more : (due : Due) (new : List Due) → due.caller ≡ below → IsDue k due → IsValid due.cmd
        → new ≡ dues ++ due ∷ [] → AreDueTo k (below + 1) new
    due_more due new caller_is is valid new_is =
        subst (λ l. AreDueTo k (below + 1) l) (sym new_is) (record {
          valid = All-push (λ (d : Due). IsValid d.cmd) dues due to.valid valid;
          each = λ d h. ⊎_elim (λ before. to.each d before)
              (λ last. ⊎_elim (λ same. subst (λ (x : Due). IsDue k x) same is)
              (λ none. absurd (not_in_none d none)) (member_cases due [] d last))
              (Contains-append_cases dues (due ∷ []) d h);
          all = λ caller c low due_is. ⊎_elim
              (λ less. let found = to.all caller c less due_is in
              (found.0, Contains-append_left dues (due ∷ []) found.0 found.1, found.2))
              (λ le.
              let at : due.caller ≡ caller = omega (arith, le, low, caller_is) in
              (due, Contains-append_right dues (due ∷ []) due (first_in due []), at))
              (cases_lt caller below);
        })

  pub due_all : (dues : List Due) (below : ℕ) → length k.lists ≤ below → AreDueTo k below dues → AreDue k dues
  due_all dues below end to = record {
    each = to.each;
    all = λ caller c due. let low = due_low caller c due in to.all caller c (omega (arith, low, end)) due;
  }

-- ---- a search for the command of a caller

pub other_next : (dues : List Due) (i : ℕ) (d : Due) (caller : ℕ) → i < length dues
    → ((due : Due) → Contains (take i dues) due → due.caller ≢ caller) → (get_or dues i d).caller ≢ caller
    → (due : Due) → Contains (take (i + 1) dues) due → due.caller ≢ caller
other_next dues i d caller low before here due is =
    ⊎_elim (λ early. before due early)
    (λ last. ⊎_elim (λ same. subst (λ (x : Due). x.caller ≢ caller) same here)
    (λ none. absurd (not_in_none due none)) (member_cases (get_or dues i d) [] due last))
    (Contains-append_cases (take i dues) (get_or dues i d ∷ []) due
    (subst (λ (l : List Due). Contains l due) (take_more dues i d low) is))

pub other_all : (dues : List Due) (i caller : ℕ) → length dues ≤ i
    → ((due : Due) → Contains (take i dues) due → due.caller ≢ caller) → (due : Due) → Contains dues due
    → due.caller ≢ caller
other_all dues i caller end none due is =
    none due (subst (λ (l : List Due). Contains l due) (sym (take_all i dues end)) is)
