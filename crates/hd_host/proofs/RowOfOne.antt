-- `Tries` is the row of one command.
use Rattle.std.proofs.Common.{◌≡◌, ℕ, List, [], ◌∷◌, ◌++◌, length, length-append, None, ap, arith, refl, subst, sym}
use Rattle.std.specs.Prelude.{Err, Ok, Result}
use Rattle.hd_model.specs.{declared.command.Cmd.Cmd, declared.data.Reply.Reply}
use Rattle.hd_host.specs.declared.fault.Fault.{Fault}
use Rattle.hd_host.specs.Calls.{FailsBy, HasReplied, Tries}
use Rattle.hd_host.specs.Turns.{HasRow, RowCommand, TriesRow}
use Rattle.hd_host.specs.View.{HostView}

abbrev head_or : RowCommand → List RowCommand → RowCommand
head_or c [] = c
head_or c (d ∷ row) = d

abbrev FailsAs : HostView → RowCommand → Fault → Type 0
FailsAs v c f = FailsBy v c.context c.slot c.command f

-- what fails in a row of one is that one, in the host that was found
fails_first : (old : HostView) (c : RowCommand) (f : Fault) (before : List RowCommand) (at : RowCommand)
    (rest : List RowCommand) (answers : List Reply) (after : HostView) → c ∷ [] ≡ before ++ at ∷ rest
    → HasRow old before answers after → FailsAs after at f → FailsAs old c f
fails_first old c f [] at rest [] after is done fails =
    subst (λ (z : HostView × RowCommand). FailsAs z.0 z.1 f) (λ i. (done i, sym (ap (head_or c) is) i)) fails
fails_first old c f [] at rest (answer ∷ answers) after is done fails = absurd done
fails_first old c f (b ∷ before) at rest answers after is done fails =
    absurd (let long = ap length is in let parts = length-append before (at ∷ rest) in omega arith)

module _ {T : Type 0} (old new : HostView) (context : ℕ) (command : Cmd) (reply_of : T → Reply) where
  abbrev alone : RowCommand
  alone = record { context = context; slot = None; command = command }

  pub row_of_one : (result : Result T Fault) → Tries old context command reply_of new result
      → TriesRow old (alone ∷ []) (λ x. reply_of x ∷ []) new result
  row_of_one (Ok x) did = (new, did, refl)
  row_of_one (Err f) t = (
    record {
      before = [];
      at = alone;
      rest = [];
      row_is = refl;
      answers = [];
      after = old;
      done = refl;
      fails = t.0;
    },
    t.1,
  )

  pub one_of_row : (result : Result T Fault)
      → TriesRow old (alone ∷ []) (λ x. reply_of x ∷ []) new result
      → Tries old context command reply_of new result
  one_of_row (Ok x) did = subst (HasReplied old context None command (reply_of x)) (sym did.2) did.1
  one_of_row (Err f) t =
      let r = t.0 in
      (fails_first old alone f r.before r.at r.rest r.answers r.after r.row_is r.done r.fails, t.1)
