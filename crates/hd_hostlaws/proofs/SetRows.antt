-- An entry that is set is a `cremove` and a `cadd` in a row.
use Rattle.std.proofs.Common.{[], refl, ⊎_elim, ◌∷◌}
use Rattle.std.specs.Prelude.{Err, Ok}
use Rattle.hd_model.specs.declared.command.Cmd.TheVariants as cmd
use Rattle.hd_model.specs.declared.data.Reply.TheVariants as reply
use Rattle.hd_hostlaws.specs.Laws.{SettingIsARow, in_context}

pub setting_is_a_row : SettingIsARow
setting_is_a_row u w context key value (Ok replaced) did = (did.between, did.removed, (w, did.added, refl))
setting_is_a_row u w context key value (Err fault) did = (
  ⊎_elim
      (λ first. record {
        before = [];
        at = in_context context (cmd.CRemove key);
        rest = in_context context (cmd.CAdd key value) ∷ [];
        row_is = refl;
        answers = [];
        after = u;
        done = refl;
        fails = first;
      })
      (λ second. record {
        before = in_context context (cmd.CRemove key) ∷ [];
        at = in_context context (cmd.CAdd key value);
        rest = [];
        row_is = refl;
        answers = reply.Absent ∷ [];
        after = second.between;
        done = (second.between, second.removed, refl);
        fails = second.fails;
      }) did.0,
  did.1,
)
