-- The ends of a gate when it is opened, as ends of the host behind it.
use Rattle.std.proofs.Common.{◌≡◌, ℕ, zero, suc, List, [], ◌∷◌, ◌++◌, ◌+◌, ◌*◌, ◌<◌, ◌≤◌, ◌^◌, ◌∙◌, ap, arith, false, map, refl, subst, sym, None}
use Rattle.std.proofs.lemmas.List.{map-append}
use Rattle.std.proofs.lemmas.List.Elements.{All-push}
use Rattle.std.specs.List.{All}
use Rattle.atomic_table.specs.Seated.{TableId}
use Rattle.hd_turns.specs.Views.{Known, ends_of, starting}
use Rattle.hd_host.specs.declared.change.Change.{Change}
use Rattle.hd_host.specs.View.{HostView}
use Rattle.hd_ends.specs.declared.end.End.{End}
use Rattle.hd_ends.specs.declared.end.End.TheVariants.{Shared}
use Rattle.hd_ends.specs.Ends.{ends_up, new_end}
use Rattle.hd_ends.specs.Views.{IsNewEnd, SharedView, end_of}

module _ (table : TableId) (each : ℕ) (v : HostView) where
  abbrev behind : SharedView
  behind = record { each = each; host = v }

  pub are_new : (count : ℕ) → count * each ≤ v.machine.numbers.callers → v.machine.numbers.callers < 2 ^ 32
      → All (λ (k : Known SharedView). IsNewEnd k each) (ends_of table behind count)
  are_new zero room few = λ k d low. absurd (omega (arith, low))
  are_new (suc count) room few =
      let all : count * each + each ≤ v.machine.numbers.callers = omega (arith, room) in
      All-push (λ (k : Known SharedView). IsNewEnd k each) (ends_of table behind count) _
      (are_new count (omega (arith, all)) few) (record {
        table = table;
        host = v;
        number = count;
        is = refl;
        contexts = all;
        few = few;
      })

  pub as_ends : (count : ℕ) → map (λ (k : Known SharedView). Shared (end_of k each v.last)) (ends_of table behind count)
      ≡ map Shared (ends_up table each v count)
  as_ends zero = refl
  as_ends (suc count) =
      map-append (λ (k : Known SharedView). Shared (end_of k each v.last)) (ends_of table behind count)
      (record { table = table; view = starting behind count false; value = None } ∷ [])
      ∙ ap (λ (es : List End). es ++ Shared (new_end table each v count) ∷ []) (as_ends count)
      ∙ sym (map-append Shared (ends_up table each v count) (new_end table each v count ∷ []))

module _ (table : TableId) (each count : ℕ) {v : HostView} {s : SharedView} (behind_is : s ≡ record { each = each; host = v })
    (ks : List (Known SharedView)) (opened : ks ≡ ends_of table s count) where
  opened_of : ks ≡ ends_of table (behind table each v) count
  opened_of = opened ∙ ap (λ (x : SharedView). ends_of table x count) behind_is

  pub opened_new : count * each ≡ v.machine.numbers.callers → v.machine.numbers.callers < 2 ^ 32
      → All (λ (k : Known SharedView). IsNewEnd k each) ks
  opened_new all few =
      subst (λ xs. All (λ (k : Known SharedView). IsNewEnd k each) xs) (sym opened_of)
      (are_new table each v count (omega (arith, all)) few)

  pub opened_ends : {last : Change} → last ≡ v.last
      → map (λ (k : Known SharedView). Shared (end_of k each last)) ks ≡ map Shared (ends_up table each v count)
  opened_ends is =
      ap (λ (l : Change). map (λ (k : Known SharedView). Shared (end_of k each l)) ks) is
      ∙ ap (map (λ (k : Known SharedView). Shared (end_of k each v.last))) opened_of
      ∙ as_ends table each v count
