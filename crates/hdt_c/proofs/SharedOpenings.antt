-- How ends of one host are opened.
use Rattle.std.proofs.Common.{None, Option, Some, List, ap, length, map, replicate, subst, sym, ℕ, ◌%◌, ◌∙◌, ◌≡◌}
use Rattle.std.proofs.Math.Nat.{mul-mod_right}
use Rattle.std.proofs.lemmas.List.{length-map}
use Rattle.std.specs.List.{Contains}
use Rattle.atomic_table.specs.Seated.{TableId}
use Rattle.hd_host.specs.View.{HostView}
use Rattle.hd_ends.specs.Ends.{EndView, ends_up}
use Rattle.hd_ends.specs.declared.end.End.{End}
use Rattle.hd_ends.specs.declared.end.End.TheVariants.{Shared}
use Rattle.hdt_c.specs.Outs.{AreOfEnds, IsOpened, OpensShared, RefusesShared, one_is_open, opens_all, refuses_all, values_of}
use Rattle.hd_held.specs.declared.held.Held.{Held}
use Rattle.hdt_c.specs.declared.parts.Limits.{Limits}
use Rattle.hdt_c.specs.declared.status.TheConstants.{IS_OPEN, OK}

-- ---- limits

-- the contexts are no multiple of the number of ends
pub no_multiple : {limits : Limits} (count : ℕ) → (limits.contexts % count ≡ 0 → ⊥) → (each : ℕ)
    → AreOfEnds limits count each → ⊥
no_multiple count not each are = not (ap (λ n. n % count) are.2 ∙ mul-mod_right count each)

-- ---- ends

-- what C holds, one for one
pub same_count : (xs ys : List Held) → values_of xs ≡ values_of ys → length xs ≡ length ys
same_count xs ys same =
    sym (length-map xs (λ (h : Held). h.value)) ∙ ap length same ∙ length-map ys (λ (h : Held). h.value)

-- ---- the export

module _ {limits : Limits} {old new : List (Option End)} where
  pub one_open : new ≡ old → ((e : End) × Contains old (Some e)) → OpensShared limits old new IS_OPEN
  one_open same e = subst (λ x. OpensShared limits old x IS_OPEN) (sym same) (one_is_open old e.0 e.1)

  pub all_refused : (count : ℕ) {status : ℕ} → old ≡ replicate count None → new ≡ old → RefusesShared limits count status
      → OpensShared limits old new status
  all_refused count {status} none same why =
      subst (λ x. OpensShared limits old x status) (sym same)
      (subst (λ x. OpensShared limits x x status) (sym none) (refuses_all count status why))

  pub all_opened : (count each : ℕ) (table : TableId) (v : HostView) → AreOfEnds limits count each
      → IsOpened limits v → old ≡ replicate count None
      → new ≡ map (λ (e : EndView). Some (Shared e)) (ends_up table each v count)
      → OpensShared limits old new OK
  all_opened count each table v are is none now =
      subst (λ x. OpensShared limits old x OK) (sym now)
      (subst (λ x. OpensShared limits x (map (λ (e : EndView). Some (Shared e)) (ends_up table each v count)) OK)
      (sym none) (opens_all count each table v are is))
