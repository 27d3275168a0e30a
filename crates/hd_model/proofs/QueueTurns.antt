-- The queue is first in, first out.
use Rattle.hd_model.proofs.Basics.{Bool, ChangesQueue, Cmd, Entry, FinalTakesTheFirst, Id, IsOutcome, IsValid, IsWellFormed, List, None, Numbers, Option, Outcome, QueueGoesInTurn, QueueIsLeft, REGISTERS, Reply, Some, State, [], reply_with, ap, append-nil, append_assoc, false, if◌then◌else◌, link, object_returned, option_to_list, refl, register_of, stay, subst, sym, take_first, taken, taken_by, takes, touched_by, true, with_queue, with_register, ℕ, ◌++◌, ◌<◌, ◌∙◌, ◌≡◌}
use Rattle.hd_model.specs.UserLaws.{collects}
use Rattle.hd_model.proofs.{ReadAfterWrite.cell_here, StateReadBack.step_of}
use Rattle.hd_model.proofs.Effects.{Effect, refused, finds_none, takes_first, effect}
use Rattle.hd_model.specs.declared.data.Reply.TheVariants as reply
use Rattle.hd_model.specs.declared.command.Cmd.TheVariants as cmd
use Rattle.hd_model.proofs.Effects as did

-- the register of a caller of a well formed state has what is put there
register_has : (n : Numbers) (s : State) (c d : ℕ) (v : Option Id) → IsWellFormed n s → c < n.callers
    → d < REGISTERS → register_of (with_register s c d v) c d ≡ v
register_has n s c d v w l small =
    cell_here s.registers c d v None (subst (λ k. c < k) (sym w.shape.registers) l)
    (subst (λ k. d < k) (sym (w.shape.each_registers c l)) small)

pub final_takes_the_first : FinalTakesTheFirst
final_takes_the_first n s t e d w step is =
    let comes : IsOutcome e (take_first s e.caller d s.queue) t = step_of n s e t (cmd.Final d) step is in
    let small : d < REGISTERS = subst IsValid is step.valid in
    record {
      some = λ id rest queue.
          let out : take_first s e.caller d s.queue
          ≡ reply_with (reply.Object id) (with_register (with_queue s rest) e.caller d (Some id)) =
          ap (take_first s e.caller d) queue in
          let after : t ≡ with_register (with_queue s rest) e.caller d (Some id) =
          comes.after ∙ ap (λ (o : Outcome). o.after) out in (
            comes.reply ∙ ap (λ (o : Outcome). o.reply) out,
            ap (λ (x : State). x.queue) after,
            ap (λ (x : State). register_of x e.caller d) after
                ∙ register_has n s e.caller d (Some id) w step.caller small,
          );
      none = λ queue.
          let out : take_first s e.caller d s.queue ≡ reply_with reply.NoneQueued
          (with_register s e.caller d None) =
          ap (take_first s e.caller d) queue in
          let after : t ≡ with_register s e.caller d None = comes.after
          ∙ ap (λ (o : Outcome). o.after) out in (
            comes.reply ∙ ap (λ (o : Outcome). o.reply) out,
            ap (λ (x : State). x.queue) after ∙ queue,
            ap (λ (x : State). register_of x e.caller d) after
                ∙ register_has n s e.caller d None w step.caller small,
          );
    }

module _ (n : Numbers) (s : State) (e : Entry) where
  left : (c : Cmd) (t : State) → Effect n s e c t → (ChangesQueue c → ⊥) → t.queue ≡ s.queue
  left c t (finds_none p) apart = refl
  left c t (takes_first {d = d} id rest is p) apart = absurd (apart (takes d))
  left c t (did.collects {k = k} x) apart = absurd (apart (collects k))
  left c t _ apart = refl

  -- what an entry of a command takes out
  abbrev taken_of : Cmd → List Id
  taken_of c = if (touched_by c).queue then option_to_list (object_returned e.reply) else []

  nothing : (r : Reply) → e.reply ≡ r → object_returned r ≡ None
      → option_to_list (object_returned e.reply) ≡ []
  nothing r is none = ap (λ x. option_to_list (object_returned x)) is ∙ ap option_to_list none

  -- what was taken and then what is still queued is what was queued and then what joined
  turn : (c : Cmd) (t : State) → Effect n s e c t
      → (joined : List Id) × (taken_of c ++ t.queue ≡ s.queue ++ joined)
  turn c t (takes_first id rest is p) = (
    [],
    ap (λ (r : Reply). option_to_list (object_returned r) ++ rest) p ∙ sym is ∙ sym (append-nil s.queue),
  )
  turn c t (finds_none p) =
      ([], ap (λ (x : List Id). x ++ s.queue) (nothing _ p refl) ∙ sym (append-nil s.queue))
  turn c t (did.collects x) = (
    x.collects.scene.joins,
    ap (λ (y : List Id). y ++ t.queue) (nothing _ x.reply refl) ∙ x.collects.scene.queue,
  )
  turn c t (refused {c = x} p) = ([], none_taken (touched_by x).queue ∙ sym (append-nil s.queue))
    where
      none_taken : (b : Bool) → (if b then option_to_list
          (object_returned e.reply) else []) ++ s.queue ≡ s.queue
      none_taken true = ap (λ (y : List Id). y ++ s.queue) (nothing _ p refl)
      none_taken false = refl
  turn c t _ = ([], sym (append-nil s.queue))

pub queue_is_left : QueueIsLeft
queue_is_left n s t e step apart = left n s e e.cmd t (effect n s e t step) apart

pub queue_goes_in_turn : QueueGoesInTurn
queue_goes_in_turn n s t es stay = ([], sym (append-nil s.queue))
queue_goes_in_turn n s u es (link {t = t} {e = e} {es = rest} step others) =
    let (now, first) = turn n s e e.cmd t (effect n s e t step) in
    let (later, second) = queue_goes_in_turn n t u rest others in (
      now ++ later,
      append_assoc (taken_by e) (taken rest) u.queue ∙ ap (λ (x : List Id). taken_by e ++ x) second
          ∙ sym (append_assoc (taken_by e) t.queue later) ∙ ap (λ (x : List Id). x ++ later) first
          ∙ append_assoc s.queue now later,
    )
