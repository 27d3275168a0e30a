-- A command on the handle in a register whose slot is live is not refused as not live.
use Rattle.std.proofs.Common.{Bool, None, Option, Some, ap, false, if◌then◌else◌, is_some, refl, true, ℕ, ◌&&◌, ◌+◌, ◌-◌, ◌==◌, ◌∙◌, ◌≡◌}
use Rattle.std.specs.Option.{option_map_or}
use Rattle.std.proofs.lemmas.Option.{same_Some, none-some}
use Rattle.hd_model.specs.{declared.command.Cmd.Cmd, declared.data.Entry.Entry, declared.data.Id.Id, declared.data.Reply.Reply, declared.data.Slot.Slot, Step.StepOf, Touched.touched_by}
use Rattle.hd_model.specs.Command.{Outcome, load_reply, on_handle, refuses, reply_with, with_count}
use Rattle.hd_model.specs.{Kinds.is_kind, Role.pins}
use Rattle.hd_model.specs.declared.data.Kind.{Kind}
use Rattle.hd_model.specs.declared.data.Kind.TheVariants as kind
use Rattle.hd_model.specs.declared.command.Cmd.TheVariants as cmd
use Rattle.hd_model.specs.declared.data.Refusal.TheVariants as refusal
use Rattle.hd_model.specs.declared.data.Reply.TheVariants as reply
use Rattle.hd_model.specs.State.{Handle, Numbers, State, count_of, handle_at, handle_register_of, register_of, secondary, secondary_of, strength, with_handle, with_address, with_register, without_secondary}

-- whether a reply says that no live handle was found
abbrev pub finds_none : Reply → Bool
finds_none (reply.Refused refusal.NotLive) = true
finds_none (reply.Refused refusal.EmptyRegister) = true
finds_none _ = false

by_load : (o : Option Id) → finds_none (load_reply o) ≡ false
by_load None = refl
by_load (Some x) = refl

by_test : (b : Bool) (p q : Outcome) → finds_none p.reply ≡ false → finds_none q.reply ≡ false
    → finds_none (if b then p else q).reply ≡ false
by_test true p q is other = is
by_test false p q is other = other

by_target : (o : Option Id) (p : Id → Outcome) (q : Outcome) → ((x : Id) → finds_none (p x).reply ≡ false)
    → finds_none q.reply ≡ false → finds_none (option_map_or p o q).reply ≡ false
by_target None p q is other = other
by_target (Some x) p q is other = is x

module _ (n : Numbers) (s : State) (e : Entry) (t : State) (h : ℕ) (slot : Slot) (held : Handle Id)
    (names : handle_register_of s e.caller h ≡ Some slot) (live : handle_at s slot ≡ Some held) where
  there : (x : ℕ) (act : Slot → Handle Id → Outcome) → Some x ≡ Some h
      → e.reply ≡ (on_handle s e.caller x act).reply → finds_none (act slot held).reply ≡ false → finds_none e.reply ≡ false
  there x act uses comes is =
      ap finds_none comes
      ∙ ap (λ r. finds_none (option_map_or (λ y. option_map_or (act y) (handle_at s y)
      (refuses refusal.NotLive s)) r (refuses refusal.EmptyRegister s)).reply)
      (ap (handle_register_of s e.caller) (same_Some x h uses) ∙ names)
      ∙ ap (λ o. finds_none (option_map_or (act slot) o (refuses refusal.NotLive s)).reply) live
      ∙ is

  of_kind : (wanted : Kind) (p : Outcome) → finds_none p.reply ≡ false
      → finds_none (if is_kind held.kind wanted then p else refuses refusal.WrongKind s).reply ≡ false
  of_kind wanted p is = by_test (is_kind held.kind wanted) p (refuses refusal.WrongKind s) is refl

  of_target : (p : Id → Outcome) → ((x : Id) → finds_none (p x).reply ≡ false)
      → finds_none (option_map_or p held.target (refuses refusal.Null s)).reply ≡ false
  of_target p is = by_target held.target p (refuses refusal.Null s) is refl

  pub live_found : (c : Cmd) → StepOf n s e t c → (touched_by c).handle ≡ Some h → finds_none e.reply ≡ false
  live_found (cmd.HGet d x) comes uses = there x _ uses comes.reply (by_load held.target)
  live_found (cmd.HSet x r) comes uses =
      there x _ uses comes.reply
      (by_test (is_kind held.kind kind.Dependent && is_some (register_of s e.caller r))
      (refuses refusal.WrongKind s) (reply_with reply.Done (with_handle s slot (record held {
        target = register_of s e.caller r;
        extra = without_secondary held.extra;
      }))) refl refl)
  live_found (cmd.HSec x r) comes uses =
      let after = with_handle s slot (record held { extra = secondary (register_of s e.caller r) }) in
      let done : Id → Outcome = λ _. reply_with reply.Done after in
      there x _ uses comes.reply
      (of_kind kind.Dependent (option_map_or done held.target (refuses refusal.Null s)) (of_target done (λ y. refl)))
  live_found (cmd.HDep d x) comes uses =
      let value = secondary_of held.extra in
      there x _ uses comes.reply
      (of_kind kind.Dependent (reply_with (load_reply value) (with_register s e.caller d value))
      (by_load value))
  live_found (cmd.HVar x given) comes uses =
      there x _ uses comes.reply
      (of_kind kind.Variable (reply_with reply.Done (with_handle s slot (record held { extra = strength given })))
      refl)
  live_found (cmd.HFree x) comes uses = there x _ uses comes.reply refl
  live_found (cmd.AddrOf x) comes uses =
      let done : Id → Outcome = λ id. reply_with (reply.Place comes.address)
      (with_address s id comes.address) in
      there x _ uses comes.outcome.reply
      (by_test (pins held) (option_map_or done held.target (refuses refusal.Null s)) (refuses refusal.WrongKind s)
      (of_target done (λ y. refl)) refl)
  live_found (cmd.HUp x) comes uses =
      there x _ uses comes.reply
      (of_kind kind.Counted (with_count s slot held (count_of held.extra + 1)) refl)
  live_found (cmd.HDown x) comes uses =
      let less = with_count s slot held (count_of held.extra - 1) in
      there x _ uses comes.reply
      (of_kind kind.Counted (if count_of held.extra == 0 then refuses refusal.CountZero s else less)
      (by_test (count_of held.extra == 0) (refuses refusal.CountZero s) less refl refl))
  live_found _ comes uses = absurd (none-some h uses)
