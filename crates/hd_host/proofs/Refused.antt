-- A command that is refused leaves a host as it was.
use Rattle.std.proofs.Common.{None, Option, Some, ap, cond, false, inl, inr, refl, subst, sym, true, ℕ, ◌∙◌, ◌≡◌}
use Rattle.std.proofs.lemmas.Bool.{true≢false}
use Rattle.std.specs.FinMap.{empty}
use Rattle.hd_model.proofs.Effects.{Effect, refused, makes_object, sets_field, gets_field, sets_value, reads_value, copies, clears, puts_static, gets_static, reads_generation, suppresses, reregisters, finds_none, takes_first, collects, makes_handle, gets_target, sets_target, sets_secondary, gets_secondary, sets_strength, raises_count, lowers_count, frees_handle, puts_board, picks_board, replies_address, gives_back, gives_none, adds_entry, finds_value, finds_no_entry, removes_entry, removes_none, replies_root, effect}
use Rattle.hd_model.specs.{declared.command.Cmd.Cmd, declared.data.Entry.Entry, declared.data.Id.Id, declared.data.Refusal.Refusal, declared.data.Reply.Reply, declared.data.Slot.Slot, Aging.aged_by_command, Aging.is_refused, Command.load_reply, PinnedAddresses.with_pinned, Step.Step, Step.StepOf, Text.is_collect}
use Rattle.hd_model.specs.declared.command.Cmd.TheVariants as cmd
use Rattle.hd_model.specs.declared.data.Refusal.TheVariants as refusal
use Rattle.hd_model.specs.declared.data.Reply.TheVariants as reply
use Rattle.hd_model.specs.State.{Numbers, State, with_handle_register}
use Rattle.hd_store.specs.{PinnedAddresses.Moves, StateHeap.IsStoredAt, Store.Machine}
use Rattle.hd_host.specs.{Calls.FailsBy, Calls.IsRefused, Steps.HasStepped, Steps.pointed, View.HostView, View.state_in, Inside.fault_of, Inside.HasMoved, Inside.HasNoSlot}
use Rattle.hd_host.proofs.Registers.{pointed-again}

pub not_refused : (o : Option Id) → is_refused (load_reply o) ≡ false
not_refused None = refl
not_refused (Some x) = refl

module _ (n : Numbers) (s : State) (e : Entry) (is : is_refused e.reply ≡ true) where
  clash : (t : State) (r : Reply) → e.reply ≡ r → is_refused r ≡ false → t ≡ s
  clash t r p done = absurd (true≢false (sym is ∙ ap is_refused p ∙ done))

  -- the state is as it was
  stays : (c : Cmd) (t : State) → Effect n s e c t → t ≡ s
  stays c t (refused p) = refl
  stays c t (makes_object small p) = clash _ _ p refl
  stays c t (sets_field id r i p) = clash _ _ p refl
  stays c t (gets_field id r i p) = clash _ _ p (not_refused _)
  stays c t (sets_value id r p) = clash _ _ p refl
  stays c t (reads_value id r p) = refl
  stays c t (copies p) = clash _ _ p refl
  stays c t (clears p) = clash _ _ p refl
  stays c t (puts_static p) = clash _ _ p refl
  stays c t (gets_static p) = clash _ _ p (not_refused _)
  stays c t (reads_generation id r p) = refl
  stays c t (suppresses id r p) = clash _ _ p refl
  stays c t (reregisters id r p) = clash _ _ p refl
  stays c t (finds_none p) = clash _ _ p refl
  stays c t (takes_first id rest q p) = clash _ _ p refl
  stays c t (collects did) = clash t _ did.reply refl
  stays c t (makes_handle slot given may p) = clash _ _ p refl
  stays c t (gets_target slot handle f p) = clash _ _ p (not_refused _)
  stays c t (sets_target slot handle f p) = clash _ _ p refl
  stays c t (sets_secondary slot handle f fits some p) = clash _ _ p refl
  stays c t (gets_secondary slot handle f p) = clash _ _ p (not_refused _)
  stays c t (sets_strength slot handle f fits p) = clash _ _ p refl
  stays c t (raises_count slot handle f fits p) = clash _ _ p refl
  stays c t (lowers_count slot handle f fits p) = clash _ _ p refl
  stays c t (frees_handle slot handle f p q) = clash _ _ p refl
  stays c t (puts_board p) = clash _ _ p refl
  stays c t (picks_board p) = clash _ _ p refl
  stays c t (replies_address slot handle id address f target may p) = clash _ _ p refl
  stays c t (gives_back block free p) = clash _ _ p refl
  stays c t (adds_entry key slot r absent may p q) = clash _ _ p refl
  stays c t (finds_value key slot has r p) = clash _ _ p (not_refused _)
  stays c t (finds_no_entry key r absent p) = clash _ _ p refl
  stays c t (removes_entry key slot has r p) = clash _ _ p refl
  stays c t (removes_none key r absent p) = refl
  stays c t (replies_root goal r returns) = refl
  stays c t (gives_none p) = refl

  pub refused_stays : (t : State) → Step n s e t → t ≡ s
  refused_stays t step = stays e.cmd t (effect n s e t step)

-- a collection is never refused
collects_none : (n : Numbers) (s : State) (e : Entry) (t : State) (c : Cmd) → StepOf n s e t c
    → is_refused e.reply ≡ true → is_collect c ≡ false
collects_none n s e t (cmd.Collect k) does is = absurd (true≢false (sym is ∙ ap is_refused does.reply))
collects_none n s e t _ does is = refl

module _ (m k : Machine) (context : ℕ) (slot : Option Slot) (c : Cmd) (o : Option Slot) (e : Entry)
    (did : HasMoved m context slot c o k e) (none : HasNoSlot m.state context)
    (goes : Moves (pointed m context slot) e did.after empty) (is : is_refused e.reply ≡ true) where
  -- what is left of a state where the register is cleared, without pinned addresses
  abbrev rest : State → State
  rest s = with_pinned (with_handle_register s context 0 None) empty

  pub state_as_it_was : state_in k ≡ state_in m
  state_as_it_was =
      ap state_in did.new_is
      ∙ ap rest (refused_stays m.numbers (with_pinned (pointed m context slot).state empty) e is
      (with_pinned did.after.state goes.pinned) goes.step)
      ∙ ap state_in (pointed-again m context slot none)

  pub ages_as_they_were : k.ages ≡ m.ages
  ages_as_they_were =
      ap (λ (x : Machine). x.ages) did.new_is ∙ goes.ages
      ∙ ap (λ b. cond b m.ages (aged_by_command (with_pinned (pointed m context slot).state empty) e.caller
      e.slot m.ages e.cmd)) is

  pub numbers_as_they_were : k.numbers ≡ m.numbers
  numbers_as_they_were = ap (λ (x : Machine). x.numbers) did.new_is ∙ goes.numbers

  pub addresses_stay : (x : Id) (a : ℕ) → IsStoredAt m.heap x a → IsStoredAt k.heap x a
  addresses_stay x a at =
      subst (λ (y : Machine). IsStoredAt y.heap x a) (sym did.new_is)
      (did.called.addresses.others
      (collects_none m.numbers (with_pinned (pointed m context slot).state empty) e
      (with_pinned did.after.state goes.pinned) e.cmd goes.step.does is) x a at)

-- the fault of a refusal is its own
pub fails : (v : HostView) (context : ℕ) (slot : Option Slot) (c : Cmd) (after : Machine) (e : Entry)
    → HasStepped v.machine context slot c after e → (why : Refusal) → e.reply ≡ reply.Refused why
    → FailsBy v context slot c (fault_of why)
fails v context slot c after e stepped why is = by why is
  where
    at : (why : Refusal) → e.reply ≡ reply.Refused why → IsRefused v context slot c why
    at why is = record { entry = e; after = after; stepped = stepped; reply = is }

    by : (why : Refusal) → e.reply ≡ reply.Refused why → FailsBy v context slot c (fault_of why)
    by refusal.Null is = at refusal.Null is
    by refusal.BadField is = at refusal.BadField is
    by (refusal.HeapFull used size) is = inl (at (refusal.HeapFull used size) is)
    by (refusal.TableFull given) is = at (refusal.TableFull given) is
    by refusal.NotLive is = inl (at refusal.NotLive is)
    by refusal.WrongKind is = at refusal.WrongKind is
    by refusal.EmptyRegister is = inr (at refusal.EmptyRegister is)
    by refusal.CountZero is = at refusal.CountZero is
    by refusal.Present is = at refusal.Present is
