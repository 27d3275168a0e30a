-- A call by value is the command that it stands for.
use Rattle.hd_store.proofs.StoreWords.{Cmd, Done, Entry, Err, GrowsFor, HasNames, HasRun, Id, IfOk, IsOffer, IsOutcome, IsOverHeap, IsPlainStep, IsValid, KeepsNames, KeepsPinned, List, Machine, MatchResult, MayRun, None, Ok, Option, Outcome, Refusal, Reply, Result, Slot, State, aged_by, ap, asks_of, cond, done_of, entry_by, false, inl, last_serial, no_room, refl, seen_by, subst, sym, touched_by, Bool, true, true≢false, ℕ, ◌+◌, ◌<◌, ◌^◌, ◌∙◌, ◌≡◌}
use Rattle.hd_model.specs.Step.{TakesWay, decided, way_of}
use Rattle.hd_model.specs.{Aging.is_refused, Command.new_object}
use Rattle.hd_model.specs.declared.command.Cmd.TheVariants as cmd
use Rattle.hd_model.specs.declared.data.Reply.TheVariants as reply
use Rattle.hd_commands.specs.Done.{ComesTo, ComesToAged, done_with}
use Rattle.hd_model.specs.declared.limits.TheConstants.{REGISTERS}
use Rattle.hd_store.specs.Calls.{HasCalled, HasReturned, IsSound, StaysWithin}
use Rattle.hd_store.specs.Offers.{RanOut}
use Rattle.hd_store.proofs.{AddressSteps.plain-kept, SoundCalls.may-run, SoundCalls.sound-after, StateHeap.keeps-address, StateHeap.keeps-pinned, StateHeap.returns-stored}

-- ages that a refused command leaves, and so does one that is not
pub unaged : (b : Bool) (ages : List ℕ) → ages ≡ cond b ages ages
unaged true ages = refl
unaged false ages = refl

-- a command that neither makes an object nor raises a count has no number that may be at its end
abbrev may_end : Cmd → Bool
may_end (cmd.New d fields fin) = true
may_end (cmd.HUp h) = true
may_end c = false

pub endless : {s : State} {caller : ℕ} {c : Cmd} → may_end c ≡ false → StaysWithin s caller c
endless is = record {
  serial = λ d fields fin same. absurd (true≢false (sym (ap may_end same) ∙ is));
  count = λ h same. absurd (true≢false (sym (ap may_end same) ∙ is));
}

-- a command was done between two stores, each over its heap
module _ {m k : Machine} {caller : ℕ} {c : Cmd} {offer : Option Slot} {e : Entry} (before : IsOverHeap m)
    (now : IsOverHeap k) (kept : HasRun m caller c offer e (KeepsPinned m e k)) where
  pub kept-called : HasCalled m caller c offer k e
  kept-called = record {
    command = (kept.caller, kept.command);
    effect = kept.effect;
    offer = kept.offer;
    growth = kept.growth;
    addresses = record {
      returned = λ h address x. returns-stored m k e kept.effect before now x address h;
      pinned = keeps-pinned m k e kept.effect before now;
      others = λ plain x a. keeps-address m k e kept.effect before now x a (inl plain);
    };
  }

module _ {m k : Machine} {caller : ℕ} {c : Cmd} {offer : Option Slot} {e : Entry} (sound : IsSound m)
    (may : MayRun m caller c offer) (before : IsOverHeap m) (now : IsOverHeap k)
    (ran : HasRun m caller c offer e (IsPlainStep m c k e)) where
  pub has-called : HasCalled m caller c offer k e
  has-called = kept-called before now (plain-kept m k caller c offer may e ran)

  pub stays-sound : IsSound k
  stays-sound = sound-after m k e sound (plain-kept m k caller c offer may e ran).effect

-- a store is sound, whether a call was done or changed nothing
pub came-sound : {T E : Type 0} {k : Machine} (r : Result T E) {P : T → Type 0} {Q : Type 0}
    → MatchResult r P (λ _. Q) → ((came : T) → P came → IsSound k) → (Q → IsSound k) → IsSound k
came-sound (Ok came) is done out = done came is
came-sound (Err why) is done out = out is

-- what is done without an offer, by a command that asks for no room
pub unoffered : {T : Type 0} {m : Machine} {caller : ℕ} {c : Cmd} (d : Done)
    → asks_of m.state caller c ≡ no_room → T
    → HasRun m caller c None (entry_by caller c d) T
unoffered {T} {m} {caller} {c} d room did = record {
  caller = refl;
  command = refl;
  effect = did;
  offer = λ at none. absurd (cc none);
  growth = subst (λ a. GrowsFor m.numbers m.state a None (entry_by caller c d)) (sym room) tt;
}

-- what was required of a store holds of its contents
pub known-in : {m v : Machine} {caller : ℕ} → m ≡ v → caller < v.numbers.callers → caller < m.numbers.callers
known-in {m} {v} {caller} view = subst (λ (x : Machine). caller < x.numbers.callers) (sym view)

-- a command of a store did what it does to its contents
module _ {m v k : Machine} {caller : ℕ} (c : Cmd) {offer : Option Slot} {e : Entry} (sound : IsSound m)
    (view : m ≡ v) (known : caller < v.numbers.callers) (valid : IsValid c)
    (offered : IsOffer v.state caller c offer)
    (within : StaysWithin v.state caller c) (before : IsOverHeap m) (now : IsOverHeap k)
    (ran : HasRun m caller c offer e (IsPlainStep m c k e)) where
  may-run-in : MayRun m caller c offer
  may-run-in =
      may-run m caller c offer sound (known-in view known) valid
      (subst (λ (x : Machine). IsOffer x.state caller c offer) (sym view) offered)
      (subst (λ (x : Machine). StaysWithin x.state caller c) (sym view) within)

  pub run-called : HasCalled v caller c offer k e
  run-called =
      subst (λ (x : Machine). HasCalled x caller c offer k e) view
      (has-called sound may-run-in before now ran)

  pub run-sound : IsSound k
  run-sound = stays-sound sound may-run-in before now ran

-- what the state alone decides, of a command that makes no object, uses no pinned address and asks for no
-- room
module _ {m v k : Machine} {caller : ℕ} (c : Cmd) (r : Result Done Refusal) {w : Outcome} {ages : List ℕ}
    (sound : IsSound m) (view : m ≡ v) (known : caller < v.numbers.callers) (valid : IsValid c)
    (within : StaysWithin v.state caller c) (before : IsOverHeap m) (now : IsOverHeap k)
    (plain : (touched_by c).pinned ≡ false) (makes : (touched_by c).makes_object ≡ false)
    (room : asks_of m.state caller c ≡ no_room) (way : way_of m.state caller c ≡ decided w)
    (came : ComesToAged w ages (seen_by m) (seen_by k) r)
    (aged : ages ≡ aged_by m.state (entry_by caller c (done_of r)) m.ages) where
  abbrev e : Entry
  e = entry_by caller c (done_of r)

  outcome : IsOutcome e w k.state
  outcome = record {
    reply = ap (λ (d : Done). d.reply) came.0;
    slot = ap (λ (d : Done). d.slot) came.0;
    grown = ap (λ (d : Done). d.grown) came.0;
    after = came.1.1;
  }

  ran : HasRun m caller c None e (IsPlainStep m c k e)
  ran = unoffered (done_of r) room (record {
    plain = plain;
    step = subst (TakesWay m.numbers m.state e k.state) (sym way) outcome;
    numbers = came.1.0;
    names = subst (λ b. HasNames b m.names k.names) (sym makes) came.1.4;
    ages = came.1.2 ∙ aged;
  })

  pub called : HasCalled v caller c None k e
  called = run-called c sound view known valid tt within before now ran

  pub sound-on : IsSound k
  sound-on = run-sound c sound view known valid tt within before now ran

-- an object is made
module _ {m k : Machine} {caller : ℕ} (d fields : ℕ) (fin : Bool) (r : Result Id Refusal)
    (serial : last_serial m.state caller + 1 < 2 ^ 32)
    (came : ComesTo (new_object m.numbers m.state caller d fields fin)
    (seen_by (record m { names = k.names }))
    (seen_by k) (done_with reply.Object r))
    (names : KeepsNames m.names k.names) where
  pub object-ran : (offer : Option Slot) → IsOffer m.state caller (cmd.New d fields fin) offer
      → HasRun m caller (cmd.New d fields fin) offer
      (entry_by caller (cmd.New d fields fin) (done_of (done_with reply.Object r)))
      (IsPlainStep m (cmd.New d fields fin) k
      (entry_by caller (cmd.New d fields fin) (done_of (done_with reply.Object r))))
  object-ran offer offered = record {
    caller = refl;
    command = refl;
    effect = record {
      plain = refl;
      step = (
        serial,
        record {
          reply = ap (λ (d : Done). d.reply) came.0;
          slot = ap (λ (d : Done). d.slot) came.0;
          grown = ap (λ (d : Done). d.grown) came.0;
          after = came.1.1;
        },
      );
      numbers = came.1.0;
      names = names;
      ages = came.1.2 ∙ unaged (is_refused (done_of (done_with reply.Object r)).reply) m.ages;
    };
    offer = λ at given. absurd (subst (IsOffer m.state caller (cmd.New d fields fin)) given offered);
    growth = tt;
  }

module _ {m v k : Machine} {caller : ℕ} (d fields : ℕ) (fin : Bool) (r : Result Id Refusal)
    (sound : IsSound m)
    (view : m ≡ v) (known : caller < v.numbers.callers) (valid : IsValid (cmd.New d fields fin))
    (serial : last_serial v.state caller + 1 < 2 ^ 32) (before : IsOverHeap m) (now : IsOverHeap k)
    (came : ComesTo (new_object m.numbers m.state caller d fields fin)
    (seen_by (record m { names = k.names }))
    (seen_by k) (done_with reply.Object r))
    (names : KeepsNames m.names k.names) where
  within-new : StaysWithin v.state caller (cmd.New d fields fin)
  within-new = record { serial = λ d fields fin same. serial; count = λ h same. absurd (cc same) }

  made-run : HasRun m caller (cmd.New d fields fin) None
      (entry_by caller (cmd.New d fields fin) (done_of (done_with reply.Object r)))
      (IsPlainStep m (cmd.New d fields fin) k
      (entry_by caller (cmd.New d fields fin) (done_of (done_with reply.Object r))))
  made-run =
      object-ran d fields fin r
      (subst (λ (x : Machine). last_serial x.state caller + 1 < 2 ^ 32) (sym view) serial) came names None tt

  pub object-called : HasCalled v caller (cmd.New d fields fin) None k
      (entry_by caller (cmd.New d fields fin) (done_of (done_with reply.Object r)))
  object-called = run-called (cmd.New d fields fin) sound view known valid tt within-new before now made-run

  pub object-sound : IsSound k
  object-sound = run-sound (cmd.New d fields fin) sound view known valid tt within-new before now made-run

-- `gcroot`, which changes nothing, returned a chain or none, was refused, or ran out of memory
pub root-called : {T E : Type 0} (reply_of : T → Reply) {m v : Machine} {caller s : ℕ} → IsSound m → m ≡ v
    → caller < v.numbers.callers → s < REGISTERS → IsOverHeap m → (r : Result (Result T Refusal) E)
    → IfOk r (λ came. IsPlainStep m (cmd.GcRoot s) m
    (entry_by caller (cmd.GcRoot s) (done_of (done_with reply_of came))))
    → MatchResult r (HasReturned v caller (cmd.GcRoot s) reply_of v)
    (λ _. RanOut v.numbers v.state (cmd.GcRoot s) v v)
root-called {T} {E} reply_of {m} {v} {caller} {s} sound view known low over (Ok came) did =
    subst (λ (x : Machine). HasReturned v caller (cmd.GcRoot s) reply_of x came) view
    (run-called (cmd.GcRoot s) sound view known low tt (endless refl) over over
    (unoffered (done_of (done_with reply_of came)) refl did))
root-called reply_of sound view known low over (Err memory) did =
    record { memory = refl; fits = λ fields same. absurd (cc same); unchanged = refl }
