-- What each command does with the pinned addresses.
use Rattle.hd_store.proofs.StoreWords.{Addr, RepliesAddress, Bool, Cmd, CollectedSteps, Done, Entry, Err, FinMap, GrowsFor, Handle, HasCollected, HasNames, HasAddress, HasRun, Id, IsOffer, IsOutcome, IsPlainStep, IsValid, KeepsNames, KeepsPinned, LeavesHeap, Machine, MatchResult, MayReturn, MayOffer, MayRun, Moves, None, Ok, Option, Outcome, Refusal, Reply, Report, Result, Slot, Some, State, Step, StepOf, TakesStepsIn, Zero, aged_by, reply_address, reply_with, ap, asks_of, class_of, cond, done_of, empty, entry_by, false, get, get_inserted, handle_at, handle_register_of, if◌then◌else◌, insert, is_collect, kept_pinned, key_register, name_in, nat_cmp, no_room, nothing_at, option_and_then, option_map_or, pinned_by, pinned_in, pinned_target, pins, refl, refuses, register_of, same_Some, subst, sym, touched_by, true, true≢false, with_address, with_pinned, ℕ, ◌<◌, ◌∙◌, ◌≡◌, ◌≤◌}
use Rattle.hd_model.specs.Aging.{is_refused}
use Rattle.hd_model.specs.Command.{reply_root}
use Rattle.hd_model.specs.Anchors.{ReturnsRoot}
use Rattle.hd_model.proofs.{OutcomeAddresses.step_placed, Journals.ages_placed}
use Rattle.hd_store.proofs.IdentityReadings.{no_some}
use Rattle.hd_model.specs.declared.data.Refusal.TheVariants as refusal
use Rattle.hd_model.specs.declared.data.Reply.TheVariants as reply
use Rattle.hd_model.specs.declared.command.Cmd.TheVariants as cmd
use Rattle.hd_model.specs.declared.limits.TheConstants.{REGISTERS}

-- an entry of `addr` or `collect`
abbrev pub entry_with : ℕ → Cmd → Reply → Entry
entry_with caller c answer =
    record { caller = caller; cmd = c; slot = None; grown = Zero; reply = answer }

-- what no collection leaves of the heap, and how many steps it takes
module _ (e : Entry) (f : Cmd → Bool) (is : f e.cmd ≡ false) (each : (n : ℕ) → f (cmd.Collect n) ≡ true) where
  none : (n : ℕ) → e.cmd ≡ cmd.Collect n → ⊥
  none n same = true≢false (sym (each n) ∙ ap f (sym same) ∙ is)

  others-heap : (k : Machine) → LeavesHeap e k.state.handles k.heap
  others-heap k = record {
    cards = λ n report same answer. absurd (none n same);
    compact = λ report same answer. absurd (none 2 same);
  }

  pub others-steps : (m : Machine) (steps : ℕ) → key_register (class_of e.cmd) ≡ None
      → TakesStepsIn m.numbers m.state m.ages e steps steps
  others-steps m steps no_key = record {
    others = λ _ _. refl;
    searches = λ key is. absurd
        (no_some key (sym is ∙ ap (option_and_then (register_of m.state e.caller)) no_key));
    collects = λ n report same answer. absurd (none n same);
  }

abbrev uses_pinned : Cmd → Bool
uses_pinned c = (touched_by c).pinned

-- a command that uses no pinned address
plain-moves : (m k : Machine) (e : Entry) → uses_pinned e.cmd ≡ false
    → Step m.numbers m.state e k.state → KeepsNames m.names k.names → k.ages ≡ aged_by m.state e m.ages
    → k.numbers ≡ m.numbers → KeepsPinned m e k
plain-moves m k e plain step keeps aged numbers p are = record {
  pinned = p;
  step = step_placed p m.numbers m.state e k.state plain step;
  addresses = λ x a is. keeps a (record { 0 = x }) (are x a is);
  ages = aged ∙ sym (ages_placed m.state p e m.ages);
  numbers = numbers;
  heap = others-heap e uses_pinned plain (λ n. refl) k;
}

-- the generation that a command collects
abbrev number_in : ℕ → Cmd → ℕ
number_in d (cmd.Collect n) = n
number_in d c = d

-- a collection
pub collect-moves : (m k : Machine) (n : ℕ) (report : Report) (caller : ℕ) → caller < m.numbers.callers
    → n ≤ 2 → HasCollected m k n report
    → KeepsPinned m (entry_with caller (cmd.Collect n) (reply.Report report)) k
collect-moves m k n report caller known low has p are = record {
  pinned = kept_pinned m.state p;
  step = record {
    caller = known;
    valid = low;
    does = record { report = report; reply = refl; slot = refl; grown = refl; collects = has.collects p };
  };
  addresses = has.addresses p are;
  ages = has.ages;
  numbers = has.numbers;
  heap = record {
    cards = λ j other same answer. has.cards;
    compact = λ other same answer. has.compact (ap (number_in n) same);
  };
}

-- a command that makes no object keeps all identities as they are
names-kept : (b : Bool) (old new : FinMap nat_cmp Id) → HasNames b old new → KeepsNames old new
names-kept true old new has a x is = has a x is
names-kept false old new same a x is = ap (λ names. get names a) same ∙ is

-- `addr`: what the handle pins decides the reply and the state
abbrev returned : State → Result Id Refusal → ℕ → Outcome
returned s (Ok id) address = reply_with (reply.Place address) (with_address s id address)
returned s (Err refused) address = refuses refused s

abbrev target_of : Result Id Refusal → Option Id
target_of (Ok id) = Some id
target_of (Err refused) = None

module _ (s : State) where
  -- what is pinned, as a result, an option and an outcome
  abbrev Agree : Result Id Refusal → Option Id → (ℕ → Outcome) → Type 0
  Agree r target answer = (target ≡ target_of r) × ((address : ℕ) → answer address ≡ returned s r address)

  agree_at : (b : Bool) (t : Option Id)
      → Agree (if b then option_map_or Ok t (Err refusal.Null) else Err refusal.WrongKind) (cond b t None)
      (λ address. if b then option_map_or (λ id. reply_with (reply.Place address) (with_address s id address))
      t (refuses refusal.Null s) else refuses refusal.WrongKind s)
  agree_at true None = (refl, λ address. refl)
  agree_at true (Some id) = (refl, λ address. refl)
  agree_at false t = (refl, λ address. refl)

  agree_by : (o : Option (Handle Id))
      → Agree (option_map_or (λ handle. if pins handle then option_map_or Ok handle.target (Err refusal.Null)
      else Err refusal.WrongKind) o (Err refusal.NotLive)) (pinned_by o)
      (λ address. option_map_or (λ handle. if pins handle then option_map_or
      (λ id. reply_with (reply.Place address) (with_address s id address)) handle.target
      (refuses refusal.Null s) else refuses refusal.WrongKind s) o (refuses refusal.NotLive s))
  agree_by None = (refl, λ address. refl)
  agree_by (Some handle) = agree_at (pins handle) handle.target

  agree : (caller h : ℕ) → Agree (pinned_in s caller h) (pinned_target s caller h) (reply_address s caller h)
  agree caller h = by (handle_register_of s caller h)
    where
      by : (o : Option Slot)
          → Agree (option_map_or (λ slot. option_map_or (λ handle. if pins handle then option_map_or Ok
          handle.target (Err refusal.Null) else Err refusal.WrongKind) (handle_at s slot)
          (Err refusal.NotLive))
          o (Err refusal.EmptyRegister)) (option_and_then (λ slot. pinned_by (handle_at s slot)) o)
          (λ address. option_map_or (λ slot. option_map_or (λ handle. if pins handle then option_map_or
          (λ id. reply_with (reply.Place address) (with_address s id address)) handle.target
          (refuses refusal.Null s)
          else refuses refusal.WrongKind s) (handle_at s slot) (refuses refusal.NotLive s)) o
          (refuses refusal.EmptyRegister s))
      by None = (refl, λ address. refl)
      by (Some slot) = agree_by (handle_at s slot)

  -- the address of what is pinned is returned
  pinned_reply : (caller h : ℕ) (x : Id) → pinned_target s caller h ≡ Some x → (address : ℕ)
      → reply_address s caller h address ≡ reply_with (reply.Place address) (with_address s x address)
  pinned_reply caller h x is address = by (pinned_in s caller h) (agree caller h)
    where
      by : (r : Result Id Refusal) → Agree r (pinned_target s caller h) (reply_address s caller h)
          → reply_address s caller h address ≡ reply_with (reply.Place address) (with_address s x address)
      by (Ok id) a = a.1 address ∙ ap (λ i. reply_with (reply.Place address) (with_address s i address))
          (same_Some id x (sym a.0 ∙ is))
      by (Err refused) a = absurd (no_some x (sym is ∙ a.0))

module _ (m : Machine) (caller h : ℕ) (known : caller < m.numbers.callers) (low : h < REGISTERS) where
  came_to : {w : Outcome} {after : State} (answer : Reply) → reply_with answer after ≡ w
      → IsOutcome (entry_with caller (cmd.AddrOf h) answer) w after
  came_to {w} {after} answer is = subst (λ o. IsOutcome (entry_with caller (cmd.AddrOf h) answer) o after) is
      (record { reply = refl; slot = refl; grown = refl; after = refl })

  pub addr-replies : (at : Addr) → HasAddress m at → Ok (name_in m.names at) ≡ pinned_in m.state caller h
      → KeepsPinned m (entry_with caller (cmd.AddrOf h) (reply.Place at.0)) m
  addr-replies at has is p are =
      let id = name_in m.names at in
      let pinned = subst (λ r. Agree (with_pinned m.state p) r (pinned_target m.state caller h)
      (reply_address (with_pinned m.state p) caller h)) (sym is) (agree (with_pinned m.state p) caller h) in
      record {
        pinned = insert p id.0 at.0;
        step = record {
          caller = known;
          valid = low;
          does = record {
            address = at.0;
            may = λ x same. subst (λ y. MayReturn (with_pinned m.state p) y at.0)
                (same_Some id x (sym pinned.0 ∙ same)) (has.may p are);
            outcome = came_to (reply.Place at.0) (sym (pinned.1 at.0));
          };
        };
        addresses = has.addresses p are;
        ages = refl;
        numbers = refl;
        heap = others-heap (entry_with caller (cmd.AddrOf h) (reply.Place at.0)) is_collect refl
            (λ n. refl) m;
      }

  pub addr-refused : (refused : Refusal) → Err refused ≡ pinned_in m.state caller h
      → KeepsPinned m (entry_with caller (cmd.AddrOf h) (reply.Refused refused)) m
  addr-refused refused is p are =
      let none = subst (λ r. Agree (with_pinned m.state p) r (pinned_target m.state caller h)
      (reply_address (with_pinned m.state p) caller h)) (sym is) (agree (with_pinned m.state p) caller h) in
      record {
        pinned = p;
        step = record {
          caller = known;
          valid = low;
          does = record {
            address = 0;
            may = λ x same. absurd (no_some x (sym same ∙ none.0));
            outcome = came_to (reply.Refused refused) (sym (none.1 0));
          };
        };
        addresses = are;
        ages = refl;
        numbers = refl;
        heap = others-heap (entry_with caller (cmd.AddrOf h) (reply.Refused refused)) is_collect refl
            (λ n. refl) m;
      }

-- the steps of a collection
pub collect-steps : (m : Machine) (n : ℕ) (report : Report) (caller before after : ℕ)
    → CollectedSteps m.state m.ages n before after
    → TakesStepsIn m.numbers m.state m.ages (entry_with caller (cmd.Collect n) (reply.Report report)) before
    after
collect-steps m n report caller before after steps = record {
  others = λ not _. absurd (true≢false not);
  searches = λ key is. absurd (no_some key (sym is));
  collects = λ k other same_n same_report.
      subst (λ j. CollectedSteps m.state m.ages j before after) (ap (number_in n) same_n) steps;
}

-- so is what a collection returned, which is a report or out of memory
pub collect-returns : {E : Type 0} (m k : Machine) (n caller : ℕ) → caller < m.numbers.callers → n ≤ 2
    → (before after : ℕ) (r : Result Report E)
    → MatchResult r (λ report. HasCollected m k n report × CollectedSteps m.state m.ages n before after)
    (λ _. (k ≡ m) × (after ≡ before))
    → MatchResult r (λ report. let e = entry_with caller (cmd.Collect n) (reply.Report report) in
    KeepsPinned m e k × TakesStepsIn m.numbers m.state m.ages e before after)
    (λ _. (k ≡ m) × (after ≡ before))
collect-returns m k n caller known low before after (Ok report) is =
    (collect-moves m k n report caller known low is.0, collect-steps m n report caller before after is.1)
collect-returns m k n caller known low before after (Err memory) is = is

-- a command was done with any pinned addresses, and took so many steps
abbrev pub Ran : Machine → Machine → ℕ → Cmd → Option Slot → Entry → (before after : ℕ) → Type 0
Ran m k caller c offer e before after =
    HasRun m caller c offer e (KeepsPinned m e k) × TakesStepsIn m.numbers m.state m.ages e before after

-- what was done without a use of pinned addresses was done with any
pub plain-kept : (m k : Machine) (caller : ℕ) (c : Cmd) (offer : Option Slot) → MayRun m caller c offer
    → (e : Entry) → HasRun m caller c offer e (IsPlainStep m c k e)
    → HasRun m caller c offer e (KeepsPinned m e k)
plain-kept m k caller c offer may e did =
    let step = did.effect in
    let still : uses_pinned e.cmd ≡ false = ap uses_pinned did.command ∙ step.plain in
    record {
      caller = did.caller;
      command = did.command;
      effect = plain-moves m k e still (record {
        caller = subst (λ x. x < m.numbers.callers) (sym did.caller) may.caller;
        valid = subst IsValid (sym did.command) may.valid;
        does = subst (StepOf m.numbers m.state e k.state) (sym did.command) step.step;
      }) (names-kept (touched_by c).makes_object m.names k.names step.names) step.ages step.numbers;
      offer = did.offer;
      growth = did.growth;
    }

pub plain-runs : (m k : Machine) (caller : ℕ) (c : Cmd) (offer : Option Slot) (steps : ℕ) (e : Entry)
    → key_register (class_of c) ≡ None → HasRun m caller c offer e (IsPlainStep m c k e) → MayRun m caller c
    offer
    → Ran m k caller c offer e steps steps
plain-runs m k caller c offer steps e no_key ran may = (
  plain-kept m k caller c offer may e ran,
  others-steps e uses_pinned (ap uses_pinned ran.command ∙ ran.effect.plain) (λ n. refl) m steps
      (ap (λ c. key_register (class_of c)) ran.command ∙ no_key),
)

-- `addr` returns the address of what the handle pins
module _ (m k : Machine) (e : Entry) (keeps : KeepsPinned m e k) (h address : ℕ) (x : Id)
    (same : e.cmd ≡ cmd.AddrOf h) (in_reply : e.reply ≡ reply.Place address)
    (pinned : pinned_target m.state e.caller h ≡ Some x) where
  moved : Moves m e k empty
  moved = keeps empty (λ y b is. absurd (nothing_at y b is))

  does : RepliesAddress (with_pinned m.state empty) e (with_pinned k.state moved.pinned) h
  does = subst (StepOf m.numbers (with_pinned m.state empty) e (with_pinned k.state moved.pinned)) same
      moved.step.does

  outcome_is : reply_address (with_pinned m.state empty) e.caller h does.address
      ≡ reply_with (reply.Place does.address) (with_address (with_pinned m.state empty) x does.address)
  outcome_is = pinned_reply (with_pinned m.state empty) e.caller h x pinned does.address

  abbrev address_in : Reply → ℕ
  address_in (reply.Place p) = p
  address_in r = address

  address_is : does.address ≡ address
  address_is = ap address_in (sym (does.outcome.reply ∙ ap (λ (o : Outcome). o.reply) outcome_is) ∙ in_reply)

  pub returns-address : get k.names address ≡ Some x
  returns-address =
      moved.addresses x.0 address
      (ap (λ (s : State). get s.pinned x.0)
      (does.outcome.after ∙ ap (λ (o : Outcome). o.after) outcome_is)
      ∙ get_inserted empty x.0 does.address ∙ ap Some address_is)

-- what was done by a command was done by the one that was asked
pub as-asked : (m k : Machine) (caller : ℕ) (given c : Cmd) (offer : Option Slot)
    (came r : Result Done Refusal)
    (before after : ℕ) → given ≡ c → came ≡ r → MayRun m caller given offer
    → (MayRun m caller c offer → Ran m k caller c offer (entry_by caller c (done_of r)) before after)
    → Ran m k caller given offer (entry_by caller given (done_of came)) before after
as-asked m k caller given c offer came r before after is same may ran =
    subst (λ x. Ran m k caller given offer (entry_by caller given (done_of x)) before after) (sym same)
    (subst (λ d. Ran m k caller d offer (entry_by caller d (done_of r)) before after) (sym is)
    (ran (subst (λ d. MayRun m caller d offer) is may)))

-- so was what takes no slot and gives none back
pub others-run : (m k : Machine) (caller : ℕ) (c : Cmd) (offer : Option Slot) (r : Result Done Refusal)
    (before after : ℕ) → asks_of m.state caller c ≡ no_room
    → KeepsPinned m (entry_by caller c (done_of r)) k
    → TakesStepsIn m.numbers m.state m.ages (entry_by caller c (done_of r)) before after
    → MayRun m caller c offer → Ran m k caller c offer (entry_by caller c (done_of r)) before after
others-run m k caller c offer r before after none keeps steps may = (
  record {
    caller = refl;
    command = refl;
    effect = keeps;
    offer = λ slot given. absurd (subst (λ a. MayOffer m.state a slot) none
        (subst (IsOffer m.state caller c) given may.offer));
    growth = subst (λ a. GrowsFor m.numbers m.state a offer (entry_by caller c (done_of r))) (sym none) tt;
  },
  steps,
)

-- `gcroot`, which changes nothing
module _ (m : Machine) (caller r : ℕ) where
  abbrev asking : Done → Entry
  asking done = entry_by caller (cmd.GcRoot r) done

  ages_stay : (b : Bool) → m.ages ≡ cond b m.ages m.ages
  ages_stay true = refl
  ages_stay false = refl

  root_step : (found : Reply) (done : Done)
      → ((goal : Id) → register_of m.state caller r ≡ Some goal → ReturnsRoot m.state goal found)
      → IsOutcome (asking done) (reply_root m.state caller r found) m.state
      → IsPlainStep m (cmd.GcRoot r) m (asking done)
  root_step found done is_root outcome = record {
    plain = refl;
    step = record { found = found; is_root = is_root; outcome = outcome };
    numbers = refl;
    names = refl;
    ages = ages_stay (is_refused done.reply);
  }

  root_outcome : (found : Reply) (w : Outcome) → reply_root m.state caller r found ≡ w → w.after ≡ m.state
      → (done : Done) → done ≡ record { reply = w.reply; slot = w.slot; grown = Zero }
      → IsOutcome (asking done) (reply_root m.state caller r found) m.state
  root_outcome found w is same done of = record {
    reply = ap (λ (d : Done). d.reply) of ∙ ap (λ (o : Outcome). o.reply) (sym is);
    slot = ap (λ (d : Done). d.slot) of ∙ ap (λ (o : Outcome). o.slot) (sym is);
    grown = ap (λ (d : Done). d.grown) of;
    after = sym same ∙ ap (λ (o : Outcome). o.after) (sym is);
  }

  abbrev reply_by : Reply → Option Id → Outcome
  reply_by found o = option_map_or (λ _. reply_with found m.state) o (refuses refusal.Null m.state)

  pub root-returned : (goal : Id) → register_of m.state caller r ≡ Some goal → (found : Reply)
      → ReturnsRoot m.state goal found → (done : Done)
      → done ≡ record { reply = found; slot = None; grown = Zero }
      → IsPlainStep m (cmd.GcRoot r) m (asking done)
  root-returned goal is found is_root done of =
      root_step found done
      (λ x same. subst (λ y. ReturnsRoot m.state y found) (same_Some goal x (sym is ∙ same)) is_root)
      (root_outcome found (reply_with found m.state) (ap (reply_by found) is) refl done of)

  pub root-refused : register_of m.state caller r ≡ None → (refused : Refusal) → refused ≡ refusal.Null
      → IsPlainStep m (cmd.GcRoot r) m (asking (done_of (Err refused)))
  root-refused none refused is =
      root_step reply.Unrooted (done_of (Err refused)) (λ x same. absurd (no_some x (sym same ∙ none)))
      (root_outcome reply.Unrooted (refuses refusal.Null m.state) (ap (reply_by reply.Unrooted) none) refl
      (done_of (Err refused)) (ap (λ (q : Refusal). done_of (Err q)) is))

-- so was a search of the weak table
pub looked-run : (m k : Machine) (caller : ℕ) (c : Cmd) (offer : Option Slot) (r : Result Done Refusal)
    (before after : ℕ) → asks_of m.state caller c ≡ no_room
    → IsPlainStep m c k (entry_by caller c (done_of r))
    → TakesStepsIn m.numbers m.state m.ages (entry_by caller c (done_of r)) before after
    → MayRun m caller c offer → Ran m k caller c offer (entry_by caller c (done_of r)) before after
looked-run m k caller c offer r before after none did steps may =
    others-run m k caller c offer r before after none
    (plain-moves m k (entry_by caller c (done_of r)) did.plain
    (record { caller = may.caller; valid = may.valid; does = did.step })
    (names-kept (touched_by c).makes_object m.names k.names did.names) did.ages did.numbers) steps may
