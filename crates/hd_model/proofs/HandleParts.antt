-- What a handle has is read back, and a freed slot is not live.
use Rattle.hd_model.proofs.Basics.{ReturnsCount, Bool, Cmd, CountIsReadBack, Entry, Extra, FitsKind, FreedIsNotLive, GivesCount, GivesSecondary, GivesStrength, GivesTarget, Handle, Id, IsDoneOn, IsOutcome, IsSome, IsSomeAnd, IsWellFormed, Kind, Make, MakesIn, None, Numbers, Option, Outcome, Refusal, Reply, SecondaryIsReadBack, Slot, Some, State, Step, StepOf, Strength, StrengthIsKept, TargetIsReadBack, WritesCount, WritesSecondary, WritesStrength, WritesTarget, ap, cond, count, count_of, false, get, handle_at, handle_register_of, if◌then◌else◌, inl, inr, insert, is_attaching, is_kind, is_lost, is_refused, load_reply, loses, lowering_reply, made_handle, none-some, on_handle, on_handle_of, option_and_then, option_map, option_map_or, refl, refuses, register_of, role, same_Some, secondary, secondary_of, strength, subst, sym, touched_by, true, true≢false, with_count, with_handle, without_secondary, ℕ, ⊎_elim, ◌&&◌, ◌+◌, ◌-◌, ◌==◌, ◌∙◌, ◌≡◌, ◌⊎◌}
use Rattle.hd_model.specs.Laws.{makes_handle as is_making}
use Rattle.hd_model.proofs.{ReadAfterWrite.get_inserted, ReadAfterWrite.get_removed, OneState.done_or_refused, KindExtras.attaching_kind, StateReadBack.step_of, StateReadBack.effect_of}
use Rattle.hd_model.proofs.KindTests.{variable_or_dependent, variable_or_counted, counted_or_dependent}
use Rattle.hd_model.proofs.Effects.{Effect, Finds, refused, makes_handle, sets_target, sets_secondary, sets_strength, raises_count, lowers_count, frees_handle}
use Rattle.hd_model.proofs.StepWrites.{still, not_none, HandleChange, handle_stays, is_made, target_is_set, extra_is_set, SetsExtra, by_secondary, by_strength, by_raise, by_lower, is_freed, is_collected, handle_change}
use Rattle.hd_model.specs.declared.data.Kind.TheVariants as kind
use Rattle.hd_model.specs.declared.data.Make.TheVariants as make
use Rattle.hd_model.specs.declared.data.Refusal.TheVariants as refusal
use Rattle.hd_model.specs.declared.data.Reply.TheVariants as reply
use Rattle.hd_model.specs.declared.command.Cmd.TheVariants as cmd
use Rattle.hd_model.specs.Laws as law

-- the handle in a slot has a property
abbrev HandleIs : State → Slot → (Handle Id → Type 0) → Type 0
HandleIs s slot P = IsSomeAnd (get s.handles slot.0) P

at_live : (s : State) (slot : Slot) (handle : Handle Id) (P : Handle Id → Type 0)
    → get s.handles slot.0 ≡ Some handle → HandleIs s slot P → P handle
at_live s slot handle P live had = subst (λ o. IsSomeAnd o P) live had

-- a handle that is written has what was written
put_is : (s : State) (slot : Slot) (handle : Handle Id) (P : Handle Id → Type 0) → P handle
    → IsSomeAnd (get (insert s.handles slot.0 handle) slot.0) P
put_is s slot handle P h = subst (λ o. IsSomeAnd o P) (sym (get_inserted s.handles slot.0 handle)) h

module _ (s : State) (c : ℕ) where
  on_handle_is : (h : ℕ) (act : Slot → Handle Id → Outcome) (slot : Slot) (handle : Handle Id)
      → handle_register_of s c h ≡ Some slot → handle_at s slot ≡ Some handle
      → on_handle s c h act ≡ act slot handle
  on_handle_is h act slot handle names live =
      ap (λ r. option_map_or (λ x. option_map_or (act x) (handle_at s x) (refuses refusal.NotLive s)) r
      (refuses refusal.EmptyRegister s)) names
      ∙ ap (λ o. option_map_or (act slot) o (refuses refusal.NotLive s)) live

  on_handle_of_is : (h : ℕ) (wanted : Kind) (act : Slot → Handle Id → Outcome) (slot : Slot)
      (handle : Handle Id) → handle_register_of s c h ≡ Some slot → handle_at s slot ≡ Some handle
      → handle.kind ≡ wanted → is_kind wanted wanted ≡ true → on_handle_of s c h wanted act ≡ act slot handle
  on_handle_of_is h wanted act slot handle names live same test =
      on_handle_is h _ slot handle names live
      ∙ ap (λ b. if b then act slot handle else refuses refusal.WrongKind s)
      (ap (λ k. is_kind k wanted) same ∙ test)

  on_handle_gone : (h : ℕ) (act : Slot → Handle Id → Outcome) (slot : Slot)
      → handle_register_of s c h ≡ Some slot → handle_at s slot ≡ None
      → on_handle s c h act ≡ refuses refusal.NotLive s
  on_handle_gone h act slot names gone =
      ap (λ r. option_map_or (λ x. option_map_or (act x) (handle_at s x) (refuses refusal.NotLive s)) r
      (refuses refusal.EmptyRegister s)) names
      ∙ ap (λ o. option_map_or (act slot) o (refuses refusal.NotLive s)) gone

done_is : {r : Reply} → r ≡ reply.Done → is_refused r ≡ false
done_is is = ap is_refused is

-- a command that was done on the handle that it found
done_on : {command : ℕ → Cmd} (s : State) (e : Entry) (slot : Slot) (h : ℕ) (handle : Handle Id)
    → e.cmd ≡ command h → Finds s e.caller h slot handle → is_refused e.reply ≡ false
    → IsDoneOn command slot s e
done_on s e slot h handle is f done = record { h = h; command_is = is; has = f.names; done = done }

-- a handle has the target v
abbrev TargetIs : Option Id → Handle Id → Type 0
TargetIs v handle = handle.target ≡ v

-- where a test clears a target or a secondary, it is null then
cleared_or_same : (b : Bool) (o v : Option Id) → o ≡ v → (cond b None o ≡ v)
    ⊎ ((cond b None o ≡ None) × IsSome v)
cleared_or_same false o v e = inl e
cleared_or_same true o None e = inl refl
cleared_or_same true o (Some x) e = inr (refl, refl)

module _ (n : Numbers) (s : State) (w : IsWellFormed n s) (e : Entry) (t : State) (slot : Slot) where
  target_stays : (v : Option Id) (c : Cmd) (o : Option (Handle Id)) → e.cmd ≡ c → get t.handles slot.0 ≡ o
      → HandleChange s e slot c o → (WritesTarget slot s e t → ⊥) → HandleIs s slot (TargetIs v)
      → IsSomeAnd o (TargetIs v)
  target_stays v c o is after handle_stays apart had = had
  target_stays v c o is after (is_made given done none) apart had = absurd (not_none _ _ none had)
  target_stays v c o is after (target_is_set {h = h} {t = r} handle f done) apart had =
      absurd (apart (law.WritesTarget.sets r (done_on s e slot h handle is f (done_is done))))
  target_stays v c o is after (extra_is_set handle f fits sets) apart had =
      at_live s slot handle (TargetIs v) f.live had
  target_stays v c o is after (is_freed {h = h} handle f done) apart had =
      absurd (apart (law.WritesTarget.frees (done_on s e slot h handle is f (done_is done))))
  target_stays v c o is after (is_collected {k = k} reach kept handle live) apart had =
      let was : handle.target ≡ v = at_live s slot handle (TargetIs v) live had in
      ⊎_elim (λ same. same)
      (λ gone. absurd (apart (law.WritesTarget.clears (record {
        n = k;
        command = is;
        was = subst IsSome (sym (ap (option_and_then (λ (x : Handle Id). x.target)) live ∙ was)) gone.1;
        now = ap (option_and_then (λ (x : Handle Id). x.target)) after ∙ gone.0;
      }))))
      (cleared_or_same (loses reach kept handle) handle.target v was)

-- what a done `hnew` makes, and what is written to the handle that a register has
made_has : (n : Numbers) (s : State) (e : Entry) {d r : ℕ} {given : Make} (t : State) (slot : Slot)
    (P : Handle Id → Type 0) → P (made_handle s e.caller given r) → Effect n s e (cmd.HNew d given r) t
    → e.slot ≡ Some slot → e.reply ≡ reply.Done → HandleIs t slot P
made_has n s e t slot P h (refused p) has done = absurd (done_or_refused done p)
made_has n s e t slot P h (makes_handle other given_is may p) has done =
    subst (λ x. HandleIs t x P) (same_Some other slot (sym given_is ∙ has)) (put_is s other _ P h)

written_has : (s : State) (caller h : ℕ) (slot other : Slot) (handle new : Handle Id) (P : Handle Id → Type 0)
    → Finds s caller h other handle → handle_register_of s caller h ≡ Some slot → P new
    → HandleIs (with_handle s other new) slot P
written_has s caller h slot other handle new P f has p =
    subst (λ x. HandleIs (with_handle s other new) x P) (same_Some other slot (sym f.names ∙ has))
    (put_is s other new P p)

-- what gives a target
target_put : (n : Numbers) (s : State) (e : Entry) (t : State) (slot : Slot) (v : Option Id) → Step n s e t
    → GivesTarget s e slot v → e.reply ≡ reply.Done → HandleIs t slot (TargetIs v)
target_put n s e t slot v step (law.GivesTarget.by_set {h = h} {t = r} is has) done =
    by t (effect_of n s e t (cmd.HSet h r) step is)
  where
    by : (t : State) → Effect n s e (cmd.HSet h r) t → HandleIs t slot (TargetIs (register_of s e.caller r))
    by t (refused p) = absurd (done_or_refused done p)
    by t (sets_target other handle f p) = written_has s e.caller h slot other handle _ (TargetIs _) f has refl
target_put n s e t slot v step (law.GivesTarget.by_new {d = d} {t = r} {given = given} is has) done =
    made_has n s e t slot (TargetIs _) refl (effect_of n s e t (cmd.HNew d given r) step is) has done

some_handle : {P : Handle Id → Type 0} (o : Option (Handle Id)) → IsSomeAnd o P → (handle : Handle Id)
    × ((o ≡ Some handle) × P handle)
some_handle None h = absurd h
some_handle (Some handle) h = (handle, (refl, h))

pub target_is_read_back : TargetIsReadBack
target_is_read_back n old now new written reading slot v d h since gives done step gets named =
    let put = target_put n old written since.after slot v since.first gives done in
    let kept = still (λ s. HandleIs s slot (TargetIs v))
    (λ s e t w did apart had. target_stays n s w e t slot v e.cmd (get t.handles slot.0) refl refl
    (handle_change n s w e slot e.cmd t did) apart had) since put in
    let comes : IsOutcome reading _ new = step_of n now reading new (cmd.HGet d h) step gets in
    let found : (handle : Handle Id) × ((handle_at now slot ≡ Some handle) × TargetIs v handle) =
    some_handle (handle_at now slot) kept.1 in
    comes.reply ∙ ap (λ (y : Outcome). y.reply) (on_handle_is now reading.caller h _ slot found.0 named
    found.1.0) ∙ ap load_reply found.1.1

-- a handle has an extra
abbrev ExtraIs : Extra Id → Handle Id → Type 0
ExtraIs x handle = handle.extra ≡ x

-- a collection leaves the extra of a handle that is not dependent
not_attaching : (b lost : Bool) (extra : Extra Id) → (b ≡ true → ⊥)
    → cond (b && lost) (secondary None) extra ≡ extra
not_attaching true lost extra apart = absurd (apart refl)
not_attaching false lost extra apart = refl

attaching_or_not : (b lost : Bool) (v : Option Id)
    → (cond (b && lost) (secondary None) (secondary v) ≡ secondary v)
    ⊎ ((cond (b && lost) (secondary None) (secondary v) ≡ secondary None) × IsSome v)
attaching_or_not false lost v = inl refl
attaching_or_not true false v = inl refl
attaching_or_not true true None = inl refl
attaching_or_not true true (Some x) = inr (refl, refl)

module _ (n : Numbers) (s : State) (w : IsWellFormed n s) (e : Entry) (t : State) (slot : Slot) where
  -- the extra of a handle fits its kind
  fits_there : (handle : Handle Id) (x : Extra Id) → get s.handles slot.0 ≡ Some handle
      → HandleIs s slot (ExtraIs x) → FitsKind handle.kind x
  fits_there handle x live had =
      subst (FitsKind handle.kind) (at_live s slot handle (ExtraIs x) live had)
      (w.handles.extras slot.0 handle live)

  -- an extra that is no secondary stays where no command sets it and the handle is not freed
  extra_stays : (x : Extra Id) (c : Cmd) (o : Option (Handle Id)) → HandleChange s e slot c o
      → without_secondary x ≡ x → (FitsKind kind.Dependent x → ⊥)
      → ((h : ℕ) (handle : Handle Id) (y : Extra Id) → Finds s e.caller h slot handle → FitsKind handle.kind x
      → FitsKind handle.kind y → SetsExtra s e handle c h y → ⊥)
      → ((h : ℕ) (handle : Handle Id) → c ≡ cmd.HFree h → Finds s e.caller h slot handle
      → e.reply ≡ reply.Done
      → ⊥) → HandleIs s slot (ExtraIs x) → IsSomeAnd o (ExtraIs x)
  extra_stays x c o handle_stays same apart sets frees had = had
  extra_stays x c o (is_made given_is done none) same apart sets frees had = absurd (not_none _ _ none had)
  extra_stays x c o (target_is_set handle f done) same apart sets frees had =
      ap without_secondary (at_live s slot handle (ExtraIs x) f.live had) ∙ same
  extra_stays x c o (extra_is_set {h = h} handle {x = y} f fits set_by) same apart sets frees had =
      absurd (sets h handle y f (fits_there handle x f.live had) fits set_by)
  extra_stays x c o (is_freed {h = h} handle f done) same apart sets frees had =
      absurd (frees h handle refl f done)
  extra_stays x c o (is_collected reach kept handle live) same apart sets frees had =
      not_attaching (is_attaching (role handle)) (is_lost kept handle.target) handle.extra
      (λ attaches. apart (subst (λ k. FitsKind k x) (attaching_kind handle.kind handle.extra attaches)
      (fits_there handle x live had))) ∙ at_live s slot handle (ExtraIs x) live had

  strength_stays : (given : Strength) (o : Option (Handle Id)) → HandleChange s e slot e.cmd o
      → (WritesStrength slot s e t → ⊥) → HandleIs s slot (ExtraIs (strength given))
      → IsSomeAnd o (ExtraIs (strength given))
  strength_stays given o change apart =
      extra_stays (strength given) e.cmd o change refl (λ fits. variable_or_dependent fits refl)
      (λ h handle y. sets e.cmd h handle y refl)
      (λ h handle is f done. apart (law.WritesStrength.frees (done_on s e slot h handle is f (done_is done))))
    where
      sets : (c : Cmd) (h : ℕ) (handle : Handle Id) (y : Extra Id) → e.cmd ≡ c
          → Finds s e.caller h slot handle
          → FitsKind {N = Id} handle.kind (strength given) → FitsKind handle.kind y
          → SetsExtra s e handle c h y → ⊥
      sets c h handle z is f x y (by_strength {given = other} done) =
          apart (law.WritesStrength.sets other (done_on s e slot h handle is f (done_is done)))
      sets c h handle z is f x y (by_secondary done) = variable_or_dependent x y
      sets c h handle z is f x y (by_raise done) = variable_or_counted x y
      sets c h handle z is f x y (by_lower done) = variable_or_counted x y

  count_stays : (x : ℕ) (o : Option (Handle Id)) → HandleChange s e slot e.cmd o
      → (WritesCount slot s e t → ⊥) → HandleIs s slot (ExtraIs (count x)) → IsSomeAnd o (ExtraIs (count x))
  count_stays x o change apart =
      extra_stays (count x) e.cmd o change refl (λ fits. counted_or_dependent fits refl)
      (λ h handle y. sets e.cmd h handle y refl)
      (λ h handle is f done. apart (law.WritesCount.frees (done_on s e slot h handle is f (done_is done))))
    where
      sets : (c : Cmd) (h : ℕ) (handle : Handle Id) (y : Extra Id) → e.cmd ≡ c
          → Finds s e.caller h slot handle
          → FitsKind {N = Id} handle.kind (count x) → FitsKind handle.kind y → SetsExtra s e handle c h y → ⊥
      sets c h handle z is f a b (by_strength done) = variable_or_counted b a
      sets c h handle z is f a b (by_secondary done) = counted_or_dependent a b
      sets c h handle z is f a b (by_raise done) =
          apart (law.WritesCount.raises (done_on s e slot h handle is f (ap is_refused done)))
      sets c h handle z is f a b (by_lower done) =
          apart (law.WritesCount.lowers (done_on s e slot h handle is f (ap is_refused done)))

  secondary_stays : (v : Option Id) (c : Cmd) (o : Option (Handle Id)) → e.cmd ≡ c → get t.handles slot.0 ≡ o
      → HandleChange s e slot c o → (WritesSecondary slot s e t → ⊥) → HandleIs s slot (ExtraIs (secondary v))
      → IsSomeAnd o (ExtraIs (secondary v))
  secondary_stays v c o is after handle_stays apart had = had
  secondary_stays v c o is after (is_made given_is done none) apart had = absurd (not_none _ _ none had)
  secondary_stays v c o is after (target_is_set {h = h} {t = r} handle f done) apart had =
      absurd (apart (law.WritesSecondary.sets_target r (done_on s e slot h handle is f (done_is done))))
  secondary_stays v c o is after (extra_is_set {h = h} handle f fits (by_secondary {r = r} done)) apart had =
      absurd (apart (law.WritesSecondary.sets r (done_on s e slot h handle is f (done_is done))))
  secondary_stays v c o is after (extra_is_set handle f fits (by_strength done)) apart had =
      absurd (variable_or_dependent fits (fits_there handle (secondary v) f.live had))
  secondary_stays v c o is after (extra_is_set handle f fits (by_raise done)) apart had =
      absurd (counted_or_dependent fits (fits_there handle (secondary v) f.live had))
  secondary_stays v c o is after (extra_is_set handle f fits (by_lower done)) apart had =
      absurd (counted_or_dependent fits (fits_there handle (secondary v) f.live had))
  secondary_stays v c o is after (is_freed {h = h} handle f done) apart had =
      absurd (apart (law.WritesSecondary.frees (done_on s e slot h handle is f (done_is done))))
  secondary_stays v c o is after (is_collected {k = k} reach kept handle live) apart had =
      let was : handle.extra ≡ secondary v = at_live s slot handle (ExtraIs (secondary v)) live had in
      let b : Bool = is_attaching (role handle) && is_lost kept handle.target in
      let left : cond b (secondary None) handle.extra ≡ cond b (secondary None) (secondary v) =
      ap (cond b (secondary None)) was in
      ⊎_elim (λ same. left ∙ same)
      (λ gone. absurd (apart (law.WritesSecondary.clears (record {
        n = k;
        command = is;
        was = subst IsSome (sym (ap (option_and_then (λ (x : Handle Id). secondary_of x.extra)) live
            ∙ ap secondary_of was)) gone.1;
        now = ap (option_and_then (λ (x : Handle Id). secondary_of x.extra)) after
            ∙ ap secondary_of (left ∙ gone.0);
      }))))
      (attaching_or_not (is_attaching (role handle)) (is_lost kept handle.target) v)

-- what gives a secondary, a strength and a count
secondary_put : (n : Numbers) (s : State) (e : Entry) (t : State) (slot : Slot) (v : Option Id) → Step n s e t
    → GivesSecondary s e slot v → e.reply ≡ reply.Done → HandleIs t slot (ExtraIs (secondary v))
secondary_put n s e t slot v step (law.GivesSecondary.by_set {h = h} {r = r} is has) done =
    by t (effect_of n s e t (cmd.HSec h r) step is)
  where
    by : (t : State) → Effect n s e (cmd.HSec h r) t
        → HandleIs t slot (ExtraIs (secondary (register_of s e.caller r)))
    by t (refused p) = absurd (done_or_refused done p)
    by t (sets_secondary other handle f same target p) =
        written_has s e.caller h slot other handle _ (ExtraIs _) f has refl
secondary_put n s e t slot v step (law.GivesSecondary.by_new {d = d} {r = r} {t = x} is has) done =
    made_has n s e t slot (ExtraIs _) refl (effect_of n s e t (cmd.HNew d (make.Dependent r) x) step is) has
    done

strength_put : (n : Numbers) (s : State) (e : Entry) (t : State) (slot : Slot) (given : Strength)
    → Step n s e t → GivesStrength s e slot given → e.reply ≡ reply.Done
    → HandleIs t slot (ExtraIs (strength given))
strength_put n s e t slot given step (law.GivesStrength.by_set {h = h} is has) done =
    by t (effect_of n s e t (cmd.HVar h given) step is)
  where
    by : (t : State) → Effect n s e (cmd.HVar h given) t → HandleIs t slot (ExtraIs (strength given))
    by t (refused p) = absurd (done_or_refused done p)
    by t (sets_strength other handle f same p) =
        written_has s e.caller h slot other handle _ (ExtraIs _) f has refl
strength_put n s e t slot given step (law.GivesStrength.by_new {d = d} {t = x} is has) done =
    made_has n s e t slot (ExtraIs _) refl
    (effect_of n s e t (cmd.HNew d (make.Variable given) x) step is) has done

value_or_refused : {r : Reply} {c : ℕ} {why : Refusal} → r ≡ reply.Value c → r ≡ reply.Refused why → ⊥
value_or_refused value other = cc

same_value : {r : Reply} {a b : ℕ} → r ≡ reply.Value a → r ≡ reply.Value b → a ≡ b
same_value first second = cc

count_put : (n : Numbers) (s : State) (e : Entry) (t : State) (slot : Slot) (c : ℕ) → Step n s e t
    → GivesCount s e slot c → HandleIs t slot (ExtraIs (count c))
count_put n s e t slot c step (law.GivesCount.by_up {h = h} is has returned) =
    by t (effect_of n s e t (cmd.HUp h) step is)
  where
    by : (t : State) → Effect n s e (cmd.HUp h) t → HandleIs t slot (ExtraIs (count c))
    by t (refused p) = absurd (value_or_refused returned p)
    by t (raises_count other handle f same p) =
        written_has s e.caller h slot other handle _ (ExtraIs _) f has (ap count (same_value p returned))
count_put n s e t slot c step (law.GivesCount.by_down {h = h} is has returned) =
    by t (effect_of n s e t (cmd.HDown h) step is)
  where
    by : (t : State) → Effect n s e (cmd.HDown h) t → HandleIs t slot (ExtraIs (count c))
    by t (refused p) = absurd (value_or_refused returned p)
    by t (lowers_count other handle f same p) =
        written_has s e.caller h slot other handle _ (ExtraIs _) f has (ap count (same_value p returned))
count_put n s e t slot c step (law.GivesCount.by_new is has done) =
    made_has n s e t slot (ExtraIs _) refl (effect_of n s e t _ step is) has done

reply_of_test : (b : Bool) (x y : Outcome) → (if b then x else y).reply ≡ (if b then x.reply else y.reply)
reply_of_test true x y = refl
reply_of_test false x y = refl

-- the kind of a handle with a known extra
kind_with : (n : Numbers) (s : State) (slot : Slot) (handle : Handle Id) (x : Extra Id) → IsWellFormed n s
    → handle_at s slot ≡ Some handle → handle.extra ≡ x → FitsKind handle.kind x
kind_with n s slot handle x w live is = subst (FitsKind handle.kind) is (w.handles.extras slot.0 handle live)

pub secondary_is_read_back : SecondaryIsReadBack
secondary_is_read_back n old now new written reading slot v d h since gives done step gets named =
    let put = secondary_put n old written since.after slot v since.first gives done in
    let kept = still (λ s. HandleIs s slot (ExtraIs (secondary v)))
    (λ s e t w did apart had. secondary_stays n s w e t slot v e.cmd (get t.handles slot.0) refl refl
    (handle_change n s w e slot e.cmd t did) apart had) since put in
    let comes : IsOutcome reading _ new = step_of n now reading new (cmd.HDep d h) step gets in
    let found : (handle : Handle Id) × ((handle_at now slot ≡ Some handle) × ExtraIs (secondary v) handle) =
    some_handle (handle_at now slot) kept.1 in
    comes.reply
    ∙ ap (λ (y : Outcome). y.reply) (on_handle_of_is now reading.caller h kind.Dependent _ slot found.0 named
    found.1.0 (kind_with n now slot found.0 (secondary v) kept.0 found.1.0 found.1.1) refl)
    ∙ ap (λ x. load_reply (secondary_of x)) found.1.1

pub strength_is_kept : StrengthIsKept
strength_is_kept n old now written slot given since gives done =
    let put = strength_put n old written since.after slot given since.first gives done in
    let kept = still (λ s. HandleIs s slot (ExtraIs (strength given)))
    (λ s e t w did apart had. strength_stays n s w e t slot given (get t.handles slot.0)
    (handle_change n s w e slot e.cmd t did) apart had) since put in
    let found : (handle : Handle Id) × ((handle_at now slot ≡ Some handle) × ExtraIs (strength given) handle)
    = some_handle (handle_at now slot) kept.1 in
    ap (option_map (λ (x : Handle Id). x.extra)) found.1.0 ∙ ap Some found.1.1

-- `hup` and `hdown` return what follows from the count
count_returned : (n : Numbers) (s : State) (e : Entry) (t : State) (slot : Slot) (c h : ℕ)
    (handle : Handle Id) → IsWellFormed n s → Step n s e t → handle_register_of s e.caller h ≡ Some slot
    → handle_at s slot ≡ Some handle → handle.extra ≡ count c → ReturnsCount c h e
count_returned n s e t slot c h handle w step named live has =
    let counted = kind_with n s slot handle (count c) w live has in
    record {
      up = λ is.
          let comes : IsOutcome e _ t = step_of n s e t (cmd.HUp h) step is in
          comes.reply
          ∙ ap (λ (y : Outcome). y.reply) (on_handle_of_is s e.caller h _ _ slot handle named live
          counted refl)
          ∙ ap (λ x. reply.Value (count_of x + 1)) has;
      down = λ is.
          let comes : IsOutcome e _ t = step_of n s e t (cmd.HDown h) step is in
          comes.reply
          ∙ ap (λ (y : Outcome). y.reply) (on_handle_of_is s e.caller h _ _ slot handle named live
          counted refl)
          ∙ lowered_reply s slot handle (count_of handle.extra)
          ∙ ap (λ x. lowering_reply (count_of x)) has;
    }
  where
    lowered_reply : (s : State) (slot : Slot) (handle : Handle Id) (c : ℕ)
        → (if c == 0 then refuses refusal.CountZero s else with_count s slot handle (c - 1)).reply
        ≡ lowering_reply c
    lowered_reply s slot handle c = reply_of_test (c == 0) (refuses refusal.CountZero s)
        (with_count s slot handle (c - 1))

pub count_is_read_back : CountIsReadBack
count_is_read_back n old now new written reading slot c h since gives step named =
    let put = count_put n old written since.after slot c since.first gives in
    let kept = still (λ s. HandleIs s slot (ExtraIs (count c)))
    (λ s e t w did apart had. count_stays n s w e t slot c (get t.handles slot.0)
    (handle_change n s w e slot e.cmd t did) apart had) since put in
    let found : (handle : Handle Id) × ((handle_at now slot ≡ Some handle) × ExtraIs (count c) handle) =
    some_handle (handle_at now slot) kept.1 in
    count_returned n now reading new slot c h found.0 kept.0 step named found.1.0 found.1.1

-- a slot without a handle stays so, but for an `hnew` that gives it
vacant_stays : (s : State) (e : Entry) (t : State) (slot : Slot) (c : Cmd) (o : Option (Handle Id))
    → e.cmd ≡ c → HandleChange s e slot c o → (MakesIn slot s e t → ⊥) → handle_at s slot ≡ None → o ≡ None
vacant_stays s e t slot c o is handle_stays apart had = had
vacant_stays s e t slot c o is (is_made {d = d} {t = r} {given = given} given_is done none) apart had =
    absurd (apart (record {
      makes = ap (λ x. is_making x e.reply) is ∙ ap (is_making (cmd.HNew d given r)) done;
      given = given_is;
    }))
vacant_stays s e t slot c o is (target_is_set handle f done) apart had =
    absurd (none-some handle (sym had ∙ f.live))
vacant_stays s e t slot c o is (extra_is_set handle f fits sets) apart had =
    absurd (none-some handle (sym had ∙ f.live))
vacant_stays s e t slot c o is (is_freed handle f done) apart had = refl
vacant_stays s e t slot c o is (is_collected reach kept handle live) apart had =
    absurd (none-some handle (sym had ∙ live))

not_refused : {r : Reply} {why : Refusal} → is_refused r ≡ false → r ≡ reply.Refused why → ⊥
not_refused kept p = true≢false (sym (ap is_refused p) ∙ kept)

freed : (n : Numbers) (s : State) (e : Entry) (t : State) (h : ℕ) (slot : Slot) → Effect n s e (cmd.HFree h) t
    → is_refused e.reply ≡ false → handle_register_of s e.caller h ≡ Some slot → handle_at t slot ≡ None
freed n s e t h slot (refused p) done names = absurd (not_refused done p)
freed n s e t h slot (frees_handle other handle f p q) done names =
    subst (λ y. handle_at t y ≡ None) (same_Some other slot (sym f.names ∙ names))
    (get_removed s.handles other.0)

-- each command on a slot that is not live is refused so
module _ (n : Numbers) (s : State) (e : Entry) (t : State) (h : ℕ) (slot : Slot)
    (names : handle_register_of s e.caller h ≡ Some slot) (gone : handle_at s slot ≡ None) where
  gone_there : (x : ℕ) (act : Slot → Handle Id → Outcome) → Some x ≡ Some h
      → e.reply ≡ (on_handle s e.caller x act).reply → e.reply ≡ reply.Refused refusal.NotLive
  gone_there x act uses comes =
      comes ∙ ap (λ (y : Outcome). y.reply) (on_handle_gone s e.caller x act slot
      (ap (handle_register_of s e.caller) (same_Some x h uses) ∙ names) gone)

  pub not_live : (c : Cmd) → StepOf n s e t c → (touched_by c).handle ≡ Some h
      → e.reply ≡ reply.Refused refusal.NotLive
  not_live (cmd.HGet d x) comes uses = gone_there x _ uses comes.reply
  not_live (cmd.HSet x r) comes uses = gone_there x _ uses comes.reply
  not_live (cmd.HSec x r) comes uses = gone_there x _ uses comes.reply
  not_live (cmd.HDep d x) comes uses = gone_there x _ uses comes.reply
  not_live (cmd.HVar x given) comes uses = gone_there x _ uses comes.reply
  not_live (cmd.HFree x) comes uses = gone_there x _ uses comes.reply
  not_live (cmd.AddrOf x) comes uses = gone_there x _ uses comes.outcome.reply
  not_live (cmd.HUp x) comes uses = gone_there x _ uses comes.reply
  not_live (cmd.HDown x) comes uses = gone_there x _ uses comes.reply
  not_live _ comes uses = absurd (none-some h uses)

pub freed_is_not_live : FreedIsNotLive
freed_is_not_live n old now new written reading slot h since frees step uses named =
    let put : handle_at since.after slot ≡ None =
    freed n old written since.after frees.h slot (effect_of n old written since.after _ since.first
    frees.command_is) frees.done frees.has in
    let kept = still (λ s. handle_at s slot ≡ None)
    (λ s e t w did apart had. vacant_stays s e t slot e.cmd (get t.handles slot.0) refl
    (handle_change n s w e slot e.cmd t did) apart had) since put in
    not_live n now reading new h slot named kept.1 reading.cmd step.does uses
