-- In every state of a run, the objects at pinned addresses share no cell.
use Rattle.hd_model.proofs.Basics.{Bool, Cmd, Entry, FinMap, HasPinnedApart, Id, IsFreeAddress, IsSome, IsWellFormed, MatchOption, MayReturn, None, Numbers, Object, Option, PinnedObjectsDoNotOverlap, Some, State, TakesCells, ap, cases_lt, cond, false, get, get-empty, inl, inr, insert, is_pinned, is_some, length, length-set, nat_cmp, none-some, object_by_id, refl, register_of, same_Some, subst, sym, true, true≢false, unwrap_or, with_address, ℕ, ⊎_elim, ◌+◌, ◌<◌, ◌^◌, ◌∙◌, ◌≡◌, ◌≢◌, ◌≤◌, ◌⊎◌}
use Rattle.hd_model.proofs.{ReadAfterWrite.write_cases, StepChains.chain_keeps, WellFormedSteps.step_keeps, WellFormedSteps.start_is_well_formed, StepWrites.same_id, ObjectWriteFrames.given_of_object, ObjectWriteFrames.holds_on}
use Rattle.hd_model.proofs.Effects.{Effect, collects, replies_address, effect}

-- ranges that do not meet are one after the other
apart_from : (a b c d : ℕ) → (a < d → c < b → ⊥) → (b ≤ c) ⊎ (d ≤ a)
apart_from a b c d not =
    ⊎_elim (λ low. ⊎_elim (λ high. absurd (not low high)) (λ le. inl le) (cases_lt c b)) (λ le. inr le)
    (cases_lt a d)

-- what an option has, and the default for none
held : {A : Type 0} (o : Option A) (x d : A) → o ≡ Some x → unwrap_or o d ≡ x
held o x d is = ap (λ y. unwrap_or y d) is

module _ (n : Numbers) (s : State) (w : IsWellFormed n s) (e : Entry) where
  -- an object of both states has as many fields
  fields_alike : (c : Cmd) (t : State) → Effect n s e c t → (id : Id) (x y : Object Id)
      → get s.objects id.0 ≡ Some x → get t.objects id.0 ≡ Some y → length y.fields ≡ length x.fields
  fields_alike c t does id x y old new =
      let P : Object Id → Type 0 = λ z. length z.fields ≡ length x.fields in
      (holds_on n s w e id P c t does (record {
        field = λ o i v z is h. length-set z.fields i (register_of s e.caller v) ∙ h;
        value = λ z v h. h;
        off = λ o z is named done h. h;
        on = λ o z is named done h. h;
        collected = λ k did z is there h. h;
      }) (record {
        given = given_of_object n s id x w old;
        each = λ z is. ap (λ (a : Object Id). length a.fields) (same_Some z x (sym is ∙ old));
      })).each y new

  -- the object of a pinned address
  placed : (id : Id) (p : ℕ) → get s.pinned id.0 ≡ Some p → get s.objects id.0 ≡ Some (object_by_id s id)
  placed id p is = by (get s.objects id.0) _ (w.names.pinned id.0 (ap is_some is))
    where
      by : {A : Type 0} (x : Option A) (d : A) → IsSome x → x ≡ Some (unwrap_or x d)
      by None d h = absurd (true≢false (sym h))
      by (Some x) d h = refl

  -- a pinned address of the state after was one before, and its object took the same cells
  before : (c : Cmd) (t : State) → Effect n s e c t → (id : Id) (a b : ℕ) → TakesCells t id a b
      → get s.pinned id.0 ≡ Some a → TakesCells s id a b
  before c t does id a b takes is = record {
    object = object_by_id s id;
    is_stored = placed id a is;
    address = is;
    end_is = takes.end_is ∙ ap (λ k. a + (k + 3))
        (fields_alike c t does id (object_by_id s id) takes.object (placed id a is) takes.is_stored);
  }

  -- an object that gets a pinned address now is apart from those that have one
  fresh_apart : (id other : Id) (p a b c d : ℕ) → get s.pinned id.0 ≡ None → MayReturn s id p
      → TakesCells (with_address s id p) id a b → p ≡ a → TakesCells s other c d → (b ≤ c) ⊎ (d ≤ a)
  fresh_apart id other p a b c d none may takes same has =
      let free : IsFreeAddress s id p =
      subst (λ o. MatchOption o (IsFreeAddress s id p) (λ own. p ≡ own)) none may in
      let mine : object_by_id s id ≡ takes.object =
      held (get s.objects id.0) takes.object _ takes.is_stored in
      let other's : object_by_id s other ≡ has.object = held
      (get s.objects other.0) has.object _ has.is_stored in
      let first_end : p + (length (object_by_id s id).fields + 3) ≡ b =
      (λ i. same i + (length (mine i).fields + 3)) ∙ sym takes.end_is in
      let other_end : c + (length (object_by_id s other).fields + 3) ≡ d =
      ap (λ (x : Object Id). c + (length x.fields + 3)) other's ∙ sym has.end_is in
      apart_from a b c d (λ low high. free.apart other c has.address (record {
        left = subst (λ k. p < k) (sym other_end) (subst (λ k. k < d) (sym same) low);
        right = subst (λ k. c < k) (sym first_end) high;
      }))

  -- an address that was returned
  returned : (id : Id) (p : ℕ) → MayReturn s id p → HasPinnedApart s → p < 2 ^ 32
  returned id p may old = by (get s.pinned id.0) refl
    where
      by : (o : Option ℕ) → get s.pinned id.0 ≡ o → p < 2 ^ 32
      by None none = (subst (λ o. MatchOption o (IsFreeAddress s id p) (λ own. p ≡ own)) none may).small
      by (Some own) some =
          let same : p ≡ own = subst (λ o. MatchOption o (IsFreeAddress s id p) (λ own. p ≡ own)) some may in
          subst (λ k. k < 2 ^ 32) (sym same) (old.small id own _ (record {
            object = object_by_id s id;
            is_stored = placed id own some;
            address = some;
            end_is = refl;
          }))

  -- a pinned address after `addr`: that of the object is the returned one
  data Was (id : Id) (p : ℕ) (x : Id) (a : ℕ) : Type 0 where
    was_stored : get s.pinned x.0 ≡ Some a → Was id p x a
    came : x ≡ id → p ≡ a → get s.pinned id.0 ≡ None → Was id p x a

  was : (id : Id) (p : ℕ) → MayReturn s id p → (x : Id) (a : ℕ) → get (insert s.pinned id.0 p) x.0 ≡ Some a
      → Was id p x a
  was id p may x a =
      write_cases s.pinned id.0 (λ o. o ≡ Some a → Was id p x a) p x.0
      (λ same is. by (same_id x id same) (same_Some p a is) (get s.pinned id.0) refl) (λ is. was_stored is)
    where
      by : x ≡ id → p ≡ a → (o : Option ℕ) → get s.pinned id.0 ≡ o → Was id p x a
      by same number None none = came same number none
      by same number (Some own) some =
          let here : p ≡ own = subst (λ o. MatchOption o (IsFreeAddress s id p) (λ own. p ≡ own)) some may in
          was_stored (ap (λ (y : Id). get s.pinned y.0) same ∙ some ∙ ap Some (sym here ∙ number))

  -- the same, where no pinned address is new
  all_stood : (c : Cmd) (t : State) → Effect n s e c t
      → ((x : Id) (a : ℕ) → get t.pinned x.0 ≡ Some a → get s.pinned x.0 ≡ Some a) → HasPinnedApart s
      → HasPinnedApart t
  all_stood c t does back old = record {
    small = λ x a b takes. old.small x a b (before c t does x a b takes (back x a takes.address));
    apart = λ x y a b p q takes other ne. old.apart x y a b p q (before c t does x a b takes
        (back x a takes.address))
        (before c t does y p q other (back y p other.address)) ne;
  }

  swap : {A B : Type 0} → A ⊎ B → B ⊎ A
  swap h = ⊎_elim (λ a. inr a) (λ b. inl b) h

  one_came : (c : Cmd) (id : Id) (p : ℕ) → Effect n s e c (with_address s id p) → MayReturn s id p
      → HasPinnedApart s → HasPinnedApart (with_address s id p)
  one_came c id p does may old = record {
    small = λ x a b takes. few x a (was id p may x a takes.address) b takes;
    apart = λ x y a b f g takes other ne. pair x y a b f g takes other ne (was id p may x a takes.address)
        (was id p may y f other.address);
  }
    where
      few : (x : Id) (a : ℕ) → Was id p x a → (b : ℕ) → TakesCells (with_address s id p) x a b → a < 2 ^ 32
      few x a (was_stored is) b takes = old.small x a b (before c (with_address s id p) does x a b takes is)
      few x a (came same number none) b takes = subst (λ k. k < 2 ^ 32) number (returned id p may old)

      new : (x : Id) (a b : ℕ) → x ≡ id → TakesCells (with_address s id p) x a b
          → TakesCells (with_address s id p) id a b
      new x a b same takes = subst (λ y. TakesCells (with_address s id p) y a b) same takes

      pair : (x y : Id) (a b f g : ℕ) → TakesCells (with_address s id p) x a b
          → TakesCells (with_address s id p) y f g → x ≢ y → Was id p x a → Was id p y f → (b ≤ f) ⊎ (g ≤ a)
      pair x y a b f g takes other ne (was_stored is) (was_stored are) =
          old.apart x y a b f g (before c (with_address s id p) does x a b takes is)
          (before c (with_address s id p) does y f g other are) ne
      pair x y a b f g takes other ne (came same number none) (was_stored are) =
          fresh_apart id y p a b f g none may (new x a b same takes) number
          (before c (with_address s id p) does y f g other are)
      pair x y a b f g takes other ne (was_stored is) (came same number none) =
          swap (fresh_apart id x p f g a b none may (new y f g same other) number
          (before c (with_address s id p) does x a b takes is))
      pair x y a b f g takes other ne (came same number none) (came again _ _) = absurd (ne (same
          ∙ sym again))

  kept_address : (b : Bool) (o : Option ℕ) (a : ℕ) → cond b o None ≡ Some a → o ≡ Some a
  kept_address true o a is = is
  kept_address false o a is = absurd (none-some a is)

  effect_apart : (c : Cmd) (t : State) → Effect n s e c t → HasPinnedApart s → HasPinnedApart t
  effect_apart c t (replies_address slot handle id p f target may r) old =
      one_came c id p (replies_address slot handle id p f target may r) may old
  effect_apart c t (collects did) old =
      all_stood c t (collects did)
      (λ x a is. kept_address (is_pinned s.handles x.0) _ a (sym (did.collects.pinned x.0) ∙ is)) old
  effect_apart c t does old = all_stood c t does (λ x a is. subst (λ
      (m : FinMap nat_cmp ℕ). get m x.0 ≡ Some a) refl is) old

pub pinned_objects_do_not_overlap : PinnedObjectsDoNotOverlap
pinned_objects_do_not_overlap n journal s run =
    (chain_keeps (λ x. IsWellFormed n x × HasPinnedApart x)
    (λ x e y step w. (
      step_keeps n x y e w.0 step,
      effect_apart n x w.0 e e.cmd y (effect n x e y step) w.1,
    )) run (
      start_is_well_formed n,
      record {
        small = λ x a b takes. absurd (none-some a (sym (get-empty nat_cmp x.0) ∙ takes.address));
        apart = λ x y a b p q takes. absurd (none-some a (sym (get-empty nat_cmp x.0) ∙ takes.address));
      },
    )).1
