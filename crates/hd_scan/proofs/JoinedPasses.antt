-- One pass after another, each over the handles that pass its test, is one over those that pass either.
use Rattle.hd_scan.proofs.Basics.{Addr, Bool, Counts, Handle, IsLostAt, IsPinTargetOf, IsTargetOf, IsYoungField, List, None, Objects, Option, PassView, Rows, Some, Table, Task, WholeClear, WholeRoots, ap, cases_Bool, cond, counts_join, counts_like, counts_none, false, get_or, grows_like, grows_on, inl, inr, is_lost, length, option_map, or_cases, or_left, or_right, refl, row_at, same_Some, subst, swept, sym, take, takes, takes_any, true, true≢false, ℕ, ⊎_elim, ◌&&◌, ◌+◌, ◌<◌, ◌||◌, ◌∙◌, ◌≡◌, ◌⊎◌}
use Rattle.std.proofs.lemmas.List.Sums.{fold_more}
use Rattle.hd_model.proofs.SceneCollection.{mapped_value}

same_either : {A : Type 0} (b : Bool) (x : A) → cond b x x ≡ x
same_either true x = refl
same_either false x = refl

module _ {N : Type 0} (p : N → Bool) where
  -- a target that is nulled under either of two tests
  target_twice : (a b c : Bool) (o : Option N) → is_lost p o ≡ c
      → cond (b && is_lost p (cond (a && is_lost p o) None o)) None (cond (a && is_lost p o) None o)
      ≡ cond ((a || b) && is_lost p o) None o
  target_twice true b true o e =
      ap (λ v. cond (b && is_lost p (cond v None o)) None (cond v None o)) e ∙ same_either _ None
      ∙ sym (ap (λ v. cond v None o) e)
  target_twice true true false o e =
      ap (λ v. cond (is_lost p (cond v None o)) None (cond v None o)) e
  target_twice true false false o e = refl
  target_twice false b c o e = refl

  -- what is lost under a test was lost before, and is not lost again
  lost_before : (a : Bool) (o : Option N) → is_lost p (cond (a && is_lost p o) None o) ≡ true
      → is_lost p o ≡ true
  lost_before a o e =
      ⊎_elim (λ lost. lost)
      (λ kept. sym (ap (λ v. is_lost p (cond v None o)) (ap (λ v. a && v) kept ∙ and_none a)) ∙ e)
      (cases_Bool (is_lost p o))
    where
      and_none : (b : Bool) → (b && false) ≡ false
      and_none true = refl
      and_none false = refl

  module _ (f g : Handle N → Bool) (r0 r1 r2 : Rows N) (over : (h : Handle N) → g (swept true f p h) ≡ g h)
      (first : (slot : ℕ) → r1 slot ≡ option_map (swept true f p) (r0 slot)) where
    abbrev Either : Handle N → Bool
    Either h = f h || g h

    swept_twice : (h : Handle N) → swept true g p (swept true f p h) ≡ swept true Either p h
    swept_twice h = λ i. record {
      kind = h.kind;
      target =
          (ap (λ b. cond (b && is_lost p (swept true f p h).target) None (swept true f p h).target) (over h)
          ∙ target_twice (f h) (g h) (is_lost p h.target) h.target refl) i;
      extra = h.extra;
    }

    row_twice : (o : Option (Handle N))
        → option_map (swept true g p) (option_map (swept true f p) o) ≡ option_map (swept true Either p) o
    row_twice None = refl
    row_twice (Some h) = ap (λ q. Some q) (swept_twice h)

    pub rows_twice : ((slot : ℕ) → r2 slot ≡ option_map (swept true g p) (r1 slot)) → (slot : ℕ)
        → r2 slot ≡ option_map (swept true Either p) (r0 slot)
    rows_twice then slot = then slot ∙ ap (option_map (swept true g p)) (first slot) ∙ row_twice (r0 slot)

    -- a slot is counted once
    after_first : (slot : ℕ) (h : Handle N) → r0 slot ≡ Some h → r1 slot ≡ Some (swept true f p h)
    after_first slot h is_stored = first slot ∙ ap (option_map (swept true f p)) is_stored

    lost_once : (slot : ℕ) → IsLostAt r0 f p slot → IsLostAt r1 g p slot → ⊥
    lost_once slot a b =
        let same : swept true f p a.handle ≡ b.handle =
        same_Some (swept true f p a.handle) b.handle
        (sym (after_first slot a.handle a.is_stored) ∙ b.is_stored) in
        let gone : (swept true f p a.handle).target ≡ None =
        (λ i. cond (a.passes i && is_lost p a.handle.target) None a.handle.target)
        ∙ ap (λ v. cond v None a.handle.target) a.lost in
        true≢false (sym b.lost ∙ ap (λ (h : Handle N). is_lost p h.target) (sym same)
        ∙ ap (is_lost p) gone)

    to_either : (slot : ℕ) → IsLostAt r0 f p slot ⊎ IsLostAt r1 g p slot → IsLostAt r0 Either p slot
    to_either slot =
        ⊎_elim
        (λ (a : IsLostAt r0 f p slot). record {
          handle = a.handle;
          is_stored = a.is_stored;
          passes = or_left (f a.handle) (g a.handle) a.passes;
          lost = a.lost;
        })
        (λ (b : IsLostAt r1 g p slot).
        let (h, both) = mapped_value (swept true f p) (r0 slot) b.handle (sym (first slot) ∙ b.is_stored) in
        record {
          handle = h;
          is_stored = both.0;
          passes = or_right (f h) (g h) (sym (over h) ∙ ap g both.1 ∙ b.passes);
          lost = lost_before (f h) h.target (ap (λ (k : Handle N). is_lost p k.target) both.1 ∙ b.lost);
        })

    from_either : (slot : ℕ) → IsLostAt r0 Either p slot → IsLostAt r0 f p slot ⊎ IsLostAt r1 g p slot
    from_either slot d =
        ⊎_elim
        (λ yes. inl (record { handle = d.handle; is_stored = d.is_stored; passes = yes; lost = d.lost }))
        (λ no. inr (record {
          handle = swept true f p d.handle;
          is_stored = after_first slot d.handle d.is_stored;
          passes =
              over d.handle ∙ ⊎_elim (λ yes. absurd (true≢false (sym yes ∙ no))) (λ other. other)
              (or_cases (f d.handle) (g d.handle) d.passes);
          lost = ap (λ v. is_lost p (cond (v && is_lost p d.handle.target) None d.handle.target)) no ∙ d.lost;
        }))
        (cases_Bool (f d.handle))

    pub lost_in_all : (a b : ℕ) → Counts (IsLostAt r0 f p) a → Counts (IsLostAt r1 g p) b
        → Counts (IsLostAt r0 Either p) (a + b)
    lost_in_all a b of_a of_b =
        counts_like (λ slot. IsLostAt r0 f p slot ⊎ IsLostAt r1 g p slot) (IsLostAt r0 Either p) (a + b)
        to_either from_either (counts_join (IsLostAt r0 f p) (IsLostAt r1 g p) a b lost_once of_a of_b)

-- a handle is taken by the first tasks of a list, and by the next
pub taken_more : {N : Type 0} (ts : List Task) (i : ℕ) (d : Task) → i < length ts
    → takes_any {N = N} (take (i + 1) ts) ≡ (λ h. takes_any (take i ts) h || takes (get_or ts i d) h)
taken_more ts i d l = λ j h. fold_more (λ (b : Bool) (t : Task). b || takes t h) false ts i d l j

-- a clearing that takes nothing
pub clears_none : (u : PassView) → WholeClear (λ h. false) u u.table 0
clears_none u = record {
  swept = λ slot. same_row (row_at u.table slot);
  count = counts_none (IsLostAt (row_at u.table) (λ h. false) u.promoted)
      (λ slot l. true≢false (sym l.passes));
}
  where
    same_row : (o : Option (Handle Addr)) → o ≡ option_map (swept true (λ h. false) u.promoted) o
    same_row None = refl
    same_row (Some h) = refl

-- two clearings, of which the second one goes by the same promoted objects
pub clears_twice : (f g : Handle Addr → Bool) (u v : PassView) (w : Table) (a b : ℕ) → v.promoted ≡ u.promoted
    → ((h : Handle Addr) → g (swept true f u.promoted h) ≡ g h) → WholeClear f u v.table a
    → WholeClear g v w b → WholeClear (λ h. f h || g h) u w (a + b)
clears_twice f g u v w a b same over first then =
    let second : WholeClear g (record v { promoted = u.promoted }) w b =
    subst (λ p. WholeClear g (record v { promoted = p }) w b) same then in
    record {
      swept =
          rows_twice u.promoted f g (row_at u.table) (row_at v.table) (row_at w) over first.swept
          second.swept;
      count =
          lost_in_all u.promoted f g (row_at u.table) (row_at v.table) (row_at w) over first.swept a b
          first.count second.count;
    }

-- the targets of handles that pass either of two tests
module _ {N : Type 0} (f g : Handle N → Bool) (rows : Rows N) where
  -- the handle of a target passes another test
  with_test : (j k : Handle N → Bool) (x : N) (s : IsTargetOf rows j x) → k s.handle ≡ true
      → IsTargetOf rows k x
  with_test j k x s e =
      record { slot = s.slot; handle = s.handle; is_stored = s.is_stored; passes = e; target = s.target }

  abbrev Any : Handle N → Bool
  Any h = f h || g h

  pub either_target : (x : N) → IsTargetOf rows f x ⊎ IsTargetOf rows g x
      → IsTargetOf rows (λ h. f h || g h) x
  either_target x =
      ⊎_elim (λ (a : IsTargetOf rows f x). with_test f Any x a (or_left (f a.handle) (g a.handle) a.passes))
      (λ (b : IsTargetOf rows g x). with_test g Any x b (or_right (f b.handle) (g b.handle) b.passes))

  pub target_either : (x : N) → IsTargetOf rows (λ h. f h || g h) x
      → IsTargetOf rows f x ⊎ IsTargetOf rows g x
  target_either x s =
      ⊎_elim (λ e. inl (with_test Any f x s e)) (λ e. inr (with_test Any g x s e))
      (or_cases (f s.handle) (g s.handle) s.passes)

  pub either_pin : (x : N) → IsPinTargetOf rows f x ⊎ IsPinTargetOf rows g x
      → IsPinTargetOf rows (λ h. f h || g h) x
  unfolding either_target with_test
  either_pin x =
      ⊎_elim (λ (a : IsPinTargetOf rows f x). record { of = either_target x (inl a.of); pins = a.pins })
      (λ (b : IsPinTargetOf rows g x). record { of = either_target x (inr b.of); pins = b.pins })

  pub pin_either : (x : N) → IsPinTargetOf rows (λ h. f h || g h) x
      → IsPinTargetOf rows f x ⊎ IsPinTargetOf rows g x
  unfolding with_test
  pin_either x s =
      ⊎_elim (λ e. inl (record { of = with_test Any f x s.of e; pins = s.pins }))
      (λ e. inr (record { of = with_test Any g x s.of e; pins = s.pins }))
      (or_cases (f s.of.handle) (g s.of.handle) s.of.passes)

-- two passes that promote from one table
pub roots_twice : (o : Objects Addr) (n : ℕ) (f g : Handle Addr → Bool) (u v w : PassView)
    → v.table ≡ u.table → WholeRoots o n f u v → WholeRoots o n g v w → WholeRoots o n (λ h. f h || g h) u w
roots_twice o n f g u v w same a then =
    let rows : Rows Addr = row_at u.table in
    let b : WholeRoots o n g (record v { table = u.table }) w =
    subst (λ t. WholeRoots o n g (record v { table = t }) w) same then in
    record {
      promotes =
          grows_like (IsYoungField o n) (λ x. IsTargetOf rows f x ⊎ IsTargetOf rows g x)
          (IsTargetOf rows (λ h. f h || g h)) u.promoted w.promoted (either_target f g rows)
          (target_either f g rows)
          (grows_on (IsYoungField o n) (IsTargetOf rows f) (IsTargetOf rows g) u.promoted v.promoted
          w.promoted a.promotes b.promotes);
      pins = λ x young. (
        λ e. ⊎_elim
            (λ earlier. ⊎_elim (λ first. inl first) (λ p. inr (either_pin f g rows x (inl p)))
            ((a.pins x young).0 earlier))
            (λ p. inr (either_pin f g rows x (inr p))) ((b.pins x young).0 e),
        ⊎_elim (λ first. (b.pins x young).1 (inl ((a.pins x young).1 (inl first))))
            (λ s. ⊎_elim (λ p. (b.pins x young).1 (inl ((a.pins x young).1 (inr p))))
            (λ p. (b.pins x young).1 (inr p)) (pin_either f g rows x s)),
      );
    }
