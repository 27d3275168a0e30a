-- A collection is one under other names of its objects: one by address is one by identity.
use Rattle.hd_model.proofs.Basics.{Bool, Collects, Contains, Counts, Decides, Decision, Extra, Handle, IsCondemned, IsKept, IsReached, IsReading, IsRemoved, IsSurviving, IsToBeFinalized, IsWhole, LosesAs, None, Object, Option, Report, Role, Scene, Some, ap, attaches, cleared, cond, cond-false, cond-true, false, false≢true, holds, is_attaching, is_lost, is_object, is_some, long, loses, loses_by, map, map-append, none-some, not, option_map, refl, rename_extra, rename_handle, role, secondary, short, subst, survivor, sym, true, true≢false, ℕ, ◌&&◌, ◌++◌, ◌<◌, ◌∙◌, ◌≡◌, ◌≤◌}
use Rattle.hd_model.proofs.Members.{mapped_in, mapped_from, pairs_mapped}
use Rattle.hd_model.proofs.{PropertyCounts.counts_like, PropertyCounts.counts_named, MapEntries.some_value, RenamedPins.role_renamed}
use Rattle.hd_model.proofs.SceneCollection.{object_before, object_after, kept_object}
use Rattle.hd_model.proofs.RenamedReach.{object_read, is_object_read, generation_read, handle_read, handle_unread, reached_read, reached_unread, resurrected_read, resurrected_unread, kept_read, kept_unread}

-- a set under other names: false where no object has the name
abbrev pub asked : {N : Type 0} → (N → Bool) → Option N → Bool
asked p None = false
asked p (Some x) = p x

module _ {N M : Type 0} (f : N → M) (back : M → Option N) where
  -- `back` finds the object with a name, if there is one
  pub record IsBack (s : Scene N) : Type 0 where
    pub finds : (x : N) → is_object s.object x ≡ true → back (f x) ≡ Some x
    pub found : (y : M) (x : N) → back y ≡ Some x → (is_object s.object x ≡ true) × (f x ≡ y)

module _ {N M : Type 0} (f : N → M) (back : M → Option N) (s : Scene N) (b : IsBack f back s) where
  -- a decided set of objects is decided under their names
  decided : (p : N → Bool) (P : N → Type 0) (Q : M → Type 0) → ((x : N) → Decides (p x) (P x))
      → ((x : N) → P x → Q (f x))
      → ((y : M) → Q y → (x : N) × ((is_object s.object x ≡ true) × (P x × (f x ≡ y)))) → (y : M)
      → Decides (asked p (back y)) (Q y)
  decided p P Q is to from y = (
    λ h. by (back y) refl h,
    λ q. let (x, rest) = from y q in
        ap (asked p) (sym (ap back rest.1.1) ∙ b.finds x rest.0) ∙ (is x).1 rest.1.0,
  )
    where
      by : (o : Option N) → back y ≡ o → asked p o ≡ true → Q y
      by None e h = absurd (false≢true h)
      by (Some x) e h = subst Q (b.found y x e).1 (to x ((is x).0 h))

  asked_at : (p : N → Bool) (x : N) → is_object s.object x ≡ true → asked p (back (f x)) ≡ p x
  asked_at p x h = ap (asked p) (b.finds x h)

  lost_asked : (p : N → Bool) (o : Option N) → ((x : N) → o ≡ Some x → is_object s.object x ≡ true)
      → is_lost (λ y. asked p (back y)) (option_map f o) ≡ is_lost p o
  lost_asked p None h = refl
  lost_asked p (Some x) h = ap not (asked_at p x (h x refl))

  loses_asked : (r : Role) (reach kept : N → Bool) (o : Option N)
      → ((x : N) → o ≡ Some x → is_object s.object x ≡ true)
      → loses_by r (λ y. asked reach (back y)) (λ y. asked kept (back y))
      (option_map f o) ≡ loses_by r reach kept o
  loses_asked holds reach kept o h = refl
  loses_asked short reach kept o h = lost_asked reach o h
  loses_asked long reach kept o h = lost_asked kept o h
  loses_asked attaches reach kept o h = lost_asked kept o h

cond_target : {N M : Type 0} (f : N → M) (b : Bool) (o : Option N)
    → option_map f (cond b None o) ≡ cond b None (option_map f o)
cond_target f true o = refl
cond_target f false o = refl

cond_extra : {N M : Type 0} (f : N → M) (b : Bool) (e : Extra N)
    → rename_extra f (cond b (secondary None) e) ≡ cond b (secondary None) (rename_extra f e)
cond_extra f true e = refl
cond_extra f false e = refl

module _ {N M : Type 0} (f : N → M) (back : M → Option N) (rank : M → ℕ) (n : ℕ) (s t : Scene N)
    (u v : Scene M) (r : Report) (w : IsWhole s) (c : Collects (λ x. rank (f x)) n s t r)
    (fs : IsReading f s u) (ft : IsReading f t v) (b : IsBack f back s) where
  -- what it decides, under the other names
  abbrev Under : Decision M
  Under = record {
    reach = λ y. asked c.reach (back y);
    resurrected = λ y. asked c.resurrected (back y);
    kept = λ y. asked c.kept (back y);
    joins = map f c.joins;
  }

  cleared_asked : (slot : ℕ) (h : Handle N) → s.handle slot ≡ Some h
      → rename_handle f (cleared c.reach c.kept h) ≡ cleared Under.reach Under.kept (rename_handle f h)
  cleared_asked slot h e =
      let objects : (x : N) → h.target ≡ Some x
      → is_object s.object x ≡ true = λ x at. w.targets slot h x e at in
      let same_role : role (rename_handle f h) ≡ role h = role_renamed f h.kind h.extra in
      let target : loses Under.reach Under.kept (rename_handle f h) ≡ loses c.reach c.kept h =
      ap (λ q. loses_by q Under.reach Under.kept (option_map f h.target)) same_role
      ∙ loses_asked f back s b (role h) c.reach c.kept h.target objects in
      let detached : (is_attaching (role (rename_handle f h)) && is_lost Under.kept
      (option_map f h.target))
      ≡ (is_attaching (role h) && is_lost c.kept h.target) =
      λ i. is_attaching (same_role i) && lost_asked f back s b c.kept h.target objects i in
      λ i. record {
        kind = h.kind;
        target = (cond_target f (loses c.reach c.kept h) h.target
            ∙ sym (ap (λ q. cond q None (option_map f h.target)) target)) i;
        extra = (cond_extra f (is_attaching (role h) && is_lost c.kept h.target) h.extra
            ∙ sym (ap (λ q. cond q (secondary None) (rename_extra f h.extra)) detached)) i;
      }

  -- an object after it, by name, was kept
  called_kept : (y : M) → is_object v.object y ≡ true → (x : N) × ((c.kept x ≡ true) × (f x ≡ y))
  called_kept y h =
      let (x, rest) = ft.only y h in
      let (o, e) = some_value (t.object x) rest.0 in
      (x, ((object_before (λ z. rank (f z)) n s t r w c x o e).0, rest.1))

  none_called : (y : M) → ((x : N) → c.kept x ≡ true → f x ≡ y → ⊥) → (o : Option (Object M)) → v.object y ≡ o
      → v.object y ≡ None
  none_called y never None e = e
  none_called y never (Some p) e = let (x, rest) = called_kept y (ap is_some e) in
      absurd (never x rest.0 rest.1)

  was_object : (x : N) → c.kept x ≡ true → is_object s.object x ≡ true
  was_object x h = kept_object n s w x ((c.kept_is x).0 h)

  abbrev Left : M → Option N → Type 0
  Left y o = v.object y ≡ cond (asked c.kept o)
      (option_map (survivor n (asked c.resurrected o)) (u.object y)) None

  object_by : (y : M) (o : Option N) → back y ≡ o → Left y o
  object_by y None e =
      none_called y (λ x kept same. none-some x (sym e ∙ sym (ap back same) ∙ b.finds x (was_object x kept)))
      (v.object y) refl
  object_by y (Some x) e = by (c.kept x) refl
    where
      at : (is_object s.object x ≡ true) × (f x ≡ y)
      at = b.found y x e

      by : (k : Bool) → c.kept x ≡ k
          → v.object y ≡ cond (c.kept x) (option_map (survivor n (c.resurrected x)) (u.object y)) None
      by true kept =
          let (p, is_stored) = some_value (s.object x) at.0 in
          let after = object_after (λ z. rank (f z)) n s t r w c x p kept is_stored in
          ap v.object (sym at.1) ∙ object_read f t v ft x (survivor n (c.resurrected x) p) after
          ∙ ap (option_map (survivor n (c.resurrected x)))
          (sym (object_read f s u fs x p is_stored) ∙ ap u.object at.1)
          ∙ sym (cond-true (c.kept x) (option_map (survivor n (c.resurrected x)) (u.object y)) None kept)
      by false lost =
          none_called y
          (λ z kept same. true≢false (sym kept
          ∙ ap c.kept (fs.apart z x (was_object z kept) at.0 (same ∙ sym at.1)) ∙ lost)) (v.object y) refl
          ∙ sym (cond-false (c.kept x) (option_map (survivor n (c.resurrected x)) (u.object y)) None lost)

  row_by : (slot : ℕ) (o : Option (Handle N)) → s.handle slot ≡ o
      → v.handle slot ≡ option_map (cleared Under.reach Under.kept) (u.handle slot)
  row_by slot None e =
      ft.handles slot ∙ ap (option_map (rename_handle f))
      (c.handles slot ∙ ap (option_map (cleared c.reach c.kept)) e)
      ∙ sym (ap (option_map (cleared Under.reach Under.kept))
      (fs.handles slot ∙ ap (option_map (rename_handle f)) e))
  row_by slot (Some h) e =
      ft.handles slot ∙ ap (option_map (rename_handle f))
      (c.handles slot ∙ ap (option_map (cleared c.reach c.kept)) e)
      ∙ ap (λ q. Some q) (cleared_asked slot h e)
      ∙ sym (ap (option_map (cleared Under.reach Under.kept))
      (fs.handles slot ∙ ap (option_map (rename_handle f)) e))

  -- a set that has a name has the object with it
  asked_from : (p : N → Bool) (y : M) → asked p (back y) ≡ true → (x : N)
      × ((is_object s.object x ≡ true) × ((p x ≡ true) × (f x ≡ y)))
  asked_from p y h = by (back y) refl h
    where
      by : (o : Option N) → back y ≡ o → asked p o ≡ true → (x : N)
          × ((is_object s.object x ≡ true) × ((p x ≡ true) × (f x ≡ y)))
      by None e k = absurd (false≢true k)
      by (Some x) e k = (x, ((b.found y x e).0, (k, (b.found y x e).1)))

  condemned_read : (x : N) → IsCondemned s.object n x → IsCondemned u.object n (f x)
  condemned_read x h = record {
    object = is_object_read f s u fs x h.object;
    young = subst (λ g. g ≤ n) (sym (generation_read f s u fs x h.object)) h.young;
  }

  condemned_unread : (x : N) → is_object s.object x ≡ true → IsCondemned u.object n (f x)
      → IsCondemned s.object n x
  condemned_unread x k h = record
      { object = k; young = subst (λ g. g ≤ n) (generation_read f s u fs x k) h.young }

  surviving_named : Counts (IsSurviving n u Under.kept) r.kept
  surviving_named =
      counts_named f (IsSurviving n s c.kept) (IsSurviving n u Under.kept) r.kept
      (λ x y h k. fs.apart x y h.condemned.object k.condemned.object)
      (λ x h. record {
        condemned = condemned_read x h.condemned;
        stays = asked_at f back s b c.kept x h.condemned.object ∙ h.stays;
      })
      (λ y h. let (x, rest) = asked_from c.kept y h.stays in (
        x,
        (
          record {
            condemned = condemned_unread x rest.0 (subst (IsCondemned u.object n) (sym rest.1.1) h.condemned);
            stays = rest.1.0;
          },
          rest.1.1,
        ),
      ))
      c.report_is.kept

  removed_named : Counts (IsRemoved u Under.kept) r.removed
  removed_named =
      counts_named f (IsRemoved s c.kept) (IsRemoved u Under.kept) r.removed
      (λ x y h k. fs.apart x y h.object k.object)
      (λ x h. record {
        object = is_object_read f s u fs x h.object;
        lost = asked_at f back s b c.kept x h.object ∙ h.lost;
      })
      (λ y h. let (x, rest) = fs.only y h.object in (
        x,
        (
          record {
            object = rest.0;
            lost = sym (asked_at f back s b c.kept x rest.0) ∙ ap Under.kept rest.1 ∙ h.lost;
          },
          rest.1,
        ),
      ))
      c.report_is.removed

  resurrected_object : (x : N) → c.resurrected x ≡ true → is_object s.object x ≡ true
  resurrected_object x h = ap is_some ((c.resurrected_is x).0 h).is_stored

  resurrected_named : Counts (λ y. Under.resurrected y ≡ true) r.revived
  resurrected_named =
      counts_named f (λ x. c.resurrected x ≡ true) (λ y. Under.resurrected y ≡ true) r.revived
      (λ x y h k. fs.apart x y (resurrected_object x h) (resurrected_object y k))
      (λ x h. asked_at f back s b c.resurrected x (resurrected_object x h) ∙ h)
      (λ y h. let (x, rest) = asked_from c.resurrected y h in (x, rest.1)) c.report_is.resurrected

  same_loss : (slot : ℕ) (h : Handle N) → s.handle slot ≡ Some h → loses Under.reach Under.kept
      (rename_handle f h) ≡ loses c.reach c.kept h
  same_loss slot h e =
      ap (λ q. loses_by q Under.reach Under.kept (option_map f h.target)) (role_renamed f h.kind h.extra)
      ∙ loses_asked f back s b (role h) c.reach c.kept h.target (λ x at. w.targets slot h x e at)

  losses_named : (wanted : Role) (k : ℕ) → Counts (LosesAs s c.reach c.kept wanted) k
      → Counts (LosesAs u Under.reach Under.kept wanted) k
  losses_named wanted k =
      counts_like (LosesAs s c.reach c.kept wanted) (LosesAs u Under.reach Under.kept wanted) k
      (λ slot l. record {
        handle = rename_handle f l.handle;
        is_stored = handle_read f s u fs slot l.handle l.is_stored;
        role_is = role_renamed f l.handle.kind l.handle.extra ∙ l.role_is;
        loses = same_loss slot l.handle l.is_stored ∙ l.loses;
      })
      (λ slot l. let (h, both) = handle_unread f s u fs slot l.handle l.is_stored in record {
        handle = h;
        is_stored = both.0;
        role_is = sym (role_renamed f h.kind h.extra) ∙ ap (λ (q : Handle M). role q) both.1 ∙ l.role_is;
        loses = sym (same_loss slot h both.0)
            ∙ ap (λ (q : Handle M). loses Under.reach Under.kept q) both.1
            ∙ l.loses;
      })

  -- so the scenes under other names are before and after a collection too, with the same report
  pub collects_read : Collects rank n u v r
  collects_read = record {
    decision = Under;
    goes_by = record {
      reach_is =
          decided f back s b c.reach (IsReached s n) (IsReached u n) c.reach_is (reached_read f n s u w fs)
          (reached_unread f n s u w fs);
      resurrected_is =
          decided f back s b c.resurrected (IsToBeFinalized s n) (IsToBeFinalized u n) c.resurrected_is
          (resurrected_read f n s u w fs) (resurrected_unread f n s u w fs);
      kept_is =
          decided f back s b c.kept (IsKept s n) (IsKept u n) c.kept_is (kept_read f n s u w fs)
          (kept_unread f n s u w fs);
      joins_are =
          decided f back s b c.resurrected (λ x. Contains c.joins x) (λ y. Contains Under.joins y)
          c.joins_are (λ x h. mapped_in f c.joins x h)
          (λ y h. let (x, rest) = mapped_from f c.joins y h in
          (x, (resurrected_object x ((c.joins_are x).1 rest.0), rest)));
      rising =
          pairs_mapped (λ x y. rank (f x) < rank (f y)) (λ p q. rank p < rank q) f c.joins
          (λ x y h. h) c.rising;
      report_is = record {
        kept = surviving_named;
        removed = removed_named;
        short = losses_named short r.short c.report_is.short;
        long = losses_named long r.long c.report_is.long;
        dep = losses_named attaches r.dep c.report_is.dep;
        resurrected = resurrected_named;
      };
    };
    objects = λ y. object_by y (back y) refl;
    handles = λ slot. row_by slot (s.handle slot) refl;
    named = ft.named ∙ ap (map (option_map f)) c.named ∙ sym fs.named;
    queue =
        ft.queue ∙ ap (map f) c.queue ∙ map-append f s.queue c.joins
        ∙ sym (ap (λ xs. xs ++ map f c.joins) fs.queue);
  }
