-- The levels of an object are what the machine marks of them: the least anchor of a level begins a shortest
-- chain where no level before has an anchor.
use Rattle.hd_model.proofs.Basics.{Bool, Contains, Decides, IsSome, List, None, Object, Option, Some, State, ap, arith, cases_eq, cases_lt, cond, cond-true, entries, false, false≢true, get, inl, inr, is_some, keys, list_any, map, none-some, refl, same_Some, scene_of, subst, suc, sym, true, zero-le, ℕ, ⊎_elim, ◌+◌, ◌∙◌, ◌≡◌, ◌⊎◌}
use Rattle.std.specs.Borrow.{Bor}
use Rattle.hd_model.proofs.MapEntries.{entry_of, get_entry, value_found, value_of}
use Rattle.hd_model.proofs.Members.{mapped_from, mapped_in, not_in_none}
use Rattle.hd_model.proofs.Reachability.{decides_any}
use Rattle.hd_model.proofs.WeakSlots.{handle_row}
use Rattle.hd_model.specs.Anchors.{AnchorOf, EdgeOf, IsShortest, LeadsIn, by_handle, in_queue, in_static}
use Rattle.hd_model.specs.Collect.{is_attaching}
use Rattle.hd_model.specs.Handles.{handle_of}
use Rattle.hd_model.specs.Reach.{IsAttached, IsHeld}
use Rattle.hd_model.specs.Role.{role}
use Rattle.hd_model.specs.Scene.{fields_in}
use Rattle.hd_model.specs.State.{Handle, row_of, secondary_of}
use Rattle.hd_model.specs.declared.data.Id.{Id}
use Rattle.hd_maps.proofs.ListBuilds.{keys_listed}
use Rattle.hd_maps.specs.LentValues.{lent_entry}
use Rattle.hd_maps.specs.NextKeys.{IsLeastFrom}
use Rattle.hd_maps.specs.TableViews.{Row}
use Rattle.hd_plain.proofs.AnchorGains.{held_from_parts, is_held, never_weak}
use Rattle.hd_plain.proofs.AttachedLists.{IsPairOf, attaching_is, attaching_row, row_attaching, row_by_entry, row_is}
use Rattle.hd_plain.proofs.MarkedSets.{IsAmong, gains_like, gains_mark, gains_targets, gains_then}
use Rattle.hd_plain.proofs.RootMarks.{nothing_marked, target_from}
use Rattle.hd_plain.specs.Collecting.{id_of}
use Rattle.hd_plain.specs.Inside.{Gains, attaching_at, held_by, is_marked, no_marks, referenced, with_mark, with_targets}
use Rattle.hd_plain.specs.Levels.{AreHandles, AreObjects, IsFirst, IsFirstAnchor, IsLevel, LeadsTo, NoneNearer, among, attacher, attacher_at, attacher_in, held_among, holder, holder_in, is_in}
use Rattle.hd_plain.specs.Marked.{Marked}

-- ---- what is referenced of a set

abbrev InSet : (Id → Bool) → Option Id → Type 0
InSet p o = (y : Id) × ((o ≡ Some y) × (p y ≡ true))

in_set : (p : Id → Bool) (o : Option Id) → Decides (is_in p o) (InSet p o)
in_set p None = (λ h. absurd (false≢true h), λ h. absurd (none-some h.0 h.1.0))
in_set p (Some x) = (λ h. (x, (refl, h)), λ h. ap p (same_Some x h.0 h.1.0) ∙ h.1.1)

from_among : (p : Id → Bool) (o : Option Id) (x : Id) → among p o ≡ Some x → (o ≡ Some x) × (p x ≡ true)
from_among p o x e =
    let both = target_from (is_in p o) o x e in (both.1, sym (ap (is_in p) both.1) ∙ both.0)

to_among : (p : Id → Bool) (o : Option Id) (x : Id) → o ≡ Some x → p x ≡ true → among p o ≡ Some x
to_among p o x e passes = cond-true (is_in p o) o None (ap (is_in p) e ∙ passes) ∙ e

-- of a list of things that reference, what is referenced of the set
module _ {B : Type 0} (p : Id → Bool) (part : B → Option Id) (xs : List B) (x : Id) where
  abbrev those : List (Option Id)
  those = map (λ (b : B). among p (part b)) xs

  kept_from : Contains those (Some x) → (p x ≡ true) × ((b : B) × (Contains xs b × (part b ≡ Some x)))
  kept_from c =
      let (b, rest) = mapped_from (λ (z : B). among p (part z)) xs (Some x) c in
      let both = from_among p (part b) x rest.1 in (both.1, (b, (rest.0, both.0)))

  kept_to : (b : B) → Contains xs b → part b ≡ Some x → p x ≡ true → Contains those (Some x)
  kept_to b c e passes =
      subst (λ o. Contains those o) (to_among p (part b) x e passes)
      (mapped_in (λ (z : B). among p (part z)) xs b c)

-- what is marked where nothing was is what is gained
gained : (K : Id → Type 0) {m n : Marked} → m ≡ no_marks → Gains (λ y. K (id_of y)) m n → (x : Id)
    → Decides (is_marked n x) (K x)
gained K none g x = (
  λ h. ⊎_elim (λ was. absurd (nothing_marked x (subst (λ z. is_marked z x ≡ true) none was))) (λ k. k)
      (g.only x h),
  λ k. g.joins x.0 k,
)

-- ---- the handles of a state as a list

module _ (s : State) (rows : List Row) (are : AreHandles s rows) where
  pub row_stored : (h : Row) → Contains rows h → (slot : ℕ) × (get s.handles slot ≡ Some (handle_of h))
  row_stored h c =
      value_found s.handles (handle_of h)
      (subst (λ hs. Contains hs (handle_of h)) are (mapped_in handle_of rows h c))

  stored_row : (slot : ℕ) (g : Handle Id) → get s.handles slot ≡ Some g → (h : Row) ×
      (Contains rows h × (handle_of h ≡ g))
  stored_row slot g e =
      mapped_from handle_of rows g (subst (λ hs. Contains hs g) (sym are) (value_of s.handles slot g e))

  -- ---- the anchors of a set

  module _ (p : Id → Bool) where
    abbrev IsAnchorIn : Id → Type 0
    IsAnchorIn x = AnchorOf s x × (p x ≡ true)

    abbrev of_row : Row → Option Id
    of_row h = held_by (Some (handle_of h))

    abbrev Statics : ℕ → Type 0
    Statics = IsAmong (map (among p) s.statics)

    abbrev Queued : ℕ → Type 0
    Queued = IsAmong (map (among p) (referenced s.queue))

    abbrev Held : ℕ → Type 0
    Held = IsAmong (map (held_among p) rows)

    anchor_from : (y : ℕ) → (Statics y ⊎ Queued y) ⊎ Held y → IsAnchorIn (id_of y)
    anchor_from y (inl (inl c)) =
        let (passes, rest) = kept_from p (λ (o : Option Id). o) s.statics (id_of y) c in
        (in_static (subst (λ o. Contains s.statics o) rest.1.1 rest.1.0), passes)
    anchor_from y (inl (inr c)) =
        let (passes, rest) = kept_from p (λ (o : Option Id). o) (referenced s.queue) (id_of y) c in
        let (z, is) = mapped_from (λ (x : Id). Some x) s.queue (Some (id_of y))
        (subst (λ o. Contains (referenced s.queue) o) rest.1.1 rest.1.0) in
        (in_queue (subst (λ x. Contains s.queue x) (same_Some z (id_of y) is.1) is.0), passes)
    anchor_from y (inr c) =
        let (passes, rest) = kept_from p of_row rows (id_of y) c in
        let (slot, at) = row_stored rest.0 rest.1.0 in
        (by_handle (is_held s slot (id_of y) (ap held_by at ∙ rest.1.1)), passes)

    held_to : (x : Id) → IsHeld (scene_of s).handle x → p x ≡ true → Held x.0
    held_to x h passes =
        ⊎_elim
        (λ e. let (row, rest) = stored_row h.slot h.handle e in
        kept_to p of_row rows x row rest.0
        (ap (λ (g : Handle Id). held_by (Some g)) rest.1
        ∙ held_from_parts h.handle x h.holds h.target) passes)
        (λ e. absurd (never_weak (get s.weak h.slot) h.handle e h.holds))
        (row_is s h.slot h.handle h.is_stored)

    anchor_to : (x : Id) → AnchorOf s x → p x ≡ true → (Statics x.0 ⊎ Queued x.0) ⊎ Held x.0
    anchor_to x (in_static c) passes =
        inl (inl (kept_to p (λ (o : Option Id). o) s.statics x (Some x) c refl passes))
    anchor_to x (in_queue c) passes =
        inl (inr (kept_to p (λ (o : Option Id). o) (referenced s.queue) x (Some x)
        (mapped_in (λ (z : Id). Some z) s.queue x c) refl passes))
    anchor_to x (by_handle h) passes = inr (held_to x h passes)

    module _ (m a b c : Marked) (none : m ≡ no_marks) (first : a ≡ with_targets m (map (among p) s.statics))
        (second : b ≡ with_targets a (map (among p) (referenced s.queue)))
        (third : c ≡ with_targets b (map (held_among p) rows)) where
      anchors_gained : Gains (λ y. IsAnchorIn (id_of y)) m c
      anchors_gained =
          gains_like (λ y. (Statics y ⊎ Queued y) ⊎ Held y) (λ y. IsAnchorIn (id_of y)) m c anchor_from
          (λ y h. anchor_to (id_of y) h.0 h.1)
          (gains_then (λ y. Statics y ⊎ Queued y) Held m b c
          (gains_then Statics Queued m a b
          (subst (λ z. Gains Statics m z) (sym first) (gains_targets m (map (among p) s.statics)))
          (subst (λ z. Gains Queued a z) (sym second) (gains_targets a (map (among p) (referenced s.queue)))))
          (subst (λ z. Gains Held b z) (sym third) (gains_targets b (map (held_among p) rows))))

      anchor_marked : (x : Id) → Decides (is_marked c x) (IsAnchorIn x)
      anchor_marked = gained IsAnchorIn none anchors_gained

      unmarked : (x : Id) → AnchorOf s x → p x ≡ true → get c.marked x.0 ≡ None → ⊥
      unmarked x anchor passes lacks =
          false≢true (sym (ap is_some lacks) ∙ (anchor_marked x).1 (anchor, passes))

      -- the least that is marked is the first
      pub first_found : (found : Option ℕ) → IsLeastFrom c.marked 0 found → IsFirst s p found
      first_found None least = λ x anchor passes. unmarked x anchor passes (least x.0 zero-le)
      first_found (Some k) least =
          let is = (anchor_marked (id_of k)).0 least.has in
          record {
            anchor = is.0;
            inside = is.1;
            least = λ x anchor passes.
                ⊎_elim (λ below. absurd (unmarked x anchor passes (least.none x.0 zero-le below)))
                (λ above. above) (cases_lt x.0 k);
          }

-- ---- what leads to a set by a handle or an entry

-- a handle attaches one of a set to an object
abbrev Attaches : (Id → Bool) → Option (Handle Id) → Id → Type 0
Attaches p o x = (h : Handle Id) × ((o ≡ Some h) × ((y : Id) × ((p y ≡ true) × IsPairOf h x y)))

attacher_from : (p : Id → Bool) (o : Option (Handle Id)) (x : Id) → attacher p o ≡ Some x → Attaches p o x
attacher_from p None x e = absurd (none-some x e)
attacher_from p (Some h) x e =
    let outer =
    target_from (is_attaching (role h)) (cond (is_in p (secondary_of h.extra)) h.target None) x e in
    let inner = target_from (is_in p (secondary_of h.extra)) h.target x outer.1 in
    let (y, is) = (in_set p (secondary_of h.extra)).0 inner.0 in (
      h,
      (
        refl,
        (
          y,
          (
            is.1,
            record { attaches = attaching_is (role h) outer.0; target = inner.1; secondary = is.0 },
          ),
        ),
      ),
    )

attacher_to : (p : Id → Bool) (h : Handle Id) (x y : Id) → p y ≡ true → IsPairOf h x y
    → attacher p (Some h) ≡ Some x
attacher_to p h x y passes is =
    cond-true (is_attaching (role h)) (cond (is_in p (secondary_of h.extra)) h.target None) None
    (ap is_attaching is.attaches)
    ∙ cond-true (is_in p (secondary_of h.extra)) h.target None (ap (is_in p) is.secondary ∙ passes)
    ∙ is.target

attached : (s : State) (slot : ℕ) (h : Handle Id) (x y : Id) → row_of s slot ≡ Some h → IsPairOf h x y
    → IsAttached (scene_of s).handle x y
attached s slot h x y stored is = record {
  slot = slot;
  handle = h;
  is_stored = stored;
  attaches = is.attaches;
  target = is.target;
  secondary = is.secondary;
}

module _ (s : State) (rows : List Row) (are : AreHandles s rows) (p : Id → Bool)
    (objects : List (ℕ × Bor (Object Id))) (objects_are : AreObjects s objects) (slots : List ℕ)
    (slots_are : slots ≡ keys s.weak) (apart : (k : ℕ) → IsSome (get s.weak k) → get s.handles k ≡ None) where
  abbrev Holders : ℕ → Type 0
  Holders = IsAmong (map (holder_in p) objects)

  abbrev Targets : ℕ → Type 0
  Targets = IsAmong (map (attacher_in p) rows)

  abbrev Keys : ℕ → Type 0
  Keys = IsAmong (map (attacher_at p s.weak) slots)

  holder_from : (e : ℕ × Object Id) (x : Id) → Contains (entries s.objects) e → holder p e ≡ Some x
      → LeadsTo s p x
  holder_from e x stored is =
      let both = target_from (list_any (is_in p) e.1.fields) (Some (id_of e.0)) x is in
      let (o, found) = (decides_any (InSet p) (is_in p) (in_set p) e.1.fields).0 both.0 in
      let (y, its) = found.1 in
      let field : Contains (fields_in (get s.objects e.0)) (Some y) =
      subst (λ q. Contains (fields_in q) (Some y)) (sym (get_entry s.objects e.0 e.1 stored))
      (subst (λ q. Contains e.1.fields q) its.0 found.0) in
      subst (λ z. LeadsTo s p z) (same_Some (id_of e.0) x both.1) (y, (its.1, inl field))

  leads_from : (y : ℕ) → (Holders y ⊎ Targets y) ⊎ Keys y → LeadsTo s p (id_of y)
  leads_from y (inl (inl c)) =
      let (e, rest) = mapped_from (holder_in p) objects (Some (id_of y)) c in
      holder_from (lent_entry e) (id_of y)
      (subst (λ es. Contains es (lent_entry e)) objects_are (mapped_in lent_entry objects e rest.0)) rest.1
  leads_from y (inl (inr c)) =
      let (row, rest) = mapped_from (attacher_in p) rows (Some (id_of y)) c in
      let (h, has) = attacher_from p (Some (handle_of row)) (id_of y) rest.1 in
      let (z, is) = has.1 in
      let (slot, at) = row_stored s rows are row rest.0 in
      (z, (is.0, inr (attached s slot h (id_of y) z (handle_row s slot h (at ∙ has.0)) is.1)))
  leads_from y (inr c) =
      let (slot, rest) = mapped_from (attacher_at p s.weak) slots (Some (id_of y)) c in
      let (h, has) = attacher_from p (attaching_at s.weak slot) (id_of y) rest.1 in
      let (z, is) = has.1 in
      let there = (keys_listed s.weak slots slots_are).each slot rest.0 in (
        z,
        (
          is.0,
          inr (attached s slot h (id_of y) z
              (row_by_entry s slot h (apart slot there) (attaching_row (get s.weak slot) h has.0)) is.1),
        ),
      )

  attached_to : (x y : Id) → p y ≡ true → IsAttached (scene_of s).handle x y → Targets x.0 ⊎ Keys x.0
  attached_to x y passes t =
      let pair : IsPairOf t.handle x y =
      record { attaches = t.attaches; target = t.target; secondary = t.secondary } in
      ⊎_elim
      (λ e. let (row, rest) = stored_row s rows are t.slot t.handle e in
      inl (subst (λ o. Contains (map (attacher_in p) rows) o)
      (ap (λ (g : Handle Id). attacher p (Some g)) rest.1 ∙ attacher_to p t.handle x y passes pair)
      (mapped_in (attacher_in p) rows row rest.0)))
      (λ e. let row = row_attaching (get s.weak t.slot) t.handle x e t.target in
      inr (subst (λ o. Contains (map (attacher_at p s.weak) slots) o)
      (ap (attacher p) row.0 ∙ attacher_to p t.handle x y passes pair)
      (mapped_in (attacher_at p s.weak) slots t.slot
      ((keys_listed s.weak slots slots_are).all t.slot row.1))))
      (row_is s t.slot t.handle t.is_stored)

  holder_to : (x y : Id) → p y ≡ true → (o : Option (Object Id)) → get s.objects x.0 ≡ o
      → Contains (fields_in o) (Some y) → Holders x.0
  holder_to x y passes None at f = absurd (not_in_none (Some y) f)
  holder_to x y passes (Some o) at f =
      let (e, rest) = mapped_from lent_entry objects (x.0, o)
      (subst (λ es. Contains es (x.0, o)) (sym objects_are) (entry_of s.objects x.0 o at)) in
      let any = (decides_any (InSet p) (is_in p) (in_set p) o.fields).1 (Some y, (f, (y, (refl, passes)))) in
      subst (λ z. Contains (map (holder_in p) objects) z)
      (ap (holder p) rest.1 ∙ cond-true (list_any (is_in p) o.fields) (Some x) None any)
      (mapped_in (holder_in p) objects e rest.0)

  leads_to : (x : Id) → LeadsTo s p x → (Holders x.0 ⊎ Targets x.0) ⊎ Keys x.0
  leads_to x h =
      let (y, rest) = h in
      ⊎_elim (λ f. inl (inl (holder_to x y rest.0 (get s.objects x.0) refl f)))
      (λ t. ⊎_elim (λ handle. inl (inr handle)) (λ entry. inr entry) (attached_to x y rest.0 t)) rest.1

  pub leads_found : (m a b c : Marked) → m ≡ no_marks
      → a ≡ with_targets m (map (holder_in p) objects)
      → b ≡ with_targets a (map (attacher_in p) rows)
      → c ≡ with_targets b (map (attacher_at p s.weak) slots)
      → (x : Id) → Decides (is_marked c x) (LeadsTo s p x)
  leads_found m a b c none first second third =
      gained (λ x. LeadsTo s p x) none
      (gains_like (λ y. (Holders y ⊎ Targets y) ⊎ Keys y) (λ y. LeadsTo s p (id_of y)) m c leads_from
      (λ y h. leads_to (id_of y) h)
      (gains_then (λ y. Holders y ⊎ Targets y) Keys m b c
      (gains_then Holders Targets m a b
      (subst (λ z. Gains Holders m z) (sym first) (gains_targets m (map (holder_in p) objects)))
      (subst (λ z. Gains Targets a z) (sym second) (gains_targets a (map (attacher_in p) rows))))
      (subst (λ z. Gains Keys b z) (sym third) (gains_targets b (map (attacher_at p s.weak) slots)))))

-- ---- levels

-- a chain from its first edge on
module _ (E : Id → Id → Type 0) where
  edge_before : {k : ℕ} {x y z : Id} → E x y → LeadsIn E k y z → LeadsIn E (suc k) x z
  edge_before e LeadsIn.start = LeadsIn.step LeadsIn.start e
  edge_before e (LeadsIn.step chain last) = LeadsIn.step (edge_before e chain) last

  after_edge : {k : ℕ} {x z : Id} → LeadsIn E (suc k) x z → (y : Id) × (E x y × LeadsIn E k y z)
  after_edge (LeadsIn.step {z = z} LeadsIn.start e) = (z, (e, LeadsIn.start))
  after_edge (LeadsIn.step (LeadsIn.step chain f) e) =
      let (y, rest) = after_edge (LeadsIn.step chain f) in (y, (rest.0, LeadsIn.step rest.1 e))

  no_edge : {x y : Id} → LeadsIn E 0 x y → x ≡ y
  no_edge LeadsIn.start = refl

module _ (s : State) (goal : Id) where
  pub level_first : (m n : Marked) → m ≡ no_marks → n ≡ with_mark m goal.0
      → IsLevel s goal 0 n × NoneNearer s goal 0
  level_first m n none is =
      let g : Gains (λ y. y ≡ goal.0) m n =
      subst (λ z. Gains (λ y. y ≡ goal.0) m z) (sym is) (gains_mark m goal.0) in (
        λ x. let its = gained (λ (z : Id). z.0 ≡ goal.0) none g x in (
          λ h. subst (λ z. LeadsIn (EdgeOf s) 0 x z) (λ i. id_of (its.0 h i)) LeadsIn.start,
          λ chain. its.1 (ap (λ (z : Id). z.0) (no_edge (EdgeOf s) chain)),
        ),
        λ x k anchor chain. zero-le,
      )

  module _ (edges : ℕ) (m : Marked) (level : IsLevel s goal edges m) where
    pub level_next : (n : Marked) → ((x : Id) → Decides (is_marked n x) (LeadsTo s (is_marked m) x))
        → IsLevel s goal (edges + 1) n
    level_next n leads = λ x. (
      λ h. let (y, rest) = (leads x).0 h in
          let longer : LeadsIn (EdgeOf s) (suc edges) x goal =
          edge_before (EdgeOf s) rest.1 ((level y).0 rest.0) in
          subst (λ k. LeadsIn (EdgeOf s) k x goal) (omega arith) longer,
      λ chain. let longer : LeadsIn (EdgeOf s) (suc edges) x goal =
          subst (λ k. LeadsIn (EdgeOf s) k x goal) (omega arith) chain in
          let (y, rest) = after_edge (EdgeOf s) longer in (leads x).1 (y, ((level y).1 rest.1, rest.0)),
    )

    module _ (nearer : NoneNearer s goal edges) where
      pub none_nearer : ((x : Id) → AnchorOf s x → is_marked m x ≡ true → ⊥) → NoneNearer s goal (edges + 1)
      none_nearer none = λ x k anchor chain.
          let low = nearer x k anchor chain in
          ⊎_elim
          (λ same. absurd (none x anchor
          ((level x).1 (subst (λ j. LeadsIn (EdgeOf s) j x goal) (sym same) chain))))
          (λ apart. omega (arith, low, apart)) (cases_eq edges k)

      pub level_shortest : (k : ℕ) → IsFirstAnchor s (is_marked m) k
          → IsShortest (EdgeOf s) (AnchorOf s) (λ (x : Id). x.0) goal (id_of k) edges
      level_shortest k first = record {
        anchor = first.anchor;
        chain = (level (id_of k)).0 first.inside;
        shortest = nearer;
        least = λ other anchor chain. first.least other anchor ((level other).1 chain);
      }
