-- A snapshot as the state that it shows: its objects and its links.
use Rattle.std.proofs.Common.{Contains, IsSome, List, None, Option, Some, [], ap, false, is_some, map, refl, subst, sym, true, ℕ, ⊎_elim, ◌∙◌, ◌∷◌, ◌≡◌, ◌⊎◌, inl, inr}
use Rattle.std.specs.FinMap.{entries, entries_sorted, get}
use Rattle.std.specs.Option.{option_and_then}
use Rattle.std.specs.Prelude.{option_map}
use Rattle.std.proofs.lemmas.Bool.{false≢true}
use Rattle.std.proofs.lemmas.List.Elements.{Contains-append_cases, Contains-append_left, Contains-append_right}
use Rattle.std.proofs.lemmas.Option.{none-some}
use Rattle.hd_model.proofs.MapEntries.{entry_of, get_entry, keys_rise}
use Rattle.hd_model.proofs.Members.{mapped_from, mapped_in}
use Rattle.hd_model.proofs.WeakSlots.{handle_row, row_cases, weak_attaches, weak_row}
use Rattle.hd_model.specs.Collect.{is_attaching}
use Rattle.hd_model.specs.declared.data.Id.{Id}
use Rattle.hd_model.specs.Heap.{Heap}
use Rattle.hd_model.specs.Role.{Role, attaches, holds, long, role, role_of, short}
use Rattle.hd_model.specs.State as machine
use Rattle.hd_model.specs.State.{Handle, Numbers, Object, State, WeakEntry, row_of, secondary_of, weak_handle}
use Rattle.hd_model.specs.Table.{Table}
use Rattle.hd_seen.specs.Seen.{ObjectSeen, Picture, entry_seen, extra_seen, handle_seen, object_seen, object_shown, picture, view_seen}
use Rattle.hd_seen.specs.declared.SeenEntry.{SeenEntry}
use Rattle.hd_seen.specs.declared.SeenHandle.{SeenHandle}
use Rattle.hd_seen.specs.declared.SeenObject.{SeenObject}
use Rattle.hd_seen.specs.declared.Snapshot.{Snapshot}
use Rattle.hd_links.specs.Graph.{Rises, ids_of}
use Rattle.hd_links.specs.Links.{LinksTo, entry_link, extra_again, handle_again, handle_link, held_by, links_in, source_by}
use Rattle.hd_links.specs.Shown.{AttachesIn, HoldsIn, IsPictureOf}
use Rattle.hd_links.specs.declared.links.Link.{Link}

-- the identities of a picture are the keys of a map
numbers_shown : (xs : List SeenObject)
    → map (λ (o : ObjectSeen). o.id.0) (map object_shown xs) ≡ map (λ (o : SeenObject). o.id.0) xs
numbers_shown [] = refl
numbers_shown (x ∷ xs) = ap (λ (ys : List ℕ). x.id.0 ∷ ys) (numbers_shown xs)

numbers_seen : (h : Heap) (es : List (ℕ × Object Id))
    → map (λ (o : ObjectSeen). o.id.0) (map (object_seen h) es) ≡ map (λ (e : ℕ × Object Id). e.0) es
numbers_seen h [] = refl
numbers_seen h (e ∷ es) = ap (λ (ys : List ℕ). e.0 ∷ ys) (numbers_seen h es)

pub pictures_rise : (seen : Snapshot) (n : Numbers) (s : State) (ages : List ℕ) (h : Heap) (t : Table)
    → view_seen seen ≡ picture n s ages h t → Rises (ids_of seen)
pictures_rise seen n s ages h t is =
    subst Rises
    (sym
    (sym (numbers_shown seen.objects.items) ∙ ap (λ (p : Picture). map (λ (o : ObjectSeen). o.id.0) p.objects) is
    ∙ numbers_seen h (entries s.objects))) (keys_rise (entries s.objects) (entries_sorted s.objects))

-- a handle that was seen has the extra and the role that it had
pub extra_same : (e : machine.Extra Id) → extra_again (extra_seen e) ≡ e
extra_same machine.nothing = refl
extra_same (machine.strength s) = refl
extra_same (machine.secondary o) = refl
extra_same (machine.count c) = refl

pub role_same : (ages : List ℕ) (slot : ℕ) (h : Handle Id)
    → role (handle_again (handle_seen ages (slot, h))) ≡ role h
role_same ages slot h = ap (λ e. role_of h.kind e) (extra_same h.extra)

-- what a handle of a role holds, and to what it attaches
held_from : (r : Role) (o : Option Id) (x : Id) → held_by r o ≡ Some x → (r ≡ holds) × (o ≡ Some x)
held_from holds o x h = (refl, h)
held_from short o x h = absurd (none-some x h)
held_from long o x h = absurd (none-some x h)
held_from attaches o x h = absurd (none-some x h)

source_from : (r : Role) (o : Option Id) (x : Id) → source_by r o ≡ Some x → (r ≡ attaches) × (o ≡ Some x)
source_from holds o x h = absurd (none-some x h)
source_from short o x h = absurd (none-some x h)
source_from long o x h = absurd (none-some x h)
source_from attaches o x h = (refl, h)

-- an entry that attaches has a key and a value
entry_target : (e : Option (WeakEntry Id)) (x y : Id)
    → option_map (λ (w : WeakEntry Id). w.key) e ≡ Some x
    → option_and_then (λ (w : WeakEntry Id). w.value) e ≡ Some y
    → ((weak_handle e).target ≡ Some x) × (secondary_of (weak_handle e).extra ≡ Some y)
entry_target None x y key value = absurd (none-some x key)
entry_target (Some w) x y key value = (key, value)

entry_key : (e : Option (WeakEntry Id)) (x y : Id) → (weak_handle e).target ≡ Some x
    → secondary_of (weak_handle e).extra ≡ Some y
    → (option_map (λ (w : WeakEntry Id). w.key) e ≡ Some x)
    × (option_and_then (λ (w : WeakEntry Id). w.value) e ≡ Some y)
entry_key None x y target value = absurd (none-some x target)
entry_key (Some w) x y target value = (target, value)

module _ (seen : Snapshot) (s : State) (p : IsPictureOf (view_seen seen) s) where
  abbrev objects : List SeenObject
  objects = seen.objects.items

  abbrev links : List Link
  links = links_in seen.handles.items seen.entries.items

  pub ids_rise : Rises (ids_of seen)
  ids_rise = pictures_rise seen p.numbers s p.ages p.heap p.table p.shows

  -- a slot has a handle or an entry, and not both
  pub apart : (q : ℕ) → IsSome (get s.weak q) → get s.handles q ≡ None
  apart = p.well_formed.weak.apart

  shown : map object_shown objects ≡ map (object_seen p.heap) (entries s.objects)
  shown = ap (λ (q : Picture). q.objects) p.shows

  -- each object that is seen is one of the state, and each of the state is seen
  pub object_of : (o : SeenObject) → Contains objects o
      → get s.objects o.id.0 ≡ Some ((object_shown o).object)
  object_of o has =
      let from = mapped_from (object_seen p.heap) (entries s.objects) (object_shown o)
      (subst (λ (l : List ObjectSeen). Contains l (object_shown o)) shown
      (mapped_in object_shown objects o has)) in
      let key : from.0.0 ≡ o.id.0 = ap (λ (q : ObjectSeen). q.id.0) from.1.1 in
      let value : from.0.1 ≡ (object_shown o).object = ap (λ (q : ObjectSeen). q.object) from.1.1 in
      ap (get s.objects) (sym key) ∙ get_entry s.objects from.0.0 from.0.1 from.1.0
      ∙ ap (λ (b : Object Id). Some b) value

  pub object_seen_of : (q : ℕ) (b : Object Id) → get s.objects q ≡ Some b
      → (o : SeenObject) × Contains objects o × (o.id.0 ≡ q)
  object_seen_of q b is =
      let from = mapped_from object_shown objects (object_seen p.heap (q, b))
      (subst (λ (l : List ObjectSeen). Contains l (object_seen p.heap (q, b))) (sym shown)
      (mapped_in (object_seen p.heap) (entries s.objects) (q, b) (entry_of s.objects q b is))) in
      (from.0, from.1.0, ap (λ (r : ObjectSeen). r.id.0) from.1.1)

  -- a link is that of a handle or of an entry
  abbrev OfHandle : Link → Type 0
  OfHandle l = (slot : ℕ) × (h : Handle Id) × (get s.handles slot ≡ Some h)
      × (handle_link (handle_seen p.ages (slot, h)) ≡ l)

  abbrev OfEntry : Link → Type 0
  OfEntry l = (slot : ℕ) × (e : Option (WeakEntry Id)) × (get s.weak slot ≡ Some e)
      × (entry_link (entry_seen p.ages (slot, e)) ≡ l)

  handles_are : seen.handles.items ≡ map (handle_seen p.ages) (entries s.handles)
  handles_are = ap (λ (q : Picture). q.handles) p.shows

  entries_are : seen.entries.items ≡ map (entry_seen p.ages) (entries s.weak)
  entries_are = ap (λ (q : Picture). q.entries) p.shows

  link_cases : (l : Link) → Contains links l → OfHandle l ⊎ OfEntry l
  link_cases l has =
      ⊎_elim
      (λ left.
      let seen_from = mapped_from handle_link seen.handles.items l left in
      let from = mapped_from (handle_seen p.ages) (entries s.handles) seen_from.0
      (subst (λ (hs : List SeenHandle). Contains hs seen_from.0) handles_are seen_from.1.0) in
      inl (
        from.0.0,
        from.0.1,
        get_entry s.handles from.0.0 from.0.1 from.1.0,
        ap handle_link from.1.1 ∙ seen_from.1.1,
      ))
      (λ right.
      let seen_from = mapped_from entry_link seen.entries.items l right in
      let from = mapped_from (entry_seen p.ages) (entries s.weak) seen_from.0
      (subst (λ (es : List SeenEntry). Contains es seen_from.0) entries_are seen_from.1.0) in
      inr (
        from.0.0,
        from.0.1,
        get_entry s.weak from.0.0 from.0.1 from.1.0,
        ap entry_link from.1.1 ∙ seen_from.1.1,
      ))
      (Contains-append_cases (map handle_link seen.handles.items) (map entry_link seen.entries.items) l has)

  handle_in : (slot : ℕ) (h : Handle Id) → get s.handles slot ≡ Some h
      → Contains links (handle_link (handle_seen p.ages (slot, h)))
  handle_in slot h is =
      Contains-append_left (map handle_link seen.handles.items) (map entry_link seen.entries.items) _
      (mapped_in handle_link seen.handles.items (handle_seen p.ages (slot, h))
      (subst (λ (hs : List SeenHandle). Contains hs (handle_seen p.ages (slot, h))) (sym handles_are)
      (mapped_in (handle_seen p.ages) (entries s.handles) (slot, h) (entry_of s.handles slot h is))))

  entry_in : (slot : ℕ) (e : Option (WeakEntry Id)) → get s.weak slot ≡ Some e
      → Contains links (entry_link (entry_seen p.ages (slot, e)))
  entry_in slot e is =
      Contains-append_right (map handle_link seen.handles.items) (map entry_link seen.entries.items) _
      (mapped_in entry_link seen.entries.items (entry_seen p.ages (slot, e))
      (subst (λ (es : List SeenEntry). Contains es (entry_seen p.ages (slot, e))) (sym entries_are)
      (mapped_in (entry_seen p.ages) (entries s.weak) (slot, e) (entry_of s.weak slot e is))))

  -- what links hold is what rows hold
  pub held_in_row : (l : Link) (x : Id) → Contains links l → LinksTo l x None → HoldsIn s l.slot.0 l.kind x
  held_in_row l x has held =
      ⊎_elim
      (λ (of : OfHandle l).
      let both = held_from (role of.1) of.1.target x
      (sym (ap (λ r. held_by r of.1.target) (role_same p.ages of.0 of.1)) ∙ ap (λ (k : Link). k.held) of.3
      ∙ held) in
      subst (λ (k : Link). HoldsIn s k.slot.0 k.kind x) of.3 (record {
        handle = of.1;
        is_stored = handle_row s of.0 of.1 of.2;
        kind_is = refl;
        holds_it = both.0;
        target = both.1;
      }))
      (λ (of : OfEntry l). absurd (none-some x (ap (λ (k : Link). k.held) of.3 ∙ held))) (link_cases l has)

  pub row_is_held : (slot : ℕ) (h : Handle Id) (x : Id) → row_of s slot ≡ Some h → role h ≡ holds
      → h.target ≡ Some x → (l : Link) × Contains links l × (l.slot.0 ≡ slot) × LinksTo l x None
  row_is_held slot h x is holding target =
      ⊎_elim
      (λ handle. (
        handle_link (handle_seen p.ages (slot, h)),
        handle_in slot h handle,
        refl,
        ap (λ r. held_by r h.target) (role_same p.ages slot h ∙ holding) ∙ target,
      ))
      (λ weak.
      absurd (false≢true
      (ap is_attaching (sym holding ∙ ap role (sym weak.1.1.1) ∙ weak_attaches weak.1.0))))
      (row_cases s slot h is)

  -- what links attach is what rows attach
  pub attached_in_row : (l : Link) (x y : Id) → Contains links l → LinksTo l x (Some y)
      → AttachesIn s l.slot.0 x y × (l.is_entry ≡ false → IsSome (get s.handles l.slot.0))
      × (l.is_entry ≡ true → IsSome (get s.weak l.slot.0))
  attached_in_row l x y has does =
      let Good : Link → Type 0 = λ k. AttachesIn s k.slot.0 x y
      × (k.is_entry ≡ false → IsSome (get s.handles k.slot.0)) ×
      (k.is_entry ≡ true → IsSome (get s.weak k.slot.0)) in
      ⊎_elim
      (λ (of : OfHandle l).
      let both = source_from (role of.1) of.1.target x
      (sym (ap (λ r. source_by r of.1.target) (role_same p.ages of.0 of.1))
      ∙ ap (λ (k : Link). k.source) of.3 ∙ does.0) in
      subst Good of.3 (
        record {
          handle = of.1;
          is_stored = handle_row s of.0 of.1 of.2;
          attaches_it = both.0;
          target = both.1;
          secondary = sym (ap secondary_of (extra_same of.1.extra)) ∙ ap (λ (k : Link). k.attached) of.3
              ∙ does.1;
        },
        (λ _. ap is_some of.2),
        (λ entry. absurd (false≢true entry)),
      ))
      (λ (of : OfEntry l).
      let ends = entry_target of.1 x y (ap (λ (k : Link). k.source) of.3 ∙ does.0)
      (ap (λ (k : Link). k.attached) of.3 ∙ does.1) in
      subst Good of.3 (
        record {
          handle = weak_handle of.1;
          is_stored = weak_row s of.0 of.1 (apart of.0 (ap is_some of.2)) of.2;
          attaches_it = weak_attaches of.1;
          target = ends.0;
          secondary = ends.1;
        },
        (λ entry. absurd (false≢true (sym entry))),
        (λ _. ap is_some of.2),
      )) (link_cases l has)

  pub row_is_attached : (slot : ℕ) (h : Handle Id) (x y : Id) → row_of s slot ≡ Some h → role h ≡ attaches
      → h.target ≡ Some x → secondary_of h.extra ≡ Some y
      → (l : Link) × Contains links l × (l.slot.0 ≡ slot) × LinksTo l x (Some y)
  row_is_attached slot h x y is attaching target second =
      ⊎_elim
      (λ handle. (
        handle_link (handle_seen p.ages (slot, h)),
        handle_in slot h handle,
        refl,
        (
          ap (λ r. source_by r h.target) (role_same p.ages slot h ∙ attaching) ∙ target,
          ap secondary_of (extra_same h.extra) ∙ second,
        ),
      ))
      (λ weak.
      let e = weak.1.0 in
      let same : weak_handle e ≡ h = weak.1.1.1 in
      let both = entry_key e x y (ap (λ (g : Handle Id). g.target) same ∙ target)
      (ap (λ (g : Handle Id). secondary_of g.extra) same ∙ second) in
      (entry_link (entry_seen p.ages (slot, e)), entry_in slot e weak.1.1.0, refl, (both.0, both.1)))
      (row_cases s slot h is)
