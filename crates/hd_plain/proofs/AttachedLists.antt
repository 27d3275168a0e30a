-- The secondaries that are listed by their targets, and the pairs that rows make.
use Rattle.hd_model.proofs.Basics.{Bool, Contains, Contains-append_cases, Contains-append_left, Contains-append_right, FinMap, IsSome, List, None, Option, Some, [], append-nil, append_assoc, ap, cases_eq, cond, empty, eq-eqb, false, false≢true, get, get-empty, get_or, inl, inr, insert, is_some, map, nat_cmp, ne_eqb, none-some, option_map, option_or, refl, remove, same_Some, subst, sym, true, unwrap_or, ℕ, ⊎_elim, ◌++◌, ◌==◌, ◌∙◌, ◌∷◌, ◌≡◌, ◌≢◌, ◌⊎◌}
use Rattle.std.proofs.Common.{Global, Vec, drop, length, ◌+◌, ◌<◌, ◌≤◌}
use Rattle.std.proofs.lemmas.List.{at_drop_all, at_drop_more}
use Rattle.hd_model.proofs.Members.{not_in_none, first_in, later_in, member_cases}
use Rattle.hd_model.proofs.ReadAfterWrite.{get_inserted, get_beside, get_left}
use Rattle.hd_model.specs.Collect.{is_attaching}
use Rattle.hd_model.specs.Anchors.{EdgeOf}
use Rattle.hd_model.specs.Reach.{IsAttached}
use Rattle.hd_model.specs.Role.{Role, attaches, holds, long, role, short}
use Rattle.hd_model.specs.Scene.{fields_in, scene_of}
use Rattle.hd_model.specs.State.{Handle, State, WeakEntry, row_of, secondary_of, weak_handle}
use Rattle.hd_model.specs.declared.data.Id.{Id}
use Rattle.hd_model.proofs.WeakSlots.{handle_row}
use Rattle.hd_plain.specs.Inside.{Adds, pair_in, pair_of, pairs_in, seconds, attaching_at}
use Rattle.hd_plain.specs.Attaching.{ListsAttached, secondaries}
use Rattle.hd_maps.proofs.ListBuilds.{IsLive, Lists}
use Rattle.hd_plain.specs.declared.marks.Attached.{Attached}

-- ---- pairs by their first part

seconds_case : (b : Bool) (y : ℕ) (xs ys : List ℕ)
    → cond b (y ∷ xs) xs ++ ys ≡ cond b (y ∷ (xs ++ ys)) (xs ++ ys)
seconds_case true y xs ys = refl
seconds_case false y xs ys = refl

pub seconds-append : (x : ℕ) (ps qs : List (ℕ × ℕ)) → seconds x (ps ++ qs) ≡ seconds x ps ++ seconds x qs
seconds-append x [] qs = refl
seconds-append x (p ∷ ps) qs =
    ap (λ (l : List ℕ). cond (p.0 == x) (p.1 ∷ l) l) (seconds-append x ps qs)
    ∙ sym (seconds_case (p.0 == x) p.1 (seconds x ps) (seconds x qs))

seconds_here : (x y : ℕ) (ps : List (ℕ × ℕ)) → seconds x ((x, y) ∷ ps) ≡ y ∷ seconds x ps
seconds_here x y ps = ap (λ b. cond b (y ∷ seconds x ps) (seconds x ps)) (eq-eqb x x refl)

seconds_beside : (x : ℕ) (p : ℕ × ℕ) (ps : List (ℕ × ℕ)) → p.0 ≢ x → seconds x (p ∷ ps) ≡ seconds x ps
seconds_beside x p ps ne = ap (λ b. cond b (p.1 ∷ seconds x ps) (seconds x ps)) (ne_eqb p.0 x ne)

pub second_of : (x y : ℕ) (ps : List (ℕ × ℕ)) → Contains ps (x, y) → Contains (seconds x ps) y
second_of x y [] h = absurd (not_in_none (x, y) h)
second_of x y (p ∷ ps) h =
    ⊎_elim
    (λ e. subst (λ (q : ℕ × ℕ). Contains (seconds x (q ∷ ps)) y) (sym e)
    (subst (λ l. Contains l y) (sym (seconds_here x y ps)) (first_in y (seconds x ps))))
    (λ later. let rest = second_of x y ps later in
    ⊎_elim
    (λ same. subst (λ z. Contains (seconds x ((z, p.1) ∷ ps)) y) (sym same)
    (subst (λ l. Contains l y) (sym (seconds_here x p.1 ps)) (later_in p.1 (seconds x ps) y rest)))
    (λ ne. subst (λ l. Contains l y) (sym (seconds_beside x p ps ne)) rest) (cases_eq p.0 x))
    (member_cases p ps (x, y) h)

pub pair_from : (x y : ℕ) (ps : List (ℕ × ℕ)) → Contains (seconds x ps) y → Contains ps (x, y)
pair_from x y [] h = absurd (not_in_none y h)
pair_from x y (p ∷ ps) h =
    ⊎_elim
    (λ same. let there : Contains (p.1 ∷ seconds x ps) y =
    subst (λ l. Contains l y) (seconds_here x p.1 ps)
    (subst (λ z. Contains (seconds x ((z, p.1) ∷ ps)) y) same h) in
    ⊎_elim
    (λ e. subst (λ (q : ℕ × ℕ). Contains (p ∷ ps) q) (λ i. (same i, e i)) (first_in p ps))
    (λ later. later_in p ps (x, y) (pair_from x y ps later)) (member_cases p.1 (seconds x ps) y there))
    (λ ne. later_in p ps (x, y) (pair_from x y ps (subst (λ l. Contains l y) (seconds_beside x p ps ne) h)))
    (cases_eq p.0 x)

-- ---- adding

pub adds_none : (a : Attached) → Adds a a []
adds_none a x = sym (append-nil (secondaries a x))

pub adds_then : (a b c : Attached) (ps qs : List (ℕ × ℕ)) → Adds a b ps → Adds b c qs → Adds a c (ps ++ qs)
adds_then a b c ps qs p q x =
    q x ∙ ap (λ (l : List ℕ). l ++ seconds x qs) (p x)
    ∙ append_assoc (secondaries a x) (seconds x ps) (seconds x qs)
    ∙ ap (λ (l : List ℕ). secondaries a x ++ l) (sym (seconds-append x ps qs))

-- a list with one more is put in place of the list of a target
pub adds_one : (lists : FinMap nat_cmp (Vec ℕ Global)) (list : Vec ℕ Global) (from to : ℕ)
    → list.items ≡ secondaries (record { lists = lists }) from ++ to ∷ []
    → Adds (record { lists = lists }) (record { lists = insert (remove lists from) from list })
    ((from, to) ∷ [])
adds_one lists list from to items x =
    let old = secondaries (record { lists = lists }) in
    let read : Option (Vec ℕ Global) → List ℕ = λ o. unwrap_or (option_map (λ l. l.items) o) [] in
    ⊎_elim
    (λ same. subst
    (λ z. read (get (insert (remove lists from) from list) z) ≡ old z ++ seconds z ((from, to) ∷ []))
    (sym same)
    (ap read (get_inserted (remove lists from) from list) ∙ items
    ∙ ap (λ (l : List ℕ). old from ++ l) (sym (seconds_here from to []))))
    (λ ne. ap read (get_beside (remove lists from) from list x ne ∙ get_left lists from x ne)
    ∙ sym (append-nil (old x))
    ∙ ap (λ (l : List ℕ). old x ++ l) (sym (seconds_beside x (from, to) [] (λ e. ne (sym e)))))
    (cases_eq x from)

-- a loop over numbers, each of which may have a pair: to add the pairs of those that are left is to add those
-- of all to what there was
module _ (f : ℕ → Option (Handle Id)) (xs : List ℕ) (i : ℕ) where
  abbrev pub AddsRest : Attached → Attached → Type 0
  AddsRest first now =
      (later : Attached) → Adds now later (pairs_in (map f (drop i xs)))
      → Adds first later (pairs_in (map f xs))

  pub rest_last : (first a : Attached) → AddsRest first a → length xs ≤ i
      → Adds first a (pairs_in (map f xs))
  rest_last first a so_far past =
      so_far a (subst (λ ps. Adds a a ps) (sym (at_drop_all (λ l. pairs_in (map f l)) xs i past))
      (adds_none a))

pub rest_next : (f : ℕ → Option (Handle Id)) (xs : List ℕ) (i : ℕ) (first a b : Attached)
    → AddsRest f xs i first a → i < length xs → Adds a b (pair_in (f (get_or xs i 0)))
    → AddsRest f xs (i + 1) first b
rest_next f xs i first a b so_far within adds later rest =
    so_far later
    (subst (λ ps. Adds a later ps) (sym (at_drop_more (λ l. pairs_in (map f l)) xs i 0 within))
    (adds_then a b later (pair_in (f (get_or xs i 0))) (pairs_in (map f (drop (i + 1) xs))) adds rest))

-- nothing is listed yet
pub none_listed : (lists : FinMap nat_cmp (Vec ℕ Global)) → lists ≡ empty → (x : ℕ)
    → secondaries (record { lists = lists }) x ≡ []
none_listed lists none x =
    ap (λ (m : FinMap nat_cmp (Vec ℕ Global)). secondaries (record { lists = m }) x) none
    ∙ ap (λ (o : Option (Vec ℕ Global)). unwrap_or (option_map (λ l. l.items) o) []) (get-empty nat_cmp x)

pub from_none : (first a : Attached) (ps : List (ℕ × ℕ)) → ((x : ℕ) → secondaries first x ≡ [])
    → Adds first a ps → (x : ℕ) → secondaries a x ≡ seconds x ps
from_none first a ps none adds x = adds x ∙ ap (λ (l : List ℕ). l ++ seconds x ps) (none x)

-- ---- pairs of numbers

module _ (f : ℕ → Option (Handle Id)) where
  -- the pair of one of a list, and of which one a pair is
  pub listed_pair : (xs : List ℕ) (k : ℕ) (h : Handle Id) (p : ℕ × ℕ) → Contains xs k → f k ≡ Some h
      → Contains (pair_in (Some h)) p → Contains (pairs_in (map f xs)) p
  listed_pair [] k h p c e has = absurd (not_in_none k c)
  listed_pair (x ∷ xs) k h p c e has =
      ⊎_elim
      (λ same. Contains-append_left (pair_in (f x)) (pairs_in (map f xs)) p
      (subst (λ o. Contains (pair_in o) p) (sym (ap f same ∙ e)) has))
      (λ later. Contains-append_right (pair_in (f x)) (pairs_in (map f xs)) p
      (listed_pair xs k h p later e has)) (member_cases x xs k c)

  pub record IsOf (xs : List ℕ) (p : ℕ × ℕ) : Type 0 where
    pub number : ℕ
    pub handle : Handle Id
    pub listed : Contains xs number
    pub is : f number ≡ Some handle
    pub has : Contains (pair_in (Some handle)) p

  pub pair_listed : (xs : List ℕ) (p : ℕ × ℕ) → Contains (pairs_in (map f xs)) p → IsOf xs p
  pair_listed [] p c = absurd (not_in_none p c)
  pair_listed (x ∷ xs) p c =
      ⊎_elim (λ here. first (f x) refl here)
      (λ later. let r = pair_listed xs p later in record {
        number = r.number;
        handle = r.handle;
        listed = later_in x xs r.number r.listed;
        is = r.is;
        has = r.has;
      }) (Contains-append_cases (pair_in (f x)) (pairs_in (map f xs)) p c)
    where
      first : (o : Option (Handle Id)) → f x ≡ o → Contains (pair_in o) p → IsOf (x ∷ xs) p
      first None e h = absurd (not_in_none p h)
      first (Some handle) e h =
          record { number = x; handle = handle; listed = first_in x xs; is = e; has = h }

pub attaching_is : (r : Role) → is_attaching r ≡ true → r ≡ attaches
attaching_is holds e = absurd (false≢true e)
attaching_is short e = absurd (false≢true e)
attaching_is long e = absurd (false≢true e)
attaching_is attaches e = refl

-- the pair of a handle: it attaches, and has both parts
pub record IsPairOf (h : Handle Id) (x y : Id) : Type 0 where
  pub attaches : role h ≡ attaches
  pub target : h.target ≡ Some x
  pub secondary : secondary_of h.extra ≡ Some y

pair_parts : (t s : Option Id) (x y : Id) → Contains (pair_of t s) (x.0, y.0) → (t ≡ Some x) × (s ≡ Some y)
pair_parts None s x y c = absurd (not_in_none (x.0, y.0) c)
pair_parts (Some a) None x y c = absurd (not_in_none (x.0, y.0) c)
pair_parts (Some a) (Some b) x y c =
    ⊎_elim
    (λ e. let id : ℕ → Option Id = λ n. Some (record { 0 = n }) in
    (ap (λ (p : ℕ × ℕ). id p.0) e, ap (λ (p : ℕ × ℕ). id p.1) e))
    (λ later. absurd (not_in_none (x.0, y.0) later)) (member_cases (a.0, b.0) [] (x.0, y.0) c)

pub pair_is : (h : Handle Id) (x y : Id) → Contains (pair_in (Some h)) (x.0, y.0) → IsPairOf h x y
pair_is h x y c = by (is_attaching (role h)) refl c
  where
    by : (b : Bool) → is_attaching (role h) ≡ b
        → Contains (cond b (pair_of h.target (secondary_of h.extra)) []) (x.0, y.0) → IsPairOf h x y
    by true e k =
        let parts = pair_parts h.target (secondary_of h.extra) x y k in
        record { attaches = attaching_is (role h) e; target = parts.0; secondary = parts.1 }
    by false e k = absurd (not_in_none (x.0, y.0) k)

pub has_pair : (h : Handle Id) (x y : Id) → IsPairOf h x y → Contains (pair_in (Some h)) (x.0, y.0)
has_pair h x y p =
    let list : Role → Option Id → Option Id → List (ℕ × ℕ) =
    λ r t s. cond (is_attaching r) (pair_of t s) [] in
    subst (λ l. Contains l (x.0, y.0)) (λ i. list (sym p.attaches i) (sym p.target i) (sym p.secondary i))
    (first_in (x.0, y.0) [])

-- ---- the rows of a state

pub row_by_entry : (s : State) (slot : ℕ) (h : Handle Id) → get s.handles slot ≡ None
    → option_map weak_handle (get s.weak slot) ≡ Some h → row_of s slot ≡ Some h
row_by_entry s slot h none e = ap (λ o. option_or o (option_map weak_handle (get s.weak slot))) none ∙ e

pub row_is : (s : State) (slot : ℕ) (h : Handle Id) → row_of s slot ≡ Some h
    → (get s.handles slot ≡ Some h) ⊎ (option_map weak_handle (get s.weak slot) ≡ Some h)
row_is s slot h e = by (get s.handles slot) refl e
  where
    by : (o : Option (Handle Id)) → get s.handles slot ≡ o
        → option_or o (option_map weak_handle (get s.weak slot)) ≡ Some h
        → (get s.handles slot ≡ Some h) ⊎ (option_map weak_handle (get s.weak slot) ≡ Some h)
    by None was k = inr k
    by (Some g) was k = inl (was ∙ k)

-- what an entry attaches is what its row does
pub attaching_row : (o : Option (Option (WeakEntry Id))) (h : Handle Id)
    → option_map (λ (e : WeakEntry Id). weak_handle (Some e)) (unwrap_or o None) ≡ Some h
    → option_map weak_handle o ≡ Some h
attaching_row None h e = absurd (none-some h e)
attaching_row (Some None) h e = absurd (none-some h e)
attaching_row (Some (Some x)) h e = e

pub row_attaching : (o : Option (Option (WeakEntry Id))) (h : Handle Id) (x : Id)
    → option_map weak_handle o ≡ Some h → h.target ≡ Some x
    → (option_map (λ (e : WeakEntry Id). weak_handle (Some e)) (unwrap_or o None) ≡ Some h) × IsSome o
row_attaching None h x e t = absurd (none-some h e)
row_attaching (Some None) h x e t =
    absurd (none-some x (ap (λ (g : Handle Id). g.target) (same_Some (weak_handle None) h e) ∙ t))
row_attaching (Some (Some y)) h x e t = (e, refl)

module _ (s : State) (a : Attached) (slots entries : List ℕ) (live : Lists (IsLive s.handles) slots)
    (held : Lists (λ k. IsSome (get s.weak k)) entries)
    (apart : (k : ℕ) → IsSome (get s.weak k) → get s.handles k ≡ None)
    (lists : (x : ℕ) → secondaries a x
    ≡ seconds x (pairs_in (map (get s.handles) slots) ++ pairs_in (map (attaching_at s.weak) entries)))
  where
    abbrev by_handles : List (ℕ × ℕ)
    by_handles = pairs_in (map (get s.handles) slots)

    abbrev by_entries : List (ℕ × ℕ)
    by_entries = pairs_in (map (attaching_at s.weak) entries)

    attached_at : (k : ℕ) (h : Handle Id) (x y : Id) → row_of s k ≡ Some h
        → Contains (pair_in (Some h)) (x.0, y.0) → IsAttached (scene_of s).handle x y
    attached_at k h x y stored c =
        let p = pair_is h x y c in
        record {
          slot = k;
          handle = h;
          is_stored = stored;
          attaches = p.attaches;
          target = p.target;
          secondary = p.secondary;
        }

    pub lists_attached : ListsAttached s a
    lists_attached = record {
      listed = λ x y c.
          ⊎_elim
          (λ k. let r = pair_listed (get s.handles) slots (x.0, y.0) k in
          attached_at r.number r.handle x y (handle_row s r.number r.handle r.is) r.has)
          (λ k. let r = pair_listed (attaching_at s.weak) entries (x.0, y.0) k in
          attached_at r.number r.handle x y
          (row_by_entry s r.number r.handle
          (apart r.number (held.each r.number r.listed))
          (attaching_row (get s.weak r.number) r.handle r.is))
          r.has)
          (Contains-append_cases by_handles by_entries (x.0, y.0)
          (pair_from x.0 y.0 (by_handles ++ by_entries) (subst (λ l. Contains l y.0) (lists x.0) c)));
      all = λ x y t.
          let c = has_pair t.handle x y
          (record { attaches = t.attaches; target = t.target; secondary = t.secondary }) in
          subst (λ l. Contains l y.0) (sym (lists x.0))
          (second_of x.0 y.0 (by_handles ++ by_entries)
          (⊎_elim
          (λ e. Contains-append_left by_handles by_entries (x.0, y.0)
          (listed_pair (get s.handles) slots t.slot t.handle (x.0, y.0) (live.all t.slot (ap is_some e)) e c))
          (λ e. let row = row_attaching (get s.weak t.slot) t.handle x e t.target in
          Contains-append_right by_handles by_entries (x.0, y.0)
          (listed_pair (attaching_at s.weak) entries t.slot t.handle (x.0, y.0) (held.all t.slot row.1) row.0
          c)) (row_is s t.slot t.handle t.is_stored)));
    }

-- ---- edges

-- an edge leads to what a field references, or to what is listed
pub edge_to : (s : State) (a : Attached) → ListsAttached s a → (x y : Id) → EdgeOf s x y
    → Contains (fields_in (get s.objects x.0)) (Some y) ⊎ Contains (secondaries a x.0) y.0
edge_to s a l x y e = ⊎_elim (λ f. inl f) (λ c. inr (l.all x y c)) e

pub edge_from : (s : State) (a : Attached) → ListsAttached s a → (x y : Id)
    → Contains (fields_in (get s.objects x.0)) (Some y) ⊎ Contains (secondaries a x.0) y.0 → EdgeOf s x y
edge_from s a l x y e = ⊎_elim (λ f. inl f) (λ c. inr (l.listed x y c)) e
