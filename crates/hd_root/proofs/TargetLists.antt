-- What fields of an object reference, and what dependent handles attach to it, as lists of nodes.
use Rattle.std.proofs.Common.{◌≡◌, ℕ, ◌+◌, ◌<◌, ◌≤◌, true, List, [], ◌∷◌, ◌++◌, length, Option, Some, None, sym, ap, ◌∙◌, subst, arith, ⊎_elim, inl, inr, ◌⊎◌, Contains}
use Rattle.std.specs.Prelude.{flat_map, slice_get}
use Rattle.std.specs.Option.{option_map_or}
use Rattle.std.proofs.lemmas.List.{append-nil, append_assoc}
use Rattle.std.proofs.lemmas.List.Elements.{Contains-append_cases, Contains-append_left, Contains-append_right, Contains-push, Contains-push_cases}
use Rattle.std.proofs.lemmas.Option.{none-some, same_Some}
use Rattle.hd_model.specs.declared.data.Addr.{Addr}
use Rattle.hd_model.specs.Heap.{Heap, has_object, object_at}
use Rattle.hd_model.specs.Scene.{fields_at}
use Rattle.hd_model.specs.Table.{Table}
use Rattle.hd_model.proofs.Members.{not_in_none, first_in, later_in, member_cases}
use Rattle.hd_root.specs.declared.dependents.Link.{Link}
use Rattle.hd_root.specs.{Links.Attaches, Inside.IsLast}
use Rattle.hd_root.specs.{Search.EdgeBy, Search.IsNode, Search.address, Search.in_any_order, Inside.HasListed, Inside.nodes_in}
use Rattle.hd_root.proofs.LinkLists.{AttachesFrom, from_end, from_all, from_next, to_next}
use Rattle.hd_walk.specs.Walk.{AreTargets}

-- nothing is listed yet, one more is, and the same in other words
module _ {P : ℕ → Type 0} where
  listed_none : {old : List ℕ} → ((y : ℕ) → P y → ⊥) → HasListed P old old
  listed_none {old = old} none = record {
    added = [];
    extends = sym (append-nil old);
    only = λ y h. absurd (not_in_none y h);
    all = λ y p. absurd (none y p);
  }

  listed_push : {Q : ℕ → Type 0} {old mid new : List ℕ} (z : ℕ) → HasListed P old mid → new ≡ mid ++ z ∷ []
      → ((y : ℕ) → P y → Q y) → Q z → ((y : ℕ) → Q y → P y ⊎ (y ≡ z)) → HasListed Q old new
  listed_push {Q = Q} {old = old} z v pushed to here back = record {
    added = v.added ++ z ∷ [];
    extends = pushed ∙ ap (λ xs. xs ++ z ∷ []) v.extends ∙ append_assoc old v.added (z ∷ []);
    only = λ y h.
        ⊎_elim (λ before. to y (v.only y before)) (λ same. subst Q same here)
        (Contains-push_cases v.added z y h);
    all = λ y q.
        ⊎_elim (λ p. Contains-append_left v.added (z ∷ []) y (v.all y p))
        (λ same. subst (λ w. Contains (v.added ++ z ∷ []) w) (sym same) (Contains-push v.added z)) (back y q);
  }

  listed_like : {Q : ℕ → Type 0} {old new : List ℕ} → HasListed P old new → ((y : ℕ) → P y → Q y)
      → ((y : ℕ) → Q y → P y) → HasListed Q old new
  listed_like v to back = record {
    added = v.added;
    extends = v.extends;
    only = λ y h. to y (v.only y h);
    all = λ y q. v.all y (back y q);
  }

-- those that a walk over the links of x passed are listed
pub record IsListingLinks (links : List Link) (x : Addr) (next : Option ℕ) (old new : List ℕ) : Type 0 where
  pub high : ℕ
  pub within : high ≤ length links
  pub last : IsLast links x high next
  pub listed : HasListed (λ y. AttachesFrom links high x (address y)) old new

module _ {links : List Link} {x : Addr} {old : List ℕ} where
  pub links_start : {next : Option ℕ} → IsLast links x (length links) next
      → IsListingLinks links x next old old
  links_start last = record {
    high = length links;
    within = omega arith;
    last = last;
    listed = listed_none (λ y. from_end links x (address y));
  }

  pub links_at : {o p : Option ℕ} {new : List ℕ} → o ≡ p → IsListingLinks links x o old new
      → IsListingLinks links x p old new
  links_at {new = new} e w = subst (λ r. IsListingLinks links x r old new) e w

  pub link_inside : {i : ℕ} {new : List ℕ} → IsListingLinks links x (Some i) old new → i < length links
  link_inside w = let b = w.last.below in let l = w.within in omega arith

  pub link_listed : {mid new : List ℕ} {i : ℕ} → IsListingLinks links x (Some i) old mid → (link : Link)
      → slice_get links i ≡ Some link → IsLast links link.target i link.before
      → new ≡ mid ++ link.secondary.0 ∷ [] → IsListingLinks links x link.before old new
  link_listed {i = i} w link is before pushed =
      let here : w.last.link ≡ link = same_Some w.last.link link (sym w.last.is_link ∙ is) in
      let target : link.target ≡ x = ap (λ (l : Link). l.target) (sym here) ∙ w.last.target in
      let secondary = ap (λ (l : Link). l.secondary) here in record {
        high = i;
        within = let b = w.last.below in let l = w.within in omega arith;
        last = subst (λ a. IsLast links a i link.before) target before;
        listed =
            listed_push link.secondary.0 w.listed pushed
            (λ y a. to_next links x w.high i w.last (address y) (inl a))
            (to_next links x w.high i w.last link.secondary (inr (sym secondary)))
            (λ y a.
            ⊎_elim inl (λ same. inr (ap (λ (z : Addr). z.0) (same ∙ secondary)))
            (from_next links x w.high i w.last (address y) a));
      }

  pub links_end : {new : List ℕ} → IsListingLinks links x None old new
      → HasListed (λ y. Attaches links x (address y)) old new
  links_end w =
      listed_like w.listed
      (λ y a. record {
        index = a.index;
        link = a.link;
        is_link = a.is_link;
        target = a.target;
        secondary = a.secondary;
      })
      (λ y. from_all links x w.high w.last (address y))

-- the link before one has a lower index
pub before_falls : (links : List Link) (x : Addr) (i : ℕ) (r : Option ℕ) → IsLast links x i r
    → option_map_or (λ (k : ℕ). k + 1) r 0 < i + 1
before_falls links x i None none = omega arith
before_falls links x i (Some j) last = let b = last.below in omega arith

-- the nodes of fields are those of what they reference
field_from : (fields : List (Option Addr)) (y : ℕ) → Contains (flat_map nodes_in fields) y
    → Contains fields (Some (address y))
field_from [] y has = absurd (not_in_none y has)
field_from (None ∷ fields) y has = later_in None fields (Some (address y)) (field_from fields y has)
field_from (Some a ∷ fields) y has =
    ⊎_elim
    (λ (same : a.0 ≡ y).
    subst (λ n. Contains (Some a ∷ fields) (Some (address n))) same (first_in (Some a) fields))
    (λ later. later_in (Some a) fields (Some (address y)) (field_from fields y later))
    (member_cases a.0 (flat_map nodes_in fields) y has)

field_in : (fields : List (Option Addr)) (y : ℕ) → Contains fields (Some (address y))
    → Contains (flat_map nodes_in fields) y
field_in [] y has = absurd (not_in_none (Some (address y)) has)
field_in (None ∷ fields) y has =
    ⊎_elim (λ same. absurd (none-some (address y) same)) (λ later. field_in fields y later)
    (member_cases None fields (Some (address y)) has)
field_in (Some a ∷ fields) y has =
    ⊎_elim
    (λ same.
    subst (λ n. Contains (a.0 ∷ flat_map nodes_in fields) n)
    (ap (λ (z : Addr). z.0) (same_Some a (address y) same)) (first_in a.0 (flat_map nodes_in fields)))
    (λ later. later_in a.0 (flat_map nodes_in fields) y (field_in fields y later))
    (member_cases (Some a) fields (Some (address y)) has)

-- both together are what edges lead to from an object
module _ {h : Heap} {t : Table} {links : List Link} {x : ℕ} (node : IsNode h t links x) {old mid new : List ℕ}
    (none : old ≡ []) (fields : mid ≡ old ++ flat_map nodes_in (fields_at (object_at h) (address x)))
    (listed : HasListed (λ y. Attaches links (address x) (address y)) mid new) where
  abbrev referenced : List ℕ
  referenced = flat_map nodes_in (fields_at (object_at h) (address x))

  whole : new ≡ referenced ++ listed.added
  whole =
      listed.extends
      ∙ ap (λ xs. xs ++ listed.added) (fields ∙ ap (λ (xs : List ℕ). xs ++ referenced) none)

  edge_from : (y : ℕ) → Contains new y → EdgeBy h t x y
  edge_from y has =
      ⊎_elim (λ f. inl (field_from (fields_at (object_at h) (address x)) y f))
      (λ a. inr (node.linked.only (address x) (address y) (listed.only y a)))
      (Contains-append_cases referenced listed.added y (subst (λ xs. Contains xs y) whole has))

  object_from : (y : ℕ) → EdgeBy h t x y → has_object h (address y) ≡ true
  object_from y =
      ⊎_elim (λ f. node.fields (address x) (address y) f)
      (λ a. node.rows.secondaries a.slot a.handle (address y) a.is_stored a.secondary)

  pub targets_are : AreTargets (IsNode h t links) (EdgeBy h t x) in_any_order new
  targets_are = record {
    nodes = λ y has. record {
      object = object_from y (edge_from y has);
      fields = node.fields;
      rows = node.rows;
      linked = node.linked;
    };
    only = edge_from;
    all = λ y e.
        subst (λ xs. Contains xs y) (sym whole)
        (⊎_elim
        (λ f. Contains-append_left referenced listed.added y
        (field_in (fields_at (object_at h) (address x)) y f))
        (λ a. Contains-append_right referenced listed.added y
        (listed.all y (node.linked.all (address x) (address y) a))) e);
    ordered = λ i j d l k. tt;
  }
