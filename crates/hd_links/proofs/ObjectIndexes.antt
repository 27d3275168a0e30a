-- Objects by their identities.
use Rattle.std.proofs.Common.{Contains, List, None, Option, Some, ap, arith, cond, eq-eqb, eqb, is_some, ne_eqb, nat_eq, refl, sym, ℕ, ⊎_elim, ◌+◌, ◌<◌, ◌∙◌, ◌≡◌}
use Rattle.std.specs.HashMap.{get}
use Rattle.std.specs.Option.{option_and_then}
use Rattle.std.specs.Prelude.{option_map, slice_get}
use Rattle.std.proofs.lemmas.Bool.{cases_eq, cases_order}
use Rattle.std.proofs.lemmas.Option.{none-some, same_Some, slice_get-map}
use Rattle.hd_model.proofs.MapEntries.{some_value}
use Rattle.hd_seen.specs.declared.SeenObject.{SeenObject}
use Rattle.hd_seen.specs.declared.Snapshot.{Snapshot}
use Rattle.hd_walk.proofs.Slices.{at_member, at_pair}
use Rattle.hd_links.specs.Graph.{AreIndexes, IsGraphOf, Rises, ids_of, object_at}
use Rattle.hd_links.specs.declared.graph.Graph.{Graph}
use Rattle.hd_links.proofs.Members.{index_in}

-- a look-up that finds one object more
module _ {objects : List SeenObject} {look after : ℕ → Option ℕ} {i : ℕ} (o : SeenObject)
    (is_o : slice_get objects i ≡ Some o) (is : AreIndexes objects look i)
    (puts : (q : ℕ) → after q ≡ cond (eqb o.id.0 q) (Some i) (look q)) where
  here : (q : ℕ) → o.id.0 ≡ q → after q ≡ Some i
  here q same = puts q ∙ ap (λ b. cond b (Some i) (look q)) (eq-eqb o.id.0 q same)

  beside : (q : ℕ) → (o.id.0 ≡ q → ⊥) → after q ≡ look q
  beside q apart = puts q ∙ ap (λ b. cond b (Some i) (look q)) (ne_eqb o.id.0 q apart)

  pub indexes_more : AreIndexes objects after (i + 1)
  indexes_more = record {
    found = λ q k finds.
        ⊎_elim
        (λ same.
        let at : i ≡ k = same_Some i k (sym (here q same) ∙ finds) in
        (o, ap (slice_get objects) (sym at) ∙ is_o, same))
        (λ apart. is.found q k (sym (beside q apart) ∙ finds)) (cases_eq o.id.0 q);
    all = λ k p low at_p.
        ⊎_elim (λ same. ap is_some (here p.id.0 same))
        (λ apart.
        let less : k < i =
        ⊎_elim
        (λ at. absurd (apart (ap (λ (z : SeenObject). z.id.0)
        (same_Some o p (sym is_o ∙ ap (slice_get objects) (sym at) ∙ at_p)))))
        (λ differs. omega (arith, low, differs)) (cases_eq k i) in
        ap is_some (beside p.id.0 apart) ∙ is.all k p less at_p) (cases_eq o.id.0 p.id.0);
  }

module _ (seen : Snapshot) where
  abbrev objects : List SeenObject
  objects = seen.objects.items

  number_at : (i : ℕ) (o : SeenObject) → slice_get objects i ≡ Some o
      → slice_get (ids_of seen) i ≡ Some o.id.0
  number_at i o at =
      slice_get-map (λ (q : SeenObject). q.id.0) objects i ∙ ap (option_map (λ (q : SeenObject). q.id.0)) at

  -- of objects that come by rising identity each has its own
  pub one_object : Rises (ids_of seen) → (p o : SeenObject) → Contains objects p → Contains objects o
      → p.id.0 ≡ o.id.0 → p ≡ o
  one_object rise p o has_p has_o same =
      let i = index_in objects p has_p in
      let k = index_in objects o has_o in
      let first = number_at i.0 p i.2 in
      let second = number_at k.0 o k.2 in
      ⊎_elim (λ at. same_Some p o (sym i.2 ∙ ap (slice_get objects) at ∙ k.2))
      (⊎_elim
      (λ less.
      let r = at_pair (λ x y. x < y) (ids_of seen) i.0 k.0 p.id.0 o.id.0 rise less first second in
      absurd (omega (arith, r, same)))
      (λ above.
      let r = at_pair (λ x y. x < y) (ids_of seen) k.0 i.0 o.id.0 p.id.0 rise above second first in
      absurd (omega (arith, r, same))))
      (cases_order i.0 k.0)

  -- what is looked up is an object with that identity, and each object's identity has one
  module _ {g : Graph} (is : IsGraphOf seen g) where
    abbrev in_graph : ℕ → Option SeenObject
    in_graph k = slice_get g.objects.now k

    pub object_from : (x : ℕ) (o : SeenObject) → object_at g x ≡ Some o → Contains objects o × (o.id.0 ≡ x)
    object_from x o at = by (get nat_eq g.indexes x) refl at
      where
        by : (k : Option ℕ) → get nat_eq g.indexes x ≡ k → option_and_then in_graph k ≡ Some o
            → Contains objects o × (o.id.0 ≡ x)
        by None found at = absurd (none-some o at)
        by (Some k) found at =
            let there : slice_get objects k ≡ Some o =
            ap (λ (xs : List SeenObject). slice_get xs k) (sym is.objects) ∙ at in
            let f = is.indexes.found x k found in
            let same : f.0 ≡ o = same_Some f.0 o (sym f.1 ∙ there) in
            (at_member objects k o there, ap (λ (z : SeenObject). z.id.0) (sym same) ∙ f.2)

    pub object_there : (o : SeenObject) → Contains objects o
        → (p : SeenObject) × (object_at g o.id.0 ≡ Some p)
    object_there o has =
        let k = index_in objects o has in
        let some = some_value (get nat_eq g.indexes o.id.0) (is.indexes.all k.0 o k.1 k.2) in
        let f = is.indexes.found o.id.0 some.0 some.1 in (
          f.0,
          ap (option_and_then in_graph) some.1
              ∙ ap (λ (xs : List SeenObject). slice_get xs some.0) is.objects ∙ f.1,
        )
