-- A state that passes the checks is ready.
use Rattle.std.proofs.Common.{◌≡◌, ℕ, ◌*◌, ◌<◌, ◌≤◌, true, List, Option, Some, None, is_some, length, get_or, refl, sym, ap, ◌∙◌, inl, inr, arith}
use Rattle.std.specs.Prelude.{Contains, option_map}
use Rattle.std.specs.FinMap.{get, len}
use Rattle.std.proofs.lemmas.Bool.{cases_order}
use Rattle.std.proofs.lemmas.List.{get_or_default}
use Rattle.std.proofs.lemmas.Option.{none-some}
use Rattle.hd_model.specs.declared.data.Addr.{Addr}
use Rattle.hd_model.specs.State.{Object}
use Rattle.hd_model.specs.Scene.{fields_at, fields_in, IsField}
use Rattle.hd_model.specs.Heap.{Heap, HasIdentities, Placed, has_object, object_at, object_in, id_in, region_generation, region_of}
use Rattle.hd_model.specs.Table.{Table, Queue}
use Rattle.hd_model.proofs.Members.{not_in_none}
use Rattle.hd_plan.specs.Plan.{HasNoEmptyRegion}
use Rattle.hd_gc.specs.Ready.{IsReady, parts}
use Rattle.hd_rows.specs.Inside.{IsBare, AreAlone, ArePlain}

module _ (h : Heap) (bare : IsBare h) where
  field_object : (x y : Addr) (o : Option (Object Addr)) → object_at h x ≡ o → Contains (fields_in o) (Some y)
      → has_object h x ≡ true
  field_object x y None e f = absurd (not_in_none (Some y) f)
  field_object x y (Some o) e f = ap is_some e

  no_field : (x y : Addr) → IsField (object_at h) x y → ⊥
  no_field x y f =
      let null : get_or (fields_at (object_at h) x) f.0 None ≡ None =
      bare x (field_object x y (object_at h x) refl f) f.0 in
      none-some y (sym null ∙ get_or_default (fields_at (object_at h) x) f.0 None (Some y) f.1 ∙ f.2)

same_placed : (h : Heap) (a b : ℕ) (p q : Placed) → AreAlone h → get h.objects a ≡ Some p
    → get h.objects b ≡ Some q → p.id ≡ q.id → a < b → ⊥
same_placed h a b p q alone at_a at_b same low =
    let x : Addr = record { 0 = a } in
    let y : Addr = record { 0 = b } in
    alone x (ap (λ o. is_some (option_map (object_in (region_generation h (region_of x))) o)) at_a) y
    (ap (λ o. is_some (option_map (object_in (region_generation h (region_of y))) o)) at_b) low
    (ap id_in at_a ∙ same ∙ sym (ap id_in at_b))

-- identities of objects that are alone differ
pub identities_differ : (h : Heap) → AreAlone h → HasIdentities h
identities_differ h alone a b p q at_a at_b same =
    elim (cases_order a b) [
      | inl e ↦ e
      | inr (inl low) ↦ absurd (same_placed h a b p q alone at_a at_b same low)
      | inr (inr high) ↦ absurd (same_placed h b a q p alone at_b at_a (sym same) high)
    ]

pub is_ready : (h : Heap) (t : Table) (ages : List ℕ) (q : Queue) (roots : List (Option Addr))
    → HasNoEmptyRegion h → length ages ≡ 4 * t.blocks → len h.objects ≤ q.room → IsBare h → AreAlone h
    → ArePlain h t ages → ((x : Addr) → Contains roots (Some x) → has_object h x ≡ true)
    → length q.queued ≡ 0 → IsReady (parts h t ages q roots)
is_ready h t ages q roots full clumps room bare alone plain named empty = record {
  whole = record {
    fields = λ x y f. absurd (no_field h bare x y f);
    named = named;
    queue = λ x is_queued. let low = is_queued.1 in absurd (omega (arith, low, empty));
    targets = λ slot g x is_stored e. (plain slot g is_stored).object x e;
    secondaries = λ slot g x is_stored e. absurd (none-some x (sym (plain slot g is_stored).alone ∙ e));
    paired = λ slot g is_stored none. (plain slot g is_stored).alone;
    fits = λ slot g x is_stored e. absurd (none-some x (sym (plain slot g is_stored).alone ∙ e));
  };
  identities = identities_differ h alone;
  ages_sound = record {
    targets = λ slot g x is_stored e. (plain slot g is_stored).age x e;
    secondaries = λ slot g x is_stored e. absurd (none-some x (sym (plain slot g is_stored).alone ∙ e));
  };
  cards_sound = λ x y f younger. absurd (no_field h bare x y f);
  full = full;
  clumps = clumps;
  room = room;
}
