-- What is noted of a heap, as it changes: which regions of generation 0 may have room for another object,
-- whether a card may be set, and whether an object may be registered.
use Rattle.hd_heap.proofs.Basics.{Addr, AreFull, AreOthersFull, Bool, CARDS, Field, HasFlags, Heap, LEFT, List, None, Option, Part, Placed, REGION, Region, Registered, Value, ap, arith, both_ways, card_of, cases_eq, cond, empty_heap, eq-eqb, false, false_from_ne_true, inl, inr, is_in_use, is_set, is_some, nat_cmp, nat_eq, ne_eqb, not, or_parts, refl, region_at, region_generation, registers, removal_cases, subst, sym, true, unwrap_or, with_card, with_fresh, with_object, with_part, with_put, without_region, write_cases, ℕ, ◌&&◌, ◌*◌, ◌+◌, ◌/◌, ◌||◌, ◌∙◌, ◌≡◌, ◌≢◌, ◌≤◌}
use Rattle.hd_heap.proofs.{HeapValues.blank, HeapValues.no_placed, RegionReads.IsNoted, RegionReads.has-get, RegionWrites.mark_cases, RegionGiveUp.objects_by, RegionGiveUp.cards_by}
use Rattle.std.specs.FinMap as fin
use Rattle.std.specs.FinSet as set_of

-- what a map has of a region that is full or of another generation, and of an object that is not registered
abbrev IsFull : Option Region → Type 0
IsFull o = is_some o ≡ true → (unwrap_or o blank).generation ≡ 0 → LEFT ≤ (unwrap_or o blank).fill

abbrev IsPlain : Option Placed → Type 0
IsPlain o = is_some o ≡ true → (unwrap_or o no_placed).registered ≡ false

plain_none : IsPlain None
plain_none never = absurd (cc never)

-- a region got other cells or another generation
others_put : (h : Heap) (c r : ℕ) (x : Region) → (c ≢ 0 → x.generation ≡ 0 → r ≢ c → LEFT ≤ x.fill)
    → AreOthersFull h c → AreOthersFull (record h { regions = fin.insert h.regions r x }) c
others_put h c r x here full q some held young other =
    write_cases h.regions r IsFull x q (λ e _ young. here some young (λ f. other (e ∙ f)))
    (λ held young. full q some held young other) held young

-- all are full, and one is begun: all others are full
pub others_begun : (h : Heap) (r : ℕ) → AreFull h → AreOthersFull (with_fresh h r 0) r
others_begun h r full = others_put h r r blank (λ some young other. absurd (other refl))
    (λ q some held young other. full q held young)

-- what the flags say, by what the maps have
flags_from : (h : Heap) {c r : Bool} → (c ≡ false → (card : ℕ) → is_set h card ≡ false)
    → (r ≡ false → (q : ℕ) → IsPlain (fin.get h.objects q)) → HasFlags h c r
flags_from h cards plain = record {
  cards = cards;
  registrations = λ off a has. plain off a.0 (sym (has-get h a) ∙ has);
}

-- a heap without objects
pub noted_none : (limit : ℕ) → IsNoted (empty_heap limit) (0, false, false)
noted_none limit = record {
  full = λ r some. absurd (some refl);
  flags = flags_from (empty_heap limit) (λ off card. set_of.contains-empty nat_cmp card)
      (λ off q. subst IsPlain (sym (fin.get-empty nat_cmp q)) plain_none);
}

module _ {h : Heap} {notes : ℕ × Bool × Bool} (n : IsNoted h notes) where
  plain : notes.2 ≡ false → (q : ℕ) → IsPlain (fin.get h.objects q)
  plain off q some = n.flags.registrations off (record { 0 = q }) (has-get h (record { 0 = q }) ∙ some)

  pub noted_free : (free : List ℕ) → IsNoted (record h { free = free }) notes
  noted_free free = record {
    full = n.full;
    flags = record { cards = n.flags.cards; registrations = n.flags.registrations };
  }

  -- a region got a generation: where that is 0, the last region is not known
  pub noted_given : (r g f : ℕ) (free : List ℕ) {d : ℕ} → d ≡ cond (nat_eq g 0) 0 notes.0
      → let x : Region = record { generation = g; fill = f } in
      IsNoted (record h { regions = fin.insert h.regions r x; free = free }) (d, notes.1, notes.2)
  noted_given r g f free known =
      let new : Heap = record h { regions = fin.insert h.regions r (record { generation = g; fill = f }) } in
      record {
        full = elim (cases_eq g 0) [
          | inl none ↦ λ q some. absurd (some (known ∙ ap (λ b. cond b 0 notes.0) (eq-eqb g 0 none)))
          | inr some ↦ subst (AreOthersFull new) (sym (known ∙ ap (λ b. cond b 0 notes.0) (ne_eqb g 0 some)))
              (others_put h notes.0 r _ (λ _ young. absurd (some young)) n.full)
        ];
        flags = flags_from (record new { free = free }) n.flags.cards plain;
      }

  -- an object is put or written, which is registered only where that is noted
  module _ (o : Placed) {g : Bool} (wider : g ≡ false → notes.2 ≡ false) (off : g ≡ false → o.registered ≡ false) where
    plain_put : (k : ℕ) → g ≡ false → (q : ℕ) → IsPlain (fin.get (fin.insert h.objects k o) q)
    plain_put k unset q = write_cases h.objects k IsPlain o q (λ _ _. off unset) (plain (wider unset) q)

    pub noted_put : (r : ℕ) → is_in_use h r ≡ true
        → IsNoted (with_put h r (region_generation h r) o) (notes.0, notes.1, g)
    noted_put r held = record {
      full = others_put h notes.0 r _
          (λ some young other. let low = n.full r some held young other in omega (arith, low)) n.full;
      flags = flags_from (with_put h r (region_generation h r) o) n.flags.cards
          (plain_put (r * REGION + (region_at h r).fill));
    }

    pub noted_written : (at : Addr) → IsNoted (with_object h at o) (notes.0, notes.1, g)
    noted_written at = record {
      full = n.full;
      flags = flags_from (with_object h at o) n.flags.cards (plain_put at.0);
    }

  -- a card is set, which is noted, or cleared
  pub noted_card : (card : ℕ) (on : Bool) {c : Bool} → (c ≡ false → notes.1 ≡ false) → (c ≡ false → on ≡ false)
      → IsNoted (with_card h card on) (notes.0, c, notes.2)
  noted_card card on wider off = record {
    full = n.full;
    flags = record {
      cards = λ unset q. mark_cases (λ b. b ≡ false) h.cards card on q (λ _. off unset)
          (λ _. n.flags.cards (wider unset) q);
      registrations = n.flags.registrations;
    };
  }

  -- an object is removed, and its card is set afterwards only where it was before
  pub noted_removed : (at : Addr) (on : Bool) → (on ≡ true → is_set h (card_of at) ≡ true)
      → IsNoted (record (with_card h (card_of at) on) { objects = fin.remove h.objects at.0 }) notes
  noted_removed at on was =
      let off : notes.1 ≡ false → on ≡ false = λ unset. false_from_ne_true on
      (λ begun. both_ways _ (n.flags.cards unset (card_of at)) (was begun)) in
      record {
        full = n.full;
        flags = flags_from (record (with_card h (card_of at) on) { objects = fin.remove h.objects at.0 })
            (noted_card (card_of at) on (λ unset. unset) off).flags.cards
            (λ unset q. removal_cases h.objects at.0 IsPlain q (λ _. plain_none) (plain unset q));
      }

  -- a region is given up
  pub noted_left : (r : ℕ) → IsNoted (without_region h r) notes
  noted_left r = record {
    full = λ q some held young other. removal_cases h.regions r IsFull q (λ _ never. absurd (cc never))
        (λ held young. n.full q some held young other) held young;
    flags = flags_from (without_region h r)
        (λ unset c. cards_by h r c ∙ ap (λ b. b && not (nat_eq (c / CARDS) r)) (n.flags.cards unset c))
        (λ unset q. subst IsPlain (sym (objects_by h r q)) (left (not (nat_eq (q / REGION) r)) _ (plain unset q)));
  }
    where
      left : (b : Bool) (o : Option Placed) → IsPlain o → IsPlain (cond b o None)
      left true o p = p
      left false o p = plain_none

-- a part of an object that is not registered
pub part_noted : (o : Placed) (p : Part) (r : Bool) → (r || registers p) ≡ false
    → (r ≡ false → o.registered ≡ false) → (with_part o p).registered ≡ false
part_noted o (Value v) r off noted = noted (or_parts r false off).0
part_noted o (Registered on) r off noted = (or_parts r on off).1
part_noted o (Field i n) r off noted = noted (or_parts r false off).0
