-- Lemmas on the rewriting of fields.
use Rattle.hd_plan.proofs.Basics.{Addr, AreRewritten, Heap, IsField, IsNext, IsRising, IsStayedAt, List, Move, Option, Some, and_parts, ap, arith, both_ways, card_of, cases_eq, false, forwarded, generation_at, get_other, get_same, has-get, has_object, inl, inr, is_after, is_old_carded, is_set, is_some, is_staying, le-ltb, length, move_at, nat_lt, object_at, option_map, placed_at, refl, region_generation, region_of, same_address, subst, sym, true, with_object, ℕ, ◌&&◌, ◌+◌, ◌<◌, ◌∙◌, ◌≡◌, ◌≢◌, ◌⊎◌}
use Rattle.hd_plan.proofs.{MoveEnds.ends_more, MoveEnds.ends_here, MoveEnds.ends_cases, MoveEnds.ends_skip, LayStep.after_past, LayStep.reached_cases, CommitCopies.get_placed, CommitCopies.has_alike, CommitCopies.field_alike, CommitCopies.generation_alike}
use Rattle.std.specs.FinMap as map_of

-- one object more is rewritten
module _ {Those : Addr → Type 0} {forwarding : Addr → Addr} {old h : Heap}
    (r : AreRewritten Those forwarding old h) where
  rewritten_generation : (a : Addr) → generation_at (object_at h) a ≡ generation_at (object_at old) a
  rewritten_generation a =
      generation_alike old h a (r.there a) (ap (λ (x : Heap). region_generation x (region_of a)) r.same)

  rewritten_field : (a y : Addr) → (Those a → ⊥) → IsField (object_at h) a y → IsField (object_at old) a y
  rewritten_field a y other field = field_alike old h a a y (r.others a other) field

  pub rewritten_more : (Next : Addr → Type 0) (new : Heap) (x : Addr)
      → new ≡ with_object h x (forwarded forwarding (placed_at h x))
      → has_object old x ≡ true → (Those x → ⊥) → Next x
      → ((a : Addr) → Those a → Next a) → ((a : Addr) → Next a → Those a ⊎ (a.0 ≡ x.0))
      → AreRewritten Next forwarding old new
  rewritten_more Next new x step there fresh joins keeps only =
      let p = forwarded forwarding (placed_at h x) in
      let was : map_of.get h.objects x.0 ≡ map_of.get old.objects x.0 = r.others x fresh in
      let here : (a : Addr) → a.0 ≡ x.0
      → map_of.get new.objects a.0 ≡ option_map (forwarded forwarding) (map_of.get old.objects a.0) = λ a e.
      ap (λ (k : Heap). map_of.get k.objects a.0) step ∙ get_same h.objects x.0 a.0 p e
      ∙ ap (option_map (forwarded forwarding)) (sym (get_placed h x (has_alike old h x was ∙ there)) ∙ was
      ∙ ap (map_of.get old.objects) (sym e)) in
      let beside : (a : Addr) → a.0 ≢ x.0 → map_of.get new.objects a.0 ≡ map_of.get h.objects a.0 = λ a apart.
      ap (λ (k : Heap). map_of.get k.objects a.0) step ∙ get_other h.objects x.0 a.0 p apart in
      record {
        done = λ a next. elim (cases_eq a.0 x.0) [
          | inl same ↦ here a same
          | inr apart ↦ elim (only a next) [
            | inl those ↦ beside a apart ∙ r.done a those
            | inr same ↦ absurd (apart same)
          ]
        ];
        others = λ a none. beside a (λ same. none (subst Next (sym (same_address a x same)) joins))
            ∙ r.others a (λ those. none (keeps a those));
        there = λ a. elim (cases_eq a.0 x.0) [
          | inl same ↦ has-get new a ∙ ap is_some (ap (λ (k : Heap). map_of.get k.objects a.0) step
              ∙ get_same h.objects x.0 a.0 p same) ∙ sym (ap (has_object old) (same_address a x same) ∙ there)
          | inr apart ↦ has_alike h new a (beside a apart) ∙ r.there a
        ];
        same = step ∙ ap (λ (k : Heap). with_object k x p) r.same ∙ ap (λ os. record old { objects = os })
            (ap (λ os. map_of.insert os x.0 p) refl ∙ sym (ap (λ (k : Heap). k.objects) step));
      }

-- an object of a generation above n in a set card, up to an address
abbrev pub IsCardedTo : Heap → ℕ → Option Addr → Addr → Type 0
IsCardedTo h n after a = (is_old_carded h n a ≡ true) × (is_after after a ≡ false)

-- the objects in set cards, one after another
module _ {forwarding : Addr → Addr} {old h : Heap} (n : ℕ) (after : Option Addr)
    (r : AreRewritten (IsCardedTo old n after) forwarding old h) where
  carded_same : (a : Addr) → is_old_carded h n a ≡ is_old_carded old n a
  carded_same a =
      let generation = rewritten_generation r a in
      let set = ap (λ (x : Heap). is_set x (card_of a)) r.same in
      λ i. (r.there a i && nat_lt n (generation i)) && set i

  pub carded_next : (at : Addr) → IsNext (is_old_carded h n) after at → (new : Heap)
      → new ≡ with_object h at (forwarded forwarding (placed_at h at))
      → AreRewritten (IsCardedTo old n (Some at)) forwarding old new
  carded_next at found new step =
      let was = sym (carded_same at) ∙ found.member in
      rewritten_more r (IsCardedTo old n (Some at)) new at step (and_parts _ _ (and_parts _ _ was).0).0
      (λ t. both_ways _ t.1 found.beyond) (was, le-ltb at.0 at.0 (omega arith))
      (λ a t. (t.0, le-ltb at.0 a.0 (let low = after_past after at found.beyond a t.1 in omega arith)))
      (λ a t. elim (reached_cases (is_old_carded h n) after at a found (carded_same a ∙ t.0) t.1) [
        | inl early ↦ inl (t.0, early)
        | inr same ↦ inr (ap (λ (x : Addr). x.0) same)
      ])

-- the objects of the first moves that stay, one after another
module _ {forwarding : Addr → Addr} {old h : Heap} {ms : List Move} {i : ℕ}
    (r : AreRewritten (IsStayedAt ms i) forwarding old h) (low : i < length ms) (rising : IsRising ms) where
  pub stayed_other : is_staying (move_at ms i).fate ≡ false
      → AreRewritten (IsStayedAt ms (i + 1)) forwarding old h
  stayed_other other = record {
    done = λ a e. r.done a (ends_skip i other e);
    others = λ a none. r.others a (λ e. none (ends_more i (i + 1) (omega arith) e));
    there = r.there;
    same = r.same;
  }

  stayed_fresh : IsStayedAt ms i (move_at ms i).from → ⊥
  stayed_fresh e =
      let less = rising e.at i e.before low in
      let same : (move_at ms e.at).from.0 ≡ (move_at ms i).from.0 = ap (λ (x : Addr). x.0) e.is in
      omega arith

  pub stayed_field : (y : Addr) → IsField (object_at h) (move_at ms i).from y
      → IsField (object_at old) (move_at ms i).from y
  stayed_field y field =
      rewritten_field r (move_at ms i).from y stayed_fresh field

  pub stayed_next : (new : Heap) → is_staying (move_at ms i).fate ≡ true
      → has_object old (move_at ms i).from ≡ true
      → new ≡ with_object h (move_at ms i).from (forwarded forwarding (placed_at h (move_at ms i).from))
      → AreRewritten (IsStayedAt ms (i + 1)) forwarding old new
  stayed_next new stays there step =
      rewritten_more r (IsStayedAt ms (i + 1)) new (move_at ms i).from step there stayed_fresh
      (ends_here i stays refl)
      (λ a e. ends_more i (i + 1) (omega arith) e)
      (λ a e. elim (ends_cases i e) [
        | inl was ↦ inl was
        | inr new_one ↦ inr (ap (λ (x : Addr). x.0) (sym new_one.1))
      ])
