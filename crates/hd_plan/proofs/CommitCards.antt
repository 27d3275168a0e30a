-- Lemmas on cards that are set and cleared.
use Rattle.hd_plan.proofs.Basics.{Addr, AreCarded, Bool, CARD, Contains, HasClosedFields, Heap, IsField, IsNext, IsSound, IsWalk, List, MayCard, Move, NamesYounger, NeedsCard, None, Object, Objects, Option, Some, and_from, and_left, and_parts, ap, arith, both_ways, cases_eq, cases_lt, eq-eqb, eq_by_cmp, eqb-true, false, false_from_ne_true, fields_in, generation_at, has_object, inl, inr, is_after, is_kept_fate, is_old_carded, is_set, is_some, lt-ltb, ltb-false, ltb-true, move_at, nat_cmp, nat_lt, not, object_at, or_left, or_parts, refl, same_Some, same_address, starts_in, subst, sym, true, with_card, ℕ, ◌&&◌, ◌*◌, ◌+◌, ◌-◌, ◌/◌, ◌<◌, ◌^◌, ◌||◌, ◌↔◌, ◌∙◌, ◌≡◌, ◌≢◌, ◌≤◌}
use Rattle.std.specs.Cmp.{nat_cmp_total}
use Rattle.hd_model.specs.Heap.{card_of}
use Rattle.hd_heap.proofs.IndexedLists.{tied, untied}
use Rattle.hd_plan.proofs.{MoveEnds.ends_cases, LayStep.address_low, LayStep.reach_of, LayStep.reach_on}
use Rattle.std.specs.FinSet as set_of

-- cards alone were changed, and changed again
pub cards_alone : (old h new : Heap) → h ≡ record old { cards = h.cards }
    → new ≡ record h { cards = new.cards } → new ≡ record old { cards = new.cards }
cards_alone old h new same step = step ∙ ap (λ (x : Heap). record x { cards = new.cards }) same

only_cards : (old h new : Heap) (k : ℕ) (on : Bool) → h ≡ record old { cards = h.cards }
    → new ≡ with_card h k on → new ≡ record old { cards = new.cards }
only_cards old h new k on same step = cards_alone old h new same
    (step ∙ ap (λ cs. record h { cards = cs }) (sym (ap (λ (x : Heap). x.cards) step)))

card_here : (h new : Heap) (k : ℕ) (on : Bool) → new ≡ with_card h k on → is_set new k ≡ on
card_here h new k true step = ap (λ (x : Heap). is_set x k) step
    ∙ set_of.contains-insert nat_cmp_total h.cards k k
    ∙ or_left (eq_by_cmp nat_cmp k k) (is_set h k) (tied k k refl)
card_here h new k false step = ap (λ (x : Heap). is_set x k) step
    ∙ set_of.contains-remove nat_cmp_total h.cards k k
    ∙ and_left (not (eq_by_cmp nat_cmp k k)) (is_set h k) (ap not (tied k k refl))

card_beside : (h new : Heap) (k c : ℕ) (on : Bool) → c ≢ k → new ≡ with_card h k on
    → is_set new c ≡ is_set h c
card_beside h new k c true apart step = ap (λ (x : Heap). is_set x c) step
    ∙ set_of.contains-insert nat_cmp_total h.cards k c ∙ ap (λ b. b || is_set h c) (untied c k apart)
card_beside h new k c false apart step = ap (λ (x : Heap). is_set x c) step
    ∙ set_of.contains-remove nat_cmp_total h.cards k c ∙ ap (λ b. not b && is_set h c) (untied c k apart)

-- what is the same in two heaps with the same objects
pub names_alike : {h k : Heap} {a : Addr} → object_at h ≡ object_at k → NamesYounger h a → NamesYounger k a
names_alike {h} {k} {a} same n = record {
  target = n.target;
  field = subst (λ (o : Objects Addr). IsField o a n.target) same n.field;
  younger = subst (λ (o : Objects Addr). generation_at o n.target < generation_at o a) same n.younger;
}

needs_alike : {h k : Heap} {c : ℕ} → object_at h ≡ object_at k → NeedsCard h c → NeedsCard k c
needs_alike same n = record {
  from = n.from;
  to = n.to;
  in_card = n.in_card;
  field = subst (λ (o : Objects Addr). IsField o n.from n.to) same n.field;
  younger = subst (λ (o : Objects Addr). generation_at o n.to < generation_at o n.from) same n.younger;
}

-- the cards of kept objects, one more
module _ {old h : Heap} {ms : List Move} {i : ℕ} (r : AreCarded old h ms i) where
  carded_none : (is_kept_fate (move_at ms i).fate ≡ true → NamesYounger h (move_at ms i).to → ⊥)
      → AreCarded old h ms (i + 1)
  carded_none none = record {
    same = r.same;
    more = r.more;
    done = λ b e n. elim (ends_cases i e) [
      | inl was ↦ r.done b was n
      | inr here ↦ absurd (none here.0
          (names_alike (sym (ap object_at r.same)) (subst (NamesYounger old) (sym here.1) n)))
    ];
  }

  carded_also : (new : Heap) → new ≡ with_card h (card_of (move_at ms i).to) true
      → AreCarded old new ms (i + 1)
  carded_also new step =
      let k = card_of (move_at ms i).to in
      let more : (c : ℕ) → is_set h c ≡ true → is_set new c ≡ true = λ c was. elim (cases_eq c k) [
        | inl here ↦ ap (is_set new) here ∙ card_here h new k true step
        | inr apart ↦ card_beside h new k c true apart step ∙ was
      ] in
      record {
        same = only_cards old h new k true r.same step;
        more = λ c was. more c (r.more c was);
        done = λ b e n. elim (ends_cases i e) [
          | inl was ↦ more (card_of b) (r.done b was n)
          | inr here ↦ ap (λ x. is_set new (card_of x)) (sym here.1) ∙ card_here h new k true step
        ];
      }

  pub carded_step : (new : Heap) → MayCard h new (move_at ms i) → AreCarded old new ms (i + 1)
  carded_step new (inl step) = carded_also new step
  carded_step new (inr none) =
      subst (λ (x : Heap). AreCarded old x ms (i + 1)) (sym none.0) (carded_none none.1)

-- what has a field is an object
pub has_from : (h : Heap) (x y : Addr) → IsField (object_at h) x y → has_object h x ≡ true
has_from h x y field = by (object_at h x) field
  where
    by : (o : Option (Object Addr)) → Contains (fields_in o) (Some y) → is_some o ≡ true
    by None f = absurd (let within = f.1 in omega arith)
    by (Some o) f = refl

-- an object that starts in a card
pub starts_from : (h : Heap) (card : ℕ) (b : Addr) → has_object h b ≡ true → card_of b ≡ card
    → starts_in h card b ≡ true
starts_from h card b is here = and_from _ _ is (eq-eqb _ _ here)

pub starts_parts : (h : Heap) (card : ℕ) (b : Addr) → starts_in h card b ≡ true
    → (has_object h b ≡ true) × (card_of b ≡ card)
starts_parts h card b starts = let parts = and_parts _ _ starts in (parts.0, eqb-true _ _ parts.1)

pub card_order : (a b : Addr) → a.0 ≤ b.0 → card_of a ≤ card_of b
unfolding card_of
card_order a b le = omega arith

pub card_is : (a : Addr) → card_of a ≡ a.0 / CARD
unfolding card_of
card_is a = refl

-- the next object, where it starts in the same card and where it does not
pub next_within : (h : Heap) (at next : Addr) → IsNext (has_object h) (Some at) next
    → next.0 / CARD ≡ at.0 / CARD → IsNext (starts_in h (card_of at)) (Some at) next
next_within h at next is here = record {
  member = starts_from h (card_of at) next is.member (card_is next ∙ here ∙ sym (card_is at));
  beyond = is.beyond;
  least = λ b starts after. is.least b (starts_parts h (card_of at) b starts).0 after;
}

pub next_beyond : (h : Heap) (at next : Addr) → IsNext (has_object h) (Some at) next
    → (next.0 / CARD ≡ at.0 / CARD → ⊥) → (a : Addr) → starts_in h (card_of at) a ≡ true
    → nat_lt at.0 a.0 ≡ false
next_beyond h at next is other a starts = false_from_ne_true (nat_lt at.0 a.0) (λ after.
    let parts = starts_parts h (card_of at) a starts in
    let low = is.least a parts.0 after in
    let high = ltb-true at.0 next.0 is.beyond in
    let same : a.0 / CARD ≡ at.0 / CARD = sym (card_is a) ∙ parts.1 ∙ card_is at in
    other (omega arith))

-- how many addresses of 32 bits there are from a given one on; none where there is none
abbrev pub left_from : Option Addr → ℕ
left_from None = 0
left_from (Some a) = 2 ^ 32 - a.0

-- an address before a given one; each is before the end, where there is none
abbrev pub IsBefore : Option Addr → Addr → Type 0
IsBefore None b = Unit {0}
IsBefore (Some a) b = b.0 < a.0

-- no object of a card that is before an address has a field to a younger one
pub record AreUnneeding (h : Heap) (card : ℕ) (forwarding : Option Addr) : Type 0 where
  pub here : (a : Addr) → forwarding ≡ Some a → starts_in h card a ≡ true
  pub before : (b : Addr) → starts_in h card b ≡ true → IsBefore forwarding b → NamesYounger h b → ⊥

pub unneeding_starts : (h : Heap) (first : Addr) → has_object h first ≡ true
    → ((b : Addr) → starts_in h (card_of first) b ≡ true → first.0 ≤ b.0)
    → AreUnneeding h (card_of first) (Some first)
unneeding_starts h first is least = record {
  here = λ a e. subst (λ (x : Addr). starts_in h (card_of first) x ≡ true) (same_Some first a e)
      (starts_from h (card_of first) first is refl);
  before = λ b starts low needs. (let high = least b starts in absurd (omega arith));
}

module _ {h : Heap} {card : ℕ} {forwarding : Option Addr} (r : AreUnneeding h card forwarding) (at : Addr)
    (is : forwarding ≡ Some at) where
  pub unneeding_object : has_object h at ≡ true
  unneeding_object = (starts_parts h card at (r.here at is)).0

  pub unneeding_found : NamesYounger h at → NeedsCard h card
  unneeding_found n = record {
    from = at;
    to = n.target;
    in_card = (starts_parts h card at (r.here at is)).1;
    field = n.field;
    younger = n.younger;
  }

  pub unneeding_next : (next : Option Addr) → (NamesYounger h at → ⊥)
      → IsWalk (starts_in h (card_of at)) (Some at) next → AreUnneeding h card next
  unneeding_next next none walk =
      let here = (starts_parts h card at (r.here at is)).1 in
      by next (subst (λ (k : ℕ). IsWalk (starts_in h k) (Some at) next) here walk)
    where
      -- up to this object
      through : (b : Addr) → starts_in h card b ≡ true → b.0 ≤ at.0 → NamesYounger h b → ⊥
      through b starts le n = elim (cases_eq b.0 at.0) [
        | inl same ↦ none (subst (NamesYounger h) (same_address b at same) n)
        | inr apart ↦ r.before b starts (subst (λ o. IsBefore o b) (sym is) (omega arith)) n
      ]

      by : (o : Option Addr) → IsWalk (starts_in h card) (Some at) o → AreUnneeding h card o
      by None w = record {
        here = λ a e. absurd (cc e);
        before = λ b starts low n. through b starts (ltb-false at.0 b.0 (w b starts)) n;
      }
      by (Some x) w = record {
        here = λ a e. subst (λ (y : Addr). starts_in h card y ≡ true) (same_Some x a e) w.member;
        before = λ b starts low n. elim (cases_lt at.0 b.0) [
          | inl after ↦ absurd (let high = w.least b starts (lt-ltb at.0 b.0 after) in omega arith)
          | inr up ↦ through b starts up n
        ];
      }

  -- the addresses left are fewer
  pub unneeding_less : (next : Option Addr) → IsSound h → IsWalk (starts_in h (card_of at)) (Some at) next
      → left_from next < left_from forwarding
  unneeding_less next sound walk = subst (λ o. left_from next < left_from o) (sym is) (by next walk)
    where
      by : (o : Option Addr) → IsWalk (starts_in h (card_of at)) (Some at) o
          → left_from o < left_from (Some at)
      by None w = (let low = (address_low h sound at unneeding_object).1 in omega arith)
      by (Some x) w = (let up = ltb-true at.0 x.0 w.beyond in
          let low = (address_low h sound at unneeding_object).1 in omega arith)

pub unneeding_ends : {h : Heap} {card : ℕ} → AreUnneeding h card None → NeedsCard h card → ⊥
unneeding_ends {h} {card} r n =
    r.before n.from (starts_from h card n.from (has_from h n.from n.to n.field) n.in_card) tt
    (record { target = n.to; field = n.field; younger = n.younger })

-- cards are set only where an object needs them up to the end of the card in which an address is, and
-- everywhere where one does; where `some` is false none is set up to there
pub record IsExactBehind (old h : Heap) (after : Option Addr) (some : Bool) : Type 0 where
  pub end : ℕ
  pub same : h ≡ record old { cards = h.cards }
  pub needed : (c : ℕ) → c < end → is_set h c ≡ true → NeedsCard old c
  pub none : some ≡ false → (c : ℕ) → c < end → is_set h c ≡ false
  pub kept : (c : ℕ) → NeedsCard old c → is_set h c ≡ true
  pub is : reach_of after ≡ end * CARD

module _ {old h : Heap} {after : Option Addr} {some : Bool} (sound : IsSound h) (grown : (a : Addr)
    → has_object old a ≡ true → 0 < generation_at (object_at old) a) (r : IsExactBehind old h after some) where
  pub exact_fields : HasClosedFields (object_at old) → HasClosedFields (object_at h)
  exact_fields closed = subst HasClosedFields (sym (ap object_at r.same)) closed

  -- an object in a set card after the end is walked over later
  beyond : (b : Addr) → r.end ≤ card_of b → is_after after b ≡ true
  beyond b high = by after r.is
    where
      by : (o : Option Addr) → reach_of o ≡ r.end * CARD → is_after o b ≡ true
      by None e = refl
      by (Some a) e = lt-ltb a.0 b.0 (let is = card_is b in omega arith)

  walked : (b : Addr) → has_object h b ≡ true → is_set h (card_of b) ≡ true → is_old_carded h 0 b ≡ true
  walked b is set =
      let there : has_object old b ≡ true = sym (ap (λ (k : Heap). has_object k b) r.same) ∙ is in
      let old_enough : 0 < generation_at (object_at h) b =
      subst (λ (k : Heap). 0 < generation_at (object_at k) b) (sym r.same) (grown b there) in
      and_from _ _ (and_from _ _ is (lt-ltb 0 (generation_at (object_at h) b) old_enough)) set

  module _ {at : Addr} (found : IsNext (is_old_carded h 0) after at) where
    parts : (has_object h at ≡ true) × (is_set h (card_of at) ≡ true)
    parts = let p = and_parts _ _ found.member in ((and_parts _ _ p.0).0, p.1)

    above : r.end ≤ card_of at
    above = (let is = card_is at in let on = reach_on after at found.beyond in let end = r.is in omega arith)

    pub exact_first : (b : Addr) → starts_in h (card_of at) b ≡ true → at.0 ≤ b.0
    exact_first b starts =
        let p = starts_parts h (card_of at) b starts in
        let high : r.end ≤ card_of b = subst (λ k. r.end ≤ k) (sym p.1) above in
        found.least b (walked b p.0 (ap (is_set h) p.1 ∙ parts.1)) (beyond b high)

    pub exact_less : (last : Addr) → last.0 + 1 ≡ (card_of at + 1) * CARD
        → 2 ^ 32 - reach_of (Some last) < 2 ^ 32 - reach_of after
    exact_less last is =
        (let forwarding = r.is in let up = above in let low = (address_low h sound at parts.0).1 in
        let card = card_is at in omega arith)

    -- no set card is between
    between : (c : ℕ) → r.end ≤ c → c < card_of at → is_set h c ≡ false
    between c high low = false_from_ne_true (is_set h c) (λ set.
        let s = sound.cards c set in
        let in_card = s.in_card in
        let up : r.end ≤ card_of s.at = subst (λ k. r.end ≤ k) (sym s.in_card) high in
        let least = found.least s.at (walked s.at s.object (ap (is_set h) s.in_card ∙ set)) (beyond s.at up) in
        let order = card_order at s.at least in omega arith)

    pub exact_step : (new : Heap) (last : Addr) (needed : Bool) → last.0 + 1 ≡ (card_of at + 1) * CARD
        → ((needed ≡ true) ↔ NeedsCard h (card_of at)) → new ≡ with_card h (card_of at) needed
        → IsExactBehind old new (Some last) (some || needed)
    exact_step new last needed is decides step = record {
      end = card_of at + 1;
      same = only_cards old h new (card_of at) needed r.same step;
      needed = λ c low set. elim (cases_eq c (card_of at)) [
        | inl here ↦
            let on : needed ≡ true = sym (card_here h new (card_of at) needed step)
            ∙ ap (is_set new) (sym here) ∙ set in
            subst (NeedsCard old) (sym here) (needs_alike (ap object_at r.same) (decides.0 on))
        | inr apart ↦
            let was = sym (card_beside h new (card_of at) c needed apart step) ∙ set in
            elim (cases_lt c r.end) [
              | inl before ↦ r.needed c before was
              | inr high ↦ absurd (both_ways _ (between c high (omega arith)) was)
            ]
      ];
      none = λ e c low.
          let off = or_parts some needed e in
          elim (cases_eq c (card_of at)) [
            | inl here ↦ ap (is_set new) here ∙ card_here h new (card_of at) needed step ∙ off.1
            | inr apart ↦ card_beside h new (card_of at) c needed apart step ∙ elim (cases_lt c r.end) [
              | inl before ↦ r.none off.0 c before
              | inr high ↦ between c high (omega arith)
            ]
          ];
      kept = λ c n. elim (cases_eq c (card_of at)) [
        | inl here ↦
            let on : needed ≡ true =
            decides.1 (needs_alike (sym (ap object_at r.same)) (subst (NeedsCard old) here n)) in
            ap (is_set new) here ∙ card_here h new (card_of at) needed step ∙ on
        | inr apart ↦ card_beside h new (card_of at) c needed apart step ∙ r.kept c n
      ];
      is = is;
    }

  module _ (none : (a : Addr) → is_old_carded h 0 a ≡ true → is_after after a ≡ false) where
    behind : (c : ℕ) → is_set h c ≡ true → c < r.end
    behind c set = elim (cases_lt c r.end) [
      | inl before ↦ before
      | inr high ↦
          let s = sound.cards c set in
          let up : r.end ≤ card_of s.at = subst (λ k. r.end ≤ k) (sym s.in_card) high in
          absurd (both_ways _ (none s.at (walked s.at s.object (ap (is_set h) s.in_card ∙ set)))
          (beyond s.at up))
    ]

    pub exact_ends : (c : ℕ) → (is_set h c ≡ true) ↔ NeedsCard h c
    exact_ends c = (
      λ set. needs_alike (sym (ap object_at r.same)) (r.needed c (behind c set) set),
      λ n. r.kept c (needs_alike (ap object_at r.same) n),
    )

    pub none_set : some ≡ false → (c : ℕ) → is_set h c ≡ false
    none_set e c = false_from_ne_true (is_set h c) (λ set. both_ways _ (r.none e c (behind c set)) set)
