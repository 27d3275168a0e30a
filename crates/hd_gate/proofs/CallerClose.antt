-- Callers as they end, one after another.
use Rattle.hd_gate.proofs.Basics.{CallerView, Divided, Ended, Entry, HasEnded, HasParts, IsPrefix, List, View, WorldView, [], ap, arith, drop, get_or-append, get_or-append_seam, ghosts, inl, inr, joined, length, length-append, part_of, slice_index_or, subst, suc, sym, zero, ℕ, ◌++◌, ◌+◌, ◌<◌, ◌∙◌, ◌∷◌, ◌≡◌}
use Rattle.std.proofs.lemmas.List.{get_or-drop}
use Rattle.hd_custody.proofs.SeatSplit.{at_end}

-- one more has ended
pub one_more_ended : (others : List CallerView) (ended : List Ended) (e : Ended) (c : ℕ)
    → HasEnded others ended → c < length others → e.0 ≡ c + 1
    → ((d : CallerView) → (e.1 ≡ (slice_index_or others c d).part) × (e.2 ≡ (slice_index_or others c d).seen))
    → HasEnded others (ended ++ e ∷ [])
one_more_ended others ended e c has below number part = record {
  each = λ k f at. elim (at_end ended e f k at) [
    | inl there ↦ has.each k f there.1
    | inr last ↦ subst (λ (g : Ended). (n : ℕ) × (n < length others) × (g.0 ≡ n + 1) ×
        ((d : CallerView) → (g.1 ≡ (slice_index_or others n d).part) × (g.2
        ≡ (slice_index_or others n d).seen))) last.1 (c, below, number, part)
  ];
}

-- the seat in which it ended is else as it was
pub ends_in : {W : Type 0} (begun v w n : View W) → v ≡ record begun { room = v.room; ended = v.ended }
    → n ≡ joined v w → n ≡ record begun { room = n.room; ended = n.ended }
ends_in {W = W} begun v w n seat is = subst (λ (x : View W). x
    ≡ record begun { room = x.room; ended = x.ended })
    (sym is)
    (ap (λ (x : View W). record x {
      room = v.room + w.room;
      ended = v.ended ++ (w.number, w.part, w.seen) ∷ [];
    }) seat)

-- the last of those who are left
module _ (all xs ys : List CallerView) (x : CallerView) (popped : xs ≡ ys ++ x ∷ [])
    (rest : (k : ℕ) (d : CallerView) → k < length xs → slice_index_or xs k d ≡ slice_index_or all k d) where
  pub shorter : length xs ≡ length ys + 1
  shorter = omega (arith, ap length popped, length-append ys (x ∷ []))

  pub rest_less : (k : ℕ) (d : CallerView) → k < length ys → slice_index_or ys k d ≡ slice_index_or all k d
  rest_less k d below =
      sym (get_or-append ys (x ∷ []) d k below) ∙ ap (λ l. slice_index_or l k d) (sym popped)
      ∙ rest k d (omega (arith, shorter, below))

  pub is_last : (d : CallerView) → x ≡ slice_index_or all (length ys) d
  is_last d =
      sym (get_or-append_seam ys x [] d) ∙ ap (λ l. slice_index_or l (length ys) d) (sym popped)
      ∙ rest (length ys) d (omega (arith, shorter))

-- the journal of a world that all have left has of each exactly its part
module _ (callers : List CallerView) (first : View WorldView) (w : WorldView)
    (divided : Divided ghosts first w) (made : first.made ≡ length callers)
    (part : (d : CallerView) → first.part ≡ (slice_index_or callers 0 d).part)
    (seen : (d : CallerView) → first.seen ≡ (slice_index_or callers 0 d).seen)
    (ended : HasEnded (drop 1 callers) first.ended) where
  -- what is so of one caller
  abbrev IsIn : ℕ → CallerView → Type 0
  IsIn c p = (part_of w.journal c ≡ p.part) × IsPrefix p.seen w.journal

  is_in : (c : ℕ) (d : CallerView) → c < length callers → IsIn c (slice_index_or callers c d)
  is_in zero d below = (
    divided.own_part ∙ part d,
    subst (λ s. IsPrefix s w.journal) (seen d) divided.own_seen,
  )
  is_in (suc k) d below = elim (divided.each (suc k) (omega (arith, made, below))) [
    | inl none ↦ absurd (omega (arith, none))
    | inr at ↦ (
        let has = ended.each at.0 at.1 at.2 in
        let same : has.0 ≡ k = omega (arith, has.2, at.3) in
        let next : 1 + k ≡ suc k = omega arith in
        let is : slice_index_or (drop 1 callers) has.0 d ≡ slice_index_or callers (suc k) d =
        ap (λ j. slice_index_or (drop 1 callers) j d) same ∙ get_or-drop 1 callers k d
        ∙ ap (λ j. slice_index_or callers j d) next in
        let his = divided.ended_parts at.0 at.1 at.2 in
        subst (IsIn (suc k)) is (
          ap (part_of w.journal) (sym at.3) ∙ his.0 ∙ (has.3 d).0,
          subst (λ s. IsPrefix s w.journal) (has.3 d).1 his.1,
        ))
  ]

  pub has_parts : HasParts callers w.journal
  has_parts = record {
    each = λ c d below. (is_in c d below).0;
    others = λ c above. divided.others c (omega (arith, made, above));
    seen = λ c d below. (is_in c d below).1;
  }
