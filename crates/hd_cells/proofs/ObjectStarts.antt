-- Lemmas on where the objects of a region begin.
use Rattle.hd_cells.proofs.Basics.{CELLS, Contents, HEADER, IsCleared, IsIndexed, IsLaidOut, IsObject, IsRegion, IsWhole, List, NONE, Object, PARTS, ap, arith, cases_eq, cases_lt, cond-false, cond-true, contents_of, empty_region, eq-eqb, eq_by_cmp, eqb, false, false_from_ne_true, get_or, get_or-set_other, get_or-set_same, inl, inr, is_some, length, nat_cmp, nat_cmp_total, ne_eqb, set, subst, sym, true, with_object, with_put, without_object, ℕ, ◌+◌, ◌/◌, ◌<◌, ◌∙◌, ◌≡◌, ◌≤◌}
use Rattle.hd_cells.proofs.{OffsetLookup.tied, OffsetLookup.untied, Contents.IsRead, Contents.laid_out}
use Rattle.std.specs.FinMap as map

-- an index that has no entry where no object is
pub empty_indexed : (starts : List ℕ) → ((k : ℕ) → k < PARTS → get_or starts k 0 ≡ NONE)
    → IsIndexed starts empty_region
empty_indexed starts none q below =
    ne_eqb (get_or starts (q / HEADER) 0) q (λ e. let is : get_or starts (q / HEADER) 0 ≡ NONE =
    none (q / HEADER) (omega arith) in omega (arith, is))
    ∙ sym (ap is_some (map.get-empty {X = Object} nat_cmp q))

module _ (starts : List ℕ) (r : Contents) (long : length starts ≡ PARTS) (indexed : IsIndexed starts r) where
  -- an object that stays one
  pub changed_indexed : (at : ℕ) (o : Object) → IsObject r at → IsIndexed starts (with_object r at o)
  changed_indexed at o is q below = elim (cases_eq q at) [
    | inl same ↦
        let was : map.contains_key r.objects q ≡ true = subst (λ (n : ℕ). map.contains_key r.objects n ≡ true)
        (sym same) is in
        indexed q below ∙ was ∙ sym
        (ap is_some (map.get-insert nat_cmp_total r.objects at o q
        ∙ cond-true (eq_by_cmp nat_cmp q at) _ _ (tied q at same)))
    | inr other ↦ indexed q below
        ∙ sym (ap is_some (map.get-insert nat_cmp_total r.objects at o q
        ∙ cond-false (eq_by_cmp nat_cmp q at) _ _ (untied q at other)))
  ]

  -- an entry of the index after a write to one
  written : (at v q : ℕ) → at < CELLS → q + HEADER ≤ CELLS → (q / HEADER ≡ at / HEADER)
      → get_or (set starts (at / HEADER) v)
      (q / HEADER) 0 ≡ v
  written at v q low below same = subst (λ (k : ℕ). get_or (set starts (at / HEADER) v) k 0 ≡ v) (sym same)
      (get_or-set_same starts (at / HEADER) v 0 (omega arith))

  unwritten : (at v q : ℕ) → (q / HEADER ≡ at / HEADER → ⊥) → get_or (set starts (at / HEADER) v) (q / HEADER)
      0 ≡ get_or starts
      (q / HEADER) 0
  unwritten at v q other = get_or-set_other starts (at / HEADER) (q / HEADER) v 0 other

  -- an object put after all others
  pub put_indexed : (o : Object) → IsLaidOut r → r.fill + HEADER ≤ CELLS → IsIndexed
      (set starts (r.fill / HEADER) r.fill)
      (with_put r o)
  put_indexed o laid room q below = elim (cases_eq q r.fill) [
    | inl same ↦
        let entry : get_or (set starts (r.fill / HEADER) r.fill) (q / HEADER) 0 ≡ r.fill =
        written r.fill r.fill q (omega arith) below (ap (λ (n : ℕ). n / HEADER) same) in
        eq-eqb (get_or (set starts (r.fill / HEADER) r.fill) (q / HEADER) 0) q (entry ∙ sym same)
        ∙ sym (ap is_some (map.get-insert nat_cmp_total r.objects r.fill o q
        ∙ cond-true (eq_by_cmp nat_cmp q r.fill) _ _ (tied q r.fill same)))
    | inr other ↦
        let kept : map.contains_key (with_put r o).objects q ≡ map.contains_key r.objects q =
        ap is_some (map.get-insert nat_cmp_total r.objects r.fill o q
        ∙ cond-false (eq_by_cmp nat_cmp q r.fill) _ _ (untied q r.fill other)) in
        elim (cases_eq (q / HEADER) (r.fill / HEADER)) [
          | inl near ↦
              let entry : get_or (set starts (r.fill / HEADER) r.fill) (q / HEADER) 0 ≡ r.fill =
              written r.fill r.fill q (omega arith) below near in
              let none : map.contains_key r.objects q ≡ false =
              false_from_ne_true (map.contains_key r.objects q) (λ is. let low = laid.below_fill q is in
              omega (arith, low, near)) in
              ne_eqb (get_or (set starts (r.fill / HEADER) r.fill) (q / HEADER) 0) q
              (λ e. other (sym e ∙ entry))
              ∙ sym (kept ∙ none)
          | inr far ↦ ap (λ (n : ℕ). eqb n q) (unwritten r.fill r.fill q far) ∙ indexed q below ∙ sym kept
        ]
  ]

  -- an object that goes
  pub removed_indexed : (at : ℕ) → IsLaidOut r → IsObject r at → IsIndexed (set starts (at / HEADER) NONE)
      (without_object r at)
  removed_indexed at laid is q below =
      let low = laid.below_fill at is in
      let within = laid.within_region in
      elim (cases_eq q at) [
        | inl same ↦
            let entry : get_or (set starts (at / HEADER) NONE) (q / HEADER) 0 ≡ NONE =
            written at NONE q (omega arith) below (ap (λ (n : ℕ). n / HEADER) same) in
            ne_eqb (get_or (set starts (at / HEADER) NONE) (q / HEADER) 0) q (λ e. omega (arith, e, entry))
            ∙ sym (ap is_some (map.get-remove nat_cmp_total r.objects at q
            ∙ cond-true (eq_by_cmp nat_cmp q at) _ _ (tied q at same)))
        | inr other ↦
            let kept : map.contains_key (without_object r at).objects q ≡ map.contains_key r.objects q =
            ap is_some (map.get-remove nat_cmp_total r.objects at q ∙ cond-false (eq_by_cmp nat_cmp q at) _ _
            (untied q at other)) in
            elim (cases_eq (q / HEADER) (at / HEADER)) [
              | inl near ↦
                  let entry : get_or (set starts (at / HEADER) NONE) (q / HEADER) 0 ≡ NONE =
                  written at NONE q (omega arith) below near in
                  let none : map.contains_key r.objects q ≡ false =
                  false_from_ne_true (map.contains_key r.objects q) (λ there.
                  elim (cases_lt q at) [
                    | inl before ↦ let apart = laid.apart q at there is before in omega (arith, apart, near)
                    | inr past ↦ let apart = laid.apart at q is there (omega (arith, other, past)) in
                        omega (arith, apart, near)
                  ]) in
                  ne_eqb (get_or (set starts (at / HEADER) NONE) (q / HEADER) 0) q
                  (λ e. omega (arith, e, entry))
                  ∙ sym (kept ∙ none)
              | inr far ↦ ap (λ (n : ℕ). eqb n q) (unwritten at NONE q far) ∙ indexed q below ∙ sym kept
            ]
      ]

-- a region after a write, with its index
pub whole : {d : List ℕ} {fill : ℕ} {r : Contents} {starts : List ℕ} {stale : ℕ} → IsRegion d fill
    → contents_of d fill ≡ r → IsIndexed starts r → IsCleared d fill stale → IsWhole d fill starts stale
whole {starts = starts} region view indexed cleared = record {
  region = region;
  indexed = subst (IsIndexed starts) (sym view) indexed;
  cleared = cleared;
}

module _ {c : List ℕ} {fill : ℕ} {starts : List ℕ} {stale : ℕ} {r : Contents} (read : IsRead c fill r)
    (is : IsWhole c fill starts stale) (long : length starts ≡ PARTS) where
  pub seen_indexed : IsIndexed starts r
  seen_indexed = subst (IsIndexed starts) read.view is.indexed

  -- an object was written to
  pub whole_written : {d : List ℕ} (at : ℕ) (o : Object) → IsObject r at → IsRead d fill (with_object r at o)
      → IsCleared d fill stale
      → IsWhole d fill starts stale
  whole_written at o there new cleared =
      whole new.region new.view (changed_indexed starts r long seen_indexed at o there) cleared

  -- an object was removed
  pub whole_removed : {d : List ℕ} (at part : ℕ) → part ≡ at / HEADER → IsObject r at
      → IsRead d fill (without_object r at) → IsCleared d fill stale
      → IsWhole d fill (set starts part NONE) stale
  whole_removed {d} at part e there new cleared =
      let P : ℕ → Type 0 = λ k. IsWhole d fill (set starts k NONE) stale in
      subst P (sym e) (whole new.region new.view
      (removed_indexed starts r long seen_indexed at (laid_out read) there) cleared)

  -- an object was put
  pub whole_put : {d : List ℕ} {end rest : ℕ} (part : ℕ) (o : Object) → part ≡ fill / HEADER
      → r.fill + HEADER ≤ CELLS
      → IsRead d end (with_put r o) → IsCleared d end rest → IsWhole d end (set starts part fill) rest
  whole_put {d} {end} {rest} part o e room new cleared =
      let fills : r.fill ≡ fill = ap (λ (x : Contents). x.fill) (sym read.view) in
      let P : ℕ → Type 0 = λ k. IsWhole d end (set starts k fill) rest in
      let Q : ℕ → Type 0 = λ k. IsWhole d end (set starts (k / HEADER) k) rest in
      subst P (sym e) (subst Q fills (whole new.region new.view
      (put_indexed starts r long seen_indexed o (laid_out read) room) cleared))

-- no object begins near the end
pub none_late : {c : List ℕ} {fill : ℕ} {r : Contents} → IsRead c fill r → (at : ℕ) → 254 ≤ at
    → IsObject r at → ⊥
none_late read at late there =
    omega (arith, late, (laid_out read).below_fill at there, (laid_out read).within_region)
