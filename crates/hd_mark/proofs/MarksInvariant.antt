-- What marks keep of their bits and their log.
use Rattle.hd_mark.proofs.Basics.{Addr, AreMarks, Basis, FinSet, Heap, IsNextDone, IsTraced, List, MarksOf, None, Option, REGION, Some, WORDS, [], advanced, and_parts, ap, arith, bit_of, cases_Bool, contains, drop, drop-append-le, drop_more, false, first_marks, generation_in, if◌then◌else◌, inl, inr, insert, is_condemned, is_object, is_older, is_set, is_some, le-ltb, leb-true, left, length, length-append, length-drop, mapped_value, marked_also, nat_cmp, objects_of, offset_of, or_parts, pinned_also, pinned_in, index_at, promoted_in, pushed, refl, seen, set_of, subst, sym, take, take-append-le, take_more, true, ℕ, ◌%◌, ◌*◌, ◌++◌, ◌+◌, ◌<◌, ◌||◌, ◌∙◌, ◌∷◌, ◌≡◌, ◌≢◌, ◌≤◌}
use Rattle.hd_model.specs.{Heap.region_of, State.Object}
use Rattle.hd_mark.specs.declared.indexes.Indexes.{Indexes}
use Rattle.hd_mark.proofs.MarkBits.{bit_read, bit_joins, set_of_none}
use Rattle.hd_mark.proofs.{UnmarkedCount.left_falls, MarkPush.mark_traced}
use Rattle.hd_mark.proofs.MarkDrain.{advance_traced, pin_traced}

-- what is no object has generation 0
no_generation : (o : Option (Object Addr)) → is_some o ≡ false → generation_in o ≡ 0
no_generation None e = refl
no_generation (Some x) e = absurd (cc e)

-- no bit is set at first, and nothing is logged
pub first_seen : (h : Heap) (n : ℕ) (indexes marks pins : List ℕ) {log : List Addr}
    → ((i : ℕ) → is_set marks i ≡ false) → ((i : ℕ) → is_set pins i ≡ false) → log ≡ []
    → seen (record { heap = h; condemned = n }) indexes marks pins log 0 ≡ first_marks h n
first_seen h n indexes marks pins unmarked unpinned none = λ i. record {
  basis = record { heap = h; condemned = n };
  marks = set_of_none indexes marks unmarked i;
  pins = set_of_none indexes pins unpinned i;
  scanned = take 0 (none i);
  unscanned = drop 0 (none i);
}

module _ {b : Basis} {p : Indexes} {marks pins : List ℕ} {log : List Addr} {next room : ℕ}
    (t : AreMarks b p marks pins log next room) {m : MarksOf}
    (view : seen b p.indexes.items marks pins log next ≡ m) where
  abbrev indexes : List ℕ
  indexes = p.indexes.items

  abbrev shown : (marks pins : List ℕ) → List Addr → ℕ → MarksOf
  shown marks pins log from = seen b indexes marks pins log from

  known : IsTraced m
  known = subst IsTraced view t.traced

  again : (marked pinned : List ℕ) (logged : List Addr) (from : ℕ) → length marked ≡ length marks
      → length pinned ≡ length pins
      → length logged + left (set_of indexes marked) t.condemned.members ≤ room → from ≤ length logged
      → {k : MarksOf} → shown marked pinned logged from ≡ k → IsTraced k
      → AreMarks b p marked pinned logged from room
  again marked pinned logged from same_marks same_pins fits within is traced = record {
    indexes = t.indexes;
    marks_long = same_marks ∙ t.marks_long;
    pins_long = same_pins ∙ t.pins_long;
    number = t.number;
    condemned = t.condemned;
    room_left = fits;
    within = within;
    traced = subst IsTraced (sym is) traced;
  }

  -- one more was scanned
  module _ (done : IsNextDone m) where
    next_within : next < length log
    next_within =
        let known = ap length (ap (λ (k : MarksOf). k.unscanned) view ∙ done.unscanned_is) in
        omega (arith, length-drop next log, known)

    pub advance_seen : shown marks pins log (next + 1) ≡ advanced m
    advance_seen =
        let one : shown marks pins log (next + 1) ≡ advanced (shown marks pins log next) =
        λ i. record (shown marks pins log next) {
          scanned = (take_more log next done.next next_within
              ∙ ap (λ xs. take next log ++ take 1 xs) (sym (drop_more log next done.next next_within))) i;
          unscanned = ap (drop 1) (sym (drop_more log next done.next next_within)) i;
        } in
        one ∙ ap advanced view

    pub advance_kept : AreMarks b p marks pins log (next + 1) room
    advance_kept =
        again marks pins log (next + 1) refl refl t.room_left (let w = next_within in omega arith)
        advance_seen (advance_traced m done known)

    -- and nothing is left to scan: the next index is the end of the log
    module _ (last : drop 1 m.unscanned ≡ []) (end : ℕ) (whole : end ≡ length log) where
      passed : next + 1 ≡ end
      passed =
          let known = ap length (ap (λ (k : MarksOf). drop 1 k.unscanned) view ∙ last) in
          omega (arith, whole, next_within, known, length-drop 1 (drop next log), length-drop next log)

      pub last_seen : shown marks pins log end ≡ advanced m
      last_seen = subst (λ (k : ℕ). shown marks pins log k ≡ advanced m) passed advance_seen

      pub last_kept : AreMarks b p marks pins log end room
      last_kept = subst (λ (k : ℕ). AreMarks b p marks pins log k room) passed advance_kept

  -- where no bit of a condemned region is set, no object of it is promoted
  module _ (r index : ℕ) (is : index_at indexes r ≡ Some index)
      (none : (k : ℕ) → k < REGION → is_set marks (index * REGION + k) ≡ false) where
    unmarked : (a : Addr) → region_of a ≡ r → contains m.marks a.0 ≡ false
    unfolding region_of
    unmarked a here =
        ap (λ (k : MarksOf). contains k.marks a.0) (sym view)
        ∙ sym (bit_read indexes a.0 index (ap (index_at indexes) here ∙ is) refl marks)
        ∙ none (a.0 % REGION) (omega arith)

    not_old : (a : Addr) → region_of a ≡ r → is_older b a ≡ false
    not_old a here = elim (cases_Bool (is_object (objects_of b) a)) [
      | inl there ↦
          let young : is_condemned b.heap b.condemned a ≡ true =
          sym (t.indexes.covers a there) ∙ ap is_some (ap (index_at indexes) here ∙ is) in
          le-ltb _ _ (leb-true _ _ (and_parts _ _ young).1)
      | inr missing ↦ le-ltb _ _ (omega (arith, no_generation (objects_of b a) missing))
    ]

    pub unpromoted : (a : Addr) → region_of a ≡ r → promoted_in m a ≡ false
    unpromoted a here =
        ap (λ (k : MarksOf). is_older k.basis a || contains m.marks a.0) (sym view)
        ∙ ap (λ b. b || contains m.marks a.0) (not_old a here) ∙ unmarked a here

  -- and all bits of a region of an index are there
  pub words_there : (r index : ℕ) → index_at indexes r ≡ Some index → WORDS * (index + 1) ≤ length marks
  words_there r index is = omega (arith, t.indexes.table.within r index is, t.marks_long)

  module _ (at : Addr) (object : is_object (objects_of m.basis) at ≡ true) where
    there : is_object (objects_of b) at ≡ true
    there = subst (λ (k : MarksOf). is_object (objects_of k.basis) at ≡ true) (sym view) object

    -- its region is in the table
    pub spanned : region_of at < length indexes
    spanned = t.indexes.span at there

    module _ {bit : ℕ} (is : bit_of indexes at ≡ Some bit) where
      index : (q : ℕ) × ((index_at indexes (region_of at) ≡ Some q) × (q * REGION + offset_of at ≡ bit))
      index = mapped_value (λ q. q * REGION + offset_of at) (index_at indexes (region_of at)) bit is

      condemned_here : is_condemned b.heap b.condemned at ≡ true
      condemned_here = sym (t.indexes.covers at there) ∙ ap is_some index.1.0

      not_older : is_older m.basis at ≡ false
      not_older =
          subst (λ (k : MarksOf). is_older k.basis at ≡ false) view
          (le-ltb _ _ (leb-true _ _ (and_parts _ _ condemned_here).1))

      -- its bits say whether an object is promoted and pinned
      pub promoted_read : is_set marks bit ≡ promoted_in m at
      unfolding region_of
      promoted_read =
          bit_read indexes at.0 index.0 index.1.0 index.1.1 marks
          ∙ ap (λ (k : MarksOf). contains k.marks at.0) view
          ∙ sym (ap (λ b. b || contains m.marks at.0) not_older)

      pub pinned_read : is_set pins bit ≡ pinned_in m at
      unfolding region_of
      pinned_read =
          bit_read indexes at.0 index.0 index.1.0 index.1.1 pins
          ∙ ap (λ (k : MarksOf). contains k.pins at.0) view
          ∙ sym (ap (λ b. b || contains m.pins at.0) not_older)

      -- what is marked is not pushed
      pub push_none : is_set marks bit ≡ true → m ≡ pushed m at
      push_none marked = sym (ap (λ b. if b then m else marked_also m at) (sym promoted_read ∙ marked))

      module _ (after : List ℕ) (joins : is_set after bit ≡ true) where
        more : (words : List ℕ) → ((k : ℕ) → k ≢ bit → is_set after k ≡ is_set words k)
            → set_of indexes after ≡ insert (set_of indexes words) at.0
        unfolding region_of
        more words = bit_joins indexes at.0 index.0 index.1.0 index.1.1 words after t.indexes.table joins

        -- it is pinned
        module _ (others : (k : ℕ) → k ≢ bit → is_set after k ≡ is_set pins k) where
          pub pin_seen : shown marks after log next ≡ pinned_also m at
          pin_seen =
              let one : shown marks after log next ≡ record (shown marks pins log next) {
                pins = insert (set_of indexes pins) at.0;
              } =
              λ i. record (shown marks pins log next) { pins = more pins others i } in
              one ∙ ap (λ (k : MarksOf). record k { pins = insert k.pins at.0 }) view
              ∙ sym (ap (λ b. if b then m else (record m { pins = insert m.pins at.0 })) not_older)

          pub pin_kept : length after ≡ length pins → AreMarks b p marks after log next room
          pin_kept same =
              again marks after log next refl same t.room_left t.within pin_seen (pin_traced m at known)

        -- it is marked and logged, and had room there
        module _ (others : (k : ℕ) → k ≢ bit → is_set after k ≡ is_set marks k)
            (unmarked : promoted_in m at ≡ false) where
          fewer_left : left (set_of indexes after) t.condemned.members + 1
              ≤ left (set_of indexes marks) t.condemned.members
          fewer_left =
              subst (λ (s : FinSet nat_cmp). left s t.condemned.members + 1
              ≤ left (set_of indexes marks) t.condemned.members) (sym (more marks others))
              (left_falls (set_of indexes marks) at t.condemned.members t.condemned.apart
              (ap (λ (k : MarksOf). contains k.marks at.0) view ∙ (or_parts _ _ unmarked).1)
              (t.condemned.all at condemned_here))

          pub push_room : length log < room
          push_room = let fewer = fewer_left in let enough = t.room_left in omega arith

          module _ {longer : List Addr} (longer_is : longer ≡ log ++ at ∷ []) where
            marked_seen : shown after pins longer next ≡ marked_also m at
            marked_seen =
                let one : shown after pins longer next ≡ marked_also (shown marks pins log next) at =
                λ i. record (shown marks pins log next) {
                  marks = more marks others i;
                  scanned = (ap (take next) longer_is ∙ take-append-le next log (at ∷ []) t.within) i;
                  unscanned = (ap (drop next) longer_is ∙ drop-append-le next log (at ∷ []) t.within) i;
                } in
                one ∙ ap (λ (k : MarksOf). marked_also k at) view

            pub push_seen : shown after pins longer next ≡ pushed m at
            push_seen = marked_seen ∙ sym (ap (λ b. if b then m else marked_also m at) unmarked)

            pub push_kept : length after ≡ length marks → AreMarks b p after pins longer next room
            push_kept same =
                let one = ap length longer_is ∙ length-append log (at ∷ []) in
                again after pins longer next same refl (omega (arith, fewer_left, t.room_left, one))
                (omega (arith, one, t.within)) marked_seen (mark_traced m at object unmarked known)
