-- The numbers at the end of a run of a load, from any state that it reaches.
use Rattle.hd_script.proofs.Basics.{Chain, Cmd, Entry, IsWellFormed, List, None, Option, Slot, Some, State, Step, StepOf, [], ap, arith, cases_eq, commands_of, cond-false, cond-true, count_entries, eq-eqb, eqb, frees_handle, get_or-le-sum_by, get_or-set_other, get_or-set_same, length, link, load_numbers, makes_handle, makes_object, ne_eqb, none-some, part_of, refl, set, stay, step_keeps, subst, suc, sum_by, sum_by-cons, sum_by-set, sym, total_size, touched_by, value_returned, zero, ℕ, ⊎_elim, ◌*◌, ◌+◌, ◌<◌, ◌∙◌, ◌∷◌, ◌≡◌, ◌≤◌}
use Rattle.hd_script.proofs.LoadPosition.{Line, news, hnews, vals, hgets, reads, drops, others, frees, collects, Index, left_by, left_at, pending, one_if_some, holding, IsAtIndex, nowhere, at, left_of, Fits}
use Rattle.hd_script.proofs.LoadFrame.{fits_moved}
use Rattle.hd_script.proofs.LoadStep.{bit, written, index, Does, does_new, does_hnew, does_val, does_hget, does_read, does_drop, does_other, does_free, does_collect}

same_head : (x y : Cmd) (xs ys : List Cmd) → x ∷ xs ≡ y ∷ ys → x ≡ y
same_head x y xs ys e = cc

same_tail : (x y : Cmd) (xs ys zs : List Cmd) → zs ≡ x ∷ xs → zs ≡ x ∷ ys → xs ≡ ys
same_tail x y xs ys zs e g = cc

-- ---- the next step of a caller

module _ (s t : State) (e : Entry) (c : ℕ) (is : e.caller ≡ c) (small : c < 4)
    (well : IsWellFormed load_numbers s) (rest : List Cmd) (step : StepOf load_numbers s e t e.cmd) where
  -- where the next command is x
  by_command : {p : Index} {x : Cmd} {xs : List Cmd} → x ∷ xs ≡ e.cmd ∷ rest
      → (StepOf load_numbers s e t x → Does s t c p x e.reply) → Does s t c p e.cmd e.reply
  by_command {p} {x} {xs} next does =
      let same : x ≡ e.cmd = same_head x e.cmd xs rest next in
      subst (λ (y : Cmd). Does s t c p y e.reply) same
      (does (subst (StepOf load_numbers s e t) (sym same) step))

  by_line : (line : Line) (j m : ℕ) (h : Option Slot) → IsAtIndex s c (index line j m h)
      → total_size s + 10 * m ≤ 120000 → left_by c line j m ≡ e.cmd ∷ rest
      → Does s t c (index line j m h) e.cmd e.reply
  by_line news j zero h at_index room next = absurd cc
  by_line news j (suc m) None at_index room next =
      by_command next (does_new s c small well j m t e is at_index room)
  by_line news j (suc m) (Some slot) at_index room next = absurd (none-some slot (sym at_index.empty))
  by_line hnews j m None at_index room next = by_command next (does_hnew s c small well j m t e is at_index)
  by_line hnews j m (Some slot) at_index room next = absurd (none-some slot (sym at_index.empty))
  by_line vals j m h at_index room next = by_command next (does_val s c small well j m h t e is at_index)
  by_line hgets j m h at_index room next = by_command next (does_hget s c small well j m h t e is at_index)
  by_line reads j m h at_index room next = by_command next (does_read s c small well j m h t e is at_index)
  by_line drops j m h at_index room next = by_command next (does_drop s c small well j m h t e is at_index)
  by_line others j m h at_index room next = by_command next (does_other s c small well j m h t e is at_index)
  by_line frees j m h at_index room next = by_command next (does_free s c small well j m h t e is at_index)
  by_line collects j m None at_index room next =
      by_command next (does_collect s c small well j m t e is at_index)
  by_line collects j m (Some slot) at_index room next = absurd (none-some slot (sym at_index.empty))

-- ---- at the end

ended : (s : State) (c : ℕ) (line : Line) (j m : ℕ) (h : Option Slot) → IsAtIndex s c (index line j m h)
    → left_by c line j m ≡ [] → (pending (index line j m h) ≡ 0) × (holding (index line j m h) ≡ 0)
ended s c news j m h at_index none = (refl, ap one_if_some at_index.empty)
ended s c hnews j m h at_index none = absurd cc
ended s c vals j m h at_index none = absurd cc
ended s c hgets j m h at_index none = absurd cc
ended s c reads j m h at_index none = absurd cc
ended s c drops j m h at_index none = absurd cc
ended s c others j m h at_index none = absurd cc
ended s c frees j m h at_index none = absurd cc
ended s c collects j m h at_index none = absurd cc

sum_none : (f : Index → ℕ) (indexes : List Index) → ((i : ℕ) → i < length indexes → f (at indexes i) ≡ 0)
    → sum_by f indexes ≡ 0
sum_none f [] zero_each = refl
sum_none f (p ∷ indexes) zero_each =
    let known = sum_none f indexes (λ i h. zero_each (suc i) (omega arith)) in
    omega (arith, sum_by-cons f p indexes, zero_each 0 (omega arith), known)

-- ---- the whole way

pub record Totals (es : List Entry) (indexes : List Index) : Type 0 where
  pub returned : sum_by (λ (e : Entry). value_returned e.reply) es
      ≡ sum_by (λ (e : Entry). written e.cmd) es + sum_by pending indexes
  pub made : count_entries makes_object es ≡ sum_by (λ (e : Entry). bit (touched_by e.cmd).makes_object) es
  pub handles : count_entries makes_handle es + sum_by holding indexes ≡ count_entries frees_handle es

abbrev Follow : List Entry → List Index → Type 0
Follow es indexes = (c : ℕ) → c < 4 → left_at c (at indexes c) ≡ commands_of (part_of es c)

-- the first entry is one of its caller's part, and of no other
own_first : (e : Entry) (es : List Entry)
    → commands_of (part_of (e ∷ es) e.caller) ≡ e.cmd ∷ commands_of (part_of es e.caller)
own_first e es = ap commands_of
    (cond-true (eqb e.caller e.caller) (e ∷ part_of es e.caller) (part_of es e.caller)
    (eq-eqb e.caller e.caller refl))

other_first : (e : Entry) (es : List Entry) (d : ℕ) → (d ≡ e.caller → ⊥)
    → commands_of (part_of (e ∷ es) d) ≡ commands_of (part_of es d)
other_first e es d apart =
    ap commands_of (cond-false (eqb e.caller d) (e ∷ part_of es d) (part_of es d)
    (ne_eqb e.caller d (λ same. apart (sym same))))

module _ (s t : State) (e : Entry) (es : List Entry) (indexes : List Index) (fits : Fits s indexes)
    (follow : Follow (e ∷ es) indexes) (step : Step load_numbers s e t) where
  within : e.caller < length indexes
  within = omega (arith, fits.four, step.caller)

  -- the step leads its caller on
  goes : Does s t e.caller (at indexes e.caller) e.cmd e.reply
  goes =
      let p = at indexes e.caller in
      by_line s t e e.caller refl step.caller fits.well (commands_of (part_of es e.caller)) step.does p.line
      p.round p.left p.held (fits.at_index e.caller step.caller)
      (omega (arith, fits.room, get_or-le-sum_by left_of indexes e.caller nowhere within))
      (follow e.caller step.caller ∙ own_first e es)

  after : List Index
  after = set indexes e.caller goes.next

  fits_after : Fits t after
  unfolding after
  fits_after =
      fits_moved s t indexes e.caller goes.next fits step.caller goes.frame
      (step_keeps load_numbers s t e fits.well step) goes.at_index goes.room goes.fresh

  follow_after : Follow es after
  unfolding after
  follow_after d small =
      ⊎_elim
      (λ (mine : d ≡ e.caller).
      let here : at after e.caller ≡ goes.next = get_or-set_same indexes e.caller goes.next nowhere within in
      let next : left_at e.caller goes.next ≡ commands_of (part_of es e.caller) =
      same_tail e.cmd e.cmd _ _ _ goes.rest (follow e.caller step.caller ∙ own_first e es) in
      ap (λ (k : ℕ). left_at k (at after k)) mine ∙ ap (left_at e.caller) here ∙ next
      ∙ ap (λ (k : ℕ). commands_of (part_of es k)) (sym mine))
      (λ (apart : d ≡ e.caller → ⊥).
      ap (left_at d) (get_or-set_other indexes e.caller d goes.next nowhere apart) ∙ follow d small
      ∙ other_first e es d apart)
      (cases_eq d e.caller)

  more : Totals es after → Totals (e ∷ es) indexes
  unfolding after
  more rest = record {
    returned = (let known = sum_by-cons (λ (x : Entry). value_returned x.reply) e es in
        let also = sum_by-cons (λ (x : Entry). written x.cmd) e es in
        let more = sum_by-set pending indexes e.caller goes.next nowhere within in
        omega (arith, rest.returned, goes.returned, known, also, more));
    made = (let known = sum_by-cons (λ (x : Entry). bit (makes_object x.cmd x.reply)) e es in
        let also = sum_by-cons (λ (x : Entry). bit (touched_by x.cmd).makes_object) e es in
        omega (arith, rest.made, ap bit goes.made, known, also));
    handles = (let known = sum_by-cons (λ (x : Entry). bit (makes_handle x.cmd x.reply)) e es in
        let also = sum_by-cons (λ (x : Entry). bit (frees_handle x.cmd x.reply)) e es in
        let more = sum_by-set holding indexes e.caller goes.next nowhere within in
        omega (arith, rest.handles, goes.handles, known, also, more));
  }

-- from any positions of the callers, a run of the commands that are left ends with these numbers
pub totals : {s t : State} {es : List Entry} → Chain (Step load_numbers) s es t → (indexes : List Index)
    → Fits s indexes → Follow es indexes → Totals es indexes
totals (stay {s = s}) indexes fits follow =
    let at_end : (i : ℕ) → i < 4 → (pending (at indexes i) ≡ 0) × (holding (at indexes i) ≡ 0) =
    λ i small. let p = at indexes i in
    ended s i p.line p.round p.left p.held (fits.at_index i small) (follow i small) in
    record {
      returned = omega (arith, sum_none pending indexes (λ i h. (at_end i (omega (arith, fits.four))).0));
      made = refl;
      handles = omega (arith, sum_none holding indexes (λ i h. (at_end i (omega (arith, fits.four))).1));
    }
totals (link {s = s} {t = t} {e = e} {es = es} step rest) indexes fits follow =
    more s t e es indexes fits follow step (totals rest (after s t e es indexes fits follow step)
    (fits_after s t e es indexes fits follow step) (follow_after s t e es indexes fits follow step))
