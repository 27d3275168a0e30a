-- What each call does to a table, by its fields and its value.
use Rattle.hd_model.proofs.Basics.{FinMap, IsSome, None, Option, Some, ap, arith, cases_lt, empty, false, false≢true, get, get-empty, insert, is_some, keys, len, map, nat_cmp, option_map, refl, remove, subst, sym, true, values, ℕ, ⊎_elim, ◌+◌, ◌<◌, ◌∙◌, ◌≡◌, ◌≤◌}
use Rattle.hd_model.proofs.MapBuild.{had_source}
use Rattle.hd_model.proofs.ReadAfterWrite.{remove_cases, some_cases}
use Rattle.hd_model.specs.declared.limits.TheConstants.{BLOCKS}
use Rattle.hd_model.specs.Handles.{handle_of}
use Rattle.hd_maps.specs.declared.data.BlockUse.{BlockUse as Use}
use Rattle.hd_maps.specs.Inside.{IsTable}
use Rattle.hd_maps.specs.TableViews.{slots_of, TableView, Row}
use Rattle.hd_maps.specs.Fields.{seen_as}
use Rattle.hd_maps.specs.View.{use_of}
use Rattle.hd_maps.proofs.SeenMaps.{empty_as, few_keys, get_as, insert_as, keys_as, len_as, remove_as, values_as}

-- the table of a number of blocks with these handles and uses
abbrev pub seen : ℕ → FinMap nat_cmp Row → FinMap nat_cmp Use → TableView
seen count handles uses =
    record { blocks = count; handles = seen_as handle_of handles; uses = seen_as use_of uses }

never : {X : Type 0} (m : FinMap nat_cmp X) → m ≡ empty → (k : ℕ) → IsSome (get m k) → ⊥
never m none k some =
    false≢true (sym (ap (λ n. is_some (get n k)) none ∙ ap is_some (get-empty nat_cmp k)) ∙ some)

-- a table in which nothing is yet
pub opened : (count : ℕ) (handles : FinMap nat_cmp Row) (uses : FinMap nat_cmp Use) → count ≤ BLOCKS
    → handles ≡ empty → uses ≡ empty → IsTable count handles uses
opened count handles uses limit no_handles no_uses = record {
  limit = limit;
  slots = λ k some. absurd (never handles no_handles k some);
  blocks = λ k some. absurd (never uses no_uses k some);
}

pub seen_open : (count : ℕ) (handles : FinMap nat_cmp Row) (uses : FinMap nat_cmp Use) → handles ≡ empty
    → uses ≡ empty → seen count handles uses ≡ record { blocks = count; handles = empty; uses = empty }
seen_open count handles uses no_handles no_uses =
    let no_rows = ap (seen_as handle_of) no_handles ∙ empty_as handle_of in
    let none = ap (seen_as use_of) no_uses ∙ empty_as use_of in
    λ i. record { blocks = count; handles = no_rows i; uses = none i }

module _ {count : ℕ} {handles : FinMap nat_cmp Row} {uses : FinMap nat_cmp Use}
    (table : IsTable count handles uses) where
  pub few_live : len handles ≤ slots_of count
  few_live = few_keys handles (slots_of count) table.slots

  pub few_given : len uses ≤ count + 1
  few_given = few_keys uses (count + 1) (λ k some. let low = table.blocks k some in omega (arith, low))

  -- a handle in a slot that there may be, a handle taken out, and the same of uses
  pub handle_put : (k : ℕ) (h : Row) → k < slots_of count → IsTable count (insert handles k h) uses
  handle_put k h low = record {
    limit = table.limit;
    slots = λ q some. some_cases handles k (λ j. j < slots_of count) h low table.slots q some;
    blocks = table.blocks;
  }

  pub handle_taken : (k : ℕ) → IsTable count (remove handles k) uses
  handle_taken k = record {
    limit = table.limit;
    slots = λ q some. remove_cases handles k (λ j o. IsSome o → j < slots_of count) q
        (λ h. absurd (false≢true h))
        (λ _ h. table.slots q h) some;
    blocks = table.blocks;
  }

  pub use_put : (k : ℕ) (u : Use) → k ≤ count → IsTable count handles (insert uses k u)
  use_put k u low = record {
    limit = table.limit;
    slots = table.slots;
    blocks = λ q some. some_cases uses k (λ j. j ≤ count) u low table.blocks q some;
  }

  pub use_taken : (k : ℕ) → IsTable count handles (remove uses k)
  use_taken k = record {
    limit = table.limit;
    slots = table.slots;
    blocks = λ q some. remove_cases uses k (λ j o. IsSome o → j ≤ count) q (λ h. absurd (false≢true h))
        (λ _ h. table.blocks q h) some;
  }

module _ {count : ℕ} {handles : FinMap nat_cmp Row} {uses : FinMap nat_cmp Use}
    (table : IsTable count handles uses) {t : TableView} (view : seen count handles uses ≡ t) where
  pub handle_read : (k : ℕ) → option_map handle_of (get handles k) ≡ get t.handles k
  handle_read k = sym (get_as handle_of handles k) ∙ ap (λ (u : TableView). get u.handles k) view

  pub use_read : (k : ℕ) → option_map use_of (get uses k) ≡ get t.uses k
  use_read k = sym (get_as use_of uses k) ∙ ap (λ (u : TableView). get u.uses k) view

  pub handle_there : (k : ℕ) → IsSome (get t.handles k) → IsSome (get handles k)
  handle_there k some = had_source handle_of (get handles k) (ap is_some (handle_read k) ∙ some)

  pub live_is : len handles ≡ len t.handles
  live_is = sym (len_as handle_of handles) ∙ ap (λ (u : TableView). len u.handles) view

  pub given_is : len uses ≡ len t.uses
  given_is = sym (len_as use_of uses) ∙ ap (λ (u : TableView). len u.uses) view

  pub slots_are : keys handles ≡ keys t.handles
  slots_are = sym (keys_as handle_of handles) ∙ ap (λ (u : TableView). keys u.handles) view

  pub rows_are : map handle_of (values handles) ≡ values t.handles
  rows_are = sym (values_as handle_of handles) ∙ ap (λ (u : TableView). values u.handles) view

  -- how the value changes with the handles, and with the uses
  pub seen_put : (others : FinMap nat_cmp Row) (k : ℕ) (h : Row) → others ≡ insert handles k h
      → seen count others uses ≡ record t { handles = insert t.handles k (handle_of h) }
  seen_put others k h is =
      let now = ap (seen_as handle_of) is ∙ insert_as handle_of handles k h in
      (λ i. record { blocks = count; handles = now i; uses = seen_as use_of uses })
      ∙ (λ i. record (view i) { handles = insert (view i).handles k (handle_of h) })

  pub seen_taken : (others : FinMap nat_cmp Row) (k : ℕ) → others ≡ remove handles k
      → seen count others uses ≡ record t { handles = remove t.handles k }
  seen_taken others k is =
      let now = ap (seen_as handle_of) is ∙ remove_as handle_of handles k in
      (λ i. record { blocks = count; handles = now i; uses = seen_as use_of uses })
      ∙ (λ i. record (view i) { handles = remove (view i).handles k })

  pub seen_given : (others : FinMap nat_cmp Use) (k : ℕ) (u : Use) → others ≡ insert uses k u
      → seen count handles others ≡ record t { uses = insert t.uses k (use_of u) }
  seen_given others k u is =
      let now = ap (seen_as use_of) is ∙ insert_as use_of uses k u in
      (λ i. record { blocks = count; handles = seen_as handle_of handles; uses = now i })
      ∙ (λ i. record (view i) { uses = insert (view i).uses k (use_of u) })

  pub seen_back : (others : FinMap nat_cmp Use) (k : ℕ) → others ≡ remove uses k
      → seen count handles others ≡ record t { uses = remove t.uses k }
  seen_back others k is =
      let now = ap (seen_as use_of) is ∙ remove_as use_of uses k in
      (λ i. record { blocks = count; handles = seen_as handle_of handles; uses = now i })
      ∙ (λ i. record (view i) { uses = remove (view i).uses k })

-- ---- a search for a block without a use

module _ (t : TableView) (k : ℕ) (o : Option Use) (is : option_map use_of o ≡ get t.uses k) where
  pub is_unused : is_some o ≡ false → get t.uses k ≡ None
  is_unused none = sym is ∙ by o none
    where
      by : (p : Option Use) → is_some p ≡ false → option_map use_of p ≡ None
      by None e = refl
      by (Some u) e = absurd (false≢true (sym e))

  is_used : is_some o ≡ true → IsSome (get t.uses k)
  is_used some = ap is_some (sym is) ∙ by o some
    where
      by : (p : Option Use) → is_some p ≡ true → is_some (option_map use_of p) ≡ true
      by None e = absurd (false≢true e)
      by (Some u) e = refl

  -- the blocks below have uses, and this one has too
  pub used_more : (from : ℕ) → is_some o ≡ true
      → ((b : ℕ) → from ≤ b → b < k → IsSome (get t.uses b))
      → (b : ℕ) → from ≤ b → b < k + 1 → IsSome (get t.uses b)
  used_more from some before b above below =
      ⊎_elim (λ low. before b above low)
      (λ past. let same : k ≡ b = omega (arith, below, past) in
      subst (λ j. IsSome (get t.uses j)) same (is_used some)) (cases_lt b k)
