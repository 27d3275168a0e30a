-- What is marked, what is still to be followed, and how both change.
use Rattle.hd_model.proofs.Basics.{Bool, Contains, Contains-append_cases, Contains-append_right, Leads, List, None, Option, Some, [], ap, arith, cond, contains_key, empty, false, false≢true, get, get-empty, inl, inr, insert, is_some, joined, len, length, length-append, nat_cmp, refl, same_Some, subst, sym, true, ℕ, ⊎_elim, ◌++◌, ◌+◌, ◌-◌, ◌<◌, ◌^◌, ◌∙◌, ◌∷◌, ◌≡◌, ◌⊎◌}
use Rattle.std.proofs.lemmas.List.Elements.{Contains-append_left, Contains-push, Contains-push_cases}
use Rattle.hd_model.proofs.Members.{not_in_none, first_in, later_in, member_cases}
use Rattle.hd_model.proofs.MapEntries.{none_from}
use Rattle.hd_model.proofs.ReadAfterWrite.{get_inserted, len_new, some_cases, still_some}
use Rattle.hd_model.specs.declared.data.Id.{Id}
use Rattle.hd_plain.specs.Inside.{Awaits, Closes, Gains, is_marked, with_mark, with_marks, with_rows, with_targets}
use Rattle.hd_plain.specs.Marked.{Marked}

abbrev pub number : ℕ → Id
number y = record { 0 = y }

-- the mark of an object that had none
abbrev fresh : Marked → ℕ → Marked
fresh m id = record { marked = insert m.marked id tt; left = m.left ++ id ∷ [] }

mark_cases : (P : Marked → Type 0) (m : Marked) (id : ℕ) → (contains_key m.marked id ≡ true → P m)
    → (contains_key m.marked id ≡ false → P (fresh m id)) → P (with_mark m id)
mark_cases P m id old new = by (contains_key m.marked id) refl
  where
    by : (b : Bool) → contains_key m.marked id ≡ b → P (cond b m (fresh m id))
    by true e = old e
    by false e = new e

-- nothing is new
gains_old : (J : ℕ → Type 0) (m : Marked) → ((y : ℕ) → J y → contains_key m.marked y ≡ true) → Gains J m m
gains_old J m had = record {
  keeps = λ x h. h;
  joins = had;
  only = λ x h. inl h;
  stays = λ y h. h;
  fresh = λ x h. inl h;
  from = λ y h. inl h;
  even = refl;
}

pub gains_none : (J : ℕ → Type 0) (m : Marked) → ((y : ℕ) → J y → ⊥) → Gains J m m
gains_none J m none = gains_old J m (λ y j. absurd (none y j))

pub gains_mark : (m : Marked) (id : ℕ) → Gains (λ y. y ≡ id) m (with_mark m id)
gains_mark m id = mark_cases (Gains (λ y. y ≡ id) m) m id
    (λ had. gains_old (λ y. y ≡ id) m (λ y e. subst (λ z. contains_key m.marked z ≡ true) (sym e) had))
    (λ had. let none : get m.marked id ≡ None = none_from (get m.marked id) (λ h. false≢true (sym had ∙ h)) in
    let more : len (insert m.marked id tt) ≡ len m.marked + 1 = len_new m.marked id tt none in
    let longer : length (m.left ++ id ∷ []) ≡ length m.left + 1 = length-append m.left (id ∷ []) in
    record {
      keeps = λ x h. still_some m.marked id tt x.0 h;
      joins = λ y e. subst (λ z. contains_key (insert m.marked id tt) z ≡ true) (sym e)
          (ap is_some (get_inserted m.marked id tt));
      only = λ x h. some_cases m.marked id (λ q. (contains_key m.marked q ≡ true) ⊎ (q ≡ id)) tt (inr refl)
          (λ q s. inl s) x.0 h;
      stays = λ y h. Contains-append_left m.left (id ∷ []) y h;
      fresh = λ x h. some_cases m.marked id
          (λ q. (contains_key m.marked q ≡ true) ⊎ Contains (m.left ++ id ∷ []) q) tt
          (inr (Contains-push m.left id)) (λ q s. inl s) x.0 h;
      from = λ y h. ⊎_elim (λ c. inl c) (λ e. inr (sym e)) (Contains-push_cases m.left id y h);
      even = omega (arith, more, longer);
    })

pub gains_then : (J K : ℕ → Type 0) (m n o : Marked) → Gains J m n → Gains K n o → Gains (λ y. J y ⊎ K y) m o
gains_then J K m n o p q = record {
  keeps = λ x h. q.keeps x (p.keeps x h);
  joins = λ y h. ⊎_elim (λ j. q.keeps (number y) (p.joins y j)) (λ k. q.joins y k) h;
  only = λ x h. ⊎_elim
      (λ e. ⊎_elim (λ f. inl f) (λ j. inr (inl j)) (p.only x e)) (λ k. inr (inr k)) (q.only x h);
  stays = λ y h. q.stays y (p.stays y h);
  fresh = λ x h. ⊎_elim
      (λ e. ⊎_elim (λ f. inl f) (λ c. inr (q.stays x.0 c)) (p.fresh x e)) (λ c. inr c) (q.fresh x h);
  from = λ y h. ⊎_elim
      (λ e. ⊎_elim (λ f. inl f) (λ j. inr (inl j)) (p.from y e)) (λ k. inr (inr k)) (q.from y h);
  even = let a = p.even in let b = q.even in omega (arith, a, b);
}

pub gains_like : (J K : ℕ → Type 0) (m n : Marked) → ((y : ℕ) → J y → K y) → ((y : ℕ) → K y → J y)
    → Gains J m n → Gains K m n
gains_like J K m n to from p = record {
  keeps = p.keeps;
  joins = λ y k. p.joins y (from y k);
  only = λ x h. ⊎_elim (λ e. inl e) (λ j. inr (to x.0 j)) (p.only x h);
  stays = p.stays;
  fresh = p.fresh;
  from = λ y h. ⊎_elim (λ e. inl e) (λ j. inr (to y j)) (p.from y h);
  even = p.even;
}

pub gains_marks : (m : Marked) (xs : List ℕ) → Gains (λ y. Contains xs y) m (with_marks m xs)
gains_marks m [] = gains_none (λ y. Contains [] y) m (λ y h. not_in_none y h)
gains_marks m (x ∷ xs) =
    gains_like (λ y. (y ≡ x) ⊎ Contains xs y) (λ y. Contains (x ∷ xs) y) m (with_marks (with_mark m x) xs)
    (λ y h. ⊎_elim (λ e. subst (λ z. Contains (x ∷ xs) z) (sym e) (first_in x xs)) (λ c. later_in x xs y c) h)
    (λ y h. ⊎_elim (λ e. inl (sym e)) (λ c. inr c) (member_cases x xs y h))
    (gains_then (λ y. y ≡ x) (λ y. Contains xs y) m (with_mark m x) (with_marks (with_mark m x) xs)
    (gains_mark m x) (gains_marks (with_mark m x) xs))

-- what is referenced by one of a list
abbrev pub IsAmong : List (Option Id) → ℕ → Type 0
IsAmong os y = Contains os (Some (number y))

pub gains_targets : (m : Marked) (os : List (Option Id)) → Gains (IsAmong os) m (with_targets m os)
gains_targets m [] = gains_none (IsAmong []) m (λ y h. not_in_none (Some (number y)) h)
gains_targets m (None ∷ os) =
    gains_like (IsAmong os) (IsAmong (None ∷ os)) m (with_targets m os)
    (λ y h. later_in None os (Some (number y)) h)
    (λ y h. ⊎_elim (λ e. absurd (false≢true (ap is_some e))) (λ c. c)
    (member_cases None os (Some (number y)) h))
    (gains_targets m os)
gains_targets m (Some x ∷ os) =
    gains_like (λ y. (y ≡ x.0) ⊎ IsAmong os y) (IsAmong (Some x ∷ os)) m (with_targets (with_mark m x.0) os)
    (λ y h. ⊎_elim (λ e. subst (λ z. IsAmong (Some x ∷ os) z) (sym e) (first_in (Some x) os))
    (λ c. later_in (Some x) os (Some (number y)) c) h)
    (λ y h. ⊎_elim (λ e. inl (ap (λ (z : Id). z.0) (sym (same_Some x (number y) e)))) (λ c. inr c)
    (member_cases (Some x) os (Some (number y)) h))
    (gains_then (λ y. y ≡ x.0) (IsAmong os) m (with_mark m x.0) (with_targets (with_mark m x.0) os)
    (gains_mark m x.0) (gains_targets (with_mark m x.0) os))

-- one list after another, and several lists
pub targets_then : (m : Marked) (xs ys : List (Option Id))
    → with_targets (with_targets m xs) ys ≡ with_targets m (xs ++ ys)
targets_then m [] ys = refl
targets_then m (None ∷ xs) ys = targets_then m xs ys
targets_then m (Some x ∷ xs) ys = targets_then (with_mark m x.0) xs ys

pub rows_joined : (m : Marked) (rows : List (List (Option Id)))
    → with_rows m rows ≡ with_targets m (joined rows)
rows_joined m [] = refl
rows_joined m (row ∷ rows) = rows_joined (with_targets m row) rows ∙ targets_then m row (joined rows)

module _ (E : Id → Id → Type 0) where
  -- nothing is marked
  pub awaits_open : Awaits E (record { marked = empty; left = [] })
  awaits_open = record {
    left = λ x h. absurd (not_in_none x.0 h);
    followed = λ x y h e. absurd (false≢true (sym (ap is_some (get-empty nat_cmp x.0)) ∙ h));
  }

  pub awaits_gains : (J : ℕ → Type 0) (m n : Marked) → Gains J m n → Awaits E m → Awaits E n
  awaits_gains J m n g a = record {
    left = λ x h. ⊎_elim (λ c. g.keeps x (a.left x c)) (λ j. g.joins x.0 j) (g.from x.0 h);
    followed = λ x y h e. ⊎_elim
        (λ old. ⊎_elim (λ f. inl (g.keeps y f)) (λ c. inr (g.stays x.0 c)) (a.followed x y old e))
        (λ c. inr c) (g.fresh x h);
  }

  -- a closed set awaits nothing
  pub awaits_closed : (old new : Marked) → Closes E old new → Awaits E new
  awaits_closed old new c = record {
    left = λ x h. absurd (not_in_none x.0 (subst (λ xs. Contains xs x.0) c.none_left h));
    followed = λ x y h e. inl (c.closure.closed x y h e);
  }

  -- what is marked is what was, and what chains lead to from there
  pub record Closing (old now : Marked) : Type 0 where
    pub keeps : (x : Id) → is_marked old x ≡ true → is_marked now x ≡ true
    pub only : (x : Id) → is_marked now x ≡ true → (r : Id) × ((is_marked old r ≡ true) × Leads E r x)
    pub awaits : Awaits E now

  pub closing_start : (m : Marked) → Awaits E m → Closing m m
  closing_start m a = record { keeps = λ x h. h; only = λ x h. (x, (h, Leads.here)); awaits = a }

  -- an object was taken, and all that it has an edge to was marked
  pub closing_step : (J : ℕ → Type 0) (old n o : Marked) (id : ℕ)
      → Closing old (record n { left = n.left ++ id ∷ [] }) → Gains J n o
      → ((y : Id) → E (number id) y → J y.0) → ((y : Id) → J y.0 → E (number id) y) → Closing old o
  closing_step J old n o id c g to from =
      let here : is_marked n (number id) ≡ true =
      c.awaits.left (number id) (Contains-push n.left id) in
      record {
        keeps = λ x h. g.keeps x (c.keeps x h);
        only = λ x h. ⊎_elim (λ e. c.only x e)
            (λ j. let (r, rest) = c.only (number id) here in
            (r, (rest.0, Leads.more rest.1 (from x j)))) (g.only x h);
        awaits = record {
          left = λ x h. ⊎_elim
              (λ k. g.keeps x (c.awaits.left x (Contains-append_left n.left (id ∷ []) x.0 k)))
              (λ j. g.joins x.0 j) (g.from x.0 h);
          followed = λ x y h e. ⊎_elim
              (λ known. ⊎_elim (λ f. inl (g.keeps y f))
              (λ k. ⊎_elim (λ l. inr (g.stays x.0 l))
              (λ same. inl (g.joins y.0 (to y (subst (λ z. E (number z) y) (sym same) e))))
              (Contains-push_cases n.left id x.0 k)) (c.awaits.followed x y known e))
              (λ k. inr k) (g.fresh x h);
        };
      }

  pub closing_end : (old now : Marked) → Closing old now → now.left ≡ [] → Closes E old now
  closing_end old now c none = record {
    closure = record {
      keeps = c.keeps;
      closed = λ x y h e. ⊎_elim (λ f. f)
          (λ k. absurd (not_in_none x.0 (subst (λ xs. Contains xs x.0) none k))) (c.awaits.followed x y h e);
      only = c.only;
    };
    none_left = none;
  }

-- each step of a closing brings it nearer to its end
pub nearer : (J : ℕ → Type 0) (m n o : Marked) (id : ℕ) → m ≡ record n { left = n.left ++ id ∷ [] }
    → Gains J n o
    → len m.marked < 2 ^ 63
    → (2 ^ 63 + length o.left) - len o.marked < (2 ^ 63 + length m.left) - len m.marked
nearer J m n o id taken g few =
    let e = g.even in
    let same : len m.marked ≡ len n.marked = ap (λ z. len z.marked) taken in
    let more : length m.left ≡ length (n.left ++ id ∷ []) = ap (λ z. length z.left) taken in
    let longer : length (n.left ++ id ∷ []) ≡ length n.left + 1 = length-append n.left (id ∷ []) in
    omega (arith, e, same, more, longer, few)
