-- Links as one is put at their end, and a walk over those of a target.
use Rattle.std.proofs.Common.{◌≡◌, ◌≢◌, ℕ, ◌+◌, ◌≤◌, ◌==◌, cond, List, [], ◌∷◌, ◌++◌, length, Option, Some, None, refl, sym, ap, ◌∙◌, subst, arith, ⊎_elim, inl, inr, ◌⊎◌, eq-eqb, ne_eqb}
use Rattle.std.specs.Prelude.{slice_get}
use Rattle.std.proofs.lemmas.Bool.{cases_eq, cases_lt}
use Rattle.std.proofs.lemmas.List.{length_push}
use Rattle.std.proofs.lemmas.Option.{same_Some, slice_get_within}
use Rattle.hd_model.specs.declared.data.Addr.{Addr}
use Rattle.hd_root.specs.declared.dependents.Link.{Link}
use Rattle.hd_root.specs.{Links.Attaches, Inside.HasNone, Inside.IsLastAt, Inside.IsLast, Inside.AreChained, Inside.IsPut}
use Rattle.hd_walk.proofs.Slices.{at_left, at_end, at_push}

-- links from an index on with the target x attach y to it
pub record AttachesFrom (links : List Link) (low : ℕ) (x y : Addr) : Type 0 where
  pub index : ℕ
  pub link : Link
  pub is_link : slice_get links index ≡ Some link
  pub from : low ≤ index
  pub target : link.target ≡ x
  pub secondary : link.secondary ≡ y

module _ (links : List Link) (new : Link) where
  abbrev Grown : List Link
  Grown = links ++ new ∷ []

  none_kept : (x : Addr) (low high : ℕ) → high ≤ length links → HasNone links x low high
      → HasNone Grown x low high
  none_kept x low high le none k l from below at =
      ⊎_elim (λ old. none k l from below old) (λ last. absurd (let e = last.0 in omega arith))
      (at_push links new k l at)

  last_kept : (x : Addr) (high : ℕ) → high ≤ length links → (r : Option ℕ) → IsLast links x high r
      → IsLast Grown x high r
  last_kept x high le None none = none_kept x 0 high le none
  last_kept x high le (Some i) a = record {
    link = a.link;
    is_link = at_left links (new ∷ []) i a.link a.is_link;
    below = a.below;
    target = a.target;
    none = none_kept x (i + 1) high le a.none;
  }

  none_past : (x : Addr) (low : ℕ) → new.target ≢ x → HasNone links x low (length links)
      → HasNone Grown x low (length Grown)
  none_past x low apart none k l from below at =
      ⊎_elim (λ old. none k l from (slice_get_within links k l old) old)
      (λ last e. apart (ap (λ (w : Link). w.target) last.1 ∙ e))
      (at_push links new k l at)

  last_past : (x : Addr) → new.target ≢ x → (r : Option ℕ) → IsLast links x (length links) r
      → IsLast Grown x (length Grown) r
  last_past x apart None none = none_past x 0 apart none
  last_past x apart (Some i) a = record {
    link = a.link;
    is_link = at_left links (new ∷ []) i a.link a.is_link;
    below = let b = a.below in let g = length_push links new in omega arith;
    target = a.target;
    none = none_past x (i + 1) apart a.none;
  }

  last_new : (x : Addr) → new.target ≡ x → IsLast Grown x (length Grown) (Some (length links))
  last_new x same = record {
    link = new;
    is_link = at_end links new;
    below = let g = length_push links new in omega arith;
    target = same;
    none = λ k l from below at. let g = length_push links new in absurd (omega arith);
  }

  pub chained_put : (last after : ℕ → Option ℕ) → AreChained links last → new.before ≡ last new.target.0
      → ((q : ℕ) → after q ≡ cond (new.target.0 == q) (Some (length links)) (last q))
      → AreChained Grown after
  chained_put last after c before updates = record {
    ends = λ x.
        subst (IsLast Grown x (length Grown)) (sym (updates x.0))
        (⊎_elim
        (λ same. let there : new.target ≡ x = λ i. record { 0 = same i } in
        subst (λ b. IsLast Grown x (length Grown) (cond b (Some (length links)) (last x.0)))
        (sym (eq-eqb new.target.0 x.0 same)) (last_new x there))
        (λ apart. subst (λ b. IsLast Grown x (length Grown) (cond b (Some (length links)) (last x.0)))
        (sym (ne_eqb new.target.0 x.0 apart))
        (last_past x (λ e. apart (ap (λ (a : Addr). a.0) e)) (last x.0) (c.ends x)))
        (cases_eq new.target.0 x.0));
    befores = λ i l at.
        ⊎_elim
        (λ old. let lt = slice_get_within links i l old in
        last_kept l.target i (omega arith) l.before (c.befores i l old))
        (λ new_one. let le = new_one.0 in
        subst (λ (w : Link). IsLast Grown w.target i w.before) new_one.1
        (last_kept new.target i (omega arith) new.before
        (subst (λ n. IsLast links new.target n new.before) (sym le)
        (subst (IsLast links new.target (length links)) (sym before) (c.ends new.target)))))
        (at_push links new i l at);
  }

module _ {x y : Addr} {old new : List Link} (p : IsPut x y old new) where
  pub put_keeps : {a b : Addr} → Attaches old a b → Attaches new a b
  put_keeps a = record {
    index = a.index;
    link = a.link;
    is_link = ap (λ ls. slice_get ls a.index) p.links
        ∙ at_left old (record { target = x; secondary = y; before = p.before } ∷ []) a.index a.link a.is_link;
    target = a.target;
    secondary = a.secondary;
  }

  pub put_attaches : Attaches new x y
  put_attaches = record {
    index = length old;
    link = record { target = x; secondary = y; before = p.before };
    is_link = ap (λ ls. slice_get ls (length old)) p.links
        ∙ at_end old (record { target = x; secondary = y; before = p.before });
    target = refl;
    secondary = refl;
  }

  pub put_only : {a b : Addr} → Attaches new a b → Attaches old a b ⊎ ((x ≡ a) × (y ≡ b))
  put_only a =
      ⊎_elim
      (λ earlier. inl (record {
        index = a.index;
        link = a.link;
        is_link = earlier;
        target = a.target;
        secondary = a.secondary;
      }))
      (λ last. inr (
        ap (λ (l : Link). l.target) last.1 ∙ a.target,
        ap (λ (l : Link). l.secondary) last.1 ∙ a.secondary,
      ))
      (at_push old (record { target = x; secondary = y; before = p.before }) a.index a.link
      (ap (λ ls. slice_get ls a.index) (sym p.links) ∙ a.is_link))

-- a walk over the links with the target x, from the last to the first
module _ (links : List Link) (x : Addr) where
  pub from_end : (y : Addr) → AttachesFrom links (length links) x y → ⊥
  from_end y a = let l = slice_get_within links a.index a.link a.is_link in let f = a.from in omega arith

  -- below what was passed, none is left
  pub from_all : (high : ℕ) → IsLast links x high None → (y : Addr) → Attaches links x y
      → AttachesFrom links high x y
  from_all high none y a = record {
    index = a.index;
    link = a.link;
    is_link = a.is_link;
    from =
        ⊎_elim (λ lt. absurd (none a.index a.link (omega arith) lt a.is_link a.target)) (λ ge. ge)
        (cases_lt a.index high);
    target = a.target;
    secondary = a.secondary;
  }

  -- those from the next one on are that one and what was passed
  module _ (high i : ℕ) (last : IsLastAt links x high i) where
    pub from_next : (y : Addr) → AttachesFrom links i x y
        → AttachesFrom links high x y ⊎ (y ≡ last.link.secondary)
    from_next y a =
        ⊎_elim
        (λ here. inr (sym a.secondary
        ∙ ap (λ (l : Link). l.secondary)
        (same_Some a.link last.link (sym a.is_link ∙ ap (slice_get links) here ∙ last.is_link))))
        (λ other. inl (record {
          index = a.index;
          link = a.link;
          is_link = a.is_link;
          from =
              ⊎_elim
              (λ lt. absurd (last.none a.index a.link (let f = a.from in omega arith) lt a.is_link a.target))
              (λ ge. ge) (cases_lt a.index high);
          target = a.target;
          secondary = a.secondary;
        }))
        (cases_eq a.index i)

    pub to_next : (y : Addr) → AttachesFrom links high x y ⊎ (y ≡ last.link.secondary)
        → AttachesFrom links i x y
    to_next y =
        ⊎_elim
        (λ a. record {
          index = a.index;
          link = a.link;
          is_link = a.is_link;
          from = let f = a.from in let b = last.below in omega arith;
          target = a.target;
          secondary = a.secondary;
        })
        (λ e. record {
          index = i;
          link = last.link;
          is_link = last.is_link;
          from = omega arith;
          target = last.target;
          secondary = sym e;
        })
