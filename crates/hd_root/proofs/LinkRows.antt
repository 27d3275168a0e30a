-- Which rows attach something: those of dependent handles, whose blocks are in one chain.
use Rattle.std.proofs.Common.{◌≡◌, ◌==◌, ◌≢◌, ℕ, ◌+◌, ◌*◌, ◌/◌, ◌<◌, ◌≤◌, true, cond, List, [], ◌∷◌, ◌++◌, length, Option, Some, None, refl, sym, ap, ◌∙◌, subst, arith, ⊎_elim, inr, eq-eqb, ne_eqb, Contains, AllPairs}
use Rattle.std.specs.Prelude.{slice_get}
use Rattle.std.specs.FinMap.{get}
use Rattle.std.proofs.lemmas.Bool.{cases_eq, false≢true}
use Rattle.std.proofs.lemmas.Option.{none-some, same_Some, some_pair_parts}
use Rattle.std.proofs.lemmas.List.{append-nil, append_assoc}
use Rattle.std.specs.Option.{option_map_or, is_some}
use Rattle.std.proofs.lemmas.List.Elements.{Contains-append_cases, Contains-append_right}
use Rattle.hd_model.specs.declared.data.Addr.{Addr}
use Rattle.hd_model.specs.declared.data.Kind.{Kind}
use Rattle.hd_model.specs.declared.data.Kind.TheVariants as kind
use Rattle.hd_model.specs.declared.limits.TheConstants.{ROWS}
use Rattle.hd_model.specs.State.{Extra, nothing, strength, secondary, count, Handle, handles_of, secondary_of}
use Rattle.hd_model.specs.Role.{attaches, role, role_of}
use Rattle.hd_model.specs.Table.{Table, IsTable, chain_of, fits, kind_at, kind_in, row_at}
use Rattle.hd_model.specs.Reach.{IsAttached}
use Rattle.hd_model.proofs.Members.{not_in_none, first_in, member_cases, pairs_first, pairs_rest}
use Rattle.hd_root.specs.declared.dependents.Link.{Link}
use Rattle.hd_root.specs.{Links.Attaches, Links.AreLinks, Inside.IsPut, Inside.HasGathered, Inside.both_of, Inside.attached_in}
use Rattle.hd_root.proofs.LinkLists.{put_keeps, put_attaches, put_only}

-- a row that attaches something has a target and a secondary, and the other way round
both_from : (a b : Option Addr) (x y : Addr) → both_of a b ≡ Some (x, y) → (a ≡ Some x) × (b ≡ Some y)
both_from None b x y e = absurd (none-some (x, y) e)
both_from (Some a) None x y e = absurd (none-some (x, y) e)
both_from (Some a) (Some b) x y e = let p = some_pair_parts a x b y e in (ap Some p.0, ap Some p.1)

-- only an extra of a dependent handle has a secondary
kind_of_secondary : (k : Kind) (e : Extra Addr) (y : Addr) → fits k e ≡ true → secondary_of e ≡ Some y
    → k ≡ kind.Dependent
kind_of_secondary k nothing y f s = absurd (none-some y s)
kind_of_secondary k (strength g) y f s = absurd (none-some y s)
kind_of_secondary k (count c) y f s = absurd (none-some y s)
kind_of_secondary kind.Short (secondary o) y f s = absurd (false≢true f)
kind_of_secondary kind.Long (secondary o) y f s = absurd (false≢true f)
kind_of_secondary kind.Strong (secondary o) y f s = absurd (false≢true f)
kind_of_secondary kind.Pinned (secondary o) y f s = absurd (false≢true f)
kind_of_secondary kind.Variable (secondary o) y f s = absurd (false≢true f)
kind_of_secondary kind.Counted (secondary o) y f s = absurd (false≢true f)
kind_of_secondary kind.Dependent (secondary o) y f s = refl

-- a walk over the chain of dependent handles: the links have those of the blocks that were passed
pub record IsPassing (t : Table) (passed : List ℕ) (links : List Link) : Type 0 where
  pub only : (x y : Addr) → Attaches links x y → IsAttached (row_at t) x y
  pub all : (slot : ℕ) (x y : Addr) → Contains passed (slot / ROWS)
      → attached_in (row_at t slot) ≡ Some (x, y) → Attaches links x y

-- and is at a block, or at the end
pub record IsOnChain (t : Table) (links : List Link) (block : Option ℕ) : Type 0 where
  pub passed : List ℕ
  pub rest : List ℕ
  pub chain : chain_of t kind.Dependent ≡ passed ++ rest
  pub next : block ≡ slice_get rest 0
  pub passing : IsPassing t passed links

module _ (t : Table) (w : IsTable t) where
  dependent : (slot : ℕ) (h : Handle Addr) (y : Addr) → row_at t slot ≡ Some h → secondary_of h.extra ≡ Some y
      → h.kind ≡ kind.Dependent
  dependent slot h y is s = kind_of_secondary h.kind h.extra y (w.rows slot h is).fits s

  role_is : (h : Handle Addr) → h.kind ≡ kind.Dependent → role h ≡ attaches
  role_is h k = ap (λ d. role_of d h.extra) k

  attached_by : (slot : ℕ) (o : Option (Handle Addr)) (x y : Addr) → row_at t slot ≡ o
      → attached_in o ≡ Some (x, y) → IsAttached (row_at t) x y
  attached_by slot None x y is e = absurd (none-some (x, y) e)
  attached_by slot (Some h) x y is e =
      let parts = both_from h.target (secondary_of h.extra) x y e in record {
        slot = slot;
        handle = h;
        is_stored = is;
        attaches = role_is h (dependent slot h y is parts.1);
        target = parts.0;
        secondary = parts.1;
      }

  pub attached_at : (slot : ℕ) (x y : Addr) → attached_in (row_at t slot) ≡ Some (x, y)
      → IsAttached (row_at t) x y
  attached_at slot x y e = attached_by slot (row_at t slot) x y refl e

  pub attached_of : {x y : Addr} (a : IsAttached (row_at t) x y) → attached_in (row_at t a.slot) ≡ Some (x, y)
  attached_of {x = x} a =
      ap attached_in a.is_stored ∙ ap (λ o. both_of o (secondary_of a.handle.extra)) a.target
      ∙ ap (both_of (Some x)) a.secondary

  -- its block is in the chain of dependent handles
  pub attached_block : {x y : Addr} (a : IsAttached (row_at t) x y)
      → Contains (chain_of t kind.Dependent) (a.slot / ROWS)
  attached_block {y = y} a =
      (w.chained kind.Dependent (a.slot / ROWS)).1
      ((w.rows a.slot a.handle a.is_stored).block
      ∙ ap (λ k. Some (handles_of k)) (dependent a.slot a.handle y a.is_stored a.secondary))

  -- a walk over slots
  pub gathered_same : {low high : ℕ} {old new : List Link} → attached_in (row_at t high) ≡ None
      → HasGathered t low high old new → HasGathered t low (high + 1) old new
  gathered_same {high = high} none g = record {
    kept = g.kept;
    only = g.only;
    all = λ slot x y from below e.
        ⊎_elim
        (λ here. absurd (none-some (x, y) (sym none ∙ ap (λ s. attached_in (row_at t s)) (sym here) ∙ e)))
        (λ other. g.all slot x y from (omega arith) e)
        (cases_eq slot high);
  }

  pub gathered_put : {low high : ℕ} {old mid new : List Link} {x y : Addr}
      → attached_in (row_at t high) ≡ Some (x, y)
      → IsPut x y mid new → HasGathered t low high old mid → HasGathered t low (high + 1) old new
  gathered_put {high = high} {new = new} {x = x} {y = y} at p g = record {
    kept = λ a b k. put_keeps p (g.kept a b k);
    only = λ a b n.
        ⊎_elim (λ m. g.only a b m)
        (λ same. inr (subst (λ z. IsAttached (row_at t) z b) same.0
        (subst (λ z. IsAttached (row_at t) x z) same.1 (attached_at high x y at))))
        (put_only p n);
    all = λ slot a b from below e.
        ⊎_elim
        (λ here. let parts = some_pair_parts x a y b
        (sym at ∙ ap (λ s. attached_in (row_at t s)) (sym here) ∙ e) in
        subst (λ z. Attaches new z b) parts.0 (subst (λ z. Attaches new x z) parts.1 (put_attaches p)))
        (λ other. put_keeps p (g.all slot a b from (omega arith) e))
        (cases_eq slot high);
  }

  pub passing_on : (block : ℕ) {passed : List ℕ} {old new : List Link} → IsPassing t passed old
      → HasGathered t (block * ROWS) (block * ROWS + ROWS) old new → IsPassing t (passed ++ block ∷ []) new
  passing_on block {passed = passed} p g = record {
    only = λ x y a. ⊎_elim (p.only x y) (λ b. b) (g.only x y a);
    all = λ slot x y has e.
        ⊎_elim (λ earlier. g.kept x y (p.all slot x y earlier e))
        (λ here. ⊎_elim
        (λ (same : block ≡ slot / ROWS). g.all slot x y (omega arith) (omega arith) e)
        (λ none. absurd (not_in_none (slot / ROWS) none))
        (member_cases block [] (slot / ROWS) here))
        (Contains-append_cases passed (block ∷ []) (slot / ROWS) has);
  }

  pub passing_end : {passed : List ℕ} {links : List Link} → chain_of t kind.Dependent ≡ passed
      → IsPassing t passed links → AreLinks t links
  passing_end same p = record {
    only = p.only;
    all = λ x y a.
        p.all a.slot x y (subst (λ bs. Contains bs (a.slot / ROWS)) same (attached_block a)) (attached_of a);
  }

-- how many blocks of a chain there are from one on
abbrev pub left_from : List ℕ → ℕ → ℕ
left_from [] b = 0
left_from (c ∷ cs) b = cond (c == b) (length cs + 1) (left_from cs b)

-- how many blocks are left, from one that is not among those before it
pub left_split : (passed rest : List ℕ) (b : ℕ) → AllPairs (λ x y. x ≢ y) (passed ++ b ∷ rest)
    → left_from (passed ++ b ∷ rest) b ≡ length rest + 1
left_split [] rest b once = ap (λ c. cond c (length rest + 1) (left_from rest b)) (eq-eqb b b refl)
left_split (c ∷ passed) rest b once =
    ap (λ k. cond k (length (passed ++ b ∷ rest) + 1) (left_from (passed ++ b ∷ rest) b))
    (ne_eqb c b
    (pairs_first (λ x y. x ≢ y) c (passed ++ b ∷ rest) once b
    (Contains-append_right passed (b ∷ rest) b (first_in b rest))))
    ∙ left_split passed rest b (pairs_rest (λ x y. x ≢ y) c (passed ++ b ∷ rest) once)

pub on_at : {t : Table} {links : List Link} {o p : Option ℕ} → o ≡ p → IsOnChain t links o
    → IsOnChain t links p
on_at e on = record {
  passed = on.passed;
  rest = on.rest;
  chain = on.chain;
  next = sym e ∙ on.next;
  passing = on.passing;
}

module _ (t : Table) (w : IsTable t) where
  -- at a block, the rest of the chain begins with it
  rest_is : (rest : List ℕ) (b : ℕ) → Some b ≡ slice_get rest 0 → (more : List ℕ) × (rest ≡ b ∷ more)
  rest_is [] b e = absurd (none-some b (sym e))
  rest_is (c ∷ more) b e = (more, ap (λ d. d ∷ more) (same_Some c b (sym e)))

  module _ (old new : List Link) (b : ℕ) (on : IsOnChain t old (Some b)) where
    split : (more : List ℕ) × (chain_of t kind.Dependent ≡ on.passed ++ b ∷ more)
    split = let (more, is) = rest_is on.rest b on.next in (more, on.chain ∙ ap (λ bs. on.passed ++ bs) is)

    -- the block has dependent handles
    pub block_use : get t.uses b ≡ Some (handles_of kind.Dependent)
    block_use =
        let (more, is) = split in
        (w.chained kind.Dependent b).0
        (subst (λ bs. Contains bs b) (sym is)
        (Contains-append_right on.passed (b ∷ more) b (first_in b more)))

    pub block_bounds : (1 ≤ b) × (b ≤ t.blocks)
    block_bounds = w.uses b (ap is_some block_use)

    -- what follows the block in its chain is the rest of this one
    abbrev IsAfter : Option ℕ → Type 0
    IsAfter next = (before after : List ℕ) → chain_of t (kind_at t b) ≡ before ++ b ∷ after
        → next ≡ slice_get after 0

    after_is : (next : Option ℕ) → IsAfter next → (before after : List ℕ)
        → chain_of t kind.Dependent ≡ before ++ b ∷ after → next ≡ slice_get after 0
    after_is next value before after e = value before after (ap (λ u. chain_of t (kind_in u)) block_use ∙ e)

    pub chain_next : (next : Option ℕ)
        → IsAfter next
        → HasGathered t (b * ROWS) (b * ROWS + ROWS) old new → IsOnChain t new next
    chain_next next after g = let (more, is) = split in record {
      passed = on.passed ++ b ∷ [];
      rest = more;
      chain = is ∙ sym (append_assoc on.passed (b ∷ []) more);
      next = after_is next after on.passed more is;
      passing = passing_on t w b on.passing g;
    }

    left_here : (more : List ℕ) → chain_of t kind.Dependent ≡ on.passed ++ b ∷ more
        → left_from (chain_of t kind.Dependent) b ≡ length more + 1
    left_here more is =
        ap (λ bs. left_from bs b) is
        ∙ left_split on.passed more b (subst (AllPairs (λ x y. x ≢ y)) is (w.once kind.Dependent))

    pub chain_falls : (next : Option ℕ)
        → IsAfter next
        → option_map_or (left_from (chain_of t kind.Dependent)) next 0
        < left_from (chain_of t kind.Dependent) b
    chain_falls next after =
        let (more, is) = split in
        let here = left_here more is in by more is next (after_is next after on.passed more is) here
      where
        by : (more : List ℕ) → chain_of t kind.Dependent ≡ on.passed ++ b ∷ more → (o : Option ℕ)
            → o ≡ slice_get more 0
            → left_from (chain_of t kind.Dependent) b ≡ length more + 1
            → option_map_or (left_from (chain_of t kind.Dependent)) o 0
            < left_from (chain_of t kind.Dependent) b
        by more is None e here = omega arith
        by [] is (Some c) e here = absurd (none-some c (sym e))
        by (d ∷ more) is (Some c) e here =
            let same : c ≡ d = same_Some c d e in
            let chain : chain_of t kind.Dependent ≡ (on.passed ++ b ∷ []) ++ d ∷ more =
            is ∙ sym (append_assoc on.passed (b ∷ []) (d ∷ more)) in
            let there : left_from (chain_of t kind.Dependent) d ≡ length more + 1 =
            ap (λ bs. left_from bs d) chain
            ∙ left_split (on.passed ++ b ∷ []) more d
            (subst (AllPairs (λ x y. x ≢ y)) chain (w.once kind.Dependent)) in
            let count = ap (left_from (chain_of t kind.Dependent)) same in omega arith

  pub chain_end : (links : List Link) → IsOnChain t links None → AreLinks t links
  chain_end links on =
      passing_end t w (on.chain ∙ ap (λ bs. on.passed ++ bs) (nothing on.rest on.next) ∙ append-nil on.passed)
      on.passing
    where
      nothing : (rest : List ℕ) → None ≡ slice_get rest 0 → rest ≡ []
      nothing [] e = refl
      nothing (c ∷ more) e = absurd (none-some c e)
