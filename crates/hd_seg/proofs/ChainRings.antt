-- Chains as rings of nodes: what a path of nodes comes to, and what it is once a block has come or gone.
use Rattle.hd_seg.proofs.Basics.{Bool, Contains, HOST_BLOCKS, KINDS, Kind, List, None, Option, Some, [], ap, arith, cases_eq, cases_lt, cond, eq-eqb, few_kinds, filter, get_or, get_or-set_other, get_or-set_same, get_or_append_left, get_or_at, get_or_default, get_or_read, inl, inr, kind_number, length, length-append, length-replicate, length-set, length_push, ne_eqb, not, refl, replicate, set, slice_get, subst, suc, sym, true, zero, ℕ, ◌++◌, ◌+◌, ◌-◌, ◌<◌, ◌==◌, ◌∙◌, ◌∷◌, ◌≡◌, ◌≢◌, ◌≤◌}
use Rattle.std.proofs.lemmas.Bool.{le-ltb, lt-ltb}
use Rattle.std.proofs.lemmas.List.{append-nil, get_or-append-add, get_or_past, same_lists}
use Rattle.std.proofs.lemmas.List.Elements.{Contains-append_cases, Contains-append_left, Contains-append_right, Contains-push_cases, filter-append}
use Rattle.std.proofs.lemmas.List.FromFn.{get_or-map-range_with_len, length-map-range_with_len}
use Rattle.hd_model.proofs.Members.{first_in, later_in, member_at, split_at}
use Rattle.std.specs.Prelude.{max}
use Rattle.hd_seg.specs.Chains.{ChainLists, IsChained, IsNext, IsPath, IsRings, LeadsToSelf, block_in, chains_in, walked}

-- no block of a list has a node
abbrev pub Avoids : List ℕ → ℕ → Type 0
Avoids xs n = (i : ℕ) → i < length xs → get_or xs i 0 + KINDS ≢ n

more : (x : ℕ) (xs : List ℕ) (n : ℕ) → x + KINDS ≢ n → Avoids xs n → (i : ℕ) → i < length (x ∷ xs)
    → get_or (x ∷ xs) i 0 + KINDS ≢ n
more x xs n here there zero lt = here
more x xs n here there (suc i) lt = there i (omega arith)

fewer : (x : ℕ) (xs : List ℕ) (n : ℕ) → Avoids (x ∷ xs) n → Avoids xs n
fewer x xs n out = λ i lt. out (suc i) (omega arith)

first_out : (x : ℕ) (xs : List ℕ) (n : ℕ) → Avoids (x ∷ xs) n → x + KINDS ≢ n
first_out x xs n out = out 0 (omega arith)

-- a node of a kind is no block's
kind_out : (xs : List ℕ) {k : ℕ} → k < KINDS → Avoids xs k
kind_out xs low = λ i lt same. omega (arith, same, low)

module _ {next previous : List ℕ} where
  -- two paths that meet at a block, and a path at a block of it
  join : {xs ys : List ℕ} {a m z : ℕ} (b : ℕ) → IsPath next previous a xs m → m ≡ b + KINDS
      → IsPath next previous (b + KINDS) ys z → IsPath next previous a (xs ++ b ∷ ys) z
  join {a = a} b (IsPath.ends l) is right = IsPath.goes (subst (IsNext next previous a) is l) right
  join b (IsPath.goes l left) is right = IsPath.goes l (join b left is right)

  split : (xs : List ℕ) {ys : List ℕ} {a z : ℕ} (b : ℕ) → IsPath next previous a (xs ++ b ∷ ys) z
      → IsPath next previous a xs (b + KINDS) × IsPath next previous (b + KINDS) ys z
  split [] b (IsPath.goes l rest) = (IsPath.ends l, rest)
  split (x ∷ xs) b (IsPath.goes l rest) = let parts = split xs b rest in (IsPath.goes l parts.0, parts.1)

  -- the last node before the end, and the first one after the start
  closed : {xs : List ℕ} {a z : ℕ} → IsPath next previous a xs z → get_or next (get_or previous z 0) 0 ≡ z
  closed (IsPath.ends l) = ap (λ n. get_or next n 0) l.before ∙ l.after
  closed (IsPath.goes l rest) = closed rest

  opened : {xs : List ℕ} {a z : ℕ} → IsPath next previous a xs z → get_or previous (get_or next a 0) 0 ≡ a
  opened (IsPath.ends l) = ap (λ n. get_or previous n 0) l.after ∙ l.before
  opened (IsPath.goes l rest) = ap (λ n. get_or previous n 0) l.after ∙ l.before

  last_below : {xs : List ℕ} {a z : ℕ} (n : ℕ) → IsPath next previous a xs z → a < n
      → ((b : ℕ) → Contains xs b → b + KINDS < n) → get_or previous z 0 < n
  last_below n (IsPath.ends l) first each = omega (arith, l.before, first)
  last_below n (IsPath.goes {b = x} {bs = xs} l rest) first each =
      last_below n rest (each x (first_in x xs)) (λ b has. each b (later_in x xs b has))

  first_below : {xs : List ℕ} {a z : ℕ} (n : ℕ) → IsPath next previous a xs z → z < n
      → ((b : ℕ) → Contains xs b → b + KINDS < n) → get_or next a 0 < n
  first_below n (IsPath.ends l) last each = omega (arith, l.after, last)
  first_below n (IsPath.goes {b = x} {bs = xs} l rest) last each =
      let below = each x (first_in x xs) in omega (arith, l.after, below)

  -- a node that leads to none of a path's is none from which one of it comes, and the reverse
  sources : {xs : List ℕ} {a z p t : ℕ} → IsPath next previous a xs z → get_or next p 0 ≡ t → Avoids xs t
      → z ≢ t → (a ≢ p) × Avoids xs p
  sources (IsPath.ends l) is out last =
      (λ same. last (sym l.after ∙ ap (λ n. get_or next n 0) same ∙ is), λ i lt. absurd (omega (arith, lt)))
  sources {p = p} {t = t} (IsPath.goes {b = x} {bs = xs} l path) is out last =
      let rest : (x + KINDS ≢ p) × Avoids xs p = sources path is (fewer x xs t out) last in (
        λ same. first_out x xs t out (sym l.after ∙ ap (λ n. get_or next n 0) same ∙ is),
        more x xs p rest.0 rest.1,
      )

  targets : {xs : List ℕ} {a z q s : ℕ} → IsPath next previous a xs z → get_or previous q 0 ≡ s → a ≢ s
      → Avoids xs s → (z ≢ q) × Avoids xs q
  targets (IsPath.ends l) is first out = (
    λ same. first (sym l.before ∙ ap (λ n. get_or previous n 0) same ∙ is),
    λ i lt. absurd (omega (arith, lt)),
  )
  targets {z = z} {q = q} {s = s} (IsPath.goes {b = x} {bs = xs} l path) is first out =
      let rest : (z ≢ q) × Avoids xs q = targets path is (first_out x xs s out) (fewer x xs s out) in (
        rest.0,
        more x xs q (λ same. first (sym l.before ∙ ap (λ n. get_or previous n 0) same ∙ is)) rest.1,
      )

  -- a path without a link that is written stays, and one to whose end its last node led leads to another
  kept : {xs : List ℕ} {a z : ℕ} (p q : ℕ) → IsPath next previous a xs z → a ≢ p → Avoids xs p → Avoids xs q
      → z ≢ q → IsPath (set next p q) (set previous q p) a xs z
  kept {a = a} {z = z} p q (IsPath.ends l) first from to last = IsPath.ends (record {
    after = get_or-set_other next p a q 0 first ∙ l.after;
    before = get_or-set_other previous q z p 0 last ∙ l.before;
  })
  kept {a = a} p q (IsPath.goes {b = x} {bs = xs} l path) first from to last =
      IsPath.goes (record {
        after = get_or-set_other next p a q 0 first ∙ l.after;
        before = get_or-set_other previous q (x + KINDS) p 0 (first_out x xs q to) ∙ l.before;
      }) (kept p q path (first_out x xs p from) (fewer x xs p from) (fewer x xs q to) last)

  turned : {xs : List ℕ} {a z : ℕ} (p q : ℕ) → IsPath next previous a xs z → get_or previous z 0 ≡ p
      → Avoids xs z → Avoids xs q → p < length next → q < length previous
      → IsPath (set next p q) (set previous q p) a xs q
  turned {a = a} p q (IsPath.ends l) is end new low high =
      let same : a ≡ p = sym l.before ∙ is in
      IsPath.ends (record {
        after = ap (λ n. get_or (set next p q) n 0) same ∙ get_or-set_same next p q 0 low;
        before = get_or-set_same previous q p 0 high ∙ sym same;
      })
  turned {a = a} {z = z} p q (IsPath.goes {b = x} {bs = xs} l path) is end new low high =
      let apart : a ≢ p = λ same. first_out x xs z end
      (sym l.after ∙ ap (λ n. get_or next n 0) (same ∙ sym is) ∙ closed path) in
      IsPath.goes (record {
        after = get_or-set_other next p a q 0 apart ∙ l.after;
        before = get_or-set_other previous q (x + KINDS) p 0 (first_out x xs q new) ∙ l.before;
      }) (turned p q path is (fewer x xs z end) (fewer x xs q new) low high)

  -- the nodes before those of a path
  first_previous : {xs : List ℕ} {a z : ℕ} → IsPath next previous a xs z → 0 < length xs
      → get_or previous (get_or xs 0 0 + KINDS) 0 ≡ a
  first_previous (IsPath.ends l) lt = absurd (omega (arith, lt))
  first_previous (IsPath.goes l path) lt = l.before

  later_previous : {xs : List ℕ} {a z : ℕ} → IsPath next previous a xs z → (i : ℕ) → suc i < length xs
      → get_or previous (get_or xs (suc i) 0 + KINDS) 0 ≡ get_or xs i 0 + KINDS
  later_previous (IsPath.ends l) i lt = absurd (omega (arith, lt))
  later_previous (IsPath.goes l path) zero lt = first_previous path (omega (arith, lt))
  later_previous (IsPath.goes l path) (suc i) lt = later_previous path i (omega (arith, lt))

  -- a block is in one chain, at one index
  one_place : {j k z w : ℕ} {xs ys : List ℕ} → j < KINDS → k < KINDS → IsPath next previous j xs z
      → IsPath next previous k ys w → (i m : ℕ) → i < length xs → m < length ys
      → get_or xs i 0 ≡ get_or ys m 0 → (j ≡ k) × (i ≡ m)
  one_place low high left right zero zero lt below same = (
    sym (first_previous left lt) ∙ ap (λ b. get_or previous (b + KINDS) 0) same
        ∙ first_previous right below,
    refl,
  )
  one_place {j = j} {ys = ys} low high left right zero (suc m) lt below same =
      let e : j ≡ get_or ys m 0 + KINDS =
      sym (first_previous left lt) ∙ ap (λ b. get_or previous (b + KINDS) 0) same
      ∙ later_previous right m below in absurd (omega (arith, e, low))
  one_place {k = k} {xs = xs} low high left right (suc i) zero lt below same =
      let e : get_or xs i 0 + KINDS ≡ k =
      sym (later_previous left i lt) ∙ ap (λ b. get_or previous (b + KINDS) 0) same
      ∙ first_previous right below in absurd (omega (arith, e, high))
  one_place {xs = xs} {ys = ys} low high left right (suc i) (suc m) lt below same =
      let e : get_or xs i 0 + KINDS ≡ get_or ys m 0 + KINDS =
      sym (later_previous left i lt) ∙ ap (λ b. get_or previous (b + KINDS) 0) same
      ∙ later_previous right m below in
      let rest = one_place low high left right i m (omega (arith, lt)) (omega (arith, below))
      (omega (arith, e)) in
      (rest.0, ap suc rest.1)

  -- a walk comes to exactly the blocks of a path
  walk_is : {xs : List ℕ} {a z : ℕ} (room : ℕ) → IsPath next previous a xs z → z < KINDS → length xs ≤ room
      → walked room next (get_or next a 0) ≡ xs
  walk_is zero (IsPath.ends l) low few = refl
  walk_is {z = z} (suc room) (IsPath.ends l) low few =
      ap (walked (suc room) next) l.after
      ∙ ap (λ t. let ys : List ℕ = cond t [] ((z - KINDS) ∷ walked room next (get_or next z 0)) in ys)
      (lt-ltb z KINDS low)
  walk_is zero (IsPath.goes l path) low few = absurd (omega (arith, few))
  walk_is (suc room) (IsPath.goes {b = x} {bs = bs} l path) low few =
      let same : x + KINDS - KINDS ≡ x = omega arith in
      let rest = walk_is {xs = bs} room path low (omega (arith, few)) in
      ap (walked (suc room) next) l.after
      ∙ ap (λ t. let ys : List ℕ =
      cond t [] ((x + KINDS - KINDS) ∷ walked room next (get_or next (x + KINDS) 0)) in ys)
      (le-ltb (x + KINDS) KINDS (omega arith))
      ∙ (λ i. same i ∷ rest i)

  head_is : {xs : List ℕ} {a z : ℕ} → IsPath next previous a xs z → z < KINDS
      → block_in (get_or next a 0) ≡ slice_get xs 0
  head_is {z = z} (IsPath.ends l) low =
      ap block_in l.after
      ∙ ap (λ t. let o : Option ℕ = cond t None (Some (z - KINDS)) in o) (lt-ltb z KINDS low)
  head_is (IsPath.goes {b = x} l path) low =
      ap block_in l.after
      ∙ ap (λ t. let o : Option ℕ = cond t None (Some (x + KINDS - KINDS)) in o)
      (le-ltb (x + KINDS) KINDS (omega arith))
      ∙ ap Some (let same : x + KINDS - KINDS ≡ x = omega arith in same)

-- a path by links that read the same
path_like : {next previous after before : List ℕ} → ((n : ℕ) → get_or after n 0 ≡ get_or next n 0)
    → ((n : ℕ) → get_or before n 0 ≡ get_or previous n 0) → {xs : List ℕ} {a z : ℕ}
    → IsPath next previous a xs z → IsPath after before a xs z
path_like on back {a = a} {z = z} (IsPath.ends l) =
    IsPath.ends (record { after = on a ∙ l.after; before = back z ∙ l.before })
path_like on back {a = a} (IsPath.goes {b = x} l path) =
    IsPath.goes (record { after = on a ∙ l.after; before = back (x + KINDS) ∙ l.before })
    (path_like on back path)

-- ---- the chains that the links make

pub chain_is : (room : ℕ) (next : List ℕ) (k : ℕ) (d : List ℕ) → k < KINDS
    → get_or (chains_in room next) k d ≡ walked room next (get_or next k 0)
unfolding chains_in
chain_is room next k d low =
    get_or-map-range_with_len (λ n. walked room next (get_or next n 0)) 0 KINDS k k d low (omega arith)

pub chain_count : (room : ℕ) (next : List ℕ) → length (chains_in room next) ≡ KINDS
unfolding chains_in
chain_count room next = length-map-range_with_len (λ n. walked room next (get_or next n 0)) 0 KINDS

pub lists_are : {room : ℕ} {next previous : List ℕ} {lists : List (List ℕ)} → IsRings room next previous lists
    → lists ≡ chains_in room next
lists_are {room} {next} {previous} {lists} rings =
    same_lists lists (chains_in room next) (rings.kinds ∙ sym (chain_count room next)) (λ k d lt.
    let low : k < KINDS = omega (arith, lt, rings.kinds) in
    get_or_default lists k d [] lt
    ∙ sym (walk_is room (rings.ring k low) low (rings.short k))
    ∙ sym (chain_is room next k d low))

-- the rings of other links are the chains that these make
pub made : {room : ℕ} {next previous : List ℕ} {lists : List (List ℕ)} → IsRings room next previous lists
    → IsRings room next previous (chains_in room next)
made {room} {next} {previous} rings = subst (IsRings room next previous) (lists_are rings) rings

-- what holds of one changed chain and of the others holds of each
by_number : (lists : List (List ℕ)) (k : ℕ) (chain : List ℕ) → k < length lists
    → (P : ℕ → List ℕ → Type 0) → P k chain → ((j : ℕ) → j ≢ k → P j (get_or lists j [])) → (j : ℕ)
    → P j (get_or (set lists k chain) j [])
by_number lists k chain lt P here there j =
    elim (cases_eq j k) [
      | inl same ↦ subst (λ i. P i (get_or (set lists k chain) i [])) (sym same)
          (subst (P k) (sym (get_or-set_same lists k chain [] lt)) here)
      | inr apart ↦ subst (P j) (sym (get_or-set_other lists k j chain [] apart)) (there j apart)
    ]

-- a filter that keeps all
filter-all : (P : ℕ → Bool) (xs : List ℕ) → ((j : ℕ) → j < length xs → P (get_or xs j 0) ≡ true)
    → filter P xs ≡ xs
filter-all P [] all = refl
filter-all P (x ∷ xs) all = ap (λ b. cond b (x ∷ filter P xs) (filter P xs)) (all 0 (omega arith))
    ∙ ap (λ ys. x ∷ ys) (filter-all P xs (λ j lt. all (suc j) (omega arith)))

module _ {room : ℕ} {next previous : List ℕ} {lists : List (List ℕ)}
    (rings : IsRings room next previous lists) where
  -- what is in a chain, and where
  pub of_kind : (k b : ℕ) → Contains (get_or lists k []) b → k < KINDS
  of_kind k b has =
      elim (cases_lt k KINDS) [
        | inl low ↦ low
        | inr past ↦
            let none : get_or lists k [] ≡ [] = get_or_past lists k [] (omega (arith, past, rings.kinds)) in
            absurd (omega (arith, has.1, ap length none))
      ]

  node_below : (k : ℕ) → (b : ℕ) → Contains (get_or lists k []) b → b + KINDS < room + KINDS + 1
  node_below k b has = omega (arith, rings.within k b has)

  pub kind_inside : (k : ℕ) → k < KINDS → k < length previous
  kind_inside k low = omega (arith, low, rings.previous_size)

  pub last_inside : (k : ℕ) → k < KINDS → get_or previous k 0 < length next
  last_inside k low =
      let below = last_below (room + KINDS + 1) (rings.ring k low) (omega (arith, low)) (node_below k) in
      omega (arith, below, rings.next_size)

  pub first_is : (k : ℕ) → k < KINDS → block_in (get_or next k 0) ≡ slice_get (get_or lists k []) 0
  first_is k low = head_is (rings.ring k low) low

  -- a block comes to the end of a chain
  module _ (k b : ℕ) (low : k < KINDS) (fits : b ≤ room) (few : length (get_or lists k []) < room)
      (new : (j : ℕ) → Contains (get_or lists j []) b → ⊥) where
    abbrev chain : List ℕ
    chain = get_or lists k []

    abbrev last : ℕ
    last = get_or previous k 0

    abbrev node : ℕ
    node = b + KINDS

    new_out : (j : ℕ) → Avoids (get_or lists j []) node
    new_out j = λ i lt same.
        let here : get_or (get_or lists j []) i 0 ≡ b = omega (arith, same) in
        new j (member_at (get_or lists j []) i 0 b lt here)

    mine_pushed : IsPath (set (set next last node) node k) (set (set previous node last) k node) k
        (chain ++ b ∷ []) k
    mine_pushed =
        let more_next = length-set next last node in
        let more_previous = length-set previous node last in
        join b
        (kept node k
        (turned last node (rings.ring k low) refl (kind_out chain low) (new_out k) (last_inside k low)
        (omega (arith, fits, rings.previous_size))) (λ same. omega (arith, same, low)) (new_out k)
        (kind_out chain low) (λ same. omega (arith, same, low))) refl
        (IsPath.ends (record {
          after = get_or-set_same (set next last node) node k 0
              (omega (arith, fits, rings.next_size, more_next));
          before = get_or-set_same (set previous node last) k node 0
              (omega (arith, low, rings.previous_size, more_previous));
        }))

    other_pushed : (j : ℕ) → j ≢ k → j < KINDS
        → IsPath (set (set next last node) node k) (set (set previous node last) k node) j
        (get_or lists j []) j
    other_pushed j apart below =
        let ys = get_or lists j [] in
        let away = sources (rings.ring j below) (closed (rings.ring k low)) (kind_out ys low) apart in
        let free : j ≢ node = λ same. omega (arith, same, below) in
        kept node k (kept last node (rings.ring j below) away.0 away.1 (new_out j) free) free (new_out j)
        (kind_out ys low) apart

    pub rings-push : IsRings room (set (set next last node) node k) (set (set previous node last) k node)
        (set lists k (chain ++ b ∷ []))
    rings-push =
        let inside : k < length lists = omega (arith, low, rings.kinds) in
        record {
          few = rings.few;
          next_size = omega (
            arith,
            rings.next_size,
            length-set next last node,
            length-set (set next last node) node k,
          );
          previous_size = omega (
            arith,
            rings.previous_size,
            length-set previous node last,
            length-set (set previous node last) k node,
          );
          kinds = length-set lists k (chain ++ b ∷ []) ∙ rings.kinds;
          short = by_number lists k (chain ++ b ∷ []) inside (λ j xs. length xs ≤ room)
              (omega (arith, few, length_push chain b)) (λ j apart. rings.short j);
          within = by_number lists k (chain ++ b ∷ []) inside
              (λ j xs. (q : ℕ) → Contains xs q → q ≤ room)
              (λ q has. elim (Contains-push_cases chain b q has) [
                | inl old ↦ rings.within k q old
                | inr same ↦ omega (arith, same, fits)
              ])
              (λ j apart. rings.within j);
          ring = by_number lists k (chain ++ b ∷ []) inside
              (λ j xs. j < KINDS → IsPath (set (set next last node) node k)
              (set (set previous node last) k node) j xs j)
              (λ _. mine_pushed) (λ j apart. other_pushed j apart);
        }

  -- a block goes from a chain
  module _ (k b : ℕ) (low : k < KINDS) (before after : List ℕ)
      (is : get_or lists k [] ≡ before ++ b ∷ after) where
    abbrev leaving : ℕ
    leaving = b + KINDS

    abbrev left : ℕ
    left = get_or previous leaving 0

    abbrev right : ℕ
    right = get_or next leaving 0

    whole : IsPath next previous k (before ++ b ∷ after) k
    whole = subst (λ xs. IsPath next previous k xs k) is (rings.ring k low)

    to_it : IsPath next previous k before leaving
    to_it = (split before b whole).0

    from_it : IsPath next previous leaving after k
    from_it = (split before b whole).1

    apart_of : k ≢ leaving
    apart_of same = omega (arith, same, low)

    long : length (before ++ b ∷ after) ≡ length before + suc (length after)
    long = length-append before (b ∷ after)

    here : get_or (before ++ b ∷ after) (length before) 0 ≡ b
    here = get_or_at before b after 0 (length before) refl

    not_before : Avoids before leaving
    not_before = λ i lt same.
        let e : get_or before i 0 ≡ b = omega (arith, same) in
        let at = one_place low low whole whole i (length before)
        (omega (arith, lt, long)) (omega (arith, long))
        (get_or_append_left before (b ∷ after) 0 i lt ∙ e ∙ sym here) in
        omega (arith, at.1, lt)

    not_after : Avoids after leaving
    not_after = λ i lt same.
        let e : get_or after i 0 ≡ b = omega (arith, same) in
        let at = one_place low low whole whole
        (length before + suc i) (length before) (omega (arith, lt, long)) (omega (arith, long))
        (get_or-append-add before (b ∷ after) (suc i) 0 ∙ e ∙ sym here) in
        omega (arith, at.1)

    not_other : (j : ℕ) → j ≢ k → j < KINDS → Avoids (get_or lists j []) leaving
    not_other j other below = λ i lt same.
        let e : get_or (get_or lists j []) i 0 ≡ b = omega (arith, same) in
        let at = one_place below low (rings.ring j below) whole i
        (length before) lt (omega (arith, long)) (e ∙ sym here) in
        other at.0

    of_chain : (q : ℕ) → Contains (before ++ b ∷ after) q → q ≤ room
    of_chain q has = rings.within k q (subst (λ xs. Contains xs q) (sym is) has)

    pub left_inside : left < length next
    left_inside =
        let below = last_below (room + KINDS + 1) to_it (omega (arith, low))
        (λ q has. let le = of_chain q (Contains-append_left before (b ∷ after) q has) in omega (arith, le)) in
        omega (arith, below, rings.next_size)

    pub right_inside : right < length previous
    right_inside =
        let below = first_below (room + KINDS + 1) from_it (omega (arith, low))
        (λ q has. let le = of_chain q (Contains-append_right before (b ∷ after) q (later_in b after q has)) in
        omega (arith, le)) in
        omega (arith, below, rings.previous_size)

    -- the links before it and after it join
    rejoined : {rest : List ℕ} → IsPath next previous leaving rest k → Avoids rest leaving
        → IsPath (set next left right) (set previous right left) k before right
        → IsPath (set next left right) (set previous right left) k (before ++ rest) k
    rejoined (IsPath.ends l) out half =
        subst (λ xs. IsPath (set next left right) (set previous right left) k xs k) (sym (append-nil before))
        (subst (λ n. IsPath (set next left right) (set previous right left) k before n) l.after half)
    rejoined (IsPath.goes {b = c} {bs = cs} l path) out half =
        let from : (c + KINDS ≢ left) × Avoids cs left =
        sources path (closed to_it) (fewer c cs leaving out) apart_of in
        let to : (k ≢ right) × Avoids cs right =
        targets path (opened from_it) (first_out c cs leaving out) (fewer c cs leaving out) in
        join c
        (subst (λ n. IsPath (set next left right) (set previous right left) k before n) l.after half) refl
        (kept left right path from.0 from.1 to.1 to.0)

    mine_left : IsPath (set next left right) (set previous right left) k (before ++ after) k
    mine_left =
        let to : (leaving ≢ right) × Avoids before right =
        targets to_it (opened from_it) apart_of not_before in
        rejoined from_it not_after
        (turned left right to_it refl not_before to.1 left_inside right_inside)

    other_left : (j : ℕ) → j ≢ k → j < KINDS
        → IsPath (set next left right) (set previous right left) j (get_or lists j []) j
    other_left j other below =
        let free : j ≢ leaving = λ same. omega (arith, same, below) in
        let out = not_other j other below in
        let from = sources (rings.ring j below) (closed to_it) out free in
        let to = targets (rings.ring j below) (opened from_it) free out in
        kept left right (rings.ring j below) from.0 from.1 to.1 to.0

    rings-left : IsRings room (set next left right) (set previous right left) (set lists k (before ++ after))
    rings-left =
        let inside : k < length lists = omega (arith, low, rings.kinds) in
        record {
          few = rings.few;
          next_size = omega (arith, rings.next_size, length-set next left right);
          previous_size = omega (arith, rings.previous_size, length-set previous right left);
          kinds = length-set lists k (before ++ after) ∙ rings.kinds;
          short = by_number lists k (before ++ after) inside (λ j xs. length xs ≤ room)
              (omega (arith, rings.short k, ap length is, long, length-append before after))
              (λ j other. rings.short j);
          within = by_number lists k (before ++ after) inside (λ j xs. (q : ℕ) → Contains xs q → q ≤ room)
              (λ q has. of_chain q (elim (Contains-append_cases before after q has) [
                | inl early ↦ Contains-append_left before (b ∷ after) q early
                | inr late ↦ Contains-append_right before (b ∷ after) q (later_in b after q late)
              ]))
              (λ j other. rings.within j);
          ring = by_number lists k (before ++ after) inside
              (λ j xs. j < KINDS → IsPath (set next left right) (set previous right left) j xs j)
              (λ _. mine_left) (λ j other. other_left j other);
        }

    filtered : filter (λ x. not (x == b)) (get_or lists k []) ≡ before ++ after
    filtered =
        let test : ℕ → Bool = λ x. not (x == b) in
        let same : filter test (b ∷ after) ≡ filter test after =
        ap (λ t. cond (not t) (b ∷ filter test after) (filter test after)) (eq-eqb b b refl) in
        let early = filter-all test before (λ j lt. ap not (ne_eqb (get_or before j 0) b
        (λ e. not_before j lt (ap (λ n. n + KINDS) e)))) in
        let late = filter-all test after (λ j lt. ap not (ne_eqb (get_or after j 0) b
        (λ e. not_after j lt (ap (λ n. n + KINDS) e)))) in
        ap (filter test) is ∙ filter-append test before (b ∷ after)
        ∙ (λ i. early i ++ (same ∙ late) i)

    pub rings-remove : IsRings room (set next left right) (set previous right left)
        (set lists k (filter (λ x. not (x == b)) (get_or lists k [])))
    rings-remove = subst (λ xs. IsRings room (set next left right) (set previous right left) (set lists k xs))
        (sym filtered) rings-left

    pub after_is : block_in right ≡ slice_get after 0
    after_is = head_is from_it low

  -- a block that is in a chain
  module _ (k b : ℕ) (has : Contains (get_or lists k []) b) where
    pub chained_low : k < KINDS
    chained_low = of_kind k b has

    pub chained_node : b + KINDS < length next
    chained_node = omega (arith, rings.within k b has, rings.next_size)

    pub chained_back : b + KINDS < length previous
    chained_back = omega (arith, rings.within k b has, rings.previous_size)

    split_chain : (before : List ℕ) × ((after : List ℕ) × (get_or lists k [] ≡ before ++ b ∷ after))
    split_chain = split_at (get_or lists k []) b has

    pub left_within : get_or previous (b + KINDS) 0 < length next
    left_within = left_inside k b chained_low split_chain.0 split_chain.1.0 split_chain.1.1

    pub right_within : get_or next (b + KINDS) 0 < length previous
    right_within = right_inside k b chained_low split_chain.0 split_chain.1.0 split_chain.1.1

    pub rings-without : IsRings room
        (set next (get_or previous (b + KINDS) 0) (get_or next (b + KINDS) 0))
        (set previous (get_or next (b + KINDS) 0) (get_or previous (b + KINDS) 0))
        (set lists k (filter (λ x. not (x == b)) (get_or lists k [])))
    rings-without = rings-remove k b chained_low split_chain.0 split_chain.1.0 split_chain.1.1

  -- more room, by links that read the same
  pub rings-more : {more : ℕ} (after before : List ℕ) → room ≤ more → more ≤ HOST_BLOCKS
      → more + KINDS < length after → more + KINDS < length before
      → ((n : ℕ) → get_or after n 0 ≡ get_or next n 0) → ((n : ℕ) → get_or before n 0 ≡ get_or previous n 0)
      → IsRings more after before lists
  rings-more after before up few on_size back_size on back = record {
    few = few;
    next_size = on_size;
    previous_size = back_size;
    kinds = rings.kinds;
    short = λ k. let le = rings.short k in omega (arith, le, up);
    within = λ k b has. let le = rings.within k b has in omega (arith, le, up);
    ring = λ k low. path_like on back (rings.ring k low);
  }

-- ---- chains without blocks

pub no_chain : (n q : ℕ) → get_or (replicate {A = List ℕ} n []) q [] ≡ []
no_chain zero q = refl
no_chain (suc n) zero = refl
no_chain (suc n) (suc q) = no_chain n q

pub rings-none : {room : ℕ} {next previous : List ℕ} → room ≤ HOST_BLOCKS → LeadsToSelf room next
    → LeadsToSelf room previous → IsRings room next previous (replicate KINDS [])
rings-none {room} {next} {previous} few on back = record {
  few = few;
  next_size = omega (arith, on.size);
  previous_size = omega (arith, back.size);
  kinds = length-replicate {A = List ℕ} KINDS [];
  short = λ k. omega (arith, ap length (no_chain KINDS k));
  within = λ k b has. absurd (omega (arith, has.1, ap length (no_chain KINDS k)));
  ring = λ k low. subst (λ xs. IsPath next previous k xs k) (sym (no_chain KINDS k))
      (IsPath.ends (record { after = on.self k low; before = back.self k low }));
}

-- the first of the nodes of the kinds lead to themselves
pub record IsAloneBelow (room kind : ℕ) (links : List ℕ) : Type 0 where
  pub size : length links ≡ room + KINDS + 1
  pub self : (k : ℕ) → k < kind → get_or links k 0 ≡ k

pub alone_none : (room : ℕ) (links : List ℕ) → links ≡ replicate (room + KINDS + 1) 0
    → IsAloneBelow room 0 links
alone_none room links is = record {
  size = ap length is ∙ length-replicate (room + KINDS + 1) 0;
  self = λ k lt. absurd (omega (arith, lt));
}

pub alone_more : {room kind : ℕ} {links : List ℕ} → IsAloneBelow room kind links → kind < KINDS
    → IsAloneBelow room (kind + 1) (set links kind kind)
alone_more {room} {kind} {links} was lt = record {
  size = length-set links kind kind ∙ was.size;
  self = λ k below. elim (cases_eq k kind) [
    | inl e ↦ ap (λ n. get_or (set links kind kind) n 0) e
        ∙ get_or-set_same links kind kind 0 (omega (arith, lt, was.size)) ∙ sym e
    | inr apart ↦ get_or-set_other links kind k kind 0 apart ∙ was.self k (omega (arith, below, apart))
  ];
}

pub alone_all : {room kind : ℕ} {links : List ℕ} → IsAloneBelow room kind links → KINDS ≤ kind
    → LeadsToSelf room links
alone_all was all = record { size = was.size; self = λ k lt. was.self k (omega (arith, lt, all)) }

-- ---- the calls, in the words of the value

module _ {room : ℕ} {next previous : List ℕ} (rings : IsRings room next previous (chains_in room next))
    {u : ChainLists} (seen : record { lists = chains_in room next; room = room } ≡ u) where
  lists_seen : chains_in room next ≡ u.lists
  lists_seen = ap (λ (s : ChainLists). s.lists) seen

  room_seen : room ≡ u.room
  room_seen = ap (λ (s : ChainLists). s.room) seen

  chained_seen : (k b : ℕ) → Contains (get_or u.lists k []) b → Contains (get_or (chains_in room next) k []) b
  chained_seen k b has = subst (λ ls. Contains (get_or ls k []) b) (sym lists_seen) has

  pub room_few : {b : ℕ} → b ≤ u.room → b ≤ HOST_BLOCKS
  room_few within = omega (arith, within, room_seen, rings.few)

  -- a block comes
  module _ (kind : Kind) (b : ℕ) (within : b ≤ u.room)
      (few : length (get_or u.lists (kind_number kind) []) < u.room)
      (new : (j : ℕ) → Contains (get_or u.lists j []) b → ⊥) {e : ℕ} (e_is : e ≡ kind_number kind) {last : ℕ}
      (last_is : last ≡ get_or previous e last) where
    low : e < KINDS
    low = omega (arith, e_is, few_kinds kind)

    last_read : last ≡ get_or previous e 0
    last_read = get_or_read previous e last (kind_inside rings e low) last_is 0

    pub pushed_last : last < length next
    pushed_last = let inside = last_inside rings e low in omega (arith, last_read, inside)

    pushed : IsRings room (set (set next last (b + KINDS)) (b + KINDS) e)
        (set (set previous (b + KINDS) last) e (b + KINDS))
        (set (chains_in room next) e (get_or (chains_in room next) e [] ++ b ∷ []))
    pushed =
        subst (λ l. IsRings room (set (set next l (b + KINDS)) (b + KINDS) e)
        (set (set previous (b + KINDS) l) e (b + KINDS))
        (set (chains_in room next) e (get_or (chains_in room next) e [] ++ b ∷ []))) (sym last_read)
        (rings-push rings e b low (omega (arith, within, room_seen))
        (let same : get_or (chains_in room next) e [] ≡ get_or u.lists (kind_number kind) [] =
        λ i. get_or (lists_seen i) (e_is i) [] in
        omega (arith, ap length same, few, room_seen))
        (λ j has. new j (subst (λ ls. Contains (get_or ls j []) b) lists_seen has)))

    pub pushed_rings : IsRings room (set (set next last (b + KINDS)) (b + KINDS) e)
        (set (set previous (b + KINDS) last) e (b + KINDS))
        (chains_in room (set (set next last (b + KINDS)) (b + KINDS) e))
    pushed_rings = made pushed

    pub pushed_view : record {
      lists = chains_in room (set (set next last (b + KINDS)) (b + KINDS) e);
      room = room;
    }
        ≡ record u {
          lists = set u.lists (kind_number kind) (get_or u.lists (kind_number kind) [] ++ b ∷ []);
        }
    pushed_view =
        let is : chains_in room (set (set next last (b + KINDS)) (b + KINDS) e)
        ≡ set u.lists (kind_number kind) (get_or u.lists (kind_number kind) [] ++ b ∷ []) =
        sym (lists_are pushed)
        ∙ (λ i. set (lists_seen i) (e_is i) (get_or (lists_seen i) (e_is i) [] ++ b ∷ [])) in
        λ i. record { lists = is i; room = room_seen i }

  -- the first block of a chain
  pub first_seen : (kind : Kind) {e : ℕ} → e ≡ kind_number kind → (n : ℕ) → n ≡ get_or next e n
      → block_in n ≡ slice_get (get_or u.lists (kind_number kind) []) 0
  first_seen kind {e} e_is n is =
      let low : e < KINDS = omega (arith, e_is, few_kinds kind) in
      ap block_in (get_or_read next e n (omega (arith, low, rings.next_size)) is 0) ∙ first_is rings e low
      ∙ (λ i. slice_get (get_or (lists_seen i) (e_is i) []) 0)

  -- a block that is in a chain
  module _ (b : ℕ) (chained : IsChained u.lists b) where
    its_chain : Contains (get_or (chains_in room next) chained.kind []) b
    its_chain = chained_seen chained.kind b chained.member

    pub node_few : b ≤ HOST_BLOCKS
    node_few = let le = rings.within chained.kind b its_chain in omega (arith, le, rings.few)

    pub node_inside : b + KINDS < length next
    node_inside = chained_node rings chained.kind b its_chain

    pub node_back : b + KINDS < length previous
    node_back = chained_back rings chained.kind b its_chain

    pub after_seen : (n : ℕ) → n ≡ get_or next (b + KINDS) n → (k : ℕ) (before after : List ℕ)
        → get_or u.lists k [] ≡ before ++ b ∷ after → block_in n ≡ slice_get after 0
    after_seen n is k before after parts =
        let here : get_or (chains_in room next) k [] ≡ before ++ b ∷ after =
        ap (λ ls. get_or ls k []) lists_seen ∙ parts in
        let has : Contains (get_or (chains_in room next) k []) b =
        subst (λ xs. Contains xs b) (sym here)
        (Contains-append_right before (b ∷ after) b (0, omega arith, refl)) in
        ap block_in (get_or_read next (b + KINDS) n node_inside is 0)
        ∙ after_is rings k b (of_kind rings k b has) before after here

    module _ {before after : ℕ} (before_is : before ≡ get_or previous (b + KINDS) before)
        (after_is : after ≡ get_or next (b + KINDS) after) where
      before_read : before ≡ get_or previous (b + KINDS) 0
      before_read = get_or_read previous (b + KINDS) before node_back before_is 0

      after_read : after ≡ get_or next (b + KINDS) 0
      after_read = get_or_read next (b + KINDS) after node_inside after_is 0

      pub before_inside : before < length next
      before_inside =
          let inside = left_within rings chained.kind b its_chain in omega (arith, before_read, inside)

      pub after_inside : after < length previous
      after_inside =
          let inside = right_within rings chained.kind b its_chain in omega (arith, after_read, inside)

      removed : (k : ℕ) → Contains (get_or (chains_in room next) k []) b
          → IsRings room (set next before after) (set previous after before)
          (set (chains_in room next) k (filter (λ x. not (x == b)) (get_or (chains_in room next) k [])))
      removed k has =
          subst (λ l. IsRings room (set next l after) (set previous after l)
          (set (chains_in room next) k (filter (λ x. not (x == b)) (get_or (chains_in room next) k []))))
          (sym before_read)
          (subst (λ r. IsRings room (set next (get_or previous (b + KINDS) 0) r)
          (set previous r (get_or previous (b + KINDS) 0))
          (set (chains_in room next) k (filter (λ x. not (x == b)) (get_or (chains_in room next) k []))))
          (sym after_read) (rings-without rings k b has))

      pub removed_rings : IsRings room (set next before after) (set previous after before)
          (chains_in room (set next before after))
      removed_rings = made (removed chained.kind its_chain)

      pub removed_view : (k : ℕ) → Contains (get_or u.lists k []) b
          → record { lists = chains_in room (set next before after); room = room }
          ≡ record u { lists = set u.lists k (filter (λ x. not (x == b)) (get_or u.lists k [])) }
      removed_view k has =
          let is : chains_in room (set next before after)
          ≡ set u.lists k (filter (λ x. not (x == b)) (get_or u.lists k [])) =
          sym (lists_are (removed k (chained_seen k b has)))
          ∙ (λ i. set (lists_seen i) k (filter (λ x. not (x == b)) (get_or (lists_seen i) k []))) in
          λ i. record { lists = is i; room = room_seen i }

  -- there is more room
  module _ {more : ℕ} (after before : List ℕ) (up : room ≤ more) (few : more ≤ HOST_BLOCKS)
      (on_size : more + KINDS < length after) (back_size : more + KINDS < length before)
      (on : (n : ℕ) → get_or after n 0 ≡ get_or next n 0)
      (back : (n : ℕ) → get_or before n 0 ≡ get_or previous n 0) where
    pub more_rings : IsRings more after before (chains_in more after)
    more_rings = made (rings-more rings after before up few on_size back_size on back)

    pub more_view : record { lists = chains_in more after; room = more } ≡ record u { room = max u.room more }
    more_view =
        let is : chains_in more after ≡ u.lists =
        sym (lists_are (rings-more rings after before up few on_size back_size on back)) ∙ lists_seen in
        let most : more ≡ max u.room more = omega (arith, up, room_seen) in
        λ i. record { lists = is i; room = most i }

    pub same_view : more ≡ room → record { lists = chains_in more after; room = more } ≡ u
    same_view same =
        let is : chains_in more after ≡ chains_in room next =
        sym (lists_are (rings-more rings after before up few on_size back_size on back)) in
        (λ i. record { lists = is i; room = same i }) ∙ seen
