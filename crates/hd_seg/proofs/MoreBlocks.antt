-- More blocks, which are unused: blocks, chains and rows stay.
use Rattle.hd_seg.proofs.Basics.{Block, HOST_BLOCKS, IsBlocks, List, ListsUnused, None, NumberSet, Option, Uses, [], ap, arith, block_at, cases_eq, cases_lt, contains, empty, extras_at, get_or, has_handles, inl, inr, is_none, length, length-append, length-replicate, mapped, nat_cmp-IsAntisymmetric, nat_cmp_total, refl, replicate, same_map, subst, suc, sym, use_at, use_of, uses_in, zero, ℕ, ◌++◌, ◌+◌, ◌-◌, ◌<◌, ◌∙◌, ◌∷◌, ◌≡◌, ◌≤◌, len}
use Rattle.std.specs.FinSet.{insert}
use Rattle.std.specs.Prelude.{max}
use Rattle.hd_tiers.proofs.SetMembers.{insert_same, insert_other}
use Rattle.hd_seg.specs.Inside.{HasAdded}
use Rattle.hd_seg.specs.declared.row.BlockKind.TheVariants as block
use Rattle.hd_seg.proofs.ChainLinks.{linked_by, none_is_some, some_of}
use Rattle.hd_seg.proofs.FunctionMaps.{cases_within, get-mapped, get-mapped_out}

-- a number more was added
pub added_on : {from at to : ℕ} {start old new : NumberSet} → HasAdded from at start old
    → from ≤ at → to ≡ at + 1 → (i : ℕ) → i ≡ at + 1
    → new ≡ record old { members = insert old.members i } → HasAdded from to start new
added_on {from} {at} {to} {start} {old} {new} was low next i i_is is =
    subst (HasAdded from to start) (sym is)
    (record {
      room = was.room;
      added = λ b first last. elim (cases_eq b i) [
        | inl e ↦ insert_same old.members i b e
        | inr apart ↦ insert_other old.members i b apart
            ∙ was.added b first (omega (arith, last, next, i_is, apart))
      ];
      low = λ b le. insert_other old.members i b (λ e. absurd (omega (arith, le, low, i_is, e)))
          ∙ was.low b le;
      high = λ b past. insert_other old.members i b (λ e. absurd (omega (arith, past, next, i_is, e)))
          ∙ was.high b (omega (arith, past, next));
    })

-- values that come are the default
pub longer_same : {A : Type 0} (xs : List A) (n i : ℕ) (d : A)
    → get_or (xs ++ replicate n d) i d ≡ get_or xs i d
longer_same [] zero i d = refl
longer_same [] (suc n) zero d = refl
longer_same [] (suc n) (suc i) d = longer_same [] n i d
longer_same (x ∷ xs) n zero d = refl
longer_same (x ∷ xs) n (suc i) d = longer_same xs n i d

pub long_enough : {A : Type 0} {new : List A} (xs : List A) (n : ℕ) (d : A)
    → new ≡ xs ++ replicate (n - length xs) d → length new ≡ max (length xs) n
long_enough xs n d is =
    let e = length-append xs (replicate (n - length xs) d) in
    omega (arith, ap length is, e, length-replicate (n - length xs) d)

past_all : {A : Type 0} (xs : List A) (i : ℕ) (d : A) → length xs ≤ i → get_or xs i d ≡ d
past_all [] i d le = refl
past_all (x ∷ xs) zero d le = absurd (omega (arith, le))
past_all (x ∷ xs) (suc i) d le = past_all xs i d (omega (arith, le))

-- a map of a function that has no value past the first n numbers
pub wider : {A : Type 0} (first n m : ℕ) (f g : ℕ → Option A) → n ≤ m → ((q : ℕ) → g q ≡ f q)
    → ((q : ℕ) → first + n ≤ q → f q ≡ None) → mapped first m g ≡ mapped first n f
wider first n m f g le same none = same_map nat_cmp_total nat_cmp-IsAntisymmetric _ _ (λ q.
    elim (cases_within first n f q) [
      | inl is ↦ get-mapped first m g q is.0 (omega (arith, is.1, le)) ∙ same q
          ∙ sym (get-mapped first n f q is.0 is.1)
      | inr (inl below) ↦ get-mapped_out first m g q (inl below)
          ∙ sym (get-mapped_out first n f q (inl below))
      | inr (inr past) ↦ elim (cases_lt q (first + m)) [
        | inl within ↦ get-mapped first m g q (omega (arith, past)) within ∙ same q ∙ none q past
            ∙ sym (get-mapped_out first n f q (inr past))
        | inr out ↦ get-mapped_out first m g q (inr out)
            ∙ sym (get-mapped_out first n f q (inr past))
      ]
    ])

module _ {number given more : ℕ} {table new : List Block} {chains : List (List ℕ)}
    (inv : IsBlocks number given table chains) (few : more ≤ HOST_BLOCKS) (up : number ≤ more)
    (is : new ≡ table ++ replicate (more + 1 - length table)
    (record { kind = block.Unused; extras = None })) where
  block_same : (b : ℕ) → block_at new b ≡ block_at table b
  block_same b = ap (λ t. block_at t b) is
      ∙ longer_same table (more + 1 - length table) b
      (record { kind = block.Unused; extras = None })

  use_same : (b : ℕ) → use_at new b ≡ use_at table b
  use_same b = ap (λ (x : Block). use_of x.kind) (block_same b)

  extras_same : (b : ℕ) → extras_at new b ≡ extras_at table b
  extras_same b = ap (λ (x : Block). x.extras) (block_same b)

  past : (b : ℕ) → number + 1 ≤ b
      → block_at table b ≡ record { kind = block.Unused; extras = None }
  past b le = past_all table b (record { kind = block.Unused; extras = None })
      (omega (arith, inv.size, le))

  no_use : (b : ℕ) → number + 1 ≤ b → use_at table b ≡ None
  no_use b le = ap (λ (x : Block). use_of x.kind) (past b le)

  uses-more : mapped 1 more (use_at new) ≡ mapped 1 number (use_at table)
  uses-more = wider 1 number more (use_at table) (use_at new) up use_same
      (λ b le. no_use b (omega (arith, le)))

  extras-more : mapped 1 more (extras_at new) ≡ mapped 1 number (extras_at table)
  extras-more = wider 1 number more (extras_at table) (extras_at new) up extras_same
      (λ b le. ap (λ (x : Block). x.extras) (past b (omega (arith, le))))

  pub blocks-more : IsBlocks more given new chains
  blocks-more = record {
    limit = few;
    size = omega (
      arith,
      long_enough table (more + 1) (record { kind = block.Unused; extras = None }) is,
      inv.size,
      up,
    );
    counted = inv.counted ∙ sym (ap len uses-more);
    spare = omega (arith, inv.spare, ap len extras-more);
    linked = linked_by inv.linked
        (λ k b was. record {
          low = was.low;
          high = omega (arith, was.high, up);
          use_is = use_same b ∙ was.use_is;
        })
        (λ k b now. record {
          low = now.low;
          high = elim (cases_lt number b) [
            | inl out ↦ absurd (none_is_some _ (no_use b (omega (arith, out)))
                (some_of _ _ (sym (use_same b) ∙ now.use_is)))
            | inr within ↦ within
          ];
          use_is = sym (use_same b) ∙ now.use_is;
        });
    plain = λ b none. extras_same b
        ∙ inv.plain b (ap has_handles (sym (use_same b)) ∙ none);
  }

  pub unused-more : {free wide after : NumberSet} (room : ℕ) → ListsUnused number table free
      → wide ≡ record free { room = max free.room room } → more < room → HasAdded number more wide after
      → ListsUnused more new after
  unused-more {free} {wide} {after} room lists wide_is fits added =
      let was : (b : ℕ) → contains wide.members b ≡ contains free.members b =
      λ b. ap (λ (s : NumberSet). contains s.members b) wide_is in
      record {
        room = omega (arith, added.room, ap (λ (s : NumberSet). s.room) wide_is, fits);
        within = λ b member. elim (cases_lt number b) [
          | inl out ↦ elim (cases_lt more b) [
            | inl far ↦ absurd (omega (
              arith,
              far,
              out,
              up,
              (lists.within b (sym (added.high b far ∙ was b) ∙ member)).1,
            ))
            | inr near ↦ (omega (arith, out), near)
          ]
          | inr inside ↦
              let range = lists.within b (sym (added.low b inside ∙ was b) ∙ member) in
              (range.0, omega (arith, range.1, up))
        ];
        each = λ b low high. elim (cases_lt number b) [
          | inl out ↦ added.added b out high
              ∙ sym (ap is_none (use_same b ∙ no_use b (omega (arith, out))))
          | inr inside ↦ added.low b inside ∙ was b ∙ lists.each b low inside
              ∙ sym (ap is_none (use_same b))
        ];
      }

  pub view-more : {u : Uses} → uses_in number table chains ≡ u → uses_in more new chains
      ≡ record u { table = record u.table { blocks = max u.table.blocks more } }
  view-more seen =
      let most : more ≡ max number more = omega (arith, up) in
      (λ i. record {
        table = record { rows = empty; chains = chains; uses = uses-more i; blocks = most i };
        extras = extras-more i;
      })
      ∙ ap (λ (v : Uses). record v { table = record v.table { blocks = max v.table.blocks more } }) seen
