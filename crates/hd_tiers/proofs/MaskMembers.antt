-- Masks read as a set: what a write of one mask does to it.
use Rattle.hd_tiers.proofs.Basics.{BITS, Err, FinSet, HasAllOf, HasNoneBetween, HasNoneFrom, HasNoneOf, HasSomeOf, NumberSet, IsLeastFrom, IsLeastOf, Lengthened, List, MatchResult, Ok, Result, ap, arith, bit_and, bit_at, bit_not, bit_or, cases_eq, cases_lt, contains, contains-empty, contains-from_list_nat, difference, empty, eqb-true, filter, get_or, get_or-replicate, get_or-set_other, get_or-set_same, get_or_past, inl, inr, insert, is_marked, length, length-replicate, length-set, max, nat_cmp, nat_cmp-IsAntisymmetric, nat_cmp_total, numbers_of, range_with_len, refl, remove, replicate, same_set, set, subst, sym, true, union, w64, ℕ, ◌%◌, ◌*◌, ◌+◌, ◌-◌, ◌/◌, ◌<◌, ◌==◌, ◌^◌, ◌∙◌, ◌≡◌, ◌≢◌, ◌≤◌, ◌⊎◌}
use Rattle.std.proofs.lemmas.Nat.Bits.{bit_at-zero, bit_at_above, bit_at_ones, same_from_bits_below}
use Rattle.hd_tiers.specs.Sets.{set_of}
use Rattle.hd_mask.proofs.Bits.{bit_at-shr, least_bit, set_same, set_other, clear_same, clear_other}
use Rattle.hd_tiers.proofs.SetMembers.{kept_in, kept_outside, insert_same, insert_other, remove_same, remove_other, union_same, union_other, difference_same, difference_other}

-- a number is in the set of some masks exactly where its bit is set
pub contains-set_of : (masks : List ℕ) (i : ℕ) → contains (set_of masks) i ≡ is_marked masks i
unfolding set_of
contains-set_of masks i =
    contains-from_list_nat (filter (is_marked masks) (range_with_len 0 (BITS * length masks))) i
    ∙ elim (cases_lt i (BITS * length masks)) [
      | inl within ↦ kept_in i (is_marked masks) (BITS * length masks) 0 (omega arith) (omega arith)
      | inr past ↦ kept_outside i (is_marked masks) (BITS * length masks) 0 (inr (omega arith))
          ∙ sym (ap (λ m. bit_at m (i % BITS) == 1) (get_or_past masks (i / BITS) 0 (omega arith))
          ∙ ap (λ b. b == 1) (bit_at-zero (i % BITS)))
    ]

same_numbers : (s t : FinSet nat_cmp) → ((q : ℕ) → contains s q ≡ contains t q) → s ≡ t
same_numbers = same_set nat_cmp_total nat_cmp-IsAntisymmetric

module _ (masks : List ℕ) (k word : ℕ) (within : k < length masks) where
  mark_same : (q : ℕ) → q / BITS ≡ k → contains (set_of (set masks k word)) q ≡ (bit_at word (q % BITS) == 1)
  mark_same q e =
      contains-set_of (set masks k word) q
      ∙ ap (λ j. bit_at (get_or (set masks k word) j 0) (q % BITS) == 1) e
      ∙ ap (λ m. bit_at m (q % BITS) == 1) (get_or-set_same masks k word 0 within)

  mark_other : (q : ℕ) → q / BITS ≢ k → contains (set_of (set masks k word)) q ≡ contains (set_of masks) q
  mark_other q apart =
      contains-set_of (set masks k word) q
      ∙ ap (λ m. bit_at m (q % BITS) == 1) (get_or-set_other masks k (q / BITS) word 0 apart)
      ∙ sym (contains-set_of masks q)

  pub filled : word ≡ 2 ^ 64 - 1 → set_of (set masks k word) ≡ union (set_of masks) (numbers_of k)
  filled full =
      same_numbers _ _ (λ q.
      elim (cases_eq (q / BITS) k) [
        | inl e ↦ mark_same q e
            ∙ ap (λ b. b == 1) (ap (λ m. bit_at m (q % BITS)) full ∙ bit_at_ones BITS (q % BITS)
            (omega arith))
            ∙ sym (union_same k q (set_of masks) e)
        | inr apart ↦ mark_other q apart ∙ sym (union_other k q (set_of masks) apart)
      ])

  pub cleared : word ≡ 0 → set_of (set masks k word) ≡ difference (set_of masks) (numbers_of k)
  cleared none =
      same_numbers _ _ (λ q.
      elim (cases_eq (q / BITS) k) [
        | inl e ↦ mark_same q e
            ∙ ap (λ b. b == 1) (ap (λ m. bit_at m (q % BITS)) none ∙ bit_at-zero (q % BITS))
            ∙ sym (difference_same k q (set_of masks) e)
        | inr apart ↦ mark_other q apart ∙ sym (difference_other k q (set_of masks) apart)
      ])

module _ (masks : List ℕ) (i mask : ℕ) (within : i / BITS < length masks)
    (read : mask ≡ get_or masks (i / BITS) 0) where
  was : (q : ℕ) → q / BITS ≡ i / BITS → contains (set_of masks) q ≡ (bit_at mask (q % BITS) == 1)
  was q e = contains-set_of masks q ∙ ap (λ j. bit_at (get_or masks j 0) (q % BITS) == 1) e
      ∙ ap (λ m. bit_at m (q % BITS) == 1) (sym read)

  pub inserted : (word : ℕ) → word ≡ bit_or mask (2 ^ (i % BITS))
      → set_of (set masks (i / BITS) word) ≡ insert
      (set_of masks) i
  inserted word is =
      same_numbers _ _ (λ q.
      elim (cases_eq (q / BITS) (i / BITS)) [
        | inl e ↦ mark_same masks (i / BITS) word within q e ∙ ap (λ m. bit_at m (q % BITS) == 1) is ∙ at q e
            (cases_eq (q % BITS) (i % BITS))
        | inr apart ↦ mark_other masks (i / BITS) word within q apart ∙ sym
            (insert_other (set_of masks) i q (λ e. apart (ap (λ j. j / BITS) e)))
      ])
    where
      at : (q : ℕ) → q / BITS ≡ i / BITS → (q % BITS ≡ i % BITS) ⊎ (q % BITS ≢ i % BITS)
          → (bit_at (bit_or mask (2 ^ (i % BITS))) (q % BITS) == 1) ≡ contains (insert (set_of masks) i) q
      at q e (inl same) =
          ap (λ b. b == 1) (ap (bit_at (bit_or mask (2 ^ (i % BITS)))) same ∙ set_same mask (i % BITS)) ∙ sym
          (insert_same (set_of masks) i q (omega arith))
      at q e (inr apart) =
          ap (λ b. b == 1) (set_other mask (i % BITS) (q % BITS) apart) ∙ sym (was q e) ∙ sym
          (insert_other (set_of masks) i q (λ s. apart (ap (λ j. j % BITS) s)))

  pub removed : mask < 2 ^ 64 → (word : ℕ) → word ≡ bit_and mask (bit_not w64 (2 ^ (i % BITS))) → set_of
      (set masks (i / BITS) word) ≡ remove (set_of masks) i
  removed fits word is =
      same_numbers _ _ (λ q.
      elim (cases_eq (q / BITS) (i / BITS)) [
        | inl e ↦ mark_same masks (i / BITS) word within q e ∙ ap (λ m. bit_at m (q % BITS) == 1) is ∙ at q e
            (cases_eq (q % BITS) (i % BITS))
        | inr apart ↦ mark_other masks (i / BITS) word within q apart ∙ sym
            (remove_other (set_of masks) i q (λ e. apart (ap (λ j. j / BITS) e)))
      ])
    where
      at : (q : ℕ) → q / BITS ≡ i / BITS → (q % BITS ≡ i % BITS) ⊎ (q % BITS ≢ i % BITS)
          → (bit_at (bit_and mask (bit_not w64 (2 ^ (i % BITS)))) (q % BITS) == 1) ≡ contains
          (remove (set_of masks) i) q
      at q e (inl same) =
          ap (λ b. b == 1) (ap (bit_at (bit_and mask (bit_not w64 (2 ^ (i % BITS))))) same ∙ clear_same mask
          (i % BITS) fits (omega arith)) ∙ sym (remove_same (set_of masks) i q (omega arith))
      at q e (inr apart) =
          ap (λ b. b == 1) (clear_other mask (i % BITS) fits (omega arith) (q % BITS) apart) ∙ sym (was q e)
          ∙ sym
          (remove_other (set_of masks) i q (λ s. apart (ap (λ j. j % BITS) s)))

-- masks of 0 are the empty set
pub no_marks : (masks : List ℕ) → ((k : ℕ) → get_or masks k 0 ≡ 0) → set_of masks ≡ empty
no_marks masks zeros =
    same_numbers _ _ (λ q.
    contains-set_of masks q
    ∙ ap (λ m. bit_at m (q % BITS) == 1) (zeros (q / BITS)) ∙ ap (λ b. b == 1) (bit_at-zero (q % BITS))
    ∙ sym (contains-empty nat_cmp q))

-- a set bit of a shifted word is one of its 64 bits
pub row_within : (word k row : ℕ) → word < 2 ^ 64 → bit_at (word / 2 ^ k) row ≡ 1 → k + row < BITS
row_within word k row fits set =
    elim (cases_lt (k + row) BITS) [
      | inl lt ↦ lt
      | inr le ↦
          let one : bit_at word (k + row) ≡ 1 = sym (bit_at-shr word k row) ∙ set in
          let none : bit_at word (k + row) ≡ 0 = bit_at_above word BITS (k + row) fits le in
          absurd (omega (arith, sym none ∙ one))
    ]

-- ---- what callers see

abbrev pub seen : List ℕ → NumberSet
seen masks = record { room = BITS * length masks; members = set_of masks }

module _ (masks : List ℕ) (s : NumberSet) (is : seen masks ≡ s) where
  pub room_is : BITS * length masks ≡ s.room
  room_is = ap (λ (t : NumberSet). t.room) is

  pub marked : (i : ℕ) → contains s.members i ≡ is_marked masks i
  marked i = ap (λ (t : NumberSet). contains t.members i) (sym is) ∙ contains-set_of masks i

  -- what a write of one mask does to what is seen
  pub written : (k word : ℕ) (f : FinSet nat_cmp → FinSet nat_cmp) → set_of (set masks k word) ≡ f
      (set_of masks) → seen (set masks k word) ≡ record s { members = f s.members }
  written k word f e =
      let now : seen (set masks k word) ≡ record { room = BITS * length masks; members = f (set_of masks) } =
      λ i. record { room = BITS * length-set masks k word i; members = e i } in
      now ∙ ap (λ (t : NumberSet). record t { members = f t.members }) is

  -- the bit of a number, where its mask was read
  pub bit_of : (at mask i : ℕ) → mask ≡ get_or masks at 0 → i / BITS ≡ at
      → contains s.members i ≡ (bit_at mask (i % BITS) == 1)
  bit_of at mask i read e =
      marked i ∙ ap (λ j. bit_at (get_or masks j 0) (i % BITS) == 1) e ∙ ap (λ m. bit_at m (i % BITS) == 1)
      (sym read)

  pub all_of : (at mask : ℕ) → mask ≡ get_or masks at 0 → mask ≡ 2 ^ 64 - 1 → HasAllOf s.members at
  all_of at mask read full i e =
      bit_of at mask i read e
      ∙ ap (λ b. b == 1) (ap (λ m. bit_at m (i % BITS)) full ∙ bit_at_ones BITS (i % BITS) (omega arith))

  pub full_from : (at mask : ℕ) → mask ≡ get_or masks at 0 → mask < 2 ^ 64 → HasAllOf s.members at → mask ≡ 2
      ^ 64 - 1
  full_from at mask read fits all =
      same_from_bits_below BITS mask (2 ^ 64 - 1) fits (omega arith)
      (λ j lt. bit j lt ∙ sym (bit_at_ones BITS j lt))
    where
      bit : (j : ℕ) → j < BITS → bit_at mask j ≡ 1
      bit j lt =
          let here : (BITS * at + j) / BITS ≡ at = omega arith in
          let row : (BITS * at + j) % BITS ≡ j = omega arith in
          ap (bit_at mask) (sym row) ∙ eqb-true (bit_at mask ((BITS * at + j) % BITS)) 1
          (sym (bit_of at mask (BITS * at + j) read here) ∙ all (BITS * at + j) here)

  -- what one mask says of its block
  module _ (at mask : ℕ) (read : mask ≡ get_or masks at 0) where
    none_set : ((row : ℕ) → bit_at mask row ≡ 0) → HasNoneOf s.members at
    none_set clear i e = bit_of at mask i read e ∙ ap (λ b. b == 1) (clear (i % BITS))

    pub none_of : mask ≡ 0 → HasNoneOf s.members at
    none_of zero = none_set (λ row. ap (λ m. bit_at m row) zero ∙ bit_at-zero row)

    member_at : (row : ℕ) → row < BITS → bit_at mask row ≡ 1 → contains s.members (BITS * at + row) ≡ true
    member_at row low set =
        let here : (BITS * at + row) / BITS ≡ at = omega arith in
        let row_is : (BITS * at + row) % BITS ≡ row = omega arith in
        bit_of at mask (BITS * at + row) read here ∙ ap (λ b. b == 1) (ap (bit_at mask) row_is ∙ set)

    pub some_of : mask < 2 ^ 64 → 0 < mask → HasSomeOf s.members at
    some_of fits some =
        let first = least_bit mask some fits in
        record {
          number = BITS * at + first.0;
          of_block = omega (arith, first.1);
          member = member_at first.0 first.1 first.2;
        }

    -- the lowest set bit
    module _ {row : ℕ} (low : row < BITS) (set : bit_at mask row ≡ 1)
        (least : (k : ℕ) → k < row → bit_at mask k ≡ 0) where
      number_is : BITS * at + row ≡ at * BITS + row
      number_is = omega arith

      pub least_of : IsLeastOf s.members at (at * BITS + row)
      least_of = record {
        of_block = omega arith;
        member = subst (λ n. contains s.members n ≡ true) number_is (member_at row low set);
        least = λ k e below. bit_of at mask k read e ∙ ap (λ b. b == 1) (least (k % BITS) (omega arith));
      }

      -- after blocks without a member
      pub least_from : (from : ℕ) → from ≤ at → HasNoneBetween s.members (BITS * from) (BITS * at)
          → IsLeastFrom s.members (BITS * from) (at * BITS + row)
      least_from from le none = record {
        low = omega arith;
        member = least_of.member;
        least = λ k from_on below. elim (cases_lt k (BITS * at)) [
          | inl before ↦ none k from_on before
          | inr after ↦ least_of.least k (omega arith) below
        ];
      }

    -- a mask of 0 adds no member
    pub none_more : (from : ℕ) → HasNoneBetween s.members (BITS * from) (BITS * at) → mask ≡ 0
        → HasNoneBetween s.members (BITS * from) (BITS * (at + 1))
    none_more from none zero k from_on below =
        elim (cases_lt k (BITS * at)) [
          | inl before ↦ none k from_on before
          | inr after ↦ none_of zero k (omega arith)
        ]

  -- no member is past the last mask
  pub none_past : (from : ℕ) → BITS * length masks ≤ from → HasNoneFrom s.members from
  none_past from past k from_on =
      none_of (k / BITS) 0 (sym (get_or_past masks (k / BITS) 0 (omega arith))) refl k refl

  pub none_from : (from last : ℕ) → length masks ≤ last → HasNoneBetween s.members from (BITS * last)
      → HasNoneFrom s.members from
  none_from from last le none k from_on =
      elim (cases_lt k (BITS * last)) [
        | inl before ↦ none k from_on before
        | inr after ↦ none_past k (omega arith) k (omega arith)
      ]

  -- the mask of a number, shifted so that the number has the lowest bit
  module _ (from mask : ℕ) (read : mask ≡ get_or masks (from / BITS) 0) (fits : mask < 2 ^ 64) where
    bit_beside : (k : ℕ) → from ≤ k → k / BITS ≡ from / BITS
        → contains s.members k ≡ (bit_at (mask / 2 ^ (from % BITS)) (k - from) == 1)
    bit_beside k from_on e =
        let row_is : k % BITS ≡ from % BITS + (k - from) = omega arith in
        bit_of (from / BITS) mask k read e
        ∙ ap (λ b. b == 1) (ap (bit_at mask) row_is ∙ sym (bit_at-shr mask (from % BITS) (k - from)))

    module _ (row : ℕ) (set : bit_at (mask / 2 ^ (from % BITS)) row ≡ 1)
        (least : (k : ℕ) → k < row → bit_at (mask / 2 ^ (from % BITS)) k ≡ 0) where
      pub row_low : from % BITS + row < BITS
      row_low = row_within mask (from % BITS) row fits set

      pub beside : IsLeastFrom s.members from (from + row)
      beside =
          let low = row_low in
          let row_is : from + row - from ≡ row = omega arith in
          record {
            low = omega arith;
            member = bit_beside (from + row) (omega arith) (omega arith)
                ∙ ap (λ b. b == 1) (ap (bit_at (mask / 2 ^ (from % BITS))) row_is ∙ set);
            least = λ k from_on below. bit_beside k from_on (omega arith)
                ∙ ap (λ b. b == 1) (least (k - from) (omega arith));
          }

    pub none_beside : mask / 2 ^ (from % BITS) ≡ 0
        → HasNoneBetween s.members from (BITS * (from / BITS + 1))
    none_beside zero k from_on below =
        bit_beside k from_on (omega arith)
        ∙ ap (λ b. b == 1) (ap (λ m. bit_at m (k - from)) zero ∙ bit_at-zero (k - from))

pub zeros : (masks : List ℕ) (n : ℕ) → masks ≡ replicate n 0 → (k : ℕ) → get_or masks k 0 ≡ 0
zeros masks n is k =
    elim (cases_lt k n) [
      | inl within ↦ ap (λ xs. get_or xs k 0) is ∙ get_or-replicate n k 0 0 within
      | inr past ↦ get_or_past masks k 0 (omega (arith, ap length is, length-replicate {A = ℕ} n 0))
    ]

-- ---- what a block has after its mask was written

module _ (masks : List ℕ) (at : ℕ) (within : at < length masks) (left : ℕ) where
  pub written_at : left ≡ get_or (set masks at left) at 0
  written_at = sym (get_or-set_same masks at left 0 within)

  pub after_none : left ≡ 0 → HasNoneOf (set_of (set masks at left)) at
  after_none = none_of (set masks at left) (seen (set masks at left)) refl at left written_at

  pub after_some : left < 2 ^ 64 → 0 < left → HasSomeOf (set_of (set masks at left)) at
  after_some = some_of (set masks at left) (seen (set masks at left)) refl at left written_at

-- a vector that got masks of 0
module _ {masks longer : List ℕ} {blocks : ℕ} (more : Lengthened masks longer blocks) where
  pub lengthened : (s : NumberSet) → seen masks ≡ s
      → seen longer ≡ record s { room = max s.room (BITS * blocks) }
  lengthened s is =
      let room : BITS * length longer ≡ max (BITS * length masks) (BITS * blocks) = omega (arith, more.long) in
      let members : set_of longer ≡ set_of masks =
      same_numbers _ _ (λ q.
      contains-set_of longer q
      ∙ ap (λ m. bit_at m (q % BITS) == 1) (more.same (q / BITS))
      ∙ sym (contains-set_of masks q)) in
      let now : seen longer ≡ record { room = max (BITS * length masks) (BITS * blocks); members = set_of masks }
      = λ i. record { room = room i; members = members i } in
      now ∙ ap (λ (t : NumberSet). record t { room = max t.room (BITS * blocks) }) is

  pub still_small : BITS * length masks < 2 ^ 32 → BITS * blocks < 2 ^ 32 → BITS * length longer < 2 ^ 32
  still_small small few = omega (arith, more.long)

pub opened : (masks : List ℕ) (n : ℕ) → masks ≡ replicate n 0
    → seen masks ≡ record { room = BITS * n; members = empty }
opened masks n is =
    let room : BITS * length masks ≡ BITS * n = omega (arith, ap length is, length-replicate {A = ℕ} n 0) in
    let none : set_of masks ≡ empty = no_marks masks (zeros masks n is) in
    λ i. record { room = room i; members = none i }

pub positive : (n : ℕ) → n ≢ 0 → 0 < n
positive n some = omega arith

-- the bit of a row was cleared
module _ (masks : List ℕ) (s : NumberSet) (is : seen masks ≡ s) (at mask row : ℕ) (within : at < length masks)
    (read : mask ≡ get_or masks at 0) (fits : mask < 2 ^ 64) (low : row < BITS) where
  pub taken_at : (word : ℕ) → word ≡ bit_and mask (bit_not w64 (2 ^ row))
      → seen (set masks at word) ≡ record s { members = remove s.members (at * BITS + row) }
  taken_at word cleared =
      written masks s is at word (λ m. remove m (at * BITS + row))
      (subst (λ k. set_of (set masks k word) ≡ remove (set_of masks) (at * BITS + row)) of_block
      (removed masks (at * BITS + row) mask (subst (λ k. k < length masks) (sym of_block) within)
      (read ∙ ap (λ k. get_or masks k 0) (sym of_block)) fits word
      (cleared ∙ ap (λ r. bit_and mask (bit_not w64 (2 ^ r))) (sym of_row))))
    where
      of_block : (at * BITS + row) / BITS ≡ at
      of_block = omega (arith, low)

      of_row : (at * BITS + row) % BITS ≡ row
      of_row = omega (arith, low)

-- the masks are as few whether or not there was memory for more
pub few_after : {A E : Type 0} (masks longer : List ℕ) (blocks : ℕ) (r : Result A E)
    → MatchResult r (λ _. Lengthened masks longer blocks) (λ _. longer ≡ masks)
    → BITS * length masks < 2 ^ 32 → BITS * blocks < 2 ^ 32 → BITS * length longer < 2 ^ 32
few_after masks longer blocks (Ok _) more small few = still_small more small few
few_after masks longer blocks (Err _) same small few = omega (arith, small, ap length same)

-- a block with a set bit is within the masks
pub set_within : (masks : List ℕ) (at mask row : ℕ) → mask ≡ get_or masks at 0 → bit_at mask row ≡ 1
    → at < length masks
set_within masks at mask row read one =
    elim (cases_lt at (length masks)) [
      | inl lt ↦ lt
      | inr past ↦
          let zero : mask ≡ 0 = read ∙ get_or_past masks at 0 past in
          let none : bit_at mask row ≡ 0 = ap (λ m. bit_at m row) zero ∙ bit_at-zero row in
          absurd (omega (arith, sym none ∙ one))
    ]
