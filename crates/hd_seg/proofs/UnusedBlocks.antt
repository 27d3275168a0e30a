-- The set of unused blocks: its least member, and what becomes of it where a block comes into use or is left.
use Rattle.hd_seg.proofs.Basics.{Block, BlockUse, HasFrom, HasNoneFrom, HasNumbers, HasUnused, IfNone, IfSome, IsBlocks, IsLeastFrom, IsSome, List, ListsUnused, None, NumberSet, Option, Some, Uses, ap, arith, both_ways, cases_eq, cases_lt, contains, contains-empty, false, get, inl, inr, is_none, is_some, length, nat_cmp, refl, subst, sym, true, true≢false, use_at, uses_in, ℕ, ◌*◌, ◌+◌, ◌/◌, ◌<◌, ◌∙◌, ◌≡◌, ◌≢◌, ◌≤◌}
use Rattle.std.specs.FinSet.{FinSet, empty, insert, remove}
use Rattle.hd_tiers.proofs.SetMembers.{insert_same, insert_other, insert_keeps, remove_same, remove_other}
use Rattle.hd_seg.proofs.ChainLinks.{none_is_some, use_is}

pub no_use : (o : Option BlockUse) → is_none o ≡ true → o ≡ None
no_use None e = refl
no_use (Some x) e = absurd (true≢false (sym e))

pub some_use : (o : Option BlockUse) → is_none o ≡ false → IsSome o
some_use None e = absurd (true≢false e)
some_use (Some x) e = refl

not_none : (o : Option BlockUse) → IsSome o → is_none o ≡ false
not_none None e = absurd (true≢false (sym e))
not_none (Some x) e = refl

-- ---- a search that finds a number

pub is_found : {s : FinSet nat_cmp} {from : ℕ} → HasFrom s from → (o : Option ℕ)
    → IfNone o (HasNoneFrom s from) → IsSome o
is_found has None none = absurd (both_ways _ (none has.number has.low) has.member)
is_found has (Some i) none = refl

pub found_is : {s : FinSet nat_cmp} {from : ℕ} {o : Option ℕ} (i : ℕ) → o ≡ Some i
    → IfSome o (IsLeastFrom s from) → IsLeastFrom s from i
found_is {s} {from} i is found = subst (λ (p : Option ℕ). IfSome p (IsLeastFrom s from)) is found

-- ---- all numbers

pub numbers_none : (most : ℕ) (s : NumberSet) → s ≡ record { room = 64 * (most / 64 + 1); members = empty }
    → HasNumbers most 0 s
numbers_none most s is = record {
  room = omega (arith, ap (λ (t : NumberSet). t.room) is);
  has = λ b low high. absurd (omega (arith, low, high));
  within = λ b member. absurd (both_ways _ (ap (λ (t : NumberSet). contains t.members b) is
      ∙ contains-empty nat_cmp b) member);
}

pub numbers_more : {most last : ℕ} {s after : NumberSet} → HasNumbers most last s → (i : ℕ) → i ≡ last + 1
    → after ≡ record s { members = insert s.members i } → HasNumbers most (last + 1) after
numbers_more {most} {last} {s} {after} all i is after_is =
    subst (HasNumbers most (last + 1)) (sym after_is)
    (record {
      room = all.room;
      has = λ b low high. elim (cases_eq b i) [
        | inl e ↦ insert_same s.members i b e
        | inr apart ↦ insert_keeps s.members i b (all.has b low (omega (arith, is, high, apart)))
      ];
      within = λ b member. elim (cases_eq b i) [
        | inl e ↦ (omega (arith, is, e), omega (arith, is, e))
        | inr apart ↦
            let was = all.within b (sym (insert_other s.members i b apart) ∙ member) in
            (was.0, omega (arith, was.1))
      ];
    })

pub unused_none : (number : ℕ) (table : List Block) (s : NumberSet) → ((b : ℕ) → use_at table b ≡ None)
    → HasNumbers number number s → ListsUnused number table s
unused_none number table s none all = record {
  room = all.room;
  within = all.within;
  each = λ b low high. all.has b low high ∙ sym (ap is_none (none b));
}

-- ---- the least unused block

module _ {number given : ℕ} {table : List Block} {chains : List (List ℕ)} {free : NumberSet}
    (inv : IsBlocks number given table chains) (lists : ListsUnused number table free) where
  pub has_from : {from : ℕ} → 1 ≤ from → HasUnused table from → HasFrom free.members from
  has_from low found = record {
    number = found.number;
    low = found.low;
    member = lists.each found.number (omega (arith, low, found.low))
        (omega (arith, found.high, inv.size)) ∙ ap is_none found.unused;
  }

  pub fits : (b : ℕ) → contains free.members b ≡ true → b < free.room
  fits b member = let range = lists.within b member in omega (arith, lists.room, range.1)

  module _ {from b : ℕ} (found : IsLeastFrom free.members from b) where
    pub inside : b < length table
    inside = let range = lists.within b found.member in omega (arith, range.1, inv.size)

    pub is_unused : use_at table b ≡ None
    is_unused =
        let range = lists.within b found.member in
        no_use (use_at table b) (sym (lists.each b range.0 range.1) ∙ found.member)

    pub all_used : 1 ≤ from → (q : ℕ) → from ≤ q → q < b → IsSome (use_at table q)
    all_used one q first last =
        let range = lists.within b found.member in
        some_use (use_at table q)
        (sym (lists.each q (omega (arith, one, first)) (omega (arith, last, range.1)))
        ∙ found.least q first last)

-- where all blocks up to one are in use, an unused one is after it
module _ {number given : ℕ} {table : List Block} {chains : List (List ℕ)}
    (inv : IsBlocks number given table chains) {u : Uses} (view : uses_in number table chains ≡ u) {block : ℕ}
    (high : block ≤ u.table.blocks) (all : (b : ℕ) → 1 ≤ b → b ≤ block → IsSome (get u.table.uses b)) where
  pub used : (b : ℕ) → 1 ≤ b → b ≤ block → IsSome (use_at table b)
  used b low last =
      let within : b ≤ number = omega (arith, last, high, ap (λ (v : Uses). v.table.blocks) view) in
      ap is_some (sym (use_is inv b low within) ∙ ap (λ (v : Uses). get v.table.uses b) view)
      ∙ all b low last

  pub unused_after : HasUnused table 1 → HasUnused table (block + 1)
  unused_after found = record {
    number = found.number;
    low = elim (cases_lt block found.number) [
      | inl above ↦ omega (arith, above)
      | inr below ↦ absurd (none_is_some _ found.unused (used found.number found.low below))
    ];
    high = found.high;
    unused = found.unused;
  }

-- ---- one block comes into use, or is left

module _ {number : ℕ} {table new : List Block} {free after : NumberSet}
    (lists : ListsUnused number table free) (b : ℕ)
    (others : (q : ℕ) → q ≢ b → use_at new q ≡ use_at table q) where
  pub into_use : IsSome (use_at new b) → after ≡ record free { members = remove free.members b }
      → ListsUnused number new after
  into_use here is =
      subst (ListsUnused number new) (sym is)
      (record {
        room = lists.room;
        within = λ q member. elim (cases_eq q b) [
          | inl e ↦ absurd (both_ways _ (remove_same free.members b q e) member)
          | inr apart ↦ lists.within q (sym (remove_other free.members b q apart) ∙ member)
        ];
        each = λ q low high. elim (cases_eq q b) [
          | inl e ↦ remove_same free.members b q e
              ∙ sym (ap (λ x. is_none (use_at new x)) e ∙ not_none (use_at new b) here)
          | inr apart ↦ remove_other free.members b q apart ∙ lists.each q low high
              ∙ sym (ap is_none (others q apart))
        ];
      })

  pub out_of_use : 1 ≤ b → b ≤ number → use_at new b ≡ None
      → after ≡ record free { members = insert free.members b } → ListsUnused number new after
  out_of_use first last none is =
      subst (ListsUnused number new) (sym is)
      (record {
        room = lists.room;
        within = λ q member. elim (cases_eq q b) [
          | inl e ↦ (omega (arith, first, e), omega (arith, last, e))
          | inr apart ↦ lists.within q (sym (insert_other free.members b q apart) ∙ member)
        ];
        each = λ q low high. elim (cases_eq q b) [
          | inl e ↦ insert_same free.members b q e ∙ sym (ap (λ x. is_none (use_at new x)) e ∙ ap is_none none)
          | inr apart ↦ insert_other free.members b q apart ∙ lists.each q low high
              ∙ sym (ap is_none (others q apart))
        ];
      })
