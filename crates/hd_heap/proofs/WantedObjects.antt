-- Lemmas on the objects of a region that a walk returns.
use Rattle.hd_heap.proofs.Basics.{Any, Area, CARD, Carded, Contents, HEADER, IfSome, IsArea, IsFirstAt, IsFirstFrom, IsFirstSince, IsObject, None, Option, REGION, Some, Wanted, ap, arith, card_in, cases_eq, cases_lt, contents, false, false_from_ne_true, inl, inr, nat_lt, subst, sym, wants, ℕ, ◌&&◌, ◌+◌, ◌-◌, ◌/◌, ◌<◌, ◌≡◌, ◌≤◌}
use Rattle.std.specs.FinMap as map

-- what is not there is not wanted
pub unwanted : (w : Wanted) (a : Area) (k : ℕ) → ¬ (IsObject (contents a) k) → wants w a k ≡ false
unwanted Any a k none = false_from_ne_true _ none
unwanted (Carded n) a k none = ap (λ b. b && nat_lt n a.generation && card_in (Some a) (k / CARD))
    (false_from_ne_true (map.contains_key (contents a).objects k) none)

-- the first object that is wanted after one that is not is the first from that one on
pub since_next : (a : Area) (w : Wanted) (at : ℕ) (next answer : Option ℕ) → wants w a at ≡ false
    → IsFirstFrom (contents a) (at + 1) next → IsFirstSince (wants w a) next answer
    → IsFirstAt (wants w a) at answer
since_next a w at next answer bare = by next answer
  where
    passed : (q : ℕ) → at ≤ q → (at + 1 ≤ q → ¬ (IsObject (contents a) q)) → wants w a q ≡ false
    passed q low none = elim (cases_eq q at) [
      | inl same ↦ subst (λ (k : ℕ). wants w a k ≡ false) (sym same) bare
      | inr apart ↦ unwanted w a q (none (omega (arith, low, apart)))
    ]

    by : (n x : Option ℕ) → IsFirstFrom (contents a) (at + 1) n → IsFirstSince (wants w a) n x
        → IsFirstAt (wants w a) at x
    by None x first is = subst (IsFirstAt (wants w a) at) (sym is) (λ q low. passed q low (first q))
    by (Some n) None first is = λ q low. elim (cases_lt q n) [
      | inl before ↦ passed q low (λ later. first.2 q later before)
      | inr past ↦ is q past
    ]
    by (Some n) (Some x) first is = (
      is.0,
      omega (arith, first.0, is.1),
      λ q low below. elim (cases_lt q n) [
        | inl before ↦ passed q low (λ later. first.2 q later before)
        | inr past ↦ is.2 q past below
      ],
    )

-- the search has come to an object, or to the end: what it finds from there on is what it has to find
abbrev pub IsSearch : Area → Wanted → Option ℕ → Option ℕ → Type 0
IsSearch a w first next =
    ((answer : Option ℕ) → IsFirstSince (wants w a) next answer → IsFirstSince (wants w a) first answer)
    × IfSome next (λ at. IsObject (contents a) at)

-- what is left of a search
abbrev pub left : Option ℕ → ℕ
left None = 0
left (Some at) = 257 - at

pub left_falls : (at : ℕ) (next : Option ℕ) (r : Contents) → at < REGION → IsFirstFrom r (at + 1) next
    → left next < left (Some at)
left_falls at None r below none = omega arith
left_falls at (Some next) r below first_is = let up = first_is.0 in omega arith

-- an object lies in its region
pub object_below : (a : Area) → IsArea a → (k : ℕ) → IsObject (contents a) k → k + HEADER ≤ REGION
object_below a is k there =
    let low = is.laid_out.below_fill k there in
    let within = is.laid_out.within_region in
    omega arith

-- the first object is one
pub first_object : (a : Area) (from : ℕ) (first : Option ℕ) → IsFirstFrom (contents a) from first
    → IfSome first (λ at. IsObject (contents a) at)
first_object a from None none = tt
first_object a from (Some at) first_is = first_is.1
