-- The regions that are not older after the moving: each has an object that stays, or was opened.
use Rattle.hd_plan.proofs.Basics.{Addr, AllPairs, AreMoves, Bool, Contains, FinMap, HasStay, Heap, IsPacked, IsSound, IsYoungRegion, LEFT, List, Move, OPEN, WasFree, [], ap, arith, cases_Bool, cells_of, cond, counts_keys, counts_le, counts_where, false, fewer, filter, first_in, get, get_left, get_or-take, has-get, has_object, inl, inr, is_in_use, is_moving, is_older_region, is_staying, later_in, len, length, length-append, length-filter, length-map, length-take, lighter, map, mapped_in, member_at, member_cases, move_at, nat_cmp, nat_lt, not, not-true, not_in_none, pairs_cons, pairs_first, pairs_none, pairs_passing, pairs_rest, passing_from, passing_in, placed_at, refl, region_at, region_generation, region_of, remove, same_address, share, stays_among, subst, suc, sum-remove, sum_by, sum_by-cons, sym, take, true, used_of, values, zero, ℕ, ⊎_elim, ◌&&◌, ◌++◌, ◌+◌, ◌/◌, ◌<◌, ◌∙◌, ◌∷◌, ◌≡◌, ◌≢◌, ◌≤◌, ◌⊎◌}
use Rattle.std.proofs.lemmas.List.Elements.{Contains-append_left, Contains-append_right}
use Rattle.hd_plan.specs.{Inside.IsCopiedTo, Layout.room_at}
use Rattle.hd_plan.proofs.{CommitCopies.get_placed, KeptMoves.all_put, MoveEnds.ends_more, RoomSteps.begun_most}

-- the addresses to which the first k moves copy
unfoldable tos : List Move → ℕ → List Addr
tos ms zero = []
tos ms (suc k) = cond (is_moving (move_at ms k).fate) ((move_at ms k).to ∷ tos ms k) (tos ms k)

tos_step : (ms : List Move) (k : ℕ) (b : Bool) → is_moving (move_at ms k).fate ≡ b
    → tos ms (suc k) ≡ cond b ((move_at ms k).to ∷ tos ms k) (tos ms k)
unfolding tos
tos_step ms k b e = ap (λ x. cond x ((move_at ms k).to ∷ tos ms k) (tos ms k)) e

from_tos : (ms : List Move) (k : ℕ) (a : Addr) → Contains (tos ms k) a → IsCopiedTo ms k a
unfolding tos
from_tos ms zero a h = absurd (not_in_none a h)
from_tos ms (suc k) a h =
    let more : Contains (tos ms k) a → IsCopiedTo ms (suc k) a =
    λ later. ends_more k (suc k) (omega arith) (from_tos ms k a later) in
    elim (cases_Bool (is_moving (move_at ms k).fate)) [
      | inl moves ↦
          ⊎_elim (λ same. record { at = k; before = omega arith; goes = moves; is = same }) more
          (member_cases (move_at ms k).to (tos ms k) a
          (subst (λ xs. Contains xs a) (tos_step ms k true moves) h))
      | inr stays ↦ more (subst (λ xs. Contains xs a) (tos_step ms k false stays) h)
    ]

apart_tos : (ms : List Move) (k : ℕ)
    → ((i j : ℕ) → i < j → j < k → is_moving (move_at ms i).fate ≡ true → is_moving (move_at ms j).fate ≡ true
    → (move_at ms i).to ≢ (move_at ms j).to)
    → AllPairs (λ x y. x ≢ y) (tos ms k)
unfolding tos
apart_tos ms zero apart = pairs_none (λ x y. x ≢ y)
apart_tos ms (suc k) apart =
    let rest = apart_tos ms k (λ i j low high. apart i j low (omega (arith, high))) in
    elim (cases_Bool (is_moving (move_at ms k).fate)) [
      | inl moves ↦ subst (AllPairs (λ x y. x ≢ y)) (sym (tos_step ms k true moves))
          (pairs_cons (λ x y. x ≢ y) (move_at ms k).to (tos ms k) (λ y h same.
          let t = from_tos ms k y h in
          apart t.at k t.before (omega arith) t.goes moves (t.is ∙ sym same)) rest)
      | inr stays ↦ subst (AllPairs (λ x y. x ≢ y)) (sym (tos_step ms k false stays)) rest
    ]

-- the cells that the first k moves moved, by where they went
cells_tos : (h : Heap) (ms : List Move) (w : Addr → ℕ) (k : ℕ)
    → ((j : ℕ) → j < k → is_moving (move_at ms j).fate ≡ true
    → w (move_at ms j).to ≡ cells_of (placed_at h (move_at ms j).from))
    → (room_at h ms k).cells ≡ sum_by w (tos ms k)
unfolding tos room_at
cells_tos h ms w zero same = refl
cells_tos h ms w (suc k) same =
    let rest = cells_tos h ms w k (λ j low. same j (omega (arith, low))) in
    elim (cases_Bool (is_moving (move_at ms k).fate)) [
      | inl moves ↦
          let more = ap (λ b. cond b (cells_of (placed_at h (move_at ms k).from)) 0) moves in
          let list = ap (sum_by w) (tos_step ms k true moves) in
          let cons = sum_by-cons w (move_at ms k).to (tos ms k) in
          let here = same k (omega arith) moves in
          omega (arith, rest, more, list, cons, here)
      | inr stays ↦
          let none = ap (λ b. cond b (cells_of (placed_at h (move_at ms k).from)) 0) stays in
          let list = ap (sum_by w) (tos_step ms k false stays) in
          omega (arith, rest, none, list)
    ]

-- a region in which an object stays, or that was opened
abbrev pub IsTaken : Heap → List Move → ℕ → Type 0
IsTaken h ms r = HasStay ms r ⊎ WasFree h (room_at h ms (length ms)).cursors.opened r

-- the regions in which an object stays, one for each such object, and those that were opened
taken : Heap → List Move → List ℕ
taken h ms = map (λ (m : Move). region_of m.from) (filter (λ (m : Move). is_staying m.fate) ms)
    ++ take (room_at h ms (length ms)).cursors.opened h.free

taken_in : (h : Heap) (ms : List Move) (r : ℕ) → IsTaken h ms r → Contains (taken h ms) r
unfolding taken
taken_in h ms r (inl s) =
    Contains-append_left _ _ r (subst (Contains _) s.region
    (mapped_in (λ (m : Move). region_of m.from) _ (move_at ms s.at)
    (passing_in (λ (m : Move). is_staying m.fate) ms (move_at ms s.at)
    (member_at ms s.at _ (move_at ms s.at) s.within refl) s.stays)))
taken_in h ms r (inr was) =
    let opened = (room_at h ms (length ms)).cursors.opened in
    let before = was.before in
    let within = was.within in
    Contains-append_right
    (map (λ (m : Move). region_of m.from) (filter (λ (m : Move). is_staying m.fate) ms)) _ r
    (member_at (take opened h.free) was.at 0 r (omega (arith, length-take opened h.free))
    (get_or-take opened h.free was.at 0 before ∙ was.number))

taken_many : (h : Heap) (ms : List Move)
    → length (taken h ms) ≤ stays_among ms + (room_at h ms (length ms)).cursors.opened
unfolding taken
taken_many h ms =
    let opened = (room_at h ms (length ms)).cursors.opened in
    let stays = filter (λ (m : Move). is_staying m.fate) ms in
    let known = length-append (map (λ (m : Move). region_of m.from) stays) (take opened h.free) in
    let also = length-map stays (λ (m : Move). region_of m.from) in
    let more = length-filter (λ (m : Move). is_staying m.fate) ms in
    omega (arith, known, also, more, length-take opened h.free)

-- a heap whose older regions are as they were, and whose others each have an object that stays or were
-- opened, with what moves in them: packed
pub packed : (h : Heap) → IsSound h → (n : ℕ) (ms : List Move) → AreMoves h n ms → (new : Heap)
    → ((r : ℕ) → is_older_region h n r ≡ true → (is_in_use new r ≡ true) × (region_at new r ≡ region_at h r))
    → ((j : ℕ) → j < length ms → is_moving (move_at ms j).fate ≡ true
    → (has_object new (move_at ms j).to ≡ true)
    × (cells_of (placed_at new (move_at ms j).to) ≡ cells_of (placed_at h (move_at ms j).from)))
    → ((r : ℕ) → is_in_use new r ≡ true → is_older_region h n r ≡ false → IsTaken h ms r)
    → IsPacked h new n (stays_among ms)
packed h sound n ms moves new older moved_there held =
    let put = all_put sound moves in
    let young : ℕ → Bool = λ r. not (is_older_region h n r) in
    let keys = counts_keys new.regions (λ r. r) (λ r. r) (λ r. refl) (λ r. refl) in
    let (count, some) = counts_where (λ r. is_in_use new r ≡ true) young _ keys in
    let addresses = counts_keys new.objects (λ k. record { 0 = k }) (λ (a : Addr). a.0) (λ k. refl)
    (λ a. refl) in
    let here : Addr → Bool = λ a. young (region_of a) in
    let cells : Addr → ℕ = λ a. cells_of (placed_at new a) in
    let inside = filter here addresses.members in
    let names : length some.members ≤ length (taken h ms) =
    fewer some.members (taken h ms) some.apart
    (λ r is. let both = some.each r is in taken_in h ms r (held r both.0 (not-true _ both.1))) in
    let moved : sum_by cells (tos ms (length ms)) ≤ sum_by cells inside =
    lighter cells (tos ms (length ms)) inside (apart_tos ms (length ms) put.apart)
    (λ a is.
    let t = from_tos ms (length ms) a is in
    let s = moved_there t.at t.before t.goes in
    let there : Contains addresses.members (move_at ms t.at).to =
    addresses.all (move_at ms t.at).to (sym (has-get new (move_at ms t.at).to) ∙ s.0) in
    let new_one : is_older_region h n (region_of (move_at ms t.at).to) ≡ false =
    no_older (region_of (move_at ms t.at).to) ((put.put t.at t.before t.goes).fresh.new) in
    subst (Contains inside) t.is (passing_in here addresses.members (move_at ms t.at).to there
    (ap not new_one))) in
    let sums = cells_tos h ms cells (length ms) (λ j low moving. (moved_there j low moving).1) in
    let bound = put.room.slack in
    let one = begun_most (room_at h ms (length ms)).cursors.first in
    let two = begun_most (room_at h ms (length ms)).cursors.second in
    let many = taken_many h ms in
    let number = some.number in
    record {
      older = older;
      regions = count;
      regions_are = record {
        members = some.members;
        apart = some.apart;
        each = λ r is. let both = some.each r is in (both.0, not-true _ both.1);
        all = λ r is. some.all r (is.0, ap not is.1);
        number = some.number;
      };
      cells = sum_by cells inside;
      cells_are = record {
        members = inside;
        apart = pairs_passing here (λ x y. x ≢ y) addresses.members addresses.apart;
        each = λ a is.
            let both = passing_from here addresses.members a is in
            (has-get new a ∙ addresses.each a both.0, not-true _ both.1);
        all = λ a is. passing_in here addresses.members a (addresses.all a (sym (has-get new a) ∙ is.0))
            (ap not is.1);
        sum = refl;
      };
      few = omega (arith, names, moved, sums, bound, one, two, many, number);
    }
  where
    no_older : (r : ℕ) → is_in_use h r ≡ false → is_older_region h n r ≡ false
    no_older r none = ap (λ b. b && nat_lt n (region_generation h r)) none

-- values of a map that are found at different addresses weigh at most as much as all of them
sum_within : {A : Type 0} (f : A → ℕ) (w : Addr → ℕ) (xs : List Addr) (m : FinMap nat_cmp A)
    → AllPairs (λ x y. x ≢ y) xs → ((a : Addr) → Contains xs a → w a ≤ share f (get m a.0))
    → sum_by w xs ≤ sum_by f (values m)
sum_within f w [] m apart found = omega arith
sum_within f w (x ∷ xs) m apart found =
    let rest = sum_within f w xs (remove m x.0) (pairs_rest (λ y z. y ≢ z) x xs apart)
    (λ a is. subst (λ o. w a ≤ share f o)
    (sym (get_left m x.0 a.0
    (λ same. pairs_first (λ y z. y ≢ z) x xs apart a is (same_address x a (sym same)))))
    (found a (later_in x xs a is))) in
    omega (arith, rest, found x (first_in x xs), sum-remove f m x.0, sum_by-cons w x xs)

-- where no region is older, all are counted
pub compact : (h new : Heap) (n stays : ℕ) → ((r : ℕ) → is_older_region h n r ≡ false)
    → IsPacked h new n stays → len new.regions ≤ used_of new / LEFT + OPEN + stays
compact h new n stays young is =
    let keys = counts_keys new.regions (λ r. r) (λ r. r) (λ r. refl) (λ r. refl) in
    let all = counts_le (λ r. is_in_use new r ≡ true) (IsYoungRegion h new n) (len new.regions) is.regions
    (λ r held. (held, young r)) keys is.regions_are in
    let within = sum_within cells_of (λ a. cells_of (placed_at new a)) is.cells_are.members new.objects
    is.cells_are.apart
    (λ a inside. let there = get_placed new a (is.cells_are.each a inside).0 in
    omega (arith, ap (share cells_of) there)) in
    omega (arith, all, within, is.cells_are.sum, is.few)
