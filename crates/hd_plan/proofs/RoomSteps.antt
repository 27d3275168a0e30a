-- The room while objects are laid: each fate of an object keeps what is true of it.
use Rattle.hd_plan.proofs.Basics.{Addr, Bool, CanPutAt, Dead, FIELDS, Fate, FinMap, Fits, Followed, HEADER, HasSlack, Heap, IsCursor, IsFresh, IsPut, IsRoom, IsSound, LEFT, List, Moves, MovesToNewRegion, OPEN, Opened, Option, Pinned, REGION, Region, Room, Some, WasFree, ap, arith, begun, cases_eq, cond, cursor_of, eq-eqb, false, false_from_ne_true, filled, followed_cursor, get, get_other, get_same, has_region, inl, inr, insert, is_in_use, is_moving, is_some, len, length, nat_cmp, ne_eqb, opened_cursor, put_fate, refl, region_in, room_of, slice_index, subst, sym, true, true≢false, unwrap_or, with_cursor, ℕ, ⊎_elim, ◌*◌, ◌+◌, ◌/◌, ◌<◌, ◌^◌, ◌∙◌, ◌≡◌, ◌≢◌, ◌≤◌, ◌⊎◌}
use Rattle.hd_model.specs.Heap.{region_of}
use Rattle.hd_plan.specs.declared.cursors.AllocCursor.{AllocCursor}
use Rattle.hd_model.proofs.ReadAfterWrite.{len_again}
use Rattle.std.specs.{FinMap.len-insert, Cmp.nat_cmp_total}

abbrev Regions : Type 0
Regions = FinMap nat_cmp Region

-- the region of an address
pub region_is : (a : Addr) (r off : ℕ) → a.0 ≡ r * REGION + off → off < REGION → region_of a ≡ r
unfolding region_of
region_is a r off address low = omega arith

pub region_low : (a : Addr) → region_of a * REGION ≤ a.0
unfolding region_of
region_low a = omega arith

pub region_high : (a : Addr) → a.0 < region_of a * REGION + REGION
unfolding region_of
region_high a = omega arith

begun_none : (c : AllocCursor) → c.region ≡ 0 → begun c ≡ 0
begun_none c none = ap {B = ℕ} (λ b. cond b 0 1) (eq-eqb c.region 0 none)

begun_some : (c : AllocCursor) → c.region ≢ 0 → begun c ≡ 1
begun_some c some = ap {B = ℕ} (λ b. cond b 0 1) (ne_eqb c.region 0 some)

pub begun_most : (c : AllocCursor) → begun c ≤ 1
begun_most c = elim (cases_eq c.region 0) [
  | inl none ↦ omega (arith, begun_none c none)
  | inr some ↦ omega (arith, begun_some c some)
]

-- what is read at a region, by what the map has
region_same : (ps qs : Regions) (r : ℕ) → get ps r ≡ get qs r → region_in ps r ≡ region_in qs r
region_same ps qs r e = ap (λ o. unwrap_or o (record { generation = 0; fill = 0 })) e

region_there : (ps : Regions) (r : ℕ) (x : Region) → get ps r ≡ Some x → region_in ps r ≡ x
region_there ps r x e = ap (λ o. unwrap_or o (record { generation = 0; fill = 0 })) e

-- a region has other contents, and no other has
record Alters (ps qs : Regions) (r : ℕ) (x : Region) : Type 0 where
  here : get qs r ≡ Some x
  other : (s : ℕ) → s ≢ r → get qs s ≡ get ps s

alters_filled : (ps : Regions) (r cells : ℕ) (x : Region) → region_in ps r ≡ x
    → Alters ps (filled ps r cells) r (record x { fill = x.fill + cells })
alters_filled ps r cells x there = record {
  here = get_same ps r r _ refl
      ∙ ap {B = Option Region} (λ (y : Region). Some (record y { fill = y.fill + cells })) there;
  other = λ s apart. get_other ps r s _ apart;
}

alters_opened : (ps : Regions) (r g cells : ℕ)
    → Alters ps (filled (insert ps r (record { generation = g; fill = 0 })) r cells) r
    (record { generation = g; fill = cells })
alters_opened ps r g cells =
    let one : Regions = insert ps r (record { generation = g; fill = 0 }) in
    let more = alters_filled one r cells _ (region_there one r _ (get_same ps r r _ refl)) in
    record {
      here = more.here ∙ ap {B = Option Region} (λ (x : ℕ). Some (record { generation = g; fill = x }))
          {x = 0 + cells} {y = cells} (omega arith);
      other = λ s apart. more.other s apart ∙ get_other ps r s _ apart;
    }

-- where nothing moves the room stays
pub room_rests : (w : Fate) → is_moving w ≡ false → (free : List ℕ) (q : Room) (g cells : ℕ)
    → put_fate w free q g cells ≡ q
room_rests Dead e free q g cells = let none : q.cells + 0 ≡ q.cells = omega arith in
    λ j. record q { cells = none j }
room_rests Pinned e free q g cells = let none : q.cells + 0 ≡ q.cells = omega arith in
    λ j. record q { cells = none j }
room_rests MovesToNewRegion e free q g cells = absurd (cc e)
room_rests Moves e free q g cells = absurd (cc e)

module _ (h : Heap) where
  pub no_cursor : (rs : FinMap nat_cmp Region) (g : ℕ) → IsCursor h rs g (record { region = 0; fill = 0 })
  no_cursor rs g = record { fresh = λ some. absurd (some refl); empty = λ e. refl; fits = omega arith }

  unfoldable pub room_start : IsRoom h (room_of h)
  room_start = record {
    held = λ r is. inl is;
    old = λ r is. refl;
    first = no_cursor h.regions 1;
    second = no_cursor h.regions 2;
    slack = omega arith;
    number = omega arith;
    few = omega arith;
  }

  -- the cursor of a generation
  pub room_cursor : (q : Room) → IsRoom h q → (g : ℕ) → (0 < g) × (g ≤ 2)
      → IsCursor h q.regions g (cursor_of q.cursors g)
  room_cursor q room g young = elim (cases_eq g 1) [
    | inl one ↦ subst (λ (x : ℕ). IsCursor h q.regions x (cursor_of q.cursors x)) (sym one) room.first
    | inr other ↦ subst (λ (x : ℕ). IsCursor h q.regions x (cursor_of q.cursors x)) {x = 2} {y = g}
        (omega arith) room.second
  ]

  -- a generation allocates in a region, which has another allocation pointer from then on
  record Puts (q p : Room) (g : ℕ) (c : AllocCursor) : Type 0 where
    regions : Alters q.regions p.regions c.region (record { generation = g; fill = c.fill })
    new : is_in_use h c.region ≡ false
    before : has_region q.regions c.region ≡ true → (region_in q.regions c.region).generation ≡ g
    grows : has_region q.regions c.region ≡ true → (region_in q.regions c.region).fill ≤ c.fill
    young : (0 < g) × (g ≤ 2)
    fits : c.fill ≤ REGION
    first : p.cursors.first ≡ (with_cursor q.cursors g c).first
    second : p.cursors.second ≡ (with_cursor q.cursors g c).second
    more : q.cursors.opened ≤ p.cursors.opened
    was : WasFree h p.cursors.opened c.region
    weighs : LEFT * p.cursors.opened + c.fill + LEFT * begun (cursor_of q.cursors g) + q.cells
        ≤ LEFT * q.cursors.opened + (cursor_of q.cursors g).fill + p.cells + LEFT
    number : len p.regions + q.cursors.opened ≡ len q.regions + p.cursors.opened
    few : p.cursors.opened ≤ length h.free

  -- an object meets its fate, and is put where it moves
  pub record Goes (moving : Bool) (q p : Room) (to : Addr) (g cells : ℕ) : Type 0 where
    pub room : IsRoom h p
    pub stays : (x : Addr) (k c : ℕ) → IsPut h q.regions x k c → IsPut h p.regions x k c
    pub puts : moving ≡ true → IsPut h p.regions to g cells
    pub apart : moving ≡ true → (x : Addr) (k c : ℕ) → IsPut h q.regions x k c → 0 < c → x ≢ to
    pub since : (r : ℕ) → has_region p.regions r ≡ true
        → (has_region q.regions r ≡ true) ⊎ ((moving ≡ true) × (region_of to ≡ r))

  module _ (sound : IsSound h) where
    module _ {q p : Room} {g : ℕ} {c : AllocCursor} (room : IsRoom h q) (puts : Puts q p g c) where
      number : c.region ≢ 0
      number none =
          let was = puts.was in
          let low : 0 < c.region =
          subst (λ (x : ℕ). 0 < x) was.number (sound.free_numbers was.at was.within).0 in
          omega arith

      here_region : region_in p.regions c.region ≡ record { generation = g; fill = c.fill }
      here_region = region_there p.regions c.region _ puts.regions.here

      here_fresh : IsFresh h p.regions g c.region
      here_fresh = record {
        held = ap is_some puts.regions.here;
        new = puts.new;
        generation = ap (λ x. x.generation) here_region;
      }

      other_region : (s : ℕ) → s ≢ c.region → region_in p.regions s ≡ region_in q.regions s
      other_region s apart = region_same p.regions q.regions s (puts.regions.other s apart)

      fresh_still : (k s : ℕ) → s ≢ c.region → IsFresh h q.regions k s → IsFresh h p.regions k s
      fresh_still k s apart fresh = record {
        held = ap is_some (puts.regions.other s apart) ∙ fresh.held;
        new = fresh.new;
        generation = ap (λ y. y.generation) (other_region s apart) ∙ fresh.generation;
      }

      put_held : (s : ℕ) → has_region p.regions s ≡ true
          → (is_in_use h s ≡ true) ⊎ WasFree h p.cursors.opened s
      put_held s is = elim (cases_eq s c.region) [
        | inl same ↦ inr (subst (λ (x : ℕ). WasFree h p.cursors.opened x) (sym same) puts.was)
        | inr apart ↦ elim (room.held s (sym (ap is_some (puts.regions.other s apart)) ∙ is)) [
          | inl held ↦ inl held
          | inr was ↦ inr (record {
            at = was.at;
            before = (let b = was.before in let more = puts.more in omega arith);
            within = was.within;
            number = was.number;
          })
        ]
      ]

      cursor_here : IsCursor h p.regions g c
      cursor_here = record {
        fresh = λ some. (here_fresh, ap (λ x. x.fill) here_region);
        empty = λ none. absurd (number none);
        fits = puts.fits;
      }

      -- the cursor of another generation is as before
      cursor_kept : (x : ℕ) (d : AllocCursor) → x ≢ g → IsCursor h q.regions x d → IsCursor h p.regions x d
      cursor_kept x d apart is = record {
        fresh = λ some.
            let at = is.fresh some in
            let away : d.region ≢ c.region =
            λ same. apart (sym at.0.generation ∙ ap (λ y. (region_in q.regions y).generation) same
            ∙ puts.before (ap (has_region q.regions) (sym same) ∙ at.0.held)) in
            (fresh_still x d.region away at.0, ap (λ y. y.fill) (other_region d.region away) ∙ at.1);
        empty = is.empty;
        fits = is.fits;
      }

      -- the slack, where a is the cursor that has changed and b the other
      slack_two : (a b d e : AllocCursor) → cursor_of q.cursors g ≡ a → d ≡ c → e ≡ b
          → LEFT * q.cursors.opened + (a.fill + b.fill) ≤ q.cells + LEFT * (begun a + begun b)
          → LEFT * p.cursors.opened + (d.fill + e.fill) ≤ p.cells + LEFT * (begun d + begun e)
      slack_two a b d e at own other slack =
          let known = ap {B = ℕ} (λ x. x.fill) at in
          let also = ap {B = ℕ} (λ x. x.fill) own in
          let more = ap begun own ∙ begun_some c number in
          let last = ap {B = ℕ} (λ x. x.fill) other in
          omega (arith, slack, puts.weighs, known, ap begun at, also, more, last, ap begun other)

      put_room : IsRoom h p
      put_room = elim (cases_eq g 1) [
        | inl one ↦
            let on = eq-eqb g 1 one in
            let own : p.cursors.first ≡ c = puts.first ∙ ap (λ b. cond b c q.cursors.first) on in
            let other : p.cursors.second ≡ q.cursors.second =
            puts.second ∙ ap (λ b. cond b q.cursors.second c) on in
            all (subst (λ (x : ℕ). IsCursor h p.regions x p.cursors.first) one
            (subst (λ (x : AllocCursor). IsCursor h p.regions g x) (sym own) cursor_here))
            (subst (λ (x : AllocCursor). IsCursor h p.regions 2 x) (sym other)
            (cursor_kept 2 q.cursors.second (λ e. omega arith) room.second))
            (slack_two q.cursors.first q.cursors.second p.cursors.first p.cursors.second
            (ap (λ b. cond b q.cursors.first q.cursors.second) on) own other room.slack)
        | inr more ↦
            let two : g ≡ 2 = (let young = puts.young in omega arith) in
            let off = ne_eqb g 1 more in
            let own : p.cursors.second ≡ c = puts.second ∙ ap (λ b. cond b q.cursors.second c) off in
            let other : p.cursors.first ≡ q.cursors.first =
            puts.first ∙ ap (λ b. cond b c q.cursors.first) off in
            let slack = room.slack in
            let sum = slack_two q.cursors.second q.cursors.first p.cursors.second p.cursors.first
            (ap (λ b. cond b q.cursors.first q.cursors.second) off) own other (omega arith) in
            all (subst (λ (x : AllocCursor). IsCursor h p.regions 1 x) (sym other)
            (cursor_kept 1 q.cursors.first (λ e. more (sym e)) room.first))
            (subst (λ (x : ℕ). IsCursor h p.regions x p.cursors.second) two
            (subst (λ (x : AllocCursor). IsCursor h p.regions g x) (sym own) cursor_here))
            (omega arith)
      ]
        where
          all : IsCursor h p.regions 1 p.cursors.first → IsCursor h p.regions 2 p.cursors.second
              → HasSlack p.cursors p.cells → IsRoom h p
          all first second slack = record {
            held = put_held;
            old = λ s is.
                puts.regions.other s (λ same. true≢false (sym is ∙ ap (is_in_use h) same ∙ puts.new))
                ∙ room.old s is;
            first = first;
            second = second;
            slack = slack;
            number = omega (arith, room.number, puts.number);
            few = puts.few;
          }

      -- what was put is still there
      stays_put : (to : Addr) (k cells : ℕ) → IsPut h q.regions to k cells → IsPut h p.regions to k cells
      stays_put to k cells is = elim (cases_eq (region_of to) c.region) [
        | inl same ↦
            let has : has_region q.regions c.region ≡ true = ap (has_region q.regions) (sym same)
            ∙ is.fresh.held in
            let low = puts.grows has in
            let own : k ≡ g = sym is.fresh.generation ∙ ap (λ x. (region_in q.regions x).generation) same
            ∙ puts.before has in
            record {
              fresh = subst (λ (r : ℕ). IsFresh h p.regions k r) (sym same)
                  (subst (λ (x : ℕ). IsFresh h p.regions x c.region) (sym own) here_fresh);
              below = (let known = ap {B = ℕ} (λ x. x.fill) (ap (region_in p.regions) same ∙ here_region) in
                  omega (arith, is.below, ap (λ x. (region_in q.regions x).fill) same, known));
            }
        | inr apart ↦ record {
          fresh = fresh_still k (region_of to) apart is.fresh;
          below = omega (arith, is.below, ap {B = ℕ} (λ x. x.fill) (other_region (region_of to) apart));
        }
      ]

      -- and what is put is put, apart from what was
      moves : (to : Addr) (cells : ℕ) → region_of to ≡ c.region → to.0 + cells ≤ c.region * REGION + c.fill
          → ((x : Addr) (k n : ℕ) → IsPut h q.regions x k n → 0 < n → x ≢ to) → Goes true q p to g cells
      moves to cells same low apart = record {
        room = put_room;
        stays = stays_put;
        puts = λ e. record {
          fresh = subst (λ (r : ℕ). IsFresh h p.regions g r) (sym same) here_fresh;
          below = omega (arith, same, ap {B = ℕ} (λ x. x.fill) (ap (region_in p.regions) same ∙ here_region));
        };
        apart = λ e. apart;
        since = λ r has. elim (cases_eq r c.region) [
          | inl here ↦ inr (refl, same ∙ sym here)
          | inr other ↦ inl (sym (ap is_some (puts.regions.other r other)) ∙ has)
        ];
      }

    -- an object that does not move
    rests : (w : Fate) → is_moving w ≡ false → (q : Room) → IsRoom h q → (to : Addr) (g cells : ℕ)
        → Goes false q (put_fate w h.free q g cells) to g cells
    rests w e q room to g size =
        subst (λ (x : Room). Goes false q x to g size) (sym (room_rests w e h.free q g size)) (record {
          room = room;
          stays = λ x k c is. is;
          puts = λ e. absurd (true≢false (sym e));
          apart = λ e. absurd (true≢false (sym e));
          since = λ r is. inl is;
        })

    module _ (q : Room) (room : IsRoom h q) (from to : Addr) (g cells : ℕ) (young : (0 < g) × (g ≤ 2))
        (small : (0 < cells) × (cells ≤ FIELDS + HEADER)) where
      -- the region that is opened was not in use
      opened_new : q.cursors.opened < length h.free
          → has_region q.regions (slice_index h.free q.cursors.opened) ≡ true → ⊥
      opened_new within has = elim (room.held _ has) [
        | inl held ↦ true≢false (sym held ∙ sound.free_unused q.cursors.opened within)
        | inr was ↦ sound.free_apart was.at q.cursors.opened was.before within was.number
      ]

      -- one region more is in use then
      regions_opened : q.cursors.opened < length h.free
          → len (filled (insert q.regions (slice_index h.free q.cursors.opened)
          (record { generation = g; fill = 0 })) (slice_index h.free q.cursors.opened) cells)
          ≡ len q.regions + 1
      regions_opened within =
          let r = slice_index h.free q.cursors.opened in
          let one : Regions = insert q.regions r (record { generation = g; fill = 0 }) in
          len_again one r (record (region_in one r) { fill = (region_in one r).fill + cells })
          (ap is_some (get_same q.regions r r _ refl))
          ∙ len-insert nat_cmp_total q.regions r (record { generation = g; fill = 0 })
          ∙ ap {B = ℕ} (λ b. cond b (len q.regions) (len q.regions + 1))
          (false_from_ne_true _ (opened_new within))

      opens_puts : Opened h.free q.cursors to g cells
          → Puts q (put_fate MovesToNewRegion h.free q g cells) g (opened_cursor h.free q.cursors cells)
      opens_puts is = record {
        regions = alters_opened q.regions _ g cells;
        new = sound.free_unused q.cursors.opened is.free;
        before = λ has. absurd (opened_new is.free has);
        grows = λ has. absurd (opened_new is.free has);
        young = young;
        fits = omega (arith, small.1);
        first = refl;
        second = refl;
        more = omega arith;
        was = record { at = q.cursors.opened; before = omega arith; within = is.free; number = refl };
        weighs = ⊎_elim (λ none. omega (arith, begun_none (cursor_of q.cursors g) none))
            (λ over. omega (arith, over, small.1, begun_most (cursor_of q.cursors g))) is.left;
        number = omega (arith, regions_opened is.free);
        few = omega (arith, is.free);
      }

      follows_puts : Followed q.cursors to g cells
          → Puts q (put_fate Moves h.free q g cells) g (followed_cursor q.cursors g cells)
      follows_puts is =
          let at = (room_cursor q room g young).fresh is.begun in
          record {
            regions = alters_filled q.regions (cursor_of q.cursors g).region cells _
                (λ i. record { generation = at.0.generation i; fill = at.1 i });
            new = at.0.new;
            before = λ has. at.0.generation;
            grows = λ has. omega (arith, at.1);
            young = young;
            fits = is.room;
            first = refl;
            second = refl;
            more = omega arith;
            was = ⊎_elim (λ held. absurd (true≢false (sym held ∙ at.0.new))) (λ w. w)
                (room.held (cursor_of q.cursors g).region at.0.held);
            weighs = omega (arith, begun_some (cursor_of q.cursors g) is.begun);
            number = omega (
              arith,
              len_again q.regions (cursor_of q.cursors g).region
                  (record (region_in q.regions (cursor_of q.cursors g).region) {
                    fill = (region_in q.regions (cursor_of q.cursors g).region).fill + cells;
                  }) at.0.held,
            );
            few = room.few;
          }

      -- an object that moves is put
      pub goes : (w : Fate) → Fits w h.free q.cursors from to g cells
          → Goes (is_moving w) q (put_fate w h.free q g cells) to g cells
      goes Dead fits = rests Dead refl q room to g cells
      goes Pinned fits = rests Pinned refl q room to g cells
      goes MovesToNewRegion fits =
          let r : region_of to ≡ slice_index h.free q.cursors.opened =
          region_is to _ 0 (let p = fits.address in omega arith) (omega arith) in
          moves room (opens_puts fits) to cells r (let p = fits.address in omega arith)
          (λ x k c is some same. opened_new fits.free
          (ap (has_region q.regions) (sym r ∙ ap region_of (sym same)) ∙ is.fresh.held))
      goes Moves fits =
          let s = cursor_of q.cursors g in
          let r : region_of to ≡ s.region =
          region_is to s.region s.fill fits.address (let m = fits.room in omega (arith, small.0)) in
          let at = (room_cursor q room g young).fresh fits.begun in
          moves room (follows_puts fits) to cells r (let p = fits.address in omega arith)
          (λ x k c is some same.
          let region : region_of x ≡ s.region = ap region_of same ∙ r in
          absurd (let known = ap (λ y. (region_in q.regions y).fill) region in
          omega (arith, is.below, fits.address, region, at.1, known, ap {B = ℕ} (λ (y : Addr). y.0) same)))

    -- there is room for one object more
    pub can_put : (q : Room) → IsRoom h q → (g : ℕ) → (0 < g) × (g ≤ 2) → (cells : ℕ) → q.cells ≤ cells
        → cells < 2 ^ 38 → cells / LEFT + OPEN ≤ length h.free
        → CanPutAt h (cursor_of q.cursors g) q.cursors.opened
    can_put q room g young cells within small enough =
        let c = cursor_of q.cursors g in
        let is = room_cursor q room g young in
        let slack = room.slack in
        let first = begun_most q.cursors.first in
        let second = begun_most q.cursors.second in
        record {
          region = elim (cases_eq c.region 0) [
            | inl none ↦ omega (arith, none)
            | inr some ↦ elim (room.held c.region (is.fresh some).0.held) [
              | inl held ↦ (sound.numbers c.region held).1
              | inr was ↦ subst (λ (x : ℕ). x < 2 ^ 24) was.number (sound.free_numbers was.at was.within).1
            ]
          ];
          fill = is.fits;
          free = omega arith;
          few = omega arith;
        }
