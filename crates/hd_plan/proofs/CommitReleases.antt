-- Lemmas on what is removed.
use Rattle.hd_plan.proofs.Basics.{Addr, AreGivenUp, AreRemovedIn, Bool, CARD, Condemned, Heap, IsRemoved, List, Move, None, Option, REGION, Region, Some, [], all_regions, ap, arith, both_ways, cases_Bool, cases_eq, condemned_at, false, false≢true, get_left, get_other, get_removed, get_same, has-get, has_object, inl, inr, is_in_use, is_set, is_some, is_staying, length, length-append, move_at, nat_cmp, not, refl, region_at, same_address, subst, sym, true, unwrap_or, with_generation, without_region, ℕ, ⊎_elim, ◌+◌, ◌/◌, ◌<◌, ◌∙◌, ◌∷◌, ◌≡◌, ◌≢◌}
use Rattle.hd_model.specs.Heap.{region_of, card_of}
use Rattle.hd_heap.proofs.RegionGiveUp.{object_gone, object_left, card_left}
use Rattle.hd_plan.proofs.{MoveEnds.up_to, MoveEnds.ends_more, MoveEnds.ends_here, MoveEnds.ends_cases, CommitCopies.has_alike, CommitCopies.no_region}
use Rattle.hd_model.proofs.ReadAfterWrite.{len_again, len_less}
use Rattle.std.specs.FinMap as fin

-- what a map has where something was removed
get_gone : {A : Type 0} (m : fin.FinMap nat_cmp A) (k q : ℕ) → q ≡ k → fin.get (fin.remove m k) q ≡ None
get_gone m k q same = ap (fin.get (fin.remove m k)) same ∙ get_removed m k

module _ {here : ℕ → Bool} {old h : Heap} {ms : List Move} {i : ℕ} (r : AreRemovedIn here old h ms i) where
  removed_rest : (not (is_staying (move_at ms i).fate) ≡ true → here (region_of (move_at ms i).from) ≡ false)
      → AreRemovedIn here old h ms (i + 1)
  removed_rest rest = record {
    gone = λ a e on. elim (ends_cases i e) [
      | inl was ↦ r.gone a was on
      | inr now ↦ absurd (both_ways _ (rest now.0) (ap (λ (x : Addr). here (region_of x)) now.1 ∙ on))
    ];
    others = λ a none. r.others a
        (λ e. none (ends_more i (i + 1) (omega arith) e));
    same = r.same;
    cards = r.cards;
  }

  removed_one : (new : Heap) → not (is_staying (move_at ms i).fate) ≡ true
      → here (region_of (move_at ms i).from) ≡ true
      → IsRemoved h new (move_at ms i).from → AreRemovedIn here old new ms (i + 1)
  removed_one new left on step =
      let at = (move_at ms i).from in
      let gone : (a : Addr) → a.0 ≡ at.0 → fin.get new.objects a.0 ≡ None =
      λ a e. ap (λ (x : Heap). fin.get x.objects a.0) step.removed ∙ get_gone h.objects at.0 a.0 e in
      let beside : (a : Addr) → a.0 ≢ at.0 → fin.get new.objects a.0 ≡ fin.get h.objects a.0 =
      λ a apart. ap (λ (x : Heap). fin.get x.objects a.0) step.removed ∙ get_left h.objects at.0 a.0 apart in
      record {
        gone = λ a e o. elim (cases_eq a.0 at.0) [
          | inl same ↦ gone a same
          | inr apart ↦ beside a apart ∙ ⊎_elim (λ was. r.gone a was o)
              (λ now. absurd (apart (ap (λ (x : Addr). x.0) (sym now.1))))
              (ends_cases i e)
        ];
        others = λ a none.
            beside a (λ same.
            let is : at ≡ a = sym (same_address a at same) in
            both_ways _ (none (ends_here i left is))
            (ap (λ (x : Addr). here (region_of x)) (sym is) ∙ on))
            ∙ r.others a (λ e. none
            (ends_more i (i + 1) (omega arith) e));
        same = step.removed ∙ (λ k. record (r.same k) {
          objects = sym (ap (λ (x : Heap). x.objects) step.removed) k;
          cards = new.cards;
        });
        cards = λ a is.
            let apart : a.0 ≢ at.0 =
            λ e. false≢true (ap is_some (sym (gone a e)) ∙ sym (has-get new a) ∙ is) in
            let was : has_object h a ≡ true = sym (has_alike h new a (beside a apart)) ∙ is in
            elim (cases_eq (card_of a) (card_of at)) [
              | inl same ↦ ap (is_set new) same ∙ step.shared a is same ∙ ap (is_set h) (sym same)
                  ∙ r.cards a was
              | inr other ↦ step.others (card_of a) other ∙ r.cards a was
            ];
      }

  pub removed_step : (new : Heap) → (is_staying (move_at ms i).fate ≡ true → new ≡ h)
      → (here (region_of (move_at ms i).from) ≡ false → new ≡ h)
      → (is_staying (move_at ms i).fate ≡ false → here (region_of (move_at ms i).from) ≡ true
      → IsRemoved h new (move_at ms i).from)
      → AreRemovedIn here old new ms (i + 1)
  removed_step new stays whole left = elim (cases_Bool (here (region_of (move_at ms i).from))) [
    | inr off ↦ subst (λ (x : Heap). AreRemovedIn here old x ms (i + 1)) (sym (whole off))
        (removed_rest (λ e. off))
    | inl on ↦ elim (cases_Bool (is_staying (move_at ms i).fate)) [
      | inl still ↦ subst (λ (x : Heap). AreRemovedIn here old x ms (i + 1)) (sym (stays still))
          (removed_rest (λ left. absurd (both_ways _ (ap not still) left)))
      | inr away ↦ removed_one new (ap not away) on (left away on)
    ]
  ]

-- a region has eight cards
card_region : (a : Addr) → card_of a / (REGION / CARD) ≡ region_of a
unfolding region_of card_of
card_region a = omega arith

-- the regions, one after another
module _ {old h : Heap} {cs : List Condemned} {i : ℕ} (r : AreGivenUp old h cs i) (low : i < length cs)
    (rising : (j k : ℕ) → j < k → k < length cs
    → (condemned_at cs j).region < (condemned_at cs k).region)
    (in_use : (k : ℕ) → k < length cs → is_in_use old (condemned_at cs k).region ≡ true) where
  region_apart : (k : ℕ) → k < i → (condemned_at cs k).region ≢ (condemned_at cs i).region
  region_apart k below same = (let less = rising k i below low in omega arith)

  -- what one more leaves
  record LeavesRegion (new : Heap) (g : Option Region) : Type 0 where
    here : (q : ℕ) → q ≡ (condemned_at cs i).region → fin.get new.regions q ≡ g
    beside : (q : ℕ) → q ≢ (condemned_at cs i).region → fin.get new.regions q ≡ fin.get h.regions q
    raised : (condemned_at cs i).pinned ≡ true
        → g ≡ Some (record {
          generation = (condemned_at cs i).generation;
          fill = (region_at old (condemned_at cs i).region).fill;
        })
    given_up : (condemned_at cs i).pinned ≡ false → g ≡ None
    gone : (condemned_at cs i).pinned ≡ false → (a : Addr) → region_of a ≡ (condemned_at cs i).region
        → fin.get new.objects a.0 ≡ None
    left : (a : Addr) → ((condemned_at cs i).pinned ≡ false → (condemned_at cs i).region ≢ region_of a)
        → fin.get new.objects a.0 ≡ fin.get h.objects a.0
    cards : (a : Addr) → has_object new a ≡ true
        → (has_object h a ≡ true) × (is_set new (card_of a) ≡ is_set h (card_of a))
    limit : new.limit ≡ h.limit
    number : all_regions new ≡ all_regions h

  settled_on : (new : Heap) (g : Option Region) → LeavesRegion new g → AreGivenUp old new cs (i + 1)
  settled_on new g is = record {
    regions = record {
      raised = λ k before. up_to (λ j. (condemned_at cs j).pinned ≡ true
          → fin.get new.regions (condemned_at cs j).region ≡ Some (record {
            generation = (condemned_at cs j).generation;
            fill = (region_at old (condemned_at cs j).region).fill;
          })) i (λ j below pinned. is.beside _ (region_apart j below) ∙ r.regions.raised j below pinned)
          (λ pinned. is.here _ refl ∙ is.raised pinned) k (omega arith);
      given_up = λ k before. up_to (λ j. (condemned_at cs j).pinned ≡ false
          → fin.get new.regions (condemned_at cs j).region ≡ None) i
          (λ j below free. is.beside _ (region_apart j below) ∙ r.regions.given_up j below free)
          (λ free. is.here _ refl ∙ is.given_up free) k (omega arith);
      others = λ q none. is.beside q (λ same. none i (omega arith) (sym same))
          ∙ r.regions.others q (λ k below. none k (omega arith));
    };
    gone = λ k before. up_to (λ j. (condemned_at cs j).pinned ≡ false → (a : Addr)
        → region_of a ≡ (condemned_at cs j).region → fin.get new.objects a.0 ≡ None) i
        (λ j below free a inside. is.left a (λ p same. region_apart j below (sym (same ∙ inside)))
        ∙ r.gone j below free a inside) is.gone k (omega arith);
    left = λ a none. is.left a (none i (omega arith)) ∙ r.left a (λ k below. none k (omega arith));
    cards = λ a there.
        let now = is.cards a there in
        let was = r.cards a now.0 in
        (was.0, now.1 ∙ was.1);
    limit = is.limit ∙ r.limit;
    number = is.number ∙ r.number;
  }

  -- the region is in use until then
  region_was : fin.get h.regions (condemned_at cs i).region ≡ fin.get old.regions (condemned_at cs i).region
  region_was = r.regions.others (condemned_at cs i).region region_apart

  still_in_use : is_in_use h (condemned_at cs i).region ≡ true
  still_in_use = ap is_some region_was ∙ in_use i low

  settled_raised : (new : Heap) → (condemned_at cs i).pinned ≡ true
      → new ≡ with_generation h (condemned_at cs i).region (condemned_at cs i).generation
      → AreGivenUp old new cs (i + 1)
  settled_raised new pinned step =
      let n = (condemned_at cs i).region in
      let g : Region = record { generation = (condemned_at cs i).generation; fill = (region_at h n).fill } in
      let objects : new.objects ≡ h.objects = ap (λ (x : Heap). x.objects) step in
      settled_on new (Some g) (record {
        here = λ q same. ap (λ (x : Heap). fin.get x.regions q) step ∙ get_same h.regions n q g same;
        beside = λ q apart. ap (λ (x : Heap). fin.get x.regions q) step ∙ get_other h.regions n q g apart;
        raised = λ p. ap (λ (o : Option Region). Some (record g { fill = (unwrap_or o no_region).fill }))
            region_was;
        given_up = λ p. absurd (both_ways _ p pinned);
        gone = λ p. absurd (both_ways _ p pinned);
        left = λ a other. ap (λ os. fin.get os a.0) objects;
        cards = λ a there. (
          sym (has_alike h new a (ap (λ os. fin.get os a.0) objects)) ∙ there,
          ap (λ (x : Heap). is_set x (card_of a)) step,
        );
        limit = ap (λ (x : Heap). x.limit) step;
        number = ap {B = ℕ} (λ (x : Heap). all_regions x) step
            ∙ ap {B = ℕ} (λ m. m + length h.free) (len_again h.regions n g still_in_use);
      })

  settled_given_up : (new : Heap) → (condemned_at cs i).pinned ≡ false
      → new ≡ without_region h (condemned_at cs i).region → AreGivenUp old new cs (i + 1)
  settled_given_up new unpinned step =
      let n = (condemned_at cs i).region in
      let gone : (a : Addr) → region_of a ≡ n → fin.get new.objects a.0 ≡ None =
      λ a inside. ap (λ (x : Heap). fin.get x.objects a.0) step ∙ object_gone h n a inside in
      let left : (a : Addr) → region_of a ≢ n → fin.get new.objects a.0 ≡ fin.get h.objects a.0 =
      λ a apart. ap (λ (x : Heap). fin.get x.objects a.0) step ∙ object_left h n a apart in
      settled_on new None (record {
        here = λ q same. ap (λ (x : Heap). fin.get x.regions q) step ∙ get_gone h.regions n q same;
        beside = λ q apart. ap (λ (x : Heap). fin.get x.regions q) step ∙ get_left h.regions n q apart;
        raised = λ p. absurd (both_ways _ unpinned p);
        given_up = λ p. refl;
        gone = λ p. gone;
        left = λ a other. left a (λ same. other unpinned (sym same));
        cards = λ a there.
            let apart : region_of a ≢ n =
            λ same. false≢true (ap is_some (sym (gone a same)) ∙ sym (has-get new a) ∙ there) in
            let kept = card_left h n (card_of a) (λ same. apart (sym (card_region a) ∙ same)) in
            let was = sym (has_alike h new a (left a apart)) ∙ there in
            (was, ap (λ (x : Heap). is_set x (card_of a)) step ∙ kept);
        limit = ap (λ (x : Heap). x.limit) step;
        number =
            let now = ap {B = ℕ} (λ (x : Heap). all_regions x) step in
            omega (arith, now, len_less h.regions n still_in_use, length-append h.free (n ∷ []));
      })

  pub settled_step : (new : Heap) → ((condemned_at cs i).pinned ≡ true
      → new ≡ with_generation h (condemned_at cs i).region (condemned_at cs i).generation)
      → ((condemned_at cs i).pinned ≡ false → new ≡ without_region h (condemned_at cs i).region)
      → AreGivenUp old new cs (i + 1)
  settled_step new stays given_up = elim (cases_Bool (condemned_at cs i).pinned) [
    | inl pinned ↦ settled_raised new pinned (stays pinned)
    | inr unpinned ↦ settled_given_up new unpinned (given_up unpinned)
  ]
