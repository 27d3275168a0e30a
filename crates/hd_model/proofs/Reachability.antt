-- A test for what chains lead to, where all that they pass is in a list.
use Rattle.hd_model.proofs.Basics.{Bool, Contains, Decides, Leads, List, [], and_from, and_parts, inl, inr, list_any, or_cases, or_left, or_right, subst, sym, true, ⊎_elim, ◌&&◌, ◌||◌, ◌∷◌, ◌≡◌, ◌⊎◌, ℕ, zero, suc}
use Rattle.hd_model.proofs.{Members.not_in_none, Members.member_cases, MapEntries.any_from, MapEntries.any_of, EdgeChains.one_edge, EdgeChains.leads_on}
use Rattle.hd_model.specs.Anchors.{LeadsIn}

-- whether a list has something that passes
pub decides_any : {A : Type 0} (P : A → Type 0) (test : A → Bool) → ((x : A) → Decides (test x) (P x))
    → (xs : List A) → Decides (list_any test xs) ((x : A) × (Contains xs x × P x))
decides_any P test each xs = (
  λ h. let (x, rest) = any_from test xs h in (x, (rest.0, (each x).0 rest.1)),
  λ h. any_of test xs h.0 h.1.0 ((each h.0).1 h.1.1),
)

module _ {N : Type 0} (E : N → N → Type 0) (same step : N → N → Bool)
    (same_is : (x y : N) → Decides (same x y) (x ≡ y))
    (step_is : (x y : N) → Decides (step x y) (E x y)) where
  -- whether a chain leads from one to another and passes members of a list alone
  abbrev pub through : List N → N → N → Bool
  through [] x y = same x y || step x y
  through (v ∷ vs) x y = through vs x y || (through vs x v && through vs v y)

  through_from : (vs : List N) (x y : N) → through vs x y ≡ true → Leads E x y
  through_from [] x y h =
      ⊎_elim (λ e. subst (λ z. Leads E x z) ((same_is x y).0 e) Leads.here)
      (λ e. one_edge E ((step_is x y).0 e)) (or_cases (same x y) (step x y) h)
  through_from (v ∷ vs) x y h =
      ⊎_elim (λ e. through_from vs x y e)
      (λ e. let both = and_parts (through vs x v) (through vs v y) e in
      leads_on E (through_from vs x v both.0) (through_from vs v y both.1))
      (or_cases (through vs x y) (through vs x v && through vs v y) h)

  through_here : (vs : List N) (x : N) → through vs x x ≡ true
  through_here [] x = or_left (same x x) (step x x) ((same_is x x).1 (λ i. x))
  through_here (v ∷ vs) x = or_left (through vs x x) (through vs x v && through vs v x) (through_here vs x)

  through_step : (vs : List N) (x y : N) → E x y → through vs x y ≡ true
  through_step [] x y e = or_right (same x y) (step x y) ((step_is x y).1 e)
  through_step (v ∷ vs) x y e =
      or_left (through vs x y) (through vs x v && through vs v y) (through_step vs x y e)

  -- a chain to a member has no need to pass it
  through_to : (v : N) (vs : List N) (x : N) → through (v ∷ vs) x v ≡ true → through vs x v ≡ true
  through_to v vs x h =
      ⊎_elim (λ e. e) (λ e. (and_parts (through vs x v) (through vs v v) e).0)
      (or_cases (through vs x v) (through vs x v && through vs v v) h)

  -- a chain to a member goes on
  through_on : (vs : List N) (x y z : N) → Contains vs y → through vs x y ≡ true → E y z
      → through vs x z ≡ true
  through_on [] x y z inside h e = absurd (not_in_none y inside)
  through_on (v ∷ vs) x y z inside h e =
      ⊎_elim
      (λ first. or_right (through vs x z) (through vs x v && through vs v z)
      (and_from (through vs x v) (through vs v z)
      (through_to v vs x (subst (λ k. through (v ∷ vs) x k ≡ true) (sym first) h))
      (through_step vs v z (subst (λ k. E k z) (sym first) e))))
      (λ later. ⊎_elim
      (λ p. or_left (through vs x z) (through vs x v && through vs v z) (through_on vs x y z later p e))
      (λ p. let both = and_parts (through vs x v) (through vs v y) p in
      or_right (through vs x z) (through vs x v && through vs v z)
      (and_from (through vs x v) (through vs v z) both.0 (through_on vs v y z later both.1 e)))
      (or_cases (through vs x y) (through vs x v && through vs v y) h))
      (member_cases v vs y inside)

  module _ (vs : List N) (P : N → Type 0) (inside : (x : N) → P x → Contains vs x)
      (stays : (x y : N) → P x → E x y → P y) where
    through_all : {x y : N} → P x → Leads E x y → P y × (through vs x y ≡ true)
    through_all {x = x} h Leads.here = (h, through_here vs x)
    through_all {x = x} h (Leads.more {y = y} {z = z} chain e) =
        let (there, passes) = through_all h chain in
        (stays y z there e, through_on vs x y z (inside y there) passes e)

    -- whether a chain leads from a start
    pub decides_led : (Start : N → Type 0) (start : N → Bool) → ((x : N) → Decides (start x) (Start x))
        → ((x : N) → Start x → P x) → (y : N)
        → Decides (list_any (λ r. start r && through vs r y) vs) ((r : N) × (Start r × Leads E r y))
    decides_led Start start start_is in_p y = (
      λ h.
          let (r, rest) = any_from (λ r. start r && through vs r y) vs h in
          let both = and_parts (start r) (through vs r y) rest.1 in
          (r, ((start_is r).0 both.0, through_from vs r y both.1)),
      λ h.
          let there = in_p h.0 h.1.0 in
          any_of (λ r. start r && through vs r y) vs h.0 (inside h.0 there)
          (and_from (start h.0) (through vs h.0 y) ((start_is h.0).1 h.1.0) (through_all there h.1.1).1),
    )

    -- whether a chain of k edges leads from one to another
    pub in_edges : ℕ → N → N → Bool
    in_edges zero x y = same x y
    in_edges (suc k) x z = list_any (λ y. in_edges k x y && step y z) vs

    edges_from : (k : ℕ) (x y : N) → in_edges k x y ≡ true → LeadsIn E k x y
    unfolding in_edges
    edges_from zero x y h = subst (λ z. LeadsIn E 0 x z) ((same_is x y).0 h) LeadsIn.start
    edges_from (suc k) x z h =
        let (y, rest) = any_from (λ y. in_edges k x y && step y z) vs h in
        let both = and_parts (in_edges k x y) (step y z) rest.1 in
        LeadsIn.step (edges_from k x y both.0) ((step_is y z).0 both.1)

    edges_of : {k : ℕ} {x y : N} → P x → LeadsIn E k x y → P y × (in_edges k x y ≡ true)
    unfolding in_edges
    edges_of {x = x} h LeadsIn.start = (h, (same_is x x).1 (λ i. x))
    edges_of {x = x} h (LeadsIn.step {k = k} {y = y} {z = z} chain e) =
        let (there, leads) = edges_of h chain in (
          stays y z there e,
          any_of (λ v. in_edges k x v && step v z) vs y (inside y there)
              (and_from (in_edges k x y) (step y z) leads ((step_is y z).1 e)),
        )

    -- whether one is a start, and a chain of k edges leads from it
    pub decides_edges : (Start : N → Type 0) (start : N → Bool) → ((x : N) → Decides (start x) (Start x))
        → ((x : N) → Start x → P x) → (k : ℕ) (x y : N)
        → Decides (start x && in_edges k x y) (Start x × LeadsIn E k x y)
    decides_edges Start start start_is in_p k x y = (
      λ h. let both = and_parts (start x) (in_edges k x y) h in
          ((start_is x).0 both.0, edges_from k x y both.1),
      λ h. and_from (start x) (in_edges k x y) ((start_is x).1 h.0) (edges_of (in_p x h.0) h.1).1,
    )
