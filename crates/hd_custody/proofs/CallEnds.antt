-- What a whole call has done.
use Rattle.hd_custody.proofs.Basics.{Acting, Allocates, BLOCKS, Gathers, List, Made, None, Option, Phase, Releases, Some, ap, called, calling, ending, follow, found, found_or, gathered, missed, offered, probe, push, refl, subst, suc, sweep, sym, with_block, with_slot, without, wrong, zero, ℕ, ◌+◌, ◌∙◌, ◌≡◌, ◌≢◌, ◌≤◌}
use Rattle.hd_custody.proofs.CallRanks.{allocate_bound, gather_bound, release_bound, found_real, missed_real}
use Rattle.hd_custody.proofs.GatherMasks.{shows_none}

-- what a returned number means: 0 is none
abbrev pub answer : ℕ → Option ℕ
answer zero = None
answer (suc x) = Some (suc x)

pub found_none : (x : ℕ) → x ≡ 0 → answer x ≡ None
found_none x e = ap answer e

pub found_some : (x : ℕ) → x ≢ 0 → answer x ≡ Some x
found_some zero e = absurd (e refl)
found_some (suc x) e = refl

ending_is : (x : ℕ) → found_or missed x ≡ ending (answer x)
ending_is zero = refl
ending_is (suc x) = refl

ending_real : (x : ℕ) → ending (answer x) ≢ wrong
ending_real zero = missed_real
ending_real (suc x) = found_real (suc x)

offered_is : (k x : ℕ) (held : List (ℕ × ℕ)) → with_slot x (k + 1) held ≡ offered k (answer x) held
offered_is k zero held = refl
offered_is k (suc x) held = refl

gathered_is : (k x : ℕ) (held : List (ℕ × ℕ)) → with_block x (k + 1) held ≡ gathered k (answer x) held
gathered_is k zero held = refl
gathered_is k (suc x) held = refl

ended_none : (x : ℕ) → answer x ≡ None → found_or missed x ≡ missed
ended_none zero e = refl
ended_none (suc x) e = cc

module _ {W : Type 0} {k blocks : ℕ} {start p : Phase} {h : List (ℕ × ℕ)} (a : Acting W) {b : Acting W}
    (so : Made k blocks start p h (calling a) b) where
  trace_is : b.view.trace ≡ so.steps
  trace_is = ap (λ (x : Acting W). x.view.trace) so.only

  view_is : (h' : List (ℕ × ℕ)) → h ≡ h' → b.view ≡ called h' b.view.trace a.view
  view_is h' same = ap (λ (x : Acting W). x.view) so.only
      ∙ ap (λ t. called h t a.view) (sym trace_is) ∙ ap (λ g. called g b.view.trace a.view) same

  steps_are : follow k blocks start b.view.trace ≡ p
  steps_are = ap (follow k blocks start) trace_is ∙ so.lead

module _ {W : Type 0} (k blocks : ℕ) (few : blocks ≤ BLOCKS) (a b : Acting W) (x : ℕ) (r : Option ℕ)
    (is : r ≡ answer x) where
  pub allocates : Made k blocks (probe 0) (found_or missed x) (with_slot x (k + 1) a.view.held) (calling a) b
      → Allocates k blocks r a.view b.view
  allocates so =
      let steps : follow k blocks (probe 0) b.view.trace ≡ ending (answer x) = steps_are a so ∙ ending_is x in
      subst (λ q. Allocates k blocks q a.view b.view) (sym is) (record {
        view = view_is a so (offered k (answer x) a.view.held) (offered_is k x a.view.held);
        steps = steps;
        bound = allocate_bound k blocks few b.view.trace _ steps (ending_real x);
      })

  pub gathers_all : Made k blocks (sweep 0) (found_or missed x) (with_block x (k + 1) a.view.held)
      (calling a) b → Gathers k blocks r a.view b.view
  gathers_all so =
      let ends = steps_are a so in
      let steps : follow k blocks (sweep 0) b.view.trace ≡ ending (answer x) = ends ∙ ending_is x in
      subst (λ q. Gathers k blocks q a.view b.view) (sym is) (record {
        view = view_is a so (gathered k (answer x) a.view.held) (gathered_is k x a.view.held);
        steps = steps;
        bound = gather_bound k blocks few b.view.trace _ steps (ending_real x);
        none = λ none. shows_none k blocks few b.view.trace (ends ∙ ended_none x none);
      })

pub releases : {W : Type 0} (k blocks : ℕ) → blocks ≤ BLOCKS → (x : ℕ) (a b : Acting W)
    → Made k blocks (push 0 x) (found 0) (without x a.view.held) (calling a) b
    → Releases k blocks x a.view b.view
releases k blocks few x a b so =
    let steps = steps_are a so in record {
      view = view_is a so (without x a.view.held) refl;
      steps = steps;
      bound = release_bound k blocks few x b.view.trace _ steps (found_real 0);
    }
