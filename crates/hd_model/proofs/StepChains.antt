-- Chains of steps: joined, grown by one step, and seen as chains of a weaker relation.
use Rattle.hd_model.proofs.Basics.{Aged, AgedRunsAreRuns, AgedStep, Chain, Entry, List, Numbers, Run, RunsHaveAges, SoloRun, State, Step, [], aged_by, aged_start, link, refl, stay, ℕ, ◌++◌, ◌∷◌}

-- what each step keeps, a chain keeps
pub chain_keeps : {S : Type 0} {R : S → Entry → S → Type 0} (P : S → Type 0)
    → ((s : S) (e : Entry) (t : S) → R s e t → P s → P t) → {s t : S} {es : List Entry} → Chain R s es t → P s
    → P t
chain_keeps P keeps stay p = p
chain_keeps P keeps (link {s = s} {t = t} {e = e} step rest) p = chain_keeps P keeps rest (keeps s e t step p)

-- one chain after another
pub join : {S : Type 0} {R : S → Entry → S → Type 0} {s t u : S} {es fs : List Entry} → Chain R s es t
    → Chain R t fs u → Chain R s (es ++ fs) u
join stay next = next
join (link step rest) next = link step (join rest next)

-- one more step at the end
pub push : {S : Type 0} {R : S → Entry → S → Type 0} {s t u : S} {es : List Entry} {e : Entry}
    → Chain R s es t → R t e u → Chain R s (es ++ e ∷ []) u
push steps step = join steps (link step stay)

-- a chain, read through a function of its states, is one of what each step gives there
pub through : {S T : Type 0} {R : S → Entry → S → Type 0} {Q : T → Entry → T → Type 0} (f : S → T)
    → ((s : S) (e : Entry) (t : S) → R s e t → Q (f s) e (f t)) → {s t : S} {es : List Entry} → Chain R s es t
    → Chain Q (f s) es (f t)
through f implies stay = stay
through f implies (link {s = s} {t = t} {e = e} step rest) =
    link (implies s e t step) (through f implies rest)

-- a run of callers in turn is a run
pub run_from_solo : (n : Numbers) (journal : List Entry) (s : State) → SoloRun n journal s → Run n journal s
run_from_solo n journal s run = through (λ s. s) (λ x e y step. step.step) run.steps

-- a run with ages is a run, and each chain of steps has its ages
pub aged_run_is_run : AgedRunsAreRuns
aged_run_is_run n journal s ages run = through (λ (x : Aged). x.state) (λ x e y step. step.step) run

chain_has_ages : (n : Numbers) {s t : State} {es : List Entry} (ages : List ℕ) → Chain (Step n) s es t
    → (after : List ℕ) × Chain (AgedStep n) (record { state = s; ages = ages }) es
    (record { state = t; ages = after })
chain_has_ages n ages stay = (ages, stay)
chain_has_ages n ages (link {s = s} {t = t} {e = e} step rest) =
    let (after, others) = chain_has_ages n (aged_by s e ages) rest in
    (after, link (record { step = step; ages = refl }) others)

pub run_has_ages : RunsHaveAges
run_has_ages n journal s run = chain_has_ages n (aged_start n).ages run
