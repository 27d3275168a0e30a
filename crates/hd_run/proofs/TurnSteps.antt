-- How a run of callers one after another goes on, turn by turn.
use Rattle.hd_run.proofs.Basics.{Chain, Cmd, Entry, FitsHeap, IsReadyFor, IsTrue, List, Numbers, Reply, SoloStep, State, StoppedAt, WorldView, [], ap, append_assoc, arith, drop, drop_more, get_or, length, length-append, length-map, list_of, map, map-append, push, refl, start_of, stay, subst, sum_by, sum_by-cons, sym, takes_memory, turn_of, turns_from, turns_of, ℕ, ◌++◌, ◌+◌, ◌<◌, ◌∙◌, ◌∷◌, ◌≡◌, ◌≤◌}
use Rattle.std.proofs.lemmas.List.Sorted.{IsNonDecreasingBy-short}
use Rattle.hd_gate.specs.Alone.{HasCalled}
use Rattle.hd_run.proofs.CallerOrder.{rising_of_prefix}

-- the turns of a caller from one on are that one, and then those after it
pub turn_at : (caller : ℕ) (list : List Cmd) (i : ℕ) (cmd : Cmd) → i < length list →
    get_or list i cmd ≡ cmd → turns_of caller (drop i list) ≡ (caller, cmd) ∷ turns_of caller
    (drop (i + 1) list)
turn_at caller list i cmd h here = ap (turns_of caller)
    (drop_more list i cmd h ∙ ap (λ (x : Cmd). x ∷ drop (i + 1) list) here)

-- so a world that has a caller's turns from one on left has that one left first
pub ready_at : (n : Numbers) (lists : List (List Cmd)) (caller i : ℕ) (cmd : Cmd)
    (after : List (ℕ × Cmd)) (w : WorldView) → i < length (list_of lists caller) →
    get_or (list_of lists caller) i cmd ≡ cmd →
    IsReadyFor n lists (turns_of caller (drop i (list_of lists caller)) ++ after) w →
    IsReadyFor n lists ((caller, cmd) ∷ turns_of caller (drop (i + 1) (list_of lists caller))
    ++ after) w
ready_at n lists caller i cmd after w h here ready =
    subst (λ v. IsReadyFor n lists (v ++ after) w) (turn_at caller (list_of lists caller) i cmd h here) ready

-- there are as many turns as commands
pub length-turns_from : (k : ℕ) (lists : List (List Cmd)) → length (turns_from k lists) ≡ sum_by length lists
length-turns_from k [] = refl
length-turns_from k (x ∷ xs) =
    let one = length-map {B = ℕ × Cmd} x (λ (c : Cmd). (k, c)) in
    let known = length-append (turns_of k x) (turns_from (k + 1) xs) in
    omega (arith, length-turns_from (k + 1) xs, one, sum_by-cons length x xs, known)

-- an empty world has all turns left
pub starts : (lists : List (List Cmd)) (w : WorldView) → w.journal ≡ [] → w.state ≡ start_of w.numbers →
    sum_by length lists ≤ w.spare → IsReadyFor w.numbers lists (turns_from 0 lists) w
starts lists w empty start room = record {
  ran = record {
    numbers = refl;
    run = record {
      steps = subst (λ (es : List Entry). Chain (SoloStep w.numbers) (start_of w.numbers) es w.state)
          (sym empty) (subst (λ (s : State). Chain (SoloStep w.numbers) (start_of w.numbers) [] s)
          (sym start) stay);
      rising = IsNonDecreasingBy-short (λ (e : Entry). e.caller) w.journal (omega (arith, ap length empty));
    };
    turns = ap (λ (es : List Entry). map turn_of es ++ turns_from 0 lists) (sym empty);
  };
  room = omega (arith, length-turns_from 0 lists);
}

module _ (n : Numbers) (lists : List (List Cmd)) (turn : ℕ × Cmd) (rest : List (ℕ × Cmd)) where
  -- the first turn that is left was taken
  pub takes_turn : (old new : WorldView) {answer : Reply} → IsReadyFor n lists (turn ∷ rest) old →
      HasCalled old new turn.0 turn.1 answer → IsReadyFor n lists rest new
  takes_turn old new {answer} ready did =
      let same : turn_of did.entry ≡ turn = λ i. (did.caller_is i, did.command_is i) in
      let steps : Chain (SoloStep n) (start_of n) (old.journal ++ did.entry ∷ []) new.state =
      push ready.ran.run.steps (subst (λ (m : Numbers). SoloStep m old.state did.entry new.state)
      ready.ran.numbers did.step) in
      let turns : turns_from 0 lists ≡ map turn_of new.journal ++ rest =
      ready.ran.turns
      ∙ ap (λ (p : ℕ × Cmd). map turn_of old.journal ++ p ∷ rest) (sym same)
      ∙ sym (append_assoc (map turn_of old.journal) (turn_of did.entry ∷ []) rest)
      ∙ ap (λ v. v ++ rest) (sym (map-append turn_of old.journal (did.entry ∷ []))
      ∙ ap (map turn_of) (sym did.journal)) in
      record {
        ran = record {
          numbers = did.numbers ∙ ready.ran.numbers;
          run = record {
            steps = subst (λ (es : List Entry). Chain (SoloStep n) (start_of n) es new.state)
                (sym did.journal) steps;
            rising = rising_of_prefix lists new.journal rest turns;
          };
          turns = turns;
        };
        room = omega (arith, ready.room, did.spare);
      }

  -- the first turn that is left found no memory
  pub stops_at : (w : WorldView) → IsReadyFor n lists (turn ∷ rest) w →
      IsTrue (takes_memory turn.1) → FitsHeap w.numbers w.state turn.1 → StoppedAt n lists w
  stops_at w ready wants fits = record {
    next = turn;
    rest = rest;
    ran = ready.ran;
    wants = wants;
    fits = subst (λ (m : Numbers). FitsHeap m w.state turn.1) ready.ran.numbers fits;
  }
