-- A command that needs the parts of a machine alone is a step of the store.
use Rattle.hd_store.proofs.StoreWords.{Cmd, Done, Entry, HasNames, IsPlainStep, Machine, MayRun, None, Option, Refusal, Result, Slot, State, ap, asks_of, class_of, done_of, entry_by, false, key_register, no_room, refl, seen_by, subst, sym, touched_by, true, true≢false, ℕ, ◌≡◌}
use Rattle.hd_model.specs.Step.{TakesWay, Way, decided, makes_object, makes_handle, collects, replies_address, gives_back, adds_entry, replies_root, way_of}
use Rattle.hd_model.specs.declared.command.Cmd.TheVariants as cmd
use Rattle.hd_commands.specs.Decided.{DecidedBy, needs_parts_alone}
use Rattle.hd_store.proofs.AddressSteps.{Ran, looked-run, others-steps}

-- such a command uses no pinned address, makes no object, asks for no room, and looks no key up
pub quiet : (old : State) (caller : ℕ) (c : Cmd) → needs_parts_alone (class_of c) ≡ true
    → ((touched_by c).pinned ≡ false) × ((touched_by c).makes_object ≡ false)
    × (asks_of old caller c ≡ no_room) × (key_register (class_of c) ≡ None)
quiet old caller (cmd.New d fields fin) alone = absurd (true≢false (sym alone))
quiet old caller (cmd.Set o i v) alone = (refl, refl, refl, refl)
quiet old caller (cmd.Get d o i) alone = (refl, refl, refl, refl)
quiet old caller (cmd.Val o n) alone = (refl, refl, refl, refl)
quiet old caller (cmd.Read o) alone = (refl, refl, refl, refl)
quiet old caller (cmd.Copy d s) alone = (refl, refl, refl, refl)
quiet old caller (cmd.Clear d) alone = (refl, refl, refl, refl)
quiet old caller (cmd.SPut k s) alone = (refl, refl, refl, refl)
quiet old caller (cmd.SGet d k) alone = (refl, refl, refl, refl)
quiet old caller (cmd.Gen s) alone = (refl, refl, refl, refl)
quiet old caller (cmd.Suppress s) alone = (refl, refl, refl, refl)
quiet old caller (cmd.Reregister s) alone = (refl, refl, refl, refl)
quiet old caller (cmd.Final d) alone = (refl, refl, refl, refl)
quiet old caller (cmd.Collect n) alone = absurd (true≢false (sym alone))
quiet old caller (cmd.HNew d make t) alone = absurd (true≢false (sym alone))
quiet old caller (cmd.HGet d s) alone = (refl, refl, refl, refl)
quiet old caller (cmd.HSet s t) alone = (refl, refl, refl, refl)
quiet old caller (cmd.HSec h s) alone = (refl, refl, refl, refl)
quiet old caller (cmd.HDep d s) alone = (refl, refl, refl, refl)
quiet old caller (cmd.HVar s strength) alone = (refl, refl, refl, refl)
quiet old caller (cmd.HFree s) alone = (refl, refl, refl, refl)
quiet old caller (cmd.HPut k s) alone = (refl, refl, refl, refl)
quiet old caller (cmd.HPick d k) alone = (refl, refl, refl, refl)
quiet old caller (cmd.AddrOf s) alone = absurd (true≢false (sym alone))
quiet old caller (cmd.HUp s) alone = (refl, refl, refl, refl)
quiet old caller (cmd.HDown s) alone = (refl, refl, refl, refl)
quiet old caller (cmd.Trim kind) alone = absurd (true≢false (sym alone))
quiet old caller (cmd.CAdd k v) alone = absurd (true≢false (sym alone))
quiet old caller (cmd.CFind d k) alone = absurd (true≢false (sym alone))
quiet old caller (cmd.CRemove k) alone = absurd (true≢false (sym alone))
quiet old caller (cmd.GcRoot s) alone = absurd (true≢false (sym alone))

module _ (m k : Machine) (caller : ℕ) (c : Cmd) (r : Result Done Refusal)
    (alone : needs_parts_alone (class_of c) ≡ true)
    (did : DecidedBy (way_of m.state caller c) (seen_by m) caller c (seen_by k) r) where
  abbrev e : Entry
  e = entry_by caller c (done_of r)

  plain-step : IsPlainStep m c k e
  plain-step = by (way_of m.state caller c) refl did
    where
      by : (way : Way) → way_of m.state caller c ≡ way → DecidedBy way (seen_by m) caller c (seen_by k) r
          → IsPlainStep m c k e
      by (decided w) is came = record {
        plain = (quiet m.state caller c alone).0;
        step = subst (TakesWay m.numbers m.state e k.state) (sym is) (record {
          reply = ap (λ (d : Done). d.reply) came.0;
          slot = ap (λ (d : Done). d.slot) came.0;
          grown = ap (λ (d : Done). d.grown) came.0;
          after = came.1.1;
        });
        numbers = came.1.0;
        names = subst (λ b. HasNames b m.names k.names) (sym (quiet m.state caller c alone).1) came.1.4;
        ages = came.1.2;
      }
      by (makes_object d fields fin) is came = absurd came
      by (makes_handle d make t) is came = absurd came
      by (collects n) is came = absurd came
      by (replies_address h) is came = absurd came
      by (gives_back kind) is came = absurd came
      by (adds_entry v key) is came = absurd came
      by (replies_root x) is came = absurd came

  pub parts-run : (offer : Option Slot) (steps : ℕ) → MayRun m caller c offer → Ran m k caller c offer e
      steps steps
  parts-run offer steps =
      let q = quiet m.state caller c alone in
      looked-run m k caller c offer r steps steps q.2 plain-step
      (others-steps e (λ d. (touched_by d).pinned) q.0 (λ n. refl) m steps q.3)
