-- What is promised of a state that is shown.
use Rattle.std.proofs.Common.{Err, List, Ok, Option, Result, [], arith, lit<, refl, subst, sym, ℕ, ◌≡◌}
use Rattle.std.specs.Prelude.{IfErr, IfOk, MatchResult}
use mathlib.Core.Logic.{inl, inr}
use Rattle.hd_heap.specs.Sound.{IsSound}
use Rattle.hd_io.specs.Counts.{Rose}
use Rattle.hd_io.specs.Sink.{SinkView, Took, WriteBrokeOff}
use Rattle.hd_io.specs.Source.{SourceView}
use Rattle.hd_model.proofs.{StepChains.run_from_solo, WellFormedSteps.run_is_well_formed}
use Rattle.hd_model.specs.declared.data.Id.{Id}
use Rattle.hd_model.specs.Heap.{Heap}
use Rattle.hd_model.specs.State.{State}
use Rattle.hd_model.specs.WellFormed.{IsWellFormed}
use Rattle.hd_links.specs.Shown.{IsPictureOf}
use Rattle.hd_path.specs.Paths.{ArePathTexts, WritesPaths}
use Rattle.hd_run.proofs.ReadFaults.{unread_rose}
use Rattle.hd_run.specs.Bounds.{Bounds, numbers_for}
use Rattle.hd_run.specs.Report.{IsReported, fault_status}
use Rattle.hd_run.specs.declared.fault.Fault.{Fault}
use Rattle.hd_run.specs.declared.fault.Fault.TheVariants.{BadLine, NoMemory, OverSize, Unread, Usage}
use Rattle.hd_seen.specs.Seen.{Picture}
use Rattle.hd_store.specs.Store.{without_free}
use Rattle.hd_talk.specs.Machine.{picture_in}
use Rattle.hd_world.specs.World.{WorldView}
use Rattle.hd_view.specs.{Script.IsBadLine, Script.RanTo, Inside.StopsBy}
use Rattle.hd_view.specs.Shown.{ShowPromise}

module _ (Shows : WorldView → List ℕ → Type 0) (b : Bounds) (line : Option ℕ) (old new : SourceView)
    (before after : SinkView) where
  abbrev Promised : ℕ → Type 0
  Promised status = ShowPromise Shows b line old new before after status

  -- a text of the world was written whole
  written : (text : List ℕ) → (w : WorldView) × RanTo b line old new w × Shows w text
      → Took before after text → Promised 0
  written text world took = record {
    shown = λ is. (world.0, world.1, (text, world.2, took));
    script = λ is. absurd (omega (arith, is));
    read = λ is. absurd (omega (arith, is));
    write = λ is. absurd (omega (arith, is));
    memory = λ is. absurd (omega (arith, is));
    statuses = (0, lit< tt, refl);
  }

  -- a write failed
  broke_off : (text : List ℕ) → WriteBrokeOff before after text → Promised 5
  broke_off text broke = record {
    shown = λ is. absurd (omega (arith, is));
    script = λ is. absurd (omega (arith, is));
    read = λ is. absurd (omega (arith, is));
    write = λ is. subst (λ n. Rose n after.faults) broke.took.unfailed broke.failed.rose;
    memory = λ is. absurd (omega (arith, is));
    statuses = (3, lit< tt, refl);
  }

  -- nothing was written, since there is no world
  stopped : (fault : Fault) → StopsBy line old new fault → after ≡ before → Promised (fault_status fault)
  stopped Usage why same = absurd why
  stopped Unread why same = record {
    shown = λ is. absurd (omega (arith, is));
    script = λ is. absurd (omega (arith, is));
    read = λ is. (unread_rose (IsBadLine line) old new why, same);
    write = λ is. absurd (omega (arith, is));
    memory = λ is. absurd (omega (arith, is));
    statuses = (2, lit< tt, refl);
  }
  stopped OverSize why same = record {
    shown = λ is. absurd (omega (arith, is));
    script = λ is. (inl why, same);
    read = λ is. absurd (omega (arith, is));
    write = λ is. absurd (omega (arith, is));
    memory = λ is. absurd (omega (arith, is));
    statuses = (1, lit< tt, refl);
  }
  stopped (BadLine bad) why same = record {
    shown = λ is. absurd (omega (arith, is));
    script = λ is. (inr (bad, why), same);
    read = λ is. absurd (omega (arith, is));
    write = λ is. absurd (omega (arith, is));
    memory = λ is. absurd (omega (arith, is));
    statuses = (1, lit< tt, refl);
  }
  stopped NoMemory why same = record {
    shown = λ is. absurd (omega (arith, is));
    script = λ is. absurd (omega (arith, is));
    read = λ is. absurd (omega (arith, is));
    write = λ is. absurd (omega (arith, is));
    memory = λ is. same;
    statuses = (4, lit< tt, refl);
  }

  -- what there is to write was written, if there is any
  pub promised : {V : Type 0} (r : Result V Fault) (items : V → List ℕ) (status : ℕ)
      → IfOk r (λ v. (w : WorldView) × RanTo b line old new w × Shows w (items v))
      → IfErr r (StopsBy line old new)
      → MatchResult r (λ v. IsReported before after 0 (items v) status)
      (λ fault. (after ≡ before) × (status ≡ fault_status fault)) → Promised status
  promised (Ok v) items status shown why (inl (is, took)) =
      subst Promised (sym is) (written (items v) shown took)
  promised (Ok v) items status shown why (inr (is, broke)) =
      subst Promised (sym is) (broke_off (items v) broke)
  promised (Err fault) items status shown why (same, is) = subst Promised (sym is) (stopped fault why same)

module _ {b : Bounds} {line : Option ℕ} {old new : SourceView} {w : WorldView}
    (ran : RanTo b line old new w) where
  -- the state of the world is one of a run
  pub well_formed : IsWellFormed w.numbers w.state
  well_formed = let n = numbers_for b ran.lists in
      subst (λ n. IsWellFormed n w.state) (sym ran.ran.numbers)
      (run_is_well_formed n w.journal w.state (run_from_solo n w.journal w.state ran.ran.run))

-- a sound heap is one without its free regions too
pub sound_without : (h : Heap) → IsSound h → IsSound (without_free h)
sound_without h s = record {
  held = s.held;
  within = s.within;
  apart = s.apart;
  identified = s.identified;
  few_fields = s.few_fields;
  fills = s.fills;
  generations = s.generations;
  numbers = s.numbers;
  free_numbers = λ i less. absurd (omega (arith, less));
  free_unused = λ i less. absurd (omega (arith, less));
  free_apart = λ i j low less. absurd (omega (arith, less));
  cards = λ card is.
      let first = s.cards card is in
      record { at = first.at; object = first.object; in_card = first.in_card };
  few_objects = s.few_objects;
}

-- what was seen of a world is a picture of its state
pub pictured : {p : Picture} (w : WorldView) → IsWellFormed w.numbers w.state → p ≡ picture_in w
    → IsPictureOf p w.state
pictured w formed sees = record {
  numbers = w.numbers;
  ages = w.ages;
  heap = w.heap;
  table = w.table;
  well_formed = formed;
  shows = sees;
}

-- chains that are appended to an empty text are the text
pub whole_chains : (s : State) (ids : List Id) (text : List ℕ) → WritesPaths s ids [] text
    → ArePathTexts s ids text
whole_chains s ids text made = subst (ArePathTexts s ids) (sym made.1) made.2
