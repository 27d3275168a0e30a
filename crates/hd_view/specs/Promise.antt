-- What a request is promised, by what it asks for.
use Rattle.std.specs.Prelude.{ℕ, None}
use Rattle.hd_io.specs.Sink.{SinkView}
use Rattle.hd_io.specs.Source.{SourceView}
use Rattle.hd_run.specs.Bounds.{Bounds}
use Rattle.hd_talk.specs.Machine.{numbers_with}
use Rattle.hd_talk.specs.Talked.{Talked}
use Rattle.hd_view.specs.Shown.{AreChains, AreTables, IsGraph, ShowPromise}
use Rattle.hd_view.specs.Why.{WhyPromise}
use Rattle.hd_view.specs.declared.request.Task.{Task}
use Rattle.hd_view.specs.declared.request.Task.TheVariants as task

abbrev pub Promises : Task → Bounds → SourceView → SourceView → SinkView → SinkView → ℕ → Type 0
Promises task.Why b old new before after status = WhyPromise b old new before after status
Promises (task.Show line) b old new before after status =
    ShowPromise AreTables b line old new before after status
Promises (task.Path ids) b old new before after status =
    ShowPromise (AreChains ids.items) b None old new before after status
Promises (task.Graph clusters) b old new before after status =
    ShowPromise (IsGraph clusters) b None old new before after status
Promises task.Step b old new before after status =
    Talked (numbers_with b.heap b.blocks) old new before after status
