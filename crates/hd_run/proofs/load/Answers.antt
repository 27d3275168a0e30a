use Rattle.hd_run.proofs.Basics.{BLOCKS, CALLERS, Cmd, HEAP, IsLoadScript, List, Numbers, RunCause, Summary, arith, generated_lists, in_threads, load_numbers, numbers_for, refl, subst, ◌≤◌}
use Rattle.hd_run.proofs.{RunEndings.run_callers, RunEndings.fault_writable, ThreadClaims.together}
use Rattle.hd_run.proofs.LoadClaims.{load_is, load_sum, line_of}
use Rattle.hd_run.proofs.load.Given.{Over}
use Rattle.hd_run.proofs.load.Goals.{After-run_callers-ending}
use Rattle.hd_run.proofs.load.Goals as goal

-- the run has the cause of its ending, in the words of a load
cause : (g : Over) (c : After-run_callers-ending g) →
    RunCause in_threads load_numbers (generated_lists c.args.rounds) c.run_callers-ending.result
cause g c = subst (λ (n : Numbers). RunCause in_threads n (generated_lists c.args.rounds)
    c.run_callers-ending.result)
    (load_is c.args.rounds)
    (subst (λ (lists : List (List Cmd)). RunCause in_threads
    (numbers_for (record { heap = HEAP; blocks = BLOCKS }) lists) lists c.run_callers-ending.result)
    c.in-Ok.ensures (rw c.new.ensures at c.run_callers-ending.ensures))

script : (g : Over) (c : After-run_callers-ending g)
    → IsLoadScript c.args.rounds (generated_lists c.args.rounds)
script g c = record { least = c.requires.0; most = c.requires.1; lists_are = refl }

pub report-requires : goal.report-requires
report-requires g c = fault_writable _ _

pub report-requires-2 : goal.report-requires-2
report-requires-2 g c =
    let at = (goal.at.report-requires-2 g c).After-run_callers-ending in
    let e = c.run_callers-ending.result in
    let few : load_numbers.callers ≤ CALLERS = omega arith in
    record {
      callers = run_callers in_threads load_numbers (generated_lists c.args.rounds) e (cause g at) few;
      sum = load_sum c.args.rounds (generated_lists c.args.rounds) (script g at) e (cause g at);
    }

pub returns-clause-promise : goal.returns-clause-promise
returns-clause-promise g c =
    together g.K.Sink.seen Summary load_numbers (generated_lists c.args.rounds) c.args.sink.now
    c.report-2.new.sink c.run_callers-ending.result c.report-2.result
    (cause g (goal.at.returns-clause-promise g c).After-run_callers-ending) c.report-2.ensures

pub returns-clause-line : goal.returns-clause-line
returns-clause-line g c =
    let at = (goal.at.returns-clause-line g c).After-run_callers-ending in
    line_of c.args.rounds (generated_lists c.args.rounds) (script g at) (g.K.Sink.seen c.args.sink.now)
    (g.K.Sink.seen c.report-2.new.sink) c.run_callers-ending.result c.report-2.result (cause g at)
    c.report-2.ensures
