-- The names that most proofs of this crate cite, passed on from one place.
pub use Rattle.std.proofs.Common.{All, Bool, Contains, Err, IsTrue, List, None, Ok, OnErr, OnOk, Option, Result, Some, String, [], ap, append-nil, append_assoc, arith, codes, cond, drop, eqb, false, filter, flat_map, get_or, inl, inr, length, lit<, map, not, option_map, refl, rules, string_bytes, subst, suc, sym, take, true, unwrap_or, zero, ℕ, ◌&&◌, ◌*◌, ◌++◌, ◌+◌, ◌-◌, ◌<◌, ◌==◌, ◌^◌, ◌∙◌, ◌∷◌, ◌≡◌, ◌≢◌, ◌≤◌, ◌⊎◌}
pub use Rattle.std.proofs.lemmas.Bool.{cases_lt, eq-eqb, eqb-true}
pub use Rattle.std.proofs.lemmas.List.{drop_all, drop_more, get_or-map, get_or_past, length-append, length-drop, length-map, map-append, nil_from_length, take-append-drop, take_more}
pub use Rattle.std.proofs.lemmas.List.Elements.{All-cons, All-get_or, All-nil, All-weaker, filter-append}
pub use Rattle.std.proofs.lemmas.List.Sums.{sum_by-cons, sum_by-take-le, sum_by_more}
pub use Rattle.std.proofs.lemmas.Option.{get_or_from_slice_get}
pub use Rattle.std.proofs.lemmas.Result.{MatchResult-from_err, err_from_is_err_and}
pub use Rattle.std.specs.List.{range_with_len, slice_index_or}
pub use Rattle.std.specs.Option.{option_map_or}
pub use Rattle.std.specs.Prelude.{Any, IfErr, IfOk, IfSome, IsErr, IsErrAnd, MatchBool, is_ok, option_and_then, slice_get, sum_by, ⊤}
pub use Rattle.std.specs.Str.Parse.{ExplainsUnsignedError, HasUnsignedDigitsIfOk, ParsesUnsigned}
pub use Rattle.std.specs.declared.alloc.Global.{Global}
pub use Rattle.clap.proofs.WalkLemmas.{first_value-rows, one_text-rows}
pub use Rattle.clap.specs.Built.{IsAuto, IsParsedFrom}
pub use Rattle.clap.specs.Faults.{fault_of, is_simple_and_free}
pub use Rattle.clap.specs.Kinds.{FailsBy, HasKind, IsAmong, Kinds}
pub use Rattle.clap.specs.Matches.{ReadsOne, first_value, matched_of, one_text}
pub use Rattle.clap.specs.Simple.{App, HasMatchesOf, app_of, is_simple, matches_of, shape_of}
pub use Rattle.clap.specs.Values.{Accepts, IsUnsignedIn, read_as, reading_of}
pub use Rattle.clap.specs.Walk.{Row, Rule, Text, one_of, rows_of, rule_of}
pub use Rattle.clap.specs.Words.{found_of, kind_of}
pub use Rattle.clap.specs.declared.builder.command.Command.{Command}
pub use Rattle.clap.specs.declared.parser.matches.ArgMatches.{ArgMatches}
pub use Rattle.hd_gate.specs.Shared.{AreAll, Begin, CallerView, HasDone, HasParts, IsSameCaller, having_seen}
pub use Rattle.hd_io.specs.Counts.{Rose}
pub use Rattle.hd_io.specs.Sink.{SinkView, Took, WriteBrokeOff}
pub use Rattle.hd_io.specs.Source.{GaveCount, SourceView}
pub use Rattle.hd_model.proofs.StepChains.{push, run_from_solo}
pub use Rattle.hd_model.specs.Generated.{generated_list, generated_lists, load_numbers, value_returned}
pub use Rattle.hd_model.specs.Laws.{count_entries, makes_object}
pub use Rattle.hd_model.specs.RootText.{root_text}
pub use Rattle.hd_model.specs.Run.{Chain, Run, SoloRun, SoloStep, commands_of, link, part_of, stay}
pub use Rattle.hd_model.specs.State.{Numbers, State, start_of}
pub use Rattle.hd_model.specs.Valid.{takes_memory}
pub use Rattle.hd_model.specs.declared.command.Cmd.{Cmd}
pub use Rattle.hd_model.specs.declared.data.Entry.{Entry}
pub use Rattle.hd_model.specs.declared.data.Reply.{Reply}
pub use Rattle.hd_model.specs.declared.data.RootId.{RootId}
pub use Rattle.hd_model.specs.declared.limits.TheConstants.{BLOCKS, CALLERS, HEAP, LOAD_CALLERS, MOST_BYTES, MOST_ROUNDS}
pub use Rattle.hd_print.specs.declared.entries.Form.{Form}
pub use Rattle.hd_print.specs.declared.entries.Form.TheVariants.{Full, Plain}
pub use Rattle.hd_run.specs.Bounds.{numbers_for}
pub use Rattle.hd_run.specs.Claims.{DecidesStatus, AreBytesRefused, AsksForLoad, AsksToRead, HasLine, IsStatus, KeepsCount, KeepsRun, Promise, RefusesScript, RunsWhole, StopsForMemory, Together}
pub use Rattle.hd_run.specs.{Ending.Cause, Ending.CauseBy, Ending.CauseOfFault, Ending.FaultCause, Ending.IsLoadScript, Ending.IsProgram, Ending.RanBy, Ending.ReadBytes, Ending.ReadProgram, Ending.ReadWhole, Ending.RefusedBy, Ending.RunBy, Ending.RunCause, Ending.ScriptBy, Ending.StoppedAtBy, Ending.journal_in, Ending.kept_of, Ending.kept_that, Ending.numbers_by, Ending.world_of, Ending.world_that, Inside.Keeps, Inside.Lists, Inside.run_ending}
pub use Rattle.hd_run.specs.Modes.{in_threads, mode_of, output_by, output_of, runs_alone, traits_of}
pub use Rattle.hd_run.specs.{Inside.HasFewCallers, Inside.HasSumOf, Inside.IsWritable, Inside.Writes, Report.IsReported, Report.Reports, Report.fault_status, Report.memory_text, Report.output_for, Report.ran_text, Report.status_of, Report.stopped_text, Report.text_for, Report.whole_text}
pub use Rattle.hd_run.specs.{Inside.HasPlayed, Inside.HavePlayed, Inside.IsReadyToPlay, Together.MayRunOut, Together.RanAllTogether, Together.StoppedTogether}
pub use Rattle.hd_run.specs.{Inside.IsReadyFor, Inside.IsReadyToRun, Turns.RanWhole, Turns.StoppedAt, Turns.list_of, Turns.taken_by, Turns.turn_of, Turns.turns_from, Turns.turns_of}
pub use Rattle.hd_run.specs.{Inside.GivesNumber, Inside.GivesNumbers, Inside.IsFaultOfWords, Inside.IsInLimits, Inside.IsRefusal, Inside.request_or_usage, Words.asked_by, Words.audit_of, Words.is_given, Words.listing_of, Words.number_in, Words.number_of, Words.program, Words.request_of, Words.solo_of, Words.unless_faulty, Words.with_numbers}
pub use Rattle.hd_run.specs.Inside.{IsJob, Worked}
pub use Rattle.hd_run.specs.declared.ending.Ending.{Ending}
pub use Rattle.hd_run.specs.declared.ending.Ending.TheVariants.{Done, Refused, Stopped}
pub use Rattle.hd_run.specs.declared.fault.Fault.{Fault}
pub use Rattle.hd_run.specs.declared.fault.Fault.TheVariants.{BadLine, NoMemory, OverSize, Unread, Usage}
pub use Rattle.hd_run.specs.declared.ending.Ran.{Ran}
pub use Rattle.hd_run.specs.declared.limits.TheConstants.{LEAST_HEAP}
pub use Rattle.hd_run.specs.declared.mode.Manner.{Manner}
pub use Rattle.hd_run.specs.declared.mode.Mode.{Mode}
pub use Rattle.hd_run.specs.declared.mode.Mode.TheVariants.{Audit, Load, Roots, Run as TheRun, Solo}
pub use Rattle.hd_run.specs.declared.mode.Output.{Output}
pub use Rattle.hd_run.specs.declared.mode.Output.TheVariants.{Lines, Summary}
pub use Rattle.hd_run.specs.declared.mode.Traits.{Traits}
pub use Rattle.hd_run.specs.declared.outcome.Kept.{Kept}
pub use Rattle.hd_run.specs.declared.outcome.Kept.TheVariants.{Alone, Nothing, Shared}
pub use Rattle.hd_run.specs.declared.outcome.Outcome.{Outcome}
pub use Rattle.hd_run.specs.declared.request.Request.{Request}
pub use Rattle.hd_store.specs.Offers.{FitsHeap}
pub use Rattle.hd_world.specs.World.{WorldView}
