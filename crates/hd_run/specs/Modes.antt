-- The modes of the program: their names, and what each of them is. All this is the project's own.
use Rattle.std.specs.Prelude.{Bool, true, false, not, ◌&&◌, Option, Some, None, codes, if◌then◌else◌}
use Rattle.std.specs.Str.{bytes_eq}
use Rattle.clap.specs.Words.{Text}
use Rattle.hd_print.specs.declared.entries.Form.{Form}
use Rattle.hd_print.specs.declared.entries.Form.TheVariants.{Plain, Full}
use Rattle.hd_run.specs.{declared.mode.Output.Output, declared.mode.Manner.Manner, declared.mode.Mode.Mode, declared.mode.Traits.Traits, declared.request.Request.Request}
use Rattle.hd_run.specs.declared.mode.Output.TheVariants.{Lines, Summary}
use Rattle.hd_run.specs.declared.mode.Mode.TheVariants.{Solo, Run, Load, Roots, Audit}

-- the mode of a name
abbrev pub mode_of : Text → Option Mode
mode_of name = if bytes_eq name (codes "solo") then Some Solo
    else if bytes_eq name (codes "run") then Some Run
    else if bytes_eq name (codes "load") then Some Load
    else if bytes_eq name (codes "roots") then Some Roots
    else if bytes_eq name (codes "audit") then Some Audit
    else None

-- how a script is run: by one thread; by one, and its roots are listed; by a thread for each caller
abbrev pub alone : Manner
alone = record { threads = false; lists_roots = false }

abbrev pub listing : Manner
listing = record { threads = false; lists_roots = true }

abbrev pub in_threads : Manner
in_threads = record { threads = true; lists_roots = false }

-- what each mode is: whether it reads a script, and else makes that of a load; how it runs it; whether it
-- judges a text and runs nothing; and how it writes a run where plain lines are asked for, and where full
-- ones
abbrev pub traits_by : Bool → Manner → Bool → (plain full : Output) → Traits
traits_by reads manner judges plain full =
    record { reads = reads; manner = manner; judges = judges; plain = plain; full = full }

abbrev pub traits_of : Mode → Traits
traits_of Solo = traits_by true alone false (Lines Plain) (Lines Full)
traits_of Run = traits_by true in_threads false (Lines Plain) (Lines Full)
traits_of Load = traits_by false in_threads false Summary Summary
traits_of Roots = traits_by true listing false (Lines Plain) (Lines Plain)
traits_of Audit = traits_by true alone true (Lines Plain) (Lines Plain)

-- whether one thread runs the script, and lists the roots or not
abbrev pub runs_alone : Bool → Traits → Bool
runs_alone true t = not t.manner.threads && t.manner.lists_roots && not t.judges
runs_alone false t = not t.manner.threads && not t.manner.lists_roots && not t.judges

-- how a mode writes a run, by the form of lines that is asked for
abbrev pub output_by : Form → Traits → Output
output_by Plain t = t.plain
output_by Full t = t.full

-- how the run of a request is written
abbrev pub output_of : Request → Output
output_of r = output_by r.form (traits_of r.mode)
