-- What the work of a request comes to, and that its ending can be written.
use Rattle.hd_run.proofs.Basics.{BLOCKS, Bool, CALLERS, CauseBy, Cmd, Done, Ending, Form, Full, HEAP, HasSumOf, IsInLimits, IsJob, IsWritable, List, Lists, Load, Manner, Mode, Plain, Refused, Request, ScriptBy, Solo, SourceView, Stopped, Summary, TheRun, Traits, Worked, arith, false, generated_lists, in_threads, inl, inr, not, numbers_by, numbers_for, output_by, output_of, refl, runs_alone, subst, sym, traits_of, true, ◌&&◌, ◌≡◌, ◌≤◌}
use Rattle.hd_run.proofs.RunEndings.{run_callers, lines_sum, fault_writable}
use Rattle.hd_run.proofs.LoadClaims.{load_is, load_sum}

-- by threads or by one, and roots are listed or not
abbrev by : Bool → Bool → Manner
by threads listed = record { threads = threads; lists_roots = listed }

-- one thread runs the script, and lists the roots or not
is_alone : (listed : Bool) (t : Traits) → runs_alone listed t ≡ true
    → (t.manner.threads ≡ false) × (t.manner.lists_roots ≡ listed)
is_alone true t is = lists t.manner.threads t.manner.lists_roots t.judges is
  where
    lists : (a b c : Bool) → (not a && b && not c) ≡ true → (a ≡ false) × (b ≡ true)
    lists false true c is = (refl, refl)
    lists false false c is = cc
    lists true b c is = cc
is_alone false t is = plain t.manner.threads t.manner.lists_roots t.judges is
  where
    plain : (a b c : Bool) → (not a && not b && not c) ≡ true → (a ≡ false) × (b ≡ false)
    plain false false c is = (refl, refl)
    plain false true c is = cc
    plain true b c is = cc

module _ (r : Request) (old new : SourceView) where
  abbrev reads : Bool
  reads = (traits_of r.mode).reads

  -- the script of a load
  pub made_job : (lists : List (List Cmd)) → reads ≡ false → new ≡ old → IsInLimits r →
      lists ≡ generated_lists r.rounds → IsJob r old new (lists, record { heap = HEAP; blocks = BLOCKS })
  made_job lists is unread limits are = record {
    script = subst (λ b. ScriptBy b r old new lists) (sym is)
        (unread, record { least = limits.least; most = limits.most; lists_are = are });
    numbers = subst (λ b. numbers_for (record { heap = HEAP; blocks = BLOCKS }) lists ≡ numbers_by b r lists)
        (sym is)
        (subst (λ (ls : List (List Cmd)). numbers_for (record { heap = HEAP; blocks = BLOCKS }) ls
        ≡ numbers_by false r ls) (sym are) (load_is r.rounds));
  }

  -- and then its roots were listed
  pub listed_cause : (b threads : Bool) (e after : Ending) → CauseBy b (by threads false) r old new e →
      Lists e after → CauseBy b (by threads true) r old new after
  listed_cause b threads (Refused f) after cause is =
      subst (CauseBy b (by threads true) r old new) (sym is) cause
  listed_cause b threads (Stopped run) after (lists, script, at) is =
      subst (CauseBy b (by threads true) r old new) (sym is) (lists, script, inl at)
  listed_cause b threads (Done run roots) after (lists, script, all) (inl stopped) =
      subst (CauseBy b (by threads true) r old new) (sym stopped) (lists, script, inr all.0)
  listed_cause b threads (Done run roots) after (lists, script, all) (inr done) =
      subst (CauseBy b (by threads true) r old new) (sym done) (lists, script, (all.0, refl))

  -- ---- what is written

  few : (b : Bool) (lists : List (List Cmd)) → ScriptBy b r old new lists
      → (numbers_by b r lists).callers ≤ CALLERS
  few true lists read = read.program.shape.most
  few false lists script = omega arith

  sum_of : (m : Mode) (form : Form) (e : Ending)
      → CauseBy (traits_of m).reads (traits_of m).manner r old new e → HasSumOf (output_by form (traits_of m)) e
  sum_of Load form e cause = in_summary form (each e cause)
    where
      in_summary : (t : Form) → HasSumOf Summary e → HasSumOf (output_by t (traits_of Load)) e
      in_summary Plain is = is
      in_summary Full is = is

      each : (f : Ending) → CauseBy false in_threads r old new f → HasSumOf Summary f
      each (Refused f) cause = tt
      each (Stopped run) cause = tt
      each (Done run roots) (lists, script, all) = load_sum r.rounds lists script.1 (Done run roots) all
  sum_of Solo Full e cause = lines_sum Full e
  sum_of TheRun Full e cause = lines_sum Full e
  sum_of m Full e cause = lines_sum Plain e
  sum_of m Plain e cause = lines_sum Plain e

  pub cause_writable : (e : Ending) → CauseBy reads (traits_of r.mode).manner r old new e
      → IsWritable (output_of r) e
  cause_writable (Refused f) cause = fault_writable (output_of r) f
  cause_writable (Stopped run) (lists, script, at) = record {
    callers = run_callers (traits_of r.mode).manner _ lists (Stopped run) at (few reads lists script);
    sum = sum_of r.mode r.form (Stopped run) (lists, script, at);
  }
  cause_writable (Done run roots) (lists, script, all) = record {
    callers = run_callers (traits_of r.mode).manner _ lists (Done run roots) all (few reads lists script);
    sum = sum_of r.mode r.form (Done run roots) (lists, script, all);
  }

-- ---- the same of a source

module _ {S : Type 0} (seen : S → SourceView) (r : Request) (source : S × S) where
  pub listed_worked : (threads : Bool) (e after : Ending) → Worked seen (by threads false) r source e
      → Lists e after → Worked seen (by threads true) r source after
  listed_worked threads e after worked is = record {
    cause = listed_cause r (seen source.0) (seen source.1) (traits_of r.mode).reads threads e after
        worked.cause is;
    unread = worked.unread;
  }

  pub alone_worked : (listed : Bool) (e : Ending) → runs_alone listed (traits_of r.mode) ≡ true →
      Worked seen (by false listed) r source e → Worked seen (traits_of r.mode).manner r source e
  alone_worked listed e is worked =
      let says = is_alone listed (traits_of r.mode) is in
      subst (λ b. Worked seen (by (traits_of r.mode).manner.threads b) r source e) (sym says.1)
      (subst (λ b. Worked seen (by b listed) r source e) (sym says.0) worked)

  pub worked_writable : (e : Ending) → Worked seen (traits_of r.mode).manner r source e
      → IsWritable (output_of r) e
  worked_writable e worked = cause_writable r (seen source.0) (seen source.1) e worked.cause
