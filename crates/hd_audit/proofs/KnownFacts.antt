-- What is always true of what is known after lines of a run.
use Rattle.std.proofs.Common.{List, None, Option, Some, [], arith, false, get_or, length, refl, unwrap_or, ℕ, ◌+◌, ◌<◌, ◌==◌, ◌^◌, ◌≡◌, ◌≤◌}
use Rattle.std.specs.FinMap.{get}
use Rattle.hd_model.specs.declared.data.Id.{Id}
use Rattle.hd_model.specs.declared.limits.TheConstants.{FIELDS}
use Rattle.hd_model.specs.State.{Object, object_by_id}
use Rattle.std.proofs.lemmas.List.Sums.{count_by-le-length}
use Rattle.hd_model.specs.declared.command.Cmd.{Cmd}
use Rattle.hd_model.specs.declared.data.Entry.{Entry}
use Rattle.hd_model.specs.Valid.{IsValid}
use Rattle.hd_audit.specs.declared.lines.Progress.{Progress}
use Rattle.hd_plain.specs.Commands.{MayStep}
use Rattle.hd_audit.specs.Inside.{HasLines}
use Rattle.hd_audit.proofs.JudgedLines.{count_fits, addresses_apart, serial_fits, well_formed}

module _ (lists : List (List Cmd)) (j : Progress) (has : HasLines lists j) where
  -- the number of a caller's next entry fits
  pub number_fits : (c : ℕ) → c < j.machine.numbers.callers → get_or j.done.items c 0 + 1 < 2 ^ 32
  number_fits c known =
      let few = count_by-le-length (λ (o : Entry). o.caller == c) has.1.journal in
      omega (arith, has.1.counts c known, few, has.1.few)

  -- and a valid command of a caller may be stepped
  pub may_step : (c : ℕ) (cmd : Cmd) → c < j.machine.numbers.callers → IsValid cmd
      → MayStep j.machine c cmd
  may_step c cmd known valid = record {
    caller = known;
    valid = valid;
    formed = well_formed has.1;
    serial = serial_fits has.1 c;
    counts = λ slot handle is. count_fits has.1 (record { 0 = slot }) handle is;
    apart = addresses_apart has.1;
  }

  -- an object has few fields
  pub few_fields : (id : Id) → length (object_by_id j.machine.state id).fields ≤ FIELDS
  few_fields id = by (get j.machine.state.objects id.0) refl
    where
      by : (o : Option (Object Id)) → get j.machine.state.objects id.0 ≡ o
          → length
          (unwrap_or o (record { fields = []; value = 0; generation = 0; registered = false })).fields
          ≤ FIELDS
      by None e = omega arith
      by (Some object) e = (well_formed has.1).objects.sizes id.0 object e
