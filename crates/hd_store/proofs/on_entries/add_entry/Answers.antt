use Rattle.std.proofs.lemmas.Result.{MatchResult-weaker}
use Rattle.std.proofs.Common.{rules}
use Rattle.hd_store.proofs.StoreWords.{name_in}
use Rattle.hd_store.proofs.WeakRoom.{needs-unused, steps-unused}
use Rattle.hd_store.proofs.on_entries.add_entry.Goals as goal

pub returns : goal.returns
returns g c =
    let s = c.args.store.now.state in
    let key = name_in c.args.store.now.names c.in-Ok.key in
    MatchResult-weaker c.put_entry.result c.put_entry.ensures (λ came run. (run, search rules))
    (λ _ out. (
      record {
        large = out.0.large;
        unused = out.0.unused;
        needs = needs-unused s out.0.unused c.args.caller c.args.k c.args.v key c.in-Ok.ensures.value;
        room = out.0.room;
      },
      out.1,
      steps-unused s out.0.unused _ key c.slot_of_key.ensures.steps,
    ))
