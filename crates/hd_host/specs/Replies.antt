-- What calls return, as replies of the machine.
use Rattle.std.specs.Prelude.{◌≡◌, Bool, true, false}
use Rattle.hd_model.specs.{declared.data.Reply.Reply, declared.command.Cmd.Cmd}
use Rattle.hd_model.specs.declared.command.Cmd.TheVariants as cmd
use Rattle.hd_model.specs.declared.data.Reply.TheVariants as reply

-- which forms of replies a test takes
pub record Forms : Type 0 where
  pub done : Bool
  pub object : Bool
  pub nothing : Bool
  pub value : Bool
  pub generation : Bool
  pub address : Bool
  pub report : Bool
  pub none_queued : Bool
  pub absent : Bool
  pub chain : Bool
  pub unrooted : Bool
  pub refused : Bool

abbrev pub no_form : Forms
no_form = record {
  done = false;
  object = false;
  nothing = false;
  value = false;
  generation = false;
  address = false;
  report = false;
  none_queued = false;
  absent = false;
  chain = false;
  unrooted = false;
  refused = false;
}

abbrev pub takes : Forms → Reply → Bool
takes forms reply.Done = forms.done
takes forms (reply.Object id) = forms.object
takes forms reply.Nothing = forms.nothing
takes forms (reply.Value n) = forms.value
takes forms (reply.Generation g) = forms.generation
takes forms (reply.Place at) = forms.address
takes forms (reply.Report report) = forms.report
takes forms reply.NoneQueued = forms.none_queued
takes forms reply.Absent = forms.absent
takes forms (reply.Chain from arrows) = forms.chain
takes forms reply.Unrooted = forms.unrooted
takes forms (reply.Refused why) = forms.refused

-- whether a reply is of a form
abbrev pub is_object : Reply → Bool
is_object = takes (record no_form { object = true })

abbrev pub is_load : Reply → Bool
is_load = takes (record no_form { object = true; nothing = true })

abbrev pub is_value : Reply → Bool
is_value = takes (record no_form { value = true })

abbrev pub is_generation : Reply → Bool
is_generation = takes (record no_form { generation = true })

abbrev pub is_address : Reply → Bool
is_address = takes (record no_form { address = true })

abbrev pub is_report : Reply → Bool
is_report = takes (record no_form { report = true })

abbrev pub is_queued : Reply → Bool
is_queued = takes (record no_form { object = true; none_queued = true })

abbrev pub is_found : Reply → Bool
is_found = takes (record no_form { object = true; nothing = true; absent = true })

abbrev pub is_removed : Reply → Bool
is_removed = takes (record no_form { done = true; absent = true })

abbrev pub is_rooted : Reply → Bool
is_rooted = takes (record no_form { chain = true; unrooted = true })

-- what each command replies where it is not refused
abbrev pub RepliesTo : Cmd → Reply → Type 0
RepliesTo (cmd.New d fields fin) r = is_object r ≡ true
RepliesTo (cmd.Set o i v) r = r ≡ reply.Done
RepliesTo (cmd.Get d o i) r = is_load r ≡ true
RepliesTo (cmd.Val o v) r = r ≡ reply.Done
RepliesTo (cmd.Read o) r = is_value r ≡ true
RepliesTo (cmd.Copy d s) r = r ≡ reply.Done
RepliesTo (cmd.Clear d) r = r ≡ reply.Done
RepliesTo (cmd.SPut k s) r = r ≡ reply.Done
RepliesTo (cmd.SGet d k) r = is_load r ≡ true
RepliesTo (cmd.Gen s) r = is_generation r ≡ true
RepliesTo (cmd.Suppress s) r = r ≡ reply.Done
RepliesTo (cmd.Reregister s) r = r ≡ reply.Done
RepliesTo (cmd.Final d) r = is_queued r ≡ true
RepliesTo (cmd.Collect n) r = is_report r ≡ true
RepliesTo (cmd.HNew d make t) r = r ≡ reply.Done
RepliesTo (cmd.HGet d s) r = is_load r ≡ true
RepliesTo (cmd.HSet s t) r = r ≡ reply.Done
RepliesTo (cmd.HSec h s) r = r ≡ reply.Done
RepliesTo (cmd.HDep d s) r = is_load r ≡ true
RepliesTo (cmd.HVar s strength) r = r ≡ reply.Done
RepliesTo (cmd.HFree s) r = r ≡ reply.Done
RepliesTo (cmd.HPut k s) r = r ≡ reply.Done
RepliesTo (cmd.HPick d k) r = r ≡ reply.Done
RepliesTo (cmd.AddrOf s) r = is_address r ≡ true
RepliesTo (cmd.HUp s) r = is_value r ≡ true
RepliesTo (cmd.HDown s) r = is_value r ≡ true
RepliesTo (cmd.Trim kind) r = is_value r ≡ true
RepliesTo (cmd.CAdd k v) r = r ≡ reply.Done
RepliesTo (cmd.CFind d k) r = is_found r ≡ true
RepliesTo (cmd.CRemove k) r = is_removed r ≡ true
RepliesTo (cmd.GcRoot s) r = is_rooted r ≡ true
