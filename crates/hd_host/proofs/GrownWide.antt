-- Calls that are more than one command, and steps of a host alone, of a host that has some of its blocks so far.
use Rattle.std.proofs.Common.{Bool, Err, List, None, Ok, Option, Result, ap, length, refl, ℕ, ◌<◌, ◌∙◌, ◌≡◌}
use Rattle.std.specs.Prelude.{IfOk, IsSome, MatchResult}
use Rattle.std.specs.FinMap.{get}
use Rattle.hd_model.specs.{declared.data.Id.Id, declared.data.Kind.Kind, declared.data.Refusal.Refusal, State.State}
use Rattle.hd_model.specs.declared.command.Cmd.TheVariants as cmd
use Rattle.hd_pool.specs.Pool.{FreeSlots}
use Rattle.hd_slots.specs.Change.{without_block}
use Rattle.hd_store.specs.{Calls.IsSound, Growth.with_blocks, Spare.GivesBackPair, Spare.IsSpare, Store.Machine}
use Rattle.hd_store.specs.Hosted.{IsReadBy, MakesObject as StoreMakes}
use Rattle.hd_store.specs.declared.hosted.Loaded.{Loaded}
use Rattle.hd_host.specs.{declared.change.Change.Change, Changes.no_change, declared.fault.Fault.Fault, Calls.FailsBy, Inside.IsGrown, Inside.IsSized, Inside.Settled, Inside.with_room, View.HostView, View.IsAsItWas, Wide.MakesObject, Wide.ReadsLoaded, Wide.with_state}
use Rattle.hd_host.proofs.GrownCalls.{called_numbers, shown}
use Rattle.hd_host.proofs.GrownParts.{sized_same, sized_with, sound_wide}
use Rattle.hd_host.proofs.PairTrimmed as pair
use Rattle.hd_host.proofs.WideCalls as whole
use Rattle.hd_host.proofs.WiderCall.{sized_called, wide_called}

-- ---- what a load found

module _ {limit : ℕ} {k : Machine} {p : FreeSlots} {entries : List ℕ} (grown : IsGrown limit k p entries)
    {context : ℕ} (known : context < k.numbers.callers) (dst : ℕ) where
  wide_read : (l : Loaded) → IsReadBy k context dst l → IsReadBy (with_blocks limit k) context dst l
  wide_read l reads = record {
    value = reads.value;
    read = whole.each_some l.id
        (λ called. wide_called grown.sized.sound grown.sized.ages grown.sized.few called tt) reads.read;
  }

  pub reads_by : (after : Change) → after ≡ no_change → (l : Loaded) → IsReadBy k context dst l
      → ReadsLoaded context dst (shown limit k entries after) l
  reads_by after now l reads = whole.reads_by grown.host known dst after now l (wide_read l reads)

  pub reads_settled : (last : Change) (r : Result Loaded Refusal) (after : Change) (result : Result Loaded Fault)
      → Settled last r after result → IfOk r (IsReadBy k context dst)
      → IfOk result (ReadsLoaded context dst (shown limit k entries after))
  reads_settled last r after result settled reads =
      whole.reads_settled grown.host known dst last r after result settled (by r reads)
    where
      by : (x : Result Loaded Refusal) → IfOk x (IsReadBy k context dst)
          → IfOk x (IsReadBy (with_blocks limit k) context dst)
      by (Ok l) is = wide_read l is
      by (Err why) is = tt

-- ---- steps of a host alone

module _ {limit : ℕ} {m : Machine} {p : FreeSlots} {entries : List ℕ} {last : Change} {v : HostView}
    (grown : IsGrown limit m p entries) (view : shown limit m entries last ≡ v) (k : Machine) where
  pub host_alone : (registers : List (List (Option Id)))
      → k ≡ record m { state = record m.state { registers = registers } } → IsSound k → IsGrown limit k p entries
  host_alone registers is sound =
      let numbers = ap (λ (x : Machine). x.numbers) is in
      let sized = sized_same grown.sized sound numbers (ap (λ (x : Machine). x.ages) is) in
      record {
        host = whole.host_alone grown.host view (with_blocks limit k) registers (ap (with_blocks limit) is)
            (sound_wide limit k sized.few sized.most sound);
        sized = sized;
      }

  pub steps_alone : (f : State → State) (after : Change) → k ≡ record m { state = f m.state } → after ≡ no_change
      → shown limit k entries after ≡ with_state v (f v.machine.state)
  steps_alone f after is now =
      whole.steps_alone grown.host view (with_blocks limit k) f after (ap (with_blocks limit) is) now

-- ---- an object with its value and its fields

module _ {limit : ℕ} {m : Machine} {p : FreeSlots} {entries : List ℕ} {last : Change} {v : HostView}
    (grown : IsGrown limit m p entries) (view : shown limit m entries last ≡ v) {context : ℕ}
    (known : context < v.machine.numbers.callers) (k : Machine) (dst value : ℕ) (fin : Bool) (src : List ℕ)
    (sound : IsSound k) where
  abbrev Made : Result Id Refusal → Type 0
  Made r = StoreMakes m context dst value fin src k r

  wide_made : (r : Result Id Refusal) → Made r
      → StoreMakes (with_blocks limit m) context dst value fin src (with_blocks limit k) r
  wide_made (Ok id) made = record {
    made = with_blocks limit made.made;
    called = wide_called grown.sized.sound grown.sized.ages grown.sized.few made.called tt;
    written = ap (with_blocks limit) made.written;
    addresses = made.addresses;
  }
  wide_made (Err why) called = wide_called grown.sized.sound grown.sized.ages grown.sized.few called tt

  sized_made : (r : Result Id Refusal) → Made r → IsSized limit k p.blocks entries
  sized_made (Ok id) made =
      sized_same (sized_called grown.sized made.called) sound (ap (λ (x : Machine). x.numbers) made.written)
      (ap (λ (x : Machine). x.ages) made.written)
  sized_made (Err why) called = sized_called grown.sized called

  sound_made : (r : Result Id Refusal) → Made r → IsSound (with_blocks limit k)
  sound_made r made =
      let sized = sized_made r made in sound_wide limit k sized.few sized.most sound

  pub host_makes : (r : Result Id Refusal) → Made r → IsGrown limit k p entries
  host_makes r made = record {
    host = whole.host_makes grown.host view known (with_blocks limit k) dst value fin src (sound_made r made) r
        (wide_made r made);
    sized = sized_made r made;
  }

  pub makes_numbers : (r : Result Id Refusal) → Made r → k.numbers ≡ m.numbers
  makes_numbers (Ok id) made = ap (λ (x : Machine). x.numbers) made.written ∙ called_numbers made.called
  makes_numbers (Err why) called = called_numbers called

  pub makes_tried : (r : Result Id Refusal) → Made r → (after : Change) (result : Result Id Fault)
      → Settled last r after result
      → MatchResult result (MakesObject v context dst value fin src (shown limit k entries after))
      (λ fault. FailsBy v context None (cmd.New dst (length src) fin) fault
      × IsAsItWas v (shown limit k entries after))
  makes_tried r made after result settled =
      whole.makes_tried grown.host view known (with_blocks limit k) dst value fin src (sound_made r made) r
      (wide_made r made) after result settled

-- ---- a block that is given back with its data block

module _ {limit : ℕ} {m k : Machine} {p : FreeSlots} {entries : List ℕ} (grown : IsGrown limit m p entries)
    {kind : Kind} {block extra : ℕ} (spare : IsSpare m.state kind block) (gives : GivesBackPair m block extra k) where
  pub wide_pair : GivesBackPair (with_blocks limit m) block extra (with_blocks limit k)
  wide_pair = record { extra_is = gives.extra_is; after = ap (with_blocks limit) gives.after }

  pub added : IsSome (get p.kinds block)
  added = pair.added grown.host spare wide_pair

  pub host_pair : IsSound k → (q : FreeSlots) → q ≡ without_block p block → IsGrown limit k q entries
  host_pair sound q is = record {
    host = pair.host_pair grown.host spare wide_pair (with_room limit q) (ap (with_room limit) is);
    sized = sized_with (sized_same grown.sized sound (ap (λ (x : Machine). x.numbers) gives.after)
        (ap (λ (x : Machine). x.ages) gives.after)) (ap (λ (x : FreeSlots). x.blocks) is) refl;
  }
