-- The forms of what calls return.
use Rattle.std.proofs.Common.{Bool, None, Option, Some, false, refl, true, ◌≡◌}
use Rattle.hd_model.specs.{declared.data.Id.Id, Aging.is_refused, Command.load_reply}
use Rattle.hd_commands.specs.Done.{queued_reply}
use Rattle.hd_store.specs.declared.collection_calls.Root.{Root}
use Rattle.hd_store.specs.declared.entry_calls.Lookup.{Lookup}
use Rattle.hd_store.specs.declared.entry_calls.Lookup.TheVariants as found
use Rattle.hd_store.specs.Replies.{found_reply, removed_reply, root_reply}
use Rattle.hd_host.specs.Replies.{is_found, is_load, is_queued, is_removed, is_rooted}

pub loads : (o : Option Id) → is_load (load_reply o) ≡ true
loads None = refl
loads (Some x) = refl

pub not_queued : (o : Option Id) → is_refused (queued_reply o) ≡ false
not_queued None = refl
not_queued (Some x) = refl

pub queues : (o : Option Id) → is_queued (queued_reply o) ≡ true
queues None = refl
queues (Some x) = refl

pub not_found : (x : Lookup) → is_refused (found_reply x) ≡ false
not_found (found.Value None) = refl
not_found (found.Value (Some x)) = refl
not_found found.Absent = refl

pub finds : (x : Lookup) → is_found (found_reply x) ≡ true
finds (found.Value None) = refl
finds (found.Value (Some x)) = refl
finds found.Absent = refl

pub not_removed : (b : Bool) → is_refused (removed_reply b) ≡ false
not_removed true = refl
not_removed false = refl

pub removes : (b : Bool) → is_removed (removed_reply b) ≡ true
removes true = refl
removes false = refl

pub not_rooted : (o : Option Root) → is_refused (root_reply o) ≡ false
not_rooted None = refl
not_rooted (Some root) = refl

pub roots : (o : Option Root) → is_rooted (root_reply o) ≡ true
roots None = refl
roots (Some root) = refl
