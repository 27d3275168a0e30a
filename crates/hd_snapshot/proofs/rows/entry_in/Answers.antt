use Rattle.std.proofs.Common.{None, Option, Some, ap, is_some, option_map, refl, sym, ℕ, ◌∙◌, ◌≡◌}
use Rattle.std.specs.FinMap.{get}
use Rattle.std.specs.Option.{option_and_then}
use Rattle.hd_model.specs.declared.data.Id.{Id}
use Rattle.hd_model.specs.State.{WeakEntry}
use Rattle.hd_store.specs.{Info.entry_seen as entry_told, Store.Machine}
use Rattle.hd_store.specs.declared.info.EntryInfo.{EntryInfo}
use Rattle.hd_seen.specs.Seen.{entry_seen}
use Rattle.hd_snapshot.proofs.StoreSlots.{weak_block}
use Rattle.hd_snapshot.proofs.rows.entry_in.Goals as goal

-- what is read of the contents of a store is so of the store
read : (slot : ℕ) {m n : Machine} {o : Option (Option (WeakEntry Id))} → m ≡ n → get m.state.weak slot ≡ o
    → get n.state.weak slot ≡ o
read slot same is = sym (ap (λ (m : Machine). get m.state.weak slot) same) ∙ is

pub returns-in_err-entry : goal.returns-in_err-entry
returns-in_err-entry c =
    c.from_residual.ensures
    ∙ sym (ap (option_map
    (λ (e : Option (WeakEntry Id)). entry_seen c.args.store.now.ages (c.args.slot.0, e)))
    (read c.args.slot.0 c.contents-contents.ensures.value c.in_err-entry.ensures))

pub age-requires-clause-low : goal.age-requires-clause-low
age-requires-clause-low c =
    (weak_block c.contents-contents.ensures.sound c.args.slot.0
    (ap is_some (read c.args.slot.0 c.contents-contents.ensures.value c.in_ok-entry.ensures))).0

pub age-requires-clause-high : goal.age-requires-clause-high
age-requires-clause-high c =
    (weak_block c.contents-contents.ensures.sound c.args.slot.0
    (ap is_some (read c.args.slot.0 c.contents-contents.ensures.value c.in_ok-entry.ensures))).1

key_told : (o : Option EntryInfo) → option_map (λ (e : EntryInfo). e.key) o
    ≡ option_map (λ (e : WeakEntry Id). e.key) (option_map entry_told o)
key_told None = refl
key_told (Some e) = refl

value_told : (o : Option EntryInfo) → option_and_then (λ (e : EntryInfo). e.value) o
    ≡ option_and_then (λ (e : WeakEntry Id). e.value) (option_map entry_told o)
value_told None = refl
value_told (Some e) = refl

pub returns : goal.returns
returns c =
    ap Some (c.seen_entry.ensures ∙ (λ i. record {
      slot = c.args.slot;
      key = key_told c.in_ok-entry.entry i;
      value = value_told c.in_ok-entry.entry i;
      age = c.age.ensures i;
    }))
    ∙ sym (ap (option_map
    (λ (e : Option (WeakEntry Id)). entry_seen c.args.store.now.ages (c.args.slot.0, e)))
    (read c.args.slot.0 c.contents-contents.ensures.value c.in_ok-entry.ensures))
