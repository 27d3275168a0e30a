-- A step changes no part of the state that its command does not touch.
use Rattle.hd_model.proofs.Basics.{Cmd, Entry, None, Numbers, State, Untouched, UntouchedStays, false, none-some, refl, sym, touched_by, true≢false, ◌≡◌}
use Rattle.hd_model.proofs.Effects.{Effect, makes_object, sets_field, gets_field, sets_value, copies, clears, puts_static, gets_static, suppresses, reregisters, finds_none, takes_first, collects, makes_handle, gets_target, sets_target, sets_secondary, gets_secondary, sets_strength, raises_count, lowers_count, frees_handle, puts_board, picks_board, replies_address, gives_back, adds_entry, finds_value, finds_no_entry, removes_entry, effect}

module _ (n : Numbers) (s : State) (e : Entry) where
  objects_stay : (c : Cmd) (t : State) → Effect n s e c t → (touched_by c).objects ≡ false
      → t.objects ≡ s.objects
  objects_stay c t (makes_object small p) h = absurd (true≢false h)
  objects_stay c t (sets_field id f l p) h = absurd (true≢false h)
  objects_stay c t (sets_value id f p) h = absurd (true≢false h)
  objects_stay c t (suppresses id f p) h = absurd (true≢false h)
  objects_stay c t (reregisters id f p) h = absurd (true≢false h)
  objects_stay c t (collects did) h = absurd (true≢false h)
  objects_stay c t _ h = refl

  handles_stay : (c : Cmd) (t : State) → Effect n s e c t → (touched_by c).handles ≡ false
      → t.handles ≡ s.handles
  handles_stay c t (makes_handle slot given may p) h = absurd (true≢false h)
  handles_stay c t (sets_target slot handle f p) h = absurd (true≢false h)
  handles_stay c t (sets_secondary slot handle f k l p) h = absurd (true≢false h)
  handles_stay c t (sets_strength slot handle f k p) h = absurd (true≢false h)
  handles_stay c t (raises_count slot handle f k p) h = absurd (true≢false h)
  handles_stay c t (lowers_count slot handle f k p) h = absurd (true≢false h)
  handles_stay c t (frees_handle slot handle f p q) h = absurd (true≢false h)
  handles_stay c t (collects did) h = absurd (true≢false h)
  handles_stay c t _ h = refl

  weak_stays : (c : Cmd) (t : State) → Effect n s e c t → (touched_by c).weak ≡ false → t.weak ≡ s.weak
  weak_stays c t (adds_entry key slot f none may p q) h = absurd (true≢false h)
  weak_stays c t (removes_entry key slot has f p) h = absurd (true≢false h)
  weak_stays c t (collects did) h = absurd (true≢false h)
  weak_stays c t _ h = refl

  registers_stay : (c : Cmd) (t : State) → Effect n s e c t → (touched_by c).register ≡ None
      → t.registers ≡ s.registers
  registers_stay c t (makes_object {d = d} small p) h = absurd (none-some d (sym h))
  registers_stay c t (gets_field {d = d} {i = i} id f l p) h = absurd (none-some d (sym h))
  registers_stay c t (copies {d = d} p) h = absurd (none-some d (sym h))
  registers_stay c t (clears {d = d} p) h = absurd (none-some d (sym h))
  registers_stay c t (gets_static {d = d} p) h = absurd (none-some d (sym h))
  registers_stay c t (finds_none {d = d} p) h = absurd (none-some d (sym h))
  registers_stay c t (takes_first {d = d} id rest is p) h = absurd (none-some d (sym h))
  registers_stay c t (gets_target {d = d} slot handle f p) h = absurd (none-some d (sym h))
  registers_stay c t (gets_secondary {d = d} slot handle f p) h = absurd (none-some d (sym h))
  registers_stay c t (finds_value {d = d} key slot has f p) h = absurd (none-some d (sym h))
  registers_stay c t (finds_no_entry {d = d} key f none p) h = absurd (none-some d (sym h))
  registers_stay c t (collects did) h = did.collects.registers
  registers_stay c t _ h = refl

  handle_registers_stay : (c : Cmd) (t : State) → Effect n s e c t → (touched_by c).handle_register ≡ None
      → t.handle_registers ≡ s.handle_registers
  handle_registers_stay c t (makes_handle {d = d} slot given may p) h = absurd (none-some d (sym h))
  handle_registers_stay c t (frees_handle {h = d} slot handle f p q) h = absurd (none-some d (sym h))
  handle_registers_stay c t (picks_board {d = d} p) h = absurd (none-some d (sym h))
  handle_registers_stay c t (collects did) h = did.collects.handle_registers
  handle_registers_stay c t _ h = refl

  statics_stay : (c : Cmd) (t : State) → Effect n s e c t → (touched_by c).static ≡ None
      → t.statics ≡ s.statics
  statics_stay c t (puts_static {k = k} p) h = absurd (none-some k (sym h))
  statics_stay c t (collects did) h = did.collects.statics
  statics_stay c t _ h = refl

  board_stays : (c : Cmd) (t : State) → Effect n s e c t → (touched_by c).board ≡ None → t.board ≡ s.board
  board_stays c t (puts_board {k = k} p) h = absurd (none-some k (sym h))
  board_stays c t (collects did) h = did.collects.board
  board_stays c t _ h = refl

  queue_stays : (c : Cmd) (t : State) → Effect n s e c t → (touched_by c).queue ≡ false → t.queue ≡ s.queue
  queue_stays c t (takes_first id rest is p) h = absurd (true≢false h)
  queue_stays c t (collects did) h = absurd (true≢false h)
  queue_stays c t _ h = refl

  pinned_stay : (c : Cmd) (t : State) → Effect n s e c t → (touched_by c).pinned ≡ false → t.pinned ≡ s.pinned
  pinned_stay c t (replies_address slot handle id p f target may r) h = absurd (true≢false h)
  pinned_stay c t (collects did) h = absurd (true≢false h)
  pinned_stay c t _ h = refl

  blocks_stay : (c : Cmd) (t : State) → Effect n s e c t → (touched_by c).blocks ≡ false → t.blocks ≡ s.blocks
  blocks_stay c t (makes_handle slot given may p) h = absurd (true≢false h)
  blocks_stay c t (gives_back block free p) h = absurd (true≢false h)
  blocks_stay c t (adds_entry key slot f none may p q) h = absurd (true≢false h)
  blocks_stay c t (collects did) h = did.collects.blocks
  blocks_stay c t _ h = refl

  serials_stay : (c : Cmd) (t : State) → Effect n s e c t → (touched_by c).serials ≡ false
      → t.serials ≡ s.serials
  serials_stay c t (makes_object small p) h = absurd (true≢false h)
  serials_stay c t (collects did) h = did.collects.serials
  serials_stay c t _ h = refl

  untouched : (c : Cmd) (t : State) → Effect n s e c t → Untouched (touched_by c) s t
  untouched c t does = record {
    objects = objects_stay c t does;
    handles = handles_stay c t does;
    weak = weak_stays c t does;
    registers = registers_stay c t does;
    handle_registers = handle_registers_stay c t does;
    statics = statics_stay c t does;
    board = board_stays c t does;
    queue = queue_stays c t does;
    pinned = pinned_stay c t does;
    blocks = blocks_stay c t does;
    serials = serials_stay c t does;
  }

pub untouched_stays : UntouchedStays
untouched_stays n s t e step = untouched n s e e.cmd t (effect n s e t step)
