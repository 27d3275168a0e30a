-- The rule of the table: what is so of its words, of the world and of what each seat knows, between any two
-- steps of any seats. All of it is this project's own.
use Rattle.std.specs.Prelude.{◌≡◌, ◌≢◌, ◌⊎◌, ℕ, suc, ◌+◌, ◌*◌, ◌^◌, ◌<◌, ◌≤◌, Bool, true, false, List, [], ◌∷◌, length}
use Rattle.std.specs.Prelude.{slice_index, Option, Some, cond}
use mathlib.Core.Option.{some, none}
use mathlib.Core.Option as maybe
use lib.ListN.{get_elem?}
use Rattle.std.specs.Int.{bit_at}
use Rattle.atomic_table.specs.Table.{State, Me, Step}
use Rattle.hd_model.specs.declared.held.Held.{Ghosts}
use Rattle.hd_model.specs.declared.data.Entry.{Entry}
use Rattle.hd_model.specs.State.{Numbers}
use Rattle.hd_model.specs.Run.{part_of}
use Rattle.hd_custody.specs.declared.view.View.{View}
use Rattle.hd_model.specs.declared.limits.TheConstants.{BLOCKS, ROWS}
use Rattle.hd_custody.specs.declared.words.TheConstants.{FIRST_MASK, FIRST_QUICK, WORDS}
use Rattle.hd_custody.specs.Counts.{mask_word, masked_block, slot_block, total, total_at, one_if, weight, held_times, kind_word, named, cell_kind, changed, Every}
use Rattle.hd_custody.specs.Views.{numbers_of, took, swapped, banked, looked, drained, restored, put_in, opened, closed, gave_back}
use Rattle.hd_custody.specs.Views.{IsPrefix, Sorted, Fresh, KindIs}

-- a seat that ended: its number, its part, and what it had seen of the journal
abbrev pub Ended : Type 0
Ended = ℕ × List Entry × List Entry

-- how many seats a view stands for: its own, and those that ended in it
abbrev pub tally : {W : Type 0} → View W → ℕ
tally v = cond v.is_spent 0 (length v.ended + 1)

-- how many entries the seat may still add
abbrev pub room_of : {W : Type 0} → View W → ℕ
room_of v = cond v.is_spent 0 v.room

-- how often the seat holds the slot x
abbrev pub held_by : {W : Type 0} → ℕ → View W → ℕ
held_by x v = cond v.is_spent 0 (held_times x v.held)

-- a slot held is in a block of handles, and of its kind where it has one
abbrev pub Belongs : List ℕ → ℕ × ℕ → Type 0
Belongs words p =
    (ROWS ≤ p.0) × (named (kind_word words (slot_block p.0)) ≡ 1)
    × (p.1 ≢ 0 → kind_word words (slot_block p.0) ≡ p.1)

module _ {W : Type 0} where
  -- What is so of a seat at its index i among the views. owner n is 1 more than the index of the seat with
  -- number n, or 0 where that seat has ended.
  pub record Fits (made : ℕ) (owner : ℕ → ℕ) (journal : List Entry) (numbers : Numbers) (i : ℕ) (v : View W) :
      Type 0 where
    -- its number was given
    pub low : v.number < made
    -- to it alone
    pub owned : owner v.number ≡ suc i
    -- it knows its own entries
    pub own_part : v.part ≡ part_of journal v.number
    -- what it has seen of the journal is so still
    pub has_seen : IsPrefix v.seen journal
    -- seat 0 knows how many numbers were given, and no other has seats that ended in it
    pub knows : v.number ≡ 0 → v.made ≡ made
    pub alone : v.number ≢ 0 → v.ended ≡ []
    -- an ended part has the number of a seat that is no more, that caller's entries, and what it had seen
    pub ended_parts : (k : ℕ) (e : Ended) → get_elem? v.ended k ≡ some e
        → (e.0 < made) × (owner e.0 ≡ 0) × (e.1 ≡ part_of journal e.0) × IsPrefix e.2 journal
    -- it knows the numbers of the world
    pub sized : numbers_of v.limits ≡ numbers

  -- n is the seat's number, or that of a part that ended in it
  abbrev pub HasNumber : ℕ → View W → Type 0
  HasNumber n v =
      (v.is_spent ≡ false) × ((v.number ≡ n) ⊎ ((k : ℕ) × (e : Ended) × (get_elem? v.ended k ≡ some e)
      × (e.0 ≡ n)))

  -- (f) Each number below made is that of one seat or of one ended part. Seat 0 knows made. The entries of
  -- caller n in the journal are the part of number n, and a number not yet made has none.
  -- (g) The entries that the seats may still add are together at most the spare of the journal.
  pub record Seats (made : ℕ) (owner : ℕ → ℕ) (journal : List Entry) (spare : ℕ) (numbers : Numbers)
      (views : List (View W)) : Type 0 where
    pub each : (i : ℕ) (v : View W) → get_elem? views i ≡ some v → v.is_spent ≡ false
        → Fits made owner journal numbers i v
    -- so there is a seat 0, the only one with ended parts
    pub begun : 0 < made
    -- a number that was not given has no entry
    pub unmade : (n : ℕ) → made ≤ n → part_of journal n ≡ []
    -- no seat was lost: seats and ended parts are as many as the numbers, and each number has one
    pub counted : total tally views ≡ made
    pub kept : (n : ℕ) → n < made → (i : ℕ) × (v : View W) × (get_elem? views i ≡ some v) × HasNumber n v
    -- (g)
    pub roomy : total room_of views ≤ spare

  -- Where each slot is, as live, the words and the seats have it.
  pub record Slots (live : ℕ → Bool) (words : List ℕ) (views : List (View W)) : Type 0 where
    -- (a) A slot of a block of handles is in exactly one of these: a set bit of its block's mask, a quick
    -- word or cell, the slots held by one seat, the live slots. A slot of any other block is in none.
    pub in_one_place : (x : ℕ) → ROWS ≤ x
        → total_at (weight x) 0 words + total (held_by x) views + one_if (live x)
        ≡ named (kind_word words (slot_block x))
    -- (b) A slot in a quick word or cell of a kind is in a block of that kind.
    pub cells : (i : ℕ) → FIRST_QUICK ≤ i → slice_index words i ≢ 0
        → (ROWS ≤ slice_index words i)
        × (kind_word words (slot_block (slice_index words i)) ≡ cell_kind i + 1)
    -- (b) So is a slot held with that kind. One without a kind is in a block of handles.
    pub held : (j : ℕ) (v : View W) → get_elem? views j ≡ some v → v.is_spent ≡ false
        → Every (Belongs words) v.held
    -- a mask has a bit for each row
    pub masks : (i : ℕ) → FIRST_MASK ≤ i → i < FIRST_QUICK → slice_index words i < 2 ^ ROWS
    -- (e) The mask of a block whose kind word names no kind of handle is 0.
    pub empty_masks : (b : ℕ) → 0 < b → b < BLOCKS + 1 → named (kind_word words b) ≡ 0
        → slice_index words (mask_word b) ≡ 0

  -- the world is out with the seat at this index
  pub record Out (world : W) (holder : ℕ) (homes : List (maybe.Option (Option W))) (views : List (View W)) :
      Type 0 where
    pub view : View W
    pub gone : homes ≡ none ∷ []
    pub there : get_elem? views holder ≡ some view
    pub lives : view.is_spent ≡ false
    pub has : view.has_gate ≡ true

  -- where a seat has the gate, it is the holder, and knows the world that it took and its stores since
  abbrev pub Holds : ℕ → ℕ → W → List (ℕ × ℕ) → ℕ → View W → Type 0
  Holds gate holder world changes i v =
      v.has_gate ≡ true → (gate ≡ 1) × (holder ≡ i) × (v.taken ≡ Some world) × (v.changes ≡ changes)

  -- (d) Word 0 is 1 where exactly one seat has the gate, and 0 where none has it and the world is stored in
  -- the table.
  pub record Gate (world : W) (holder : ℕ) (changes : List (ℕ × ℕ)) (words : List ℕ)
      (homes : List (maybe.Option (Option W))) (views : List (View W)) : Type 0 where
    pub free_or_held :
        ((slice_index words 0 ≡ 0) × (homes ≡ some (Some world) ∷ []) × (changes ≡ []))
        ⊎ ((slice_index words 0 ≡ 1) × Out world holder homes views)
    pub holding : (i : ℕ) (v : View W) → get_elem? views i ≡ some v → v.is_spent ≡ false
        → Holds (slice_index words 0) holder world changes i v

module _ {W : Type 0} (m : Ghosts W) where
  -- The rule. `world` is the world in its slot, or the one that the holder of the gate took; `changes` are
  -- its stores since. That world is sound.
  pub record Custodied (numbers : Numbers) (s : State (Option W) (View W)) : Type 0 where
    pub world : W
    pub holder : ℕ
    pub changes : List (ℕ × ℕ)
    pub made : ℕ
    pub owner : ℕ → ℕ
    pub wide : length s.words ≡ WORDS
    pub sized : m.numbers world ≡ numbers
    pub gate : Gate world holder changes s.words s.homes s.views
    pub seats : Seats made owner (m.journal world) (m.spare world) numbers s.views
    -- (c) The kind words are the kinds of the world, with what the holder of the gate stored since.
    pub kinds : (b : ℕ) → 0 < b → b < BLOCKS + 1 → slice_index s.words b ≡ changed changes (m.kind world) b
    pub slots : Slots (m.live world) s.words s.views
    pub sound : m.sound world

  abbrev M : Type 0
  M = Me (Option W) (View W)

  -- what a seat that wins the gate learns: that it had not got it, and of the world its own part, that what
  -- it had seen of the journal is so still, its room, that no slot held is live, and that it is sound
  pub record Entered (v : View W) (w : W) : Type 0 where
    pub had_not : v.has_gate ≡ false
    pub part : part_of (m.journal w) v.number ≡ v.part
    pub goes_on : IsPrefix v.seen (m.journal w)
    pub room : v.room ≤ m.spare w
    pub sized : m.numbers w ≡ numbers_of v.limits
    pub held : Every (λ p. (m.live w p.0 ≡ false) × (p.1 ≢ 0 → m.kind w (slot_block p.0) ≡ p.1)) v.held
    pub sound : m.sound w

  -- The world that a table leaves where all seats were joined to the first, of view v: its journal has of
  -- each caller exactly that caller's part, and begins with what each has seen; and it is sound.
  pub record Divided (v : View W) (w : W) : Type 0 where
    pub sized : m.numbers w ≡ numbers_of v.limits
    pub own_part : part_of (m.journal w) 0 ≡ v.part
    pub own_seen : IsPrefix v.seen (m.journal w)
    pub ended_parts : (k : ℕ) (e : Ended) → get_elem? v.ended k ≡ some e
        → (part_of (m.journal w) e.0 ≡ e.1) × IsPrefix e.2 (m.journal w)
    pub each : (n : ℕ) → n < v.made → (n ≡ 0) ⊎ ((k : ℕ) × (e : Ended) × (get_elem? v.ended k ≡ some e)
        × (e.0 ≡ n))
    pub others : (n : ℕ) → v.made ≤ n → part_of (m.journal w) n ≡ []
    pub sound : m.sound w

  -- a world that custody may begin with: nothing is live, no block is in use, nothing was done, and it is
  -- sound
  pub record IsUnused (w : W) : Type 0 where
    pub nothing_live : (x : ℕ) → m.live w x ≡ false
    pub no_kinds : (b : ℕ) → m.kind w b ≡ 0
    pub no_entries : m.journal w ≡ []
    pub sound : m.sound w

  -- What each kind of step shows its seat: of the step, the seat before, the value found, the seat after. the
  -- gate was free, and the seat has the world; or it was not, and nothing changed
  abbrev pub entered : Step (Option W) → M → ℕ → M → Type 0
  entered st a n b =
      (n ≡ 0 → (w : W) × (b ≡ (took m w a.0, (0, Some w) ∷ a.1)) × Entered a.0 w) × (n ≢ 0 → b ≡ a)

  -- the gate is given back
  abbrev pub left : Step (Option W) → M → ℕ → M → Type 0
  left st a n b =
      (w : W) (u : W) → a.1 ≡ (0, Some w) ∷ [] → a.0.taken ≡ Some u → (b ≡ (gave_back m u w a.0, []))
      × Sorted m u w

  -- an exchange of a quick word or cell, from the view `start` on: what came was not held, and is of
  -- the cell's kind
  abbrev pub exchanged : (View W → View W) → Step (Option W) → M → ℕ → M → Type 0
  exchanged start st a n b =
      (b ≡ (swapped st.word n st.first (start a.0), a.1))
      × (n ≢ 0 → Fresh m a.0 n × KindIs m a.0 (slot_block n) (cell_kind st.word + 1))

  -- a compare-exchange of a cell
  abbrev pub stored : Step (Option W) → M → ℕ → M → Type 0
  stored st a n b = b ≡ (banked st.word n st.second a.0, a.1)

  -- a load of a kind word
  abbrev pub seen : Step (Option W) → M → ℕ → M → Type 0
  seen st a n b = (b ≡ (looked st.word n a.0, a.1)) × KindIs m a.0 st.word n

  -- an exchange of a mask with 0
  abbrev pub drawn : Step (Option W) → M → ℕ → M → Type 0
  drawn st a n b =
      (b ≡ (drained st.word n a.0, a.1)) × ((r : ℕ) → r < ROWS → bit_at n r ≡ 1
      → Fresh m a.0 (ROWS * masked_block st.word + r))

  -- rows go into a mask, with a trace and without one
  abbrev pub returned : Step (Option W) → M → ℕ → M → Type 0
  returned st a n b = b ≡ (restored st.word st.first n a.0, a.1)

  abbrev pub settled : Step (Option W) → M → ℕ → M → Type 0
  settled st a n b = b ≡ (put_in st.word st.first a.0, a.1)

  -- the holder of the gate stores the kind word of a block, of which no slot was held
  abbrev pub assigned : Step (Option W) → M → ℕ → M → Type 0
  assigned st a n b =
      (b ≡ (opened st.word st.first a.0, a.1))
      × ((r : ℕ) → r < ROWS → held_times (ROWS * st.word + r) a.0.held ≡ 0)

  -- it stores 0
  abbrev pub cleared : Step (Option W) → M → ℕ → M → Type 0
  cleared st a n b = b ≡ (closed st.word a.0, a.1)
