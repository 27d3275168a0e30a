-- What `show` writes of handles and of the weak table's slots.
use Rattle.std.specs.Prelude.{ℕ, List, [], ◌∷◌, codes, decimal, Option, Some, None}
use Rattle.hd_model.specs.declared.data.Id.{Id}
use Rattle.hd_model.specs.CommandText.{kind_name, strength_word}
use Rattle.hd_model.specs.Text.{identity_text}
use Rattle.hd_show.specs.Columns.{row, table, object_word}
use Rattle.hd_seen.specs.declared.SeenEntry.{SeenEntry}
use Rattle.hd_seen.specs.declared.SeenExtra.{SeenExtra}
use Rattle.hd_seen.specs.declared.SeenExtra.TheVariants as seen
use Rattle.hd_seen.specs.declared.SeenHandle.{SeenHandle}

abbrev pub extra_word : SeenExtra → List ℕ
extra_word seen.Nothing = codes "-"
extra_word (seen.Strength s) = strength_word s
extra_word (seen.Secondary o) = object_word o
extra_word (seen.Count c) = decimal c

abbrev pub handle_row : SeenHandle → List ℕ
handle_row h = row (decimal h.slot.0) (
    (7, kind_name h.kind) ∷ (15, object_word h.target) ∷ (37, extra_word h.extra) ∷ (59, decimal h.age) ∷ [])

abbrev pub handles_header : List ℕ
handles_header = codes "SLOT   KIND    TARGET                EXTRA                 AGE"

abbrev pub handles_text : List SeenHandle → List ℕ
handles_text handles = table handles_header handle_row handles

-- a slot without a key is idle
abbrev pub key_word : Option Id → List ℕ
key_word None = codes "idle"
key_word (Some id) = identity_text id

abbrev pub entry_row : SeenEntry → List ℕ
entry_row e = row (decimal e.slot.0) (
    (7, key_word e.key) ∷ (30, object_word e.value) ∷ (53, decimal e.age) ∷ [])

abbrev pub entries_header : List ℕ
entries_header = codes "ENTRY  KEY                    VALUE                  AGE"

abbrev pub entries_text : List SeenEntry → List ℕ
entries_text entries = table entries_header entry_row entries
