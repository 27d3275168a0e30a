-- The texts of replies, entries and whole journals, as bytes. They are this project's own format.
use Rattle.std.specs.Prelude.{ℕ, ◌+◌, ◌/◌, ◌%◌, ◌^◌, ◌==◌, List, [], ◌∷◌, ◌++◌, codes, decimal, count_by, Bool}
use Rattle.std.specs.List.{concat}
use Rattle.std.specs.FinMap.{len}
use Rattle.hd_model.specs.Data.{Id, Report as CollectionReport, Entry, Refusal, Reply, Cmd}
use Rattle.hd_model.specs.declared.data.Refusal.TheVariants.{Null, BadField, HeapFull, TableFull, NotLive, WrongKind, EmptyRegister, CountZero, Present}
use Rattle.hd_model.specs.declared.data.Reply.TheVariants.{Done, Object, Nothing, Value, Generation, Place, Report, NoneQueued, Absent, Chain, Unrooted, Refused}
use Rattle.hd_model.specs.Class.{class_of, class_collects}
use Rattle.hd_model.specs.State.{State}

-- a refusal in one word, with its numbers
abbrev pub refusal_text : Refusal → List ℕ
refusal_text Null = codes "nullref"
refusal_text BadField = codes "badfield"
refusal_text (HeapFull used size) = codes "heapfull " ++ decimal used ++ codes " " ++ decimal size
refusal_text (TableFull given) = codes "tablefull " ++ decimal given
refusal_text NotLive = codes "notlive"
refusal_text WrongKind = codes "wrongkind"
refusal_text EmptyRegister = codes "empty"
refusal_text CountZero = codes "countzero"
refusal_text Present = codes "present"

-- an identity as its caller and its serial
abbrev pub identity_text : Id → List ℕ
identity_text id = decimal (id.0 / 2 ^ 32) ++ codes "." ++ decimal (id.0 % 2 ^ 32)

-- the six numbers of a collection
abbrev pub report_text : CollectionReport → List ℕ
report_text r =
    codes "kept " ++ decimal r.kept ++ codes " removed " ++ decimal r.removed
    ++ codes " short " ++ decimal r.short ++ codes " long " ++ decimal r.long
    ++ codes " dep " ++ decimal r.dep ++ codes " revived " ++ decimal r.revived

-- a reply
abbrev pub reply_text : Reply → List ℕ
reply_text Done = codes "ok"
reply_text (Object id) = codes "obj " ++ identity_text id
reply_text Nothing = codes "null"
reply_text (Value n) = codes "value " ++ decimal n
reply_text (Generation g) = codes "gen " ++ decimal g
reply_text (Place p) = codes "addr " ++ decimal p
reply_text (Report r) = report_text r
reply_text NoneQueued = codes "none"
reply_text Absent = codes "absent"
reply_text (Chain from edges) = codes "root " ++ identity_text from ++ codes " " ++ decimal edges
reply_text Unrooted = codes "unrooted"
reply_text (Refused refusal) = refusal_text refusal

-- the end of a line
abbrev pub newline : List ℕ
newline = 10 ∷ []

-- the line of an entry: its caller, its number among that caller's entries, and its reply
abbrev pub entry_text : Entry → ℕ → List ℕ
entry_text e number =
    decimal e.caller ++ codes " " ++ decimal number ++ codes " " ++ reply_text e.reply ++ newline

-- what is made of each entry that comes after others, and of its number. A caller's entries are numbered from
-- 1.
abbrev pub numbered_after : {A : Type 0} → (Entry → ℕ → A) → List Entry → List Entry → List A
numbered_after make before [] = []
numbered_after make before (e ∷ es) =
    make e (count_by (λ (other : Entry). other.caller == e.caller) before + 1)
    ∷ numbered_after make (before ++ e ∷ []) es

-- the lines of a journal, one after another
abbrev pub lines_of : List Entry → List ℕ
lines_of journal = concat (numbered_after entry_text [] journal)

-- the last line: the live handles, the objects, reachable or not, and the collections
abbrev pub end_text : ℕ → ℕ → ℕ → List ℕ
end_text handles objects collections =
    codes "end handles " ++ decimal handles ++ codes " objects " ++ decimal objects
    ++ codes " collections " ++ decimal collections ++ newline

-- whether a command is a collection
abbrev pub is_collect : Cmd → Bool
is_collect c = class_collects (class_of c)

-- the number of collections of a journal
abbrev pub collections_of : List Entry → ℕ
collections_of journal = count_by (λ (e : Entry). is_collect e.cmd) journal

-- the text of a journal that replays to a state
abbrev pub text_of : List Entry → State → List ℕ
text_of journal s = lines_of journal ++ end_text (len s.handles) (len s.objects) (collections_of journal)
