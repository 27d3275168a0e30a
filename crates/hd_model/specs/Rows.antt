-- One row for each command: its word in a script, the words after it, what it does, and what it touches.
-- Registers are those of the command's caller.
use Rattle.std.specs.Prelude.{ℕ, ◌-◌, Bool, true, false, if◌then◌else◌, List, [], ◌∷◌, ◌++◌, map, codes, Option, Some, None}
use Rattle.hd_model.specs.Data.{Kind as KindOf, Strength as StrengthOf, Make, Class, Cmd, Operand}
use Rattle.hd_model.specs.declared.limits.TheConstants.{REGISTERS, FIELDS, OLDEST}
use Rattle.hd_model.specs.declared.operand.Operand.TheVariants.{Object, Handle, Number, Kind, PlainKind, Strength, Fin}
use Rattle.hd_model.specs.declared.data.Kind.TheVariants as kind
use Rattle.hd_model.specs.declared.data.Strength.TheVariants as strength
use Rattle.hd_model.specs.declared.data.Make.TheVariants as make
use Rattle.hd_model.specs.declared.class.Class.TheVariants as class
use Rattle.hd_model.specs.declared.command.Cmd.TheVariants as cmd

-- a word after the word of a command, with what it says
pub data Word : Type 0 where
  object : (register : ℕ) → Word
  handle : (register : ℕ) → Word
  -- an index of a static or of the board
  index : ℕ → Word
  field : ℕ → Word
  field_count : ℕ → Word
  number : ℕ → Word
  generation : ℕ → Word
  -- the kind of what is made
  makes : Make → Word
  -- a kind without extra data
  plain_kind : KindOf → Word
  of_strength : StrengthOf → Word
  -- `fin`: the object is registered for finalization
  registered : Word

-- what such a word has to be
abbrev pub operand_of : Word → Operand
operand_of (object d) = Object
operand_of (handle d) = Handle
operand_of (index k) = Number (REGISTERS - 1)
operand_of (field i) = Number 255
operand_of (field_count n) = Number FIELDS
operand_of (number n) = Number 18446744073709551615
operand_of (generation n) = Number OLDEST
operand_of (makes make) = Kind
operand_of (plain_kind kind) = PlainKind
operand_of (of_strength strength) = Strength
operand_of registered = Fin

-- what a command touches
pub record Touched : Type 0 where
  -- the object register that it writes, and the one that it copies there
  pub register : Option ℕ
  pub copied : Option ℕ
  -- the handle register that it writes, and the board index whose slot it copies there
  pub handle_register : Option ℕ
  pub picked : Option ℕ
  -- the handle register whose handle it is about
  pub handle : Option ℕ
  -- the object registers of the key and the value of the entry that it adds to the weak table, and that of
  -- the key whose entry it takes out
  pub adds : Option (ℕ × ℕ)
  pub takes_out : Option ℕ
  -- the static and the board index that it writes
  pub static : Option ℕ
  pub board : Option ℕ
  -- whether it may change these parts of the state
  pub objects : Bool
  pub handles : Bool
  pub weak : Bool
  pub queue : Bool
  pub pinned : Bool
  pub blocks : Bool
  pub serials : Bool
  -- whether it is one that makes an object, makes a handle or frees one
  pub makes_object : Bool
  pub makes_handle : Bool
  pub frees_handle : Bool

-- a command that touches nothing
abbrev pub none : Touched
none = record {
  register = None;
  copied = None;
  handle_register = None;
  picked = None;
  handle = None;
  adds = None;
  takes_out = None;
  static = None;
  board = None;
  objects = false;
  handles = false;
  weak = false;
  queue = false;
  pinned = false;
  blocks = false;
  serials = false;
  makes_object = false;
  makes_handle = false;
  frees_handle = false;
}

-- what a kind needs beside the target: a variable handle its strength, a dependent one the register of its
-- secondary
abbrev pub extra_of : Make → List Word
extra_of make.Short = []
extra_of make.Long = []
extra_of make.Strong = []
extra_of make.Pinned = []
extra_of (make.Variable strength) = of_strength strength ∷ []
extra_of make.Counted = []
extra_of (make.Dependent s) = object s ∷ []

-- the row of a command: its word, the words after it, of which the operands have a range and the others none,
-- its class, and what it touches
pub record Row : Type 0 where
  pub word : List ℕ
  pub operands : List Word
  pub others : List Word
  pub class : Class
  pub touches : Touched

abbrev pub row_with : List Word → List ℕ → List Word → Class → Touched → Row
row_with others word operands c touches =
    record { word = word; operands = operands; others = others; class = c; touches = touches }

abbrev pub row : List ℕ → List Word → Class → Touched → Row
row = row_with []

-- one for each
abbrev pub row_of : Cmd → Row
row_of (cmd.New d fields fin) =
    row_with (if fin then registered ∷ [] else []) (codes "new") (object d ∷ field_count fields ∷ [])
    (class.MakesObject fields)
    (record none { register = Some d; objects = true; serials = true; makes_object = true })
row_of (cmd.Set o i v) =
    row (codes "set") (object o ∷ field i ∷ object v ∷ []) class.Plain (record none { objects = true })
row_of (cmd.Get d o i) =
    row (codes "get") (object d ∷ object o ∷ field i ∷ []) class.Plain (record none { register = Some d })
row_of (cmd.Val o n) =
    row (codes "val") (object o ∷ number n ∷ []) class.Plain (record none { objects = true })
row_of (cmd.Read o) = row (codes "read") (object o ∷ []) class.Plain none
row_of (cmd.Copy d s) =
    row (codes "copy") (object d ∷ object s ∷ []) class.Plain
    (record none { register = Some d; copied = Some s })
row_of (cmd.Clear d) = row (codes "drop") (object d ∷ []) class.Plain (record none { register = Some d })
row_of (cmd.SPut k s) =
    row (codes "sput") (index k ∷ object s ∷ []) class.Plain (record none { static = Some k })
row_of (cmd.SGet d k) =
    row (codes "sget") (object d ∷ index k ∷ []) class.Plain (record none { register = Some d })
row_of (cmd.Gen s) = row (codes "gen") (object s ∷ []) class.Plain none
row_of (cmd.Suppress s) = row (codes "suppress") (object s ∷ []) class.Plain (record none { objects = true })
row_of (cmd.Reregister s) =
    row (codes "reregister") (object s ∷ []) class.Plain (record none { objects = true })
row_of (cmd.Final d) =
    row (codes "final") (object d ∷ []) class.Plain (record none { register = Some d; queue = true })
row_of (cmd.Collect n) =
    row (codes "collect") (generation n ∷ []) (class.Collects n)
    (record none { objects = true; handles = true; weak = true; queue = true; pinned = true })
row_of (cmd.HNew d make t) =
    row_with (extra_of make) (codes "hnew") (handle d ∷ makes make ∷ object t ∷ []) (class.TakesSlot make t)
    (record none { handle_register = Some d; handles = true; blocks = true; makes_handle = true })
row_of (cmd.HGet d s) =
    row (codes "hget") (object d ∷ handle s ∷ []) class.Plain
    (record none { register = Some d; handle = Some s })
row_of (cmd.HSet s t) =
    row (codes "hset") (handle s ∷ object t ∷ []) (class.StoresTarget s t)
    (record none { handle = Some s; handles = true })
row_of (cmd.HSec h s) =
    row (codes "hsec") (handle h ∷ object s ∷ []) (class.StoresSecondary h)
    (record none { handle = Some h; handles = true })
row_of (cmd.HDep d s) =
    row (codes "hdep") (object d ∷ handle s ∷ []) class.Plain
    (record none { register = Some d; handle = Some s })
row_of (cmd.HVar s strength) =
    row_with (of_strength strength ∷ []) (codes "hvar") (handle s ∷ []) class.Plain
    (record none { handle = Some s; handles = true })
row_of (cmd.HFree s) =
    row (codes "hfree") (handle s ∷ []) class.Frees
    (record none { handle_register = Some s; handle = Some s; handles = true; frees_handle = true })
row_of (cmd.HPut k s) =
    row (codes "hput") (index k ∷ handle s ∷ []) class.Plain (record none { board = Some k })
row_of (cmd.HPick d k) =
    row (codes "hpick") (handle d ∷ index k ∷ []) class.Plain
    (record none { handle_register = Some d; picked = Some k })
row_of (cmd.AddrOf s) =
    row (codes "addr") (handle s ∷ []) (class.RepliesAddress s)
    (record none { handle = Some s; pinned = true })
row_of (cmd.HUp s) =
    row (codes "hup") (handle s ∷ []) class.Plain (record none { handle = Some s; handles = true })
row_of (cmd.HDown s) =
    row (codes "hdown") (handle s ∷ []) class.Plain (record none { handle = Some s; handles = true })
row_of (cmd.Trim kind) =
    row (codes "trim") (plain_kind kind ∷ []) (class.GivesBack kind) (record none { blocks = true })
row_of (cmd.CAdd k v) =
    row (codes "cadd") (object k ∷ object v ∷ []) (class.AddsEntry k v)
    (record none { adds = Some (k, v); weak = true; blocks = true })
row_of (cmd.CFind d k) =
    row (codes "cfind") (object d ∷ object k ∷ []) (class.LooksUp k) (record none { register = Some d })
row_of (cmd.CRemove k) =
    row (codes "cremove") (object k ∷ []) (class.LooksUp k) (record none { takes_out = Some k; weak = true })
row_of (cmd.GcRoot s) = row (codes "gcroot") (object s ∷ []) (class.Searches s) none

-- the words after the word of a command
abbrev pub words_after : Cmd → List Word
words_after c = (row_of c).operands ++ (row_of c).others

-- ---- forms

-- what the word of an operand says. A kind is known by its word.
abbrev pub ValueOf : Operand → Type 0
ValueOf Object = ℕ
ValueOf Handle = ℕ
ValueOf (Number most) = ℕ
ValueOf Kind = Unit {0}
ValueOf PlainKind = KindOf
ValueOf Strength = StrengthOf
ValueOf Fin = Bool

-- what the values of operands make
abbrev pub Makes : Type 0 → List Operand → Type 0
Makes A [] = A
Makes A (o ∷ os) = ValueOf o → Makes A os

-- a form of a command: its word, its operands, and the command that their values make
pub record Form : Type 0 where
  pub word : List ℕ
  pub operands : List Operand
  pub make : Makes Cmd operands

-- the form of a command like this one
abbrev pub form : (like : Cmd) → Makes Cmd (map operand_of (words_after like)) → Form
form like make =
    record { word = (row_of like).word; operands = map operand_of (words_after like); make = make }

-- one for each command but `hnew`
abbrev pub forms : List Form
forms =
    form (cmd.New 0 0 true) cmd.New ∷ form (cmd.Set 0 0 0) cmd.Set ∷ form (cmd.Get 0 0 0) cmd.Get
    ∷ form (cmd.Val 0 0) cmd.Val ∷ form (cmd.Read 0) cmd.Read ∷ form (cmd.Copy 0 0) cmd.Copy
    ∷ form (cmd.Clear 0) cmd.Clear ∷ form (cmd.SPut 0 0) cmd.SPut ∷ form (cmd.SGet 0 0) cmd.SGet
    ∷ form (cmd.Gen 0) cmd.Gen ∷ form (cmd.Suppress 0) cmd.Suppress ∷ form (cmd.Reregister 0) cmd.Reregister
    ∷ form (cmd.Final 0) cmd.Final ∷ form (cmd.Collect 0) cmd.Collect ∷ form (cmd.GcRoot 0) cmd.GcRoot
    ∷ form (cmd.CAdd 0 0) cmd.CAdd ∷ form (cmd.CFind 0 0) cmd.CFind ∷ form (cmd.CRemove 0) cmd.CRemove
    ∷ form (cmd.HGet 0 0) cmd.HGet ∷ form (cmd.HSet 0 0) cmd.HSet ∷ form (cmd.HSec 0 0) cmd.HSec
    ∷ form (cmd.HDep 0 0) cmd.HDep ∷ form (cmd.HVar 0 strength.Short) cmd.HVar ∷ form (cmd.HFree 0) cmd.HFree
    ∷ form (cmd.HPut 0 0) cmd.HPut ∷ form (cmd.HPick 0 0) cmd.HPick ∷ form (cmd.AddrOf 0) cmd.AddrOf
    ∷ form (cmd.HUp 0) cmd.HUp ∷ form (cmd.HDown 0) cmd.HDown ∷ form (cmd.Trim kind.Short) cmd.Trim ∷ []
