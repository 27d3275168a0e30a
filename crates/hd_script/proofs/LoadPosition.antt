-- The position of a caller of a load in its list, and what the state has for the caller there.
use Rattle.hd_script.proofs.Basics.{Bool, Cmd, Id, IsSome, IsWellFormed, List, None, Option, Slot, Some, State, [], collection_after, cond, false, flat_map, get_or, handle_at, handle_register_of, length, load_numbers, make_of_round, object_by_id, range_with_len, refl, register_of, round_of, sum_by, total_size, true, ℕ, ◌%◌, ◌*◌, ◌++◌, ◌+◌, ◌/◌, ◌<◌, ◌^◌, ◌∷◌, ◌≡◌, ◌≤◌}
use Rattle.hd_model.specs.declared.command.Cmd.TheVariants as cmd

-- the next command of a caller: a `new`, which begins a round, one of the seven others of a round, or the
-- collection after it
pub data Line : Type 0 where
  news : Line
  hnews : Line
  vals : Line
  hgets : Line
  reads : Line
  drops : Line
  others : Line
  frees : Line
  collects : Line

-- the line, the number of its round, how many rounds come after that one (for `news`, with it), and what
-- register h0 has
pub record Index : Type 0 where
  pub line : Line
  pub round : ℕ
  pub left : ℕ
  pub held : Option Slot

-- ---- the commands that are left

abbrev pub rounds_from : ℕ → ℕ → ℕ → List Cmd
rounds_from c j m = flat_map (round_of c) (range_with_len j m)

abbrev from_free : ℕ → ℕ → ℕ → List Cmd
from_free c j m = cmd.HFree 0 ∷ (collection_after j ++ rounds_from c (j + 1) m)

abbrev from_other : ℕ → ℕ → ℕ → List Cmd
from_other c j m = cmd.Clear 1 ∷ from_free c j m

abbrev from_drop : ℕ → ℕ → ℕ → List Cmd
from_drop c j m = cmd.Clear 0 ∷ from_other c j m

abbrev from_read : ℕ → ℕ → ℕ → List Cmd
from_read c j m = cmd.Read 0 ∷ from_drop c j m

abbrev from_hget : ℕ → ℕ → ℕ → List Cmd
from_hget c j m = cmd.HGet 1 0 ∷ from_read c j m

abbrev from_val : ℕ → ℕ → ℕ → List Cmd
from_val c j m = cmd.Val 0 j ∷ from_hget c j m

abbrev pub left_by : ℕ → Line → ℕ → ℕ → List Cmd
left_by c news j m = rounds_from c j m
left_by c hnews j m = cmd.HNew 0 (make_of_round j) 0 ∷ from_val c j m
left_by c vals j m = from_val c j m
left_by c hgets j m = from_hget c j m
left_by c reads j m = from_read c j m
left_by c drops j m = from_drop c j m
left_by c others j m = from_other c j m
left_by c frees j m = from_free c j m
left_by c collects j m = cmd.Collect (j % 3) ∷ rounds_from c (j + 1) m

abbrev pub left_at : ℕ → Index → List Cmd
left_at c p = left_by c p.line p.round p.left

-- where a caller is after a round: at a collection, or at the next round
abbrev pub after_round : Bool → ℕ → ℕ → Index
after_round true j m = record { line = collects; round = j; left = m; held = None }
after_round false j m = record { line = news; round = j + 1; left = m; held = None }

pub left_after_round : (c j m : ℕ) (b : Bool)
    → cond b (cmd.Collect (j % 3) ∷ []) [] ++ rounds_from c (j + 1) m ≡ left_at c (after_round b j m)
left_after_round c j m true = refl
left_after_round c j m false = refl

-- ---- what is counted at a position

-- the value that is written and not yet read
abbrev pub pending_by : Line → ℕ → ℕ
pending_by news j = 0
pending_by hnews j = 0
pending_by vals j = 0
pending_by hgets j = j
pending_by reads j = j
pending_by drops j = 0
pending_by others j = 0
pending_by frees j = 0
pending_by collects j = 0

abbrev pub pending : Index → ℕ
pending p = pending_by p.line p.round

-- the handle that is held
abbrev pub one_if_some : Option Slot → ℕ
one_if_some None = 0
one_if_some (Some slot) = 1

abbrev pub holding : Index → ℕ
holding p = one_if_some p.held

-- ---- what the state has for a caller at its position

-- register r0 references an object of this caller, whose value has the property V
pub record Owns (s : State) (c : ℕ) (V : ℕ → Type 0) : Type 0 where
  pub id : Id
  pub names : register_of s c 0 ≡ Some id
  pub own : id.0 / 2 ^ 32 ≡ c
  pub value : V (object_by_id s id).value

abbrev pub AnyValue : ℕ → Type 0
AnyValue v = Unit {0}

abbrev pub OwnsBy : State → ℕ → Line → ℕ → Type 0
OwnsBy s c news j = Unit {0}
OwnsBy s c hnews j = Owns s c AnyValue
OwnsBy s c vals j = Owns s c AnyValue
OwnsBy s c hgets j = Owns s c (λ v. v ≡ j)
OwnsBy s c reads j = Owns s c (λ v. v ≡ j)
OwnsBy s c drops j = Unit {0}
OwnsBy s c others j = Unit {0}
OwnsBy s c frees j = Unit {0}
OwnsBy s c collects j = Unit {0}

-- register h0 is empty from the end of a round until `hnew`
abbrev pub EmptyBy : Line → Option Slot → Type 0
EmptyBy news h = h ≡ None
EmptyBy hnews h = h ≡ None
EmptyBy vals h = Unit {0}
EmptyBy hgets h = Unit {0}
EmptyBy reads h = Unit {0}
EmptyBy drops h = Unit {0}
EmptyBy others h = Unit {0}
EmptyBy frees h = Unit {0}
EmptyBy collects h = h ≡ None

pub record IsAtIndex (s : State) (c : ℕ) (p : Index) : Type 0 where
  pub owns : OwnsBy s c p.line p.round
  pub held : handle_register_of s c 0 ≡ p.held
  pub empty : EmptyBy p.line p.held
  pub live : (x : Slot) → p.held ≡ Some x → IsSome (handle_at s x)

-- ---- what a step does for its caller, and what it leaves to the others

-- registers r0 and h0 of the other callers stay, and so do the values of their objects and the handles that
-- this caller does not hold
pub record Frame (s t : State) (c : ℕ) : Type 0 where
  pub registers : (d : ℕ) → (d ≡ c → ⊥) → register_of t d 0 ≡ register_of s d 0
  pub handle_registers : (d : ℕ) → (d ≡ c → ⊥) → handle_register_of t d 0 ≡ handle_register_of s d 0
  pub values : (d : ℕ) (id : Id) → (d ≡ c → ⊥) → register_of s d 0 ≡ Some id → id.0 / 2 ^ 32 ≡ d
      → (object_by_id t id).value ≡ (object_by_id s id).value
  pub live : (x : Slot) → (handle_register_of s c 0 ≡ Some x → ⊥) → IsSome (handle_at s x)
      → IsSome (handle_at t x)

-- all callers are at their positions, no two of them hold the same slot, and there is room for all `new` to
-- come
abbrev pub nowhere : Index
nowhere = record { line = news; round = 0; left = 0; held = None }

abbrev pub at : List Index → ℕ → Index
at indexes c = get_or indexes c nowhere

abbrev pub left_of : Index → ℕ
left_of p = p.left

pub record Fits (s : State) (indexes : List Index) : Type 0 where
  pub four : length indexes ≡ 4
  pub well : IsWellFormed load_numbers s
  pub room : total_size s + 10 * sum_by left_of indexes ≤ 120000
  pub at_index : (c : ℕ) → c < 4 → IsAtIndex s c (at indexes c)
  pub apart : (b c : ℕ) → b < 4 → c < 4 → (b ≡ c → ⊥) → (x : Slot) → (at indexes b).held ≡ Some x
      → (at indexes c).held ≡ Some x → ⊥
