-- What is known after some lines of a text.
use Rattle.std.specs.Prelude.{ℕ, Bool, List, refl}
use Rattle.std.specs.Coded.{Coded, code_by, coded×, coded_ℕ, coded_bool, coded_list}
use Rattle.hd_model.specs.declared.command.Cmd.{Cmd}
use Rattle.hd_model.specs.contracts.command.Cmd as cmd_contract
use Rattle.hd_model.specs.State.{Numbers, State}
use Rattle.hd_model.specs.Code.{numbers_code, state_code}
use Rattle.hd_audit.specs.declared.lines.Progress.{Progress}

-- the numbers of the run, the state that the lines lead to, the commands of each caller, how many of them
-- each has done, how many all have left, the collections so far, whether the end line was among the lines,
-- and the bytes after them
pub record Known : Type 0 where
  pub numbers : Numbers
  pub state : State
  pub lists : List (List Cmd)
  pub done : List ℕ
  pub left : ℕ
  pub collections : ℕ
  pub ended : Bool
  pub rest : List ℕ

abbrev pub known_code : Coded Known
known_code =
    code_by (Numbers × (State × (List (List Cmd) × (List ℕ × (ℕ × (ℕ × (Bool × List ℕ)))))))
    (coded× numbers_code (coded× state_code (coded× (coded_list (coded_list cmd_contract.the_row.coded))
    (coded× (coded_list coded_ℕ) (coded× coded_ℕ (coded× coded_ℕ
    (coded× coded_bool (coded_list coded_ℕ))))))))
    (λ k. (k.numbers, (k.state, (k.lists, (k.done, (k.left, (k.collections, (k.ended, k.rest))))))))
    (λ p. record {
      numbers = p.0;
      state = p.1.0;
      lists = p.1.1.0;
      done = p.1.1.1.0;
      left = p.1.1.1.1.0;
      collections = p.1.1.1.1.1.0;
      ended = p.1.1.1.1.1.1.0;
      rest = p.1.1.1.1.1.1.1;
    })
    (λ _. refl)

-- what a judge knows that has some lines behind it
abbrev pub known_of : List (List Cmd) → Progress → Bool → List ℕ → Known
known_of lists j ended rest = record {
  numbers = j.machine.numbers;
  state = j.machine.state;
  lists = lists;
  done = j.done.items;
  left = j.left;
  collections = j.collections;
  ended = ended;
  rest = rest;
}
