-- What words come to, by what the command made of them.
use Rattle.hd_run.proofs.Basics.{App, ArgMatches, Command, Err, FailsBy, Fault, GivesNumbers, Global, HasKind, HasMatchesOf, IfErr, IfOk, IsErrAnd, IsFaultOfWords, IsParsedFrom, IsRefusal, List, None, Ok, Option, Request, Result, Some, String, ap, app_of, asked_by, fault_of, found_of, inl, inr, is_simple, is_simple_and_free, kind_of, map, matches_of, program, refl, request_of, request_or_usage, string_bytes, subst, sym, true, ◌∙◌, ◌≡◌}
use Rattle.clap.specs.{Words.rows_of, declared.error.Error.Error}
use Rattle.hd_run.proofs.{MatchRequests.valid_words, MatchRequests.invalid_words, OptionLimits.gives_numbers}

simple : is_simple program ≡ true
simple = refl

free : is_simple_and_free program ≡ true
free = refl

-- what is asked for, or that nothing is
usage_value : (asked : Option Request) → IfOk (request_or_usage asked) (λ r. Some r ≡ asked)
usage_value None = tt
usage_value (Some r) = refl

usage_fault : (asked : Option Request) → IfErr (request_or_usage asked) (IsFaultOfWords asked)
usage_fault None = inr (refl, refl)
usage_fault (Some r) = tt

module _ (c : Command) (app : app_of c ≡ program) (words : List (String Global)) where
  abbrev AreKinds : Result ArgMatches Error → Type 0
  AreKinds taken = is_simple_and_free (app_of c) ≡ true
      → FailsBy (fault_of (app_of c) (map string_bytes words)) taken

  abbrev AreMatches : Result ArgMatches Error → Type 0
  AreMatches taken = IfOk taken (HasMatchesOf (app_of c) (map string_bytes words))

  -- what is returned is what the matches ask for, or the refusal of an error
  abbrev IsRequestOf : Result ArgMatches Error → Result Request Fault → Type 0
  IsRequestOf taken answer = IfOk taken (λ m. answer ≡ request_or_usage (asked_by (rows_of (found_of m))))
      × IfErr taken (λ e. IsErrAnd answer (IsRefusal (kind_of e)))

  is_free : is_simple_and_free (app_of c) ≡ true
  is_free = ap is_simple_and_free app ∙ free

  pub numbers : (taken : Result ArgMatches Error) → IfOk taken (IsParsedFrom c)
      → IfOk taken (λ m. GivesNumbers (found_of m))
  numbers (Ok m) parsed = gives_numbers c m parsed app
  numbers (Err e) parsed = tt

  -- what the matches ask for is what the words ask for
  asks : (m : ArgMatches) → AreKinds (Ok m) → AreMatches (Ok m)
      → asked_by (rows_of (found_of m)) ≡ request_of words
  asks m kinds matches =
      valid_words words (rows_of (found_of m))
      (ap (λ (a : App). fault_of a (map string_bytes words)) (sym app) ∙ kinds is_free)
      ((matches (ap is_simple app ∙ simple)).0 ∙ ap (λ (a : App). matches_of a (map string_bytes words)) app)

  pub value : (taken : Result ArgMatches Error) (answer : Result Request Fault) → AreKinds taken
      → AreMatches taken → IsRequestOf taken answer → IfOk answer (λ r. Some r ≡ request_of words)
  value (Ok m) answer kinds matches says =
      subst (λ (r : Result Request Fault). IfOk r (λ q. Some q ≡ request_of words)) (sym says.0)
      (subst (λ (asked : Option Request). IfOk (request_or_usage asked) (λ q. Some q ≡ request_of words))
      (sym (asks m kinds matches)) (usage_value (request_of words)))
  value (Err e) (Ok r) kinds matches says = absurd says.1
  value (Err e) (Err f) kinds matches says = tt

  pub fault : (taken : Result ArgMatches Error) (answer : Result Request Fault) → AreKinds taken
      → AreMatches taken → IsRequestOf taken answer → IfErr answer (IsFaultOfWords (request_of words))
  fault (Ok m) answer kinds matches says =
      subst (λ (r : Result Request Fault). IfErr r (IsFaultOfWords (request_of words))) (sym says.0)
      (subst (λ (asked : Option Request). IfErr (request_or_usage asked) (IsFaultOfWords (request_of words)))
      (sym (asks m kinds matches)) (usage_fault (request_of words)))
  fault (Err e) (Ok r) kinds matches says = tt
  fault (Err e) (Err f) kinds matches says =
      let has = subst (λ (a : App). HasKind (fault_of a (map string_bytes words)) e) app (kinds is_free) in
      elim says.1 [
        | inl (memory, want) ↦ inl memory
        | inr (usage, other) ↦ inr (usage, sym (invalid_words words (kind_of e) has other))
      ]
