-- What the command finds for its options: numbers within their limits.
use Rattle.hd_run.proofs.Basics.{Accepts, All, All-get_or, App, ArgMatches, BLOCKS, Bool, Command, GivesNumber, GivesNumbers, HEAP, IsAuto, IsParsedFrom, IsUnsignedIn, LEAST_HEAP, List, MOST_ROUNDS, None, Option, Rule, Some, Text, [], ap, app_of, arith, codes, eqb, eqb-true, false, get_or-map, inl, inr, length, length-map, map, matched_of, one_text, option_map, program, read_as, reading_of, refl, rule_of, shape_of, slice_get, slice_index_or, subst, suc, sym, true, zero, ℕ, ◌<◌, ◌∙◌, ◌∷◌, ◌≡◌}
use Rattle.std.specs.{Borrow.Bor, Str.bytes_eq}
use Rattle.std.proofs.lemmas.Slice.Eq.{bytes_eq-Decides}
use Rattle.clap.specs.Facts.{Entry, EntryPasses, HasReading, PassesArg, args_of, groups_of, parser_of, parser_of_value}
use Rattle.clap.specs.{Matches.found_of, declared.builder.arg.Arg.Arg, declared.builder.command.Command.TheViews.out-Command, declared.builder.value_parser.Reading.Reading, declared.builder.value_parser.Reading.TheVariants.AsWritten, declared.builder.value_parser.ValueParser.ValueParser, declared.builder.value_parser.ValueParser.TheVariants.Unsigned, declared.parser.matches.MatchedArg.MatchedArg}
use Rattle.clap.proofs.CallerLemmas.{entry_by_id, same_rules_by_id}
use Rattle.clap.proofs.SimpleLemmas.{all_simple, plain_fields, simple_groups}

-- the first value of an entry, each value of which has a fact, has it
first_has : (P : Text → Type 0) (vs : List (Bor Text)) (t : Text) → All (λ v. P v.now) vs
    → option_map (λ s. read_as AsWritten s.now) (slice_get vs 0) ≡ Some t → P t
first_has P [] t all is = cc
first_has P (v ∷ vs) t all is =
    let same : v.now ≡ t = cc in
    subst P same (All-get_or (λ w. P w.now) (v ∷ vs) 0 v (omega arith) all)

-- two texts are not the same where a test says so
apart : (s t : Text) → bytes_eq s t ≡ false → s ≡ t → ⊥
apart s t differ same =
    let equal : bytes_eq s t ≡ true = (bytes_eq-Decides s t).1 same in
    cc

-- the names of the mode and of the options
abbrev names : List Text
names = codes "mode" ∷ codes "heap" ∷ codes "blocks" ∷ codes "rounds" ∷ codes "slots" ∷ []

-- a test of five indices that one passes alone
alone : (test : ℕ → Bool) (k : ℕ) → test 0 ≡ eqb 0 k → test 1 ≡ eqb 1 k → test 2 ≡ eqb 2 k → test 3 ≡ eqb 3 k
    → test 4 ≡ eqb 4 k → (j : ℕ) → j < 5 → test j ≡ true → j ≡ k
alone test k a b c d e zero lt is = eqb-true 0 k (sym a ∙ is)
alone test k a b c d e (suc zero) lt is = eqb-true 1 k (sym b ∙ is)
alone test k a b c d e (suc (suc zero)) lt is = eqb-true 2 k (sym c ∙ is)
alone test k a b c d e (suc (suc (suc zero))) lt is = eqb-true 3 k (sym d ∙ is)
alone test k a b c d e (suc (suc (suc (suc zero)))) lt is = eqb-true 4 k (sym e ∙ is)
alone test k a b c d e (suc (suc (suc (suc (suc j))))) lt is = absurd (omega arith)

name_of_rule : (j : ℕ) (r : Rule) → j < 5 → (slice_index_or program.top.rules j r).id ≡ slice_index_or names
    j []
name_of_rule zero r lt = refl
name_of_rule (suc zero) r lt = refl
name_of_rule (suc (suc zero)) r lt = refl
name_of_rule (suc (suc (suc zero))) r lt = refl
name_of_rule (suc (suc (suc (suc zero)))) r lt = refl
name_of_rule (suc (suc (suc (suc (suc j))))) r lt = absurd (omega arith)

module _ (old : Command) (m : ArgMatches) (p : IsParsedFrom old m) (app : app_of old ≡ program) where
  rules : map rule_of (args_of old) ≡ program.top.rules
  rules = ap (λ (a : App). a.top.rules) app

  count : length (args_of old) ≡ 5
  count = let same = length-map (args_of old) rule_of in
      let five : length program.top.rules ≡ 5 = refl in
      omega (arith, same, ap length rules, five)

  rule_at : (k : ℕ) (d : Arg) → k < 5
      → rule_of (slice_index_or (args_of old) k d) ≡ slice_index_or program.top.rules k (rule_of d)
  rule_at k d lt = sym (get_or-map rule_of (args_of old) k d (rule_of d) (omega (arith, count)))
      ∙ ap (λ (rs : List Rule). slice_index_or rs k (rule_of d)) rules

  name_at : (k : ℕ) (d : Arg) → k < 5 → (slice_index_or (args_of old) k d).id.now ≡ slice_index_or names k []
  name_at k d lt = ap (λ (r : Rule). r.id) (rule_at k d lt) ∙ name_of_rule k (rule_of d) lt

  simple : all_simple (shape_of old).rules ≡ true
  simple = ap (λ (a : App). all_simple a.top.rules) app

  no_groups : groups_of p.built ≡ []
  no_groups = (p.from.same_groups (simple_groups old simple)).1
      ∙ (plain_fields old (ap (λ (a : App). a.top.is_plain) app)).groups

  local : (out-Command p.built).has_globals ≡ false
  local = p.from.globals ∙ (plain_fields old (ap (λ (a : App). a.top.is_plain) app)).globals

  -- the option at a position, with a number of these limits
  module _ (k : ℕ) (name : Text) (least most : ℕ) (lt : k < 5)
      (named : slice_index_or names k [] ≡ name) (some : name ≡ [] → ⊥)
      (limits : (r : Rule) → (slice_index_or program.top.rules k r).parser ≡ Some (Unsigned least most))
      (unique : (j : ℕ) → j < 5 → bytes_eq (slice_index_or names j []) name ≡ true → j ≡ k)
      (own : (bytes_eq name (codes "help") ≡ false) × (bytes_eq name (codes "version") ≡ false)) where
    id_at : (d : Arg) → (slice_index_or (args_of old) k d).id.now ≡ name
    id_at d = name_at k d lt ∙ named

    only : (d : Arg) (j : ℕ) (e : Arg) → j < length (args_of old)
        → bytes_eq (slice_index_or (args_of old) j e).id.now (slice_index_or (args_of old) k d).id.now ≡ true
        → j ≡ k
    only d j e low same =
        let five : j < 5 = omega (arith, count) in
        unique j five (subst (λ (t : Text). bytes_eq t name ≡ true) (name_at j e five)
        (subst (λ (t : Text). bytes_eq (slice_index_or (args_of old) j e).id.now t ≡ true) (id_at d) same))

    not_auto : (d : Arg) → IsAuto (slice_index_or (args_of old) k d) → ⊥
    not_auto d (inl help) = apart _ _ own.0 (sym (id_at d) ∙ help)
    not_auto d (inr version) = apart _ _ own.1 (sym (id_at d) ∙ version)

    -- an argument of the built command with the name of the option is the option
    parser_at : (j : ℕ) (x : Arg) → j < length (args_of p.built) → slice_index_or (args_of p.built) j x ≡ x
        → bytes_eq x.id.now name ≡ true → parser_of x ≡ Unsigned least most
    parser_at j x high at same =
        let as_id = subst (λ (t : Text). bytes_eq x.id.now t ≡ true) (sym (id_at x)) same in
        let kept = same_rules_by_id old m p k x (omega (arith, count)) (only x) (not_auto x) j x high at
        as_id in
        let given : (slice_index_or (args_of old) k x).value_parser ≡ Some (Unsigned least most) =
        ap (λ (r : Rule). r.parser) (rule_at k x lt) ∙ limits (rule_of x) in
        ap parser_of_value (kept.parser (Unsigned least most) given)

    passes : (v : Text) → PassesArg p.built name v → IsUnsignedIn least most v
    passes v pass = subst (λ (q : ValueParser). Accepts pass.1.ignore_case q v)
        (parser_at pass.0 pass.1 pass.2 pass.3 pass.4.0) pass.4.1

    reads : (r : Reading) → HasReading p.built name r → r ≡ AsWritten
    reads r any = sym any.4.1 ∙ ap reading_of (parser_at any.0 any.1 any.2 any.3 any.4.0)

    in_entry : (x : MatchedArg) (e : Entry) → e.1 ≡ x → e.0.now ≡ name → EntryPasses p.built e → (t : Text)
        → option_map (λ s. read_as x.reading s.now) (slice_get x.vals.items 0) ≡ Some t
        → IsUnsignedIn least most t
    in_entry x e is key pass t first =
        let no_group : e.1.is_group ≡ true → ⊥ = λ g. elim (pass.3 g) [
          | inl empty ↦ some (sym key ∙ empty)
          | inr lots ↦
              let bad : 0 < 0 = rw no_groups at lots in
              absurd (omega arith)
        ] in
        let all : All (λ v. PassesArg p.built name v.now) x.vals.items = elim pass.0 [
          | inl g ↦ absurd (no_group g)
          | inr vals ↦ subst (λ (w : Text). All (λ v. PassesArg p.built w v.now) x.vals.items) key
              (rw is at vals)
        ] in
        let written : x.reading ≡ AsWritten = elim pass.4 [
          | inl g ↦ absurd (no_group g)
          | inr how ↦ ap (λ (y : MatchedArg). y.reading) (sym is)
              ∙ reads e.1.reading (subst (λ (w : Text). HasReading p.built w e.1.reading) key how)
        ] in
        first_has (IsUnsignedIn least most) x.vals.items t (λ i d low. passes _ (all i d low))
        (rw written at first)

    given : GivesNumber (found_of m) name least most
    given t found = go (matched_of (found_of m) name) refl found
      where
        go : (o : Option MatchedArg) → matched_of (found_of m) name ≡ o → one_text (found_of m) name ≡ Some t
            → IsUnsignedIn least most t
        go None is h =
            let none : Option Text = None in
            let bad : none ≡ Some t = rw is at h in
            cc
        go (Some x) is h =
            let values = (p.parsed local).values in
            let e = entry_by_id (EntryPasses p.built) (found_of m).entries.items name x values is in
            in_entry x e.0 e.1 ((bytes_eq-Decides e.0.0.now name).0 e.2) e.3 t (rw is at h)

  pub gives_numbers : GivesNumbers (found_of m)
  gives_numbers = record {
    heap = given 1 (codes "heap") LEAST_HEAP HEAP (omega arith) refl (apart _ _ refl) (λ r. refl)
        (alone (λ j. bytes_eq (slice_index_or names j []) (codes "heap")) 1 refl refl refl refl refl)
        (refl, refl);
    blocks = given 2 (codes "blocks") 1 BLOCKS (omega arith) refl (apart _ _ refl) (λ r. refl)
        (alone (λ j. bytes_eq (slice_index_or names j []) (codes "blocks")) 2 refl refl refl refl refl)
        (refl, refl);
    rounds = given 3 (codes "rounds") 1 MOST_ROUNDS (omega arith) refl (apart _ _ refl) (λ r. refl)
        (alone (λ j. bytes_eq (slice_index_or names j []) (codes "rounds")) 3 refl refl refl refl refl)
        (refl, refl);
  }
