-- The least broken sector inside runs.
use Rattle.std.proofs.Common.{◌≡◌, ℕ, ◌+◌, ◌*◌, ◌<◌, ◌≤◌, ◌%◌, Bool, true, false, ◌&&◌, ◌||◌, inl, inr, List, [], ◌∷◌, get_or, drop, drop-cons, add-one, refl, sym, ap, ◌∙◌, subst, arith}
use Rattle.std.specs.Prelude.{Option, Some, None, is_some, nat_le, nat_lt, length}
use Rattle.std.specs.List.{list_any}
use Rattle.std.proofs.lemmas.Bool.{or_cases, or_left, or_right}
use Rattle.std.proofs.lemmas.Bool.Decides.{nat_tests}
use Rattle.std.proofs.lemmas.List.Folds.{list_any_at}
use Rattle.accounts.specs.Broken.{is_broken}
use Rattle.accounts.specs.Context.{Context}
use Rattle.accounts.specs.Kinds.{sector}
use Rattle.span_index.specs.declared.judge.Walks.{Walks}
use Rattle.span_index.specs.declared.span.Run.{Run}
use Rattle.span_index.specs.declared.span.Span.{Span}
use Rattle.span_index.specs.Judging.{AreBeginning, AreBegun, AreCovered, ArePassing, AreReached, AreStill, AreWalked, passed}
use Rattle.span_index.specs.Sectors.{AreRunsFrom, HasEach, IsFirstBad, IsRun, Judges, is_bad, is_inside, times_of_span}
use Rattle.span_index.specs.Spans.{Table, end_of}
use Rattle.span_index.proofs.JudgeLaws.{bad_is, later_walks, passed_most, still_here}
use Rattle.verdict.proofs.Truth.{and_left, and_right, and_true, or_with_false}

-- ---- one run

-- The search of a run has come to an address.
pub record IsSearching (context : Context) (t : Table) (xs : List Span) (low : ℕ) (run : Run) (at : ℕ) (old walks : Walks)
    (before now : ℕ) : Type 0 where
  pub walked : AreWalked context t xs low at walks
  pub begun : AreBegun walks
  pub from : run.from ≤ at
  pub until : at ≤ run.until
  pub at_sector : at % 4096 ≡ 0
  pub none : (later : ℕ) → later % 4096 ≡ 0 → run.from ≤ later → later < at → is_bad context xs later ≡ false
  pub looks : (each : List Span) → HasEach t each → (runs : List Run) → AreCovered runs low run.until
      → now + passed runs old each ≤ before + passed runs walks each

inside_is : (run : Run) (a : ℕ) → is_inside (run ∷ []) a ≡ true → (run.from ≤ a) × (a < run.until)
inside_is run a e =
    let both : (nat_le run.from a && nat_lt a run.until) ≡ true = or_with_false _ e in
    let x : nat_le run.from a ≡ true = and_left _ _ both in
    let y : nat_lt a run.until ≡ true = and_right (nat_le run.from a) _ both in
    (grind (arith, nat_tests), grind (arith, nat_tests))

is_in : (run : Run) (a : ℕ) → run.from ≤ a → a < run.until → is_inside (run ∷ []) a ≡ true
is_in run a from until =
    let x : nat_le run.from a ≡ true = grind (arith, nat_tests) in
    let y : nat_lt a run.until ≡ true = grind (arith, nat_tests) in
    ap (λ b. b || false) (and_true _ _ x y)

module _ (context : Context) (t : Table) (xs : List Span) (low : ℕ) (run : Run) (at : ℕ) (old walks new : Walks) (before mid now : ℕ)
    (was : IsSearching context t xs low run at old walks before mid) (more : at < run.until)
    (passing : ArePassing context t xs low at walks new mid now) where
  pub looked : (each : List Span) → HasEach t each → (runs : List Run) → AreCovered runs low run.until
      → now + passed runs old each ≤ before + passed runs new each
  looked each has runs covered =
      let a = was.looks each has runs covered in
      let b = passing.looks each has runs run.until more covered in
      omega (arith, a, b)

  module _ (broken : Bool) (is : (sums : ℕ → ℕ) → AreReached at new sums → broken ≡ is_broken (sector at) sums) where
    pub search_on : broken ≡ false → (next : ℕ) → at < next → next ≤ run.until → next % 4096 ≡ 0
        → ((later : ℕ) → later % 4096 ≡ 0 → at ≤ later → later < next → AreStill at later new)
        → IsSearching context t xs low run next old new before now
    search_on fine next after most at_sector still = record {
      walked = later_walks context t xs low at next new (omega arith) passing.walked;
      begun = passing.begun;
      from = let from : run.from ≤ at = was.from in omega arith;
      until = most;
      at_sector = at_sector;
      none = λ later is_sector up under.
          elim (nat_lt later at) as (λ b. nat_lt later at ≡ b → is_bad context xs later ≡ false) [
            | true ↦ λ e. was.none later is_sector up (grind (arith, nat_tests))
            | false ↦ λ e.
                let here : at ≤ later = grind (arith, nat_tests) in
                bad_is context t xs low at later new passing.walked passing.begun (still later is_sector here under) is_sector here broken is ∙ fine
          ] refl;
      looks = looked;
    }

    pub found : broken ≡ true → IsFirstBad (is_bad context xs) (run ∷ []) (Some at)
    found bad = (
      was.at_sector,
      is_in run at was.from more,
      bad_is context t xs low at at new passing.walked passing.begun (still_here at new passing.past) was.at_sector (omega arith) broken is ∙ bad,
      λ address at_sector inside under. was.none address at_sector ((inside_is run address inside).0) under,
    )

-- ---- all runs

-- The search of some runs has come to what is left of them: the answer for these is the answer for all.
pub record IsJudging (context : Context) (t : Table) (xs : List Span) (all left : List Run) (done : ℕ) (walks : Walks) (before now : ℕ) : Type 0 where
  pub start : ℕ
  pub runs : AreRunsFrom start left
  pub low : ℕ
  pub walked : AreWalked context t xs low start walks
  pub same : (answer : Option ℕ) → IsFirstBad (is_bad context xs) left answer → IsFirstBad (is_bad context xs) all answer
  pub looks : (each : List Span) → HasEach t each → now ≤ before + passed all walks each + 3 * done

pub judge_begins : (context : Context) (t : Table) (xs : List Span) (runs : List Run) (walks : Walks) (before : ℕ)
    → AreRunsFrom 0 runs → AreWalked context t xs 0 0 walks → IsJudging context t xs runs runs 0 walks before before
judge_begins context t xs runs walks before are walked = record {
  start = 0;
  runs = are;
  low = 0;
  walked = walked;
  same = λ answer is. is;
  looks = λ each has. omega arith;
}

-- the runs behind an address have no sector before it
inside_behind : (start : ℕ) (runs : List Run) (a : ℕ) → AreRunsFrom start runs → a < start → is_inside runs a ≡ false
inside_behind start [] a are up = refl
inside_behind start (run ∷ runs) a are up =
    let from : start ≤ run.from = are.0 in
    let some : run.from < run.until = are.1.2 in
    let out : nat_le run.from a ≡ false = grind (arith, nat_tests) in
    ap (λ b. (b && nat_lt a run.until) || is_inside runs a) out ∙ inside_behind run.until runs a are.2 (omega arith)

one_run : (run : Run) (a : ℕ) → (nat_le run.from a && nat_lt a run.until) ≡ true → is_inside (run ∷ []) a ≡ true
one_run run a e = or_left _ false e

module _ (bad : ℕ → Bool) (run : Run) (runs : List Run) where
  -- the answer for what follows a run without a broken sector is the answer for both
  first_later : IsFirstBad bad (run ∷ []) None → (answer : Option ℕ) → IsFirstBad bad runs answer → IsFirstBad bad (run ∷ runs) answer
  first_later none None is = λ a at_sector inside.
      elim (or_cases (nat_le run.from a && nat_lt a run.until) (is_inside runs a) inside) [
        | inl here ↦ none a at_sector (one_run run a here)
        | inr later ↦ is a at_sector later
      ]
  first_later none (Some least) is = (
    is.0,
    or_right (nat_le run.from least && nat_lt least run.until) (is_inside runs least) is.1,
    is.2,
    λ a at_sector inside under.
        elim (or_cases (nat_le run.from a && nat_lt a run.until) (is_inside runs a) inside) [
          | inl here ↦ none a at_sector (one_run run a here)
          | inr later ↦ is.3 a at_sector later under
        ],
  )

  -- the first broken sector of the first run is that of all
  first_here : (start : ℕ) → AreRunsFrom start (run ∷ runs) → (least : ℕ) → IsFirstBad bad (run ∷ []) (Some least)
      → IsFirstBad bad (run ∷ runs) (Some least)
  first_here start are least is = (
    is.0,
    or_left (nat_le run.from least && nat_lt least run.until) (is_inside runs least) (or_with_false _ is.1),
    is.2,
    λ a at_sector inside under.
        elim (or_cases (nat_le run.from a && nat_lt a run.until) (is_inside runs a) inside) [
          | inl here ↦ is.3 a at_sector (one_run run a here) under
          | inr later ↦ absurd (
              let in_run = inside_is run least is.1 in
              let before : least < run.until = in_run.1 in
              let out = inside_behind run.until runs a are.2 (omega arith) in
              cc (out, later))
        ],
  )

abbrev pub run_at : List Run → ℕ → Run
run_at runs i = get_or runs i (record { from = 0; until = 0 })

pub from_itself : (run : Run) → run.from ≤ run.from
from_itself run = omega arith

pub left_from : (runs : List Run) (i : ℕ) → i < length runs → drop i runs ≡ run_at runs i ∷ drop (i + 1) runs
left_from runs i more = drop-cons runs i (record { from = 0; until = 0 }) more ∙ ap (λ n. run_at runs i ∷ drop n runs) (sym (add-one i))

pub among_at : (runs : List Run) (i : ℕ) → i < length runs → (test : Run → Bool) → test (run_at runs i) ≡ true → list_any test runs ≡ true
among_at runs i more test is = list_any_at test runs i (record { from = 0; until = 0 }) more is

-- what has a byte of a run of some has one of these
covered_by : (all : List Run) (run : Run) → ((test : Run → Bool) → test run ≡ true → list_any test all ≡ true) → AreCovered all run.from run.until
covered_by all run among = λ span some ends begins.
    among (λ r. nat_lt span.first r.until && (nat_lt r.from (end_of span) && nat_lt 0 span.sectors)) (and_true _ _ begins (and_true _ _ ends some))

module _ (context : Context) (t : Table) (xs : List Span) (all left : List Run) (done : ℕ) (walks : Walks) (before now : ℕ)
    (was : IsJudging context t xs all left done walks before now) (run : Run) (rest : List Run) (left_is : left ≡ run ∷ rest) where
  here : AreRunsFrom was.start (run ∷ rest)
  here = subst (AreRunsFrom was.start) left_is was.runs

  pub is_run : IsRun run
  is_run = here.1

  module _ (begun : Walks) (mid : ℕ) (beginning : (context : Context) (low from : ℕ) → from ≤ run.from → AreWalked context t xs low from walks
      → AreBeginning context t xs run.from walks begun now mid) where
    pub has_begun : AreBeginning context t xs run.from walks begun now mid
    has_begun = beginning context was.low was.start here.0 was.walked

    module _ (next : Walks) (after : ℕ) (among : (test : Run → Bool) → test run ≡ true → list_any test all ≡ true)
        (looks : (each : List Span) → HasEach t each → (runs : List Run) → AreCovered runs run.from run.until
        → after + passed runs begun each ≤ mid + passed runs next each) where
      looked_on : (each : List Span) → HasEach t each → after ≤ before + passed all next each + 3 * (done + 1)
      looked_on each has =
          let a = looks each has all (covered_by all run among) in
          let b = has_begun.looks each all in
          let c = was.looks each has in
          omega (arith, a, b, c)

      judge_on : AreWalked context t xs run.from run.until next → IsFirstBad (is_bad context xs) (run ∷ []) None
          → IsJudging context t xs all rest (done + 1) next before after
      judge_on walked none = record {
        start = run.until;
        runs = here.2;
        low = run.from;
        walked = walked;
        same = λ answer is.
            was.same answer (subst (λ l. IsFirstBad (is_bad context xs) l answer) (sym left_is)
            (first_later (is_bad context xs) run rest none answer is));
        looks = looked_on;
      }

      judged_bad : ((span : Span) → times_of_span xs span ≡ t span) → done < length all → (least : ℕ)
          → IsFirstBad (is_bad context xs) (run ∷ []) (Some least) → Judges t context all (Some least) before after
      judged_bad stand more least is = record {
        spans = xs;
        all = stand;
        first = was.same (Some least) (subst (λ l. IsFirstBad (is_bad context xs) l (Some least)) (sym left_is)
            (first_here (is_bad context xs) run rest was.start here least is));
        looks = λ each has.
            let a = looked_on each has in
            let b = passed_most all next each in
            omega (arith, a, b);
      }

      pub judge_by : AreWalked context t xs run.from run.until next → (answer : Option ℕ) → is_some answer ≡ false
          → IsFirstBad (is_bad context xs) (run ∷ []) answer → IsJudging context t xs all rest (done + 1) next before after
      judge_by walked None e is = judge_on walked is
      judge_by walked (Some least) e is = absurd (cc)

      pub judged_by : ((span : Span) → times_of_span xs span ≡ t span) → done < length all → (answer : Option ℕ) → is_some answer ≡ true
          → IsFirstBad (is_bad context xs) (run ∷ []) answer → Judges t context all answer before after
      judged_by stand more None e is = absurd (cc)
      judged_by stand more (Some least) e is = judged_bad stand more least is

pub judged_none : (context : Context) (t : Table) (xs : List Span) (all left : List Run) (done : ℕ) (walks : Walks) (before now : ℕ)
    → IsJudging context t xs all left done walks before now → left ≡ [] → ((span : Span) → times_of_span xs span ≡ t span) → done ≤ length all
    → Judges t context all None before now
judged_none context t xs all left done walks before now was left_is stand most = record {
  spans = xs;
  all = stand;
  first = was.same None (subst (λ l. IsFirstBad (is_bad context xs) l None) (sym left_is) (λ a at_sector inside. absurd (cc)));
  looks = λ each has.
      let a = was.looks each has in
      let b = passed_most all walks each in
      omega (arith, a, b);
}
