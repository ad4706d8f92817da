-- The runs of spans, and runs that are one where they meet or touch.
use Rattle.std.proofs.Common.{◌≡◌, ℕ, suc, ◌+◌, ◌%◌, ◌<◌, ◌≤◌, ◌⊎◌, max, Bool, true, false, ◌&&◌, ◌||◌, List, [], ◌∷◌, ◌++◌, length, take, get_or, inl, inr, refl, ap, sym, ◌∙◌, subst, arith}
use Rattle.std.specs.Prelude.{Option, Some, None, IfSome, Result, Ok, Err, IfOk, nat_le, nat_lt, option_to_list}
use Rattle.std.specs.List.{All, Contains, list_any}
use Rattle.std.specs.List.Sorted.{IsNonDecreasingBy, IsPermutation}
use Rattle.std.proofs.lemmas.Bool.{and_from, and_parts, cases_lt, leb-true, le-leb, lt-ltb, ltb-true, or_cases, or_left, or_right}
use Rattle.std.proofs.lemmas.List.{get_or_default, length-append, take_more}
use Rattle.std.proofs.lemmas.List.Elements.{All-append, All-head, All-nil, All-push, All-tail, Contains-push_cases}
use Rattle.std.proofs.lemmas.List.Folds.{list_any-append, list_any_more}
use Rattle.std.proofs.lemmas.List.Sorted.{length_permutation, list_any-IsPermutation}
use Rattle.verdict.proofs.Truth.{or_with_false}
use Rattle.accounts.specs.Context.{Context}
use Rattle.span_index.specs.Sectors.{AreRunsFrom, IsRun, counts, has_sector, is_inside}
use Rattle.span_index.specs.declared.span.Run.{Run}
use Rattle.span_index.specs.declared.span.Span.{Span}
use Rattle.commit_laws.specs.Sectors.{AreInside, CountedInside}
use Rattle.commit_laws.specs.Sound.{IsWhole}
use Rattle.commit_judge.specs.Moves.{AreOfChanged, any_counted}

-- ---- addresses inside runs

abbrev covers : ℕ → Run → Bool
covers address run = nat_le run.from address && nat_lt address run.until

inside_left : (xs ys : List Run) (address : ℕ) → is_inside xs address ≡ true → is_inside (xs ++ ys) address ≡ true
inside_left xs ys address is = list_any-append (covers address) xs ys ∙ or_left _ _ is

inside_right : (xs ys : List Run) (address : ℕ) → is_inside ys address ≡ true → is_inside (xs ++ ys) address ≡ true
inside_right xs ys address is = list_any-append (covers address) xs ys ∙ or_right _ _ is

inside_parts : (xs ys : List Run) (address : ℕ) → is_inside (xs ++ ys) address ≡ true → (is_inside xs address ≡ true) ⊎ (is_inside ys address ≡ true)
inside_parts xs ys address is = or_cases _ _ (sym (list_any-append (covers address) xs ys) ∙ is)

inside_is : (run : Run) (address : ℕ) → is_inside (run ∷ []) address ≡ true → (run.from ≤ address) × (address < run.until)
inside_is run address is =
    let both = and_parts (nat_le run.from address) (nat_lt address run.until) (or_with_false _ is) in
    (leb-true run.from address both.0, ltb-true address run.until both.1)

is_in : (run : Run) (address : ℕ) → run.from ≤ address → address < run.until → is_inside (run ∷ []) address ≡ true
is_in run address from until = or_left _ false (and_from _ _ (le-leb run.from address from) (lt-ltb address run.until until))

-- ---- the runs of all spans

-- the addresses inside runs are inside others
abbrev pub StayInside : List Run → List Run → Type 0
StayInside runs others = (address : ℕ) → is_inside runs address ≡ true → is_inside others address ≡ true

pub runs_more : (now new : List Run) (some : Option Run) → All IsRun now → IfSome some IsRun → new ≡ now ++ option_to_list some → All IsRun new
runs_more now new some are is more = subst (λ l. All IsRun l) (sym more) (by some is)
  where
    by : (some : Option Run) → IfSome some IsRun → All IsRun (now ++ option_to_list some)
    by None is = All-append IsRun now [] are (All-nil IsRun)
    by (Some run) is = All-push IsRun now run are is

pub stay_more : (old now new : List Run) (some : Option Run) → StayInside old now → new ≡ now ++ option_to_list some → StayInside old new
stay_more old now new some stay more address is =
    subst (λ l. is_inside l address ≡ true) (sym more) (inside_left now (option_to_list some) address (stay address is))

pub inside_more : (spans : List Span) (i : ℕ) (d : Span) (now new : List Run) (some : Option Run) → i < length spans
    → (All IsWhole spans → AreInside now (take i spans))
    → (IsWhole (get_or spans i d) → (address : ℕ) → has_sector (get_or spans i d) address ≡ true → is_inside (option_to_list some) address ≡ true)
    → new ≡ now ++ option_to_list some → All IsWhole spans → AreInside new (take (i + 1) spans)
inside_more spans i d now new some inside so is more whole span address among has =
    subst (λ l. is_inside l address ≡ true) (sym more)
    (by (Contains-push_cases (take i spans) (get_or spans i d) span (subst (λ l. Contains l span) (take_more spans i d inside) among)))
  where
    by : Contains (take i spans) span ⊎ (get_or spans i d ≡ span) → is_inside (now ++ option_to_list some) address ≡ true
    by (inl early) = inside_left now (option_to_list some) address (so whole span address early has)
    by (inr here) =
        inside_right now (option_to_list some) address
        (is (whole i d inside) address (subst (λ s. has_sector s address ≡ true) (sym here) has))

-- the same of those that count in a context
pub counted_stays : (context : Context) (runs others : List Run) (spans : List Span) → StayInside runs others → CountedInside context runs spans
    → CountedInside context others spans
counted_stays context runs others spans stay are span address among counted has = stay address (are span address among counted has)

pub counted_more : (context : Context) (spans : List Span) (i : ℕ) (d : Span) (now new : List Run) (some : Option Run) → i < length spans
    → (All IsWhole spans → CountedInside context now (take i spans))
    → (IsWhole (get_or spans i d) → counts context (get_or spans i d) (get_or spans i d).sort ≡ true → (address : ℕ)
    → has_sector (get_or spans i d) address ≡ true → is_inside (option_to_list some) address ≡ true)
    → new ≡ now ++ option_to_list some → All IsWhole spans → CountedInside context new (take (i + 1) spans)
counted_more context spans i d now new some inside so is more whole span address among counted has =
    subst (λ l. is_inside l address ≡ true) (sym more)
    (by (Contains-push_cases (take i spans) (get_or spans i d) span (subst (λ l. Contains l span) (take_more spans i d inside) among)))
  where
    by : Contains (take i spans) span ⊎ (get_or spans i d ≡ span) → is_inside (now ++ option_to_list some) address ≡ true
    by (inl early) = inside_left now (option_to_list some) address (so whole span address early counted has)
    by (inr here) =
        inside_right now (option_to_list some) address
        (is (whole i d inside) (subst (λ (s : Span). counts context s s.sort ≡ true) (sym here) counted) address
        (subst (λ s. has_sector s address ≡ true) (sym here) has))

-- ---- few runs, with no other sectors

-- a list with one more, where there is one, is at most one longer
pub few_more : {X : Type 0} (now new : List X) (some : Option X) (old i : ℕ) → length now ≤ old + i → new ≡ now ++ option_to_list some
    → length new ≤ old + (i + 1)
few_more {X} now new some old i few more = by some (ap length more ∙ length-append now (option_to_list some))
  where
    by : (some : Option X) → length new ≡ length now + length (option_to_list some) → length new ≤ old + (i + 1)
    by None is = omega (arith, is, few)
    by (Some one) is = omega (arith, is, few)

-- of runs behind others each sector passes a test, or is one of the others
abbrev pub AddOnly : List Run → List Run → (ℕ → Bool) → Type 0
AddOnly old new has = (address : ℕ) → is_inside new address ≡ true → address % 4096 ≡ 0 → (is_inside old address || has address) ≡ true

pub only_more : (test : ℕ → Span → Bool) (spans : List Span) (i : ℕ) (d : Span) (old now new : List Run) (some : Option Run) → i < length spans
    → AddOnly old now (λ address. list_any (test address) (take i spans))
    → ((address : ℕ) → is_inside (option_to_list some) address ≡ true → address % 4096 ≡ 0 → test address (get_or spans i d) ≡ true)
    → new ≡ now ++ option_to_list some → AddOnly old new (λ address. list_any (test address) (take (i + 1) spans))
only_more test spans i d old now new some inside so is more address has whole =
    subst (λ (b : Bool). (is_inside old address || b) ≡ true) (sym (list_any_more (test address) spans i d inside))
    (by (inside_parts now (option_to_list some) address (subst (λ l. is_inside l address ≡ true) more has)))
  where
    early : (a b : Bool) → (is_inside old address || a) ≡ true → (is_inside old address || (a || b)) ≡ true
    early a b is = elim (or_cases (is_inside old address) a is) [
      | inl old_has ↦ or_left (is_inside old address) (a || b) old_has
      | inr some_has ↦ or_right (is_inside old address) (a || b) (or_left a b some_has)
    ]

    by : (is_inside now address ≡ true) ⊎ (is_inside (option_to_list some) address ≡ true)
        → (is_inside old address || (list_any (test address) (take i spans) || test address (get_or spans i d))) ≡ true
    by (inl first) = early (list_any (test address) (take i spans)) (test address (get_or spans i d)) (so address first whole)
    by (inr last) =
        or_right (is_inside old address) (list_any (test address) (take i spans) || test address (get_or spans i d))
        (or_right (list_any (test address) (take i spans)) (test address (get_or spans i d)) (is address last whole))

-- ---- runs that are one

-- of runs in order the last may end later, or another may follow
last_swapped : (start : ℕ) (runs : List Run) (run other : Run) → AreRunsFrom start (runs ++ run ∷ []) → run.from ≡ other.from → IsRun other
    → AreRunsFrom start (runs ++ other ∷ [])
last_swapped start [] run other are same is = (subst (λ n. start ≤ n) same are.0, is, tt)
last_swapped start (first ∷ runs) run other are same is = (are.0, are.1, last_swapped first.until runs run other are.2 same is)

last_followed : (start : ℕ) (runs : List Run) (run other : Run) → AreRunsFrom start (runs ++ run ∷ []) → run.until ≤ other.from → IsRun other
    → AreRunsFrom start ((runs ++ run ∷ []) ++ other ∷ [])
last_followed start [] run other are behind is = (are.0, are.1, (behind, is, tt))
last_followed start (first ∷ runs) run other are behind is = (are.0, are.1, last_followed first.until runs run other are.2 behind is)

last_is : (start : ℕ) (runs : List Run) (run : Run) → AreRunsFrom start (runs ++ run ∷ []) → IsRun run
last_is start [] run are = are.1
last_is start (first ∷ runs) run are = last_is first.until runs run are.2

-- a run that ends where the later of two does
abbrev pub joined : Run → Run → Run
joined run other = record { from = run.from; until = max run.until other.until }

joined_is : (run other : Run) → IsRun run → IsRun other → IsRun (joined run other)
joined_is run other is its =
    let low : run.from < run.until = is.2 in
    (is.0, whole (max_is run.until other.until), omega arith)
  where
    max_is : (a b : ℕ) → (max a b ≡ a) ⊎ (max a b ≡ b)
    max_is a b = grind arith

    whole : (max run.until other.until ≡ run.until) ⊎ (max run.until other.until ≡ other.until) → max run.until other.until % 4096 ≡ 0
    whole (inl same) = ap (λ n. n % 4096) same ∙ is.1
    whole (inr same) = ap (λ n. n % 4096) same ∙ its.1

-- Of runs by where they begin, the first and so many of the rest are merged into some and the last, which may still grow.
pub record AreMerged (runs rest : List Run) (i : ℕ) (some : List Run) (last : Run) : Type 0 where
  pub first : Run
  pub parts : runs ≡ first ∷ rest
  pub ascend : AreRunsFrom 0 (some ++ last ∷ [])
  pub behind : (k : ℕ) (d : Run) → i ≤ k → k < length rest → last.from ≤ (get_or rest k d).from
  pub inside : StayInside (first ∷ take i rest) (some ++ last ∷ [])
  pub only : StayInside (some ++ last ∷ []) (first ∷ take i rest)
  pub few : length some ≤ i
  pub fit : i ≤ length rest

-- where a run begins
abbrev begin : Run → ℕ
begin run = run.from

pub merged_first : (runs rest some : List Run) (first : Run) → runs ≡ first ∷ rest → All IsRun runs → IsNonDecreasingBy (λ (run : Run). run.from) runs
    → some ≡ [] → AreMerged runs rest 0 some first
merged_first runs rest some first parts are up none = record {
  first = first;
  parts = parts;
  ascend = subst (λ l. AreRunsFrom 0 (l ++ first ∷ [])) (sym none)
      (omega arith, All-head IsRun first rest (subst (λ l. All IsRun l) parts are), tt);
  behind = λ k d low inside. subst (λ l. IsNonDecreasingBy begin l) parts up 0 (suc k) d (omega arith) (omega arith);
  inside = λ address is. subst (λ l. is_inside (l ++ first ∷ []) address ≡ true) (sym none) is;
  only = λ address is. subst (λ l. is_inside (l ++ first ∷ []) address ≡ true) none is;
  few = subst (λ (l : List Run). length l ≤ 0) (sym none) (omega arith);
  fit = omega arith;
}

joined_inside : (first : Run) (rest : List Run) (i : ℕ) (d : Run) (address : ℕ) → i < length rest
    → (is_inside (first ∷ take i rest) address ≡ true) ⊎ (is_inside (get_or rest i d ∷ []) address ≡ true)
    → is_inside (first ∷ take (i + 1) rest) address ≡ true
joined_inside first rest i d address inside is =
    subst (λ l. is_inside (first ∷ l) address ≡ true) (sym (take_more rest i d inside)) (by is)
  where
    by : (is_inside (first ∷ take i rest) address ≡ true) ⊎ (is_inside (get_or rest i d ∷ []) address ≡ true)
        → is_inside ((first ∷ take i rest) ++ get_or rest i d ∷ []) address ≡ true
    by (inl early) = inside_left (first ∷ take i rest) (get_or rest i d ∷ []) address early
    by (inr late) = inside_right (first ∷ take i rest) (get_or rest i d ∷ []) address late

split_inside : (first : Run) (rest : List Run) (i : ℕ) (d : Run) (address : ℕ) → i < length rest
    → is_inside (first ∷ take (i + 1) rest) address ≡ true
    → (is_inside (first ∷ take i rest) address ≡ true) ⊎ (is_inside (get_or rest i d ∷ []) address ≡ true)
split_inside first rest i d address inside is =
    inside_parts (first ∷ take i rest) (get_or rest i d ∷ []) address
    (subst (λ l. is_inside (first ∷ l) address ≡ true) (take_more rest i d inside) is)

rest_is : (runs rest : List Run) (first : Run) (i : ℕ) (d : Run) → runs ≡ first ∷ rest → All IsRun runs → i < length rest → IsRun (get_or rest i d)
rest_is runs rest first i d parts are inside = All-tail IsRun first rest (subst (λ l. All IsRun l) parts are) i d inside

-- the next run meets or touches the last
pub merged_joined : (runs rest : List Run) (i : ℕ) (d : Run) (some : List Run) (last : Run) (until : ℕ) → i < length rest → All IsRun runs
    → (get_or rest i d).from ≤ last.until → until ≡ max last.until (get_or rest i d).until → AreMerged runs rest i some last
    → AreMerged runs rest (i + 1) some (record { from = last.from; until = until })
merged_joined runs rest i d some last until inside are meets is so =
    subst (λ n. AreMerged runs rest (i + 1) some (record { from = last.from; until = n })) (sym is) all
  where
    begins : last.from ≤ (get_or rest i d).from
    begins = so.behind i d (omega arith) inside

    here : (address : ℕ) → is_inside (last ∷ []) address ≡ true → is_inside (joined last (get_or rest i d) ∷ []) address ≡ true
    here address has =
        let at = inside_is last address has in
        let high : address < last.until = at.1 in
        is_in (joined last (get_or rest i d)) address at.0 (omega arith)

    there : (address : ℕ) → is_inside (get_or rest i d ∷ []) address ≡ true → is_inside (joined last (get_or rest i d) ∷ []) address ≡ true
    there address has =
        let at = inside_is (get_or rest i d) address has in
        let low : (get_or rest i d).from ≤ address = at.0 in
        let high : address < (get_or rest i d).until = at.1 in
        is_in (joined last (get_or rest i d)) address (omega arith) (omega arith)

    by : (address : ℕ) → (is_inside (so.first ∷ take i rest) address ≡ true) ⊎ (is_inside (get_or rest i d ∷ []) address ≡ true)
        → is_inside (some ++ joined last (get_or rest i d) ∷ []) address ≡ true
    by address (inl early) = elim (inside_parts some (last ∷ []) address (so.inside address early)) [
      | inl old ↦ inside_left some (joined last (get_or rest i d) ∷ []) address old
      | inr new ↦ inside_right some (joined last (get_or rest i d) ∷ []) address (here address new)
    ]
    by address (inr later) = inside_right some (joined last (get_or rest i d) ∷ []) address (there address later)

    -- an address of both is one of the last or of the next
    one : (address : ℕ) → is_inside (joined last (get_or rest i d) ∷ []) address ≡ true
        → (is_inside (last ∷ []) address ≡ true) ⊎ (is_inside (get_or rest i d ∷ []) address ≡ true)
    one address has =
        let at = inside_is (joined last (get_or rest i d)) address has in
        let low : last.from ≤ address = at.0 in
        let high : address < max last.until (get_or rest i d).until = at.1 in
        elim (cases_lt address last.until) [
          | inl under ↦ inl (is_in last address low under)
          | inr over ↦
              let here : (get_or rest i d).from ≤ address = omega (arith, over, meets) in
              let end : address < (get_or rest i d).until = omega (arith, over, high) in
              inr (is_in (get_or rest i d) address here end)
        ]

    early : (address : ℕ) → is_inside (some ++ last ∷ []) address ≡ true
        → (is_inside (so.first ∷ take i rest) address ≡ true) ⊎ (is_inside (get_or rest i d ∷ []) address ≡ true)
    early address has = inl (so.only address has)

    back : (address : ℕ) → (is_inside some address ≡ true) ⊎ (is_inside (joined last (get_or rest i d) ∷ []) address ≡ true)
        → (is_inside (so.first ∷ take i rest) address ≡ true) ⊎ (is_inside (get_or rest i d ∷ []) address ≡ true)
    back address (inl old) = early address (inside_left some (last ∷ []) address old)
    back address (inr new) = elim (one address new) [
      | inl first ↦ early address (inside_right some (last ∷ []) address first)
      | inr next ↦ inr next
    ]

    all : AreMerged runs rest (i + 1) some (joined last (get_or rest i d))
    all = record {
      first = so.first;
      parts = so.parts;
      ascend = last_swapped 0 some last (joined last (get_or rest i d)) so.ascend refl
          (joined_is last (get_or rest i d) (last_is 0 some last so.ascend) (rest_is runs rest so.first i d so.parts are inside));
      behind = λ k e low up. so.behind k e (omega arith) up;
      inside = λ address has. by address (split_inside so.first rest i d address inside has);
      only = λ address has.
          joined_inside so.first rest i d address inside (back address (inside_parts some (joined last (get_or rest i d) ∷ []) address has));
      few = omega (arith, so.few);
      fit = omega (arith, inside);
    }

-- the next run begins behind the last
pub merged_apart : (runs rest : List Run) (i : ℕ) (d : Run) (some new : List Run) (last : Run) → i < length rest → All IsRun runs
    → IsNonDecreasingBy (λ (run : Run). run.from) runs → last.until < (get_or rest i d).from → new ≡ some ++ last ∷ []
    → AreMerged runs rest i some last → AreMerged runs rest (i + 1) new (get_or rest i d)
merged_apart runs rest i d some new last inside are up behind more so =
    subst (λ l. AreMerged runs rest (i + 1) l (get_or rest i d)) (sym more) all
  where
    above : (k : ℕ) (e : Run) → i + 1 ≤ k → k < length rest → (get_or rest i d).from ≤ (get_or rest k e).from
    above k e low high =
        subst (λ (r : Run). r.from ≤ (get_or rest k e).from) (get_or_default rest i e d inside)
        (subst (λ l. IsNonDecreasingBy begin l) so.parts up (suc i) (suc k) e (omega arith) (omega arith))

    by : (address : ℕ) → (is_inside (so.first ∷ take i rest) address ≡ true) ⊎ (is_inside (get_or rest i d ∷ []) address ≡ true)
        → is_inside ((some ++ last ∷ []) ++ get_or rest i d ∷ []) address ≡ true
    by address (inl early) = inside_left (some ++ last ∷ []) (get_or rest i d ∷ []) address (so.inside address early)
    by address (inr later) = inside_right (some ++ last ∷ []) (get_or rest i d ∷ []) address later

    back : (address : ℕ) → (is_inside (some ++ last ∷ []) address ≡ true) ⊎ (is_inside (get_or rest i d ∷ []) address ≡ true)
        → (is_inside (so.first ∷ take i rest) address ≡ true) ⊎ (is_inside (get_or rest i d ∷ []) address ≡ true)
    back address (inl old) = inl (so.only address old)
    back address (inr new) = inr new

    all : AreMerged runs rest (i + 1) (some ++ last ∷ []) (get_or rest i d)
    all = record {
      first = so.first;
      parts = so.parts;
      ascend = last_followed 0 some last (get_or rest i d) so.ascend (omega (arith, behind)) (rest_is runs rest so.first i d so.parts are inside);
      behind = above;
      inside = λ address has. by address (split_inside so.first rest i d address inside has);
      only = λ address has.
          joined_inside so.first rest i d address inside
          (back address (inside_parts (some ++ last ∷ []) (get_or rest i d ∷ []) address has));
      few = omega (arith, so.few, length-append some (last ∷ []));
      fit = omega (arith, inside);
    }

-- ---- all of it

-- what is inside runs is inside those that they are merged into, in their order
pub merged_spans : {V E : Type 0} (result : Result V E) (items : V → List Run) (runs sorted lent : List Run) (spans : List Span)
    → IsPermutation runs sorted → lent ≡ sorted → IfOk result (λ some. StayInside lent (items some)) → AreInside runs spans
    → IfOk result (λ some. AreInside (items some) spans)
merged_spans (Ok some) items runs sorted lent spans same lends stay are = λ span address among has.
    stay address (subst (λ l. is_inside l address ≡ true) (sym lends)
    (sym (list_any-IsPermutation (covers address) runs sorted same) ∙ are span address among has))
merged_spans (Err e) items runs sorted lent spans same lends stay are = tt

pub merged_counted : {V E : Type 0} (result : Result V E) (items : V → List Run) (context : Context) (runs sorted lent : List Run) (spans : List Span)
    → IsPermutation runs sorted → lent ≡ sorted → IfOk result (λ some. StayInside lent (items some)) → CountedInside context runs spans
    → IfOk result (λ some. CountedInside context (items some) spans)
merged_counted (Ok some) items context runs sorted lent spans same lends stay are = λ span address among counted has.
    stay address (subst (λ l. is_inside l address ≡ true) (sym lends)
    (sym (list_any-IsPermutation (covers address) runs sorted same) ∙ are span address among counted has))
merged_counted (Err e) items context runs sorted lent spans same lends stay are = tt

-- Runs that are merged have no sectors but those of the three lists that they come from.
pub merged_only : {V E : Type 0} (result : Result V E) (items : V → List Run) (before after : Context) (gone came found : List Span)
    (none first second third sorted lent : List Run) → none ≡ []
    → AddOnly none first (λ address. any_counted before (λ span. has_sector span address) gone)
    → AddOnly first second (λ address. any_counted after (λ span. has_sector span address) came)
    → AddOnly second third (λ address. list_any (λ (span : Span). has_sector span address) found)
    → IsPermutation third sorted → lent ≡ sorted → IfOk result (λ some. StayInside (items some) lent)
    → IfOk result (λ some. AreOfChanged before after gone came found (items some))
merged_only (Ok some) items before after gone came found none first second third sorted lent empty one two three same lends stay = λ address is whole.
    let gone_has = any_counted before (λ span. has_sector span address) gone in
    let came_has = any_counted after (λ span. has_sector span address) came in
    let found_has = list_any (λ (span : Span). has_sector span address) found in
    let there : is_inside third address ≡ true =
    list_any-IsPermutation (covers address) third sorted same ∙ subst (λ l. is_inside l address ≡ true) lends (stay address is) in
    elim (or_cases (is_inside second address) found_has (three address there whole)) [
      | inr last ↦ or_right gone_has (came_has || found_has) (or_right came_has found_has last)
      | inl more ↦ (elim (or_cases (is_inside first address) came_has (two address more whole)) [
        | inr next ↦ or_right gone_has (came_has || found_has) (or_left came_has found_has next)
        | inl rest ↦ (elim (or_cases (is_inside none address) gone_has (one address rest whole)) [
          | inr early ↦ or_left gone_has (came_has || found_has) early
          | inl never ↦ absurd (nothing address (subst (λ l. is_inside l address ≡ true) empty never))
        ])
      ])
    ]
  where
    nothing : (address : ℕ) → is_inside [] address ≡ true → ⊥
    nothing address is = absurd (cc)
merged_only (Err e) items before after gone came found none first second third sorted lent empty one two three same lends stay = tt

-- they are no more than the spans of these lists
pub few_runs : {V E : Type 0} (result : Result V E) (items : V → List Run) (none first second third sorted lent : List Run) (gone came found : ℕ)
    → none ≡ [] → length first ≤ length none + gone → length second ≤ length first + came → length third ≤ length second + found
    → IsPermutation third sorted → lent ≡ sorted → IfOk result (λ some. length (items some) ≤ length lent)
    → IfOk result (λ some. length (items some) ≤ gone + came + found)
few_runs (Ok some) items none first second third sorted lent gone came found empty one two three same lends few =
    let nothing : length none ≡ 0 = ap length empty in
    let lent_is : length lent ≡ length sorted = ap length lends in
    let sorted_is : length sorted ≡ length third = length_permutation third sorted same in
    omega (arith, nothing, lent_is, sorted_is, one, two, three, few)
few_runs (Err e) items none first second third sorted lent gone came found empty one two three same lends few = tt
