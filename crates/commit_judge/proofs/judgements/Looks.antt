-- The looks that it costs to judge a plan that passes are bounded by what the commit changes.
use Rattle.std.proofs.Common.{◌≡◌, ℕ, ◌+◌, ◌*◌, ◌%◌, ◌<◌, ◌≤◌, Bool, true, false, cond, ◌&&◌, ◌||◌, List, [], ◌∷◌, length, inl, inr, refl, ap, sym, ◌∙◌, subst, arith}
use Rattle.std.specs.Prelude.{◌==◌, nat_le, nat_lt}
use Rattle.std.specs.List.{Contains, count_by, list_any}
use Rattle.std.proofs.lemmas.Bool.{and_from, and_parts, cases_lt, eq-eqb, le-leb, leb-true, lt-ltb, ltb-true, or_cases, or_left, or_right}
use Rattle.std.proofs.lemmas.List.Elements.{All-contains}
use Rattle.std.proofs.lemmas.List.Sums.{sum_by-cons}
use Rattle.accounts.specs.Context.{Context}
use Rattle.change_records.proofs.Merge.{contains_first, contains_more}
use Rattle.span_index.specs.Order.{is_same}
use Rattle.span_index.specs.Sectors.{AreRunsFrom, IsRun, counts, has_sector, is_inside, meets, times_of_span}
use Rattle.span_index.specs.Spans.{Table, end_of}
use Rattle.span_index.specs.declared.span.Run.{Run}
use Rattle.span_index.specs.declared.span.Span.{Span}
use Rattle.span_index.proofs.TableLaws.{same_is}
use Rattle.commit_laws.proofs.whole_commits.Spans.{there}
use Rattle.commit_laws.specs.Commit.{Commit, Known, came_by, context_by, gone_by}
use Rattle.commit_laws.specs.Sound.{IsSound, IsWhole, SpansStand}
use Rattle.commit_laws.specs.Steps.{spans_of, step_posts}
use Rattle.commit_judge.specs.Looks.{AreFewLooks, FewLooksLaw, FewToJudge, have_common, meets_changed, table_after}
use Rattle.commit_judge.specs.Moves.{AreSpansMoved, any_changed, any_counted, context_after}
use Rattle.commit_judge.specs.Tables.{with_spans, without_spans}
use Rattle.commit_judge.proofs.judgements.Moves.{spans_whole}

-- ---- counts and tests of spans

-- where each span of a list that passes one test passes another, no more pass the one
pub count_le : (f g : Span → Bool) (xs : List Span) → ((x : Span) → Contains xs x → f x ≡ true → g x ≡ true) → count_by f xs ≤ count_by g xs
count_le f g [] h = omega arith
count_le f g (y ∷ ys) h =
    let a : count_by f (y ∷ ys) ≡ cond (f y) 1 0 + count_by f ys = sum_by-cons (λ x. cond (f x) 1 0) y ys in
    let b : count_by g (y ∷ ys) ≡ cond (g y) 1 0 + count_by g ys = sum_by-cons (λ x. cond (g x) 1 0) y ys in
    let c : cond {A = ℕ} (f y) 1 0 ≤ cond (g y) 1 0 = one (f y) (g y) (h y (contains_first y ys)) in
    let d : count_by f ys ≤ count_by g ys = count_le f g ys (λ x has. h x (contains_more y ys x has)) in
    omega (arith, a, b, c, d)
  where
    one : (p q : Bool) → (p ≡ true → q ≡ true) → cond {A = ℕ} p 1 0 ≤ cond q 1 0
    one false q is = omega arith
    one true q is = subst (λ (r : Bool). 1 ≤ cond r 1 0) (sym (is refl)) (omega arith)

any_more : (f g : Span → Bool) → ((x : Span) → f x ≡ true → g x ≡ true) → (xs : List Span) → list_any f xs ≡ true → list_any g xs ≡ true
any_more f g more [] is = is
any_more f g more (y ∷ ys) is = elim (or_cases (f y) (list_any f ys) is) [
  | inl here ↦ or_left (g y) (list_any g ys) (more y here)
  | inr later ↦ or_right (g y) (list_any g ys) (any_more f g more ys later)
]

counted_more : (context : Context) (f g : Span → Bool) → ((x : Span) → f x ≡ true → g x ≡ true) → (xs : List Span)
    → any_counted context f xs ≡ true → any_counted context g xs ≡ true
counted_more context f g more =
    any_more (λ span. counts context span span.sort && f span) (λ span. counts context span span.sort && g span)
    (λ x is. let both = and_parts (counts context x x.sort) (f x) is in and_from (counts context x x.sort) (g x) both.0 (more x both.1))

changed_more : (before after : Context) (gone came found : List Span) (f g : Span → Bool) → ((x : Span) → f x ≡ true → g x ≡ true)
    → any_changed before after gone came found f ≡ true → any_changed before after gone came found g ≡ true
changed_more before after gone came found f g more is =
    let rest = any_counted after g came || list_any g found in
    elim (or_cases (any_counted before f gone) (any_counted after f came || list_any f found) is) [
      | inl first ↦ or_left (any_counted before g gone) rest (counted_more before f g more gone first)
      | inr others ↦ or_right (any_counted before g gone) rest (elim (or_cases (any_counted after f came) (list_any f found) others) [
        | inl second ↦ or_left (any_counted after g came) (list_any g found) (counted_more after f g more came second)
        | inr third ↦ or_right (any_counted after g came) (list_any g found) (any_more f g more found third)
      ])
    ]

-- a span that stands in a list is one of it
pub found_in : (xs : List Span) (x : Span) → 0 < times_of_span xs x → Contains xs x
unfolding times_of_span
found_in [] x less = absurd (omega (arith, less))
found_in (y ∷ ys) x less = by (is_same x y) refl (found_in ys x)
  where
    by : (b : Bool) → is_same x y ≡ b → (0 < times_of_span ys x → Contains ys x) → Contains (y ∷ ys) x
    by true is later = subst (λ z. Contains (y ∷ ys) z) (sym (same_is x y is)) (contains_first y ys)
    by false is later =
        let all : count_by (is_same x) (y ∷ ys) ≡ cond (is_same x y) 1 0 + count_by (is_same x) ys = sum_by-cons (λ z. cond (is_same x z) 1 0) y ys in
        let none : cond {A = ℕ} (is_same x y) 1 0 ≡ 0 = ap (λ b. cond b 1 0) is in
        contains_more y ys x (later (omega (arith, less, all, none)))

-- ---- sectors

-- a span has the sector at an address where it begins at a sector
pub has_from : (span : Span) (address : ℕ) → span.first % 4096 ≡ 0 → address % 4096 ≡ 0 → span.first ≤ address → address < end_of span
    → has_sector span address ≡ true
has_from span address first whole low high =
    and_from (nat_le span.first address) (nat_lt address (end_of span) && span.first % 4096 == address % 4096) (le-leb span.first address low)
    (and_from (nat_lt address (end_of span)) (span.first % 4096 == address % 4096) (lt-ltb address (end_of span) high)
    (eq-eqb (span.first % 4096) (address % 4096) (first ∙ sym whole)))

has_is : (span : Span) (address : ℕ) → has_sector span address ≡ true → (span.first ≤ address) × (address < end_of span)
has_is span address is =
    let parts = and_parts (nat_le span.first address) (nat_lt address (end_of span) && span.first % 4096 == address % 4096) is in
    let rest = and_parts (nat_lt address (end_of span)) (span.first % 4096 == address % 4096) parts.1 in
    (leb-true span.first address parts.0, ltb-true address (end_of span) rest.0)

-- two spans that have one sector have it in common
in_common : (one other : Span) (address : ℕ) → has_sector one address ≡ true → has_sector other address ≡ true → have_common one other ≡ true
in_common one other address first second =
    let a = has_is one address first in
    let b = has_is other address second in
    let low : one.first ≤ address = a.0 in
    let high : address < one.first + one.sectors * 4096 = a.1 in
    let its_low : other.first ≤ address = b.0 in
    let its_high : address < other.first + other.sectors * 4096 = b.1 in
    and_from (nat_lt one.first (end_of other)) _ (lt-ltb one.first (end_of other) (omega (arith, low, its_high)))
    (and_from (nat_lt other.first (end_of one)) _ (lt-ltb other.first (end_of one) (omega (arith, its_low, high)))
    (and_from (nat_lt 0 one.sectors) (nat_lt 0 other.sectors) (lt-ltb 0 one.sectors (omega (arith, low, high)))
    (lt-ltb 0 other.sectors (omega (arith, its_low, its_high)))))

-- a sector that a span has inside runs
abbrev IsSectorIn : List Run → Span → ℕ → Type 0
IsSectorIn runs span address = (address % 4096 ≡ 0) × (is_inside runs address ≡ true) × (has_sector span address ≡ true)

-- a span that has a byte of a run has a sector of it
one_sector : (run : Run) (span : Span) → IsRun run → span.first % 4096 ≡ 0
    → (nat_lt span.first run.until && (nat_lt run.from (end_of span) && nat_lt 0 span.sectors)) ≡ true
    → (address : ℕ) × (address % 4096 ≡ 0) × ((nat_le run.from address && nat_lt address run.until) ≡ true) × (has_sector span address ≡ true)
one_sector run span is first met =
    let parts = and_parts (nat_lt span.first run.until) (nat_lt run.from (end_of span) && nat_lt 0 span.sectors) met in
    let rest = and_parts (nat_lt run.from (end_of span)) (nat_lt 0 span.sectors) parts.1 in
    let under : span.first < run.until = ltb-true span.first run.until parts.0 in
    let over : run.from < end_of span = ltb-true run.from (end_of span) rest.0 in
    let some : 0 < span.sectors = ltb-true 0 span.sectors rest.1 in
    let order : run.from < run.until = is.2 in
    elim (cases_lt run.from span.first) [
      | inl behind ↦ (
        span.first,
        first,
        and_from (nat_le run.from span.first) (nat_lt span.first run.until) (le-leb run.from span.first (omega (arith, behind))) parts.0,
        has_from span span.first first first (omega arith) (omega (arith, some)),
      )
      | inr before ↦ (
        run.from,
        is.0,
        and_from (nat_le run.from run.from) (nat_lt run.from run.until) (le-leb run.from run.from (omega arith)) (lt-ltb run.from run.until order),
        has_from span run.from first is.0 before over,
      )
    ]

sector_in : (start : ℕ) (runs : List Run) (span : Span) → AreRunsFrom start runs → span.first % 4096 ≡ 0 → meets runs span ≡ true
    → (address : ℕ) × IsSectorIn runs span address
sector_in start [] span are first met = absurd (cc)
sector_in start (run ∷ runs) span are first met =
    elim (or_cases (nat_lt span.first run.until && (nat_lt run.from (end_of span) && nat_lt 0 span.sectors)) (meets runs span) met) [
      | inl here ↦
          let found = one_sector run span are.1 first here in
          (found.0, (found.1, or_left (nat_le run.from found.0 && nat_lt found.0 run.until) (is_inside runs found.0) found.2, found.3))
      | inr later ↦
          let found = sector_in run.until runs span are.2 first later in
          (found.0, (found.1.0, or_right (nat_le run.from found.0 && nat_lt found.0 run.until) (is_inside runs found.0) found.1.1, found.1.2))
    ]

-- ---- all of it

module _ (k : Known) (c : Commit) (before now : ℕ) (stand : SpansStand k) (sound : IsSound k c) (judge : FewToJudge k c before now) where
  shown : AreSpansMoved k c judge.moves.gone_spans.items judge.moves.came_spans.items judge.moves.runs.items
  shown = judge.are.spans stand sound

  table_is : judge.table ≡ table_after k c
  table_is = judge.table_is ∙ (λ i. with_spans (without_spans k.spans (shown.gone_is i)) (shown.came_is i))

  -- the spans behind the moves are whole
  pub whole : (span : Span) → 0 < table_after k c span → IsWhole span
  unfolding with_spans without_spans
  whole span stands = elim (cases_lt 0 (k.spans span)) [
    | inl old ↦ stand.whole span old
    | inr none ↦
        let came = spans_of c.fresh.nodesize (came_by c) in
        All-contains IsWhole came span (spans_whole c.fresh.nodesize (came_by c) sound.came) (found_in came span (omega (arith, none, stands)))
  ]

  meets_named : (span : Span) → IsWhole span → meets judge.moves.runs.items span ≡ true → meets_changed k c shown.found span ≡ true
  meets_named span is met =
      let at = sector_in 0 judge.moves.runs.items span judge.are.ascend is.0 met in
      changed_more (context_by k) (context_after k c) (spans_of k.sup.nodesize (gone_by k c)) (spans_of c.fresh.nodesize (came_by c)) shown.found
      (λ other. has_sector other at.0) (have_common span) (λ other has. in_common span other at.0 at.1.2 has)
      (subst (λ (gone : List Span). any_changed (context_by k) (context_after k c) gone (spans_of c.fresh.nodesize (came_by c)) shown.found
      (λ other. has_sector other at.0) ≡ true) shown.gone_is
      (subst (λ (came : List Span). any_changed (context_by k) (context_after k c) judge.moves.gone_spans.items came shown.found
      (λ other. has_sector other at.0) ≡ true) shown.came_is (shown.only_named at.0 at.1.1 at.1.0)))

  times : (span : Span) → times_of_span judge.few.spans span ≡ table_after k c span
  times span = judge.few.times span ∙ ap (λ (t : Table). t span) table_is

  met : count_by (meets judge.moves.runs.items) judge.few.spans ≤ count_by (meets_changed k c shown.found) judge.few.spans
  met =
      count_le (meets judge.moves.runs.items) (meets_changed k c shown.found) judge.few.spans
      (λ span has. meets_named span (whole span (subst (λ n. 0 < n) (times span) (there judge.few.spans span has))))

  looks : AreFewLooks k c before now
  looks =
      let gone : length judge.moves.gone ≡ length (step_posts (context_by k) (gone_by k c) c.refs) = ap length judge.are.gone in
      let came : length judge.moves.came ≡ length (step_posts (context_after k c) (came_by c) c.refs) = ap length judge.are.came in
      let gone_spans : length judge.moves.gone_spans.items ≡ length (spans_of k.sup.nodesize (gone_by k c)) = ap length shown.gone_is in
      let came_spans : length judge.moves.came_spans.items ≡ length (spans_of c.fresh.nodesize (came_by c)) = ap length shown.came_is in
      record {
        found = shown.found;
        found_stand = shown.found_stand;
        found_named = shown.found_named;
        few_found = shown.few_found;
        spans = judge.few.spans;
        times = times;
        few = omega (arith, gone, came, gone_spans, came_spans, shown.few_runs, met, judge.few.few, judge.rest);
      }

pub few_looks : FewLooksLaw
few_looks k c before now stand sound judge = looks k c before now stand sound judge
