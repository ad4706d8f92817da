-- A step leaves each sector as it was that is outside of what is gone, came or was found.
use Rattle.std.proofs.Common.{◌≡◌, ℕ, ◌+◌, Bool, ◌&&◌, true, false, cond, inl, inr, List, [], ◌∷◌, ◌++◌, map, refl, ap, sym, ◌∙◌, subst, arith}
use Rattle.std.specs.Prelude.{◌⊎◌}
use Rattle.std.specs.List.{All, AllByRecursion, Contains, filter_map, sum_by}
use Rattle.std.specs.List.Sorted.{IsPermutation}
use Rattle.std.proofs.Math.Path.{fun_ext}
use Rattle.std.proofs.lemmas.Bool.{and_parts}
use Rattle.std.proofs.lemmas.List.Elements.{All-contains_itself, All-weaker, recursion_from_All}
use Rattle.std.proofs.lemmas.List.Sorted.{All-permutation, sum_by-IsPermutation}
use Rattle.std.proofs.lemmas.List.Sums.{sum_by-append, sum_by-cons}
use Rattle.verdict.proofs.Lists.{all_later}
use Rattle.accounts.specs.Broken.{is_broken}
use Rattle.accounts.specs.Context.{Context}
use Rattle.accounts.specs.Kinds.{sector}
use Rattle.accounts.specs.Sums.{total_of}
use Rattle.records.specs.Part.{IsLawful, Located}
use Rattle.records.specs.Postings.{postings_of}
use Rattle.span_index.specs.declared.span.Run.{Run}
use Rattle.span_index.specs.declared.span.Span.{Span}
use Rattle.span_index.specs.Sectors.{adds, adds_to, counts, has_sector, is_bad, is_inside, sector_sum}
use Rattle.change_records.specs.Spans.{IsLawfulIn, span_of}
use Rattle.commit_laws.specs.Paired.{anywhere}
use Rattle.commit_laws.specs.Sectors.{AreInside, AreSound, CountedInside, RunsLaw}
use Rattle.commit_laws.specs.Steps.{spans_of}
use Rattle.commit_laws.proofs.at_sectors.Posted.{adds_in, record_adds, sum_more}

-- ---- spans that add nothing to a sector

-- whether a span adds to a sum of the sector at an address
abbrev does_add : Context → ℕ → ℕ → Span → Bool
does_add context address field span = has_sector span address && (counts context span span.sort && adds_to span.sort field)

no_adds : (context : Context) (address field : ℕ) (span : Span) → does_add context address field span ≡ false → adds context address field span ≡ 0
unfolding adds
no_adds context address field span is = ap (λ b. cond b 1 0) is

none_adds : (context : Context) (address field : ℕ) (spans : List Span) → AllByRecursion (λ (span : Span). does_add context address field span ≡ false) spans
    → sum_by (adds context address field) spans ≡ 0
none_adds context address field [] out = refl
none_adds context address field (span ∷ spans) out =
    sum_by-cons (adds context address field) span spans
    ∙ (λ i. no_adds context address field span out.0 i + none_adds context address field spans out.1 i)

has_none : (context : Context) (runs : List Run) (spans : List Span) (address field : ℕ) → CountedInside context runs spans
    → is_inside runs address ≡ false → (span : Span) → Contains spans span → does_add context address field span ≡ false
has_none context runs spans address field inside out span is =
    elim (does_add context address field span) as (λ b. does_add context address field span ≡ b → b ≡ false)
    [ true ↦ λ e. absurd (none e) | false ↦ λ e. refl ] refl
  where
    none : does_add context address field span ≡ true → ⊥
    none e =
        let parts = and_parts (has_sector span address) (counts context span span.sort && adds_to span.sort field) e in
        let more = and_parts (counts context span span.sort) (adds_to span.sort field) parts.1 in
        cc (inside span address is more.0 parts.0, out)

outside : (context : Context) (runs : List Run) (spans : List Span) (address field : ℕ) → CountedInside context runs spans → is_inside runs address ≡ false
    → sum_by (adds context address field) spans ≡ 0
outside context runs spans address field inside out =
    none_adds context address field spans
    (recursion_from_All (λ (span : Span). does_add context address field span ≡ false) spans
    (All-weaker (Contains spans) (λ (span : Span). does_add context address field span ≡ false) (has_none context runs spans address field inside out) spans
    (All-contains_itself spans)))

-- spans of which all sectors are inside
counted : (context : Context) (runs : List Run) (spans : List Span) → AreInside runs spans → CountedInside context runs spans
counted context runs spans inside span address is counts has = inside span address is has

-- ---- sums over records

-- what the span of a record adds, with tree blocks of so many bytes
abbrev weight : Context → ℕ → ℕ → ℕ → Located → ℕ
weight context nodesize address field one = adds_in context address field (span_of nodesize one)

abbrev weights : Context → ℕ → ℕ → ℕ → List Located → ℕ
weights context nodesize address field records = sum_by (weight context nodesize address field) records

by_records : (context : Context) (nodesize address field : ℕ) (records : List Located)
    → sum_by (adds context address field) (filter_map (span_of nodesize) records) ≡ weights context nodesize address field records
by_records context nodesize address field [] = refl
by_records context nodesize address field (one ∷ more) =
    sum_more context address field (span_of nodesize one) (filter_map (span_of nodesize) more)
    ∙ ap (λ n. adds_in context address field (span_of nodesize one) + n) (by_records context nodesize address field more)
    ∙ sym (sum_by-cons (weight context nodesize address field) one more)

-- records wherever they stand
anywhere_weights : (context : Context) (nodesize address field : ℕ) (records : List Located)
    → weights context nodesize address field records ≡ weights context nodesize address field (map anywhere records)
anywhere_weights context nodesize address field [] = refl
anywhere_weights context nodesize address field (one ∷ more) =
    sum_by-cons (weight context nodesize address field) one more
    ∙ ap (λ n. weight context nodesize address field one + n) (anywhere_weights context nodesize address field more)
    ∙ sym (sum_by-cons (weight context nodesize address field) (anywhere one) (map anywhere more))

-- records that count nowhere outside the runs
outside_weights : (context : Context) (nodesize address field : ℕ) (runs : List Run) (records : List Located)
    → CountedInside context runs (spans_of nodesize records)
    → is_inside runs address ≡ false → weights context nodesize address field records ≡ 0
unfolding spans_of
outside_weights context nodesize address field runs records inside out =
    sym (by_records context nodesize address field records) ∙ outside context runs (filter_map (span_of nodesize) records) address field inside out

-- records that post the same by two contexts
staying_weights : (before after : Context) (address field : ℕ) (records : List Located) → before.nodesize ≡ after.nodesize
    → AllByRecursion (λ (one : Located). IsLawfulIn before.nodesize one one.part × IsLawful one.part) records
    → AllByRecursion (λ (one : Located). postings_of before one ≡ postings_of after one) records
    → weights after after.nodesize address field records ≡ weights before before.nodesize address field records
staying_weights before after address field [] size sound same = refl
staying_weights before after address field (one ∷ more) size sound same =
    sum_by-cons (weight after after.nodesize address field) one more
    ∙ (λ i. here i + staying_weights before after address field more size sound.1 same.1 i)
    ∙ sym (sum_by-cons (weight before before.nodesize address field) one more)
  where
    here : weight after after.nodesize address field one ≡ weight before before.nodesize address field one
    here =
        sym (record_adds after one address field (subst (λ (n : ℕ). IsLawfulIn n one one.part) size sound.0.0, sound.0.1))
        ∙ ap (λ ps. total_of ps (sector address) field) (sym same.0)
        ∙ record_adds before one address field sound.0

zero_and : (a b c d : ℕ) → a ≡ 0 → c ≡ 0 → b ≡ d → a + b ≡ c + d
zero_and a b c d first later same = omega (arith, first, later, same)

zero_more : (a b n : ℕ) → n ≡ a + b → a ≡ 0 → n ≡ b
zero_more a b n is zero = omega (arith, is, zero)

module _ (before after : Context) (found staying : List Located) (runs : List Run) (address field : ℕ) (out : is_inside runs address ≡ false) where
  -- what is kept adds the same
  kept : (before.nodesize ≡ after.nodesize) ⊎ (found ++ staying ≡ [])
      → AreInside runs (spans_of before.nodesize found)
      → AllByRecursion (λ (one : Located). IsLawfulIn before.nodesize one one.part × IsLawful one.part) staying
      → AllByRecursion (λ (one : Located). postings_of before one ≡ postings_of after one) staying
      → weights after after.nodesize address field (found ++ staying) ≡ weights before before.nodesize address field (found ++ staying)
  kept (inr none) inside sound same =
      ap (weights after after.nodesize address field) none ∙ sym (ap (weights before before.nodesize address field) none)
  kept (inl size) inside sound same =
      sum_by-append (weight after after.nodesize address field) found staying
      ∙ zero_and (weights after after.nodesize address field found) (weights after after.nodesize address field staying)
      (weights before before.nodesize address field found) (weights before before.nodesize address field staying)
      (outside_weights after after.nodesize address field runs found
      (counted after runs (spans_of after.nodesize found) (subst (λ (n : ℕ). AreInside runs (spans_of n found)) size inside)) out)
      (outside_weights before before.nodesize address field runs found (counted before runs (spans_of before.nodesize found) inside) out)
      (staying_weights before after address field staying size sound same)
      ∙ sym (sum_by-append (weight before before.nodesize address field) found staying)

module _ (before after : Context) (olds news gone came : List Located) (runs : List Run) (found staying others : List Located) where
  sum_stays : IsPermutation olds (gone ++ (found ++ staying)) → IsPermutation news (came ++ others) → map anywhere others ≡ map anywhere (found ++ staying)
      → (before.nodesize ≡ after.nodesize) ⊎ (found ++ staying ≡ [])
      → All (λ (one : Located). postings_of before one ≡ postings_of after one) staying
      → AreSound before.nodesize olds
      → CountedInside before runs (spans_of before.nodesize gone) → AreInside runs (spans_of before.nodesize found)
      → CountedInside after runs (spans_of after.nodesize came)
      → (address field : ℕ) → is_inside runs address ≡ false
      → sector_sum after (spans_of after.nodesize news) address field ≡ sector_sum before (spans_of before.nodesize olds) address field
  unfolding sector_sum spans_of
  sum_stays old new alike size same sound inside inside_found inside_came address field out =
      by_records after after.nodesize address field news
      ∙ sym (sum_by-IsPermutation (weight after after.nodesize address field) news (came ++ others) new)
      ∙ zero_more (weights after after.nodesize address field came) (weights after after.nodesize address field others) (weights after after.nodesize address field (came ++ others))
      (sum_by-append (weight after after.nodesize address field) came others)
      (outside_weights after after.nodesize address field runs came inside_came out)
      ∙ anywhere_weights after after.nodesize address field others
      ∙ ap (weights after after.nodesize address field) alike
      ∙ sym (anywhere_weights after after.nodesize address field (found ++ staying))
      ∙ kept before after found staying runs address field out size inside_found
      (all_later (λ (one : Located). IsLawfulIn before.nodesize one one.part × IsLawful one.part) found staying
      (all_later (λ (one : Located). IsLawfulIn before.nodesize one one.part × IsLawful one.part) gone (found ++ staying)
      (recursion_from_All (λ (one : Located). IsLawfulIn before.nodesize one one.part × IsLawful one.part) (gone ++ (found ++ staying))
      (All-permutation (λ (one : Located). IsLawfulIn before.nodesize one one.part × IsLawful one.part) olds (gone ++ (found ++ staying)) old sound))))
      (recursion_from_All (λ (one : Located). postings_of before one ≡ postings_of after one) staying same)
      ∙ sym (zero_more (weights before before.nodesize address field gone) (weights before before.nodesize address field (found ++ staying))
      (weights before before.nodesize address field (gone ++ (found ++ staying)))
      (sum_by-append (weight before before.nodesize address field) gone (found ++ staying))
      (outside_weights before before.nodesize address field runs gone inside out))
      ∙ sum_by-IsPermutation (weight before before.nodesize address field) olds (gone ++ (found ++ staying)) old
      ∙ sym (by_records before before.nodesize address field olds)

pub runs_stay : RunsLaw
unfolding is_bad
runs_stay before after olds news gone came refs runs step sound_old sound_new inside inside_found inside_came address out =
    ap (is_broken (sector address)) (fun_ext (λ field.
    sum_stays before after olds news gone came runs step.found step.staying step.others step.old step.new step.alike step.size step.same
    sound_old inside inside_found inside_came address field out))
