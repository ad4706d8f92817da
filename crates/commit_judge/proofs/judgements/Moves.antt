-- What a commit does to accounts and to spans.
use Rattle.std.proofs.Common.{◌≡◌, ℕ, ◌+◌, ◌<◌, ◌≤◌, List, [], ◌∷◌, length, sym, ap, ◌∙◌, subst, inl, inr, arith}
use Rattle.std.specs.List.{All, Contains, filter_map}
use Rattle.std.proofs.lemmas.List.Elements.{All-contains, Contains-push_cases}
use Rattle.commit_laws.proofs.named_items.Found.{all_of as each_of}
use Rattle.accounts.specs.Context.{Context}
use Rattle.accounts.specs.declared.postings.Posting.{Posting}
use Rattle.change_records.specs.Search.{AreAlone, AreLawful, SpanNames}
use Rattle.change_records.specs.Spans.{IsLawfulIn, span_of}
use Rattle.change_records.specs.declared.changes.ItemChange.{ItemChange}
use Rattle.change_records.specs.declared.item_ref.ItemRef.{ItemRef}
use Rattle.change_records.proofs.Merge.{contains_none, from_one}
use Rattle.live_index.specs.Pairs.{Pairs}
use Rattle.live_index.specs.declared.live.Live.{Live}
use Rattle.records.specs.Part.{IsLawful, Located}
use Rattle.records.specs.declared.rec.ItemAt.{ItemAt}
use Rattle.span_index.specs.declared.span.Run.{Run}
use Rattle.span_index.specs.declared.span.Span.{Span}
use Rattle.super_reader.specs.declared.Super.{Super}
use Rattle.commit_laws.specs.Commit.{Commit, Known, came_by, context_by, gone_by}
use Rattle.commit_laws.specs.Sectors.{AreInside, AreSound, CountedInside}
use Rattle.commit_laws.specs.Sound.{IsSound, IsWhole, SpansStand}
use Rattle.commit_laws.specs.Steps.{change_records, spans_of, step_posts}
use Rattle.commit_laws.proofs.sound_spans.Whole.{span_whole}
use Rattle.commit_judge.specs.Moves.{AreOfChanged, AreSpansMoved, HaveNames, NameSpans, context_after}

-- the spans of sound records are whole
pub spans_whole : (n : ℕ) (records : List Located) → AreSound n records → All IsWhole (spans_of n records)
unfolding spans_of
spans_whole n records sound =
    each_of IsWhole (filter_map (span_of n) records) (λ span has.
    let found = from_one (span_of n) records span has in
    let good = All-contains (λ (one : Located). IsLawfulIn n one one.part × IsLawful one.part) records found.0 sound found.1 in
    span_whole n found.0 found.0.part span found.2 good.0 good.1)

-- what is posted of slices is what is posted of the lists that they show
pub posts_by : (context : Context) (sup : Super) (side : List ItemAt → List ItemChange → List Located) (posts : List Posting)
    (slice blocks : List Live) (shown items : List ItemAt) (some changes : List ItemChange) (few refs : List ItemRef)
    → slice ≡ blocks → shown ≡ items → some ≡ changes → few ≡ refs
    → posts ≡ step_posts context (change_records sup slice (side shown some)) few
    → posts ≡ step_posts context (change_records sup blocks (side items changes)) refs
posts_by context sup side posts slice blocks shown items some changes few refs blocks_are items_are changes_are refs_are is =
    is ∙ (λ i. step_posts context (change_records sup (blocks_are i) (side (items_are i) (changes_are i))) (refs_are i))

-- the same of spans, of sound records
pub spans_by : (n : ℕ) (sup : Super) (blocks : List Live) (side : List ItemAt → List ItemChange → List Located) (spans : List Span)
    (shown items : List ItemAt) (some changes : List ItemChange) → shown ≡ items → some ≡ changes
    → ((s : Super) (b : List Live) → AreSound n (change_records s b (side shown some)) → spans ≡ spans_of n (change_records s b (side shown some)))
    → AreSound n (change_records sup blocks (side items changes)) → spans ≡ spans_of n (change_records sup blocks (side items changes))
spans_by n sup blocks side spans shown items some changes items_are changes_are is =
    subst (λ (found : List Located). AreSound n (change_records sup blocks found) → spans ≡ spans_of n (change_records sup blocks found))
    (λ i. side (items_are i) (changes_are i)) (is sup blocks)

-- spans are inside runs where the slice that shows them is
pub inside_by : (runs : List Run) (slice spans : List Span) → slice ≡ spans → (All IsWhole slice → AreInside runs slice) → All IsWhole spans → AreInside runs spans
inside_by runs slice spans same is = subst (λ (s : List Span). All IsWhole s → AreInside runs s) same is

pub counted_by : (context other : Context) (runs : List Run) (slice spans : List Span) → context ≡ other → slice ≡ spans
    → (All IsWhole slice → CountedInside context runs slice) → All IsWhole spans → CountedInside other runs spans
counted_by context other runs slice spans alike same is whole =
    subst (λ (x : Context). CountedInside x runs spans) alike
    (subst (λ (s : List Span). All IsWhole s → CountedInside context runs s) same is whole)

-- what slices show bounds runs where the lists that they show do
pub few_by : (runs : List Run) (shown some few gone came found : List Span) (refs names : List ItemRef) → shown ≡ gone → some ≡ came → few ≡ found
    → names ≡ refs → length runs ≤ length shown + length some + length few → length found ≤ length names
    → length runs ≤ length gone + length came + length refs
few_by runs shown some few gone came found refs names gone_are came_are found_are refs_are less names_less =
    omega (arith, less, names_less, ap length gone_are, ap length came_are, ap length found_are, ap length refs_are)

pub only_by : (before after other : Context) (runs : List Run) (shown some few gone came found : List Span) → after ≡ other → shown ≡ gone
    → some ≡ came → few ≡ found → AreOfChanged before after shown some few runs → AreOfChanged before other gone came found runs
only_by before after other runs shown some few gone came found alike gone_are came_are found_are only =
    subst (λ (p : Context). AreOfChanged before p gone came found runs) alike
    (subst (λ (p : List Span). AreOfChanged before after p came found runs) gone_are
    (subst (λ (p : List Span). AreOfChanged before after shown p found runs) came_are
    (subst (λ (p : List Span). AreOfChanged before after shown some p runs) found_are only)))

-- a span of some is inside runs where all are
one_inside : (runs : List Run) (spans : List Span) (span : Span) → AreInside runs spans → Contains spans span → AreInside runs (span ∷ [])
one_inside runs spans span inside has one address is sector =
    elim (Contains-push_cases [] span one is) [
      | inl never ↦ absurd (contains_none one never)
      | inr same ↦ inside one address (subst (Contains spans) same has) sector
    ]

module _ (k : Known) (c : Commit) (gone came : List Span) (runs : List Run) (found : List Span)
    (gone_are : AreSound k.sup.nodesize (gone_by k c) → gone ≡ spans_of k.sup.nodesize (gone_by k c))
    (came_are : AreSound c.fresh.nodesize (came_by c) → came ≡ spans_of c.fresh.nodesize (came_by c))
    (names : AreLawful k.sup.nodesize k.spans → AreAlone k.spans → (pairs : Pairs) (span : Span) (at : ItemRef)
    → 0 < k.spans span → SpanNames pairs span at → Contains c.refs at → Contains found span)
    (there : (span : Span) → Contains found span → 0 < k.spans span)
    (gone_in : All IsWhole gone → CountedInside (context_by k) runs gone) (came_in : All IsWhole came → CountedInside (context_after k c) runs came)
    (found_in : All IsWhole found → AreInside runs found)
    (named : AreLawful k.sup.nodesize k.spans → AreAlone k.spans → (pairs : Pairs) → NameSpans k.spans pairs c.refs → HaveNames pairs c.refs found)
    (few_found : length found ≤ length c.refs)
    (few_runs : length runs ≤ length gone + length came + length c.refs)
    (only : AreOfChanged (context_by k) (context_after k c) gone came found runs) where
  pub spans_moved : SpansStand k → IsSound k c → AreSpansMoved k c gone came runs
  spans_moved stand sound =
      let gone_is : gone ≡ spans_of k.sup.nodesize (gone_by k c) = gone_are sound.gone in
      let came_is : came ≡ spans_of c.fresh.nodesize (came_by c) = came_are sound.came in
      let all : AreInside runs found = found_in (each_of IsWhole found (λ span has. stand.whole span (there span has))) in
      record {
        gone_is = gone_is;
        came_is = came_is;
        gone_inside = gone_in (subst (All IsWhole) (sym gone_is) (spans_whole k.sup.nodesize (gone_by k c) sound.gone));
        came_inside = came_in (subst (All IsWhole) (sym came_is) (spans_whole c.fresh.nodesize (came_by c) sound.came));
        found_inside = λ span at stands shows has. one_inside runs found span all (names stand.lawful stand.alone k.pairs span at stands shows has);
        found = found;
        found_stand = there;
        found_named = named stand.lawful stand.alone k.pairs;
        few_found = few_found;
        few_runs = few_runs;
        only_named = only;
      }
