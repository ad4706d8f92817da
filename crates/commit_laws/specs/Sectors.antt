-- Sectors: what records post to them is what their spans come to, and where no span changes nothing does.
use Rattle.std.specs.Prelude.{◌≡◌, ℕ, true, false, List}
use Rattle.std.specs.List.{All, Contains}
use Rattle.accounts.specs.Context.{Context}
use Rattle.accounts.specs.Kinds.{sector}
use Rattle.accounts.specs.Sums.{total_of}
use Rattle.change_records.specs.Spans.{IsLawfulIn}
use Rattle.change_records.specs.declared.item_ref.ItemRef.{ItemRef}
use Rattle.records.specs.Part.{IsLawful, Located}
use Rattle.records.specs.Postings.{all_postings}
use Rattle.span_index.specs.Sectors.{counts, has_sector, is_bad, is_inside, sector_sum}
use Rattle.span_index.specs.declared.span.Run.{Run}
use Rattle.span_index.specs.declared.span.Span.{Span}
use Rattle.commit_laws.specs.Steps.{IsStep, spans_of}

-- records keep what their rows ask, with tree blocks of so many bytes
abbrev pub AreSound : ℕ → List Located → Type 0
AreSound nodesize records = All (λ one. IsLawfulIn nodesize one one.part × IsLawful one.part) records

-- what sound records post to a sector is what their spans come to there
abbrev pub SectorsLaw : Type 0
SectorsLaw = (context : Context) (records : List Located) (address field : ℕ)
    → AreSound context.nodesize records
    → total_of (all_postings context records) (sector address) field ≡ sector_sum context (spans_of context.nodesize records) address field

-- all sectors of some spans are inside runs
abbrev pub AreInside : List Run → List Span → Type 0
AreInside runs spans = (span : Span) (address : ℕ) → Contains spans span → has_sector span address ≡ true → is_inside runs address ≡ true

-- the same of those of some spans that count in a context
abbrev pub CountedInside : Context → List Run → List Span → Type 0
CountedInside context runs spans =
    (span : Span) (address : ℕ) → Contains spans span → counts context span span.sort ≡ true → has_sector span address ≡ true → is_inside runs address ≡ true

-- Where all sectors are inside runs of what is gone and counted, of what came and counts, and of what was found, a step leaves each sector
-- outside the runs as it was.
abbrev pub RunsLaw : Type 0
RunsLaw = (before after : Context) (olds news gone came : List Located) (refs : List ItemRef) (runs : List Run)
    → (step : IsStep before after olds news gone came refs)
    → AreSound before.nodesize olds → AreSound after.nodesize news
    → CountedInside before runs (spans_of before.nodesize gone) → AreInside runs (spans_of before.nodesize step.found)
    → CountedInside after runs (spans_of after.nodesize came)
    → (address : ℕ) → is_inside runs address ≡ false
    → is_bad after (spans_of after.nodesize news) address ≡ is_bad before (spans_of before.nodesize olds) address
