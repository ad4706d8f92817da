-- These words serve private functions alone: what is made of the records of an image by one that fills the tables of its index.
use Rattle.std.specs.Prelude.{◌≡◌, ℕ, ◌+◌, ◌-◌, ◌*◌, ◌^◌, ◌≤◌, List, [], ◌∷◌, ◌++◌, length, Option, Some, None, option_map, Result, Ok, Err, IfOk}
use Rattle.verdict.specs.Rules.{and_then}
use Rattle.verdict.specs.declared.finding.Finding.{Finding}
use Rattle.verdict.specs.declared.finding.Verdict.TheVariants.{Found as Refusal}
use Rattle.verdict.specs.declared.place.Chunk.{Chunk}
use Rattle.account_tally.specs.Sums.{Frees, none_free, or_free}
use Rattle.accounts.specs.Broken.{broken_finding, is_broken}
use Rattle.accounts.specs.Context.{Context}
use Rattle.accounts.specs.Least.{IsLeastBroken}
use Rattle.accounts.specs.Tally.{Sums, no_sums}
use Rattle.accounts.specs.declared.account.Account.{Account}
use Rattle.block_source.specs.declared.halt.Halt.{Halt}
use Rattle.block_source.specs.declared.halt.Halt.TheVariants.{Found, Disk, NoMemory}
use Rattle.account_tally.specs.Kept.{chosen}
use Rattle.commit_laws.specs.Steps.{all_posts, posts_of, spans_of}
use Rattle.change_records.specs.Affected.{context_with}
use Rattle.change_records.specs.Spans.{span_of}
use Rattle.ledger_index.specs.Ledger.{entries_of, sums_of}
use Rattle.live_index.specs.Table.{pairs_of}
use Rattle.plain_check.specs.Opened.{Opened, named_records}
use Rattle.plain_check.specs.OpeningLaw.{contents_with}
use Rattle.records.specs.Context.{has_sum_free, sum_free_inode}
use Rattle.records.specs.FullCheck.{full_check}
use Rattle.records.specs.Part.{Located}
use Rattle.records.specs.Seen.{Seen}
use Rattle.tree_laws.specs.LivePairs.{live_in, table_of}
use Rattle.span_index.specs.Sectors.{IsFirstBad, is_bad, times_of_span}
use Rattle.span_index.specs.Spans.{Table, no_spans, with_span}
use Rattle.span_index.specs.Table.{times_of}
use Rattle.span_index.specs.declared.span.Run.{Run}
use Rattle.span_index.specs.declared.span.Span.{Span}
use Rattle.ledger_index.specs.Looks.{counted_times}
use Rattle.touched_accounts.specs.Looks.{HaveLooks}
use Rattle.touched_accounts.specs.Sums.{with_all}
use Rattle.lookup_bounds.specs.Work.{starting_work}
use Rattle.commit_judge.specs.Flags.{free_in}
use Rattle.commit_judge.specs.Start.{IsReady}
use Rattle.commit_judge.specs.declared.filler.Filling.{Filling}
use Rattle.commit_judge.specs.declared.filling.Tables.{Tables}
use Rattle.commit_judge.specs.declared.index.Index.{Index}

-- What is made of records, in an image with these chunks and this size of a tree block: the sums of all accounts but sectors, the spans,
-- and the inodes whose data has no checksums; and how many looks were counted before, and then.
pub record Filled : Type 0 where
  pub chunks : List Chunk
  pub nodesize : ℕ
  pub sums : Sums
  pub spans : Table
  pub free : Frees
  pub began : ℕ
  pub looks : ℕ

-- a table with a span once more, if there is one
abbrev pub with_option : Table → Option Span → Table
with_option table None = table
with_option table (Some span) = with_span table span

-- a span is put by a look
abbrev pub looks_of : Option Span → ℕ
looks_of None = 0
looks_of (Some span) = 1

-- that, with a record more; what it posts but to sectors does not rest on which data has checksums
abbrev pub with_located : Filled → Located → Filled
with_located held one = record {
  chunks = held.chunks;
  nodesize = held.nodesize;
  sums = with_all held.sums (posts_of (context_with held.chunks held.nodesize held.free) one);
  spans = with_option held.spans (span_of held.nodesize one);
  free = or_free held.free (sum_free_inode one);
  began = held.began;
  looks = counted_times
      (looks_of (span_of held.nodesize one) + length (posts_of (context_with held.chunks held.nodesize held.free) one)) held.looks;
}

-- what is made of no records
abbrev pub of_none : List Chunk → ℕ → ℕ → Filled
of_none chunks nodesize began =
    record { chunks = chunks; nodesize = nodesize; sums = no_sums; spans = no_spans; free = none_free; began = began; looks = began }

-- what is made of the records that were taken
abbrev pub filled_in : {L : Type 0} → Filling L → Filled
filled_in filling = record {
  chunks = filling.map.now;
  nodesize = filling.nodesize;
  sums = sums_of filling.adding.ledger;
  spans = times_of filling.spans;
  free = free_in filling.free;
  began = filling.began;
  looks = filling.adding.steps.now;
}

-- these are the tables of an image of which this is known, where the trees that root items name have these records
pub record AreTablesWith {L : Type 0} (o : Opened) (more : List Seen) (tables : Tables L) : Type 0 where
  pub live : pairs_of tables.live ≡ table_of (live_in (o.seen ++ more))
  pub sums : sums_of tables.totals ≡ with_all no_sums (all_posts (context_with o.chunks o.sup.nodesize none_free) (contents_with o more).records)
  pub spans : (span : Span) → times_of tables.spans span ≡ times_of_span (spans_of o.sup.nodesize (contents_with o more).records) span
  pub free : free_in tables.free ≡ has_sum_free (contents_with o more).records

-- these are the tables of an image of which this is known
abbrev pub AreTablesOf : {L : Type 0} → Opened → List ℕ → Tables L → Type 0
AreTablesOf o image tables = (more : List Seen) × (named_records o image ≡ Ok more) × AreTablesWith o more tables

-- The tables of these records are made by one look for each posting but to sectors, each span and each live pair. No more entries of the
-- ledger stand than looks were counted before those for the pairs, or the counter stood at its greatest value then.
pub record AreFewToMake {L : Type 0} (o : Opened) (more : List Seen) (tables : Tables L) (before after : ℕ) : Type 0 where
  pub between : ℕ
  pub filled : between
      ≤ before + length (all_posts (context_with o.chunks o.sup.nodesize none_free) (contents_with o more).records)
      + length (spans_of o.sup.nodesize (contents_with o more).records)
  pub entries : HaveLooks before (entries_of tables.totals) between
  pub pairs : after ≤ between + length (live_in (o.seen ++ more))

-- the same of an image of which this is known
abbrev pub FewToMake : {L : Type 0} → Opened → List ℕ → Tables L → ℕ → ℕ → Type 0
FewToMake o image tables before after = IfOk (named_records o image) (λ more. AreFewToMake o more tables before after)

-- the walk of the trees that root items name: whether it comes to its end, or its first finding
abbrev pub named_walk : Opened → List ℕ → Result (Unit {0}) Finding
named_walk o image = and_then (named_records o image) (λ more. Ok (tt {0}))

-- the addresses of 64 bits, but for the last 4096: where a span ends at an address of 64 bits it has no sector behind these
abbrev pub all_sectors : List Run
all_sectors = record { from = 0; until = 2 ^ 64 - 4096 } ∷ []

-- the finding of the lesser of the least broken sector by a table of spans, and of the least account that is broken by these sums
pub record IsFoundBy (sums : Sums) (table : Table) (context : Context) (finding : Option Finding) : Type 0 where
  pub bad : Option ℕ
  pub least : Option Account
  pub spans : List Span
  pub times : (span : Span) → times_of_span spans span ≡ table span
  pub bad_is : IsFirstBad (is_bad context spans) all_sectors bad
  pub least_is : IsLeastBroken (λ account. is_broken account (sums account)) least
  pub found : finding ≡ option_map broken_finding (chosen bad least)

-- To find the least broken account by tables there are no more looks than spans in the table, each as often as it stands, entries of the
-- ledger, and six more; and the counter ends below 2^64.
pub record FewToSearch {L : Type 0} (tables : Tables L) (before after : ℕ) : Type 0 where
  pub spans : List Span
  pub times : (span : Span) → times_of_span spans span ≡ times_of tables.spans span
  pub few : after ≤ before + length spans + 6 + entries_of tables.totals
  pub small : after ≤ 2 ^ 64 - 1

-- why an image has no index: its full check has this finding, or a step had a fault
abbrev pub IsRefusal : List ℕ → Halt → Type 0
IsRefusal image (Found finding) = full_check image ≡ Refusal finding
IsRefusal image Disk = Unit {0}
IsRefusal image NoMemory = Unit {0}

-- an image's index, or why it has none
abbrev pub IsIndexed : {L : Type 0} → List ℕ → ℕ → ℕ → Result (Index L) Halt → Type 0
IsIndexed image before after (Ok index) = IsReady image before after index
IsIndexed image before after (Err halt) = IsRefusal image halt

-- the looks of an index that an image has
abbrev pub LooksToIndex : {L : Type 0} → List ℕ → ℕ → ℕ → Result (Index L) Halt → Type 0
LooksToIndex image before after (Ok index) = after ≤ before + 64 * starting_work image
LooksToIndex image before after (Err halt) = Unit {0}
