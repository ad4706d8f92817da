-- What is known of an accepted image is sound, and a commit takes away no more than stands.
use Rattle.std.specs.Prelude.{◌≡◌, ℕ, ◌%◌, ◌^◌, ◌<◌, ◌≤◌, List, Ok}
use Rattle.std.specs.Ordering.{nat_cmp}
use Rattle.std.specs.FinMap.{FinMap}
use Rattle.accounts.specs.Sums.{total_of}
use Rattle.accounts.specs.declared.account.Account.{Account}
use Rattle.change_records.specs.Search.{AreAlone, AreLawful}
use Rattle.chunk_map.specs.Roots.{KeysAscend}
use Rattle.records.specs.Contents.{root_items_in}
use Rattle.tree_laws.specs.LivePairs.{Walked, walked}
use Rattle.span_index.specs.Sectors.{times_of_span}
use Rattle.span_index.specs.Spans.{end_of}
use Rattle.span_index.specs.declared.span.Span.{Span}
use Rattle.commit_laws.specs.Commit.{Commit, IsCommit, IsKnown, Known, came_by, context_by, gone_by}
use Rattle.commit_laws.specs.Sectors.{AreSound}
use Rattle.commit_laws.specs.Steps.{spans_of, step_posts}
use Rattle.volume_items.specs.declared.root_at.RootAt.{RootAt}

-- a span begins at a sector and ends at an address of 64 bits
abbrev pub IsWhole : Span → Type 0
IsWhole span = (span.first % 4096 ≡ 0) × (end_of span < 2 ^ 64)

-- the spans that are known are those of items: each keeps what its row asks and is whole, and an inode shows one at most at an offset
pub record SpansStand (k : Known) : Type 0 where
  pub lawful : AreLawful k.sup.nodesize k.spans
  pub alone : AreAlone k.spans
  pub whole : (span : Span) → 0 < k.spans span → IsWhole span

-- what a commit takes away and brings keeps what its rows ask, and what it takes away stands
pub record IsSound (k : Known) (c : Commit) : Type 0 where
  pub gone : AreSound k.sup.nodesize (gone_by k c)
  pub came : AreSound c.fresh.nodesize (came_by c)
  pub sums : (account : Account) (field : ℕ) → total_of (step_posts (context_by k) (gone_by k c) c.refs) account field ≤ k.sums account field
  pub spans : (span : Span) → times_of_span (spans_of k.sup.nodesize (gone_by k c)) span ≤ k.spans span

-- what is known of an accepted image is sound
abbrev pub KnownSpansLaw : Type 0
KnownSpansLaw = (image : List ℕ) (k : Known) → IsKnown image k → SpansStand k

-- so is what a commit changes of it
abbrev pub SoundLaw : Type 0
SoundLaw = (image : List ℕ) (pending : FinMap nat_cmp ℕ) (k : Known) (c : Commit) → IsKnown image k → IsCommit image pending k c → IsSound k c

-- the root items of an image stand in the order of their keys, and no two have one key
abbrev pub AscendLaw : Type 0
AscendLaw = (image : List ℕ) (whole : Walked) (roots : List RootAt)
    → walked image ≡ Ok whole → root_items_in whole.sup whole.chunks image ≡ Ok roots → KeysAscend roots
