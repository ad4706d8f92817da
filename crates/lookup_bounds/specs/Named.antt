-- The sectors that a commit changes are among those to which the postings go that count.
use Rattle.std.specs.Prelude.{◌≡◌, ℕ, ◌<◌, ◌==◌, ◌&&◌, Bool, true, List, ◌++◌}
use Rattle.std.specs.List.{Contains, list_any}
use Rattle.std.specs.Ordering.{nat_cmp}
use Rattle.std.specs.FinMap.{FinMap}
use Rattle.accounts.specs.declared.postings.Posting.{Posting}
use Rattle.span_index.specs.Sectors.{counts, has_sector}
use Rattle.span_index.specs.declared.span.Span.{Span}
use Rattle.records.specs.SpacePostings.{is_to_sector}
use Rattle.change_records.specs.Search.{SpanNames}
use Rattle.change_records.specs.declared.item_ref.ItemRef.{ItemRef}
use Rattle.tree_laws.specs.LivePairs.{Walked}
use Rattle.commit_laws.specs.Commit.{Commit, Known, came_by, context_by, gone_by}
use Rattle.commit_laws.specs.Steps.{spans_of}
use Rattle.lookup_bounds.specs.Postings.{IsPassage}
use Rattle.lookup_bounds.specs.Work.{new_postings, old_postings}

-- whether one of some postings goes to the sector at an address
unfoldable pub names_sector : List Posting → ℕ → Bool
names_sector postings address = list_any (λ posting. is_to_sector posting && posting.account.block == address) postings

-- the same of the postings that count in either image
abbrev pub is_named_sector : List ℕ → FinMap nat_cmp ℕ → Walked → Walked → ℕ → Bool
is_named_sector image pending old new = names_sector (old_postings image pending old new ++ new_postings image pending old new)

-- To each sector of a span that is gone and counted, that came and counts, or that has the name of a kept item that posts otherwise, a
-- posting goes that counts. Each such name is that of a span of the table.
pub record AreSectorsNamed (image : List ℕ) (pending : FinMap nat_cmp ℕ) (k next : Known) (c : Commit) (old new : Walked) : Type 0 where
  pub gone : (span : Span) (address : ℕ) → Contains (spans_of k.sup.nodesize (gone_by k c)) span → counts (context_by k) span span.sort ≡ true
      → has_sector span address ≡ true → is_named_sector image pending old new address ≡ true
  pub came : (span : Span) (address : ℕ) → Contains (spans_of c.fresh.nodesize (came_by c)) span → counts (context_by next) span span.sort ≡ true
      → has_sector span address ≡ true → is_named_sector image pending old new address ≡ true
  pub found : (span : Span) (at : ItemRef) (address : ℕ) → 0 < k.spans span → SpanNames k.pairs span at → Contains c.refs at
      → has_sector span address ≡ true → is_named_sector image pending old new address ≡ true
  pub names : (at : ItemRef) → Contains c.refs at → (span : Span) × (0 < k.spans span) × SpanNames k.pairs span at

-- so it is with each commit from an accepted image to another
abbrev pub NamedLaw : Type 0
NamedLaw = (image : List ℕ) (pending : FinMap nat_cmp ℕ) (k next : Known) (c : Commit) (old new : Walked)
    → IsPassage image pending k next c old new → AreSectorsNamed image pending k next c old new
