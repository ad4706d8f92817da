-- What an index says, and when it stands for an image.
use Rattle.std.specs.Prelude.{◌≡◌, ℕ, List}
use Rattle.verdict.specs.Image.{range}
use Rattle.live_index.specs.Table.{pairs_of}
use Rattle.ledger_index.specs.Ledger.{IsTidy, sums_of}
use Rattle.span_index.specs.Table.{times_of}
use Rattle.commit_laws.specs.Commit.{IsKnown, Known}
use Rattle.commit_judge.specs.Flags.{free_in, full_in}
use Rattle.commit_judge.specs.declared.index.Index.{Index}

-- what an index says that is known of its image
abbrev pub known : {L : Type 0} → Index L → Known
known index = record {
  sup = index.sup;
  chunks = index.map;
  roots = index.roots.items;
  free = free_in index.sum_free;
  full = full_in index.full;
  pairs = pairs_of index.live;
  sums = sums_of index.totals;
  spans = times_of index.spans;
}

-- The index stands for an accepted image: what it says is known of the image, its bytes are those of the image's superblock place, and its
-- ledger has an entry for exactly the accounts whose sums are not all zero.
pub record IndexStands {L : Type 0} (image : List ℕ) (index : Index L) : Type 0 where
  pub known : IsKnown image (known index)
  pub raw : index.raw ≡ range 65536 4096 image
  pub entries : IsTidy index.totals

-- an index has the bytes of an image's superblock place
abbrev pub HasPlaceOf : {L : Type 0} → Index L → List ℕ → Type 0
HasPlaceOf index image = index.raw ≡ range 65536 4096 image
