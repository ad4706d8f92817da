-- What is known once a commit passed.
use Rattle.std.proofs.Common.{◌≡◌, ℕ, Bool, List, ◌∙◌}
use Rattle.std.proofs.Math.Path.{fun_ext}
use Rattle.accounts.specs.Tally.{Sums}
use Rattle.change_records.specs.SumFree.{flags_after}
use Rattle.live_index.specs.Pairs.{Pairs}
use Rattle.live_index.specs.declared.live.Live.{Live}
use Rattle.live_maker.specs.Tables.{with_pairs, without_pairs}
use Rattle.span_index.specs.Spans.{Table}
use Rattle.volume_items.specs.declared.root_at.RootAt.{RootAt}
use Rattle.commit_laws.specs.Commit.{Commit, Known}
use Rattle.commit_judge.specs.Judging.{next_of}

-- a table without some pairs, with others, and with those that moved
pub pairs_moved : (start less more all : Pairs) (old olds new news moved moves : List Live) → old ≡ olds → new ≡ news → moved ≡ moves
    → less ≡ without_pairs start old → more ≡ with_pairs less new → all ≡ with_pairs more moved
    → all ≡ with_pairs (with_pairs (without_pairs start olds) news) moves
pairs_moved start less more all old olds new news moved moves old_is new_is moved_is less_is more_is all_is =
    all_is ∙ (λ i. with_pairs ((more_is ∙ (λ j. with_pairs ((less_is ∙ (λ h. without_pairs start (old_is h))) j) (new_is j))) i) (moved_is i))

-- what is known is moved where each part is
pub passed : (k : Known) (c : Commit) (list : List RootAt) (free : ℕ → ℕ → Bool) (pairs : Pairs) (sums : Sums) (spans : Table)
    → list ≡ c.change.roots.items
    → ((tree ino : ℕ) → free tree ino ≡ flags_after c.change.old_items.items c.change.new_items.items c.changes k.free tree ino)
    → pairs ≡ with_pairs (with_pairs (without_pairs k.pairs c.change.old_blocks.items) c.change.new_blocks.items) c.change.moved.items
    → record { sup = c.fresh; chunks = c.change.map; roots = list; free = free; full = k.full; pairs = pairs; sums = sums; spans = spans }
    ≡ next_of k c sums spans
passed k c list free pairs sums spans roots_are free_are pairs_are =
    let frees : free ≡ flags_after c.change.old_items.items c.change.new_items.items c.changes k.free =
    fun_ext (λ tree. fun_ext (λ ino. free_are tree ino)) in
    λ i. record {
      sup = c.fresh;
      chunks = c.change.map;
      roots = roots_are i;
      free = frees i;
      full = k.full;
      pairs = pairs_are i;
      sums = sums;
      spans = spans;
    }
