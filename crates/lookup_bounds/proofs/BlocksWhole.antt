-- The blocks and items of a commit, counted by the pairs that two images do not share.
use Rattle.std.proofs.Common.{◌≡◌, ℕ, ◌≤◌, List, length, map, subst, arith}
use Rattle.std.specs.List.Sorted.{IsPermutation}
use Rattle.std.proofs.lemmas.List.{length-map}
use Rattle.std.proofs.lemmas.List.Sorted.{length_permutation}
use Rattle.commit_laws.proofs.next_index.Flags.{ascend_items}
use Rattle.live_index.specs.declared.live.Live.{Live}
use Rattle.records.specs.declared.rec.ItemAt.{ItemAt}
use Rattle.tree_laws.specs.LivePairs.{Walked, walked}
use Rattle.tree_laws.specs.Shared.{are_read_alike, is_shared}
use Rattle.tree_laws.specs.Unshared.{items_in}
use Rattle.touched_blocks.specs.Touched.{written_in}
use Rattle.tree_change.specs.Change.{IsChange}
use Rattle.tree_change.specs.Gathered.{located_item}
use Rattle.tree_change.specs.OneTree.{side_of}
use Rattle.write_cache.specs.Cache.{overlaid}
use Rattle.commit_laws.specs.Commit.{came_by, gone_by}
use Rattle.commit_laws.specs.Paired.{AllChangesLaw, PairedLaw, came_items, gone_items}
use Rattle.commit_laws.specs.Steps.{spans_of}
use Rattle.commit_laws.proofs.whole_commits.Commit.{ok_same}
use Rattle.lookup_bounds.specs.Blocks.{BlocksCountedLaw}
use Rattle.tree_change.specs.Accepted.{unshared_old}
use Rattle.lookup_bounds.specs.Work.{unshared_new}
use Rattle.lookup_bounds.proofs.BlocksChanges.{few_changes, spans_less}
use Rattle.tree_change.proofs.FewSums.{entries_permuted}
use Rattle.lookup_bounds.proofs.BlocksEntries.{items_less}

-- items that are those of some pairs in another order are as few
items_few : (lives : List Live) (whole : Walked) (items : List ItemAt) (bound : ℕ)
    → IsPermutation (items_in lives whole.seen) (map located_item items) → length (items_in lives whole.seen) ≤ bound → length items ≤ bound
items_few lives whole items bound same less =
    joins (length items) (length (map located_item items)) (length (items_in lives whole.seen)) bound (length-map items located_item)
    (length_permutation (items_in lives whole.seen) (map located_item items) same) less
  where
    joins : (a b n m : ℕ) → b ≡ a → b ≡ n → n ≤ m → a ≤ m
    joins a b n m x y z = omega arith

most : (a b n : ℕ) → a ≤ b → b ≤ n → a ≤ n
most a b n x y = omega arith

pub counted : PairedLaw → AllChangesLaw → BlocksCountedLaw
counted pair all image pending k next c old new passage =
    let judged = overlaid pending 0 image in
    let written = written_in pending in
    let end = length image in
    let is = passage.commit in
    let diff = is.change_is in
    let was : diff.0 ≡ old = ok_same (walked image) diff.0 old diff.2 passage.was in
    let will : diff.1 ≡ new = ok_same (walked judged) diff.1 new diff.3 passage.is in
    let moved : IsChange old new written end c.change =
    subst (λ (o : Walked). IsChange o new written end c.change) was
    (subst (λ (n : Walked). IsChange diff.0 n written end c.change) will diff.4) in
    let olds = c.change.old_items.items in
    let news = c.change.new_items.items in
    let old_lives = unshared_old image pending old new in
    let new_lives = unshared_new image pending old new in
    let shared = is_shared old new written end in
    let few =
    few_changes pair all (are_read_alike k.sup c.fresh) olds news c.changes (ascend_items olds moved.old_items.ascends)
    (ascend_items news moved.new_items.ascends) is.changes_are in
    let gone = gone_items olds c.changes in
    let came = came_items news c.changes in
    record {
      old_blocks = length_permutation old_lives c.change.old_blocks.items moved.old_blocks;
      new_blocks = length_permutation new_lives c.change.new_blocks.items moved.new_blocks;
      old_entries = entries_permuted (side_of image old) old_lives c.change.old_blocks.items moved.old_blocks;
      new_entries = entries_permuted (side_of judged new) new_lives c.change.new_blocks.items moved.new_blocks;
      old_items = items_few old_lives old olds _ moved.old_items.all (items_less image old shared passage.was);
      new_items = items_few new_lives new news _ moved.new_items.all (items_less judged new shared passage.is);
      changes = few.all;
      gone_spans = most (length (spans_of k.sup.nodesize (gone_by k c))) (length gone) (length olds)
          (spans_less k.sup.nodesize k.sup c.change.old_blocks.items gone) few.gone;
      came_spans = most (length (spans_of c.fresh.nodesize (came_by c))) (length came) (length news)
          (spans_less c.fresh.nodesize c.fresh c.change.new_blocks.items came) few.came;
    }
