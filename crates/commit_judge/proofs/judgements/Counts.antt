-- The blocks that a commit changes, and those that a stop may harm.
use Rattle.std.proofs.Common.{◌≡◌, ℕ, ◌+◌, List, length, ap, sym, ◌∙◌}
use Rattle.std.specs.Prelude.{◌||◌, not, Ok}
use Rattle.std.specs.List.{count_by}
use Rattle.std.proofs.lemmas.List.Sorted.{length_permutation}
use Rattle.commit_laws.proofs.other_images.Frame.{same_held}
use Rattle.live_index.specs.declared.live.Live.{Live}
use Rattle.records.specs.Contents.{Contents, contents}
use Rattle.tree_laws.specs.LivePairs.{Walked, live_in, walked}
use Rattle.tree_laws.specs.Shared.{unshared_in}
use Rattle.super_reader.specs.declared.Super.{Super}
use Rattle.touched_blocks.specs.Touched.{Written, stays_in_place, touches_block, written_in}
use Rattle.verdict.specs.declared.place.Chunk.{Chunk}
use Rattle.write_cache.specs.Cache.{overlaid}
use Rattle.commit_laws.specs.Commit.{IsKnown, Known}
use Rattle.commit_laws.specs.Flags.{HotLaw, hot_of, is_hot}
use Rattle.commit_laws.specs.Same.{HeldLaw}
use Rattle.commit_judge.specs.Counts.{blocks_between, hot_between, may_be_harmed, over_walks}
use Rattle.commit_judge.specs.Judging.{CountsLaw, is_hot_by}

-- the superblock and the chunks that are known of an accepted image are those of its walks
known_sup : HeldLaw → (image : List ℕ) (k : Known) (old : Walked) → IsKnown image k → walked image ≡ Ok old → k.sup ≡ old.sup
known_sup held image k old known was =
    let h = held image old was in
    known.bases.super_is ∙ ap (λ (x : Contents). x.sup) (same_held image known.bases.held h.0 known.bases.holds h.1) ∙ h.2.sup

known_chunks : HeldLaw → (image : List ℕ) (k : Known) (old : Walked) → IsKnown image k → walked image ≡ Ok old → k.chunks ≡ old.chunks
known_chunks held image k old known was =
    let h = held image old was in
    known.bases.chunks_are ∙ ap (λ (x : Contents). x.chunks) (same_held image known.bases.held h.0 known.bases.holds h.1) ∙ h.2.chunks

hot_by : (written : Written) (end : ℕ) (old new : Walked) (sup : Super) (before after : List Chunk) (lives : List Live)
    → sup ≡ old.sup → before ≡ old.chunks → after ≡ new.chunks
    → count_by (λ (live : Live). touches_block written before sup.nodesize end live.address
    || not (stays_in_place before after sup.nodesize end live.address)) lives
    ≡ hot_of old new written end lives
unfolding is_hot
hot_by written end old new sup before after lives sup_is before_is after_is = λ i.
    count_by (λ (live : Live). touches_block written (before_is i) ((sup_is i).nodesize) end live.address
    || not (stays_in_place (before_is i) (after_is i) ((sup_is i).nodesize) end live.address)) lives

pub counts : HeldLaw → HotLaw → CountsLaw
unfolding blocks_between hot_between is_hot
counts held hot image pending k c known commit =
    let old = commit.change_is.0 in
    let new = commit.change_is.1 in
    let was = commit.change_is.2 in
    let will = commit.change_is.3 in
    let is = commit.change_is.4 in
    let written = written_in pending in
    let end = length image in
    let unshared : Walked → Walked → ℕ = λ o n. length (unshared_in o n written end o) + length (unshared_in o n written end n) in
    let hots : Walked → Walked → ℕ = λ o n. count_by (may_be_harmed o n written end) (live_in o.seen) in
    let lengths : length c.change.old_blocks.items + length c.change.new_blocks.items ≡ unshared old new =
    λ i. length_permutation _ _ is.old_blocks i + length_permutation _ _ is.new_blocks i in
    let walks : over_walks unshared (walked image) (walked (overlaid pending 0 image)) ≡ unshared old new = λ i. over_walks unshared (was i) (will i) in
    let all : over_walks hots (walked image) (walked (overlaid pending 0 image)) ≡ hots old new = λ i. over_walks hots (was i) (will i) in
    let among : count_by (is_hot_by k c pending end) c.change.old_blocks.items ≡ hot_of old new written end c.change.old_blocks.items =
    hot_by written end old new k.sup k.chunks c.change.map c.change.old_blocks.items (known_sup held image k old known was)
    (known_chunks held image k old known was) is.map in
    (lengths ∙ sym walks, among ∙ (sym (hot old new written end c.change is) ∙ sym all))
