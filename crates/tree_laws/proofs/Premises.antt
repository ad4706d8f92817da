-- Where the calls that mark and list by a table of live pairs keep their promises, the trees of an image are marked and listed.
use Rattle.std.proofs.Common.{◌≡◌, ℕ, ◌+◌, ◌≤◌, Bool, true, false, List, [], ◌∷◌, length, inl, inr, arith, if◌then◌else◌}
use Rattle.std.specs.Prelude.{Option, Some, None, Ok, nat_le}
use Rattle.std.specs.List.{AllByRecursion}
use Rattle.verdict.proofs.Lists.{all_map as each_map}
use Rattle.verdict.specs.declared.place.Chunk.{Chunk}
use Rattle.verdict.proofs.Tables.{joined_none}
use Rattle.volume_items.specs.ChunkOrder.{all_by_start, by_start, put_by_start}
use Rattle.volume_items.specs.MapRules.{array_rows, map_finding, rows_by_start}
use Rattle.touched_blocks.specs.Moves.{AreApart, LieApart}
use Rattle.tree_laws.specs.LivePairs.{Walked, walked}
use Rattle.tree_laws.proofs.ArrayTree.{Chain, above, chain_of, put_each}
use Rattle.tree_laws.proofs.Treed.{map_kept, steps_of}

pub flip : (c d : Chunk) → LieApart c d → LieApart d c
flip c d (inl is) = inr is
flip c d (inr is) = inl is

-- chunks each of which begins where the one before it ends, or above, lie apart
chain_apart : (last : Option Chunk) (chunks : List Chunk) → Chain last chunks → AreApart chunks
chain_apart last [] chain = tt
chain_apart last (c ∷ cs) chain = (
  each_map (λ d. c.start + c.length ≤ d.start) (LieApart c) cs (λ d low. inl low) (above (c.start + c.length) c cs chain.1 (omega arith)),
  chain_apart (Some c) cs chain.1,
)

-- chunks of which one is put at its place lie apart without it, and from it
put_apart : (c : Chunk) (sorted : List Chunk) → AreApart (put_by_start c sorted) → AllByRecursion (LieApart c) sorted × AreApart sorted
put_apart c [] apart = (tt, tt)
put_apart c (d ∷ sorted) apart = by (nat_le d.start c.start) apart (put_apart c sorted)
  where
    by : (b : Bool) → AreApart (if b then d ∷ put_by_start c sorted else c ∷ d ∷ sorted)
        → (AreApart (put_by_start c sorted) → AllByRecursion (LieApart c) sorted × AreApart sorted)
        → AllByRecursion (LieApart c) (d ∷ sorted) × AreApart (d ∷ sorted)
    by true apart rest =
        let here = put_each (LieApart d) c sorted apart.0 in
        let more = rest apart.1 in
        ((flip d c here.0, more.0), (here.1, more.1))
    by false apart rest = apart

-- where chunks by start lie apart, they lie apart in any order
all_apart : (sorted chunks : List Chunk) → AreApart (all_by_start sorted chunks)
    → AllByRecursion (λ d. AllByRecursion (LieApart d) sorted) chunks × AreApart sorted × AreApart chunks
unfolding all_by_start
all_apart sorted [] apart = (tt, apart, tt)
all_apart sorted (c ∷ chunks) apart =
    let more = all_apart (put_by_start c sorted) chunks apart in
    let here = put_apart c sorted more.1 in (
      (
        here.0,
        each_map (λ d. AllByRecursion (LieApart d) (put_by_start c sorted)) (λ d. AllByRecursion (LieApart d) sorted) chunks
            (λ d all. (put_each (LieApart d) c sorted all).1) more.0,
      ),
      here.1,
      (
        each_map (λ d. AllByRecursion (LieApart d) (put_by_start c sorted)) (LieApart c) chunks
            (λ d all. flip d c (put_each (LieApart d) c sorted all).0) more.0,
        more.2,
      ),
    )

-- chunks lie apart where the rules on the map keep
pub map_apart : (chunks array : List Chunk) (end : ℕ) → map_finding chunks array end ≡ None → AreApart chunks
map_apart chunks array end none =
    let both = joined_none (array_rows chunks array) (rows_by_start [] (by_start chunks) end) none in
    (all_apart [] chunks (chain_apart None (by_start chunks) (chain_of [] (by_start chunks) end both.1))).2

-- the chunks of an image lie apart
pub chunks_apart : (image : List ℕ) (whole : Walked) → walked image ≡ Ok whole → AreApart whole.chunks
chunks_apart image whole walks =
    let steps = steps_of image whole walks in
    map_apart whole.chunks steps.array (length image) (map_kept whole.sup steps.array whole.chunks image steps.chunks_are)
