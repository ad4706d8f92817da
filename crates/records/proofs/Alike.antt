-- A walk over two images in which the same is stored where it comes to.
use Rattle.std.proofs.Common.{◌≡◌, ℕ, zero, suc, List, [], ◌∷◌, ◌++◌, refl, ap, ◌∙◌}
use Rattle.std.specs.Prelude.{Result, Ok, Err}
use Rattle.std.specs.List.{flat_map}
use Rattle.verdict.specs.Rules.{and_then}
use Rattle.verdict.specs.declared.finding.Finding.{Finding}
use Rattle.super_reader.specs.declared.Super.{Super}
use Rattle.node_reader.specs.Faults.{block_of}
use Rattle.node_reader.specs.Layout.{pointers_of}
use Rattle.node_reader.specs.Stored.{Stored, block_in, found_by}
use Rattle.node_reader.specs.declared.expect.Expect.{Expect}
use Rattle.records.specs.Walk.{then_records, each, children_of, own_records, block_and, below}
use Rattle.records.specs.WalkLaw.{HighLeaves, StoredAlike, children_in, visited_from}

-- what is alike at two lists of blocks is alike at each
alike_split : (stored other : Stored) (first later : List Expect) → StoredAlike stored other (first ++ later) → StoredAlike stored other first × StoredAlike stored other later
alike_split stored other [] later alike = (tt, alike)
alike_split stored other (e ∷ es) later alike =
    let rest = alike_split stored other es later alike.1 in
    ((alike.0, rest.0), rest.1)

-- the block that is expected is the same where the same is stored at its address
block_alike : (stored other : Stored) (fsid : List ℕ) (e : Expect) → other e.address ≡ stored e.address → block_in other fsid e ≡ block_in stored fsid e
unfolding block_in
block_alike stored other fsid e alike = ap (λ found. and_then (found_by e found) (λ bytes. block_of bytes fsid e)) alike

-- the walks of several blocks are alike where each is
each_alike : (level : ℕ) (sup : Super) (stored other : Stored) (es : List Expect)
    → ((e : Expect) → StoredAlike stored other (visited_from level sup stored e) → block_and (below level sup other) sup other e ≡ block_and (below level sup stored) sup stored e)
    → StoredAlike stored other (flat_map (visited_from level sup stored) es)
    → each (block_and (below level sup other) sup other) es ≡ each (block_and (below level sup stored) sup stored) es
each_alike level sup stored other [] same alike = refl
each_alike level sup stored other (e ∷ es) same alike =
    let both = alike_split stored other (visited_from level sup stored e) (flat_map (visited_from level sup stored) es) alike in
    rw (same e both.0, each_alike level sup stored other es same both.1) refl

-- the walk of a node's children in both, where the node was read
node_alike : (level : ℕ) (sup : Super) (stored other : Stored) (e : Expect) (bytes : Result (List ℕ) Finding)
    → ((child : Expect) → StoredAlike stored other (visited_from level sup stored child) → block_and (below level sup other) sup other child ≡ block_and (below level sup stored) sup stored child)
    → StoredAlike stored other (flat_map (visited_from level sup stored) (children_in level e bytes))
    → and_then bytes (λ b. then_records (own_records sup e b) (below (suc level) sup other e b)) ≡ and_then bytes (λ b. then_records (own_records sup e b) (below (suc level) sup stored e b))
unfolding below
node_alike level sup stored other e (Err finding) same alike = refl
node_alike level sup stored other e (Ok bytes) same alike =
    ap (then_records (own_records sup e bytes)) (each_alike level sup stored other (children_of level e (pointers_of bytes)) same alike)

-- the walk from a block on a level in both
pub walk_alike : (level : ℕ) (sup : Super) (stored other : Stored) (e : Expect) → StoredAlike stored other (visited_from level sup stored e)
    → block_and (below level sup other) sup other e ≡ block_and (below level sup stored) sup stored e
unfolding below visited_from
walk_alike zero sup stored other e alike = ap (λ bytes. and_then bytes (λ b. then_records (own_records sup e b) (Ok []))) (block_alike stored other sup.fsid e alike.0)
walk_alike (suc level) sup stored other e alike =
    ap (λ bytes. and_then bytes (λ b. then_records (own_records sup e b) (below (suc level) sup other e b))) (block_alike stored other sup.fsid e alike.0)
    ∙ node_alike level sup stored other e (block_in stored sup.fsid e) (walk_alike level sup stored other) alike.1

-- a high key is in no record
pub leaves : HighLeaves
unfolding own_records
leaves = record { own = λ sup bytes e high. refl; entries = λ sup bytes e high parent. refl }
