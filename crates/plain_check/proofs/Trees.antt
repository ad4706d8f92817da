-- What the walks of the chunk tree and of the root tree give, whose records are kept.
use Rattle.std.proofs.Common.{◌≡◌, ℕ, List, [], length, Option, Some, None, Result, Ok, IfSome, ap, refl, sym, ◌∙◌}
use Rattle.std.specs.Ordering.{nat_cmp}
use Rattle.std.specs.FinMap.{FinMap}
use Rattle.verdict.specs.Rules.{and_then, finding_or}
use Rattle.verdict.specs.declared.finding.Finding.{Finding}
use Rattle.verdict.specs.declared.place.Chunk.{Chunk}
use Rattle.write_cache.specs.Cache.{overlaid}
use Rattle.write_cache.proofs.CacheLaws.{length-overlaid}
use Rattle.super_reader.specs.declared.Super.{Super}
use Rattle.volume_items.specs.MapRules.{map_finding}
use Rattle.node_reader.specs.declared.expect.Expect.{Expect}
use Rattle.records.specs.Seen.{Seen}
use Rattle.records.specs.Takes.{held_after, with_both, with_chunk, with_root}
use Rattle.records.specs.Walk.{behind, walk_in}
use Rattle.records.specs.Contents.{chunk_map_in, chunk_records, chunk_tree_root, root_items_in, root_records, root_tree_root, roots_fault}
use Rattle.plain_check.specs.Kept.{with_kept}
use Rattle.plain_check.proofs.Keeping.{first_held, second_told, second_told_first}
use Rattle.volume_items.specs.declared.root_at.RootAt.{RootAt}

-- where a walk began
begun : {A : Type 0} (first : A → Seen → A) (sup : Super) (chunks : List Chunk) (e root : Expect) (a none : A) (kept before : List Seen) (made : Result (A × List Seen) Finding) (image : List ℕ)
    → a ≡ none → kept ≡ before → e ≡ root
    → held_after (with_both first with_kept) (a, kept) (walk_in sup chunks e image) ≡ made
    → held_after (with_both first with_kept) (none, before) (walk_in sup chunks root image) ≡ made
begun {A} first sup chunks e root a none kept before made image p q r is =
    ap (λ (x : A). held_after (with_both first with_kept) (x, before) (walk_in sup chunks root image)) (sym p)
    ∙ ap (λ (y : List Seen). held_after (with_both first with_kept) (a, y) (walk_in sup chunks root image)) (sym q)
    ∙ ap (λ (f : Expect). held_after (with_both first with_kept) (a, kept) (walk_in sup chunks f image)) (sym r)
    ∙ is

-- what the first made of a walk that had no finding
first_made : {A : Type 0} (first : A → Seen → A) (sup : Super) (chunks : List Chunk) (root : Expect) (none a : A) (before kept : List Seen) (image : List ℕ)
    → held_after (with_both first with_kept) (none, before) (walk_in sup chunks root image) ≡ Ok (a, kept)
    → held_after first none (walk_in sup chunks root image) ≡ Ok a
first_made {A} first sup chunks root none a before kept image is =
    first_held first with_kept none before (walk_in sup chunks root image)
    ∙ ap (λ (r : Result (A × List Seen) Finding). and_then {A = A × List Seen} {B = A} r (λ both. Ok both.0)) is

-- the chunks of the chunk tree, or the finding on them
pub map_told : (told : Option (List ℕ)) (m : FinMap nat_cmp ℕ) (sup : Super) (array : List Chunk) (e : Expect) (none : List Chunk) (nothing : List Seen) (chunks : List Chunk) (kept : List Seen) (len end : ℕ) (found : Option Finding)
    → none ≡ [] → nothing ≡ [] → e ≡ chunk_tree_root sup
    → IfSome told (λ image. held_after (with_both with_chunk with_kept) (none, nothing) (walk_in sup array e (overlaid m 0 image)) ≡ Ok (chunks, kept))
    → IfSome told (λ image. length image ≡ len) → end ≡ len → found ≡ map_finding chunks array end
    → IfSome told (λ image. chunk_map_in sup array (overlaid m 0 image) ≡ and_then {A = Unit {0}} {B = List Chunk} (finding_or found (tt {0})) (λ _. Ok chunks))
unfolding chunk_map_in
map_told None m sup array e none nothing chunks kept len end found p q r is size same finds = tt
map_told (Some image) m sup array e none nothing chunks kept len end found p q r is size same finds =
    let x = overlaid m 0 image in
    let whole : length x ≡ end = length-overlaid m 0 image ∙ size ∙ sym same in
    let walked : held_after with_chunk [] (chunk_records sup array x) ≡ Ok chunks =
    first_made with_chunk sup array (chunk_tree_root sup) [] chunks [] kept x (begun with_chunk sup array e (chunk_tree_root sup) none [] nothing [] (Ok (chunks, kept)) x p q r is) in
    ap (λ (held : Result (List Chunk) Finding). and_then {A = List Chunk} {B = List Chunk} held (λ cs. and_then {A = Unit {0}} {B = List Chunk} (finding_or (map_finding cs array (length x)) (tt {0})) (λ _. Ok cs))) walked
    ∙ ap (λ (f : Option Finding). and_then {A = Unit {0}} {B = List Chunk} (finding_or f (tt {0})) (λ _. Ok chunks)) (ap (map_finding chunks array) whole ∙ sym finds)

-- its records
pub chunk_kept : (told : Option (List ℕ)) (m : FinMap nat_cmp ℕ) (sup : Super) (array : List Chunk) (e : Expect) (none : List Chunk) (nothing : List Seen) (chunks : List Chunk) (kept : List Seen)
    → none ≡ [] → nothing ≡ [] → e ≡ chunk_tree_root sup
    → IfSome told (λ image. held_after (with_both with_chunk with_kept) (none, nothing) (walk_in sup array e (overlaid m 0 image)) ≡ Ok (chunks, kept))
    → IfSome told (λ image. chunk_records sup array (overlaid m 0 image) ≡ Ok kept)
chunk_kept None m sup array e none nothing chunks kept p q r is = tt
chunk_kept (Some image) m sup array e none nothing chunks kept p q r is =
    second_told_first (Some image) m with_chunk [] (chunk_records sup array) (Ok (chunks, kept))
    (begun with_chunk sup array e (chunk_tree_root sup) none [] nothing [] (Ok (chunks, kept)) (overlaid m 0 image) p q r is)

-- the root items of the root tree, or the finding on them
roots_made : (m : FinMap nat_cmp ℕ) (sup : Super) (chunks : List Chunk) (e : Expect) (none : List RootAt) (before : List Seen) (roots said : List RootAt) (kept : List Seen) (image : List ℕ)
    → none ≡ [] → e ≡ root_tree_root sup
    → held_after (with_both with_root with_kept) (none, before) (walk_in sup chunks e image) ≡ Ok (roots, kept) → said ≡ roots
    → root_items_in sup chunks image ≡ and_then {A = Unit {0}} {B = List RootAt} (finding_or (roots_fault sup.compat_ro said) (tt {0})) (λ _. Ok roots)
unfolding root_items_in
roots_made m sup chunks e none before roots said kept image p r is same =
    let walked : held_after with_root [] (root_records sup chunks image) ≡ Ok roots =
    first_made with_root sup chunks (root_tree_root sup) [] roots before kept image (begun with_root sup chunks e (root_tree_root sup) none [] before before (Ok (roots, kept)) image p refl r is) in
    ap (λ (held : Result (List RootAt) Finding). and_then {A = List RootAt} {B = List RootAt} held (λ rs. and_then {A = Unit {0}} {B = List RootAt} (finding_or (roots_fault sup.compat_ro rs) (tt {0})) (λ _. Ok rs))) walked
    ∙ ap (λ (rs : List RootAt). and_then {A = Unit {0}} {B = List RootAt} (finding_or (roots_fault sup.compat_ro rs) (tt {0})) (λ _. Ok roots)) (sym same)

-- the root items, or the finding on them
pub roots_told : (told : Option (List ℕ)) (m : FinMap nat_cmp ℕ) (sup : Super) (chunks : List Chunk) (e : Expect) (none : List RootAt) (before : List Seen) (roots said : List RootAt) (kept : List Seen) (found : Option Finding)
    → none ≡ [] → e ≡ root_tree_root sup
    → IfSome told (λ image. held_after (with_both with_root with_kept) (none, before) (walk_in sup chunks e (overlaid m 0 image)) ≡ Ok (roots, kept)) → said ≡ roots
    → found ≡ roots_fault sup.compat_ro said
    → IfSome told (λ image. root_items_in sup chunks (overlaid m 0 image) ≡ and_then {A = Unit {0}} {B = List RootAt} (finding_or found (tt {0})) (λ _. Ok roots))
roots_told None m sup chunks e none before roots said kept found p r is same finds = tt
roots_told (Some image) m sup chunks e none before roots said kept found p r is same finds =
    roots_made m sup chunks e none before roots said kept (overlaid m 0 image) p r is same
    ∙ ap (λ (f : Option Finding). and_then {A = Unit {0}} {B = List RootAt} (finding_or f (tt {0})) (λ _. Ok roots)) (sym finds)

-- its records behind others
pub roots_kept : (told : Option (List ℕ)) (m : FinMap nat_cmp ℕ) (sup : Super) (chunks : List Chunk) (e : Expect) (none : List RootAt) (before : List Seen) (roots : List RootAt) (kept : List Seen)
    → none ≡ [] → e ≡ root_tree_root sup
    → IfSome told (λ image. held_after (with_both with_root with_kept) (none, before) (walk_in sup chunks e (overlaid m 0 image)) ≡ Ok (roots, kept))
    → IfSome told (λ image. behind before (root_records sup chunks (overlaid m 0 image)) ≡ Ok kept)
roots_kept None m sup chunks e none before roots kept p r is = tt
roots_kept (Some image) m sup chunks e none before roots kept p r is =
    second_told (Some image) m with_root [] before (root_records sup chunks) (Ok (roots, kept))
    (begun with_root sup chunks e (root_tree_root sup) none [] before before (Ok (roots, kept)) (overlaid m 0 image) p refl r is)
