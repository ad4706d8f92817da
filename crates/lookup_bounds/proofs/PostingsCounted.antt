-- Which items count, and how much is posted of what a commit takes away or brings.
use Rattle.std.proofs.Common.{◌≡◌, suc, ◌+◌, ◌*◌, ◌≤◌, ◌||◌, Bool, true, false, cond, not, List, [], ◌∷◌, ◌++◌, length, map}
use Rattle.std.proofs.Common.{refl, ap, sym, ◌∙◌, subst, arith}
use Rattle.std.specs.Prelude.{Some, None}
use Rattle.std.specs.List.{AllPairs, Contains, cons_option, filter, filter_map, flat_map}
use Rattle.std.specs.List.Sorted.{IsPermutation}
use Rattle.std.proofs.lemmas.Bool.{or_left, or_right}
use Rattle.std.proofs.lemmas.List.{length-append}
use Rattle.std.proofs.lemmas.List.Sorted.{length_permutation}
use Rattle.accounts.specs.Context.{Context}
use Rattle.accounts.specs.declared.postings.Posting.{Posting}
use Rattle.change_records.specs.Spans.{StandApart}
use Rattle.change_records.specs.declared.item_ref.ItemRef.{ItemRef}
use Rattle.change_records.proofs.Merge.{contains_first, contains_more}
use Rattle.live_index.specs.declared.live.Live.{Live}
use Rattle.records.specs.Contents.{super_record}
use Rattle.records.specs.DirPostings.{dir_postings}
use Rattle.records.specs.ExtentPostings.{extent_postings}
use Rattle.records.specs.InodePostings.{inode_postings}
use Rattle.records.specs.Part.{Located}
use Rattle.records.specs.Postings.{all_postings, postings_of}
use Rattle.records.specs.Seen.{Seen}
use Rattle.records.specs.Seen.Seen.{BlockSeen, ItemSeen, PointerSeen}
use Rattle.records.specs.SpacePostings.{is_to_sector, space_postings}
use Rattle.tree_laws.specs.LivePairs.{Walked}
use Rattle.tree_laws.specs.Unshared.{item_seen, items_in}
use Rattle.super_reader.specs.declared.Super.{Super}
use Rattle.commit_laws.specs.Items.{items_of}
use Rattle.commit_laws.specs.Kept.{placed_postings}
use Rattle.commit_laws.specs.Same.{live_record}
use Rattle.commit_laws.specs.Steps.{all_posts, change_records, posts_of, step_posts}
use Rattle.commit_laws.proofs.named_items.Filters.{filter_in, in_filter}
use Rattle.commit_laws.proofs.steps_between.Flat.{flat_append}
use Rattle.commit_laws.proofs.steps_between.Postings.{left_posts, rest_posts}
use Rattle.lookup_bounds.specs.Work.{are_same_postings, items_that_count, posts_otherwise, stands_in}
use Rattle.lookup_bounds.proofs.HousedPosts.{same_lists}
use Rattle.lookup_bounds.proofs.PostingsApart.{no_more}

-- ---- which items count

-- an item posts otherwise by two contexts
abbrev pub Differs : Context → Context → Located → Type 0
Differs before after one = postings_of before one ≡ postings_of after one → ⊥

is_otherwise : (before after : Context) (one : Located) → Differs before after one → posts_otherwise before after one ≡ true
is_otherwise before after one differs = by (are_same_postings (postings_of before one) (postings_of after one)) refl
  where
    by : (b : Bool) → are_same_postings (postings_of before one) (postings_of after one) ≡ b → not b ≡ true
    by true is = absurd (differs (same_lists (postings_of before one) (postings_of after one) is))
    by false is = refl

-- the items in the leaves of some pairs are the items that stand there
pub items_there : (lives : List Live) (seen : List Seen) → items_in lives seen ≡ filter (stands_in lives) (filter_map item_seen seen)
items_there lives [] = refl
items_there lives (BlockSeen block ∷ more) = items_there lives more
items_there lives (PointerSeen pointer ∷ more) = items_there lives more
items_there lives (ItemSeen one ∷ more) = by (stands_in lives one) (items_there lives more)
  where
    rest : List Located
    rest = filter (stands_in lives) (filter_map item_seen more)

    by : (b : Bool) → items_in lives more ≡ rest → cons_option (cond b (Some one) None) (items_in lives more) ≡ cond b (one ∷ rest) rest
    by true same = ap (λ xs. one ∷ xs) same
    by false same = same

pub among_items : (lives : List Live) (whole : Walked) (one : Located) → Contains (items_in lives whole.seen) one
    → Contains (items_of whole) one × (stands_in lives one ≡ true)
among_items lives whole one has =
    filter_in (stands_in lives) (items_of whole) one (subst (λ xs. Contains xs one) (items_there lives whole.seen) has)

module _ (before after : Context) (lives : List Live) (whole : Walked) where
  -- an item in the leaves of the pairs counts, and one that posts otherwise
  pub counts_there : (one : Located) → Contains (items_in lives whole.seen) one → Contains (items_that_count before after lives whole) one
  counts_there one has =
      let there = among_items lives whole one has in
      in_filter (λ one. stands_in lives one || posts_otherwise before after one) (items_of whole) one there.0
      (or_left (stands_in lives one) (posts_otherwise before after one) there.1)

  pub counts_otherwise : (one : Located) → Contains (items_of whole) one → Differs before after one
      → Contains (items_that_count before after lives whole) one
  counts_otherwise one has differs =
      in_filter (λ one. stands_in lives one || posts_otherwise before after one) (items_of whole) one has
      (or_right (stands_in lives one) (posts_otherwise before after one) (is_otherwise before after one differs))

-- ---- how much records post

pub filter_less : {X : Type 0} (p : X → Bool) (xs : List X) → length (filter p xs) ≤ length xs
filter_less p [] = omega arith
filter_less {X} p (x ∷ xs) = by (p x) (filter_less p xs)
  where
    by : (b : Bool) → length (filter p xs) ≤ length xs → length (cond b (x ∷ filter p xs) (filter p xs)) ≤ suc (length xs)
    by true less = omega (arith, less)
    by false less = omega (arith, less)

-- what is posted but to sectors is no more than all, and what the context decides is no more than that
pub posts_less : (context : Context) (one : Located) → length (posts_of context one) ≤ length (postings_of context one)
posts_less context one =
    subst (λ ps. length ps ≤ length (postings_of context one)) (left_posts context one)
    (filter_less (λ posting. not (is_to_sector posting)) (postings_of context one))

rest_less : (context : Context) (one : Located) → length (rest_posts context one) ≤ length (postings_of context one)
rest_less context one =
    let e = extent_postings one.tree one.part in
    let n = inode_postings one.tree one.part in
    let d = dir_postings one.tree one.part in
    let s = space_postings context one.tree one.part in
    omega (arith, filter_less (λ posting. not (is_to_sector posting)) s, length-append e (n ++ (d ++ s)), length-append n (d ++ s), length-append d s)

flat_less : {X Z : Type 0} (some all : X → List Z) → ((x : X) → length (some x) ≤ length (all x)) → (xs : List X)
    → length (flat_map some xs) ≤ length (flat_map all xs)
flat_less some all less [] = omega arith
flat_less some all less (x ∷ xs) =
    omega (arith, less x, flat_less some all less xs, length-append (some x) (flat_map some xs), length-append (all x) (flat_map all xs))

-- the superblock posts one, and a block two
super_one : (context : Context) (sup : Super) → length (posts_of context (super_record sup)) ≡ 1
unfolding extent_postings inode_postings dir_postings space_postings
super_one context sup = refl

blocks_two : (context : Context) (blocks : List Live) → length (flat_map (posts_of context) (map live_record blocks)) ≡ 2 * length blocks
unfolding extent_postings inode_postings dir_postings space_postings
blocks_two context [] = refl
blocks_two context (live ∷ blocks) = omega (arith, blocks_two context blocks)

-- what is gone of an image, or came, and what is found in it, posts no more than what counts, two for each block, and one
pub few_posts : (context : Context) (sup : Super) (lives blocks : List Live) (gone found counting : List Located) (refs : List ItemRef)
    → IsPermutation lives blocks → flat_map (rest_posts context) found ≡ flat_map (placed_postings context) refs
    → AllPairs StandApart (gone ++ found) → ((one : Located) → Contains (gone ++ found) one → Contains counting one)
    → length (step_posts context (change_records sup blocks gone) refs) ≤ length (all_postings context counting) + 2 * length lives + 1
unfolding step_posts all_posts
few_posts context sup lives blocks gone found counting refs same placed apart among =
    let posts = posts_of context in
    let all = postings_of context in
    let head = posts (super_record sup) in
    let middle = flat_map posts (map live_record blocks) in
    let went = flat_map posts gone in
    let rests = flat_map (rest_posts context) found in
    let names = flat_map (placed_postings context) refs in
    let records = flat_map posts (map live_record blocks ++ gone) in
    let n1 : length ((head ++ records) ++ names) ≡ length (head ++ records) + length names = length-append (head ++ records) names in
    let n2 : length (head ++ records) ≡ length head + length records = length-append head records in
    let n3 : length records ≡ length middle + length went = ap length (flat_append posts (map live_record blocks) gone) ∙ length-append middle went in
    let n4 : length head ≡ 1 = super_one context sup in
    let n5 : length middle ≡ 2 * length blocks = blocks_two context blocks in
    let n6 : length blocks ≡ length lives = length_permutation lives blocks same in
    let n7 : length names ≡ length rests = ap length (sym placed) in
    let n8 : length went ≤ length (flat_map all gone) = flat_less posts all (posts_less context) gone in
    let n9 : length rests ≤ length (flat_map all found) = flat_less (rest_posts context) all (rest_less context) found in
    let n10 : length (flat_map all (gone ++ found)) ≡ length (flat_map all gone) + length (flat_map all found) =
    ap length (flat_append all gone found) ∙ length-append (flat_map all gone) (flat_map all found) in
    let n11 : length (flat_map all (gone ++ found)) ≤ length (flat_map all counting) = no_more all (gone ++ found) counting apart among in
    omega (arith, n1, n2, n3, n4, n5, n6, n7, n8, n9, n10, n11)

-- each item that posts otherwise posts something by one of the two contexts
some_posted : (xs ys : List Posting) → (xs ≡ ys → ⊥) → 1 ≤ length xs + length ys
some_posted [] [] differs = absurd (differs refl)
some_posted [] (y ∷ ys) differs = omega arith
some_posted (x ∷ xs) ys differs = omega arith

pub each_posts_some : (before after : Context) (found : List Located) → ((one : Located) → Contains found one → Differs before after one)
    → length found ≤ length (all_postings before found) + length (all_postings after found)
each_posts_some before after [] differs = omega arith
each_posts_some before after (one ∷ found) differs =
    let first = some_posted (postings_of before one) (postings_of after one) (differs one (contains_first one found)) in
    let rest = each_posts_some before after found (λ other has. differs other (contains_more one found other has)) in
    omega (
      arith,
      first,
      rest,
      length-append (postings_of before one) (all_postings before found),
      length-append (postings_of after one) (all_postings after found),
    )
