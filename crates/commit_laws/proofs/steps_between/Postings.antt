-- What records post but to sectors, of all that they post.
use Rattle.std.proofs.Common.{◌≡◌, ℕ, Bool, true, false, not, List, [], ◌∷◌, ◌++◌, map, refl, ap, sym, subst, ◌∙◌, append_assoc}
use Rattle.std.proofs.Common.{if◌then◌else◌}
use Rattle.std.proofs.lemmas.List.Elements.{filter-append}
use Rattle.std.proofs.lemmas.List.Sorted.{IsPermutation-append_left, IsPermutation-append_right, IsPermutation-trans}
use Rattle.std.specs.List.{AllByRecursion, filter, flat_map}
use Rattle.std.specs.List.Sorted.{IsPermutation}
use Rattle.commit_laws.proofs.Elements.{swap_first}
use Rattle.accounts.specs.Context.{Context}
use Rattle.accounts.specs.declared.postings.Posting.{Posting}
use Rattle.records.specs.DirPostings.{dir_postings}
use Rattle.records.specs.ExtentPostings.{extent_postings}
use Rattle.records.specs.InodePostings.{inode_postings}
use Rattle.records.specs.Part.{Located}
use Rattle.records.specs.Part.Part.{BlockPart}
use Rattle.records.specs.Postings.{postings_of}
use Rattle.records.specs.SpacePostings.{is_to_sector, rest_postings, space_postings}
use Rattle.records.proofs.SectorSums.{IsToOther, dir_others, extent_others, inode_others}
use Rattle.commit_laws.proofs.steps_between.Flat.{flat_append, flat_parts, flat_permuted}

-- what a record posts in any context, and all that it posts but to sectors
abbrev pub first_posts : Located → List Posting
first_posts one = extent_postings one.tree one.part ++ (inode_postings one.tree one.part ++ dir_postings one.tree one.part)

abbrev pub rest_posts : Context → Located → List Posting
rest_posts context one = rest_postings context one.tree one.part

abbrev pub each_posts : Context → Located → List Posting
each_posts context one =
    extent_postings one.tree one.part ++ (inode_postings one.tree one.part ++ (dir_postings one.tree one.part ++ rest_posts context one))

-- postings to no sector are all left
all_left : (ps : List Posting) → AllByRecursion IsToOther ps → filter (λ posting. not (is_to_sector posting)) ps ≡ ps
all_left [] others = refl
all_left (p ∷ ps) others = by (is_to_sector p) others.0 (all_left ps others.1)
  where
    by : (b : Bool) → b ≡ false → filter (λ posting. not (is_to_sector posting)) ps ≡ ps
        → (if not b then p ∷ filter (λ posting. not (is_to_sector posting)) ps else filter (λ posting. not (is_to_sector posting)) ps) ≡ p ∷ ps
    by true is rest = absurd (cc)
    by false is rest = ap (λ more. p ∷ more) rest

first_left : (ps qs : List Posting) → AllByRecursion IsToOther ps
    → filter (λ posting. not (is_to_sector posting)) (ps ++ qs) ≡ ps ++ filter (λ posting. not (is_to_sector posting)) qs
first_left ps qs others =
    filter-append (λ posting. not (is_to_sector posting)) ps qs
    ∙ ap (λ left. left ++ filter (λ posting. not (is_to_sector posting)) qs) (all_left ps others)

-- what a record posts but to sectors is what is left of all that it posts
pub left_posts : (context : Context) (one : Located)
    → filter (λ posting. not (is_to_sector posting)) (postings_of context one) ≡ each_posts context one
left_posts context one =
    let e = extent_postings one.tree one.part in
    let n = inode_postings one.tree one.part in
    let d = dir_postings one.tree one.part in
    let s = space_postings context one.tree one.part in
    first_left e (n ++ (d ++ s)) (extent_others one.tree one.part)
    ∙ (ap (λ more. e ++ more) (first_left n (d ++ s) (inode_others one.tree one.part))
    ∙ ap (λ more. e ++ (n ++ more)) (first_left d s (dir_others one.tree one.part)))

-- records that post the same post the same but to sectors
pub staying_posts : (before after : Context) (staying : List Located)
    → AllByRecursion (λ one. postings_of before one ≡ postings_of after one) staying
    → flat_map (each_posts before) staying ≡ flat_map (each_posts after) staying
staying_posts before after [] same = refl
staying_posts before after (one ∷ staying) same =
    let here : each_posts before one ≡ each_posts after one =
    sym (left_posts before one) ∙ (ap (filter (λ posting. not (is_to_sector posting))) same.0 ∙ left_posts after one) in
    λ i. here i ++ staying_posts before after staying same.1 i

-- a record of a block posts the same in all contexts
pub block_posts : (before after : Context) (address level : ℕ) (one : Located) → one.part ≡ BlockPart address level
    → postings_of before one ≡ postings_of after one
unfolding space_postings
block_posts before after address level one is =
    let none : space_postings before one.tree one.part ≡ space_postings after one.tree one.part =
    ap (space_postings before one.tree) is ∙ sym (ap (space_postings after one.tree) is) in
    ap (λ more. extent_postings one.tree one.part ++ (inode_postings one.tree one.part ++ (dir_postings one.tree one.part ++ more))) none

-- what some records post but to sectors, and then what the context decides of these
pub parted_posts : (context : Context) (found : List Located)
    → IsPermutation (flat_map (each_posts context) found) (flat_map first_posts found ++ flat_map (rest_posts context) found)
parted_posts context found =
    subst (λ left. IsPermutation left (flat_map first_posts found ++ flat_map (rest_posts context) found)) (regrouped found)
    (flat_parts first_posts (rest_posts context) found)
  where
    one_group : (one : Located) → first_posts one ++ rest_posts context one ≡ each_posts context one
    one_group one =
        let e = extent_postings one.tree one.part in
        let n = inode_postings one.tree one.part in
        let d = dir_postings one.tree one.part in
        append_assoc e (n ++ d) (rest_posts context one) ∙ ap (λ more. e ++ more) (append_assoc n d (rest_posts context one))

    regrouped : (some : List Located) → flat_map (λ one. first_posts one ++ rest_posts context one) some ≡ flat_map (each_posts context) some
    regrouped [] = refl
    regrouped (one ∷ some) = λ i. one_group one i ++ regrouped some i

-- what the context decides of records is what it decides of their names, where it is so of each
pub placed_rests : {Ref : Type 0} (name : Located → Ref) (placed : Context → Ref → List Posting) (context : Context) (found : List Located)
    (refs : List Ref) → map name found ≡ refs
    → AllByRecursion (λ one. (any : Context) → rest_postings any one.tree one.part ≡ placed any (name one)) found
    → flat_map (rest_posts context) found ≡ flat_map (placed context) refs
placed_rests name placed context found refs names each = by found each ∙ ap (flat_map (placed context)) names
  where
    by : (some : List Located) → AllByRecursion (λ one. (any : Context) → rest_postings any one.tree one.part ≡ placed any (name one)) some
        → flat_map (rest_posts context) some ≡ flat_map (placed context) (map name some)
    by [] all = refl
    by (one ∷ some) all = λ i. all.0 context i ++ by some all.1 i

-- What records post that are gone and that are kept: of the kept ones some by their names beside the first postings, and the rest.
-- The kept ones may be others that post the same.
pub split_posts : (context : Context) (all gone kept found staying : List Located) (names first more : List Posting)
    → IsPermutation all (gone ++ kept) → flat_map (each_posts context) kept ≡ flat_map (each_posts context) (found ++ staying)
    → flat_map (rest_posts context) found ≡ names → flat_map first_posts found ≡ first → flat_map (each_posts context) staying ≡ more
    → IsPermutation (flat_map (each_posts context) all) ((flat_map (each_posts context) gone ++ names) ++ (first ++ more))
split_posts context all gone kept found staying names first more perm alike named firsts mores =
    let each = each_posts context in
    let went = flat_map each gone in
    let parts : flat_map each (gone ++ kept) ≡ went ++ (flat_map each found ++ flat_map each staying) =
    flat_append each gone kept ∙ ap (λ ps. went ++ ps) (alike ∙ flat_append each found staying) in
    let split : IsPermutation (flat_map each found) (first ++ names) =
    subst (λ ps. IsPermutation (flat_map each found) (first ++ ps)) named
    (subst (λ ps. IsPermutation (flat_map each found) (ps ++ flat_map (rest_posts context) found)) firsts (parted_posts context found)) in
    let stay : IsPermutation (flat_map each found ++ flat_map each staying) (names ++ (first ++ more)) =
    IsPermutation-trans (flat_map each found ++ flat_map each staying) ((first ++ names) ++ more) (names ++ (first ++ more))
    (subst (λ ps. IsPermutation (flat_map each found ++ flat_map each staying) ((first ++ names) ++ ps)) mores
    (IsPermutation-append_left (flat_map each staying) (flat_map each found) (first ++ names) split))
    (subst (λ left. IsPermutation left (names ++ (first ++ more))) (sym (append_assoc first names more)) (swap_first first names more)) in
    subst (λ right. IsPermutation (flat_map each all) right) (sym (append_assoc went names (first ++ more)))
    (IsPermutation-trans (flat_map each all) (went ++ (flat_map each found ++ flat_map each staying)) (went ++ (names ++ (first ++ more)))
    (subst (λ right. IsPermutation (flat_map each all) right) parts (flat_permuted each all (gone ++ kept) perm))
    (IsPermutation-append_right went (flat_map each found ++ flat_map each staying) (names ++ (first ++ more)) stay))
