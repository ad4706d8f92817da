-- What a run of sectors posts, and what it comes to.
use Rattle.std.proofs.Common.{◌≡◌, ℕ, zero, suc, ◌+◌, ◌*◌, ◌/◌, ◌%◌, ◌<◌, ◌==◌, ◌&&◌, ◌||◌, Bool, true, false, not, cond, List, [], ◌∷◌, ◌++◌, length, map, take, refl, ap, sym, ◌∙◌, subst, arith}
use Rattle.std.specs.Prelude.{Option, Some, None, IfSome, Result, Ok, Err, nat_le, nat_lt}
use Rattle.std.specs.List.{filter, flat_map}
use Rattle.std.specs.Cmp.{both_ways}
use Rattle.std.proofs.lemmas.Bool.{eqb-true, eq-eqb}
use Rattle.std.proofs.lemmas.Bool.Decides.{nat_tests}
use Rattle.verdict.specs.Items.{is_multiple}
use Rattle.volume_items.specs.ChunkRow.{ChunkFields}
use Rattle.volume_items.specs.declared.chunk.Stripe.{Stripe}
use Rattle.extent_items.specs.ExtentRow.{ExtentFields}
use Rattle.fs_items.specs.declared.file_extent.FileExtent.{FileExtent}
use Rattle.fs_items.specs.SumsRow.{SumFields}
use Rattle.accounts.specs.declared.account.Account.{Account}
use Rattle.accounts.specs.declared.context.Home.{Home}
use Rattle.accounts.specs.declared.postings.Posting.{Posting}
use Rattle.accounts.specs.Context.{Context, home_of}
use Rattle.accounts.specs.Kinds.{sector, group_class, group_of, outside, stripe, group}
use Rattle.accounts.specs.OrderLaws.{account_equiv}
use Rattle.accounts.specs.Posts.{Posts, PostsWhere, StandsInFront}
use Rattle.accounts.specs.Sums.{added, is_same, total_of}
use Rattle.accounts.proofs.Kept.{total_joined}
use Rattle.accounts.proofs.Same.{same_account}
use Rattle.sector_runs.specs.declared.run.SectorRun.{SectorRun}
use Rattle.sector_runs.specs.declared.run.SectorUse.{SectorUse}
use Rattle.sector_runs.specs.declared.run.SectorUse.TheVariants.{Data, Block, Summed, Shown}
use Rattle.sector_runs.specs.Runs.{amount_in, amount_of, counts_in}
use Rattle.fs_items.specs.Lent.{sums_in}
use Rattle.volume_items.specs.ChunkItems.{fields_in}
use Rattle.records.specs.declared.rec.Rec.{Rec}
use Rattle.records.specs.declared.rec.Rec.TheVariants.{DeviceItem as ADeviceItem, ChunkItem as AChunkItem, DevExtent as ADevExtent, ExtentItem as AExtentItem, GroupItem as AGroupItem, FileExtent as AFileExtent, SumRun as ASumRun, Super}
use Rattle.records.specs.Part.{IsLawful, part_of}
use Rattle.records.specs.Part.Part.{ChunkPart, ExtentPart, FileExtentPart, SumsPart}
use Rattle.records.specs.SpacePostings.{extent_length, is_data, is_other_class, is_to_sector, chunk_postings, rest_postings, owned_postings, place_postings, sector_sum, sectors_from, sectors_of, shown_postings, shows_sums, space_postings}
use Rattle.records.proofs.SectorSums.{range_no_rest}
use Rattle.space_rules.specs.RunPostings.{owned_run, rest_of_place, run_in, run_postings, run_postings_in, shown_run, summed_run, use_postings, where_home}
use Rattle.accounts.specs.Lent.{to}

-- ---- the postings of a record are those of its run

owned_each : (of_data : Bool) (address : ℕ) → owned_postings of_data address ≡ use_postings (cond of_data Data Block) address
owned_each true address = refl
owned_each false address = refl

rows_alike : {A : Type 0} (f g : A → List Posting) → ((x : A) → f x ≡ g x) → (xs : List A) → flat_map f xs ≡ flat_map g xs
rows_alike f g same [] = refl
rows_alike f g same (x ∷ xs) = ap (λ ps. ps ++ flat_map f xs) (same x) ∙ ap (λ ps. g x ++ ps) (rows_alike f g same xs)

pub owned_sectors : (of_data : Bool) (address bytes : ℕ) → flat_map (owned_postings of_data) (sectors_of address bytes) ≡ run_postings (owned_run of_data address bytes)
owned_sectors of_data address bytes = rows_alike (owned_postings of_data) (use_postings (cond of_data Data Block)) (owned_each of_data) (sectors_of address bytes)

one_each : {A : Type 0} (f : A → Posting) (xs : List A) → map f xs ≡ flat_map (λ x. f x ∷ []) xs
one_each f [] = refl
one_each f (x ∷ xs) = ap (λ ps. f x ∷ ps) (one_each f xs)

shown_case : (b : Bool) (range : FileExtent) (place : Option Home) → cond b (shown_postings range place) [] ≡ run_postings_in (cond b (where_home place (shown_run range)) None)
shown_case true range None = refl
shown_case true range (Some home) = one_each (λ address. to (sector address) 3 1) (sectors_of (range.extent + range.offset) range.length)
shown_case false range place = refl

pub range_run : (context : Context) (tree : ℕ) (range : FileExtent) → run_postings_in (run_in context tree (FileExtentPart range)) ≡ space_postings context tree (FileExtentPart range)
unfolding space_postings
range_run context tree range = sym (shown_case (shows_sums context tree range) range (home_of context range.extent range.extent_length))

pub sums_run : (context : Context) (tree : ℕ) (item : SumFields) → run_postings (summed_run item) ≡ space_postings context tree (SumsPart item)
unfolding space_postings
sums_run context tree item = sym (one_each (λ address. to (sector address) 2 1) (sectors_from item.key.offset (length item.sums / 4)))

-- ---- the postings without those to sectors

mapped_rest : {A : Type 0} (f : A → Account) (field : ℕ) → ((x : A) → ((f x).kind == 5) ≡ false) → (xs : List A) → filter (λ q. not (is_to_sector q)) (map (λ x. to (f x) field 1) xs) ≡ map (λ x. to (f x) field 1) xs
mapped_rest f field other [] = refl
mapped_rest f field other (x ∷ xs) =
    ap (λ b. cond (not b) (to (f x) field 1 ∷ filter (λ q. not (is_to_sector q)) (map (λ y. to (f y) field 1) xs)) (filter (λ q. not (is_to_sector q)) (map (λ y. to (f y) field 1) xs))) (other x)
    ∙ ap (λ ps. to (f x) field 1 ∷ ps) (mapped_rest f field other xs)

pub chunk_rest : (context : Context) (tree : ℕ) (item : ChunkFields) → chunk_postings item ≡ rest_postings context tree (ChunkPart item)
unfolding space_postings
chunk_rest context tree item =
    ap (λ ps. to (group item.key.offset item.length item.class) 1 1 ∷ ps)
    (sym (mapped_rest (λ (one : Stripe). stripe item.key.offset one.devid one.physical item.length) 0 (λ one. refl) item.stripes))

sectors_rest : (of_data : Bool) (addresses : List ℕ) (more : List Posting) → filter (λ q. not (is_to_sector q)) (flat_map (owned_postings of_data) addresses ++ more) ≡ filter (λ q. not (is_to_sector q)) more
sectors_rest of_data [] more = refl
sectors_rest true (a ∷ later) more = sectors_rest true later more
sectors_rest false (a ∷ later) more = sectors_rest false later more

class_rest : (b : Bool) (at : ℕ) → filter (λ q. not (is_to_sector q)) (cond b (to (group_class at) 0 1 ∷ []) []) ≡ cond b (to (group_class at) 0 1 ∷ []) []
class_rest true at = refl
class_rest false at = refl

place_rest : (of_data : Bool) (at bytes : ℕ) (place : Option Home) → rest_of_place of_data at bytes place ≡ filter (λ q. not (is_to_sector q)) (place_postings of_data at bytes place)
place_rest of_data at bytes None = refl
place_rest of_data at bytes (Some home) =
    ap (λ ps. to (group_of home) 3 bytes ∷ ps)
    (sym (class_rest (is_other_class of_data home.class) at) ∙ sym (sectors_rest of_data (sectors_of at bytes) (cond (is_other_class of_data home.class) (to (group_class at) 0 1 ∷ []) [])))

pub extent_rest : (context : Context) (tree : ℕ) (item : ExtentFields)
    → rest_of_place (is_data item) item.key.objectid (extent_length context item) (home_of context item.key.objectid (extent_length context item)) ≡ rest_postings context tree (ExtentPart item)
unfolding space_postings
extent_rest context tree item = place_rest (is_data item) item.key.objectid (extent_length context item) (home_of context item.key.objectid (extent_length context item))

marked_rest : (field : ℕ) (addresses : List ℕ) → filter (λ q. not (is_to_sector q)) (map (λ address. to (sector address) field 1) addresses) ≡ []
marked_rest field [] = refl
marked_rest field (a ∷ later) = marked_rest field later

pub sums_rest : (context : Context) (tree : ℕ) (item : SumFields) → rest_postings context tree (SumsPart item) ≡ []
unfolding space_postings
sums_rest context tree item = marked_rest 2 (sectors_from item.key.offset (length item.sums / 4))

-- ---- what was posted, where that is wanted

front_of : {T E : Type 0} (old new : List Posting) (result : Result T E) (ps : List Posting) → Posts old new result ps → StandsInFront old new
front_of old new (Ok t) ps posts = (ps, posts.all)
front_of old new (Err e) ps posts = (take posts.some.count ps, posts.some.front)

pub posts_where : {T E : Type 0} {holds : Type 0} {old new : List Posting} {result : Result T E} (ps qs : List Posting) → Posts old new result ps → (holds → ps ≡ qs) → PostsWhere holds old new result qs
posts_where {old = old} {new = new} {result = result} ps qs posts same = record {
  posts = λ h. subst (Posts old new result) (same h) posts;
  front = front_of old new result ps posts;
}

-- ---- what a run comes to

same_sector : (at address : ℕ) → is_same (sector at) (sector address) ≡ (at == address)
same_sector at address =
    both_ways (is_same (sector at) (sector address)) (at == address)
    (λ h. eq-eqb at address (ap (λ a. a.block) (same_account (sector at) (sector address) h)))
    (λ h. subst (λ k. is_same (sector at) (sector k) ≡ true) (eqb-true at address h) (account_equiv.refl (sector at)))

-- a posting to a sector adds to that sector alone
added_sector : (at address field n : ℕ) → added (to (sector at) n 1) (sector address) field ≡ cond ((at == address) && ((n == field) && nat_lt field 9)) 1 0
unfolding added
added_sector at address field n = ap (λ b. cond (b && ((n == field) && nat_lt field 9)) 1 0) (same_sector at address)

one_field : (n field : ℕ) → n < 9 → cond ((n == field) && nat_lt field 9) 1 0 + 0 ≡ cond (field == n) 1 0
one_field n field small = grind (arith, nat_tests)

two_fields : (field : ℕ) → cond ((0 == field) && nat_lt field 9) 1 0 + (cond ((1 == field) && nat_lt field 9) 1 0 + 0) ≡ cond (field == 0 || field == 1) 1 0
two_fields field = grind (arith, nat_tests)

use_case : (b : Bool) (sort : SectorUse) (at address field : ℕ) → (at == address) ≡ b → total_of (use_postings sort at) (sector address) field ≡ cond (b && counts_in sort field) 1 0
unfolding total_of
use_case true Data at address field is =
    let first : added (to (sector at) 0 1) (sector address) field ≡ cond ((0 == field) && nat_lt field 9) 1 0 = added_sector at address field 0 ∙ ap (λ b. cond (b && ((0 == field) && nat_lt field 9)) 1 0) is in
    let more : added (to (sector at) 1 1) (sector address) field ≡ cond ((1 == field) && nat_lt field 9) 1 0 = added_sector at address field 1 ∙ ap (λ b. cond (b && ((1 == field) && nat_lt field 9)) 1 0) is in
    rw (first, more) (two_fields field)
use_case true Block at address field is =
    rw (added_sector at address field 0 ∙ ap (λ b. cond (b && ((0 == field) && nat_lt field 9)) 1 0) is) (one_field 0 field (omega arith))
use_case true Summed at address field is =
    rw (added_sector at address field 2 ∙ ap (λ b. cond (b && ((2 == field) && nat_lt field 9)) 1 0) is) (one_field 2 field (omega arith))
use_case true Shown at address field is =
    rw (added_sector at address field 3 ∙ ap (λ b. cond (b && ((3 == field) && nat_lt field 9)) 1 0) is) (one_field 3 field (omega arith))
use_case false Data at address field is =
    let first : added (to (sector at) 0 1) (sector address) field ≡ 0 = added_sector at address field 0 ∙ ap (λ b. cond (b && ((0 == field) && nat_lt field 9)) 1 0) is in
    let more : added (to (sector at) 1 1) (sector address) field ≡ 0 = added_sector at address field 1 ∙ ap (λ b. cond (b && ((1 == field) && nat_lt field 9)) 1 0) is in
    rw (first, more) refl
use_case false Block at address field is = rw (added_sector at address field 0 ∙ ap (λ b. cond (b && ((0 == field) && nat_lt field 9)) 1 0) is) refl
use_case false Summed at address field is = rw (added_sector at address field 2 ∙ ap (λ b. cond (b && ((2 == field) && nat_lt field 9)) 1 0) is) refl
use_case false Shown at address field is = rw (added_sector at address field 3 ∙ ap (λ b. cond (b && ((3 == field) && nat_lt field 9)) 1 0) is) refl

apart_case : (b : Bool) (first address : ℕ) → (first == address) ≡ b → is_multiple address ≡ false → is_multiple first ≡ true → b ≡ false
apart_case true first address is other begin = let same = eqb-true first address is in absurd (cc (other, subst (λ k. is_multiple k ≡ true) same begin))
apart_case false first address is other begin = refl

apart : (first address : ℕ) → is_multiple address ≡ false → is_multiple first ≡ true → (first == address) ≡ false
apart first address other begin = apart_case (first == address) first address refl other begin

next_multiple : (first : ℕ) → is_multiple first ≡ true → is_multiple (first + 4096) ≡ true
next_multiple first begin =
    let whole : first % 4096 ≡ 0 = eqb-true (first % 4096) 0 begin in
    let next : (first + 4096) % 4096 ≡ 0 = omega (arith, whole) in
    eq-eqb ((first + 4096) % 4096) 0 next

none_case : (m c : Bool) (first address : ℕ) → ◌≡◌ {A = ℕ} 0 (cond ((m && (nat_le first address && nat_lt address (first + 4096 * 0))) && c) 1 0)
none_case true true first address = grind (arith, nat_tests)
none_case true false first address = grind (arith, nat_tests)
none_case false c first address = refl

some_extent : (n : ℕ) → (n == 0) ≡ false → 0 < n
some_extent n is = grind (arith, nat_tests)

-- an address that is the first sector's or a later one's
next_case : (m c : Bool) (first address n : ℕ) → is_multiple address ≡ m → is_multiple first ≡ true
    → cond ((first == address) && c) 1 0 + cond ((m && (nat_le (first + 4096) address && nat_lt address ((first + 4096) + 4096 * n))) && c) 1 0 ≡ cond ((m && (nat_le first address && nat_lt address (first + 4096 * suc n))) && c) 1 0
next_case true true first address n is begin =
    let a = eqb-true (address % 4096) 0 is in
    let f = eqb-true (first % 4096) 0 begin in
    grind (arith, nat_tests)
next_case true false first address n is begin = grind (arith, nat_tests)
next_case false c first address n is begin = rw (apart first address is begin) refl

-- the sectors of a run, from the first
run_total : (sort : SectorUse) (first count address field : ℕ) → is_multiple first ≡ true
    → total_of (flat_map (use_postings sort) (sectors_from first count)) (sector address) field ≡ cond ((is_multiple address && (nat_le first address && nat_lt address (first + 4096 * count))) && counts_in sort field) 1 0
unfolding sectors_from total_of
run_total sort first zero address field begin = none_case (is_multiple address) (counts_in sort field) first address
run_total sort first (suc n) address field begin =
    total_joined (use_postings sort first) (flat_map (use_postings sort) (sectors_from (first + 4096) n)) (sector address) field
    ∙ ap (λ k. k + total_of (flat_map (use_postings sort) (sectors_from (first + 4096) n)) (sector address) field) (use_case (first == address) sort first address field refl)
    ∙ ap (λ k. cond ((first == address) && counts_in sort field) 1 0 + k) (run_total sort (first + 4096) n address field (next_multiple first begin))
    ∙ next_case (is_multiple address) (counts_in sort field) first address n refl begin

pub run_sums : (run : SectorRun) (address field : ℕ) → is_multiple run.first ≡ true → total_of (run_postings run) (sector address) field ≡ amount_of run address field
unfolding amount_of
run_sums run address field begin = run_total run.sort run.first run.count address field begin

run_in_sums : (run : Option SectorRun) (address field : ℕ) → IfSome run (λ r. is_multiple r.first ≡ true) → total_of (run_postings_in run) (sector address) field ≡ amount_in run address field
unfolding total_of
run_in_sums None address field begin = refl
run_in_sums (Some run) address field begin = run_sums run address field begin

-- ---- what each record comes to

pub sums_sums : (context : Context) (tree : ℕ) (item : SumFields) (address field : ℕ) → IsLawful (SumsPart item) → sector_sum context tree (SumsPart item) address field ≡ amount_of (summed_run item) address field
sums_sums context tree item address field lawful = ap (λ ps. total_of ps (sector address) field) (sym (sums_run context tree item)) ∙ run_sums (summed_run item) address field lawful.0

shown_begins : (range : FileExtent) (sort hole free : Bool) (place : Option Home) → (range.extent == 0) ≡ hole → IsLawful (FileExtentPart range) → IfSome (cond (sort && (not hole && not free)) (where_home place (shown_run range)) None) (λ r. is_multiple r.first ≡ true)
shown_begins range true false false (Some home) is lawful = (lawful (some_extent range.extent is)).0
shown_begins range true false false None is lawful = tt
shown_begins range true false true place is lawful = tt
shown_begins range true true free place is lawful = tt
shown_begins range false hole free place is lawful = tt

pub range_sums : (context : Context) (tree : ℕ) (range : FileExtent) (address field : ℕ) → IsLawful (FileExtentPart range) → sector_sum context tree (FileExtentPart range) address field ≡ amount_in (run_in context tree (FileExtentPart range)) address field
range_sums context tree range address field lawful =
    ap (λ ps. total_of ps (sector address) field) (sym (range_run context tree range))
    ∙ run_in_sums (run_in context tree (FileExtentPart range)) address field
    (shown_begins range (range.sort == 1) (range.extent == 0) (context.sum_free tree range.key.objectid) (home_of context range.extent range.extent_length) refl lawful)

-- an extent with a home comes to its sectors, since its group and the class of that are no sectors
other_none : (b : Bool) (address at field : ℕ) → total_of (cond b (to (group_class at) 0 1 ∷ []) []) (sector address) field ≡ 0
unfolding added total_of
other_none true address at field = refl
other_none false address at field = refl

outside_none : (at address field : ℕ) → added (to (outside at) 0 1) (sector address) field + 0 ≡ 0
unfolding added
outside_none at address field = refl

taken_none : (home : Home) (bytes address field : ℕ) → added (to (group_of home) 3 bytes) (sector address) field ≡ 0
unfolding added
taken_none home bytes address field = refl

place_sums : (of_data : Bool) (at bytes : ℕ) (place : Option Home) (address field : ℕ) → is_multiple at ≡ true → total_of (place_postings of_data at bytes place) (sector address) field ≡ amount_in (where_home place (owned_run of_data at bytes)) address field
unfolding total_of
place_sums of_data at bytes None address field begin = outside_none at address field
place_sums of_data at bytes (Some home) address field begin =
    let first = taken_none home bytes address field in
    let sectors : total_of (flat_map (owned_postings of_data) (sectors_of at bytes)) (sector address) field ≡ amount_of (owned_run of_data at bytes) address field =
    ap (λ ps. total_of ps (sector address) field) (owned_sectors of_data at bytes) ∙ run_sums (owned_run of_data at bytes) address field begin in
    let other = other_none (is_other_class of_data home.class) address at field in
    let both = total_joined (flat_map (owned_postings of_data) (sectors_of at bytes)) (cond (is_other_class of_data home.class) (to (group_class at) 0 1 ∷ []) []) (sector address) field in
    omega (arith, first, sectors, other, both)

pub extent_sums : (context : Context) (tree : ℕ) (item : ExtentFields) (address field : ℕ) → IsLawful (ExtentPart item) → sector_sum context tree (ExtentPart item) address field ≡ amount_in (run_in context tree (ExtentPart item)) address field
unfolding space_postings
extent_sums context tree item address field lawful =
    place_sums (is_data item) item.key.objectid (extent_length context item) (home_of context item.key.objectid (extent_length context item)) address field lawful

-- the run of an extent, by its place
pub place_run : (context : Context) (tree : ℕ) (item : ExtentFields) (of_data : Bool) (address bytes : ℕ) (home : Option Home)
    → of_data ≡ is_data item → address ≡ item.key.objectid → bytes ≡ extent_length context item → home ≡ home_of context address bytes
    → where_home home (owned_run of_data address bytes) ≡ run_in context tree (ExtentPart item)
place_run context tree item of_data address bytes home data_is address_is bytes_is home_is =
    ap (λ h. where_home h (owned_run of_data address bytes)) home_is
    ∙ (λ i. where_home (home_of context (address_is i) (bytes_is i)) (owned_run (data_is i) (address_is i) (bytes_is i)))

-- and its postings without those to sectors
pub place_alone : (context : Context) (tree : ℕ) (item : ExtentFields) (of_data : Bool) (address bytes : ℕ) (home : Option Home)
    → of_data ≡ is_data item → address ≡ item.key.objectid → bytes ≡ extent_length context item → home ≡ home_of context address bytes
    → rest_of_place of_data address bytes home ≡ rest_postings context tree (ExtentPart item)
place_alone context tree item of_data address bytes home data_is address_is bytes_is home_is =
    ap (rest_of_place of_data address bytes) home_is
    ∙ (λ i. rest_of_place (data_is i) (address_is i) (bytes_is i) (home_of context (address_is i) (bytes_is i)))
    ∙ extent_rest context tree item

-- ---- the other records

-- what says that a record is none of a sort
abbrev No : {X : Type 0} → (X → Rec) → Rec → Type 0
No {X = X} sort r = (x : X) → r ≡ sort x → ⊥

pub rest_whole : (context : Context) (tree : ℕ) (r : Rec) → No AExtentItem r → No AFileExtent r → No ASumRun r → rest_postings context tree (part_of r) ≡ space_postings context tree (part_of r)
unfolding space_postings
rest_whole context tree (AExtentItem item) extent range sums = absurd (extent item refl)
rest_whole context tree (AFileExtent item) extent range sums = absurd (range item refl)
rest_whole context tree (ASumRun item) extent range sums = absurd (sums item refl)
rest_whole context tree (AChunkItem item) extent range sums = sym (chunk_rest context tree (fields_in item))
rest_whole context tree other extent range sums = refl

stripes_none : (f : Stripe → Account) → ((x : Stripe) → (address field : ℕ) → added (to (f x) 0 1) (sector address) field ≡ 0) → (xs : List Stripe) (address field : ℕ) → total_of (map (λ x. to (f x) 0 1) xs) (sector address) field ≡ 0
unfolding total_of
stripes_none f none [] address field = refl
stripes_none f none (x ∷ xs) address field = let first = none x address field in let rest = stripes_none f none xs address field in omega (arith, first, rest)

stripe_none : (start devid physical bytes address field : ℕ) → added (to (stripe start devid physical bytes) 0 1) (sector address) field ≡ 0
unfolding added
stripe_none start devid physical bytes address field = refl

zero_more : (n : ℕ) → n ≡ 0 → 0 + n ≡ 0
zero_more n is = omega (arith, is)

pub no_sector_sum : (context : Context) (tree : ℕ) (r : Rec) → No AExtentItem r → No AFileExtent r → No ASumRun r → (address field : ℕ) → sector_sum context tree (part_of r) address field ≡ 0
unfolding space_postings total_of added
no_sector_sum context tree (AExtentItem item) extent range sums address field = absurd (extent item refl)
no_sector_sum context tree (AFileExtent item) extent range sums address field = absurd (range item refl)
no_sector_sum context tree (ASumRun item) extent range sums address field = absurd (sums item refl)
no_sector_sum context tree (AChunkItem item) extent range sums address field =
    zero_more _ (stripes_none (λ one. stripe (fields_in item).key.offset one.devid one.physical (fields_in item).length) (λ one a f. stripe_none (fields_in item).key.offset one.devid one.physical (fields_in item).length a f) (fields_in item).stripes address field)
no_sector_sum context tree other extent range sums address field = refl

pub no_rest : (context : Context) (tree : ℕ) (r : Rec) → No (λ (used : ℕ). Super used) r → No AChunkItem r → No ADeviceItem r → No ADevExtent r → No AGroupItem r → No AExtentItem r → rest_postings context tree (part_of r) ≡ []
unfolding space_postings
no_rest context tree (Super used) super chunk device part group_item extent = absurd (super used refl)
no_rest context tree (AChunkItem item) super chunk device part group_item extent = absurd (chunk item refl)
no_rest context tree (ADeviceItem item) super chunk device part group_item extent = absurd (device item refl)
no_rest context tree (ADevExtent item) super chunk device part group_item extent = absurd (part item refl)
no_rest context tree (AGroupItem item) super chunk device part group_item extent = absurd (group_item item refl)
no_rest context tree (AExtentItem item) super chunk device part group_item extent = absurd (extent item refl)
no_rest context tree (AFileExtent item) super chunk device part group_item extent = range_no_rest context tree item
no_rest context tree (ASumRun item) super chunk device part group_item extent = sums_rest context tree (sums_in item)
no_rest context tree other super chunk device part group_item extent = refl
