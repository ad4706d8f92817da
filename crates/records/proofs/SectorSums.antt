-- What is posted to sectors, the accounts of kind 5, and what to all others.
use Rattle.std.proofs.Common.{◌≡◌, ℕ, ◌+◌, ◌==◌, ◌&&◌, ◌||◌, Bool, true, false, not, cond, List, [], ◌∷◌, ◌++◌, map, refl, ap, sym, ◌∙◌, subst, arith}
use Rattle.std.specs.Prelude.{Option, Some, None, nat_lt}
use Rattle.std.specs.List.{AllByRecursion, filter, flat_map}
use Rattle.std.proofs.lemmas.Bool.{eqb-true, eq-eqb}
use Rattle.extent_items.specs.declared.reference.Reference.{Reference}
use Rattle.fs_items.specs.declared.file_extent.FileExtent.{FileExtent}
use Rattle.fs_items.specs.declared.inode.InodeItem.{InodeItem}
use Rattle.fs_items.specs.DirRow.{EntryFields}
use Rattle.verdict.specs.declared.key.Key.{Key}
use Rattle.verdict.specs.Chunks.{home}
use Rattle.accounts.specs.declared.account.Account.{Account}
use Rattle.accounts.specs.declared.context.Home.{Home}
use Rattle.accounts.specs.declared.postings.Posting.{Posting}
use Rattle.accounts.specs.Context.{Context, home_of}
use Rattle.accounts.specs.Kinds.{inode_type, sector}
use Rattle.accounts.specs.OrderLaws.{account_equiv}
use Rattle.accounts.specs.Sums.{added, is_same, total_of}
use Rattle.accounts.proofs.Same.{same_account}
use Rattle.records.specs.Part.{Part}
use Rattle.records.specs.Part.Part.{RootPart, LinkPart, DevicePart, ChunkPart, DevExtentPart, ExtentPart, KeyedPart, GroupPart, InodePart, NamesPart, XattrPart, OrphanPart, EntriesPart, FileExtentPart, SumsPart, SuperPart, BlockPart}
use Rattle.records.specs.ExtentPostings.{extent_postings, has_extent, reference_postings}
use Rattle.records.specs.InodePostings.{inode_entry_postings, inode_name_postings, inode_postings, size_postings, type_of_mode}
use Rattle.records.specs.DirPostings.{dir_entry_postings, dir_postings, is_root_name, is_subvolume_id, link_postings}
use Rattle.records.specs.SpacePostings.{extent_length, is_data, is_other_class, is_to_sector, owned_postings, place_postings, rest_postings, sector_sum, sectors_from, sectors_of, shown_postings, shows_sums, space_postings}
use Rattle.accounts.specs.Lent.{to}

-- ---- postings that are all of a sort

abbrev All : (Posting → Type 0) → List Posting → Type 0
All P ps = AllByRecursion P ps

all_joined : (P : Posting → Type 0) (ps qs : List Posting) → All P ps → All P qs → All P (ps ++ qs)
all_joined P [] qs first later = later
all_joined P (p ∷ ps) qs first later = (first.0, all_joined P ps qs first.1 later)

all_rows : {A : Type 0} (P : Posting → Type 0) (row : A → List Posting) → ((x : A) → All P (row x)) → (xs : List A) → All P (flat_map row xs)
all_rows P row each [] = tt
all_rows P row each (x ∷ xs) = all_joined P (row x) (flat_map row xs) (each x) (all_rows P row each xs)

all_mapped : {A : Type 0} (P : Posting → Type 0) (f : A → Posting) → ((x : A) → P (f x)) → (xs : List A) → All P (map f xs)
all_mapped P f each [] = tt
all_mapped P f each (x ∷ xs) = (each x, all_mapped P f each xs)

all_either : (P : Posting → Type 0) (b : Bool) (ps qs : List Posting) → All P ps → All P qs → All P (cond b ps qs)
all_either P true ps qs first later = first
all_either P false ps qs first later = later

-- ---- what adds nothing to an account

zero_case : (b c : Bool) (amount : ℕ) → b ≡ false → cond (b && c) amount 0 ≡ 0
zero_case true c amount is = absurd (cc is)
zero_case false c amount is = refl

none_added : (p : Posting) (account : Account) (field : ℕ) → is_same p.account account ≡ false → added p account field ≡ 0
unfolding added
none_added p account field other = zero_case (is_same p.account account) (p.field == field && nat_lt field 9) p.amount other

none_total : (ps : List Posting) (account : Account) (field : ℕ) → All (λ p. is_same p.account account ≡ false) ps → total_of ps account field ≡ 0
unfolding total_of
none_total [] account field other = refl
none_total (p ∷ ps) account field other =
    let first = none_added p account field other.0 in
    let rest = none_total ps account field other.1 in
    omega (arith, first, rest)

-- accounts of different kinds are not one
other_case : (b c : Bool) (a d : Account) → is_same a d ≡ b → (a.kind == d.kind) ≡ false → b ≡ false
other_case true c a d is other = let same : a.kind ≡ d.kind = ap (λ k. k.kind) (same_account a d is) in absurd (cc (other, eq-eqb a.kind d.kind same))
other_case false c a d is other = refl

other_kind : (a d : Account) → (a.kind == d.kind) ≡ false → is_same a d ≡ false
other_kind a d other = other_case (is_same a d) true a d refl other

-- ---- postings to no sector

abbrev pub IsToOther : Posting → Type 0
IsToOther posting = is_to_sector posting ≡ false

kinds_apart : (n k : ℕ) → (n == 5) ≡ false → (k == 5) ≡ true → (n == k) ≡ false
kinds_apart n k other is = rw (eqb-true k 5 is) other

each_other : (ps : List Posting) (account : Account) → (account.kind == 5) ≡ true → All IsToOther ps → All (λ p. is_same p.account account ≡ false) ps
each_other [] account is others = tt
each_other (p ∷ ps) account is others = (other_kind p.account account (kinds_apart p.account.kind account.kind others.0 is), each_other ps account is others.1)

-- postings to no sector add nothing to an account of kind 5
pub others_total : (ps : List Posting) (account : Account) (field : ℕ) → (account.kind == 5) ≡ true → All IsToOther ps → total_of ps account field ≡ 0
others_total ps account field is others = none_total ps account field (each_other ps account is others)

reference_case : (a b c : Bool) (w x y z : Account) (field amount : ℕ) → (w.kind == 5) ≡ false → (x.kind == 5) ≡ false → (y.kind == 5) ≡ false → (z.kind == 5) ≡ false
    → IsToOther (to (cond a w (cond b x (cond c y z))) field amount)
reference_case true b c w x y z field amount ow ox oy oz = ow
reference_case false true c w x y z field amount ow ox oy oz = ox
reference_case false false true w x y z field amount ow ox oy oz = oy
reference_case false false false w x y z field amount ow ox oy oz = oz

reference_others : (address : ℕ) (reference : Reference) → All IsToOther (reference_postings address reference)
reference_others address reference =
    (refl, (reference_case (reference.kind == 176) (reference.kind == 178) (reference.kind == 182) _ _ _ _ 0 reference.count refl refl refl refl, tt))

-- references, inodes and names post to no sector
pub extent_others : (tree : ℕ) (part : Part) → All IsToOther (extent_postings tree part)
unfolding extent_postings
extent_others tree (BlockPart address level) = (refl, (refl, tt))
extent_others tree (ExtentPart item) = (refl, (refl, (refl, all_rows IsToOther (reference_postings item.key.objectid) (reference_others item.key.objectid) item.references)))
extent_others tree (KeyedPart item) = reference_others item.key.objectid item.reference
extent_others tree (FileExtentPart range) = all_either IsToOther (has_extent range) _ [] (refl, (refl, tt)) tt
extent_others tree other = tt

inode_entry_others : (tree dir : ℕ) (entry : EntryFields) → All IsToOther (inode_entry_postings tree dir entry)
inode_entry_others tree dir entry = (refl, (refl, all_either IsToOther (entry.location.kind == 1) _ [] (refl, (refl, tt)) tt))

size_others : (tree : ℕ) (item : InodeItem) → All IsToOther (size_postings tree item)
size_others tree item = all_either IsToOther (type_of_mode item.mode == 2) _ _ (refl, tt) (all_either IsToOther (type_of_mode item.mode == 1 || type_of_mode item.mode == 7) _ [] (refl, tt) tt)

pub inode_others : (tree : ℕ) (part : Part) → All IsToOther (inode_postings tree part)
unfolding inode_postings
inode_others tree (InodePart item) =
    (refl, (refl, all_joined IsToOther (size_postings tree item) (to (inode_type tree item.key.objectid (type_of_mode item.mode)) 1 1 ∷ []) (size_others tree item) (refl, tt)))
inode_others tree (NamesPart item) = all_rows IsToOther (inode_name_postings tree item.key.objectid) (λ name. (refl, (refl, tt))) item.names
inode_others tree (XattrPart item) = (refl, tt)
inode_others tree (OrphanPart item) = (refl, tt)
inode_others tree (EntriesPart item) = all_rows IsToOther (inode_entry_postings tree item.key.objectid) (inode_entry_others tree item.key.objectid) item.entries
inode_others tree (FileExtentPart range) = (refl, all_either IsToOther (range.sort == 0) _ _ (refl, tt) (all_either IsToOther (range.extent == 0) [] _ tt (refl, tt)))
inode_others tree other = tt

dir_entry_others : (tree : ℕ) (key : Key) (entry : EntryFields) → All IsToOther (dir_entry_postings tree key entry)
dir_entry_others tree key entry =
    all_either IsToOther (key.kind == 84) _ _ (refl, tt)
    ((refl, all_either IsToOther (entry.location.kind == 1) _ _ (refl, tt) (all_either IsToOther (entry.location.kind == 132) _ [] (refl, tt) tt)))

pub dir_others : (tree : ℕ) (part : Part) → All IsToOther (dir_postings tree part)
unfolding dir_postings
dir_others tree (NamesPart item) = all_either IsToOther (is_root_name item.key) [] _ tt (all_rows IsToOther (link_postings tree item.key.objectid) (λ name. (refl, tt)) item.names)
dir_others tree (EntriesPart item) = all_rows IsToOther (dir_entry_postings tree item.key) (dir_entry_others tree item.key) item.entries
dir_others tree (RootPart item) = all_either IsToOther (is_subvolume_id item.key.objectid) _ [] (refl, tt) tt
dir_others tree (LinkPart item) = all_either IsToOther (item.key.kind == 156) _ _ (refl, (refl, (refl, tt))) (refl, tt)
dir_others tree other = tt

-- so they add nothing to an account of kind 5
pub extent_none : (tree : ℕ) (part : Part) (account : Account) (field : ℕ) → (account.kind == 5) ≡ true → total_of (extent_postings tree part) account field ≡ 0
extent_none tree part account field is = others_total (extent_postings tree part) account field is (extent_others tree part)

pub inode_none : (tree : ℕ) (part : Part) (account : Account) (field : ℕ) → (account.kind == 5) ≡ true → total_of (inode_postings tree part) account field ≡ 0
inode_none tree part account field is = others_total (inode_postings tree part) account field is (inode_others tree part)

pub dir_none : (tree : ℕ) (part : Part) (account : Account) (field : ℕ) → (account.kind == 5) ≡ true → total_of (dir_postings tree part) account field ≡ 0
dir_none tree part account field is = others_total (dir_postings tree part) account field is (dir_others tree part)

-- ---- of kind 5 space posts to sectors alone

abbrev IsOfSector : Posting → Type 0
IsOfSector posting = is_to_sector posting ≡ true → posting.account ≡ sector posting.account.block

none_to : (posting : Posting) → is_to_sector posting ≡ false → IsOfSector posting
none_to posting other = λ is. absurd (cc (other, is))

owned_of : (of_data : Bool) (address : ℕ) → All IsOfSector (owned_postings of_data address)
owned_of of_data address = (λ is. refl, all_either IsOfSector of_data _ [] ((λ is. refl, tt)) tt)

place_of : (of_data : Bool) (address len : ℕ) (place : Option Home) → All IsOfSector (place_postings of_data address len place)
place_of of_data address len None = (λ is. absurd (cc is), tt)
place_of of_data address len (Some home) = (
  λ is. absurd (cc is),
  all_joined IsOfSector (flat_map (owned_postings of_data) (sectors_of address len)) _
      (all_rows IsOfSector (owned_postings of_data) (owned_of of_data) (sectors_of address len))
      (all_either IsOfSector (is_other_class of_data home.class) _ [] ((λ is. absurd (cc is), tt)) tt),
)

shown_of : (range : FileExtent) (place : Option Home) → All IsOfSector (shown_postings range place)
shown_of range None = tt
shown_of range (Some home) = all_mapped IsOfSector (λ address. to (sector address) 3 1) (λ address is. refl) (sectors_of (range.extent + range.offset) range.length)

space_of : (context : Context) (tree : ℕ) (part : Part) → All IsOfSector (space_postings context tree part)
unfolding space_postings
space_of context tree (SuperPart used) = (λ is. absurd (cc is), tt)
space_of context tree (ChunkPart item) = (λ is. absurd (cc is), all_mapped IsOfSector _ (λ one is. absurd (cc is)) item.stripes)
space_of context tree (DevicePart item) = (λ is. absurd (cc is), tt)
space_of context tree (DevExtentPart item) = (λ is. absurd (cc is), (λ is. absurd (cc is), tt))
space_of context tree (GroupPart item) = (λ is. absurd (cc is), (λ is. absurd (cc is), (λ is. absurd (cc is), tt)))
space_of context tree (ExtentPart item) = place_of (is_data item) item.key.objectid (extent_length context item) (home_of context item.key.objectid (extent_length context item))
space_of context tree (FileExtentPart range) = all_either IsOfSector (shows_sums context tree range) _ [] (shown_of range (home_of context range.extent range.extent_length)) tt
space_of context tree (SumsPart item) = all_mapped IsOfSector (λ address. to (sector address) 2 1) (λ address is. refl) (sectors_from item.key.offset _)
space_of context tree other = tt

no_sector_case : (p : Posting) (account : Account) (b : Bool) → is_same p.account account ≡ b → IsOfSector p → (account.kind == 5) ≡ true → is_same account (sector account.block) ≡ false → b ≡ false
no_sector_case p account false same of_sector is apart = refl
no_sector_case p account true same of_sector is apart =
    let one : p.account ≡ account = same_account p.account account same in
    let there : p.account ≡ sector p.account.block = of_sector (subst (λ a. (a.kind == 5) ≡ true) (sym one) is) in
    let it : account ≡ sector account.block = subst (λ a. a ≡ sector a.block) one there in
    let tie : is_same account (sector account.block) ≡ true = subst (λ a. is_same account a ≡ true) it (account_equiv.refl account) in
    absurd (cc (tie, apart))

each_apart : (ps : List Posting) (account : Account) → (account.kind == 5) ≡ true → is_same account (sector account.block) ≡ false → All IsOfSector ps → All (λ p. is_same p.account account ≡ false) ps
each_apart [] account is apart all = tt
each_apart (p ∷ ps) account is apart all = (no_sector_case p account (is_same p.account account) refl all.0 is apart, each_apart ps account is apart all.1)

-- an account of kind 5 that is not its block's sector gets nothing from space either
pub space_none : (context : Context) (tree : ℕ) (part : Part) (account : Account) (field : ℕ) → (account.kind == 5) ≡ true → is_same account (sector account.block) ≡ false
    → total_of (space_postings context tree part) account field ≡ 0
space_none context tree part account field is apart =
    none_total (space_postings context tree part) account field (each_apart (space_postings context tree part) account is apart (space_of context tree part))

-- ---- accounts of other kinds get all from the postings without those to sectors

five_case : (b : Bool) (k : ℕ) → (5 == k) ≡ b → (k == 5) ≡ false → b ≡ false
five_case true k is other = let same : k ≡ 5 = sym (eqb-true 5 k is) in absurd (cc (other, same))
five_case false k is other = refl

five_apart : (k : ℕ) → (k == 5) ≡ false → (5 == k) ≡ false
five_apart k other = five_case (5 == k) k refl other

kept_case : (p : Posting) (ps : List Posting) (account : Account) (field : ℕ) (b : Bool) → is_to_sector p ≡ b → (account.kind == 5) ≡ false
    → total_of (filter (λ q. not (is_to_sector q)) ps) account field ≡ total_of ps account field
    → total_of (cond (not b) (p ∷ filter (λ q. not (is_to_sector q)) ps) (filter (λ q. not (is_to_sector q)) ps)) account field ≡ added p account field + total_of ps account field
unfolding total_of
kept_case p ps account field false is other rest = ap (λ n. added p account field + n) rest
kept_case p ps account field true is other rest =
    let kind : p.account.kind ≡ 5 = eqb-true p.account.kind 5 is in
    let apart : (p.account.kind == account.kind) ≡ false = rw kind (five_apart account.kind other) in
    let none = none_added p account field (other_kind p.account account apart) in
    omega (arith, rest, none)

filter_total : (ps : List Posting) (account : Account) (field : ℕ) → (account.kind == 5) ≡ false → total_of (filter (λ q. not (is_to_sector q)) ps) account field ≡ total_of ps account field
unfolding total_of
filter_total [] account field other = refl
filter_total (p ∷ ps) account field other = kept_case p ps account field (is_to_sector p) refl other (filter_total ps account field other)

pub rest_total : (context : Context) (tree : ℕ) (part : Part) (account : Account) (field : ℕ) → (account.kind == 5) ≡ false
    → total_of (rest_postings context tree part) account field ≡ total_of (space_postings context tree part) account field
rest_total context tree part account field other = filter_total (space_postings context tree part) account field other

-- ---- on inodes without sums only the ranges of files rest

-- the same chunks and size of a tree block, with the inodes without sums and the full blocks of another context
abbrev pub with_flags : Context → Context → Context
with_flags context other = record { chunks = context.chunks; nodesize = context.nodesize; sum_free = other.sum_free; full = other.full }

-- a record of another sort than a range of a file
abbrev pub IsNoRange : Part → Type 0
IsNoRange (FileExtentPart range) = ⊥
IsNoRange other = Unit {0}

context_same : (c d : Context) → c.chunks ≡ d.chunks → c.nodesize ≡ d.nodesize → with_flags c d ≡ d
context_same c d chunks nodesize = λ i. record { chunks = chunks i; nodesize = nodesize i; sum_free = d.sum_free; full = d.full }

space_alike : (c d : Context) (tree : ℕ) (part : Part) → IsNoRange part → space_postings c tree part ≡ space_postings (with_flags c d) tree part
unfolding space_postings
space_alike c d tree (FileExtentPart range) sort = absurd sort
space_alike c d tree other sort = refl

-- a range of a file posts to sectors alone
no_rest_shown : (addresses : List ℕ) → filter (λ q. not (is_to_sector q)) (map (λ address. to (sector address) 3 1) addresses) ≡ []
no_rest_shown [] = refl
no_rest_shown (a ∷ more) = no_rest_shown more

no_rest_case : (range : FileExtent) (b : Bool) (place : Option Home) → filter (λ q. not (is_to_sector q)) (cond b (shown_postings range place) []) ≡ []
no_rest_case range true None = refl
no_rest_case range true (Some home) = no_rest_shown (sectors_of (range.extent + range.offset) range.length)
no_rest_case range false place = refl

pub range_no_rest : (c : Context) (tree : ℕ) (range : FileExtent) → rest_postings c tree (FileExtentPart range) ≡ []
unfolding space_postings
range_no_rest c tree range = no_rest_case range (shows_sums c tree range) (home_of c range.extent range.extent_length)

rest_flags : (c d : Context) (tree : ℕ) (part : Part) → rest_postings c tree part ≡ rest_postings (with_flags c d) tree part
rest_flags c d tree (FileExtentPart range) = range_no_rest c tree range ∙ sym (range_no_rest (with_flags c d) tree range)
rest_flags c d tree other = ap (filter (λ q. not (is_to_sector q))) (space_alike c d tree other tt)

-- the postings to no sector are the same by contexts with the same chunks and size of a block
pub rest_alike : (c d : Context) (tree : ℕ) (part : Part) → c.chunks ≡ d.chunks → c.nodesize ≡ d.nodesize → rest_postings c tree part ≡ rest_postings d tree part
rest_alike c d tree part chunks nodesize = rest_flags c d tree part ∙ ap (λ e. rest_postings e tree part) (context_same c d chunks nodesize)

-- and those of a record but a range to sectors
pub sector_alike : (c d : Context) (tree : ℕ) (part : Part) → c.chunks ≡ d.chunks → c.nodesize ≡ d.nodesize → IsNoRange part → (address field : ℕ) → sector_sum c tree part address field ≡ sector_sum d tree part address field
sector_alike c d tree part chunks nodesize sort address field =
    ap (λ ps. total_of ps (sector address) field) (space_alike c d tree part sort ∙ ap (λ e. space_postings e tree part) (context_same c d chunks nodesize))

shows_case : (sort hole free : Bool) (range : FileExtent) (place : Option Home) (address field : ℕ)
    → total_of (cond (sort && (not hole && not free)) (shown_postings range place) []) (sector address) field
    ≡ cond free 0 (total_of (cond (sort && (not hole && not false)) (shown_postings range place) []) (sector address) field)
unfolding total_of
shows_case true true true range place address field = refl
shows_case true true false range place address field = refl
shows_case true false true range place address field = refl
shows_case true false false range place address field = refl
shows_case false hole true range place address field = refl
shows_case false hole false range place address field = refl

-- a range of a file adds nothing to a sector where its inode's data has no sums, and else what it does where all data has
pub range_sector : (c d : Context) (tree : ℕ) (range : FileExtent) (address field : ℕ) → c.chunks ≡ d.chunks → c.nodesize ≡ d.nodesize → d.sum_free ≡ (λ _ _. false)
    → sector_sum c tree (FileExtentPart range) address field ≡ cond (c.sum_free tree range.key.objectid) 0 (sector_sum d tree (FileExtentPart range) address field)
unfolding space_postings
range_sector c d tree range address field chunks nodesize none =
    shows_case (range.sort == 1) (range.extent == 0) (c.sum_free tree range.key.objectid) range (home_of c range.extent range.extent_length) address field
    ∙ ap (λ e. cond (c.sum_free tree range.key.objectid) 0 (sector_sum e tree (FileExtentPart range) address field))
    (let back = sym none in λ i. record { chunks = chunks i; nodesize = nodesize i; sum_free = back i; full = d.full })
