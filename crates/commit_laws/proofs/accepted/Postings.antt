-- Who posts to the accounts of extents and of their references.
use Rattle.std.proofs.Common.{◌≡◌, ℕ, ◌+◌, ◌==◌, ◌||◌, Bool, true, false, cond, List, [], ◌∷◌, ◌++◌, inl, inr, map, refl, arith}
use Rattle.std.proofs.lemmas.Bool.Decides.{nat_tests}
use Rattle.std.specs.Prelude.{Option, Some, None, nat_lt}
use Rattle.std.specs.List.{AllByRecursion, flat_map}
use Rattle.verdict.specs.declared.key.Key.{Key}
use Rattle.extent_items.specs.declared.reference.Reference.{Reference}
use Rattle.fs_items.specs.DirRow.{EntryFields}
use Rattle.fs_items.specs.declared.file_extent.FileExtent.{FileExtent}
use Rattle.fs_items.specs.declared.inode.InodeItem.{InodeItem}
use Rattle.accounts.specs.Context.{Context, home_of}
use Rattle.accounts.specs.Kinds.{extent, extent_form, inode_type, sector}
use Rattle.accounts.specs.declared.account.Account.{Account}
use Rattle.accounts.specs.declared.context.Home.{Home}
use Rattle.accounts.specs.declared.postings.Posting.{Posting}
use Rattle.records.specs.DirPostings.{dir_entry_postings, dir_postings, is_root_name, is_subvolume_id, link_postings}
use Rattle.records.specs.ExtentPostings.{extent_postings, has_extent, range_postings, reference_account, reference_postings}
use Rattle.records.specs.InodePostings.{inode_entry_postings, inode_name_postings, inode_postings, size_postings, type_of_mode}
use Rattle.records.specs.Part.{Located, Part}
use Rattle.records.specs.Part.Part.{BlockPart, ChunkPart, DevExtentPart, DevicePart, EntriesPart, ExtentPart, FileExtentPart, GroupPart, InodePart}
use Rattle.records.specs.Part.Part.{KeyedPart, LinkPart, NamesPart, OrphanPart, RootPart, SumsPart, SuperPart, XattrPart}
use Rattle.records.specs.Postings.{postings_of}
use Rattle.records.specs.SpacePostings.{extent_length, is_data, is_other_class, owned_postings, place_postings, sectors_from, sectors_of}
use Rattle.records.specs.SpacePostings.{shown_postings, shows_sums, space_postings}
use Rattle.commit_laws.proofs.Elements.{Among}
use Rattle.commit_laws.proofs.accepted.Sums.{among_left}
use Rattle.accounts.specs.Lent.{to}

abbrev All : (Posting → Type 0) → List Posting → Type 0
All P ps = AllByRecursion P ps

all_joined : (P : Posting → Type 0) (ps qs : List Posting) → All P ps → All P qs → All P (ps ++ qs)
all_joined P [] qs first later = later
all_joined P (p ∷ ps) qs first later = (first.0, all_joined P ps qs first.1 later)

all_rows : {A : Type 0} (P : Posting → Type 0) (row : A → List Posting) → ((x : A) → All P (row x)) → (xs : List A) → All P (flat_map row xs)
all_rows P row each [] = tt
all_rows P row each (x ∷ xs) = all_joined P (row x) (flat_map row xs) (each x) (all_rows P row each xs)

all_mapped : {A : Type 0} (P : Posting → Type 0) (f : A → Posting) → ((x : A) → P (f x)) → (xs : List A) → All P (map f xs)
all_mapped P f each [] = tt
all_mapped P f each (x ∷ xs) = (each x, all_mapped P f each xs)

all_either : (P : Posting → Type 0) (b : Bool) (ps qs : List Posting) → All P ps → All P qs → All P (cond b ps qs)
all_either P true ps qs first later = first
all_either P false ps qs first later = later

all_map : (P Q : Posting → Type 0) (ps : List Posting) → ((p : Posting) → P p → Q p) → All P ps → All Q ps
all_map P Q [] f all = tt
all_map P Q (p ∷ ps) f all = (f p all.0, all_map P Q ps f all.1)

-- ---- postings to accounts behind A4

abbrev High : Posting → Type 0
High posting = nat_lt 4 posting.account.kind ≡ true

inode_entry_high : (tree dir : ℕ) (entry : EntryFields) → All High (inode_entry_postings tree dir entry)
inode_entry_high tree dir entry = (refl, (refl, all_either High (entry.location.kind == 1) _ [] (refl, (refl, tt)) tt))

size_high : (tree : ℕ) (item : InodeItem) → All High (size_postings tree item)
size_high tree item =
    all_either High (type_of_mode item.mode == 2) _ _ (refl, tt)
    (all_either High (type_of_mode item.mode == 1 || type_of_mode item.mode == 7) _ [] (refl, tt) tt)

inode_high : (tree : ℕ) (part : Part) → All High (inode_postings tree part)
unfolding inode_postings
inode_high tree (InodePart item) = (
  refl,
  (
    refl,
    all_joined High (size_postings tree item) (to (inode_type tree item.key.objectid (type_of_mode item.mode)) 1 1 ∷ [])
        (size_high tree item) (refl, tt),
  ),
)
inode_high tree (NamesPart item) = all_rows High (inode_name_postings tree item.key.objectid) (λ name. (refl, (refl, tt))) item.names
inode_high tree (XattrPart item) = (refl, tt)
inode_high tree (OrphanPart item) = (refl, tt)
inode_high tree (EntriesPart item) = all_rows High (inode_entry_postings tree item.key.objectid) (inode_entry_high tree item.key.objectid) item.entries
inode_high tree (FileExtentPart range) =
    (refl, all_either High (range.sort == 0) _ _ (refl, tt) (all_either High (range.extent == 0) [] _ tt (refl, tt)))
inode_high tree other = tt

dir_entry_high : (tree : ℕ) (key : Key) (entry : EntryFields) → All High (dir_entry_postings tree key entry)
dir_entry_high tree key entry =
    all_either High (key.kind == 84) _ _ (refl, tt)
    ((refl, all_either High (entry.location.kind == 1) _ _ (refl, tt) (all_either High (entry.location.kind == 132) _ [] (refl, tt) tt)))

dir_high : (tree : ℕ) (part : Part) → All High (dir_postings tree part)
unfolding dir_postings
dir_high tree (NamesPart item) =
    all_either High (is_root_name item.key) [] _ tt (all_rows High (link_postings tree item.key.objectid) (λ name. (refl, tt)) item.names)
dir_high tree (EntriesPart item) = all_rows High (dir_entry_postings tree item.key) (dir_entry_high tree item.key) item.entries
dir_high tree (RootPart item) = all_either High (is_subvolume_id item.key.objectid) _ [] (refl, tt) tt
dir_high tree (LinkPart item) = all_either High (item.key.kind == 156) _ _ (refl, (refl, (refl, tt))) (refl, tt)
dir_high tree other = tt

owned_high : (of_data : Bool) (address : ℕ) → All High (owned_postings of_data address)
owned_high of_data address = (refl, all_either High of_data _ [] (refl, tt) tt)

place_high : (of_data : Bool) (address len : ℕ) (place : Option Home) → All High (place_postings of_data address len place)
place_high of_data address len None = (refl, tt)
place_high of_data address len (Some home) = (
  refl,
  all_joined High (flat_map (owned_postings of_data) (sectors_of address len)) _
      (all_rows High (owned_postings of_data) (owned_high of_data) (sectors_of address len))
      (all_either High (is_other_class of_data home.class) _ [] (refl, tt) tt),
)

shown_high : (range : FileExtent) (place : Option Home) → All High (shown_postings range place)
shown_high range None = tt
shown_high range (Some home) =
    all_mapped High (λ address. to (sector address) 3 1) (λ address. refl) (sectors_of (range.extent + range.offset) range.length)

space_high : (context : Context) (tree : ℕ) (part : Part) → All High (space_postings context tree part)
unfolding space_postings
space_high context tree (SuperPart used) = (refl, tt)
space_high context tree (ChunkPart item) = (refl, all_mapped High _ (λ one. refl) item.stripes)
space_high context tree (DevicePart item) = (refl, tt)
space_high context tree (DevExtentPart item) = (refl, (refl, tt))
space_high context tree (GroupPart item) = (refl, (refl, (refl, tt)))
space_high context tree (ExtentPart item) =
    place_high (is_data item) item.key.objectid (extent_length context item) (home_of context item.key.objectid (extent_length context item))
space_high context tree (FileExtentPart range) =
    all_either High (shows_sums context tree range) _ [] (shown_high range (home_of context range.extent range.extent_length)) tt
space_high context tree (SumsPart item) =
    all_mapped High (λ address. to (sector address) 2 1) (λ address. refl) (sectors_from item.key.offset _)
space_high context tree other = tt

-- ---- what a posting says of its record

-- a block at an address, or a range of a file of an extent at an address
abbrev pub Touches : ℕ → Part → Type 0
Touches x (BlockPart address level) = address ≡ x
Touches x (FileExtentPart range) = (has_extent range ≡ true) × (range.extent ≡ x)
Touches x other = ⊥

-- an extent of a form
abbrev pub IsForm : Account → Part → Type 0
IsForm account (ExtentPart item) = extent_form item.key.objectid item.key.kind item.key.offset ≡ account
IsForm account other = ⊥

-- a reference that is counted is posted to its account too
pub record Refers (ps : List Posting) (p : Posting) : Type 0 where
  pub reference : Reference
  pub address : ℕ
  pub at : p.account ≡ extent address
  pub among : Among (to (reference_account address reference) 0 p.amount) ps

pub record Says (part : Part) (ps : List Posting) (p : Posting) : Type 0 where
  pub low : p.field ≡ 1 → nat_lt p.account.kind 3 ≡ true → Touches p.account.block part
  pub form : p.field ≡ 0 → p.account.kind ≡ 4 → IsForm p.account part
  pub count : p.field ≡ 2 → p.account.kind ≡ 3 → Refers ps p

high_says : (part : Part) (ps : List Posting) (p : Posting) → High p → Says part ps p
high_says part ps p high = record {
  low = λ f k. elim (no_low p.account.kind high k) [ ];
  form = λ f k. elim (no_four p.account.kind 4 high k refl) [ ];
  count = λ f k. elim (no_three p.account.kind high k) [ ];
}
  where
    no_low : (n : ℕ) → nat_lt 4 n ≡ true → nat_lt n 3 ≡ true → ⊥
    no_low n high low = grind (arith, nat_tests)

    no_four : (n k : ℕ) → nat_lt 4 n ≡ true → n ≡ k → k ≡ 4 → ⊥
    no_four n k high is four = grind (arith, nat_tests)

    no_three : (n : ℕ) → nat_lt 4 n ≡ true → n ≡ 3 → ⊥
    no_three n high is = grind (arith, nat_tests)

-- the account of a reference is of kind 1 or 2, and names the extent's address
pub record IsReference (address : ℕ) (account : Account) : Type 0 where
  pub kind : nat_lt account.kind 3 ≡ true
  pub some : nat_lt 0 account.kind ≡ true
  pub block : account.block ≡ address

either_account : (address : ℕ) (b : Bool) (x y : Account) → IsReference address x → IsReference address y → IsReference address (cond b x y)
either_account address true x y first later = first
either_account address false x y first later = later

pub reference_is : (address : ℕ) (reference : Reference) → IsReference address (reference_account address reference)
reference_is address reference =
    either_account address (reference.kind == 176) _ _ (record { kind = refl; some = refl; block = refl })
    (either_account address (reference.kind == 178) _ _ (record { kind = refl; some = refl; block = refl })
    (either_account address (reference.kind == 182) _ _ (record { kind = refl; some = refl; block = refl })
    (record { kind = refl; some = refl; block = refl })))

refs_say : (address : ℕ) (part : Part) (whole : List Posting) (references : List Reference)
    → ((q : Posting) → Among q (flat_map (reference_postings address) references) → Among q whole)
    → All (Says part whole) (flat_map (reference_postings address) references)
refs_say address part whole [] into = tt
refs_say address part whole (reference ∷ references) into = (
  record {
    low = λ f k. absurd (cc k);
    form = λ f k. absurd (cc f);
    count = λ f k. record { reference = reference; address = address; at = refl; among = into _ (inr (inl refl)) };
  },
  (
    record {
      low = λ f k. absurd (cc f);
      form = λ f k. elim (no_four (reference_account address reference).kind (reference_is address reference).kind k) [ ];
      count = λ f k. absurd (cc f);
    },
    refs_say address part whole references (λ q has. into q (inr (inr has))),
  ),
)
  where
    no_four : (n : ℕ) → nat_lt n 3 ≡ true → n ≡ 4 → ⊥
    no_four n low is = grind (arith, nat_tests)

extent_says : (tree : ℕ) (part : Part) (whole : List Posting) → ((q : Posting) → Among q (extent_postings tree part) → Among q whole)
    → All (Says part whole) (extent_postings tree part)
unfolding extent_postings
extent_says tree (BlockPart address level) whole into = (
  record { low = λ f k. refl; form = λ f k. absurd (cc f); count = λ f k. absurd (cc f) },
  (record { low = λ f k. absurd (cc k); form = λ f k. absurd (cc f); count = λ f k. absurd (cc f) }, tt),
)
extent_says tree (ExtentPart item) whole into = (
  record { low = λ f k. absurd (cc f); form = λ f k. absurd (cc k); count = λ f k. absurd (cc f) },
  (
    record { low = λ f k. absurd (cc k); form = λ f k. absurd (cc f); count = λ f k. absurd (cc f) },
    (
      record { low = λ f k. absurd (cc f); form = λ f k. refl; count = λ f k. absurd (cc f) },
      refs_say item.key.objectid (ExtentPart item) whole item.references (λ q has. into q (inr (inr (inr has)))),
    ),
  ),
)
extent_says tree (KeyedPart item) whole into = refs_say item.key.objectid (KeyedPart item) whole (item.reference ∷ []) into
extent_says tree (FileExtentPart range) whole into = by (has_extent range) refl
  where
    by : (b : Bool) → has_extent range ≡ b → All (Says (FileExtentPart range) whole) (range_postings tree range)
    by true is = rw is (
      record { low = λ f k. (is, refl); form = λ f k. absurd (cc f); count = λ f k. absurd (cc f) },
      (record { low = λ f k. absurd (cc k); form = λ f k. absurd (cc f); count = λ f k. absurd (cc f) }, tt),
    )
    by false is = rw is tt
extent_says tree other whole into = tt

-- so does each posting of a record
pub all_say : (context : Context) (one : Located) → All (Says one.part (postings_of context one)) (postings_of context one)
all_say context one =
    let whole = postings_of context one in
    let own = extent_postings one.tree one.part in
    let inodes = inode_postings one.tree one.part in
    let dirs = dir_postings one.tree one.part in
    let spaces = space_postings context one.tree one.part in
    let S = Says one.part whole in
    let up = λ (p : Posting) (high : High p). high_says one.part whole p high in
    all_joined S own (inodes ++ (dirs ++ spaces)) (extent_says one.tree one.part whole (λ q has. among_left q own (inodes ++ (dirs ++ spaces)) has))
    (all_map High S (inodes ++ (dirs ++ spaces)) up
    (all_joined High inodes (dirs ++ spaces) (inode_high one.tree one.part)
    (all_joined High dirs spaces (dir_high one.tree one.part) (space_high context one.tree one.part))))
