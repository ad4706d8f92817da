-- What is made of all records, one after the other.
use Rattle.std.proofs.Common.{◌≡◌, ℕ, ◌+◌, ◌==◌, ◌||◌, Bool, true, false, List, [], ◌∷◌, ◌++◌, refl, ap, sym, ◌∙◌, arith, append_assoc, append-nil}
use Rattle.std.specs.Prelude.{Option, Some, None, flat_map}
use Rattle.std.specs.List.{cons_option, fold, filter_map, list_any}
use Rattle.std.proofs.Math.Path.{fun_ext}
use Rattle.verdict.specs.declared.place.Chunk.{Chunk}
use Rattle.accounts.specs.declared.account.Account.{Account}
use Rattle.accounts.specs.declared.postings.Posting.{Posting}
use Rattle.accounts.specs.Kinds.{sector}
use Rattle.accounts.specs.Sums.{is_same, total_of}
use Rattle.accounts.specs.Tally.{no_sums, with_postings}
use Rattle.accounts.proofs.Kept.{total_joined, with_more}
use Rattle.records.specs.Part.{Located}
use Rattle.records.specs.Context.{has_sum_free, is_inode, sum_free_inode}
use Rattle.records.specs.ExtentPostings.{extent_postings}
use Rattle.records.specs.InodePostings.{inode_postings}
use Rattle.records.specs.DirPostings.{dir_postings}
use Rattle.records.specs.SpacePostings.{rest_postings, space_postings}
use Rattle.records.specs.Postings.{all_postings, postings_of}
use Rattle.sector_runs.specs.Runs.{no_sectors}
use Rattle.account_tally.specs.Kept.{AreSumsOf}
use Rattle.account_tally.specs.Sums.{Frees, Summed, SumsByFree, context_with, none_free, or_free, rest_of, with_record, with_sectors}
use Rattle.records.proofs.SectorSums.{dir_none, extent_none, inode_none, space_none}
use Rattle.account_tally.proofs.Families.{rest_none, rest_same}
use Rattle.verdict.proofs.Truth.{or_assoc}

-- ---- all records

abbrev pub with_all : List Chunk → ℕ → SumsByFree → List Located → SumsByFree
with_all chunks nodesize sums [] = sums
with_all chunks nodesize sums (one ∷ more) = with_all chunks nodesize (with_sectors chunks nodesize sums one) more

abbrev pub or_all : Frees → List Located → Frees
or_all free [] = free
or_all free (one ∷ more) = or_all (or_free free (sum_free_inode one)) more

abbrev pub rest_all : List Chunk → ℕ → List Located → List Posting
rest_all chunks nodesize records = flat_map (rest_of chunks nodesize) records

abbrev pub from_these : List Chunk → ℕ → List Posting → SumsByFree → Frees → Summed
from_these chunks nodesize ps sums free = record { chunks = chunks; nodesize = nodesize; sums = with_postings no_sums ps; sectors = sums; free = free }

pub folded : (chunks : List Chunk) (nodesize : ℕ) (ps : List Posting) (sums : SumsByFree) (free : Frees) (records : List Located)
    → fold with_record (from_these chunks nodesize ps sums free) records
    ≡ from_these chunks nodesize (ps ++ rest_all chunks nodesize records) (with_all chunks nodesize sums records) (or_all free records)
folded chunks nodesize ps sums free [] = ap (λ qs. from_these chunks nodesize qs sums free) (sym (append-nil ps))
folded chunks nodesize ps sums free (one ∷ more) =
    let next = with_sectors chunks nodesize sums one in
    let freed = or_free free (sum_free_inode one) in
    ap (λ s. fold with_record (record { chunks = chunks; nodesize = nodesize; sums = s; sectors = next; free = freed }) more) (with_more no_sums ps (rest_of chunks nodesize one))
    ∙ folded chunks nodesize (ps ++ rest_of chunks nodesize one) next freed more
    ∙ ap (λ qs. from_these chunks nodesize qs (with_all chunks nodesize next more) (or_all freed more)) (append_assoc ps (rest_of chunks nodesize one) (rest_all chunks nodesize more))

-- ---- which data has no checksums

or_one : (free : Frees) (found : Option (ℕ × ℕ)) (more : List (ℕ × ℕ)) (tree ino : ℕ)
    → (or_free free found tree ino || list_any (is_inode tree ino) more) ≡ (free tree ino || list_any (is_inode tree ino) (cons_option found more))
or_one free None more tree ino = refl
or_one free (Some one) more tree ino = or_assoc (free tree ino) (is_inode tree ino one) (list_any (is_inode tree ino) more)

or_none : (b : Bool) → b ≡ (b || false)
or_none true = refl
or_none false = refl

all_free : (free : Frees) (records : List Located) (tree ino : ℕ) → or_all free records tree ino ≡ (free tree ino || has_sum_free records tree ino)
all_free free [] tree ino = or_none (free tree ino)
all_free free (one ∷ more) tree ino =
    all_free (or_free free (sum_free_inode one)) more tree ino
    ∙ or_one free (sum_free_inode one) (filter_map sum_free_inode more) tree ino

pub first_free : (records : List Located) → or_all none_free records ≡ has_sum_free records
first_free records = fun_ext (λ tree. fun_ext (λ ino. all_free none_free records tree ino))

-- ---- the sums of sectors

all_sectors : (chunks : List Chunk) (nodesize : ℕ) (sums : SumsByFree) (records : List Located) (free : Frees) (address field : ℕ)
    → with_all chunks nodesize sums records free address field
    ≡ sums free address field + total_of (flat_map (λ (one : Located). space_postings (context_with chunks nodesize free) one.tree one.part) records) (sector address) field
unfolding total_of
all_sectors chunks nodesize sums [] free address field = omega arith
all_sectors chunks nodesize sums (one ∷ more) free address field =
    let context = context_with chunks nodesize free in
    let later = all_sectors chunks nodesize (with_sectors chunks nodesize sums one) more free address field in
    let joined = total_joined (space_postings context one.tree one.part) (flat_map (λ (o : Located). space_postings context o.tree o.part) more) (sector address) field in
    omega (arith, later, joined)

-- ---- what a record posts, and what it posts but to sectors

-- sums of four families
four : (a b c d : List Posting) (account : Account) (field : ℕ)
    → total_of (a ++ (b ++ (c ++ d))) account field ≡ total_of a account field + (total_of b account field + (total_of c account field + total_of d account field))
four a b c d account field =
    total_joined a (b ++ (c ++ d)) account field
    ∙ ap (λ n. total_of a account field + n) (total_joined b (c ++ d) account field ∙ ap (λ n. total_of b account field + n) (total_joined c d account field))

module _ (chunks : List Chunk) (nodesize : ℕ) (free : Frees) where
  -- of a record, to an account of another kind
  others_of : (one : Located) (account : Account) → (account.kind == 5) ≡ false → (field : ℕ)
      → total_of (postings_of (context_with chunks nodesize free) one) account field ≡ total_of (rest_of chunks nodesize one) account field
  others_of one account is field =
      let context = context_with chunks nodesize free in
      let all = four (extent_postings one.tree one.part) (inode_postings one.tree one.part) (dir_postings one.tree one.part) (space_postings context one.tree one.part) account field in
      let rest = four (extent_postings one.tree one.part) (inode_postings one.tree one.part) (dir_postings one.tree one.part) (rest_postings (context_with chunks nodesize none_free) one.tree one.part) account field in
      let same = rest_same chunks nodesize free one.tree one.part account field is in
      omega (arith, all, rest, same)

  none_of : (one : Located) (account : Account) → (account.kind == 5) ≡ true → (field : ℕ) → total_of (rest_of chunks nodesize one) account field ≡ 0
  none_of one account is field =
      let rest = four (extent_postings one.tree one.part) (inode_postings one.tree one.part) (dir_postings one.tree one.part) (rest_postings (context_with chunks nodesize none_free) one.tree one.part) account field in
      let first = extent_none one.tree one.part account field is in
      let second = inode_none one.tree one.part account field is in
      let third = dir_none one.tree one.part account field is in
      let last = rest_none (context_with chunks nodesize none_free) one.tree one.part account field is in
      omega (arith, rest, first, second, third, last)

  space_of : (one : Located) (account : Account) → (account.kind == 5) ≡ true → (field : ℕ)
      → total_of (postings_of (context_with chunks nodesize free) one) account field ≡ total_of (space_postings (context_with chunks nodesize free) one.tree one.part) account field
  space_of one account is field =
      let context = context_with chunks nodesize free in
      let all = four (extent_postings one.tree one.part) (inode_postings one.tree one.part) (dir_postings one.tree one.part) (space_postings context one.tree one.part) account field in
      let first = extent_none one.tree one.part account field is in
      let second = inode_none one.tree one.part account field is in
      let third = dir_none one.tree one.part account field is in
      omega (arith, all, first, second, third)

  -- of all records
  others_all : (records : List Located) (account : Account) → (account.kind == 5) ≡ false → (field : ℕ)
      → total_of (all_postings (context_with chunks nodesize free) records) account field ≡ total_of (rest_all chunks nodesize records) account field
  others_all [] account is field = refl
  others_all (one ∷ more) account is field =
      let all = total_joined (postings_of (context_with chunks nodesize free) one) (all_postings (context_with chunks nodesize free) more) account field in
      let rest = total_joined (rest_of chunks nodesize one) (rest_all chunks nodesize more) account field in
      omega (arith, all, rest, others_of one account is field, others_all more account is field)

  none_all : (records : List Located) (account : Account) → (account.kind == 5) ≡ true → (field : ℕ) → total_of (rest_all chunks nodesize records) account field ≡ 0
  unfolding total_of
  none_all [] account is field = refl
  none_all (one ∷ more) account is field =
      let rest = total_joined (rest_of chunks nodesize one) (rest_all chunks nodesize more) account field in
      omega (arith, rest, none_of one account is field, none_all more account is field)

  space_all : (records : List Located) (account : Account) → (account.kind == 5) ≡ true → (field : ℕ)
      → total_of (all_postings (context_with chunks nodesize free) records) account field
      ≡ total_of (flat_map (λ (one : Located). space_postings (context_with chunks nodesize free) one.tree one.part) records) account field
  space_all [] account is field = refl
  space_all (one ∷ more) account is field =
      let context = context_with chunks nodesize free in
      let all = total_joined (postings_of context one) (all_postings context more) account field in
      let rest = total_joined (space_postings context one.tree one.part) (flat_map (λ (o : Located). space_postings context o.tree o.part) more) account field in
      omega (arith, all, rest, space_of one account is field, space_all more account is field)

  no_more_all : (records : List Located) (account : Account) → (account.kind == 5) ≡ true → is_same account (sector account.block) ≡ false → (field : ℕ)
      → total_of (all_postings (context_with chunks nodesize free) records) account field ≡ 0
  unfolding total_of
  no_more_all [] account is other field = refl
  no_more_all (one ∷ more) account is other field =
      let all = total_joined (postings_of (context_with chunks nodesize free) one) (all_postings (context_with chunks nodesize free) more) account field in
      let here = space_none (context_with chunks nodesize free) one.tree one.part account field is other in
      omega (arith, all, space_of one account is field, here, no_more_all more account is other field)

  pub are_sums : (records : List Located)
      → AreSumsOf (all_postings (context_with chunks nodesize free) records) (rest_all chunks nodesize records) (with_all chunks nodesize (λ _. no_sectors) records free)
  are_sums records = record {
    others = others_all records;
    none = none_all records;
    of_sectors = λ address field.
        (let all = space_all records (sector address) refl field in
        let kept = all_sectors chunks nodesize (λ _. no_sectors) records free address field in
        omega (arith, all, kept));
    no_more = no_more_all records;
  }
