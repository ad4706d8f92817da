-- What the families post to sectors, and what of it rests on which data has checksums.
use Rattle.std.proofs.Common.{◌≡◌, ℕ, ◌==◌, true, false, not, cond, List, [], ◌∷◌, refl, ap, ◌∙◌}
use Rattle.std.specs.Prelude.{None}
use Rattle.std.specs.List.{AllByRecursion, filter}
use Rattle.verdict.specs.declared.place.Chunk.{Chunk}
use Rattle.accounts.specs.declared.account.Account.{Account}
use Rattle.accounts.specs.declared.postings.Posting.{Posting}
use Rattle.accounts.specs.Context.{Context}
use Rattle.accounts.specs.Sums.{total_of}
use Rattle.fs_items.specs.declared.file_extent.FileExtent.{FileExtent}
use Rattle.records.specs.Part.{Part}
use Rattle.records.specs.Part.Part.{FileExtentPart}
use Rattle.records.specs.SpacePostings.{is_to_sector, rest_postings, sector_sum, space_postings}
use Rattle.records.proofs.SectorSums.{IsNoRange, IsToOther, others_total, range_sector, rest_alike, rest_total, sector_alike}
use Rattle.account_tally.specs.Ranges.{inode_in}
use Rattle.account_tally.specs.Sums.{Frees, context_with, none_free}

-- what is left of postings but to sectors is to no sector
filter_others : (ps : List Posting) → AllByRecursion IsToOther (filter (λ posting. not (is_to_sector posting)) ps)
filter_others [] = tt
filter_others (p ∷ ps) =
    elim (is_to_sector p) as
    (λ t. is_to_sector p ≡ t
    → AllByRecursion IsToOther (cond (not t) (p ∷ filter (λ posting. not (is_to_sector posting)) ps) (filter (λ posting. not (is_to_sector posting)) ps)))
    [ true ↦ λ e. filter_others ps | false ↦ λ e. (e, filter_others ps) ] refl

pub rest_none : (context : Context) (tree : ℕ) (part : Part) (account : Account) (field : ℕ) → (account.kind == 5) ≡ true → total_of (rest_postings context tree part) account field ≡ 0
rest_none context tree part account field is = others_total (rest_postings context tree part) account field is (filter_others (space_postings context tree part))

-- to other accounts a record posts the same whatever data has checksums
pub rest_same : (chunks : List Chunk) (nodesize : ℕ) (free : Frees) (tree : ℕ) (part : Part) (account : Account) (field : ℕ) → (account.kind == 5) ≡ false
    → total_of (rest_postings (context_with chunks nodesize none_free) tree part) account field ≡ total_of (space_postings (context_with chunks nodesize free) tree part) account field
rest_same chunks nodesize free tree part account field other =
    ap (λ ps. total_of ps account field) (rest_alike (context_with chunks nodesize none_free) (context_with chunks nodesize free) tree part refl refl)
    ∙ rest_total (context_with chunks nodesize free) tree part account field other

-- what has no inode of a range is no range
no_range : (part : Part) → inode_in part ≡ None → IsNoRange part
no_range (FileExtentPart range) is = absurd (cc is)
no_range other is = tt

-- and so it does to sectors, but for a range of a file
pub sectors_alike : (chunks : List Chunk) (nodesize : ℕ) (free : Frees) (tree : ℕ) (part : Part) (address field : ℕ) → inode_in part ≡ None
    → sector_sum (context_with chunks nodesize none_free) tree part address field ≡ sector_sum (context_with chunks nodesize free) tree part address field
sectors_alike chunks nodesize free tree part address field is =
    sector_alike (context_with chunks nodesize none_free) (context_with chunks nodesize free) tree part refl refl (no_range part is) address field

pub range_sums : (chunks : List Chunk) (nodesize : ℕ) (free : Frees) (tree : ℕ) (range : FileExtent) (address field : ℕ)
    → sector_sum (context_with chunks nodesize free) tree (FileExtentPart range) address field
    ≡ cond (free tree range.key.objectid) 0 (sector_sum (context_with chunks nodesize none_free) tree (FileExtentPart range) address field)
range_sums chunks nodesize free tree range address field =
    range_sector (context_with chunks nodesize free) (context_with chunks nodesize none_free) tree range address field refl refl refl
