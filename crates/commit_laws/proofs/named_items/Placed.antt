-- What items post otherwise in another context, and what their names say of it.
use Rattle.std.proofs.Common.{◌≡◌, ℕ, ◌+◌, Bool, true, false, cond, not, ◌||◌, ◌⊎◌, inl, inr, List, [], ◌∷◌, map, refl, sym, ap, ◌∙◌}
use Rattle.std.specs.Prelude.{◌==◌, Option, Some, None}
use Rattle.std.specs.List.{filter}
use Rattle.std.proofs.lemmas.Bool.{cond-false, cond-true, eq-eqb, or_left, or_right}
use Rattle.verdict.specs.declared.kinds.TheConstants.{EXTENT_ITEM, METADATA_ITEM}
use Rattle.verdict.specs.declared.key.Key.{Key}
use Rattle.accounts.specs.Context.{Context, home_of}
use Rattle.accounts.specs.Kinds.{sector}
use Rattle.accounts.specs.declared.context.Home.{Home}
use Rattle.change_records.specs.Refs.{ref_to}
use Rattle.extent_items.specs.ExtentRow.{ExtentFields}
use Rattle.fs_items.specs.declared.file_extent.FileExtent.{FileExtent}
use Rattle.records.specs.Part.{FitsPlace, Part}
use Rattle.records.specs.Part.Part.{RootPart, ExtentPart, FileExtentPart}
use Rattle.records.specs.Postings.{postings_of}
use Rattle.records.specs.SpacePostings.{is_to_sector, rest_postings, sectors_of, shown_postings, shows_sums, space_postings}
use Rattle.commit_laws.specs.Kept.{extent_at, placed_postings}
use Rattle.accounts.specs.Lent.{to}

-- no posting to a sector is among the others
none_to_sectors : (addresses : List ℕ) → filter (λ posting. not (is_to_sector posting)) (map (λ address. to (sector address) 3 1) addresses) ≡ []
none_to_sectors [] = refl
none_to_sectors (address ∷ more) = none_to_sectors more

none_shown : (range : FileExtent) (shows : Bool) (o : Option Home)
    → filter (λ posting. not (is_to_sector posting)) (cond shows (shown_postings range o) []) ≡ []
none_shown range true (Some home) = none_to_sectors (sectors_of (range.extent + range.offset) range.length)
none_shown range true None = refl
none_shown range false o = refl

-- whether a kind is that of an extent
abbrev of_extent : ℕ → Bool
of_extent kind = kind == EXTENT_ITEM || kind == METADATA_ITEM

is_extent : (kind : ℕ) → (kind ≡ EXTENT_ITEM) ⊎ (kind ≡ METADATA_ITEM) → of_extent kind ≡ true
is_extent kind (inl is) = or_left (kind == EXTENT_ITEM) _ (eq-eqb kind EXTENT_ITEM is)
is_extent kind (inr is) = or_right (kind == EXTENT_ITEM) _ (eq-eqb kind METADATA_ITEM is)

extent_rest : (context : Context) (tree : ℕ) (key : Key) (item : ExtentFields) → item.key ≡ key
    → rest_postings context tree (ExtentPart item) ≡ rest_postings context tree (ExtentPart (extent_at (ref_to tree key)))
unfolding space_postings
extent_rest context tree key item is = ap (λ k. rest_postings context tree (ExtentPart (extent_at (ref_to tree k)))) is

pub rest_is : (before after : Context) (tree block : ℕ) (key : Key) (part : Part) → FitsPlace tree key part
    → (postings_of before (record { tree = tree; block = block; key = key; part = part })
    ≡ postings_of after (record { tree = tree; block = block; key = key; part = part }) → ⊥)
    → (context : Context) → rest_postings context tree part ≡ placed_postings context (ref_to tree key)
unfolding space_postings
rest_is before after tree block key (ExtentPart item) fits differs context =
    extent_rest context tree key item fits.1 ∙ sym (cond-true (of_extent key.kind) _ _ (is_extent key.kind fits.2))
rest_is before after tree block key (FileExtentPart range) fits differs context =
    none_shown range (shows_sums context tree range) (home_of context range.extent range.extent_length)
    ∙ sym (cond-false (of_extent key.kind) _ _ (ap of_extent fits.1))
rest_is before after tree block key (RootPart x) fits differs context = absurd (differs refl)
rest_is before after tree block key other fits differs context = absurd (differs refl)
