-- The superblock of an image with pending writes over it, by the bytes of its place.
use Rattle.std.proofs.Common.{◌≡◌, ℕ, ◌≤◌, Bool, true, false, List, length, nat_lt, refl, sym, ap, ◌∙◌, arith}
use Rattle.std.specs.Prelude.{Some, Result, Ok, Err, if◌then◌else◌}
use Rattle.std.specs.Ordering.{nat_cmp}
use Rattle.std.specs.FinMap.{FinMap}
use Rattle.verdict.specs.Image.{range}
use Rattle.verdict.specs.Rules.{image_finding}
use Rattle.verdict.specs.declared.finding.Family.TheVariants.{S}
use Rattle.verdict.specs.declared.finding.Finding.{Finding}
use Rattle.super_reader.specs.Superblock.{superblock_of}
use Rattle.super_reader.specs.declared.Super.{Super}
use Rattle.write_cache.specs.Cache.{overlaid}
use Rattle.write_cache.proofs.CacheLaws.{range-overlaid_image}
use Rattle.records.specs.Contents.{contents, superblock_in}
use Rattle.plain_check.proofs.SuperLaws.{superblock_long}

-- the bytes of the superblock's place, with the pending writes over them
pub fresh_bytes : (pending : FinMap nat_cmp ℕ) (image raw laid : List ℕ) → raw ≡ range 65536 4096 image → laid ≡ overlaid pending 65536 raw
    → laid ≡ range 65536 4096 (overlaid pending 0 image)
fresh_bytes pending image raw laid was is =
    is ∙ ap (overlaid pending 65536) was ∙ sym (range-overlaid_image pending image 65536 4096)

-- what they say is the superblock of the image
pub fresh_super : (pending : FinMap nat_cmp ℕ) (image raw laid : List ℕ) (read : Result Super Finding)
    → 69632 ≤ length image → raw ≡ range 65536 4096 image → laid ≡ overlaid pending 65536 raw → read ≡ superblock_of laid
    → superblock_in (overlaid pending 0 image) ≡ read
fresh_super pending image raw laid read long was is says =
    superblock_long (Some image) pending (length image) (length image) laid read refl refl long (fresh_bytes pending image raw laid was is) says

-- an image that has a superblock is so long
pub has_room : (image : List ℕ) (sup : Super) → superblock_in image ≡ Ok sup → 69632 ≤ length image
unfolding superblock_in
has_room image sup is = by (nat_lt (length image) 69632) refl is
  where
    by : (b : Bool) → nat_lt (length image) 69632 ≡ b
        → (if b then Err (image_finding S 1 (length image)) else superblock_of (range 65536 4096 image)) ≡ Ok sup → 69632 ≤ length image
    by true short is = absurd (cc)
    by false long is = grind arith

-- the finding of the superblock is that of what the image holds
pub no_super : (image : List ℕ) (finding : Finding) → superblock_in image ≡ Err finding → contents image ≡ Err finding
unfolding contents
no_super image finding is = rw is refl
