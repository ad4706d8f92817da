-- The superblock of an image, by the bytes at its place.
use Rattle.std.proofs.Common.{◌≡◌, ℕ, ◌<◌, ◌≤◌, true, false, List, length, nat_lt, Option, Some, None, Err, refl, ap, sym, ◌∙◌, arith}
use Rattle.std.specs.Ordering.{nat_cmp}
use Rattle.std.specs.FinMap.{FinMap}
use Rattle.std.specs.Prelude.{IfSome, Result}
use Rattle.verdict.proofs.Numbers.{not_below}
use Rattle.verdict.specs.Image.{range}
use Rattle.verdict.specs.Rules.{image_finding}
use Rattle.verdict.specs.declared.finding.Family.TheVariants.{S}
use Rattle.verdict.specs.declared.finding.Finding.{Finding}
use Rattle.super_reader.specs.Superblock.{superblock_of}
use Rattle.super_reader.specs.declared.Super.{Super}
use Rattle.write_cache.specs.Cache.{overlaid}
use Rattle.write_cache.proofs.CacheLaws.{length-overlaid}
use Rattle.records.specs.Contents.{superblock_in}

less : (m n : ℕ) → m < n → nat_lt m n ≡ true
less m n h = grind arith

in_short : (image : List ℕ) → length image < 69632 → superblock_in image ≡ Err (image_finding S 1 (length image))
unfolding superblock_in
in_short image short = rw (less (length image) 69632 short) refl

in_long : (image : List ℕ) → 69632 ≤ length image → superblock_in image ≡ superblock_of (range 65536 4096 image)
unfolding superblock_in
in_long image long = rw (not_below (length image) 69632 long) refl

-- the finding of an image that is too short for a superblock
pub superblock_short : (told : Option (List ℕ)) (m : FinMap nat_cmp ℕ) (len end : ℕ) (finding : Finding)
    → IfSome told (λ image. length image ≡ len) → end ≡ len → end < 69632 → finding ≡ image_finding S 1 end
    → IfSome told (λ image. superblock_in (overlaid m 0 image) ≡ Err finding)
superblock_short None m len end finding size same short is = tt
superblock_short (Some image) m len end finding size same short is =
    let whole : length (overlaid m 0 image) ≡ end = length-overlaid m 0 image ∙ size ∙ sym same in
    in_short (overlaid m 0 image) (omega arith) ∙ ap Err (ap (image_finding S 1) whole ∙ sym is)

-- the superblock of an image by the bytes that were read at its place
pub superblock_long : (told : Option (List ℕ)) (m : FinMap nat_cmp ℕ) (len end : ℕ) (place : List ℕ) (r : Result Super Finding)
    → IfSome told (λ image. length image ≡ len) → end ≡ len → 69632 ≤ end
    → IfSome told (λ image. place ≡ range 65536 4096 (overlaid m 0 image)) → r ≡ superblock_of place
    → IfSome told (λ image. superblock_in (overlaid m 0 image) ≡ r)
superblock_long None m len end place r size same long read is = tt
superblock_long (Some image) m len end place r size same long read is =
    let whole : length (overlaid m 0 image) ≡ end = length-overlaid m 0 image ∙ size ∙ sym same in
    in_long (overlaid m 0 image) (omega arith) ∙ ap superblock_of (sym read) ∙ sym is
