-- The copies of a block, and where they end.
use Rattle.std.specs.Ordering.{nat_cmp}
use Rattle.std.specs.FinMap.{FinMap}
use Rattle.std.proofs.lemmas.Grind.{common_steps}
use Rattle.std.proofs.Math.Nat.{mul-le-mul}
use Rattle.verdict.specs.Items.{is_multiple}
use Rattle.verdict.specs.Trees.{is_node_size}
use Rattle.write_cache.specs.Cache.{overlaid}
use Rattle.node_reader.specs.declared.expect.Expect.{Expect}
use Rattle.std.proofs.lemmas.Option.{IfSome_then}
use Rattle.std.specs.Prelude.{IfSome, Result, Ok}
use Rattle.recon_disk.specs.declared.disk.Disk.{Ghosts}
use Rattle.verdict.specs.declared.finding.Finding.{Finding}
use Rattle.block_source.specs.Gives.{Gives}
use Rattle.block_source.specs.declared.halt.Halt.{Halt}
use Rattle.block_source.specs.declared.halt.Halt.TheVariants.{Found as Halted, Disk, NoMemory}
use Rattle.std.proofs.Common.{sym, length, ◌*◌, ◌<◌, ◌^◌, Err, ◌≡◌, ℕ, ◌+◌, ◌-◌, ◌≤◌, Bool, true, false, cond, List, Option, Some, None, refl, ap, ◌∙◌, arith}
use Rattle.std.specs.Prelude.{nat_le, ◌&&◌}
use Rattle.verdict.specs.Chunks.{place, place_in, home, place_of_copies}
use Rattle.verdict.specs.declared.place.Chunk.{Chunk}
use Rattle.verdict.specs.declared.place.Place.{Place}
use Rattle.verdict.specs.declared.place.Place.TheVariants.{Nowhere, One, Two}
use Rattle.write_cache.proofs.CacheLaws.{length-overlaid, range-overlaid_image}
use Rattle.block_source.specs.Private.{FitsIn}
use Rattle.node_reader.specs.Stored.{bytes_at, found_by, stored_in}
use Rattle.node_reader.specs.Stored.CopyFault.{NoPlace}

fits_one : (end n at : ℕ) (place : Place) → (b : Bool) → nat_le (at + n) end ≡ b → FitsIn n end (cond b (One at) Nowhere)
fits_one end n at place true is = grind arith
fits_one end n at place false is = tt

fits_two : (end n first second : ℕ) (b c : Bool) → nat_le (first + n) end ≡ b → nat_le (second + n) end ≡ c → FitsIn n end (cond (b && c) (Two first second) Nowhere)
fits_two end n first second true true is same = (grind arith, grind arith)
fits_two end n first second true false is same = tt
fits_two end n first second false c is same = tt

fits_copies : (first : ℕ) (second : Option ℕ) (offset n end : ℕ) → FitsIn n end (place_of_copies first second offset n end)
fits_copies first None offset n end = fits_one end n (first + offset) Nowhere (nat_le (first + offset + n) end) refl
fits_copies first (Some second) offset n end = fits_two end n (first + offset) (second + offset) (nat_le (first + offset + n) end) (nat_le (second + offset + n) end) refl refl

fits_in : (found : Option Chunk) (a n end : ℕ) → FitsIn n end (place_in found a n end)
fits_in None a n end = tt
fits_in (Some chunk) a n end = fits_copies chunk.first chunk.second (a - chunk.start) n end

-- the copies at the place of a range end inside the device
pub place_fits : (chunks : List Chunk) (a n end : ℕ) → FitsIn n end (place chunks a n end)
place_fits chunks a n end = fits_in (home chunks a n) a n end

-- what waits over an image and over a range of it
pub ruleset overlays = (length-overlaid, range-overlaid_image)

-- what is stored at a multiple of a sector, on a device of so many bytes
pub stored_at : (m : FinMap nat_cmp ℕ) (image : List ℕ) (chunks : List Chunk) (n end address : ℕ) → length image ≡ end → is_multiple address ≡ true
    → stored_in (overlaid m 0 image) chunks n address ≡ bytes_at n (overlaid m 0 image) (place chunks address n end)
unfolding stored_in
stored_at m image chunks n end address size multiple =
    let whole : length (overlaid m 0 image) ≡ end = length-overlaid m 0 image ∙ size in
    rw (multiple, whole) refl

-- nothing is stored at another address
pub stored_nowhere : (image : List ℕ) (chunks : List Chunk) (n address : ℕ) → is_multiple address ≡ false → stored_in image chunks n address ≡ Err NoPlace
unfolding stored_in
stored_nowhere image chunks n address other = rw other refl

pub ruleset block_steps = (stored_at, stored_nowhere, place_fits)

-- the same bytes give the same outcome
gives_same : {D A : Type 0} (disk : Ghosts D) (before : D) (m : FinMap nat_cmp ℕ) (r : Result A Halt) (of same : List ℕ → Result A Finding) (told : Option (List ℕ))
    → disk.bytes before ≡ told → IfSome told (λ image. same (overlaid m 0 image) ≡ of (overlaid m 0 image)) → Gives disk before m r of → Gives disk before m r same
gives_same disk before m (Err Disk) of same told is alike gives = tt
gives_same disk before m (Err NoMemory) of same told is alike gives = gives
gives_same disk before m (Err (Halted finding)) of same None is alike gives = rw is tt
gives_same disk before m (Err (Halted finding)) of same (Some image) is alike gives = rw is (alike ∙ rw is at gives)
gives_same disk before m (Ok value) of same None is alike gives = rw is tt
gives_same disk before m (Ok value) of same (Some image) is alike gives = rw is (alike ∙ rw is at gives)

-- a block at a multiple of a sector, by what was read at its place
pub block_read : {D : Type 0} (disk : Ghosts D) (before : D) (m : FinMap nat_cmp ℕ) (r : Result (List ℕ) Halt) (chunks : List Chunk) (n end : ℕ) (e : Expect)
    → IfSome (disk.bytes before) (λ image. length image ≡ disk.len before) → end ≡ disk.len before → is_multiple e.address ≡ true
    → Gives disk before m r (λ image. found_by e (bytes_at n image (place chunks e.address n end))) → Gives disk before m r (λ image. found_by e (stored_in image chunks n e.address))
block_read disk before m r chunks n end e size same multiple gives =
    gives_same disk before m r _ _ (disk.bytes before) refl
    (IfSome_then (disk.bytes before) size (λ image whole. ap (found_by e) (stored_at m image chunks n end e.address (whole ∙ sym same) multiple))) gives

small : (n : ℕ) → is_node_size n ≡ true → n ≤ 65536
small n is = grind (arith, common_steps)

-- room for a block of each level fits
pub room_fits : (level n : ℕ) → level < 256 → is_node_size n ≡ true → (level + 1) * n < 2 ^ 64
room_fits level n low is =
    let few : (level + 1) * n ≤ 256 * 65536 = mul-le-mul {n₁ = level + 1} {m₁ = n} {n₂ = 256} {m₂ = 65536} (omega arith) (small n is) in
    omega arith
