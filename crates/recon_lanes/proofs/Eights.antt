-- A block more, and a sum more.
use Rattle.std.proofs.Common.{◌≡◌, ℕ, suc, ◌+◌, ◌-◌, ◌<◌, ◌≤◌, List, [], ◌∷◌, ◌++◌, length, take, get_or, set, map, replicate, sym, ap, ap₂, ◌∙◌, arith}
use Rattle.std.proofs.lemmas.List.{map-set, take_more_set, length-map, length-take-le, append_assoc, map-append, take_more, take_all}
use Rattle.std.proofs.Math.Seq.{set-append_seam}
use Rattle.recon_crc.specs.Checksum.{crc32c_of}
use Rattle.recon_lanes.specs.Lent.{Lent, eight_sums, with_block}

-- a store at the end of what stands is one more that stands
pub pushed : {A B : Type 0} (f : A → B) (l : List A) (count : ℕ) (a : A) → count < length l
    → take (count + 1) (map f (set l count a)) ≡ take count (map f l) ++ f a ∷ []
pushed f l count a inside = ap (take (count + 1)) (map-set f l count a) ∙ take_more_set (map f l) count (f a) (omega (arith, length-map l f, inside))

-- the sum of the next block, stored at the first place that is still 0
pub summed : {A : Type 0} (g : A → ℕ) (l : List A) (place : ℕ) (d : A) → place < length l → place < 8
    → set (map g (take place l) ++ replicate (8 - place) 0) place (g (get_or l place d)) ≡ map g (take (place + 1) l) ++ replicate (8 - (place + 1)) 0
summed g l place d inside few =
    let front = map g (take place l) in
    let long : length front ≡ place = length-map (take place l) g ∙ length-take-le place l (omega arith) in
    let behind : 8 - place ≡ suc (8 - (place + 1)) = omega arith in
    let more : front ++ g (get_or l place d) ∷ [] ≡ map g (take (place + 1) l) =
    sym (ap (map g) (take_more l place d inside) ∙ map-append g (take place l) (get_or l place d ∷ [])) in
    ap (λ n. set (front ++ replicate n 0) place (g (get_or l place d))) behind
    ∙ ap (λ n. set (front ++ 0 ∷ replicate (8 - (place + 1)) 0) n (g (get_or l place d))) (sym long)
    ∙ set-append_seam front 0 (replicate (8 - (place + 1)) 0) (g (get_or l place d))
    ∙ sym (append_assoc front (g (get_or l place d) ∷ []) (replicate (8 - (place + 1)) 0))
    ∙ ap (λ s. s ++ replicate (8 - (place + 1)) 0) more

abbrev lent_of : ℕ → List (List ℕ) → Lent
lent_of size blocks = record { size = size; blocks = blocks }

-- as many blocks are seen as are counted
pub counted : {A : Type 0} (f : A → List ℕ) (l : List A) (count : ℕ) → count ≤ 8 → length l ≡ 8 → length (take count (map f l)) ≡ count
counted f l count few eight = length-take-le count (map f l) (omega (arith, length-map l f, eight))

-- a block more, as it is seen
pub one_more : {A : Type 0} (f : A → List ℕ) (l : List A) (size count : ℕ) (a : A) (lent : Lent) → count < 8 → length l ≡ 8
    → lent_of size (take count (map f l)) ≡ lent
    → (length lent.blocks < 8) × (lent_of size (take (count + 1) (map f (set l count a))) ≡ with_block lent (f a))
one_more f l size count a lent few eight is =
    let stand : length (take count (map f l)) ≡ length lent.blocks = ap (λ v. length v.blocks) is in (
      omega (arith, stand, counted f l count (omega arith) eight),
      ap (lent_of size) (pushed f l count a (omega (arith, eight))) ∙ ap (λ v. with_block v (f a)) is,
    )

-- the sum of the next of the blocks
pub summed_next : (blocks : List (List ℕ)) (place sum : ℕ) (sums : List ℕ) → place < length blocks → length blocks ≤ 8
    → sums ≡ map crc32c_of (take place blocks) ++ replicate (8 - place) 0 → sum ≡ crc32c_of (get_or blocks place [])
    → set sums place sum ≡ map crc32c_of (take (place + 1) blocks) ++ replicate (8 - (place + 1)) 0
summed_next blocks place sum sums inside few so_far is =
    ap₂ (λ s n. set s place n) so_far is ∙ summed crc32c_of blocks place [] inside (omega arith)

-- all have their sums
pub all_summed : (blocks : List (List ℕ)) (place : ℕ) (sums : List ℕ) → place ≡ length blocks
    → sums ≡ map crc32c_of (take place blocks) ++ replicate (8 - place) 0 → sums ≡ eight_sums blocks
unfolding eight_sums
all_summed blocks place sums all so_far =
    so_far
    ∙ ap (λ n. map crc32c_of (take n blocks) ++ replicate (8 - n) 0) all
    ∙ ap (λ l. map crc32c_of l ++ replicate (8 - length blocks) 0) (take_all (length blocks) blocks (omega arith))
