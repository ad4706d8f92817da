-- The chunks of the system array of an image whose walks have no finding: any two lie apart or are the same, and each has bytes, at addresses of
-- 64 bits.
use Rattle.std.proofs.Common.{◌≡◌, ℕ, ◌+◌, ◌<◌, ◌^◌, ◌==◌, ◌&&◌, Bool, true, false, List, [], length, refl, subst}
use Rattle.std.proofs.lemmas.Bool.{eqb-true}
use Rattle.std.specs.Prelude.{nat_eq}
use Rattle.std.specs.List.{AllByRecursion, list_any}
use Rattle.std.specs.Option.{option_eq}
use Rattle.verdict.proofs.Lists.{all_map as each_map}
use Rattle.verdict.specs.declared.place.Chunk.{Chunk}
use Rattle.verdict.proofs.Tables.{joined_none}
use Rattle.volume_items.specs.ChunkOrder.{by_start}
use Rattle.volume_items.specs.MapRules.{array_rows, rows_by_start, same_chunk}
use Rattle.tree_laws.specs.ArrayLaw.{HasArray}
use Rattle.tree_laws.specs.ArrayMoves.{LieApartOrSame}
use Rattle.tree_laws.specs.LivePairs.{Walked}
use Rattle.tree_laws.proofs.ArrayApart.{array_apart}
use Rattle.tree_laws.proofs.ArrayPlaces.{array_is}
use Rattle.tree_laws.proofs.ArrayTree.{array_has}
use Rattle.tree_laws.proofs.Picking.{each_both, one_of}
use Rattle.tree_laws.proofs.Treed.{map_kept, steps_of}
use Rattle.tree_change.proofs.Chunks.{Ends, chunks_end}
use Rattle.tree_change.proofs.Copies.{HasBytes, chunks_have_bytes}

-- a chunk has bytes, at addresses of 64 bits
abbrev pub IsFine : Chunk → Type 0
IsFine c = (0 < c.length) × (c.start + c.length < 2 ^ 64)

-- so it is of one that has the same bytes
fine_as : (c d : Chunk) → same_chunk c d ≡ true → IsFine d → IsFine c
fine_as c d same fine =
    let both = two_of (c.start == d.start) (c.length == d.length) (c.class == d.class) (c.first == d.first) (option_eq nat_eq c.second d.second) same in
    rw (eqb-true c.start d.start both.0, eqb-true c.length d.length both.1) fine
  where
    two_of : (p q r s t : Bool) → (p && q && r && s && t) ≡ true → (p ≡ true) × (q ≡ true)
    two_of false q r s t is = absurd (cc)
    two_of true false r s t is = absurd (cc)
    two_of true true r s t is = (refl, refl)

pub array_sound : (image : List ℕ) (old : Walked) (array : List Chunk) → HasArray image old array
    → AllByRecursion (λ c. AllByRecursion (LieApartOrSame c) array) array
    × AllByRecursion (λ (c : Chunk). (0 < c.length) × (c.start + c.length < 2 ^ 64)) array
array_sound image old array has =
    let s = steps_of image old has.walks in
    let same = array_is image old array s has in
    let none = map_kept old.sup s.array old.chunks image s.chunks_are in
    let both = joined_none (array_rows old.chunks s.array) (rows_by_start [] (by_start old.chunks) (length image)) none in
    let In = λ (c : Chunk). list_any (same_chunk c) old.chunks ≡ true in
    let each : AllByRecursion In array = subst (AllByRecursion In) same (array_has old.chunks s.array both.0) in
    let fine : AllByRecursion IsFine old.chunks =
    each_both HasBytes Ends old.chunks (chunks_have_bytes image old has.walks) (chunks_end image old has.walks) in (
      array_apart image old array has,
      each_map In IsFine array
          (λ c here. let pick = one_of IsFine (same_chunk c) old.chunks fine here in fine_as c pick.0 pick.2 pick.1) each,
    )
