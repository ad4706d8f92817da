-- What one more record makes of a disk's moments.
use Rattle.std.proofs.Common.{◌≡◌, ℕ, ◌+◌, ◌-◌, ◌≤◌, ◌&&◌, inl, inr, Bool, false, nat_eq, List, [], ◌∷◌, ◌++◌, reverse, length, take, drop, Some, Result, Ok, Err, OnOk, OnErr, is_ok, if◌then◌else◌, refl, sym, ap, ◌∙◌, arith, subst}
use Rattle.std.proofs.lemmas.Bool.{cases_Bool, eq-eqb}
use Rattle.std.proofs.lemmas.Grind.{common_steps}
use Rattle.std.proofs.lemmas.List.{reverse-append, length-drop, length-take-le, take-append-drop}
use Rattle.verdict.specs.Image.{range, written}
use Rattle.verdict.proofs.Images.{written_inside, range-written, length-written, take-written, drop-written}
use Rattle.recon_disk.specs.declared.stop.Record.{Record}
use Rattle.recon_disk.specs.declared.stop.Record.TheVariants.{Wrote, Missed}
use Rattle.recon_disk.specs.Outside.{IsPartlyWritten, MayBeWritten}
use Rattle.recon_disk.specs.Stopping.{last_of, before_last, write_of, moments_from}
use Rattle.recon_disk.specs.Stops.{OfPlace, with_write, unflushed}
use Rattle.recon_disk.proofs.Stopping.{place_is}

-- the range of an image inside it
pub length-range : (image : List ℕ) (at n : ℕ) → at + n ≤ length image → length (range at n image) ≡ n
length-range image at n fits = length-take-le n (drop at image) (omega (arith, length-drop at image))

-- an image is what lies before a range, the range and what lies behind it
pub three_parts : (image : List ℕ) (at n : ℕ) → take at image ++ range at n image ++ drop (at + n) image ≡ image
three_parts image at n = grind (arith, common_steps, take-append-drop at image, take-append-drop n (drop at image))

-- the replaced bytes written back
pub undone : (image : List ℕ) (at : ℕ) (bytes after : List ℕ) → at + length bytes ≤ length image → IsPartlyWritten image at bytes after
    → written after at (range at (length bytes) image) ≡ image
undone image at bytes after fits left =
    let n : length (range at (length bytes) image) ≡ length bytes = length-range image at (length bytes) fits in
    written_inside after (range at (length bytes) image) at (omega (arith, n, left.same_length))
    ∙ ap (λ xs. xs ++ range at (length bytes) image ++ drop (at + length (range at (length bytes) image)) after) left.before
    ∙ ap (λ k. take at image ++ range at (length bytes) image ++ drop (at + k) after) n
    ∙ ap (λ xs. take at image ++ range at (length bytes) image ++ xs) left.behind
    ∙ three_parts image at (length bytes)

-- the parts of a pool
pub last-append : (pool more : List ℕ) (n : ℕ) → length more ≡ n → last_of n (pool ++ more) ≡ more
last-append pool more n size = grind (arith, common_steps, size)

pub before_last-append : (pool more : List ℕ) (n : ℕ) → length more ≡ n → before_last n (pool ++ more) ≡ pool
before_last-append pool more n size = grind (arith, common_steps, size)

-- the write that left an image
pub write_known : (at : ℕ) (bytes after : List ℕ) → (at ≡ 65536 → length bytes ≡ 4096 → range at (length bytes) after ≡ bytes)
    → write_of at (length bytes) after ≡ unflushed at bytes
write_known at bytes after stands = elim (cases_Bool (nat_eq at 65536 && nat_eq (length bytes) 4096)) [
  | inl same ↦
      let both : (at ≡ 65536) × (length bytes ≡ 4096) = place_is at (length bytes) same in
      rw same (ap OfPlace (stands both.0 both.1))
  | inr other ↦ rw other refl
]

pub place_known : (at : ℕ) (bytes : List ℕ) → at ≡ 65536 → length bytes ≡ 4096 → unflushed at bytes ≡ OfPlace bytes
place_known at bytes a b = rw (eq-eqb at 65536 a, eq-eqb (length bytes) 4096 b) refl

-- a write that left other bytes at the superblock place changed nothing
pub nothing_changed : (image : List ℕ) (at : ℕ) (bytes after : List ℕ) → at + length bytes ≤ length image → IsPartlyWritten image at bytes after
    → at ≡ 65536 → length bytes ≡ 4096 → (range at (length bytes) after ≡ bytes → ⊥) → after ≡ image
nothing_changed image at bytes after fits left a b other = elim (left.whole a b) [
  | inl same ↦ same
  | inr whole ↦ absurd (other (ap (range at (length bytes)) whole ∙ range-written image bytes at fits))
]

pub whole_partly : (image : List ℕ) (at : ℕ) (bytes : List ℕ) → at + length bytes ≤ length image → IsPartlyWritten image at bytes (written image at bytes)
whole_partly image at bytes fits = record {
  same_length = length-written image bytes at fits;
  before = take-written image bytes at at (omega arith) (omega arith);
  behind = drop-written image bytes at (at + length bytes) (omega arith) fits;
  whole = λ a b. inr refl;
}

pub some_same : (xs ys : List ℕ) → Some xs ≡ Some ys → xs ≡ ys
some_same xs ys e = cc

-- of both an Ok and an Err
pub partly_both : {T E : Type 0} (r : Result T E) (image : List ℕ) (at : ℕ) (bytes after : List ℕ) → at + length bytes ≤ length image
    → OnOk r (Some after ≡ Some (written image at bytes)) → OnErr r (MayBeWritten (Some image) at bytes (Some after)) → IsPartlyWritten image at bytes after
partly_both (Ok x) image at bytes after fits is may =
    subst (IsPartlyWritten image at bytes) (sym (some_same after (written image at bytes) is)) (whole_partly image at bytes fits)
partly_both (Err e) image at bytes after fits is may =
    subst (IsPartlyWritten image at bytes) (sym (some_same after may.0 may.1)) may.2

pub one_more : (records : List Record) (r : Record) → reverse (records ++ r ∷ []) ≡ r ∷ reverse records
one_more records r = reverse-append records (r ∷ [])

pub moments_wrote : (records : List Record) (pool image : List ℕ) (at : ℕ) (bytes after : List ℕ) → at + length bytes ≤ length image
    → IsPartlyWritten image at bytes after → (at ≡ 65536 → length bytes ≡ 4096 → range at (length bytes) after ≡ bytes)
    → moments_from (reverse (records ++ Wrote at (length bytes) ∷ [])) (pool ++ range at (length bytes) image) after
    ≡ with_write (moments_from (reverse records) pool image) (unflushed at bytes)
moments_wrote records pool image at bytes after fits left stands =
    let part : List ℕ = range at (length bytes) image in
    let n : length part ≡ length bytes = length-range image at (length bytes) fits in
    ap (λ rs. moments_from rs (pool ++ part) after) (one_more records (Wrote at (length bytes)))
    ∙ ap (λ p. with_write (moments_from (reverse records) p (written after at (last_of (length bytes) (pool ++ part)))) (write_of at (length bytes) after)) (before_last-append pool part (length bytes) n)
    ∙ ap (λ p. with_write (moments_from (reverse records) pool (written after at p)) (write_of at (length bytes) after)) (last-append pool part (length bytes) n)
    ∙ ap (λ i. with_write (moments_from (reverse records) pool i) (write_of at (length bytes) after)) (undone image at bytes after fits left)
    ∙ ap (with_write (moments_from (reverse records) pool image)) (write_known at bytes after stands)

pub moments_missed : (records : List Record) (pool image : List ℕ) (at : ℕ) (bytes : List ℕ) → at ≡ 65536 → length bytes ≡ 4096
    → moments_from (reverse (records ++ Missed ∷ [])) (pool ++ bytes) image
    ≡ with_write (moments_from (reverse records) pool image) (unflushed at bytes)
moments_missed records pool image at bytes a b =
    ap (λ rs. moments_from rs (pool ++ bytes) image) (one_more records Missed)
    ∙ ap (λ p. with_write (moments_from (reverse records) p image) (OfPlace (last_of 4096 (pool ++ bytes)))) (before_last-append pool bytes 4096 b)
    ∙ ap (λ p. with_write (moments_from (reverse records) pool image) (OfPlace p)) (last-append pool bytes 4096 b)
    ∙ ap (with_write (moments_from (reverse records) pool image)) (sym (place_known at bytes a b))

-- a part of what a disk reads
pub part_range : (image xs : List ℕ) (at n : ℕ) → xs ≡ image → take (at + n - at) (drop at xs) ≡ range at n image
part_range image xs at n same = ap (λ k. take k (drop at xs)) (omega arith) ∙ ap (range at n) same

-- what a list is after a call that took more
pub taken : {X T E : Type 0} (r : Result T E) (v : T) (now old more : List X) → r ≡ Ok v → now ≡ (if is_ok r then old ++ more else old) → now ≡ old ++ more
taken r v now old more ok is = is ∙ ap (λ x. if is_ok x then old ++ more else old) ok

pub cut_back : (items old more now : List ℕ) (n : ℕ) → n ≡ length old → items ≡ old ++ more → now ≡ take n items → now ≡ old
cut_back items old more now n size is cut = cut ∙ ap (take n) is ∙ grind (arith, common_steps, size)

-- where there was room
pub where_room : {X : Type 0} (full : Bool) (now same other : X) → full ≡ false → now ≡ other → now ≡ (if full then same else other)
where_room full now same other e is = is ∙ ap (λ b. if b then same else other) (sym e)
