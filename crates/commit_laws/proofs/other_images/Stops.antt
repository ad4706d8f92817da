-- Where no live block is hot, each image that keeps what is not written agrees with the first.
use Rattle.std.proofs.Common.{◌≡◌, ℕ, zero, suc, ◌+◌, ◌<◌, ◌-◌, ◌==◌, Bool, true, false, cond, not, ◌&&◌, List, [], ◌∷◌, length, min, refl, ap, sym, subst, ◌∙◌, arith, if◌then◌else◌}
use Rattle.std.specs.Prelude.{Some, is_some}
use Rattle.std.proofs.lemmas.Bool.{and_parts, eqb-true, or_parts}
use Rattle.std.proofs.lemmas.List.{ext_get_or}
use Rattle.std.proofs.lemmas.List.Sums.{sum_by-cons}
use Rattle.verdict.specs.Chunks.{place}
use Rattle.verdict.specs.Image.{range}
use Rattle.verdict.specs.declared.place.Place.{Place}
use Rattle.verdict.specs.declared.place.Place.TheVariants.{Nowhere, One, Two}
use Rattle.write_cache.proofs.CacheLaws.{get-range, length-range}
use Rattle.live_index.specs.declared.live.Live.{Live}
use Rattle.tree_laws.specs.LivePairs.{Walked, live_in, table_of}
use Rattle.touched_blocks.specs.Touched.{Written, any_written, copy_written, stays_in_place, touches_block}
use Rattle.commit_laws.specs.Commit.{Known}
use Rattle.commit_laws.specs.Flags.{hot_of, is_hot}
use Rattle.commit_laws.specs.Frame.{Agrees, HaveSame, HaveSameCopies}
use Rattle.commit_laws.specs.Stops.{KeepsUnwritten, StopLaw}
use Rattle.commit_laws.proofs.Held.{holds}
use Rattle.commit_laws.proofs.other_images.Frame.{frame}
use Rattle.commit_laws.proofs.whole_commits.Commit.{known_same}

-- a byte of a range of which none is written
none_written : (written : Written) (at n i : ℕ) → i < n → any_written written at n ≡ false → written (at + i) ≡ false
unfolding any_written
none_written written at zero i less none = absurd (omega (arith, less))
none_written written at (suc n) zero less none =
    let here : at ≡ at + 0 = omega arith in
    subst (λ o. written o ≡ false) here (or_parts (written at) (any_written written (suc at) n) none).0
none_written written at (suc n) (suc i) less none =
    let next : suc at + i ≡ at + suc i = omega arith in
    subst (λ o. written o ≡ false) next
    (none_written written (suc at) n i (omega (arith, less)) (or_parts (written at) (any_written written (suc at) n) none).1)

module _ (written : Written) (image other : List ℕ) (keeps : KeepsUnwritten written image other) where
  same_range : (at n : ℕ) → any_written written at n ≡ false → HaveSame n image other at
  same_range at n none =
      ext_get_or 0 (range at n other) (range at n image)
      (length-range at n other ∙ ap (λ k. min n (k - at)) keeps.size ∙ sym (length-range at n image))
      (λ i less.
      let within : i < n = omega (arith, less, length-range at n other) in
      get-range at n other i within ∙ keeps.others (at + i) (none_written written at n i within none) ∙ sym (get-range at n image i within))

  same_copies : (n : ℕ) (at : Place) → copy_written written n at ≡ false → HaveSameCopies n image other at
  same_copies n Nowhere none = tt
  same_copies n (One first) none = same_range first n none
  same_copies n (Two first second) none =
      let both = or_parts (any_written written first n) (any_written written second n) none in
      (same_range first n both.0, same_range second n both.1)

-- where no pair is hot, no write touches the block of one
module _ (old new : Walked) (written : Written) (end : ℕ) where
  untouched : (lives : List Live) → hot_of old new written end lives ≡ 0 → (tree address : ℕ) → is_some (table_of lives tree address) ≡ true
      → touches_block written old.chunks old.sup.nodesize end address ≡ false
  unfolding is_hot
  untouched [] none tree address has = absurd (cc)
  untouched (live ∷ lives) none tree address has =
      by (is_hot old new written end live) refl (sym (sum_by-cons (λ one. cond (is_hot old new written end one) 1 0) live lives) ∙ none)
      (λ rest. untouched lives rest tree address)
    where
      touched : ℕ → Bool
      touched at = touches_block written old.chunks old.sup.nodesize end at

      Rest : Type 0
      Rest = is_some (table_of lives tree address) ≡ true → touched address ≡ false

      here : (b : Bool) → (live.tree == tree && live.address == address) ≡ b → is_hot old new written end live ≡ false → Rest
          → is_some (if b then Some live else table_of lives tree address) ≡ true → touched address ≡ false
      here true is cold rest has =
          let same : live.address ≡ address = eqb-true live.address address (and_parts (live.tree == tree) (live.address == address) is).1 in
          subst (λ at. touched at ≡ false) same
          (or_parts (touched live.address) (not (stays_in_place old.chunks new.chunks old.sup.nodesize end live.address)) cold).0
      here false is cold rest has = rest has

      by : (b : Bool) → is_hot old new written end live ≡ b → cond b 1 0 + hot_of old new written end lives ≡ 0
          → (hot_of old new written end lives ≡ 0 → Rest) → touched address ≡ false
      by true is none rest = absurd (omega (arith, none))
      by false is none rest = here (live.tree == tree && live.address == address) refl is (rest (omega (arith, none))) has

pub stopped : StopLaw
stopped image other k old new written known was none keeps =
    let held = holds image old was in
    let same = known_same image k old held.0 known was held.1 held.2 in
    frame image other k known
    (subst (λ (x : Known). Agrees x image other) (sym same)
    (record {
      size = keeps.size;
      super = keeps.super;
      copies = λ tree address has.
          same_copies written image other keeps old.sup.nodesize (place old.chunks address old.sup.nodesize (length image))
          (untouched old new written (length image) (live_in old.seen) none tree address has);
    }))
