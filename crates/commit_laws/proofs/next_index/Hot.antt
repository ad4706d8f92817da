-- A shared pair is not hot, so that all hot ones are among the pairs that are not shared.
use Rattle.std.proofs.Common.{◌≡◌, ℕ, ◌==◌, Bool, true, false, not, ◌&&◌, ◌||◌, List, [], ◌∷◌, length, cond, refl, ap, sym, subst, ◌∙◌}
use Rattle.std.proofs.lemmas.Bool.{and_parts, eqb-true, or_parts}
use Rattle.std.proofs.lemmas.List.Sorted.{sum_by-IsPermutation}
use Rattle.std.proofs.lemmas.List.Sums.{length-filter}
use Rattle.std.specs.List.{filter, list_any}
use Rattle.verdict.specs.OnDisk.{key_same}
use Rattle.live_index.specs.declared.live.Live.{Live}
use Rattle.records.specs.Seen.{Seen}
use Rattle.records.specs.Seen.Seen.{BlockSeen, ItemSeen, PointerSeen}
use Rattle.tree_laws.specs.LivePairs.{Walked, live_in, live_of, records_in}
use Rattle.tree_laws.specs.Shared.{are_alike, are_read_alike, at_or_below, is_block_where, is_shared, is_shared_by, stands_untouched, unshared_in}
use Rattle.tree_laws.specs.SharedLaw.{touches_old}
use Rattle.touched_blocks.specs.Touched.{Written, stays_in_place, touches_block}
use Rattle.commit_laws.specs.Flags.{HotLaw, is_hot}

-- alike pairs are of one tree and address
pub alike_place : (a b : Live) → are_alike a b ≡ true → (a.tree ≡ b.tree) × (a.address ≡ b.address)
alike_place a b is =
    let place = and_parts (a.tree == b.tree && a.address == b.address)
    (a.level == b.level && (a.generation == b.generation && key_same a.first b.first)) is in
    let both = and_parts (a.tree == b.tree) (a.address == b.address) place.0 in
    (eqb-true a.tree b.tree both.0, eqb-true a.address b.address both.1)

-- the address of a pair which is alike to a block that no test passes does not pass it
free_address : (touched : ℕ → Bool) (live : Live) (seen : List Seen) → stands_untouched touched seen live ≡ true → touched live.address ≡ false
unfolding stands_untouched
free_address touched live [] is = absurd (cc)
free_address touched live (BlockSeen block ∷ behind) is =
    by (are_alike (live_of block behind) live) (at_or_below touched block behind) (stands_untouched touched behind live) refl refl is
    (free_address touched live behind)
  where
    by : (a f s : Bool) → are_alike (live_of block behind) live ≡ a → at_or_below touched block behind ≡ f → ((a && not f) || s) ≡ true
        → (s ≡ true → touched live.address ≡ false) → touched live.address ≡ false
    by true true s near free is rest = rest is
    by true false s near free is rest =
        let none = or_parts (touched block.address) (list_any (is_block_where touched) (records_in block behind)) free in
        subst (λ a. touched a ≡ false) (alike_place (live_of block behind) live near).1 none.0
    by false f s near free is rest = rest is
free_address touched live (PointerSeen one ∷ behind) is = free_address touched live behind is
free_address touched live (ItemSeen one ∷ behind) is = free_address touched live behind is

-- what is known of a shared pair
pub record IsShared (old new : Walked) (written : Written) (end : ℕ) (live : Live) : Type 0 where
  pub alike : are_read_alike old.sup new.sup ≡ true
  pub stays : stays_in_place old.chunks new.chunks old.sup.nodesize end live.address ≡ true
  pub stands : stands_untouched (touches_old old written end) old.seen live ≡ true
  pub there : list_any (are_alike live) (live_in new.seen) ≡ true
  pub free : touches_block written old.chunks old.sup.nodesize end live.address ≡ false

pub shared_is : (old new : Walked) (written : Written) (end : ℕ) (live : Live) → is_shared old new written end live ≡ true
    → IsShared old new written end live
unfolding is_shared_by
shared_is old new written end live is =
    let stays = stays_in_place old.chunks new.chunks old.sup.nodesize end live.address in
    let stands = stands_untouched (touches_old old written end) old.seen live in
    let there = list_any (are_alike live) (live_in new.seen) in
    let one = and_parts (are_read_alike old.sup new.sup) (stays && (stands && there)) is in
    let two = and_parts stays (stands && there) one.1 in
    let three = and_parts stands there two.1 in
    record {
      alike = one.0;
      stays = two.0;
      stands = three.0;
      there = three.1;
      free = free_address (touches_old old written end) live old.seen three.0;
    }

not_hot : (old new : Walked) (written : Written) (end : ℕ) (live : Live) → is_shared old new written end live ≡ true
    → is_hot old new written end live ≡ false
unfolding is_hot
not_hot old new written end live is =
    let s = shared_is old new written end live is in
    by (touches_block written old.chunks old.sup.nodesize end live.address)
    (stays_in_place old.chunks new.chunks old.sup.nodesize end live.address) s.free s.stays
  where
    by : (a b : Bool) → a ≡ false → b ≡ true → (a || not b) ≡ false
    by true b x y = absurd (cc)
    by false true x y = refl
    by false false x y = absurd (cc)

-- what passes a test, of those that do not pass one which none of these passes
left_filter : {X : Type 0} (p q : X → Bool) → ((x : X) → q x ≡ true → p x ≡ false) → (xs : List X)
    → filter p (filter (λ x. not (q x)) xs) ≡ filter p xs
left_filter p q none [] = refl
left_filter p q none (x ∷ xs) = by (q x) refl (left_filter p q none xs)
  where
    by : (b : Bool) → q x ≡ b → filter p (filter (λ x. not (q x)) xs) ≡ filter p xs
        → filter p (filter (λ x. not (q x)) (x ∷ xs)) ≡ filter p (x ∷ xs)
    by true is rest = rw (is, none x is) rest
    by false is rest = rw is (ap (λ ys. cond (p x) (x ∷ ys) ys) rest)

pub hot : HotLaw
hot old new written end change is =
    let p = is_hot old new written end in
    let lives = live_in old.seen in
    let left = unshared_in old new written end old in
    sym (length-filter p lives)
    ∙ (ap length (sym (left_filter p (is_shared old new written end) (not_hot old new written end) lives))
    ∙ (length-filter p left
    ∙ sym (sum_by-IsPermutation (λ live. cond (p live) 1 0) left change.old_blocks.items is.old_blocks)))
