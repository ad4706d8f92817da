-- Of several chunks that hold one address one is kept, and all addresses stand at the same places.
use Rattle.std.proofs.Common.{◌≡◌, ℕ, ◌+◌, ◌<◌, ◌≤◌, ◌^◌, ◌==◌, ◌&&◌, nat_le, not, cond, Bool, true, false}
use Rattle.std.proofs.Common.{List, [], ◌∷◌, ◌++◌, length, suc, take, inl, inr, refl, sym, ap, subst, ◌∙◌, arith}
use Rattle.std.specs.Prelude.{Some, is_some, if◌then◌else◌}
use Rattle.std.specs.List.{AllByRecursion, fold}
use Rattle.std.proofs.lemmas.Bool.{eqb-true}
use Rattle.std.proofs.lemmas.Grind.{common_steps}
use Rattle.std.proofs.lemmas.Bool.Decides.{nat_tests}
use Rattle.std.proofs.lemmas.List.{append-nil, append_assoc, length-append}
use Rattle.verdict.proofs.Truth.{never}
use Rattle.verdict.proofs.Lists.{all_map, all_zip}
use Rattle.verdict.specs.Chunks.{holds_range, home, place, place_in}
use Rattle.verdict.specs.declared.place.Chunk.{Chunk}
use Rattle.touched_blocks.specs.Moves.{AreApart, LieApart, held_and_moved, is_moved, same_chunk, same_second}
use Rattle.touched_blocks.specs.Touched.{same_place}
use Rattle.tree_laws.specs.ArrayMoves.{LieApartOrSame}
use Rattle.tree_change.specs.Distinct.{distinct, is_new, with_new}
use Rattle.tree_change.specs.Merges.{fits}

-- ---- lists of which all elements have something

all_any : {X : Type 0} (P : X → Type 0) (xs : List X) → ((x : X) → P x) → AllByRecursion P xs
all_any P [] each = tt
all_any P (x ∷ xs) each = (each x, all_any P xs each)

all_push : {X : Type 0} (P : X → Type 0) (xs : List X) (y : X) → AllByRecursion P xs → P y → AllByRecursion P (xs ++ y ∷ [])
all_push P [] y all last = (last, tt)
all_push P (x ∷ xs) y all last = (all.0, all_push P xs y all.1 last)

-- ---- two chunks

parts_of : (s l r : Bool) → ((s && l) && r) ≡ true → (s ≡ true) × (l ≡ true)
parts_of true true r is = (refl, refl)
parts_of true false r is = cc
parts_of false l r is = cc

-- the same chunk holds the same addresses
holds_alike : (c d : Chunk) (a n : ℕ) → same_chunk c d ≡ true → holds_range c a n ≡ holds_range d a n
holds_alike c d a n same =
    let parts = parts_of (c.start == d.start) (c.length == d.length) (c.first == d.first && same_second c.second d.second) same in
    ap (λ s. nat_le s a && nat_le (a + n) (s + c.length)) (eqb-true c.start d.start parts.0)
    ∙ ap (λ l. nat_le d.start a && nat_le (a + n) (d.start + l)) (eqb-true c.length d.length parts.1)

-- a chunk holds its first byte
first_held : (d : Chunk) → 0 < d.length → holds_range d d.start 1 ≡ true
first_held d some = grind (arith, nat_tests)

-- one that lies apart does not hold it
apart_holds : (c d : Chunk) → LieApart c d → 0 < d.length → holds_range c d.start 1 ≡ true → ⊥
apart_holds c d (inl before) some held = grind (arith, nat_tests)
apart_holds c d (inr behind) some held = grind (arith, nat_tests)

-- one that holds it, and lies apart or is the same, is the same
held_same : (c d : Chunk) → LieApartOrSame c d → 0 < d.length → holds_range c d.start 1 ≡ true → same_chunk c d ≡ true
held_same c d (inl apart) some held = absurd (apart_holds c d apart some held)
held_same c d (inr same) some held = same

-- one that does not, lies apart
free_apart : (c d : Chunk) → LieApartOrSame c d → 0 < d.length → holds_range c d.start 1 ≡ false → LieApart c d
free_apart c d (inl apart) some free = apart
free_apart c d (inr same) some free = absurd (never (holds_range c d.start 1) (holds_alike c d d.start 1 same ∙ first_held d some) free)

-- ---- where no kept chunk has the first byte, the chunk lies apart from all

all_free : (kept : List Chunk) (d : Chunk) → 0 < d.length → AllByRecursion (λ c. LieApartOrSame c d) kept → is_some (home kept d.start 1) ≡ false
    → AllByRecursion (λ c. LieApart c d) kept
all_free [] d some all free = tt
all_free (c ∷ kept) d some all free = by (all_free kept d some all.1) (holds_range c d.start 1) refl free
  where
    by : (is_some (home kept d.start 1) ≡ false → AllByRecursion (λ c. LieApart c d) kept) → (b : Bool) → holds_range c d.start 1 ≡ b
        → is_some (cond b (Some c) (home kept d.start 1)) ≡ false → LieApart c d × AllByRecursion (λ c. LieApart c d) kept
    by rest true here none = cc
    by rest false here none = (free_apart c d all.0 some here, rest none)

apart_more : (kept : List Chunk) (d : Chunk) → AreApart kept → AllByRecursion (λ c. LieApart c d) kept → AreApart (kept ++ d ∷ [])
apart_more [] d apart all = (tt, tt)
apart_more (c ∷ kept) d apart all = (all_push (LieApart c) kept d apart.0 all.0, apart_more kept d apart.1 all.1)

-- ---- where one has it, the chunk is never the first that holds a range

skip_free : (kept rest : List Chunk) (d : Chunk) (a n : ℕ) → holds_range d a n ≡ false → home (kept ++ rest) a n ≡ home (kept ++ d ∷ rest) a n
skip_free [] rest d a n free = sym (ap (λ b. cond b (Some d) (home rest a n)) free)
skip_free (c ∷ kept) rest d a n free = ap (λ o. cond (holds_range c a n) (Some c) o) (skip_free kept rest d a n free)

skip_held : (kept rest : List Chunk) (d : Chunk) (a n : ℕ) → 0 < d.length → AllByRecursion (λ c. LieApartOrSame c d) kept
    → is_some (home kept d.start 1) ≡ true
    → home (kept ++ rest) a n ≡ home (kept ++ d ∷ rest) a n
skip_held [] rest d a n some all held = cc
skip_held (c ∷ kept) rest d a n some all held = by (skip_held kept rest d a n some all.1) (holds_range c d.start 1) refl held
  where
    same_one : same_chunk c d ≡ true → (b : Bool) → holds_range c a n ≡ b
        → cond b (Some c) (home (kept ++ rest) a n) ≡ cond b (Some c) (home (kept ++ d ∷ rest) a n)
    same_one same true here = refl
    same_one same false here = skip_free kept rest d a n (sym (holds_alike c d a n same) ∙ here)

    by : (is_some (home kept d.start 1) ≡ true → home (kept ++ rest) a n ≡ home (kept ++ d ∷ rest) a n) → (b : Bool) → holds_range c d.start 1 ≡ b
        → is_some (cond b (Some c) (home kept d.start 1)) ≡ true
        → home (c ∷ kept ++ rest) a n ≡ home (c ∷ kept ++ d ∷ rest) a n
    by more true here found = same_one (held_same c d all.0 some here) (holds_range c a n) refl
    by more false here found = ap (λ o. cond (holds_range c a n) (Some c) o) (more found)

-- ---- the whole list

-- a chunk has bytes, and ends at an address of 64 bits
abbrev Fine : Chunk → Type 0
Fine c = (0 < c.length) × (c.start + c.length < 2 ^ 64)

-- each chunk and all later ones lie apart or are the same
abbrev Later : List Chunk → Type 0
Later [] = Unit {0}
Later (d ∷ rest) = AllByRecursion (LieApartOrSame d) rest × Later rest

later_of : (rest : List Chunk) → AllByRecursion (λ c. AllByRecursion (LieApartOrSame c) rest) rest → Later rest
later_of [] all = tt
later_of (d ∷ rest) all = (
  all.0.1,
  later_of rest
      (all_map (λ c. AllByRecursion (LieApartOrSame c) (d ∷ rest)) (λ c. AllByRecursion (LieApartOrSame c) rest) rest (λ c both. both.1) all.1),
)

-- the chunks that are kept so far lie apart; those that are left lie apart from them or are the same, and so they do from each other
record Keeps (kept rest : List Chunk) : Type 0 where
  pub apart : AreApart kept
  pub each : AllByRecursion (λ d. AllByRecursion (λ c. LieApartOrSame c d) kept) rest
  pub later : Later rest
  pub fine : AllByRecursion Fine rest

record Gives (kept rest : List Chunk) : Type 0 where
  pub apart : AreApart (fold with_new kept rest)
  pub homes : (a n : ℕ) → home (fold with_new kept rest) a n ≡ home (kept ++ rest) a n

keeps_more : (kept rest : List Chunk) (d : Chunk) → Keeps kept (d ∷ rest) → is_some (home kept d.start 1) ≡ false → Keeps (kept ++ d ∷ []) rest
keeps_more kept rest d is free = record {
  apart = apart_more kept d is.apart (all_free kept d is.fine.0.0 is.each.0 free);
  each =
      all_zip (λ e. AllByRecursion (λ c. LieApartOrSame c e) kept) (LieApartOrSame d)
      (λ e. AllByRecursion (λ c. LieApartOrSame c e) (kept ++ d ∷ [])) rest
      (λ e all last. all_push (λ c. LieApartOrSame c e) kept d all last) is.each.1 is.later.0;
  later = is.later.1;
  fine = is.fine.1;
}

keeps_less : (kept rest : List Chunk) (d : Chunk) → Keeps kept (d ∷ rest) → Keeps kept rest
keeps_less kept rest d is = record { apart = is.apart; each = is.each.1; later = is.later.1; fine = is.fine.1 }

fits_is : (d : Chunk) → d.start + d.length < 2 ^ 64 → fits d ≡ true
fits_is d is = grind arith

gives : (kept rest : List Chunk) → Keeps kept rest → Gives kept rest
gives kept [] is = record { apart = is.apart; homes = λ a n. ap (λ l. home l a n) (sym (append-nil kept)) }
gives kept (d ∷ rest) is = by (is_some (home kept d.start 1)) refl (gives (kept ++ d ∷ []) rest) (gives kept rest)
  where
    step : (b : Bool) → is_some (home kept d.start 1) ≡ b → with_new kept d ≡ (if not b then kept ++ d ∷ [] else kept)
    step b found = ap (λ f. if f && not (is_some (home kept d.start 1)) then kept ++ d ∷ [] else kept) (fits_is d is.fine.0.1)
        ∙ ap (λ f. if not f then kept ++ d ∷ [] else kept) found

    by : (b : Bool) → is_some (home kept d.start 1) ≡ b → (Keeps (kept ++ d ∷ []) rest → Gives (kept ++ d ∷ []) rest)
        → (Keeps kept rest → Gives kept rest) → Gives kept (d ∷ rest)
    by true found more less =
        let given = less (keeps_less kept rest d is) in
        record {
          apart = subst (λ l. AreApart (fold with_new l rest)) (sym (step true found)) given.apart;
          homes = λ a n. ap (λ l. home (fold with_new l rest) a n) (step true found) ∙ given.homes a n
              ∙ skip_held kept rest d a n is.fine.0.0 is.each.0 found;
        }
    by false found more less =
        let given = more (keeps_more kept rest d is found) in
        record {
          apart = subst (λ l. AreApart (fold with_new l rest)) (sym (step false found)) given.apart;
          homes = λ a n. ap (λ l. home (fold with_new l rest) a n) (step false found) ∙ given.homes a n
              ∙ ap (λ l. home l a n) (append_assoc kept (d ∷ []) rest);
        }

abbrev AreApartOrSame : List Chunk → Type 0
AreApartOrSame whole = AllByRecursion (λ c. AllByRecursion (LieApartOrSame c) whole) whole

-- the chunks that are kept of a list lie apart, and the same one holds each range
given_of : (whole : List Chunk) → AreApartOrSame whole → AllByRecursion Fine whole → Gives [] whole
given_of whole all fine = gives [] whole (record {
  apart = tt;
  each = all_any (λ d. AllByRecursion (λ c. LieApartOrSame c d) []) whole (λ d. tt);
  later = later_of whole all;
  fine = fine;
})

-- so all addresses stand at the same places
pub distinct_apart : (whole : List Chunk) → AllByRecursion (λ c. AllByRecursion (LieApartOrSame c) whole) whole
    → AllByRecursion (λ (c : Chunk). (0 < c.length) × (c.start + c.length < 2 ^ 64)) whole
    → AreApart (distinct whole) × ((address n end : ℕ) → place (distinct whole) address n end ≡ place whole address n end)
distinct_apart whole all fine =
    let given = given_of whole all fine in
    (given.apart, λ address n end. ap (λ o. place_in o address n end) (given.homes address n))

-- no more are kept than there are
with_few : (rest kept : List Chunk) → length (fold with_new kept rest) ≤ length kept + length rest
with_few [] kept = omega arith
with_few (d ∷ rest) kept =
    by (is_new kept d) (with_few rest)
  where
    by : (b : Bool) → ((some : List Chunk) → length (fold with_new some rest) ≤ length some + length rest)
        → length (fold with_new (if b then kept ++ d ∷ [] else kept) rest) ≤ length kept + suc (length rest)
    by true rest_few =
        let here = rest_few (kept ++ d ∷ []) in
        let more : length (kept ++ d ∷ []) ≡ length kept + 1 = length-append kept (d ∷ []) in
        omega (arith, here, more)
    by false rest_few = let here = rest_few kept in omega (arith, here)

-- ---- where two lists place all addresses alike, the same blocks move from an old list to them

pub shifted_alike : (old some whole : List Chunk) → ((address n end : ℕ) → place some address n end ≡ place whole address n end)
    → (nodesize end address : ℕ) → is_moved old some nodesize end address ≡ is_moved old whole nodesize end address
shifted_alike old some whole same nodesize end address = ap (λ p. not (same_place (place old address nodesize end) p)) (same address nodesize end)

pub held_alike : (old some whole : List Chunk) → ((address n end : ℕ) → place some address n end ≡ place whole address n end)
    → (nodesize end address : ℕ) → held_and_moved old some nodesize end address ≡ held_and_moved old whole nodesize end address
held_alike old some whole same nodesize end address =
    ap (λ b. is_some (home old address nodesize) && b) (shifted_alike old some whole same nodesize end address)

-- what the code has, once all chunks were looked at
pub distinct_kept : (whole items some : List Chunk) (i : ℕ) → items ≡ whole → length items ≤ i → some ≡ distinct (take i items)
    → AllByRecursion (λ c. AllByRecursion (LieApartOrSame c) whole) whole
    → AllByRecursion (λ (c : Chunk). (0 < c.length) × (c.start + c.length < 2 ^ 64)) whole
    → AreApart some × ((address n end : ℕ) → place some address n end ≡ place whole address n end)
distinct_kept whole items some i same past is all fine =
    let taken : take i items ≡ items = grind (arith, common_steps) in
    subst (λ l. AreApart l × ((address n end : ℕ) → place l address n end ≡ place whole address n end)) (sym (is ∙ ap distinct (taken ∙ same)))
    (distinct_apart whole all fine)

pub homes_kept : (whole items some : List Chunk) (i : ℕ) → items ≡ whole → length items ≤ i → some ≡ distinct (take i items)
    → AllByRecursion (λ c. AllByRecursion (LieApartOrSame c) whole) whole
    → AllByRecursion (λ (c : Chunk). (0 < c.length) × (c.start + c.length < 2 ^ 64)) whole
    → (address n : ℕ) → home some address n ≡ home whole address n
homes_kept whole items some i same past is all fine =
    let taken : take i items ≡ items = grind (arith, common_steps) in
    subst (λ l. (address n : ℕ) → home l address n ≡ home whole address n) (sym (is ∙ ap distinct (taken ∙ same)))
    (given_of whole all fine).homes

pub kept_few : (whole items some : List Chunk) (i : ℕ) → items ≡ whole → length items ≤ i → some ≡ distinct (take i items)
    → length some ≤ length whole
kept_few whole items some i same past is =
    let taken : take i items ≡ items = grind (arith, common_steps) in
    let few = with_few whole [] in
    subst (λ l. length l ≤ length whole) (sym (is ∙ ap distinct (taken ∙ same))) (omega (arith, few))

-- where the same chunk of two old lists holds each block, the same blocks are held and move
pub left_alike : (some whole new : List Chunk) → ((address n : ℕ) → home some address n ≡ home whole address n)
    → (nodesize end address : ℕ) → is_moved some new nodesize end address ≡ is_moved whole new nodesize end address
left_alike some whole new same nodesize end address =
    ap (λ o. not (same_place (place_in o address nodesize end) (place new address nodesize end))) (same address nodesize)

pub held_left : (some whole new : List Chunk) → ((address n : ℕ) → home some address n ≡ home whole address n)
    → (nodesize end address : ℕ) → held_and_moved some new nodesize end address ≡ held_and_moved whole new nodesize end address
held_left some whole new same nodesize end address =
    ap (λ o. is_some o && is_moved some new nodesize end address) (same address nodesize)
    ∙ ap (λ b. is_some (home whole address nodesize) && b) (left_alike some whole new same nodesize end address)
