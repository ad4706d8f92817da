-- The addresses of stops, and the walks that keep the blocks there.
use Rattle.std.proofs.Common.{◌≡◌, ℕ, zero, suc, ◌+◌, ◌<◌, ◌≤◌, ◌==◌, ◌||◌, Bool, true, false, List, [], ◌∷◌, length, take, ◌++◌, get_or, ap, refl, subst, sym, ◌∙◌, arith}
use Rattle.std.specs.Prelude.{None, Option, Result, Ok, Err, if◌then◌else◌}
use Rattle.std.proofs.Common.{inl, inr}
use Rattle.std.specs.Prelude.{is_ok, ◌⊎◌}
use Rattle.std.proofs.lemmas.List.{take_more}
use Rattle.std.specs.Ordering.{nat_cmp}
use Rattle.std.specs.List.Sorted.{IsBinarySearchResult, IsNonDecreasingBy, IsPermutation}
use Rattle.std.proofs.lemmas.Bool.{eqb-true, eq-eqb}
use Rattle.std.proofs.lemmas.List.Sorted.{list_any-IsPermutation, searched}
use Rattle.verdict.proofs.Truth.{or_right}
use Rattle.verdict.specs.Rules.{and_then}
use Rattle.verdict.specs.declared.finding.Finding.{Finding}
use Rattle.super_reader.specs.declared.Super.{Super}
use Rattle.node_reader.specs.Stored.{Stored, block_in}
use Rattle.node_reader.specs.declared.expect.Expect.{Expect}
use Rattle.records.specs.Walk.{Records, behind, block_and, each, own_records, then_records, walk_of}
use Rattle.tree_laws.specs.declared.told.Met.{Met}
use Rattle.tree_laws.specs.Known.{AreMetBy, blocks_met}
use Rattle.verdict.specs.declared.key.Key.{Key}
use Rattle.live_index.specs.Pairs.{Pairs}
use Rattle.live_index.specs.declared.live.Live.{Live}
use Rattle.tree_laws.specs.Keeping.{Under, last_if_same}
use Rattle.tree_laws.specs.OldSide.{kept_at}
use Rattle.tree_laws.specs.Stops.{is_stop}
use Rattle.tree_laws.specs.Skips.{Anew, Kept, next_of, nothing, skip_and, skip_below, skip_or}
use Rattle.tree_laws.specs.Stopping.{StopsLaw, addresses_of, has_address, kept_among}

-- the addresses of blocks that were met are those of the blocks as they were expected
pub same_addresses : (met : List Met) (a : ℕ) → has_address (addresses_of met) a ≡ is_stop (blocks_met met) a
same_addresses [] a = refl
same_addresses (one ∷ met) a = ap (λ b. (one.expect.address == a) || b) (same_addresses met a)

-- and so in any order
pub same_in_order : (met : List Met) (sorted : List ℕ) → IsPermutation (addresses_of met) sorted → (a : ℕ) → has_address sorted a ≡ is_stop (blocks_met met) a
same_in_order met sorted same a = sym (list_any-IsPermutation (λ one. one == a) (addresses_of met) sorted same) ∙ same_addresses met a

-- one address more
addresses_both : (met more : List Met) → addresses_of (met ++ more) ≡ addresses_of met ++ addresses_of more
addresses_both [] more = refl
addresses_both (one ∷ met) more = ap (λ l. one.expect.address ∷ l) (addresses_both met more)

pub addresses_more : (met : List Met) (i : ℕ) (d : Met) (before after : List ℕ) → i < length met → before ≡ addresses_of (take i met)
    → after ≡ before ++ (get_or met i d).expect.address ∷ [] → after ≡ addresses_of (take (i + 1) met)
addresses_more met i d before after inside so more =
    more ∙ ap (λ l. l ++ (get_or met i d).expect.address ∷ []) so
    ∙ sym (ap addresses_of (take_more met i d inside) ∙ addresses_both (take i met) (get_or met i d ∷ []))

-- an address is one of some where one of them is equal to it, and else none
pub has_at : (addresses : List ℕ) (a i : ℕ) → i < length addresses → get_or addresses i 0 ≡ a → has_address addresses a ≡ true
has_at [] a i inside is = absurd (omega arith)
has_at (one ∷ more) a zero inside is = ap (λ b. b || has_address more a) (eq-eqb one a is)
has_at (one ∷ more) a (suc i) inside is = or_right (one == a) _ (has_at more a i (omega arith) is)

no_other : (one a : ℕ) (b : Bool) → (one == a) ≡ b → (one ≡ a → ⊥) → b ≡ false
no_other one a true is none = absurd (none (eqb-true one a is))
no_other one a false is none = refl

pub has_none : (addresses : List ℕ) (a : ℕ) → ((k : ℕ) → k < length addresses → get_or addresses k 0 ≡ a → ⊥) → has_address addresses a ≡ false
has_none [] a none = refl
has_none (one ∷ more) a none =
    ap (λ b. b || has_address more a) (no_other one a (one == a) refl (none 0 (omega arith)))
    ∙ has_none more a (λ k inside. none (suc k) (omega (arith, inside)))

-- a search among rising addresses
pub search_has : (addresses : List ℕ) (a : ℕ) (r : Result ℕ ℕ) → IsNonDecreasingBy (λ one. one) addresses
    → IsBinarySearchResult (λ y. nat_cmp y a) addresses r → is_ok r ≡ has_address addresses a
search_has addresses a (Ok i) rise found =
    let at = searched addresses a (Ok i) found (λ i j. rise i j 0) in
    sym (has_at addresses a i at.0 at.1)
search_has addresses a (Err i) rise found =
    let at = searched addresses a (Err i) found (λ i j. rise i j 0) in
    sym (has_none addresses a (λ k inside is. apart k inside is at (le_or_lt k i)))
  where
    le_or_lt : (k i : ℕ) → (k < i) ⊎ (i ≤ k)
    le_or_lt k i = grind (arith)

    apart : (k : ℕ) → k < length addresses → get_or addresses k 0 ≡ a
        → (i ≤ length addresses) × ((k : ℕ) → k < i → get_or addresses k 0 < a) × ((k : ℕ) → i ≤ k → k < length addresses → a < get_or addresses k 0)
        → (k < i) ⊎ (i ≤ k) → ⊥
    apart k inside is at (inl less) = let b = at.1 k less in omega (arith, b, is)
    apart k inside is at (inr more) = let b = at.2 k more inside in omega (arith, b, is)

-- one of the blocks that were met
pub stop_at : (met : List Met) (i : ℕ) (d : Met) → i < length met → is_stop (blocks_met met) (get_or met i d).expect.address ≡ true
stop_at [] i d inside = absurd (omega arith)
stop_at (one ∷ met) zero d inside = ap (λ b. b || is_stop (blocks_met met) one.expect.address) (eq-eqb one.expect.address one.expect.address refl)
stop_at (one ∷ met) (suc i) d inside = or_right (one.expect.address == (get_or met i d).expect.address) _ (stop_at met i d (omega arith))

-- no blocks were met
pub met_none : (pairs : Pairs) (met : List Met) → met ≡ [] → AreMetBy pairs met
met_none pairs met none = λ k d inside. absurd (omega (arith, inside, ap length none))

-- a block at a stop is kept by the pair that is held of the stop
pub kept_stop : (pairs : Pairs) (test : ℕ → Bool) (under : Under) (e stop : Expect) (live held : Option Live) (found : Option Key)
    → stop.address ≡ e.address → stop.tree ≡ e.tree → test stop.address ≡ true → live ≡ pairs stop.tree stop.address → held ≡ live
    → found ≡ last_if_same e (under e.tree e.address) held → found ≡ kept_among pairs test under e
unfolding kept_among
kept_stop pairs test under e stop live held found address tree passes known same is =
    is
    ∙ ap (last_if_same e (under e.tree e.address)) (same ∙ known ∙ (λ i. pairs (tree i) (address i)))
    ∙ sym (ap (λ b. if b then last_if_same e (under e.tree e.address) (pairs e.tree e.address) else None) (subst (λ a. test a ≡ true) address passes))

-- walks are alike that keep alike
module _ (one other : Kept) (anew : Anew) (sup : Super) (stored : Stored) (alike : (e : Expect) → one e ≡ other e) where
  each_alike : (of to : Expect → Records) → ((e : Expect) → of e ≡ to e) → (next : List Expect) → each of next ≡ each to next
  each_alike of to same [] = refl
  each_alike of to same (e ∷ next) = rw (same e, each_alike of to same next) refl

  and_alike : (below others : List Expect → Records) → ((next : List Expect) → below next ≡ others next) → (e : Expect)
      → skip_and one nothing anew below sup stored e ≡ skip_and other nothing anew others sup stored e
  and_alike below others same e =
      ap (skip_or e (walk_of sup stored e) (behind (nothing e) (below (anew e))) (block_and (λ v bytes. below (next_of v bytes)) sup stored e)) (alike e)
      ∙ ap (λ rec. skip_or e (walk_of sup stored e) (behind (nothing e) rec) (block_and (λ v bytes. below (next_of v bytes)) sup stored e) (other e)) (same (anew e))
      ∙ ap (λ rec. skip_or e (walk_of sup stored e) (behind (nothing e) (others (anew e))) rec (other e)) (block_alike below others same e)
    where
      block_alike : (below others : List Expect → Records) → ((next : List Expect) → below next ≡ others next) → (e : Expect)
          → block_and (λ v bytes. below (next_of v bytes)) sup stored e ≡ block_and (λ v bytes. others (next_of v bytes)) sup stored e
      block_alike below others same e = by (block_in stored sup.fsid e)
        where
          by : (found : Result (List ℕ) Finding) → and_then found (λ bytes. then_records (own_records sup e bytes) (below (next_of e bytes)))
              ≡ and_then found (λ bytes. then_records (own_records sup e bytes) (others (next_of e bytes)))
          by (Err finding) = refl
          by (Ok bytes) = ap (then_records (own_records sup e bytes)) (same (next_of e bytes))

  pub below_alike : (level : ℕ) (next : List Expect) → skip_below one nothing anew level sup stored next ≡ skip_below other nothing anew level sup stored next
  unfolding skip_below
  below_alike zero next = refl
  below_alike (suc level) next =
      each_alike (skip_and one nothing anew (skip_below one nothing anew level sup stored) sup stored) (skip_and other nothing anew (skip_below other nothing anew level sup stored) sup stored)
      (and_alike (skip_below one nothing anew level sup stored) (skip_below other nothing anew level sup stored) (below_alike level)) next

pub stopped : StopsLaw
unfolding kept_among kept_at
stopped pairs test stops under anew sup stored e same =
    and_alike (kept_among pairs test under) (kept_at pairs stops under) anew sup stored alike
    (skip_below (kept_among pairs test under) nothing anew e.level sup stored) (skip_below (kept_at pairs stops under) nothing anew e.level sup stored)
    (below_alike (kept_among pairs test under) (kept_at pairs stops under) anew sup stored alike e.level) e
  where
    alike : (v : Expect) → kept_among pairs test under v ≡ kept_at pairs stops under v
    alike v = ap (λ b. if b then last_if_same v (under v.tree v.address) (pairs v.tree v.address) else None) (same v.address)
