-- No two live pairs of an image are of one tree and at one address, so that the items of an image are told apart by the pairs of their leaves.
use Rattle.std.proofs.Common.{◌≡◌, ℕ, suc, ◌==◌, ◌<◌, Bool, true, false, not, ◌&&◌, ◌||◌, List, [], ◌∷◌, ◌++◌, inl, inr, length, refl, ap, ◌∙◌}
use Rattle.std.proofs.Common.{arith, slice_index_or, if◌then◌else◌}
use Rattle.std.proofs.lemmas.Bool.Decides.{nat_tests}
use Rattle.std.proofs.lemmas.List.Elements.{filter-append}
use Rattle.std.specs.Prelude.{map, nat_lt}
use Rattle.std.specs.List.{AllByRecursion, AllPairs, filter, flat_map, list_any}
use Rattle.live_index.specs.declared.live.Live.{Live}
use Rattle.records.specs.Part.{Located}
use Rattle.tree_change.proofs.Apart.{either_pair}
use Rattle.tree_change.proofs.Split.{stands_in}
use Rattle.tree_laws.proofs.OldBlocks.{hits}
use Rattle.commit_laws.specs.Same.{live_record}
use Rattle.commit_laws.proofs.Elements.{Among, Distinct}

-- a live pair is of another tree than another, or at another address
pub record Elsewhere (a b : Live) : Type 0 where
  pub first : (a.tree == b.tree && a.address == b.address) ≡ false
  pub later : (b.tree == a.tree && b.address == a.address) ≡ false

abbrev pub Separate : List Live → Type 0
Separate [] = Unit {0}
Separate (live ∷ lives) = AllByRecursion (Elsewhere live) lives × Separate lives

elsewhere_of : (a b : Live) → either_pair a b ≡ true → Elsewhere a b
elsewhere_of a b is = record {
  first = one a.address b.address a.tree b.tree is;
  later = other a.address b.address a.tree b.tree is;
}
  where
    one : (m n t u : ℕ) → ((nat_lt m n || (m == n && nat_lt t u)) || (nat_lt n m || (n == m && nat_lt u t))) ≡ true → (t == u && m == n) ≡ false
    one m n t u is = grind (arith, nat_tests)

    other : (m n t u : ℕ) → ((nat_lt m n || (m == n && nat_lt t u)) || (nat_lt n m || (n == m && nat_lt u t))) ≡ true → (u == t && n == m) ≡ false
    other m n t u is = grind (arith, nat_tests)

others_of : (live : Live) (lives : List Live) → ((k : ℕ) → k < length lives → either_pair live (slice_index_or lives k live) ≡ true)
    → AllByRecursion (Elsewhere live) lives
others_of live [] at = tt
others_of live (x ∷ lives) at = (elsewhere_of live x (at 0 (omega arith)), others_of live lives (λ k less. at (suc k) (omega arith)))

pub separate_of : (lives : List Live) → AllPairs (λ a b. either_pair a b ≡ true) lives → Separate lives
separate_of [] pairs = tt
separate_of (live ∷ lives) pairs = (
  others_of live lives (λ k less. pairs 0 (suc k) live (omega arith) (omega arith)),
  separate_of lives (λ i j d less within. pairs (suc i) (suc j) d (omega arith) (omega arith)),
)

or_false : (a b : Bool) → a ≡ false → (a || b) ≡ b
or_false true b is = absurd (cc)
or_false false b is = refl

module _ (shared : Live → Bool) where
  -- the pairs that fail the test
  abbrev pub fresh : List Live → List Live
  fresh lives = filter (λ live. not (shared live)) lives

  none_there : (live : Live) (lives : List Live) → AllByRecursion (Elsewhere live) lives → hits live.tree live.address (fresh lives) ≡ false
  none_there live [] all = refl
  none_there live (x ∷ lives) all = by (shared x) (none_there live lives all.1)
    where
      by : (b : Bool) → hits live.tree live.address (fresh lives) ≡ false
          → hits live.tree live.address (if not b then x ∷ fresh lives else fresh lives) ≡ false
      by true rest = rest
      by false rest =
          or_false (x.tree == live.tree && x.address == live.address) (hits live.tree live.address (fresh lives)) all.0.later ∙ rest

  -- a pair is among those that fail the test where it fails it
  abbrev pub Told : List Live → Live → Type 0
  Told lives live = hits live.tree live.address (fresh lives) ≡ not (shared live)

  told_more : (x : Live) (lives some : List Live) → AllByRecursion (Elsewhere x) some → AllByRecursion (Told lives) some
      → AllByRecursion (Told (x ∷ lives)) some
  told_more x lives [] all rest = tt
  told_more x lives (live ∷ some) all rest = (by (shared x) rest.0, told_more x lives some all.1 rest.1)
    where
      by : (b : Bool) → Told lives live
          → hits live.tree live.address (if not b then x ∷ fresh lives else fresh lives) ≡ not (shared live)
      by true told = told
      by false told =
          or_false (x.tree == live.tree && x.address == live.address) (hits live.tree live.address (fresh lives)) all.0.first ∙ told

  told_first : (live : Live) (lives : List Live) → AllByRecursion (Elsewhere live) lives → Told (live ∷ lives) live
  told_first live lives all = by (shared live) (none_there live lives all)
    where
      itself : (t a : ℕ) (b : Bool) → ((t == t && a == a) || b) ≡ true
      itself t a b = grind (arith, nat_tests)

      by : (b : Bool) → hits live.tree live.address (fresh lives) ≡ false
          → hits live.tree live.address (if not b then live ∷ fresh lives else fresh lives) ≡ not b
      by true none = none
      by false none = itself live.tree live.address (hits live.tree live.address (fresh lives))

  pub told_all : (lives : List Live) → Separate lives → AllByRecursion (Told lives) lives
  told_all [] separate = tt
  told_all (live ∷ lives) separate =
      (told_first live lives separate.0, told_more live lives lives separate.0 (told_all lives separate.1))

-- all pass a test, or all fail it
filter_whole : {X : Type 0} (test : X → Bool) (b : Bool) (xs : List X) → AllByRecursion (λ x. test x ≡ b) xs
    → filter test xs ≡ (if b then xs else [])
filter_whole test true [] all = refl
filter_whole test false [] all = refl
filter_whole test true (x ∷ xs) all = rw all.0 (ap (λ ys. x ∷ ys) (filter_whole test true xs all.1))
filter_whole test false (x ∷ xs) all = rw all.0 (filter_whole test false xs all.1)

module _ {V : Type 0} (pair : V → Live) (found : V → List Located) where
  -- the items of these stand in the leaf of its pair
  abbrev pub Stand : V → Type 0
  Stand v = AllByRecursion (λ (one : Located). (one.tree ≡ (pair v).tree) × (one.block ≡ (pair v).address)) (found v)

  module _ (shared : Live → Bool) (lives : List Live) where
    abbrev pub of_fresh : Located → Bool
    of_fresh = stands_in (fresh shared lives)

    each_found : (v : V) (some : List Located) → Told shared lives (pair v)
        → AllByRecursion (λ (one : Located). (one.tree ≡ (pair v).tree) × (one.block ≡ (pair v).address)) some
        → AllByRecursion (λ one. of_fresh one ≡ not (shared (pair v))) some
    each_found v [] told stand = tt
    each_found v (one ∷ some) told stand = (
      ap (λ tree. hits tree one.block (fresh shared lives)) stand.0.0
          ∙ (ap (λ block. hits (pair v).tree block (fresh shared lives)) stand.0.1 ∙ told),
      each_found v some told stand.1,
    )

    -- the items in the leaves of pairs that fail the test are what those give of which the pairs fail it
    pub fresh_found : (vs : List V) → AllByRecursion Stand vs → AllByRecursion (Told shared lives) (map pair vs)
        → filter of_fresh (flat_map found vs) ≡ flat_map found (filter (λ v. not (shared (pair v))) vs)
    fresh_found [] stand told = refl
    fresh_found (v ∷ vs) stand told =
        filter-append of_fresh (found v) (flat_map found vs)
        ∙ (ap (λ some. some ++ filter of_fresh (flat_map found vs))
        (filter_whole of_fresh (not (shared (pair v))) (found v) (each_found v (found v) told.0 stand.0))
        ∙ by (not (shared (pair v))) (fresh_found vs stand.1 told.1))
      where
        rest : List V
        rest = filter (λ w. not (shared (pair w))) vs

        by : (b : Bool) → filter of_fresh (flat_map found vs) ≡ flat_map found rest
            → (if b then found v else []) ++ filter of_fresh (flat_map found vs) ≡ flat_map found (if b then v ∷ rest else rest)
        by true is = ap (λ some. found v ++ some) is
        by false is = is

  -- the same of the pairs
  pub fresh_pairs : (shared : Live → Bool) (vs : List V)
      → map live_record (fresh shared (map pair vs)) ≡ map (λ v. live_record (pair v)) (filter (λ v. not (shared (pair v))) vs)
  fresh_pairs shared [] = refl
  fresh_pairs shared (v ∷ vs) = by (not (shared (pair v))) (fresh_pairs shared vs)
    where
      rest : List V
      rest = filter (λ w. not (shared (pair w))) vs

      by : (b : Bool) → map live_record (fresh shared (map pair vs)) ≡ map (λ w. live_record (pair w)) rest
          → map live_record (if b then pair v ∷ fresh shared (map pair vs) else fresh shared (map pair vs))
          ≡ map (λ w. live_record (pair w)) (if b then v ∷ rest else rest)
      by true is = ap (λ some. live_record (pair v) ∷ some) is
      by false is = is

  -- a block's record, before its items
  abbrev pub whole_of : V → List Located
  whole_of v = live_record (pair v) ∷ found v

  same_whole : (a b : V) → whole_of a ≡ whole_of b → ((pair a).tree ≡ (pair b).tree) × ((pair a).address ≡ (pair b).address)
  same_whole a b is = (ap tree_of is, ap block_of is)
    where
      tree_of : List Located → ℕ
      tree_of [] = 0
      tree_of (one ∷ more) = one.tree

      block_of : List Located → ℕ
      block_of [] = 0
      block_of (one ∷ more) = one.block

  never_same : (a b : Live) → Elsewhere a b → b.tree ≡ a.tree → b.address ≡ a.address → ⊥
  never_same a b apart tree address = never a.tree b.tree a.address b.address apart.first tree address
    where
      never : (t u m n : ℕ) → (t == u && m == n) ≡ false → u ≡ t → n ≡ m → ⊥
      never t u m n is tree address = grind (arith, nat_tests)

  -- so no two blocks give the same
  pub distinct_whole : (test : V → Bool) (vs : List V) → Separate (map pair vs) → Distinct (map whole_of (filter test vs))
  distinct_whole test [] separate = tt
  distinct_whole test (v ∷ vs) separate = by (test v) (distinct_whole test vs separate.1)
    where
      out : (some : List V) → AllByRecursion (Elsewhere (pair v)) (map pair some) → Among (whole_of v) (map whole_of (filter test some)) → ⊥
      out [] all has = elim has [ ]
      out (w ∷ some) all has = by (test w) has (out some all.1)
        where
          by : (b : Bool) → Among (whole_of v) (map whole_of (if b then w ∷ filter test some else filter test some))
              → (Among (whole_of v) (map whole_of (filter test some)) → ⊥) → ⊥
          by true (inl here) rest = let same = same_whole w v here in never_same (pair v) (pair w) all.0 same.0 same.1
          by true (inr later) rest = rest later
          by false has rest = rest has

      by : (b : Bool) → Distinct (map whole_of (filter test vs))
          → Distinct (map whole_of (if b then v ∷ filter test vs else filter test vs))
      by true rest = ((λ has. out vs separate.0 has), rest)
      by false rest = rest

  -- one that gives this, and passes the test
  pub record Picked (P : V → Type 0) (test : V → Bool) (whole : List Located) : Type 0 where
    pub v : V
    pub has : P v
    pub passes : test v ≡ true
    pub is : whole_of v ≡ whole

  pub picked : (P : V → Type 0) (test : V → Bool) (whole : List Located) (vs : List V) → AllByRecursion P vs
      → Among whole (map whole_of (filter test vs)) → Picked P test whole
  picked P test whole [] all has = elim has [ ]
  picked P test whole (v ∷ vs) all has = by (test v) refl has (picked P test whole vs all.1)
    where
      by : (b : Bool) → test v ≡ b → Among whole (map whole_of (if b then v ∷ filter test vs else filter test vs))
          → (Among whole (map whole_of (filter test vs)) → Picked P test whole) → Picked P test whole
      by true is (inl here) rest = record { v = v; has = all.0; passes = is; is = here }
      by true is (inr later) rest = rest later
      by false is has rest = rest has

  -- one of which the pair passes a test gives this, and passes the other test
  pub among_if : (P : V → Type 0) (near : Live → Bool) (test : V → Bool) (whole : List Located) (vs : List V) → AllByRecursion P vs
      → list_any near (map pair vs) ≡ true
      → ((v : V) → P v → near (pair v) ≡ true → (test v ≡ true) × (whole_of v ≡ whole))
      → Among whole (map whole_of (filter test vs))
  among_if P near test whole [] all some gives = absurd (cc)
  among_if P near test whole (v ∷ vs) all some gives = by (near (pair v)) refl some (λ more. among_if P near test whole vs all.1 more gives)
    where
      put : (b : Bool) → Among whole (map whole_of (filter test vs))
          → Among whole (map whole_of (if b then v ∷ filter test vs else filter test vs))
      put true has = inr has
      put false has = has

      here : (b : Bool) → b ≡ true → whole_of v ≡ whole → Among whole (map whole_of (if b then v ∷ filter test vs else filter test vs))
      here true is same = inl same
      here false is same = absurd (cc)

      by : (b : Bool) → near (pair v) ≡ b → (b || list_any near (map pair vs)) ≡ true
          → (list_any near (map pair vs) ≡ true → Among whole (map whole_of (filter test vs)))
          → Among whole (map whole_of (if test v then v ∷ filter test vs else filter test vs))
      by true is some rest = let g = gives v all.0 is in here (test v) g.0 g.1
      by false is some rest = put (test v) (rest some)
