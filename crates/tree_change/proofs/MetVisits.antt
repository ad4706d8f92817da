-- The kept blocks that a walk meets are among those that it comes to, and what holds of each kept block holds of them.
use Rattle.std.proofs.Common.{◌≡◌, ℕ, zero, suc, ◌+◌, ◌-◌, ◌≤◌, Bool, true, false, ◌||◌, List, [], ◌∷◌, ◌++◌, length, length-append, refl, arith}
use Rattle.std.specs.Prelude.{Option, Some, None, if◌then◌else◌}
use Rattle.std.specs.List.{AllByRecursion, flat_map}
use Rattle.verdict.specs.declared.key.Key.{Key}
use Rattle.super_reader.specs.declared.Super.{Super}
use Rattle.live_index.specs.Pairs.{Pairs}
use Rattle.node_reader.specs.Stored.{Stored, block_in}
use Rattle.node_reader.specs.declared.expect.Expect.{Expect}
use Rattle.records.specs.WalkLaw.{children_in}
use Rattle.tree_laws.specs.Keeping.{Marks, Under, kept_of, last_if_same}
use Rattle.tree_laws.specs.Meeting.{met_and, met_below, met_of, met_or}
use Rattle.tree_laws.specs.Skips.{Anew, Kept, is_below}
use Rattle.tree_laws.specs.Visits.{visits_and, visits_below, visits_each, visits_of, visits_or}
use Rattle.tree_laws.specs.VisitsLaw.{AreAtRest}
use Rattle.tree_laws.proofs.OldStops.{all_append}

module _ (kept : Kept) (anew : Anew) (sup : Super) (stored : Stored) where
  abbrev pub M : ℕ → Expect → List Expect
  M level = met_and kept anew (met_below kept anew level sup stored) sup stored

  abbrev pub V : ℕ → Expect → ℕ
  V level = visits_and kept anew (visits_below kept anew level sup stored) sup stored

  block_met : (met : List Expect → List Expect) (visits : List Expect → ℕ) → ((next : List Expect) → length (met next) ≤ visits next)
      → (e : Expect) → length (met_and kept anew met sup stored e) ≤ visits_and kept anew visits sup stored e
  block_met met visits few e = by (kept e)
    where
      more : (m v : ℕ) → m ≤ v → m ≤ suc v
      more m v few = omega arith

      both : (m v : ℕ) → m ≤ v → suc m ≤ suc v
      both m v few = omega arith

      by_below : (b : Bool) → length (if b then e ∷ met (anew e) else []) ≤ (if b then suc (visits (anew e)) else 1)
      by_below true = both (length (met (anew e))) (visits (anew e)) (few (anew e))
      by_below false = omega arith

      by : (here : Option Key)
          → length (met_or e (met (anew e)) (met (children_in (e.level - 1) e (block_in stored sup.fsid e))) here)
          ≤ visits_or e (visits (anew e)) (visits (children_in (e.level - 1) e (block_in stored sup.fsid e))) here
      by None =
          let next = children_in (e.level - 1) e (block_in stored sup.fsid e) in
          more (length (met next)) (visits next) (few next)
      by (Some last) = by_below (is_below last e.high)

  each_met : (level : ℕ) → ((next : List Expect) → length (met_below kept anew level sup stored next) ≤ visits_below kept anew level sup stored next)
      → (next : List Expect) → length (flat_map (M level) next) ≤ visits_each (V level) next
  each_met level few [] = omega arith
  each_met level few (e ∷ next) =
      joins (length (M level e)) (length (flat_map (M level) next)) (length (M level e ++ flat_map (M level) next)) (V level e)
      (visits_each (V level) next)
      (block_met (met_below kept anew level sup stored) (visits_below kept anew level sup stored) few e)
      (each_met level few next) (length-append (M level e) (flat_map (M level) next))
    where
      joins : (m ms all v vs : ℕ) → m ≤ v → ms ≤ vs → all ≡ m + ms → all ≤ v + vs
      joins m ms all v vs one more is = omega arith

  below_met : (level : ℕ) (next : List Expect)
      → length (met_below kept anew level sup stored next) ≤ visits_below kept anew level sup stored next
  unfolding met_below visits_below
  below_met zero next = omega arith
  below_met (suc level) next = each_met level (below_met level) next

  -- no more are met than are come to
  pub few_met : (e : Expect) → length (met_of kept anew sup stored e) ≤ visits_of kept anew sup stored e
  few_met e = block_met (met_below kept anew e.level sup stored) (visits_below kept anew e.level sup stored) (below_met e.level) e

  -- what holds of each kept block holds of each that is met
  module _ (P : Expect → Type 0) (all : (e : Expect) (last : Key) → kept e ≡ Some last → P e) where
    each_holds : (of : Expect → List Expect) → ((e : Expect) → AllByRecursion P (of e)) → (next : List Expect) → AllByRecursion P (flat_map of next)
    each_holds of each [] = tt
    each_holds of each (e ∷ next) = all_append P (of e) (flat_map of next) (each e) (each_holds of each next)

    block_holds : (below : List Expect → List Expect) → ((next : List Expect) → AllByRecursion P (below next)) → (e : Expect)
        → AllByRecursion P (met_and kept anew below sup stored e)
    block_holds below each e = by (kept e) refl
      where
        by_below : (b : Bool) → P e → AllByRecursion P (if b then e ∷ below (anew e) else [])
        by_below true here = (here, each (anew e))
        by_below false here = tt

        by : (here : Option Key) → kept e ≡ here
            → AllByRecursion P (met_or e (below (anew e)) (below (children_in (e.level - 1) e (block_in stored sup.fsid e))) here)
        by None is = each (children_in (e.level - 1) e (block_in stored sup.fsid e))
        by (Some last) is = by_below (is_below last e.high) (all e last is)

    below_holds : (level : ℕ) (next : List Expect) → AllByRecursion P (met_below kept anew level sup stored next)
    unfolding met_below
    below_holds zero next = tt
    below_holds (suc level) next = each_holds (M level) (block_holds (met_below kept anew level sup stored) (below_holds level)) next

    pub met_holds : (e : Expect) → AllByRecursion P (met_of kept anew sup stored e)
    met_holds e = block_holds (met_below kept anew e.level sup stored) (below_holds e.level) e

-- a block that is kept by what is known of a tree did not move
kept_rest : (pairs : Pairs) (marked : Marks) (moved : ℕ → Bool) (under : Under) (e : Expect) (last : Key)
    → kept_of pairs marked moved under e ≡ Some last → moved e.address ≡ false
unfolding kept_of
kept_rest pairs marked moved under e last is = by (marked e.tree e.address) (moved e.address) refl is
  where
    by : (b m : Bool) → moved e.address ≡ m
        → (if b || m then None else last_if_same e (under e.tree e.address) (pairs e.tree e.address)) ≡ Some last → moved e.address ≡ false
    by true m at is = absurd (cc)
    by false true at is = absurd (cc)
    by false false at is = at

-- so no block that is met has moved
pub met_rest : (pairs : Pairs) (marked : Marks) (moved : ℕ → Bool) (under : Under) (anew : Anew) (sup : Super) (stored : Stored) (e : Expect)
    → AreAtRest moved (met_of (kept_of pairs marked moved under) anew sup stored e)
met_rest pairs marked moved under anew sup stored e =
    met_holds (kept_of pairs marked moved under) anew sup stored (λ v. moved v.address ≡ false) (kept_rest pairs marked moved under) e
