-- The walks of trees that are gone are whole walks of old trees, which have no finding.
use Rattle.std.proofs.Common.{◌≡◌, ℕ, Bool, true, false, List, [], ◌∷◌, ◌⊎◌, inl, inr, subst, if◌then◌else◌}
use Rattle.std.specs.Prelude.{Result, Ok, Err, map}
use Rattle.std.specs.List.{AllByRecursion, list_any}
use Rattle.std.specs.Result.{IsOk}
use Rattle.verdict.specs.Rules.{and_then}
use Rattle.verdict.specs.declared.finding.Finding.{Finding}
use Rattle.volume_items.specs.declared.root_at.RootAt.{RootAt}
use Rattle.live_index.specs.Pairs.{Pairs}
use Rattle.node_reader.specs.Stored.{Stored, stored_in}
use Rattle.records.specs.Contents.{named_root, names}
use Rattle.records.specs.Walk.{walk_of}
use Rattle.tree_laws.specs.Keeping.{Stands}
use Rattle.tree_laws.specs.LivePairs.{Walked, live_in, table_of}
use Rattle.tree_laws.specs.TableLaw.{Tree}
use Rattle.tree_change.specs.AllTrees.{GoneLaw, gone_all, no_parts, with_parts}
use Rattle.tree_change.specs.Gathered.{Gathers}
use Rattle.tree_change.specs.OneTree.{side_of}
use Rattle.tree_change.specs.Walks.{Known, Parts, gone_parts, no_walk, old_walk, parts_of}
use Rattle.tree_change.proofs.Olds.{fine_step, ok_never, old_fine, old_stands, step_err}
use Rattle.tree_change.proofs.Whole.{none_stopped}

module _ (image : List ℕ) (old : Walked) where
  abbrev stored : Stored
  stored = stored_in image old.chunks old.sup.nodesize

  -- the walk of the tree that a root item names has no finding
  abbrev IsFine : RootAt → Type 0
  IsFine root = IsOk (walk_of old.sup stored (named_root root))

  each_fine : (roots : List RootAt)
      → AllByRecursion (λ (tree : Tree). Stands (table_of (live_in old.seen)) old.sup tree.0 tree.1) (map (λ root. (stored, named_root root)) roots)
      → AllByRecursion IsFine roots
  each_fine [] all = tt
  each_fine (root ∷ roots) all = (all.0.each.fine, each_fine roots all.1)

  module _ (pairs : Pairs) (known : Known) where
    gone_fine : (root : RootAt) → IsFine root → (finding : Finding)
        → gone_parts pairs known (side_of image old) (named_root root) ≡ Err finding → ⊥
    unfolding gone_parts
    gone_fine root fine finding at =
        by (step_err (old_walk known [] (side_of image old) (named_root root)) (λ all. fine_step (parts_of pairs no_walk all)) finding at)
      where
        by : (old_walk known [] (side_of image old) (named_root root) ≡ Err finding)
            ⊎ ((all : Gathers) × (old_walk known [] (side_of image old) (named_root root) ≡ Ok all)
            × (fine_step (parts_of pairs no_walk all) ≡ Err finding)) → ⊥
        by (inl failed) = old_fine known [] image old (none_stopped known.pairs known.under) (named_root root) fine finding failed
        by (inr s) = ok_never (parts_of pairs no_walk s.0) finding s.2

    gone_each : (news : List RootAt) (roots : List RootAt) → AllByRecursion IsFine roots → (finding : Finding)
        → gone_all pairs known (side_of image old) news roots ≡ Err finding → ⊥
    unfolding gone_all
    gone_each news [] all finding at = ok_never no_parts finding at
    gone_each news (root ∷ roots) all finding at =
        by (list_any (names root.key.objectid) news) at (gone_each news roots all.1 finding)
      where
        rest : Result Parts Finding
        rest = gone_all pairs known (side_of image old) news roots

        here : Result Parts Finding
        here = gone_parts pairs known (side_of image old) (named_root root)

        with_rest : Parts → Result Parts Finding
        with_rest parts = and_then rest (λ more. fine_step (with_parts parts more))

        last : (parts : Parts) → (rest ≡ Err finding) ⊎ ((more : Parts) × (rest ≡ Ok more) × (fine_step (with_parts parts more) ≡ Err finding))
            → (rest ≡ Err finding → ⊥) → ⊥
        last parts (inl failed) never = never failed
        last parts (inr s) never = ok_never (with_parts parts s.0) finding s.2

        first : (here ≡ Err finding) ⊎ ((parts : Parts) × (here ≡ Ok parts) × (with_rest parts ≡ Err finding)) → (rest ≡ Err finding → ⊥) → ⊥
        first (inl failed) never = gone_fine root all.0 finding failed
        first (inr s) never = last s.0 (step_err rest (λ more. fine_step (with_parts s.0 more)) finding s.2) never

        by : (b : Bool) → (if b then rest else and_then here with_rest) ≡ Err finding → (rest ≡ Err finding → ⊥) → ⊥
        by true at never = never at
        by false at never = first (step_err here with_rest finding at) never

pub gone : GoneLaw
gone image pending old olds trees pairs is known news finding over at =
    let all = subst (AllByRecursion (λ (tree : Tree). Stands (table_of (live_in old.seen)) old.sup tree.0 tree.1)) over.trees_are
    (old_stands image old trees over.has) in
    gone_each image old pairs known news olds (each_fine image old olds all.1.1) finding at
