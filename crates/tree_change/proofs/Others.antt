-- What changes in the root tree, in the trees that are named now and in those that are gone, put behind other parts.
use Rattle.std.proofs.Common.{◌≡◌, ℕ, ◌+◌, ◌⊎◌, inl, inr, List, refl, ap, sym, ◌∙◌, Ok, Err, subst, arith}
use Rattle.std.specs.Prelude.{Option, Some, None, IfSome, Result}
use Rattle.verdict.specs.declared.finding.Finding.{Finding}
use Rattle.recon_disk.specs.declared.disk.Disk.{Ghosts}
use Rattle.volume_items.specs.declared.root_at.RootAt.{RootAt}
use Rattle.records.specs.Contents.{root_tree_root, roots_fault}
use Rattle.block_source.specs.declared.halt.Halt.{Halt}
use Rattle.block_source.specs.declared.halt.Halt.TheVariants.{Found, Disk, NoMemory}
use Rattle.tree_change.specs.AllTrees.{with_parts}
use Rattle.tree_change.specs.Making.FindsOthers.{InTree, InItems, InNamed, InGone}
use Rattle.tree_change.specs.Making.{AddsParts, FindsOthers, IsAdded, MakesOthers, MakesRoots, TellsOthers, TellsRoots, gone_parts_in, named_parts_in, parts_by, parts_in}
use Rattle.tree_change.specs.Walks.{Parts}
use Rattle.tree_change.specs.declared.sides.Sides.{Sides}
use Rattle.tree_change.specs.declared.trees.TreeParts.{TreeParts}
use Rattle.tree_change.proofs.Adding.{with_with}

-- parts that are put behind parts
added_with : (some one two : TreeParts) (more other : Parts) (before now after : ℕ) → IsAdded some one more before now
    → IsAdded one two other now after → IsAdded some two (with_parts more other) before after
added_with some one two more other before now after first next = record {
  behind = λ count. ap (parts_by two) (omega arith) ∙ next.behind (count + more.count) ∙ ap (λ p. with_parts p other) (first.behind count)
      ∙ with_with (parts_by some count) more other;
  reads = omega (arith, first.reads, next.reads);
}

module _ {L : Type 0} (sides : Sides L) (olds : List RootAt) where
  -- the new roots are made, and what changes in the root tree is put behind other parts
  abbrev HasRoots : List RootAt → TreeParts → TreeParts → ℕ → ℕ → List ℕ → Type 0
  HasRoots roots some one first second image =
      (parts : Parts) × MakesRoots sides olds image parts roots × (roots_fault sides.is.sup.now.compat_ro roots ≡ None)
      × IsAdded some one parts first second

  -- a step that stops in the root tree tells its finding
  pub roots_halt : {D : Type 0} (disk : Ghosts D) (first last : D) (some one all : TreeParts) (halt : Halt) (result : Result (List RootAt) Halt)
      → result ≡ Err halt → TellsRoots disk first last some one sides olds (Err halt)
      → TellsOthers disk first last some all sides olds result
  roots_halt disk first last some one all halt result is tells =
      subst (λ r. TellsOthers disk first last some all sides olds r) (sym is) (by halt tells)
    where
      at : (finding : Finding) (told : Option (List ℕ))
          → IfSome told (λ image. (parts_in sides (Some (root_tree_root sides.was.sup.now)) (root_tree_root sides.is.sup.now) image ≡ Err finding)
          ⊎ ((parts : Parts) × (roots : List RootAt) × MakesRoots sides olds image parts roots
          × (roots_fault sides.is.sup.now.compat_ro roots ≡ Some finding)))
          → IfSome told (λ image. FindsOthers sides olds image finding)
      at finding None found = tt
      at finding (Some image) (inl found) = InTree found
      at finding (Some image) (inr found) = InItems found.0 found.1 found.2 found.3

      by : (h : Halt) → TellsRoots disk first last some one sides olds (Err h) → TellsOthers disk first last some all sides olds (Err h)
      by (Found finding) tells = at finding (disk.bytes first) tells
      by Disk tells = tt
      by NoMemory tells = tt

  -- one that stops in a tree that is named now tells its finding
  pub named_halt : {D : Type 0} (B : Type 0) (disk : Ghosts D) (first second last : D) (some one two all : TreeParts) (roots : List RootAt)
      (halt : Halt) (result : Result (List RootAt) Halt) → result ≡ Err halt → disk.bytes second ≡ disk.bytes first
      → IfSome (disk.bytes first) (HasRoots roots some one (disk.reads first) (disk.reads second))
      → AddsParts {A = B} disk second last one two (Err halt) (named_parts_in sides olds roots)
      → TellsOthers disk first last some all sides olds result
  named_halt B disk first second last some one two all roots halt result is same has adds =
      subst (λ r. TellsOthers disk first last some all sides olds r) (sym is) (by halt adds)
    where
      at : (finding : Finding) (told other : Option (List ℕ)) → other ≡ told
          → IfSome told (HasRoots roots some one (disk.reads first) (disk.reads second))
          → IfSome other (λ image. named_parts_in sides olds roots image ≡ Err finding)
          → IfSome told (λ image. FindsOthers sides olds image finding)
      at finding None other alike has found = tt
      at finding (Some image) other alike has found =
          InNamed has.0 roots has.1 has.2
          (subst (λ o. IfSome o (λ i. named_parts_in sides olds roots i ≡ Err finding)) alike found)

      by : (h : Halt) → AddsParts {A = B} disk second last one two (Err h) (named_parts_in sides olds roots)
          → TellsOthers disk first last some all sides olds (Err h)
      by (Found finding) adds = at finding (disk.bytes first) (disk.bytes second) same has adds
      by Disk adds = tt
      by NoMemory adds = tt

  -- so does one that stops in a tree that is gone
  pub gone_halt : {D : Type 0} (B : Type 0) (disk : Ghosts D) (first third last : D) (some two all : TreeParts) (roots : List RootAt) (halt : Halt)
      (result : Result (List RootAt) Halt) → result ≡ Err halt → disk.bytes third ≡ disk.bytes first
      → AddsParts {A = B} disk third last two all (Err halt) (gone_parts_in sides roots olds)
      → TellsOthers disk first last some all sides olds result
  gone_halt B disk first third last some two all roots halt result is same adds =
      subst (λ r. TellsOthers disk first last some all sides olds r) (sym is) (by halt adds)
    where
      at : (finding : Finding) (told other : Option (List ℕ)) → other ≡ told
          → IfSome other (λ image. gone_parts_in sides roots olds image ≡ Err finding) → IfSome told (λ image. FindsOthers sides olds image finding)
      at finding None other alike found = tt
      at finding (Some image) other alike found =
          InGone roots (subst (λ o. IfSome o (λ i. gone_parts_in sides roots olds i ≡ Err finding)) alike found)

      by : (h : Halt) → AddsParts {A = B} disk third last two all (Err h) (gone_parts_in sides roots olds)
          → TellsOthers disk first last some all sides olds (Err h)
      by (Found finding) adds = at finding (disk.bytes first) (disk.bytes third) same adds
      by Disk adds = tt
      by NoMemory adds = tt

  -- and the last step tells what all make
  pub others_told : {D : Type 0} (disk : Ghosts D) (first second third last : D) (some one two all : TreeParts) (roots : List RootAt)
      → disk.bytes second ≡ disk.bytes first → disk.bytes third ≡ disk.bytes second
      → IfSome (disk.bytes first) (HasRoots roots some one (disk.reads first) (disk.reads second))
      → IfSome (disk.bytes second) (λ image. (more : Parts) × (named_parts_in sides olds roots image ≡ Ok more)
      × IsAdded one two more (disk.reads second) (disk.reads third))
      → IfSome (disk.bytes third) (λ image. (more : Parts) × (gone_parts_in sides roots olds image ≡ Ok more)
      × IsAdded two all more (disk.reads third) (disk.reads last))
      → TellsOthers disk first last some all sides olds (Ok roots)
  others_told disk first second third last some one two all roots same_second same_third has named gone =
      done (disk.bytes first) (disk.bytes second) (disk.bytes third) same_second (same_third ∙ same_second) has named gone
    where
      made : (image : List ℕ) → HasRoots roots some one (disk.reads first) (disk.reads second) image
          → (more : Parts) × (named_parts_in sides olds roots image ≡ Ok more) × IsAdded one two more (disk.reads second) (disk.reads third)
          → (more : Parts) × (gone_parts_in sides roots olds image ≡ Ok more) × IsAdded two all more (disk.reads third) (disk.reads last)
          → (parts : Parts) × MakesOthers sides olds image parts roots × IsAdded some all parts (disk.reads first) (disk.reads last)
      made image has named gone = (
        with_parts has.0 (with_parts named.0 gone.0),
        record {
          root_parts = has.0;
          named = named.0;
          gone = gone.0;
          makes = has.1;
          judged = has.2;
          named_are = named.1;
          gone_are = gone.1;
          all = refl;
        },
        added_with some one all has.0 (with_parts named.0 gone.0) (disk.reads first) (disk.reads second) (disk.reads last) has.3
            (added_with one two all named.0 gone.0 (disk.reads second) (disk.reads third) (disk.reads last) named.2 gone.2),
      )

      done : (told mid late : Option (List ℕ)) → mid ≡ told → late ≡ told
          → IfSome told (HasRoots roots some one (disk.reads first) (disk.reads second))
          → IfSome mid (λ image. (more : Parts) × (named_parts_in sides olds roots image ≡ Ok more)
          × IsAdded one two more (disk.reads second) (disk.reads third))
          → IfSome late (λ image. (more : Parts) × (gone_parts_in sides roots olds image ≡ Ok more)
          × IsAdded two all more (disk.reads third) (disk.reads last))
          → IfSome told (λ image. (parts : Parts) × MakesOthers sides olds image parts roots
          × IsAdded some all parts (disk.reads first) (disk.reads last))
      done None mid late same_mid same_late has named gone = tt
      done (Some image) mid late same_mid same_late has named gone =
          made image has
          (subst (λ o. IfSome o (λ i. (more : Parts) × (named_parts_in sides olds roots i ≡ Ok more)
          × IsAdded one two more (disk.reads second) (disk.reads third))) same_mid named)
          (subst (λ o. IfSome o (λ i. (more : Parts) × (gone_parts_in sides roots olds i ≡ Ok more)
          × IsAdded two all more (disk.reads third) (disk.reads last))) same_late gone)
