-- What changes in trees, put behind one another.
use Rattle.std.proofs.Common.{◌≡◌, ℕ, ◌+◌, ◌<◌, ◌≤◌, List, [], ◌∷◌, length, drop, get_or, Option, Some, None, Ok, Err, refl, ap, sym, ◌∙◌, subst, arith, true, false, Bool}
use Rattle.std.specs.Prelude.{IfSome, Result, is_some, if◌then◌else◌, ◌||◌}
use Rattle.std.specs.List.{list_any}
use Rattle.std.proofs.lemmas.List.{append_assoc, append-nil, drop_more}
use Rattle.verdict.specs.Rules.{and_then}
use Rattle.verdict.specs.declared.finding.Finding.{Finding}
use Rattle.recon_disk.specs.Keeping.{Kept}
use Rattle.recon_disk.specs.declared.disk.Disk.{Ghosts}
use Rattle.live_index.specs.declared.live.Live.{Live}
use Rattle.node_reader.specs.declared.expect.Expect.{Expect}
use Rattle.volume_items.specs.declared.root_at.RootAt.{RootAt}
use Rattle.records.specs.Part.{Located}
use Rattle.block_source.specs.declared.halt.Halt.{Halt}
use Rattle.block_source.specs.declared.halt.Halt.TheVariants.{Found, Disk, NoMemory}
use Rattle.tree_change.specs.AllTrees.{gone_all, named_parts, no_parts, root_named, with_parts}
use Rattle.tree_change.specs.Making.{AddsParts, IsAdded, TellsParts, gone_in, gone_parts_in, named_parts_in, parts_by, parts_in}
use Rattle.tree_change.specs.Walks.{Parts}
use Rattle.tree_change.specs.declared.sides.Sides.{Sides}
use Rattle.tree_change.specs.declared.trees.TreeParts.{TreeParts}
use Rattle.records.specs.Contents.{names, named_root}

-- parts by what they hold
abbrev made_of : List Live → List Live → List Live → List Located → List Located → ℕ → Parts
made_of a b c d e n = record { old_blocks = a; new_blocks = b; shifted = c; old_items = d; new_items = e; count = n }

-- parts that hold the same are the same
pub parts_same : {a a' b b' c c' : List Live} {d d' e e' : List Located} {n n' : ℕ} → a ≡ a' → b ≡ b' → c ≡ c' → d ≡ d' → e ≡ e' → n ≡ n'
    → made_of a b c d e n ≡ made_of a' b' c' d' e' n'
parts_same {a} {a'} {b} {b'} {c} {c'} {d} {d'} {e} {e'} {n} {n'} sa sb sc sd se sn =
    ap (λ x. made_of x b c d e n) sa ∙ ap (λ x. made_of a' x c d e n) sb ∙ ap (λ x. made_of a' b' x d e n) sc
    ∙ ap (λ x. made_of a' b' c' x e n) sd ∙ ap (λ x. made_of a' b' c' d' x n) se ∙ ap (made_of a' b' c' d' e') sn

-- no parts before others or behind them
pub none_before : (some : Parts) → with_parts no_parts some ≡ some
none_before some = parts_same refl refl refl refl refl (omega arith)

none_behind : (some : Parts) → with_parts some no_parts ≡ some
none_behind some =
    parts_same (append-nil some.old_blocks) (append-nil some.new_blocks) (append-nil some.shifted) (append-nil some.old_items)
    (append-nil some.new_items) (omega arith)

-- three of them
pub with_with : (some more last : Parts) → with_parts (with_parts some more) last ≡ with_parts some (with_parts more last)
with_with some more last =
    parts_same (append_assoc some.old_blocks more.old_blocks last.old_blocks) (append_assoc some.new_blocks more.new_blocks last.new_blocks)
    (append_assoc some.shifted more.shifted last.shifted) (append_assoc some.old_items more.old_items last.old_items)
    (append_assoc some.new_items more.new_items last.new_items) (omega arith)

-- parts before what follows, where that has no finding
abbrev pub behind_parts : Parts → Result Parts Finding → Result Parts Finding
behind_parts some later = and_then later (λ more. Ok (with_parts some more))

-- the same, where the first may have a finding
abbrev pub then_parts : Result Parts Finding → Result Parts Finding → Result Parts Finding
then_parts first later = and_then first (λ parts. behind_parts parts later)

pub behind_none : (later : Result Parts Finding) → later ≡ behind_parts no_parts later
behind_none (Err finding) = refl
behind_none (Ok more) = ap Ok (sym (none_before more))

behind_behind : (some more : Parts) (later : Result Parts Finding)
    → behind_parts some (behind_parts more later) ≡ behind_parts (with_parts some more) later
behind_behind some more (Err finding) = refl
behind_behind some more (Ok last) = ap Ok (sym (with_with some more last))

-- So many parts are put behind others so far that the whole is these before what is left.
abbrev pub So : Option (List ℕ) → TreeParts → TreeParts → ℕ → ℕ → (List ℕ → Result Parts Finding) → (List ℕ → Result Parts Finding) → Type 0
So told some all before now rest whole =
    IfSome told (λ image. (more : Parts) × (whole image ≡ behind_parts more (rest image)) × IsAdded some all more before now)

pub record PartsSoFar {D : Type 0} (disk : Ghosts D) (first now : D) (some all : TreeParts)
    (rest whole : List ℕ → Result Parts Finding) : Type 0 where
  pub kept : Kept disk first now false
  pub so : So (disk.bytes first) some all (disk.reads first) (disk.reads now) rest whole

-- the same, where this holds
pub record PartsSoFarWhere {D : Type 0} (Holds : Type 0) (disk : Ghosts D) (first now : D) (some all : TreeParts)
    (rest whole : List ℕ → Result Parts Finding) : Type 0 where
  pub kept : Kept disk first now false
  pub so : Holds → So (disk.bytes first) some all (disk.reads first) (disk.reads now) rest whole

-- at first there are none
added_none : (all : TreeParts) (reads : ℕ) → IsAdded all all no_parts reads reads
added_none all reads = record {
  behind = λ count. ap (parts_by all) (omega arith) ∙ sym (none_behind (parts_by all count));
  reads = omega arith;
}

pub so_first : (told : Option (List ℕ)) (all : TreeParts) (reads : ℕ) (whole : List ℕ → Result Parts Finding)
    → So told all all reads reads whole whole
so_first None all reads whole = tt
so_first (Some image) all reads whole = (no_parts, behind_none (whole image), added_none all reads)

-- parts behind parts
added_more : (some all next made : TreeParts) (more : Parts) (other before now after : ℕ) → IsAdded some all more before now
    → ((count other : ℕ) → parts_by next (count + other) ≡ with_parts (parts_by all count) (parts_by made other)) → after ≤ now + other
    → IsAdded some next (with_parts more (parts_by made other)) before after
added_more some all next made more other before now after added puts few = record {
  behind = λ count. ap (parts_by next) (omega arith) ∙ puts (count + more.count) other
      ∙ ap (λ p. with_parts p (parts_by made other)) (added.behind count) ∙ with_with (parts_by some count) more (parts_by made other);
  reads = omega (arith, added.reads, few);
}

pub so_more : (told : Option (List ℕ)) (some all next made : TreeParts) (before now after : ℕ) (here rest left whole : List ℕ → Result Parts Finding)
    → So told some all before now rest whole → ((image : List ℕ) → rest image ≡ then_parts (here image) (left image))
    → IfSome told (λ image. (count : ℕ) × (here image ≡ Ok (parts_by made count)) × (after ≤ now + count))
    → ((count other : ℕ) → parts_by next (count + other) ≡ with_parts (parts_by all count) (parts_by made other))
    → So told some next before after left whole
so_more None some all next made before now after here rest left whole so step tells puts = tt
so_more (Some image) some all next made before now after here rest left whole so step tells puts = (
  with_parts so.0 (parts_by made tells.0),
  so.1 ∙ ap (behind_parts so.0) (step image ∙ ap (λ first. then_parts first (left image)) tells.1)
      ∙ behind_behind so.0 (parts_by made tells.0) (left image),
  added_more some all next made so.0 tells.0 before now after so.2 puts tells.2,
)

-- where nothing is here, what is left stays
pub so_past : (told : Option (List ℕ)) (some all : TreeParts) (before now : ℕ) (rest left whole : List ℕ → Result Parts Finding)
    → So told some all before now rest whole → ((image : List ℕ) → rest image ≡ left image) → So told some all before now left whole
so_past None some all before now rest left whole so same = tt
so_past (Some image) some all before now rest left whole so same = (so.0, so.1 ∙ ap (behind_parts so.0) (same image), so.2)

-- at last nothing is left
pub so_done : (told : Option (List ℕ)) (some all : TreeParts) (before now : ℕ) (rest whole : List ℕ → Result Parts Finding)
    → So told some all before now rest whole → ((image : List ℕ) → rest image ≡ Ok no_parts)
    → IfSome told (λ image. (more : Parts) × (whole image ≡ Ok more) × IsAdded some all more before now)
so_done None some all before now rest whole so none = tt
so_done (Some image) some all before now rest whole so none =
    (so.0, so.1 ∙ ap (behind_parts so.0) (none image) ∙ ap Ok (none_behind so.0), so.2)

-- a step that stops, stops with the finding of the whole
pub so_halts : {D A : Type 0} (disk : Ghosts D) (first now after : D) (some all other : TreeParts)
    (here rest left whole : List ℕ → Result Parts Finding) (halt : Halt) (result : Result A Halt)
    → result ≡ Err halt → PartsSoFar disk first now some all rest whole
    → ((image : List ℕ) → rest image ≡ then_parts (here image) (left image))
    → TellsParts disk now after (Err halt) here → AddsParts {A = A} disk first after some other result whole
so_halts {D} {A} disk first now after some all other here rest left whole halt result is far step tells =
    subst (λ r. AddsParts {A = A} disk first after some other r whole) (sym is) (by halt tells)
  where
    at : (finding : Finding) (told : Option (List ℕ)) → So told some all (disk.reads first) (disk.reads now) rest whole
        → IfSome told (λ image. here image ≡ Err finding) → IfSome told (λ image. whole image ≡ Err finding)
    at finding None so found = tt
    at finding (Some image) so found =
        so.1 ∙ ap (behind_parts so.0) (step image ∙ ap (λ f. then_parts f (left image)) found)

    by : (h : Halt) → TellsParts disk now after (Err h) here → AddsParts {A = A} disk first after some other (Err h) whole
    by (Found finding) tells =
        at finding (disk.bytes first) far.so (subst (λ told. IfSome told (λ image. here image ≡ Err finding)) far.kept.bytes tells)
    by Disk tells = tt
    by NoMemory tells = tt

-- a place of the list of trees that are named now, and its end
pub named_step : {L : Type 0} (sides : Sides L) (olds news : List RootAt) (i : ℕ) (d : RootAt) (before : Option Expect) (now : Expect)
    → i < length news → before ≡ root_named olds (get_or news i d).key.objectid → now ≡ named_root (get_or news i d) → (image : List ℕ)
    → named_parts_in sides olds (drop i news) image
    ≡ then_parts (parts_in sides before now image) (named_parts_in sides olds (drop (i + 1) news) image)
unfolding named_parts
named_step sides olds news i d before now inside is_before is_now image =
    ap (λ roots. named_parts_in sides olds roots image) (drop_more news i d inside)
    ∙ ap (λ e. then_parts (parts_in sides e (named_root (get_or news i d)) image) (named_parts_in sides olds (drop (i + 1) news) image)) (sym is_before)
    ∙ ap (λ e. then_parts (parts_in sides before e image) (named_parts_in sides olds (drop (i + 1) news) image)) (sym is_now)

pub named_none : {L : Type 0} (sides : Sides L) (olds news : List RootAt) → news ≡ [] → (image : List ℕ)
    → named_parts_in sides olds news image ≡ Ok no_parts
unfolding named_parts
named_none sides olds news none image = ap (λ roots. named_parts_in sides olds roots image) none

-- whether a root is named
pub named_any : (roots : List RootAt) (id : ℕ) → is_some (root_named roots id) ≡ list_any (names id) roots
named_any [] id = refl
named_any (root ∷ roots) id = by (names id root) (named_any roots id)
  where
    by : (b : Bool) → is_some (root_named roots id) ≡ list_any (names id) roots
        → is_some (if b then Some (named_root root) else root_named roots id) ≡ (b || list_any (names id) roots)
    by true more = refl
    by false more = more

pub named_has : (named : Option Expect) (roots : List RootAt) (id : ℕ) (has b : Bool) → named ≡ root_named roots id → has ≡ is_some named → has ≡ b
    → list_any (names id) roots ≡ b
named_has named roots id has b is so same = sym (named_any roots id) ∙ ap is_some (sym is) ∙ sym so ∙ same

-- a place of the list of trees that were, where one is gone and where it is not, and its end
pub gone_step : {L : Type 0} (sides : Sides L) (news olds : List RootAt) (i : ℕ) (d : RootAt) (before : Expect) → i < length olds
    → list_any (names (get_or olds i d).key.objectid) news ≡ false → before ≡ named_root (get_or olds i d) → (image : List ℕ)
    → gone_parts_in sides news (drop i olds) image ≡ then_parts (gone_in sides before image) (gone_parts_in sides news (drop (i + 1) olds) image)
unfolding gone_all
gone_step sides news olds i d before inside none is image =
    ap (λ roots. gone_parts_in sides news roots image) (drop_more olds i d inside)
    ∙ ap (λ b. if b then gone_parts_in sides news (drop (i + 1) olds) image
    else then_parts (gone_in sides (named_root (get_or olds i d)) image) (gone_parts_in sides news (drop (i + 1) olds) image)) none
    ∙ ap (λ e. then_parts (gone_in sides e image) (gone_parts_in sides news (drop (i + 1) olds) image)) (sym is)

pub gone_past : {L : Type 0} (sides : Sides L) (news olds : List RootAt) (i : ℕ) (d : RootAt) → i < length olds
    → list_any (names (get_or olds i d).key.objectid) news ≡ true → (image : List ℕ)
    → gone_parts_in sides news (drop i olds) image ≡ gone_parts_in sides news (drop (i + 1) olds) image
unfolding gone_all
gone_past sides news olds i d inside some image =
    ap (λ roots. gone_parts_in sides news roots image) (drop_more olds i d inside)
    ∙ ap (λ b. if b then gone_parts_in sides news (drop (i + 1) olds) image
    else then_parts (gone_in sides (named_root (get_or olds i d)) image) (gone_parts_in sides news (drop (i + 1) olds) image)) some

pub gone_none : {L : Type 0} (sides : Sides L) (news olds : List RootAt) → olds ≡ [] → (image : List ℕ)
    → gone_parts_in sides news olds image ≡ Ok no_parts
unfolding gone_all
gone_none sides news olds none image = ap (λ roots. gone_parts_in sides news roots image) none
