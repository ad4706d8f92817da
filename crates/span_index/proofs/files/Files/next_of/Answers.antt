use Rattle.std.proofs.Common.{◌∙◌, sym, ap, subst}
use Rattle.std.specs.Prelude.{◌==◌, ℕ, List, Option}
use Rattle.std.proofs.lemmas.Bool.{eqb-true, eq-eqb}
use Rattle.std.specs.List.{filter, find}
use Rattle.std.specs.BTreeMap.Range.{range_contains}
use Rattle.std.specs.declared.ops.Bound.TheVariants.{Included, Unbounded}
use Rattle.span_index.specs.declared.places.ByFile.{ByFile}
use Rattle.span_index.specs.Places.{IsNextFile, file_cmp, is_file_stop}
use Rattle.span_index.proofs.MeetingLaws.{least_at}
use Rattle.span_index.proofs.NextLaws.{next, none_next, other_next}
use Rattle.span_index.proofs.files.Files.next_of.Goals as goal
use Rattle.span_index.proofs.files.Files.next_of.Goals.{else-place-tree-via-then-place-tree+else-place-ino, else-place-tree-via-else-place-tree}
use Rattle.verdict.proofs.Truth.{and_left, and_right, and_true, false_if}

-- the search begins at the offset that is given, or at 0
abbrev from_offset : ℕ → ℕ → Option ℕ → List ByFile → ℕ → Option ByFile
from_offset tree ino after keys offset =
    find (is_file_stop tree ino after) (filter (λ p. range_contains file_cmp (Included (record { tree = tree; ino = ino; file_offset = offset; span = least_at 0 })) Unbounded p) keys)

pub returns-in_err-place : goal.returns-in_err-place
returns-in_err-place c =
    subst (IsNextFile c.args.self.now c.args.tree c.args.ino c.args.after) (sym c.from_residual.ensures)
    (none_next c.args.self.now c.args.tree c.args.ino c.args.after c.first_stop.ensures.ordered (sym c.in_err-place.was ∙ c.first_stop.ensures.value ∙ ap (from_offset c.args.tree c.args.ino c.args.after c.args.self.now.places.keys) c.unwrap_or.ensures))

pub returns-then-place-ino : goal.returns-then-place-ino
returns-then-place-ino c =
    next c.args.self.now c.args.tree c.args.ino c.args.after c.first_stop.ensures.ordered c.in_ok-place.place (sym c.in_ok-place.was ∙ c.first_stop.ensures.value ∙ ap (from_offset c.args.tree c.args.ino c.args.after c.args.self.now.places.keys) c.unwrap_or.ensures)
    (and_true _ _ (eq-eqb c.in_ok-place.place.tree c.args.tree c.if-place-tree.true) (eq-eqb c.in_ok-place.place.ino c.args.ino c.if-place-ino.true))

pub returns-else-place-tree : goal.returns-else-place-tree
returns-else-place-tree c = other_next c.args.self.now c.args.tree c.args.ino c.args.after c.first_stop.ensures.ordered c.in_ok-place.place (sym c.in_ok-place.was ∙ c.first_stop.ensures.value ∙ ap (from_offset c.args.tree c.args.ino c.args.after c.args.self.now.places.keys) c.unwrap_or.ensures)
    (false_if _ (λ e. elim c.else-place-tree.branch [
      | else-place-tree-via-then-place-tree+else-place-ino w ↦ w.if-place-ino.false (eqb-true c.in_ok-place.place.ino c.args.ino (and_right (c.in_ok-place.place.tree == c.args.tree) _ e))
      | else-place-tree-via-else-place-tree w ↦ w.if-place-tree.false (eqb-true c.in_ok-place.place.tree c.args.tree (and_left _ _ e))
    ]))
