use Rattle.std.proofs.Common.{◌≤◌, List, length, refl, sym, ◌∙◌, subst}
use Rattle.std.specs.List.{Contains}
use Rattle.change_records.specs.declared.item_ref.ItemRef.{ItemRef as ARef}
use Rattle.commit_laws.specs.Commit.{context_by}
use Rattle.commit_laws.specs.Paired.{came_items, gone_items}
use Rattle.commit_laws.specs.Steps.{change_records, step_posts}
use Rattle.commit_judge.specs.Index.{known}
use Rattle.commit_judge.specs.Moves.{HaveNames, NameSpans, context_after}
use Rattle.commit_judge.specs.Plan.{commit_in}
use Rattle.commit_judge.proofs.judgements.Moves.{counted_by, few_by, inside_by, only_by, posts_by, spans_by, spans_moved}
use Rattle.commit_judge.proofs.moves.moves_of.Goals as goal

pub returns-clause-moves : goal.returns-clause-moves
returns-clause-moves g c =
    let k = known c.args.index.now in
    let d = commit_in c.args.plan.now in
    record {
      gone =
          posts_by (context_by k) c.args.index.now.sup gone_items c.in_ok-gone.gone _ _ _ _ _ _ _ _ c.as_slice.ensures.value
          c.as_slice-old.ensures.value c.as_slice-changes.ensures.value c.as_slice-refs.ensures.value c.in_ok-gone.ensures;
      came =
          posts_by (context_after k d) c.args.plan.now.sup came_items c.in_ok-came.came _ _ _ _ _ _ _ _ c.as_slice-2.ensures.value
          c.as_slice-new.ensures.value c.as_slice-changes.ensures.value c.as_slice-refs.ensures.value
          (c.in_ok-came.ensures ∙ (λ i. step_posts (c.after-after.ensures i)
          (change_records c.args.plan.now.sup c.as_slice-2.result.now (came_items c.as_slice-new.result.now c.as_slice-changes.result.now))
          c.as_slice-refs.result.now));
      spans =
          spans_moved k d c.in_ok-gone_spans.gone_spans.items c.in_ok-came_spans.came_spans.items c.in_ok-runs.runs.items c.in_ok-found.found.items
          (spans_by k.sup.nodesize k.sup d.change.old_blocks.items gone_items c.in_ok-gone_spans.gone_spans.items _ _ _ _ c.as_slice-old.ensures.value
          c.as_slice-changes.ensures.value c.in_ok-gone_spans.ensures)
          (spans_by d.fresh.nodesize d.fresh d.change.new_blocks.items came_items c.in_ok-came_spans.came_spans.items _ _ _ _ c.as_slice-new.ensures.value
          c.as_slice-changes.ensures.value c.in_ok-came_spans.ensures)
          (λ lawful alone pairs span at stands shows has.
          c.in_ok-found.ensures.found lawful alone pairs span at stands shows (subst (λ refs. Contains refs at) (sym c.as_slice-refs.ensures.value) has))
          c.in_ok-found.ensures.stand (counted_by (context_by k) (context_by k) c.in_ok-runs.runs.items _ _ refl c.as_slice-3.ensures.value c.in_ok-runs.ensures.gone)
          (counted_by _ (context_after k d) c.in_ok-runs.runs.items _ _ c.after-after.ensures c.as_slice-4.ensures.value c.in_ok-runs.ensures.came)
          (inside_by c.in_ok-runs.runs.items _ _ c.as_slice-5.ensures.value c.in_ok-runs.ensures.found)
          (λ lawful alone pairs.
          subst (λ (refs : List ARef). NameSpans k.spans pairs refs → HaveNames pairs refs c.in_ok-found.found.items) c.as_slice-refs.ensures.value
          (c.in_ok-found.ensures.named lawful alone pairs))
          (subst (λ (refs : List ARef). length c.in_ok-found.found.items ≤ length refs) c.as_slice-refs.ensures.value c.in_ok-found.ensures.few)
          (few_by c.in_ok-runs.runs.items _ _ _ _ _ _ _ _ c.as_slice-3.ensures.value c.as_slice-4.ensures.value c.as_slice-5.ensures.value
          c.as_slice-refs.ensures.value c.in_ok-runs.ensures.few c.in_ok-found.ensures.few)
          (only_by (context_by k) _ (context_after k d) c.in_ok-runs.runs.items _ _ _ _ _ _ c.after-after.ensures c.as_slice-3.ensures.value
          c.as_slice-4.ensures.value c.as_slice-5.ensures.value c.in_ok-runs.ensures.only);
      ascend = c.in_ok-runs.ensures.ascend;
    }
