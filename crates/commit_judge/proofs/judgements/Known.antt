-- What is known of an accepted image.
use Rattle.std.proofs.Common.{◌≡◌, ℕ, List, Ok, refl}
use Rattle.verdict.specs.declared.finding.Verdict.TheVariants.{Accept}
use Rattle.accounts.specs.Context.{no_full}
use Rattle.accounts.specs.Sums.{total_of}
use Rattle.change_records.specs.Affected.{context_with}
use Rattle.records.specs.Contents.{Contents, contents}
use Rattle.records.specs.Context.{has_sum_free}
use Rattle.records.specs.FullCheck.{checked, checked_with, full_check}
use Rattle.tree_laws.specs.LivePairs.{live_in, table_of}
use Rattle.walk_laws.proofs.Trees.{step_ok}
use Rattle.span_index.specs.Sectors.{times_of_span}
use Rattle.commit_laws.specs.Commit.{IsKnown, Known}
use Rattle.commit_laws.specs.Steps.{all_posts, spans_of}
use Rattle.commit_judge.specs.EachKnown.{EachIsKnown}
use Rattle.commit_judge.proofs.judgements.Stops.{generation_ok, held_walks}

-- what an accepted image holds
accepted_holds : (image : List ℕ) (generation : ℕ) → full_check image ≡ Accept generation → (held : Contents) × (contents image ≡ Ok held)
unfolding checked_with
accepted_holds image generation is =
    let step = step_ok (contents image) _ generation (generation_ok (checked image) generation is) in
    (step.0, step.1)

pub each_is_known : EachIsKnown
each_is_known image generation accepted =
    let step = accepted_holds image generation accepted in
    let held : Contents = step.0 in
    let whole = held_walks image held step.1 in (
      record {
        sup = held.sup;
        chunks = held.chunks;
        roots = held.roots;
        free = has_sum_free held.records;
        full = no_full;
        pairs = table_of (live_in whole.0.seen);
        sums = total_of (all_posts (context_with held.chunks held.sup.nodesize (has_sum_free held.records)) held.records);
        spans = times_of_span (spans_of held.sup.nodesize held.records);
      },
      record {
        bases = record {
          generation = generation;
          accepted = accepted;
          held = held;
          holds = step.1;
          super_is = refl;
          chunks_are = refl;
          roots_are = refl;
          free_are = λ tree ino. refl;
          full_are = λ address. refl;
          trees = whole.0;
          walks = whole.1;
          pairs_are = λ tree address. refl;
        };
        sums = λ account field. refl;
        spans = λ span. refl;
      },
    )
