-- What is known of an accepted image, by its walks.
use Rattle.std.proofs.Common.{◌≡◌, ℕ, false, List, refl, ap, sym, ◌∙◌}
use Rattle.std.specs.Prelude.{Ok}
use Rattle.accounts.specs.Least.{is_broken_by}
use Rattle.accounts.specs.declared.account.Account.{Account}
use Rattle.records.specs.Context.{context_of, has_sum_free}
use Rattle.records.specs.Postings.{account_fault, all_postings}
use Rattle.tree_laws.specs.LivePairs.{Walked, live_in, table_of, walked}
use Rattle.span_index.specs.Sectors.{times_of_span}
use Rattle.commit_laws.specs.Commit.{IsKnown, Known, context_by}
use Rattle.commit_laws.specs.Same.{HeldLaw, records_of}
use Rattle.commit_laws.specs.Steps.{spans_of}
use Rattle.commit_laws.proofs.whole_commits.Commit.{known_same}
use Rattle.commit_laws.proofs.whole_commits.Step.{known_at}
use Rattle.commit_laws.proofs.accepted.Blocks.{no_fault, none_broken}
use Rattle.commit_laws.proofs.whole_commits.Commit.{full_of, same_fault}
use Rattle.lookup_bounds.specs.Work.{context_in}
use Rattle.volume_items.specs.declared.root_at.RootAt.{RootAt}

-- What is known of an image is what its walks come to, and no account of it is broken.
pub record IsKnownBy (k : Known) (whole : Walked) : Type 0 where
  pub roots : List RootAt
  pub all : k ≡ known_at whole roots
  pub sup : k.sup ≡ whole.sup
  pub chunks : k.chunks ≡ whole.chunks
  pub free : k.free ≡ has_sum_free (records_of whole)
  pub pairs : k.pairs ≡ table_of (live_in whole.seen)
  pub spans : k.spans ≡ times_of_span (spans_of whole.sup.nodesize (records_of whole))
  pub context : context_by k ≡ context_in whole
  pub fine : (account : Account) → is_broken_by (all_postings (context_in whole) (records_of whole)) account ≡ false

-- what is known of an accepted image, by its walks
pub known_by_walks : HeldLaw → (image : List ℕ) (k : Known) (whole : Walked) → IsKnown image k → walked image ≡ Ok whole → IsKnownBy k whole
known_by_walks law image k whole known was =
    let holds = law image whole was in
    let held = holds.0 in
    let all = known_same image k whole held known was holds.1 holds.2 in
    record {
      roots = held.roots;
      all = all;
      sup = ap (λ (x : Known). x.sup) all;
      chunks = ap (λ (x : Known). x.chunks) all;
      free = ap (λ (x : Known). x.free) all;
      pairs = ap (λ (x : Known). x.pairs) all;
      spans = ap (λ (x : Known). x.spans) all;
      context = ap context_by all;
      fine = none_broken (all_postings (context_in whole) (records_of whole))
          (sym (same_fault image whole held holds.2)
          ∙ no_fault held.sup.generation known.bases.generation (account_fault (context_of held) held.records)
          (sym (full_of image held (account_fault (context_of held) held.records) holds.1 refl) ∙ known.bases.accepted));
    }
