-- What a step changes of what is posted and of the spans.
use Rattle.std.proofs.Common.{◌≡◌, ◌⊎◌, inl, inr, ℕ, List, [], ◌++◌, map, refl, ap, sym, subst, ◌∙◌}
use Rattle.std.proofs.lemmas.List.Elements.{filter_map-append, recursion_from_All}
use Rattle.std.specs.List.{filter_map, flat_map}
use Rattle.std.specs.List.Sorted.{IsPermutation}
use Rattle.accounts.specs.Context.{Context}
use Rattle.change_records.specs.Spans.{span_of}
use Rattle.records.specs.Part.{Located}
use Rattle.records.specs.Postings.{postings_of}
use Rattle.records.specs.SpacePostings.{rest_postings}
use Rattle.commit_laws.specs.Kept.{placed_postings}
use Rattle.commit_laws.specs.Paired.{anywhere, name_of}
use Rattle.commit_laws.specs.Steps.{PostsLaw, SpansLaw, all_posts, posts_of, spans_of, step_posts}
use Rattle.commit_laws.proofs.steps_between.Flat.{filter_map_alike, filter_map_permuted, flat_alike}
use Rattle.commit_laws.proofs.steps_between.Postings.{first_posts, placed_rests, split_posts, staying_posts}

-- what the others post is what the kept ones do, which look nowhere at the block that they stand in
module _ (after : Context) (others found staying : List Located) (same : map anywhere others ≡ map anywhere (found ++ staying)) where
  others_post : flat_map (posts_of after) others ≡ flat_map (posts_of after) (found ++ staying)
  others_post = flat_alike (posts_of after) anywhere (λ one. refl) others (found ++ staying) same

pub posts : PostsLaw
unfolding all_posts step_posts
posts before after olds news gone came refs step =
    let found = step.found in
    let staying = step.staying in
    let placed =
    recursion_from_All (λ one. (context : Context) → rest_postings context one.tree one.part ≡ placed_postings context (name_of one)) found step.placed in
    let same = recursion_from_All (λ one. postings_of before one ≡ postings_of after one) staying step.same in
    let first = flat_map first_posts found in
    let more = flat_map (posts_of before) staying in
    let stays : flat_map (posts_of after) staying ≡ more = sym (staying_posts before after staying same) in
    record {
      same = first ++ more;
      old = split_posts before olds gone (found ++ staying) found staying (flat_map (placed_postings before) refs) first more step.old refl
          (placed_rests name_of placed_postings before found refs step.names placed) refl refl;
      new = split_posts after news came step.others found staying (flat_map (placed_postings after) refs) first more step.new
          (others_post after step.others found staying step.alike)
          (placed_rests name_of placed_postings after found refs step.names placed) refl stays;
    }

pub spans : SpansLaw
unfolding spans_of
spans before after olds news gone came refs step =
    let kept = step.found ++ step.staying in
    record {
      same = filter_map (span_of before.nodesize) kept;
      old = by_parts before.nodesize olds gone kept step.old;
      new = subst (λ more. IsPermutation (spans_of after.nodesize news) (spans_of after.nodesize came ++ more)) (of_size step.size)
          (by_parts after.nodesize news came step.others step.new);
    }
  where
    by_parts : (nodesize : ℕ) (all gone kept : List Located) → IsPermutation all (gone ++ kept)
        → IsPermutation (filter_map (span_of nodesize) all) (filter_map (span_of nodesize) gone ++ filter_map (span_of nodesize) kept)
    by_parts nodesize all gone kept perm =
        subst (λ right. IsPermutation (filter_map (span_of nodesize) all) right) (filter_map-append (span_of nodesize) gone kept)
        (filter_map_permuted (span_of nodesize) all (gone ++ kept) perm)

    alike : (nodesize : ℕ) → filter_map (span_of nodesize) step.others ≡ filter_map (span_of nodesize) (step.found ++ step.staying)
    alike nodesize = filter_map_alike (span_of nodesize) anywhere (λ one. refl) step.others (step.found ++ step.staying) step.alike

    of_size : (before.nodesize ≡ after.nodesize) ⊎ (step.found ++ step.staying ≡ [])
        → filter_map (span_of after.nodesize) step.others ≡ filter_map (span_of before.nodesize) (step.found ++ step.staying)
    of_size (inl same) = alike after.nodesize ∙ ap (λ n. filter_map (span_of n) (step.found ++ step.staying)) (sym same)
    of_size (inr none) =
        alike after.nodesize
        ∙ (ap (filter_map (span_of after.nodesize)) none ∙ sym (ap (filter_map (span_of before.nodesize)) none))
