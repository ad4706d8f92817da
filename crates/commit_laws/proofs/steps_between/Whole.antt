-- The step between two images that are not read alike.
use Rattle.std.proofs.Common.{◌≡◌, inr, List, [], ◌++◌, length, map, refl, sym, subst}
use Rattle.std.proofs.lemmas.List.{append-nil}
use Rattle.std.proofs.lemmas.List.Elements.{All-nil}
use Rattle.std.proofs.lemmas.List.Sorted.{IsPermutation-trans}
use Rattle.std.specs.List.Sorted.{IsPermutation}
use Rattle.accounts.specs.Context.{Context}
use Rattle.live_index.specs.declared.live.Live.{Live}
use Rattle.records.specs.Part.{Located}
use Rattle.records.specs.Postings.{postings_of}
use Rattle.records.specs.SpacePostings.{rest_postings}
use Rattle.write_cache.specs.Cache.{overlaid}
use Rattle.tree_laws.specs.LivePairs.{Walked}
use Rattle.tree_laws.specs.Shared.{is_shared, unshared_in}
use Rattle.tree_laws.specs.Unshared.{items_in}
use Rattle.touched_blocks.specs.Touched.{written_in}
use Rattle.tree_change.specs.Gathered.{located_item}
use Rattle.commit_laws.specs.Kept.{placed_postings}
use Rattle.commit_laws.specs.Paired.{name_of}
use Rattle.commit_laws.specs.Same.{records_at, records_of}
use Rattle.commit_laws.specs.Steps.{WholeStepLaw, change_records}
use Rattle.commit_laws.proofs.steps_between.Records.{all_parted, none_shared, records_changed}

-- all records are gone
all_gone : (whole : Walked) (pairs blocks : List Live) (found : List Located) → IsPermutation (records_of whole) (records_at pairs whole)
    → IsPermutation pairs blocks → IsPermutation (items_in pairs whole.seen) found
    → IsPermutation (records_of whole) (change_records whole.sup blocks found ++ [])
all_gone whole pairs blocks found all by_blocks by_items =
    subst (λ right. IsPermutation (records_of whole) right) (sym (append-nil (change_records whole.sup blocks found)))
    (IsPermutation-trans (records_of whole) (records_at pairs whole) (change_records whole.sup blocks found) all
    (records_changed whole pairs blocks found by_blocks by_items))

pub whole_step : WholeStepLaw
whole_step image pending old new change before after was is moved other =
    let written = written_in pending in
    let end = length image in
    let shared = is_shared old new written end in
    let none = none_shared old new written end other in
    record {
      found = [];
      staying = [];
      others = [];
      old = all_gone old (unshared_in old new written end old) change.old_blocks.items (map located_item change.old_items.items)
          (all_parted image old was shared none) moved.old_blocks moved.old_items.all;
      new = all_gone new (unshared_in old new written end new) change.new_blocks.items (map located_item change.new_items.items)
          (all_parted (overlaid pending 0 image) new is shared none) moved.new_blocks moved.new_items.all;
      alike = refl;
      size = inr refl;
      names = refl;
      same = All-nil (λ (one : Located). postings_of before one ≡ postings_of after one);
      placed = All-nil (λ (one : Located). (context : Context) → rest_postings context one.tree one.part ≡ placed_postings context (name_of one));
    }
