-- The step between two images that are read alike.
use Rattle.std.proofs.Common.{◌≡◌, inl, ℕ, zero, suc, Bool, true, false, not, List, [], ◌∷◌, ◌++◌, length, map}
use Rattle.std.proofs.Common.{refl, ap, sym, subst, ◌∙◌, arith, append_assoc, slice_index_or}
use Rattle.std.proofs.lemmas.List.{length-map}
use Rattle.std.proofs.lemmas.List.Elements.{All-append, All-contains_itself, All-from_recursion, All-weaker, filter-append}
use Rattle.std.proofs.lemmas.List.Elements.{recursion_from_All}
use Rattle.std.proofs.lemmas.List.Sorted.{IsPermutation-append_comm, IsPermutation-append_left, IsPermutation-append_right}
use Rattle.std.proofs.lemmas.List.Sorted.{IsPermutation-cons, IsPermutation-sym, IsPermutation-trans}
use Rattle.std.specs.List.{All, AllByRecursion, AllPairs, Contains, filter}
use Rattle.std.specs.List.Sorted.{IsPermutation}
use Rattle.tree_change.proofs.RisenLists.{filter_permuted}
use Rattle.commit_laws.proofs.next_index.Flags.{ascend_items}
use Rattle.accounts.specs.Context.{Context}
use Rattle.live_index.specs.declared.live.Live.{Live}
use Rattle.records.specs.Contents.{super_record}
use Rattle.records.specs.Part.{Located}
use Rattle.records.specs.Postings.{postings_of}
use Rattle.records.specs.declared.rec.ItemAt.{ItemAt}
use Rattle.change_records.specs.Affected.{context_with}
use Rattle.change_records.specs.Changes.{Ascend, is_before}
use Rattle.change_records.specs.Refs.{is_named}
use Rattle.change_records.specs.Spans.{StandApart}
use Rattle.change_records.specs.declared.changes.ItemChange.{ItemChange}
use Rattle.change_records.specs.declared.item_ref.ItemRef.{ItemRef}
use Rattle.tree_laws.specs.LivePairs.{Walked}
use Rattle.tree_laws.specs.Shared.{unshared_in}
use Rattle.tree_laws.specs.Unshared.{items_in}
use Rattle.tree_laws.proofs.KeptImage.{nodesize_same}
use Rattle.touched_blocks.specs.Touched.{written_in}
use Rattle.tree_change.specs.Change.{item_before}
use Rattle.tree_change.specs.Gathered.{located_item}
use Rattle.commit_laws.specs.Items.{items_of}
use Rattle.commit_laws.specs.Kept.{AreFound, kept_items}
use Rattle.commit_laws.specs.Paired.{ArePaired, PairedLaw, anywhere, came_items, gone_items, name_of}
use Rattle.commit_laws.specs.Same.{live_record, records_at, records_of}
use Rattle.commit_laws.specs.Steps.{IsStep, StepLaw, change_records}
use Rattle.commit_laws.proofs.steps_between.Flat.{Ordered, ordered}
use Rattle.commit_laws.proofs.steps_between.Named.{none_named, none_stands}
use Rattle.commit_laws.proofs.steps_between.Postings.{block_posts}
use Rattle.commit_laws.proofs.steps_between.Records.{HoldApart, IsBlock, hold_apart, records_changed}

-- ---- what is kept

none_passes : {X : Type 0} (test : X → Bool) (xs : List X) → AllByRecursion (λ x. test x ≡ false) xs → filter test xs ≡ []
none_passes test [] all = refl
none_passes test (x ∷ xs) all = rw all.0 (none_passes test xs all.1)

all_pass : {X : Type 0} (test : X → Bool) (xs : List X) → AllByRecursion (λ x. test x ≡ true) xs → filter test xs ≡ xs
all_pass test [] all = refl
all_pass test (x ∷ xs) all = rw all.0 (ap (λ ys. x ∷ ys) (all_pass test xs all.1))

each_not : {X : Type 0} (test : X → Bool) (b : Bool) (xs : List X) → All (λ x. test x ≡ b) xs → AllByRecursion (λ x. not (test x) ≡ not b) xs
each_not {X} test b xs all = each xs (recursion_from_All (λ x. test x ≡ b) xs all)
  where
    each : (ys : List X) → AllByRecursion (λ x. test x ≡ b) ys → AllByRecursion (λ x. not (test x) ≡ not b) ys
    each [] all = tt
    each (y ∷ ys) all = (ap not all.0, each ys all.1)

-- Of items that are named, others that are not and more that are not, the kept ones are the others and more.
kept_are : (named : ItemRef → Bool) (all left gone rest more : List Located) → IsPermutation all (left ++ more) → IsPermutation left (gone ++ rest)
    → All (λ one. named (name_of one) ≡ true) gone → All (λ one. named (name_of one) ≡ false) rest
    → All (λ one. named (name_of one) ≡ false) more → IsPermutation (kept_items named all) (rest ++ more)
kept_are named all left gone rest more perm are went stay also =
    let test = λ (one : Located). not (named (name_of one)) in
    let tests = λ (one : Located). named (name_of one) in
    let whole : IsPermutation all ((gone ++ rest) ++ more) =
    IsPermutation-trans all (left ++ more) ((gone ++ rest) ++ more) perm (IsPermutation-append_left more left (gone ++ rest) are) in
    let kept : filter test ((gone ++ rest) ++ more) ≡ rest ++ more =
    filter-append test (gone ++ rest) more
    ∙ (λ i. (filter-append test gone rest
    ∙ (λ j. none_passes test gone (each_not tests true gone went) j ++ all_pass test rest (each_not tests false rest stay) j)) i
    ++ all_pass test more (each_not tests false more also) i) in
    subst (λ right. IsPermutation (filter test all) right) kept (filter_permuted test all ((gone ++ rest) ++ more) whole)

-- parts in another order: what is gone of items goes before what is kept of them, and other kept ones come last
regrouped : {X : Type 0} (a b rest more last : List X) → IsPermutation ((a ++ (b ++ rest)) ++ (last ++ more)) ((a ++ b) ++ (rest ++ (more ++ last)))
regrouped a b rest more last =
    subst (λ left. IsPermutation left ((a ++ b) ++ (rest ++ (more ++ last)))) (sym grouped)
    (IsPermutation-append_right (a ++ b) (rest ++ (last ++ more)) (rest ++ (more ++ last))
    (IsPermutation-append_right rest (last ++ more) (more ++ last) (IsPermutation-append_comm last more)))
  where
    grouped : (a ++ (b ++ rest)) ++ (last ++ more) ≡ (a ++ b) ++ (rest ++ (last ++ more))
    grouped =
        append_assoc a (b ++ rest) (last ++ more)
        ∙ (ap (λ ys. a ++ ys) (append_assoc b rest (last ++ more)) ∙ sym (append_assoc a b (rest ++ (last ++ more))))

-- The records of an image: those that a change names, the rest of its items, and what is alike in both images.
records_are : (whole : Walked) (pairs blocks : List Live) (found gone rest same_items same_blocks : List Located)
    → IsPermutation (records_of whole) (records_at pairs whole ++ (same_blocks ++ same_items)) → IsPermutation pairs blocks
    → IsPermutation (items_in pairs whole.seen) found → IsPermutation found (gone ++ rest)
    → IsPermutation (records_of whole) (change_records whole.sup blocks gone ++ (rest ++ (same_items ++ same_blocks)))
records_are whole pairs blocks found gone rest same_items same_blocks all by_blocks by_items are =
    let same = same_blocks ++ same_items in
    let head = map live_record blocks in
    let changed = change_records whole.sup blocks (gone ++ rest) in
    let by_gone : IsPermutation (items_in pairs whole.seen) (gone ++ rest) =
    IsPermutation-trans (items_in pairs whole.seen) found (gone ++ rest) by_items are in
    IsPermutation-trans (records_of whole) (records_at pairs whole ++ same) (change_records whole.sup blocks gone ++ (rest ++ (same_items ++ same_blocks))) all
    (IsPermutation-trans (records_at pairs whole ++ same) (changed ++ same) (change_records whole.sup blocks gone ++ (rest ++ (same_items ++ same_blocks)))
    (IsPermutation-append_left same (records_at pairs whole) changed (records_changed whole pairs blocks (gone ++ rest) by_blocks by_gone))
    (IsPermutation-cons (super_record whole.sup) ((head ++ (gone ++ rest)) ++ same) ((head ++ gone) ++ (rest ++ (same_items ++ same_blocks)))
    (regrouped head gone rest same_items same_blocks)))

map_joined : (xs ys more : List Located) → map anywhere xs ≡ map anywhere ys → map anywhere (xs ++ more) ≡ map anywhere (ys ++ more)
map_joined xs ys more same = through xs ∙ (ap (λ zs. zs ++ map anywhere more) same ∙ sym (through ys))
  where
    through : (zs : List Located) → map anywhere (zs ++ more) ≡ map anywhere zs ++ map anywhere more
    through [] = refl
    through (z ∷ zs) = ap (λ ls. anywhere z ∷ ls) (through zs)

blocks_same : (before after : Context) (blocks : List Located) → AllByRecursion IsBlock blocks
    → AllByRecursion (λ one. postings_of before one ≡ postings_of after one) blocks
blocks_same before after [] all = tt
blocks_same before after (one ∷ blocks) all =
    let live = all.0.0 in
    (block_posts before after live.address live.level one (ap (λ (other : Located). other.part) all.0.1), blocks_same before after blocks all.1)

-- The step, where all is known of what changes: what is alike in both images, how items are paired, and which kept ones post otherwise.
module _ (before after : Context) (old new : Walked) (old_pairs new_pairs old_blocks new_blocks : List Live)
    (old_found new_found gone came : List Located) (named : ItemRef → Bool) (refs : List ItemRef)
    (same : HoldApart old new old_pairs new_pairs) (paired : ArePaired named old_found new_found gone came)
    (old_by : IsPermutation old_pairs old_blocks) (new_by : IsPermutation new_pairs new_blocks)
    (old_items : IsPermutation (items_in old_pairs old.seen) old_found) (new_items : IsPermutation (items_in new_pairs new.seen) new_found)
    (unnamed : All (λ one. named (name_of one) ≡ false) same.items)
    (kept : AreFound before after (kept_items named (items_of old)) refs) (size : before.nodesize ≡ after.nodesize) where
  abbrev stay : List Located
  stay = kept.staying ++ same.blocks

  -- the kept items and the blocks, by what they post, are the rest of the old items and what is alike
  rest_perm : IsPermutation (paired.old_rest ++ (same.items ++ same.blocks)) (kept.found ++ stay)
  rest_perm =
      let items = paired.old_rest ++ same.items in
      let by_names : IsPermutation (kept_items named (items_of old)) items =
      kept_are named (items_of old) (items_in old_pairs old.seen) gone paired.old_rest same.items same.old_items
      (IsPermutation-trans (items_in old_pairs old.seen) old_found (gone ++ paired.old_rest) old_items paired.old)
      paired.gone_named paired.rest_unnamed unnamed in
      let both : IsPermutation items (kept.found ++ kept.staying) =
      IsPermutation-trans items (kept_items named (items_of old)) (kept.found ++ kept.staying)
      (IsPermutation-sym (kept_items named (items_of old)) items by_names) kept.all in
      subst (λ left. IsPermutation left (kept.found ++ stay)) (append_assoc paired.old_rest same.items same.blocks)
      (subst (λ right. IsPermutation (items ++ same.blocks) right) (append_assoc kept.found kept.staying same.blocks)
      (IsPermutation-append_left same.blocks items (kept.found ++ kept.staying) both))

  next : Ordered anywhere (paired.old_rest ++ (same.items ++ same.blocks)) (kept.found ++ stay) (paired.new_rest ++ (same.items ++ same.blocks))
  next =
      ordered anywhere (paired.old_rest ++ (same.items ++ same.blocks)) (kept.found ++ stay) (paired.new_rest ++ (same.items ++ same.blocks))
      rest_perm (map_joined paired.old_rest paired.new_rest (same.items ++ same.blocks) paired.same)

  pub step : IsStep before after (records_of old) (records_of new) (change_records old.sup old_blocks gone) (change_records new.sup new_blocks came) refs
  step =
      let went = change_records old.sup old_blocks gone in
      let come = change_records new.sup new_blocks came in
      record {
        found = kept.found;
        staying = stay;
        others = next.list;
        old = IsPermutation-trans (records_of old) (went ++ (paired.old_rest ++ (same.items ++ same.blocks))) (went ++ (kept.found ++ stay))
            (records_are old old_pairs old_blocks old_found gone paired.old_rest same.items same.blocks same.old_records old_by old_items paired.old)
            (IsPermutation-append_right went (paired.old_rest ++ (same.items ++ same.blocks)) (kept.found ++ stay) rest_perm);
        new = IsPermutation-trans (records_of new) (come ++ (paired.new_rest ++ (same.items ++ same.blocks))) (come ++ next.list)
            (records_are new new_pairs new_blocks new_found came paired.new_rest same.items same.blocks same.new_records new_by new_items paired.new)
            (IsPermutation-append_right come (paired.new_rest ++ (same.items ++ same.blocks)) next.list next.perm);
        alike = sym next.alike;
        size = inl size;
        names = kept.names;
        same = All-append (λ one. postings_of before one ≡ postings_of after one) kept.staying same.blocks kept.same
            (All-from_recursion (λ one. postings_of before one ≡ postings_of after one) same.blocks
            (blocks_same before after same.blocks same.are_blocks));
        placed = kept.placed;
      }

-- no item that is alike in both images is named
all_unnamed : (old_items new_items : List ItemAt) (changes : List ItemChange) (olds news old_left new_left items : List Located)
    → AllPairs StandApart olds → AllPairs StandApart news → IsPermutation olds (old_left ++ items) → IsPermutation news (new_left ++ items)
    → IsPermutation old_left (map located_item old_items) → IsPermutation new_left (map located_item new_items)
    → All (λ one. is_named old_items new_items changes (name_of one) ≡ false) items
all_unnamed old_items new_items changes olds news old_left new_left items distinct also perm same are they =
    All-weaker (Contains items) (λ one. is_named old_items new_items changes (name_of one) ≡ false)
    (λ one has.
    none_named old_items new_items (name_of one)
    (none_stands olds old_left items old_items distinct perm are one has)
    (none_stands news new_left items new_items also same they one has) changes)
    items (All-contains_itself items)

pub steps : PairedLaw → StepLaw
steps pair image pending old new change changes refs free fresh was is old_stand new_stand moved alike are found =
    let written = written_in pending in
    let end = length image in
    let olds = change.old_items.items in
    let news = change.new_items.items in
    let named = is_named olds news changes in
    let old_pairs = unshared_in old new written end old in
    let new_pairs = unshared_in old new written end new in
    let same = hold_apart image pending old new was is in
    let paired = pair olds news changes (ascend_items olds moved.old_items.ascends) (ascend_items news moved.new_items.ascends) are in
    let unnamed =
    all_unnamed olds news changes (items_of old) (items_of new) (items_in old_pairs old.seen) (items_in new_pairs new.seen) same.items
    old_stand.distinct new_stand.distinct same.old_items same.new_items moved.old_items.all moved.new_items.all in
    subst (λ n. IsStep (context_with old.chunks old.sup.nodesize free) (context_with new.chunks n fresh) (records_of old) (records_of new)
    (change_records old.sup change.old_blocks.items (gone_items olds changes)) (change_records new.sup change.new_blocks.items (came_items news changes))
    refs)
    (nodesize_same old.sup new.sup alike)
    (step (context_with old.chunks old.sup.nodesize free) (context_with new.chunks old.sup.nodesize fresh) old new old_pairs new_pairs
    change.old_blocks.items change.new_blocks.items (map located_item olds) (map located_item news) (gone_items olds changes)
    (came_items news changes) named refs same paired moved.old_blocks moved.new_blocks moved.old_items.all moved.new_items.all unnamed found refl)
