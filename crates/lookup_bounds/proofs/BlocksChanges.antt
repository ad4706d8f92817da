-- Changes between two lists of items are no more than the items, and what they take away or bring is no more than the items of that list.
use Rattle.std.proofs.Common.{◌≡◌, ℕ, zero, suc, ◌+◌, ◌≤◌, Bool, true, false, List, [], ◌∷◌, ◌++◌, length, map}
use Rattle.std.proofs.Common.{refl, ap, sym, subst, arith}
use Rattle.std.specs.Prelude.{Option, Some, None, slice_get}
use Rattle.std.specs.List.{Contains, cons_option, filter_map}
use Rattle.std.specs.List.Sorted.{IsPermutation}
use Rattle.std.proofs.lemmas.List.{length-append, length-map}
use Rattle.std.proofs.lemmas.List.Sorted.{length_permutation}
use Rattle.verdict.proofs.Lists.{filter_map_less}
use Rattle.change_records.specs.Changes.{AreChanges, Ascend, IsChange}
use Rattle.change_records.specs.Spans.{span_of}
use Rattle.change_records.specs.declared.changes.ItemChange.{ItemChange}
use Rattle.change_records.specs.declared.changes.ItemChange.TheVariants.{Added, Altered, Removed}
use Rattle.change_records.proofs.Merge.{contains_first, contains_more}
use Rattle.live_index.specs.declared.live.Live.{Live}
use Rattle.records.specs.Part.{Located}
use Rattle.records.specs.declared.rec.ItemAt.{ItemAt}
use Rattle.span_index.specs.declared.span.Span.{Span}
use Rattle.super_reader.specs.declared.Super.{Super}
use Rattle.tree_change.specs.Gathered.{located_item}
use Rattle.commit_laws.specs.Paired.{AllChangesLaw, PairedLaw, SayChanges, added_from, all_changes, removed_from}
use Rattle.commit_laws.specs.Paired.{came_items, came_of, gone_items, gone_of}
use Rattle.commit_laws.specs.Same.{live_record}
use Rattle.commit_laws.specs.Steps.{change_records, spans_of}

-- ---- each change takes an item away or brings one

some_changed : (old new : List ItemAt) (change : ItemChange) (gone came : List ItemAt) → IsChange old new change
    → suc (length gone + length came) ≤ length (cons_option (gone_of old change) gone) + length (cons_option (came_of new change) came)
some_changed old new (Added at) gone came is =
    subst (λ (o : Option ItemAt). suc (length gone + length came) ≤ length gone + length (cons_option o came)) (sym is.1) (omega arith)
some_changed old new (Removed at) gone came is =
    subst (λ (o : Option ItemAt). suc (length gone + length came) ≤ length (cons_option o gone) + length came) (sym is.1) (omega arith)
some_changed old new (Altered at to) gone came is =
    subst (λ (o : Option ItemAt). suc (length gone + length came) ≤ length (cons_option o gone) + length (cons_option (slice_get new to) came))
    (sym is.2)
    (subst (λ (o : Option ItemAt). suc (length gone + length came) ≤ suc (length gone) + length (cons_option o came)) (sym is.3) (omega arith))

each_changed : (old new : List ItemAt) (changes : List ItemChange) → ((change : ItemChange) → Contains changes change → IsChange old new change)
    → length changes ≤ length (filter_map (gone_of old) changes) + length (filter_map (came_of new) changes)
each_changed old new [] hold = omega arith
each_changed old new (change ∷ changes) hold =
    let here =
    some_changed old new change (filter_map (gone_of old) changes) (filter_map (came_of new) changes)
    (hold change (contains_first change changes)) in
    let rest = each_changed old new changes (λ one has. hold one (contains_more change changes one has)) in
    omega (arith, here, rest)

-- ---- how many there are

-- changes are no more than the items of both lists, and what is gone or came is no more than those of its list
pub record AreFew (old new : List ItemAt) (changes : List ItemChange) : Type 0 where
  pub gone : length (gone_items old changes) ≤ length old
  pub came : length (came_items new changes) ≤ length new
  pub all : length changes ≤ length old + length new

-- a part of a list, in another order
part_less : {X : Type 0} (all some rest : List X) → IsPermutation all (some ++ rest) → length some ≤ length all
part_less all some rest same = let long = length_permutation all (some ++ rest) same in omega (arith, long, length-append some rest)

gone_length : (old : List ItemAt) (changes : List ItemChange) → length (gone_items old changes) ≡ length (filter_map (gone_of old) changes)
unfolding gone_items
gone_length old changes = length-map (filter_map (gone_of old) changes) located_item

came_length : (new : List ItemAt) (changes : List ItemChange) → length (came_items new changes) ≡ length (filter_map (came_of new) changes)
unfolding came_items
came_length new changes = length-map (filter_map (came_of new) changes) located_item

few_paired : PairedLaw → (old new : List ItemAt) (changes : List ItemChange) → Ascend old → Ascend new → AreChanges old new changes
    → AreFew old new changes
few_paired pair old new changes old_ascend new_ascend are =
    let paired = pair old new changes old_ascend new_ascend are in
    let n1 = part_less (map located_item old) (gone_items old changes) paired.old_rest paired.old in
    let n2 = part_less (map located_item new) (came_items new changes) paired.new_rest paired.new in
    let n3 = length-map old located_item in
    let n4 = length-map new located_item in
    let n5 = gone_length old changes in
    let n6 = came_length new changes in
    let n7 = each_changed old new changes are.hold in
    record {
      gone = omega (arith, n1, n3);
      came = omega (arith, n2, n4);
      all = omega (arith, n1, n2, n3, n4, n5, n6, n7);
    }

removed_length : (at n : ℕ) → length (removed_from at n) ≡ n
unfolding removed_from
removed_length at zero = refl
removed_length at (suc n) = ap suc (removed_length (suc at) n)

added_length : (at n : ℕ) → length (added_from at n) ≡ n
unfolding added_from
added_length at zero = refl
added_length at (suc n) = ap suc (added_length (suc at) n)

few_all : AllChangesLaw → (old new : List ItemAt) → AreFew old new (all_changes old new)
few_all law old new =
    let both = law old new in
    let n1 = ap length both.0 in
    let n2 = ap length both.1 in
    let n3 = length-map old located_item in
    let n4 = length-map new located_item in
    let n5 = length-append (removed_from 0 (length old)) (added_from 0 (length new)) in
    let n6 = removed_length 0 (length old) in
    let n7 = added_length 0 (length new) in
    record {
      gone = omega (arith, n1, n3);
      came = omega (arith, n2, n4);
      all = omega (arith, n5, n6, n7);
    }

pub few_changes : PairedLaw → AllChangesLaw → (alike : Bool) (old new : List ItemAt) (changes : List ItemChange) → Ascend old → Ascend new
    → SayChanges alike old new changes → AreFew old new changes
few_changes pair all true old new changes old_ascend new_ascend says = few_paired pair old new changes old_ascend new_ascend says
few_changes pair all false old new changes old_ascend new_ascend says = subst (AreFew old new) (sym says) (few_all all old new)

-- ---- only an item has a span

pub blocks_none : (nodesize : ℕ) (blocks : List Live) (found : List Located)
    → filter_map (span_of nodesize) (map live_record blocks ++ found) ≡ filter_map (span_of nodesize) found
blocks_none nodesize [] found = refl
blocks_none nodesize (live ∷ blocks) found = blocks_none nodesize blocks found

-- the spans of the superblock's record, of blocks and of items are no more than the items
pub spans_less : (nodesize : ℕ) (sup : Super) (blocks : List Live) (found : List Located)
    → length (spans_of nodesize (change_records sup blocks found)) ≤ length found
unfolding spans_of
spans_less nodesize sup blocks found =
    subst (λ (spans : List Span). length spans ≤ length found) (sym (blocks_none nodesize blocks found)) (filter_map_less (span_of nodesize) found)
