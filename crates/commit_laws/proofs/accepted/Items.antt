-- The items of an image are apart, and each keeps what its row asks.
use Rattle.std.proofs.Common.{◌≡◌, ℕ, ◌==◌, Bool, true, false, List, [], ◌∷◌, ◌++◌, refl, ap, sym, subst, ◌∙◌, if◌then◌else◌}
use Rattle.std.proofs.lemmas.List.Elements.{All-from_recursion}
use Rattle.std.specs.Prelude.{Result, Ok, Err, nat_lt, length}
use Rattle.std.specs.List.{AllByRecursion, flat_map}
use Rattle.verdict.proofs.Lists.{all_map}
use Rattle.verdict.specs.Image.{range}
use Rattle.verdict.specs.Rules.{and_then, finding_or, first_failing, image_finding}
use Rattle.verdict.specs.Trees.{is_node_size}
use Rattle.verdict.specs.declared.finding.Family.TheVariants.{S}
use Rattle.verdict.specs.declared.finding.Finding.{Finding}
use Rattle.verdict.specs.declared.place.At.{At}
use Rattle.verdict.proofs.Tables.{finding_or-ok}
use Rattle.super_reader.specs.Superblock.{item_place, superblock_fields, superblock_of, superblock_rules}
use Rattle.super_reader.specs.declared.Super.{Super}
use Rattle.super_reader.proofs.SuperLaws.{fields_readable}
use Rattle.node_reader.specs.Layout.{LeafItem, items_of as leaf_items, pointers_of}
use Rattle.node_reader.specs.Stored.{Stored}
use Rattle.node_reader.specs.declared.expect.Expect.{Expect}
use Rattle.node_reader.specs.declared.expect.Pointer.{Pointer}
use Rattle.records.specs.Contents.{superblock_in}
use Rattle.records.specs.Item.{item_record}
use Rattle.records.specs.Part.{FitsPlace, IsLawful, Located, Part}
use Rattle.records.specs.Seen.{Seen}
use Rattle.records.specs.Seen.Seen.{ItemSeen}
use Rattle.records.specs.Walk.{Records, behind, each, entry_records, just, leaf_record, leaf_records, pointer_records, then_records}
use Rattle.tree_laws.specs.LivePairs.{Walked, walked}
use Rattle.tree_laws.specs.MergedLaw.{items}
use Rattle.tree_laws.proofs.Merged.{read_of}
use Rattle.tree_laws.proofs.Trails.{Visit}
use Rattle.tree_laws.proofs.Treed.{steps_of}
use Rattle.change_records.specs.Spans.{IsLawfulIn}
use Rattle.commit_laws.specs.Items.{ItemsLaw}
use Rattle.commit_laws.proofs.Found.{Owns, found_of, items_all, items_at, stored_of}
use Rattle.commit_laws.proofs.accepted.Apart.{stand_apart}
use Rattle.commit_laws.proofs.accepted.Rows.{Kept, item_kept, place_at}

-- an item keeps what is asked of it
abbrev pub IsKept : ℕ → Located → Type 0
IsKept nodesize one = Kept nodesize one.tree one.block one.key one.part

-- an item of a leaf, and those behind it
first_of : (item : LeafItem) (at : At) (part : Result Part Finding) (more : Records) (entries : List Seen)
    → then_records (just (and_then part (λ p. Ok (ItemSeen (place_at at.tree at.block item.key p))))) more ≡ Ok entries
    → (p : Part) × (others : List Seen) × (part ≡ Ok p) × (more ≡ Ok others) × (ItemSeen (place_at at.tree at.block item.key p) ∷ others ≡ entries)
unfolding behind
first_of item at (Err finding) more entries is = absurd (cc)
first_of item at (Ok part) (Err finding) entries is = absurd (cc)
first_of item at (Ok part) (Ok others) entries is = (part, others, refl, refl, cc)

module _ (sup : Super) (size : is_node_size sup.nodesize ≡ true) where
  abbrev AllKept : List Located → Type 0
  AllKept found = AllByRecursion (IsKept sup.nodesize) found

  leaf_kept : (tree block generation : ℕ) (leaves : List LeafItem) (entries : List Seen)
      → each (λ item. just (leaf_record (item_place sup tree block generation) item)) leaves ≡ Ok entries → AllKept (items entries)
  leaf_kept tree block generation [] entries is = let none : [] ≡ entries = cc in subst (λ es. AllKept (items es)) none tt
  leaf_kept tree block generation (item ∷ leaves) entries is =
      let at = item_place sup tree block generation in
      let rest =
      first_of item at (item_record at item.key item.bytes) (each (λ item. just (leaf_record at item)) leaves) entries is in
      subst (λ es. AllKept (items es)) rest.4 (
        item_kept sup tree block generation item.key item.bytes rest.0 size rest.2,
        leaf_kept tree block generation leaves rest.1 rest.3,
      )

  node_kept : (e : Expect) (pointers : List Pointer) → AllKept (items (pointer_records e pointers))
  node_kept e [] = tt
  node_kept e (pointer ∷ pointers) = node_kept e pointers

  entries_kept : (e : Expect) (bytes : List ℕ) (entries : List Seen) → entry_records sup e bytes ≡ Ok entries → AllKept (items entries)
  unfolding leaf_records
  entries_kept e bytes entries is = by (e.level == 0) is
    where
      by : (leaf : Bool)
          → (if leaf then each (λ item. just (leaf_record (item_place sup e.tree e.address e.generation) item)) (leaf_items bytes)
          else Ok (pointer_records e (pointers_of bytes))) ≡ Ok entries → AllKept (items entries)
      by true is = leaf_kept e.tree e.address e.generation (leaf_items bytes) entries is
      by false is =
          let same : pointer_records e (pointers_of bytes) ≡ entries = cc in
          subst (λ es. AllKept (items es)) same (node_kept e (pointers_of bytes))

  visits_kept : (stored : Stored) (visits : List Visit) → AllByRecursion (Owns sup stored) visits → AllKept (flat_map (items_at sup stored) visits)
  visits_kept stored [] own = tt
  visits_kept stored (v ∷ visits) own =
      let r = read_of sup stored v.e v.own own.0 in
      joined (items v.own) (flat_map (items_at sup stored) visits)
      (subst (λ own. AllKept (items own)) (sym r.own_is) (entries_kept v.e r.bytes r.entries r.has)) (visits_kept stored visits own.1)
    where
      joined : (a b : List Located) → AllKept a → AllKept b → AllKept (a ++ b)
      joined [] b x y = y
      joined (one ∷ a) b x y = (x.0, joined a b x.1 y)

-- the blocks of an image have a size that a block may have
pub size_good : (image : List ℕ) (sup : Super) → superblock_in image ≡ Ok sup → is_node_size sup.nodesize ≡ true
unfolding superblock_in superblock_of
size_good image sup is = by (nat_lt (length image) 69632) is
  where
    by : (b : Bool) → (if b then Err (image_finding S 1 (length image)) else finding_or (first_failing (superblock_rules (range 65536 4096 image)))
        (superblock_fields (range 65536 4096 image))) ≡ Ok sup → is_node_size sup.nodesize ≡ true
    by true is = absurd (cc)
    by false is =
        let bytes = range 65536 4096 image in
        let fine = finding_or-ok (first_failing (superblock_rules bytes)) (superblock_fields bytes) sup is in
        subst (λ (s : Super). is_node_size s.nodesize ≡ true) (sym fine.1) (fields_readable bytes fine.0).nodesize

pub items_kept : (image : List ℕ) (whole : Walked) → walked image ≡ Ok whole → AllByRecursion (IsKept whole.sup.nodesize) (items whole.seen)
items_kept image whole is =
    let f = found_of image whole is in
    let stored = stored_of image whole in
    let size = size_good image whole.sup (steps_of image whole is).sup_is in
    subst (AllByRecursion (IsKept whole.sup.nodesize))
    (sym (items_all whole.sup stored f.blocks.visits) ∙ ap items f.blocks.all)
    (visits_kept whole.sup size stored f.blocks.visits f.blocks.own)

pub items_stand : ItemsLaw
items_stand image whole is =
    let f = found_of image whole is in
    let n = whole.sup.nodesize in
    let all = items_kept image whole is in
    let found = items whole.seen in
    record {
      distinct = stand_apart whole.sup f.trees whole.seen f.apart f.walk;
      lawful = All-from_recursion (λ (one : Located). IsLawfulIn n one one.part) found
          (all_map (IsKept n) (λ (one : Located). IsLawfulIn n one one.part) found (λ one k. k.0) all);
      sound = All-from_recursion (λ (one : Located). IsLawful one.part) found
          (all_map (IsKept n) (λ (one : Located). IsLawful one.part) found (λ one k. k.1.0) all);
      places = All-from_recursion (λ (one : Located). FitsPlace one.tree one.key one.part) found
          (all_map (IsKept n) (λ (one : Located). FitsPlace one.tree one.key one.part) found (λ one k. k.1.1.0) all);
    }
