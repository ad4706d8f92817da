-- The items in the leaves of some live pairs are no more than the entries of their blocks.
use Rattle.std.proofs.Common.{◌≡◌, ℕ, suc, ◌≤◌, ◌==◌, Bool, true, false, not, List, [], ◌∷◌, length, map}
use Rattle.std.proofs.Common.{refl, ap, sym, ◌∙◌, subst, arith, if◌then◌else◌}
use Rattle.std.specs.Prelude.{Ok}
use Rattle.std.specs.List.{AllByRecursion, filter, flat_map}
use Rattle.std.proofs.lemmas.List.{length-append}
use Rattle.verdict.specs.declared.place.At.{At}
use Rattle.super_reader.specs.Superblock.{item_place}
use Rattle.super_reader.specs.declared.Super.{Super}
use Rattle.live_index.specs.declared.live.Live.{Live}
use Rattle.node_reader.specs.Layout.{LeafItem, count_of, item_of, items_of, pointers_of}
use Rattle.node_reader.specs.Stored.{Stored}
use Rattle.node_reader.specs.declared.expect.Expect.{Expect}
use Rattle.node_reader.specs.declared.expect.Pointer.{Pointer}
use Rattle.node_reader.proofs.BlockLaws.{length_each}
use Rattle.records.specs.Item.{item_record}
use Rattle.records.specs.Part.{Located}
use Rattle.records.specs.Seen.{Seen}
use Rattle.records.specs.Walk.{each, entry_records, just, leaf_record, leaf_records, pointer_records}
use Rattle.tree_laws.specs.LivePairs.{Walked, live_in, walked}
use Rattle.tree_laws.specs.MergedLaw.{items}
use Rattle.tree_laws.specs.Unshared.{items_in}
use Rattle.tree_laws.specs.VisitsLaw.{entries_at, entries_in}
use Rattle.tree_laws.proofs.Merged.{read_of}
use Rattle.tree_laws.proofs.Trails.{Visit}
use Rattle.tree_laws.proofs.Within.{one_own}
use Rattle.tree_change.specs.LooksLaw.{entries_of}
use Rattle.tree_change.specs.OneTree.{side_of}
use Rattle.commit_laws.proofs.Found.{Owns, found_of, items_at, pair_at, stored_of}
use Rattle.commit_laws.proofs.Records.{left, left_items}

-- ---- the items of a block

leaf_count : (at : At) (leaves : List LeafItem) (entries : List Seen) → each (λ item. just (leaf_record at item)) leaves ≡ Ok entries
    → length (items entries) ≡ length leaves
leaf_count at [] entries is = let none : [] ≡ entries = cc in ap (λ es. length (items es)) (sym none)
leaf_count at (item ∷ leaves) entries is =
    let rest = one_own item at (item_record at item.key item.bytes) (each (λ item. just (leaf_record at item)) leaves) entries is in
    ap (λ es. length (items es)) (sym rest.3) ∙ ap suc (leaf_count at leaves rest.1 rest.2)

node_count : (e : Expect) (pointers : List Pointer) → length (items (pointer_records e pointers)) ≡ 0
node_count e [] = refl
node_count e (pointer ∷ pointers) = node_count e pointers

-- a block has no more items than entries
entries_less : (sup : Super) (e : Expect) (bytes : List ℕ) (entries : List Seen) → entry_records sup e bytes ≡ Ok entries
    → length (items entries) ≤ count_of bytes
unfolding leaf_records
entries_less sup e bytes entries is = by (e.level == 0) is
  where
    by : (leaf : Bool)
        → (if leaf then each (λ item. just (leaf_record (item_place sup e.tree e.address e.generation) item)) (items_of bytes)
        else Ok (pointer_records e (pointers_of bytes))) ≡ Ok entries → length (items entries) ≤ count_of bytes
    by true is =
        let n1 = leaf_count (item_place sup e.tree e.address e.generation) (items_of bytes) entries is in
        let n2 = length_each (item_of bytes) 0 (count_of bytes) in
        omega (arith, n1, n2)
    by false is =
        let same : pointer_records e (pointers_of bytes) ≡ entries = cc in
        let n1 = node_count e (pointers_of bytes) in
        subst (λ es. length (items es) ≤ count_of bytes) same (omega (arith, n1))

visit_less : (sup : Super) (stored : Stored) (v : Visit) → Owns sup stored v → length (items v.own) ≤ entries_at stored v.e.address
visit_less sup stored v is =
    let r = read_of sup stored v.e v.own is in
    joins (length (items v.own)) (length (items r.entries)) (count_of r.bytes) (entries_at stored v.e.address)
    (ap (λ own. length (items own)) r.own_is) (entries_less sup v.e r.bytes r.entries r.has) (ap entries_in r.is)
  where
    joins : (a b n m : ℕ) → a ≡ b → b ≤ n → m ≡ n → a ≤ m
    joins a b n m x y z = omega arith

-- ---- the items of pairs

module _ (image : List ℕ) (whole : Walked) (shared : Live → Bool) where
  abbrev found_at : Visit → List Located
  found_at = items_at whole.sup (stored_of image whole)

  abbrev pair : Visit → Live
  pair = pair_at whole.sup (stored_of image whole)

  abbrev count : List Live → ℕ
  count lives = entries_of (side_of image whole) lives

  visits_less : (visits : List Visit) → AllByRecursion (Owns whole.sup (stored_of image whole)) visits
      → length (flat_map found_at (filter (λ v. not (shared (pair v))) visits)) ≤ count (filter (λ live. not (shared live)) (map pair visits))
  visits_less [] own = omega arith
  visits_less (v ∷ visits) own =
      by (not (shared (pair v))) (visit_less whole.sup (stored_of image whole) v own.0) (visits_less visits own.1)
    where
      rest : List Visit
      rest = filter (λ v. not (shared (pair v))) visits

      pairs : List Live
      pairs = filter (λ live. not (shared live)) (map pair visits)

      by : (b : Bool) → length (found_at v) ≤ entries_at (stored_of image whole) v.e.address → length (flat_map found_at rest) ≤ count pairs
          → length (flat_map found_at (if b then v ∷ rest else rest)) ≤ count (if b then pair v ∷ pairs else pairs)
      by true here more = omega (arith, here, more, length-append (found_at v) (flat_map found_at rest))
      by false here more = more

  -- the items in the leaves of the pairs that fail a test are no more than the entries of these pairs
  pub items_less : walked image ≡ Ok whole
      → length (items_in (filter (λ live. not (shared live)) (live_in whole.seen)) whole.seen)
      ≤ count (filter (λ live. not (shared live)) (live_in whole.seen))
  items_less is =
      let blocks = (found_of image whole is).blocks in
      let lives = filter (λ live. not (shared live)) (live_in whole.seen) in
      subst (λ (found : List Located). length found ≤ count lives) (sym (left_items image whole is shared))
      (subst (λ (pairs : List Live). length (flat_map found_at (left image whole is shared)) ≤ count (filter (λ live. not (shared live)) pairs))
      (sym blocks.pairs) (visits_less blocks.visits blocks.own))
