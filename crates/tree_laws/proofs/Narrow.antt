-- The ids and addresses of an image's live pairs have 64 bits, since the headers of their blocks name them.
use Rattle.std.proofs.Common.{◌≡◌, ℕ, ◌<◌, ◌^◌, ◌==◌, Bool, true, false, List, [], ◌∷◌, drop, get_or, length, slice_index, inl, inr, refl, ap, sym, subst, ◌∙◌, arith}
use Rattle.std.proofs.lemmas.Bool.{cases_lt, eqb-true}
use Rattle.std.proofs.lemmas.Grind.{common_steps}
use Rattle.std.proofs.lemmas.List.Elements.{All-drop, All-take}
use Rattle.std.specs.Prelude.{Option, Some, None, Ok, Err, Result, is_some, map, if◌then◌else◌}
use Rattle.std.specs.List.{All, AllByRecursion, list_any}
use Rattle.std.specs.Result.{IsOk}
use Rattle.tree_laws.proofs.Climbing.{ok_same}
use Rattle.verdict.proofs.Lists.{all_map as each_map}
use Rattle.verdict.proofs.Numbers.{same_of_not}
use Rattle.verdict.proofs.Truth.{and_parts}
use Rattle.byteorder.specs.Numbers.{little_from-lt}
use Rattle.recon_bytes.specs.Field.{field}
use Rattle.verdict.specs.Chunks.{place}
use Rattle.verdict.specs.Image.{range}
use Rattle.verdict.specs.Items.{is_multiple}
use Rattle.verdict.specs.Rules.{first_failing}
use Rattle.verdict.specs.declared.place.Chunk.{Chunk}
use Rattle.verdict.specs.declared.place.Place.{Place}
use Rattle.verdict.specs.declared.place.Place.TheVariants.{Nowhere, One, Two}
use Rattle.verdict.proofs.Tables.{kept_at}
use Rattle.super_reader.specs.declared.Super.{Super}
use Rattle.live_index.specs.declared.live.Live.{Live}
use Rattle.node_reader.specs.Faults.{block_fault, header_rules}
use Rattle.node_reader.specs.Stored.{CopyFault, Stored, alike, bytes_at, least_difference, stored_in}
use Rattle.node_reader.specs.Stored.CopyFault.{NoPlace}
use Rattle.node_reader.specs.declared.expect.Expect.{Expect}
use Rattle.records.specs.Contents.{named_root}
use Rattle.records.specs.Seen.{Seen}
use Rattle.records.specs.Walk.{walk_of}
use Rattle.records.specs.WalkLaw.{visited}
use Rattle.tree_laws.specs.LivePairs.{live_in, table_of}
use Rattle.tree_laws.specs.NarrowLaw.{NarrowLaw}
use Rattle.tree_laws.specs.TableLaw.{Tree, trees_in}
use Rattle.tree_laws.proofs.Accepted.{accepts}
use Rattle.tree_laws.proofs.Forest.{lives_all, then_ok, walks}
use Rattle.tree_laws.proofs.Picking.{comes_there, is_at, is_there, one_of, table_some, there_trees}
use Rattle.tree_laws.proofs.Sharing.{header_kept}
use Rattle.tree_laws.proofs.Tables.{Any, any_each}
use Rattle.tree_laws.proofs.Trails.{trail_below, trail_of}
use Rattle.tree_laws.proofs.Treed.{has_trees, steps_of, trees_walk}
use Rattle.tree_laws.proofs.Visiting.{Visits, comes_from, visits_from}
use Rattle.tree_laws.proofs.Within.{Below, within}
use Rattle.volume_items.specs.declared.root_at.RootAt.{RootAt}

-- each of these is a byte
abbrev pub IsBytes : List ℕ → Type 0
IsBytes bytes = All (λ byte. byte < 256) bytes

any_byte : (bytes : List ℕ) → IsBytes bytes → (k : ℕ) → slice_index bytes k < 256
any_byte bytes h k = elim (cases_lt k (length bytes)) [
  | inl inside ↦ h k 0 inside
  | inr outside ↦ let e : get_or bytes k 0 ≡ 0 = grind (arith, common_steps) in rw e (omega arith)
]

-- a field of eight bytes
field_narrow : (bytes : List ℕ) (at : ℕ) → IsBytes bytes → field 8 bytes at < 2 ^ 64
unfolding field
field_narrow bytes at h = little_from-lt 0 8 (drop at bytes) (any_byte (drop at bytes) (All-drop (λ byte. byte < 256) at bytes h))

-- what is stored is bytes
abbrev pub AreBytes : Stored → Type 0
AreBytes stored = (address : ℕ) (bytes : List ℕ) → stored address ≡ Ok bytes → IsBytes bytes

range_bytes : (image : List ℕ) (at n : ℕ) → IsBytes image → IsBytes (range at n image)
range_bytes image at n h = All-take (λ byte. byte < 256) n (drop at image) (All-drop (λ byte. byte < 256) at image h)

abbrev pub copied : List ℕ → Result (List ℕ) CopyFault
copied bytes = Ok bytes

place_bytes : (image : List ℕ) (n : ℕ) (at : Place) (bytes : List ℕ) → IsBytes image → bytes_at n image at ≡ Ok bytes → IsBytes bytes
place_bytes image n Nowhere bytes h is = absurd (cc)
place_bytes image n (One first) bytes h is = subst IsBytes (ok_same (range first n image) bytes is) (range_bytes image first n h)
place_bytes image n (Two first second) bytes h is = by (least_difference (range first n image) (range second n image)) is
  where
    by : (found : Option ℕ) → alike (range first n image) found ≡ Ok bytes → IsBytes bytes
    by None is = subst IsBytes (ok_same (range first n image) bytes is) (range_bytes image first n h)
    by (Some place) is = absurd (cc)

stored_bytes : (image : List ℕ) (chunks : List Chunk) (n : ℕ) → IsBytes image → AreBytes (stored_in image chunks n)
unfolding stored_in
stored_bytes image chunks n h address bytes is = by (is_multiple address) is
  where
    by : (b : Bool) → (if b then bytes_at n image (place chunks address n (length image)) else Err NoPlace) ≡ Ok bytes → IsBytes bytes
    by true is = place_bytes image n (place chunks address n (length image)) bytes h is
    by false is = absurd (cc)

named : (bytes fsid : List ℕ) (e : Expect) → block_fault bytes fsid e ≡ None → (field 8 bytes 0x30 ≡ e.address) × (field 8 bytes 0x58 ≡ e.tree)
unfolding header_rules
named bytes fsid e none =
    let kept : first_failing (header_rules bytes fsid e) ≡ None = header_kept bytes fsid e none in (
      same_of_not (field 8 bytes 0x30) e.address (kept_at 2 (header_rules bytes fsid e) kept),
      same_of_not (field 8 bytes 0x58) e.tree (kept_at 4 (header_rules bytes fsid e) kept),
    )

-- what is expected of a block has 64 bits
abbrev pub IsNarrow : Expect → Type 0
IsNarrow w = (w.tree < 2 ^ 64) × (w.address < 2 ^ 64)

narrow_tree : (sup : Super) (stored : Stored) (root : Expect) → AreBytes stored → IsOk (walk_of sup stored root)
    → AllByRecursion IsNarrow (visited sup stored root)
narrow_tree sup stored root bytes fine =
    let any : Visits (Any sup stored) (trail_of sup stored root) =
    visits_from (Any sup stored) sup stored root (record { fine = fine; each = any_each sup stored (visited sup stored root) }) in
    each_map (Below (Any sup stored) sup stored) IsNarrow (visited sup stored root) (λ w below. block w below)
    (comes_from (Below (Any sup stored) sup stored) sup stored root (within (Any sup stored) sup stored root any)).each
  where
    block : (w : Expect) → Below (Any sup stored) sup stored w → IsNarrow w
    block w below =
        let a = accepts (Any sup stored) (trail_below w.level sup stored) sup stored w below in
        let both = named a.bytes sup.fsid w a.passes in
        let lawful = bytes w.address a.bytes a.is in (
          subst (λ n. n < 2 ^ 64) both.1 (field_narrow a.bytes 0x58 lawful),
          subst (λ n. n < 2 ^ 64) both.0 (field_narrow a.bytes 0x30 lawful),
        )

narrow_trees : (sup : Super) (trees : List Tree) (records : List Seen) → AllByRecursion (λ tree. AreBytes tree.0) trees → walks sup trees ≡ Ok records
    → AllByRecursion (λ tree. AllByRecursion IsNarrow (visited sup tree.0 tree.1)) trees
narrow_trees sup [] records bytes is = tt
narrow_trees sup (tree ∷ trees) records bytes is =
    let split = then_ok (walk_of sup tree.0 tree.1) (walks sup trees) records is in
    (narrow_tree sup tree.0 tree.1 bytes.0 (rw split.2 refl), narrow_trees sup trees split.1 bytes.1 split.3)

-- the trees of an image of bytes
trees_bytes : (sup : Super) (array chunks : List Chunk) (roots : List RootAt) (image : List ℕ) → IsBytes image
    → AllByRecursion (λ tree. AreBytes tree.0) (trees_in sup array chunks roots image)
trees_bytes sup array chunks roots image h = (stored_bytes image array sup.nodesize h, (stored_bytes image chunks sup.nodesize h, by roots))
  where
    by : (some : List RootAt)
        → AllByRecursion (λ (tree : Tree). AreBytes tree.0) (map (λ root. (stored_in image chunks sup.nodesize, named_root root)) some)
    by [] = tt
    by (root ∷ some) = (stored_bytes image chunks sup.nodesize h, by some)

pub narrow : NarrowLaw
narrow image trees bytes is tree address has = by (table_of (live_in trees.seen) tree address) refl has
  where
    by : (entry : Option Live) → table_of (live_in trees.seen) tree address ≡ entry → is_some entry ≡ true → (tree < 2 ^ 64) × (address < 2 ^ 64)
    by None entry has = absurd (cc)
    by (Some one) entry has =
        let s = steps_of image trees is in
        let all = trees_in trees.sup trees.chunks trees.chunks s.roots image in
        let walk = trees_walk image trees all (has_trees image trees s is) in
        let there : list_any (comes_there trees.sup tree address) all ≡ true =
        sym (there_trees trees.sup tree address all)
        ∙ (ap (list_any (is_there tree address)) (sym (lives_all trees.sup all trees.seen walk.0 walk.1))
        ∙ table_some (live_in trees.seen) tree address one entry) in
        let pick = one_of (λ t. AllByRecursion IsNarrow (visited trees.sup t.0 t.1)) (comes_there trees.sup tree address) all
        (narrow_trees trees.sup all trees.seen (trees_bytes trees.sup trees.chunks trees.chunks s.roots image bytes) walk.1) there in
        let at = one_of IsNarrow (is_at tree address) (visited trees.sup pick.0.0 pick.0.1) pick.1 pick.2 in
        let both = and_parts (at.0.tree == tree) (at.0.address == address) at.2 in (
          subst (λ n. n < 2 ^ 64) (eqb-true at.0.tree tree both.0) at.1.0,
          subst (λ n. n < 2 ^ 64) (eqb-true at.0.address address both.1) at.1.1,
        )
