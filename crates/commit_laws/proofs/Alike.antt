-- What two images share: a shared pair is alike to one of each image, and its block has the same in both.
use Rattle.std.proofs.Common.{◌≡◌, ℕ, ◌==◌, Bool, true, false, not, ◌&&◌, ◌||◌, List, [], ◌∷◌, length, refl, ap, sym, subst, ◌∙◌, if◌then◌else◌}
use Rattle.std.proofs.lemmas.Bool.{eqb-true}
use Rattle.std.specs.Prelude.{Ok, bytes_eq}
use Rattle.std.specs.List.{list_any}
use Rattle.std.specs.Ordering.{nat_cmp}
use Rattle.std.specs.FinMap.{FinMap}
use Rattle.verdict.proofs.Truth.{false_of_not, or_right, and_parts}
use Rattle.verdict.specs.Rules.{no_key}
use Rattle.write_cache.specs.Cache.{overlaid}
use Rattle.super_reader.specs.Superblock.{item_place}
use Rattle.super_reader.specs.declared.Super.{Super}
use Rattle.live_index.specs.declared.live.Live.{Live}
use Rattle.node_reader.specs.Layout.{items_of, pointers_of}
use Rattle.node_reader.specs.Stored.{Stored, stored_in}
use Rattle.node_reader.specs.declared.expect.Expect.{Expect}
use Rattle.node_reader.specs.declared.expect.Pointer.{Pointer}
use Rattle.records.specs.Part.Part.{BlockPart}
use Rattle.records.specs.Seen.{Seen}
use Rattle.records.specs.Seen.Seen.{BlockSeen, ItemSeen, PointerSeen}
use Rattle.records.specs.Walk.{entry_records, leaf_records, pointer_records}
use Rattle.touched_blocks.specs.Touched.{Written, stays_in_place, touches_block, written_in}
use Rattle.tree_laws.specs.LivePairs.{Walked, live_in, live_of, records_in}
use Rattle.tree_laws.specs.MergedLaw.{items}
use Rattle.tree_laws.specs.Shared.{are_alike, are_read_alike, at_or_below, is_block_where, is_shared, is_shared_by, stands_untouched}
use Rattle.tree_laws.specs.Skips.{own_of}
use Rattle.tree_laws.proofs.Accepted.{IsAs}
use Rattle.tree_laws.proofs.Climbing.{copied, ok_same as ok_bytes}
use Rattle.tree_laws.proofs.Images.{stored_alike}
use Rattle.tree_laws.proofs.KeptImage.{nodesize_same}
use Rattle.tree_laws.proofs.Lives.{ok_same}
use Rattle.tree_laws.proofs.Merged.{read_of, entries_alike, pointers_alike}
use Rattle.tree_laws.proofs.OldTells.{HasSame, has_same}
use Rattle.tree_laws.proofs.Trails.{Visit}
use Rattle.commit_laws.specs.Same.{live_record}
use Rattle.commit_laws.proofs.Found.{Owns, items_at, pair_at, seen_at, stored_of}

entries_by : (a b : Super) → are_read_alike a b ≡ true → (e : Expect) (bytes : List ℕ) → entry_records a e bytes ≡ entry_records b e bytes
entries_by a b alike e bytes =
    let one =
    and_parts (bytes_eq a.fsid b.fsid)
    (a.nodesize == b.nodesize && (a.incompat == b.incompat && (a.compat_ro == b.compat_ro && a.devid == b.devid))) alike in
    let two = and_parts (a.nodesize == b.nodesize) (a.incompat == b.incompat && (a.compat_ro == b.compat_ro && a.devid == b.devid)) one.1 in
    let three = and_parts (a.incompat == b.incompat) (a.compat_ro == b.compat_ro && a.devid == b.devid) two.1 in
    let four = and_parts (a.compat_ro == b.compat_ro) (a.devid == b.devid) three.1 in
    let nodesize : a.nodesize ≡ b.nodesize = eqb-true a.nodesize b.nodesize two.0 in
    let incompat : a.incompat ≡ b.incompat = eqb-true a.incompat b.incompat three.0 in
    let compat_ro : a.compat_ro ≡ b.compat_ro = eqb-true a.compat_ro b.compat_ro four.0 in
    let devid : a.devid ≡ b.devid = eqb-true a.devid b.devid four.1 in
    rw (nodesize, incompat, compat_ro, devid) refl

-- two blocks that are alike, of which the same is stored, have the same items where they are read alike
pub items_alike : (a b : Super) (one other : Stored) (e v : Expect) (own more : List Seen) → are_read_alike a b ≡ true → IsAs e v
    → other v.address ≡ one e.address → own_of a one e ≡ Ok own → own_of b other v ≡ Ok more → items own ≡ items more
items_alike a b one other e v own more alike same stays is also =
    let x = read_of a one e own is in
    let y = read_of b other v more also in
    let bytes : x.bytes ≡ y.bytes = ok_bytes x.bytes y.bytes (sym x.is ∙ (sym stays ∙ y.is)) in
    let entries : x.entries ≡ y.entries =
    ok_same x.entries y.entries
    (sym x.has ∙ (entries_by a b alike e x.bytes ∙ (entries_alike b e v same x.bytes ∙ (ap (entry_records b v) bytes ∙ y.has)))) in
    ap items x.own_is ∙ (ap items entries ∙ sym (ap items y.own_is))

-- the records of two blocks that are alike
pub records_alike : (a b : Live) → HasSame a b → live_record a ≡ live_record b
records_alike a b same = λ i. record {
  tree = same.tree i;
  block = same.address i;
  key = no_key;
  part = BlockPart (same.address i) (same.level i);
}

first_false : (a b : Bool) → (a || b) ≡ false → a ≡ false
first_false true b is = absurd (cc)
first_false false b is = refl

-- no write touches the block of a pair that is alike to an untouched one
untouched_at : (touched : ℕ → Bool) (seen : List Seen) (live : Live) → stands_untouched touched seen live ≡ true → touched live.address ≡ false
unfolding stands_untouched
untouched_at touched [] live is = absurd (cc)
untouched_at touched (PointerSeen one ∷ behind) live is = untouched_at touched behind live is
untouched_at touched (ItemSeen one ∷ behind) live is = untouched_at touched behind live is
untouched_at touched (BlockSeen block ∷ behind) live is =
    by (are_alike (live_of block behind) live) (at_or_below touched block behind) refl refl is (untouched_at touched behind live)
  where
    by : (a b : Bool) → are_alike (live_of block behind) live ≡ a → at_or_below touched block behind ≡ b
        → ((a && not b) || stands_untouched touched behind live) ≡ true
        → (stands_untouched touched behind live ≡ true → touched live.address ≡ false) → touched live.address ≡ false
    by true false alike free is rest =
        let same = has_same (live_of block behind) live alike in
        subst (λ address. touched address ≡ false) same.address
        (first_false (touched block.address) (list_any (is_block_where touched) (records_in block behind)) free)
    by true true alike free is rest = rest is
    by false b alike free is rest = rest is

-- and it is alike to one of these pairs
untouched_any : (touched : ℕ → Bool) (seen : List Seen) (live : Live) → stands_untouched touched seen live ≡ true
    → list_any (λ one. are_alike one live) (live_in seen) ≡ true
unfolding stands_untouched live_in
untouched_any touched [] live is = absurd (cc)
untouched_any touched (PointerSeen one ∷ behind) live is = untouched_any touched behind live is
untouched_any touched (ItemSeen one ∷ behind) live is = untouched_any touched behind live is
untouched_any touched (BlockSeen block ∷ behind) live is =
    by (are_alike (live_of block behind) live) (at_or_below touched block behind) is (untouched_any touched behind live)
  where
    by : (a b : Bool) → ((a && not b) || stands_untouched touched behind live) ≡ true
        → (stands_untouched touched behind live ≡ true → list_any (λ one. are_alike one live) (live_in behind) ≡ true)
        → (a || list_any (λ one. are_alike one live) (live_in behind)) ≡ true
    by true b is rest = refl
    by false b is rest = rest is

-- what is known of a shared pair
pub record IsShared (old new : Walked) (written : Written) (end : ℕ) (live : Live) : Type 0 where
  pub alike : are_read_alike old.sup new.sup ≡ true
  pub stays : stays_in_place old.chunks new.chunks old.sup.nodesize end live.address ≡ true
  pub free : touches_block written old.chunks old.sup.nodesize end live.address ≡ false
  pub was : list_any (λ one. are_alike one live) (live_in old.seen) ≡ true
  pub is : list_any (are_alike live) (live_in new.seen) ≡ true

pub shared_is : (old new : Walked) (written : Written) (end : ℕ) (live : Live) → is_shared old new written end live ≡ true
    → IsShared old new written end live
unfolding is_shared_by
shared_is old new written end live is =
    let touched = touches_block written old.chunks old.sup.nodesize end in
    let stays = stays_in_place old.chunks new.chunks old.sup.nodesize end live.address in
    let untouched = stands_untouched touched old.seen live in
    let any = list_any (are_alike live) (live_in new.seen) in
    let one = and_parts (are_read_alike old.sup new.sup) (stays && (untouched && any)) is in
    let two = and_parts stays (untouched && any) one.1 in
    let three = and_parts untouched any two.1 in
    record {
      alike = one.0;
      stays = two.0;
      free = untouched_at touched old.seen live three.0;
      was = untouched_any touched old.seen live three.0;
      is = three.1;
    }

-- a shared pair's block has the same in both images
module _ (image : List ℕ) (pending : FinMap nat_cmp ℕ) (old new : Walked) where
  abbrev pub judged : List ℕ
  judged = overlaid pending 0 image

  abbrev pub was : Stored
  was = stored_of image old

  abbrev pub now : Stored
  now = stored_of judged new

  pub stored_same : (live : Live) → IsShared old new (written_in pending) (length image) live → now live.address ≡ was live.address
  stored_same live s =
      ap (λ n. stored_in judged new.chunks n live.address) (sym (nodesize_same old.sup new.sup s.alike))
      ∙ stored_alike image pending old.chunks new.chunks old.sup.nodesize live.address s.free (ap not s.stays)

  pub block_same : (v w : Visit) → Owns old.sup was v → Owns new.sup now w
      → are_alike (pair_at old.sup was v) (pair_at new.sup now w) ≡ true
      → IsShared old new (written_in pending) (length image) (pair_at old.sup was v)
      → seen_at old.sup was v ≡ seen_at new.sup now w
  block_same v w own more near s =
      let a = pair_at old.sup was v in
      let b = pair_at new.sup now w in
      let same = has_same a b near in
      let block : IsAs v.e w.e = record { tree = same.tree; address = same.address; generation = same.generation; level = same.level } in
      let bytes : now w.e.address ≡ was v.e.address = ap now (sym same.address) ∙ stored_same a s in
      ap (λ one. one ∷ items_at old.sup was v) (records_alike a b same)
      ∙ ap (λ found. live_record b ∷ found) (items_alike old.sup new.sup was now v.e w.e v.own w.own s.alike block bytes own more)
