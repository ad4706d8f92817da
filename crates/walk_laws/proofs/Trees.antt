-- The keys of a walk, by the level.
use Rattle.std.proofs.Common.{◌≡◌, ℕ, zero, suc, false, ◌==◌, List, [], ◌∷◌, ◌++◌, refl, ap, sym, subst, ◌∙◌, arith}
use Rattle.std.proofs.lemmas.Grind.{common_steps}
use Rattle.std.specs.Prelude.{Option, Some, None, Result, Ok, Err, map, if◌then◌else◌}
use Rattle.verdict.specs.Rules.{and_then}
use Rattle.verdict.specs.OnDisk.{key_below}
use Rattle.verdict.specs.declared.key.Key.{Key}
use Rattle.verdict.specs.declared.finding.Finding.{Finding}
use Rattle.super_reader.specs.declared.Super.{Super}
use Rattle.super_reader.specs.Superblock.{item_place}
use Rattle.verdict.specs.declared.place.At.{At}
use Rattle.node_reader.specs.Places.{each_from}
use Rattle.node_reader.specs.Layout.{LeafItem, count_of, entry_key, entry_size, items_of, pointers_of}
use Rattle.node_reader.specs.Stored.{Stored, block_in, found_by}
use Rattle.node_reader.specs.Faults.{block_fault, block_of}
use Rattle.node_reader.specs.declared.expect.Expect.{Expect}
use Rattle.node_reader.specs.declared.expect.Pointer.{Pointer}
use Rattle.node_reader.proofs.BlockLaws.{block_read}
use Rattle.records.specs.Seen.{Seen}
use Rattle.records.specs.Seen.Seen.{BlockSeen, ItemSeen}
use Rattle.records.specs.Item.{item_record}
use Rattle.records.specs.Walk.{Records, behind, below, block_and, block_at, child_of, children_of, each, entry_records, just, leaf_record, leaf_records, own_records, pointer_records, then_records}
use Rattle.walk_laws.specs.WalkOrder.{Ascend, WalksAscend, item_keys}
use Rattle.walk_laws.proofs.Keys.{AllBelow, Lie, NoneBelow, item_keys-append, lie_joined}
use Rattle.walk_laws.proofs.Blocks.{block_keys, item_keys_of, pointer_keys_of}

-- a step that comes to a value, and what followed
pub step_ok : {A B : Type 0} (step : Result A Finding) (next : A → Result B Finding) (value : B) → and_then step next ≡ Ok value → (a : A) × (step ≡ Ok a) × (next a ≡ Ok value)
step_ok (Err finding) next value is = absurd (cc)
step_ok (Ok a) next value is = (a, refl, is)

-- a block that was read breaks no rule
read_sound : (stored : Stored) (fsid : List ℕ) (e : Expect) (bytes : List ℕ) → block_in stored fsid e ≡ Ok bytes → block_fault bytes fsid e ≡ None
unfolding block_in
read_sound stored fsid e bytes is =
    let read = step_ok (found_by e (stored e.address)) (λ b. block_of b fsid e) bytes is in
    let both = block_read read.0 fsid e bytes read.2 in
    subst (λ b. block_fault b fsid e ≡ None) (sym both.1) both.0

behind_ok : (first : List Seen) (later : Records) (records : List Seen) → behind first later ≡ Ok records → (b : List Seen) × (later ≡ Ok b) × (records ≡ first ++ b)
unfolding behind
behind_ok first (Err f) records is = absurd (cc)
behind_ok first (Ok b) records is = (b, refl, cc)

then_ok : (first later : Records) (records : List Seen) → then_records first later ≡ Ok records → (a : List Seen) × (b : List Seen) × (first ≡ Ok a) × (later ≡ Ok b) × (records ≡ a ++ b)
then_ok (Err f) later records is = absurd (cc)
then_ok (Ok a) later records is =
    let rest = behind_ok a later records is in
    (a, rest.0, refl, rest.1, rest.2)

just_ok : (one : Result Seen Finding) (records : List Seen) → just one ≡ Ok records → (r : Seen) × (one ≡ Ok r) × (records ≡ r ∷ [])
just_ok (Ok r) records is = (r, refl, cc)
just_ok (Err f) records is = absurd (cc)

-- the key of an item's record is the item's
item_key : (at : At) (item : LeafItem) (one : Seen) → leaf_record at item ≡ Ok one → item_keys (one ∷ []) ≡ item.key ∷ []
item_key at item one is =
    let made = step_ok (item_record at item.key item.bytes) _ one is in
    let same : ItemSeen (record { tree = at.tree; block = at.block; key = item.key; part = made.0 }) ≡ one = cc (made.2) in
    sym (ap (λ r. item_keys (r ∷ [])) same)

-- the keys of a leaf's records are those of its items
leaf_keys : (at : At) (items : List LeafItem) (records : List Seen) → each (λ item. just (leaf_record at item)) items ≡ Ok records → item_keys records ≡ map (λ item. item.key) items
leaf_keys at [] records is =
    let none : records ≡ [] = cc in
    ap item_keys none
leaf_keys at (item ∷ items) records is =
    let split = then_ok (just (leaf_record at item)) (each (λ other. just (leaf_record at other)) items) records is in
    let one = just_ok (leaf_record at item) split.0 split.2 in
    let rest : item_keys split.1 ≡ map (λ i. i.key) items = leaf_keys at items split.1 split.3 in
    ap item_keys split.4 ∙ item_keys-append split.0 split.1
    ∙ ap (λ a. item_keys a ++ item_keys split.1) one.2 ∙ ap (λ ks. ks ++ item_keys split.1) (item_key at item one.0 one.1)
    ∙ ap (λ ks. item.key ∷ ks) rest

-- pointers have no keys of items
pointers_keyless : (e : Expect) (pointers : List Pointer) → item_keys (pointer_records e pointers) ≡ []
pointers_keyless e [] = refl
pointers_keyless e (pointer ∷ pointers) = pointers_keyless e pointers

no_records : (found : Records) (records : List Seen) → found ≡ Ok [] → found ≡ Ok records → records ≡ []
no_records found records none is = cc

-- nothing lies between any two keys
lie_none : (low high : Option Key) → Lie low high []
lie_none None None = record { ascend = tt; from = tt; upto = tt }
lie_none None (Some high) = record { ascend = tt; from = tt; upto = tt }
lie_none (Some low) None = record { ascend = tt; from = tt; upto = tt }
lie_none (Some low) (Some high) = record { ascend = tt; from = tt; upto = tt }

-- keys from the first of some on, which are from a low key on
from_first : (low : Option Key) (first : Key) (others keys : List Key) → NoneBelow low (first ∷ others) → NoneBelow (Some first) keys → NoneBelow low keys
from_first None first others keys is from = tt
from_first (Some low) first others [] is from = tt
from_first (Some low) first others (key ∷ keys) is from = (over_low low first key is.0 from.0, from_first (Some low) first others keys is from.1)
  where
    over_low : (low first key : Key) → key_below first low ≡ false → key_below key first ≡ false → key_below key low ≡ false
    over_low low first key a b = grind (arith, common_steps)

-- the keys of a block's own records are those of the records of what it has
own_keys : (sup : Super) (e : Expect) (bytes : List ℕ) (entries : Records) (own : List Seen) → entry_records sup e bytes ≡ entries → own_records sup e bytes ≡ Ok own
    → (rest : List Seen) × (entries ≡ Ok rest) × (item_keys own ≡ item_keys rest)
unfolding own_records
own_keys sup e bytes entries own has is =
    let found = behind_ok (BlockSeen (block_at e bytes) ∷ []) entries own (sym (ap (behind (BlockSeen (block_at e bytes) ∷ [])) has) ∙ is) in
    (found.0, found.1, ap item_keys found.2)

leaf_has : (sup : Super) (e : Expect) (bytes : List ℕ) → e.level ≡ 0 → entry_records sup e bytes ≡ leaf_records (item_place sup e.tree e.address e.generation) (items_of bytes)
leaf_has sup e bytes leaf =
    ap (λ n. if n == 0 then leaf_records (item_place sup e.tree e.address e.generation) (items_of bytes) else Ok (pointer_records e (pointers_of bytes))) leaf

node_has : (sup : Super) (level : ℕ) (e : Expect) (bytes : List ℕ) → e.level ≡ suc level → entry_records sup e bytes ≡ Ok (pointer_records e (pointers_of bytes))
node_has sup level e bytes node =
    ap (λ b. if b then leaf_records (item_place sup e.tree e.address e.generation) (items_of bytes) else Ok (pointer_records e (pointers_of bytes))) (above e.level level node)
  where
    above : (n level : ℕ) → n ≡ suc level → (n == 0) ≡ false
    above n level is = grind (arith, common_steps)

-- the records of a block are its own and those below it
block_ok : (sup : Super) (stored : Stored) (level : ℕ) (e : Expect) (records : List Seen) → block_and (below level sup stored) sup stored e ≡ Ok records
    → (bytes : List ℕ) × (own : List Seen) × (rest : List Seen) × (block_in stored sup.fsid e ≡ Ok bytes) × (own_records sup e bytes ≡ Ok own)
    × (below level sup stored e bytes ≡ Ok rest) × (item_keys records ≡ item_keys own ++ item_keys rest)
block_ok sup stored level e records is =
    let found = step_ok (block_in stored sup.fsid e) (λ bytes. then_records (own_records sup e bytes) (below level sup stored e bytes)) records is in
    let split = then_ok (own_records sup e found.0) (below level sup stored e found.0) records found.2 in
    (found.0, split.0, split.1, found.1, split.2, split.3, ap item_keys split.4 ∙ item_keys-append split.0 split.1)

-- a leaf's
leaf_lie : (fsid : List ℕ) (at : At) (e : Expect) (bytes : List ℕ) (records : List Seen) → e.level ≡ 0 → block_fault bytes fsid e ≡ None → leaf_records at (items_of bytes) ≡ Ok records
    → Lie e.low e.high (item_keys records)
unfolding leaf_records
leaf_lie fsid at e bytes records level kept is =
    let size : entry_size e.level ≡ 25 = ap entry_size level in
    let keys : Lie e.low e.high (each_from (entry_key bytes (entry_size e.level)) 0 (count_of bytes)) = block_keys bytes fsid e kept in
    let same : each_from (entry_key bytes (entry_size e.level)) 0 (count_of bytes) ≡ item_keys records =
    ap (λ s. each_from (entry_key bytes s) 0 (count_of bytes)) size ∙ sym (item_keys_of bytes) ∙ sym (leaf_keys at (items_of bytes) records is) in
    subst (Lie e.low e.high) same keys

append_nil : (x : List Key) → x ++ [] ≡ x
append_nil [] = refl
append_nil (k ∷ ks) = ap (λ more. k ∷ more) (append_nil ks)

-- what the walk below each pointer of a level gives
abbrev IsLevel : Super → Stored → ℕ → Type 0
IsLevel sup stored level = (e : Expect) (records : List Seen) → e.level ≡ level → block_and (below level sup stored) sup stored e ≡ Ok records → Lie e.low e.high (item_keys records)

children_lie : (sup : Super) (stored : Stored) (level : ℕ) (e : Expect) → IsLevel sup stored level → (first : Pointer) (others : List Pointer) (records : List Seen)
    → Ascend (map (λ pointer. pointer.key) (first ∷ others)) → AllBelow e.high (map (λ pointer. pointer.key) (first ∷ others))
    → each (block_and (below level sup stored) sup stored) (children_of level e (first ∷ others)) ≡ Ok records → Lie (Some first.key) e.high (item_keys records)
children_lie sup stored level e down first [] records ascend upto is =
    let split = then_ok (block_and (below level sup stored) sup stored (child_of level e first e.high)) (Ok []) records is in
    let own : Lie (Some first.key) e.high (item_keys split.0) = down (child_of level e first e.high) split.0 refl split.2 in
    let none : split.1 ≡ [] = no_records (Ok []) split.1 refl split.3 in
    let same : item_keys split.0 ≡ item_keys records = sym (append_nil (item_keys split.0)) ∙ sym (item_keys-append split.0 []) ∙ sym (ap (λ b. item_keys (split.0 ++ b)) none) ∙ sym (ap item_keys split.4) in
    subst (Lie (Some first.key) e.high) same own
children_lie sup stored level e down first (next ∷ others) records ascend upto is =
    let split = then_ok (block_and (below level sup stored) sup stored (child_of level e first (Some next.key))) (each (block_and (below level sup stored) sup stored) (children_of level e (next ∷ others))) records is in
    let own : Lie (Some first.key) (Some next.key) (item_keys split.0) = down (child_of level e first (Some next.key)) split.0 refl split.2 in
    let rest : Lie (Some next.key) e.high (item_keys split.1) = children_lie sup stored level e down next others split.1 ascend.1 (tail_below e.high first.key (map (λ pointer. pointer.key) (next ∷ others)) upto) split.3 in
    let same : item_keys split.0 ++ item_keys split.1 ≡ item_keys records = sym (item_keys-append split.0 split.1) ∙ sym (ap item_keys split.4) in
    subst (Lie (Some first.key) e.high) same
    (lie_joined first.key next.key e.high (item_keys split.0) (item_keys split.1) ascend.0.0
    (second_below e.high first.key next.key (map (λ pointer. pointer.key) others) upto) own rest)
  where
    tail_below : (high : Option Key) (key : Key) (keys : List Key) → AllBelow high (key ∷ keys) → AllBelow high keys
    tail_below None key keys all = tt
    tail_below (Some high) key keys all = all.1

    second_below : (high : Option Key) (key other : Key) (keys : List Key) → AllBelow high (key ∷ other ∷ keys) → AllBelow high (other ∷ [])
    second_below None key other keys all = tt
    second_below (Some high) key other keys all = (all.1.0, tt)

-- a node's
node_lie : (sup : Super) (stored : Stored) (level : ℕ) (e : Expect) → IsLevel sup stored level → (pointers : List Pointer) (records : List Seen)
    → Lie e.low e.high (map (λ pointer. pointer.key) pointers)
    → each (block_and (below level sup stored) sup stored) (children_of level e pointers) ≡ Ok records → Lie e.low e.high (item_keys records)
node_lie sup stored level e down [] records keys is =
    let none : records ≡ [] = no_records (Ok []) records refl is in
    subst (λ r. Lie e.low e.high (item_keys r)) (sym none) (lie_none e.low e.high)
node_lie sup stored level e down (first ∷ others) records keys is =
    let found : Lie (Some first.key) e.high (item_keys records) = children_lie sup stored level e down first others records keys.ascend keys.upto is in
    record { ascend = found.ascend; from = from_first e.low first.key (map (λ pointer. pointer.key) others) (item_keys records) keys.from found.from; upto = found.upto }

node_size : (n level : ℕ) → n ≡ suc level → entry_size n ≡ 33
node_size n level at = grind (arith, common_steps)

-- of a block on a level
level_lie : (sup : Super) (stored : Stored) (level : ℕ) → IsLevel sup stored level
unfolding below
level_lie sup stored zero e records at is =
    let block = block_ok sup stored zero e records is in
    let own = own_keys sup e block.0 _ block.1 (leaf_has sup e block.0 at) block.4 in
    let none : block.2 ≡ [] = no_records (Ok []) block.2 refl block.5 in
    let same : item_keys own.0 ≡ item_keys records = sym own.2 ∙ sym (append_nil (item_keys block.1)) ∙ sym (ap (λ b. item_keys block.1 ++ item_keys b) none) ∙ sym block.6 in
    subst (Lie e.low e.high) same
    (leaf_lie sup.fsid (item_place sup e.tree e.address e.generation) e block.0 own.0 at (read_sound stored sup.fsid e block.0 block.3) own.1)
level_lie sup stored (suc level) e records at is =
    let block = block_ok sup stored (suc level) e records is in
    let bytes : List ℕ = block.0 in
    let own = own_keys sup e bytes _ block.1 (node_has sup level e bytes at) block.4 in
    let pointers : own.0 ≡ pointer_records e (pointers_of bytes) = cc (own.1) in
    let keyless : item_keys block.1 ≡ [] = own.2 ∙ ap item_keys pointers ∙ pointers_keyless e (pointers_of bytes) in
    let whole : item_keys block.2 ≡ item_keys records = sym (ap (λ ks. ks ++ item_keys block.2) keyless) ∙ sym block.6 in
    let size : entry_size e.level ≡ 33 = node_size e.level level at in
    let keys : Lie e.low e.high (each_from (entry_key bytes (entry_size e.level)) 0 (count_of bytes)) = block_keys bytes sup.fsid e (read_sound stored sup.fsid e bytes block.3) in
    let same : each_from (entry_key bytes (entry_size e.level)) 0 (count_of bytes) ≡ map (λ pointer. pointer.key) (pointers_of bytes) =
    ap (λ s. each_from (entry_key bytes s) 0 (count_of bytes)) size ∙ sym (pointer_keys_of bytes) in
    subst (Lie e.low e.high) whole (node_lie sup stored level e (level_lie sup stored level) (pointers_of bytes) block.2 (subst (Lie e.low e.high) same keys) block.5)

-- the keys of the items that a walk gives ascend
pub walk_ascends : WalksAscend
walk_ascends sup stored e records is = (level_lie sup stored e.level e records refl is).ascend
