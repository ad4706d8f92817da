-- What the reader finds at the entries of a made block, and at the bytes of its items.
use Rattle.std.proofs.Common.{◌≡◌, ℕ, zero, suc, ◌+◌, ◌-◌, ◌*◌, ◌^◌, ◌<◌, ◌≤◌, List, [], ◌∷◌, ◌++◌, length, get_or, take, drop, refl, sym, ap, ◌∙◌, arith}
use Rattle.std.proofs.lemmas.List.{append_assoc, drop_at, drop-drop, take_at, length-append}
use Rattle.recon_bytes.specs.Field.{field}
use Rattle.verdict.specs.Image.{range}
use Rattle.verdict.specs.OnDisk.{key_of}
use Rattle.verdict.specs.declared.key.Key.{Key}
use Rattle.image_maker.specs.Numbers.{u8, u32, u64}
use Rattle.image_maker.specs.Leaf.{space_of}
use Rattle.image_maker.specs.Sizes.{IsKey, IsPointer}
use Rattle.image_maker.specs.Blocks.{key_bytes, head_bytes, heads_bytes, data_bytes, pointer_bytes, pointers_bytes}
use Rattle.image_maker.specs.declared.leaf_item.LeafItem.{LeafItem}
use Rattle.image_maker.specs.declared.node.ChildPointer.{ChildPointer}
use Rattle.image_maker.proofs.Numbers.{behind, reads_u8, reads_u32, reads_u64, length-u8, length-u32, length-u64}

key_right : (key : Key) (rest : List ℕ) → key_bytes key ++ rest ≡ u64 key.objectid ++ (u8 key.kind ++ (u64 key.offset ++ rest))
unfolding key_bytes
key_right key rest = simp append_assoc refl

pub length-key_bytes : (key : Key) → length (key_bytes key) ≡ 17
unfolding key_bytes
length-key_bytes key = simp length-append (omega (arith, length-u64 key.objectid, length-u8 key.kind, length-u64 key.offset))

-- the key that stands next
pub reads_key : (bytes rest : List ℕ) (at : ℕ) (key : Key) → IsKey key → drop at bytes ≡ key_bytes key ++ rest → key_of bytes at ≡ key
reads_key bytes rest at key is here =
    let r9 : List ℕ = u64 key.offset ++ rest in
    let r8 : List ℕ = u8 key.kind ++ r9 in
    let at0 : drop at bytes ≡ u64 key.objectid ++ r8 = here ∙ key_right key rest in
    let at8 : drop (at + 8) bytes ≡ r8 = behind bytes (u64 key.objectid) r8 at 8 (at + 8) at0 (length-u64 key.objectid) refl in
    let at9 : drop (at + 9) bytes ≡ r9 = behind bytes (u8 key.kind) r9 (at + 8) 1 (at + 9) at8 (length-u8 key.kind) (omega arith) in
    rw (reads_u64 bytes r8 at key.objectid at0 is.objectid, reads_u8 bytes r9 (at + 8) key.kind at8, reads_u64 bytes rest (at + 9) key.offset at9 is.offset) refl

-- what the reader finds in the head of an item
pub record HeadSays (item : LeafItem) (start : ℕ) (bytes : List ℕ) (at : ℕ) : Type 0 where
  pub key : key_of bytes at ≡ item.key
  pub offset : field 4 bytes (at + 17) ≡ start
  pub size : field 4 bytes (at + 21) ≡ length item.bytes

head_right : (item : LeafItem) (offset : ℕ) (rest : List ℕ) → head_bytes item offset ++ rest ≡ key_bytes item.key ++ (u32 offset ++ (u32 (length item.bytes) ++ rest))
unfolding head_bytes
head_right item offset rest = simp append_assoc refl

length-head_bytes : (item : LeafItem) (offset : ℕ) → length (head_bytes item offset) ≡ 25
unfolding head_bytes
length-head_bytes item offset = simp length-append (omega (arith, length-key_bytes item.key, length-u32 offset, length-u32 (length item.bytes)))

pub head_says : (bytes rest : List ℕ) (at : ℕ) (item : LeafItem) (offset : ℕ) → IsKey item.key → offset < 2 ^ 32 → length item.bytes < 2 ^ 32
    → drop at bytes ≡ head_bytes item offset ++ rest → HeadSays item offset bytes at
head_says bytes rest at item offset is low small here =
    let r21 : List ℕ = u32 (length item.bytes) ++ rest in
    let r17 : List ℕ = u32 offset ++ r21 in
    let at0 : drop at bytes ≡ key_bytes item.key ++ r17 = here ∙ head_right item offset rest in
    let at17 : drop (at + 17) bytes ≡ r17 = behind bytes (key_bytes item.key) r17 at 17 (at + 17) at0 (length-key_bytes item.key) refl in
    let at21 : drop (at + 21) bytes ≡ r21 = behind bytes (u32 offset) r21 (at + 17) 4 (at + 21) at17 (length-u32 offset) (omega arith) in
    record {
      key = reads_key bytes r17 at item.key is at0;
      offset = reads_u32 bytes r21 (at + 17) offset at17 low;
      size = reads_u32 bytes rest (at + 21) (length item.bytes) at21 small;
    }

-- where the bytes of the item at a place begin, if the first item's end at an offset
abbrev pub start_of : ℕ → List LeafItem → ℕ → ℕ
start_of end [] place = end
start_of end (item ∷ items) zero = end - length item.bytes
start_of end (item ∷ items) (suc place) = start_of (end - length item.bytes) items place

heads_first : (end : ℕ) (item : LeafItem) (items : List LeafItem) (rest : List ℕ) →
    heads_bytes end (item ∷ items) ++ rest ≡ head_bytes item (end - length item.bytes) ++ (heads_bytes (end - length item.bytes) items ++ rest)
unfolding heads_bytes
heads_first end item items rest = append_assoc (head_bytes item (end - length item.bytes)) (heads_bytes (end - length item.bytes) items) rest

-- the head at a place
pub heads_at : (rest : List ℕ) (items : List LeafItem) (end place : ℕ) (d : LeafItem) → place < length items →
    (behind : List ℕ) × (drop (25 * place) (heads_bytes end items ++ rest) ≡ head_bytes (get_or items place d) (start_of end items place) ++ behind)
heads_at rest [] end place d inside = absurd (omega arith)
heads_at rest (item ∷ items) end zero d inside =
    (heads_bytes (end - length item.bytes) items ++ rest, heads_first end item items rest)
heads_at rest (item ∷ items) end (suc place) d inside =
    let start : ℕ = end - length item.bytes in
    let later = heads_at rest items start place d (omega arith) in
    let step : 25 * suc place ≡ 25 + 25 * place = omega arith in
    let whole : List ℕ = heads_bytes end (item ∷ items) ++ rest in
    let past : drop 25 whole ≡ heads_bytes start items ++ rest =
    ap (drop 25) (heads_first end item items rest) ∙ drop_at (head_bytes item start) (heads_bytes start items ++ rest) 25 (length-head_bytes item start) in
    (later.0, ap (λ n. drop n whole) step ∙ sym (drop-drop (25 * place) 25 whole) ∙ ap (drop (25 * place)) past ∙ later.1)

-- each item ends where the one before begins
pub start_first : (items : List LeafItem) (end : ℕ) (d : LeafItem) → space_of items ≤ end → 0 < length items →
    start_of end items 0 + length (get_or items 0 d).bytes ≡ end
start_first [] end d fits some = absurd (omega arith)
start_first (item ∷ items) end d fits some = omega arith

pub start_next : (items : List LeafItem) (end place : ℕ) (d : LeafItem) → space_of items ≤ end → suc place < length items →
    start_of end items (suc place) + length (get_or items (suc place) d).bytes ≡ start_of end items place
start_next [] end place d fits inside = absurd (omega arith)
start_next (item ∷ items) end zero d fits inside = start_first items (end - length item.bytes) d (omega arith) (omega arith)
start_next (item ∷ items) end (suc place) d fits inside = start_next items (end - length item.bytes) place d (omega arith) (omega arith)

-- the heads take 25 bytes each of the room
pub heads_space : (items : List LeafItem) → 25 * length items ≤ space_of items
heads_space [] = omega arith
heads_space (item ∷ items) = omega (arith, heads_space items)

-- no item begins before the end of the heads
start_low : (items : List LeafItem) (end place : ℕ) → space_of items ≤ end → place < length items →
    25 * length items + end ≤ start_of end items place + space_of items
start_low [] end place fits inside = absurd (omega arith)
start_low (item ∷ items) end zero fits inside = omega (arith, heads_space items)
start_low (item ∷ items) end (suc place) fits inside = omega (arith, start_low items (end - length item.bytes) place (omega arith) (omega arith))

pub start_floor : (items : List LeafItem) (end place : ℕ) → space_of items ≤ end → place < length items → 25 * length items ≤ start_of end items place
start_floor items end place fits inside = omega (arith, start_low items end place fits inside)

pub start_ceiling : (items : List LeafItem) (end place : ℕ) → start_of end items place ≤ end
start_ceiling [] end place = omega arith
start_ceiling (item ∷ items) end zero = omega arith
start_ceiling (item ∷ items) end (suc place) = omega (arith, start_ceiling items (end - length item.bytes) place)

pub length-heads : (items : List LeafItem) (end : ℕ) → length (heads_bytes end items) ≡ 25 * length items
unfolding heads_bytes
length-heads [] end = omega arith
length-heads (item ∷ items) end =
    let start : ℕ = end - length item.bytes in
    omega (arith, length-append (head_bytes item start) (heads_bytes start items), length-head_bytes item start, length-heads items start)

pub length-data : (items : List LeafItem) → length (data_bytes items) + 25 * length items ≡ space_of items
unfolding data_bytes
length-data [] = omega arith
length-data (item ∷ items) = omega (arith, length-append (data_bytes items) item.bytes, length-data items)

data_first : (front : List ℕ) (item : LeafItem) (items : List LeafItem) (back : List ℕ) →
    front ++ (data_bytes (item ∷ items) ++ back) ≡ front ++ (data_bytes items ++ (item.bytes ++ back))
unfolding data_bytes
data_first front item items back = ap (λ b. front ++ b) (append_assoc (data_bytes items) item.bytes back)

-- the bytes of the item at a place
pub data_at : (front : List ℕ) (items : List LeafItem) (back : List ℕ) (end place : ℕ) (d : LeafItem) →
    length front + length (data_bytes items) ≡ end → place < length items →
    range (start_of end items place) (length (get_or items place d).bytes) (front ++ (data_bytes items ++ back)) ≡ (get_or items place d).bytes
data_at front [] back end place d long inside = absurd (omega arith)
data_at front (item ∷ items) back end zero d long inside =
    let before : List ℕ = front ++ data_bytes items in
    let start : length before ≡ end - length item.bytes = omega (arith, long, length-append front (data_bytes items), length-data items, length-data (item ∷ items)) in
    let whole : front ++ (data_bytes (item ∷ items) ++ back) ≡ before ++ (item.bytes ++ back) =
    data_first front item items back ∙ sym (append_assoc front (data_bytes items) (item.bytes ++ back)) in
    ap (λ b. range (end - length item.bytes) (length item.bytes) b) whole
    ∙ ap (take (length item.bytes)) (drop_at before (item.bytes ++ back) (end - length item.bytes) start)
    ∙ take_at item.bytes back (length item.bytes) refl
data_at front (item ∷ items) back end (suc place) d long inside =
    let left : length front + length (data_bytes items) ≡ end - length item.bytes = omega (arith, long, length-data items, length-data (item ∷ items)) in
    ap (λ b. range (start_of (end - length item.bytes) items place) (length (get_or items place d).bytes) b) (data_first front item items back)
    ∙ data_at front items (item.bytes ++ back) (end - length item.bytes) place d left (omega arith)

-- what the reader finds in a pointer
pub record PointerSays (p : ChildPointer) (bytes : List ℕ) (at : ℕ) : Type 0 where
  pub key : key_of bytes at ≡ p.key
  pub address : field 8 bytes (at + 17) ≡ p.address
  pub generation : field 8 bytes (at + 25) ≡ p.generation

pointer_right : (p : ChildPointer) (rest : List ℕ) → pointer_bytes p ++ rest ≡ key_bytes p.key ++ (u64 p.address ++ (u64 p.generation ++ rest))
unfolding pointer_bytes
pointer_right p rest = simp append_assoc refl

length-pointer_bytes : (p : ChildPointer) → length (pointer_bytes p) ≡ 33
unfolding pointer_bytes
length-pointer_bytes p = simp length-append (omega (arith, length-key_bytes p.key, length-u64 p.address, length-u64 p.generation))

pub pointer_says : (bytes rest : List ℕ) (at : ℕ) (p : ChildPointer) → IsPointer p → drop at bytes ≡ pointer_bytes p ++ rest → PointerSays p bytes at
pointer_says bytes rest at p is here =
    let r25 : List ℕ = u64 p.generation ++ rest in
    let r17 : List ℕ = u64 p.address ++ r25 in
    let at0 : drop at bytes ≡ key_bytes p.key ++ r17 = here ∙ pointer_right p rest in
    let at17 : drop (at + 17) bytes ≡ r17 = behind bytes (key_bytes p.key) r17 at 17 (at + 17) at0 (length-key_bytes p.key) refl in
    let at25 : drop (at + 25) bytes ≡ r25 = behind bytes (u64 p.address) r25 (at + 17) 8 (at + 25) at17 (length-u64 p.address) (omega arith) in
    record {
      key = reads_key bytes r17 at p.key is.key at0;
      address = reads_u64 bytes r25 (at + 17) p.address at17 is.address;
      generation = reads_u64 bytes rest (at + 25) p.generation at25 is.generation;
    }

pointers_first : (p : ChildPointer) (ps : List ChildPointer) (rest : List ℕ) → pointers_bytes (p ∷ ps) ++ rest ≡ pointer_bytes p ++ (pointers_bytes ps ++ rest)
unfolding pointers_bytes
pointers_first p ps rest = append_assoc (pointer_bytes p) (pointers_bytes ps) rest

-- the pointer at a place
pub pointers_at : (rest : List ℕ) (ps : List ChildPointer) (place : ℕ) (d : ChildPointer) → place < length ps →
    (behind : List ℕ) × (drop (33 * place) (pointers_bytes ps ++ rest) ≡ pointer_bytes (get_or ps place d) ++ behind)
pointers_at rest [] place d inside = absurd (omega arith)
pointers_at rest (p ∷ ps) zero d inside = (pointers_bytes ps ++ rest, pointers_first p ps rest)
pointers_at rest (p ∷ ps) (suc place) d inside =
    let later = pointers_at rest ps place d (omega arith) in
    let step : 33 * suc place ≡ 33 + 33 * place = omega arith in
    let whole : List ℕ = pointers_bytes (p ∷ ps) ++ rest in
    let past : drop 33 whole ≡ pointers_bytes ps ++ rest =
    ap (drop 33) (pointers_first p ps rest) ∙ drop_at (pointer_bytes p) (pointers_bytes ps ++ rest) 33 (length-pointer_bytes p) in
    (later.0, ap (λ n. drop n whole) step ∙ sym (drop-drop (33 * place) 33 whole) ∙ ap (drop (33 * place)) past ∙ later.1)

pub length-pointers : (ps : List ChildPointer) → length (pointers_bytes ps) ≡ 33 * length ps
unfolding pointers_bytes
length-pointers [] = omega arith
length-pointers (p ∷ ps) = omega (arith, length-append (pointer_bytes p) (pointers_bytes ps), length-pointer_bytes p, length-pointers ps)
