-- The parts of a block, appended one after another.
use Rattle.std.proofs.Common.{◌≡◌, ℕ, ◌+◌, ◌-◌, ◌<◌, ◌≤◌, List, ◌++◌, length, get_or, drop, sym, ap, ◌∙◌}
use Rattle.std.proofs.lemmas.List.{append-nil, append_assoc, drop_more, drop_all}
use Rattle.verdict.specs.declared.key.Key.{Key}
use Rattle.image_maker.specs.Numbers.{u8, u32, u64}
use Rattle.image_maker.specs.Blocks.{key_bytes, head_bytes, heads_bytes, data_bytes, pointer_bytes, pointers_bytes}
use Rattle.image_maker.specs.declared.leaf_item.LeafItem.{LeafItem}
use Rattle.image_maker.specs.declared.node.ChildPointer.{ChildPointer}
use Rattle.image_maker.specs.Ids.{device_uuid}
use Rattle.image_maker.specs.Items.{stripe_bytes}
use Rattle.image_maker.proofs.Numbers.{three_joined}

pub key_joined : (s : List ℕ) (key : Key) → s ++ u64 key.objectid ++ u8 key.kind ++ u64 key.offset ≡ s ++ key_bytes key
unfolding key_bytes
key_joined s key = three_joined s (u64 key.objectid) (u8 key.kind) (u64 key.offset)

pub head_joined : (s : List ℕ) (item : LeafItem) (offset : ℕ) → s ++ key_bytes item.key ++ u32 offset ++ u32 (length item.bytes) ≡ s ++ head_bytes item offset
unfolding head_bytes
head_joined s item offset = three_joined s (key_bytes item.key) (u32 offset) (u32 (length item.bytes))

pub pointer_joined : (s : List ℕ) (p : ChildPointer) → s ++ key_bytes p.key ++ u64 p.address ++ u64 p.generation ≡ s ++ pointer_bytes p
unfolding pointer_bytes
pointer_joined s p = three_joined s (key_bytes p.key) (u64 p.address) (u64 p.generation)

-- the heads of what is left are the next head and those of what is left behind it
pub heads_left : (s : List ℕ) (end : ℕ) (items : List LeafItem) (i : ℕ) (d : LeafItem) → i < length items →
    s ++ heads_bytes end (drop i items)
    ≡ s ++ head_bytes (get_or items i d) (end - length (get_or items i d).bytes) ++ heads_bytes (end - length (get_or items i d).bytes) (drop (i + 1) items)
unfolding heads_bytes
heads_left s end items i d inside =
    ap (λ left. s ++ heads_bytes end left) (drop_more items i d inside)
    ∙ sym (append_assoc s (head_bytes (get_or items i d) (end - length (get_or items i d).bytes)) (heads_bytes (end - length (get_or items i d).bytes) (drop (i + 1) items)))

pub heads_none : (s : List ℕ) (end : ℕ) (items : List LeafItem) (i : ℕ) → length items ≤ i → s ++ heads_bytes end (drop i items) ≡ s
unfolding heads_bytes
heads_none s end items i past = ap (λ left. s ++ heads_bytes end left) (drop_all i items past) ∙ append-nil s

pub pointers_left : (s : List ℕ) (ps : List ChildPointer) (i : ℕ) (d : ChildPointer) → i < length ps →
    s ++ pointers_bytes (drop i ps) ≡ s ++ pointer_bytes (get_or ps i d) ++ pointers_bytes (drop (i + 1) ps)
unfolding pointers_bytes
pointers_left s ps i d inside =
    ap (λ left. s ++ pointers_bytes left) (drop_more ps i d inside)
    ∙ sym (append_assoc s (pointer_bytes (get_or ps i d)) (pointers_bytes (drop (i + 1) ps)))

pub pointers_none : (s : List ℕ) (ps : List ChildPointer) (i : ℕ) → length ps ≤ i → s ++ pointers_bytes (drop i ps) ≡ s
unfolding pointers_bytes
pointers_none s ps i past = ap (λ left. s ++ pointers_bytes left) (drop_all i ps past) ∙ append-nil s

-- the bytes of one item more in front come behind
pub data_more : (s : List ℕ) (items : List LeafItem) (i : ℕ) (d : LeafItem) → i < length items →
    s ++ data_bytes (drop i items) ≡ s ++ data_bytes (drop (i + 1) items) ++ (get_or items i d).bytes
unfolding data_bytes
data_more s items i d inside =
    ap (λ left. s ++ data_bytes left) (drop_more items i d inside)
    ∙ sym (append_assoc s (data_bytes (drop (i + 1) items)) (get_or items i d).bytes)

pub data_none : (s : List ℕ) (items : List LeafItem) (i : ℕ) → length items ≤ i → s ++ data_bytes (drop i items) ≡ s
unfolding data_bytes
data_none s items i past = ap (λ left. s ++ data_bytes left) (drop_all i items past) ∙ append-nil s

pub stripe_joined : (s : List ℕ) (physical : ℕ) → s ++ u64 1 ++ u64 physical ++ device_uuid ≡ s ++ stripe_bytes physical
unfolding stripe_bytes
stripe_joined s physical = three_joined s (u64 1) (u64 physical) device_uuid
