-- A made block is accepted, and holds what it was made of.
use Rattle.std.proofs.Common.{◌≡◌, ℕ, zero, suc, ◌+◌, ◌-◌, ◌*◌, ◌^◌, ◌<◌, ◌≤◌, List, [], ◌∷◌, ◌++◌, length, get_or, take, drop, map, true, false, not, refl, sym, ap, ◌∙◌, subst, arith}
use Rattle.std.proofs.lemmas.List.{append_assoc, append-nil, drop-drop, length-append, length-map, get_or-map, same_lists}
use Rattle.std.proofs.lemmas.Nat.{le-div}
use Rattle.std.specs.Prelude.{Option, Some, None, is_some, ◌==◌, ◌||◌}
use Rattle.verdict.proofs.Truth.{or_none}
use Rattle.verdict.proofs.Numbers.{not_differs, not_below}
use Rattle.verdict.specs.Image.{range}
use Rattle.verdict.specs.Rules.{first_failing, no_key}
use Rattle.verdict.specs.declared.key.Key.{Key}
use Rattle.node_reader.specs.Places.{least_from, each_from}
use Rattle.node_reader.specs.Layout.{count_of, entry_size, item_of, item_offset, item_size}
use Rattle.node_reader.specs.Faults.{header_rules, count_rules, key_rules, body_rules, block_fault, room_of, needs_entry, misplaced_at, end_before}
use Rattle.node_reader.specs.declared.expect.Expect.{Expect}
use Rattle.node_reader.proofs.Steps.{misplaced_is}
use Rattle.node_reader.proofs.BlockLaws.{length_each, get_each}
use Rattle.image_maker.specs.Numbers.{zeros}
use Rattle.image_maker.specs.Leaf.{space_of}
use Rattle.image_maker.specs.Sizes.{HaveKeys, no_item}
use Rattle.image_maker.specs.Blocks.{header_bytes, heads_bytes, data_bytes, leaf_bytes, with_sum}
use Rattle.image_maker.specs.Accepted.{expect_of, IsBetween, IsLeafOf, item_keys, read_item}
use Rattle.image_maker.specs.declared.block.BlockHeader.{BlockHeader}
use Rattle.image_maker.specs.declared.leaf_item.LeafItem.{LeafItem}
use Rattle.image_maker.proofs.Numbers.{length-zeros, three_joined}
use Rattle.image_maker.proofs.Header.{IsHeader, HeaderSays, header_says, length_sum, length-header}
use Rattle.image_maker.proofs.Entries.{HeadSays, head_says, heads_at, start_of, start_first, start_next, start_floor, start_ceiling, heads_space, length-heads, length-data, data_at}
use Rattle.image_maker.proofs.Accept.{clear, both_clear, header_clear, count_clear, key_clear, none_at_all}

item_small : (items : List LeafItem) (place : ℕ) → length (get_or items place no_item).bytes ≤ space_of items
item_small [] place = omega arith
item_small (item ∷ items) zero = omega arith
item_small (item ∷ items) (suc place) = omega (arith, item_small items place)

-- a block whose header and entries are as the reader finds those of a leaf
pub record LeafSays (h : BlockHeader) (size : ℕ) (items : List LeafItem) (bytes : List ℕ) : Type 0 where
  pub header : HeaderSays h (length items) (heads_bytes (size - 101) items ++ (zeros (size - 101 - space_of items) ++ data_bytes items)) bytes
  pub long : length bytes ≡ size
  pub leaf : h.level ≡ 0
  pub small : size < 2 ^ 32
  pub fits : 101 + space_of items ≤ size
  pub keys : HaveKeys items

head_found : (h : BlockHeader) (size : ℕ) (items : List LeafItem) (bytes : List ℕ) → LeafSays h size items bytes → (place : ℕ) → place < length items →
    HeadSays (get_or items place no_item) (start_of (size - 101) items place) bytes (101 + 25 * place)
head_found h size items bytes says place inside =
    let rest : List ℕ = zeros (size - 101 - space_of items) ++ data_bytes items in
    let here = heads_at rest items (size - 101) place no_item inside in
    let low : start_of (size - 101) items place < 2 ^ 32 = omega (arith, start_ceiling items (size - 101) place, says.small) in
    let small : length (get_or items place no_item).bytes < 2 ^ 32 = omega (arith, item_small items place, says.small, says.fits) in
    head_says bytes here.0 (101 + 25 * place) (get_or items place no_item) (start_of (size - 101) items place) (says.keys.each place inside) low small
    (sym (drop-drop (25 * place) 101 bytes) ∙ ap (drop (25 * place)) says.header.body ∙ here.1)

in_place : (bytes : List ℕ) (count place : ℕ) → item_offset bytes place + item_size bytes place ≡ end_before bytes place → 25 * count ≤ item_offset bytes place →
    misplaced_at bytes count place ≡ false
in_place bytes count place ends low =
    misplaced_is bytes count place ∙ or_none _ _ (not_differs (item_offset bytes place + item_size bytes place) (end_before bytes place) ends) (not_below (item_offset bytes place) (25 * count) low)

placed : (h : BlockHeader) (size : ℕ) (items : List LeafItem) (bytes : List ℕ) → LeafSays h size items bytes → (place : ℕ) → place < length items →
    misplaced_at bytes (count_of bytes) place ≡ false
placed h size items bytes says zero inside =
    let head = head_found h size items bytes says zero inside in
    let room : space_of items ≤ size - 101 = omega (arith, says.fits) in
    in_place bytes (count_of bytes) zero
    (omega (arith, head.offset, head.size, says.long, start_first items (size - 101) no_item room inside))
    (omega (arith, says.header.count, head.offset, start_floor items (size - 101) zero room inside))
placed h size items bytes says (suc place) inside =
    let head = head_found h size items bytes says (suc place) inside in
    let before = head_found h size items bytes says place (omega arith) in
    let room : space_of items ≤ size - 101 = omega (arith, says.fits) in
    in_place bytes (count_of bytes) (suc place)
    (omega (arith, head.offset, head.size, before.offset, start_next items (size - 101) place no_item room inside))
    (omega (arith, says.header.count, head.offset, start_floor items (size - 101) (suc place) room inside))

leaf_body_clear : (h : BlockHeader) (low high : Option Key) (parent : ℕ) (bytes : List ℕ) → h.level ≡ 0 → least_from (misplaced_at bytes (count_of bytes)) 0 (count_of bytes) ≡ None →
    first_failing (body_rules bytes (expect_of h low high parent)) ≡ None
unfolding body_rules
leaf_body_clear h low high parent bytes leaf none =
    clear (body_rules bytes (expect_of h low high parent)) (rw leaf refl, (rw (leaf, none) refl, tt))

pub rules_clear : (h : BlockHeader) (low high : Option Key) (parent : ℕ) (bytes : List ℕ) →
    first_failing (header_rules bytes h.fsid (expect_of h low high parent)) ≡ None → first_failing (count_rules bytes (expect_of h low high parent)) ≡ None →
    first_failing (key_rules bytes (expect_of h low high parent)) ≡ None → first_failing (body_rules bytes (expect_of h low high parent)) ≡ None →
    block_fault bytes h.fsid (expect_of h low high parent) ≡ None
unfolding block_fault
rules_clear h low high parent bytes header count keys body =
    let e : Expect = expect_of h low high parent in
    both_clear (header_rules bytes h.fsid e) (count_rules bytes e ++ (key_rules bytes e ++ body_rules bytes e)) header
    (both_clear (count_rules bytes e) (key_rules bytes e ++ body_rules bytes e) count (both_clear (key_rules bytes e) (body_rules bytes e) keys body))

leaf_size : (level : ℕ) → level ≡ 0 → entry_size level ≡ 25
leaf_size level leaf = rw leaf refl

leaf_needs_is : (level : ℕ) (low : Option Key) → level ≡ 0 → (not (level == 0) || is_some low) ≡ is_some low
leaf_needs_is level low leaf = rw leaf refl

leaf_needs : (h : BlockHeader) (low high : Option Key) (parent : ℕ) (items : List LeafItem) → h.level ≡ 0 → IsBetween low high (item_keys items) → needs_entry (expect_of h low high parent) ≡ true → 0 < length items
leaf_needs h None high parent items leaf between needs =
    let none : false ≡ true = sym (leaf_needs_is h.level None leaf) ∙ needs in
    cc
leaf_needs h (Some low) high parent items leaf between needs = omega (arith, between.first.0, length-map items (λ (i : LeafItem). i.key))

item_read : (h : BlockHeader) (size : ℕ) (items : List LeafItem) (bytes : List ℕ) → LeafSays h size items bytes → (place : ℕ) → place < length items →
    item_of bytes place ≡ read_item (get_or items place no_item)
item_read h size items bytes says place inside =
    let head = head_found h size items bytes says place inside in
    let front : List ℕ = heads_bytes (size - 101) items ++ zeros (size - 101 - space_of items) in
    let body : List ℕ = heads_bytes (size - 101) items ++ (zeros (size - 101 - space_of items) ++ data_bytes items) in
    let gap : length front ≡ 25 * length items + (size - 101 - space_of items) =
    omega (arith, length-append (heads_bytes (size - 101) items) (zeros (size - 101 - space_of items)), length-heads items (size - 101), length-zeros (size - 101 - space_of items)) in
    let long : length front + length (data_bytes items) ≡ size - 101 = omega (arith, gap, length-data items, says.fits) in
    let same : body ≡ front ++ (data_bytes items ++ []) =
    sym (append_assoc (heads_bytes (size - 101) items) (zeros (size - 101 - space_of items)) (data_bytes items)) ∙ ap (λ b. front ++ b) (sym (append-nil (data_bytes items))) in
    let found : range (101 + start_of (size - 101) items place) (length (get_or items place no_item).bytes) bytes ≡ (get_or items place no_item).bytes =
    ap (take (length (get_or items place no_item).bytes)) (sym (drop-drop (start_of (size - 101) items place) 101 bytes) ∙ ap (drop (start_of (size - 101) items place)) (says.header.body ∙ same))
    ∙ data_at front items [] (size - 101) place no_item long inside in
    rw (head.key, head.offset, head.size, found) refl

leaf_room : (h : BlockHeader) (size : ℕ) (items : List LeafItem) (bytes : List ℕ) → LeafSays h size items bytes → count_of bytes ≤ room_of bytes h.level
leaf_room h size items bytes says =
    rw (leaf_size h.level says.leaf, says.long) (le-div (count_of bytes) (size - 101) 25 (omega arith) (omega (arith, says.header.count, heads_space items, says.fits)))

pub leaf_reads : (h : BlockHeader) (size : ℕ) (items : List LeafItem) (bytes : List ℕ) → LeafSays h size items bytes → IsLeafOf h items bytes
leaf_reads h size items bytes says =
    let keys_long : count_of bytes ≡ length (item_keys items) = says.header.count ∙ sym (length-map items (λ i. i.key)) in
    record {
      accepted = λ low high parent between.
          rules_clear h low high parent bytes
          (header_clear h low high parent (length items) _ bytes says.header)
          (count_clear bytes (expect_of h low high parent) (leaf_room h size items bytes says) (λ needs. omega (arith, says.header.count, leaf_needs h low high parent items says.leaf between needs)))
          (key_clear h low high parent (item_keys items) bytes between keys_long (λ place inside.
          let within : place < length items = omega (arith, inside, length-map items (λ (i : LeafItem). i.key)) in
          rw (leaf_size h.level says.leaf) ((head_found h size items bytes says place within).key ∙ sym (get_or-map (λ (i : LeafItem). i.key) items place no_item no_key within))))
          (leaf_body_clear h low high parent bytes says.leaf (none_at_all (misplaced_at bytes (count_of bytes)) 0 (count_of bytes) (λ place above below. placed h size items bytes says place (omega (arith, says.header.count)))));
      holds = same_lists (each_from (item_of bytes) 0 (count_of bytes)) (map read_item items)
          (length_each (item_of bytes) 0 (count_of bytes) ∙ says.header.count ∙ sym (length-map items read_item))
          (λ place d inside.
          let within : place < length items = omega (arith, inside, length_each (item_of bytes) 0 (count_of bytes), says.header.count) in
          let start : 0 + place ≡ place = omega arith in
          get_each (item_of bytes) place 0 (count_of bytes) d (omega (arith, says.header.count))
          ∙ ap (item_of bytes) start
          ∙ item_read h size items bytes says place within
          ∙ sym (get_or-map read_item items place no_item d within));
    }

pub leaf_long : (h : BlockHeader) (size : ℕ) (items : List LeafItem) → IsHeader h → 101 + space_of items ≤ size → length (leaf_bytes h size items) ≡ size
unfolding leaf_bytes
leaf_long h size items is fits =
    let header : List ℕ = header_bytes h (length items) in
    let heads : List ℕ = heads_bytes (size - 101) items in
    let gap : List ℕ = zeros (size - 101 - space_of items) in
    omega (arith, length_sum (header ++ heads ++ gap ++ data_bytes items), length-append (header ++ heads ++ gap) (data_bytes items), length-append (header ++ heads) gap, length-append header heads, length-header h (length items) is, length-heads items (size - 101), length-zeros (size - 101 - space_of items), length-data items, fits)

whole_long : (h : BlockHeader) (size : ℕ) (items : List LeafItem) → IsHeader h → 101 + space_of items ≤ size →
    length (with_sum (header_bytes h (length items) ++ heads_bytes (size - 101) items ++ zeros (size - 101 - space_of items) ++ data_bytes items)) ≡ size
unfolding leaf_bytes
whole_long h size items is fits = leaf_long h size items is fits

pub leaf_is : (h : BlockHeader) (size : ℕ) (items : List LeafItem) → IsHeader h → h.level ≡ 0 → size < 2 ^ 32 → 101 + space_of items ≤ size →
    HaveKeys items → IsLeafOf h items (leaf_bytes h size items)
unfolding leaf_bytes
leaf_is h size items is leaf small fits keys =
    let heads : List ℕ = heads_bytes (size - 101) items in
    let gap : List ℕ = zeros (size - 101 - space_of items) in
    let tail : List ℕ = data_bytes items in
    let header : List ℕ = header_bytes h (length items) in
    let body : List ℕ = heads ++ (gap ++ tail) in
    let same : header ++ body ≡ header ++ heads ++ gap ++ tail = sym (three_joined header heads gap tail ∙ ap (λ b. header ++ b) (append_assoc heads gap tail)) in
    let long : length (with_sum (header ++ body)) ≡ size = ap (λ b. length (with_sum b)) same ∙ whole_long h size items is fits in
    let says : LeafSays h size items (with_sum (header ++ body)) = record {
      header = header_says h (length items) body is (omega (arith, heads_space items, fits, small));
      long = long;
      leaf = leaf;
      small = small;
      fits = fits;
      keys = keys;
    } in
    subst (λ b. IsLeafOf h items (with_sum b)) same (leaf_reads h size items (with_sum (header ++ body)) says)
