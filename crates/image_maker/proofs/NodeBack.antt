-- A made node is accepted, and holds the pointers that it was made of.
use Rattle.std.proofs.Common.{◌≡◌, ℕ, zero, suc, ◌+◌, ◌-◌, ◌*◌, ◌^◌, ◌<◌, ◌≤◌, List, [], ◌∷◌, ◌++◌, length, get_or, drop, map, false, refl, sym, ap, ◌∙◌, subst, arith}
use Rattle.std.proofs.lemmas.List.{append_assoc, drop-drop, length-append, length-map, get_or-map, same_lists}
use Rattle.std.proofs.lemmas.Nat.{le-div}
use Rattle.std.specs.Prelude.{Option, None}
use Rattle.verdict.proofs.Numbers.{not_below}
use Rattle.recon_bytes.specs.Field.{field}
use Rattle.verdict.specs.Rules.{first_failing, no_key}
use Rattle.verdict.specs.declared.key.Key.{Key}
use Rattle.node_reader.specs.Places.{least_from, each_from}
use Rattle.node_reader.specs.Layout.{count_of, entry_size, pointer_of, generation_of}
use Rattle.node_reader.specs.Faults.{body_rules, room_of, newer_at}
use Rattle.node_reader.proofs.Steps.{newer_is}
use Rattle.node_reader.proofs.BlockLaws.{length_each, get_each}
use Rattle.image_maker.specs.Numbers.{zeros}
use Rattle.image_maker.specs.Blocks.{header_bytes, pointers_bytes, node_bytes, with_sum}
use Rattle.image_maker.specs.Sizes.{ArePointers, no_pointer}
use Rattle.image_maker.specs.Accepted.{expect_of, IsNodeOf, IsNewest, pointer_keys, read_pointer}
use Rattle.image_maker.specs.declared.block.BlockHeader.{BlockHeader}
use Rattle.image_maker.specs.declared.node.ChildPointer.{ChildPointer}
use Rattle.image_maker.proofs.Numbers.{length-zeros}
use Rattle.image_maker.proofs.Header.{IsHeader, HeaderSays, header_says, length_sum, length-header}
use Rattle.image_maker.proofs.Entries.{PointerSays, pointer_says, pointers_at, length-pointers}
use Rattle.image_maker.proofs.Accept.{clear, header_clear, count_clear, key_clear, none_at_all, not_zero}
use Rattle.image_maker.proofs.ReadBack.{rules_clear}

-- a block whose header and entries are as the reader finds those of a node
pub record NodeSays (h : BlockHeader) (size : ℕ) (ps : List ChildPointer) (bytes : List ℕ) : Type 0 where
  pub header : HeaderSays h (length ps) (pointers_bytes ps ++ zeros (size - 101 - 33 * length ps)) bytes
  pub long : length bytes ≡ size
  pub fits : 101 + 33 * length ps ≤ size
  pub pointers : ArePointers ps

pointer_found : (h : BlockHeader) (size : ℕ) (ps : List ChildPointer) (bytes : List ℕ) → NodeSays h size ps bytes → (place : ℕ) → place < length ps →
    PointerSays (get_or ps place no_pointer) bytes (101 + 33 * place)
pointer_found h size ps bytes says place inside =
    let here = pointers_at (zeros (size - 101 - 33 * length ps)) ps place no_pointer inside in
    pointer_says bytes here.0 (101 + 33 * place) (get_or ps place no_pointer) (says.pointers.each place inside)
    (sym (drop-drop (33 * place) 101 bytes) ∙ ap (drop (33 * place)) says.header.body ∙ here.1)

newest_at : (generation : ℕ) (ps : List ChildPointer) (place : ℕ) → IsNewest generation ps → place < length ps → (get_or ps place no_pointer).generation ≤ generation
newest_at generation [] place newest inside = absurd (omega arith)
newest_at generation (p ∷ ps) zero newest inside = newest.0
newest_at generation (p ∷ ps) (suc place) newest inside = newest_at generation ps place newest.1 (omega arith)

old_at : (h : BlockHeader) (size : ℕ) (ps : List ChildPointer) (bytes : List ℕ) → NodeSays h size ps bytes → IsNewest h.generation ps → (place : ℕ) → place < length ps →
    newer_at bytes place ≡ false
old_at h size ps bytes says newest place inside =
    newer_is bytes place
    ∙ not_below (generation_of bytes) (field 8 bytes (101 + 33 * place + 25))
    (omega (arith, says.header.generation, (pointer_found h size ps bytes says place inside).generation, newest_at h.generation ps place newest inside))

node_size : (level : ℕ) → 0 < level → entry_size level ≡ 33
node_size level node = rw (not_zero level node) refl

node_body_clear : (h : BlockHeader) (low high : Option Key) (parent : ℕ) (bytes : List ℕ) → 0 < h.level → least_from (newer_at bytes) 0 (count_of bytes) ≡ None →
    first_failing (body_rules bytes (expect_of h low high parent)) ≡ None
unfolding body_rules
node_body_clear h low high parent bytes node none =
    clear (body_rules bytes (expect_of h low high parent)) (rw (not_zero h.level node, none) refl, (rw (not_zero h.level node) refl, tt))

node_room : (h : BlockHeader) (size : ℕ) (ps : List ChildPointer) (bytes : List ℕ) → NodeSays h size ps bytes → 0 < h.level → count_of bytes ≤ room_of bytes h.level
node_room h size ps bytes says node =
    rw (node_size h.level node, says.long) (le-div (count_of bytes) (size - 101) 33 (omega arith) (omega (arith, says.header.count, says.fits)))

pointer_read : (h : BlockHeader) (size : ℕ) (ps : List ChildPointer) (bytes : List ℕ) → NodeSays h size ps bytes → (place : ℕ) → place < length ps →
    pointer_of bytes place ≡ read_pointer (get_or ps place no_pointer)
pointer_read h size ps bytes says place inside =
    let p = pointer_found h size ps bytes says place inside in
    rw (p.key, p.address, p.generation) refl

node_reads : (h : BlockHeader) (size : ℕ) (ps : List ChildPointer) (bytes : List ℕ) → NodeSays h size ps bytes → IsNodeOf h ps bytes
node_reads h size ps bytes says =
    let keys_long : count_of bytes ≡ length (pointer_keys ps) = says.header.count ∙ sym (length-map ps (λ (p : ChildPointer). p.key)) in
    record {
      accepted = λ low high parent between node some newest.
          rules_clear h low high parent bytes
          (header_clear h low high parent (length ps) _ bytes says.header)
          (count_clear bytes (expect_of h low high parent) (node_room h size ps bytes says node) (λ needs. omega (arith, says.header.count, some)))
          (key_clear h low high parent (pointer_keys ps) bytes between keys_long (λ place inside.
          let within : place < length ps = omega (arith, inside, length-map ps (λ (p : ChildPointer). p.key)) in
          rw (node_size h.level node) ((pointer_found h size ps bytes says place within).key ∙ sym (get_or-map (λ (p : ChildPointer). p.key) ps place no_pointer no_key within))))
          (node_body_clear h low high parent bytes node (none_at_all (newer_at bytes) 0 (count_of bytes) (λ place above below. old_at h size ps bytes says newest place (omega (arith, says.header.count)))));
      holds = same_lists (each_from (pointer_of bytes) 0 (count_of bytes)) (map read_pointer ps)
          (length_each (pointer_of bytes) 0 (count_of bytes) ∙ says.header.count ∙ sym (length-map ps read_pointer))
          (λ place d inside.
          let within : place < length ps = omega (arith, inside, length_each (pointer_of bytes) 0 (count_of bytes), says.header.count) in
          let start : 0 + place ≡ place = omega arith in
          get_each (pointer_of bytes) place 0 (count_of bytes) d (omega (arith, says.header.count))
          ∙ ap (pointer_of bytes) start
          ∙ pointer_read h size ps bytes says place within
          ∙ sym (get_or-map read_pointer ps place no_pointer d within));
    }

pub node_long : (h : BlockHeader) (size : ℕ) (ps : List ChildPointer) → IsHeader h → 101 + 33 * length ps ≤ size → length (node_bytes h size ps) ≡ size
unfolding node_bytes
node_long h size ps is fits =
    let header : List ℕ = header_bytes h (length ps) in
    let gap : List ℕ = zeros (size - 101 - 33 * length ps) in
    omega (arith, length_sum (header ++ pointers_bytes ps ++ gap), length-append (header ++ pointers_bytes ps) gap, length-append header (pointers_bytes ps), length-header h (length ps) is, length-pointers ps, length-zeros (size - 101 - 33 * length ps), fits)

whole_long : (h : BlockHeader) (size : ℕ) (ps : List ChildPointer) → IsHeader h → 101 + 33 * length ps ≤ size →
    length (with_sum (header_bytes h (length ps) ++ pointers_bytes ps ++ zeros (size - 101 - 33 * length ps))) ≡ size
unfolding node_bytes
whole_long h size ps is fits = node_long h size ps is fits

pub node_is : (h : BlockHeader) (size : ℕ) (ps : List ChildPointer) → IsHeader h → size < 2 ^ 32 → 101 + 33 * length ps ≤ size → ArePointers ps → IsNodeOf h ps (node_bytes h size ps)
unfolding node_bytes
node_is h size ps is small fits sizes =
    let header : List ℕ = header_bytes h (length ps) in
    let body : List ℕ = pointers_bytes ps ++ zeros (size - 101 - 33 * length ps) in
    let same : header ++ body ≡ header ++ pointers_bytes ps ++ zeros (size - 101 - 33 * length ps) = sym (append_assoc header (pointers_bytes ps) (zeros (size - 101 - 33 * length ps))) in
    let long : length (with_sum (header ++ body)) ≡ size = ap (λ b. length (with_sum b)) same ∙ whole_long h size ps is fits in
    let says : NodeSays h size ps (with_sum (header ++ body)) = record {
      header = header_says h (length ps) body is (omega (arith, fits, small));
      long = long;
      fits = fits;
      pointers = sizes;
    } in
    subst (λ b. IsNodeOf h ps (with_sum b)) same (node_reads h size ps (with_sum (header ++ body)) says)
