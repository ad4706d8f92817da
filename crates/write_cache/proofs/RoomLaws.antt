-- The bytes of a run, which stand behind the room in its buffer.
use Rattle.std.proofs.Common.{◌≡◌, ℕ, ◌+◌, ◌-◌, ◌≤◌, List, ◌++◌, length, take, drop, sym, ap, ◌∙◌, arith, length-take, length-drop, append_assoc}
use Rattle.std.proofs.lemmas.List.{take_all, drop-take, drop-drop, drop-append-le}
use Rattle.std.proofs.Math.Seq.{take-append_seam, drop-append-add}
use Rattle.verdict.specs.Image.{written}
use Rattle.verdict.proofs.Images.{length-written, written_inside, range-written, drop-written}

-- a buffer whose slice was written
in_buffer : (out items : List ℕ) (len : ℕ) → length out ≡ len → take len (out ++ drop (length out) items) ≡ out
in_buffer out items len size = ap (λ n. take n (out ++ drop (length out) items)) (sym size) ∙ take-append_seam out (drop (length out) items)

-- what stands behind the room, without its first bytes
rest_of : (items base : List ℕ) (start n at : ℕ) → base ≡ drop start items → at ≡ start + n → drop at items ≡ drop n base
rest_of items base start n at is place = ap (λ k. drop k items) place ∙ sym (drop-drop n start items) ∙ ap (drop n) (sym is)

-- bytes, and more behind them, in the place of those from a place on
pub ended : (items room cut first out base bytes more : List ℕ) (start from : ℕ) → start ≤ length items → base ≡ drop start items → from ≤ length base → room ≡ items → cut ≡ take (start + from) room → first ≡ cut ++ bytes → out ≡ first ++ more → drop start out ≡ take from base ++ (bytes ++ more)
ended items room cut first out base bytes more start from inside is place same cuts begins ends =
    let size : length base ≡ length items - start = ap length is ∙ length-drop start items in
    let front : cut ≡ take (start + from) items = cuts ∙ ap (take (start + from)) same in
    let long : length cut ≡ start + from = omega (arith, ap length front ∙ length-take (start + from) items) in
    let whole : out ≡ cut ++ (bytes ++ more) = ends ∙ ap (λ a. a ++ more) begins ∙ append_assoc cut bytes more in
    ap (drop start) whole ∙ drop-append-le start cut (bytes ++ more) (omega arith)
    ∙ ap (λ a. drop start a ++ (bytes ++ more)) front
    ∙ ap (λ a. a ++ (bytes ++ more)) (drop-take start from items ∙ ap (take from) (sym is))

-- bytes over those from a place on
pub laid_in : (items into out base bytes : List ℕ) (start from len : ℕ) → start ≤ length items → base ≡ drop start items → from + length bytes ≤ length base → len ≡ length items → into ≡ items → out ≡ written into (start + from) bytes → drop start (take len (out ++ drop (length out) items)) ≡ take from base ++ (bytes ++ drop (from + length bytes) base)
laid_in items into out base bytes start from len inside is fits sized same writes =
    let size : length base ≡ length items - start = ap length is ∙ length-drop start items in
    let out_is : out ≡ written items (start + from) bytes = writes ∙ ap (λ a. written a (start + from) bytes) same in
    let long : length out ≡ len = ap length out_is ∙ length-written items bytes (start + from) (omega arith) ∙ sym sized in
    let front : length (take (start + from) items) ≡ start + from = omega (arith, length-take (start + from) items) in
    ap (drop start) (in_buffer out items len long ∙ out_is ∙ written_inside items bytes (start + from) (omega arith)
    ∙ append_assoc (take (start + from) items) bytes (drop (start + from + length bytes) items))
    ∙ drop-append-le start (take (start + from) items) (bytes ++ drop (start + from + length bytes) items) (omega arith)
    ∙ ap (λ a. a ++ (bytes ++ drop (start + from + length bytes) items)) (drop-take start from items ∙ ap (take from) (sym is))
    ∙ ap (λ a. take from base ++ (bytes ++ a)) (rest_of items base start (from + length bytes) (start + from + length bytes) is (omega arith))

-- bytes, and more behind them, in the room and over the first bytes
pub begun : (items into out into_too out_too base bytes more : List ℕ) (start skip at len : ℕ) → start ≤ length items → base ≡ drop start items → skip ≤ length base → at + (length bytes + length more) ≡ start + skip → len ≡ length items → into ≡ items → out ≡ written into at bytes → into_too ≡ take len (out ++ drop (length out) items) → out_too ≡ written into_too (at + length bytes) more → drop at (take len (out_too ++ drop (length out_too) (take len (out ++ drop (length out) items)))) ≡ bytes ++ (more ++ drop skip base)
begun items into out into_too out_too base bytes more start skip at len inside is place ends sized same writes same_too writes_too =
    let size : length base ≡ length items - start = ap length is ∙ length-drop start items in
    let out_is : out ≡ written items at bytes = writes ∙ ap (λ a. written a at bytes) same in
    let long : length out ≡ length items = ap length out_is ∙ length-written items bytes at (omega arith) in
    let buffer : take len (out ++ drop (length out) items) ≡ out = in_buffer out items len (long ∙ sym sized) in
    let too_is : out_too ≡ written out (at + length bytes) more = writes_too ∙ ap (λ a. written a (at + length bytes) more) (same_too ∙ buffer) in
    let long_too : length out_too ≡ len = ap length too_is ∙ length-written out more (at + length bytes) (omega arith) ∙ long ∙ sym sized in
    let front : length (take (at + length bytes) out) ≡ at + length bytes = omega (arith, length-take (at + length bytes) out) in
    let behind : drop (at + length bytes + length more) out ≡ drop skip base =
    ap (drop (at + length bytes + length more)) out_is ∙ drop-written items bytes at (at + length bytes + length more) (omega arith) (omega arith)
    ∙ rest_of items base start skip (at + length bytes + length more) is (omega arith) in
    ap (drop at) (in_buffer out_too (take len (out ++ drop (length out) items)) len long_too ∙ too_is
    ∙ written_inside out more (at + length bytes) (omega arith)
    ∙ append_assoc (take (at + length bytes) out) more (drop (at + length bytes + length more) out))
    ∙ drop-append-le at (take (at + length bytes) out) (more ++ drop (at + length bytes + length more) out) (omega arith)
    ∙ ap (λ a. a ++ (more ++ drop (at + length bytes + length more) out)) (drop-take at (length bytes) out ∙ ap (λ a. take (length bytes) (drop at a)) out_is ∙ range-written items bytes at (omega arith))
    ∙ ap (λ a. bytes ++ (more ++ a)) behind

-- what stands between two places, copied to the end
pub copied_up : (items front back part out : List ℕ) (start end room : ℕ) → start ≤ end → end + (end - start) ≤ length items → room ≡ length items - end - (end - start) → front ≡ take end items → back ≡ drop end items → part ≡ drop start front → out ≡ written back room part → drop (length items - (end - start)) (front ++ out) ≡ take (end - start) (drop start items)
copied_up items front back part out start end room order fits is_room is_front is_back is_part writes =
    let long : length front ≡ end = omega (arith, ap length is_front ∙ length-take end items) in
    let rest : length back ≡ length items - end = ap length is_back ∙ length-drop end items in
    let size : length part ≡ end - start = omega (arith, ap length is_part ∙ length-drop start front) in
    let same : part ≡ take (end - start) (drop start items) = is_part ∙ ap (drop start) (is_front ∙ ap (λ n. take n items) (omega arith)) ∙ drop-take start (end - start) items in
    let after : length out ≡ length back = ap length writes ∙ length-written back part room (omega arith) in
    let left : length (drop room out) ≡ length part = omega (arith, length-drop room out) in
    ap (λ n. drop n (front ++ out)) (omega arith) ∙ drop-append-add front out room
    ∙ sym (take_all (length part) (drop room out) (omega arith))
    ∙ ap (λ a. take (length part) (drop room a)) writes
    ∙ range-written back part room (omega arith)
    ∙ same
