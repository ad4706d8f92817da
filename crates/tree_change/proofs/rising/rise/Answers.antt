use Rattle.std.proofs.Common.{◌≡◌, ℕ, ◌+◌, ◌≤◌, ◌++◌, ◌∙◌, not, List, length, subst, sym, arith}
use Rattle.std.proofs.lemmas.Bool.{eqb-true}
use Rattle.std.specs.Prelude.{vec_len}
use Rattle.std.specs.List.{filter, filter_map}
use Rattle.live_index.specs.Table.{pairs_of}
use Rattle.live_index.specs.declared.live.Live.{Live}
use Rattle.touched_blocks.specs.Marks.{Marked, in_lives, marked_by}
use Rattle.touched_blocks.specs.declared.marks.PairPlace.{PairPlace}
use Rattle.tree_change.specs.Making.{parts_by}
use Rattle.tree_change.specs.Rising.{is_free, is_marked, risen_by, unmoved_by}
use Rattle.tree_change.proofs.RisingLoops.{left_looks, none_risen, risen_parts, same_looks}
use Rattle.tree_change.proofs.rising.rise.Goals as goal

abbrev Marks : Marked → List Live → Type 0
Marks marked lives = (tree address : ℕ) → marked tree address ≡ in_lives lives tree address

pub returns : goal.returns
returns g c =
    let pairs = pairs_of c.args.table.now in
    let marked = marked_by c.args.marks.now in
    let changed = marked_by c.in_ok-changed.changed in
    let shifted = marked_by c.in_ok-shifted.shifted in
    let places = c.in_ok-places.places.items in
    let changed_is : Marks changed c.args.parts.old_blocks.items = subst (Marks changed) c.deref.ensures.value c.in_ok-changed.ensures in (
      places,
      λ count. record {
        each = c.in_ok-places.ensures.ok;
        order = c.in_ok-places.ensures.order;
        made_is = risen_parts pairs marked changed shifted places (parts_by c.args.parts count) c.put_left.new.old_blocks.items
            c.split.new.into.items c.put_left.new.new_blocks.items c.split.new.rest.items _ changed_is
            (subst (Marks shifted) c.deref-2.ensures.value c.in_ok-shifted.ensures)
            (subst (λ (l : List Live). c.split.new.into.items ≡ c.args.parts.new_blocks.items ++ filter (is_marked marked) l) c.deref-3.ensures.value
            c.in_ok-split.ensures.marked)
            (subst (λ (l : List Live). c.split.new.rest.items ≡ c.new-rest.result.items ++ filter (λ live. not (is_marked marked live)) l)
            c.deref-3.ensures.value c.in_ok-split.ensures.others) c.new-rest.ensures.items
            (subst (λ (l : List PairPlace). c.put_left.new.old_blocks.items ≡ c.args.parts.old_blocks.items ++ filter_map (risen_by pairs changed) l)
            c.deref-4.ensures.value c.in_ok-put_left.ensures.old)
            (subst (λ (l : List PairPlace). c.put_left.new.new_blocks.items
            ≡ c.split.new.into.items ++ filter_map (unmoved_by pairs changed shifted) l) c.deref-4.ensures.value c.in_ok-put_left.ensures.new);
        looks = left_looks changed c.args.parts.old_blocks.items places c.args.steps.now c.put_left.new.steps changed_is
            (subst (λ (l : List PairPlace). c.put_left.new.steps ≤ c.args.steps.now + length (filter (is_free changed) l)) c.deref-4.ensures.value
            c.in_ok-put_left.ensures.looks);
      },
    )

-- src/rising.rt:34:9
pub returns-then-is_empty : goal.returns-then-is_empty
returns-then-is_empty g c =
    let places = c.in_ok-places.places.items in
    let zero : vec_len c.in_ok-places.places ≡ 0 = eqb-true (vec_len c.in_ok-places.places) 0 (sym c.is_empty.ensures ∙ c.if-is_empty.true) in
    let none : length places ≡ 0 = omega (arith, zero) in (
      places,
      λ count. record {
        each = c.in_ok-places.ensures.ok;
        order = c.in_ok-places.ensures.order;
        made_is = none_risen (pairs_of c.args.table.now) (marked_by c.args.marks.now) places (parts_by c.args.parts count) c.in_ok-places.ensures.ok none;
        looks = same_looks c.args.steps.now _;
      },
    )
