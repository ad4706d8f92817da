use Rattle.std.proofs.Common.{◌∙◌, arith}
use Rattle.std.proofs.lemmas.Grind.{common_steps}
use Rattle.std.proofs.lemmas.List.{take_all}
use Rattle.touched_blocks.specs.Marks.{count_of, marked_by}
use Rattle.touched_blocks.proofs.Putting.{put_all, put_few, put_more, put_start}
use Rattle.touched_blocks.proofs.marks.Marks.join.Goals as goal

pub loop-place-init : goal.loop-place-init
loop-place-init c = put_start (marked_by c.args.self.now) c.deref-place-items.result.now (count_of c.args.self.now)

pub loop-place-preserved : goal.loop-place-preserved
loop-place-preserved c =
    put_more (marked_by c.args.self.now) (marked_by c.loop-place.self) (marked_by c.put.new.self) c.deref-place-items.result.now c.loop-place.place-index _
    (count_of c.args.self.now) (count_of c.loop-place.self) (count_of c.put.new.self) c.loop-place-test.true c.loop-place.invariant
    c.in_ok-put.ensures.ok c.in_ok-put.ensures.count

pub returns-clause-ok : goal.returns-clause-ok
returns-clause-ok c =
    put_all (marked_by c.args.self.now) (marked_by c.loop-place.self) (marked_by c.args.other.now) _ c.in_ok-places.places.items
    (count_of c.args.self.now) (count_of c.loop-place.self)
    (take_all c.loop-place.place-index c.deref-place-items.result.now (grind (arith, common_steps)) ∙ c.deref-place-items.ensures.value)
    c.in_ok-places.ensures.ok c.loop-place.invariant

pub returns-clause-few : goal.returns-clause-few
returns-clause-few c =
    put_few (marked_by c.args.self.now) (marked_by c.loop-place.self) (marked_by c.args.other.now)
    (put_all (marked_by c.args.self.now) (marked_by c.loop-place.self) (marked_by c.args.other.now) _ c.in_ok-places.places.items
    (count_of c.args.self.now) (count_of c.loop-place.self)
    (take_all c.loop-place.place-index c.deref-place-items.result.now (grind (arith, common_steps)) ∙ c.deref-place-items.ensures.value)
    c.in_ok-places.ensures.ok c.loop-place.invariant)
    (count_of c.args.self.now) (count_of c.loop-place.self) c.loop-place.invariant.new
