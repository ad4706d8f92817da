use Rattle.std.proofs.Common.{◌≡◌, ◌+◌, length, min, max, refl, arith}
use Rattle.write_cache.proofs.CacheLaws.{over-meets, over-misses}
use Rattle.write_cache.proofs.cache.overlay_run.Goals as goal
use Rattle.write_cache.proofs.cache.overlay_run.Goals.{then-room-end, else-room-end}

pub returns-then-end-at-clause-laid : goal.returns-then-end-at-clause-laid
returns-then-end-at-clause-laid c =
    over-misses c.args.begin c.args.at c.args.bytes.now c.args.bytes.now c.args.into.now (max c.args.at c.args.begin) (min (c.args.at + length c.args.into.now) (c.args.begin + length c.args.bytes.now)) refl refl refl (omega arith)

pub returns-then-low-high-clause-laid : goal.returns-then-low-high-clause-laid
returns-then-low-high-clause-laid c =
    let high : c.if-room-end.high ≡ min (c.args.at + length c.args.into.now) (c.args.begin + length c.args.bytes.now) = elim c.if-room-end.branch [ then-room-end w ↦ omega arith | else-room-end w ↦ omega arith ] in
    over-meets c.args.begin c.args.at c.args.bytes.now c.args.bytes.now c.args.into.now c.overwrite.new.into c.max-low.result c.if-room-end.high _ refl c.max-low.ensures high c.if-low-high.true (omega arith) c.overwrite.ensures

pub returns-else-low-high-clause-laid : goal.returns-else-low-high-clause-laid
returns-else-low-high-clause-laid c =
    let high : c.if-room-end.high ≡ min (c.args.at + length c.args.into.now) (c.args.begin + length c.args.bytes.now) = elim c.if-room-end.branch [ then-room-end w ↦ omega arith | else-room-end w ↦ omega arith ] in
    over-misses c.args.begin c.args.at c.args.bytes.now c.args.bytes.now c.args.into.now c.max-low.result c.if-room-end.high refl c.max-low.ensures high c.if-low-high.false
