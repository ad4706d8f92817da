use Rattle.std.proofs.Common.{◌≡◌, true, false, min, ◌≤◌, ◌∙◌, ap, refl, arith}
use Rattle.std.proofs.lemmas.Bool.{both_ways}
use Rattle.std.specs.List.{insert}
use Rattle.chunk_map.specs.Order.{rank_by_start, AreApart}
use Rattle.chunk_map.proofs.Ordered.{added_in_order, in_order-ascends, kept_apart, more_copies, undone}
use Rattle.chunk_map.proofs.map.ChunkMap.add.Goals as goal
use Rattle.chunk_map.proofs.map.ChunkMap.add.Goals.{then-self, else-self, then-clear, else-clear}

pub rank_of-rank-requires : goal.rank_of-rank-requires
rank_of-rank-requires c = in_order-ascends c.self.inside.chunks.items c.self.inside.sorted.items c.deref.result.now c.self.inside.copies.entries c.self.inside.apart c.self.inside.clear c.self.inside.front c.self.invariant c.deref.ensures.value

pub invariant_of-self : goal.invariant_of-self
invariant_of-self c = more_copies c.self.inside.chunks.items c.self.inside.sorted.items c.self.inside.sorted.items c.self.inside.copies.entries c.put_copies.new.copies.entries c.self.inside.apart c.self.inside.clear c.self.inside.front c.self.invariant refl c.put_copies.ensures.kept

pub invariant_of-self-then-is_err : goal.invariant_of-self-then-is_err
invariant_of-self-then-is_err c =
    undone c.self.inside.chunks.items c.self.inside.sorted.items c.push.new.self.items c.insert.new.self.items c.remove.new.self.items c.self.inside.copies.entries c.put_copies.new.copies.entries c.args.chunk.now c.rank_of-rank.result _ c.self.inside.apart c.self.inside.clear c.self.inside.front c.self.invariant
    (c.rank_of-rank.ensures.rank ∙ ap (rank_by_start c.args.chunk.now.start) c.deref.ensures.value)
    c.push.ensures.items c.if-is_err.ensures.negation c.in_ok-insert.ensures.items c.remove.ensures.items
    c.put_copies.ensures.kept

pub invariant_of-self-2 : goal.invariant_of-self-2
invariant_of-self-2 c =
    let keeps : c.if-self.apart ≡ true → AreApart (insert c.self.inside.sorted.items c.rank_of-rank.result c.args.chunk.now) =
    elim c.if-self.branch [
      | then-self w ↦ kept_apart c.self.inside.sorted.items c.deref.result.now w.deref-then-self.result.now c.rank_of-rank.result c.args.chunk.now c.self.inside.apart w.stands_apart-apart.result c.if-self.apart c.self.invariant.distances w.if-self.true c.deref.ensures.value c.rank_of-rank.ensures.low w.deref-then-self.ensures.value w.stands_apart-apart.ensures.before w.stands_apart-apart.ensures.behind w.apart-is
      | else-self w ↦ λ now. absurd (both_ways _ (w.apart-is ∙ w.if-self.false) now)
    ] in
    let next : c.put_copies.new.clear ≡ false → c.if-clear.self ≤ min c.self.inside.front c.rank_of-rank.result =
    elim c.if-clear.branch [
      | then-clear w ↦ λ off. absurd (both_ways _ off w.if-clear.true)
      | else-clear w ↦ λ _. omega (arith, w.self-is, w.min-self-inside.ensures)
    ] in
    added_in_order c.self.inside.chunks.items c.self.inside.sorted.items c.push.new.self.items c.insert.new.self.items c.self.inside.copies.entries c.put_copies.new.copies.entries c.args.chunk.now c.rank_of-rank.result _ c.self.inside.apart c.self.inside.clear c.put_copies.new.clear c.if-self.apart c.self.inside.front _ c.self.invariant (omega arith)
    (c.rank_of-rank.ensures.rank ∙ ap (rank_by_start c.args.chunk.now.start) c.deref.ensures.value)
    c.push.ensures.items c.if-is_err.ensures.negation c.in_ok-insert.ensures.items keeps
    c.put_copies.ensures.kept c.put_copies.ensures.stays c.put_copies.ensures.more c.in_ok-put_copies.ensures.there c.in_ok-put_copies.ensures.free c.in_ok-put_copies.ensures.sources next
