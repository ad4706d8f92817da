use Rattle.std.proofs.Common.{◌≡◌, ◌≤◌, ◌∙◌, ap, sym, subst, arith, true, vec_len}
use Rattle.tree_laws.specs.Listed.{is_before}
use Rattle.tree_laws.specs.Listing.{rank_of}
use Rattle.shared_trees.proofs.Listed.{put_at}
use Rattle.shared_trees.proofs.starts.Listed.put.Goals as goal
use Rattle.shared_trees.proofs.starts.Listed.put.Goals.{else-rank-len-via-then-rank-len+else-not-is_before, else-rank-len-via-else-rank-len}

pub returns : goal.returns
returns c =
    let rank : c.rank_of-rank.result ≡ rank_of c.args.start c.args.self.now.starts.items = c.rank_of-rank.ensures ∙ ap (rank_of c.args.start) c.as_slice.ensures.value in
    elim c.else-rank-len.branch [
      | else-rank-len-via-then-rank-len+else-not-is_before w ↦
          put_at c.args.start c.args.self.now.starts.items c.insert.new.self.items c.rank_of-rank.result w.index.result.now rank c.in_ok-insert.ensures.items
          (λ less. subst (λ s. is_before c.args.start s ≡ true) w.index.ensures (sym w.is_before.ensures ∙ w.if-not-is_before.false))
      | else-rank-len-via-else-rank-len w ↦
          put_at c.args.start c.args.self.now.starts.items c.insert.new.self.items c.rank_of-rank.result c.args.start rank c.in_ok-insert.ensures.items
          (λ less. let most : c.len.result ≤ c.rank_of-rank.result = w.if-rank-len.false in let all : c.len.result ≡ vec_len c.args.self.now.starts = c.len.ensures in absurd (omega (arith, less, most, all)))
    ]
