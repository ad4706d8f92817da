use Rattle.std.proofs.Common.{◌∷◌, []}
use Rattle.inode_tally.proofs.Amounts.{target_total}
use Rattle.inode_tally.proofs.tally.Own.targets.Goals as goal

pub returns : goal.returns
returns c =
    target_total c.args.tree c.args.ino c.args.sort c.args.count _ (λ i. record {
      bytes = 0 ∷ 0 ∷ 0 ∷ 0 ∷ [];
      counts = 0 ∷ c.from.ensures i ∷ 0 ∷ 0 ∷ 0 ∷ [];
      entries = c.from-2.ensures i;
      typed = 0;
      sort = c.args.sort;
    })
