use Rattle.std.proofs.Common.{◌∷◌, [], ap}
use Rattle.std.proofs.Math.Path.{fun_ext}
use Rattle.accounts.specs.Kinds.{inode, inode_type}
use Rattle.accounts.specs.Tally.{kept}
use Rattle.inode_tally.specs.Held.{to}
use Rattle.inode_tally.proofs.Aside.{adds_alike}
use Rattle.verdict.proofs.Answers.{on_ok}
use Rattle.inode_tally.proofs.tally.InodeTally.begin_targets.Goals as goal

pub returns : goal.returns
returns c =
    let given = to (inode c.args.tree c.args.ino) 1 c.args.count ∷ to (inode_type c.args.tree c.args.ino c.args.sort) 0 c.args.count ∷ [] in
    on_ok c.begin.result c.begin.ensures (λ e. adds_alike _ _ _ _ _ given e (λ a. ap (kept a.kind) (fun_ext (c.targets.ensures a))))
