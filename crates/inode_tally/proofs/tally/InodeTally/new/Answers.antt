use Rattle.std.proofs.Common.{◌≡◌, ◌∙◌, ap, arith}
use Rattle.std.specs.BTreeMap.{get, is_at}
use Rattle.std.specs.Map.{lookup}
use Rattle.accounts.specs.Sums.{total_of}
use Rattle.inode_tally.specs.Held.{class_in, class_postings, class_sums, inode_cmp, inode_of, owns_sums}
use Rattle.inode_tally.proofs.Amounts.{none_gathered}
use Rattle.inode_tally.proofs.tally.InodeTally.new.Goals as goal

pub returns : goal.returns
returns c = λ a n.
    let x : class_sums (get inode_cmp c.new.result) a n ≡ 0 =
    ap (λ es. total_of (class_postings (inode_of a) (class_in (lookup (is_at (inode_cmp (inode_of a))) es))) a n) c.new.ensures.empty
    ∙ none_gathered (inode_of a).0 (inode_of a).1 a n in
    let y : owns_sums c.new-2.result.items a n ≡ 0 = ap (λ os. owns_sums os a n) c.new-2.ensures.items in
    omega (arith, x, y)
