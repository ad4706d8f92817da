use Rattle.std.proofs.Common.{◌+◌, [], drop}
use Rattle.std.specs.BTreeMap.{get}
use Rattle.accounts.specs.Apart.{AddsUp}
use Rattle.inode_tally.specs.Held.{class_sums, inode_cmp, owns_sums}
use Rattle.inode_tally.proofs.tally.give_all.Given as goal

-- the classes and what is left come to what all come to
abbrev pub invariant-loop-own : goal.invariant-loop-own
invariant-loop-own l =
    AddsUp (λ a n. class_sums (get inode_cmp l.fn.classes) a n + owns_sums l.fn.owns a n)
    (λ a n. class_sums (get inode_cmp l.classes) a n + owns_sums (drop l.own-index l.owns) a n) l.fn.into l.into []
