use Rattle.std.proofs.Common.{◌≡◌, ◌+◌}
use Rattle.std.specs.BTreeMap.{get, is_at}
use Rattle.std.specs.List.Sorted.{IsStrictlySortedBy}
use Rattle.std.specs.Map.{keys_of, lookup}
use Rattle.accounts.specs.declared.account.Account.{Account}
use Rattle.accounts.specs.Broken.{is_broken}
use Rattle.accounts.specs.Tally.{sums_in}
use Rattle.inode_tally.specs.Held.{class_sums, inode_cmp}
use Rattle.inode_tally.specs.Joined.{LeavesOthers}
use Rattle.inode_tally.proofs.tally.settle.Given as goal

-- the classes that are left come with the sums to what all come to
abbrev pub invariant-loop-at : goal.invariant-loop-at
invariant-loop-at l = record {
  sorted : IsStrictlySortedBy inode_cmp (keys_of l.at-iterator);
  same : (account : Account) → is_broken account (λ n. sums_in l.rest account n + class_sums (λ q. lookup (is_at (inode_cmp q)) l.at-iterator) account n)
      ≡ is_broken account (λ n. sums_in l.fn.rest account n + class_sums (get inode_cmp l.fn.classes) account n);
  others : LeavesOthers l.fn.rest l.rest;
}
