-- The order of accounts: by kind, tree, block, key and detail as numbers, then by the tail as bytes.
use Rattle.std.specs.Ordering.{nat_cmp, on, then_cmp}
use Rattle.std.specs.declared.cmp.Ordering.{Ordering}
use Rattle.std.specs.Cmp.Lexicographic.{slice_cmp}
use Rattle.accounts.specs.declared.account.Account.{Account}

-- how an account stands to another by its key: objectid, kind, offset
abbrev pub by_key : Account → Account → Ordering
by_key =
    then_cmp (on (λ a. a.key.objectid) nat_cmp)
    (then_cmp (on (λ a. a.key.kind) nat_cmp)
    (on (λ a. a.key.offset) nat_cmp))

-- how an account stands to another
abbrev pub account_cmp : Account → Account → Ordering
account_cmp =
    then_cmp (on (λ a. a.kind) nat_cmp)
    (then_cmp (on (λ a. a.tree) nat_cmp)
    (then_cmp (on (λ a. a.block) nat_cmp)
    (then_cmp by_key
    (then_cmp (on (λ a. a.detail) nat_cmp)
    (on (λ a. a.tail) (slice_cmp nat_cmp))))))
