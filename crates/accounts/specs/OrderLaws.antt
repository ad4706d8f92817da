-- The order of accounts is total, and only equal accounts tie.
use Rattle.std.specs.Cmp.{IsTotalOrder, IsEquivalence, IsPartialOrder, IsPartialEquivalence, then_total, on_total, nat_cmp_total, eq_by_cmp_equiv, partial_order_from_total, partial_equiv_from_equiv}
use Rattle.std.specs.Cmp.Lexicographic.{nat_list_cmp_total}
use Rattle.std.specs.Ordering.{as_partial_cmp, eq_by_cmp}
use Rattle.accounts.specs.Order.{account_cmp, by_key}

by_key_total : IsTotalOrder by_key
by_key_total = then_total (on_total (λ a. a.key.objectid) nat_cmp_total) (then_total (on_total (λ a. a.key.kind) nat_cmp_total) (on_total (λ a. a.key.offset) nat_cmp_total))

pub account_total : IsTotalOrder account_cmp
account_total =
    then_total (on_total (λ a. a.kind) nat_cmp_total)
    (then_total (on_total (λ a. a.tree) nat_cmp_total)
    (then_total (on_total (λ a. a.block) nat_cmp_total)
    (then_total by_key_total
    (then_total (on_total (λ a. a.detail) nat_cmp_total)
    (on_total (λ a. a.tail) nat_list_cmp_total)))))

pub account_equiv : IsEquivalence (eq_by_cmp account_cmp)
account_equiv = eq_by_cmp_equiv account_total

pub account_per : IsPartialEquivalence (eq_by_cmp account_cmp)
account_per = partial_equiv_from_equiv account_equiv

pub account_po : IsPartialOrder (eq_by_cmp account_cmp) (as_partial_cmp account_cmp)
account_po = partial_order_from_total account_total
