-- Accounts that tie in their order are one account.
use Rattle.std.proofs.Common.{◌≡◌, true, refl}
use Rattle.std.specs.Ordering.{nat_cmp, is_eq, ordering_then}
use Rattle.std.specs.declared.cmp.Ordering.{Ordering}
use Rattle.std.specs.declared.cmp.Ordering.TheVariants.{Less, Equal, Greater}
use Rattle.std.specs.FinMap.{IsAntisymmetric, nat_cmp-IsAntisymmetric, slice_cmp-IsAntisymmetric}
use Rattle.accounts.specs.declared.account.Account.{Account}
use Rattle.accounts.specs.Order.{account_cmp, by_key}
use Rattle.accounts.specs.Sums.{is_same}

-- both of two comparisons tie where one after the other does
both_tie : (a b : Ordering) → ordering_then a b ≡ Equal → (a ≡ Equal) × (b ≡ Equal)
both_tie Less b is = absurd (cc)
both_tie Equal b is = (refl, is)
both_tie Greater b is = absurd (cc)

pub account_ties : IsAntisymmetric account_cmp
account_ties a b is =
    let kind = both_tie (nat_cmp a.kind b.kind) _ is in
    let tree = both_tie (nat_cmp a.tree b.tree) _ kind.1 in
    let block = both_tie (nat_cmp a.block b.block) _ tree.1 in
    let key = both_tie (by_key a b) _ block.1 in
    let objectid = both_tie (nat_cmp a.key.objectid b.key.objectid) _ key.0 in
    let sort = both_tie (nat_cmp a.key.kind b.key.kind) _ objectid.1 in
    let detail = both_tie (nat_cmp a.detail b.detail) _ key.1 in
    let e1 = nat_cmp-IsAntisymmetric a.kind b.kind kind.0 in
    let e2 = nat_cmp-IsAntisymmetric a.tree b.tree tree.0 in
    let e3 = nat_cmp-IsAntisymmetric a.block b.block block.0 in
    let e4 = nat_cmp-IsAntisymmetric a.key.objectid b.key.objectid objectid.0 in
    let e5 = nat_cmp-IsAntisymmetric a.key.kind b.key.kind sort.0 in
    let e6 = nat_cmp-IsAntisymmetric a.key.offset b.key.offset sort.1 in
    let e7 = nat_cmp-IsAntisymmetric a.detail b.detail detail.0 in
    let e8 = slice_cmp-IsAntisymmetric nat_cmp-IsAntisymmetric a.tail b.tail detail.1 in
    λ i. record { kind = e1 i; tree = e2 i; block = e3 i; key = record { objectid = e4 i; kind = e5 i; offset = e6 i }; detail = e7 i; tail = e8 i }

pub is_Equal : (a : Ordering) → is_eq a ≡ true → a ≡ Equal
is_Equal Less is = absurd (cc)
is_Equal Equal is = refl
is_Equal Greater is = absurd (cc)

pub same_account : (a b : Account) → is_same a b ≡ true → a ≡ b
same_account a b is = account_ties a b (is_Equal (account_cmp a b) is)
