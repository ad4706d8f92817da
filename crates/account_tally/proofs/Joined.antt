-- The least broken account of sums of accounts and of sums of sectors.
use Rattle.std.proofs.Common.{◌≡◌, ℕ, ◌<◌, ◌≤◌, ◌==◌, true, false, cond, List, refl, ap, sym, ◌∙◌, subst, arith}
use Rattle.std.specs.Prelude.{Option, Some, None, nat_lt}
use Rattle.std.proofs.Math.Path.{fun_ext}
use Rattle.std.specs.Ordering.{nat_cmp, ordering_then}
use Rattle.std.specs.declared.cmp.Ordering.{Ordering}
use Rattle.std.specs.declared.cmp.Ordering.TheVariants.{Less, Equal, Greater}
use Rattle.std.proofs.lemmas.Bool.{ltb-true}
use Rattle.std.proofs.lemmas.Bool.Decides.{nat_tests}
use Rattle.accounts.specs.declared.account.Account.{Account}
use Rattle.accounts.specs.declared.postings.Posting.{Posting}
use Rattle.accounts.specs.Order.{account_cmp}
use Rattle.accounts.specs.Broken.{is_broken}
use Rattle.accounts.specs.Kinds.{sector}
use Rattle.accounts.specs.Least.{is_broken_by, least_broken}
use Rattle.accounts.specs.Least as accounts
use Rattle.accounts.specs.Sums.{is_same}
use Rattle.accounts.proofs.First.{least_is_least, one_least, unposted}
use Rattle.accounts.proofs.Same.{same_account}
use Rattle.sector_runs.specs.Runs.{IsLeastBroken, SectorSums}
use Rattle.account_tally.specs.Kept.{AreSumsOf, chosen}
use Rattle.verdict.proofs.Numbers.{less_from, less_is}
use Rattle.verdict.proofs.Truth.{then_less}

-- ---- which accounts come before others

less_first : (a b : ℕ) (later : Ordering) → ordering_then (nat_cmp a b) later ≡ Less → a ≤ b
less_first a b later is =
    elim (nat_lt a b) as (λ t. nat_lt a b ≡ t → ordering_then (cond t Less (cond (a == b) Equal Greater)) later ≡ Less → a ≤ b) [
      | true ↦ λ e _. grind (arith, nat_tests)
      | false ↦ λ e. elim (a == b) as (λ t. (a == b) ≡ t → ordering_then (cond t Equal Greater) later ≡ Less → a ≤ b)
          [ true ↦ λ e2 _. grind (arith, nat_tests) | false ↦ λ e2 l. absurd (cc) ] refl
    ] refl is

less_kind : (a b : Account) → account_cmp a b ≡ Less → a.kind ≤ b.kind
less_kind a b is = less_first a.kind b.kind _ is

kind_less : (a b : Account) → a.kind < b.kind → account_cmp a b ≡ Less
kind_less a b l = then_less (nat_cmp a.kind b.kind) _ (less_from a.kind b.kind l)

-- with equal others, an order by a number alone
by_number : (o : Ordering) → ordering_then o Equal ≡ Less → o ≡ Less
by_number Less is = refl
by_number Equal is = absurd (cc)
by_number Greater is = absurd (cc)

sector_less : (a b : ℕ) → account_cmp (sector a) (sector b) ≡ Less → a < b
sector_less a b is = less_is a b (by_number (nat_cmp a b) is)

-- ---- what is broken

module _ (all rest : List Posting) (sectors : SectorSums) (sums : AreSumsOf all rest sectors) where
  other_broken : (account : Account) → (account.kind == 5) ≡ false → is_broken_by all account ≡ is_broken_by rest account
  other_broken account is = ap (is_broken account) (fun_ext (λ field. sums.others account is field))

  no_sector : (account : Account) → (account.kind == 5) ≡ true → is_broken_by rest account ≡ false
  no_sector account is = ap (is_broken account) (fun_ext (λ field. sums.none account is field)) ∙ unposted account

  sector_broken : (address : ℕ) → is_broken_by all (sector address) ≡ is_broken (sector address) (sectors address)
  sector_broken address = ap (is_broken (sector address)) (fun_ext (λ field. sums.of_sectors address field))

  no_more_broken : (account : Account) → (account.kind == 5) ≡ true → is_same account (sector account.block) ≡ false → is_broken_by all account ≡ false
  no_more_broken account is other = ap (is_broken account) (fun_ext (λ field. sums.no_more account is other field)) ∙ unposted account

  -- an account keeps its rule where it does among the others, and a sector where it does
  unbroken : (account : Account) → ((account.kind == 5) ≡ false → is_broken_by rest account ≡ false)
      → ((address : ℕ) → account ≡ sector address → is_broken (sector address) (sectors address) ≡ false) → is_broken_by all account ≡ false
  unbroken account others them =
      elim (account.kind == 5) as (λ t. (account.kind == 5) ≡ t → is_broken_by all account ≡ false) [
        | true ↦ λ is. elim (is_same account (sector account.block)) as (λ t. is_same account (sector account.block) ≡ t → is_broken_by all account ≡ false) [
          | true ↦ λ same. (let one = same_account account (sector account.block) same in
              ap (is_broken_by all) one ∙ sector_broken account.block ∙ them account.block one)
          | false ↦ λ other. no_more_broken account is other
        ] refl
        | false ↦ λ is. other_broken account is ∙ others is
      ] refl

  -- what is broken among the others is no sector
  is_other : (account : Account) → is_broken_by rest account ≡ true → (account.kind == 5) ≡ false
  is_other account broken =
      elim (account.kind == 5) as (λ t. (account.kind == 5) ≡ t → t ≡ false)
      [ true ↦ λ is. absurd (cc (broken, no_sector account is)) | false ↦ λ is. refl ] refl

  still_broken : (account : Account) → is_broken_by rest account ≡ true → is_broken_by all account ≡ true
  still_broken account broken = other_broken account (is_other account broken) ∙ broken

  least_of : (found : Option ℕ) (least : Option Account) → IsLeastBroken sectors found → accounts.IsLeastBroken (is_broken_by rest) least → accounts.IsLeastBroken (is_broken_by all) (chosen found least)
  least_of None None none others = λ account. unbroken account (λ _. others account) (λ address _. none address)
  least_of None (Some least) none others = (still_broken least others.0, λ account less. unbroken account (λ _. others.1 account less) (λ address _. none address))
  least_of (Some first) None them others = (
    sector_broken first ∙ them.0,
    λ account less. unbroken account (λ _. others account) (λ address is.
        them.1 address (sector_less address first (subst (λ a. account_cmp a (sector first) ≡ Less) is less))),
  )
  least_of (Some first) (Some least) them others =
      elim (nat_lt least.kind 5) as (λ t. nat_lt least.kind 5 ≡ t → accounts.IsLeastBroken (is_broken_by all) (cond t (Some least) (Some (sector first)))) [
        | true ↦ λ low. (
          still_broken least others.0,
          λ account less. unbroken account (λ _. others.1 account less) (λ address is.
              (let below : (sector address).kind ≤ least.kind = subst (λ (a : Account). a.kind ≤ least.kind) is (less_kind account least less) in
              absurd (omega (arith, ltb-true _ _ low)))),
        )
        | false ↦ λ high. (
          sector_broken first ∙ them.0,
          λ account less. unbroken account
              (λ other. others.1 account (kind_less account least
              (let below : account.kind ≤ 5 = less_kind account (sector first) less in grind (arith, nat_tests, is_other least others.0))))
              (λ address is. them.1 address (sector_less address first (subst (λ a. account_cmp a (sector first) ≡ Less) is less))),
        )
      ] refl

pub joined : (all rest : List Posting) (sectors : SectorSums) (least : Option Account) (found : Option ℕ)
    → AreSumsOf all rest sectors → least ≡ least_broken rest → IsLeastBroken sectors found → chosen found least ≡ least_broken all
joined all rest sectors least found sums is them =
    one_least (is_broken_by all) (chosen found least) (least_broken all)
    (least_of all rest sectors sums found least them (subst (accounts.IsLeastBroken (is_broken_by rest)) (sym is) (least_is_least rest)))
    (least_is_least all)
