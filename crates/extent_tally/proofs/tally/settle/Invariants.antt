use Rattle.std.proofs.Common.{◌≡◌, ◌+◌, true, false, drop}
use Rattle.accounts.specs.declared.account.Account.{Account}
use Rattle.accounts.specs.Broken.{is_broken}
use Rattle.accounts.specs.Tally.{sums_in}
use Rattle.extent_tally.specs.Gains.{AreApart}
use Rattle.extent_tally.specs.Held.{is_of_extents, sums_of}
use Rattle.extent_tally.proofs.tally.settle.Given as goal

-- the classes that are left come with the sums to what all come to
abbrev pub invariant-loop-class : goal.invariant-loop-class
invariant-loop-class l = record {
  apart : l.rising ≡ true → AreApart (drop l.class-index l.list);
  broken : (account : Account) → is_broken account (λ n. sums_in l.rest account n + sums_of (drop l.class-index l.list) account n)
      ≡ is_broken account (λ n. sums_in l.fn.rest account n + sums_of l.fn.list account n);
  others : (account : Account) → is_of_extents account.kind ≡ false → sums_in l.rest account ≡ sums_in l.fn.rest account;
}
