-- These words serve private functions alone: a class with more amounts.
use Rattle.std.specs.Prelude.{◌≡◌, ℕ, ◌+◌, Bool, false, ◌&&◌, ◌==◌, nat_lt, min, List, Option, Some, if◌then◌else◌}
use Rattle.std.specs.BTreeMap.{is_at}
use Rattle.accounts.specs.declared.account.Account.{Account}
use Rattle.accounts.specs.declared.postings.Posting.{Posting}
use Rattle.accounts.specs.declared.tally.Tally.{Tally}
use Rattle.accounts.specs.declared.kinds.TheConstants.{INODE_OTHERS}
use Rattle.accounts.specs.Sums.{total_of}
use Rattle.accounts.specs.Tally.{Sums, inode_class, kept, sums_in, with_amount}
use Rattle.inode_tally.specs.declared.class.Gathered.{Gathered}
use Rattle.inode_tally.specs.declared.class.InodeClass.{InodeClass}
use Rattle.inode_tally.specs.Held.{class_in, inode_cmp, is_of_inodes, sum_of, widened}
use Rattle.accounts.specs.Kinds.{gives}

-- a class comes to what another comes to with more amounts, as far as the rules look at them
pub record IsJoined (class : InodeClass) (more : Gathered) (joined : InodeClass) : Type 0 where
  pub inode : (n : ℕ) → inode_class (sum_of (widened joined)) n ≡ inode_class (λ m. sum_of (widened class) m + sum_of more m) n
  pub entries : (same : ℕ → Bool)
      → min (if same joined.sort then joined.entries else 0) 1
      ≡ min ((if same class.sort then class.entries else 0) + (if same more.sort then more.entries else 0)) 1
  pub typed : (same : ℕ → Bool)
      → min (if same joined.sort then joined.typed else 0) 2
      ≡ min ((if same class.sort then class.typed else 0) + (if same more.sort then more.typed else 0)) 2

-- the entries of an inode have its class with more amounts, and others stay
pub record Joins (old new : ℕ × ℕ → Option InodeClass) (at : ℕ × ℕ) (more : Gathered) : Type 0 where
  pub joined : InodeClass
  pub is : IsJoined (class_in (old at)) more joined
  pub entries : (q : ℕ × ℕ) → new q ≡ (if is_at (inode_cmp at) q then Some joined else old q)

-- whether an inode and its type keep their rules by a class alone
abbrev pub class_keeps : InodeClass → Bool
class_keeps class =
    gives (nat_lt 0 class.others) (class.items == 1)
    && (gives (class.items == 1 && class.linked == 0) (nat_lt 0 class.orphans) && gives (nat_lt 0 class.entries) (class.typed == 1))

-- amounts were added to sums
abbrev pub Adds : Sums → Sums → List Posting → Type 0
Adds old new given =
    (account : Account) → kept account.kind (new account) ≡ kept account.kind (λ n. old account n + total_of given account n)

-- so many entries more lead to an inode, and say a type
pub record IsTargeted (old : Gathered) (sort count : ℕ) (new : Gathered) : Type 0 where
  pub sums : (n : ℕ) → sum_of new n ≡ with_amount (sum_of old) INODE_OTHERS count n
  pub types : (new.sort ≡ sort) × (new.entries ≡ old.entries + count) × (new.typed ≡ old.typed)

-- a tally has of other accounts than those of inodes what it had
abbrev pub LeavesOthers : Tally → Tally → Type 0
LeavesOthers old new = (account : Account) → is_of_inodes account.kind ≡ false → sums_in new account ≡ sums_in old account
