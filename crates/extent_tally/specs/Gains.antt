-- These words serve private functions alone: a class with more amounts, and classes that keep their rules.
use Rattle.std.specs.Prelude.{◌≡◌, ℕ, ◌+◌, ◌<◌, List, [], ◌∷◌}
use Rattle.verdict.specs.declared.key.Key.{Key}
use Rattle.accounts.specs.declared.account.Account.{Account}
use Rattle.accounts.specs.declared.postings.Posting.{Posting}
use Rattle.accounts.specs.Kinds.{extent_form}
use Rattle.accounts.specs.declared.kinds.TheConstants.{USES, FORM_USES}
use Rattle.accounts.specs.Sums.{total_of}
use Rattle.accounts.specs.Tally.{Sums, kept}
use Rattle.accounts.specs.Lent.{to}
use Rattle.extent_tally.specs.declared.class.ExtentClass.{ExtentClass}
use Rattle.extent_tally.specs.Held.{class_sums, user}

-- sums come to what others come to with some postings, as far as the rules look at them
pub record IsMore (old new : Sums) (given : List Posting) : Type 0 where
  pub alike : (account : Account) → kept account.kind (new account) ≡ kept account.kind (λ n. old account n + total_of given account n)

-- a class comes to what another of the same extent comes to with some postings
pub record Gains (old new : ExtentClass) (given : List Posting) : Type 0 where
  pub address : new.address ≡ old.address
  pub sums : IsMore (class_sums old) (class_sums new) given

-- what an item says without references
abbrev pub new_class : Key → ℕ → ExtentClass
new_class key refs = record {
  address = key.objectid;
  form = key.offset;
  ino = 0;
  origin = 0;
  root = 0;
  given = 0;
  used = 0;
  lacks = refs;
  sort = key.kind;
  linked = 0;
  shown = 0;
}

-- a class with another user
abbrev pub with_user : ExtentClass → ℕ → ℕ → ℕ → ExtentClass
with_user class root ino origin = record {
  address = class.address;
  form = class.form;
  ino = ino;
  origin = origin;
  root = root;
  given = class.given;
  used = class.used;
  lacks = class.lacks;
  sort = class.sort;
  linked = class.linked;
  shown = class.shown;
}

-- a class comes to what another does, and has a user
pub record IsOfUser (old new : ExtentClass) (root ino origin : ℕ) : Type 0 where
  pub is : new ≡ with_user old root ino origin
  pub same : (account : Account) (n : ℕ) → class_sums new account n ≡ class_sums old account n

-- what a use posts: who uses the extent, and its form
abbrev pub use_postings : ℕ → ℕ → ℕ → ℕ → ℕ → ℕ → List Posting
use_postings address sort form root ino origin =
    to (user sort address root ino origin) USES 1 ∷ to (extent_form address sort form) FORM_USES 1 ∷ []

-- a class that keeps the rules: as many references as its item says, and a use for each to its user
pub record KeepsAll (class : ExtentClass) : Type 0 where
  pub some : 0 < class.linked
  pub all : class.lacks ≡ 0
  pub even : class.given ≡ class.used

-- all addresses are above one
abbrev pub AreAbove : ℕ → List ExtentClass → Type 0
AreAbove low [] = Unit {0}
AreAbove low (class ∷ classes) = (low < class.address) × AreAbove low classes

-- each address is above those before it
abbrev pub AreApart : List ExtentClass → Type 0
AreApart [] = Unit {0}
AreApart (class ∷ classes) = AreAbove class.address classes × AreApart classes
