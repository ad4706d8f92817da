-- These words serve private functions alone: a slot, and slots, with more.
use Rattle.std.specs.Prelude.{◌≡◌, ℕ, ◌+◌, List, [], Option, Some, None}
use Rattle.accounts.specs.declared.account.Account.{Account}
use Rattle.accounts.specs.declared.postings.Posting.{Posting}
use Rattle.accounts.specs.Sums.{total_of}
use Rattle.accounts.specs.Tally.{Sums, kept}
use Rattle.name_tally.specs.declared.slot.Led.{Led}
use Rattle.name_tally.specs.declared.slot.NameSlot.{NameSlot}
use Rattle.name_tally.specs.Names.{leads, name_of, slot_postings}

-- what a slot comes to
abbrev pub slot_sums : NameSlot → Sums
slot_sums slot = total_of (slot_postings slot)

-- some sums are those of before
abbrev pub AreSame : Sums → Sums → Type 0
AreSame old new = (account : Account) (n : ℕ) → new account n ≡ old account n

-- some sums are those of before with what was given, as far as the rules look at them
abbrev pub KeepsUp : Sums → Sums → List Posting → Type 0
KeepsUp old new given =
    (account : Account) → kept account.kind (new account) ≡ kept account.kind (λ n. old account n + total_of given account n)

-- some sums, with what was taken out, are those of before with what was given
abbrev pub KeepsBut : Sums → Sums → List Posting → List Posting → Type 0
KeepsBut old new out given =
    (account : Account)
    → kept account.kind (λ n. new account n + total_of out account n) ≡ kept account.kind (λ n. old account n + total_of given account n)

-- entries that lead to an inode, as postings
abbrev pub led_in : Led → List Posting
led_in led = leads led.tree led.ino led.sort led.count

abbrev pub led_of : Option Led → List Posting
led_of None = []
led_of (Some led) = led_in led

-- what was given, where it was kept
abbrev pub kept_of : Option Led → List Posting → List Posting
kept_of None given = []
kept_of (Some led) given = given

-- the sums of the name and of the link of a slot are zero
pub record Agrees (slot : NameSlot) : Type 0 where
  pub hashed : slot.hashed ≡ 0
  pub indexed : slot.indexed ≡ 0
  pub listed : slot.listed ≡ 0
  pub linked : slot.linked ≡ 0

-- all sums of a slot are zero
pub record IsFree (slot : NameSlot) : Type 0 where
  pub hashed : slot.hashed ≡ 0
  pub indexed : slot.indexed ≡ 0
  pub listed : slot.listed ≡ 0
  pub linked : slot.linked ≡ 0
  pub led : slot.led ≡ 0

-- a slot is of a name of an inode in a directory
pub record IsAt (slot : NameSlot) (of_tree of_ino of_dir : ℕ) (of_name : List ℕ) : Type 0 where
  pub tree : slot.tree ≡ of_tree
  pub ino : slot.ino ≡ of_ino
  pub dir : slot.dir ≡ of_dir
  pub name : name_of slot ≡ of_name

-- the sums of a slot are those of before
pub record HasSums (old new : NameSlot) : Type 0 where
  pub hashed : new.hashed ≡ old.hashed
  pub indexed : new.indexed ≡ old.indexed
  pub listed : new.listed ≡ old.listed
  pub linked : new.linked ≡ old.linked
  pub led : new.led ≡ old.led
