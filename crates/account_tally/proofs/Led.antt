-- What a record says of its own inode, and what its entries say of the inodes that they lead to.
use Rattle.std.proofs.Common.{◌≡◌, ℕ, ◌+◌, List, [], ◌∷◌, ◌++◌, sym, ◌∙◌, arith}
use Rattle.std.specs.Prelude.{flat_map}
use Rattle.accounts.specs.declared.account.Account.{Account}
use Rattle.accounts.specs.Sums.{total_of}
use Rattle.accounts.proofs.Kept.{total_joined}
use Rattle.fs_items.specs.DirRow.{EntryFields}
use Rattle.records.specs.InodePostings.{inode_entry_postings, inode_postings, target_postings, own_entry_postings}
use Rattle.records.specs.Part.{Part}
use Rattle.records.specs.Part.Part.{EntriesPart}
use Rattle.accounts.specs.declared.postings.Posting.{Posting}
use Rattle.accounts.specs.Apart.{AddsUp}
use Rattle.accounts.specs.Tally.{Sums}
use Rattle.accounts.proofs.Apart.{adds_the_same}
use Rattle.dir_rules.specs.Named.{named_postings}
use Rattle.records.specs.DirPostings.{dir_entry_postings, dir_postings}
use Rattle.name_tally.specs.Names.{entry_row}
use Rattle.name_tally.proofs.Sums.{halves}
use Rattle.inode_rules.specs.Own.{own_postings}

-- what a record of a tree posts to the inodes that its entries lead to, A9 and A10
unfoldable pub led_postings : ℕ → Part → List Posting
led_postings tree (EntriesPart item) = flat_map (target_postings tree) item.entries
led_postings tree other = []

entries_total : (tree dir : ℕ) (entries : List EntryFields) (a : Account) (n : ℕ)
    → total_of (flat_map (own_entry_postings tree dir) entries) a n + total_of (flat_map (target_postings tree) entries) a n
    ≡ total_of (flat_map (inode_entry_postings tree dir) entries) a n
unfolding total_of
entries_total tree dir [] a n = omega arith
entries_total tree dir (e ∷ es) a n =
    let own = total_joined (own_entry_postings tree dir e) (flat_map (own_entry_postings tree dir) es) a n in
    let led = total_joined (target_postings tree e) (flat_map (target_postings tree) es) a n in
    let all = total_joined (inode_entry_postings tree dir e) (flat_map (inode_entry_postings tree dir) es) a n in
    let here = total_joined (own_entry_postings tree dir e) (target_postings tree e) a n in
    let later = entries_total tree dir es a n in
    omega (arith, own, led, all, here, later)

none_led : (x : ℕ) → x + 0 ≡ x
none_led x = omega arith

pub both_total : (tree : ℕ) (part : Part) (a : Account) (n : ℕ)
    → total_of (own_postings tree part) a n + total_of (led_postings tree part) a n ≡ total_of (inode_postings tree part) a n
unfolding own_postings inode_postings led_postings total_of
both_total tree (EntriesPart item) a n = entries_total tree item.key.objectid item.entries a n
both_total tree other a n = none_led _

-- ---- names and entries, with what entries lead to

none_more : (x : ℕ) → x ≡ x + 0
none_more x = omega arith

named_total : (tree : ℕ) (part : Part) (a : Account) (n : ℕ)
    → total_of (named_postings entry_row tree part) a n ≡ total_of (dir_postings tree part) a n + total_of (led_postings tree part) a n
unfolding named_postings dir_postings led_postings total_of
named_total tree (EntriesPart item) a n =
    sym (halves (dir_entry_postings tree item.key) (target_postings tree) item.entries a n)
    ∙ total_joined (flat_map (dir_entry_postings tree item.key) item.entries) (flat_map (target_postings tree) item.entries) a n
named_total tree other a n = none_more _

pub adds_named : (old new : Sums) (before after : List Posting) (tree : ℕ) (part : Part) → AddsUp old new before after (named_postings entry_row tree part)
    → AddsUp old new before after (dir_postings tree part ++ led_postings tree part)
adds_named old new before after tree part adds =
    adds_the_same old new before after (named_postings entry_row tree part) (dir_postings tree part ++ led_postings tree part) adds
    (λ a n. total_joined (dir_postings tree part) (led_postings tree part) a n ∙ sym (named_total tree part a n))
