-- Which accounts are of inodes, or of the types of regular files, and stand in pages of sixteen. It serves to state what private functions keep.
use Rattle.std.specs.Prelude.{ℕ, Bool, ◌+◌, ◌*◌, ◌/◌, ◌%◌, ◌^◌, ◌&&◌, ◌==◌, nat_lt, List, [], length, Option, Some, None, if◌then◌else◌}
use Rattle.std.specs.Hash as fed
use Rattle.accounts.specs.declared.account.Account.{Account}
use Rattle.ledger_keys.specs.declared.seat.PageKey.{PageKey}
use Rattle.ledger_keys.specs.declared.seat.Seat.{Seat}
use Rattle.ledger_keys.specs.Place.{two_of, wide_of}

-- where those of a kind begin among the sixteen seats of a page: eight inodes, and behind them that the same are regular files
abbrev pub base_of : ℕ → ℕ → Option ℕ
base_of kind detail = if kind == 9 && detail == 0 then Some 0 else (if kind == 10 && detail == 1 then Some 8 else None)

abbrev pub seat_from : Option ℕ → Account → Option Seat
seat_from None a = None
seat_from (Some base) a =
    if a.block == 0 && (a.key.offset == 0 && (length a.tail == 0 && (nat_lt a.tree (2 ^ 32) && nat_lt a.key.objectid (2 ^ 32))))
    then Some (record {
      page = record { sort = a.key.kind; tree = a.tree; number = a.key.objectid / 8 };
      slot = base + a.key.objectid % 8;
    })
    else None

-- the seat of an account of an inode, or of the type of a regular file, if its numbers are below 2^32
unfoldable pub seat_of : Account → Option Seat
seat_of a = seat_from (base_of a.kind a.detail) a

-- the kind of the account of a slot, and its detail
abbrev pub kind_at : ℕ → ℕ
kind_at slot = if nat_lt slot 8 then 9 else 10

abbrev pub detail_at : ℕ → ℕ
detail_at slot = if nat_lt slot 8 then 0 else 1

-- the account of a slot of a page
abbrev pub account_at : PageKey → ℕ → Account
account_at page slot = record {
  kind = kind_at slot;
  tree = page.tree;
  block = 0;
  key = record { objectid = 8 * page.number + slot % 8; kind = page.sort; offset = 0 };
  detail = detail_at slot;
  tail = [];
}

-- whether two pages are one
unfoldable pub is_same_page : PageKey → PageKey → Bool
is_same_page p q = p.number == q.number && (p.sort == q.sort && p.tree == q.tree)

-- whether two seats are one
abbrev pub is_same_seat : Seat → Seat → Bool
is_same_seat s t = is_same_page s.page t.page && s.slot == t.slot

-- what is fed of the key of a page to a hash
abbrev pub page_fed : PageKey → List (List ℕ)
page_fed p = fed.u128 (wide_of (two_of p.tree p.sort) p.number)
