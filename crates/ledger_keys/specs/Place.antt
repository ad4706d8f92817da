-- The accounts that take 32 bytes. It serves to state what private functions keep.
use Rattle.std.specs.Prelude.{ℕ, Bool, false, nat_eq, ◌+◌, ◌*◌, ◌/◌, ◌%◌, ◌^◌, ◌++◌, ◌&&◌, ◌==◌, nat_le, nat_lt, List, [], ◌∷◌, length, take, drop, slice_index, Option, Some, None, if◌then◌else◌}
use Rattle.std.specs.Hash as fed
use Rattle.std.specs.Int.{w32, w64, from_le_bytes}
use Rattle.std.specs.Cmp.Lexicographic.{pointwise}
use Rattle.accounts.specs.declared.account.Account.{Account}
use Rattle.ledger_keys.specs.declared.place.Place.{Place}
use Rattle.ledger_keys.specs.declared.place.Place.TheVariants.{Plain, Named}

-- up to twelve bytes with zeros behind them
abbrev pub padded : List ℕ → List ℕ
padded tail = tail ++ drop (length tail) (0 ∷ 0 ∷ 0 ∷ 0 ∷ 0 ∷ 0 ∷ 0 ∷ 0 ∷ 0 ∷ 0 ∷ 0 ∷ 0 ∷ [])

-- the place of an account without a tail, and with detail 0
abbrev pub plain_of : Account → Option Place
plain_of a =
    if a.detail == 0 && (length a.tail == 0 && nat_lt a.tree (2 ^ 32))
    then Some (Plain a.kind a.key.kind a.tree a.block a.key.objectid a.key.offset)
    else None

-- the place of an account of no block whose numbers are below 2^32 and whose tail has at most twelve bytes
abbrev pub named_of : Account → Option Place
named_of a =
    if a.block == 0 && (nat_le (length a.tail) 12 && (nat_lt a.tree (2 ^ 32)
    && (nat_lt a.key.objectid (2 ^ 32) && (nat_lt a.key.offset (2 ^ 32) && nat_lt a.detail (2 ^ 32)))))
    then Some (Named (length a.tail) a.kind a.key.kind a.tree a.key.objectid a.key.offset a.detail (padded a.tail))
    else None

-- the first of two, or else the second
abbrev pub first_or : Option Place → Option Place → Option Place
first_or None second = second
first_or (Some first) second = Some first

-- the place of an account, if it has one
unfoldable pub place_of : Account → Option Place
place_of a = first_or (plain_of a) (named_of a)

-- the account that a place is of
abbrev pub account_of : Place → Account
account_of (Plain kind sort tree block objectid offset) =
    record { kind = kind; tree = tree; block = block; key = record { objectid = objectid; kind = sort; offset = offset }; detail = 0; tail = [] }
account_of (Named length kind sort tree objectid offset detail tail) =
    record { kind = kind; tree = tree; block = 0; key = record { objectid = objectid; kind = sort; offset = offset }; detail = detail; tail = take length tail }

-- whether two places are one
unfoldable pub is_same_place : Place → Place → Bool
is_same_place (Plain kind sort tree block objectid offset) (Plain kind' sort' tree' block' objectid' offset') =
    kind == kind' && (sort == sort' && (tree == tree' && (block == block' && (objectid == objectid' && offset == offset'))))
is_same_place (Plain kind sort tree block objectid offset) (Named length' kind' sort' tree' objectid' offset' detail' tail') = false
is_same_place (Named length kind sort tree objectid offset detail tail) (Plain kind' sort' tree' block' objectid' offset') = false
is_same_place (Named length kind sort tree objectid offset detail tail) (Named length' kind' sort' tree' objectid' offset' detail' tail') =
    length == length'
    && (kind == kind' && (sort == sort' && (tree == tree' && (objectid == objectid' && (offset == offset' && (detail == detail' && pointwise nat_eq tail tail'))))))

-- what is fed of a place to a hash
abbrev pub head_of : ℕ → ℕ → ℕ → ℕ
head_of kind sort tree = kind + 256 * sort + 65536 * tree

abbrev pub named_head_of : ℕ → ℕ → ℕ → ℕ → ℕ
named_head_of length kind sort tree = head_of kind sort tree + 281474976710656 * length

-- the bytes of a tail of twelve in two numbers
unfoldable pub front_number : List ℕ → ℕ
front_number tail = from_le_bytes w64
    (slice_index tail 0 ∷ slice_index tail 1 ∷ slice_index tail 2 ∷ slice_index tail 3
    ∷ slice_index tail 4 ∷ slice_index tail 5 ∷ slice_index tail 6 ∷ slice_index tail 7 ∷ [])

unfoldable pub back_number : List ℕ → ℕ
back_number tail = from_le_bytes w32 (slice_index tail 8 ∷ slice_index tail 9 ∷ slice_index tail 10 ∷ slice_index tail 11 ∷ [])

abbrev pub two_of : ℕ → ℕ → ℕ
two_of low high = low + 4294967296 * high

abbrev pub wide_of : ℕ → ℕ → ℕ
wide_of low high = low + 18446744073709551616 * high

abbrev pub place_fed : Place → List (List ℕ)
place_fed (Plain kind sort tree block objectid offset) = fed.u128 (wide_of (head_of kind sort tree) block) ++ fed.u128 (wide_of objectid offset)
place_fed (Named length kind sort tree objectid offset detail tail) =
    fed.u128 (wide_of (named_head_of length kind sort tree) (two_of objectid offset))
    ++ fed.u128 (wide_of (front_number tail) (two_of (back_number tail) detail))

-- the number of the part of a table that has the entries of an inode with this number, or of an address; those of 256 in a row are in one
abbrev pub part_at : ℕ → ℕ
part_at number = (number / 256) % 1024

abbrev pub part_of : Place → ℕ
part_of (Plain kind sort tree block objectid offset) = part_at (if block == 0 then objectid else block)
part_of (Named length kind sort tree objectid offset detail tail) = part_at objectid
