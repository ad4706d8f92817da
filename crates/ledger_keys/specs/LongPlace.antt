-- The accounts that take 56 bytes. It serves to state what private functions keep.
use Rattle.std.specs.Prelude.{ℕ, Bool, nat_eq, ◌+◌, ◌*◌, ◌/◌, ◌^◌, min, ◌++◌, ◌&&◌, ◌==◌, nat_le, nat_lt, List, [], ◌∷◌, length, take, drop, replicate, Option, Some, None, if◌then◌else◌}
use Rattle.std.specs.Hash as fed
use Rattle.std.specs.Cmp.Lexicographic.{pointwise}
use Rattle.accounts.specs.declared.account.Account.{Account}
use Rattle.ledger_keys.specs.declared.long_place.LongPlace.{LongPlace}
use Rattle.ledger_keys.specs.Place.{part_at, two_of, wide_of}

-- up to 36 bytes with zeros behind them
abbrev pub padded : List ℕ → List ℕ
padded tail = tail ++ drop (length tail) (replicate 36 0)

-- the place of an account of no block whose numbers are below 2^32 and whose tail has at most 36 bytes
unfoldable pub long_of : Account → Option LongPlace
long_of a =
    if a.block == 0 && (nat_le (length a.tail) 36 && (nat_lt a.tree (2 ^ 32)
    && (nat_lt a.key.objectid (2 ^ 32) && (nat_lt a.key.offset (2 ^ 32) && nat_lt a.detail (2 ^ 32)))))
    then Some (record {
      length = length a.tail;
      kind = a.kind;
      sort = a.key.kind;
      tree = a.tree;
      objectid = a.key.objectid;
      offset = a.key.offset;
      detail = a.detail;
      tail = padded a.tail;
    })
    else None

-- the account that a place is of
abbrev pub account_of : LongPlace → Account
account_of p = record {
  kind = p.kind;
  tree = p.tree;
  block = 0;
  key = record { objectid = p.objectid; kind = p.sort; offset = p.offset };
  detail = p.detail;
  tail = take p.length p.tail;
}

-- whether two places are one
unfoldable pub is_same_long : LongPlace → LongPlace → Bool
is_same_long p q =
    p.length == q.length
    && (p.kind == q.kind && (p.sort == q.sort && (p.tree == q.tree && (p.objectid == q.objectid && (p.offset == q.offset && (p.detail == q.detail && pointwise nat_eq p.tail q.tail))))))

-- how many bytes of a tail are fed to a hash, for a name of a length: as many as it has, in eights
abbrev pub eights : ℕ → ℕ
eights length = min (8 * ((length + 7) / 8)) 36

-- what is fed of a place to a hash
abbrev pub long_fed : LongPlace → List (List ℕ)
long_fed p = fed.u128 (wide_of (two_of p.tree p.objectid) (two_of p.offset p.detail)) ++ (take (eights p.length) p.tail ∷ [])

-- the number of the part of a table that has its entry
abbrev pub part_of : LongPlace → ℕ
part_of p = part_at p.objectid
