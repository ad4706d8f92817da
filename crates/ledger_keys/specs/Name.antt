-- Which accounts are of names of regular files, two to a name.
use Rattle.std.specs.Prelude.{ℕ, Bool, nat_eq, ◌-◌, ◌^◌, ◌++◌, ◌&&◌, ◌==◌, nat_lt, List, [], ◌∷◌, length, take, drop, Option, Some, None, if◌then◌else◌}
use Rattle.std.specs.Cmp.Lexicographic.{pointwise}
use Rattle.accounts.specs.declared.account.Account.{Account}
use Rattle.ledger_keys.specs.declared.long_place.LongPlace.{LongPlace}
use Rattle.ledger_keys.specs.declared.name.Name.{Name}
use Rattle.ledger_keys.specs.declared.name.Side.{Side}
use Rattle.ledger_keys.specs.declared.name.Side.TheVariants.{Entry, Link}
use Rattle.ledger_keys.specs.LongPlace.{is_same_long, long_of}
use Rattle.ledger_keys.specs.Side.{is_same_side}

-- the place of both: that of the link of an inode in a directory, with index 0
unfoldable pub link_of : ℕ → ℕ → ℕ → ℕ → List ℕ → Option LongPlace
link_of block tree inode dir name = long_of (record {
  kind = 12;
  tree = tree;
  block = block;
  key = record { objectid = inode; kind = 12; offset = dir };
  detail = 0;
  tail = name;
})

abbrev pub name_at : Side → Option LongPlace → Option Name
name_at side None = None
name_at side (Some place) = Some (record { place = place; side = side })

-- the link of the inode, whose detail is the index
abbrev pub of_link : Account → Option Name
of_link a =
    if nat_lt a.detail (2 ^ 32) then name_at (Link a.detail) (link_of a.block a.tree a.key.objectid a.key.offset a.tail) else None

-- what stands behind the name in the entry of a regular file: its type, and the kind of its item
abbrev pub behind : List ℕ
behind = 1 ∷ 1 ∷ []

-- the entry of the directory, whose offset is the hash
abbrev pub of_entry : Account → Option Name
of_entry a =
    if pointwise nat_eq (drop (length a.tail - 2) a.tail) behind && nat_lt a.key.offset (2 ^ 32)
    then name_at (Entry a.key.offset) (link_of a.block a.tree a.detail a.key.objectid (take (length a.tail - 2) a.tail))
    else None

-- the name that an account is of, if it is of one
unfoldable pub name_of : Account → Option Name
name_of a =
    if a.kind == 12 && a.key.kind == 12 then of_link a
    else (if a.kind == 11 && a.key.kind == 84 then of_entry a else None)

-- the account of a side of a name
abbrev pub account_at : LongPlace → Side → Account
account_at p (Link index) = record {
  kind = 12;
  tree = p.tree;
  block = 0;
  key = record { objectid = p.objectid; kind = 12; offset = p.offset };
  detail = index;
  tail = take p.length p.tail;
}
account_at p (Entry hash) = record {
  kind = 11;
  tree = p.tree;
  block = 0;
  key = record { objectid = p.offset; kind = 84; offset = hash };
  detail = p.objectid;
  tail = take p.length p.tail ++ behind;
}

-- whether two names are one
abbrev pub is_same_name : Name → Name → Bool
is_same_name x y = is_same_long x.place y.place && is_same_side x.side y.side
