-- What private functions keep of the greatest keys of blocks.
use Rattle.std.specs.Prelude.{ℕ, ◌==◌, List, if◌then◌else◌}
use Rattle.std.specs.List.{fold}
use Rattle.verdict.specs.Rules.{no_key}
use Rattle.verdict.specs.declared.key.Key.{Key}
use Rattle.tree_laws.specs.declared.told.Ended.{Ended}
use Rattle.tree_change.specs.declared.lasts.LastKey.{LastKey}

-- a block that a walk was done with, by its address alone
abbrev pub last_key_of : Ended → LastKey
last_key_of one = record { address = one.expect.address; key = one.last }

-- the last of some greatest keys that is of the block at an address, (0, 0, 0) where none is
abbrev pub with_key : ℕ → Key → LastKey → Key
with_key address key one = if one.address == address then one.key else key

abbrev pub key_at : List LastKey → ℕ → Key
key_at keys address = fold (with_key address) no_key keys
