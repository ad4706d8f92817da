-- What private functions say of merged lists.
use Rattle.std.specs.Prelude.{ℕ, ◌+◌, ◌^◌, ◌==◌, nat_lt, Bool, List}
use Rattle.std.specs.List.{list_any}
use Rattle.verdict.specs.OnDisk.{key_same}
use Rattle.verdict.specs.declared.key.Key.{Key}
use Rattle.verdict.specs.declared.place.Chunk.{Chunk}
use Rattle.volume_items.specs.declared.root_at.RootAt.{RootAt}

-- whether one of some chunks begins at an address, and whether one of some trees has a root item of this key
abbrev pub has_start : List Chunk → ℕ → Bool
has_start some start = list_any (λ (one : Chunk). one.start == start) some

abbrev pub has_key : List RootAt → Key → Bool
has_key some key = list_any (λ (one : RootAt). key_same one.key key) some

-- whether a chunk ends at an address of 64 bits
abbrev pub fits : Chunk → Bool
fits chunk = nat_lt (chunk.start + chunk.length) (2 ^ 64)
