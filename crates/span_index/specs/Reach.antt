-- How far spans reach. It serves to state what private functions keep.
use Rattle.std.specs.Prelude.{ℕ, ◌+◌, nat_lt, if◌then◌else◌}
use Rattle.span_index.specs.declared.reach.Reach.{Reach}

-- how many reach past an address: none, one, or two and more
abbrev pub reaching : Reach → ℕ → ℕ
reaching reach address = (if nat_lt address reach.near then 1 else 0) + (if nat_lt address reach.far then 1 else 0)
