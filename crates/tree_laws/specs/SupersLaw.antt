-- What superblocks give alike by which blocks are read alike.
use Rattle.std.specs.Prelude.{◌≡◌, true}
use Rattle.super_reader.specs.declared.Super.{Super}
use Rattle.node_reader.specs.Stored.{Stored}
use Rattle.node_reader.specs.declared.expect.Expect.{Expect}
use Rattle.records.specs.WalkLaw.{visited}
use Rattle.tree_laws.specs.Keeping.{live_at}
use Rattle.tree_laws.specs.Stops.{stops_of}
use Rattle.tree_laws.specs.Shared.{are_read_alike}
use Rattle.tree_laws.specs.Skips.{Anew, Kept}

-- walks by two superblocks come to the same blocks, know the same of each, and stop at the same
pub record GiveAlike (a b : Super) : Type 0 where
  pub comes : (stored : Stored) (e : Expect) → visited a stored e ≡ visited b stored e
  pub lives : (stored : Stored) (e : Expect) → live_at a stored e ≡ live_at b stored e
  pub stops : (kept : Kept) (anew : Anew) (stored : Stored) (e : Expect) → stops_of kept anew a stored e ≡ stops_of kept anew b stored e

-- superblocks by which blocks are read alike give these alike
abbrev pub SupersLaw : Type 0
SupersLaw = (a b : Super) → are_read_alike a b ≡ true → GiveAlike a b
