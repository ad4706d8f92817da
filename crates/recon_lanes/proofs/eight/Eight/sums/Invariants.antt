-- So far each place has its block's sum, and the places behind are still 0.
use Rattle.std.proofs.Common.{◌≡◌, ◌-◌, ◌++◌, take, map, replicate}
use Rattle.recon_crc.specs.Checksum.{crc32c_of}
use Rattle.recon_lanes.proofs.eight.Eight.sums.Given as goal

abbrev pub invariant-loop-place : goal.invariant-loop-place
invariant-loop-place l = l.sums ≡ map crc32c_of (take l.place l.self.blocks) ++ replicate (8 - l.place) 0
