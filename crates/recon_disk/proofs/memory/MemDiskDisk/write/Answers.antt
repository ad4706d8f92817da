use Rattle.std.proofs.Common.{refl}
use Rattle.recon_disk.proofs.Partly.{partly}
use Rattle.recon_disk.proofs.memory.MemDiskDisk.write.Goals as goal

-- the front that was kept
pub returns-in-Some-clause-partly : goal.returns-in-Some-clause-partly
returns-in-Some-clause-partly c =
    (_, refl, rw c.overwrite.ensures.bytes (partly _ _ _ _ c.kept_of-keep.ensures.within c.requires.inside c.kept_of-keep.ensures.whole))
