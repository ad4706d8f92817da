use Rattle.image_maker.specs.Superblock.{system_parts}
use Rattle.image_maker.specs.Ids.{device_uuid}
use Rattle.image_maker.proofs.superblock.put_system_chunk.Goals as goal

pub returns : goal.returns
unfolding system_parts device_uuid
returns c = cc
