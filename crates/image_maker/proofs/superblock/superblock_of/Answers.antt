use Rattle.std.proofs.Common.{drop, ap, ◌∙◌}
use Rattle.recon_bytes.specs.Field.{with_field}
use Rattle.recon_crc.specs.Checksum.{crc32c_of}
use Rattle.verdict.specs.Image.{applied}
use Rattle.image_maker.specs.Superblock.{front_parts, device_parts, system_parts, summed, superblock_bytes}
use Rattle.image_maker.proofs.Puts.{blank_superblock}
use Rattle.image_maker.proofs.superblock.superblock_of.Goals as goal

pub returns : goal.returns
unfolding superblock_bytes summed
returns c =
    let front = c.put_front.ensures ∙ ap (λ b. applied b (front_parts c.args.generation c.args.root)) blank_superblock in
    let device = c.put_device.ensures ∙ ap (λ b. applied b device_parts) front in
    let system = c.put_system_chunk.ensures ∙ ap (λ b. applied b system_parts) device in
    c.with_checksum.ensures ∙ ap (λ b. with_field 4 b 0 (crc32c_of (drop 32 b))) system
