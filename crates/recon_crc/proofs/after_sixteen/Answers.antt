use Rattle.recon_crc.proofs.Slicing.{register_after-sixteen}
use Rattle.recon_crc.proofs.after_sixteen.Goals as goal

pub returns : goal.returns
returns c =
    let all = register_after-sixteen c.args.register c.args.bytes.now c.requires in
    cc (all, c.after_four.ensures, c.after_four-2.ensures, c.after_four-3.ensures, c.after_four-4.ensures)
