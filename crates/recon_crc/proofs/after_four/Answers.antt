use Rattle.std.proofs.Common.{arith}
use Rattle.recon_crc.proofs.Slicing.{register_after-four}
use Rattle.recon_crc.proofs.after_four.Goals as goal

pub returns : goal.returns
returns c =
    let all = register_after-four c.args.register c.args.behind c.args.bytes.now (omega arith) c.requires.four (λ i. omega (arith, c.type_inv.bytes i)) in
    cc (all, c.through.ensures, c.through-2.ensures, c.through-3.ensures, c.through-4.ensures, c.from.ensures, c.from-2.ensures, c.from-3.ensures, c.from-4.ensures)
