use Rattle.std.proofs.Common.{◌%◌, arith, sym, ap, ◌∙◌, add-one}
use Rattle.std.specs.Fn.{iterate}
use Rattle.recon_crc.specs.Checksum.{eight_steps}
use Rattle.recon_crc.proofs.Rows.{table_entry}
use Rattle.recon_crc.proofs.through.Goals as goal

pub returns : goal.returns
returns c =
    table_entry c.args.behind (c.args.register % 256) c.requires (omega arith)
    ∙ ap (λ n. iterate eight_steps n (c.args.register % 256)) (sym (add-one c.args.behind))
