use Rattle.std.proofs.Common.{◌≡◌, ℕ, List, length, refl, ap, ◌∙◌}
use Rattle.trace_maker.proofs.Gathering.{whole_superblock}
use Rattle.trace_maker.proofs.writes.superblock_write.Goals as goal

pub returns : goal.returns
returns c =
    let bytes = c.in_ok-held.field-0 in
    let size : length bytes ≡ 4096 = ap (λ (b : List ℕ). length b) c.in_ok-held.ensures.same ∙ c.superblock.ensures in
    whole_superblock 65536 bytes refl size c.in_ok-held.ensures.lawful
