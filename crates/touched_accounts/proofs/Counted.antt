-- A counter of looks, some looks later.
use Rattle.std.proofs.Common.{◌≡◌, ℕ, ◌+◌, ◌≤◌, ap, sym, ◌∙◌, arith}
use Rattle.recon_disk.specs.Outside.{counted}
use Rattle.ledger_index.specs.Looks.{counted_times}
use Rattle.ledger_index.specs.LooksLaws.{counted_suc}
use Rattle.touched_accounts.specs.Looks.{HaveLooks}

-- one look more
pub counted_next : (n before between after : ℕ) → between ≡ counted_times n before → after ≡ counted between → after ≡ counted_times (n + 1) before
counted_next n before between after was more = more ∙ ap counted was ∙ sym (counted_suc n (n + 1) before (omega arith))

-- one entry more at most, with a look
pub looks_more : (begun old new before after : ℕ) → new ≤ old + 1 → after ≡ counted before → HaveLooks begun old before → HaveLooks begun new after
looks_more begun old new before after few more have = omega (arith, few, more, have)

-- looks more
pub looks_stay : (begun entries before after : ℕ) → after ≡ counted before → HaveLooks begun entries before → HaveLooks begun entries after
looks_stay begun entries before after more have = omega (arith, more, have)
