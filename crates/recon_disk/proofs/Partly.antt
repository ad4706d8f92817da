-- A write of which a front was kept.
use Rattle.std.proofs.Common.{◌≡◌, ℕ, ◌+◌, ◌≤◌, ◌⊎◌, inl, inr, List, length, take, ap, arith}
use Rattle.std.proofs.lemmas.List.{take_all, length-take-le}
use Rattle.recon_disk.proofs.Sending.{written-nil}
use Rattle.verdict.specs.Image.{written}
use Rattle.verdict.proofs.Images.{length-written, take-written, drop-written}
use Rattle.recon_disk.specs.Outside.{IsPartlyWritten}

whole_or_none : (image bytes : List ℕ) (at keep : ℕ) → (keep ≡ 0) ⊎ (keep ≡ 4096) → length bytes ≡ 4096
    → (written image at (take keep bytes) ≡ image) ⊎ (written image at (take keep bytes) ≡ written image at bytes)
whole_or_none image bytes at keep (inl e) n = inl (rw e (written-nil image at))
whole_or_none image bytes at keep (inr e) n = inr (ap (written image at) (take_all keep bytes (omega arith)))

pub partly : (image bytes : List ℕ) (at keep : ℕ) → keep ≤ length bytes → at + length bytes ≤ length image
    → (at ≡ 65536 → length bytes ≡ 4096 → (keep ≡ 0) ⊎ (keep ≡ 4096))
    → IsPartlyWritten image at bytes (written image at (take keep bytes))
partly image bytes at keep few fits whole =
    let n : length (take keep bytes) ≡ keep = length-take-le keep bytes few in
    record {
      same_length = length-written image (take keep bytes) at (omega arith);
      before = take-written image (take keep bytes) at at (omega arith) (omega arith);
      behind = drop-written image (take keep bytes) at (at + length bytes) (omega arith) (omega arith);
      whole = λ a b. whole_or_none image bytes at keep (whole a b) b;
    }
