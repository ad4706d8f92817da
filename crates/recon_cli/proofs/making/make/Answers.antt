use Rattle.std.proofs.Common.{◌≡◌, inl, inr, length, refl, ap, ◌∙◌}
use Rattle.recon_cli.proofs.Made.{past_base_of}
use Rattle.recon_cli.proofs.making.make.Goals as goal

pub returns-in_default-put_image-clause-outcome : goal.returns-in_default-put_image-clause-outcome
returns-in_default-put_image-clause-outcome g c =
    let size : length c.as_slice.result.now ≡ 33554432 = ap length c.as_slice.ensures ∙ c.in-Ok-base_image.ensures.long in
    inr (inl (refl, past_base_of _ _ _ (length c.as_slice.result.now) (cc) size c.in_default-put_image.ensures.device.left, refl))
