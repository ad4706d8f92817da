-- The made image has its length.
use Rattle.std.proofs.Common.{◌≡◌, length, ◌∙◌}
use Rattle.verdict.proofs.Images.{length-applied}
use Rattle.image_maker.specs.Numbers.{zeros}
use Rattle.image_maker.specs.BaseImage.{base_image_bytes, base_parts}
use Rattle.image_maker.proofs.Numbers.{length-zeros}

pub length_base : length base_image_bytes ≡ 33554432
unfolding base_image_bytes
length_base = length-applied (zeros 33554432) base_parts ∙ length-zeros 33554432
