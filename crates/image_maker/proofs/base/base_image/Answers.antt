use Rattle.std.proofs.Common.{◌≡◌, length, ap, ◌∙◌}
use Rattle.std.proofs.lemmas.Result.{IfOk-weaker}
use Rattle.image_maker.specs.BaseImage.{base_image_bytes}
use Rattle.image_maker.proofs.Long.{length_base}
use Rattle.image_maker.proofs.base.base_image.Goals as goal

pub returns-clause-long : goal.returns-clause-long
returns-clause-long c =
    IfOk-weaker c.filled.result (λ b. b ≡ base_image_bytes) (λ b. length b ≡ 33554432) (λ b is. ap length is ∙ length_base) c.filled.ensures
