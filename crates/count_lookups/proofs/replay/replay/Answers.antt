use Rattle.std.proofs.Common.{◌≡◌, ◌∙◌, ℕ, Ok, Result, ap, arith, subst, sym}
use Rattle.verdict.specs.declared.finding.Finding.{Finding}
use Rattle.recon_core.specs.declared.checker.Checker.{Checker}
use Rattle.recon_core.specs.Standing.{BeginsOpen, IsFirst}
use Rattle.recon_core.proofs.Nothing.{below_where_none}
use Rattle.count_lookups.proofs.replay.replay.Goals as goal

-- how a checker begins, where the image is accepted
first_of : {L : Type 0} (len : ℕ) (begun : Result (Checker L × ℕ) Finding) (checker : Checker L) (generation : ℕ)
    → begun ≡ Ok (checker, generation) → BeginsOpen len begun → IsFirst len checker
first_of len begun checker generation is = subst (BeginsOpen len) is

-- nothing is read yet, and nothing waits in a checker that begins
pub records-init : goal.records-init
records-init g c =
    let first = first_of _ c.in-Ok-Ok.field-0 c.in-Ok-Ok.checker c.in-Ok-Ok.field-0-0-1 c.in-Ok-Ok.field-0-is c.in-Ok-Ok.ensures.ready in
    record {
      live = ap (λ r. r.live) c.new-reader.ensures;
      few = omega (arith, ap (λ r. r.whole) c.new-reader.ensures);
      size = first.2 ∙ sym c.in-Ok-Ok.ensures.kept.len;
      below = below_where_none c.in-Ok-Ok.checker.length c.in-Ok-Ok.checker.cache first.0;
    }
