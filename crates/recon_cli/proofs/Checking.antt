-- What a check comes to.
use Rattle.std.proofs.Common.{◌≡◌, ℕ, List, ◌++◌, Option, Some, IfSome, option_map, sym, ap, ◌∙◌, subst}
use Rattle.std.specs.Ordering.{nat_cmp}
use Rattle.std.specs.FinMap.{FinMap, empty}
use Rattle.write_cache.specs.Cache.{overlaid}
use Rattle.write_cache.proofs.CacheLaws.{overlaid-empty}
use Rattle.records.specs.FullCheck.{full_check}
use Rattle.verdict.specs.declared.finding.Verdict.{Verdict}
use Rattle.recon_cli.specs.Outcome.{verdict_status, verdict_text}
use Rattle.recon_cli.specs.Run.{ChecksAs}

-- what is said of the disk's bytes with nothing waiting is said of the image
pub checks_as : (image kept : List ℕ) (m : FinMap nat_cmp ℕ) (told now sink before : Option (List ℕ)) (status : ℕ) (r v : Verdict) → m ≡ empty → told ≡ Some image
    → now ≡ told → before ≡ Some kept → IfSome told (λ i. r ≡ full_check (overlaid m 0 i)) → r ≡ v → status ≡ verdict_status v
    → sink ≡ option_map (λ k. k ++ verdict_text v) before → ChecksAs image kept status now sink
checks_as image kept m told now sink before status r v none is same was found means status_is printed =
    let of_image : r ≡ full_check image = subst (λ o. IfSome o (λ i. r ≡ full_check (overlaid m 0 i))) is found ∙ ap full_check (ap (λ k. overlaid k 0 image) none ∙ overlaid-empty 0 image) in
    let says : v ≡ full_check image = sym means ∙ of_image in
    record {
      text = printed ∙ ap (option_map (λ k. k ++ verdict_text v)) was ∙ ap (λ w. Some (kept ++ verdict_text w)) says;
      status_is = status_is ∙ ap verdict_status says;
      device = same ∙ is;
    }
