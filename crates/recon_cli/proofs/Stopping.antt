-- What a run leaves that stops at the line of the image, and the statuses of runs that stop.
use Rattle.std.proofs.Common.{◌≡◌, ℕ, inl, inr, List, ◌++◌, Option, Some, IfSome, Result, Ok, Err, IfErr, IsErrAnd, sym, ap, ◌∙◌, subst}
use Rattle.std.specs.Ordering.{nat_cmp}
use Rattle.std.specs.FinMap.{FinMap, empty}
use Rattle.write_cache.specs.Cache.{overlaid}
use Rattle.write_cache.proofs.CacheLaws.{overlaid-empty}
use Rattle.verdict.specs.declared.finding.Verdict.{Verdict}
use Rattle.verdict.specs.declared.finding.Verdict.TheVariants.{Accept}
use Rattle.records.specs.FullCheck.{full_check}
use Rattle.recon_disk.specs.Outside.{MayBeAppended}
use Rattle.recon_core.specs.Machine.{first_state}
use Rattle.report.specs.declared.line.Line.TheVariants.{Image}
use Rattle.recon_cli.specs.declared.lines.Style.{Style}
use Rattle.recon_cli.specs.declared.run_fault.RunFault.{RunFault}
use Rattle.recon_cli.specs.declared.run_fault.RunFault.TheVariants.{Device, Trace, Lines, Memory}
use Rattle.recon_cli.specs.Outcome.{line_in, verdict_text}
use Rattle.recon_cli.specs.Stopped.{CheckStops, HasNoLine, StopsAs, StopsFrom, image_line}
use Rattle.recon_cli.specs.Stopping.{IsCutPrint}

-- a line that was cut
pub no_line : (kept line : List ℕ) (cause : RunFault) (before sink : Option (List ℕ)) → before ≡ Some kept → IsCutPrint before line cause sink → HasNoLine kept line cause sink
no_line kept line Device before sink was cut = absurd cut
no_line kept line Trace before sink was cut = absurd cut
no_line kept line Lines before sink was cut = subst (λ o. MayBeAppended o line sink) was cut
no_line kept line Memory before sink was cut = cut ∙ was

-- a replay that stops at the line of its image
pub first_stops : (w : Style) (image bytes kept : List ℕ) (verdict : Verdict) (cause : RunFault) (disk left before sink : Option (List ℕ)) → full_check image ≡ verdict → disk ≡ Some image → left ≡ Some bytes
    → before ≡ Some kept → IsCutPrint before (image_line w verdict) cause sink → StopsAs w image bytes kept cause disk left sink
first_stops w image bytes kept verdict cause disk left before sink said device untaken was cut =
    inl (record {
      device = device;
      left_is = untaken;
      line = subst (λ v. HasNoLine kept (image_line w v) cause sink) (sym said) (no_line kept (image_line w verdict) cause before sink was cut);
    })

-- one that stops later
pub later_stops : (w : Style) (image bytes kept : List ℕ) (generation : ℕ) (cause : RunFault) (disk left sink : Option (List ℕ)) → full_check image ≡ Accept generation
    → StopsFrom w (first_state image) bytes (kept ++ line_in w (Image generation)) cause disk left sink → StopsAs w image bytes kept cause disk left sink
later_stops w image bytes kept generation cause disk left sink accepted stops = inr (record { generation = generation; accepted = accepted; stops = stops })

-- a check that stops at its line: what is said of the disk's bytes with nothing pending is said of the image
pub check_stops : (image kept : List ℕ) (m : FinMap nat_cmp ℕ) (told now before sink : Option (List ℕ)) (cause : RunFault) (r v : Verdict) → m ≡ empty → told ≡ Some image
    → now ≡ told → before ≡ Some kept → IfSome told (λ i. r ≡ full_check (overlaid m 0 i)) → r ≡ v → IsCutPrint before (verdict_text v) cause sink → CheckStops image kept cause now sink
check_stops image kept m told now before sink cause r v none is same was found means cut =
    let of_image : r ≡ full_check image = subst (λ o. IfSome o (λ i. r ≡ full_check (overlaid m 0 i))) is found ∙ ap full_check (ap (λ k. overlaid k 0 image) none ∙ overlaid-empty 0 image) in
    record {
      device = same ∙ is;
      line = subst (λ u. HasNoLine kept (verdict_text u) cause sink) (sym means ∙ of_image) (no_line kept (verdict_text v) cause before sink was cut);
    }

-- what is handed on as it came
pub handed : {T : Type 0} (P : RunFault → Type 0) (r : Result T RunFault) (cause : RunFault) → IsErrAnd r (λ e. e ≡ cause) → P cause → IfErr r P
handed P (Ok x) cause is p = tt
handed P (Err e) cause is p = subst P (sym is) p
