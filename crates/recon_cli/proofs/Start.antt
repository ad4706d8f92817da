-- How a replay begins, and what it comes to as a whole.
use Rattle.std.proofs.Common.{◌≡◌, ℕ, List, ◌++◌, Option, Some, IfSome, option_map, Result, Ok, sym, ap, ◌∙◌, subst, append_assoc}
use Rattle.verdict.specs.declared.finding.Finding.{Finding}
use Rattle.records.specs.FullCheck.{full_check}
use Rattle.verdict.specs.declared.finding.Verdict.TheVariants.{Accept, Found}
use Rattle.recon_core.specs.declared.checker.Checker.{Checker}
use Rattle.recon_core.specs.Machine.{first_state}
use Rattle.recon_core.specs.Standing.{BeginsWith, StandsFor}
use Rattle.trace_reader.specs.Trace.{IsBytes}
use Rattle.trace_reader.proofs.Records.{one}
use Rattle.report.specs.declared.line.Line.TheVariants.{Image, Refused}
use Rattle.recon_cli.specs.declared.lines.Style.{Style}
use Rattle.recon_cli.specs.Outcome.{Outcome, line_in, no_counts, outcome_from, replay_by}
use Rattle.recon_cli.specs.Run.{ComesOut, Replays, ReplaysAs, record_limit}

-- what the start says of an image that is told
pub begun_over : {L : Type 0} (told : Option (List ℕ)) (image : List ℕ) (begun : Result (Checker L × ℕ) Finding) (checker : Checker L) (generation : ℕ) → told ≡ Some image
    → begun ≡ Ok (checker, generation) → IfSome told (λ i. BeginsWith i begun) → StandsFor checker (first_state image) × (full_check image ≡ Accept generation)
begun_over told image begun checker generation is came begins =
    subst (λ b. BeginsWith image b) came (subst (λ o. IfSome o (λ i. BeginsWith i begun)) is begins)

-- a replay over an accepted image
pub replays_accepted : (w : Style) (image bytes kept : List ℕ) (generation status : ℕ) (disk left sink : Option (List ℕ)) → full_check image ≡ Accept generation → IsBytes bytes
    → Replays w (first_state image) bytes (kept ++ line_in w (Image generation)) status disk left sink → ReplaysAs w image bytes kept status disk left sink
replays_accepted w image bytes kept generation status disk left sink accepted lawful run events ending spelled =
    let only = one record_limit bytes lawful in
    let a : events ≡ run.events = (only.3 events ending spelled).0 ∙ sym (only.3 run.events run.ending run.spelled).0 in
    let b : ending ≡ run.ending = (only.3 events ending spelled).1 ∙ sym (only.3 run.events run.ending run.spelled).1 in
    let o : Outcome = outcome_from w (first_state image) 0 no_counts run.events run.ending in
    let whole : ComesOut (replay_by w (Accept generation) image run.events run.ending) bytes kept status disk left sink = record {
      text = run.comes.text ∙ ap Some (append_assoc kept (line_in w (Image generation)) o.text);
      status_is = run.comes.status_is;
      device = run.comes.device;
      taken = run.comes.taken;
    } in
    subst (λ v. ComesOut (replay_by w v image events ending) bytes kept status disk left sink) (sym accepted)
    (subst (λ x. ComesOut (replay_by w (Accept generation) image events x) bytes kept status disk left sink) (sym b)
    (subst (λ x. ComesOut (replay_by w (Accept generation) image x run.ending) bytes kept status disk left sink) (sym a) whole))

-- a refused image
pub replays_refused : (w : Style) (image bytes kept : List ℕ) (finding : Finding) (status : ℕ) (disk left sink before : Option (List ℕ)) → full_check image ≡ Found finding
    → disk ≡ Some image → left ≡ Some bytes → before ≡ Some kept → status ≡ 1 → sink ≡ option_map (λ k. k ++ line_in w (Refused finding)) before
    → ReplaysAs w image bytes kept status disk left sink
replays_refused w image bytes kept finding status disk left sink before refused same unread was one_ printed events ending spelled =
    subst (λ v. ComesOut (replay_by w v image events ending) bytes kept status disk left sink) (sym refused) (record {
      text = printed ∙ ap (option_map (λ k. k ++ line_in w (Refused finding))) was;
      status_is = one_;
      device = same;
      taken = unread;
    })

pub printed_at : (sink before : Option (List ℕ)) (kept line : List ℕ) → before ≡ Some kept → sink ≡ option_map (λ k. k ++ line) before → sink ≡ Some (kept ++ line)
printed_at sink before kept line was printed = printed ∙ ap (option_map (λ k. k ++ line)) was
