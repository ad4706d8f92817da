use Rattle.std.proofs.Common.{ℕ, List, ap, arith}
use Rattle.std.specs.List.{flat_map}
use Rattle.accounts.specs.declared.postings.Posting.{Posting}
use Rattle.accounts.proofs.SoFar.{so_far_all, so_far_cut, so_far_more}
use Rattle.space_rules.specs.RunPostings.{use_postings}
use Rattle.space_rules.proofs.Behind.{sector_next, sector_none}
use Rattle.space_rules.proofs.sectors.post_run.Goals as goal

pub returns-in_err-post_sector : goal.returns-in_err-post_sector
returns-in_err-post_sector c =
    let each : List ℕ → List Posting = flat_map (use_postings c.args.run.sort) in
    so_far_cut _ _ _ _ _ _ _ _ c.from_residual.ensures.0 c.loop-i.invariant (ap each (sector_next c.args.run.first c.args.run.count c.loop-i.i (omega arith))) c.in_err-post_sector.ensures.some

pub loop-i-preserved : goal.loop-i-preserved
loop-i-preserved c =
    let each : List ℕ → List Posting = flat_map (use_postings c.args.run.sort) in
    so_far_more _ _ _ _ _ _ _ c.loop-i.invariant (ap each (sector_next c.args.run.first c.args.run.count c.loop-i.i (omega arith))) c.in_ok-post_sector.ensures.all

pub returns : goal.returns
returns c =
    let each : List ℕ → List Posting = flat_map (use_postings c.args.run.sort) in
    so_far_all _ _ _ _ _ c.loop-i.invariant (ap each (sector_none c.args.run.first c.args.run.count c.loop-i.i (omega arith)))
