use Rattle.std.proofs.Common.{◌+◌, ◌-◌, ◌*◌}
use Rattle.std.specs.List.{flat_map}
use Rattle.accounts.proofs.SoFar.{PostsSoFar}
use Rattle.records.specs.SpacePostings.{sectors_from}
use Rattle.space_rules.specs.RunPostings.{run_postings, use_postings}
use Rattle.space_rules.proofs.sectors.post_run.Given as goal

-- the sectors from this one on are left
abbrev pub invariant-loop-i : goal.invariant-loop-i
invariant-loop-i l = PostsSoFar l.fn.into l.into
    (run_postings l.run)
    (flat_map (use_postings l.run.sort) (sectors_from (l.run.first + l.i * 4096) (l.run.count - l.i)))
