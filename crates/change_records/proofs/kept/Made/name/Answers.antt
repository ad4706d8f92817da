use Rattle.std.proofs.Common.{refl}
use Rattle.change_records.specs.Made.{flag_by, has_name}
use Rattle.change_records.proofs.MadeLaws.{name_put}
use Rattle.change_records.proofs.kept.Made.name.Goals as goal

pub returns-clause-names : goal.returns-clause-names
unfolding has_name
returns-clause-names c at = name_put _ _ _ at c.in_ok-insert.ensures.updates

pub returns-clause-flags : goal.returns-clause-flags
unfolding flag_by
returns-clause-flags c t i f = refl
