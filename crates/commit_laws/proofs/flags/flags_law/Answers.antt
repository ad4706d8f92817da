use Rattle.commit_laws.proofs.next_index.Flags.{flags_kept}
use Rattle.commit_laws.proofs.named_items.All.{all_change}
use Rattle.commit_laws.proofs.named_items.Paired.{paired}
use Rattle.commit_laws.proofs.Records.{hold_same}
use Rattle.commit_laws.proofs.flags.flags_law.Goals as goal

pub returns : goal.returns
returns c = flags_kept hold_same paired all_change
