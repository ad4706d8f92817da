use Rattle.verdict.proofs.Lists.{all_behind}
use Rattle.extent_items.proofs.Behind.{extent_kept}
use Rattle.extent_items.proofs.extent.read_extent.Goals as goal

pub returns : goal.returns
returns c = extent_kept _ _ _ _ _ _ _ _ _ c.head_fault.ensures.found c.in_default.is c.references_fault.ensures c.in_default-references_fault.is c.get_u64.ensures c.get_u64-2.ensures c.get_u64-3.ensures (all_behind 24 c.args.bytes.now)
