use Rattle.verdict.proofs.Lists.{all_behind}
use Rattle.volume_items.proofs.Rows.{row_at_stripes, row_kept}
use Rattle.volume_items.proofs.chunk.read_chunk.Goals as goal

pub returns-in-Some-stripes_fault-clause-row : goal.returns-in-Some-stripes_fault-clause-row
returns-in-Some-stripes_fault-clause-row c = row_at_stripes _ _ _ _ _ _ _ _ c.frame_fault.ensures.found c.in_default.is c.field_fault.ensures.found c.in_default-field_fault.is c.get_u64-length.ensures (all_behind 48 c.args.bytes.now) (c.in-Some-stripes_fault.ensures {u = tt})

pub returns-clause-row : goal.returns-clause-row
returns-clause-row c = row_kept _ _ _ _ _ _ _ _ _ c.frame_fault.ensures.found c.in_default.is c.field_fault.ensures.found c.in_default-field_fault.is c.get_u64-length.ensures c.get_u64.ensures (all_behind 48 c.args.bytes.now) c.stripes_fault.ensures c.in_default-stripes_fault.is
