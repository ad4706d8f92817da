use Rattle.span_index.specs.Places.{file_cmp, has_file}
use Rattle.std.specs.BTreeMap.{is_at}
use Rattle.std.specs.List.{list_any}
use Rattle.std.proofs.Common.{ap}
use Rattle.span_index.proofs.files.Files.new.Goals as goal

pub returns : goal.returns
unfolding has_file
returns c = λ place. ap (list_any (is_at (file_cmp place))) c.new.ensures.empty
