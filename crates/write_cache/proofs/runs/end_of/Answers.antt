use Rattle.std.proofs.Common.{◌+◌, ◌<◌, length, arith}
use Rattle.write_cache.proofs.RunLaws.{end_fits}
use Rattle.write_cache.proofs.runs.end_of.Goals as goal

pub overflow_add-result : goal.overflow_add-result
overflow_add-result c =
    let fits : c.args.begin + length c.unwrap.result.now < 18446744073709551616 = end_fits c.args.runs.now.entries c.args.begin c.get.result c.unwrap.result c.requires.kept c.get.ensures.value c.unwrap.ensures in
    omega arith
