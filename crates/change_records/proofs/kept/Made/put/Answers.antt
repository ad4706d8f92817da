use Rattle.std.proofs.Common.{rules}
use Rattle.change_records.proofs.MadeLaws.{joined, once_by}
use Rattle.change_records.proofs.kept.Made.put.Goals as goal

pub returns-in-InodeItem : goal.returns-in-InodeItem
returns-in-InodeItem c = joined c.set.result c.set.ensures.names c.set.ensures.flags c.set.ensures.once (λ names flags once. record {
  named = λ at. search rules;
  flags = λ tree ino free. search rules;
  once = once_by c.args.self.now c.name.new.self c.set.new.self c.in_ok-name.ensures.kept c.in_ok-name.ensures.inodes once;
})
