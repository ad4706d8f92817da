use Rattle.std.proofs.Common.{◌&&◌, cond, ap, ◌∙◌, subst}
use Rattle.std.specs.Prelude.{◌==◌, Some}
use Rattle.std.specs.Option.{unwrap_or}
use Rattle.std.specs.BTreeMap as map
use Rattle.std.specs.BTreeSet as set
use Rattle.change_records.specs.Refs.{ref_cmp}
use Rattle.change_records.specs.Listed.{inode_cmp}
use Rattle.change_records.specs.Made.{flag_by, has_name}
use Rattle.change_records.proofs.MadeLaws.{flag_put, listed_insert, once_put}
use Rattle.change_records.proofs.kept.Made.set.Goals as goal

pub returns-clause-names : goal.returns-clause-names
unfolding has_name
returns-clause-names c at = ap (λ n. set.contains ref_cmp n at) c.list.ensures.named

pub returns-clause-flags : goal.returns-clause-flags
unfolding flag_by
returns-clause-flags c t i f =
    flag_put c.list.new.self.flags c.insert.new.self (record { tree = c.args.tree; ino = c.args.ino }) c.args.free t i f c.in_ok-insert.ensures.updates
    ∙ ap (λ m. cond (c.args.tree == t && c.args.ino == i) c.args.free (unwrap_or (map.get inode_cmp m (record { tree = t; ino = i })) f)) c.list.ensures.flags

pub invariant_of-self : goal.invariant_of-self
invariant_of-self c = record {
  listed = listed_insert c.list.new.self.flags c.insert.new.self c.list.new.self.inodes.items (record { tree = c.args.tree; ino = c.args.ino }) c.args.free c.insert.result
      c.in_ok-list.ensures.there c.insert.ensures.updates c.insert.ensures.err c.list.new.self.listed;
}

pub returns-clause-once : goal.returns-clause-once
returns-clause-once c most had =
    once_put c.args.self.now.flags c.insert.new.self c.args.self.now.inodes.items c.list.new.self.inodes.items (record { tree = c.args.tree; ino = c.args.ino }) c.args.free
    (subst (λ m. map.Updates inode_cmp m c.insert.new.self (record { tree = c.args.tree; ino = c.args.ino }) (Some c.args.free)) c.list.ensures.flags c.in_ok-insert.ensures.updates)
    c.in_ok-list.ensures.inodes most had
