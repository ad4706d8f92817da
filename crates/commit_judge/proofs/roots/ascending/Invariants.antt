use Rattle.std.proofs.Common.{◌≡◌, take}
use Rattle.chunk_map.specs.Roots.{KeysAscend}
use Rattle.commit_judge.proofs.roots.ascending.Given as goal

-- those that are kept ascend, and of a list that ascends all are kept
abbrev pub invariant-loop-root : goal.invariant-loop-root
invariant-loop-root l = record {
  ascend : KeysAscend l.list.items;
  same : KeysAscend l.roots → l.list.items ≡ take l.root-index l.roots;
}
