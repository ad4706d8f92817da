use Rattle.std.proofs.Common.{List, sym, subst}
use Rattle.std.specs.List.{Contains}
use Rattle.volume_maker.specs.declared.tree.Tree.{Tree}
use Rattle.volume_maker.specs.Live.{all_blocks}
use Rattle.trace_maker.proofs.Gathering.{has_none, more_of_tree, among_files, among_sums, among_subvolumes, among_extents, among_roots}
use Rattle.trace_maker.proofs.maker.Maker.add_copies.Goals as goal

pub loop-tree-init : goal.loop-tree-init
loop-tree-init c =
    let generation = c.args.generation in
    let trees = c.args.self.now.trees in
    let first = c.args.into.now.items in
    let mid = c.add_tree.new.into.items in
    more_of_tree generation trees trees.sums c.args.copy first mid c.add_tree-2.new.into.items (among_sums trees)
    (more_of_tree generation trees trees.files c.args.copy first first mid (among_files trees)
    (has_none generation (all_blocks trees) c.args.copy first) c.in_ok-add_tree.ensures) c.in_ok-add_tree-2.ensures

pub loop-tree-preserved : goal.loop-tree-preserved
loop-tree-preserved c =
    let trees = c.args.self.now.trees in
    let tree = c.tree-item.result in
    let P : List Tree → Type 0 = λ l. Contains l tree in
    let one = subst P c.deref-tree-items.ensures.value (c.loop-tree.tree-index, c.loop-tree-test.true, sym c.tree-item.is) in
    more_of_tree c.args.generation trees tree c.args.copy c.args.into.now.items c.loop-tree.into.items c.add_tree-in-loop-tree.new.into.items
    (λ x h. among_subvolumes trees tree x one h) c.loop-tree.invariant c.in_ok-add_tree-3.ensures

pub returns : goal.returns
returns c =
    let generation = c.args.generation in
    let trees = c.args.self.now.trees in
    let first = c.args.into.now.items in
    let mid = c.add_tree-3.new.into.items in
    more_of_tree generation trees trees.roots c.args.copy first mid c.add_tree-4.new.into.items (among_roots trees)
    (more_of_tree generation trees trees.extents c.args.copy first c.loop-tree.into.items mid (among_extents trees)
    c.loop-tree.invariant c.in_ok-add_tree-4.ensures) c.in_ok-add_tree-5.ensures
