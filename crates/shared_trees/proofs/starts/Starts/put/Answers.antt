use Rattle.std.proofs.Common.{◌≡◌, ◌∙◌, ap, sym}
use Rattle.std.specs.BTreeMap as map
use Rattle.touched_blocks.specs.Marks.{by_pair, pair_place}
use Rattle.shared_trees.specs.declared.starts.Listed.{Listed}
use Rattle.tree_laws.specs.Listing.{with_start}
use Rattle.shared_trees.specs.Under.{starts_or, under_of}
use Rattle.shared_trees.proofs.Listed.{put_child}
use Rattle.shared_trees.proofs.starts.Starts.put.Goals as goal
use Rattle.shared_trees.proofs.starts.Starts.put.Goals.{in-Some, in-None}

pub returns : goal.returns
unfolding under_of
returns c =
    let old = starts_or (map.get by_pair c.args.self.now.under (pair_place c.args.tree c.args.address)) in
    let were : c.match-remove.listed.starts.items ≡ old =
    elim c.match-remove.branch [
      | in-Some w ↦ ap (λ (l : Listed). l.starts.items) w.listed-is ∙ ap starts_or (sym w.in-Some.is ∙ c.remove.ensures.value)
      | in-None w ↦ ap (λ (l : Listed). l.starts.items) w.listed-is ∙ (w.new.ensures.items ∙ ap starts_or (sym w.in-None.is ∙ c.remove.ensures.value))
    ] in
    put_child c.args.self.now.under c.remove.new.self c.insert.new.self c.args.tree c.args.address c.args.start c.put.new.self
    c.remove.ensures.updates c.in_ok-insert.ensures.updates (c.in_ok-put.ensures ∙ ap (with_start c.args.start) were)
