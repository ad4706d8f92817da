use Rattle.live_index.specs.Table.{pairs_of}
use Rattle.span_index.specs.Table.{times_of}
use Rattle.change_records.proofs.AffectedLaws.{all_affected, both_ok, none_yet}
use Rattle.change_records.specs.Looks.{spans_of}
use Rattle.change_records.proofs.LookSums.{looks_most, stops_of}
use Rattle.change_records.proofs.ItemLaws.{are_alone, are_lawful}
use Rattle.change_records.proofs.kept_items.affected.Goals as goal

pub returns-clause-value : goal.returns-clause-value
returns-clause-value g c items are =
    both_ok c.listed.result c.listed.ensures.same c.listed.ensures.ascend (λ list same ordered.
    all_affected (g.B.Bases.chunks c.args.bases.now) c.args.fresh.now (g.B.Bases.superblock c.args.bases.now).nodesize
    (g.B.Bases.is_sum_free c.args.bases.now) (pairs_of (g.B.Bases.table c.args.bases.now)) c.in_ok-made.made (times_of c.args.spans.now) items
    c.args.old.now c.args.new.now c.args.changes.now c.search.new.refs list.items are c.in_ok-made.ensures
    (c.in_ok-search.ensures.found (λ at. none_yet c.new-refs.result at c.new-refs.ensures.empty)
    (are_lawful (g.B.Bases.superblock c.args.bases.now).nodesize (times_of c.args.spans.now) items are)
    (are_alone (g.B.Bases.superblock c.args.bases.now).nodesize (times_of c.args.spans.now) items are))
    same ordered)

pub returns-clause-looks : goal.returns-clause-looks
returns-clause-looks g c items are stops have apart new_apart housed =
    looks_most (g.B.Bases.chunks c.args.bases.now) c.args.fresh.now (g.B.Bases.is_sum_free c.args.bases.now) c.in_ok-made.made c.args.old.now c.args.new.now c.args.changes.now
    (spans_of (g.B.Bases.superblock c.args.bases.now).nodesize items) stops c.in_ok-made.ensures apart new_apart housed c.args.steps.now c.search.new.steps
    (c.search.ensures.looks (spans_of (g.B.Bases.superblock c.args.bases.now).nodesize items) are.spans stops
    (stops_of (times_of c.args.spans.now) (spans_of (g.B.Bases.superblock c.args.bases.now).nodesize items) stops are.spans have) new_apart)

pub returns-in_err-search-clause-looks : goal.returns-in_err-search-clause-looks
returns-in_err-search-clause-looks g c items are stops have apart new_apart housed =
    looks_most (g.B.Bases.chunks c.args.bases.now) c.args.fresh.now (g.B.Bases.is_sum_free c.args.bases.now) c.in_ok-made.made c.args.old.now c.args.new.now c.args.changes.now
    (spans_of (g.B.Bases.superblock c.args.bases.now).nodesize items) stops c.in_ok-made.ensures apart new_apart housed c.args.steps.now c.search.new.steps
    (c.search.ensures.looks (spans_of (g.B.Bases.superblock c.args.bases.now).nodesize items) are.spans stops
    (stops_of (times_of c.args.spans.now) (spans_of (g.B.Bases.superblock c.args.bases.now).nodesize items) stops are.spans have) new_apart)
