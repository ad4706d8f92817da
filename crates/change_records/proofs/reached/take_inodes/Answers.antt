use Rattle.std.proofs.Common.{◌+◌, ◌∙◌, ◌≤◌, not, sym, subst, take, ap, get_or}
use Rattle.std.specs.Bool.{beq}
use Rattle.live_index.specs.Table.{pairs_of}
use Rattle.span_index.specs.Table.{times_of}
use Rattle.change_records.specs.Made.{flag_by}
use Rattle.change_records.specs.Passes.{inodes_looks}
use Rattle.change_records.specs.Search.{IsShownBy, Searched, ShowsChanged, known, new_flags}
use Rattle.change_records.proofs.LookLaws.{inodes_all, inodes_end, inodes_more, inodes_skip}
use Rattle.change_records.proofs.SearchLaws.{beq_same, inode_parts_more, inode_same_more, searched_both, searched_less}
use Rattle.change_records.proofs.reached.take_inodes.Goals as goal
use Rattle.change_records.proofs.reached.take_inodes.Goals.{then-flag-was+in_ok-take_file, else-flag-was}

pub loop-inode-preserved : goal.loop-inode-preserved
loop-inode-preserved g c = record {
  searched = λ lawful alone. elim c.if-flag-was.branch [
    | then-flag-was+in_ok-take_file w ↦
        subst (Searched (known (g.B.Bases.chunks c.args.sides.now.bases.now) (g.B.Bases.superblock c.args.sides.now.bases.now).nodesize (g.B.Bases.is_sum_free c.args.sides.now.bases.now)
        (pairs_of (g.B.Bases.table c.args.sides.now.bases.now)) c.args.sides.now.fresh.now c.args.sides.now.made.now)
        (times_of c.args.spans.now) (ShowsChanged c.args.inodes.now (g.B.Bases.is_sum_free c.args.sides.now.bases.now) (new_flags c.args.sides.now.made.now (g.B.Bases.is_sum_free c.args.sides.now.bases.now)) (c.loop-inode.inode-index + 1)) c.args.refs.now) (sym w.refs-is)
        (searched_both (known (g.B.Bases.chunks c.args.sides.now.bases.now) (g.B.Bases.superblock c.args.sides.now.bases.now).nodesize (g.B.Bases.is_sum_free c.args.sides.now.bases.now)
        (pairs_of (g.B.Bases.table c.args.sides.now.bases.now)) c.args.sides.now.fresh.now c.args.sides.now.made.now)
        (times_of c.args.spans.now) (ShowsChanged c.args.inodes.now (g.B.Bases.is_sum_free c.args.sides.now.bases.now) (new_flags c.args.sides.now.made.now (g.B.Bases.is_sum_free c.args.sides.now.bases.now)) c.loop-inode.inode-index) (IsShownBy _ _)
        (ShowsChanged c.args.inodes.now (g.B.Bases.is_sum_free c.args.sides.now.bases.now) (new_flags c.args.sides.now.made.now (g.B.Bases.is_sum_free c.args.sides.now.bases.now)) (c.loop-inode.inode-index + 1)) c.args.refs.now c.loop-inode.refs w.take_file.new.refs
        (λ span. inode_parts_more c.args.inodes.now (g.B.Bases.is_sum_free c.args.sides.now.bases.now) (new_flags c.args.sides.now.made.now (g.B.Bases.is_sum_free c.args.sides.now.bases.now)) c.loop-inode.inode-index _ span c.loop-inode-test.true)
        (c.loop-inode.invariant.searched lawful alone) (w.in_ok-take_file.ensures.searched lawful alone))
    | else-flag-was w ↦
        subst (Searched (known (g.B.Bases.chunks c.args.sides.now.bases.now) (g.B.Bases.superblock c.args.sides.now.bases.now).nodesize (g.B.Bases.is_sum_free c.args.sides.now.bases.now)
        (pairs_of (g.B.Bases.table c.args.sides.now.bases.now)) c.args.sides.now.fresh.now c.args.sides.now.made.now)
        (times_of c.args.spans.now) (ShowsChanged c.args.inodes.now (g.B.Bases.is_sum_free c.args.sides.now.bases.now) (new_flags c.args.sides.now.made.now (g.B.Bases.is_sum_free c.args.sides.now.bases.now)) (c.loop-inode.inode-index + 1)) c.args.refs.now) (sym w.refs-is)
        (searched_less (known (g.B.Bases.chunks c.args.sides.now.bases.now) (g.B.Bases.superblock c.args.sides.now.bases.now).nodesize (g.B.Bases.is_sum_free c.args.sides.now.bases.now)
        (pairs_of (g.B.Bases.table c.args.sides.now.bases.now)) c.args.sides.now.fresh.now c.args.sides.now.made.now)
        (times_of c.args.spans.now) (ShowsChanged c.args.inodes.now (g.B.Bases.is_sum_free c.args.sides.now.bases.now) (new_flags c.args.sides.now.made.now (g.B.Bases.is_sum_free c.args.sides.now.bases.now)) c.loop-inode.inode-index)
        (ShowsChanged c.args.inodes.now (g.B.Bases.is_sum_free c.args.sides.now.bases.now) (new_flags c.args.sides.now.made.now (g.B.Bases.is_sum_free c.args.sides.now.bases.now)) (c.loop-inode.inode-index + 1)) c.args.refs.now c.loop-inode.refs
        (λ span. inode_same_more c.args.inodes.now (g.B.Bases.is_sum_free c.args.sides.now.bases.now) (new_flags c.args.sides.now.made.now (g.B.Bases.is_sum_free c.args.sides.now.bases.now)) c.loop-inode.inode-index (record { tree = 0; ino = 0 }) span c.loop-inode-test.true
        (ap (flag_by c.args.sides.now.made.now (get_or c.args.inodes.now c.loop-inode.inode-index (record { tree = 0; ino = 0 })).tree (get_or c.args.inodes.now c.loop-inode.inode-index (record { tree = 0; ino = 0 })).ino) (sym c.sum_free-was.ensures)
        ∙ sym c.flag.ensures ∙ beq_same c.flag.result c.sum_free-was.result w.if-flag-was.false ∙ c.sum_free-was.ensures))
        (c.loop-inode.invariant.searched lawful alone))
  ];
  looks = λ all are. elim c.if-flag-was.branch [
    | then-flag-was+in_ok-take_file w ↦
        subst (λ n. n ≤ c.args.steps.now + inodes_looks (g.B.Bases.is_sum_free c.args.sides.now.bases.now) (new_flags c.args.sides.now.made.now (g.B.Bases.is_sum_free c.args.sides.now.bases.now)) all (take (c.loop-inode.inode-index + 1) c.args.inodes.now)) (sym w.steps-is)
        (inodes_more (g.B.Bases.is_sum_free c.args.sides.now.bases.now) (new_flags c.args.sides.now.made.now (g.B.Bases.is_sum_free c.args.sides.now.bases.now)) all c.args.inodes.now c.loop-inode.inode-index c.args.steps.now c.loop-inode.steps (c.loop-inode.invariant.looks all are) (record { tree = 0; ino = 0 }) c.loop-inode-test.true
        (ap (λ b. not (beq (flag_by c.args.sides.now.made.now (get_or c.args.inodes.now c.loop-inode.inode-index (record { tree = 0; ino = 0 })).tree (get_or c.args.inodes.now c.loop-inode.inode-index (record { tree = 0; ino = 0 })).ino b) b)) (sym c.sum_free-was.ensures)
        ∙ ap (λ b. not (beq b c.sum_free-was.result)) (sym c.flag.ensures) ∙ w.if-flag-was.true)
        w.take_file.new.steps (w.in_ok-take_file.ensures.looks all are))
    | else-flag-was w ↦
        subst (λ n. n ≤ c.args.steps.now + inodes_looks (g.B.Bases.is_sum_free c.args.sides.now.bases.now) (new_flags c.args.sides.now.made.now (g.B.Bases.is_sum_free c.args.sides.now.bases.now)) all (take (c.loop-inode.inode-index + 1) c.args.inodes.now)) (sym w.steps-is)
        (inodes_skip (g.B.Bases.is_sum_free c.args.sides.now.bases.now) (new_flags c.args.sides.now.made.now (g.B.Bases.is_sum_free c.args.sides.now.bases.now)) all c.args.inodes.now c.loop-inode.inode-index c.args.steps.now c.loop-inode.steps (c.loop-inode.invariant.looks all are) (record { tree = 0; ino = 0 }) c.loop-inode-test.true
        (ap (λ b. not (beq (flag_by c.args.sides.now.made.now (get_or c.args.inodes.now c.loop-inode.inode-index (record { tree = 0; ino = 0 })).tree (get_or c.args.inodes.now c.loop-inode.inode-index (record { tree = 0; ino = 0 })).ino b) b)) (sym c.sum_free-was.ensures)
        ∙ ap (λ b. not (beq b c.sum_free-was.result)) (sym c.flag.ensures) ∙ w.if-flag-was.false))
  ];
}

pub returns-in_err-take_file-clause-looks : goal.returns-in_err-take_file-clause-looks
returns-in_err-take_file-clause-looks g c all are =
    inodes_end (g.B.Bases.is_sum_free c.args.sides.now.bases.now) (new_flags c.args.sides.now.made.now (g.B.Bases.is_sum_free c.args.sides.now.bases.now)) all c.args.inodes.now c.loop-inode.inode-index c.args.steps.now c.loop-inode.steps (c.loop-inode.invariant.looks all are) (record { tree = 0; ino = 0 }) c.loop-inode-test.true
    (ap (λ b. not (beq (flag_by c.args.sides.now.made.now (get_or c.args.inodes.now c.loop-inode.inode-index (record { tree = 0; ino = 0 })).tree (get_or c.args.inodes.now c.loop-inode.inode-index (record { tree = 0; ino = 0 })).ino b) b)) (sym c.sum_free-was.ensures)
    ∙ ap (λ b. not (beq b c.sum_free-was.result)) (sym c.flag.ensures) ∙ c.if-flag-was.true)
    c.take_file.new.steps (c.take_file.ensures.looks all are)

pub returns-clause-looks : goal.returns-clause-looks
returns-clause-looks g c all are =
    inodes_all (g.B.Bases.is_sum_free c.args.sides.now.bases.now) (new_flags c.args.sides.now.made.now (g.B.Bases.is_sum_free c.args.sides.now.bases.now)) all c.args.inodes.now c.loop-inode.inode-index c.args.steps.now c.loop-inode.steps (c.loop-inode.invariant.looks all are)
