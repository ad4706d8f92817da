use Rattle.std.proofs.Common.{rules, ◌+◌, drop}
use Rattle.std.proofs.lemmas.List.{drop_all}
use Rattle.tree_change.specs.Looks.{gone_all_looks_in, gone_looks_in}
use Rattle.tree_change.specs.Making.{gone_in, gone_parts_in}
use Rattle.tree_change.proofs.Adding.{gone_none, gone_past, gone_step, named_has, so_done, so_first, so_halts, so_more, so_past}
use Rattle.tree_change.proofs.Looking.{gone_looks_past, gone_looks_step, looks_done, looks_first, looks_more, looks_past}
use Rattle.tree_change.proofs.trees.change_all_gone.Goals.{then-not-has+in_ok-made+in_ok-add, else-not-has}
use Rattle.tree_change.proofs.trees.change_all_gone.Goals as goal

pub loop-root-init : goal.loop-root-init
loop-root-init g c = record {
  parts = record {
    kept = search rules;
    so = so_first _ _ _ _;
  };
  looks = looks_first (g.D.Disk.bytes c.args.disk.now) c.args.steps.now (gone_all_looks_in c.args.sides.now c.args.news.now c.args.olds.now);
}

pub returns-in_err-made-clause-adds : goal.returns-in_err-made-clause-adds
returns-in_err-made-clause-adds g c =
    let sides = c.args.sides.now in
    let news = c.args.news.now in
    let i = c.loop-root.root-index in
    so_halts g.D.Disk _ _ _ _ _ _ _ _ (gone_parts_in sides news (drop (i + 1) c.args.olds.now)) _ _ _ (search rules) c.loop-root.invariant.parts
    (gone_step sides news c.args.olds.now i _ _ c.loop-root-test.true
    (named_has _ news _ _ _ (c.in_ok-ids.ensures _) c.has.ensures c.if-not-has.true) c.named_root.ensures)
    c.in_err-made.ensures.tells

pub loop-root-preserved : goal.loop-root-preserved
loop-root-preserved g c =
    let sides = c.args.sides.now in
    let news = c.args.news.now in
    let olds = c.args.olds.now in
    let i = c.loop-root.root-index in
    elim c.if-not-has.branch [
      | then-not-has+in_ok-made+in_ok-add w ↦ record {
        parts = record {
          kept = search rules;
          so = rw (w.disk-is, w.all-is) (so_more (g.D.Disk.bytes c.args.disk.now) c.args.all.now c.loop-root.all w.add.new.self w.in_ok-made.made
              (g.D.Disk.reads c.args.disk.now) (g.D.Disk.reads c.loop-root.disk) (g.D.Disk.reads w.change_gone.new.disk)
              (gone_in sides w.named_root.result) (gone_parts_in sides news (drop i olds)) (gone_parts_in sides news (drop (i + 1) olds))
              (gone_parts_in sides news olds) c.loop-root.invariant.parts.so
              (gone_step sides news olds i _ _ c.loop-root-test.true
              (named_has _ news _ _ _ (c.in_ok-ids.ensures _) c.has.ensures w.if-not-has.true) w.named_root.ensures)
              (rw (← c.loop-root.invariant.parts.kept.bytes) w.in_ok-made.ensures.tells) w.in_ok-add.ensures);
        };
        looks = rw w.steps-is (looks_more (g.D.Disk.bytes c.args.disk.now) c.args.steps.now c.loop-root.steps w.change_gone.new.steps
            (gone_looks_in sides w.named_root.result) _ (gone_all_looks_in sides news (drop (i + 1) olds)) _ c.loop-root.invariant.looks
            (gone_looks_step sides news olds i _ _ c.loop-root-test.true
            (named_has _ news _ _ _ (c.in_ok-ids.ensures _) c.has.ensures w.if-not-has.true) w.named_root.ensures)
            (rw (← c.loop-root.invariant.parts.kept.bytes) w.in_ok-made.ensures.looks));
      }
      | else-not-has w ↦ record {
        parts = record {
          kept = search rules;
          so = rw (w.disk-is, w.all-is) (so_past (g.D.Disk.bytes c.args.disk.now) c.args.all.now c.loop-root.all (g.D.Disk.reads c.args.disk.now)
              (g.D.Disk.reads c.loop-root.disk) (gone_parts_in sides news (drop i olds)) (gone_parts_in sides news (drop (i + 1) olds))
              (gone_parts_in sides news olds) c.loop-root.invariant.parts.so
              (gone_past sides news olds i _ c.loop-root-test.true (named_has _ news _ _ _ (c.in_ok-ids.ensures _) c.has.ensures w.if-not-has.false)));
        };
        looks = rw w.steps-is (looks_past (g.D.Disk.bytes c.args.disk.now) c.args.steps.now c.loop-root.steps
            _ (gone_all_looks_in sides news (drop (i + 1) olds)) _ c.loop-root.invariant.looks
            (gone_looks_past sides news olds i _ c.loop-root-test.true
            (named_has _ news _ _ _ (c.in_ok-ids.ensures _) c.has.ensures w.if-not-has.false)));
      }
    ]

pub returns-clause-adds : goal.returns-clause-adds
returns-clause-adds g c =
    so_done (g.D.Disk.bytes c.args.disk.now) _ _ _ _ _ _ c.loop-root.invariant.parts.so
    (gone_none c.args.sides.now c.args.news.now (drop c.loop-root.root-index c.args.olds.now)
    (drop_all c.loop-root.root-index c.args.olds.now (search rules)))

pub returns-clause-looks : goal.returns-clause-looks
returns-clause-looks g c =
    looks_done (g.D.Disk.bytes c.args.disk.now) c.args.steps.now c.loop-root.steps _ _ c.loop-root.invariant.looks
