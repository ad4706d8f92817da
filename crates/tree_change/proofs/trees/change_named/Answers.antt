use Rattle.std.proofs.Common.{rules, ◌∙◌, ◌+◌, drop}
use Rattle.std.proofs.lemmas.List.{drop_all}
use Rattle.tree_change.specs.Looks.{named_looks_in}
use Rattle.tree_change.specs.Making.{named_parts_in, parts_in}
use Rattle.tree_change.proofs.Adding.{named_none, named_step, so_done, so_first, so_halts, so_more, so_past}
use Rattle.tree_change.proofs.Looking.{looks_done, looks_first, looks_passed, looks_walked}
use Rattle.tree_change.proofs.Staying.{named_past}
use Rattle.tree_change.proofs.trees.change_named.Goals.{then-not-stays+in_ok-made+in_ok-add, else-not-stays}
use Rattle.tree_change.proofs.trees.change_named.Goals as goal

pub loop-root-init : goal.loop-root-init
loop-root-init g c = record {
  parts = record {
    kept = search rules;
    so = λ stand. so_first _ _ _ _;
  };
  looks = looks_first (g.D.Disk.bytes c.args.disk.now) c.args.steps.now (named_looks_in c.args.sides.now c.args.olds.now c.args.news.now);
}

pub returns-in_err-made-clause-adds : goal.returns-in_err-made-clause-adds
returns-in_err-made-clause-adds g c = λ stand.
    let sides = c.args.sides.now in
    let olds = c.args.olds.now in
    let i = c.loop-root.root-index in
    so_halts g.D.Disk _ _ _ _ _ _ _ _ (named_parts_in sides olds (drop (i + 1) c.args.news.now)) _ _ _ (search rules)
    (record { kept = c.loop-root.invariant.parts.kept; so = c.loop-root.invariant.parts.so stand })
    (named_step sides olds c.args.news.now i _ _ _ c.loop-root-test.true (c.root_of-before.ensures ∙ c.in_ok-ids.ensures _) c.named_root-now.ensures)
    c.in_err-made.ensures.tells

pub loop-root-preserved : goal.loop-root-preserved
loop-root-preserved g c =
    let sides = c.args.sides.now in
    let olds = c.args.olds.now in
    let i = c.loop-root.root-index in
    elim c.if-not-stays.branch [
      | then-not-stays+in_ok-made+in_ok-add w ↦ record {
        parts = record {
          kept = search rules;
          so = λ stand. rw (w.disk-is, w.all-is) (so_more (g.D.Disk.bytes c.args.disk.now) c.args.all.now c.loop-root.all w.add.new.self
              w.in_ok-made.made (g.D.Disk.reads c.args.disk.now) (g.D.Disk.reads c.loop-root.disk) (g.D.Disk.reads w.change_tree.new.disk)
              (parts_in sides c.root_of-before.result c.named_root-now.result)
              (named_parts_in sides olds (drop i c.args.news.now)) (named_parts_in sides olds (drop (i + 1) c.args.news.now))
              (named_parts_in sides olds c.args.news.now) (c.loop-root.invariant.parts.so stand)
              (named_step sides olds c.args.news.now i _ _ _ c.loop-root-test.true (c.root_of-before.ensures ∙ c.in_ok-ids.ensures _) c.named_root-now.ensures)
              (rw (← c.loop-root.invariant.parts.kept.bytes) w.in_ok-made.ensures.tells) w.in_ok-add.ensures);
        };
        looks = rw w.steps-is (looks_walked sides olds c.args.news.now i _ c.root_of-before.result c.named_root-now.result c.stays.result
            (g.D.Disk.bytes c.args.disk.now) c.args.steps.now c.loop-root.steps w.change_tree.new.steps c.loop-root-test.true
            (c.root_of-before.ensures ∙ c.in_ok-ids.ensures _) c.named_root-now.ensures c.stays.ensures.complete w.if-not-stays.true
            c.loop-root.invariant.looks (rw (← c.loop-root.invariant.parts.kept.bytes) w.in_ok-made.ensures.looks));
      }
      | else-not-stays w ↦ record {
        parts = record {
          kept = search rules;
          so = λ stand. rw (w.disk-is, w.all-is) (so_past (g.D.Disk.bytes c.args.disk.now) c.args.all.now c.loop-root.all
              (g.D.Disk.reads c.args.disk.now) (g.D.Disk.reads c.loop-root.disk)
              (named_parts_in sides olds (drop i c.args.news.now)) (named_parts_in sides olds (drop (i + 1) c.args.news.now))
              (named_parts_in sides olds c.args.news.now) (c.loop-root.invariant.parts.so stand)
              (named_past sides olds c.args.news.now i _ _ _ c.loop-root-test.true (c.root_of-before.ensures ∙ c.in_ok-ids.ensures _) c.named_root-now.ensures
              (c.stays.ensures.sound w.if-not-stays.false) stand));
        };
        looks = rw w.steps-is (looks_passed sides olds c.args.news.now i _ _ (g.D.Disk.bytes c.args.disk.now) c.args.steps.now c.loop-root.steps
            c.loop-root-test.true c.named_root-now.ensures c.loop-root.invariant.looks);
      }
    ]

pub returns-clause-adds : goal.returns-clause-adds
returns-clause-adds g c = λ stand.
    so_done (g.D.Disk.bytes c.args.disk.now) _ _ _ _ _ _ (c.loop-root.invariant.parts.so stand)
    (named_none c.args.sides.now c.args.olds.now (drop c.loop-root.root-index c.args.news.now)
    (drop_all c.loop-root.root-index c.args.news.now (search rules)))

pub returns-clause-looks : goal.returns-clause-looks
returns-clause-looks g c =
    looks_done (g.D.Disk.bytes c.args.disk.now) c.args.steps.now c.loop-root.steps _ _ c.loop-root.invariant.looks
