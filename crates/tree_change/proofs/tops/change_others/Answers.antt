use Rattle.std.proofs.Common.{◌∙◌, rules}
use Rattle.tree_change.proofs.OtherLooks.{others_few}
use Rattle.tree_change.proofs.Others.{gone_halt, named_halt, others_told, roots_halt}
use Rattle.tree_change.proofs.tops.change_others.Goals as goal

pub returns-in_err-roots-clause-tells : goal.returns-in_err-roots-clause-tells
returns-in_err-roots-clause-tells g c = λ stand.
    roots_halt c.args.sides.now c.args.olds.now g.D.Disk c.args.disk.now c.change_roots.new.disk c.args.all.now c.change_roots.new.all
    c.change_roots.new.all c.in_err-roots.field-0.0 _ (search rules) c.in_err-roots.ensures.tells

pub returns-in_err-change_named-clause-tells : goal.returns-in_err-change_named-clause-tells
returns-in_err-change_named-clause-tells g c = λ stand.
    named_halt c.args.sides.now c.args.olds.now (Unit {0}) g.D.Disk c.args.disk.now c.change_roots.new.disk c.change_named.new.disk c.args.all.now
    c.change_roots.new.all c.change_named.new.all c.change_named.new.all c.in_ok-roots.roots.items c.in_err-change_named.field-0.0 _ (search rules)
    c.in_ok-roots.ensures.kept.bytes c.in_ok-roots.ensures.tells (rw (← c.deref.ensures.value) (c.in_err-change_named.ensures.adds stand))

pub returns-in_err-change_all_gone-clause-tells : goal.returns-in_err-change_all_gone-clause-tells
returns-in_err-change_all_gone-clause-tells g c = λ stand.
    gone_halt c.args.sides.now c.args.olds.now (Unit {0}) g.D.Disk c.args.disk.now c.change_named.new.disk c.change_all_gone.new.disk c.args.all.now
    c.change_named.new.all c.change_all_gone.new.all c.in_ok-roots.roots.items c.in_err-change_all_gone.field-0.0 _ (search rules)
    (c.in_ok-change_named.ensures.kept.bytes ∙ c.in_ok-roots.ensures.kept.bytes)
    (rw (← c.deref-2.ensures.value) c.in_err-change_all_gone.ensures.adds)

pub returns-clause-tells : goal.returns-clause-tells
returns-clause-tells g c = λ stand.
    others_told c.args.sides.now c.args.olds.now g.D.Disk c.args.disk.now c.change_roots.new.disk c.change_named.new.disk c.change_all_gone.new.disk
    c.args.all.now c.change_roots.new.all c.change_named.new.all c.change_all_gone.new.all c.in_ok-roots.roots.items
    c.in_ok-roots.ensures.kept.bytes c.in_ok-change_named.ensures.kept.bytes c.in_ok-roots.ensures.tells
    (rw (← c.deref.ensures.value) (c.in_ok-change_named.ensures.adds stand)) (rw (← c.deref-2.ensures.value) c.in_ok-change_all_gone.ensures.adds)

pub returns-clause-looks : goal.returns-clause-looks
returns-clause-looks g c =
    others_few c.args.sides.now c.args.olds.now c.in_ok-roots.roots.items g.D.Disk c.args.disk.now c.change_roots.new.disk c.change_named.new.disk
    c.args.all.now c.change_roots.new.all c.args.steps.now c.change_roots.new.steps c.change_named.new.steps c.change_all_gone.new.steps
    c.in_ok-roots.ensures.kept.bytes c.in_ok-change_named.ensures.kept.bytes c.in_ok-roots.ensures.tells
    c.in_ok-roots.ensures.looks (rw (← c.deref.ensures.value) c.in_ok-change_named.ensures.looks)
    (rw (← c.deref-2.ensures.value) c.in_ok-change_all_gone.ensures.looks)
