use Rattle.std.proofs.Common.{rules}
use Rattle.tree_change.proofs.Comparing.{array_halts, compared, few_to_rise, map_halts, rest_halts}
use Rattle.tree_change.proofs.ComparedLooks.{all_few}
use Rattle.tree_change.proofs.differ.compare.Goals as goal

pub returns-in_err-array-clause-tells : goal.returns-in_err-array-clause-tells
returns-in_err-array-clause-tells g c =
    array_halts g.D.Disk c.args.disk.now c.args.disk.now c.args.both.now c.in_err-array.field-0.0 _ (search rules) c.in_err-array.ensures

pub returns-in_err-map-clause-tells : goal.returns-in_err-map-clause-tells
returns-in_err-map-clause-tells g c =
    map_halts g.D.Disk c.args.disk.now c.change_map.new.disk c.change_map.new.disk c.new-all.result c.change_map.new.all c.args.both.now
    c.in_ok-array.array c.in_err-map.field-0.0 _ (search rules) c.in_ok-array.ensures c.in_err-map.ensures.tells

pub returns-in_err-roots-clause-tells : goal.returns-in_err-roots-clause-tells
returns-in_err-roots-clause-tells g c =
    rest_halts g.D.Disk c.args.disk.now c.change_map.new.disk c.change_rest.new.disk c.change_rest.new.disk c.new-all.result c.change_map.new.all
    c.change_rest.new.all c.args.both.now c.in_ok-array.array c.in_ok-map.map c.in_err-roots.field-0.0 _ (search rules)
    c.in_ok-array.ensures c.in_ok-map.ensures.kept.bytes c.in_ok-map.ensures.tells c.in_err-roots.ensures.tells

pub returns-clause-tells : goal.returns-clause-tells
returns-clause-tells g c =
    compared c.args.both.now (g.D.Disk.len c.args.disk.now) c.requires.fit c.in_ok-array.array c.in_ok-map.map c.in_ok-roots.roots.items c.new-all.result c.change_map.new.all
    c.change_rest.new.all c.in_ok-risen.risen c.in_ok-risen.ensures.0 (g.D.Disk.reads c.args.disk.now) (g.D.Disk.reads c.change_map.new.disk)
    (g.D.Disk.reads c.change_rest.new.disk) c.change_rest.new.steps c.rise.new.steps c.in_ok-array.ensures c.new-all.ensures
    c.in_ok-risen.ensures.1 (g.D.Disk.bytes c.args.disk.now) c.in_ok-finish.field-0 c.in_ok-map.ensures.tells
    (rw (← c.in_ok-map.ensures.kept.bytes) c.in_ok-roots.ensures.tells) c.in_ok-finish.ensures

pub returns-clause-looks : goal.returns-clause-looks
returns-clause-looks g c =
    all_few g.D.Disk c.args.disk.now c.change_map.new.disk c.new-all.result c.change_map.new.all c.args.both.now c.in_ok-array.array
    c.in_ok-map.map c.args.steps.now c.change_map.new.steps c.change_rest.new.steps c.rise.new.steps c.in_ok-array.ensures
    c.in_ok-map.ensures.kept.bytes c.in_ok-map.ensures.tells c.in_ok-map.ensures.looks c.in_ok-roots.ensures.looks
    (few_to_rise c.args.both.now (g.D.Disk.len c.args.disk.now) c.requires.fit c.in_ok-array.array c.in_ok-map.map c.in_ok-roots.roots.items c.new-all.result
    c.change_map.new.all c.change_rest.new.all c.in_ok-risen.risen c.in_ok-risen.ensures.0 (g.D.Disk.reads c.args.disk.now)
    (g.D.Disk.reads c.change_map.new.disk) (g.D.Disk.reads c.change_rest.new.disk) c.change_rest.new.steps c.rise.new.steps c.in_ok-array.ensures
    c.new-all.ensures c.in_ok-risen.ensures.1 (g.D.Disk.bytes c.args.disk.now) c.in_ok-map.ensures.tells
    (rw (← c.in_ok-map.ensures.kept.bytes) c.in_ok-roots.ensures.tells))
