use Rattle.std.proofs.Common.{◌∙◌, rules, tests}
use Rattle.std.proofs.lemmas.Iterator.{YieldsList-from_slice}
use Rattle.std.proofs.lemmas.Iterator.Search.{position_from_yields_List}
use Rattle.volume_maker.specs.Volume.{is_inode}
use Rattle.volume_maker.proofs.Found.{taken_away, none_taken}
use Rattle.volume_maker.proofs.volume.take_away.Goals as goal

pub returns-in-Some : goal.returns-in-Some
returns-in-Some c =
    let found = position_from_yields_List (is_inode c.args.ino) _ _ _ c.position.ensures.ran (YieldsList-from_slice c.args.files.now.items cc) (λ x b q k. search (rules, tests)) in
    c.remove.ensures.items ∙ taken_away (is_inode c.args.ino) c.args.files.now.items _ _ found c.in-Some.is

pub returns-in_default : goal.returns-in_default
returns-in_default c =
    let found = position_from_yields_List (is_inode c.args.ino) _ _ _ c.position.ensures.ran (YieldsList-from_slice c.args.files.now.items cc) (λ x b q k. search (rules, tests)) in
    none_taken (is_inode c.args.ino) c.args.files.now.items _ found c.in_default.is
