use Rattle.std.proofs.Common.{option_and_then, sym, ap, rules, tests}
use Rattle.std.proofs.lemmas.Iterator.{YieldsList-from_slice}
use Rattle.std.proofs.lemmas.Iterator.Search.{find_from_yields_List}
use Rattle.volume_maker.specs.Volume.{is_inode}
use Rattle.volume_maker.proofs.Found.{found_some, found_none}
use Rattle.volume_maker.proofs.volume.extent_of.Goals as goal

pub returns-in-Some : goal.returns-in-Some
returns-in-Some c =
    let found = find_from_yields_List (is_inode c.args.ino) _ _ _ c.find.ensures.ran (YieldsList-from_slice c.args.files.now cc) (λ x b q k. search (rules, tests)) in
    ap (option_and_then (λ f. f.extent)) (sym (found_some _ _ _ _ found c.in-Some.is))

pub returns-in-None : goal.returns-in-None
returns-in-None c =
    let found = find_from_yields_List (is_inode c.args.ino) _ _ _ c.find.ensures.ran (YieldsList-from_slice c.args.files.now cc) (λ x b q k. search (rules, tests)) in
    ap (option_and_then (λ f. f.extent)) (sym (found_none _ _ _ found c.in-None.is))
