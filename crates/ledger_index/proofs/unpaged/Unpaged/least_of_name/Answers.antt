use Rattle.std.proofs.Common.{◌∷◌}
use Rattle.ledger_index.specs.Named.{left_links, left_names}
use Rattle.ledger_maps.specs.Names.{names_in}
use Rattle.ledger_index.proofs.NamedLaws.{entry_passed, has_there, link_passed}
use Rattle.ledger_index.proofs.unpaged.Unpaged.least_of_name.Goals as goal

pub returns : goal.returns
returns c = λ rest is.
    let p = c.args.place.now in
    let kept = c.args.kept.now in
    let names = names_in c.args.self.now.names.parts.items in
    let there = has_there c.args.self.now p kept c.requires in
    c.least_of_side-2.ensures (left_links names rest p kept) (left_names names rest) (link_passed names rest p kept there c.link_side.result c.link_side.ensures)
    (c.in_ok-least.ensures (left_names names ((p, kept) ∷ rest)) (left_links names rest p kept) (entry_passed names rest p kept there c.entry_side.result c.entry_side.ensures) is)
