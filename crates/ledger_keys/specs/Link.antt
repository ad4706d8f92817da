-- What an account of a name says of the link, before it is known whether the name has a place.
use Rattle.std.specs.Prelude.{Option, Some, None}
use Rattle.ledger_keys.specs.declared.link.Link.{Link}
use Rattle.ledger_keys.specs.declared.long_place.LongPlace.{LongPlace}
use Rattle.ledger_keys.specs.declared.name.Name.{Name}
use Rattle.ledger_keys.specs.Name.{link_of, name_at}

-- the place of the name, and the name
abbrev pub place_said : Link → Option LongPlace
place_said l = link_of l.block l.tree l.inode l.dir l.name.now

abbrev pub name_said : Link → Option Name
name_said l = name_at l.side (place_said l)

-- the same of an account that may say nothing of a link
abbrev pub said_by : Option Link → Option Name
said_by None = None
said_by (Some l) = name_said l
