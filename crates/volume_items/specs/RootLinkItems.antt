-- What the reader of root links lends, as plain values.
use Rattle.volume_items.specs.RootLinkRow.{RootLinkFields}
use Rattle.volume_items.specs.declared.root_link.RootLink.{RootLink}

-- the fields of a root link that was read
abbrev pub link_fields_in : RootLink → RootLinkFields
link_fields_in link = record { key = link.key; dirid = link.dirid; sequence = link.sequence; name = link.name.now }
