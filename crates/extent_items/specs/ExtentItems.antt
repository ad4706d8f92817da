-- What the values of the extent reader lend, as plain values.
use Rattle.std.specs.Prelude.{List}
use Rattle.extent_items.specs.References.{references_of}
use Rattle.extent_items.specs.ExtentRow.{ExtentFields}
use Rattle.extent_items.specs.declared.extent.ExtentItem.{ExtentItem}
use Rattle.extent_items.specs.declared.reference.Reference.{Reference}
use Rattle.extent_items.specs.declared.reference.References.{References}

-- the references that an iterator has left
abbrev pub references_left : References → List Reference
references_left references = references_of references.left.now

-- the fields of an extent's item that was read
abbrev pub extent_fields_in : ExtentItem → ExtentFields
extent_fields_in item = record {
  key = item.key;
  refs = item.refs;
  generation = item.generation;
  flags = item.flags;
  references = references_of item.references.now;
}
