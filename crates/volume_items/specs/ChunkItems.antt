-- What the values of the chunk reader lend, as plain values.
use Rattle.std.specs.Prelude.{List}
use Rattle.volume_items.specs.ChunkRow.{ChunkFields, stripes_of}
use Rattle.volume_items.specs.declared.chunk.ChunkItem.{ChunkItem}
use Rattle.volume_items.specs.declared.chunk.Stripe.{Stripe}
use Rattle.volume_items.specs.declared.chunk.Stripes.{Stripes}

-- the stripes that an iterator has left
abbrev pub stripes_left : Stripes → List Stripe
stripes_left stripes = stripes_of stripes.left.now

-- the fields of a chunk item that was read
abbrev pub fields_in : ChunkItem → ChunkFields
fields_in item = record { key = item.key; length = item.length; class = item.class; stripes = stripes_of item.stripes.now }
