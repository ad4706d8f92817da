-- What is made of records by one that takes them.
use Rattle.std.specs.Prelude.{List, [], ◌∷◌, ◌++◌, Result, Ok, Err}
use Rattle.std.specs.List.{fold}
use Rattle.verdict.specs.declared.finding.Finding.{Finding}
use Rattle.verdict.specs.declared.place.Chunk.{Chunk}
use Rattle.volume_items.specs.ChunkRow.{chunk_of}
use Rattle.records.specs.Part.{Located, Part}
use Rattle.records.specs.Seen.{Seen, block_record}
use Rattle.records.specs.Seen.Seen.{BlockSeen, PointerSeen, ItemSeen}
use Rattle.records.specs.Part.Part.{RootPart, ChunkPart}
use Rattle.records.specs.Walk.{Records}
use Rattle.volume_items.specs.declared.root_at.RootAt.{RootAt}
use Rattle.volume_items.specs.RootPlace.{root_at}

-- what is held after records are taken, or their finding
abbrev pub held_after : {H : Type 0} → (H → Seen → H) → H → Records → Result H Finding
held_after with held (Err finding) = Err finding
held_after with held (Ok records) = Ok (fold with held records)

-- what two make of records, with one more
abbrev pub with_both : {A B : Type 0} → (A → Seen → A) → (B → Seen → B) → A × B → Seen → A × B
with_both first second held one = (first held.0 one, second held.1 one)

-- what is made of what accounts see, with one record more
abbrev pub with_accounted : {H : Type 0} → (H → Located → H) → H → Seen → H
with_accounted with held (BlockSeen block) = with held (block_record block)
with_accounted with held (PointerSeen pointer) = held
with_accounted with held (ItemSeen one) = with held one

-- chunks, with that of a chunk item
abbrev with_chunk_part : List Chunk → Part → List Chunk
with_chunk_part chunks (ChunkPart fields) = chunks ++ chunk_of fields ∷ []
with_chunk_part chunks other = chunks

-- the chunks of chunk items, with one record more
abbrev pub with_chunk : List Chunk → Seen → List Chunk
with_chunk chunks (ItemSeen one) = with_chunk_part chunks one.part
with_chunk chunks other = chunks

-- where trees begin, with one more root item
abbrev with_root_part : List RootAt → Part → List RootAt
with_root_part roots (RootPart item) = roots ++ root_at item ∷ []
with_root_part roots other = roots

-- where trees begin by the root items, with one record more
abbrev pub with_root : List RootAt → Seen → List RootAt
with_root roots (ItemSeen one) = with_root_part roots one.part
with_root roots other = roots
