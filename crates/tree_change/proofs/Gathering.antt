-- What is gathered of records is their blocks and their items.
use Rattle.std.proofs.Common.{◌≡◌, List, [], ◌∷◌, ◌++◌, ap, refl, sym, ◌∙◌}
use Rattle.std.specs.List.{fold}
use Rattle.std.proofs.lemmas.List.{append-nil, append_assoc}
use Rattle.records.specs.Part.{Located}
use Rattle.records.specs.Seen.{Seen}
use Rattle.records.specs.Seen.Seen.{BlockSeen, PointerSeen, ItemSeen}
use Rattle.records.specs.declared.rec.WalkedBlock.{WalkedBlock}
use Rattle.tree_laws.specs.MergedLaw.{items}
use Rattle.tree_change.specs.Gathered.{Gathers, blocks_seen, with_seen}
use Rattle.tree_change.specs.Walks.{no_tree}

-- blocks and items as what is gathered
abbrev of : List WalkedBlock → List Located → Gathers
of blocks some = record { blocks = blocks; items = some }

-- two lists of which each is the same are gathered alike
both : (b1 b2 : List WalkedBlock) (i1 i2 : List Located) → b1 ≡ b2 → i1 ≡ i2 → of b1 i1 ≡ of b2 i2
both b1 b2 i1 i2 same alike = ap (λ b. of b i1) same ∙ ap (λ i. of b2 i) alike

-- records are gathered behind what was
pub gathered_all : (all : Gathers) (records : List Seen)
    → fold with_seen all records ≡ record { blocks = all.blocks ++ blocks_seen records; items = all.items ++ items records }
gathered_all all [] = both all.blocks (all.blocks ++ []) all.items (all.items ++ []) (sym (append-nil all.blocks)) (sym (append-nil all.items))
gathered_all all (BlockSeen block ∷ records) =
    gathered_all (with_seen all (BlockSeen block)) records
    ∙ both (all.blocks ++ block ∷ [] ++ blocks_seen records) (all.blocks ++ (block ∷ blocks_seen records)) (all.items ++ items records)
    (all.items ++ items records)
    (append_assoc all.blocks (block ∷ []) (blocks_seen records)) refl
gathered_all all (PointerSeen pointer ∷ records) = gathered_all all records
gathered_all all (ItemSeen one ∷ records) =
    gathered_all (with_seen all (ItemSeen one)) records
    ∙ both (all.blocks ++ blocks_seen records) (all.blocks ++ blocks_seen records) (all.items ++ one ∷ [] ++ items records)
    (all.items ++ (one ∷ items records))
    refl (append_assoc all.items (one ∷ []) (items records))

-- of nothing before, they are the blocks and the items among them
pub gathered_none : (records : List Seen) → fold with_seen no_tree records ≡ record { blocks = blocks_seen records; items = items records }
gathered_none records = gathered_all no_tree records
