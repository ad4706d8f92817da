-- The items of rows, one after another.
use Rattle.std.proofs.Common.{◌≡◌, ℕ, ◌+◌, ◌<◌, ◌≤◌, List, [], ◌∷◌, ◌++◌, length, get_or, take, map, sym, ap, ◌∙◌}
use Rattle.std.proofs.lemmas.List.{append-nil, append_assoc, map_more, take_all}
use Rattle.image_maker.specs.declared.leaf_item.LeafItem.{LeafItem}
use Rattle.image_maker.specs.declared.trees.TreeBlock.{TreeBlock}
use Rattle.image_maker.specs.declared.trees.ExtentRow.{ExtentRow}
use Rattle.image_maker.specs.Trees.{root_entry, extent_entry}

-- the item of one row more
pub root_more : (items : List LeafItem) (rows : List TreeBlock) (i : ℕ) (d : TreeBlock) → i < length rows →
    items ++ map root_entry (take (i + 1) rows) ≡ items ++ map root_entry (take i rows) ++ root_entry (get_or rows i d) ∷ []
root_more items rows i d inside =
    ap (λ l. items ++ l) (map_more root_entry rows i d inside) ∙ sym (append_assoc items (map root_entry (take i rows)) (root_entry (get_or rows i d) ∷ []))

pub root_all : (items : List LeafItem) (rows : List TreeBlock) (i : ℕ) → length rows ≤ i → items ++ map root_entry (take i rows) ≡ items ++ map root_entry rows
root_all items rows i past = ap (λ l. items ++ map root_entry l) (take_all i rows past)

pub root_none : (items : List LeafItem) (rows : List TreeBlock) → items ++ map root_entry (take 0 rows) ≡ items
root_none items rows = append-nil items

pub ruleset root_rows = (root_more, root_all, root_none)

pub extent_more : (rows : List ExtentRow) (i : ℕ) (d : ExtentRow) → i < length rows →
    map extent_entry (take (i + 1) rows) ≡ map extent_entry (take i rows) ++ extent_entry (get_or rows i d) ∷ []
extent_more rows i d inside = map_more extent_entry rows i d inside

pub extent_all : (rows : List ExtentRow) (i : ℕ) → length rows ≤ i → map extent_entry (take i rows) ≡ map extent_entry rows
extent_all rows i past = ap (map extent_entry) (take_all i rows past)

pub ruleset extent_rows = (extent_more, extent_all)
