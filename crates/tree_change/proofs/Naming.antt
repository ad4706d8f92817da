-- The first of several trees of one id counts.
use Rattle.std.proofs.Common.{◌≡◌, ℕ, ◌+◌, ◌<◌, Bool, true, false, List, [], ◌∷◌, ◌++◌, length, take, get_or, Option, Some, None, refl, sym, ap, ◌∙◌}
use Rattle.std.specs.Prelude.{if◌then◌else◌}
use Rattle.std.proofs.lemmas.List.{take_more}
use Rattle.node_reader.specs.declared.expect.Expect.{Expect}
use Rattle.volume_items.specs.declared.root_at.RootAt.{RootAt}
use Rattle.tree_change.specs.AllTrees.{root_named}
use Rattle.tree_change.specs.Roots.{or_named, with_named}
use Rattle.records.specs.Contents.{names, named_root}

-- one more behind others
named_behind : (roots : List RootAt) (root : RootAt) (id : ℕ)
    → root_named (roots ++ root ∷ []) id ≡ or_named (root_named roots id) (if names id root then Some (named_root root) else None)
named_behind [] root id = refl
named_behind (first ∷ roots) root id = by (names id first) (named_behind roots root id)
  where
    by : (b : Bool)
        → root_named (roots ++ root ∷ []) id ≡ or_named (root_named roots id) (if names id root then Some (named_root root) else None)
        → (if b then Some (named_root first) else root_named (roots ++ root ∷ []) id)
        ≡ or_named (if b then Some (named_root first) else root_named roots id) (if names id root then Some (named_root root) else None)
    by true more = refl
    by false more = more

pub named_more : (before after : ℕ → Option Expect) (roots : List RootAt) (i : ℕ) (d : RootAt) → i < length roots
    → ((id : ℕ) → before id ≡ root_named (take i roots) id) → ((id : ℕ) → after id ≡ with_named before (get_or roots i d) id)
    → (id : ℕ) → after id ≡ root_named (take (i + 1) roots) id
named_more before after roots i d inside so more id =
    more id
    ∙ ap (λ o. or_named o (if names id (get_or roots i d) then Some (named_root (get_or roots i d)) else None)) (so id)
    ∙ sym (ap (λ l. root_named l id) (take_more roots i d inside) ∙ named_behind (take i roots) (get_or roots i d) id)
