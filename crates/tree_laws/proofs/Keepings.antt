-- The steps of a walk that keeps blocks and gives records to a taker.
use Rattle.std.proofs.Common.{◌≡◌, ℕ, zero, suc, ◌-◌, ◌≤◌, List, [], ◌∷◌, length, drop, ap, refl, arith}
use Rattle.super_reader.specs.declared.Super.{Super}
use Rattle.node_reader.specs.Stored.{Stored}
use Rattle.node_reader.specs.declared.expect.Expect.{Expect}
use Rattle.records.specs.Walk.{each}
use Rattle.std.specs.Prelude.{Ok}
use Rattle.tree_laws.specs.Skips.{Anew, Kept, Told, skip_and, skip_below}
use Rattle.block_source.proofs.Walking.{behind_held, then_held, pointers_more, pointers_none}

-- nothing is below a leaf
pub skip_leaf : (kept : Kept) (told : Told) (anew : Anew) (level : ℕ) (sup : Super) (stored : Stored) (next : List Expect) → level ≡ 0
    → skip_below kept told anew level sup stored next ≡ Ok []
unfolding skip_below
skip_leaf kept told anew zero sup stored next leaf = refl
skip_leaf kept told anew (suc level) sup stored next leaf = absurd (cc)

-- below a node are its children, or those that are walked
pub skip_node : (kept : Kept) (told : Told) (anew : Anew) (level : ℕ) (sup : Super) (stored : Stored) (next : List Expect) → (level ≡ 0 → ⊥)
    → skip_below kept told anew level sup stored next ≡ each (skip_and kept told anew (skip_below kept told anew (level - 1) sup stored) sup stored) next
unfolding skip_below
skip_node kept told anew zero sup stored next node = absurd (node refl)
skip_node kept told anew (suc level) sup stored next node =
    let same : level ≡ suc level - 1 = omega arith in
    ap (λ n. each (skip_and kept told anew (skip_below kept told anew n sup stored) sup stored) next) same

-- none is left behind the last
pub none_left : (i : ℕ) (next : List Expect) → length next ≤ i → drop i next ≡ []
none_left zero [] past = refl
none_left zero (e ∷ next) past = absurd (omega arith)
none_left (suc i) [] past = refl
none_left (suc i) (e ∷ next) past = none_left i next (omega arith)

pub ruleset skip_steps = (behind_held, then_held, skip_leaf, skip_node, pointers_more, pointers_none, none_left)
