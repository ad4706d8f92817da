-- Root items in the order of their keys, taken one after the other.
use Rattle.std.proofs.Common.{◌≡◌, ℕ, zero, suc, ◌+◌, ◌-◌, ◌<◌, true, false, List, [], ◌∷◌, ◌++◌, length, get_or, take, refl, sym, ap, subst, ◌∙◌, arith}
use Rattle.std.specs.Prelude.{Bool, Some, None, slice_get, IsTrue, ◌↔◌}
use Rattle.std.specs.List.{AllByRecursion}
use Rattle.std.proofs.lemmas.List.{take_more}
use Rattle.std.proofs.lemmas.Option.{slice_get_within}
use Rattle.verdict.specs.OnDisk.{key_below}
use Rattle.volume_items.specs.declared.root_at.RootAt.{RootAt}
use Rattle.chunk_map.specs.Roots.{KeysAscend}
use Rattle.tree_laws.proofs.Bounds.{below_trans}

-- the key of a root item is greater than those of all these
abbrev pub IsBehind : List RootAt → RootAt → Type 0
IsBehind list root = AllByRecursion (λ one. key_below one.key root.key ≡ true) list

-- root items that ascend, with one behind them, ascend
pub ascend_more : (list : List RootAt) (root : RootAt) → KeysAscend list → IsBehind list root → KeysAscend (list ++ root ∷ [])
ascend_more [] root up behind = (tt, tt)
ascend_more (one ∷ list) root up behind = (more list up.0 behind.0, ascend_more list root up.1 behind.1)
  where
    more : (rest : List RootAt) → AllByRecursion (λ later. key_below one.key later.key ≡ true) rest → key_below one.key root.key ≡ true
        → AllByRecursion (λ later. key_below one.key later.key ≡ true) (rest ++ root ∷ [])
    more [] all below = (below, tt)
    more (x ∷ rest) all below = (all.0, more rest all.1 below)

-- one is behind all that ascend just where it is behind the last
last_below : (list : List RootAt) (k : ℕ) (root last : RootAt) → suc k ≡ length list → KeysAscend list → slice_get list k ≡ Some last
    → key_below last.key root.key ≡ true → IsBehind list root
last_below [] k root last end up is below = absurd (cc)
last_below (one ∷ []) zero root last end up is below =
    let same : one ≡ last = cc in
    (subst (λ r. key_below r.key root.key ≡ true) (sym same) below, tt)
last_below (one ∷ []) (suc k) root last end up is below = absurd (omega arith)
last_below (one ∷ two ∷ list) zero root last end up is below = absurd (omega arith)
last_below (one ∷ two ∷ list) (suc k) root last end up is below =
    let rest = last_below (two ∷ list) k root last (omega arith) up.1 is below in
    (below_trans one.key two.key root.key up.0.0 rest.0, rest)

below_last : (list : List RootAt) (k : ℕ) (root last : RootAt) → slice_get list k ≡ Some last → IsBehind list root
    → key_below last.key root.key ≡ true
below_last [] k root last is behind = absurd (cc)
below_last (one ∷ list) zero root last is behind =
    let same : one ≡ last = cc in
    subst (λ r. key_below r.key root.key ≡ true) same behind.0
below_last (one ∷ list) (suc k) root last is behind = below_last list k root last is behind.1

pub behind_last : (list : List RootAt) (root last : RootAt) (below : Bool) → KeysAscend list → slice_get list (length list - 1) ≡ Some last
    → below ≡ key_below last.key root.key → IsTrue below ↔ IsBehind list root
behind_last list root last below up is says =
    let inside : length list - 1 < length list = slice_get_within _ _ _ is in (
      (λ h. last_below list (length list - 1) root last (omega arith) up is (sym says ∙ h)),
      (λ h. says ∙ below_last list (length list - 1) root last is h),
    )

pub behind_none : (list : List RootAt) (root : RootAt) → slice_get list (length list - 1) ≡ None → IsTrue true ↔ IsBehind list root
behind_none [] root is = ((λ h. tt), (λ h. refl))
behind_none (one ∷ list) root is = absurd (never (one ∷ list) (length (one ∷ list) - 1) (omega arith) is)
  where
    never : (xs : List RootAt) (k : ℕ) → k < length xs → slice_get xs k ≡ None → ⊥
    never [] k less none = omega arith
    never (x ∷ xs) zero less none = cc
    never (x ∷ xs) (suc k) less none = never xs k (omega arith) none

-- each of a list that ascends is behind those before it
pub behind_front : (roots : List RootAt) (i : ℕ) (d : RootAt) → KeysAscend roots → i < length roots → IsBehind (take i roots) (get_or roots i d)
behind_front [] i d up less = absurd (omega arith)
behind_front (one ∷ roots) zero d up less = tt
behind_front (one ∷ roots) (suc i) d up less = (at roots i up.0 (omega arith), behind_front roots i d up.1 (omega arith))
  where
    at : (rest : List RootAt) (k : ℕ) → AllByRecursion (λ later. key_below one.key later.key ≡ true) rest → k < length rest
        → key_below one.key (get_or rest k d).key ≡ true
    at [] k all less = absurd (omega arith)
    at (x ∷ rest) zero all less = all.0
    at (x ∷ rest) (suc k) all less = at rest k all.1 (omega arith)

-- those that are kept of a list so far: they ascend, and of a list that ascends they are all
abbrev pub AreKept : List RootAt → List RootAt → ℕ → Type 0
AreKept roots list i = KeysAscend list × (KeysAscend roots → list ≡ take i roots)

-- the next one is kept where it is behind them, and else not
pub kept_more : (roots list lent after : List RootAt) (i : ℕ) (d : RootAt) (behind : Bool) → i < length roots → lent ≡ list
    → IsTrue behind ↔ IsBehind lent (get_or roots i d) → behind ≡ true → AreKept roots list i → after ≡ list ++ get_or roots i d ∷ []
    → AreKept roots after (i + 1)
kept_more roots list lent after i d behind less same both is kept put =
    let all : IsBehind list (get_or roots i d) = subst (λ xs. IsBehind xs (get_or roots i d)) same (both.0 is) in (
      subst KeysAscend (sym put) (ascend_more list (get_or roots i d) kept.0 all),
      (λ up. put ∙ ap (λ xs. xs ++ get_or roots i d ∷ []) (kept.1 up) ∙ sym (take_more roots i d less)),
    )

pub kept_less : (roots list lent : List RootAt) (i : ℕ) (d : RootAt) (behind : Bool) → i < length roots → lent ≡ list
    → IsTrue behind ↔ IsBehind lent (get_or roots i d) → behind ≡ false → AreKept roots list i → AreKept roots list (i + 1)
kept_less roots list lent i d behind less same both is kept = (
  kept.0,
  (λ up.
      let all : IsBehind lent (get_or roots i d) =
      subst (λ xs. IsBehind xs (get_or roots i d)) (sym (same ∙ kept.1 up)) (behind_front roots i d up less) in
      let yes = both.1 all in
      absurd (cc)),
)
