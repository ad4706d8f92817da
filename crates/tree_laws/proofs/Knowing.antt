-- The children that are walked below a block, one by one.
use Rattle.std.proofs.Common.{◌≡◌, ℕ, zero, suc, ◌+◌, ◌<◌, List, [], ◌∷◌, length, drop, get_or, refl, ap, ◌∙◌, arith}
use Rattle.std.specs.Prelude.{Some, None}
use Rattle.std.proofs.lemmas.List.{drop_more}
use Rattle.verdict.specs.declared.key.Key.{Key}
use Rattle.node_reader.specs.declared.expect.Expect.{Expect}
use Rattle.tree_laws.specs.declared.told.Start.{Start}
use Rattle.tree_laws.specs.Keeping.{bound_at, bound_of, start_of, starts_of}

pub starts_length : (level : ℕ) (e : Expect) (starts : List Start) → length (starts_of level e starts) ≡ length starts
starts_length level e [] = refl
starts_length level e (start ∷ starts) = ap suc (starts_length level e starts)

pub starts_more : (level : ℕ) (e : Expect) (starts : List Start) (i : ℕ) (d : Start) → i < length starts
    → drop i (starts_of level e starts) ≡ start_of level e (get_or starts i d) ∷ drop (i + 1) (starts_of level e starts)
starts_more level e [] i d inside = absurd (omega arith)
starts_more level e (start ∷ starts) zero d inside = refl
starts_more level e (start ∷ starts) (suc i) d inside =
    let next : suc (i + 1) ≡ suc i + 1 = omega arith in
    starts_more level e starts i d (omega arith)
    ∙ ap (λ n. start_of level e (get_or starts i d) ∷ drop n (starts_of level e (start ∷ starts))) next

-- the first child behind which no pointer follows decides
pub bound_here : (starts : List Start) (last : Key) (i : ℕ) (d : Start) → i < length starts → (get_or starts i d).next ≡ None
    → bound_of (drop i starts) last ≡ (get_or starts i d).pointer.key
bound_here starts last i d inside none =
    ap (λ l. bound_of l last) (drop_more starts i d inside)
    ∙ ap (λ o. bound_at o (get_or starts i d).pointer.key (bound_of (drop (i + 1) starts) last)) none

pub bound_later : (starts : List Start) (last : Key) (i : ℕ) (d : Start) (next : Key) → i < length starts → (get_or starts i d).next ≡ Some next
    → bound_of (drop i starts) last ≡ bound_of (drop (i + 1) starts) last
bound_later starts last i d next inside some =
    ap (λ l. bound_of l last) (drop_more starts i d inside)
    ∙ ap (λ o. bound_at o (get_or starts i d).pointer.key (bound_of (drop (i + 1) starts) last)) some
