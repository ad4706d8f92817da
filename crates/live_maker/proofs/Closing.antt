-- The steps of closing blocks, where the pairs behind stand in a list whose end is the next of them.
use Rattle.std.proofs.Common.{◌≡◌, ℕ, zero, suc, ◌+◌, ◌-◌, ◌<◌, true, false, List, [], ◌∷◌, ◌++◌, length, reverse, set, take, get_or, slice_get, Some, None, refl, ap, sym, subst, ◌∙◌, arith}
use Rattle.std.proofs.lemmas.List.{reverse-append, take_all, take_more}
use Rattle.std.proofs.lemmas.Option.{get_or_from_slice_get, slice_get-get_or, slice_get_within}
use Rattle.verdict.specs.Rules.{no_key}
use Rattle.verdict.specs.declared.key.Key.{Key}
use Rattle.live_index.specs.Pairs.{Pairs, with_pair}
use Rattle.live_index.specs.declared.live.Live.{Live}
use Rattle.tree_laws.specs.LivePairs.{greater_key, table_of}
use Rattle.live_maker.specs.Opened.{closes, finished, last_below, raised, with_key}
use Rattle.live_maker.specs.Closing.{left_of}
use Rattle.live_maker.proofs.Behind.{Alike, alike_more, below_closed, below_more, left_closed, left_more}
use Rattle.live_maker.proofs.Greater.{greater_swap, none_greater}

-- the end of a list is the first of it turned around
turned_push : (xs : List Live) (x : Live) → reverse (xs ++ x ∷ []) ≡ x ∷ reverse xs
turned_push xs x = reverse-append xs (x ∷ [])

pub top_is : (items : List Live) (one : Live) → slice_get items (length items - 1) ≡ Some one → reverse items ≡ one ∷ reverse (take (length items - 1) items)
top_is items one is =
    let inside : length items - 1 < length items = slice_get_within items (length items - 1) one is in
    let whole : (length items - 1) + 1 ≡ length items = omega arith in
    ap reverse
    (sym (take_all (length items) items (omega arith)) ∙ ap (λ n. take n items) (sym whole)
    ∙ take_more items (length items - 1) one inside
    ∙ ap (λ x. take (length items - 1) items ++ x ∷ []) (get_or_from_slice_get items (length items - 1) one one is))
    ∙ turned_push (take (length items - 1) items) one

no_top : (items : List Live) → slice_get items (length items - 1) ≡ None → items ≡ []
no_top [] is = refl
no_top (x ∷ xs) is = absurd (let h = slice_get-get_or (x ∷ xs) (length (x ∷ xs) - 1) x (omega arith) in cc)

-- no pair behind hands its key up any more
pub record Done (live : Live) (behind : List Live) : Type 0 where
  pub below : last_below live behind ≡ no_key
  pub left : left_of live behind ≡ behind

pub done_closed : (live one : Live) (items : List Live) → slice_get items (length items - 1) ≡ Some one → closes live one ≡ true → Done live (reverse items)
done_closed live one items is here =
    let more = reverse (take (length items - 1) items) in
    subst (Done live) (sym (top_is items one is)) (record { below = below_closed live one more here; left = left_closed live one more here })

done_empty : (live : Live) → Done live []
unfolding last_below left_of
done_empty live = record { below = refl; left = refl }

pub done_none : (live : Live) (items : List Live) → slice_get items (length items - 1) ≡ None → Done live (reverse items)
done_none live items is = subst (λ l. Done live (reverse l)) (sym (no_top items is)) (done_empty live)

pub done_live : (live : Live) (behind : List Live) (last whole : Key) → Done live behind → greater_key (last_below live behind) last ≡ greater_key whole live.last
    → record live { last = last } ≡ raised whole live
done_live live behind last whole done is =
    ap (λ k. record live { last = k }) (sym (none_greater last) ∙ ap (λ k. greater_key k last) (sym done.below) ∙ is)

-- one more hands its key up
pub hand_more : (live one : Live) (items new : List Live) (last : Key) → slice_get items (length items - 1) ≡ Some one → closes live one ≡ false
    → new ≡ take (length items - 1) items
    → greater_key (last_below live (reverse new)) (greater_key one.last last) ≡ greater_key (last_below live (reverse items)) last
hand_more live one items new last is here rest =
    sym (greater_swap one.last (last_below live (reverse new)) last)
    ∙ ap (λ k. greater_key k last)
    (sym (below_more live one (reverse new) here)
    ∙ ap (last_below live) (ap (λ l. one ∷ reverse l) rest ∙ sym (top_is items one is)))

pub left_less : (live one : Live) (items new : List Live) → slice_get items (length items - 1) ≡ Some one → closes live one ≡ false
    → new ≡ take (length items - 1) items → left_of live (reverse new) ≡ left_of live (reverse items)
left_less live one items new is here rest =
    sym (left_more live one (reverse new) here) ∙ ap (left_of live) (ap (λ l. one ∷ reverse l) rest ∙ sym (top_is items one is))

-- one pair more is closed and put
pub put_closed : (live pair : Live) (behind rest : List Live) (old new : Pairs) → Alike behind rest → live ≡ raised (last_below pair behind) pair
    → old ≡ table_of (finished rest) → new ≡ with_pair old live → new ≡ table_of (finished (pair ∷ rest))
unfolding finished
put_closed live pair behind rest old new alike closed so is =
    is ∙ ap (λ pairs. with_pair pairs live) so
    ∙ ap (with_pair (table_of (finished rest))) (closed ∙ ap (λ k. raised k pair) (alike.below pair))

pub alike_pushed : (live pair : Live) (behind left pushed rest : List Live) → Alike (reverse behind) rest → live ≡ raised (last_below pair (reverse behind)) pair
    → reverse left ≡ left_of pair (reverse behind) → pushed ≡ left ++ live ∷ [] → Alike (reverse pushed) (pair ∷ rest)
alike_pushed live pair behind left pushed rest alike closed stays is =
    subst (λ l. Alike l (pair ∷ rest))
    (sym (ap reverse is ∙ turned_push left live ∙ ap (λ l. live ∷ l) stays ∙ ap (λ x. x ∷ left_of pair (reverse behind)) closed))
    (alike_more pair (reverse behind) rest alike)

pub alike_none : (items : List Live) → items ≡ [] → Alike (reverse items) []
alike_none items is = subst (λ l. Alike (reverse l) []) (sym is) (record { below = λ x. refl })

-- a key goes to the last pair
pub set_last : (items : List Live) (k : ℕ) (top : Live) (key : Key) → length items ≡ suc k → top ≡ get_or items k top → set items k (raised key top) ≡ with_key key items
set_last [] k top key long is = absurd (omega arith)
set_last (x ∷ []) zero top key long is = ap (λ l. raised key l ∷ []) is
set_last (x ∷ []) (suc k) top key long is = absurd (omega arith)
set_last (x ∷ y ∷ more) zero top key long is = absurd (omega arith)
set_last (x ∷ y ∷ more) (suc k) top key long is = ap (λ l. x ∷ l) (set_last (y ∷ more) k top key (omega arith) is)

pub item_taken : (items now : List Live) (n : ℕ) (top : Live) (key last : Key) → n ≡ length items → 0 < n → top ≡ get_or items (n - 1) top
    → last ≡ greater_key key top.last → now ≡ set items (n - 1) (record top { last = last }) → now ≡ with_key key items
item_taken items now n top key last long some is so changed =
    changed ∙ ap (λ k. set items (n - 1) (record top { last = k })) so ∙ set_last items (n - 1) top key (omega arith) is
