-- Copies by offset, and chunks of which no two copies meet.
use Rattle.std.proofs.Common.{◌≡◌, ℕ, zero, suc, ◌+◌, ◌<◌, ◌≤◌, ◌||◌, min, max, Bool, true, false, cond, List, [], ◌∷◌, length, take, get_or, refl, sym, subst, ◌∙◌, arith, nat_le, ⊎_elim, ◌⊎◌, inl, inr}
use Rattle.std.specs.Prelude.{Option, Some, None, Result, Ok, Err, OnOk}
use Rattle.std.specs.Option.{IfSome}
use Rattle.std.specs.List.{All, list_any}
use Rattle.std.proofs.lemmas.Bool.{or_from, or_parts, ltb-false, le-ltb}
use Rattle.std.proofs.lemmas.List.Elements.{All-cons, All-tail}
use Rattle.std.proofs.lemmas.List.Sorted.{All-permutation}
use Rattle.verdict.specs.declared.place.Chunk.{Chunk}
use Rattle.volume_items.specs.ChunkOrder.{put_by_start}
use Rattle.volume_items.specs.MapRules.{have_common, meets_second, meets_chunk}
use Rattle.chunk_map.specs.Order.{Has, HasCopies, IsCopyOf, IsFree, AreFree, IsClearOf, AllClear, MeetsNone, turned}
use Rattle.chunk_map.proofs.Ranks.{put_permutes}

pub common_sym : (p n q m : ℕ) → have_common p n q m ≡ false → have_common q m p n ≡ false
common_sym p n q m h = let low : min (p + n) (q + m) ≤ max p q = ltb-false _ _ h in le-ltb (max q p) (min (q + m) (p + n)) (omega arith)

none_of_second : (copies : List (ℕ × Chunk)) (at n : ℕ) (chunk : Chunk) (second : Option ℕ) → IsFree at n copies → IfSome second (λ o. Has copies (turned chunk o)) → meets_second at n second chunk.length ≡ false
none_of_second copies at n chunk None free has = refl
none_of_second copies at n chunk (Some o) free has = free (turned chunk o) has

-- no copy of these meets bytes that are free of all copies
meets_none_of : (copies : List (ℕ × Chunk)) (at n : ℕ) (chunk : Chunk) → IsFree at n copies → HasCopies copies chunk → meets_chunk at n chunk ≡ false
meets_none_of copies at n chunk free has =
    or_from _ _ (free (turned chunk chunk.first) has.first)
    (none_of_second copies at n chunk chunk.second free has.second)

clear_second : (copies : List (ℕ × Chunk)) (second : Option ℕ) (chunk other : Chunk) → IfSome second (λ at. IsFree at chunk.length copies × (have_common at chunk.length chunk.first chunk.length ≡ false)) → HasCopies copies other → IfSome second (λ at. meets_chunk at chunk.length other ≡ false)
clear_second copies None chunk other free has = tt
clear_second copies (Some at) chunk other free has = meets_none_of copies at chunk.length other free.0 has

pub new_is_clear : (copies : List (ℕ × Chunk)) (chunk other : Chunk) → AreFree copies chunk → HasCopies copies other → IsClearOf chunk other
new_is_clear copies chunk other free has = record {
  first = meets_none_of copies chunk.first chunk.length other free.first has;
  second = clear_second copies chunk.second chunk other free.second has;
}

-- the copy of another chunk meets none of the new one's
other_meets : (copies : List (ℕ × Chunk)) (at n : ℕ) (chunk : Chunk) (second : Option ℕ) (copy : Chunk) → Has copies copy → copy.start ≡ at → copy.length ≡ n → IsFree chunk.first chunk.length copies → IfSome second (λ o. IsFree o chunk.length copies × (have_common o chunk.length chunk.first chunk.length ≡ false)) → (have_common at n chunk.first chunk.length || meets_second at n second chunk.length) ≡ false
other_meets copies at n chunk None copy has s l first free =
    rw (sym s, sym l) (or_from _ _ (common_sym _ _ _ _ (first copy has)) refl)
other_meets copies at n chunk (Some o) copy has s l first free =
    rw (sym s, sym l) (or_from _ _ (common_sym _ _ _ _ (first copy has))
    (common_sym _ _ _ _ (free.0 copy has)))

other_second : (copies : List (ℕ × Chunk)) (second : Option ℕ) (chunk other : Chunk) → AreFree copies chunk → IfSome second (λ at. Has copies (turned other at)) → IfSome second (λ at. meets_chunk at other.length chunk ≡ false)
other_second copies None chunk other free has = tt
other_second copies (Some at) chunk other free has = other_meets copies at other.length chunk chunk.second (turned other at) has refl refl free.first free.second

pub old_is_clear : (copies : List (ℕ × Chunk)) (chunk other : Chunk) → AreFree copies chunk → HasCopies copies other → IsClearOf other chunk
old_is_clear copies chunk other free has = record {
  first = other_meets copies other.first other.length chunk chunk.second (turned other other.first) has.first refl refl free.first free.second;
  second = other_second copies other.second chunk other free has.second;
}

own_clear : (copies : List (ℕ × Chunk)) (chunk : Chunk) (second : Option ℕ) → IfSome second (λ at. IsFree at chunk.length copies × (have_common at chunk.length chunk.first chunk.length ≡ false)) → IfSome second (λ at. have_common at chunk.length chunk.first chunk.length ≡ false)
own_clear copies chunk None free = tt
own_clear copies chunk (Some at) free = free.1

or_before : (a b c : Bool) → a ≡ false → (b || c) ≡ false → ((a || b) || c) ≡ false
or_before a b c h m = let both = or_parts b c m in or_from _ _ (or_from _ _ h both.0) both.1

-- a chunk whose copies are free, put among the others by start
pub put_clear : (copies : List (ℕ × Chunk)) (chunk : Chunk) (sorted : List Chunk) → AreFree copies chunk → All (HasCopies copies) sorted → AllClear sorted → AllClear (put_by_start chunk sorted)
put_clear copies chunk [] free has clear = ((λ k d l. absurd (omega arith)), own_clear copies chunk chunk.second free.second, tt)
put_clear copies chunk (other ∷ others) free has clear =
    let here : HasCopies copies other = has 0 other (omega arith) in
    elim (nat_le other.start chunk.start) as (λ b. AllClear (cond b (other ∷ put_by_start chunk others) (chunk ∷ other ∷ others))) [
      | true ↦ (
        All-permutation (λ (later : Chunk). IsClearOf later other) (chunk ∷ others) (put_by_start chunk others) (put_permutes chunk others) (All-cons (λ (later : Chunk). IsClearOf later other) chunk others (new_is_clear copies chunk other free here) clear.0),
        clear.1,
        put_clear copies chunk others free (All-tail (HasCopies copies) other others has) clear.2,
      )
      | false ↦ ((λ k d l. old_is_clear copies chunk (get_or (other ∷ others) k d) free (has k d l)), own_clear copies chunk chunk.second free.second, clear)
    ]

second_before : (before : List Chunk) (x chunk : Chunk) (second : Option ℕ) → IfSome second (λ at. meets_chunk at chunk.length x ≡ false) → IfSome second (λ at. (list_any (meets_chunk at chunk.length) before || have_common at chunk.length chunk.first chunk.length) ≡ false) → IfSome second (λ at. (list_any (meets_chunk at chunk.length) (x ∷ before) || have_common at chunk.length chunk.first chunk.length) ≡ false)
second_before before x chunk None clear meets = tt
second_before before x chunk (Some at) clear meets = or_before _ _ _ clear meets

-- a chunk more in front
one_before : (before : List Chunk) (x chunk : Chunk) → IsClearOf chunk x → MeetsNone before chunk → MeetsNone (x ∷ before) chunk
one_before before x chunk clear meets = record {
  first = or_from _ _ clear.first meets.first;
  second = second_before before x chunk chunk.second clear.second meets.second;
}

own_first : (chunk : Chunk) (second : Option ℕ) → IfSome second (λ at. have_common at chunk.length chunk.first chunk.length ≡ false) → IfSome second (λ at. (list_any (meets_chunk at chunk.length) [] || have_common at chunk.length chunk.first chunk.length) ≡ false)
own_first chunk None h = tt
own_first chunk (Some at) h = h

pub clear_at : (chunks : List Chunk) (k : ℕ) (d : Chunk) → AllClear chunks → k < length chunks → MeetsNone (take k chunks) (get_or chunks k d)
clear_at [] k d clear l = absurd (omega arith)
clear_at (x ∷ xs) zero d clear l = record { first = refl; second = own_first x x.second clear.1 }
clear_at (x ∷ xs) (suc k) d clear l = one_before (take k xs) x (get_or xs k d) (clear.0 k d (omega arith)) (clear_at xs k d clear.2 (omega arith))

second_more : (copies more : List (ℕ × Chunk)) (chunk : Chunk) (second : Option ℕ) → ((copy : Chunk) → Has copies copy → Has more copy) → IfSome second (λ at. Has copies (turned chunk at)) → IfSome second (λ at. Has more (turned chunk at))
second_more copies more chunk None keeps has = tt
second_more copies more chunk (Some at) keeps has = keeps (turned chunk at) has

-- copies that hold those of a chunk, with more
pub has_more : (copies more : List (ℕ × Chunk)) (chunk : Chunk) → ((copy : Chunk) → Has copies copy → Has more copy) → HasCopies copies chunk → HasCopies more chunk
has_more copies more chunk keeps has = record {
  first = keeps (turned chunk chunk.first) has.first;
  second = second_more copies more chunk chunk.second keeps has.second;
}

pub one_source : (old new : List (ℕ × Chunk)) (chunk one : Chunk) → one ≡ turned chunk chunk.first → ((copy : Chunk) → Has new copy → Has old copy ⊎ (copy ≡ one)) → (copy : Chunk) → Has new copy → Has old copy ⊎ IsCopyOf chunk copy
one_source old new chunk one e from copy has = ⊎_elim (λ was. inl was) (λ is. inr (chunk.first, is ∙ e, inl refl)) (from copy has)

pub both_sources : (old mid new : List (ℕ × Chunk)) (chunk : Chunk) (at : ℕ) (one two : Chunk) → one ≡ turned chunk chunk.first → two ≡ turned chunk at → chunk.second ≡ Some at → ((copy : Chunk) → Has mid copy → Has old copy ⊎ (copy ≡ one)) → ((copy : Chunk) → Has new copy → Has mid copy ⊎ (copy ≡ two)) → (copy : Chunk) → Has new copy → Has old copy ⊎ IsCopyOf chunk copy
both_sources old mid new chunk at one two e f second first next copy has =
    ⊎_elim (λ was. one_source old mid chunk one e first copy was) (λ is. inr (at, is ∙ f, inr second)) (next copy has)

pub on_ok : {A E P Q : Type 0} → (r : Result A E) → (P → Q) → OnOk r P → OnOk r Q
on_ok (Ok a) f h = f h
on_ok (Err e) f h = h

pub one_there : (more : List (ℕ × Chunk)) (chunk copy : Chunk) → copy ≡ turned chunk chunk.first → chunk.second ≡ None → Has more copy → HasCopies more chunk
one_there more chunk copy e is has = record {
  first = subst (Has more) e has;
  second = subst (λ o. IfSome o (λ at. Has more (turned chunk at))) (sym is) tt;
}

pub both_there : (mid more : List (ℕ × Chunk)) (chunk : Chunk) (at : ℕ) (one two : Chunk) → one ≡ turned chunk chunk.first → two ≡ turned chunk at → chunk.second ≡ Some at → Has mid one → ((copy : Chunk) → Has mid copy → Has more copy) → Has more two → HasCopies more chunk
both_there mid more chunk at one two e f is has keeps new = record {
  first = keeps (turned chunk chunk.first) (subst (Has mid) e has);
  second = subst (λ o. IfSome o (λ at. Has more (turned chunk at))) (sym is) (subst (Has more) f new);
}

pub one_free : (old : List (ℕ × Chunk)) (chunk copy : Chunk) → copy ≡ turned chunk chunk.first → chunk.second ≡ None → IsFree copy.start copy.length old → AreFree old chunk
one_free old chunk copy e is free = record {
  first = subst (λ (c : Chunk). IsFree c.start c.length old) e free;
  second = subst (λ o. IfSome o (λ at. IsFree at chunk.length old × (have_common at chunk.length chunk.first chunk.length ≡ false))) (sym is) tt;
}

pub both_free : (old mid : List (ℕ × Chunk)) (chunk : Chunk) (at : ℕ) (one two : Chunk) → one ≡ turned chunk chunk.first → two ≡ turned chunk at → chunk.second ≡ Some at → ((copy : Chunk) → Has old copy → Has mid copy) → Has mid one → IsFree one.start one.length old → IsFree two.start two.length mid → AreFree old chunk
both_free old mid chunk at one two e f is keeps has first second =
    let all : IsFree at chunk.length mid = subst (λ (c : Chunk). IsFree c.start c.length mid) f second in
    let far : IsFree at chunk.length old = λ copy h. all copy (keeps copy h) in
    let own : have_common at chunk.length chunk.first chunk.length ≡ false = all (turned chunk chunk.first) (subst (Has mid) e has) in
    record {
      first = subst (λ (c : Chunk). IsFree c.start c.length old) e first;
      second = subst (λ o. IfSome o (λ at. IsFree at chunk.length old × (have_common at chunk.length chunk.first chunk.length ≡ false))) (sym is) (far, own);
    }
